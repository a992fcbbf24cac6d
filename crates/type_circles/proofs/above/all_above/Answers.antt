use Rattle.std.proofs.Common.{◌≡◌, ◌∙◌, sym, ap, List, length, refl}
use Rattle.std.specs.Prelude.{map, slice_get, Option, Some}
use Rattle.std.proofs.lemmas.Option.{slice_get_read}
use Rattle.cil_base.specs.declared.tables.TheConstants.{TYPE_DEF}
use Rattle.set_rows.specs.Sets.{rows_in}
use Rattle.members.specs.declared.assembly_members.AssemblyMembers.{AssemblyMembers}
use Rattle.member_table.specs.Environments.{rows_or, coded_or}
use Rattle.type_circles.specs.RowGraphs.{above_row, above_in}
use Rattle.type_circles.proofs.ListLaws.{list_push}
use Rattle.type_circles.proofs.above.all_above.Goals as goal

pub loop-a-preserved : goal.loop-a-preserved
loop-a-preserved c =
    let ms : List AssemblyMembers = c.args.assemblies.now in
    let m : AssemblyMembers = c.index-assemblies-a.result in
    let e : slice_get ms c.loop-a.a ≡ Some m = slice_get_read ms (length ms) c.loop-a.a m refl c.loop-a-test.true c.index-assemblies-a.is in
    list_push (above_in c.args.types.now ms) c.loop-a.a c.loop-a.all.items c.push.new.self.items c.in_ok-above_rows.field-0 c.in_ok-push.ensures.items
    (c.in_ok-above_rows.ensures ∙ ap (λ (o : Option AssemblyMembers). map (above_row c.args.types.now c.loop-a.a (rows_or o) (coded_or o)) (rows_in (rows_or o) TYPE_DEF)) (sym e))
    c.loop-a.invariant
