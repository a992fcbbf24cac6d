use Rattle.std.proofs.Common.{◌∙◌, ap, subst, sym, List, length, ◌<◌, ◌^◌}
use Rattle.std.specs.Prelude.{map}
use Rattle.std.specs.List.{range_with_len}
use Rattle.set_rows.specs.Sets.{Assemblies, assembly_at}
use Rattle.set_program.specs.Environment.{coded_in}
use Rattle.members.specs.declared.assembly_members.AssemblyMembers.{AssemblyMembers}
use Rattle.type_circles.specs.RowGraphs.{above_row, above_in}
use Rattle.type_circles.proofs.NumberLaws.{lists_are}
use Rattle.type_circles.proofs.SetLaws.{above_all}
use Rattle.type_circles.proofs.above.above_lists.Goals as goal

pub all_above-requires : goal.all_above-requires
all_above-requires c = subst (λ (ms : List AssemblyMembers). length ms < 2 ^ 32) (sym c.as_slice.ensures.value) c.requires.few

pub returns : goal.returns
returns c =
    let s : Assemblies = c.args.types.now in
    c.in_ok-lists.ensures
    ∙ lists_are s (λ a r. above_row s a (assembly_at s a) (coded_in s a) r) c.as_slice-3.result.now
    (c.as_slice-3.ensures.value
    ∙ c.in_ok-rows.ensures
    ∙ ap (λ (ms : List AssemblyMembers). map (above_in s ms) (range_with_len 0 (length ms))) c.as_slice.ensures.value
    ∙ above_all s c.args.table.now.assemblies.items c.args.table.now.types.items c.requires.table)
    c.as_slice-2.result.now (c.as_slice-2.ensures.value ∙ c.requires.table.bases)
