use Rattle.std.proofs.Common.{◌≡◌, ◌∙◌, sym, ap}
use Rattle.std.specs.Prelude.{Some, None}
use Rattle.std.specs.Option.{option_copied}
use Rattle.std.proofs.lemmas.List.{get_or_default}
use Rattle.set_rows.specs.Sets.{Assembly, no_assembly, assembly_at}
use Rattle.type_table.proofs.AttributeLaws.{own_coded, other_coded}
use Rattle.type_table.proofs.attributes.coded_name.Goals as goal

pub returns-in-0 : goal.returns-in-0
returns-in-0 c =
    let x : Assembly = c.index-set-a.result in
    let there : assembly_at c.args.set.now c.args.a ≡ x = get_or_default c.args.set.now c.args.a no_assembly x c.requires.there ∙ sym c.index-set-a.is in
    own_coded c.args.set.now c.args.a c.args.coded x (option_copied c.full_name.result) there c.full_name.ensures c.in-0.is

pub returns-in-Some : goal.returns-in-Some
returns-in-Some c =
    c.id_name.ensures
    ∙ other_coded c.args.set.now c.args.a c.args.coded c.args.references.now (Some c.in-Some.id.now) c.requires.references c.in-1.is (sym c.reference_in.ensures ∙ ap option_copied c.in-Some.is)

pub returns-in-None : goal.returns-in-None
returns-in-None c =
    other_coded c.args.set.now c.args.a c.args.coded c.args.references.now None c.requires.references c.in-1.is (sym c.reference_in.ensures ∙ ap option_copied c.in-None.is)
