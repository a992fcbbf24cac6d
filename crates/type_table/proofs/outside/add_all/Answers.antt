use Rattle.std.proofs.Common.{◌∙◌, ap, ◌++◌, List}
use Rattle.std.specs.Prelude.{flat_map}
use Rattle.set_names.specs.Names.{Name}
use Rattle.set_names.specs.Distinct.{distinct}
use Rattle.set_rows.specs.Sets.{Assemblies}
use Rattle.set_program.specs.Numbering.{fixed_names, names_outside, order}
use Rattle.set_program.specs.Attributes.{attribute_outside}
use Rattle.type_table.proofs.OutsideLaws.{last_added, three_added}
use Rattle.type_table.proofs.outside.add_all.Goals as goal

pub returns : goal.returns
returns c =
    let s : Assemblies = c.args.set.now in
    let referred : List Name = flat_map (names_outside s) (order s) in
    last_added c.add_all_references.result c.add_all_attributes.new.names c.add_all_references.new.names referred
    (distinct c.args.names.now (fixed_names ++ (attribute_outside s ++ referred))) c.add_all_references.ensures
    (ap (λ (l : List Name). distinct l referred) (c.in_ok-add_all_attributes.ensures ∙ ap (λ (l : List Name). distinct l (attribute_outside s)) c.in_ok-add_fixed.ensures)
    ∙ three_added c.args.names.now fixed_names (attribute_outside s) referred)
