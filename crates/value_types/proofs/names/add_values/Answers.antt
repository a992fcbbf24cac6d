use Rattle.std.proofs.Common.{◌≡◌, ◌∙◌, sym, ap}
use Rattle.std.specs.Prelude.{filter_map}
use Rattle.std.proofs.lemmas.List.{get_or_default}
use Rattle.set_names.specs.Distinct.{distinct}
use Rattle.set_rows.specs.Sets.{Assembly, Assemblies, no_assembly, assembly_at}
use Rattle.set_program.specs.Environment.{values_in}
use Rattle.type_table.specs.Names.{AreReferences}
use Rattle.type_table.proofs.OutsideLaws.{last_added}
use Rattle.value_types.specs.CodedValues.{coded_outside, coded_values}
use Rattle.value_types.proofs.CodedLaws.{values_are}
use Rattle.value_types.proofs.names.add_values.Goals as goal

pub returns : goal.returns
returns c =
    let s : Assemblies = c.args.set.now in
    let there : c.index-set-a.result ≡ assembly_at s c.args.a = c.index-set-a.is ∙ sym (get_or_default s c.args.a no_assembly c.index-set-a.result c.requires.there) in
    let refs : AreReferences s c.args.a c.as_slice.result.now = c.as_slice.ensures.value ∙ c.in_ok-references.ensures in
    last_added c.add_all_coded.result c.args.names.now c.add_all_coded.new.names (filter_map (coded_outside c.as_slice.result.now) c.as_slice-2.result.now) (distinct c.args.names.now (values_in s c.args.a)) c.add_all_coded.ensures
    (ap (distinct c.args.names.now) (ap (filter_map (coded_outside c.as_slice.result.now)) (c.as_slice-2.ensures ∙ c.in_ok-coded.ensures) ∙ ap (λ (x : Assembly). filter_map (coded_outside c.as_slice.result.now) (coded_values x)) c.rows.ensures ∙ values_are s c.args.a c.as_slice.result.now refs c.index-set-a.result there))
