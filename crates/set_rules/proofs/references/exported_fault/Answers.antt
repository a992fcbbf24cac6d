use Rattle.std.proofs.Common.{◌≡◌, ◌∙◌, sym, ap, length}
use Rattle.std.proofs.lemmas.List.{get_or_default}
use Rattle.std.proofs.lemmas.List.FromFn.{length-map-range_with_len}
use Rattle.cil_base.specs.declared.tables.TheConstants.{EXPORTED_TYPE}
use Rattle.set_rows.specs.Sets.{Assembly, Assemblies, no_assembly, assembly_at, count_in}
use Rattle.set_program.specs.TypeRules.{exported}
use Rattle.set_rules.proofs.RowTestLaws.{exported_are}
use Rattle.set_rules.proofs.references.exported_fault.Goals as goal

pub unnamed_fault-requires : goal.unnamed_fault-requires
unnamed_fault-requires c =
    let s : Assemblies = c.args.set.now in
    let x : Assembly = c.index-set-a.result in
    let there : assembly_at s c.args.a ≡ x = get_or_default s c.args.a no_assembly x c.requires.there ∙ sym c.index-set-a.is in
    ap length (c.as_slice.ensures.value ∙ c.in_ok-ids.ensures)
    ∙ length-map-range_with_len (exported s c.args.a) 1 (count_in (assembly_at s c.args.a) EXPORTED_TYPE)
    ∙ ap (λ (y : Assembly). count_in y EXPORTED_TYPE) there ∙ sym c.count-count.ensures

pub returns : goal.returns
returns c =
    let s : Assemblies = c.args.set.now in
    let x : Assembly = c.index-set-a.result in
    let there : assembly_at s c.args.a ≡ x = get_or_default s c.args.a no_assembly x c.requires.there ∙ sym c.index-set-a.is in
    exported_are s c.args.a c.count-count.result c.as_slice.result.now c.unnamed_fault.result (c.as_slice.ensures.value ∙ c.in_ok-ids.ensures)
    (c.count-count.ensures ∙ ap (λ (y : Assembly). count_in y EXPORTED_TYPE) (sym there)) c.unnamed_fault.ensures
