use Rattle.std.proofs.Common.{◌≡◌, ◌∙◌, sym, ap, arith, ℕ, List, length, get_or}
use Rattle.std.specs.Prelude.{Option, map}
use Rattle.std.proofs.lemmas.List.{get_or_default}
use Rattle.std.proofs.lemmas.List.FromFn.{length-map-range_with_len}
use Rattle.cil_base.specs.declared.tables.TheConstants.{TYPE_REF}
use Rattle.set_rows.specs.Sets.{Assembly, Assemblies, assembly_at, count_in, no_assembly, rows_in}
use Rattle.set_program.specs.References.{reference}
use Rattle.name_rules.proofs.assemblies.assembly_fault.Goals as goal

pub tables_fault-requires-clause-few : goal.tables_fault-requires-clause-few
tables_fault-requires-clause-few c =
    let s : Assemblies = c.args.tables.now in
    let a : ℕ = c.args.a in
    let same : c.set-set.result.now ≡ s = c.set-set.ensures in
    let there : c.index-set-a.result ≡ assembly_at s a =
    c.index-set-a.is ∙ ap (λ (t : Assemblies). get_or t a c.index-set-a.result) same ∙ sym (get_or_default s a no_assembly c.index-set-a.result c.requires.there) in
    let all : c.count-references.result ≡ count_in (assembly_at s a) TYPE_REF = c.count-references.ensures ∙ ap (λ (y : Assembly). count_in y TYPE_REF) there in
    let items : c.as_slice-2.result.now ≡ map (reference s a) (rows_in (assembly_at s a) TYPE_REF) =
    c.as_slice-2.ensures.value ∙ c.in_ok-references.ensures ∙ ap (λ (t : Assemblies). map (reference t a) (rows_in (assembly_at t a) TYPE_REF)) same in
    let long : length c.as_slice-2.result.now ≡ count_in (assembly_at s a) TYPE_REF = ap length items ∙ length-map-range_with_len (reference s a) 1 (count_in (assembly_at s a) TYPE_REF) in
    omega (arith, long, all, c.count-references.type_inv)
