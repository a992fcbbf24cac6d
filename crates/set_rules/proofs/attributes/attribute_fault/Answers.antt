use Rattle.std.proofs.Common.{◌≡◌, ◌∙◌, sym, ap, arith, ℕ, suc, ◌+◌, ◌-◌, List, length, get_or}
use Rattle.std.specs.Prelude.{Some, Option, flat_map, is_none, ◌&&◌}
use Rattle.std.specs.List.{range_with_len}
use Rattle.std.proofs.lemmas.List.FromFn.{get_or-map-range_with_len, length-map-range_with_len}
use Rattle.cil_base.specs.declared.tables.TheConstants.{CUSTOM_ATTRIBUTE}
use Rattle.cil_base.specs.declared.rule.Rule.TheVariants.{N1}
use Rattle.cil_base.specs.declared.refusal.Refusal.{Refusal}
use Rattle.cil_base.specs.Refusals.{first_of}
use Rattle.set_names.specs.Names.{Name}
use Rattle.set_rows.specs.Sets.{Assemblies, assembly_at, count_in}
use Rattle.set_program.specs.Attributes.{attribute_name, attribute_type, names_type}
use Rattle.set_program.specs.TypeRules.{type_tests}
use Rattle.set_rules.specs.TableTests.{table_tests}
use Rattle.set_rules.proofs.RowTestLaws.{goes_on, stops_at}
use Rattle.set_rules.proofs.attributes.attribute_fault.Goals as goal

pub loop-k-init : goal.loop-k-init
loop-k-init c = λ n e.
    let s : Assemblies = c.args.set.now in
    let a : ℕ = c.args.a in
    let count : ℕ = count_in (assembly_at s a) CUSTOM_ATTRIBUTE in
    let long : length c.args.names.now ≡ count = ap length c.requires.names ∙ length-map-range_with_len (attribute_name s a) 1 count in
    let same : n ≡ count = omega (arith, e, long) in
    ap (λ (m : ℕ). first_of (flat_map (type_tests s a CUSTOM_ATTRIBUTE) (range_with_len 1 m))) same

pub is_missing-requires-clause-name : goal.is_missing-requires-clause-name
is_missing-requires-clause-name c =
    let s : Assemblies = c.args.set.now in
    let a : ℕ = c.args.a in
    let k : ℕ = c.loop-k.k in
    let count : ℕ = count_in (assembly_at s a) CUSTOM_ATTRIBUTE in
    let long : length c.args.names.now ≡ count = ap length c.requires.names ∙ length-map-range_with_len (attribute_name s a) 1 count in
    c.index-names-k.is ∙ ap (λ (l : List (Option Name)). get_or l k c.index-names-k.result) c.requires.names
    ∙ get_or-map-range_with_len (attribute_name s a) 1 count k (k + 1) c.index-names-k.result (omega (arith, long, c.loop-k-test.true)) (omega arith)

pub returns-then-branch : goal.returns-then-branch
returns-then-branch c =
    let s : Assemblies = c.args.set.now in
    let a : ℕ = c.args.a in
    let k : ℕ = c.loop-k.k in
    let n : ℕ = length c.args.names.now - suc k in
    ap (λ (r : Refusal). Some r) c.refusal.ensures
    ∙ stops_at N1 a CUSTOM_ATTRIBUTE (λ row. names_type s a row && is_none (attribute_type s a row)) (first_of (table_tests s a CUSTOM_ATTRIBUTE)) (k + 1) n
    (sym c.in_ok-is_missing.ensures ∙ c.if-branch.true) (c.loop-k.invariant (suc n) (omega (arith, c.loop-k-test.true)))

pub loop-k-preserved : goal.loop-k-preserved
loop-k-preserved c = λ n e.
    let s : Assemblies = c.args.set.now in
    let a : ℕ = c.args.a in
    let k : ℕ = c.loop-k.k in
    goes_on N1 a CUSTOM_ATTRIBUTE (λ row. names_type s a row && is_none (attribute_type s a row)) (first_of (table_tests s a CUSTOM_ATTRIBUTE)) (k + 1) n
    (sym c.in_ok-is_missing.ensures ∙ c.if-branch.false) (c.loop-k.invariant (suc n) (omega (arith, e)))

pub returns : goal.returns
returns c = c.loop-k.invariant 0 (omega (arith, c.loop-k-test.false, c.loop-k.auto.k-end))
