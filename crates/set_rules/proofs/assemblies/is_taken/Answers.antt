use Rattle.std.proofs.Common.{◌≡◌, ◌∙◌, sym, ap, arith, ℕ, suc, ◌-◌, List}
use Rattle.std.specs.Prelude.{bytes_eq}
use Rattle.std.proofs.lemmas.List.{get_or_default}
use Rattle.set_rows.specs.Sets.{Assemblies, no_assembly, assembly_at, assembly_name}
use Rattle.set_program.specs.TypeRules.{assembly_is_taken}
use Rattle.set_rules.proofs.RowTestLaws.{first_any, next_any, name_at}
use Rattle.set_rules.proofs.assemblies.is_taken.Goals as goal

pub returns-then-eq : goal.returns-then-eq
returns-then-eq c =
    let s : Assemblies = c.args.set.now in
    let a : ℕ = c.args.a in
    let b : ℕ = c.loop-b.b in
    let n : ℕ = a - suc b in
    let own : assembly_name (assembly_at s a) ≡ c.text-name.result.now = name_at s a c.index-set-a.result c.text-name.result.now (get_or_default s a no_assembly c.index-set-a.result c.requires ∙ sym c.index-set-a.is) c.text-name.ensures in
    let other : assembly_name (assembly_at s b) ≡ c.text.result.now = name_at s b c.index-set-b.result c.text.result.now (get_or_default s b no_assembly c.index-set-b.result (omega (arith, c.loop-b-test.true, c.requires)) ∙ sym c.index-set-b.is) c.text.ensures in
    first_any (λ k. bytes_eq (assembly_name (assembly_at s k)) (assembly_name (assembly_at s a))) b n (assembly_is_taken s a)
    (ap (λ (m : List ℕ). bytes_eq m (assembly_name (assembly_at s a))) other ∙ ap (bytes_eq c.text.result.now) own ∙ sym c.eq.ensures ∙ c.if-eq.true)
    (c.loop-b.invariant (suc n) (omega (arith, c.loop-b-test.true)))

pub loop-b-preserved : goal.loop-b-preserved
loop-b-preserved c = λ n e.
    let s : Assemblies = c.args.set.now in
    let a : ℕ = c.args.a in
    let b : ℕ = c.loop-b.b in
    let own : assembly_name (assembly_at s a) ≡ c.text-name.result.now = name_at s a c.index-set-a.result c.text-name.result.now (get_or_default s a no_assembly c.index-set-a.result c.requires ∙ sym c.index-set-a.is) c.text-name.ensures in
    let other : assembly_name (assembly_at s b) ≡ c.text.result.now = name_at s b c.index-set-b.result c.text.result.now (get_or_default s b no_assembly c.index-set-b.result (omega (arith, c.loop-b-test.true, c.requires)) ∙ sym c.index-set-b.is) c.text.ensures in
    next_any (λ k. bytes_eq (assembly_name (assembly_at s k)) (assembly_name (assembly_at s a))) b n (assembly_is_taken s a)
    (ap (λ (m : List ℕ). bytes_eq m (assembly_name (assembly_at s a))) other ∙ ap (bytes_eq c.text.result.now) own ∙ sym c.eq.ensures ∙ c.if-eq.false)
    (c.loop-b.invariant (suc n) (omega (arith, e)))

pub returns : goal.returns
returns c = c.loop-b.invariant 0 (omega (arith, c.loop-b-test.false, c.loop-b.auto.b-end))
