use Rattle.std.proofs.Common.{◌≡◌, ◌∙◌, sym, ap, ◌-◌, ◌<◌, ℕ, suc, List, length, arith, Bool}
use Rattle.std.specs.Prelude.{bytes_eq}
use Rattle.set_rows.specs.Sets.{Assembly, no_assembly, assembly_at, assembly_named, assembly_name}
use Rattle.set_program.proofs.ListLaws.{find_on, find_hit, any_default}
use Rattle.set_program.proofs.references.assembly_named.Goals as goal

pub returns-then-eq : goal.returns-then-eq
returns-then-eq c =
    let set : List Assembly = c.args.set.now in
    let test : ℕ → Bool = λ a. bytes_eq c.args.name.now (assembly_name (assembly_at set a)) in
    let below : c.loop-a.a < length set = c.loop-a-test.true in
    let there : assembly_at set c.loop-a.a ≡ c.index-set-a.result = any_default set c.loop-a.a no_assembly c.index-set-a.result below ∙ sym c.index-set-a.is in
    let e : test c.loop-a.a ≡ c.eq.result =
    ap (λ (x : Assembly). bytes_eq c.args.name.now (assembly_name x)) there ∙ ap (λ (l : List ℕ). bytes_eq c.args.name.now l) (sym c.text.ensures) ∙ sym c.eq.ensures in
    find_hit test (assembly_named set c.args.name.now) c.loop-a.a (length set - suc c.loop-a.a) (e ∙ c.if-eq.true) (c.loop-a.invariant (suc (length set - suc c.loop-a.a)) (omega (arith, below)))

pub loop-a-preserved : goal.loop-a-preserved
loop-a-preserved c = λ n l.
    let set : List Assembly = c.args.set.now in
    let test : ℕ → Bool = λ a. bytes_eq c.args.name.now (assembly_name (assembly_at set a)) in
    let below : c.loop-a.a < length set = c.loop-a-test.true in
    let there : assembly_at set c.loop-a.a ≡ c.index-set-a.result = any_default set c.loop-a.a no_assembly c.index-set-a.result below ∙ sym c.index-set-a.is in
    let e : test c.loop-a.a ≡ c.eq.result =
    ap (λ (x : Assembly). bytes_eq c.args.name.now (assembly_name x)) there ∙ ap (λ (l : List ℕ). bytes_eq c.args.name.now l) (sym c.text.ensures) ∙ sym c.eq.ensures in
    find_on test (assembly_named set c.args.name.now) c.loop-a.a n (e ∙ c.if-eq.false) (c.loop-a.invariant (suc n) (omega (arith, l)))

pub returns : goal.returns
returns c = c.loop-a.invariant 0 (omega (arith, c.loop-a-test.false, c.loop-a.auto.a-end))
