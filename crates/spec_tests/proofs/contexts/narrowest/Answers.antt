use Rattle.std.proofs.Common.{◌≡◌, ◌∙◌, ◌+◌, ◌||◌, sym, ap, arith, ℕ, suc, List, ◌∷◌, drop, get_or, Bool}
use Rattle.std.specs.Prelude.{map, Option, Some}
use Rattle.std.proofs.Math.Seq.{drop-cons}
use Rattle.set_rows.specs.Sets.{assembly_at}
use Rattle.set_types.specs.SignatureRules.{any, passes}
use Rattle.spec_tests.specs.SpecTests.{context_at, shared, strays_in}
use Rattle.spec_tests.proofs.StrayLaws.{narrowest_more}
use Rattle.spec_tests.proofs.contexts.narrowest.Goals as goal

pub loop-row-preserved : goal.loop-row-preserved
loop-row-preserved c = λ d types.
    let rows : List ℕ = c.args.rows.now in
    let k : ℕ = c.loop-row.row-index in
    let context : ℕ → ℕ × ℕ = context_at (assembly_at c.args.tables.now c.args.a) c.args.table in
    let next : suc k ≡ k + 1 = omega arith in
    let left : drop k rows ≡ get_or rows k 0 ∷ drop (k + 1) rows = drop-cons rows k 0 c.loop-row-test.true ∙ ap (λ (j : ℕ). get_or rows k 0 ∷ drop j rows) next in
    let found : c.shared-found.result ≡ shared c.loop-row.found (Some (context (get_or rows k 0))) = c.shared-found.ensures ∙ ap (λ (p : ℕ × ℕ). shared c.loop-row.found (Some p)) c.context_at-context.ensures in
    ap (λ (o : Option (ℕ × ℕ)). passes (strays_in d types) o || any (strays_in d types) (map context (drop (k + 1) rows))) found
    ∙ narrowest_more context rows (drop (k + 1) rows) (get_or rows k 0) c.loop-row.found
    (λ e tys. ap (λ (l : List ℕ). passes (strays_in e tys) c.loop-row.found || any (strays_in e tys) (map context l)) (sym left) ∙ c.loop-row.invariant e tys) d types
