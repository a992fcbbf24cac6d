use Rattle.std.proofs.Common.{◌≡◌, ◌∙◌, sym, ap, ◌++◌, ◌+◌, ◌-◌, ℕ, suc, List, arith}
use Rattle.std.specs.Prelude.{Option, Some, option_map}
use Rattle.set_names.specs.Paths.{path_within}
use Rattle.set_program.specs.TypeRules.{outer_export}
use Rattle.set_names.proofs.PathLaws.{path_goes_on, path_ends, path_over}
use Rattle.type_table.proofs.exports.export_path.Goals as goal

pub returns-in-None : goal.returns-in-None
returns-in-None c =
    let next : ℕ → Option ℕ = outer_export c.args.part.now in
    let most : ℕ = c.count-most.result in
    let n : ℕ = most - suc c.loop-k._k in
    let e : c.loop-k._k + suc n ≡ most = omega (arith, c.loop-k-test.true) in
    ap (λ (l : List ℕ). Some l) c.in_ok-push.ensures.items
    ∙ path_ends next c.loop-k.path.items (path_within next most c.args.row) n c.loop-k.at (sym c.outer_export.ensures ∙ c.in-None.is) (c.loop-k.invariant (suc n) e)
    ∙ ap (λ (m : ℕ). path_within next m c.args.row) c.count-most.ensures

pub loop-k-preserved : goal.loop-k-preserved
loop-k-preserved c = λ n e.
    let next : ℕ → Option ℕ = outer_export c.args.part.now in
    let most : ℕ = c.count-most.result in
    let before : c.loop-k._k + suc n ≡ most = omega (arith, e) in
    ap (λ (l : List ℕ). option_map (λ rest. l ++ rest) (path_within next n c.in-Some.outer)) c.in_ok-push.ensures.items
    ∙ path_goes_on next c.loop-k.path.items (path_within next most c.args.row) n c.loop-k.at c.in-Some.outer (sym c.outer_export.ensures ∙ c.in-Some.is) (c.loop-k.invariant (suc n) before)

pub returns : goal.returns
returns c =
    let next : ℕ → Option ℕ = outer_export c.args.part.now in
    let most : ℕ = c.count-most.result in
    let e : c.loop-k._k + 0 ≡ most = omega (arith, c.loop-k-test.false, c.loop-k.auto._k-end) in
    path_over next c.loop-k.path.items (path_within next most c.args.row) c.loop-k.at (c.loop-k.invariant 0 e)
    ∙ ap (λ (m : ℕ). path_within next m c.args.row) c.count-most.ensures
