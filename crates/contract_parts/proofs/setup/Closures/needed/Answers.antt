use Rattle.std.proofs.Common.{◌≡◌, List, ◌+◌, ◌-◌, length, ap, sym, ◌∙◌}
use Rattle.std.specs.Fn.{iterate}
use Rattle.contract_parts.specs.declared.made.Made.{Made}
use Rattle.contract_parts.specs.Closures.{with_inner}
use Rattle.contract_parts.proofs.PassLaws.{iterate_less}
use Rattle.contract_parts.proofs.setup.Closures.needed.Goals as goal

pub loop-pass-preserved : goal.loop-pass-preserved
loop-pass-preserved c =
    let f = with_inner c.args.self.now in
    let n = length c.made-passes.result.now in
    let k = c.loop-pass.pass in
    let xs : List Made = c.loop-pass.all.items in
    let widened : c.in_ok-all-2.all.items ≡ f xs = c.in_ok-all-2.ensures ∙ ap f c.deref.ensures.value in
    ap (λ (ys : List Made). iterate f (n - (k + 1)) ys) widened ∙ sym (iterate_less f n k xs c.loop-pass-test.true) ∙ c.loop-pass.invariant
