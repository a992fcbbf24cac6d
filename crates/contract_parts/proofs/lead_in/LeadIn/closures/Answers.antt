use Rattle.std.proofs.Common.{◌≡◌, List, ◌+◌, ◌-◌, ap, sym, ◌∙◌}
use Rattle.std.specs.Fn.{iterate}
use Rattle.contract_parts.specs.declared.made.Made.{Made}
use Rattle.contract_parts.specs.Closures.{well_used}
use Rattle.contract_parts.proofs.PassLaws.{iterate_less}
use Rattle.contract_parts.proofs.lead_in.LeadIn.closures.Goals as goal

pub loop-pass-preserved : goal.loop-pass-preserved
loop-pass-preserved c =
    let f = well_used c.args.self.now in
    let n = c.len-passes.result in
    let k = c.loop-pass.pass in
    let xs : List Made = c.loop-pass.made.items in
    let narrowed : c.in_ok-made-2.made.items ≡ f xs = c.in_ok-made-2.ensures ∙ ap f c.deref.ensures.value in
    ap (λ (ys : List Made). iterate f (n - (k + 1)) ys) narrowed ∙ sym (iterate_less f n k xs c.loop-pass-test.true) ∙ c.loop-pass.invariant
