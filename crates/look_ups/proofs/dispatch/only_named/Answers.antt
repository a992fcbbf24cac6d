use Rattle.std.proofs.Common.{◌∙◌, ap, List, ℕ}
use Rattle.std.specs.Prelude.{◌==◌, filter}
use Rattle.cil_semantics.specs.Words.{any, only}
use Rattle.cil_semantics.specs.Dispatch.{Seen, by_rows}
use Rattle.look_ups.proofs.OverrideLaws.{answered}
use Rattle.look_ups.proofs.dispatch.only_named.Goals as goal

pub returns : goal.returns
returns c =
    answered c.only_one.result (only c.as_slice-3.result.now) (only (filter (λ (z : Seen). any (λ (m : ℕ). m == z.1) (by_rows c.args.program.now c.args.ty.now c.args.slot.now)) c.args.seen.now))
    (ap only (c.as_slice-3.ensures ∙ c.in_ok-named.ensures ∙ ap (λ (ns : List ℕ). filter (λ (z : Seen). any (λ (m : ℕ). m == z.1) ns) c.args.seen.now) (c.as_slice-2.ensures ∙ c.in_ok-numbers.ensures)))
    c.only_one.ensures
