use Rattle.std.proofs.Common.{◌≡◌, ◌-◌}
use Rattle.contract_extract.specs.Exceptions.{is_exception_within}
use Rattle.contract_extract.proofs.exceptions.is_exception_within.Given as goal

abbrev pub invariant-loop-step : goal.invariant-loop-step
invariant-loop-step l = is_exception_within (l.steps - l.step) l.p l.at ≡ is_exception_within l.steps l.p l.fn.ty
