use Rattle.std.proofs.Common.{◌≡◌, ◌-◌, length}
use Rattle.member_access.specs.Access.{names_within}
use Rattle.member_access.proofs.access.names_type.Given as goal

abbrev pub invariant-loop-step : goal.invariant-loop-step
invariant-loop-step l = names_within (length l.program.types - l.step) l.program l.reader l.at ≡ names_within (length l.program.types) l.program l.reader l.k
