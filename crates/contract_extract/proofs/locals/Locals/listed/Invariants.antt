use Rattle.std.proofs.Common.{◌≡◌, take}
use Rattle.contract_extract.proofs.locals.Locals.listed.Given as goal

abbrev pub invariant-loop-n : goal.invariant-loop-n
invariant-loop-n l = l.out.items ≡ take l.n l.self
