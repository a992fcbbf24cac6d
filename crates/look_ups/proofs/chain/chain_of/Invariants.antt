use Rattle.std.proofs.Common.{◌≡◌, ◌-◌, ◌+◌, ◌++◌}
use Rattle.cil_semantics.specs.Lookups.{chain, most_bases}
use Rattle.look_ups.proofs.ChainLaws.{links}
use Rattle.look_ups.proofs.chain.chain_of.Given as goal

abbrev pub invariant-loop-k : goal.invariant-loop-k
invariant-loop-k l = l.found ++ links l.program ((most_bases l.program + 1) - l.k) l.at ≡ chain l.program l.fn.ty
