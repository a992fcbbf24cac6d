use Rattle.std.proofs.Common.{◌≡◌, [], drop}
use Rattle.cil_semantics.specs.Dispatch.{owner_among}
use Rattle.cil_semantics.specs.Lookups.{args_of}
use Rattle.cil_semantics.specs.Words.{maybe}
use Rattle.look_ups.proofs.chain.owner_args.Given as goal

abbrev pub invariant-loop-ty : goal.invariant-loop-ty
invariant-loop-ty l = maybe [] args_of (owner_among l.program l.method (drop l.ty-index l.chain)) ≡ maybe [] args_of (owner_among l.program l.method l.chain)
