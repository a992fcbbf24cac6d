use Rattle.std.proofs.Common.{◌≡◌, ◌++◌, drop}
use Rattle.cil_semantics.specs.Lookups.{interfaces_of}
use Rattle.look_ups.proofs.SourceLaws.{interfaces_implemented}
use Rattle.look_ups.proofs.implemented.implemented_by.Given as goal

abbrev pub invariant-loop-owner : goal.invariant-loop-owner
invariant-loop-owner l =
    l.found ++ interfaces_implemented l.program (l.ty, l.method) (drop l.owner-index (interfaces_of l.program l.ty))
    ≡ interfaces_implemented l.program (l.ty, l.method) (interfaces_of l.program l.ty)
