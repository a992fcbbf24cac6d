use Rattle.std.proofs.Common.{◌≡◌, drop}
use Rattle.std.specs.Prelude.{◌&&◌, find, not}
use Rattle.cil_semantics.specs.Frames.{is_initializer}
use Rattle.cil_semantics.specs.Lookups.{method_of, type_of}
use Rattle.run_statics.proofs.initializers.initializer_among.Given as goal

abbrev pub invariant-loop-method : goal.invariant-loop-method
invariant-loop-method l =
    find (λ m. is_initializer (method_of l.program m) && not (type_of l.program (method_of l.program m).owner).reference) (drop l.method-index l.methods)
    ≡ find (λ m. is_initializer (method_of l.program m) && not (type_of l.program (method_of l.program m).owner).reference) l.methods
