use Rattle.std.proofs.Common.{◌≡◌, ℕ, drop}
use Rattle.std.specs.Prelude.{◌&&◌, find}
use Rattle.cil_semantics.specs.Lookups.{method_of}
use Rattle.cil_semantics.specs.Dispatch.{is_public, is_virtual, same_shape, methods_of}
use Rattle.look_ups.proofs.slots.public_like.Given as goal

abbrev pub invariant-loop-candidate : goal.invariant-loop-candidate
invariant-loop-candidate l =
    find (λ (m : ℕ). is_public (method_of l.program m) && (is_virtual (method_of l.program m) && same_shape l.program (l.ty, m) (l.owner, l.slot))) (drop l.candidate-index (methods_of l.program l.ty))
    ≡ find (λ (m : ℕ). is_public (method_of l.program m) && (is_virtual (method_of l.program m) && same_shape l.program (l.ty, m) (l.owner, l.slot))) (methods_of l.program l.ty)
