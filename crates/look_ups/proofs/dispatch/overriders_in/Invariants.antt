use Rattle.std.proofs.Common.{◌≡◌, ◌++◌, ℕ, drop}
use Rattle.std.specs.Prelude.{filter, map}
use Rattle.cil_semantics.specs.Words.{any}
use Rattle.cil_semantics.specs.Dispatch.{Seen, methods_of}
use Rattle.look_ups.specs.Overriding.{overrides_either}
use Rattle.look_ups.proofs.dispatch.overriders_in.Given as goal

abbrev pub invariant-loop-method : goal.invariant-loop-method
invariant-loop-method l =
    l.more ++ filter (λ (x : Seen). any (overrides_either l.program x) l.seen) (map (λ (m : ℕ). (l.ty, m)) (drop l.method-index (methods_of l.program l.ty)))
    ≡ filter (λ (x : Seen). any (overrides_either l.program x) l.seen) (map (λ (m : ℕ). (l.ty, m)) (methods_of l.program l.ty))
