-- Exceptions that a run keeps, and which numbers are exceptions.
use Rattle.std.specs.Prelude.{◌≡◌, ℕ, ◌<◌, ◌≤◌, true, List, [], ◌∷◌, Option, Some, None}
use Rattle.cil_model.specs.declared.program.Program.{Program}
use Rattle.cil_semantics.specs.Core.{object_ty}
use Rattle.cil_semantics.specs.Unwind.{fits_type}
use Rattle.cil_semantics.specs.Acts.{Act, Throw, Rethrow, EndHandler}
use Rattle.cil_semantics.specs.declared.state.World.{World}
use Rattle.cil_semantics.specs.declared.state.Statics.{Statics}
use Rattle.cil_semantics.specs.declared.state.Init.{Init}
use Rattle.cil_semantics.specs.declared.state.Init.TheVariants.{Begun, Failed}
use Rattle.cil_semantics.specs.declared.state.Cause.{Cause}
use Rattle.cil_semantics.specs.declared.state.Cause.TheVariants.{Caught, Unwinding, Leaving}
use Rattle.cil_semantics.specs.declared.state.Handling.{Handling}
use Rattle.cil_semantics.specs.declared.state.Continuation.{Continuation}
use Rattle.cil_semantics.specs.declared.state.Continuation.TheVariants.{ThrowObject}

-- An object of the heap, of a type under System.Object: a handler of System.Object takes it (ECMA-335, I.12.4.2.5).
abbrev pub IsException : Program → World → ℕ → Type 0
IsException p w x = fits_type p w x (Some object_ty) ≡ true

-- what a group looks at, if anything, is an exception
abbrev pub ExceptionIf : Program → World → Option ℕ → Type 0
ExceptionIf p w None = Unit {0}
ExceptionIf p w (Some x) = IsException p w x

-- the number of one of n objects
abbrev pub IsObject : ℕ → ℕ → Type 0
IsObject n x = (0 < x) × (x ≤ n)

abbrev pub ObjectIf : ℕ → Option ℕ → Type 0
ObjectIf n None = Unit {0}
ObjectIf n (Some x) = IsObject n x

-- a type whose initializer failed keeps its exception
abbrev pub FailureThere : ℕ → Option Init → Type 0
FailureThere n None = Unit {0}
FailureThere n (Some Begun) = Unit {0}
FailureThere n (Some (Failed x)) = IsObject n x

abbrev pub FailuresThere : ℕ → List Statics → Type 0
FailuresThere n [] = Unit {0}
FailuresThere n (s ∷ ss) = FailureThere n s.init × FailuresThere n ss

-- a handler that runs for an exception keeps it
abbrev pub CauseThere : ℕ → Cause → Type 0
CauseThere n (Caught x) = IsObject n x
CauseThere n (Unwinding x) = IsObject n x
CauseThere n (Leaving t) = Unit {0}

abbrev pub CausesThere : ℕ → List Handling → Type 0
CausesThere n [] = Unit {0}
CausesThere n (h ∷ hs) = CauseThere n h.cause × CausesThere n hs

-- what is thrown where a constructor returns
abbrev pub BackThere : ℕ → Continuation → Type 0
BackThere n (ThrowObject x) = IsObject n x
BackThere n b = Unit {0}

-- what an act throws, or a handler throws on, is an object
abbrev pub ThrowsObject : ℕ → List Handling → Act → Type 0
ThrowsObject n hs (Throw x) = IsObject n x
ThrowsObject n hs Rethrow = CausesThere n hs
ThrowsObject n hs EndHandler = CausesThere n hs
ThrowsObject n hs a = Unit {0}
