-- What a failed Requires<E> makes.
use Rattle.std.proofs.Common.{◌≡◌, Bool, false, List, ap, ◌∙◌, Some, if◌then◌else◌}
use Rattle.std.specs.Prelude.{None, option_and_then}
use Rattle.cil_model.specs.declared.ty.Ty.{Ty}
use Rattle.cil_model.specs.declared.value.Value.{Value}
use Rattle.cil_model.specs.declared.contract.ClauseKind.TheVariants as kind
use Rattle.cil_model.specs.declared.program.Program.{Program}
use Rattle.cil_semantics.specs.declared.state.Frame.{Frame}
use Rattle.cil_semantics.specs.declared.state.World.{World}
use Rattle.cil_semantics.specs.Words.{maybe}
use Rattle.cil_semantics.specs.Tokens.{nests_little}
use Rattle.cil_semantics.specs.Checks.{AddedNumbers, Failure, Sequel, fail_with, throw_exception}

-- an E that nests over 1,000 deep is made by nothing
pub deep_exception_stops : (p : Program) (g : AddedNumbers) (throwing : Bool) (x : Failure) (s : Sequel) (t : Ty) (text : Value) (fs : List Frame) (w : World) → x.exception ≡ Some t → nests_little t ≡ false
    → fail_with p g throwing x s kind.RequiresOf text fs w ≡ s.stops w
deep_exception_stops p g throwing x s t text fs w e n =
    ap (λ o. maybe (s.stops w) (λ u. throw_exception p g throwing x s u text fs w) (option_and_then (λ u. if nests_little u then Some u else None) o)) e
    ∙ ap (λ b. maybe (s.stops w) (λ u. throw_exception p g throwing x s u text fs w) (if b then Some t else None)) n
