-- The act of ldfld where its token names a field and a value lies on the stack.
use Rattle.std.proofs.Common.{◌≡◌, ◌∙◌, sym, ap, ℕ, List, ◌∷◌}
use Rattle.std.specs.Prelude.{Option, Some}
use Rattle.cil_model.specs.declared.ty.Ty.{Ty}
use Rattle.cil_model.specs.declared.value.Value.{Value, out-Value}
use Rattle.cil_model.specs.declared.program.Program.{Program}
use Rattle.cil_model.specs.declared.program.Meaning.{Meaning}
use Rattle.cil_model.specs.declared.program.Meaning.TheVariants.{OfField}
use Rattle.cil_semantics.specs.Acts.{Load, field_of_value, load_field, on_field, on_top}
use Rattle.cil_semantics.specs.Places.{Anything}
use Rattle.cil_semantics.specs.State.{with_stack}
use Rattle.cil_semantics.specs.declared.Local.{Local}
use Rattle.cil_semantics.specs.declared.World.{World}

pub loaded : (p : Program) (w : World) (m : Option Meaning) (owner : Ty) (f : ℕ) (l : Local) (v : Value) (rest : List Value) → m ≡ Some (OfField owner f) → l.stack ≡ v ∷ rest → on_field p w owner f (out-Value v) (λ q. Load q Anything (with_stack l rest)) (field_of_value p owner f v (with_stack l rest) rest) ≡ load_field p m w l
loaded p w m owner f l v rest e h =
    sym (ap (λ (n : Option Meaning). load_field p n w l) e
    ∙ ap (λ (s : List Value). on_top s (λ v rest. on_field p w owner f (out-Value v) (λ q. Load q Anything (with_stack l rest)) (field_of_value p owner f v l rest))) h)
