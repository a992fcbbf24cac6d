-- What a call is given, one value after another.
use Rattle.std.proofs.Common.{◌≡◌, ap, append_assoc, refl, suc, List, [], ◌∷◌, ◌++◌, length, Option, Some, None}
use Rattle.std.specs.Prelude.{option_map, option_and_then}
use Rattle.cil_model.specs.declared.program.Program.{Program}
use Rattle.cil_model.specs.declared.ty.Ty.{Ty}
use Rattle.cil_model.specs.declared.value.Value.{Value}
use Rattle.cil_semantics.specs.declared.Cell.{Cell}
use Rattle.cil_semantics.specs.Frames.{stored_args}
use Rattle.cil_semantics.specs.Places.{new_cell}

none_behind : (o : Option Cell) (rest : Option (List Cell)) → None ≡ rest → None ≡ option_and_then (λ (c : Cell). option_map (λ (cs : List Cell). c ∷ cs) rest) o
none_behind None rest e = refl
none_behind (Some c) rest e = ap (option_map (λ (cs : List Cell). c ∷ cs)) e

-- more or fewer values than types
pub uneven : (p : Program) (ts : List Ty) (vs : List Value) → (length ts ≡ length vs → ⊥) → None ≡ stored_args p ts vs
uneven p [] [] h = absurd (h refl)
uneven p [] (v ∷ vs) h = refl
uneven p (t ∷ ts) [] h = refl
uneven p (t ∷ ts) (v ∷ vs) h = none_behind (new_cell p t v) (stored_args p ts vs) (uneven p ts vs (λ e. h (ap suc e)))

pub whole : (o : Option (List Cell)) → option_map (λ cs. [] ++ cs) o ≡ o
whole None = refl
whole (Some cs) = refl

pub one_more : (o : Option (List Cell)) (cells : List Cell) (c : Cell) → option_map (λ cs. (cells ++ c ∷ []) ++ cs) o ≡ option_map (λ cs. cells ++ cs) (option_map (λ cs. c ∷ cs) o)
one_more None cells c = refl
one_more (Some cs) cells c = ap Some (append_assoc cells (c ∷ []) cs)
