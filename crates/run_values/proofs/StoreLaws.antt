-- Stores in structs, one level and one field after another.
use Rattle.std.proofs.Common.{◌≡◌, ◌∙◌, ap, arith, refl, sym, ℕ, zero, suc, ◌-◌, List, [], ◌∷◌, ◌++◌, length, append_assoc}
use Rattle.std.specs.Prelude.{Option, None, Some, option_map, option_and_then}
use Rattle.cil_model.specs.declared.ty.Ty.{Ty}
use Rattle.cil_model.specs.declared.value.Value.{Value}
use Rattle.cil_model.specs.declared.program.Program.{Program}
use Rattle.cil_semantics.specs.Places.{each_stored, field_types, storage, stored_by_storage, stored_within}

pub store_step : (p : Program) (depth : ℕ) (t : Ty) (v : Value) → (depth ≡ 0 → ⊥) → stored_by_storage (stored_within (depth - 1) p) (field_types p t) v (storage p t) ≡ stored_within depth p t v
unfolding stored_within
store_step p zero t v h = absurd (h refl)
store_step p (suc n) t v h = let e : suc n - 1 ≡ n = omega arith in ap (λ (m : ℕ). stored_by_storage (stored_within m p) (field_types p t) v (storage p t)) e

pub no_store : (p : Program) (depth : ℕ) (t : Ty) (v : Value) → depth ≡ 0 → None ≡ stored_within depth p t v
unfolding stored_within
no_store p zero t v e = refl
no_store p (suc n) t v e = absurd cc

pub other_lengths : (f : Ty → Value → Option Value) (ts : List Ty) (vs : List Value) → (length ts ≡ length vs → ⊥) → None ≡ each_stored f ts vs
other_lengths f [] [] h = absurd (h refl)
other_lengths f [] (v ∷ vs) h = refl
other_lengths f (t ∷ ts) [] h = refl
other_lengths f (t ∷ ts) (v ∷ vs) h = cases (f t v) (other_lengths f ts vs (λ e. h (ap suc e)))
  where
    cases : (o : Option Value) {r : Option (List Value)} → None ≡ r → None ≡ option_and_then (λ w. option_map (λ ws. w ∷ ws) r) o
    cases None e = refl
    cases (Some w) e = ap (option_map (λ ws. w ∷ ws)) e

-- one more value is stored
pub stores_on : (f : Ty → Value → Option Value) (t : Ty) (v w : Value) (ts : List Ty) (vs before : List Value) → f t v ≡ Some w → option_map (λ ws. before ++ ws) (each_stored f (t ∷ ts) (v ∷ vs)) ≡ option_map (λ ws. (before ++ w ∷ []) ++ ws) (each_stored f ts vs)
stores_on f t v w ts vs before e = ap (λ o. option_map (λ ws. before ++ ws) (option_and_then (λ x. option_map (λ ws. x ∷ ws) (each_stored f ts vs)) o)) e ∙ cases (each_stored f ts vs)
  where
    cases : (o : Option (List Value)) → option_map (λ ws. before ++ ws) (option_map (λ ws. w ∷ ws) o) ≡ option_map (λ ws. (before ++ w ∷ []) ++ ws) o
    cases None = refl
    cases (Some ws) = ap Some (sym (append_assoc before (w ∷ []) ws))

-- a value isn't stored
pub stores_none : (f : Ty → Value → Option Value) (t : Ty) (v : Value) (ts : List Ty) (vs before : List Value) → None ≡ f t v → None ≡ option_map (λ ws. before ++ ws) (each_stored f (t ∷ ts) (v ∷ vs))
stores_none f t v ts vs before e = ap (λ o. option_map (λ ws. before ++ ws) (option_and_then (λ x. option_map (λ ws. x ∷ ws) (each_stored f ts vs)) o)) e
