-- Paths, one part after another.
use Rattle.std.proofs.Common.{◌≡◌, ◌∙◌, sym, ap, refl, arith, ℕ, zero, suc, ◌+◌, ◌<◌, List, [], ◌∷◌, length, drop, get_or, add-one}
use Rattle.std.specs.Prelude.{Option, None, Some, option_and_then, option_map, slice_get, slice_set}
use Rattle.cil_model.specs.declared.ty.Ty.{Ty}
use Rattle.cil_model.specs.declared.value.Value.{Value, out-Value}
use Rattle.cil_model.specs.declared.value.Value.TheVariants as value
use Rattle.cil_model.specs.declared.program.Program.{Program}
use Rattle.cil_semantics.specs.Places.{field_types, field_tys, fields_in, read_path, storage, write_path}

-- what is left of a list from one of its places on
pub rest_from : (xs : List ℕ) (n : ℕ) → n < length xs → drop n xs ≡ get_or xs n 0 ∷ drop (n + 1) xs
rest_from xs n h = next xs n h ∙ ap (λ (k : ℕ). get_or xs n 0 ∷ drop k xs) (sym (add-one n))
  where
    next : (xs : List ℕ) (n : ℕ) → n < length xs → drop n xs ≡ get_or xs n 0 ∷ drop (suc n) xs
    next [] n h = absurd (omega arith)
    next (x ∷ xs) zero h = refl
    next (x ∷ xs) (suc n) h = next xs n (omega arith)

-- ---- reading

pub read_part : (at : ℕ) (is : List ℕ) (v w : Value) → slice_get (fields_in (out-Value v)) at ≡ Some w → read_path (at ∷ is) v ≡ read_path is w
read_part at is v w e = ap (option_and_then (read_path is)) e

pub read_nothing : (at : ℕ) (is : List ℕ) (v : Value) → slice_get (fields_in (out-Value v)) at ≡ None → read_path (at ∷ is) v ≡ None
read_nothing at is v e = ap (option_and_then (read_path is)) e

-- ---- writing

abbrev by_part : Program → ℕ → List ℕ → Value → Value → Option Ty → Option Value → Option Value
by_part p at is new old tys parts =
    option_and_then (λ ft. option_and_then (λ v. option_map (λ w. value.Struct (slice_set (fields_in (out-Value old)) at w)) (write_path p is ft new v)) parts) tys

pub no_type : (p : Program) (at : ℕ) (is : List ℕ) (t : Ty) (new old : Value) → None ≡ slice_get (field_tys (field_types p t) (storage p t)) at → None ≡ write_path p (at ∷ is) t new old
no_type p at is t new old e = ap (λ o. by_part p at is new old o (slice_get (fields_in (out-Value old)) at)) e

pub no_part : (p : Program) (at : ℕ) (is : List ℕ) (t : Ty) (new old : Value) → None ≡ slice_get (fields_in (out-Value old)) at → None ≡ write_path p (at ∷ is) t new old
no_part p at is t new old e =
    none (slice_get (field_tys (field_types p t) (storage p t)) at) ∙ ap (λ o. by_part p at is new old (slice_get (field_tys (field_types p t) (storage p t)) at) o) e
  where
    none : (o : Option Ty) → None ≡ by_part p at is new old o None
    none None = refl
    none (Some ft) = refl

-- the value in a part is written
pub written_part : (p : Program) (at : ℕ) (is : List ℕ) (t ft : Ty) (new old v : Value) (r : Option Value) → Some ft ≡ slice_get (field_tys (field_types p t) (storage p t)) at → Some v ≡ slice_get (fields_in (out-Value old)) at → r ≡ write_path p is ft new v → option_map (λ w. value.Struct (slice_set (fields_in (out-Value old)) at w)) r ≡ write_path p (at ∷ is) t new old
written_part p at is t ft new old v r e h k =
    ap (option_map (λ w. value.Struct (slice_set (fields_in (out-Value old)) at w))) k
    ∙ ap (λ o. by_part p at is new old (Some ft) o) h
    ∙ ap (λ o. by_part p at is new old o (slice_get (fields_in (out-Value old)) at)) e
