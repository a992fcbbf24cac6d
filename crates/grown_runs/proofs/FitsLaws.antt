-- What fits a type stays, where the heap holds objects of the input's types.
use Rattle.std.proofs.Common.{◌≡◌, ℕ, zero, suc, List, [], ◌∷◌, refl, ap, ◌∙◌}
use Rattle.std.specs.Prelude.{Bool, false, ◌&&◌, slice_get}
use Rattle.cil_model.specs.declared.ty.Ty.{Ty}
use Rattle.cil_model.specs.declared.value.Value.{Value, out-Value}
use Rattle.cil_model.specs.declared.value.Value.TheOpen.{Value-F}
use Rattle.cil_model.specs.declared.program.Program.{Program}
use Rattle.cil_semantics.specs.declared.state.Object.{Object}
use Rattle.cil_semantics.specs.declared.state.World.{World}
use Rattle.cil_semantics.specs.Words.{maybe}
use Rattle.cil_semantics.specs.Core.{string_ty}
use Rattle.cil_semantics.specs.Lookups.{is_sub}
use Rattle.cil_semantics.specs.Places.{Storage, Truncated, Long, NativeInt, Reference, Address, Fields, Opaque, Anything, Void, storage, field_types}
use Rattle.cil_semantics.specs.Outside.{all_fit, fits_within, fits_fields, fits_storage, refers_to}
use Rattle.machine_laws.specs.Answers.{Each}
use Rattle.grown_runs.specs.Grown.{IsGrownInput}
use Rattle.grown_runs.proofs.PlaceLaws.{storage_same, fields_same}

pub all_same : (f g : Ty → Value → Bool) → ((t : Ty) (v : Value) → f t v ≡ g t v) → (ts : List Ty) (vs : List Value) → all_fit f ts vs ≡ all_fit g ts vs
all_same f g h [] [] = refl
all_same f g h [] (v ∷ vs) = refl
all_same f g h (t ∷ ts) [] = refl
all_same f g h (t ∷ ts) (v ∷ vs) = ap (λ b. b && all_fit f ts vs) (h t v) ∙ ap (λ b. g t v && b) (all_same f g h ts vs)

parts_same : (f g : Ty → Value → Bool) → ((t : Ty) (v : Value) → f t v ≡ g t v) → (ts : List Ty) (o : Value-F Value) → fits_fields f ts o ≡ fits_fields g ts o
parts_same f g e ts (Value-F.Struct vs) = all_same f g e ts vs
parts_same f g e ts Value-F.Null = refl
parts_same f g e ts (Value-F.Obj k) = refl
parts_same f g e ts (Value-F.Text units) = refl
parts_same f g e ts (Value-F.I4 z) = refl
parts_same f g e ts (Value-F.I8 z) = refl
parts_same f g e ts (Value-F.Native z) = refl
parts_same f g e ts (Value-F.Ptr q) = refl
parts_same f g e ts (Value-F.Func m u) = refl
parts_same f g e ts (Value-F.Opaque bytes) = refl

-- types of which the subs stay
abbrev pub SameSubs : (p0 p : Program) → Ty → Type 0
SameSubs p0 p t = (u : Ty) → is_sub p t u ≡ is_sub p0 t u

at_heap : (p0 p : Program) (os : List Object) → Each (λ (o : Object). SameSubs p0 p o.ty) os → (k : ℕ) (t : Ty) → maybe false (λ (o : Object). is_sub p o.ty t) (slice_get os k) ≡ maybe false (λ (o : Object). is_sub p0 o.ty t) (slice_get os k)
at_heap p0 p [] h k t = refl
at_heap p0 p (o ∷ os) h zero t = h.0 t
at_heap p0 p (o ∷ os) h (suc k) t = at_heap p0 p os h.1 k t

module _ (p0 p : Program) (h : IsGrownInput p0 p) (text : SameSubs p0 p string_ty) (w : World) (held : Each (λ (o : Object). SameSubs p0 p o.ty) w.heap) where
  pub refers_same : (t : Ty) (o : Value-F Value) → refers_to p w t o ≡ refers_to p0 w t o
  refers_same t Value-F.Null = refl
  refers_same t (Value-F.Obj zero) = refl
  refers_same t (Value-F.Obj (suc k)) = at_heap p0 p w.heap held k t
  refers_same t (Value-F.Text units) = text t
  refers_same t (Value-F.I4 z) = refl
  refers_same t (Value-F.I8 z) = refl
  refers_same t (Value-F.Native z) = refl
  refers_same t (Value-F.Ptr q) = refl
  refers_same t (Value-F.Struct vs) = refl
  refers_same t (Value-F.Func m u) = refl
  refers_same t (Value-F.Opaque bytes) = refl

  pub fits_same : (n : ℕ) (t : Ty) (v : Value) → fits_within n p w t v ≡ fits_within n p0 w t v
  unfolding fits_within
  fits_same zero t v = refl
  fits_same (suc n) t v = ap (fits_storage p w (fits_within n p w) t v) (storage_same p0 p h t) ∙ by_storage (λ u x. fits_same n u x) (storage p0 t) refl
    where
      by_storage : ((u : Ty) (x : Value) → fits_within n p w u x ≡ fits_within n p0 w u x) → (s : Storage) → storage p0 t ≡ s → fits_storage p w (fits_within n p w) t v s ≡ fits_storage p0 w (fits_within n p0 w) t v s
      by_storage again (Truncated b s) e = refl
      by_storage again Long e = refl
      by_storage again NativeInt e = refl
      by_storage again Reference e = refers_same t (out-Value v)
      by_storage again Address e = refl
      by_storage again (Fields c) e =
          ap (λ (ts : List Ty). fits_fields (fits_within n p w) ts (out-Value v)) (fields_same p0 p h t c e)
          ∙ parts_same (fits_within n p w) (fits_within n p0 w) again (field_types p0 t) (out-Value v)
      by_storage again Opaque e = refl
      by_storage again Anything e = refl
      by_storage again Void e = refl
