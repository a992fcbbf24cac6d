-- What a store leaves in a place, and what it begins with, stays for every type.
use Rattle.std.proofs.Common.{◌≡◌, ℕ, zero, suc, List, [], ◌∷◌, Option, refl, ap, ◌∙◌}
use Rattle.std.specs.Prelude.{map, slice_get, slice_set, Some, None, option_map, option_and_then}
use Rattle.cil_model.specs.declared.ty.Ty.{Ty}
use Rattle.cil_model.specs.declared.value.Value.{Value, out-Value}
use Rattle.cil_model.specs.declared.value.Value.TheOpen.{Value-F}
use Rattle.cil_model.specs.declared.value.Value.TheVariants as value
use Rattle.cil_model.specs.declared.program.Program.{Program}
use Rattle.cil_semantics.specs.Places.{Storage, Truncated, Long, NativeInt, Reference, Address, Fields, Opaque, Anything, Void, storage, field_types, each_stored, stored_struct, stored_by_storage, stored_within, default_by_storage, default_within, stored_in, fields_in, field_tys, write_path}
use Rattle.grown_runs.specs.Grown.{IsGrownInput}
use Rattle.grown_runs.proofs.PlaceLaws.{storage_same, fields_same}

each_same : (f g : Ty → Value → Option Value) → ((t : Ty) (v : Value) → f t v ≡ g t v) → (ts : List Ty) (vs : List Value) → each_stored f ts vs ≡ each_stored g ts vs
each_same f g h [] [] = refl
each_same f g h [] (v ∷ vs) = refl
each_same f g h (t ∷ ts) [] = refl
each_same f g h (t ∷ ts) (v ∷ vs) =
    ap (λ (o : Option Value). option_and_then (λ w. option_map (λ ws. w ∷ ws) (each_stored f ts vs)) o) (h t v)
    ∙ ap (λ (o : Option (List Value)). option_and_then (λ w. option_map (λ ws. w ∷ ws) o) (g t v)) (each_same f g h ts vs)

struct_same : (f g : Ty → Value → Option Value) → ((t : Ty) (v : Value) → f t v ≡ g t v) → (ts : List Ty) (o : Value-F Value) → stored_struct f ts o ≡ stored_struct g ts o
struct_same f g h ts (Value-F.Struct vs) = ap (option_map value.Struct) (each_same f g h ts vs)
struct_same f g h ts Value-F.Null = refl
struct_same f g h ts (Value-F.Obj k) = refl
struct_same f g h ts (Value-F.Text units) = refl
struct_same f g h ts (Value-F.I4 z) = refl
struct_same f g h ts (Value-F.I8 z) = refl
struct_same f g h ts (Value-F.Native z) = refl
struct_same f g h ts (Value-F.Ptr q) = refl
struct_same f g h ts (Value-F.Func m u) = refl
struct_same f g h ts (Value-F.Opaque bytes) = refl

module _ (p0 p : Program) (h : IsGrownInput p0 p) where
  pub stored_same : (n : ℕ) (t : Ty) (v : Value) → stored_within n p t v ≡ stored_within n p0 t v
  unfolding stored_within
  stored_same zero t v = refl
  stored_same (suc n) t v = ap (stored_by_storage (stored_within n p) (field_types p t) v) (storage_same p0 p h t) ∙ by_storage (λ u x. stored_same n u x) (storage p0 t) refl
    where
      by_storage : ((u : Ty) (x : Value) → stored_within n p u x ≡ stored_within n p0 u x) → (s : Storage) → storage p0 t ≡ s → stored_by_storage (stored_within n p) (field_types p t) v s ≡ stored_by_storage (stored_within n p0) (field_types p0 t) v s
      by_storage again (Truncated b s) e = refl
      by_storage again Long e = refl
      by_storage again NativeInt e = refl
      by_storage again Reference e = refl
      by_storage again Address e = refl
      by_storage again (Fields c) e =
          ap (λ (ts : List Ty). stored_struct (stored_within n p) ts (out-Value v)) (fields_same p0 p h t c e)
          ∙ struct_same (stored_within n p) (stored_within n p0) again (field_types p0 t) (out-Value v)
      by_storage again Opaque e = refl
      by_storage again Anything e = refl
      by_storage again Void e = refl

  firsts_same : (f g : Ty → Value) → ((t : Ty) → f t ≡ g t) → (ts : List Ty) → map f ts ≡ map g ts
  firsts_same f g e [] = refl
  firsts_same f g e (t ∷ ts) = ap (λ v. v ∷ map f ts) (e t) ∙ ap (λ (vs : List Value). g t ∷ vs) (firsts_same f g e ts)

  pub default_same : (n : ℕ) (t : Ty) → default_within n p t ≡ default_within n p0 t
  unfolding default_within
  default_same zero t = refl
  default_same (suc n) t = ap (default_by_storage (default_within n p) (field_types p t)) (storage_same p0 p h t) ∙ by_storage (λ u. default_same n u) (storage p0 t) refl
    where
      by_storage : ((u : Ty) → default_within n p u ≡ default_within n p0 u) → (s : Storage) → storage p0 t ≡ s → default_by_storage (default_within n p) (field_types p t) s ≡ default_by_storage (default_within n p0) (field_types p0 t) s
      by_storage again (Truncated b s) e = refl
      by_storage again Long e = refl
      by_storage again NativeInt e = refl
      by_storage again Reference e = refl
      by_storage again Address e = refl
      by_storage again (Fields c) e =
          ap (λ (ts : List Ty). value.Struct (map (default_within n p) ts)) (fields_same p0 p h t c e)
          ∙ ap value.Struct (firsts_same (default_within n p) (default_within n p0) again (field_types p0 t))
      by_storage again Opaque e = refl
      by_storage again Anything e = refl
      by_storage again Void e = refl

  -- ---- where a path leads in a struct

  stored_here : (t : Ty) (v : Value) → stored_in p t v ≡ stored_in p0 t v
  stored_here t v = stored_same 1001 t v

  pub path_same : (is : List ℕ) (t : Ty) (new old : Value) → write_path p is t new old ≡ write_path p0 is t new old
  path_same [] t new old = stored_here t new
  path_same (i ∷ is) t new old =
      ap (λ (ts : List Ty). option_and_then (put p) (slice_get ts i)) (fields_seen t) ∙ go (λ u v. path_same is u new v) (slice_get (field_tys (field_types p0 t) (storage p0 t)) i)
    where
      put : Program → Ty → Option Value
      put q ft = option_and_then (λ v. option_map (λ w. value.Struct (slice_set (fields_in (out-Value old)) i w)) (write_path q is ft new v)) (slice_get (fields_in (out-Value old)) i)

      by_storage : (s : Storage) → storage p0 t ≡ s → field_tys (field_types p t) s ≡ field_tys (field_types p0 t) s
      by_storage (Fields c) e = fields_same p0 p h t c e
      by_storage (Truncated b s) e = refl
      by_storage Long e = refl
      by_storage NativeInt e = refl
      by_storage Reference e = refl
      by_storage Address e = refl
      by_storage Opaque e = refl
      by_storage Anything e = refl
      by_storage Void e = refl

      fields_seen : (u : Ty) → field_tys (field_types p t) (storage p t) ≡ field_tys (field_types p0 t) (storage p0 t)
      fields_seen u = ap (field_tys (field_types p t)) (storage_same p0 p h t) ∙ by_storage (storage p0 t) refl

      go : ((u : Ty) (v : Value) → write_path p is u new v ≡ write_path p0 is u new v) → (o : Option Ty) → option_and_then (put p) o ≡ option_and_then (put p0) o
      go again None = refl
      go again (Some ft) = inside (slice_get (fields_in (out-Value old)) i)
        where
          inside : (o : Option Value) → option_and_then (λ v. option_map (λ w. value.Struct (slice_set (fields_in (out-Value old)) i w)) (write_path p is ft new v)) o
              ≡ option_and_then (λ v. option_map (λ w. value.Struct (slice_set (fields_in (out-Value old)) i w)) (write_path p0 is ft new v)) o
          inside None = refl
          inside (Some v) = ap (option_map (λ w. value.Struct (slice_set (fields_in (out-Value old)) i w))) (again ft v)
