-- What fits a type refers to objects that are there, at any depth.
use Rattle.std.proofs.Common.{◌≡◌, ℕ, zero, suc, ◌<◌, Bool, true, false, List, [], ◌∷◌, length, Option, Some, None, refl, subst, arith}
use Rattle.std.specs.Prelude.{◌&&◌, is_some, slice_get}
use Rattle.cil_model.specs.declared.ty.Ty.{Ty}
use Rattle.cil_model.specs.declared.value.Value.{Value, out-Value, Row_of-Value, end_of-Value, more_of-Value}
use Rattle.cil_model.specs.declared.value.Value as val
use Rattle.cil_model.specs.declared.value.Value.TheOpen.{Value-F}
use Rattle.cil_model.specs.declared.program.Program.{Program}
use Rattle.il_opcodes.specs.declared.class.Storage.{Storage}
use Rattle.il_opcodes.specs.declared.class.Storage.TheVariants.{Truncated, Long, NativeInt, Reference, Address, Fields, Opaque, Anything, Void}
use Rattle.cil_semantics.specs.Places.{storage, field_types}
use Rattle.cil_semantics.specs.Outside.{is_plain, are_plain, is_i4, is_i8, is_native, is_opaque_value, refers_to, all_fit, fits_fields, fits_storage, fits_within}
use Rattle.cil_semantics.specs.declared.state.World.{World}
use Rattle.cil_semantics.specs.declared.state.Object.{Object}
use Rattle.cil_semantics.specs.State.{object_at}
use Rattle.cil_semantics.specs.Words.{maybe}
use Rattle.cil_semantics.specs.Lookups.{is_sub}
use Rattle.splice_facts.specs.Exceptions.{IsObject}
use Rattle.object_validity.specs.Known.{KnownValue, AllKnown, KnownValues}
use Rattle.object_validity.proofs.StoredLaws.{whole_fine}

pub both : (a b : Bool) → (a && b) ≡ true → (a ≡ true) × (b ≡ true)
both true b e = (refl, e)
both false b e = absurd (cc e)

there_below : (w : World) (x : ℕ) (o : Object) → object_at w x ≡ Some o → IsObject (length w.heap) x
there_below w zero o e = absurd (cc e)
there_below w (suc j) o e = (omega arith, let h = found_below w.heap j o e in omega (arith, h))
  where
    found_below : (os : List Object) (i : ℕ) (y : Object) → slice_get os i ≡ Some y → i < length os
    found_below [] i y q = absurd (cc q)
    found_below (z ∷ zs) zero y q = omega arith
    found_below (z ∷ zs) (suc i) y q = let h = found_below zs i y q in omega (arith, h)

module _ (b : ℕ) (w : World) (many : length w.heap ≡ b) where
  is_there : (x : ℕ) (o : Option Object) → object_at w x ≡ o → is_some o ≡ true → IsObject b x
  is_there x None s e = absurd (cc e)
  is_there x (Some o) s e = subst (λ n. IsObject n x) many (there_below w x o s)

  sub_there : (x : ℕ) (test : Object → Bool) (o : Option Object) → object_at w x ≡ o → maybe false test o ≡ true → IsObject b x
  sub_there x test None s e = absurd (cc e)
  sub_there x test (Some o) s e = subst (λ n. IsObject n x) many (there_below w x o s)

  abbrev Fine : Value → Type 0
  Fine v = KnownValue b v

  i4_fine : (v : Value) → is_i4 (out-Value v) ≡ true → Fine v
  unfolding val.out-Value denote.Hole.Carrier.out
  i4_fine (val.I4 z) e = tt
  i4_fine _ e = absurd (cc e)

  i8_fine : (v : Value) → is_i8 (out-Value v) ≡ true → Fine v
  unfolding val.out-Value denote.Hole.Carrier.out
  i8_fine (val.I8 z) e = tt
  i8_fine _ e = absurd (cc e)

  native_fine : (v : Value) → is_native (out-Value v) ≡ true → Fine v
  unfolding val.out-Value denote.Hole.Carrier.out
  native_fine (val.Native z) e = tt
  native_fine _ e = absurd (cc e)

  opaque_fine : (v : Value) → is_opaque_value (out-Value v) ≡ true → Fine v
  unfolding val.out-Value denote.Hole.Carrier.out
  opaque_fine (val.Opaque bytes) e = tt
  opaque_fine _ e = absurd (cc e)

  reference_fine : (p : Program) (t : Ty) (v : Value) → refers_to p w t (out-Value v) ≡ true → Fine v
  unfolding val.out-Value denote.Hole.Carrier.out
  reference_fine p t val.Null e = tt
  reference_fine p t (val.Obj x) e = sub_there x (λ (o : Object). is_sub p o.ty t) (object_at w x) refl e
  reference_fine p t (val.Text units) e = tt
  reference_fine p t _ e = absurd (cc e)

  mutual
    plain_fine : (v : Value) → is_plain w v ≡ true → Fine v
    plain_fine (val.I4 z) e = tt
    plain_fine (val.I8 z) e = tt
    plain_fine (val.Native z) e = tt
    plain_fine val.Null e = tt
    plain_fine (val.Obj x) e = is_there x (object_at w x) refl e
    plain_fine (val.Text units) e = tt
    plain_fine (val.Ptr q) e = absurd (cc e)
    plain_fine (val.Struct' shape parts) e = parts_plain parts e
    plain_fine (val.Func m u) e = absurd (cc e)
    plain_fine (val.Opaque bytes) e = tt

    parts_plain : {m : _} (parts : Row_of-Value m) → are_plain w parts ≡ true → AllKnown b parts
    parts_plain end_of-Value e = tt
    parts_plain (more_of-Value v rest) e = (plain_fine v (both (is_plain w v) (are_plain w rest) e).0, parts_plain rest (both (is_plain w v) (are_plain w rest) e).1)

  pub each_fine : (test : Ty → Value → Bool) → ((t : Ty) (v : Value) → test t v ≡ true → Fine v) → (ts : List Ty) (vs : List Value) → all_fit test ts vs ≡ true → KnownValues b vs
  each_fine test h [] [] e = tt
  each_fine test h [] (v ∷ vs) e = absurd (cc e)
  each_fine test h (t ∷ ts) [] e = absurd (cc e)
  each_fine test h (t ∷ ts) (v ∷ vs) e = (h t v (both (test t v) (all_fit test ts vs) e).0, each_fine test h ts vs (both (test t v) (all_fit test ts vs) e).1)

  struct_fits : (test : Ty → Value → Bool) → ((t : Ty) (v : Value) → test t v ≡ true → Fine v) → (ts : List Ty) (v : Value) (o : Value-F Value) → out-Value v ≡ o → fits_fields test ts o ≡ true → Fine v
  struct_fits test h ts v (Value-F.Struct vs) s e = whole_fine b v vs s (each_fine test h ts vs e)
  struct_fits test h ts v _ s e = absurd (cc e)

  kind_fine : (p : Program) (test : Ty → Value → Bool) → ((t : Ty) (v : Value) → test t v ≡ true → Fine v) → (t : Ty) (v : Value) (h : Storage) → fits_storage p w test t v h ≡ true → Fine v
  kind_fine p test f t v (Truncated n s) e = i4_fine v e
  kind_fine p test f t v Long e = i8_fine v e
  kind_fine p test f t v NativeInt e = native_fine v e
  kind_fine p test f t v Reference e = reference_fine p t v e
  kind_fine p test f t v Address e = absurd (cc e)
  kind_fine p test f t v (Fields n) e = struct_fits test f (field_types p t) v (out-Value v) refl e
  kind_fine p test f t v Opaque e = opaque_fine v e
  kind_fine p test f t v Anything e = plain_fine v e
  kind_fine p test f t v Void e = absurd (cc e)

  pub fits_fine : (n : ℕ) (p : Program) (t : Ty) (v : Value) → fits_within n p w t v ≡ true → Fine v
  unfolding fits_within
  fits_fine zero p t v e = absurd (cc e)
  fits_fine (suc n) p t v e = kind_fine p (fits_within n p w) (fits_fine n p) t v (storage p t) e
