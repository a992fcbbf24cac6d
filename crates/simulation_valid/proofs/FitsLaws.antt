-- What fits a type is well formed: neither a pointer nor a function, at any depth.
use Rattle.std.proofs.Common.{◌≡◌, ℕ, zero, suc, Bool, true, false, List, [], ◌∷◌, refl}
use Rattle.std.specs.Prelude.{◌&&◌}
use Rattle.cil_model.specs.declared.ty.Ty.{Ty}
use Rattle.cil_model.specs.declared.value.Value.{Value, out-Value, Row_of-Value, end_of-Value, more_of-Value}
use Rattle.cil_model.specs.declared.value.Value as val
use Rattle.cil_model.specs.declared.value.Value.TheOpen.{Value-F}
use Rattle.cil_model.specs.declared.program.Program.{Program}
use Rattle.il_opcodes.specs.declared.class.Storage.{Storage}
use Rattle.il_opcodes.specs.declared.class.Storage.TheVariants.{Truncated, Long, NativeInt, Reference, Address, Fields, Opaque, Anything, Void}
use Rattle.cil_semantics.specs.Places.{storage, field_types}
use Rattle.cil_semantics.specs.Outside.{is_plain, are_plain, is_i4, is_i8, is_native, is_opaque_value, refers_to, all_fit, fits_fields, fits_storage, fits_within}
use Rattle.cil_semantics.specs.declared.state.World.{World}
use Rattle.splice_facts.specs.WellFormed.{Bounds, WellFormedValue, AllWellFormed, WellFormedValues}
use Rattle.simulation_objects.proofs.StoredLaws.{whole_fine}

pub both : (a b : Bool) → (a && b) ≡ true → (a ≡ true) × (b ≡ true)
both true b e = (refl, e)
both false b e = absurd (cc e)

module _ (b : Bounds) where
  abbrev Fine : Value → Type 0
  Fine v = WellFormedValue b v

  i4_fine : (v : Value) → is_i4 (out-Value v) ≡ true → Fine v
  unfolding val.out-Value denote.Hole.Carrier.out
  i4_fine (val.I4 z) e = tt
  i4_fine _ e = absurd (cc e)

  i8_fine : (v : Value) → is_i8 (out-Value v) ≡ true → Fine v
  unfolding val.out-Value denote.Hole.Carrier.out
  i8_fine (val.I8 z) e = tt
  i8_fine _ e = absurd (cc e)

  native_fine : (v : Value) → is_native (out-Value v) ≡ true → Fine v
  unfolding val.out-Value denote.Hole.Carrier.out
  native_fine (val.Native z) e = tt
  native_fine _ e = absurd (cc e)

  opaque_fine : (v : Value) → is_opaque_value (out-Value v) ≡ true → Fine v
  unfolding val.out-Value denote.Hole.Carrier.out
  opaque_fine (val.Opaque bytes) e = tt
  opaque_fine _ e = absurd (cc e)

  reference_fine : (p : Program) (w : World) (t : Ty) (v : Value) → refers_to p w t (out-Value v) ≡ true → Fine v
  unfolding val.out-Value denote.Hole.Carrier.out
  reference_fine p w t val.Null e = tt
  reference_fine p w t (val.Obj x) e = tt
  reference_fine p w t (val.Text units) e = tt
  reference_fine p w t _ e = absurd (cc e)

  mutual
    plain_fine : (w : World) (v : Value) → is_plain w v ≡ true → Fine v
    plain_fine w (val.I4 z) e = tt
    plain_fine w (val.I8 z) e = tt
    plain_fine w (val.Native z) e = tt
    plain_fine w val.Null e = tt
    plain_fine w (val.Obj x) e = tt
    plain_fine w (val.Text units) e = tt
    plain_fine w (val.Ptr q) e = absurd (cc e)
    plain_fine w (val.Struct' shape parts) e = parts_plain w parts e
    plain_fine w (val.Func m u) e = absurd (cc e)
    plain_fine w (val.Opaque bytes) e = tt

    parts_plain : {m : _} (w : World) (parts : Row_of-Value m) → are_plain w parts ≡ true → AllWellFormed b parts
    parts_plain w end_of-Value e = tt
    parts_plain w (more_of-Value v rest) e = (plain_fine w v (both (is_plain w v) (are_plain w rest) e).0, parts_plain w rest (both (is_plain w v) (are_plain w rest) e).1)

  pub each_fine : (test : Ty → Value → Bool) → ((t : Ty) (v : Value) → test t v ≡ true → Fine v) → (ts : List Ty) (vs : List Value) → all_fit test ts vs ≡ true → WellFormedValues b vs
  each_fine test h [] [] e = tt
  each_fine test h [] (v ∷ vs) e = absurd (cc e)
  each_fine test h (t ∷ ts) [] e = absurd (cc e)
  each_fine test h (t ∷ ts) (v ∷ vs) e = (h t v (both (test t v) (all_fit test ts vs) e).0, each_fine test h ts vs (both (test t v) (all_fit test ts vs) e).1)

  struct_fits : (test : Ty → Value → Bool) → ((t : Ty) (v : Value) → test t v ≡ true → Fine v) → (ts : List Ty) (v : Value) (o : Value-F Value) → out-Value v ≡ o → fits_fields test ts o ≡ true → Fine v
  struct_fits test h ts v (Value-F.Struct vs) s e = whole_fine b v vs s (each_fine test h ts vs e)
  struct_fits test h ts v _ s e = absurd (cc e)

  kind_fine : (p : Program) (w : World) (test : Ty → Value → Bool) → ((t : Ty) (v : Value) → test t v ≡ true → Fine v) → (t : Ty) (v : Value) (h : Storage) → fits_storage p w test t v h ≡ true → Fine v
  kind_fine p w test f t v (Truncated n s) e = i4_fine v e
  kind_fine p w test f t v Long e = i8_fine v e
  kind_fine p w test f t v NativeInt e = native_fine v e
  kind_fine p w test f t v Reference e = reference_fine p w t v e
  kind_fine p w test f t v Address e = absurd (cc e)
  kind_fine p w test f t v (Fields n) e = struct_fits test f (field_types p t) v (out-Value v) refl e
  kind_fine p w test f t v Opaque e = opaque_fine v e
  kind_fine p w test f t v Anything e = plain_fine w v e
  kind_fine p w test f t v Void e = absurd (cc e)

  pub fits_fine : (n : ℕ) (p : Program) (w : World) (t : Ty) (v : Value) → fits_within n p w t v ≡ true → Fine v
  unfolding fits_within
  fits_fine zero p w t v e = absurd (cc e)
  fits_fine (suc n) p w t v e = kind_fine p w (fits_within n p w) (fits_fine n p w) t v (storage p t) e

  pub fits_no_void : (n : ℕ) (p : Program) (w : World) (t : Ty) (v : Value) → fits_within n p w t v ≡ true → Rattle.cil_semantics.specs.Places.is_void (storage p t) ≡ false
  unfolding fits_within
  fits_no_void zero p w t v e = absurd (cc e)
  fits_no_void (suc n) p w t v e = by_kind (storage p t) e
    where
      by_kind : (h : Storage) → fits_storage p w (fits_within n p w) t v h ≡ true → Rattle.cil_semantics.specs.Places.is_void h ≡ false
      by_kind (Truncated i s) q = refl
      by_kind Long q = refl
      by_kind NativeInt q = refl
      by_kind Reference q = refl
      by_kind Address q = refl
      by_kind (Fields i) q = refl
      by_kind Opaque q = refl
      by_kind Anything q = refl
      by_kind Void q = absurd (cc q)
