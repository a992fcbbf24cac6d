-- Instructions on fields of objects and structs, and on statics, leave references to objects that are there.
use Rattle.std.proofs.Common.{ℕ, Bool, true, false, List, [], ◌∷◌, Option, Some, None}
use Rattle.std.specs.Prelude.{option_and_then, slice_get, if◌then◌else◌}
use Rattle.cil_model.specs.declared.ty.Ty.{Ty, out-Ty}
use Rattle.cil_model.specs.declared.value.Value.{Value, out-Value, Ptr}
use Rattle.cil_model.specs.declared.value.Value as val
use Rattle.cil_model.specs.declared.value.Pointer.{Pointer}
use Rattle.cil_model.specs.declared.value.Pointer.TheVariants.{Inside, Static}
use Rattle.cil_model.specs.declared.program.Program.{Program}
use Rattle.cil_model.specs.declared.program.Meaning.{Meaning}
use Rattle.cil_model.specs.declared.program.Meaning.TheVariants.{OfField}
use Rattle.cil_semantics.specs.Words.{maybe}
use Rattle.cil_semantics.specs.Lookups.{field_of, in_set}
use Rattle.cil_semantics.specs.Places.{Anything, field_place, fields_in}
use Rattle.cil_semantics.specs.declared.state.World.{World}
use Rattle.cil_semantics.specs.declared.state.Access.TheVariants.{Read, Write, PointTo}
use Rattle.cil_semantics.specs.Acts.{Act, Stuck, Load, Store, UseStatic, on_top, if_some, goes_with, extended, field_of_object, on_field, field_of_value, load_field, point_to_field, store_field, on_static}
use Rattle.cil_semantics.specs.declared.state.Local.{Local as LocalState}
use Rattle.object_validity.specs.Known.{KnownValue, KnownValues, KnownLocal, KnownAct}
use Rattle.object_validity.proofs.StoredLaws.{fields_fine, get_fine}
use Rattle.object_validity.proofs.GrowthLaws.{restacked}
use Rattle.object_validity.proofs.OperandLaws as operand
use Rattle.object_validity.proofs.PlaceActLaws as place

module _ (p : Program) (b : ℕ) (l : LocalState) (known : KnownLocal b l) where
  abbrev Fine : Act → Type 0
  Fine a = KnownAct b a

  pushes : (v : Value) (s : List Value) → KnownValue b v → KnownValues b s → Fine (goes_with l v s)
  pushes = place.pushes_fine p b l known

  -- behind a reference, or a pointer to a struct
  on_field_fine : (w : World) (owner : Ty) (d : ℕ) (v : Value) (go : Pointer → Act) (other : Act) → KnownValue b v → ((q : Pointer) → Fine (go q)) → Fine other → Fine (on_field p w owner d (out-Value v) go other)
  unfolding val.out-Value denote.Hole.Carrier.out
  on_field_fine w owner d val.Null go other fv h ho = tt
  on_field_fine w owner d (val.Obj j) go other fv h ho = operand.some_fine b (field_of_object p w j d) (λ i. go (Inside j (i ∷ []))) (λ i e. h (Inside j (i ∷ [])))
  on_field_fine w owner d (val.Ptr q) go other fv h ho = operand.some_fine b (field_place p owner d) (λ i. go (extended i q)) (λ i e. h (extended i q))
  on_field_fine w owner d _ go other fv h ho = ho

  field_of_value_fine : (owner : Ty) (d : ℕ) (v : Value) (rest : List Value) → KnownValue b v → KnownValues b rest → Fine (field_of_value p owner d v l rest)
  field_of_value_fine owner d v rest fv fr = by_place (field_place p owner d)
    where
      by_place : (o : Option ℕ) → Fine (if_some (option_and_then (slice_get (fields_in (out-Value v))) o) (λ x. goes_with l x rest))
      by_place None = tt
      by_place (Some i) =
          operand.some_fine b (slice_get (fields_in (out-Value v)) i) (λ x. goes_with l x rest) (λ x e. pushes x rest (get_fine b (fields_in (out-Value v)) i x (fields_fine b v fv) e) fr)

  pub fields_load : (m : Option Meaning) (w : World) → Fine (load_field p m w l)
  fields_load None w = tt
  fields_load (Some (OfField owner d)) w =
      operand.top_fine b l.stack (λ v rest. on_field p w owner d (out-Value v) (λ q. Load q Anything (record l { stack = rest })) (field_of_value p owner d v l rest)) known.stack
      (λ v rest fv fr. on_field_fine w owner d v (λ q. Load q Anything (record l { stack = rest })) (field_of_value p owner d v l rest) fv (λ q. restacked b l rest known fr) (field_of_value_fine owner d v rest fv fr))
  fields_load (Some _) w = tt

  pub fields_point : (m : Option Meaning) (w : World) → Fine (point_to_field p m w l)
  fields_point None w = tt
  fields_point (Some (OfField owner d)) w =
      operand.top_fine b l.stack (λ v rest. on_field p w owner d (out-Value v) (λ q. goes_with l (Ptr q) rest) Stuck) known.stack
      (λ v rest fv fr. on_field_fine w owner d v (λ q. goes_with l (Ptr q) rest) Stuck fv (λ q. pushes (Ptr q) rest tt fr) tt)
  fields_point (Some _) w = tt

  pub fields_store : (m : Option Meaning) (w : World) → Fine (store_field p m w l)
  fields_store None w = tt
  fields_store (Some (OfField owner d)) w =
      operand.two_fine b l.stack (λ o v rest. on_field p w owner d (out-Value o) (λ q. Store q v (record l { stack = rest })) Stuck) known.stack
      (λ o v rest fo fv fr. on_field_fine w owner d o (λ q. Store q v (record l { stack = rest })) Stuck fo (λ q. (fv, restacked b l rest known fr)) tt)
  fields_store (Some _) w = tt

  -- ---- statics

  on_static_fine : (m : Option Meaning) (go : Ty → Pointer → Act) → ((t : Ty) (q : Pointer) → Fine (go t q)) → Fine (on_static p m go)
  on_static_fine None go h = tt
  on_static_fine (Some (OfField owner d)) go h = by_kind (field_of p d).is_static (in_set (out-Ty owner))
    where
      by_kind : (b : Bool) (o : Option (ℕ × List Ty)) → Fine (if b then maybe Stuck (λ (x : ℕ × List Ty). go owner (Static owner d [])) o else Stuck)
      by_kind false o = tt
      by_kind true None = tt
      by_kind true (Some x) = h owner (Static owner d [])
  on_static_fine (Some _) go h = tt

  pub statics_load : (m : Option Meaning) → Fine (on_static p m (λ t q. UseStatic t (Read q) l))
  statics_load m = on_static_fine m (λ t q. UseStatic t (Read q) l) (λ t q. (tt, known))

  pub statics_point : (m : Option Meaning) → Fine (on_static p m (λ t q. UseStatic t (PointTo q) l))
  statics_point m = on_static_fine m (λ t q. UseStatic t (PointTo q) l) (λ t q. (tt, known))

  pub statics_store : (m : Option Meaning) (s : List Value) → KnownValues b s → Fine (on_top s (λ v rest. on_static p m (λ t q. UseStatic t (Write q v) (record l { stack = rest }))))
  statics_store m s h =
      operand.top_fine b s (λ v rest. on_static p m (λ t q. UseStatic t (Write q v) (record l { stack = rest }))) h
      (λ v rest fv fr. on_static_fine m (λ t q. UseStatic t (Write q v) (record l { stack = rest })) (λ t q. (fv, restacked b l rest known fr)))
