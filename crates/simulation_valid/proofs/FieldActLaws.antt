-- Instructions on fields of objects and structs, and on statics, leave well-formed values.
use Rattle.std.proofs.Common.{ℕ, Bool, true, false, List, [], ◌∷◌, Option, Some, None, refl}
use Rattle.std.specs.Prelude.{option_and_then, slice_get, if◌then◌else◌, IsTrue}
use Rattle.cil_model.specs.declared.ty.Ty.{Ty, out-Ty}
use Rattle.cil_model.specs.declared.value.Value.{Value, out-Value, Ptr}
use Rattle.cil_model.specs.declared.value.Value as val
use Rattle.cil_model.specs.declared.value.Pointer.{Pointer}
use Rattle.cil_model.specs.declared.value.Pointer.TheVariants.{Arg, Local, Inside, Static}
use Rattle.cil_model.specs.declared.contract.Contracts.{Contracts}
use Rattle.cil_model.specs.declared.program.Program.{Program}
use Rattle.cil_model.specs.declared.program.MethodDesc.{MethodDesc}
use Rattle.cil_model.specs.declared.program.Meaning.{Meaning}
use Rattle.cil_model.specs.declared.program.Meaning.TheVariants.{OfField}
use Rattle.cil_semantics.specs.Words.{maybe}
use Rattle.cil_semantics.specs.Lookups.{field_of, in_set, args_of}
use Rattle.cil_semantics.specs.Places.{Anything, field_place, fields_in}
use Rattle.cil_semantics.specs.declared.state.World.{World}
use Rattle.cil_semantics.specs.declared.state.Access.TheVariants.{Read, Write, PointTo}
use Rattle.cil_semantics.specs.declared.state.Frame.{Frame}
use Rattle.cil_semantics.specs.Acts.{Act, Stuck, Load, Store, UseStatic, on_top, if_some, goes_with, extended, field_of_object, on_field, field_of_value, load_field, point_to_field, store_field, on_static}
use Rattle.cil_semantics.specs.Checks.{AddedNumbers}
use Rattle.machine_laws.specs.Answers.{is_below}
use Rattle.splice_facts.specs.WellFormed.{Bounds, WellFormedValue, WellFormedValues, WellFormedPointer}
use Rattle.splice_facts.specs.Related.{Rewritten, bounds}
use Rattle.simulation_objects.proofs.StoredLaws.{fields_fine, get_fine}
use Rattle.simulation_valid.specs.Keeping.{NoneVoid, ValidPlaces}
use Rattle.simulation_valid.specs.Steps.{FineAct}
use Rattle.splice_facts.specs.Related.{NamesInput}
use Rattle.simulation_valid.proofs.OperandLaws as operand
use Rattle.simulation_valid.proofs.PlaceActLaws as place
use Rattle.simulation_valid.proofs.UnwindValidLaws.{restacked}

module _ (p : Program) (k : Contracts) (ms : List MethodDesc) (g : AddedNumbers) (r : Rewritten p k ms g) (f : Frame) (fs : List Frame) (places : ValidPlaces p k ms g r f fs) where
  abbrev Bs : Bounds
  Bs = bounds p k ms g r

  abbrev Fine : Act → Type 0
  Fine a = FineAct p k ms g r f fs a

  pushes : (v : Value) (s : List Value) → WellFormedValue Bs v → WellFormedValues Bs s → Fine (goes_with f.local v s)
  pushes = place.pushes_fine p k ms g r f fs places

  extended_fine : (i : ℕ) (q : Pointer) → WellFormedPointer Bs q → WellFormedPointer Bs (extended i q)
  extended_fine i (Arg n m j is) h = tt
  extended_fine i (Local n m j is) h = h
  extended_fine i (Inside o is) h = tt
  extended_fine i (Static t d is) h = h

  -- behind a reference, or a pointer to a struct, the field's place is well formed
  on_field_fine : (w : World) (owner : Ty) (d : ℕ) (v : Value) (go : Pointer → Act) (other : Act) → WellFormedValue Bs v → ((q : Pointer) → WellFormedPointer Bs q → Fine (go q)) → Fine other → Fine (on_field p w owner d (out-Value v) go other)
  unfolding val.out-Value denote.Hole.Carrier.out
  on_field_fine w owner d val.Null go other fv h ho = tt
  on_field_fine w owner d (val.Obj j) go other fv h ho = operand.some_fine p k ms g r f fs (field_of_object p w j d) (λ i. go (Inside j (i ∷ []))) (λ i e. h (Inside j (i ∷ [])) tt)
  on_field_fine w owner d (val.Ptr q) go other fv h ho = operand.some_fine p k ms g r f fs (field_place p owner d) (λ i. go (extended i q)) (λ i e. h (extended i q) (extended_fine i q fv))
  on_field_fine w owner d _ go other fv h ho = ho

  field_of_value_fine : (owner : Ty) (d : ℕ) (v : Value) (rest : List Value) → WellFormedValue Bs v → WellFormedValues Bs rest → Fine (field_of_value p owner d v f.local rest)
  field_of_value_fine owner d v rest fv fr = by_place (field_place p owner d)
    where
      by_place : (o : Option ℕ) → Fine (if_some (option_and_then (slice_get (fields_in (out-Value v))) o) (λ x. goes_with f.local x rest))
      by_place None = tt
      by_place (Some i) =
          operand.some_fine p k ms g r f fs (slice_get (fields_in (out-Value v)) i) (λ x. goes_with f.local x rest) (λ x e. pushes x rest (get_fine Bs (fields_in (out-Value v)) i x (fields_fine Bs v fv) e) fr)

  pub fields_load : (m : Option Meaning) (w : World) → Fine (load_field p m w f.local)
  fields_load None w = tt
  fields_load (Some (OfField owner d)) w =
      operand.top_fine p k ms g r f fs f.local.stack (λ v rest. on_field p w owner d (out-Value v) (λ q. Load q Anything (record f.local { stack = rest })) (field_of_value p owner d v f.local rest)) places.fine.stack
      (λ v rest fv fr. on_field_fine w owner d v (λ q. Load q Anything (record f.local { stack = rest })) (field_of_value p owner d v f.local rest) fv (λ q fq. (restacked p k ms g r f rest fs places fr, refl, fq)) (field_of_value_fine owner d v rest fv fr))
  fields_load (Some _) w = tt

  pub fields_point : (m : Option Meaning) (w : World) → Fine (point_to_field p m w f.local)
  fields_point None w = tt
  fields_point (Some (OfField owner d)) w =
      operand.top_fine p k ms g r f fs f.local.stack (λ v rest. on_field p w owner d (out-Value v) (λ q. goes_with f.local (Ptr q) rest) Stuck) places.fine.stack
      (λ v rest fv fr. on_field_fine w owner d v (λ q. goes_with f.local (Ptr q) rest) Stuck fv (λ q fq. pushes (Ptr q) rest fq fr) tt)
  fields_point (Some _) w = tt

  pub fields_store : (m : Option Meaning) (w : World) → Fine (store_field p m w f.local)
  fields_store None w = tt
  fields_store (Some (OfField owner d)) w =
      operand.two_fine p k ms g r f fs f.local.stack (λ o v rest. on_field p w owner d (out-Value o) (λ q. Store q v (record f.local { stack = rest })) Stuck) places.fine.stack
      (λ o v rest fo fv fr. on_field_fine w owner d o (λ q. Store q v (record f.local { stack = rest })) Stuck fo (λ q fq. (restacked p k ms g r f rest fs places fr, refl, fq, fv)) tt)
  fields_store (Some _) w = tt

  -- ---- statics

  on_static_fine : (m : Option Meaning) (go : Ty → Pointer → Act) → NamesInput p r.types r.methods m → ((t : Ty) (q : Pointer) → WellFormedPointer Bs q → IsTrue (is_below r.types t) → NoneVoid p (args_of t) → Fine (go t q)) → Fine (on_static p m go)
  on_static_fine None go own h = tt
  on_static_fine (Some (OfField owner d)) go own h = by_kind (field_of p d).is_static (in_set (out-Ty owner))
    where
      by_kind : (b : Bool) (o : Option (ℕ × List Ty)) → Fine (if b then maybe Stuck (λ (x : ℕ × List Ty). go owner (Static owner d [])) o else Stuck)
      by_kind false o = tt
      by_kind true None = tt
      by_kind true (Some x) = h owner (Static owner d []) own.0 own.0 own.1
  on_static_fine (Some _) go own h = tt

  pub statics_load : (m : Option Meaning) → NamesInput p r.types r.methods m → Fine (on_static p m (λ t q. UseStatic t (Read q) f.local))
  statics_load m own = on_static_fine m (λ t q. UseStatic t (Read q) f.local) own (λ t q fq low none. (places, refl, fq, low, none))

  pub statics_point : (m : Option Meaning) → NamesInput p r.types r.methods m → Fine (on_static p m (λ t q. UseStatic t (PointTo q) f.local))
  statics_point m own = on_static_fine m (λ t q. UseStatic t (PointTo q) f.local) own (λ t q fq low none. (places, refl, fq, low, none))

  pub statics_store : (m : Option Meaning) (s : List Value) → NamesInput p r.types r.methods m → WellFormedValues Bs s → Fine (on_top s (λ v rest. on_static p m (λ t q. UseStatic t (Write q v) (record f.local { stack = rest }))))
  statics_store m s own h =
      operand.top_fine p k ms g r f fs s (λ v rest. on_static p m (λ t q. UseStatic t (Write q v) (record f.local { stack = rest }))) h
      (λ v rest fv fr. on_static_fine m (λ t q. UseStatic t (Write q v) (record f.local { stack = rest })) own (λ t q fq low none. (restacked p k ms g r f rest fs places fr, refl, (fq, fv), low, none)))
