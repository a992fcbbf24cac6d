-- Pointers among the arguments of a call lead to places that are there, as the values that are passed do.
use Rattle.std.proofs.Common.{◌≡◌, ℕ, suc, List, [], ◌∷◌, Option, Some, None, refl, sym, ap, ◌∙◌, subst}
use Rattle.std.specs.Prelude.{option_map, option_and_then}
use Rattle.cil_model.specs.declared.ty.Ty.{Ty, out-Ty}
use Rattle.cil_model.specs.declared.ty.Ty.TheOpen.{Ty-F}
use Rattle.cil_model.specs.declared.value.Value.{Value, out-Value}
use Rattle.cil_model.specs.declared.value.Value as val
use Rattle.cil_model.specs.declared.value.Value.TheOpen.{Value-F}
use Rattle.cil_model.specs.declared.value.Pointer.{Pointer}
use Rattle.cil_model.specs.declared.contract.Contracts.{Contracts}
use Rattle.cil_model.specs.declared.program.Program.{Program}
use Rattle.cil_model.specs.declared.program.MethodDesc.{MethodDesc}
use Rattle.cil_semantics.specs.Words.{maybe}
use Rattle.il_opcodes.specs.declared.class.Storage.TheVariants.{Address}
use Rattle.cil_semantics.specs.declared.state.Cell.{Cell}
use Rattle.cil_semantics.specs.Places.{storage, storage_at, if_address, stored_within, stored_by_storage, stored_in, field_types, new_cell}
use Rattle.cil_semantics.specs.Frames.{stored_args}
use Rattle.cil_semantics.specs.Outside.{referred_type, pointer_in, by_ref_args}
use Rattle.cil_semantics.specs.Checks.{AddedNumbers}
use Rattle.splice_facts.specs.WellFormed.{WellFormedPointer, WellFormedValue, WellFormedValues}
use Rattle.splice_facts.specs.Related.{Rewritten, bounds}
use Rattle.simulation_steps.specs.Outside.{WellFormedRefs, values_of}

same_address : (o : Value-F Value) (v x : Value) → if_address o v ≡ Some x → v ≡ x
same_address (Value-F.Ptr q) v x e = cc e
same_address Value-F.Null v x e = cc e
same_address _ v x e = absurd (cc e)

module _ (p : Program) where
  is_address : (x : Ty-F Ty) (u : Ty) → referred_type x ≡ Some u → storage_at p x ≡ Address
  is_address (Ty-F.ByRef t) u e = refl
  is_address _ u e = absurd (cc e)

  address_of : (t u : Ty) → referred_type (out-Ty t) ≡ Some u → storage p t ≡ Address
  unfolding storage
  address_of t u e = is_address (out-Ty t) u e

  passed_as_is : (n : ℕ) (t : Ty) (v x : Value) → storage p t ≡ Address → stored_within (suc n) p t v ≡ Some x → v ≡ x
  unfolding stored_within
  passed_as_is n t v x a e = same_address (out-Value v) v x (ap (λ h. stored_by_storage (stored_within n p) (field_types p t) v h) (sym a) ∙ e)

  abbrev cell_with : Ty → Value → Cell
  cell_with t v = record { ty = t; value = v }

  cell_of : (t : Ty) (v : Value) (c : Cell) (o : Option Value) → stored_in p t v ≡ o → option_map (λ x. cell_with t x) o ≡ Some c → stored_in p t v ≡ Some c.value
  cell_of t v c None s e = absurd (cc e)
  cell_of t v c (Some x) s e = let q : cell_with t x ≡ c = cc e in s ∙ ap (λ (y : Cell). Some y.value) q

  passed_by_ref : (t u : Ty) (v : Value) (c : Cell) → referred_type (out-Ty t) ≡ Some u → new_cell p t v ≡ Some c → v ≡ c.value
  passed_by_ref t u v c r e = passed_as_is 1000 t v c.value (address_of t u r) (cell_of t v c (stored_in p t v) refl e)

module _ (p : Program) (k : Contracts) (ms : List MethodDesc) (g : AddedNumbers) (r : Rewritten p k ms g) where
  pub pointer_there : (v : Value) (q : Pointer) → WellFormedValue (bounds p k ms g r) v → pointer_in (out-Value v) ≡ Some q → WellFormedPointer (bounds p k ms g r) q
  unfolding Rattle.cil_model.specs.declared.value.Value.out-Value denote.Hole.Carrier.out
  pointer_there (val.Ptr q0) q fine e = let z : q0 ≡ q = cc e in subst (WellFormedPointer (bounds p k ms g r)) z fine
  pointer_there _ q fine e = absurd (cc e)

  pub refs_there : (params : List Ty) (values : List Value) → WellFormedValues (bounds p k ms g r) values → (cells : List Cell) → stored_args p params values ≡ Some cells → WellFormedRefs p k ms g r (by_ref_args params (values_of cells))
  refs_there [] [] fine cells e = tt
  refs_there [] (v ∷ vs) fine cells e = absurd (cc e)
  refs_there (t ∷ ts) [] fine cells e = absurd (cc e)
  refs_there (t ∷ ts) (v ∷ vs) fine cells e = by_cells (λ cs es. refs_there ts vs fine.1 cs es) (new_cell p t v) (stored_args p ts vs) refl refl e
    where
      by_type : (c : Cell) (cs : List Cell) (o : Option Ty) → referred_type (out-Ty t) ≡ o → new_cell p t v ≡ Some c → WellFormedRefs p k ms g r (by_ref_args ts (values_of cs)) → WellFormedRefs p k ms g r (maybe (by_ref_args ts (values_of cs)) (λ u. (u, c.value) ∷ by_ref_args ts (values_of cs)) o)
      by_type c cs None q ec rest = rest
      by_type c cs (Some u) q ec rest = (λ x h. pointer_there c.value x (subst (WellFormedValue (bounds p k ms g r)) (passed_by_ref p t u v c q ec) fine.0) h, rest)

      by_cells : ((cs : List Cell) → stored_args p ts vs ≡ Some cs → WellFormedRefs p k ms g r (by_ref_args ts (values_of cs))) → (o : Option Cell) (os : Option (List Cell)) → new_cell p t v ≡ o → stored_args p ts vs ≡ os → option_and_then (λ c. option_map (λ cs. c ∷ cs) os) o ≡ Some cells → WellFormedRefs p k ms g r (by_ref_args (t ∷ ts) (values_of cells))
      by_cells more None os ec es h = absurd (cc h)
      by_cells more (Some c) None ec es h = absurd (cc h)
      by_cells more (Some c) (Some cs) ec es h =
          let q : (c ∷ cs) ≡ cells = cc h in
          subst (λ xs. WellFormedRefs p k ms g r (by_ref_args (t ∷ ts) (values_of xs))) q (by_type c cs (referred_type (out-Ty t)) refl ec (more cs es))
