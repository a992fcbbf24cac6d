-- Instructions on arguments, locals, constants and the stack leave well-formed values.
use Rattle.std.proofs.Common.{◌≡◌, ℕ, ◌<◌, List, [], ◌∷◌, Option, Some, None, refl, ◌∙◌, subst}
use Rattle.std.specs.Prelude.{option_map, option_and_then, slice_get, slice_set, ℤ}
use Rattle.std.proofs.lemmas.List.{length-set}
use Rattle.cil_model.specs.declared.value.Value.{Value, Ptr}
use Rattle.cil_model.specs.declared.value.Pointer.TheVariants.{Arg, Local}
use Rattle.cil_model.specs.declared.body.Operand.{Operand}
use Rattle.cil_model.specs.declared.body.Operand.TheVariants.{Index, Int}
use Rattle.cil_model.specs.declared.contract.Contracts.{Contracts}
use Rattle.cil_model.specs.declared.program.Program.{Program}
use Rattle.cil_model.specs.declared.program.MethodDesc.{MethodDesc}
use Rattle.cil_semantics.specs.Places.{stored_in, set_cell}
use Rattle.cil_semantics.specs.Tokens.{Here}
use Rattle.cil_semantics.specs.declared.state.Cell.{Cell}
use Rattle.cil_semantics.specs.declared.state.Frame.{Frame}
use Rattle.cil_semantics.specs.Acts.{Act, GoOn, on_top, if_some, goes_with, load_argument, load_local, store_argument, store_local, point_to_argument, point_to_local, push_int}
use Rattle.cil_semantics.specs.Checks.{AddedNumbers}
use Rattle.splice_facts.specs.WellFormed.{Bounds, WellFormedValue, WellFormedValues, WellFormedCells}
use Rattle.splice_facts.specs.Related.{Rewritten, bounds}
use Rattle.simulation_objects.proofs.StoredLaws.{cell_there}
use Rattle.simulation_valid.specs.Keeping.{ValidPlaces}
use Rattle.simulation_valid.specs.Steps.{FineAct}
use Rattle.simulation_valid.proofs.UnwindValidLaws.{restacked}
use Rattle.simulation_valid.proofs.ChangeLaws.{cells_set, kept_fine, struct_stays}

module _ (p : Program) (k : Contracts) (ms : List MethodDesc) (g : AddedNumbers) (r : Rewritten p k ms g) (f : Frame) (fs : List Frame) (places : ValidPlaces p k ms g r f fs) where
  abbrev Bs : Bounds
  Bs = bounds p k ms g r

  abbrev Fine : Act → Type 0
  Fine a = FineAct p k ms g r f fs a

  -- a value is pushed on what is left of the stack
  pub pushes_fine : (v : Value) (s : List Value) → WellFormedValue Bs v → WellFormedValues Bs s → Fine (goes_with f.local v s)
  pushes_fine v s fv fs1 = (tt, restacked p k ms g r f (v ∷ s) fs places (fv, fs1), refl)

  loads_cell : (cs : List Cell) (i : ℕ) → WellFormedCells Bs cs → Fine (if_some (slice_get cs i) (λ (c : Cell). goes_with f.local c.value f.local.stack))
  loads_cell cs i h = by_cell (slice_get cs i) refl
    where
      by_cell : (o : Option Cell) → slice_get cs i ≡ o → Fine (if_some o (λ (c : Cell). goes_with f.local c.value f.local.stack))
      by_cell None e = tt
      by_cell (Some c) e = pushes_fine c.value f.local.stack (cell_there Bs cs i c h e) places.fine.stack

  pub arguments_load : (o : Operand) → Fine (load_argument o f.local)
  arguments_load (Index i) = loads_cell f.local.args i places.fine.args
  arguments_load _ = tt

  pub locals_load : (o : Operand) → Fine (load_local o f.local)
  locals_load (Index i) = loads_cell f.local.locals i places.fine.locals
  locals_load _ = tt

  -- what a store leaves in a cell
  kept_in_cell : (v : Value) (c d : Cell) → WellFormedValue Bs v → set_cell p v c ≡ Some d → WellFormedValue Bs d.value
  kept_in_cell v c d fv e = by_stored (stored_in p c.ty v) refl e
    where
      as_cell : Value → Cell
      as_cell w = record { ty = c.ty; value = w }

      by_stored : (o : Option Value) → stored_in p c.ty v ≡ o → option_map as_cell o ≡ Some d → WellFormedValue Bs d.value
      by_stored None s q = absurd (cc q)
      by_stored (Some w) s q = let z : as_cell w ≡ d = cc q in subst (λ (y : Cell). WellFormedValue Bs y.value) z (kept_fine Bs p c.ty v w fv s)

  cell_kept : (v : Value) (cs : List Cell) (i : ℕ) (d : Cell) → WellFormedValue Bs v → option_and_then (set_cell p v) (slice_get cs i) ≡ Some d → WellFormedValue Bs d.value
  cell_kept v cs i d fv e = by_cell (slice_get cs i) e
    where
      by_cell : (o : Option Cell) → option_and_then (set_cell p v) o ≡ Some d → WellFormedValue Bs d.value
      by_cell None q = absurd (cc q)
      by_cell (Some c) q = kept_in_cell v c d fv q

  stores_argument : (i : ℕ) (s : List Value) → WellFormedValues Bs s → Fine (on_top s (λ v rest. if_some (option_and_then (set_cell p v) (slice_get f.local.args i)) (λ c. GoOn [] (record f.local { args = slice_set f.local.args i c; stack = rest }))))
  stores_argument i [] h = tt
  stores_argument i (v ∷ rest) h = by_cell (option_and_then (set_cell p v) (slice_get f.local.args i)) (λ d e. cell_kept v f.local.args i d h.0 e)
    where
      by_cell : (o : Option Cell) → ((d : Cell) → o ≡ Some d → WellFormedValue Bs d.value) → Fine (if_some o (λ c. GoOn [] (record f.local { args = slice_set f.local.args i c; stack = rest })))
      by_cell None fd = tt
      by_cell (Some d) fd = (
        tt,
        record {
          old = places.old;
          wide = places.wide;
          initializes = places.initializes;
          captured = places.captured;
          fine = record { args = cells_set Bs f.local.args i d places.fine.args (fd d refl); locals = places.fine.locals; captured = places.fine.captured; result = places.fine.result; stack = h.1 };
          fine_back = places.fine_back;
          as_named = (places.as_named.0, struct_stays f.continuation f.local.args (slice_set f.local.args i d) (length-set f.local.args i d) places.as_named.1, places.as_named.2, places.as_named.3);
        },
        refl,
      )

  pub arguments_store : (o : Operand) → Fine (store_argument p o f.local)
  arguments_store (Index i) = stores_argument i f.local.stack places.fine.stack
  arguments_store _ = tt

  stores_local : (i : ℕ) (s : List Value) → WellFormedValues Bs s → Fine (on_top s (λ v rest. if_some (option_and_then (set_cell p v) (slice_get f.local.locals i)) (λ c. GoOn [] (record f.local { locals = slice_set f.local.locals i c; stack = rest }))))
  stores_local i [] h = tt
  stores_local i (v ∷ rest) h = by_cell (option_and_then (set_cell p v) (slice_get f.local.locals i)) (λ d e. cell_kept v f.local.locals i d h.0 e)
    where
      by_cell : (o : Option Cell) → ((d : Cell) → o ≡ Some d → WellFormedValue Bs d.value) → Fine (if_some o (λ c. GoOn [] (record f.local { locals = slice_set f.local.locals i c; stack = rest })))
      by_cell None fd = tt
      by_cell (Some d) fd = (
        tt,
        record {
          old = places.old;
          wide = length-set f.local.locals i d ∙ places.wide;
          initializes = places.initializes;
          captured = places.captured;
          fine = record { args = places.fine.args; locals = cells_set Bs f.local.locals i d places.fine.locals (fd d refl); captured = places.fine.captured; result = places.fine.result; stack = h.1 };
          fine_back = places.fine_back;
          as_named = places.as_named;
        },
        refl,
      )

  pub locals_store : (o : Operand) → Fine (store_local p o f.local)
  locals_store (Index i) = stores_local i f.local.stack places.fine.stack
  locals_store _ = tt

  pub arguments_point : (here : Here) (o : Operand) → Fine (point_to_argument here o f.local)
  arguments_point here (Index i) = pushes_fine (Ptr (Arg here.number here.method i [])) f.local.stack tt places.fine.stack
  arguments_point here _ = tt

  -- a local that is there
  pub locals_point : (here : Here) (o : Operand) → ((i : ℕ) → o ≡ Index i → i < Bs.width here.method) → Fine (point_to_local here o f.local)
  locals_point here (Index i) low = pushes_fine (Ptr (Local here.number here.method i [])) f.local.stack (low i refl) places.fine.stack
  locals_point here _ low = tt

  pub constants_fine : (back : ℤ → Value) → ((z : ℤ) → WellFormedValue Bs (back z)) → (o : Operand) → Fine (push_int back o f.local)
  constants_fine back h (Int z) = pushes_fine (back z) f.local.stack (h z) places.fine.stack
  constants_fine back h _ = tt

  pub duplicates_fine : (s : List Value) → WellFormedValues Bs s → Fine (on_top s (λ v rest. goes_with f.local v (v ∷ rest)))
  duplicates_fine [] h = tt
  duplicates_fine (v ∷ rest) h = pushes_fine v (v ∷ rest) h.0 h

  pub pops_fine : (s : List Value) → WellFormedValues Bs s → Fine (on_top s (λ v rest. GoOn [] (record f.local { stack = rest })))
  pops_fine [] h = tt
  pops_fine (v ∷ rest) h = (tt, restacked p k ms g r f rest fs places h.1, refl)
