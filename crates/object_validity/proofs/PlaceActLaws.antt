-- Instructions on arguments, locals, constants and the stack leave references to objects that are there.
use Rattle.std.proofs.Common.{◌≡◌, ℕ, List, [], ◌∷◌, Option, Some, None, refl, subst}
use Rattle.std.specs.Prelude.{option_map, option_and_then, slice_get, slice_set, ℤ}
use Rattle.cil_model.specs.declared.value.Value.{Value, Ptr}
use Rattle.cil_model.specs.declared.value.Pointer.TheVariants.{Arg, Local}
use Rattle.cil_model.specs.declared.body.Operand.{Operand}
use Rattle.cil_model.specs.declared.body.Operand.TheVariants.{Index, Int}
use Rattle.cil_model.specs.declared.program.Program.{Program}
use Rattle.cil_semantics.specs.Places.{stored_in, set_cell}
use Rattle.cil_semantics.specs.Tokens.{Here}
use Rattle.cil_semantics.specs.declared.state.Cell.{Cell}
use Rattle.cil_semantics.specs.Acts.{Act, GoOn, on_top, if_some, goes_with, load_argument, load_local, store_argument, store_local, point_to_argument, point_to_local, push_int}
use Rattle.cil_semantics.specs.declared.state.Local.{Local as LocalState}
use Rattle.object_validity.specs.Known.{KnownValue, KnownValues, KnownCells, KnownLocal, KnownAct}
use Rattle.object_validity.proofs.StoredLaws.{cell_there, stored_fine}
use Rattle.object_validity.proofs.ChangeLaws.{cells_set}
use Rattle.object_validity.proofs.GrowthLaws.{restacked}

module _ (p : Program) (b : ℕ) (l : LocalState) (known : KnownLocal b l) where
  abbrev Fine : Act → Type 0
  Fine a = KnownAct b a

  -- a value is pushed on what is left of the stack
  pub pushes_fine : (v : Value) (s : List Value) → KnownValue b v → KnownValues b s → Fine (goes_with l v s)
  pushes_fine v s fv fs1 = restacked b l (v ∷ s) known (fv, fs1)

  loads_cell : (cs : List Cell) (i : ℕ) → KnownCells b cs → Fine (if_some (slice_get cs i) (λ (c : Cell). goes_with l c.value l.stack))
  loads_cell cs i h = by_cell (slice_get cs i) refl
    where
      by_cell : (o : Option Cell) → slice_get cs i ≡ o → Fine (if_some o (λ (c : Cell). goes_with l c.value l.stack))
      by_cell None e = tt
      by_cell (Some c) e = pushes_fine c.value l.stack (cell_there b cs i c h e) known.stack

  pub arguments_load : (o : Operand) → Fine (load_argument o l)
  arguments_load (Index i) = loads_cell l.args i known.args
  arguments_load _ = tt

  pub locals_load : (o : Operand) → Fine (load_local o l)
  locals_load (Index i) = loads_cell l.locals i known.locals
  locals_load _ = tt

  -- what a store leaves in a cell
  kept_in_cell : (v : Value) (c d : Cell) → KnownValue b v → set_cell p v c ≡ Some d → KnownValue b d.value
  kept_in_cell v c d fv e = by_stored (stored_in p c.ty v) refl e
    where
      as_cell : Value → Cell
      as_cell w = record { ty = c.ty; value = w }

      by_stored : (o : Option Value) → stored_in p c.ty v ≡ o → option_map as_cell o ≡ Some d → KnownValue b d.value
      by_stored None s q = absurd (cc q)
      by_stored (Some w) s q = let z : as_cell w ≡ d = cc q in subst (λ (y : Cell). KnownValue b y.value) z (stored_fine b p 1001 c.ty v w fv s)

  cell_kept : (v : Value) (cs : List Cell) (i : ℕ) (d : Cell) → KnownValue b v → option_and_then (set_cell p v) (slice_get cs i) ≡ Some d → KnownValue b d.value
  cell_kept v cs i d fv e = by_cell (slice_get cs i) e
    where
      by_cell : (o : Option Cell) → option_and_then (set_cell p v) o ≡ Some d → KnownValue b d.value
      by_cell None q = absurd (cc q)
      by_cell (Some c) q = kept_in_cell v c d fv q

  stores_argument : (i : ℕ) (s : List Value) → KnownValues b s → Fine (on_top s (λ v rest. if_some (option_and_then (set_cell p v) (slice_get l.args i)) (λ c. GoOn [] (record l { args = slice_set l.args i c; stack = rest }))))
  stores_argument i [] h = tt
  stores_argument i (v ∷ rest) h = by_cell (option_and_then (set_cell p v) (slice_get l.args i)) (λ d e. cell_kept v l.args i d h.0 e)
    where
      by_cell : (o : Option Cell) → ((d : Cell) → o ≡ Some d → KnownValue b d.value) → Fine (if_some o (λ c. GoOn [] (record l { args = slice_set l.args i c; stack = rest })))
      by_cell None fd = tt
      by_cell (Some d) fd = record { args = cells_set b l.args i d known.args (fd d refl); locals = known.locals; captured = known.captured; result = known.result; stack = h.1 }

  pub arguments_store : (o : Operand) → Fine (store_argument p o l)
  arguments_store (Index i) = stores_argument i l.stack known.stack
  arguments_store _ = tt

  stores_local : (i : ℕ) (s : List Value) → KnownValues b s → Fine (on_top s (λ v rest. if_some (option_and_then (set_cell p v) (slice_get l.locals i)) (λ c. GoOn [] (record l { locals = slice_set l.locals i c; stack = rest }))))
  stores_local i [] h = tt
  stores_local i (v ∷ rest) h = by_cell (option_and_then (set_cell p v) (slice_get l.locals i)) (λ d e. cell_kept v l.locals i d h.0 e)
    where
      by_cell : (o : Option Cell) → ((d : Cell) → o ≡ Some d → KnownValue b d.value) → Fine (if_some o (λ c. GoOn [] (record l { locals = slice_set l.locals i c; stack = rest })))
      by_cell None fd = tt
      by_cell (Some d) fd = record { args = known.args; locals = cells_set b l.locals i d known.locals (fd d refl); captured = known.captured; result = known.result; stack = h.1 }

  pub locals_store : (o : Operand) → Fine (store_local p o l)
  locals_store (Index i) = stores_local i l.stack known.stack
  locals_store _ = tt

  pub arguments_point : (here : Here) (o : Operand) → Fine (point_to_argument here o l)
  arguments_point here (Index i) = pushes_fine (Ptr (Arg here.number here.method i [])) l.stack tt known.stack
  arguments_point here _ = tt

  pub locals_point : (here : Here) (o : Operand) → Fine (point_to_local here o l)
  locals_point here (Index i) = pushes_fine (Ptr (Local here.number here.method i [])) l.stack tt known.stack
  locals_point here _ = tt

  pub constants_fine : (back : ℤ → Value) → ((z : ℤ) → KnownValue b (back z)) → (o : Operand) → Fine (push_int back o l)
  constants_fine back h (Int z) = pushes_fine (back z) l.stack (h z) known.stack
  constants_fine back h _ = tt

  pub duplicates_fine : (s : List Value) → KnownValues b s → Fine (on_top s (λ v rest. goes_with l v (v ∷ rest)))
  duplicates_fine [] h = tt
  duplicates_fine (v ∷ rest) h = pushes_fine v (v ∷ rest) h.0 h

  pub pops_fine : (s : List Value) → KnownValues b s → Fine (on_top s (λ v rest. GoOn [] (record l { stack = rest })))
  pops_fine [] h = tt
  pops_fine (v ∷ rest) h = restacked b l rest known h.1
