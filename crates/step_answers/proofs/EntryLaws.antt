-- A run of an entry begins: what fits a type is stored in a place of it, and no type's initializer has failed yet.
use Rattle.std.proofs.Common.{◌≡◌, ℕ, zero, suc, Bool, true, false, List, [], ◌∷◌, Option, Some, None, refl}
use Rattle.std.specs.Prelude.{◌==◌, is_some, if◌then◌else◌, option_map, option_and_then}
use Rattle.cil_model.specs.declared.ty.Ty.{Ty}
use Rattle.cil_model.specs.declared.value.Value.{Value, out-Value}
use Rattle.cil_model.specs.declared.value.Value as val
use Rattle.cil_model.specs.declared.value.Value.TheOpen.{Value-F}
use Rattle.cil_model.specs.declared.contract.Contracts.{Contracts}
use Rattle.cil_model.specs.declared.contract.Group.TheVariants as group
use Rattle.cil_model.specs.declared.program.Program.{Program}
use Rattle.cil_model.specs.declared.run.Reply.{Reply}
use Rattle.il_opcodes.specs.declared.class.Storage.{Storage}
use Rattle.il_opcodes.specs.declared.class.Storage.TheVariants.{Truncated, Long, NativeInt, Reference, Address, Fields, Opaque, Anything, Void}
use Rattle.il_opcodes.specs.declared.class.Bits.{Bits}
use Rattle.cil_semantics.specs.Lookups.{method_of}
use Rattle.cil_semantics.specs.Places.{storage, field_types, truncated_value, if_long, to_native, if_reference, if_opaque, each_stored, stored_struct, stored_by_storage, stored_within, stored_in, new_cell}
use Rattle.cil_semantics.specs.Contracted.{Piece, Plan, runs_at}
use Rattle.cil_semantics.specs.declared.state.Cell.{Cell}
use Rattle.cil_semantics.specs.declared.state.World.{World}
use Rattle.cil_semantics.specs.declared.state.Frame.{Frame}
use Rattle.cil_semantics.specs.declared.state.Local.{Local}
use Rattle.cil_semantics.specs.declared.state.Handling.{Handling}
use Rattle.cil_semantics.specs.declared.state.ProgramPoint.{ProgramPoint}
use Rattle.cil_semantics.specs.declared.state.ProgramPoint.TheVariants.{LeadIn, InGroup, Rest}
use Rattle.cil_semantics.specs.declared.state.Continuation.TheVariants.{Push}
use Rattle.cil_semantics.specs.State.{State, Next, Running, with_local}
use Rattle.cil_semantics.specs.Unwind.{plan_at, next_piece, begin_first, begin_entry, go_to_rest, goes_at, arrive_in}
use Rattle.cil_semantics.specs.Frames.{if_there, begin, begin_behind, begin_use, initializer, initializer_state, is_use, frame_with, stored_args, param_types, owner_type}
use Rattle.cil_semantics.specs.Outside.{is_i4, is_i8, is_native, is_opaque_value, refers_to, all_fit, fits, fits_fields, fits_storage, fits_within}
use Rattle.cil_semantics.specs.Machine.{empty_world}
use Rattle.simulation_valid.proofs.FitsLaws.{both}
use Rattle.step_answers.specs.Runs.{EntriesBegin}

-- ---- what fits is stored

joined : {X Y : Type 0} (f : X → Y → Y) (a : Option X) (b : Option Y) → is_some a ≡ true → is_some b ≡ true → is_some (option_and_then (λ x. option_map (f x) b) a) ≡ true
joined f None b h1 h2 = absurd (cc h1)
joined f (Some x) None h1 h2 = absurd (cc h2)
joined f (Some x) (Some y) h1 h2 = refl

mapped : {X Y : Type 0} (f : X → Y) (a : Option X) → is_some a ≡ true → is_some (option_map f a) ≡ true
mapped f None h = absurd (cc h)
mapped f (Some x) h = refl

number_stored : (n : Bits) (s : Bool) (o : Value-F Value) → is_i4 o ≡ true → is_some (truncated_value n s o) ≡ true
number_stored n s (Value-F.I4 z) e = refl
number_stored n s _ e = absurd (cc e)

long_stored : (o : Value-F Value) → is_i8 o ≡ true → is_some (if_long o) ≡ true
long_stored (Value-F.I8 z) e = refl
long_stored _ e = absurd (cc e)

native_stored : (o : Value-F Value) → is_native o ≡ true → is_some (to_native o) ≡ true
native_stored (Value-F.Native z) e = refl
native_stored _ e = absurd (cc e)

opaque_stored : (o : Value-F Value) (v : Value) → is_opaque_value o ≡ true → is_some (if_opaque o v) ≡ true
opaque_stored (Value-F.Opaque bytes) v e = refl
opaque_stored _ v e = absurd (cc e)

reference_stored : (p : Program) (w : World) (t : Ty) (o : Value-F Value) (v : Value) → refers_to p w t o ≡ true → is_some (if_reference o v) ≡ true
reference_stored p w t Value-F.Null v e = refl
reference_stored p w t (Value-F.Obj x) v e = refl
reference_stored p w t (Value-F.Text units) v e = refl
reference_stored p w t _ v e = absurd (cc e)

module _ (test : Ty → Value → Bool) (store : Ty → Value → Option Value) (ok : (t : Ty) (v : Value) → test t v ≡ true → is_some (store t v) ≡ true) where
  all_stored : (ts : List Ty) (vs : List Value) → all_fit test ts vs ≡ true → is_some (each_stored store ts vs) ≡ true
  all_stored [] [] e = refl
  all_stored [] (v ∷ vs) e = absurd (cc e)
  all_stored (t ∷ ts) [] e = absurd (cc e)
  all_stored (t ∷ ts) (v ∷ vs) e = joined (λ w ws. w ∷ ws) (store t v) (each_stored store ts vs) (ok t v (both (test t v) (all_fit test ts vs) e).0) (all_stored ts vs (both (test t v) (all_fit test ts vs) e).1)

  struct_stored : (ts : List Ty) (o : Value-F Value) → fits_fields test ts o ≡ true → is_some (stored_struct store ts o) ≡ true
  struct_stored ts (Value-F.Struct vs) e = mapped val.Struct (each_stored store ts vs) (all_stored ts vs e)
  struct_stored ts _ e = absurd (cc e)

  kind_stored : (p : Program) (w : World) (t : Ty) (v : Value) (h : Storage) → fits_storage p w test t v h ≡ true → is_some (stored_by_storage store (field_types p t) v h) ≡ true
  kind_stored p w t v (Truncated n s) e = number_stored n s (out-Value v) e
  kind_stored p w t v Long e = long_stored (out-Value v) e
  kind_stored p w t v NativeInt e = native_stored (out-Value v) e
  kind_stored p w t v Reference e = reference_stored p w t (out-Value v) v e
  kind_stored p w t v Address e = absurd (cc e)
  kind_stored p w t v (Fields n) e = struct_stored (field_types p t) (out-Value v) e
  kind_stored p w t v Opaque e = opaque_stored (out-Value v) v e
  kind_stored p w t v Anything e = refl
  kind_stored p w t v Void e = absurd (cc e)

fits_stored : (n : ℕ) (p : Program) (w : World) (t : Ty) (v : Value) → fits_within n p w t v ≡ true → is_some (stored_within n p t v) ≡ true
unfolding fits_within stored_within
fits_stored zero p w t v e = absurd (cc e)
fits_stored (suc n) p w t v e = kind_stored (fits_within n p w) (stored_within n p) (fits_stored n p w) p w t v (storage p t) e

args_stored : (p : Program) (w : World) (ts : List Ty) (vs : List Value) → all_fit (fits p w) ts vs ≡ true → is_some (stored_args p ts vs) ≡ true
args_stored p w [] [] e = refl
args_stored p w [] (v ∷ vs) e = absurd (cc e)
args_stored p w (t ∷ ts) [] e = absurd (cc e)
args_stored p w (t ∷ ts) (v ∷ vs) e =
    let fit = both (fits p w t v) (all_fit (fits p w) ts vs) e in
    joined (λ c cs. c ∷ cs) (new_cell p t v) (stored_args p ts vs) (mapped (λ x. record { ty = t; value = x }) (stored_in p t v) (fits_stored 1001 p w t v fit.0)) (args_stored p w ts vs fit.1)

-- ---- a frame that begins runs

abbrev Runs : Next → Type 0
Runs x = (s : State) × (x ≡ Running s)

module _ (p : Program) (k : Contracts) where
  entry_runs : (c : Plan) (f : Frame) (fs : List Frame) (w : World) → Runs (begin_entry p c f fs w)
  entry_runs c f fs w = by_depth (runs_at c group.Entry w.depth)
    where
      by_piece : (o : Option (ℕ × Piece)) → Runs (begin_first p c o f fs w)
      by_piece None = (_, refl)
      by_piece (Some x) = (_, refl)

      by_depth : (b : Bool) → Runs (if b then begin_first p c (next_piece p c group.Entry 0 f fs w) f fs w else go_to_rest p c f fs w)
      by_depth true = by_piece (next_piece p c group.Entry 0 f fs w)
      by_depth false = (_, refl)

  arrives : (o : Option Plan) (f : Frame) (at : ProgramPoint) (l : Local) (hs : List Handling) (fs : List Frame) (w : World) → Runs (arrive_in p o f at l hs fs w)
  arrives None f at l hs fs w = (_, refl)
  arrives (Some c) f (LeadIn q) l hs fs w = by_end (q == c.effective.lead_end)
    where
      by_end : (b : Bool) → Runs (if b then begin_entry p c (with_local l f) fs w else goes_at p f (LeadIn q) l hs fs w)
      by_end true = entry_runs c (with_local l f) fs w
      by_end false = (_, refl)
  arrives (Some c) f (InGroup gr i q) l hs fs w = (_, refl)
  arrives (Some c) f (Rest q) l hs fs w = (_, refl)

  begins : (f : Frame) (fs : List Frame) (w : World) → Runs (begin p k f fs w)
  begins f fs w = arrives (plan_at k p f.method) f f.at f.local f.handling fs w

  -- in a world without statics
  uses_begin : (t : Ty) (f : Frame) (rs : List Reply) → Runs (begin_use p k t f [] (empty_world rs))
  unfolding initializer
  uses_begin t f rs = by_use (is_use (method_of p f.method))
    where
      by_found : (o : Option ℕ) → Runs (begin_behind p k (initializer_state None o) t f [] (empty_world rs))
      by_found None = begins f [] (empty_world rs)
      by_found (Some m) = begins _ (f ∷ []) _

      by_use : (b : Bool) → Runs (if b then begin_behind p k (initializer p (empty_world rs) t) t f [] (empty_world rs) else begin p k f [] (empty_world rs))
      by_use true = by_found _
      by_use false = begins f [] (empty_world rs)

pub entries_begin : EntriesBegin
entries_begin p k m args rs entry = by_cells (stored_args p (param_types p (owner_type p m []) m []) args) (args_stored p (empty_world []) (param_types p (owner_type p m []) m []) args entry.fitting)
  where
    by_cells : (o : Option (List Cell)) → is_some o ≡ true → Runs (if_there o (empty_world rs) (λ cells. begin_use p k (owner_type p m []) (frame_with p k (owner_type p m []) m [] cells Push []) [] (empty_world rs)))
    by_cells None h = absurd (cc h)
    by_cells (Some cells) h = uses_begin p k (owner_type p m []) (frame_with p k (owner_type p m []) m [] cells Push []) rs
