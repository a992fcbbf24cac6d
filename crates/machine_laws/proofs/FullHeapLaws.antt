-- A full heap is told before it is filled.
use Rattle.std.proofs.Common.{◌≡◌, ℕ, zero, suc, ◌+◌, ◌<◌, ◌≤◌, Bool, true, false, List, [], ◌∷◌, ◌++◌, length, Option, Some, None, refl, sym, ap, ◌∙◌, subst, arith}
use Rattle.std.specs.Prelude.{if◌then◌else◌, nat_le, replicate, map, option_and_then, pos, slice_get}
use Rattle.std.proofs.lemmas.Bool.{le-leb, lt-leb}
use Rattle.std.proofs.lemmas.List.{append-nil, length-replicate}
use Rattle.cil_model.specs.declared.ty.Ty.{Ty, out-Ty, out-roll-Ty}
use Rattle.cil_model.specs.declared.ty.Ty.TheOpen.{Ty-F}
use Rattle.cil_model.specs.declared.ty.Ty.TheVariants as ty
use Rattle.cil_model.specs.declared.value.Value.{Value, Obj}
use Rattle.cil_model.specs.declared.body.Instr.{Instr}
use Rattle.cil_model.specs.declared.program.Program.{Program}
use Rattle.cil_model.specs.declared.program.Meaning.TheVariants.{OfType}
use Rattle.cil_model.specs.declared.contract.Contracts.{Contracts}
use Rattle.cil_model.specs.declared.contract.Group.TheVariants as group
use Rattle.cil_model.specs.declared.run.RunResult.{RunResult}
use Rattle.cil_model.specs.declared.run.RunResult.TheVariants as result
use Rattle.il_opcodes.specs.declared.class.Class.TheVariants as class
use Rattle.il_opcodes.specs.Opcodes.{class_of}
use Rattle.cil_semantics.specs.declared.state.Object.{Object}
use Rattle.cil_semantics.specs.declared.state.Frame.{Frame}
use Rattle.cil_semantics.specs.declared.state.World.{World}
use Rattle.cil_semantics.specs.declared.state.Item.{Item}
use Rattle.cil_semantics.specs.declared.state.Local.{Local}
use Rattle.cil_semantics.specs.declared.state.Handling.{Handling}
use Rattle.cil_semantics.specs.declared.state.ProgramPoint.{ProgramPoint}
use Rattle.cil_semantics.specs.declared.state.ProgramPoint.TheVariants.{LeadIn, InGroup, Rest}
use Rattle.cil_semantics.specs.Places.{storage, storage_at, default_cell}
use Rattle.cil_semantics.specs.State.{State, Next, Running, Ended, with_local, with_stack, counted, next_object, with_objects, with_object, unrecorded, goes_after}
use Rattle.cil_semantics.specs.Tokens.{meaning_here}
use Rattle.cil_semantics.specs.Acts.{numeric, index_number, made_array, on_top, on_type, if_some}
use Rattle.cil_semantics.specs.Instructions.{act, act_of_class}
use Rattle.cil_semantics.specs.Contracted.{Piece, Plan, runs_at}
use Rattle.cil_semantics.specs.Unwind.{here_of, plan_at, arrive, arrive_in, begin_entry, begin_first, go_to_rest, next_piece, goes_at, next_place, body_of, place_in}
use Rattle.cil_semantics.specs.Checks.{AddedNumbers}
use Rattle.cil_semantics.specs.Frames.{if_there}
use Rattle.cil_semantics.specs.Machine.{step, step_at, perform, run_plain}
use Rattle.cil_semantics.specs.Limits.{most_cells, most_frames, recorded_items, unless_full, bounded}
use Rattle.machine_laws.specs.Simulation.{trace_of}
use Rattle.machine_laws.specs.FullHeap.{cells_taken, here_now, RunsNext, MakesTooMuch, AsksTooMuch}

-- how many cells there are behind a step
abbrev cells_of : Next → ℕ
cells_of (Running s) = s.world.cells
cells_of (Ended o w) = w.cells

-- no object is made and nothing is told
record Quiet (w : World) (x : Next) : Type 0 where
  cells : cells_of x ≡ w.cells
  trace : trace_of x ≡ w.trace

entry_quiet : (p : Program) (k : Plan) (f : Frame) (fs : List Frame) (w : World) → Quiet w (begin_entry p k f fs w)
entry_quiet p k f fs w = by_depth (runs_at k group.Entry w.depth) (next_piece p k group.Entry 0 f fs w)
  where
    by_piece : (o : Option (ℕ × Piece)) → Quiet w (begin_first p k o f fs w)
    by_piece None = record { cells = refl; trace = refl }
    by_piece (Some x) = record { cells = refl; trace = refl }

    by_depth : (b : Bool) (o : Option (ℕ × Piece)) → Quiet w (if b then begin_first p k o f fs w else go_to_rest p k f fs w)
    by_depth true o = by_piece o
    by_depth false o = record { cells = refl; trace = refl }

arrives_quiet : (p : Program) (o : Option Plan) (f : Frame) (at : ProgramPoint) (l : Local) (hs : List Handling) (fs : List Frame) (w : World) → Quiet w (arrive_in p o f at l hs fs w)
arrives_quiet p None f at l hs fs w = record { cells = refl; trace = refl }
arrives_quiet p (Some k) f (LeadIn q) l hs fs w = by_end (Rattle.std.specs.Prelude.nat_eq q k.effective.lead_end)
  where
    by_end : (b : Bool) → Quiet w (if b then begin_entry p k (with_local l f) fs w else goes_at p f (LeadIn q) l hs fs w)
    by_end true = entry_quiet p k (with_local l f) fs w
    by_end false = record { cells = refl; trace = refl }
arrives_quiet p (Some k) f (InGroup g i q) l hs fs w = record { cells = refl; trace = refl }
arrives_quiet p (Some k) f (Rest q) l hs fs w = record { cells = refl; trace = refl }

made_cells : (p : Program) (os : List Object) (w : World) → (with_objects p os w).cells ≡ w.cells + cells_taken p os
made_cells p [] w = omega arith
made_cells p (o ∷ os) w = let e = made_cells p os (with_object p o w) in omega (arith, e)

made_trace : (p : Program) (os : List Object) (w : World) → (with_objects p os w).trace ≡ w.trace
made_trace p [] w = refl
made_trace p (o ∷ os) w = made_trace p os (with_object p o w)

-- where the cells reach the limit, the run is over
full : (go : State → Next) (left taken : ℕ) (x : Next) (t : List Item) → most_cells ≤ cells_of x → trace_of x ≡ t → bounded go left taken x ≡ result.HeapFull (map (λ (i : Item). i.recorded) t)
full go left taken x t le e = by_next left x le ∙ ap (λ is. result.HeapFull (map (λ (i : Item). i.recorded) is)) e
  where
    by_count : (w : World) (frames : ℕ) (other : RunResult) → most_cells ≤ w.cells → unless_full w frames other ≡ result.HeapFull (recorded_items w)
    by_count w frames other h = ap (λ b. if b then result.HeapFull (recorded_items w) else if nat_le most_frames frames then result.FramesFull (recorded_items w) else other) (le-leb most_cells w.cells h)

    by_next : (n : ℕ) (y : Next) → most_cells ≤ cells_of y → bounded go n taken y ≡ result.HeapFull (map (λ (i : Item). i.recorded) (trace_of y))
    by_next zero (Running s) h = by_count s.world (length s.frames) _ h
    by_next zero (Ended o w) h = by_count w 0 _ h
    by_next (suc n) (Running s) h = by_count s.world (length s.frames) _ h
    by_next (suc n) (Ended o w) h = by_count w 0 _ h

-- and where neither limit is reached it goes on
goes_on : (go : State → Next) (left taken : ℕ) (s : State) → s.world.cells < most_cells → length s.frames < most_frames → bounded go (suc left) taken (Running s) ≡ bounded go left (taken + 1) (go s)
goes_on go left taken s c f =
    ap (λ b. if b then result.HeapFull (recorded_items s.world) else if nat_le most_frames (length s.frames) then result.FramesFull (recorded_items s.world) else bounded go left (taken + 1) (go s)) (lt-leb most_cells s.world.cells c)
    ∙ ap (λ b. if b then result.FramesFull (recorded_items s.world) else bounded go left (taken + 1) (go s)) (lt-leb most_frames (length s.frames) f)

after_cells : (t : List Item) (x : Next) → cells_of (goes_after t x) ≡ cells_of x
after_cells t (Running s) = refl
after_cells t (Ended o w) = refl

after_trace : (t : List Item) (x : Next) → trace_of (goes_after t x) ≡ t ++ trace_of x
after_trace t (Running s) = refl
after_trace t (Ended o w) = refl

module _ (p : Program) (k : Contracts) (g : AddedNumbers) (i : Instr) (f : Frame) (fs : List Frame) (w : World) where
  -- the instruction has made its objects, and the frame arrives behind it
  abbrev arrived : List Object → Local → Next
  arrived made l = arrive p k f (next_place f.at) l fs (with_objects p made (unrecorded w))

  quiet : (made : List Object) (l : Local) → Quiet (with_objects p made (unrecorded w)) (arrived made l)
  quiet made l = arrives_quiet p (plan_at k p f.method) f (next_place f.at) l f.handling fs (with_objects p made (unrecorded w))

  reached : (made : List Object) (l : Local) → most_cells ≤ w.cells + cells_taken p made → most_cells ≤ cells_of (goes_after w.trace (arrived made l))
  reached made l le = subst (λ n. most_cells ≤ n) (sym (after_cells w.trace (arrived made l) ∙ (quiet made l).cells ∙ made_cells p made (unrecorded w))) le

  told : (made : List Object) (l : Local) → trace_of (goes_after w.trace (arrived made l)) ≡ w.trace
  told made l = after_trace w.trace (arrived made l) ∙ ap (λ is. w.trace ++ is) ((quiet made l).trace ∙ made_trace p made (unrecorded w)) ∙ append-nil w.trace

  pub makes_too_much : RunsNext p k g i f fs w → MakesTooMuch p k g i f fs w
  makes_too_much r made l e le left taken =
      goes_on (step p k g) left taken (here_now p k g i f fs w) r.cells r.frames
      ∙ ap (bounded (step p k g) left (taken + 1)) (r.steps ∙ ap (λ a. goes_after w.trace (perform p k g a f fs (unrecorded w))) e)
      ∙ full (step p k g) left (taken + 1) (goes_after w.trace (arrived made l)) w.trace (reached made l le) (told made l)

  abbrev an_array : Ty → ℕ → Object
  an_array t n = record { ty = ty.Array t; cells = replicate n (default_cell p t) }

  makes_array : (t : Ty) (v : Value) (rest : List Value) (n : ℕ) → class_of i.op ≡ class.NewArray → meaning_here p (here_of f fs) i ≡ Some (OfType t) → f.local.stack ≡ v ∷ rest → index_number (numeric v) ≡ Some (pos n)
      → act p (here_of f fs) i (unrecorded w) f.local ≡ made_array p t (pos n) (unrecorded w) f.local rest
  unfolding act act_of_class
  makes_array t v rest n c m s e =
      ap (λ x. act_of_class p (here_of f fs) i (unrecorded w) f.local x) c
      ∙ ap (λ o. on_type o (λ t. on_top f.local.stack (λ v rest. if_some (index_number (numeric v)) (λ z. made_array p t z (unrecorded w) f.local rest)))) m
      ∙ ap (λ vs. on_top vs (λ v rest. if_some (index_number (numeric v)) (λ z. made_array p t z (unrecorded w) f.local rest))) s
      ∙ ap (λ o. if_some o (λ z. made_array p t z (unrecorded w) f.local rest)) e

  array_size : (t : Ty) (n : ℕ) → cells_taken p (an_array t n ∷ []) ≡ n + 1
  unfolding storage
  array_size t n =
      let e : length (replicate n (default_cell p t)) ≡ n = length-replicate n (default_cell p t) in
      let a : out-Ty (ty.Array t) ≡ Ty-F.Array t = sym (sym (out-roll-Ty (Ty-F.Array t)) ∙ ap out-Ty (ty.rolls-Array t)) in
      let s : 1 + length (replicate n (default_cell p t)) + 0 ≡ n + 1 = omega (arith, e) in
      ap (λ x. 1 + counted (storage_at p x) (replicate n (default_cell p t)) + 0) a ∙ s

  pub asks_too_much : RunsNext p k g i f fs w → AsksTooMuch p k g i f fs w
  asks_too_much r t v rest n c m s e le =
      makes_too_much r (an_array t n ∷ []) (with_stack f.local (Obj (next_object (unrecorded w)) ∷ rest)) (makes_array t v rest n c m s e)
      (subst (λ x. most_cells ≤ w.cells + x) (sym (array_size t n)) le)

-- a frame without contracts runs the instruction where it stands
pub runs_next : (p : Program) (k : Contracts) (g : AddedNumbers) (i : Instr) (f : Frame) (fs : List Frame) (w : World) → plan_at k p f.method ≡ None → slice_get (body_of p f.method).instrs (place_in f.at) ≡ Some i
    → w.cells < most_cells → length (f ∷ fs) < most_frames → RunsNext p k g i f fs w
unfolding step
runs_next p k g i f fs w none there c n =
    record {
      steps = ap (goes_after w.trace) (ap (λ o. step_at p k g o f.at f fs (unrecorded w)) none ∙ ap (λ o. if_there o (unrecorded w) (λ i. run_plain p k g i f fs (unrecorded w))) there);
      cells = c;
      frames = n;
    }
