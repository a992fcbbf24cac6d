-- A call with contracts goes by its parts.
use Rattle.std.proofs.Common.{[], ◌≡◌, ℕ, ◌+◌, Bool, true, false, List, refl, ap, ◌∙◌, ◌==◌, if◌then◌else◌, eq-eqb}
use Rattle.std.proofs.lemmas.Bool.{ne_eqb}
use Rattle.std.specs.Prelude.{Some, None}
use Rattle.cil_model.specs.declared.contract.Contracts.{Contracts}
use Rattle.cil_model.specs.declared.contract.Group.{Group}
use Rattle.cil_model.specs.declared.contract.Group.TheVariants as group
use Rattle.cil_model.specs.declared.program.Program.{Program}
use Rattle.cil_semantics.specs.Words.{maybe}
use Rattle.cil_semantics.specs.declared.state.World.{World}
use Rattle.cil_semantics.specs.declared.state.ProgramPoint.TheVariants.{LeadIn}
use Rattle.cil_semantics.specs.declared.state.Frame.{Frame}
use Rattle.cil_semantics.specs.State.{with_local, with_stack, Next, raised, lowered}
use Rattle.cil_semantics.specs.Contracted.{Piece, Plan, runs_at}
use Rattle.cil_semantics.specs.Unwind.{begin_entry, begin_first, go_to_rest, piece_at, goes_at, next_piece, begin_piece, begin_group, ends_frame, drops, unwind, after_entry_piece}
use Rattle.cil_semantics.specs.Returns.{return_to, begin_invariants, group_over, piece_over}
use Rattle.cil_semantics.specs.Frames.{stuck}
use Rattle.machine_laws.specs.FourParts.{at_piece, FirstPart, EntryPart, GroupsThrow, ReturnPart, ThrowPart, GoesByParts}

if_true : (b : Bool) (x y : Next) → b ≡ true → (if b then x else y) ≡ x
if_true b x y e = ap (λ c. if c then x else y) e

if_false : (b : Bool) (x y : Next) → b ≡ false → (if b then x else y) ≡ y
if_false b x y e = ap (λ c. if c then x else y) e

module _ (p : Program) (k : Contracts) (plan : Plan) (f : Frame) (fs : List Frame) where
  -- a group begins with its first piece that takes part
  begun : (g : Group) (h : Frame) (x : ℕ × Piece) (w : World) (over : Next) → runs_at plan g w.depth ≡ true → next_piece p plan g 0 h fs w ≡ Some x
      → begin_group p plan g h fs w over ≡ at_piece p g x h fs (raised w)
  begun g h x w over r e =
      if_true (runs_at plan g w.depth) (begin_piece p g (next_piece p plan g 0 h fs w) h fs (raised w) over) over r
      ∙ ap (λ o. begin_piece p g o h fs (raised w) over) e

  stored_args : (g : Group) (h : Frame) (w : World) (over : Next) → runs_at plan g w.depth ≡ false → begin_group p plan g h fs w over ≡ over
  stored_args g h w over r = if_false (runs_at plan g w.depth) (begin_piece p g (next_piece p plan g 0 h fs w) h fs (raised w) over) over r

  -- without a piece that takes part a group is passed over, whatever the depth
  none : (g : Group) (h : Frame) (w : World) (over : Next) → next_piece p plan g 0 h fs w ≡ None → begin_group p plan g h fs w over ≡ over
  none g h w over e =
      ap (λ o. if runs_at plan g w.depth then begin_piece p g o h fs (raised w) over else over) e ∙ same (runs_at plan g w.depth)
    where
      same : (b : Bool) → (if b then over else over) ≡ over
      same true = refl
      same false = refl

  next : (g : Group) (i : ℕ) (x : ℕ × Piece) (w : World) → next_piece p plan g (i + 1) f fs w ≡ Some x → piece_over p k plan g i f fs w ≡ at_piece p g x f fs w
  next g i x w e = ap (λ o. begin_piece p g o f fs w (group_over p k plan g f fs (lowered w))) e

  last : (g : Group) (i : ℕ) (w : World) → next_piece p plan g (i + 1) f fs w ≡ None → piece_over p k plan g i f fs w ≡ group_over p k plan g f fs (lowered w)
  last g i w e = ap (λ o. begin_piece p g o f fs w (group_over p k plan g f fs (lowered w))) e

  first_part : FirstPart p k plan f fs
  first_part =
      record {
        begins = refl;
        goes_on = λ q l hs w n. if_false (q == plan.effective.lead_end) (begin_entry p plan (with_local l f) fs w) (goes_at p f (LeadIn q) l hs fs w) (ne_eqb q plan.effective.lead_end n);
        returns = λ q w. refl;
        throws = λ q x w below. refl;
      }

  entry_part : EntryPart p k plan f fs
  entry_part =
      record {
        order = refl;
        begins = λ x l hs w r e. if_true (plan.effective.lead_end == plan.effective.lead_end) (begin_entry p plan (with_local (with_stack l []) f) fs w) (goes_at p f (LeadIn plan.effective.lead_end) (with_stack l []) hs fs w) (eq-eqb _ _ refl) ∙ ap (λ b. if b then begin_first p plan (next_piece p plan group.Entry 0 f fs w) (with_local (with_stack l []) f) fs w else go_to_rest p plan (with_local (with_stack l []) f) fs w) r ∙ ap (λ o. begin_first p plan o (with_local (with_stack l []) f) fs w) e;
        passed_over = λ l hs w r. if_true (plan.effective.lead_end == plan.effective.lead_end) (begin_entry p plan (with_local (with_stack l []) f) fs w) (goes_at p f (LeadIn plan.effective.lead_end) (with_stack l []) hs fs w) (eq-eqb _ _ refl) ∙ ap (λ b. if b then begin_first p plan (next_piece p plan group.Entry 0 f fs w) (with_local (with_stack l []) f) fs w else go_to_rest p plan (with_local (with_stack l []) f) fs w) r;
        goes_on = λ i x w e. next group.Entry i x w e;
        ends = λ i w e. last group.Entry i w e;
        drops_exceptions = λ i q x w below d. if_true (drops (piece_at (Some plan) group.Entry i)) (after_entry_piece p plan i f fs w) (ends_frame p f.initializes f.continuation (lowered w) x below) d;
      }

  groups_throw : GroupsThrow p plan f fs
  groups_throw g i q x w below d =
      if_false (drops (piece_at (Some plan) g i)) (after_entry_piece p plan i f fs w) (ends_frame p f.initializes f.continuation (lowered w) x below) d

  return_part : ReturnPart p k plan f fs
  return_part =
      record {
        order = refl;
        begins = λ q x w r e. begun group.Exit f x w (begin_invariants p k plan f fs w) r e;
        passed_over = λ q w r. stored_args group.Exit f w (begin_invariants p k plan f fs w) r;
        goes_on = λ i x w e. next group.Exit i x w e;
        ends = λ i w e. last group.Exit i w e;
        invariants = refl;
        begins_invariants = λ x w z e. begun group.Invariant f x w (return_to p k f fs w) (eq-eqb _ _ z) e;
        passes_over_invariants = λ w n. stored_args group.Invariant f w (return_to p k f fs w) (ne_eqb w.depth 0 n);
        ends_invariants = λ i w e. last group.Invariant i w e;
      }

  throw_part : ThrowPart p k plan f fs
  throw_part =
      record {
        order = refl;
        begins = λ q x y w below r e. begun group.Throw (record f { thrown = Some x }) y w (ends_frame p f.initializes f.continuation w x below) r e;
        passed_over = λ q x w below r. stored_args group.Throw (record f { thrown = Some x }) w (ends_frame p f.initializes f.continuation w x below) r;
        none_fits = λ q x w below e. none group.Throw (record f { thrown = Some x }) w (ends_frame p f.initializes f.continuation w x below) e;
        ends = λ i x w t e. last group.Throw i w e ∙ ap (λ o. maybe (stuck (lowered w)) (λ y. ends_frame p f.initializes f.continuation (lowered w) y (λ skip v z. unwind p k skip fs v z)) o) t;
      }

  pub goes_by_parts : GoesByParts p k plan f fs
  goes_by_parts = record { lead_in = first_part; entry = entry_part; groups_throw = groups_throw; return = return_part; throw = throw_part }
