-- The seams of Next but for the frames of its groups, by their code, computed.
use Rattle.std.proofs.Common.{◌≡◌, ◌≢◌, ℕ, ◌<◌, ◌≤◌, Bool, true, false, List, [], ◌∷◌, Some, None, refl, sym, subst, arith}
use Rattle.std.specs.Prelude.{◌==◌, if◌then◌else◌}
use Rattle.cil_model.specs.declared.body.Instr.{Instr}
use Rattle.cil_model.specs.declared.body.Region.{Region}
use Rattle.cil_model.specs.declared.contract.ClauseKind.{ClauseKind}
use Rattle.cil_model.specs.declared.contract.Group.{Group}
use Rattle.cil_model.specs.declared.contract.Group.TheVariants as group
use Rattle.cil_model.specs.declared.contract.Old.{Old}
use Rattle.cil_semantics.specs.Checks.{recalled}
use Rattle.cil_semantics.specs.Contracted.{Piece}
use Rattle.cil_semantics.specs.Core.{exception_ty, Name}
use Rattle.cil_semantics.specs.Tokens.{Here}
use Rattle.cil_semantics.specs.Unwind.{piece_at}
use Rattle.cil_semantics.specs.declared.state.Frame.{Frame}
use Rattle.cil_semantics.specs.declared.state.ProgramPoint.{ProgramPoint}
use Rattle.cil_semantics.specs.declared.state.ProgramPoint.TheVariants.{LeadIn, InGroup, Rest}
use Rattle.il_opcodes.specs.Opcodes.{class_of}
use Rattle.il_opcodes.specs.declared.class.Class.TheVariants as class
use Rattle.machine_rows.specs.Everything.{everything}
use Rattle.splice_facts.specs.Layout.{IsHere}
use Rattle.splice_facts.specs.Spliced.{IsInline}
use Rattle.splice_laws.specs.ExitCode.{ExitCode, LiftedAt}
use Rattle.splice_laws.specs.Fails.{NotMade}
use Rattle.splice_laws.specs.Straight.{Misses, LeavesFreely}
use Rattle.seam_laws.specs.CaptureCode.{CaptureCode, CaptureAt}
use Rattle.seam_laws.specs.RecallCode.{RecallCode, RecallAt}
use Rattle.throw_laws.specs.ThrowCode.{ThrowCode, AgainAt}
use Rattle.throw_laws.specs.WrapperCode.{WrapperCode}
use Rattle.splice_rows.specs.OneRequires.{token}
use Rattle.splice_program.specs.Program.{input, contracts, numbers, first_of, next_plan, next_code, next_ensures, next_throws, a_piece, the_capture}
use Rattle.splice_program.specs.Written.{output, next_marks, next_regions, a_finally, catches_all}
use Rattle.splice_program.proofs.GroupsLaws.{FullCode}
use Rattle.splice_program.proofs.PlaceLaws.{some_is, not_some, Past, past, each_piece, entry_piece, exit_piece, throw_piece, invariant_piece}
use Rattle.splice_program.proofs.NextCode.{Means, call_means, unchecked, reporting, entry_frame, throw_frame, entry_code, exit_code_of, invariant_code_of}
use Rattle.splice_program.proofs.RuntimeLaws.{depths, helpers}
use Rattle.splice_program.proofs.SmallLaws.{bounds, lies_before, lies_behind, never_found, never_left, stored_alike, under_alike, exceptions_alike, catches_alike, returned_alike}

pub argument_no_return : class.LoadArgument ≡ class.Return → ⊥
argument_no_return e = cc e

pub int_no_return : class.LoadInt ≡ class.Return → ⊥
int_no_return e = cc e

pub branch_no_return : class.Branch true ≡ class.Return → ⊥
branch_no_return e = cc e

pub call_no_return : class.Call ≡ class.Return → ⊥
call_no_return e = cc e

pub at_method : (P : Here → Type 0) (here : Here) → here.method ≡ 0 → P (record here { method = 0 }) → P here
at_method P here e h = subst (λ m. P (record here { method = m })) (sym e) h

-- ---- the capture

abbrev pub Capture_at : ℕ → Piece → ℕ → Type 0
Capture_at j x c = CaptureAt input contracts output numbers 2 depths helpers 0 next_plan next_marks entry_frame j x c

pub the_capture_at : Capture_at 1 the_capture 0
unfolding everything helpers reporting entry_frame
the_capture_at =
    record {
      has_local = omega arith;
      keeps = λ q i here instr call. let z = subst (Means group.Entry 1 the_capture q i) call (call_means group.Entry 1 q the_capture i here refl instr) in (z.1, z.2);
      handler = 17;
      pops = refl;
      on = λ y h. absurd (not_some y h);
      over = λ h. refl;
      token = token 1 1;
      catches = refl;
      outer = [];
      inner = [];
      regions = refl;
      belongs_in = λ q q' bel. bounds 14 17 q' bel;
      apart = λ q' lo hi. tt;
      room = (omega arith, omega arith);
      next_behind = λ y h. absurd (not_some y h);
    }

pub captures : CaptureCode input contracts output numbers 2 depths helpers 0 next_plan next_marks entry_frame
captures =
    record {
      captures = λ j x c there cap. entry_piece (λ j1 y. y.captures ≡ Some c → Capture_at j1 y c) (λ h. absurd (not_some c h)) (λ h. subst (Capture_at 1 the_capture) (some_is 0 c h) the_capture_at) j x there cap;
      same_stored = stored_alike;
      same_exceptions = exceptions_alike;
    }

-- ---- old values and the result in the postcondition

abbrev pub Recall_at : Group → ℕ → ℕ → Piece → ℕ × Old → Type 0
Recall_at gr j q x o = RecallAt input contracts output numbers 2 depths 0 next_plan next_marks gr j q x o

abbrev pub the_old : ℕ × Old
the_old = (0, record { from = 1; to = 2; ty = first_of 2 })

pub old_recalled : (q : ℕ) (o : ℕ × Old) → recalled (a_piece next_ensures 0) q ≡ Some o → Recall_at group.Exit 0 q (a_piece next_ensures 0) o
unfolding everything
old_recalled q o h = by_test (1 == q) refl h
  where
    at_one : Recall_at group.Exit 0 1 (a_piece next_ensures 0) the_old
    at_one = record { code = refl; next = refl; there = (a_piece next_ensures 0, refl, omega arith, refl) }

    by_test : (b : Bool) → (1 == q) ≡ b → (if b then Some the_old else None) ≡ Some o → Recall_at group.Exit 0 q (a_piece next_ensures 0) o
    by_test true e f = subst (λ a. Recall_at group.Exit 0 a (a_piece next_ensures 0) o) (grind (arith, e)) (subst (Recall_at group.Exit 0 1 (a_piece next_ensures 0)) (some_is the_old o f) at_one)
    by_test false e f = absurd (not_some o f)

pub recalls : RecallCode input contracts output numbers 2 depths 0 next_plan next_marks
recalls =
    record {
      recalls = λ gr j q x o here there rec. each_piece (λ gr1 j1 y. recalled y q ≡ Some o → Recall_at gr1 j1 q y o) ((λ h. absurd (not_some o h), λ h. absurd (not_some o h)), λ h. old_recalled q o h, λ h. absurd (not_some o h), λ h. absurd (not_some o h)) gr j x there rec;
      results = λ gr j q x i here there instr call. (subst (Means gr j x q i) call (call_means gr j q x i here there instr)).2;
    }

-- ---- the exit

abbrev pub Lifted_at : ℕ → Type 0
Lifted_at q = LiftedAt input contracts output numbers 2 depths 0 next_plan next_marks false true 3 q

abbrev pub IfReturn : ℕ → Instr → Type 0
IfReturn q i = class_of i.op ≡ class.Return → Lifted_at q

-- the places of a lifted `ret` are in no finally
pub leaves_freely : (at : ℕ) → 21 ≤ at → at < 31 → LeavesFreely at next_regions
leaves_freely at lo hi = (refl, (lies_behind 3 19 at (omega (arith, lo)), (lies_before 57 68 at (omega (arith, hi)), (lies_before 39 51 at (omega (arith, hi)), (lies_before 72 82 at (omega (arith, hi)), (refl, tt))))))

pub first_lifted : Lifted_at 16
unfolding everything
first_lifted = record { code = (refl, (refl, tt)); unhandled = λ h. refl; passes = λ at lo hi. never_left 0 0 at 55 next_regions (leaves_freely at (omega (arith, lo)) (omega (arith, hi))) }

pub second_lifted : Lifted_at 19
unfolding everything
second_lifted = record { code = (refl, (refl, tt)); unhandled = λ h. refl; passes = λ at lo hi. never_left 0 0 at 55 next_regions (leaves_freely at (omega (arith, lo)) (omega (arith, hi))) }

pub lifted : Past IfReturn 13 next_code
unfolding everything
lifted = (
  λ c. absurd (argument_no_return c),
  (
    λ c. absurd (branch_no_return c),
    (
      λ c. absurd (int_no_return c),
      (
        λ c. first_lifted,
        (λ c. absurd (argument_no_return c), (λ c. absurd (call_no_return c), (λ c. second_lifted, tt))),
      ),
    ),
  ),
)

pub returns : ExitCode input contracts output numbers 2 depths 0 next_plan next_marks
unfolding everything
returns =
    record {
      void = false;
      void_is = refl;
      wrapped = true;
      result = 3;
      result_is = refl;
      result_ty = λ e here h. refl;
      apart = λ e. absurd (omega (arith, e));
      lifted = λ q i here instr ret. past IfReturn 13 next_code lifted q i here instr ret;
      exits = (refl, (refl, tt));
      same_stored = stored_alike;
      same_result = λ f s me. returned_alike f s me;
    }

-- ---- the group of EnsuresOnThrow, and the wrapper

pub again : (j : ℕ) (x : Piece) → piece_at (Some next_plan) group.Throw j ≡ Some x → AgainAt input contracts output numbers 2 depths helpers 0 next_plan next_marks throw_frame 4 (λ y. token 1 2) j
unfolding everything helpers reporting throw_frame
again j x there =
    throw_piece (λ j1 y. AgainAt input contracts output numbers 2 depths helpers 0 next_plan next_marks throw_frame 4 (λ z. token 1 2) j1)
    (record { place = 50; leaves = refl; tests = tt; over = refl; within = (omega arith, omega arith) }) j x there

pub throw_group : ThrowCode input contracts output numbers 2 depths helpers 0 next_plan next_marks throw_frame
unfolding everything helpers reporting throw_frame
throw_group =
    record {
      thrown = 4;
      thrown_is = refl;
      token = λ x. token 1 2;
      enters = 37;
      tests = ((refl, (refl, (refl, tt))), λ here h. (exception_ty, refl, refl), tt);
      passes = refl;
      asks = (refl, (refl, tt));
      starts = refl;
      firsts = [];
      last = a_piece next_throws 1;
      split = refl;
      picks = tt;
      picks_last = refl;
      again = again;
      same_sub = under_alike;
    }

-- no region before the wrapper's holds a place of the rest
abbrev pub before_wrapper : List Region
before_wrapper = catches_all 14 17 ∷ a_finally 3 19 ∷ a_finally 57 68 ∷ a_finally 39 51 ∷ a_finally 72 82 ∷ []

pub missed : (q : ℕ) → 21 ≤ q → q < 31 → Misses q before_wrapper
missed q lo hi = (lies_behind 14 17 q (omega (arith, lo)), (lies_behind 3 19 q (omega (arith, lo)), (lies_before 57 68 q (omega (arith, hi)), (lies_before 39 51 q (omega (arith, hi)), (lies_before 72 82 q (omega (arith, hi)), tt)))))

pub wrapper : WrapperCode input contracts output numbers 2 depths 0 next_plan next_marks
unfolding everything
wrapper =
    record {
      thrown = 4;
      thrown_is = refl;
      thrown_ty = λ here e. refl;
      apart = λ e. absurd (omega (arith, e));
      handler = 31;
      keeps = (refl, (refl, tt));
      throws_on = (refl, (refl, tt));
      token = token 1 1;
      from = 21;
      to = 31;
      before = before_wrapper;
      regions = refl;
      catches = refl;
      held = λ q q' here bel. bounds 21 31 q' bel;
      longer = omega arith;
      passes = λ fits q skip q' here bel none. let b = bounds 21 31 q' bel in never_found fits skip 0 q' before_wrapper (missed q' b.0 b.1);
      alone = λ h t low lo hi. absurd (omega (arith, low));
      freely = (refl, (refl, (refl, (refl, (refl, (refl, tt))))));
      door_out = refl;
      bare = (refl, (refl, (refl, (refl, (refl, (refl, tt))))));
      same_exceptions = exceptions_alike;
      same_catches = catches_alike;
    }

-- ---- the whole

pub none_inline : (f : Frame) (fs : List Frame) (at : ProgramPoint) (i : Instr) (kd : ClauseKind) (home : ℕ) (label : Name) → IsHere (Some next_plan) at → IsInline input contracts output numbers 2 depths next_plan 0 f fs at i kd home label → ⊥
none_inline f fs (LeadIn q) i kd home label here h = unchecked q i kd h.0 h.1
none_inline f fs (Rest q) i kd home label here h = unchecked q i kd h.0 h.1
none_inline f fs (InGroup gr j q) i kd home label here h = subst (Means gr j h.0 q i) h.3 (call_means gr j q h.0 i here h.1 h.2)

pub none_kept : (gr : Group) (j : ℕ) (x : Piece) → gr ≢ group.Entry → piece_at (Some next_plan) gr j ≡ Some x → x.captures ≡ None
none_kept group.Entry j x d there = absurd (d refl)
none_kept group.Exit j x d there = exit_piece (λ j1 y. y.captures ≡ None) refl j x there
none_kept group.Throw j x d there = throw_piece (λ j1 y. y.captures ≡ None) refl j x there
none_kept group.Invariant j x d there = invariant_piece (λ j1 y. y.captures ≡ None) refl j x there
none_kept group.Inline j x d there = absurd (not_some x there)

unfoldable pub next_full : FullCode input contracts output numbers 2 depths helpers 0 next_plan next_marks
unfolding everything entry_code
next_full =
    record {
      entry = entry_code;
      captures = captures;
      recalls = recalls;
      exit = exit_code_of;
      returns = returns;
      throw_frame = throw_frame;
      throw_group = throw_group;
      wrapper = wrapper;
      invariant = invariant_code_of;
      loads = λ gr j q x i here there instr call. absurd (subst (Means gr j x q i) call (call_means gr j q x i here there instr));
      entry_door = refl;
      entry_out = refl;
      then_invariants = refl;
      none_inline = refl;
      bare_doors = λ gr h low. absurd (omega (arith, low));
      no_inline = none_inline;
      not_made = λ gr j x there. each_piece (λ gr1 j1 y. NotMade y.clause.kind) ((tt, tt), tt, tt, tt) gr j x there;
      keeps_none = none_kept;
    }
