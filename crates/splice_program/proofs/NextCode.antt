-- What stands in the written body of Next is the code of its seams, computed.
use Rattle.std.proofs.Common.{◌≡◌, ℕ, zero, suc, ◌+◌, ◌<◌, ◌≤◌, true, false, List, [], ◌∷◌, length, Some, None, refl, sym, ap, ◌∙◌, subst, arith}
use Rattle.std.specs.Prelude.{slice_get, IsTrue, is_some}
use Rattle.cil_model.specs.declared.body.Instr.{Instr}
use Rattle.cil_model.specs.declared.contract.ClauseKind.{ClauseKind}
use Rattle.cil_model.specs.declared.contract.ClauseKind.TheVariants as kind
use Rattle.cil_model.specs.declared.contract.Group.{Group}
use Rattle.cil_model.specs.declared.contract.Group.TheVariants as group
use Rattle.cil_model.specs.declared.program.Meaning.TheVariants.{OfText}
use Rattle.cil_model.specs.Texts.{text_units}
use Rattle.cil_semantics.specs.Checks.{kind_number}
use Rattle.cil_semantics.specs.ContractCalls.{contract_call, has_message}
use Rattle.cil_semantics.specs.Contracted.{Piece}
use Rattle.cil_semantics.specs.Tokens.{meaning_of}
use Rattle.cil_semantics.specs.Unwind.{body_of, piece_at}
use Rattle.cil_semantics.specs.declared.contract_call.ContractCall.{ContractCall}
use Rattle.cil_semantics.specs.declared.contract_call.ContractCall.TheVariants.{EndsClause, GivesResult, TakesOld, ChecksHere, NoContractCall}
use Rattle.cil_semantics.specs.declared.state.ProgramPoint.TheVariants.{InGroup}
use Rattle.machine_rows.specs.Everything.{everything}
use Rattle.splice_facts.specs.Layout.{IsHere}
use Rattle.splice_laws.specs.EntryCode.{GroupCode, GroupFrame, Reporting, Tools, check_code}
use Rattle.splice_laws.specs.Straight.{StandAt, Misses, leave, stloc}
use Rattle.seam_laws.specs.RecallCode.{ResultAt}
use Rattle.splice_rows.specs.OneRequires.{token}
use Rattle.splice_program.specs.Program.{input, contracts, numbers, guard, next_plan, next_code, next_requires, next_ensures, always_valid, a_piece, the_capture}
use Rattle.splice_program.specs.Written.{output, next_marks, next_places, next_belongs, next_behind, next_tools, outer_tools, a_finally, catches_all}
use Rattle.splice_program.proofs.PlaceLaws.{some_is, not_some, along, InClause, in_clause, stands_there, EachPiece, each_piece, entry_piece, exit_piece, throw_piece, invariant_piece}
use Rattle.splice_program.proofs.RuntimeLaws.{depths, helpers}
use Rattle.splice_program.proofs.SmallLaws.{bounds, holds, lies_before, lies_behind}

-- ---- the contract calls, and what stands in place of each

pub not_here : false ≡ true → ⊥
not_here e = cc e

abbrev pub label_of : ClauseKind → ℕ
label_of kind.Ensures = 2
label_of kind.Throws = 3
label_of kind.Invariant = 4
label_of kd = 1

abbrev pub tools_of : Group → Tools
tools_of group.Invariant = outer_tools
tools_of gr = next_tools

abbrev pub end_code : Group → ℕ → Piece → Instr → List Instr
end_code gr j x i = check_code (has_message input i) 0 (tools_of gr) (kind_number x.clause.kind) (token 0x70 (label_of x.clause.kind)) (next_behind gr j)

-- the end of a clause, and what belongs to it
abbrev pub EndAt : Group → ℕ → Piece → ℕ → Instr → Type 0
EndAt gr j x q i =
    StandAt (body_of output 0).instrs (next_places (InGroup gr j q)) (end_code gr j x i)
    × (next_behind gr j ≡ next_places (InGroup gr j q) + length (end_code gr j x i))
    × ((q' : ℕ) → next_places (InGroup gr j q) ≤ q' → q' < next_behind gr j → IsTrue (next_belongs (InGroup gr j q) q'))

abbrev pub Means : Group → ℕ → Piece → ℕ → Instr → ContractCall → Type 0
Means gr j x q i (EndsClause kd) = EndAt gr j x q i
Means gr j x q i GivesResult = (gr ≡ group.Exit) × IsHere (Some next_plan) (InGroup gr j (q + 1)) × ResultAt input contracts output numbers 2 depths 0 next_plan next_marks gr j q
Means gr j x q i TakesOld = IsTrue (is_some x.captures) × (slice_get (body_of output 0).instrs (next_places (InGroup gr j q)) ≡ Some (stloc 0)) × (next_behind gr j ≡ next_places (InGroup gr j q) + 1)
Means gr j x q i NoContractCall = Unit {0}
Means gr j x q i c = ⊥

abbrev pub Called : Group → ℕ → Piece → Type 0
Called gr j x = InClause (λ q i. Means gr j x q i (contract_call input i)) x

pub called : EachPiece Called
unfolding everything
called = (
  (
    (λ st. tt, (λ st. tt, (λ st. tt, (λ st. ((refl, (refl, (refl, (refl, (refl, (refl, (refl, tt))))))), refl, λ q' lo hi. holds 3 14 q' (omega (arith, lo)) (omega (arith, hi))), tt)))),
    (λ st. absurd (not_here st), (λ st. tt, (λ st. (refl, refl, refl), (λ st. absurd (not_here st), (λ st. absurd (not_here st), tt))))),
  ),
  (λ st. (refl, (a_piece next_ensures 0, refl, omega arith, refl), record { code = refl; next = refl }), (λ st. tt, (λ st. absurd (not_here st), (λ st. tt, (λ st. ((refl, (refl, (refl, (refl, (refl, (refl, (refl, tt))))))), refl, λ q' lo hi. holds 57 68 q' (omega (arith, lo)) (omega (arith, hi))), tt))))),
  (λ st. tt, (λ st. tt, (λ st. ((refl, (refl, (refl, (refl, (refl, (refl, (refl, tt))))))), refl, λ q' lo hi. holds 39 51 q' (omega (arith, lo)) (omega (arith, hi))), tt))),
  (λ st. tt, (λ st. tt, (λ st. ((refl, (refl, (refl, (refl, (refl, (refl, (refl, tt))))))), refl, λ q' lo hi. holds 72 82 q' (omega (arith, lo)) (omega (arith, hi))), tt))),
)

pub call_means : (gr : Group) (j q : ℕ) (x : Piece) (i : Instr) → IsHere (Some next_plan) (InGroup gr j q) → piece_at (Some next_plan) gr j ≡ Some x → slice_get x.clause.instrs q ≡ Some i → Means gr j x q i (contract_call input i)
call_means gr j q x i here there instr = in_clause (λ q1 i1. Means gr j x q1 i1 (contract_call input i1)) x (each_piece Called called gr j x there) q i (stands_there next_plan gr j q x here there) instr

pub clause_ends : (gr : Group) (j q : ℕ) (x : Piece) (i : Instr) (kd : ClauseKind) → IsHere (Some next_plan) (InGroup gr j q) → piece_at (Some next_plan) gr j ≡ Some x → slice_get x.clause.instrs q ≡ Some i → contract_call input i ≡ EndsClause kd → EndAt gr j x q i
clause_ends gr j q x i kd here there instr call = subst (Means gr j x q i) call (call_means gr j q x i here there instr)

-- the lead-in and the rest have no Assert and no Assume, as the clauses between them
abbrev pub Unchecked : ContractCall → Type 0
Unchecked (ChecksHere kd) = ⊥
Unchecked c = Unit {0}

pub unchecked : (q : ℕ) (i : Instr) (kd : ClauseKind) → slice_get (body_of input 0).instrs q ≡ Some i → contract_call input i ≡ ChecksHere kd → ⊥
unfolding everything
unchecked q i kd e c = subst Unchecked c (along (λ q1 i1. Unchecked (contract_call input i1)) next_code (tt, (tt, (tt, (tt, (tt, (tt, (tt, (tt, (tt, (tt, (tt, (tt, (tt, (tt, (tt, (tt, (tt, (tt, (tt, (tt, tt)))))))))))))))))))) q i e)

-- ---- the frames of the groups

abbrev pub Frame_of : Group → Type 0
Frame_of gr = GroupFrame input output numbers true 2 guard helpers 0 next_plan next_marks gr

unfoldable pub reporting : Reporting output 0 2 12 0 next_marks
unfolding everything
reporting =
    record {
      tools = next_tools;
      fail_token = refl;
      condition_at = 0;
      message_at = 1;
      condition_is = refl;
      message_is = refl;
      condition_ty = λ here e. refl;
      message_ty = λ here e. refl;
      apart_too = ((λ e. absurd (omega (arith, e)), λ e. absurd (omega (arith, e))), (λ e. absurd (omega (arith, e)), λ e. absurd (omega (arith, e))), λ e. absurd (omega (arith, e)));
    }

unfoldable pub outer_reporting : Reporting output 0 2 12 0 next_marks
unfolding everything
outer_reporting =
    record {
      tools = outer_tools;
      fail_token = refl;
      condition_at = 0;
      message_at = 1;
      condition_is = refl;
      message_is = refl;
      condition_ty = λ here e. refl;
      message_ty = λ here e. refl;
      apart_too = ((λ e. absurd (omega (arith, e)), λ e. absurd (omega (arith, e))), (λ e. absurd (omega (arith, e)), λ e. absurd (omega (arith, e))), λ e. absurd (omega (arith, e)));
    }

pub entry_kept_out : (j q q' : ℕ) (x : Piece) → piece_at (Some next_plan) group.Entry j ≡ Some x → x.captures ≡ None → IsTrue (next_belongs (InGroup group.Entry j q) q') → Misses q' (catches_all 14 17 ∷ [])
entry_kept_out zero q q' x there none bel = (lies_before 14 17 q' (bounds 3 14 q' bel).1, tt)
entry_kept_out (suc zero) q q' x there none bel = absurd (not_some 0 (sym none ∙ ap (λ (y : Piece). y.captures) (sym (some_is the_capture x there))))
entry_kept_out (suc (suc j)) q q' x there none bel = absurd (not_some x there)

pub entry_belongs : (j q q' : ℕ) → IsTrue (next_belongs (InGroup group.Entry j q) q') → (3 ≤ q') × (q' < 19)
entry_belongs zero q q' bel = let b = bounds 3 14 q' bel in (b.0, omega (arith, b.1))
entry_belongs (suc j) q q' bel = let b = bounds 14 17 q' bel in (omega (arith, b.0), omega (arith, b.1))

unfoldable pub entry_frame : Frame_of group.Entry
unfolding everything helpers reporting outer_reporting
entry_frame =
    record {
      reporting = reporting;
      enter_token = refl;
      leave_token = refl;
      body = 3;
      handler = 19;
      lowers = (refl, (refl, tt));
      before = catches_all 14 17 ∷ [];
      round = a_finally 57 68 ∷ a_finally 39 51 ∷ a_finally 72 82 ∷ catches_all 21 31 ∷ [];
      regions = refl;
      apart = λ q a b. ((refl, tt), (lies_before 57 68 q (omega (arith, b)), (lies_before 39 51 q (omega (arith, b)), (lies_before 72 82 q (omega (arith, b)), (lies_before 21 31 q b, tt)))));
      kept_out = entry_kept_out;
      room = (omega arith, omega arith);
      belongs_in = entry_belongs;
      behind_in = λ j x there. entry_piece (λ j1 y. (3 ≤ next_behind group.Entry j1) × (next_behind group.Entry j1 < 19)) (omega arith, omega arith) (omega arith, omega arith) j x there;
      begins_in = λ j x there. entry_piece (λ j1 y. (3 ≤ next_places (InGroup group.Entry j1 y.from)) × (next_places (InGroup group.Entry j1 y.from) < 19)) (omega arith, omega arith) (omega arith, omega arith) j x there;
      label = λ x. token 0x70 (label_of x.clause.kind);
      labelled = λ j x there. entry_piece (λ j1 y. meaning_of output 0 (token 0x70 (label_of y.clause.kind)) ≡ Some (OfText (text_units y.clause.label))) refl refl j x there;
      checks = λ j q x i kd here there kept instr call. let z = clause_ends group.Entry j q x i kd here there instr call in (z.0, z.1);
      seam_belongs = λ j q x i kd here there kept instr call q' lo hi. (clause_ends group.Entry j q x i kd here there instr call).2 q' lo hi;
    }

unfoldable pub exit_frame : Frame_of group.Exit
unfolding everything helpers reporting outer_reporting
exit_frame =
    record {
      reporting = reporting;
      enter_token = refl;
      leave_token = refl;
      body = 57;
      handler = 68;
      lowers = (refl, (refl, tt));
      before = catches_all 14 17 ∷ a_finally 3 19 ∷ [];
      round = a_finally 39 51 ∷ a_finally 72 82 ∷ catches_all 21 31 ∷ [];
      regions = refl;
      apart = λ q a b. ((refl, (lies_behind 3 19 q (omega (arith, a)), tt)), (lies_behind 39 51 q (omega (arith, a)), (lies_before 72 82 q (omega (arith, b)), (lies_behind 21 31 q (omega (arith, a)), tt))));
      kept_out = λ j q q' x there none bel. let b = bounds 57 68 q' bel in (lies_behind 14 17 q' (omega (arith, b.0)), (lies_behind 3 19 q' (omega (arith, b.0)), tt));
      room = (omega arith, omega arith);
      belongs_in = λ j q q' bel. bounds 57 68 q' bel;
      behind_in = λ j x there. (omega arith, omega arith);
      begins_in = λ j x there. exit_piece (λ j1 y. (57 ≤ next_places (InGroup group.Exit j1 y.from)) × (next_places (InGroup group.Exit j1 y.from) < 68)) (omega arith, omega arith) j x there;
      label = λ x. token 0x70 (label_of x.clause.kind);
      labelled = λ j x there. exit_piece (λ j1 y. meaning_of output 0 (token 0x70 (label_of y.clause.kind)) ≡ Some (OfText (text_units y.clause.label))) refl j x there;
      checks = λ j q x i kd here there kept instr call. let z = clause_ends group.Exit j q x i kd here there instr call in (z.0, z.1);
      seam_belongs = λ j q x i kd here there kept instr call q' lo hi. (clause_ends group.Exit j q x i kd here there instr call).2 q' lo hi;
    }

unfoldable pub throw_frame : Frame_of group.Throw
unfolding everything helpers reporting outer_reporting
throw_frame =
    record {
      reporting = reporting;
      enter_token = refl;
      leave_token = refl;
      body = 39;
      handler = 51;
      lowers = (refl, (refl, tt));
      before = catches_all 14 17 ∷ a_finally 3 19 ∷ a_finally 57 68 ∷ [];
      round = a_finally 72 82 ∷ catches_all 21 31 ∷ [];
      regions = refl;
      apart = λ q a b. ((refl, (lies_behind 3 19 q (omega (arith, a)), (lies_before 57 68 q (omega (arith, b)), tt))), (lies_before 72 82 q (omega (arith, b)), (lies_behind 21 31 q (omega (arith, a)), tt)));
      kept_out = λ j q q' x there none bel. let b = bounds 39 51 q' bel in (lies_behind 14 17 q' (omega (arith, b.0)), (lies_behind 3 19 q' (omega (arith, b.0)), (lies_before 57 68 q' (omega (arith, b.1)), tt)));
      room = (omega arith, omega arith);
      belongs_in = λ j q q' bel. bounds 39 51 q' bel;
      behind_in = λ j x there. (omega arith, omega arith);
      begins_in = λ j x there. throw_piece (λ j1 y. (39 ≤ next_places (InGroup group.Throw j1 y.from)) × (next_places (InGroup group.Throw j1 y.from) < 51)) (omega arith, omega arith) j x there;
      label = λ x. token 0x70 (label_of x.clause.kind);
      labelled = λ j x there. throw_piece (λ j1 y. meaning_of output 0 (token 0x70 (label_of y.clause.kind)) ≡ Some (OfText (text_units y.clause.label))) refl j x there;
      checks = λ j q x i kd here there kept instr call. let z = clause_ends group.Throw j q x i kd here there instr call in (z.0, z.1);
      seam_belongs = λ j q x i kd here there kept instr call q' lo hi. (clause_ends group.Throw j q x i kd here there instr call).2 q' lo hi;
    }

unfoldable pub invariant_frame : Frame_of group.Invariant
unfolding everything helpers reporting outer_reporting
invariant_frame =
    record {
      reporting = outer_reporting;
      enter_token = refl;
      leave_token = refl;
      body = 72;
      handler = 82;
      lowers = (refl, (refl, tt));
      before = catches_all 14 17 ∷ a_finally 3 19 ∷ a_finally 57 68 ∷ a_finally 39 51 ∷ [];
      round = catches_all 21 31 ∷ [];
      regions = refl;
      apart = λ q a b. ((refl, (lies_behind 3 19 q (omega (arith, a)), (lies_behind 57 68 q (omega (arith, a)), (lies_behind 39 51 q (omega (arith, a)), tt)))), (lies_behind 21 31 q (omega (arith, a)), tt));
      kept_out = λ j q q' x there none bel. let b = bounds 72 82 q' bel in (lies_behind 14 17 q' (omega (arith, b.0)), (lies_behind 3 19 q' (omega (arith, b.0)), (lies_behind 57 68 q' (omega (arith, b.0)), (lies_behind 39 51 q' (omega (arith, b.0)), tt))));
      room = (omega arith, omega arith);
      belongs_in = λ j q q' bel. bounds 72 82 q' bel;
      behind_in = λ j x there. (omega arith, omega arith);
      begins_in = λ j x there. invariant_piece (λ j1 y. (72 ≤ next_places (InGroup group.Invariant j1 y.from)) × (next_places (InGroup group.Invariant j1 y.from) < 82)) (omega arith, omega arith) j x there;
      label = λ x. token 0x70 (label_of x.clause.kind);
      labelled = λ j x there. invariant_piece (λ j1 y. meaning_of output 0 (token 0x70 (label_of y.clause.kind)) ≡ Some (OfText (text_units y.clause.label))) refl j x there;
      checks = λ j q x i kd here there kept instr call. let z = clause_ends group.Invariant j q x i kd here there instr call in (z.0, z.1);
      seam_belongs = λ j q x i kd here there kept instr call q' lo hi. (clause_ends group.Invariant j q x i kd here there instr call).2 q' lo hi;
    }

-- ---- their doors

abbrev pub Code_of : Group → Type 0
Code_of gr = GroupCode input output numbers true 2 guard helpers 0 next_plan next_marks gr

pub entry_on : (j : ℕ) (x y : Piece) → piece_at (Some next_plan) group.Entry j ≡ Some x → piece_at (Some next_plan) group.Entry (j + 1) ≡ Some y → slice_get (body_of output 0).instrs (next_behind group.Entry j) ≡ Some (leave (next_places (InGroup group.Entry (j + 1) y.from)))
unfolding everything
entry_on j x y a b =
    entry_piece (λ j1 z. piece_at (Some next_plan) group.Entry (j1 + 1) ≡ Some y → slice_get (body_of output 0).instrs (next_behind group.Entry j1) ≡ Some (leave (next_places (InGroup group.Entry (j1 + 1) y.from))))
    (λ h. subst (λ z. slice_get (body_of output 0).instrs 13 ≡ Some (leave (next_places (InGroup group.Entry 1 z.from)))) (some_is the_capture y h) refl) (λ h. absurd (not_some y h)) j x a b

pub entry_over : (j : ℕ) (x : Piece) → piece_at (Some next_plan) group.Entry j ≡ Some x → piece_at (Some next_plan) group.Entry (j + 1) ≡ None → slice_get (body_of output 0).instrs (next_behind group.Entry j) ≡ Some (leave 21)
unfolding everything
entry_over j x a b =
    entry_piece (λ j1 z. piece_at (Some next_plan) group.Entry (j1 + 1) ≡ None → slice_get (body_of output 0).instrs (next_behind group.Entry j1) ≡ Some (leave 21))
    (λ h. absurd (not_some the_capture (sym h))) (λ h. refl) j x a b

unfoldable pub entry_code : Code_of group.Entry
unfolding everything helpers reporting outer_reporting entry_frame
entry_code =
    record {
      frame = entry_frame;
      door_code = record { starts = refl; opens = (refl, (refl, tt)); first = a_piece next_requires 0; there = refl; first_here = refl; on = entry_on; over = entry_over };
    }

unfoldable pub exit_code_of : Code_of group.Exit
unfolding everything helpers reporting outer_reporting exit_frame
exit_code_of =
    record {
      frame = exit_frame;
      door_code =
          record {
            starts = refl;
            opens = (refl, (refl, tt));
            first = a_piece next_ensures 0;
            there = refl;
            first_here = refl;
            on = λ j x y a b. absurd (exit_piece (λ j1 z. piece_at (Some next_plan) group.Exit (j1 + 1) ≡ Some y → ⊥) (λ h. not_some y h) j x a b);
            over = λ j x a b. exit_piece (λ j1 z. slice_get (body_of output 0).instrs 67 ≡ Some (leave 70)) refl j x a;
          };
    }

unfoldable pub invariant_code_of : Code_of group.Invariant
unfolding everything helpers reporting outer_reporting invariant_frame
invariant_code_of =
    record {
      frame = invariant_frame;
      door_code =
          record {
            starts = refl;
            opens = (refl, (refl, tt));
            first = a_piece always_valid 1;
            there = refl;
            first_here = refl;
            on = λ j x y a b. absurd (invariant_piece (λ j1 z. piece_at (Some next_plan) group.Invariant (j1 + 1) ≡ Some y → ⊥) (λ h. not_some y h) j x a b);
            over = λ j x a b. invariant_piece (λ j1 z. slice_get (body_of output 0).instrs 81 ≡ Some (leave 84)) refl j x a;
          };
    }
