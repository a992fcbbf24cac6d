-- What stands in the written body and in the runtime class, computed.
use Rattle.std.proofs.Common.{◌≡◌, ℕ, zero, suc, ◌+◌, ◌<◌, ◌≤◌, true, [], ◌++◌, length, Some, None, refl, sym, ap, ◌∙◌, subst, arith}
use Rattle.std.specs.Prelude.{slice_get, ◌&&◌, nat_le, nat_lt, IsTrue}
use Rattle.cil_model.specs.declared.body.Instr.{Instr}
use Rattle.cil_model.specs.declared.contract.ClauseKind.{ClauseKind}
use Rattle.cil_model.specs.declared.contract.ClauseKind.TheVariants as kind
use Rattle.cil_model.specs.declared.contract.Group.{Group}
use Rattle.cil_model.specs.declared.contract.Group.TheVariants as group
use Rattle.cil_semantics.specs.declared.contract_call.ContractCall.{ContractCall}
use Rattle.cil_semantics.specs.declared.contract_call.ContractCall.TheVariants.{EndsClause, NoContractCall}
use Rattle.cil_semantics.specs.ContractCalls.{contract_call, has_message}
use Rattle.cil_semantics.specs.Contracted.{Piece}
use Rattle.cil_semantics.specs.Tokens.{Here}
use Rattle.cil_semantics.specs.Unwind.{body_of, piece_at}
use Rattle.machine_rows.specs.Everything.{everything}
use Rattle.splice_facts.specs.Layout.{Depths}
use Rattle.splice_laws.specs.Fails.{FailRuns, FitsFail, HasFail, HasException, fail_code, ctor_code}
use Rattle.splice_laws.specs.HelperRuns.{HelpersRun, EnterRuns, LeaveRuns}
use Rattle.splice_laws.specs.Helpers.{HasRuntime, enter_code, leave_code}
use Rattle.splice_laws.specs.Straight.{ldarg, ldc, add, ret, StandAt}
use Rattle.splice_laws.specs.EntryCode.{EntryCode, check_code}
use Rattle.cil_semantics.specs.Checks.{kind_number}
use Rattle.splice_laws.proofs.ExceptionLaws.{makes_failure}
use Rattle.splice_laws.proofs.HelperCallLaws.{enter_runs, leave_runs}
use Rattle.splice_laws.proofs.FailLaws.{fail_runs}
use Rattle.splice_rows.specs.OneRequires.{token, a_body, condition, inc_rest, cgt, requires_call, guard, the_piece, the_plan, input, output, numbers, the_marks, tools}

-- ---- the runtime class

unfoldable pub depths : Depths 2 numbers
depths = record { owner = 2; appended = omega arith; exception = omega arith; apart = λ e. absurd (omega (arith, e)) }

unfoldable pub runtime : HasRuntime output 2 guard
unfolding everything
runtime =
    record {
      assembly = 0;
      field = 0;
      is_static = refl;
      layout = refl;
      no_initializer = refl;
      depth = token 4 0;
      depth_token = refl;
      enter = 2;
      enter_outer = 3;
      leave = 4;
      enter_is = record { static = refl; inside = refl; params = refl; result = refl; body = a_body (enter_code 0 (token 4 0) guard) [] None; has = refl; code = refl; regions = refl; locals = refl };
      enter_outer_is = record { static = refl; inside = refl; params = refl; result = refl; body = a_body (enter_code 0 (token 4 0) 0) [] None; has = refl; code = refl; regions = refl; locals = refl };
      leave_is = record { static = refl; inside = refl; params = refl; result = refl; body = a_body (leave_code 0 (token 4 0)) [] None; has = refl; code = refl; regions = refl; locals = refl };
      of_class = (refl, refl);
    }

exception : HasException output numbers 2 0 (token 6 6)
unfolding everything
exception =
    record {
      kind_is = refl;
      fields = ((1, 2), 3);
      layout_is = refl;
      places = ((refl, refl), refl);
      no_initializer = refl;
      method = 6;
      token = refl;
      instance = refl;
      named = refl;
      inside = refl;
      params = refl;
      result = refl;
      base = token 10 8;
      kind = token 4 1;
      user = token 4 2;
      label = token 4 3;
      body = a_body (ctor_code 0 (token 10 8) (token 4 1) (token 4 2) (token 4 3)) [] None;
      has = refl;
      code = refl;
      locals = refl;
      kind_token = refl;
      user_token = refl;
      label_token = refl;
      base_method = 8;
      base_token = refl;
      base_instance = refl;
      base_params = refl;
      base_core = refl;
    }

pub fails : HasFail output numbers 2 5 0
unfolding everything
fails =
    record {
      event = token 10 7;
      ctor = token 6 6;
      is = record { static = refl; inside = refl; params = refl; result = refl; body = a_body (fail_code 0 (token 10 7) (token 6 6)) [] None; has = refl; code = refl; regions = refl; locals = refl };
      event_token = refl;
      event_is = record { outside = refl; static = refl; owner = refl; name = refl; params = refl; result = refl };
      makes = makes_failure output numbers 2 0 (token 6 6) exception;
    }

pub enters : EnterRuns output 2 2 guard
unfolding everything runtime
enters = enter_runs output 2 guard runtime 2 guard (runtime).enter_is

pub enters_outer : EnterRuns output 2 3 0
unfolding everything runtime
enters_outer = enter_runs output 2 guard runtime 3 0 (runtime).enter_outer_is

pub leaves : LeaveRuns output 2 4
unfolding everything runtime
leaves = leave_runs output 2 guard runtime (runtime).leave_is

pub failures : FailRuns output numbers true 2 5 (FitsFail numbers 2)
unfolding everything runtime
failures = fail_runs output 2 guard runtime numbers 5 fails

unfoldable pub helpers : HelpersRun output numbers true 2 guard
helpers = record { assembly = 0; enter = 2; enter_outer = 3; leave = 4; fail = 5; enters = enters; enters_outer = enters_outer; leaves = leaves; fails = failures }

-- ---- the one piece

pub in_entry : (P : Group → ℕ → Piece → Type 0) → P group.Entry 0 the_piece → (gr : Group) (j : ℕ) (x : Piece) → piece_at (Some the_plan) gr j ≡ Some x → P gr j x
in_entry P h group.Entry zero x e = let q : the_piece ≡ x = cc e in subst (P group.Entry 0) q h
in_entry P h group.Entry (suc j) x e = let q : None ≡ Some x = e in absurd (cc q)
in_entry P h group.Exit j x e = let q : None ≡ Some x = e in absurd (cc q)
in_entry P h group.Throw j x e = let q : None ≡ Some x = e in absurd (cc q)
in_entry P h group.Invariant j x e = let q : None ≡ Some x = e in absurd (cc q)
in_entry P h group.Inline j x e = let q : None ≡ Some x = e in absurd (cc q)

-- ---- its contract call

call_of : (i i2 : Instr) (c d : ContractCall) → Some i ≡ Some i2 → contract_call input i ≡ c → contract_call input i2 ≡ d → c ≡ d
call_of i i2 c d e a b = let s : i ≡ i2 = cc e in sym a ∙ ap (contract_call input) s ∙ b

not_end : (kd : ClauseKind) → NoContractCall ≡ EndsClause kd → ⊥
not_end kd e = cc e

plain_ldarg : contract_call input (ldarg 0) ≡ NoContractCall
unfolding everything
plain_ldarg = refl

plain_ldc : (z : Rattle.std.specs.Prelude.ℤ) → contract_call input (ldc z) ≡ NoContractCall
unfolding everything
plain_ldc z = refl

plain_cgt : contract_call input cgt ≡ NoContractCall
unfolding everything
plain_cgt = refl

plain_add : contract_call input add ≡ NoContractCall
unfolding everything
plain_add = refl

plain_ret : contract_call input ret ≡ NoContractCall
unfolding everything
plain_ret = refl

pub is_requires : contract_call input requires_call ≡ EndsClause kind.Requires
unfolding everything
is_requires = refl

-- where the clause ends
pub ends_at : (P : ℕ → Instr → Type 0) → P 3 requires_call → (q : ℕ) (i : Instr) (kd : ClauseKind) → slice_get condition q ≡ Some i → contract_call input i ≡ EndsClause kd → P q i
ends_at P h zero i kd e c = absurd (not_end kd (call_of (ldarg 0) i _ _ e plain_ldarg c))
ends_at P h (suc zero) i kd e c = absurd (not_end kd (call_of (ldc (Rattle.std.specs.Prelude.pos 0)) i _ _ e (plain_ldc _) c))
ends_at P h (suc (suc zero)) i kd e c = absurd (not_end kd (call_of cgt i _ _ e plain_cgt c))
ends_at P h (suc (suc (suc zero))) i kd e c = let s : requires_call ≡ i = cc e in subst (P 3) s h
ends_at P h (suc (suc (suc (suc q)))) i kd e c = let z : None ≡ Some i = e in absurd (cc z)

-- no instruction is of a kind of contract call that is neither a clause's end nor none
pub never_called : (d : ContractCall) → (NoContractCall ≡ d → ⊥) → (EndsClause kind.Requires ≡ d → ⊥) → (q : ℕ) (i : Instr) → slice_get (condition ++ inc_rest) q ≡ Some i → contract_call input i ≡ d → ⊥
never_called d a b zero i e c = a (call_of (ldarg 0) i _ _ e plain_ldarg c)
never_called d a b (suc zero) i e c = a (call_of (ldc (Rattle.std.specs.Prelude.pos 0)) i _ _ e (plain_ldc _) c)
never_called d a b (suc (suc zero)) i e c = a (call_of cgt i _ _ e plain_cgt c)
never_called d a b (suc (suc (suc zero))) i e c = b (call_of requires_call i _ _ e is_requires c)
never_called d a b (suc (suc (suc (suc zero)))) i e c = a (call_of (ldarg 0) i _ _ e plain_ldarg c)
never_called d a b (suc (suc (suc (suc (suc zero))))) i e c = a (call_of (ldc (Rattle.std.specs.Prelude.pos 1)) i _ _ e (plain_ldc _) c)
never_called d a b (suc (suc (suc (suc (suc (suc zero)))))) i e c = a (call_of add i _ _ e plain_add c)
never_called d a b (suc (suc (suc (suc (suc (suc (suc zero))))))) i e c = a (call_of ret i _ _ e plain_ret c)
never_called d a b (suc (suc (suc (suc (suc (suc (suc (suc q)))))))) i e c = let z : None ≡ Some i = e in cc z

pub never_in_condition : (d : ContractCall) → (NoContractCall ≡ d → ⊥) → (EndsClause kind.Requires ≡ d → ⊥) → (q : ℕ) (i : Instr) → slice_get condition q ≡ Some i → contract_call input i ≡ d → ⊥
never_in_condition d a b zero i e c = a (call_of (ldarg 0) i _ _ e plain_ldarg c)
never_in_condition d a b (suc zero) i e c = a (call_of (ldc (Rattle.std.specs.Prelude.pos 0)) i _ _ e (plain_ldc _) c)
never_in_condition d a b (suc (suc zero)) i e c = a (call_of cgt i _ _ e plain_cgt c)
never_in_condition d a b (suc (suc (suc zero))) i e c = b (call_of requires_call i _ _ e is_requires c)
never_in_condition d a b (suc (suc (suc (suc q)))) i e c = let z : None ≡ Some i = e in cc z

-- ---- the group

same_kind : (x : Piece) → the_piece ≡ x → x.clause.kind ≡ kind.Requires
same_kind x e = ap (λ (y : Piece). y.clause.kind) (sym e)

between : (q : ℕ) → IsTrue (nat_le 2 q && nat_lt q 13) → (2 ≤ q) × (q < 13)
between q h = (grind (arith, h), grind (arith, h))

pub within : (q : ℕ) → 2 ≤ q → q < 13 → IsTrue (nat_le 2 q && nat_lt q 13)
within q a b = grind (arith, a, b)

abbrev IsCheckOf : (kind : ℕ) → ℕ → Instr → Type 0
IsCheckOf n q i = StandAt (body_of output 0).instrs (q + 2) (check_code (has_message input i) 0 tools n (token 0x70 1) 12) × (12 ≡ q + 2 + length (check_code (has_message input i) 0 tools n (token 0x70 1) 12))

abbrev IsCheck : ℕ → Instr → Type 0
IsCheck q i = IsCheckOf 0 q i

the_check : IsCheck 3 requires_call
unfolding everything
the_check = ((refl, (refl, (refl, (refl, (refl, (refl, (refl, tt))))))), refl)

pub code : EntryCode input output numbers true 2 guard helpers 0 the_plan the_marks
unfolding everything helpers
code =
    record {
      frame =
          record {
            body = 2;
            reporting =
                record {
                  tools = tools;
                  fail_token = refl;
                  condition_at = 0;
                  message_at = 1;
                  condition_is = refl;
                  message_is = refl;
                  condition_ty = λ here e. refl;
                  message_ty = λ here e. refl;
                  apart_too = (((λ e. absurd (omega (arith, e)), λ e. absurd (omega (arith, e)))), (λ e. absurd (omega (arith, e)), λ e. absurd (omega (arith, e))), λ e. absurd (omega (arith, e)));
                };
            enter_token = refl;
            leave_token = refl;
            handler = 13;
            lowers = (refl, (refl, tt));
            before = [];
            round = [];
            regions = refl;
            apart = λ q a b. (tt, tt);
            kept_out = λ j q q' x a none h. tt;
            room = (omega arith, omega arith);
            belongs_in = λ j q q' h. between q' h;
            behind_in = λ j x a. (omega arith, omega arith);
            begins_in = λ j x a. in_entry (λ gr i z. (2 ≤ z.from + 2) × (z.from + 2 < 13)) (omega arith, omega arith) group.Entry j x a;
            label = λ x. token 0x70 1;
            labelled = λ j x a. in_entry (λ gr i z. Rattle.cil_semantics.specs.Tokens.meaning_of output 0 (token 0x70 1) ≡ Some (Rattle.cil_model.specs.declared.program.Meaning.TheVariants.OfText (Rattle.cil_model.specs.Texts.text_units z.clause.label))) refl group.Entry j x a;
            checks = λ j q x i kd here a kept b c. in_entry (λ gr k z. slice_get z.clause.instrs q ≡ Some i → IsCheckOf (kind_number z.clause.kind) q i) (λ b1. ends_at IsCheck the_check q i kd b1 c) group.Entry j x a b;
            seam_belongs = λ j q x i kd here a kept b c q' lo hi. within q' (omega (arith, lo)) (omega (arith, hi));
          };
      door_code =
          record {
            starts = refl;
            opens = (refl, (refl, tt));
            first = the_piece;
            there = refl;
            first_here = refl;
            on = λ j x y a b. absurd (in_entry (λ gr i z. piece_at (Some the_plan) gr (i + 1) ≡ Some y → ⊥) (λ q. let z : None ≡ Some y = q in cc z) group.Entry j x a b);
            over = λ j x a b. in_entry (λ gr i z. slice_get (Rattle.cil_semantics.specs.Unwind.body_of output 0).instrs 12 ≡ Some (Rattle.splice_laws.specs.Straight.leave 15)) refl group.Entry j x a;
          };
    }
