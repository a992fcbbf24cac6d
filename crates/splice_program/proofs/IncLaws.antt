-- Inc and its written body meet all the facts that the simulation asks of a body.
use Rattle.std.proofs.Common.{◌≡◌, ◌≢◌, ℕ, zero, suc, ◌+◌, ◌<◌, ◌≤◌, true, false, List, [], ◌∷◌, ◌++◌, length, Some, None, Option, refl, sym, ap, ◌∙◌, subst, arith}
use Rattle.std.specs.Prelude.{slice_get, IsTrue, nat_le, pos, option_map, option_and_then}
use Rattle.cil_model.specs.declared.body.Instr.{Instr}
use Rattle.cil_model.specs.declared.body.Region.{Region}
use Rattle.cil_model.specs.declared.contract.ClauseKind.{ClauseKind}
use Rattle.cil_model.specs.declared.contract.Group.{Group}
use Rattle.cil_model.specs.declared.contract.Group.TheVariants as group
use Rattle.cil_model.specs.declared.program.Meaning.TheVariants.{OfText}
use Rattle.cil_model.specs.Texts.{text_units}
use Rattle.cil_semantics.specs.Calls.{core_of}
use Rattle.cil_semantics.specs.Checks.{kind_number, recalled}
use Rattle.cil_semantics.specs.ContractCalls.{contract_call, has_message}
use Rattle.cil_semantics.specs.Contracted.{Piece, pieces}
use Rattle.cil_semantics.specs.Core.{Name}
use Rattle.cil_semantics.specs.Frames.{clause_tys, captured_tys}
use Rattle.cil_semantics.specs.Machine.{relocated_instr}
use Rattle.cil_semantics.specs.Tokens.{Here, local_tys, meaning_here, meaning_of, constrained_here}
use Rattle.cil_semantics.specs.Unwind.{body_of, piece_at, moved_to, next_place}
use Rattle.cil_semantics.specs.declared.contract_call.ContractCall.{ContractCall}
use Rattle.cil_semantics.specs.declared.contract_call.ContractCall.TheVariants.{EndsClause, EndsBlock, Abbreviates, GivesResult, ReadsArgument, TakesOld, ChecksHere, NoContractCall}
use Rattle.cil_semantics.specs.declared.state.Frame.{Frame}
use Rattle.cil_semantics.specs.declared.state.ProgramPoint.{ProgramPoint}
use Rattle.cil_semantics.specs.declared.state.ProgramPoint.TheVariants.{LeadIn, InGroup, Rest}
use Rattle.il_opcodes.specs.Opcodes.{class_of}
use Rattle.machine_rows.specs.Everything.{everything}
use Rattle.splice_facts.specs.Grown.{IsCopy, NamesLocals}
use Rattle.splice_facts.specs.Input.{InputFacts, is_group, is_followed, never_in_clause, NamesGiving}
use Rattle.splice_facts.specs.Layout.{IsHere, Onward, fetch, LeadsOn, never_falls, stands_in}
use Rattle.splice_facts.specs.Related.{NamesInput}
use Rattle.splice_facts.specs.Spliced.{Spliced, Groups, IsPlainAt, IsInline, goes_to, is_guarded}
use Rattle.splice_laws.specs.EntryCode.{EntryCode, check_code}
use Rattle.splice_laws.specs.Fails.{NotMade}
use Rattle.splice_laws.specs.RequiresOnly.{RequiresOnly}
use Rattle.splice_laws.specs.Straight.{StandAt, ldarg, ldc, add, ret, leave}
use Rattle.splice_laws.proofs.RequiresLaws.{requires_meet}
use Rattle.splice_rows.specs.OneRequires.{token, cgt}
use Rattle.splice_program.specs.Program.{input, contracts, numbers, inc_plan, inc_code, inc_requires, a_piece}
use Rattle.splice_program.specs.Written.{output, inc_marks, inc_places, inc_belongs, inc_tools, inc_written, a_finally}
use Rattle.splice_program.proofs.NextCode.{not_here}
use Rattle.splice_program.proofs.PlaceLaws.{not_some, some_not, no_more, Along, along, InClause, in_clause, stands_there, IncPlace, inc_place, inc_piece}
use Rattle.splice_program.proofs.RuntimeLaws.{depths, helpers}
use Rattle.splice_program.proofs.SeamLaws.{many, small}
use Rattle.splice_program.proofs.SmallLaws.{bounds, holds, lies_behind, never_found, never_left}

falls : true ≡ false → ⊥
falls e = cc e

-- ---- its contract calls

-- none but the end of its clause
abbrev Usual : ContractCall → Type 0
Usual (EndsClause kd) = Unit {0}
Usual NoContractCall = Unit {0}
Usual c = ⊥

inc_usual : (q : ℕ) (i : Instr) → slice_get (body_of input 1).instrs q ≡ Some i → Usual (contract_call input i)
unfolding everything
inc_usual q i e = along (λ q1 i1. Usual (contract_call input i1)) inc_code (tt, (tt, (tt, (tt, (tt, (tt, (tt, (tt, tt)))))))) q i e

pub inc_unchecked : (q : ℕ) (i : Instr) (kd : ClauseKind) → slice_get (body_of input 1).instrs q ≡ Some i → contract_call input i ≡ ChecksHere kd → ⊥
inc_unchecked q i kd e c = subst Usual c (inc_usual q i e)

clause_usual : (gr : Group) (j q : ℕ) (x : Piece) (i : Instr) → piece_at (Some inc_plan) gr j ≡ Some x → slice_get x.clause.instrs q ≡ Some i → Usual (contract_call input i)
unfolding everything
clause_usual gr j q x i there e = along (λ q1 i1. Usual (contract_call input i1)) x.clause.instrs (inc_piece (λ g1 j1 z. Along (λ q1 i1. Usual (contract_call input i1)) z.clause.instrs) (tt, (tt, (tt, (tt, tt)))) gr j x there) q i e

-- the end of its clause, and what belongs to it
abbrev end_code : Piece → Instr → List Instr
end_code x i = check_code (has_message input i) 0 inc_tools (kind_number x.clause.kind) (token 0x70 5) 12

abbrev EndAt : Group → ℕ → Piece → ℕ → Instr → Type 0
EndAt gr j x q i = StandAt (body_of output 1).instrs (q + 2) (end_code x i) × (12 ≡ q + 2 + length (end_code x i)) × ((q' : ℕ) → q + 2 ≤ q' → q' < 12 → IsTrue (inc_belongs (InGroup gr j q) q'))

abbrev Means : Group → ℕ → Piece → ℕ → Instr → ContractCall → Type 0
Means gr j x q i (EndsClause kd) = EndAt gr j x q i
Means gr j x q i c = Unit {0}

abbrev Called : Group → ℕ → Piece → Type 0
Called gr j x = InClause (λ q i. Means gr j x q i (contract_call input i)) x

called : Called group.Entry 0 (a_piece inc_requires 0)
unfolding everything
called = (λ st. tt, (λ st. tt, (λ st. tt, (λ st. ((refl, (refl, (refl, (refl, (refl, (refl, (refl, tt))))))), refl, λ q' lo hi. holds 2 13 q' (omega (arith, lo)) (omega (arith, hi))), tt))))

clause_ends : (gr : Group) (j q : ℕ) (x : Piece) (i : Instr) (kd : ClauseKind) → IsHere (Some inc_plan) (InGroup gr j q) → piece_at (Some inc_plan) gr j ≡ Some x → slice_get x.clause.instrs q ≡ Some i → contract_call input i ≡ EndsClause kd → EndAt gr j x q i
clause_ends gr j q x i kd here there instr call =
    subst (Means gr j x q i) call (in_clause (λ q1 i1. Means gr j x q1 i1 (contract_call input i1)) x (inc_piece Called called gr j x there) q i (stands_there inc_plan gr j q x here there) instr)

-- ---- its group

inc_entry : EntryCode input output numbers true 2 4 helpers 1 inc_plan inc_marks
unfolding everything helpers
inc_entry =
    record {
      frame =
          record {
            reporting =
                record {
                  tools = inc_tools;
                  fail_token = refl;
                  condition_at = 0;
                  message_at = 1;
                  condition_is = refl;
                  message_is = refl;
                  condition_ty = λ here e. refl;
                  message_ty = λ here e. refl;
                  apart_too = ((λ e. absurd (omega (arith, e)), λ e. absurd (omega (arith, e))), (λ e. absurd (omega (arith, e)), λ e. absurd (omega (arith, e))), λ e. absurd (omega (arith, e)));
                };
            enter_token = refl;
            leave_token = refl;
            body = 2;
            handler = 13;
            lowers = (refl, (refl, tt));
            before = [];
            round = [];
            regions = refl;
            apart = λ q a b. (tt, tt);
            kept_out = λ j q q' x there none bel. tt;
            room = (omega arith, omega arith);
            belongs_in = λ j q q' bel. bounds 2 13 q' bel;
            behind_in = λ j x there. (omega arith, omega arith);
            begins_in = λ j x there. inc_piece (λ g1 j1 z. (2 ≤ z.from + 2) × (z.from + 2 < 13)) (omega arith, omega arith) group.Entry j x there;
            label = λ x. token 0x70 5;
            labelled = λ j x there. inc_piece (λ g1 j1 z. meaning_of output 0 (token 0x70 5) ≡ Some (OfText (text_units z.clause.label))) refl group.Entry j x there;
            checks = λ j q x i kd here there kept instr call. let z = clause_ends group.Entry j q x i kd here there instr call in (z.0, z.1);
            seam_belongs = λ j q x i kd here there kept instr call q' lo hi. (clause_ends group.Entry j q x i kd here there instr call).2 q' lo hi;
          };
      door_code =
          record {
            starts = refl;
            opens = (refl, (refl, tt));
            first = a_piece inc_requires 0;
            there = refl;
            first_here = refl;
            on = λ j x y a b. absurd (inc_piece (λ g1 j1 z. piece_at (Some inc_plan) g1 (j1 + 1) ≡ Some y → ⊥) (λ h. not_some y h) group.Entry j x a b);
            over = λ j x a b. inc_piece (λ g1 j1 z. slice_get (body_of output 1).instrs 12 ≡ Some (leave 15)) refl group.Entry j x a;
          };
    }

no_other : (gr : Group) → gr ≢ group.Entry → pieces inc_plan gr ≡ []
no_other group.Entry d = absurd (d refl)
no_other group.Exit d = refl
no_other group.Throw d = refl
no_other group.Invariant d = refl
no_other group.Inline d = refl

passed_over : (gr : Group) → gr ≢ group.Entry → (inc_marks).door gr ≡ (inc_marks).out gr
passed_over group.Entry d = absurd (d refl)
passed_over group.Exit d = refl
passed_over group.Throw d = refl
passed_over group.Invariant d = refl
passed_over group.Inline d = refl

none_inline : (f : Frame) (fs : List Frame) (at : ProgramPoint) (i : Instr) (kd : ClauseKind) (home : ℕ) (label : Name) → IsInline input contracts output numbers 2 depths inc_plan 1 f fs at i kd home label → ⊥
none_inline f fs (LeadIn q) i kd home label h = inc_unchecked q i kd h.0 h.1
none_inline f fs (Rest q) i kd home label h = inc_unchecked q i kd h.0 h.1
none_inline f fs (InGroup gr j q) i kd home label h = subst Usual h.3 (clause_usual gr j q h.0 i h.1 h.2)

only : RequiresOnly input contracts output numbers 2 depths 1 inc_plan inc_marks
only =
    record {
      only = no_other;
      plain = λ j x a. inc_piece (λ g1 j1 z. NotMade z.clause.kind × (z.captures ≡ None)) (tt, refl) group.Entry j x a;
      doors = passed_over;
      entry_door = refl;
      entry_out = refl;
      then_invariants = refl;
      bare_doors = λ gr h low. absurd (omega (arith, low));
      no_inline = none_inline;
      no_old = λ gr j q x o e r. inc_piece (λ g1 j1 z. recalled z q ≡ Some o → ⊥) (λ s. not_some o s) gr j x e r;
      no_result = λ gr j q x i e s c. subst Usual c (clause_usual gr j q x i e s);
      loads = λ gr j q x i h e s c. absurd (subst Usual c (clause_usual gr j q x i e s));
    }

pub inc_groups : Groups input contracts output numbers 2 depths 1 inc_plan inc_marks
inc_groups = requires_meet input contracts output numbers 2 depths 1 inc_plan inc_marks helpers inc_entry many small refl only

-- ---- what each instruction names and where it leads

abbrev NeverIn : ProgramPoint → Instr → Type 0
NeverIn (InGroup gr j q) i = never_in_clause (class_of i.op) ≡ false
NeverIn (LeadIn q) i = Unit {0}
NeverIn (Rest q) i = Unit {0}

abbrev no_locals : Here → ℕ
no_locals h = length (local_tys input h (body_of input 1).locals ++ clause_tys input h (Some inc_plan))

abbrev pub Tells : ProgramPoint → Instr → Type 0
Tells at i =
    LeadsOn (Some inc_plan) at i.operand × ((h : Here) → NamesLocals (no_locals h) (class_of i.op) i.operand) × NeverIn at i
    × ((h : Here) → NamesInput input 2 9 (meaning_here input h i)) × ((h : Here) → constrained_here input h i ≡ None) × ((h : Here) → NamesGiving input (meaning_here input h i))

tells_table : IncPlace Tells
unfolding everything core_of
tells_table = (
  ((tt, λ h. tt, tt, λ h. tt, λ h. refl, λ h. tt), ((tt, λ h. tt, tt, λ h. tt, λ h. refl, λ h. tt), ((tt, λ h. tt, tt, λ h. tt, λ h. refl, λ h. tt), ((tt, λ h. tt, tt, λ h. tt, λ h. refl, λ h. tt), tt)))),
  (λ st. (tt, λ h. tt, refl, λ h. tt, λ h. refl, λ h. tt), (λ st. (tt, λ h. tt, refl, λ h. tt, λ h. refl, λ h. tt), (λ st. (tt, λ h. tt, refl, λ h. tt, λ h. refl, λ h. tt), (λ st. (tt, λ h. tt, refl, λ h. (omega arith, refl, tt, tt), λ h. refl, λ h. tt), tt)))),
)

pub inc_tells : (at : ProgramPoint) (i : Instr) → IsHere (Some inc_plan) at → fetch input contracts numbers (Some inc_plan) 1 at ≡ Some i → Tells at i
inc_tells at i here e = inc_place Tells tells_table at i here e

not_followed : (c : ContractCall) → Usual c → is_followed c ≡ true → ⊥
not_followed GivesResult u t = u
not_followed ReadsArgument u t = u
not_followed (ChecksHere kd) u t = u
not_followed (EndsClause kd) u t = not_here t
not_followed EndsBlock u t = not_here t
not_followed Abbreviates u t = not_here t
not_followed TakesOld u t = not_here t
not_followed NoContractCall u t = not_here t

pub inc_facts : InputFacts input contracts numbers 1 (Some inc_plan)
unfolding everything
inc_facts =
    record {
      starts = omega arith;
      jumps = λ at i here e. (inc_tells at i here e).0;
      names = λ at i here e h q. (inc_tells at i here e).1 h;
      lands = λ at q skip fits here h. tt;
      left_lands = λ at q skip t x here n h e. absurd (not_some x e);
      pieces =
          record {
            begins_in = λ gr j x e. inc_piece (λ g1 j1 z. (z.from < length z.clause.instrs) × IsTrue (stands_in z z.from)) (omega arith, refl) gr j x e;
            no_such = λ gr j q i here e. (inc_tells (InGroup gr j q) i here e).2;
            has_result = λ gr j q x i f fs m a here e s c. absurd (subst Usual c (clause_usual gr j q x i e s));
            goes_on = λ gr j q x i here e n s c. absurd (not_followed (contract_call input i) (clause_usual gr j q x i e s) c);
            takes = λ gr j q x i here e n s c. absurd (subst Usual c (clause_usual gr j q x i e s));
            olds = λ gr j q x o here e d. absurd (inc_piece (λ g1 j1 z. recalled z q ≡ Some o → ⊥) (λ s. not_some o s) gr j x e d);
          };
    }

-- ---- the copies

abbrev Placed : ProgramPoint → Instr → Type 0
Placed at i =
    IsTrue (inc_belongs at (inc_places at))
    × (IsPlainAt input contracts output numbers 2 depths 1 (Some inc_plan) at i
    → ((i' : Instr) × (slice_get (body_of output 1).instrs (inc_places at) ≡ Some i') × IsCopy input output 1 (λ t. inc_places (moved_to t at)) i i')
    × (never_falls (class_of i.op) ≡ false → Onward (Some inc_plan) inc_places at (next_place at)))

placed_table : IncPlace Placed
unfolding everything
placed_table = (
  (
    (refl, λ pl. ((ldarg 0, refl, record { op = refl; named = (0, (token 0 0)); operand = refl; meaning = λ h q. refl; constrained = λ h q. refl }), λ n. record { there = omega arith; placed = refl })),
    (
      (refl, λ pl. ((ldc (pos 1), refl, record { op = refl; named = (0, (token 0 0)); operand = refl; meaning = λ h q. refl; constrained = λ h q. refl }), λ n. record { there = omega arith; placed = refl })),
      (
        (refl, λ pl. ((add, refl, record { op = refl; named = (0, (token 0 0)); operand = refl; meaning = λ h q. refl; constrained = λ h q. refl }), λ n. record { there = omega arith; placed = refl })),
        ((refl, λ pl. ((ret, refl, record { op = refl; named = (0, (token 0 0)); operand = refl; meaning = λ h q. refl; constrained = λ h q. refl }), λ n. absurd (falls n))), tt),
      ),
    ),
  ),
  (
    λ st. (refl, λ pl. ((ldarg 0, refl, record { op = refl; named = (0, (token 0 0)); operand = refl; meaning = λ h q. refl; constrained = λ h q. refl }), λ n. record { there = (a_piece inc_requires 0, refl, omega arith, refl); placed = refl })),
    (
      λ st. (refl, λ pl. ((ldc (pos 0), refl, record { op = refl; named = (0, (token 0 0)); operand = refl; meaning = λ h q. refl; constrained = λ h q. refl }), λ n. record { there = (a_piece inc_requires 0, refl, omega arith, refl); placed = refl })),
      (
        λ st. (refl, λ pl. ((cgt, refl, record { op = refl; named = (0, (token 0 0)); operand = refl; meaning = λ h q. refl; constrained = λ h q. refl }), λ n. record { there = (a_piece inc_requires 0, refl, omega arith, refl); placed = refl })),
        (λ st. (refl, λ pl. absurd (not_here pl.0)), tt),
      ),
    ),
  ),
)

placed : (at : ProgramPoint) (i : Instr) → IsHere (Some inc_plan) at → fetch input contracts numbers (Some inc_plan) 1 at ≡ Some i → Placed at i
placed at i here e = inc_place Placed placed_table at i here e

nothing_behind : {A : Type 0} (xs : List A) (q : ℕ) (x : A) → length xs ≤ q → slice_get xs q ≡ Some x → ⊥
nothing_behind [] q x le e = not_some x e
nothing_behind (y ∷ ys) zero x le e = omega (arith, le)
nothing_behind (y ∷ ys) (suc q) x le e = nothing_behind ys q x (omega (arith, le)) e

has_instr : (gr : Group) (j q : ℕ) → IsHere (Some inc_plan) (InGroup gr j q) → fetch input contracts numbers (Some inc_plan) 1 (InGroup gr j q) ≡ None → ⊥
has_instr gr j q here e = by_instr (slice_get here.0.clause.instrs q) refl (sym (ap (option_and_then (λ (x : Piece). option_map (relocated_instr x.first_local) (slice_get x.clause.instrs q))) here.1) ∙ e)
  where
    by_instr : (o : Option Instr) → slice_get here.0.clause.instrs q ≡ o → option_map (relocated_instr here.0.first_local) o ≡ None → ⊥
    by_instr None s f = let z = no_more here.0.clause.instrs q s in let l = here.2 in omega (arith, z, l)
    by_instr (Some a) s f = some_not (relocated_instr here.0.first_local a) f

ends : (at : ProgramPoint) (i' : Instr) → IsHere (Some inc_plan) at → fetch input contracts numbers (Some inc_plan) 1 at ≡ None → slice_get (body_of output 1).instrs (inc_places at) ≡ Some i' → ⊥
unfolding everything
ends (LeadIn q) i' here n e = omega (arith, here)
ends (InGroup gr j q) i' here n e = has_instr gr j q here n
ends (Rest q) i' here n e = let z : 8 ≤ q = no_more inc_code q n in nothing_behind inc_written (q + 11) i' (omega (arith, z)) e

own : (at : ProgramPoint) → IsHere (Some inc_plan) at → IsTrue (inc_belongs at (inc_places at))
own (LeadIn q) here = absurd (omega (arith, here))
own (InGroup gr j q) here = inc_piece (λ g1 j1 z. q < length z.clause.instrs → IsTrue (inc_belongs (InGroup g1 j1 q) (q + 2))) (λ lt. holds 2 13 (q + 2) (omega arith) (omega (arith, lt))) gr j here.0 here.1 here.2
own (Rest q) here = rest_in q here
  where
    rest_in : (a : ℕ) → 4 ≤ a → IsTrue (nat_le 15 (a + 11))
    rest_in a le = grind (arith, le)

-- where no group runs, the places of a frame stand behind the group
behind : (at : ProgramPoint) (q q' : ℕ) → is_group at ≡ false → IsTrue (inc_belongs (moved_to q at) q') → 15 ≤ q'
behind (LeadIn a) q q' n h = grind (arith, h)
behind (InGroup gr j a) q q' n h = absurd (falls n)
behind (Rest a) q q' n h = grind (arith, h)

unguarded_all : (at : ProgramPoint) → is_guarded input contracts output numbers 2 depths (Some inc_plan) at ≡ true → ⊥
unguarded_all (LeadIn q) e = cc e
unguarded_all (InGroup gr j q) e = cc e
unguarded_all (Rest q) e = cc e

at_method : (P : Here → Type 0) (here : Here) → here.method ≡ 1 → P (record here { method = 1 }) → P here
at_method P here e h = subst (λ m. P (record here { method = m })) (sym e) h

pub inc_spliced : Spliced input contracts output numbers 2 depths 1 (Some inc_plan) inc_marks
unfolding everything
inc_spliced =
    record {
      locals = λ here e. at_method (λ h. local_tys output h (body_of output 1).locals ≡ (local_tys input h (body_of input 1).locals ++ clause_tys input h (Some inc_plan)) ++ (captured_tys input h (Some inc_plan) ++ (inc_marks).extra h)) here e refl;
      counts = λ here e. (refl, refl);
      begins = refl;
      copied = λ at i here e pl. ((placed at i here e).1 pl).0;
      ends = λ at i' here n e. absurd (ends at i' here n e);
      goes_on = λ at i here e pl n. ((placed at i here e).1 pl).1 n;
      own = own;
      finds = λ at q skip q' fits here n h bel found. absurd found;
      finally = λ at q skip t q' here n h can bel. ap (option_map (λ (x : ℕ × Region). goes_to input contracts output numbers 2 depths x.0 x.1.handler_from)) (never_left skip 0 q' (inc_places (moved_to t at)) (a_finally 2 13 ∷ []) (lies_behind 2 13 q' (let b = behind at q q' n bel in omega (arith, b)), tt));
      handlers = λ at h q' here n low bel. absurd (omega (arith, low));
      unguarded = λ at q skip q' fits here n g h bel none. never_found fits skip 0 q' (a_finally 2 13 ∷ []) (lies_behind 2 13 q' (let b = behind at q q' n bel in omega (arith, b)), tt);
      wrapper = λ f fs fs' w ex ss b q skip q' q0 x hs hs' me s low here g. absurd (unguarded_all f.at g);
      groups = inc_groups;
    }
