-- The written body meets all the facts that the simulation asks of a body.
use Rattle.std.proofs.Common.{◌≡◌, ◌≢◌, ℕ, zero, suc, ◌+◌, ◌<◌, ◌≤◌, Bool, true, false, List, [], ◌∷◌, ◌++◌, length, Some, None, refl, sym, ap, ◌∙◌, subst, arith}
use Rattle.std.specs.Prelude.{slice_get, ◌&&◌, not, nat_le, nat_lt, IsTrue, pos, option_map, if◌then◌else◌}
use Rattle.cil_base.specs.declared.token.Token.{Token}
use Rattle.cil_model.specs.declared.body.Instr.{Instr}
use Rattle.cil_model.specs.declared.body.Region.{Region}
use Rattle.cil_model.specs.declared.contract.ClauseKind.{ClauseKind}
use Rattle.cil_model.specs.declared.contract.ClauseKind.TheVariants as kind
use Rattle.cil_model.specs.declared.contract.Group.{Group}
use Rattle.cil_model.specs.declared.contract.Group.TheVariants as group
use Rattle.cil_semantics.specs.ContractCalls.{contract_call}
use Rattle.cil_semantics.specs.Core.{Name}
use Rattle.cil_semantics.specs.declared.contract_call.ContractCall.TheVariants.{EndsClause, EndsBlock, Abbreviates, GivesResult, ReadsArgument, TakesOld, ChecksHere, NoContractCall}
use Rattle.cil_semantics.specs.declared.contract_call.ContractCall.{ContractCall}
use Rattle.cil_semantics.specs.Contracted.{pieces}
use Rattle.cil_semantics.specs.declared.state.Frame.{Frame}
use Rattle.cil_semantics.specs.declared.state.ProgramPoint.{ProgramPoint}
use Rattle.cil_semantics.specs.declared.state.ProgramPoint.TheVariants.{LeadIn, InGroup, Rest}
use Rattle.cil_semantics.specs.Tokens.{Here, local_tys}
use Rattle.cil_semantics.specs.Unwind.{body_of, piece_at, in_try, moved_to, next_place, search_from, NoHandler, left_from}
use Rattle.machine_rows.specs.Everything.{everything}
use Rattle.machine_laws.specs.Same.{most_clauses}
use Rattle.splice_facts.specs.Grown.{IsCopy}
use Rattle.splice_facts.specs.Layout.{IsHere, CanArrive, Onward, fetch, LeadsOn, never_falls}
use Rattle.splice_facts.specs.Spliced.{IsInline, IsPlainAt, Spliced, Groups, is_copied, is_guarded}
use Rattle.splice_facts.specs.Input.{InputFacts, is_group, is_followed}
use Rattle.splice_laws.specs.Fails.{NotMade}
use Rattle.splice_laws.specs.RequiresOnly.{RequiresOnly}
use Rattle.splice_laws.specs.Straight.{ldarg, ldc, add, ret}
use Rattle.splice_laws.proofs.RequiresLaws.{requires_meet}
use Rattle.splice_rows.specs.OneRequires.{token, contracts, cgt, requires_call, the_piece, the_plan, input, output, numbers, the_marks, written_code, group_region}
use Rattle.splice_rows.proofs.OneRequiresCode.{depths, helpers, code, in_entry, is_requires, never_called, never_in_condition, within}

abbrev at_clause : ℕ → ProgramPoint
at_clause q = InGroup group.Entry 0 q

-- what stands at each place at which a frame may stand
pub each : (P : ProgramPoint → Instr → Type 0)
    → P (at_clause 0) (ldarg 0) → P (at_clause 1) (ldc (pos 0)) → P (at_clause 2) cgt → P (at_clause 3) requires_call
    → P (Rest 4) (ldarg 0) → P (Rest 5) (ldc (pos 1)) → P (Rest 6) add → P (Rest 7) ret
    → (at : ProgramPoint) (i : Instr) → IsHere (Some the_plan) at → fetch input contracts numbers (Some the_plan) 0 at ≡ Some i → P at i
unfolding everything
each P a b c d e f g h (LeadIn q) i here x = absurd (omega (arith, here))
each P a b c d e f g h (InGroup group.Entry zero zero) i here x = let s : ldarg 0 ≡ i = cc x in subst (P (at_clause 0)) s a
each P a b c d e f g h (InGroup group.Entry zero (suc zero)) i here x = let s : ldc (pos 0) ≡ i = cc x in subst (P (at_clause 1)) s b
each P a b c d e f g h (InGroup group.Entry zero (suc (suc zero))) i here x = let s : cgt ≡ i = cc x in subst (P (at_clause 2)) s c
each P a b c d e f g h (InGroup group.Entry zero (suc (suc (suc zero)))) i here x = let s : requires_call ≡ i = cc x in subst (P (at_clause 3)) s d
each P a b c d e f g h (InGroup group.Entry zero (suc (suc (suc (suc q))))) i here x = let z : None ≡ Some i = x in absurd (cc z)
each P a b c d e f g h (InGroup group.Entry (suc j) q) i here x = let z : None ≡ Some i = x in absurd (cc z)
each P a b c d e f g h (InGroup group.Exit j q) i here x = let z : None ≡ Some i = x in absurd (cc z)
each P a b c d e f g h (InGroup group.Throw j q) i here x = let z : None ≡ Some i = x in absurd (cc z)
each P a b c d e f g h (InGroup group.Invariant j q) i here x = let z : None ≡ Some i = x in absurd (cc z)
each P a b c d e f g h (InGroup group.Inline j q) i here x = let z : None ≡ Some i = x in absurd (cc z)
each P a b c d e f g h (Rest zero) i here x = absurd (omega (arith, here))
each P a b c d e f g h (Rest (suc zero)) i here x = absurd (omega (arith, here))
each P a b c d e f g h (Rest (suc (suc zero))) i here x = absurd (omega (arith, here))
each P a b c d e f g h (Rest (suc (suc (suc zero)))) i here x = absurd (omega (arith, here))
each P a b c d e f g h (Rest (suc (suc (suc (suc zero))))) i here x = let s : ldarg 0 ≡ i = cc x in subst (P (Rest 4)) s e
each P a b c d e f g h (Rest (suc (suc (suc (suc (suc zero)))))) i here x = let s : ldc (pos 1) ≡ i = cc x in subst (P (Rest 5)) s f
each P a b c d e f g h (Rest (suc (suc (suc (suc (suc (suc zero))))))) i here x = let s : add ≡ i = cc x in subst (P (Rest 6)) s g
each P a b c d e f g h (Rest (suc (suc (suc (suc (suc (suc (suc zero)))))))) i here x = let s : ret ≡ i = cc x in subst (P (Rest 7)) s h
each P a b c d e f g h (Rest (suc (suc (suc (suc (suc (suc (suc (suc q))))))))) i here x = let z : None ≡ Some i = x in absurd (cc z)

-- ---- what the plan gives

not_taken : NoContractCall ≡ TakesOld → ⊥
not_taken e = cc e

not_taken_too : EndsClause kind.Requires ≡ TakesOld → ⊥
not_taken_too e = cc e

not_result : NoContractCall ≡ GivesResult → ⊥
not_result e = cc e

not_result_too : EndsClause kind.Requires ≡ GivesResult → ⊥
not_result_too e = cc e

not_read : NoContractCall ≡ ReadsArgument → ⊥
not_read e = cc e

not_read_too : EndsClause kind.Requires ≡ ReadsArgument → ⊥
not_read_too e = cc e

pub not_check : (kd : ClauseKind) → NoContractCall ≡ ChecksHere kd → ⊥
not_check kd e = cc e

pub not_check_too : (kd : ClauseKind) → EndsClause kind.Requires ≡ ChecksHere kd → ⊥
not_check_too kd e = cc e

never_read : (q : ℕ) (i : Instr) → slice_get the_piece.clause.instrs q ≡ Some i → contract_call input i ≡ ReadsArgument → ⊥
never_read q i s c = never_in_condition ReadsArgument not_read not_read_too q i s c

-- no call stands before the last instruction
never_followed : (q : ℕ) (i : Instr) → slice_get the_piece.clause.instrs q ≡ Some i → is_followed (contract_call input i) ≡ true → ⊥
never_followed q i s e = by_call (contract_call input i) refl e
  where
    by_call : (c : ContractCall) → contract_call input i ≡ c → is_followed c ≡ true → ⊥
    by_call GivesResult h t = never_in_condition GivesResult not_result not_result_too q i s h
    by_call ReadsArgument h t = never_read q i s h
    by_call (ChecksHere kd) h t = never_in_condition (ChecksHere kd) (not_check kd) (not_check_too kd) q i s h
    by_call (EndsClause kd) h t = cc t
    by_call EndsBlock h t = cc t
    by_call Abbreviates h t = cc t
    by_call TakesOld h t = cc t
    by_call NoContractCall h t = cc t

abbrev Inline : Frame → List Frame → ProgramPoint → Instr → ClauseKind → ℕ → Name → Type 0
Inline f fs at i kd home label = IsInline input contracts output numbers 2 depths the_plan 0 f fs at i kd home label

none_inline : (f : Frame) (fs : List Frame) (at : ProgramPoint) (i : Instr) (kd : ClauseKind) (home : ℕ) (label : Name) → Inline f fs at i kd home label → ⊥
none_inline f fs (LeadIn q) i kd home label h = never_called (ChecksHere kd) (not_check kd) (not_check_too kd) q i h.0 h.1
none_inline f fs (Rest q) i kd home label h = never_called (ChecksHere kd) (not_check kd) (not_check_too kd) q i h.0 h.1
none_inline f fs (InGroup gr j q) i kd home label h = in_entry (λ g1 j1 z. slice_get z.clause.instrs q ≡ Some i → ⊥) (λ s. never_in_condition (ChecksHere kd) (not_check kd) (not_check_too kd) q i s h.3) gr j h.0 h.1 h.2

no_other : (gr : Group) → gr ≢ group.Entry → pieces the_plan gr ≡ []
no_other group.Entry d = absurd (d refl)
no_other group.Exit d = refl
no_other group.Throw d = refl
no_other group.Invariant d = refl
no_other group.Inline d = refl

passed_over : (gr : Group) → gr ≢ group.Entry → (the_marks).door gr ≡ (the_marks).out gr
passed_over group.Entry d = absurd (d refl)
passed_over group.Exit d = refl
passed_over group.Throw d = refl
passed_over group.Invariant d = refl
passed_over group.Inline d = refl

abbrev Never : ProgramPoint → Instr → Type 0
Never at i = Rattle.splice_facts.specs.Input.never_in_clause (Rattle.il_opcodes.specs.Opcodes.class_of i.op) ≡ false

abbrev NeverIn : ProgramPoint → Instr → Type 0
NeverIn (InGroup gr j q) i = Never (InGroup gr j q) i
NeverIn (LeadIn q) i = Unit {0}
NeverIn (Rest q) i = Unit {0}

never : (at : ProgramPoint) (i : Instr) → IsHere (Some the_plan) at → fetch input contracts numbers (Some the_plan) 0 at ≡ Some i → NeverIn at i
unfolding everything
never at i here e = each NeverIn refl refl refl refl tt tt tt tt at i here e

pub only : RequiresOnly input contracts output numbers 2 depths 0 the_plan the_marks
only =
    record {
      only = no_other;
      plain = λ j x a. in_entry (λ gr i z. NotMade z.clause.kind × (z.captures ≡ None)) (tt, refl) group.Entry j x a;
      doors = passed_over;
      entry_door = refl;
      entry_out = refl;
      then_invariants = refl;
      bare_doors = λ gr h low. absurd (omega (arith, low));
      no_inline = none_inline;
      no_old = λ gr j q x o e r. in_entry (λ g1 j1 z. Rattle.cil_semantics.specs.Checks.recalled z q ≡ Some o → ⊥) (λ s. let z : None ≡ Some o = s in cc z) gr j x e r;
      no_result = λ gr j q x i e s c. in_entry (λ g1 j1 z. slice_get z.clause.instrs q ≡ Some i → ⊥) (λ s1. never_in_condition GivesResult not_result not_result_too q i s1 c) gr j x e s;
      loads = λ gr j q x i h e s c. absurd (in_entry (λ g1 j1 z. slice_get z.clause.instrs q ≡ Some i → ⊥) (λ s1. never_read q i s1 c) gr j x e s);
    }

many : 1 ≤ most_clauses contracts input 0 input.methods
unfolding everything
many = let e : most_clauses contracts input 0 input.methods ≡ 1 = refl in omega (arith, e)

small : 4 ≤ 100
small = omega arith

groups : Groups input contracts output numbers 2 depths 0 the_plan the_marks
unfolding depths
groups = requires_meet input contracts output numbers 2 depths 0 the_plan the_marks helpers code many small refl only

-- ---- the body

at_method : (P : Here → Type 0) (here : Here) → here.method ≡ 0 → P (record here { method = 0 }) → P here
at_method P here e h = subst (λ m. P (record here { method = m })) (sym e) h

abbrev Copied : ProgramPoint → Instr → Type 0
Copied at i = IsPlainAt input contracts output numbers 2 depths 0 (Some the_plan) at i → (i' : Instr) × (slice_get (body_of output 0).instrs ((the_marks).places at) ≡ Some i') × IsCopy input output 0 (λ t. (the_marks).places (moved_to t at)) i i'

isnt_copied : IsTrue (is_copied input contracts output numbers 2 depths (contract_call input requires_call)) → ⊥
isnt_copied h = let z : false ≡ true = sym (ap (is_copied input contracts output numbers 2 depths) is_requires) ∙ h in cc z

copied : (at : ProgramPoint) (i : Instr) → IsHere (Some the_plan) at → fetch input contracts numbers (Some the_plan) 0 at ≡ Some i → Copied at i
unfolding everything
copied at i here e =
    each Copied
    (λ pl. (ldarg 0, refl, record { op = refl; named = (0, token 0 0); operand = refl; meaning = λ h q. refl; constrained = λ h q. refl }))
    (λ pl. (ldc (pos 0), refl, record { op = refl; named = (0, token 0 0); operand = refl; meaning = λ h q. refl; constrained = λ h q. refl }))
    (λ pl. (cgt, refl, record { op = refl; named = (0, token 0 0); operand = refl; meaning = λ h q. refl; constrained = λ h q. refl }))
    (λ pl. absurd (isnt_copied pl.0))
    (λ pl. (ldarg 0, refl, record { op = refl; named = (0, token 0 0); operand = refl; meaning = λ h q. refl; constrained = λ h q. refl }))
    (λ pl. (ldc (pos 1), refl, record { op = refl; named = (0, token 0 0); operand = refl; meaning = λ h q. refl; constrained = λ h q. refl }))
    (λ pl. (add, refl, record { op = refl; named = (0, token 0 0); operand = refl; meaning = λ h q. refl; constrained = λ h q. refl }))
    (λ pl. (ret, refl, record { op = refl; named = (0, token 0 0); operand = refl; meaning = λ h q. refl; constrained = λ h q. refl }))
    at i here e

beyond : {X : Type 0} (xs : List X) (n : ℕ) → length xs ≤ n → slice_get xs n ≡ None
beyond [] n le = refl
beyond (x ∷ xs) zero le = absurd (omega (arith, le))
beyond (x ∷ xs) (suc n) le = beyond xs n (omega (arith, le))

abbrev GoesOn : ProgramPoint → Instr → Type 0
GoesOn at i = IsPlainAt input contracts output numbers 2 depths 0 (Some the_plan) at i → never_falls (Rattle.il_opcodes.specs.Opcodes.class_of i.op) ≡ false → Onward (Some the_plan) (the_marks).places at (next_place at)

goes_on : (at : ProgramPoint) (i : Instr) → IsHere (Some the_plan) at → fetch input contracts numbers (Some the_plan) 0 at ≡ Some i → GoesOn at i
unfolding everything
goes_on at i here e =
    each GoesOn
    (λ pl n. record { there = (the_piece, refl, omega arith, refl); placed = refl })
    (λ pl n. record { there = (the_piece, refl, omega arith, refl); placed = refl })
    (λ pl n. record { there = (the_piece, refl, omega arith, refl); placed = refl })
    (λ pl n. absurd (isnt_copied pl.0))
    (λ pl n. record { there = omega arith; placed = refl })
    (λ pl n. record { there = omega arith; placed = refl })
    (λ pl n. record { there = omega arith; placed = refl })
    (λ pl n. let z : true ≡ false = n in absurd (cc z))
    at i here e

ends : (at : ProgramPoint) (i' : Instr) → IsHere (Some the_plan) at → fetch input contracts numbers (Some the_plan) 0 at ≡ None → slice_get (body_of output 0).instrs ((the_marks).places at) ≡ Some i' → ⊥
unfolding everything
ends (LeadIn q) i' here n e = omega (arith, here)
ends (InGroup gr j q) i' here n e = in_entry (λ g1 j1 z. q < length z.clause.instrs → fetch input contracts numbers (Some the_plan) 0 (InGroup g1 j1 q) ≡ None → ⊥) (stands q) gr j here.0 here.1 here.2 n
  where
    stands : (a : ℕ) → a < 4 → fetch input contracts numbers (Some the_plan) 0 (InGroup group.Entry 0 a) ≡ None → ⊥
    stands zero lt x = cc x
    stands (suc zero) lt x = cc x
    stands (suc (suc zero)) lt x = cc x
    stands (suc (suc (suc zero))) lt x = cc x
    stands (suc (suc (suc (suc a)))) lt x = omega (arith, lt)
ends (Rest zero) i' here n e = omega (arith, here)
ends (Rest (suc zero)) i' here n e = omega (arith, here)
ends (Rest (suc (suc zero))) i' here n e = omega (arith, here)
ends (Rest (suc (suc (suc zero)))) i' here n e = omega (arith, here)
ends (Rest (suc (suc (suc (suc zero))))) i' here n e = cc n
ends (Rest (suc (suc (suc (suc (suc zero)))))) i' here n e = cc n
ends (Rest (suc (suc (suc (suc (suc (suc zero))))))) i' here n e = cc n
ends (Rest (suc (suc (suc (suc (suc (suc (suc zero)))))))) i' here n e = cc n
ends (Rest (suc (suc (suc (suc (suc (suc (suc (suc q))))))))) i' here n e = let z : None ≡ Some i' = sym (beyond written_code (q + 8 + 11) (omega arith)) ∙ ap (slice_get written_code) (eight q) ∙ e in cc z
  where
    eight : (a : ℕ) → a + 8 + 11 ≡ suc (suc (suc (suc (suc (suc (suc (suc a))))))) + 11
    eight a = omega arith

own : (at : ProgramPoint) → IsHere (Some the_plan) at → IsTrue ((the_marks).belongs at ((the_marks).places at))
own (LeadIn q) here = absurd (omega (arith, here))
own (InGroup gr j q) here = in_entry (λ g1 j1 z. q < length z.clause.instrs → IsTrue (nat_le 2 (q + 2) && nat_lt (q + 2) 13)) (λ lt. within (q + 2) (omega arith) (omega (arith, lt))) gr j here.0 here.1 here.2
own (Rest q) here = rest_in q here
  where
    rest_in : (a : ℕ) → 4 ≤ a → IsTrue (nat_le 15 (a + 11))
    rest_in a le = grind (arith, le)

outside_try : (q : ℕ) → IsTrue (nat_le 15 q) → in_try group_region q ≡ false
outside_try q h = grind (arith, h)

not_tried : (fits : Token → Bool) (skip q : ℕ) → IsTrue (nat_le 15 q) → search_from fits skip 0 q (group_region ∷ []) ≡ NoHandler
not_tried fits zero q h = ap (λ b. if b then Rattle.cil_semantics.specs.Words.maybe NoHandler (λ x. x) (Rattle.cil_semantics.specs.Unwind.found_in fits group_region 0 group_region.kind) else NoHandler) (outside_try q h)
not_tried fits (suc n) q h = refl

not_left : (skip q t : ℕ) → IsTrue (nat_le 15 q) → left_from skip 0 q t (group_region ∷ []) ≡ None
not_left zero q t h = ap (λ b. if b && not (in_try group_region t) then Some (0, group_region) else None) (outside_try q h)
not_left (suc n) q t h = refl

-- where no group runs, the places of a frame stand behind the group
apart : (at : ProgramPoint) (q q' : ℕ) → IsHere (Some the_plan) at → is_group at ≡ false → IsTrue ((the_marks).belongs (moved_to q at) q') → IsTrue (nat_le 15 q')
apart (LeadIn a) q q' here n h = h
apart (InGroup gr j a) q q' here n h = let z : true ≡ false = n in absurd (cc z)
apart (Rest a) q q' here n h = h

unguarded_all : (at : ProgramPoint) → is_guarded input contracts output numbers 2 depths (Some the_plan) at ≡ true → ⊥
unguarded_all (LeadIn q) e = cc e
unguarded_all (InGroup gr j q) e = cc e
unguarded_all (Rest q) e = cc e

abbrev Names : Here → ProgramPoint → Instr → Type 0
Names here at i = Rattle.splice_facts.specs.Grown.NamesLocals (length (local_tys input here (body_of input 0).locals ++ Rattle.cil_semantics.specs.Frames.clause_tys input here (Some the_plan))) (Rattle.il_opcodes.specs.Opcodes.class_of i.op) i.operand

pub spliced : Spliced input contracts output numbers 2 depths 0 (Some the_plan) the_marks
unfolding everything
spliced =
    record {
      locals = λ here e. at_method (λ h. local_tys output h (body_of output 0).locals ≡ (local_tys input h (body_of input 0).locals ++ Rattle.cil_semantics.specs.Frames.clause_tys input h (Some the_plan)) ++ (Rattle.cil_semantics.specs.Frames.captured_tys input h (Some the_plan) ++ (the_marks).extra h)) here e refl;
      counts = λ here e. (refl, refl);
      begins = refl;
      copied = copied;
      ends = λ at i' here n e. absurd (ends at i' here n e);
      goes_on = goes_on;
      own = own;
      finds = λ at q skip q' fits here n h bel found. absurd found;
      finally = λ at q skip t q' here n h can bel. ap (option_map (λ (x : ℕ × Region). Rattle.splice_facts.specs.Spliced.goes_to input contracts output numbers 2 depths x.0 x.1.handler_from)) (not_left skip q' ((the_marks).places (moved_to t at)) (apart at q q' here n bel));
      handlers = λ at h q' here n low bel. absurd (omega (arith, low));
      unguarded = λ at q skip q' fits here n g h bel none. not_tried fits skip q' (apart at q q' here n bel);
      wrapper = λ f fs fs' w ex ss b q skip q' q0 x hs hs' me s low here g. absurd (unguarded_all f.at g);
      groups = groups;
    }

pub facts : InputFacts input contracts numbers 0 (Some the_plan)
unfolding everything
facts =
    record {
      starts = omega arith;
      jumps = λ at i here e. each (λ a i1. LeadsOn (Some the_plan) a i1.operand) tt tt tt tt tt tt tt tt at i here e;
      names = λ at i here e h q. each (Names h) tt tt tt tt tt tt tt tt at i here e;
      lands = λ at q skip fits here h. tt;
      left_lands = λ at q skip t x here n h e. let z : None ≡ Some x = e in absurd (cc z);
      pieces = record {
        begins_in = λ gr j x e. in_entry (λ g1 j1 z. (z.from < length z.clause.instrs) × IsTrue (Rattle.splice_facts.specs.Layout.stands_in z z.from)) (omega arith, refl) gr j x e;
        no_such = λ gr j q i here e. never (InGroup gr j q) i here e;
        has_result = λ gr j q x i f fs m a h e s c. absurd (in_entry (λ g1 j1 z. slice_get z.clause.instrs q ≡ Some i → ⊥) (λ s1. never_in_condition GivesResult not_result not_result_too q i s1 c) gr j x e s);
        goes_on = λ gr j q x i h e n s c. in_entry (λ g1 j1 z. slice_get z.clause.instrs q ≡ Some i → IsHere (Some the_plan) (InGroup g1 j1 (q + 1))) (λ s1. absurd (never_followed q i s1 c)) gr j x e s;
        takes = λ gr j q x i h e n s c. absurd (in_entry (λ g1 j1 z. slice_get z.clause.instrs q ≡ Some i → ⊥) (λ s1. never_in_condition TakesOld not_taken not_taken_too q i s1 c) gr j x e s);
        olds = λ gr j q x o h e d. absurd (in_entry (λ g1 j1 z. Rattle.cil_semantics.specs.Checks.recalled z q ≡ Some o → ⊥) (λ s. let z : None ≡ Some o = s in cc z) gr j x e d);
      };
    }
