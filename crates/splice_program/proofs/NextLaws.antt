-- Next and its written body meet all the facts that the simulation asks of a body.
use Rattle.std.proofs.Common.{◌≡◌, ℕ, zero, suc, ◌+◌, ◌<◌, ◌≤◌, Bool, true, false, List, [], ◌∷◌, ◌++◌, length, Some, None, Option, refl, sym, ap, ◌∙◌, subst, arith}
use Rattle.std.specs.Prelude.{slice_get, get_or, IsTrue, pos, negsuc, option_map, option_and_then, ◌==◌, if◌then◌else◌}
use Rattle.cil_model.specs.declared.body.Instr.{Instr}
use Rattle.cil_model.specs.declared.body.Region.{Region}
use Rattle.cil_model.specs.declared.contract.Group.{Group}
use Rattle.cil_model.specs.declared.contract.Old.{Old}
use Rattle.cil_semantics.specs.Calls.{core_of}
use Rattle.cil_semantics.specs.Checks.{recalled}
use Rattle.cil_semantics.specs.ContractCalls.{contract_call}
use Rattle.cil_semantics.specs.Contracted.{Piece}
use Rattle.cil_semantics.specs.Frames.{clause_tys, captured_tys}
use Rattle.cil_semantics.specs.Lookups.{method_of}
use Rattle.cil_semantics.specs.Machine.{relocated_instr}
use Rattle.cil_semantics.specs.Places.{storage}
use Rattle.cil_semantics.specs.Returns.{returned, kept_as}
use Rattle.cil_semantics.specs.Tokens.{Here, local_tys, meaning_here, constrained_here}
use Rattle.cil_semantics.specs.Types.{under}
use Rattle.cil_semantics.specs.Unwind.{body_of, moved_to, next_place}
use Rattle.cil_semantics.specs.declared.contract_call.ContractCall.{ContractCall}
use Rattle.cil_semantics.specs.declared.contract_call.ContractCall.TheVariants.{EndsClause, EndsBlock, Abbreviates, GivesResult, ReadsArgument, TakesOld, ChecksHere, NoContractCall}
use Rattle.cil_semantics.specs.declared.state.Frame.{Frame}
use Rattle.cil_semantics.specs.declared.state.ProgramPoint.{ProgramPoint}
use Rattle.cil_semantics.specs.declared.state.ProgramPoint.TheVariants.{LeadIn, InGroup, Rest}
use Rattle.il_opcodes.specs.Opcodes.{class_of}
use Rattle.il_opcodes.specs.declared.class.Class.TheVariants as class
use Rattle.machine_rows.specs.Everything.{everything}
use Rattle.splice_facts.specs.Grown.{IsCopy, NamesLocals}
use Rattle.splice_facts.specs.Input.{InputFacts, is_group, is_followed, never_in_clause, NamesGiving}
use Rattle.splice_facts.specs.Layout.{IsHere, Onward, fetch, LeadsOn, never_falls, stands_in}
use Rattle.splice_facts.specs.Related.{NamesInput}
use Rattle.splice_facts.specs.Spliced.{Spliced, IsPlainAt, goes_to, is_guarded}
use Rattle.splice_laws.specs.Straight.{Misses, LeavesFreely, ldarg, ldc, call, brtrue}
use Rattle.splice_rows.specs.OneRequires.{token, cgt}
use Rattle.splice_program.specs.Program.{input, contracts, numbers, next_plan, next_code, next_requires, next_ensures, next_throws, always_valid, a_piece, the_capture, nop, ldfld}
use Rattle.splice_program.specs.Written.{output, next_marks, next_places, next_belongs, next_regions, rest_places, not_run}
use Rattle.splice_program.proofs.PlaceLaws.{some_is, not_some, some_not, no_more, EachPlace, each_place, each_piece}
use Rattle.splice_program.proofs.NextCode.{Means, call_means, not_here}
use Rattle.splice_program.proofs.NextSeams.{the_old, at_method}
use Rattle.splice_program.proofs.RuntimeLaws.{depths}
use Rattle.splice_program.proofs.SeamLaws.{next_groups, next_wrapper}
use Rattle.splice_program.proofs.SmallLaws.{bounds, lies_before, lies_behind, never_found, never_left}

-- ---- what each instruction names and where it leads

abbrev NeverIn : ProgramPoint → Instr → Type 0
NeverIn (InGroup gr j q) i = never_in_clause (class_of i.op) ≡ false
NeverIn (LeadIn q) i = Unit {0}
NeverIn (Rest q) i = Unit {0}

-- locals of the method and of its clauses, of which there are none
abbrev no_locals : Here → ℕ
no_locals h = length (local_tys input h (body_of input 0).locals ++ clause_tys input h (Some next_plan))

abbrev pub Tells : ProgramPoint → Instr → Type 0
Tells at i =
    LeadsOn (Some next_plan) at i.operand × ((h : Here) → NamesLocals (no_locals h) (class_of i.op) i.operand) × NeverIn at i
    × ((h : Here) → NamesInput input 2 9 (meaning_here input h i)) × ((h : Here) → constrained_here input h i ≡ None) × ((h : Here) → NamesGiving input (meaning_here input h i))

tells_table : EachPlace Tells
unfolding everything core_of
tells_table = (
  (tt, λ h. tt, tt, λ h. tt, λ h. refl, λ h. tt),
  ((tt, λ h. tt, tt, λ h. tt, λ h. refl, λ h. tt), ((omega arith, λ h. tt, tt, λ h. tt, λ h. refl, λ h. tt), ((tt, λ h. tt, tt, λ h. tt, λ h. refl, λ h. tt), ((tt, λ h. tt, tt, λ h. tt, λ h. refl, λ h. tt), ((tt, λ h. tt, tt, λ h. tt, λ h. refl, λ h. tt), ((tt, λ h. tt, tt, λ h. (omega arith, refl, tt, tt), λ h. refl, λ h. tt), ((tt, λ h. tt, tt, λ h. tt, λ h. refl, λ h. tt), tt))))))),
  (
    (
      (λ st. (tt, λ h. tt, refl, λ h. tt, λ h. refl, λ h. tt), (λ st. (tt, λ h. tt, refl, λ h. tt, λ h. refl, λ h. tt), (λ st. (tt, λ h. tt, refl, λ h. tt, λ h. refl, λ h. tt), (λ st. (tt, λ h. tt, refl, λ h. (omega arith, refl, tt, tt), λ h. refl, λ h. tt), tt)))),
      (λ st. absurd (not_here st), (λ st. (tt, λ h. tt, refl, λ h. tt, λ h. refl, λ h. tt), (λ st. (tt, λ h. tt, refl, λ h. (omega arith, refl, tt, (refl, tt)), λ h. refl, λ h. tt), (λ st. absurd (not_here st), (λ st. absurd (not_here st), tt))))),
    ),
    (λ st. (tt, λ h. tt, refl, λ h. (omega arith, refl, tt, (refl, tt)), λ h. refl, λ h. tt), (λ st. (tt, λ h. tt, refl, λ h. tt, λ h. refl, λ h. tt), (λ st. absurd (not_here st), (λ st. (tt, λ h. tt, refl, λ h. tt, λ h. refl, λ h. tt), (λ st. (tt, λ h. tt, refl, λ h. (omega arith, refl, tt, tt), λ h. refl, λ h. tt), tt))))),
    (λ st. (tt, λ h. tt, refl, λ h. tt, λ h. refl, λ h. tt), (λ st. (tt, λ h. tt, refl, λ h. (refl, tt), λ h. refl, λ h. tt), (λ st. (tt, λ h. tt, refl, λ h. (omega arith, refl, tt, (refl, tt)), λ h. refl, λ h. tt), tt))),
    (λ st. (tt, λ h. tt, refl, λ h. tt, λ h. refl, λ h. tt), (λ st. (tt, λ h. tt, refl, λ h. (refl, tt), λ h. refl, λ h. tt), (λ st. (tt, λ h. tt, refl, λ h. (omega arith, refl, tt, tt), λ h. refl, λ h. tt), tt))),
  ),
)

pub tells : (at : ProgramPoint) (i : Instr) → IsHere (Some next_plan) at → fetch input contracts numbers (Some next_plan) 0 at ≡ Some i → Tells at i
tells at i here e = each_place Tells tells_table at i here e

-- what follows a call in a clause
followed : (gr : Group) (j q : ℕ) (x : Piece) (i : Instr) (c : ContractCall) → Means gr j x q i c → is_followed c ≡ true → IsHere (Some next_plan) (InGroup gr j (q + 1))
followed gr j q x i GivesResult h t = h.1
followed gr j q x i (ChecksHere kd) h t = absurd h
followed gr j q x i ReadsArgument h t = absurd h
followed gr j q x i (EndsClause kd) h t = absurd (not_here t)
followed gr j q x i EndsBlock h t = absurd (not_here t)
followed gr j q x i Abbreviates h t = absurd (not_here t)
followed gr j q x i TakesOld h t = absurd (not_here t)
followed gr j q x i NoContractCall h t = absurd (not_here t)

nothing_returned : (f : Frame) → f.method ≡ 0 → returned input f [] ≡ None
unfolding everything
nothing_returned f me = ap (λ m. kept_as input (under f.type_args f.method_args (method_of input m).result) (storage input (under f.type_args f.method_args (method_of input m).result)) []) me

-- the one captured value
captured_there : (q : ℕ) (o : ℕ × Old) → recalled (a_piece next_ensures 0) q ≡ Some o → o.0 < 1
captured_there q o h = by_test (1 == q) h
  where
    by_test : (b : Bool) → (if b then Some the_old else None) ≡ Some o → o.0 < 1
    by_test true f = subst (λ (z : ℕ × Old). z.0 < 1) (some_is the_old o f) (omega arith)
    by_test false f = absurd (not_some o f)

pub next_facts : InputFacts input contracts numbers 0 (Some next_plan)
unfolding everything
next_facts =
    record {
      starts = omega arith;
      jumps = λ at i here e. (tells at i here e).0;
      names = λ at i here e h q. (tells at i here e).1 h;
      lands = λ at q skip fits here h. tt;
      left_lands = λ at q skip t x here n h e. absurd (not_some x e);
      pieces =
          record {
            begins_in = λ gr j x e. each_piece (λ g1 j1 z. (z.from < length z.clause.instrs) × IsTrue (stands_in z z.from)) (((omega arith, refl), (omega arith, refl)), (omega arith, refl), (omega arith, refl), (omega arith, refl)) gr j x e;
            no_such = λ gr j q i here e. (tells (InGroup gr j q) i here e).2;
            has_result = λ gr j q x i f fs m a here e s c. ((subst (Means gr j x q i) c (call_means gr j q x i here e s)).0, nothing_returned f m);
            goes_on = λ gr j q x i here e n s c. followed gr j q x i (contract_call input i) (call_means gr j q x i here e s) c;
            takes = λ gr j q x i here e n s c. (subst (Means gr j x q i) c (call_means gr j q x i here e s)).0;
            olds = λ gr j q x o here e d. each_piece (λ g1 j1 z. recalled z q ≡ Some o → z.first_captured + o.0 < 1) ((λ h. absurd (not_some o h), λ h. absurd (not_some o h)), λ h. let z = captured_there q o h in omega (arith, z), λ h. absurd (not_some o h), λ h. absurd (not_some o h)) gr j x e d;
          };
    }

-- ---- the copies

abbrev Placed : ProgramPoint → Instr → Type 0
Placed at i =
    IsTrue (next_belongs at (next_places at))
    × (IsPlainAt input contracts output numbers 2 depths 0 (Some next_plan) at i
    → ((i' : Instr) × (slice_get (body_of output 0).instrs (next_places at) ≡ Some i') × IsCopy input output 0 (λ t. next_places (moved_to t at)) i i')
    × (never_falls (class_of i.op) ≡ false → Onward (Some next_plan) next_places at (next_place at)))

falls : true ≡ false → ⊥
falls e = cc e

placed_table : EachPlace Placed
unfolding everything
placed_table = (
  (refl, λ pl. ((nop, refl, record { op = refl; named = (0, (token 0 0)); operand = refl; meaning = λ h q. refl; constrained = λ h q. refl }), λ n. record { there = omega arith; placed = refl })),
  (
    (refl, λ pl. ((ldarg 1, refl, record { op = refl; named = (0, (token 0 0)); operand = refl; meaning = λ h q. refl; constrained = λ h q. refl }), λ n. record { there = omega arith; placed = refl })),
    (
      (refl, λ pl. ((brtrue 26, refl, record { op = refl; named = (0, (token 0 0)); operand = refl; meaning = λ h q. refl; constrained = λ h q. refl }), λ n. record { there = omega arith; placed = refl })),
      (
        (refl, λ pl. ((ldc (pos 1), refl, record { op = refl; named = (0, (token 0 0)); operand = refl; meaning = λ h q. refl; constrained = λ h q. refl }), λ n. record { there = omega arith; placed = refl })),
        (
          (refl, λ pl. absurd ((pl.1) refl refl)),
          (
            (refl, λ pl. ((ldarg 1, refl, record { op = refl; named = (0, (token 0 0)); operand = refl; meaning = λ h q. refl; constrained = λ h q. refl }), λ n. record { there = omega arith; placed = refl })),
            (
              (refl, λ pl. ((call 0 (token 6 1), refl, record { op = refl; named = (0, (token 6 1)); operand = refl; meaning = λ h q. refl; constrained = λ h q. refl }), λ n. record { there = omega arith; placed = refl })),
              ((refl, λ pl. absurd ((pl.1) refl refl)), tt),
            ),
          ),
        ),
      ),
    ),
  ),
  (
    (
      (λ st. (refl, λ pl. ((ldarg 1, refl, record { op = refl; named = (0, (token 0 0)); operand = refl; meaning = λ h q. refl; constrained = λ h q. refl }), λ n. record { there = (a_piece next_requires 0, refl, omega arith, refl); placed = refl })), (λ st. (refl, λ pl. ((ldc (negsuc 0), refl, record { op = refl; named = (0, (token 0 0)); operand = refl; meaning = λ h q. refl; constrained = λ h q. refl }), λ n. record { there = (a_piece next_requires 0, refl, omega arith, refl); placed = refl })), (λ st. (refl, λ pl. ((cgt, refl, record { op = refl; named = (0, (token 0 0)); operand = refl; meaning = λ h q. refl; constrained = λ h q. refl }), λ n. record { there = (a_piece next_requires 0, refl, omega arith, refl); placed = refl })), (λ st. (refl, λ pl. absurd (not_here pl.0)), tt)))),
      (λ st. absurd (not_here st), (λ st. (refl, λ pl. ((ldarg 1, refl, record { op = refl; named = (0, (token 0 0)); operand = refl; meaning = λ h q. refl; constrained = λ h q. refl }), λ n. record { there = (the_capture, refl, omega arith, refl); placed = refl })), (λ st. (refl, λ pl. absurd (not_here pl.0)), (λ st. absurd (not_here st), (λ st. absurd (not_here st), tt))))),
    ),
    (λ st. (refl, λ pl. absurd (not_here pl.0)), (λ st. (refl, λ pl. absurd (some_not the_old ((pl.1) (a_piece next_ensures 0) refl))), (λ st. absurd (not_here st), (λ st. (refl, λ pl. ((cgt, refl, record { op = refl; named = (0, (token 0 0)); operand = refl; meaning = λ h q. refl; constrained = λ h q. refl }), λ n. record { there = (a_piece next_ensures 0, refl, omega arith, refl); placed = refl })), (λ st. (refl, λ pl. absurd (not_here pl.0)), tt))))),
    (λ st. (refl, λ pl. ((ldarg 0, refl, record { op = refl; named = (0, (token 0 0)); operand = refl; meaning = λ h q. refl; constrained = λ h q. refl }), λ n. record { there = (a_piece next_throws 1, refl, omega arith, refl); placed = refl })), (λ st. (refl, λ pl. ((ldfld (token 4 1), refl, record { op = refl; named = (0, (token 4 1)); operand = refl; meaning = λ h q. refl; constrained = λ h q. refl }), λ n. record { there = (a_piece next_throws 1, refl, omega arith, refl); placed = refl })), (λ st. (refl, λ pl. absurd (not_here pl.0)), tt))),
    (λ st. (refl, λ pl. ((ldarg 0, refl, record { op = refl; named = (0, (token 0 0)); operand = refl; meaning = λ h q. refl; constrained = λ h q. refl }), λ n. record { there = (a_piece always_valid 1, refl, omega arith, refl); placed = refl })), (λ st. (refl, λ pl. ((ldfld (token 4 1), refl, record { op = refl; named = (0, (token 4 1)); operand = refl; meaning = λ h q. refl; constrained = λ h q. refl }), λ n. record { there = (a_piece always_valid 1, refl, omega arith, refl); placed = refl })), (λ st. (refl, λ pl. absurd (not_here pl.0)), tt))),
  ),
)

placed : (at : ProgramPoint) (i : Instr) → IsHere (Some next_plan) at → fetch input contracts numbers (Some next_plan) 0 at ≡ Some i → Placed at i
placed at i here e = each_place Placed placed_table at i here e

-- behind the rest stands an instruction that isn't run
past_end : (xs : List ℕ) (q d : ℕ) → length xs ≤ q → get_or xs q d ≡ d
past_end [] q d le = refl
past_end (x ∷ xs) zero d le = absurd (omega (arith, le))
past_end (x ∷ xs) (suc q) d le = past_end xs q d (omega (arith, le))

last_place : (q : ℕ) → slice_get next_code q ≡ None → next_places (Rest q) ≡ 30
last_place q e = past_end rest_places q 30 (no_more next_code q e)

-- a place of a clause has an instruction
has_instr : (gr : Group) (j q : ℕ) → IsHere (Some next_plan) (InGroup gr j q) → fetch input contracts numbers (Some next_plan) 0 (InGroup gr j q) ≡ None → ⊥
has_instr gr j q here e = by_instr (slice_get here.0.clause.instrs q) refl (sym (ap (option_and_then (λ (x : Piece). option_map (relocated_instr x.first_local) (slice_get x.clause.instrs q))) here.1) ∙ e)
  where
    by_instr : (o : Option Instr) → slice_get here.0.clause.instrs q ≡ o → option_map (relocated_instr here.0.first_local) o ≡ None → ⊥
    by_instr None s f = let z = no_more here.0.clause.instrs q s in let l = here.2 in omega (arith, z, l)
    by_instr (Some a) s f = some_not (relocated_instr here.0.first_local a) f

ends : (at : ProgramPoint) (i' : Instr) → IsHere (Some next_plan) at → fetch input contracts numbers (Some next_plan) 0 at ≡ None → slice_get (body_of output 0).instrs (next_places at) ≡ Some i' → class_of i'.op ≡ class.Unsupported
unfolding everything
ends (LeadIn zero) i' here n e = absurd (some_not nop n)
ends (LeadIn (suc q)) i' here n e = absurd (omega (arith, here))
ends (InGroup gr j q) i' here n e = absurd (has_instr gr j q here n)
ends (Rest q) i' here n e = subst (λ (i : Instr). class_of i.op ≡ class.Unsupported) (some_is not_run i' (sym (ap (slice_get (body_of output 0).instrs) (last_place q n)) ∙ e)) refl

own : (at : ProgramPoint) → IsHere (Some next_plan) at → IsTrue (next_belongs at (next_places at))
unfolding everything
own at here = by_instr (fetch input contracts numbers (Some next_plan) 0 at) refl
  where
    behind : (a : ProgramPoint) → IsHere (Some next_plan) a → fetch input contracts numbers (Some next_plan) 0 a ≡ None → IsTrue (next_belongs a (next_places a))
    behind (LeadIn zero) h e = absurd (some_not nop e)
    behind (LeadIn (suc q)) h e = absurd (omega (arith, h))
    behind (InGroup gr j q) h e = absurd (has_instr gr j q h e)
    behind (Rest q) h e = subst (λ n. IsTrue (next_belongs (Rest q) n)) (sym (last_place q e)) refl

    by_instr : (o : Option Instr) → fetch input contracts numbers (Some next_plan) 0 at ≡ o → IsTrue (next_belongs at (next_places at))
    by_instr None e = behind at here e
    by_instr (Some i) e = (placed at i here e).0

-- the places of the lead-in and of the rest are in no finally, those of the lead-in in no try at all
free_at : (at : ProgramPoint) (q q' : ℕ) → is_group at ≡ false → IsTrue (next_belongs (moved_to q at) q') → LeavesFreely q' next_regions
free_at (LeadIn a) q q' n bel =
    let b = (bounds 0 1 q' bel).1 in
    (refl, (lies_before 3 19 q' (omega (arith, b)), (lies_before 57 68 q' (omega (arith, b)), (lies_before 39 51 q' (omega (arith, b)), (lies_before 72 82 q' (omega (arith, b)), (refl, tt))))))
free_at (InGroup gr j a) q q' n bel = absurd (falls n)
free_at (Rest a) q q' n bel =
    let b = bounds 21 31 q' bel in
    (refl, (lies_behind 3 19 q' (omega (arith, b.0)), (lies_before 57 68 q' (omega (arith, b.1)), (lies_before 39 51 q' (omega (arith, b.1)), (lies_before 72 82 q' (omega (arith, b.1)), (refl, tt))))))

misses_at : (at : ProgramPoint) (q q' : ℕ) → is_group at ≡ false → is_guarded input contracts output numbers 2 depths (Some next_plan) at ≡ false → IsTrue (next_belongs (moved_to q at) q') → Misses q' next_regions
misses_at (LeadIn a) q q' n g bel =
    let b = (bounds 0 1 q' bel).1 in
    (lies_before 14 17 q' (omega (arith, b)), (lies_before 3 19 q' (omega (arith, b)), (lies_before 57 68 q' (omega (arith, b)), (lies_before 39 51 q' (omega (arith, b)), (lies_before 72 82 q' (omega (arith, b)), (lies_before 21 31 q' (omega (arith, b)), tt))))))
misses_at (InGroup gr j a) q q' n g bel = absurd (falls n)
misses_at (Rest a) q q' n g bel = absurd (falls g)

pub next_spliced : Spliced input contracts output numbers 2 depths 0 (Some next_plan) next_marks
unfolding everything
next_spliced =
    record {
      locals = λ here e. at_method (λ h. local_tys output h (body_of output 0).locals ≡ (local_tys input h (body_of input 0).locals ++ clause_tys input h (Some next_plan)) ++ (captured_tys input h (Some next_plan) ++ (next_marks).extra h)) here e refl;
      counts = λ here e. (refl, refl);
      begins = refl;
      copied = λ at i here e pl. ((placed at i here e).1 pl).0;
      ends = ends;
      goes_on = λ at i here e pl n. ((placed at i here e).1 pl).1 n;
      own = own;
      finds = λ at q skip q' fits here n h bel found. absurd found;
      finally = λ at q skip t q' here n h can bel. ap (option_map (λ (x : ℕ × Region). goes_to input contracts output numbers 2 depths x.0 x.1.handler_from)) (never_left skip 0 q' (next_places (moved_to t at)) next_regions (free_at at q q' n bel));
      handlers = λ at h q' here n low bel. absurd (omega (arith, low));
      unguarded = λ at q skip q' fits here n g h bel none. never_found fits skip 0 q' next_regions (misses_at at q q' n g bel);
      wrapper = λ f fs fs' w ex ss b q skip q' q0 x hs hs' me s low here g moved bel most none thrown. next_wrapper.wrapper f fs fs' w ex ss b q skip q' q0 x hs hs' me s low here g moved bel most none thrown;
      groups = next_groups;
    }
