-- Contract calls where they stand, in both runs.
use Rattle.std.proofs.Common.{◌≡◌, ℕ, suc, ◌+◌, ◌*◌, ◌<◌, ◌≤◌, Bool, true, false, List, [], ◌∷◌, length, Option, Some, None, refl, sym, ap, ◌∙◌, subst, arith, eqb-true, length-set}
use Rattle.std.specs.Prelude.{◌==◌, ◌&&◌, if◌then◌else◌, option_and_then, slice_get, slice_set, is_some, IsTrue, codes}
use Rattle.cil_model.specs.declared.ty.Ty.{Ty, out-Ty}
use Rattle.cil_model.specs.declared.value.Value.{Value, out-Value}
use Rattle.cil_model.specs.declared.value.Value as val
use Rattle.cil_model.specs.declared.value.Pointer.{Pointer}
use Rattle.cil_model.specs.declared.body.Instr.{Instr}
use Rattle.cil_model.specs.declared.contract.ClauseKind.{ClauseKind}
use Rattle.cil_model.specs.declared.contract.ClauseKind.TheVariants as kind
use Rattle.cil_model.specs.declared.contract.Contracts.{Contracts}
use Rattle.cil_model.specs.declared.contract.Group.{Group}
use Rattle.cil_model.specs.declared.contract.Group.TheVariants as group
use Rattle.cil_model.specs.declared.contract.Old.{Old}
use Rattle.cil_model.specs.declared.program.Meaning.{Meaning}
use Rattle.cil_model.specs.declared.program.Meaning.TheVariants.{OfType, OfField, OfMethod, OfText, OfLocals}
use Rattle.cil_model.specs.declared.program.Program.{Program}
use Rattle.cil_model.specs.declared.program.MethodDesc.{MethodDesc}
use Rattle.cil_model.specs.NoContracts.{no_contracts}
use Rattle.cil_semantics.specs.Core.{Name}
use Rattle.cil_semantics.specs.Lookups.{method_of}
use Rattle.cil_semantics.specs.Tokens.{own_meaning, meaning_here}
use Rattle.cil_semantics.specs.Places.{storage, seen_as, set_cell}
use Rattle.cil_semantics.specs.declared.state.Cell.{Cell}
use Rattle.cil_semantics.specs.declared.state.Local.{Local as LocalState}
use Rattle.cil_semantics.specs.declared.state.World.{World}
use Rattle.cil_semantics.specs.declared.state.Statics.{Statics}
use Rattle.cil_semantics.specs.declared.state.ProgramPoint.{ProgramPoint}
use Rattle.cil_semantics.specs.declared.state.ProgramPoint.TheVariants.{LeadIn, InGroup, Rest}
use Rattle.cil_semantics.specs.declared.state.Handling.{Handling}
use Rattle.cil_semantics.specs.declared.state.Frame.{Frame}
use Rattle.cil_semantics.specs.State.{Next, pushed, with_stack}
use Rattle.cil_semantics.specs.declared.state.Continuation.{Continuation}
use Rattle.cil_semantics.specs.Contracted.{Piece, Plan, rank}
use Rattle.cil_semantics.specs.Unwind.{body_of, plan_at, here_of, place_in, moved_to, next_place, goes_at, arrive_in, unwind}
use Rattle.cil_semantics.specs.Frames.{stuck, if_there, read, load, go_on}
use Rattle.cil_semantics.specs.Calls.{pointed}
use Rattle.cil_semantics.specs.Returns.{returned, piece_over}
use Rattle.cil_semantics.specs.ContractCalls.{is_called, condition_call, other_call, member_call, abbreviator_call, static_call, contract_call, has_message, takes_condition, takes_one, is_own, is_own_by_ref, is_contract}
use Rattle.cil_semantics.specs.declared.contract_call.ContractCall.{ContractCall}
use Rattle.cil_semantics.specs.declared.contract_call.ContractCall.TheVariants.{EndsClause, EndsBlock, Abbreviates, GivesResult, ReadsArgument, TakesOld, ChecksHere, NoContractCall}
use Rattle.cil_semantics.specs.Types.{is_empty}
use Rattle.cil_semantics.specs.Checks.{AddedNumbers, Failure, Condition, Sequel, condition_in, dropped, check, check_inline, capture, recalled, goes_on_from}
use Rattle.cil_semantics.specs.Machine.{recall, read_argument}
use Rattle.splice_facts.specs.Exceptions.{IsObject}
use Rattle.splice_facts.specs.Bodies.{with_methods}
use Rattle.splice_facts.specs.Grown.{grow, beside}
use Rattle.splice_facts.specs.Comes.{Comes, Goes}
use Rattle.splice_facts.specs.Input.{is_followed}
use Rattle.splice_facts.specs.WellFormed.{WellFormedPointer, WellFormedValue, WellFormedValues}
use Rattle.splice_facts.specs.Layout.{Marks, Keeps, IsHere, CanArrive}
use Rattle.splice_facts.specs.Spliced.{Paired, Checked, IsInline, from_here, stands, loaded_at, failure_cost}
use Rattle.splice_facts.specs.Related.{Rewritten, HasResult, count_groups, in_group}
use Rattle.splice_facts.specs.Related as Pairs
use Rattle.simulation_calls.specs.Failures as Failing
use Rattle.simulation_calls.specs.Inline as Inline
use Rattle.simulation.proofs.ArriveLaws as Arriving
use Rattle.simulation.proofs.ArriveLaws.{groups_of, pieces_of}
use Rattle.simulation.proofs.PushLaws.{waits_moved, fits_moved}
use Rattle.simulation.proofs.UnwindLaws as Unwinding
use Rattle.simulation.proofs.UnwindLaws.{as_many, unwinds, unwinds_at}
use Rattle.simulation_steps.proofs.ReturnLaws as Returning
use Rattle.simulation_steps.proofs.PointerLaws.{reads, twins, stands_changed}
use Rattle.simulation.proofs.ProgramLaws.{storage_same}
use Rattle.splice_facts.proofs.ComesLaws.{comes_at_once, moves_to_end}
use Rattle.simulation_calls.proofs.CheckLaws as Checking
use Rattle.simulation_calls.proofs.ClauseLaws as Clausing

-- ---- a check that stands in code is an Assert or an Assume

abbrev NoRequiresOf : ContractCall → Type 0
NoRequiresOf c = (kd : ClauseKind) → c ≡ ChecksHere kd → kd ≡ kind.RequiresOf → ⊥

condition_checks : (d : MethodDesc) → NoRequiresOf (condition_call d)
condition_checks d kd e q = by_tests (is_called d (codes "Requires") 0) (is_called d (codes "Requires") 1) (is_called d (codes "Ensures") 0) (is_called d (codes "EnsuresOnThrow") 1) (is_called d (codes "Invariant") 0) (is_called d (codes "Assert") 0) (is_called d (codes "Assume") 0) e
  where
    by_tests : (a b c d1 f h j : Bool) → (if a then EndsClause kind.Requires else if b then EndsClause kind.RequiresOf else if c then EndsClause kind.Ensures else if d1 then EndsClause kind.Throws else if f then EndsClause kind.Invariant else if h then ChecksHere kind.Assert else if j then ChecksHere kind.Assume else NoContractCall) ≡ ChecksHere kd → ⊥
    by_tests true b c d1 f h j z = absurd (cc z)
    by_tests false true c d1 f h j z = absurd (cc z)
    by_tests false false true d1 f h j z = absurd (cc z)
    by_tests false false false true f h j z = absurd (cc z)
    by_tests false false false false true h j z = absurd (cc z)
    by_tests false false false false false true j z = let y : kind.Assert ≡ kd = cc z in let x : kind.Assert ≡ kind.RequiresOf = y ∙ q in absurd (cc x)
    by_tests false false false false false false true z = let y : kind.Assume ≡ kd = cc z in let x : kind.Assume ≡ kind.RequiresOf = y ∙ q in absurd (cc x)
    by_tests false false false false false false false z = absurd (cc z)

other_checks : (d : MethodDesc) → NoRequiresOf (other_call d)
other_checks d kd e q = by_tests (is_called d (codes "EndContractBlock") 0 && is_empty d.params) (is_called d (codes "Result") 1 && is_empty d.params) (is_called d (codes "OldValue") 1 && takes_one is_own d.params) (is_called d (codes "ValueAtReturn") 1 && takes_one is_own_by_ref d.params) e
  where
    by_tests : (a b c d1 : Bool) → (if a then EndsBlock else if b then GivesResult else if c then TakesOld else if d1 then ReadsArgument else NoContractCall) ≡ ChecksHere kd → ⊥
    by_tests true b c d1 z = absurd (cc z)
    by_tests false true c d1 z = absurd (cc z)
    by_tests false false true d1 z = absurd (cc z)
    by_tests false false false true z = absurd (cc z)
    by_tests false false false false z = absurd (cc z)

-- of two calls
either_checks : (b : Bool) (c d : ContractCall) → NoRequiresOf c → NoRequiresOf d → NoRequiresOf (if b then c else d)
either_checks true c d x y = x
either_checks false c d x y = y

no_checks : NoRequiresOf NoContractCall
no_checks kd e q = absurd (cc e)

block_checks : NoRequiresOf Abbreviates
block_checks kd e q = absurd (cc e)

abbreviator_checks : (p : Program) (m : Option Meaning) → NoRequiresOf (abbreviator_call p m)
abbreviator_checks p (Some (OfMethod owner m args)) = either_checks (method_of p m).abbreviator Abbreviates NoContractCall block_checks no_checks
abbreviator_checks p _ = no_checks

static_checks : (p : Program) (m : Option Meaning) → NoRequiresOf (static_call p m)
static_checks p (Some (OfMethod owner m args)) =
    either_checks (is_contract p (out-Ty owner)) (member_call (method_of p m)) (abbreviator_call p (Some (OfMethod owner m args)))
    (either_checks (takes_condition (method_of p m).params) (condition_call (method_of p m)) (other_call (method_of p m)) (condition_checks (method_of p m)) (other_checks (method_of p m)))
    (abbreviator_checks p (Some (OfMethod owner m args)))
static_checks p _ = no_checks

pub call_checks : (p : Program) (i : Instr) → NoRequiresOf (contract_call p i)
unfolding contract_call
call_checks p i =
    either_checks (i.op == 0x28) (static_call p (own_meaning p i.operand)) (if i.op == 0x6F then abbreviator_call p (own_meaning p i.operand) else NoContractCall) (static_checks p (own_meaning p i.operand))
    (either_checks (i.op == 0x6F) (abbreviator_call p (own_meaning p i.operand)) NoContractCall (abbreviator_checks p (own_meaning p i.operand)) no_checks)

module _ (p : Program) (k : Contracts) (ms : List MethodDesc) (g : AddedNumbers) (r : Rewritten p k ms g) where
  -- where a well-formed value points
  pointer_fine : (v : Value) (q : Pointer) → WellFormedValue (Pairs.bounds p k ms g r) v → pointed (out-Value v) ≡ Some q → WellFormedPointer (Pairs.bounds p k ms g r) q
  unfolding Rattle.cil_model.specs.declared.value.Value.out-Value denote.Hole.Carrier.out
  pointer_fine (val.Ptr q0) q fine e = let y : q0 ≡ q = cc e in subst (WellFormedPointer (Pairs.bounds p k ms g r)) y fine
  pointer_fine _ q fine e = absurd (cc e)

  abbrev p' : Program
  p' = with_methods p ms

  abbrev To : ℕ → Next → Next → Type 0
  To n x y = Unwinding.To p k ms g r n x y

  abbrev An : ℕ → Next → Next → Type 0
  An n x y = Unwinding.An p k ms g r n x y

  abbrev lay : ℕ → ℕ
  lay n = Unwinding.lay p k ms g r n

  abbrev cst : ℕ
  cst = Unwinding.cst p k ms g r

  abbrev mk : ℕ → Marks
  mk m = Pairs.marks_in p k ms g r m

  abbrev IsBeside : World → List Statics → Type 0
  IsBeside w ss = Unwinding.IsBeside p k ms g r w ss

  abbrev from : Frame → List Cell → Continuation → List Frame → World → List Statics → List Handling → Next
  from h ex b' fs' w ss hs' = from_here p k p' g r.types r.depths (mk h.method) h ex b' fs' w ss hs'

  -- ---- in a piece

  module _ (c : Plan) (gr : Group) (j q : ℕ) (x : Piece) (h : Frame) (ex : List Cell) (b' : Continuation) (fs fs' : List Frame) (w : World) (ss : List Statics) (z : Failing.InPiece p k ms g r c gr j q x h ex b' fs fs' w ss) where
    scene : Paired p k p' g r.types r.depths (mk h.method) h fs fs' w ex ss
    scene = record { keeps = z.keeps; beside = z.alike; numbers = as_many p k ms g r h.continuation b' fs fs' z.under; deep = z.deep }

    is_here : IsHere (Some c) h.at
    is_here = subst (λ o. IsHere o h.at) z.plan z.here

    -- the clause goes on behind a call that ends nothing
    behind_call : (i : Instr) → slice_get x.clause.instrs q ≡ Some i → recalled x q ≡ None → is_followed (contract_call p i) ≡ true → CanArrive (Some c) (moved_to (place_in h.at + 1) h.at)
    behind_call i ei un call =
        subst (λ a. CanArrive (Some c) (moved_to (place_in a + 1) a)) (sym z.at) ((pieces_of p k ms g r h.method c z.plan (z.stands).old).goes_on gr j q x i (subst (IsHere (Some c)) z.at is_here) z.piece un ei call)

    over_with : (cells : List Cell) (rest : List Value) → length cells ≡ length h.local.captured
        → To (4 * cst + lay (suc (suc (length fs)))) (piece_over p k c gr j (record h { local = record h.local { captured = cells; stack = rest } }) fs w) (stands p k p' g r.types r.depths h (record h.local { captured = cells; stack = rest }) ex ((mk h.method).behind gr j) b' fs' w ss)
    over_with cells rest same =
        let some : 0 < w.depth = omega (arith, z.count) in
        Returning.piece_is_over p k ms g r c gr j x h (record h.local { captured = cells; stack = rest }) ex b' fs fs' w ss (Clausing.not_inline c gr j x z.piece) z.stays (Clausing.fits_in p k ms g r gr j q h fs z.at z.stands) z.piece
        (record {
          plan = z.plan;
          old = (z.stands).old;
          keeps = record { typed = (z.keeps).typed; result = (z.keeps).result; thrown = (z.keeps).thrown; wide = (z.keeps).wide; caps = same ∙ (z.keeps).caps };
          under = z.under;
          others = z.others;
          own = (z.stands).initializes;
          fine_back = z.fine_back;
          deep = omega (arith, z.deep);
          count = omega (arith, z.count);
          heap = z.heap;
          thrown = z.thrown;
          back = z.back;
          named = z.named;
        }) z.alike z.deep some

    pub captures_old : (n : ℕ) (i : Instr) → x.captures ≡ Some n → slice_get x.clause.instrs q ≡ Some i → contract_call p i ≡ TakesOld → An (cst + (4 * cst + lay (suc (suc (length fs))))) (capture p k c gr j n h h.local.stack fs w) (from h ex b' fs' w ss [])
    captures_old n i en ei call =
        Unwinding.answer_by p k ms g r cst (4 * cst + lay (suc (suc (length fs)))) _ _ _ ((groups_of p k ms g r h.method c z.plan (z.stands).old).takes gr j q x i n h fs fs' w ex ss b' refl z.at is_here z.piece en ei call scene) (by_stack h.local.stack)
      where
        kept : List Value → Next
        kept vs = Rattle.splice_facts.specs.Spliced.kept_in p k p' g r.types r.depths vs n h ex b' fs' w ss ((mk h.method).behind gr j)

        by_cell : (rest : List Value) (o : Option Cell) → To (4 * cst + lay (suc (suc (length fs)))) (if_there o w (λ y. piece_over p k c gr j (record h { local = record h.local { captured = slice_set h.local.captured n y; stack = rest } }) fs w)) (if_there o (beside ss w) (λ y. stands p k p' g r.types r.depths h (record h.local { captured = slice_set h.local.captured n y; stack = rest }) ex ((mk h.method).behind gr j) b' fs' w ss))
        by_cell rest None = Arriving.stuck_both p k ms g r _ w ss z.alike
        by_cell rest (Some y) = over_with (slice_set h.local.captured n y) rest (length-set h.local.captured n y)

        by_stack : (vs : List Value) → To (4 * cst + lay (suc (suc (length fs)))) (capture p k c gr j n h vs fs w) (kept vs)
        by_stack [] = Arriving.stuck_both p k ms g r _ w ss z.alike
        by_stack (v ∷ rest) = by_cell rest (option_and_then (set_cell p v) (slice_get h.local.captured n))

    -- the frame goes on at a place of its piece
    in_piece : (t : ℕ) (l : LocalState) (at : ProgramPoint) → at ≡ InGroup gr j q → arrive_in p (Some c) h (moved_to t at) l h.handling fs w ≡ goes_at p h (moved_to t at) l [] fs w
    in_piece t l (InGroup gr2 j2 q2) e = refl
    in_piece t l (LeadIn a) e = absurd (cc e)
    in_piece t l (Rest a) e = absurd (cc e)

    is_there : (t : ℕ) (at : ProgramPoint) → at ≡ InGroup gr j q → CanArrive (Some c) (moved_to t at) → IsHere (Some c) (moved_to t at)
    is_there t (InGroup gr2 j2 q2) e can = can
    is_there t (LeadIn a) e can = absurd (cc e)
    is_there t (Rest a) e can = absurd (cc e)

    -- with another stack
    kept_with : (l : LocalState) → l ≡ with_stack h.local l.stack → Keeps (mk h.method) (here_of h fs) h.thrown l ex
    kept_with l e =
        subst (λ y. Keeps (mk h.method) (here_of h fs) h.thrown y ex) (sym e)
        (record { typed = (z.keeps).typed; result = (z.keeps).result; thrown = (z.keeps).thrown; wide = (z.keeps).wide; caps = (z.keeps).caps })

    goes_in_piece : (n : ℕ) (start : Next) (t : ℕ) (l : LocalState) → l ≡ with_stack h.local l.stack → CanArrive (Some c) (moved_to t h.at) → Comes p' n start (stands p k p' g r.types r.depths h l ex ((mk h.method).places (moved_to t h.at)) b' fs' w ss)
        → To (n + lay (suc (length fs))) (arrive_in p (plan_at k p h.method) h (moved_to t h.at) l h.handling fs w) start
    goes_in_piece n start t l e can comes =
        subst (λ y. To (n + lay (suc (length fs))) y start) (sym (ap (λ o. arrive_in p o h (moved_to t h.at) l h.handling fs w) z.plan ∙ in_piece t l h.at z.at))
        (Arriving.arrives_here p k ms g r n start h (moved_to t h.at) l b' fs fs' w (z.stands).old (subst (λ o. IsHere o (moved_to t h.at)) (sym z.plan) (is_there t h.at z.at can)) (record { extra = ex; keeps = kept_with l e; statics = ss; beside = z.alike; comes = comes }) z.under)

    -- the same in at least one step
    moves_in_piece : (n : ℕ) (start : Next) (t : ℕ) (l : LocalState) → l ≡ with_stack h.local l.stack → CanArrive (Some c) (moved_to t h.at) → Goes p' n start (stands p k p' g r.types r.depths h l ex ((mk h.method).places (moved_to t h.at)) b' fs' w ss)
        → An (n + lay (suc (length fs))) (arrive_in p (plan_at k p h.method) h (moved_to t h.at) l h.handling fs w) start
    moves_in_piece n start t l e can goes =
        Unwinding.answer_within p k ms g r (n + (0 + lay (suc (length fs)))) _ _ _ (omega arith)
        (Unwinding.answer_by p k ms g r n (0 + lay (suc (length fs))) _ _ _ goes (goes_in_piece 0 _ t l e can (comes_at_once p' 0 _ _ refl)))

    pub recalls_old : (o : ℕ × Old) (v : Cell) → recalled x q ≡ Some o → slice_get h.local.captured (x.first_captured + o.0) ≡ Some v → An (cst + lay (suc (length fs))) (recall p k g x o h fs w) (from h ex b' fs' w ss [])
    recalls_old o v eo ev =
        let a = (groups_of p k ms g r h.method c z.plan (z.stands).old).recalls gr j q x o v h fs fs' w ex ss b' refl z.at is_here z.piece eo ev scene in
        subst (λ y. An (cst + lay (suc (length fs))) (if_there y w (λ (cell : Cell). arrive_in p (plan_at k p h.method) h (moved_to (o.1.to + 1) h.at) (pushed cell.value h.local) h.handling fs w)) (from h ex b' fs' w ss [])) (sym ev) (moves_in_piece cst _ (o.1.to + 1) (pushed v.value h.local) refl a.0 a.1)

    pub gives_result : (i : Instr) → slice_get x.clause.instrs q ≡ Some i → contract_call p i ≡ GivesResult → HasResult p h h.at → recalled x q ≡ None → An (cst + lay (suc (length fs))) (if_there h.local.result w (λ v. go_on p k h (pushed v h.local) fs w)) (from h ex b' fs' w ss [])
    gives_result i ei call has un = by_result h.local.result refl
      where
        facts : (gr ≡ group.Exit) × (returned p h [] ≡ None)
        facts = (pieces_of p k ms g r h.method c z.plan (z.stands).old).has_result gr j q x i h fs refl z.at (subst (IsHere (Some c)) z.at is_here) z.piece ei call

        is_there_now : IsTrue (is_some h.local.result)
        is_there_now = subst (λ y. HasResult p h (InGroup y j q)) facts.0 (subst (HasResult p h) z.at has) facts.1

        by_result : (o : Option Value) → h.local.result ≡ o → An (cst + lay (suc (length fs))) (if_there o w (λ v. go_on p k h (pushed v h.local) fs w)) (from h ex b' fs' w ss [])
        by_result None e = absurd (cc (sym (ap is_some e) ∙ is_there_now))
        by_result (Some v) e = moves_in_piece cst _ (place_in h.at + 1) (pushed v h.local) refl (behind_call i ei un (ap is_followed call)) ((groups_of p k ms g r h.method c z.plan (z.stands).old).results gr j q x i v h fs fs' w ex ss b' refl z.at is_here z.piece ei call e scene)

    -- what stands where a pointer leads, from the frame with this stack
    same_read : (rest : List Value) (y : Pointer) → WellFormedPointer (Pairs.bounds p k ms g r) y
        → read p' (Unwinding.tw p k ms g r h (with_stack h.local rest) ex ((mk h.method).places h.at) [] b' ∷ fs') (beside ss w) y ≡ read p (record h { local = with_stack h.local rest } ∷ fs) w y
    same_read rest y fine =
        reads p k ms g r (record h { local = with_stack h.local rest } ∷ fs) (Unwinding.tw p k ms g r h (with_stack h.local rest) ex ((mk h.method).places h.at) [] b' ∷ fs') w ss y fine
        (stands_changed p k ms g r h fs (with_stack h.local rest) z.stands refl, z.others)
        (ex, refl, refl, as_many p k ms g r h.continuation b' fs fs' z.under, twins p k ms g r h.continuation b' fs fs' z.under) z.alike

    pub loads_through : (i : Instr) → slice_get x.clause.instrs q ≡ Some i → contract_call p i ≡ ReadsArgument → recalled x q ≡ None → WellFormedValues (Pairs.bounds p k ms g r) h.local.stack
        → An (cst + lay (suc (length fs))) (read_argument p k g (meaning_here p (here_of h fs) i) h.local.stack h fs w) (from h ex b' fs' w ss [])
    loads_through i ei call un fine =
        Unwinding.answer_by p k ms g r cst (lay (suc (length fs))) _ _ _ ((groups_of p k ms g r h.method c z.plan (z.stands).old).loads gr j q x i h fs fs' w ex ss b' refl z.at is_here z.piece un ei call scene) (by_meaning (meaning_here p (here_of h fs) i) h.local.stack fine)
      where
        L : List Value → LocalState
        L rest = with_stack h.local rest

        T : List Value → Frame
        T rest = Unwinding.tw p k ms g r h (L rest) ex ((mk h.method).places h.at) [] b'

        pushes_so : List Value → Value → Next
        pushes_so rest v = stands p k p' g r.types r.depths h (pushed v (L rest)) ex ((mk h.method).places (next_place h.at)) b' fs' w ss

        stuck_too : To (lay (suc (length fs))) (stuck w) (stuck (beside ss w))
        stuck_too = Arriving.stuck_both p k ms g r _ w ss z.alike

        by_read : (rest : List Value) (o : Option Value) → To (lay (suc (length fs))) (if_there o w (λ v. go_on p k h (pushed v (L rest)) fs w)) (if_there o (beside ss w) (pushes_so rest))
        by_read rest None = stuck_too
        by_read rest (Some v) =
            Unwinding.reach_within p k ms g r (0 + lay (suc (length fs))) _ _ _ (omega arith)
            (goes_in_piece 0 (pushes_so rest v) (place_in h.at + 1) (pushed v (L rest)) refl (behind_call i ei un (ap is_followed call)) (comes_at_once p' 0 _ _ refl))

        by_pointer : (t : Ty) (rest : List Value) (o : Option Pointer) → ((y : Pointer) → o ≡ Some y → WellFormedPointer (Pairs.bounds p k ms g r) y)
            → To (lay (suc (length fs))) (if_there o w (λ y. load p k y (storage p t) h (L rest) fs w)) (if_there o (beside ss w) (λ y. if_there (option_and_then (seen_as (storage p' t)) (read p' (T rest ∷ fs') (beside ss w) y)) (beside ss w) (pushes_so rest)))
        by_pointer t rest None there = stuck_too
        by_pointer t rest (Some y) there =
            subst (λ a. To (lay (suc (length fs))) (load p k y (storage p t) h (L rest) fs w) (if_there (option_and_then (seen_as a) (read p' (T rest ∷ fs') (beside ss w) y)) (beside ss w) (pushes_so rest))) (sym (storage_same p ms t))
            (subst (λ a. To (lay (suc (length fs))) (load p k y (storage p t) h (L rest) fs w) (if_there (option_and_then (seen_as (storage p t)) a) (beside ss w) (pushes_so rest))) (sym (same_read rest y (there y refl)))
            (by_read rest (option_and_then (seen_as (storage p t)) (read p (record h { local = L rest } ∷ fs) w y))))

        by_stack : (owner : Ty) (m : ℕ) (t : Ty) (ts : List Ty) (st : List Value) → WellFormedValues (Pairs.bounds p k ms g r) st → To (lay (suc (length fs))) (read_argument p k g (Some (OfMethod owner m (t ∷ ts))) st h fs w) (loaded_at p k p' g r.types r.depths (mk h.method) (Some (OfMethod owner m (t ∷ ts))) st h ex b' fs' w ss)
        by_stack owner m t ts [] f = stuck_too
        by_stack owner m t ts (v ∷ rest) f = by_pointer t rest (pointed (out-Value v)) (λ y e. pointer_fine v y f.0 e)

        by_meaning : (o : Option Meaning) (st : List Value) → WellFormedValues (Pairs.bounds p k ms g r) st → To (lay (suc (length fs))) (read_argument p k g o st h fs w) (loaded_at p k p' g r.types r.depths (mk h.method) o st h ex b' fs' w ss)
        by_meaning (Some (OfMethod owner m (t ∷ ts))) st f = by_stack owner m t ts st f
        by_meaning (Some (OfMethod owner m [])) st f = stuck_too
        by_meaning None st f = stuck_too
        by_meaning (Some (OfType t)) st f = stuck_too
        by_meaning (Some (OfField owner n)) st f = stuck_too
        by_meaning (Some (OfText units)) st f = stuck_too
        by_meaning (Some (OfLocals ts)) st f = stuck_too

  -- ---- Assert and Assume

  module _ (c : Plan) (i : Instr) (kd : ClauseKind) (label : Name) (home : ℕ) (h : Frame) (ex : List Cell) (b' : Continuation) (hs' : List Handling) (fs fs' : List Frame) (w : World) (ss : List Statics) (z : Inline.AtCheck p k ms g r c h ex b' hs' fs fs' w ss) (is : IsInline p k p' g r.types r.depths c h.method h fs h.at i kd home label) where
    -- there is a place behind the call: in lead-in and rest by counting, in a clause by the rules
    next : CanArrive (Some c) (next_place h.at)
    next = by_place h.at z.here z.unrecalled is
      where
        by_place : (at : ProgramPoint) → IsHere (Some c) at → Inline.NotRecalled p k ms g r c at → IsInline p k p' g r.types r.depths c h.method h fs at i kd home label → CanArrive (Some c) (next_place at)
        by_place (LeadIn q) here un y = omega (arith, here)
        by_place (Rest q) here un y = omega (arith, here)
        by_place (InGroup gr j q) here un y = (pieces_of p k ms g r h.method c z.plan (z.stands).old).goes_on gr j q y.0 i here y.1 (un y.0 y.1) y.2 (ap is_followed y.3)

    at_check : Paired p k p' g r.types r.depths (mk h.method) h fs fs' w ex ss
    at_check = record { keeps = z.keeps; beside = z.alike; numbers = as_many p k ms g r h.continuation b' fs fs' z.under; deep = z.deep }

    -- behind the call, in both runs
    goes_behind : (l : LocalState) (after : List Cell) (v : World) (ss2 : List Statics) → Keeps (mk h.method) (here_of h fs) h.thrown l after → IsBeside v ss2 → v.depth ≤ suc k.settings.guard
        → To (cst + lay (suc (length fs))) (go_on p k h l fs v) (goes_at p' (Unwinding.tw p k ms g r h l after ((mk h.method).places (next_place h.at)) hs' b') (Rest ((mk h.method).places (next_place h.at))) (grow after l) hs' fs' (beside ss2 v))
    goes_behind l after v ss2 keeps bes deep =
        Arriving.arrives p k ms g r (plan_at k p h.method) h (next_place h.at) l l after h.handling hs' hs' ((mk h.method).places (next_place h.at)) b' fs fs' v ss2 refl (z.stands).old (subst (λ o. CanArrive o (next_place h.at)) (sym z.plan) next) (fits_moved (Unwinding.Fits p k ms g r) h.at (place_in h.at + 1) h.thrown (z.stands).fits)
        keeps (waits_moved (plan_at k p h.method) (mk h.method) (length (body_of p h.method).regions) h.at (place_in h.at + 1) h.handling hs' z.waits) bes (as_many p k ms g r h.continuation b' fs fs' z.under) deep z.under

    abbrev failure_here : Value → Failure
    failure_here user = record { kind = kd; exception = None; home = home; user = user; label = label }

    is_no_requires : (at : ProgramPoint) → IsInline p k p' g r.types r.depths c h.method h fs at i kd home label → contract_call p i ≡ ChecksHere kd
    is_no_requires (LeadIn q) y = y.1
    is_no_requires (InGroup gr j q) y = y.3
    is_no_requires (Rest q) y = y.1

    checked_so : (o : Condition) → Checked p k p' g r.types r.depths (mk h.method) h fs fs' w ex ss b' hs' (failure_here o.user) o.holds o.rest ((mk h.method).places (next_place h.at))
        → An (failure_cost k p + (2 * cst + lay (suc (length fs)))) (check p k g (failure_here o.user) o.holds (record h { local = with_stack h.local o.rest } ∷ fs) w (λ v. go_on p k h (with_stack h.local o.rest) fs v)) (from h ex b' fs' w ss hs')
    checked_so o ch =
        Unwinding.answer_by p k ms g r (failure_cost k p) (2 * cst + lay (suc (length fs))) _ _ _ ch.goes
        (Checking.checks_so p k ms g r (2 * cst + lay (suc (length fs))) w.depth w.heap (failure_here o.user) (goes_on_from p k (record h { local = l } ∷ fs) (λ v. go_on p k h l fs v)) second (record h { local = l } ∷ fs) fs'
        (record { passes_so = passes; throws_so = throws; makes_so = λ v ss2 ty text e. absurd (call_checks p i kd (is_no_requires h.at is) e); stops_so = λ v ss2 bes. Arriving.stuck_both p k ms g r _ v ss2 bes }) o.holds w ss z.alike refl refl)
      where
        l : LocalState
        l = with_stack h.local o.rest

        keeps : Keeps (mk h.method) (here_of h fs) h.thrown l ch.after
        keeps = record { typed = (ch.keeps).typed; result = (ch.keeps).result; thrown = (ch.keeps).thrown; wide = (ch.keeps).wide; caps = (ch.keeps).caps }

        second : Sequel
        second =
            record {
              passes = λ v. goes_at p' (Unwinding.tw p k ms g r h l ch.after ((mk h.method).places (next_place h.at)) hs' b') (Rest ((mk h.method).places (next_place h.at))) (grow ch.after l) hs' fs' v;
              throws = λ v y. unwind p' no_contracts false (Unwinding.tw p k ms g r h l ch.after ch.seam hs' b' ∷ fs') v y;
              makes = λ v ty m values. Rattle.cil_semantics.specs.Calls.make p' no_contracts (Rattle.cil_semantics.specs.Calls.pushes_new p' no_contracts) ty m values (Unwinding.tw p k ms g r h l ch.after ch.maker hs' b' ∷ fs') v;
              stops = λ v. stuck v;
            }

        passes : (v : World) (ss2 : List Statics) → IsBeside v ss2 → v.depth ≡ w.depth → v.heap ≡ w.heap → To (2 * cst + lay (suc (length fs))) (go_on p k h l fs v) (second.passes (beside ss2 v))
        passes v ss2 bes e same = Unwinding.reach_within p k ms g r (cst + lay (suc (length fs))) _ _ _ (omega arith) (goes_behind l ch.after v ss2 keeps bes (subst (λ d. d ≤ suc k.settings.guard) (sym e) z.deep))

        throws : (v : World) (ss2 : List Statics) (y : ℕ) → IsBeside v ss2 → IsObject (length v.heap) y → v.depth ≡ w.depth → To (2 * cst + lay (suc (length fs))) (unwind p k false (record h { local = l } ∷ fs) v y) (second.throws (beside ss2 v) y)
        throws v ss2 y bes there e =
            unwinds_at p k ms g r (record h { local = l }) h.at ch.after hs' ch.seam b' fs fs' v ss2 y
            (record {
              old = (z.stands).old;
              here = subst (λ o1. IsHere o1 h.at) (sym z.plan) z.here;
              thrown_there = there;
              belongs = ch.belongs;
              keeps = keeps;
              fits = (z.stands).fits;
              waits = z.waits;
              under = z.under;
              alike = bes;
              numbers = as_many p k ms g r h.continuation b' fs fs' z.under;
              deep = subst (λ d. d ≤ suc k.settings.guard) (sym e) z.deep;
              count = e ∙ z.count;
              down = unwinds p k ms g r h.continuation b' fs fs' z.under z.others;
              own = (z.stands).initializes;
            })

    pub checks_here : An (failure_cost k p + (2 * cst + lay (suc (length fs)))) (check_inline p k g c kd home label i h fs w) (from h ex b' fs' w ss hs')
    checks_here = by_level (rank c.settings.level == 4) refl
      where
        first : Bool → Next
        first b =
            if b then if_there (condition_in (has_message p i) h.local.stack) w (λ (o : Condition). check p k g (failure_here o.user) o.holds (record h { local = with_stack h.local o.rest } ∷ fs) w (λ v. go_on p k h (with_stack h.local o.rest) fs v))
            else if_there (dropped (has_message p i) h.local.stack) w (λ rest. go_on p k h (with_stack h.local rest) fs w)

        by_condition : rank c.settings.level ≡ 4 → (o : Option Condition) → condition_in (has_message p i) h.local.stack ≡ o → An (failure_cost k p + (2 * cst + lay (suc (length fs)))) (if_there o w (λ (y : Condition). check p k g (failure_here y.user) y.holds (record h { local = with_stack h.local y.rest } ∷ fs) w (λ v. go_on p k h (with_stack h.local y.rest) fs v))) (from h ex b' fs' w ss hs')
        by_condition full None e =
            Unwinding.answer_within p k ms g r (cst + 0) _ _ _ (omega arith)
            (Unwinding.answer_by p k ms g r cst 0 _ _ _ (moves_to_end p' cst _ _ _ ((groups_of p k ms g r h.method c z.plan (z.stands).old).asserts_stuck h fs fs' w ex ss b' hs' i kd label home refl z.here is full at_check z.current e)) (Arriving.stuck_both p k ms g r 0 w ss z.alike))
        by_condition full (Some o) e = checked_so o ((groups_of p k ms g r h.method c z.plan (z.stands).old).asserts h fs fs' w ex ss b' hs' i kd o label home refl z.here is full at_check z.current e)

        by_rest : (o : Option (List Value)) → To (cst + lay (suc (length fs))) (if_there o w (λ rest. go_on p k h (with_stack h.local rest) fs w)) (if_there o (beside ss w) (λ rest. goes_at p' (Unwinding.tw p k ms g r h (with_stack h.local rest) ex ((mk h.method).places (next_place h.at)) hs' b') (Rest ((mk h.method).places (next_place h.at))) (grow ex (with_stack h.local rest)) hs' fs' (beside ss w)))
        by_rest None = Arriving.stuck_both p k ms g r _ w ss z.alike
        by_rest (Some rest) = goes_behind (with_stack h.local rest) ex w ss (record { typed = (z.keeps).typed; result = (z.keeps).result; thrown = (z.keeps).thrown; wide = (z.keeps).wide; caps = (z.keeps).caps }) z.alike z.deep

        by_level : (b : Bool) → (rank c.settings.level == 4) ≡ b → An (failure_cost k p + (2 * cst + lay (suc (length fs)))) (first b) (from h ex b' fs' w ss hs')
        by_level true e = by_condition (eqb-true (rank c.settings.level) 4 e) (condition_in (has_message p i) h.local.stack) refl
        by_level false e =
            Unwinding.answer_within p k ms g r (cst + (cst + lay (suc (length fs)))) _ _ _ (omega arith)
            (Unwinding.answer_by p k ms g r cst (cst + lay (suc (length fs))) _ _ _ ((groups_of p k ms g r h.method c z.plan (z.stands).old).drops_arguments h fs fs' w ex ss b' hs' i kd label home refl z.here is e at_check z.current) (by_rest (dropped (has_message p i) h.local.stack)))
