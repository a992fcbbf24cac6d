-- Clauses end, old values are captured and recalled, and Assert and Assume are checked where they stand.
use Rattle.std.proofs.Common.{◌≡◌, ℕ, zero, suc, ◌+◌, ◌≤◌, Bool, true, false, List, [], ◌∷◌, map, Option, Some, None, refl, sym, ap, ◌∙◌, subst, length}
use Rattle.std.specs.Prelude.{◌==◌, if◌then◌else◌, option_map, option_and_then, slice_get, slice_set}
use Rattle.cil_model.specs.declared.value.Value.{Value, out-Value, Null}
use Rattle.cil_model.specs.declared.body.Instr.{Instr}
use Rattle.cil_model.specs.declared.contract.Contracts.{Contracts}
use Rattle.cil_model.specs.declared.contract.ClauseKind.{ClauseKind}
use Rattle.cil_model.specs.declared.contract.Group.{Group}
use Rattle.cil_model.specs.declared.contract.Old.{Old}
use Rattle.cil_model.specs.declared.program.Program.{Program}
use Rattle.cil_model.specs.declared.program.MethodDesc.{MethodDesc}
use Rattle.cil_semantics.specs.Core.{Name}
use Rattle.cil_semantics.specs.Places.{stored_in, set_cell}
use Rattle.cil_semantics.specs.Tokens.{ref_type}
use Rattle.cil_semantics.specs.declared.state.Cell.{Cell}
use Rattle.cil_semantics.specs.declared.state.World.{World}
use Rattle.cil_semantics.specs.declared.state.Local.{Local}
use Rattle.cil_semantics.specs.declared.state.ProgramPoint.{ProgramPoint}
use Rattle.cil_semantics.specs.declared.state.ProgramPoint.TheVariants.{InGroup}
use Rattle.cil_semantics.specs.declared.state.Frame.{Frame}
use Rattle.cil_semantics.specs.State.{Next, with_stack, pushed}
use Rattle.cil_semantics.specs.Contracted.{Piece, Plan, rank}
use Rattle.cil_semantics.specs.Unwind.{plan_at, here_of, moved_to, next_place, arrive}
use Rattle.cil_semantics.specs.Frames.{if_there, go_on}
use Rattle.cil_semantics.specs.ContractCalls.{contract_call, has_message}
use Rattle.cil_semantics.specs.declared.contract_call.ContractCall.TheVariants.{ChecksHere}
use Rattle.cil_semantics.specs.Returns.{piece_over}
use Rattle.cil_semantics.specs.Checks.{AddedNumbers, Failure, Sequel, Condition, condition_from, condition_in, dropped, made_type, throw_exception, goes_on_from, check, check_inline, end_clause, capture}
use Rattle.cil_semantics.specs.Machine.{recall}
use Rattle.splice_facts.specs.WellFormed.{Bounds, WellFormedValue, WellFormedValues, WellFormedCells, WellFormedWorld}
use Rattle.splice_facts.specs.Input.{is_group}
use Rattle.splice_facts.specs.Layout.{IsHere, fetch}
use Rattle.splice_facts.specs.Related.{Rewritten, FitsAt, HasHeight, bounds, in_group, count_groups}
use Rattle.simulation_objects.proofs.StoredLaws.{cell_there}
use Rattle.simulation_valid.proofs.HeightLaws.{and_none, but_none}
use Rattle.simulation_valid.specs.Keeping.{KeepsReturned, StaysValid, ValidPlaces, ValidBelow}
use Rattle.simulation_valid.proofs.FrameLaws as Standing
use Rattle.simulation_valid.proofs.UnwindValidLaws.{restacked, places_of, unwinds, unwinds_top, tail_of}
use Rattle.simulation_valid.proofs.PushValidLaws.{arrives_from}
use Rattle.simulation_valid.proofs.ChangeLaws.{cells_set, kept_fine}
use Rattle.simulation_valid.proofs.MoveValidLaws.{relocal, goes_on_valid, pushes_on_valid}
use Rattle.simulation_valid.proofs.ReturnValidLaws.{pieces_end}
use Rattle.simulation_valid.proofs.CheckValidLaws.{condition_fine, fails_valid}
use Rattle.simulation_valid.specs.Steps.{Leaves, RunsHere, MakesValid}

-- what a condition leaves of the stack is what is left where the arguments are dropped
rest_dropped : (message : Bool) (s : List Value) (c : Condition) → condition_in message s ≡ Some c → dropped message s ≡ Some c.rest
rest_dropped false [] c e = absurd (cc e)
rest_dropped false (v ∷ rest) c e = by_stored (Rattle.cil_semantics.specs.Places.stored (Rattle.il_opcodes.specs.declared.class.Storage.TheVariants.Truncated Rattle.il_opcodes.specs.declared.class.Bits.TheVariants.B8 false) v) e
  where
    as_condition : Value → Condition
    as_condition x = record { holds = Rattle.cil_semantics.specs.Checks.bool_in (out-Value x); user = Null; rest = rest }

    by_stored : (o : Option Value) → option_map (λ x. as_condition x) o ≡ Some c → Some rest ≡ Some c.rest
    by_stored None q = absurd (cc q)
    by_stored (Some x) q = let z : as_condition x ≡ c = cc q in ap (λ (y : Condition). Some y.rest) z
rest_dropped true [] c e = absurd (cc e)
rest_dropped true (m ∷ []) c e = by_stored (Rattle.cil_semantics.specs.Places.stored Rattle.il_opcodes.specs.declared.class.Storage.TheVariants.Reference m) e
  where
    by_stored : (o : Option Value) → option_and_then (λ user. condition_from user []) o ≡ Some c → dropped true (m ∷ []) ≡ Some c.rest
    by_stored None q = absurd (cc q)
    by_stored (Some u) q = absurd (cc q)
rest_dropped true (m ∷ v ∷ rest) c e = by_message (Rattle.cil_semantics.specs.Places.stored Rattle.il_opcodes.specs.declared.class.Storage.TheVariants.Reference m) e
  where
    as_condition : Value → Value → Condition
    as_condition u x = record { holds = Rattle.cil_semantics.specs.Checks.bool_in (out-Value x); user = u; rest = rest }

    by_stored : (u : Value) (o : Option Value) → option_map (λ x. as_condition u x) o ≡ Some c → Some rest ≡ Some c.rest
    by_stored u None q = absurd (cc q)
    by_stored u (Some x) q = let z : as_condition u x ≡ c = cc q in ap (λ (y : Condition). Some y.rest) z

    by_message : (o : Option Value) → option_and_then (λ user. condition_from user (v ∷ rest)) o ≡ Some c → Some rest ≡ Some c.rest
    by_message None q = absurd (cc q)
    by_message (Some u) q = by_stored u (Rattle.cil_semantics.specs.Places.stored (Rattle.il_opcodes.specs.declared.class.Storage.TheVariants.Truncated Rattle.il_opcodes.specs.declared.class.Bits.TheVariants.B8 false) v) q

dropped_fine : (b : Bounds) (message : Bool) (s rest : List Value) → WellFormedValues b s → dropped message s ≡ Some rest → WellFormedValues b rest
dropped_fine b true [] rest h e = absurd (cc e)
dropped_fine b true (v ∷ []) rest h e = absurd (cc e)
dropped_fine b true (v ∷ c ∷ xs) rest h e = let q : xs ≡ rest = cc e in subst (WellFormedValues b) q h.1.1
dropped_fine b false [] rest h e = absurd (cc e)
dropped_fine b false (c ∷ xs) rest h e = let q : xs ≡ rest = cc e in subst (WellFormedValues b) q h.1

-- a captured value has the type that it had
types_kept : (cs : List Cell) (i : ℕ) (c d : Cell) → slice_get cs i ≡ Some c → d.ty ≡ c.ty → map (λ (x : Cell). x.ty) (slice_set cs i d) ≡ map (λ (x : Cell). x.ty) cs
types_kept [] i c d e t = absurd (cc e)
types_kept (x ∷ xs) zero c d e t = let q : x ≡ c = cc e in ap (λ y. y ∷ map (λ (z : Cell). z.ty) xs) (t ∙ ap (λ (z : Cell). z.ty) (sym q))
types_kept (x ∷ xs) (suc i) c d e t = ap (λ l. x.ty ∷ l) (types_kept xs i c d e t)

module _ (p : Program) (k : Contracts) (ms : List MethodDesc) (g : AddedNumbers) (r : Rewritten p k ms g) where
  abbrev Stays : Next → Type 0
  Stays x = StaysValid p k ms g r x

  abbrev Bs : Bounds
  Bs = bounds p k ms g r

  pub throws_here : (f : Frame) (l : Local) (fs : List Frame) (w v : World) (y : ℕ) → RunsHere p k ms g r f fs w → ValidPlaces p k ms g r (record f { local = l }) fs → l.result ≡ f.local.result → WellFormedWorld Bs v → v.depth ≡ w.depth → Stays (Rattle.cil_semantics.specs.Unwind.unwind p k false (record f { local = l } ∷ fs) v y)
  throws_here f l fs w v y a places same ok e =
      let top1 = relocal p k ms g r f l fs w a.top places same in
      unwinds_top p k ms g r (record f { local = l }) fs v y a.here top1.frame top1.as_named top1.below.others top1.below.returning top1.below.heights ok (e ∙ top1.count) (subst (λ n. n ≤ suc k.settings.guard) (sym e) top1.deep)
      (unwinds p k ms g r f.continuation fs (tail_of p k ms g r (record f { local = l }) fs a.placed top1.below.others top1.below.returning top1.below.heights))

  -- a condition is checked, with what is done where it passes
  checks_valid : (x : Failure) (holds : Bool) (f : Frame) (l : Local) (fs : List Frame) (w : World) (passes : World → Next) → RunsHere p k ms g r f fs w → ValidPlaces p k ms g r (record f { local = l }) fs → l.result ≡ f.local.result → WellFormedValue Bs x.user → ((v : World) → WellFormedWorld Bs v → v.depth ≡ w.depth → v.heap ≡ w.heap → Stays (passes v)) → MakesValid p k ms g r x (goes_on_from p k (record f { local = l } ∷ fs) passes) (record f { local = l } ∷ fs) w.depth
      → Stays (check p k g x holds (record f { local = l } ∷ fs) w passes)
  checks_valid x true f l fs w passes a places same fu pass made = pass w a.top.below.world refl refl
  checks_valid x false f l fs w passes a places same fu pass made =
      fails_valid p k ms g r w.depth w.heap x (record f { local = l } ∷ fs) (goes_on_from p k (record f { local = l } ∷ fs) passes)
      (record { passes_so = pass; throws_so = λ v y ok e. throws_here f l fs w v y a places same ok e; makes_so = made; stops_so = λ v. tt }) fu w a.top.below.world refl refl

  in_piece_only : (at : ProgramPoint) (gr : Group) (j q : ℕ) → at ≡ InGroup gr j q → is_group at ≡ false → ⊥
  in_piece_only at gr j q e o = let z : true ≡ false = sym (ap is_group e) ∙ o in cc z

  other_world : (f : Frame) (fs : List Frame) (w v : World) → ValidBelow p k ms g r f fs w → WellFormedWorld Bs v → ValidBelow p k ms g r f fs v
  other_world f fs w v b ok = record { others = b.others; returning = b.returning; heights = b.heights; world = ok }

  -- the piece of a frame is over, with other locals and in another world
  piece_passes : (c : Plan) (gr : Group) (j q : ℕ) (f : Frame) (l : Local) (fs : List Frame) (w v : World) → plan_at k p f.method ≡ Some c → f.at ≡ InGroup gr j q → RunsHere p k ms g r f fs w → ValidPlaces p k ms g r (record f { local = l }) fs → l.result ≡ f.local.result → WellFormedWorld Bs v → v.depth ≡ w.depth → v.heap ≡ w.heap → Stays (piece_over p k c gr j (record f { local = l }) fs v)
  piece_passes c gr j q f l fs w v e at a places same ok d h =
      let top1 = relocal p k ms g r f l fs w a.top places same in
      pieces_end p k ms g r c gr j q (record f { local = l }) fs v e places (other_world (record f { local = l }) fs w v top1.below ok) a.placed (d ∙ top1.count ∙ ap (λ z. in_group z + count_groups fs) at) (subst (λ n. n ≤ suc k.settings.guard) (sym d) top1.deep)
      (subst (λ z. FitsAt (Standing.Fits p k ms g r) z f.thrown) at a.top.frame.stands.fits) (subst (λ z. KeepsReturned p (record f { local = l }) z) at top1.counted)

  -- the call that ends a clause
  pub clauses_end_valid : (c : Plan) (gr : Group) (j q : ℕ) (x : Piece) (i : Instr) (f : Frame) (fs : List Frame) (w : World) → plan_at k p f.method ≡ Some c → f.at ≡ InGroup gr j q → RunsHere p k ms g r f fs w
      → ((o : Condition) → WellFormedValues Bs o.rest → let l : Local = with_stack f.local o.rest in MakesValid p k ms g r (record { kind = x.clause.kind; exception = option_and_then (ref_type p (here_of f fs)) x.clause.exception; home = x.clause.home; user = o.user; label = x.clause.label }) (goes_on_from p k (record f { local = l } ∷ fs) (λ v. piece_over p k c gr j (record f { local = l }) fs v)) (record f { local = l } ∷ fs) w.depth)
      → Stays (end_clause p k g c gr j x i f fs w)
  clauses_end_valid c gr j q x i f fs w e at a made = by_condition (condition_in (has_message p i) f.local.stack) refl
    where
      failure : Condition → Failure
      failure o = record { kind = x.clause.kind; exception = option_and_then (ref_type p (here_of f fs)) x.clause.exception; home = x.clause.home; user = o.user; label = x.clause.label }

      by_condition : (o : Option Condition) → condition_in (has_message p i) f.local.stack ≡ o → Stays (if_there o w (λ (y : Condition). check p k g (failure y) y.holds (record f { local = with_stack f.local y.rest } ∷ fs) w (λ v. piece_over p k c gr j (record f { local = with_stack f.local y.rest }) fs v)))
      by_condition None s = tt
      by_condition (Some y) s =
          let fine = condition_fine Bs (has_message p i) f.local.stack y a.top.frame.fine.stack s in
          let places = restacked p k ms g r f y.rest fs (places_of p k ms g r f fs a.top.frame a.top.as_named) fine.1 in
          checks_valid (failure y) y.holds f (with_stack f.local y.rest) fs w (λ v. piece_over p k c gr j (record f { local = with_stack f.local y.rest }) fs v) a places refl fine.0 (λ v ok d h. piece_passes c gr j q f (with_stack f.local y.rest) fs w v e at a places refl ok d h) (made y fine.1)

  -- an old value is captured
  pub captures_valid : (c : Plan) (gr : Group) (j q n : ℕ) (f : Frame) (s : List Value) (fs : List Frame) (w : World) → plan_at k p f.method ≡ Some c → f.at ≡ InGroup gr j q → RunsHere p k ms g r f fs w → WellFormedValues Bs s → Stays (capture p k c gr j n f s fs w)
  captures_valid c gr j q n f [] fs w e at a fs1 = tt
  captures_valid c gr j q n f (v ∷ rest) fs w e at a fine = by_cell (slice_get f.local.captured n) refl
    where
      with_captured : Cell → Local
      with_captured d = record f.local { captured = slice_set f.local.captured n d; stack = rest }

      as_cell : Cell → Value → Cell
      as_cell x y = record { ty = x.ty; value = y }

      finish : (x : Cell) → slice_get f.local.captured n ≡ Some x → (o : Option Value) → stored_in p x.ty v ≡ o → Stays (if_there (option_map (λ y. as_cell x y) o) w (λ d. piece_over p k c gr j (record f { local = with_captured d }) fs w))
      finish x s None t = tt
      finish x s (Some y) t =
          let old = places_of p k ms g r f fs a.top.frame a.top.as_named in
          let d : Cell = as_cell x y in
          let places : ValidPlaces p k ms g r (record f { local = with_captured d }) fs = record {
            old = old.old;
            wide = old.wide;
            initializes = old.initializes;
            captured = types_kept f.local.captured n x d s refl ∙ old.captured;
            fine = record { args = old.fine.args; locals = old.fine.locals; captured = cells_set Bs f.local.captured n d old.fine.captured (kept_fine Bs p x.ty v y fine.0 t); result = old.fine.result; stack = fine.1 };
            fine_back = old.fine_back;
            as_named = old.as_named;
          } in
          piece_passes c gr j q f (with_captured d) fs w w e at a places refl a.top.below.world refl refl

      by_cell : (o : Option Cell) → slice_get f.local.captured n ≡ o → Stays (if_there (option_and_then (set_cell p v) o) w (λ d. piece_over p k c gr j (record f { local = with_captured d }) fs w))
      by_cell None s = tt
      by_cell (Some x) s = finish x s (stored_in p x.ty v) refl

  -- and recalled
  pub recalls_valid : (x : Piece) (o : ℕ × Old) (gr : Group) (j q : ℕ) (f : Frame) (fs : List Frame) (w : World) → f.at ≡ InGroup gr j q → RunsHere p k ms g r f fs w → Stays (recall p k g x o f fs w)
  recalls_valid x o gr j q f fs w at a = by_cell (slice_get f.local.captured (x.first_captured + o.0)) refl
    where
      by_cell : (c : Option Cell) → slice_get f.local.captured (x.first_captured + o.0) ≡ c → Stays (if_there c w (λ (y : Cell). arrive p k f (moved_to (o.1.to + 1) f.at) (pushed y.value f.local) fs w))
      by_cell None s = tt
      by_cell (Some y) s =
          arrives_from p k ms g r f (o.1.to + 1) (pushed y.value f.local) fs w a.top (restacked p k ms g r f (y.value ∷ f.local.stack) fs (places_of p k ms g r f fs a.top.frame a.top.as_named) (cell_there Bs f.local.captured (x.first_captured + o.0) y a.top.frame.fine.captured s, a.top.frame.fine.stack)) refl
          (λ plan old e outer. absurd (in_piece_only f.at gr j q at outer))

  -- a clause finds what is returned
  pub results_valid : (gr : Group) (j q : ℕ) (f : Frame) (fs : List Frame) (w : World) → f.at ≡ InGroup gr j q → RunsHere p k ms g r f fs w → Stays (if_there f.local.result w (λ v. go_on p k f (pushed v f.local) fs w))
  results_valid gr j q f fs w at a = by_result f.local.result a.top.frame.fine.result
    where
      by_result : (o : Option Value) → Rattle.splice_facts.specs.WellFormed.WellFormedIf Bs o → Stays (if_there o w (λ v. go_on p k f (pushed v f.local) fs w))
      by_result None h = tt
      by_result (Some v) h = pushes_on_valid p k ms g r f f.local v fs w a.top (record { places = places_of p k ms g r f fs a.top.frame a.top.as_named; same = refl; height = λ plan old e outer. absurd (in_piece_only f.at gr j q at outer) }) h

  -- Assert and Assume where they stand
  module _ (c : Plan) (kd : ClauseKind) (home : ℕ) (label : Name) (i : Instr) (f : Frame) (fs : List Frame) (w : World) (e : plan_at k p f.method ≡ Some c) (found : fetch p k g (Some c) f.method f.at ≡ Some i) (call : contract_call p i ≡ ChecksHere kd) (a : RunsHere p k ms g r f fs w) (height : HasHeight p k ms g r f f.at 0) where
    abbrev failure : Condition → Failure
    failure o = record { kind = kd; exception = None; home = home; user = o.user; label = label }

    same_plan : (plan : Plan) → plan_at k p f.method ≡ Some plan → c ≡ plan
    same_plan plan q = let z : Some c ≡ Some plan = sym e ∙ q in cc z

    leaves : (rest : List Value) → dropped (has_message p i) f.local.stack ≡ Some rest → WellFormedValues Bs rest → Leaves p k ms g r f (with_stack f.local rest) fs 0
    leaves rest s fine =
        record {
          places = restacked p k ms g r f rest fs (places_of p k ms g r f fs a.top.frame a.top.as_named) fine;
          same = refl;
          height = λ plan old q outer. and_none (length rest) _ ((r.heights f.method plan old q).checks f.at i kd f.local.stack rest (subst (λ o. IsHere o f.at) q a.here) outer (subst (λ y. fetch p k g (Some y) f.method f.at ≡ Some i) (same_plan plan q) found) call (but_none (length f.local.stack) _ (height plan old q outer)) s);
        }

    passes_on : (rest : List Value) (v : World) → Leaves p k ms g r f (with_stack f.local rest) fs 0 → WellFormedWorld Bs v → v.depth ≡ w.depth → Stays (go_on p k f (with_stack f.local rest) fs v)
    passes_on rest v l ok d =
        goes_on_valid p k ms g r f (with_stack f.local rest) fs v
        (record { frame = a.top.frame; as_named = a.top.as_named; counted = a.top.counted; below = other_world f fs w v a.top.below ok; count = d ∙ a.top.count; deep = subst (λ n. n ≤ suc k.settings.guard) (sym d) a.top.deep }) l

    pub inline_checks_valid : ((o : Condition) → MakesValid p k ms g r (failure o) (goes_on_from p k (record f { local = with_stack f.local o.rest } ∷ fs) (λ v. go_on p k f (with_stack f.local o.rest) fs v)) (record f { local = with_stack f.local o.rest } ∷ fs) w.depth)
        → Stays (check_inline p k g c kd home label i f fs w)
    inline_checks_valid made = by_level (rank c.settings.level == 4)
      where
        by_condition : (o : Option Condition) → condition_in (has_message p i) f.local.stack ≡ o → Stays (if_there o w (λ (x : Condition). check p k g (failure x) x.holds (record f { local = with_stack f.local x.rest } ∷ fs) w (λ v. go_on p k f (with_stack f.local x.rest) fs v)))
        by_condition None s = tt
        by_condition (Some y) s =
            let fine = condition_fine Bs (has_message p i) f.local.stack y a.top.frame.fine.stack s in
            let l = leaves y.rest (rest_dropped (has_message p i) f.local.stack y s) fine.1 in
            checks_valid (failure y) y.holds f (with_stack f.local y.rest) fs w (λ v. go_on p k f (with_stack f.local y.rest) fs v) a l.places refl fine.0 (λ v ok d h. passes_on y.rest v l ok d) (made y)

        by_dropped : (o : Option (List Value)) → dropped (has_message p i) f.local.stack ≡ o → Stays (if_there o w (λ rest. go_on p k f (with_stack f.local rest) fs w))
        by_dropped None s = tt
        by_dropped (Some rest) s = passes_on rest w (leaves rest s (dropped_fine Bs (has_message p i) f.local.stack rest a.top.frame.fine.stack s)) a.top.below.world refl

        by_level : (b : Bool) → Stays (if b then if_there (condition_in (has_message p i) f.local.stack) w (λ (x : Condition). check p k g (failure x) x.holds (record f { local = with_stack f.local x.rest } ∷ fs) w (λ v. go_on p k f (with_stack f.local x.rest) fs v)) else if_there (dropped (has_message p i) f.local.stack) w (λ rest. go_on p k f (with_stack f.local rest) fs w))
        by_level true = by_condition (condition_in (has_message p i) f.local.stack) refl
        by_level false = by_dropped (dropped (has_message p i) f.local.stack) refl
