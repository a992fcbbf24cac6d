-- A captured value is kept, and an exception of its code is dropped.
use Rattle.std.proofs.Common.{◌≡◌, ℕ, zero, suc, ◌+◌, ◌-◌, ◌<◌, ◌≤◌, Bool, true, false, List, [], ◌∷◌, ◌++◌, length, Option, Some, None, refl, sym, ap, ◌∙◌, subst, arith, append_assoc}
use Rattle.std.specs.Prelude.{slice_get, slice_set, option_map, option_and_then, if◌then◌else◌, filter, ◌&&◌, nat_le, nat_lt, IsTrue}
use Rattle.cil_base.specs.declared.token.Token.{Token}
use Rattle.cil_model.specs.declared.ty.Ty.{Ty}
use Rattle.cil_model.specs.declared.ty.Ty as types
use Rattle.cil_model.specs.declared.value.Value.{Value, Obj}
use Rattle.cil_model.specs.declared.body.Instr.{Instr}
use Rattle.cil_model.specs.declared.body.Region.{Region}
use Rattle.cil_model.specs.declared.body.RegionKind.TheVariants as region
use Rattle.cil_model.specs.declared.contract.Contracts.{Contracts}
use Rattle.cil_model.specs.declared.contract.Group.TheVariants as group
use Rattle.cil_model.specs.declared.program.Program.{Program}
use Rattle.cil_model.specs.NoContracts.{no_contracts}
use Rattle.cil_semantics.specs.Words.{maybe}
use Rattle.cil_semantics.specs.Core.{object_ty}
use Rattle.cil_semantics.specs.Types.{under}
use Rattle.cil_semantics.specs.Places.{set_cell}
use Rattle.cil_semantics.specs.declared.state.Cell.{Cell}
use Rattle.cil_semantics.specs.declared.state.Local.{Local as LocalState}
use Rattle.cil_semantics.specs.declared.state.World.{World}
use Rattle.cil_semantics.specs.declared.state.Statics.{Statics}
use Rattle.cil_semantics.specs.declared.state.ProgramPoint.TheVariants.{InGroup}
use Rattle.cil_semantics.specs.declared.state.Cause.TheVariants.{Caught, Leaving}
use Rattle.cil_semantics.specs.declared.state.Handling.{Handling}
use Rattle.cil_semantics.specs.declared.state.Frame.{Frame}
use Rattle.cil_semantics.specs.declared.state.Continuation.{Continuation}
use Rattle.cil_semantics.specs.State.{Next, Running, unrecorded, recorded_after, goes_after, with_stack}
use Rattle.cil_semantics.specs.Acts.{Leave, Stuck}
use Rattle.cil_semantics.specs.Contracted.{Piece, Plan}
use Rattle.cil_semantics.specs.Unwind.{body_of, here_of, piece_at, in_try, in_handler, goes_at, search_from, left_from, leave_through, CatchHandler, next_piece, unwind, land, fits_type, caught_type, drops}
use Rattle.cil_semantics.specs.Frames.{stuck, if_there}
use Rattle.cil_semantics.specs.ContractCalls.{contract_call}
use Rattle.cil_semantics.specs.declared.contract_call.ContractCall.TheVariants.{TakesOld}
use Rattle.cil_semantics.specs.Checks.{AddedNumbers}
use Rattle.machine_laws.specs.Same.{most_clauses, plain_step}
use Rattle.splice_facts.specs.Comes.{Comes, Goes}
use Rattle.splice_facts.specs.Exceptions.{IsException}
use Rattle.splice_facts.specs.Grown.{grow, beside}
use Rattle.splice_facts.specs.Layout.{Depths, Marks, IsHere}
use Rattle.splice_facts.specs.Spliced.{Paired, ContinuesAt, FitsGroup, twin, stands, from_here, kept_in, cost}
use Rattle.splice_laws.specs.Straight.{pop, stloc, leave, frame_at, at_place, Stay}
use Rattle.splice_laws.specs.HelperRuns.{HelpersRun, with_depth}
use Rattle.splice_laws.specs.EntryCode.{GroupFrame}
use Rattle.splice_facts.proofs.ComesLaws.{comes_at_once, comes_on, comes_within, moves_within}
use Rattle.splice_laws.proofs.StraightLaws.{one_step, goes_one, steps_by, world_back, rows, does_stloc, does_pop, acts_leave, first_step}
use Rattle.splice_laws.proofs.SeamLocalLaws.{get_right, set_right}
use Rattle.splice_laws.proofs.StuckCheckLaws.{acts_empty, acts_unkept}
use Rattle.splice_laws.proofs.LeavingLaws.{search_past, found_own, ends_leaving, leaves_out, picks}
use Rattle.splice_laws.proofs.EntryGroupLaws.{next_is, plainly, through, then_none, rows_are, in_own, behind_own, stays_in, stays_within, goes_out, own, v, base, at_me, emptied, lowers, low_beside}
use Rattle.seam_laws.specs.CaptureCode.{CaptureAt, CaptureCode, CaptureSeams}

module _ {X : Type 0} where
  get_left : (ys zs : List X) (i : ℕ) → i < length ys → slice_get (ys ++ zs) i ≡ slice_get ys i
  get_left [] zs i h = absurd (no_less i h)
    where
      no_less : (j : ℕ) → j < 0 → ⊥
      no_less j l = omega (arith, l)
  get_left (y ∷ ys) zs zero h = refl
  get_left (y ∷ ys) zs (suc i) h = get_left ys zs i (omega (arith, h))

  set_left : (ys zs : List X) (i : ℕ) (c : X) → i < length ys → slice_set (ys ++ zs) i c ≡ slice_set ys i c ++ zs
  set_left [] zs i c h = absurd (no_less i h)
    where
      no_less : (j : ℕ) → j < 0 → ⊥
      no_less j l = omega (arith, l)
  set_left (y ∷ ys) zs zero c h = refl
  set_left (y ∷ ys) zs (suc i) c h = ap (λ xs. y ∷ xs) (set_left ys zs i c (omega (arith, h)))

-- the local of a captured value
pub captured_get : (xs ys ex : List Cell) (a i : ℕ) → length xs ≡ a → i < length ys → slice_get (xs ++ (ys ++ ex)) (a + i) ≡ slice_get ys i
captured_get xs ys ex a i e h = ap (λ j. slice_get (xs ++ (ys ++ ex)) (j + i)) (sym e) ∙ get_right xs (ys ++ ex) i ∙ get_left ys ex i h

captured_set : (xs ys ex : List Cell) (a i : ℕ) (c : Cell) → length xs ≡ a → i < length ys → slice_set (xs ++ (ys ++ ex)) (a + i) c ≡ xs ++ (slice_set ys i c ++ ex)
captured_set xs ys ex a i c e h = ap (λ j. slice_set (xs ++ (ys ++ ex)) (j + i) c) (sym e) ∙ set_right xs (ys ++ ex) i c ∙ ap (λ zs. xs ++ zs) (set_left ys ex i c h)

-- ---- catches

module _ (p : Program) where
  -- an exception that a handler takes
  throws_caught : (f : Frame) (l : LocalState) (q x i t : ℕ) (fs : List Frame) (w : World) → search_from (λ token. fits_type p w x (caught_type p (frame_at f l q []) token)) 0 0 q (rows p f) ≡ CatchHandler i t
      → Stay p f t (record { handler = i; cause = Caught x; place = q; next = i + 1 } ∷ [])
      → unwind p no_contracts false (frame_at f l q [] ∷ fs) w x ≡ at_place f (with_stack l (Obj x ∷ [])) t (record { handler = i; cause = Caught x; place = q; next = i + 1 } ∷ []) fs w
  unfolding unwind
  throws_caught f l q x i t fs w found st =
      ap (λ o. land p no_contracts o (frame_at f l q []) [] q fs w x (λ s u y. unwind p no_contracts s fs u y)) found
      ∙ ap (λ z. at_place f (with_stack l (Obj x ∷ [])) t z fs w) st

  -- leave out of handlers, and through a finally
  leaves_through : (f : Frame) (l : LocalState) (q t i : ℕ) (r : Region) (hs hs2 : List Handling) (fs : List Frame) (w : World) → slice_get (body_of p f.method).instrs q ≡ Some (leave t) → left_from 0 0 q t (rows p f) ≡ Some (i, r)
      → filter (in_handler (rows p f) r.handler_from) (record { handler = i; cause = Leaving t; place = q; next = i + 1 } ∷ hs) ≡ hs2
      → plain_step p (record { frames = frame_at f l q hs ∷ fs; world = w }) ≡ at_place f (with_stack l []) r.handler_from hs2 fs w
  leaves_through f l q t i r hs hs2 fs w there some st =
      steps_by p f l q hs fs w (leave t) (λ z. Leave t) there (acts_leave p (here_of f fs) t l)
      ∙ ap (λ o. goes_after w.trace (leave_through p no_contracts o (frame_at f l q hs) hs q t fs (unrecorded w))) some
      ∙ ap (λ z. Running (record { frames = frame_at f (with_stack l []) r.handler_from z ∷ fs; world = recorded_after w.trace (unrecorded w) })) st
      ∙ ap (λ u. at_place f (with_stack l []) r.handler_from hs2 fs u) (world_back w)

module _ (p : Program) (k : Contracts) (p' : Program) (g : AddedNumbers) (n : ℕ) (depths : Depths n g) (r : HelpersRun p' g k.settings.throwing depths.owner k.settings.guard) (me : ℕ) (plan : Plan) (m : Marks) (e : GroupFrame p p' g k.settings.throwing depths.owner k.settings.guard r me plan m group.Entry) (code : CaptureCode p k p' g n depths r me plan m e)
    (many : 1 ≤ most_clauses k p 0 p.methods) (small : k.settings.guard ≤ 100) (settings : plan.settings ≡ k.settings) where
  abbrev Sc : Frame → List Frame → List Frame → World → List Cell → List Statics → Type 0
  Sc f fs fs' w ex ss = Paired p k p' g n depths m f fs fs' w ex ss

  abbrev here_now : ℕ → Option Piece
  here_now j = piece_at (Some plan) group.Entry j

  abbrev the_base : Frame → Continuation → Frame
  the_base f b = base p k p' g n depths r me plan m group.Entry e f b

  at_me' : (f : Frame) (q : ℕ) (i : Instr) → f.method ≡ me → slice_get (body_of p' me).instrs q ≡ Some i → slice_get (body_of p' f.method).instrs q ≡ Some i
  at_me' f q i a there = at_me p k p' g n depths r me plan m group.Entry e f q i a there

  -- ---- a value is kept

  takes_it : (j q : ℕ) (x : Piece) (i : Instr) (c : ℕ) (f : Frame) (fs fs' : List Frame) (w : World) (ex : List Cell) (ss : List Statics) (b : Continuation) → f.method ≡ me → f.at ≡ InGroup group.Entry j q → IsHere (Some plan) f.at → here_now j ≡ Some x → x.captures ≡ Some c → slice_get x.clause.instrs q ≡ Some i → contract_call p i ≡ TakesOld → Sc f fs fs' w ex ss
      → Goes p' (cost k p) (from_here p k p' g n depths m f ex b fs' w ss []) (kept_in p k p' g n depths f.local.stack c f ex b fs' w ss (m.behind group.Entry j))
  takes_it j q x i c f fs fs' w ex ss b a at here there cap instr takes s =
      moves_within p' 1 (cost k p) _ _ (omega (arith, many)) (by_stack f.local.stack refl)
    where
      z : CaptureAt p k p' g n depths r me plan m e j x c
      z = code.captures j x c there cap

      F : Frame
      F = the_base f b

      W : World
      W = beside ss w

      S : ℕ
      S = m.places f.at

      B : ℕ
      B = m.behind group.Entry j

      L : ℕ
      L = m.old_locals + c

      stands_so : (slice_get (body_of p' me).instrs S ≡ Some (stloc L)) × (B ≡ S + 1)
      stands_so = let y = z.keeps q i (subst (IsHere (Some plan)) at here) instr takes in (ap (λ u. slice_get (body_of p' me).instrs (m.places u)) at ∙ y.0, y.1 ∙ ap (λ u. m.places u + 1) (sym at))

      within : c < length f.local.captured
      within = let h = z.has_local in let y = (s.keeps).caps in omega (arith, h, y)

      there_is : slice_get (grow ex f.local).locals L ≡ slice_get f.local.captured c
      there_is = captured_get f.local.locals f.local.captured ex m.old_locals c (s.keeps).wide within

      -- the cell that is kept, by either program
      set_alike : (u : Value) (o : Option Cell) → option_and_then (set_cell p' u) o ≡ option_and_then (set_cell p u) o
      set_alike u None = refl
      set_alike u (Some y) = ap (option_map (λ t. record { ty = y.ty; value = t })) (code.same_stored y.ty u)

      kept_so : (u : Value) → option_and_then (set_cell p' u) (slice_get (grow ex f.local).locals L) ≡ option_and_then (set_cell p u) (slice_get f.local.captured c)
      kept_so u = ap (option_and_then (set_cell p' u)) there_is ∙ set_alike u (slice_get f.local.captured c)

      gets_stuck : (st : List Value) → Rattle.splice_laws.specs.Straight.Acts_so p' (here_of F fs') (stloc L) (with_stack (grow ex f.local) st) (λ u. Stuck) → Goes p' 1 (at_place F (with_stack (grow ex f.local) st) S [] fs' W) (stuck W)
      gets_stuck st so =
          first_step p' F (with_stack (grow ex f.local) st) S [] fs' W 0 _ _ (steps_by p' F (with_stack (grow ex f.local) st) S [] fs' W (stloc L) (λ u. Stuck) (at_me' F S _ a stands_so.0) so ∙ ap (λ u. stuck u) (world_back W)) (comes_at_once p' 0 _ _ refl)

      Goal : List Value → Type 0
      Goal st = Goes p' 1 (from_here p k p' g n depths m f ex b fs' w ss []) (kept_in p k p' g n depths st c f ex b fs' w ss B)

      from_stack : (st : List Value) → f.local.stack ≡ st → at_place F (with_stack (grow ex f.local) st) S [] fs' W ≡ from_here p k p' g n depths m f ex b fs' w ss []
      from_stack st es = ap (λ y. at_place F (with_stack (grow ex f.local) y) S [] fs' W) (sym es)

      by_stack : (st : List Value) → f.local.stack ≡ st → Goal st
      by_stack [] es = subst (λ y. Goes p' 1 y (stuck W)) (from_stack [] es) (gets_stuck [] (acts_empty p' (here_of F fs') L (grow ex f.local)))
      by_stack (u ∷ rest) es = by_cell (option_and_then (set_cell p u) (slice_get f.local.captured c)) refl
        where
          by_cell : (o : Option Cell) → option_and_then (set_cell p u) (slice_get f.local.captured c) ≡ o
              → Goes p' 1 (from_here p k p' g n depths m f ex b fs' w ss []) (if_there o W (λ y. stands p k p' g n depths f (record f.local { captured = slice_set f.local.captured c y; stack = rest }) ex B b fs' w ss))
          by_cell None eo = subst (λ y. Goes p' 1 y (stuck W)) (from_stack (u ∷ rest) es) (gets_stuck (u ∷ rest) (acts_unkept p' (here_of F fs') L u rest (grow ex f.local) (kept_so u ∙ eo)))
          by_cell (Some y) eo =
              let l2 : LocalState = record (grow ex f.local) { locals = slice_set (grow ex f.local).locals L y; stack = rest } in
              let l3 : LocalState = grow ex (record f.local { captured = slice_set f.local.captured c y; stack = rest }) in
              let same : l2 ≡ l3 = ap (λ ls. record (grow ex f.local) { locals = ls; stack = rest }) (captured_set f.local.locals f.local.captured ex m.old_locals c y (s.keeps).wide within) in
              subst (λ t. Goes p' 1 t (at_place F l3 B [] fs' W)) (from_stack (u ∷ rest) es)
              (first_step p' F (with_stack (grow ex f.local) (u ∷ rest)) S [] fs' W 0 _ _
              (goes_one p' F (with_stack (grow ex f.local) (u ∷ rest)) l2 S [] fs' W (stloc L) (at_me' F S _ a stands_so.0) (does_stloc p' (here_of F fs') L u rest y (grow ex f.local) (kept_so u ∙ eo)) refl)
              (comes_at_once p' 0 _ _ (ap (λ t. at_place F t (S + 1) [] fs' W) same ∙ ap (λ t. at_place F l3 t [] fs' W) (sym stands_so.1))))

  -- ---- an exception is dropped

  no_exception : (o : Option ℕ) → FitsGroup p k p' g n depths group.Entry o → o ≡ None
  no_exception None y = refl
  no_exception (Some z) y = absurd y

  module _ (j q' : ℕ) (x : Piece) (c : ℕ) (f : Frame) (fs fs' : List Frame) (w : World) (ex : List Cell) (ss : List Statics) (b : Continuation) (y : ℕ) (z : CaptureAt p k p' g n depths r me plan m e j x c) (a : f.method ≡ me) (none : f.thrown ≡ None) (some : 0 < w.depth) (s : Sc f fs fs' w ex ss)
      (lo : m.places (InGroup group.Entry j x.from) ≤ q') (hi : q' < z.handler) (thrown : IsException p w y) where
    abbrev F : Frame
    F = the_base f b

    abbrev W : World
    W = beside ss w

    abbrev T0 : ℕ
    T0 = m.places (InGroup group.Entry j x.from)

    abbrev C : ℕ
    C = z.handler

    abbrev H : ℕ
    H = e.handler

    abbrev D : ℕ
    D = m.door group.Entry

    abbrev R : ℕ
    R = m.out group.Entry

    abbrev the_own : Region
    the_own = own p k p' g n depths r me plan m group.Entry e

    abbrev own_row : ℕ
    own_row = v p k p' g n depths r me plan m group.Entry e

    abbrev cr : Region
    cr = record { kind = region.Catch z.token; try_from = T0; try_to = C; handler_from = C; handler_to = C + 2 }

    abbrev i : ℕ
    i = length z.inner

    abbrev after : List Region
    after = z.outer ++ the_own ∷ e.round

    rows_so : rows p' F ≡ z.inner ++ cr ∷ after
    rows_so = rows_are p k p' g n depths r me plan m group.Entry e F a ∙ ap (λ rs. rs ++ the_own ∷ e.round) z.regions ∙ append_assoc z.inner (cr ∷ z.outer) (the_own ∷ e.round)

    -- its type takes every exception
    taken_type : caught_type p' (frame_at F (grow ex f.local) q' []) z.token ≡ Some object_ty
    unfolding types.out-Ty denote.Hole.Carrier.out
    taken_type = ap (λ t. option_map (under f.type_args f.method_args) (Rattle.cil_semantics.specs.Tokens.as_type (Rattle.cil_semantics.specs.Tokens.meaning_of p' (Rattle.cil_semantics.specs.Lookups.method_of p' t).assembly z.token))) a ∙ ap (option_map (under f.type_args f.method_args)) z.catches

    takes : fits_type p' W y (caught_type p' (frame_at F (grow ex f.local) q' []) z.token) ≡ true
    takes = ap (fits_type p' W y) taken_type ∙ code.same_exceptions W y thrown

    holds : in_try cr q' ≡ true
    holds = held T0 C q' lo hi
      where
        held : (a1 b1 t : ℕ) → a1 ≤ t → t < b1 → (nat_le a1 t && nat_lt t b1) ≡ true
        held a1 b1 t l h = grind (arith, l, h)

    abbrev fits : Token → Bool
    fits token = fits_type p' W y (caught_type p' (frame_at F (grow ex f.local) q' []) token)

    found : search_from fits 0 0 q' (rows p' F) ≡ CatchHandler i C
    found =
        ap (search_from fits 0 0 q') rows_so ∙ search_past fits q' 0 z.inner (cr ∷ after) (z.apart q' lo hi)
        ∙ picks (in_try cr q') (maybe (search_from fits 0 (0 + i + 1) q' after) (λ t. t) (if fits z.token then Some (CatchHandler (0 + i) C) else None)) (search_from fits 0 (0 + i + 1) q' after) holds
        ∙ ap (λ t. maybe (search_from fits 0 (0 + i + 1) q' after) (λ u. u) (if t then Some (CatchHandler (0 + i) C) else None)) takes
        ∙ ap (λ t. CatchHandler t C) (same i)
      where
        same : (t : ℕ) → 0 + t ≡ t
        same t = omega arith

    abbrev h : Handling
    h = record { handler = i; cause = Caught y; place = q'; next = i + 1 }

    -- where its handler holds
    h_at : (t : ℕ) (o : Bool) → (nat_le C t && nat_lt t (C + 2)) ≡ o → in_handler (rows p' F) t h ≡ o
    h_at t o eq = ap (λ rs. in_handler rs t h) rows_so ∙ ap (λ u. maybe false (λ (x1 : Region). Rattle.cil_semantics.specs.Unwind.holds_place x1.handler_from x1.handler_to t) u) (found_own z.inner cr after) ∙ eq

    stays_at : (t : ℕ) → C ≤ t → t < C + 2 → Stay p' F t (h ∷ [])
    stays_at t l u = ap (λ o. if o then h ∷ [] else []) (h_at t true (held C t l u))
      where
        held : (a1 t1 : ℕ) → a1 ≤ t1 → t1 < a1 + 2 → (nat_le a1 t1 && nat_lt t1 (a1 + 2)) ≡ true
        held a1 t1 l1 h1 = grind (arith, l1, h1)

    gone_at : (t : ℕ) → C + 2 ≤ t → in_handler (rows p' F) t h ≡ false
    gone_at t l = h_at t false (not_held C t l)
      where
        not_held : (a1 t1 : ℕ) → a1 + 2 ≤ t1 → (nat_le a1 t1 && nat_lt t1 (a1 + 2)) ≡ false
        not_held a1 t1 l1 = grind (arith, l1)

    abbrev l0 : LocalState
    l0 = grow ex (with_stack f.local [])

    -- caught and dropped
    caught : unwind p' no_contracts false (twin p k p' g n depths f f.local ex q' [] b ∷ fs') W y ≡ at_place F (with_stack l0 (Obj y ∷ [])) C (h ∷ []) fs' W
    caught = throws_caught p' F (grow ex f.local) q' y i C fs' W found (stays_at C (omega arith) (omega arith))

    abbrev LAST : ℕ
    LAST = C + 1

    dropped : (cost0 : ℕ) (to : Next) → Comes p' cost0 (at_place F l0 LAST (h ∷ []) fs' W) to → Comes p' (suc cost0) (unwind p' no_contracts false (twin p k p' g n depths f f.local ex q' [] b ∷ fs') W y) to
    dropped cost0 to come =
        subst (λ t. Comes p' (suc cost0) t to) (sym caught)
        (one_step p' F (with_stack l0 (Obj y ∷ [])) C (h ∷ []) fs' W cost0 _ _
        (goes_one p' F (with_stack l0 (Obj y ∷ [])) l0 C (h ∷ []) fs' W pop (at_me' F C _ a z.pops) (does_pop p' (here_of F fs') (Obj y) [] l0) (stays_at LAST (omega arith) (omega arith))) come)

    last_lo : e.body ≤ LAST
    last_lo = let rm = z.room.0 in omega (arith, rm)

    last_hi : LAST < H
    last_hi = let rm = z.room.1 in omega (arith, rm)

    abbrev Continues : Option (ℕ × Piece) → Type 0
    Continues o = ContinuesAt p k p' g n depths m plan group.Entry (cost k p) (unwind p' no_contracts false (twin p k p' g n depths f f.local ex q' [] b ∷ fs') W y) f fs f.local b fs' w o

    by_piece : (o : Option Piece) → here_now (j + 1) ≡ o → Continues (option_map (λ u. (j + 1, u)) o)
    by_piece (Some u) eq =
        let T = m.places (InGroup group.Entry (j + 1) u.from) in
        let t = e.begins_in (j + 1) u eq in
        record {
          extra = ex;
          keeps = emptied p k p' g n depths r me plan m group.Entry e f fs ex s.keeps;
          statics = ss;
          beside = s.beside;
          comes = comes_within p' 2 (cost k p) _ _ (omega (arith, many))
              (dropped 1 _
              (one_step p' F l0 LAST (h ∷ []) fs' W 0 _ _
              (leaves_out p' F l0 LAST T (h ∷ []) [] fs' W (at_me' F LAST _ a (z.on u eq))
              (plainly p k p' g n depths r me plan m group.Entry e F LAST T a (omega (arith, last_lo)) (omega (arith, last_hi)) (stays_within p k p' g n depths r me plan m group.Entry e (in_try the_own LAST) (in_try the_own T) (in_own p k p' g n depths r me plan m group.Entry e T t.0 t.1)))
              (ap (λ o. if o then h ∷ [] else []) (gone_at T (z.next_behind u eq))))
              (comes_at_once p' 0 _ _ refl)));
        }
    by_piece None eq =
        let h2 : Handling = record { handler = own_row; cause = Leaving R; place = LAST; next = own_row + 1 } in
        let V : World = with_depth depths.owner (w.depth - 1) W in
        let out = e.room.1 in
        record {
          extra = ex;
          keeps = emptied p k p' g n depths r me plan m group.Entry e f fs ex s.keeps;
          statics = V.statics;
          beside = low_beside p k p' g n depths r me plan m group.Entry e many small settings f fs fs' w ex ss s;
          comes = comes_within p' (suc (suc (6 + 1))) (cost k p) _ _ (omega (arith, many))
              (dropped (suc (6 + 1)) _
              (one_step p' F l0 LAST (h ∷ []) fs' W (6 + 1) _ _
              (leaves_through p' F l0 LAST R own_row the_own (h ∷ []) (h2 ∷ []) fs' W (at_me' F LAST _ a (z.over eq))
              (through p k p' g n depths r me plan m group.Entry e F LAST R a (omega (arith, last_lo)) (omega (arith, last_hi)) (goes_out p k p' g n depths r me plan m group.Entry e (in_try the_own LAST) (in_try the_own R) (in_own p k p' g n depths r me plan m group.Entry e LAST last_lo last_hi) (behind_own p k p' g n depths r me plan m group.Entry e R (omega (arith, out)))))
              (only_first h2 refl))
              (comes_on p' 6 1 _ _ _ (lowers p k p' g n depths r me plan m group.Entry e many small settings f fs fs' w ex ss b h2 a refl some s)
              (one_step p' F l0 (H + 1) (h2 ∷ []) fs' V 0 _ _
              (ends_leaving p' F l0 (H + 1) LAST R own_row (own_row + 1) [] fs' V (at_me' F (H + 1) _ a (e.lowers.1).0) (then_none p k p' g n depths r me plan m group.Entry e F LAST R a (omega (arith, last_lo)) (omega (arith, last_hi))) refl)
              (comes_at_once p' 0 _ _ refl)))));
        }
      where
        beyond : C + 2 ≤ H
        beyond = z.room.1

        only_first : (h2 : Handling) → h2.handler ≡ own_row → filter (in_handler (rows p' F) H) (h2 ∷ h ∷ []) ≡ h2 ∷ []
        only_first h2 eq2 =
            ap (λ o. if in_handler (rows p' F) H h2 then h2 ∷ (if o then h ∷ [] else []) else (if o then h ∷ [] else [])) (gone_at H beyond)
            ∙ stays_in p k p' g n depths r me plan m group.Entry e F H h2 a eq2 (omega arith) (omega arith)

    swallows_it : Continues (next_piece p plan group.Entry (j + 1) f fs w)
    swallows_it = subst Continues (sym (next_is p k p' g n depths r me plan m group.Entry e (j + 1) f fs w none)) (by_piece (here_now (j + 1)) refl)

  pub capture_seams : CaptureSeams p k p' g n depths r me plan m e
  capture_seams =
      record {
        takes = λ j q x i c f fs fs' w ex ss b a at here there cap instr takes s. takes_it j q x i c f fs fs' w ex ss b a at here there cap instr takes s;
        swallows = λ j q q' f fs fs' w ex ss b x at here bel a fit some s dr thrown.
            let y = subst (IsHere (Some plan)) at here in
            let cap = some_of (y.0).captures (sym (ap drops y.1) ∙ dr) in
            let z = code.captures j y.0 cap.0 y.1 cap.1 in
            let i = z.belongs_in q q' (subst (λ t. IsTrue (m.belongs t q')) at bel) in
            swallows_it j q' y.0 cap.0 f fs fs' w ex ss b x z a (no_exception f.thrown fit) some s i.0 i.1 thrown;
      }
    where
      some_of : (o : Option ℕ) → maybe false (λ c. true) o ≡ true → (c : ℕ) × (o ≡ Some c)
      some_of None h1 = absurd (cc h1)
      some_of (Some c) h1 = (c, refl)
