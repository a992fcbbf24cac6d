-- A group of clauses as instructions: it opens, goes on, and breaks as the facts say.
use Rattle.std.proofs.Common.{◌≡◌, ℕ, zero, suc, ◌+◌, ◌-◌, ◌<◌, ◌≤◌, Bool, true, false, List, [], ◌∷◌, ◌++◌, length, Option, Some, None, refl, sym, ap, ◌∙◌, subst, arith}
use Rattle.std.specs.Prelude.{slice_get, option_map, if◌then◌else◌, filter, ◌&&◌, ◌==◌, not, nat_le, nat_lt, IsTrue, pos}
use Rattle.cil_base.specs.declared.token.Token.{Token}
use Rattle.cil_model.specs.declared.ty.Ty.{Known}
use Rattle.cil_model.specs.declared.value.Value.{Value, I4, Obj}
use Rattle.cil_model.specs.declared.value.Value as values
use Rattle.cil_model.specs.declared.body.Instr.{Instr}
use Rattle.cil_model.specs.declared.body.Region.{Region}
use Rattle.cil_model.specs.declared.body.RegionKind.TheVariants as region
use Rattle.cil_model.specs.declared.contract.Contracts.{Contracts}
use Rattle.cil_model.specs.declared.contract.Group.{Group}
use Rattle.cil_model.specs.declared.contract.Group.TheVariants as group
use Rattle.cil_model.specs.declared.contract.Settings.{Settings}
use Rattle.cil_model.specs.declared.program.Program.{Program}
use Rattle.cil_model.specs.NoContracts.{no_contracts}
use Rattle.cil_semantics.specs.Words.{maybe}
use Rattle.cil_semantics.specs.declared.state.Cell.{Cell}
use Rattle.cil_semantics.specs.declared.state.Local.{Local as LocalState}
use Rattle.cil_semantics.specs.declared.state.World.{World}
use Rattle.cil_semantics.specs.declared.state.Statics.{Statics}
use Rattle.cil_semantics.specs.declared.state.ProgramPoint.TheVariants.{InGroup}
use Rattle.cil_semantics.specs.declared.state.Cause.TheVariants.{Unwinding, Leaving}
use Rattle.cil_semantics.specs.declared.state.Handling.{Handling}
use Rattle.cil_semantics.specs.declared.state.Frame.{Frame}
use Rattle.cil_semantics.specs.State.{with_stack, pushed, raised, lowered}
use Rattle.cil_semantics.specs.declared.state.Continuation.{Continuation}
use Rattle.cil_semantics.specs.Contracted.{Piece, Plan, pieces, runs_at}
use Rattle.cil_semantics.specs.Acts.{truth}
use Rattle.cil_semantics.specs.Unwind.{body_of, here_of, piece_at, in_try, in_handler, search_from, left_from, NoHandler, CleanupHandler, first_from, next_piece, takes_part, unwind, find_statics, ends_frame, drops}
use Rattle.cil_semantics.specs.Checks.{AddedNumbers}
use Rattle.machine_laws.specs.Same.{most_clauses}
use Rattle.splice_facts.specs.Comes.{Comes}
use Rattle.splice_facts.specs.Grown.{grow, beside}
use Rattle.splice_facts.specs.Layout.{Depths, Marks, Keeps, HasDepth, IsHere}
use Rattle.splice_facts.specs.Spliced.{Beside, Paired, twin, stands, leaves_with, ContinuesAt, cost}
use Rattle.splice_laws.specs.Straight.{brfalse, call, leave, at_place, Misses}
use Rattle.splice_laws.specs.HelperRuns.{HelpersRun, EnterRuns, with_depth, entered, enter_of, most_of}
use Rattle.splice_laws.specs.EntryCode.{GroupFrame, GroupDoor}
use Rattle.splice_laws.specs.GroupSeams.{BeginsAt}
use Rattle.splice_facts.proofs.ComesLaws.{comes_at_once, comes_on, comes_within}
use Rattle.splice_laws.proofs.StraightLaws.{one_step, goes_one, jumps_one, tests_brfalse, rows}
use Rattle.splice_laws.specs.Straight.{Stay}
use Rattle.splice_laws.proofs.LeavingLaws.{search_past, search_behind, search_none, left_past, left_behind, left_none, found_own, leaves_plainly, leaves_into, ends_leaving, ends_throwing, throws_into}
use Rattle.splice_laws.proofs.DepthLaws.{depth_set, others_set, apart_set}

truth_of_one : truth (I4 (pos 1)) ≡ Some true
unfolding values.out-Value denote.Hole.Carrier.out
truth_of_one = refl

truth_of_zero : truth (I4 (pos 0)) ≡ Some false
unfolding values.out-Value denote.Hole.Carrier.out
truth_of_zero = refl

-- a depth of at most 0 is 0
at_most_none : (d : ℕ) → nat_le d 0 ≡ (d == 0)
at_most_none d = grind arith

keeps_none : (o : Option ℕ) → maybe false (λ c. true) o ≡ false → o ≡ None
keeps_none None e = refl
keeps_none (Some c) e = absurd (cc e)

-- where each piece takes part, the next one is that of the next number
first_of_all : (test : Piece → Bool) (skip i : ℕ) (xs : List Piece) → ((x : Piece) → test x ≡ true) → first_from test skip i xs ≡ option_map (λ x. (i + skip, x)) (slice_get xs skip)
first_of_all test skip i [] all = refl
first_of_all test zero i (x ∷ xs) all = ap (λ b. if b then Some (i, x) else first_from test zero (i + 1) xs) (all x) ∙ ap (λ j. Some (j, x)) (same i)
  where
    same : (j : ℕ) → j ≡ j + 0
    same j = omega arith
first_of_all test (suc skip) i (x ∷ xs) all = first_of_all test skip (i + 1) xs all ∙ ap (λ j. option_map (λ y. (j, y)) (slice_get xs skip)) (same i skip)
  where
    same : (a b : ℕ) → a + 1 + b ≡ a + suc b
    same a b = omega arith

module _ (p : Program) (k : Contracts) (p' : Program) (g : AddedNumbers) (n : ℕ) (depths : Depths n g) where
  all_part : (f : Frame) (fs : List Frame) (w : World) (x : Piece) → f.thrown ≡ None → takes_part p f fs w x ≡ true
  all_part f fs w x e = ap (λ t. takes_part p (record f { thrown = t }) fs w x) e

  module _ (r : HelpersRun p' g k.settings.throwing depths.owner k.settings.guard) (me : ℕ) (plan : Plan) (m : Marks) (gr : Group) (e : GroupFrame p p' g k.settings.throwing depths.owner k.settings.guard r me plan m gr) where
    abbrev D : ℕ
    D = m.door gr

    abbrev R : ℕ
    R = m.out gr

    abbrev H : ℕ
    H = e.handler

    abbrev pub own : Region
    own = record { kind = region.Finally; try_from = e.body; try_to = H; handler_from = H; handler_to = H + 2 }

    abbrev pub v : ℕ
    v = length e.before

    abbrev here_now : ℕ → Option Piece
    here_now j = piece_at (Some plan) gr j

    pub next_is : (j : ℕ) (f : Frame) (fs : List Frame) (w : World) → f.thrown ≡ None → next_piece p plan gr j f fs w ≡ option_map (λ x. (j, x)) (here_now j)
    next_is j f fs w t = first_of_all (takes_part p f fs w) j 0 (pieces plan gr) (λ x. all_part f fs w x t) ∙ ap (λ i. option_map (λ x. (i, x)) (here_now j)) (same j)
      where
        same : (i : ℕ) → 0 + i ≡ i
        same i = omega arith

    -- ---- regions

    pub rows_are : (f : Frame) → f.method ≡ me → rows p' f ≡ e.before ++ own ∷ e.round
    rows_are f q = ap (λ z. (body_of p' z).regions) q ∙ e.regions

    pub in_own : (q : ℕ) → e.body ≤ q → q < H → in_try own q ≡ true
    in_own q a b = grind (arith, a, b)

    before_own : (q : ℕ) → q < e.body → in_try own q ≡ false
    before_own q a = grind (arith, a)

    pub behind_own : (q : ℕ) → H ≤ q → in_try own q ≡ false
    behind_own q a = grind (arith, a)

    handled : (q : ℕ) → H ≤ q → q < H + 2 → (nat_le H q && nat_lt q (H + 2)) ≡ true
    handled q a b = grind (arith, a, b)

    pub stays_in : (f : Frame) (q : ℕ) (h : Handling) → f.method ≡ me → h.handler ≡ v → H ≤ q → q < H + 2 → Stay p' f q (h ∷ [])
    stays_in f q h a b lo hi =
        ap (λ rs. filter (in_handler rs q) (h ∷ [])) (rows_are f a)
        ∙ ap (λ o. if maybe false (λ (x : Region). Rattle.cil_semantics.specs.Unwind.holds_place x.handler_from x.handler_to q) o then h ∷ [] else []) (ap (slice_get (e.before ++ own ∷ e.round)) b ∙ found_own e.before own e.round)
        ∙ ap (λ z. if z then h ∷ [] else []) (handled q lo hi)

    pub plainly : (f : Frame) (q t : ℕ) → f.method ≡ me → e.body ≤ q → q < H + 2 → (in_try own q && not (in_try own t)) ≡ false → left_from 0 0 q t (rows p' f) ≡ None
    plainly f q t a lo hi within =
        let miss = e.apart q lo hi in
        ap (left_from 0 0 q t) (rows_are f a) ∙ left_past q t 0 e.before (own ∷ e.round) miss.0
        ∙ ap (λ b. if b then Some (0 + v, own) else left_from 0 (0 + v + 1) q t e.round) within ∙ left_none q t (0 + v + 1) e.round miss.1

    pub through : (f : Frame) (q t : ℕ) → f.method ≡ me → e.body ≤ q → q < H + 2 → (in_try own q && not (in_try own t)) ≡ true → left_from 0 0 q t (rows p' f) ≡ Some (v, own)
    through f q t a lo hi beyond =
        let miss = e.apart q lo hi in
        ap (left_from 0 0 q t) (rows_are f a) ∙ left_past q t 0 e.before (own ∷ e.round) miss.0
        ∙ ap (λ b. if b then Some (0 + v, own) else left_from 0 (0 + v + 1) q t e.round) beyond ∙ ap (λ j. Some (j, own)) (same v)
      where
        same : (j : ℕ) → 0 + j ≡ j
        same j = omega arith

    next_number : (j : ℕ) → j + 1 ≡ suc j
    next_number j = omega arith

    pub then_none : (f : Frame) (q t : ℕ) → f.method ≡ me → e.body ≤ q → q < H + 2 → left_from (v + 1) 0 q t (rows p' f) ≡ None
    then_none f q t a lo hi =
        let miss = e.apart q lo hi in
        ap (left_from (v + 1) 0 q t) (rows_are f a) ∙ ap (λ j. left_from j 0 q t (e.before ++ own ∷ e.round)) (next_number v) ∙ left_behind q t 0 e.before own e.round ∙ left_none q t (0 + v + 1) e.round miss.1

    taken : (fits : Token → Bool) (f : Frame) (q : ℕ) → f.method ≡ me → e.body ≤ q → q < H → Misses q e.before → search_from fits 0 0 q (rows p' f) ≡ CleanupHandler v H
    taken fits f q a lo hi out =
        ap (search_from fits 0 0 q) (rows_are f a) ∙ search_past fits q 0 e.before (own ∷ e.round) out
        ∙ ap (λ b. if b then CleanupHandler (0 + v) H else search_from fits 0 (0 + v + 1) q e.round) (in_own q lo hi) ∙ ap (λ j. CleanupHandler j H) (same v)
      where
        same : (j : ℕ) → 0 + j ≡ j
        same j = omega arith

    no_more : (fits : Token → Bool) (f : Frame) (q : ℕ) → f.method ≡ me → e.body ≤ q → q < H → search_from fits (v + 1) 0 q (rows p' f) ≡ NoHandler
    no_more fits f q a lo hi =
        let miss = e.apart q (omega (arith, lo)) (omega (arith, hi)) in
        ap (search_from fits (v + 1) 0 q) (rows_are f a) ∙ ap (λ j. search_from fits j 0 q (e.before ++ own ∷ e.round)) (next_number v) ∙ search_behind fits q 0 e.before own e.round ∙ search_none fits q (0 + v + 1) e.round miss.1

    pub at_me : (f : Frame) (q : ℕ) (i : Instr) → f.method ≡ me → slice_get (body_of p' me).instrs q ≡ Some i → slice_get (body_of p' f.method).instrs q ≡ Some i
    at_me f q i a there = ap (λ z. slice_get (body_of p' z).instrs q) a ∙ there

    -- ---- the group

    abbrev pub base : Frame → Continuation → Frame
    base f b = twin p k p' g n depths f f.local [] 0 [] b

    abbrev Sc : Frame → List Frame → List Frame → World → List Cell → List Statics → Type 0
    Sc f fs fs' w ex ss = Paired p k p' g n depths m f fs fs' w ex ss

    pub emptied : (f : Frame) (fs : List Frame) (ex : List Cell) → Keeps m (here_of f fs) f.thrown f.local ex → Keeps m (here_of f fs) f.thrown (with_stack f.local []) ex
    emptied f fs ex kp = record { wide = kp.wide; caps = kp.caps; typed = kp.typed; result = kp.result; thrown = kp.thrown }

    both_false : (a b : Bool) → a ≡ false → (a && not b) ≡ false
    both_false true b q = absurd (cc q)
    both_false false b q = refl

    pub stays_within : (a b : Bool) → b ≡ true → (a && not b) ≡ false
    stays_within true true q = refl
    stays_within false true q = refl
    stays_within a false q = absurd (cc q)

    pub goes_out : (a b : Bool) → a ≡ true → b ≡ false → (a && not b) ≡ true
    goes_out true false q s = refl
    goes_out true true q s = absurd (cc s)
    goes_out false b q s = absurd (cc q)

    module _ (many : 1 ≤ most_clauses k p 0 p.methods) (small : k.settings.guard ≤ 100) (settings : plan.settings ≡ k.settings) where
      asks_runs : (gr1 : Group) → EnterRuns p' depths.owner (enter_of r gr1) (most_of gr1 k.settings.guard)
      asks_runs group.Entry = r.enters
      asks_runs group.Exit = r.enters
      asks_runs group.Throw = r.enters
      asks_runs group.Invariant = r.enters_outer
      asks_runs group.Inline = r.enters

      pub asked : (gr1 : Group) (d : ℕ) (t : Bool) → runs_at plan gr1 d ≡ t → nat_le d (most_of gr1 k.settings.guard) ≡ t
      asked group.Entry d t q = ap (λ (z : Settings). nat_le d z.guard) (sym settings) ∙ q
      asked group.Exit d t q = ap (λ (z : Settings). nat_le d z.guard) (sym settings) ∙ q
      asked group.Throw d t q = ap (λ (z : Settings). nat_le d z.guard) (sym settings) ∙ q
      asked group.Invariant d t q = at_most_none d ∙ q
      asked group.Inline d t q = ap (λ (z : Settings). nat_le d z.guard) (sym settings) ∙ q

      -- the door: `enter` is asked
      pub asks : (D : ℕ) → slice_get (body_of p' me).instrs D ≡ Some (call r.assembly (e.reporting).tools.enter) → (f : Frame) (fs fs' : List Frame) (w : World) (ex : List Cell) (ss : List Statics) (b : Continuation) (t : Bool) → f.method ≡ me → Sc f fs fs' w ex ss → nat_le w.depth (most_of gr k.settings.guard) ≡ t
          → Comes p' 10 (stands p k p' g n depths f f.local ex D b fs' w ss) (entered depths.owner t w.depth (base f b) (grow ex f.local) D [] fs' (beside ss w))
      asks D opens f fs fs' w ex ss b t a s q =
          let F : Frame = base f b in
          let W : World = beside ss w in
          let deep : w.depth ≤ suc k.settings.guard = s.deep in
          asks_runs gr F (grow ex f.local) D [] fs' W r.assembly (e.reporting).tools.enter w.depth t (at_me F D _ a opens) e.enter_token (s.beside).depth (omega (arith, deep, small)) refl q

      -- ---- the handler

      one_deep : (d : ℕ) → 0 < d → d - 1 + 1 ≡ d
      one_deep d h = omega (arith, h)

      -- it lowers the depth
      pub lowers : (f : Frame) (fs fs' : List Frame) (w : World) (ex : List Cell) (ss : List Statics) (b : Continuation) (h : Handling) → f.method ≡ me → h.handler ≡ v → 0 < w.depth → Sc f fs fs' w ex ss
          → Comes p' 6 (at_place (base f b) (grow ex (with_stack f.local [])) H (h ∷ []) fs' (beside ss w)) (at_place (base f b) (grow ex (with_stack f.local [])) (H + 1) (h ∷ []) fs' (with_depth depths.owner (w.depth - 1) (beside ss w)))
      lowers f fs fs' w ex ss b h a hv some s =
          let F : Frame = base f b in
          let W : World = beside ss w in
          let deep : w.depth ≤ suc k.settings.guard = s.deep in
          r.leaves F (grow ex (with_stack f.local [])) H (h ∷ []) fs' W r.assembly (e.reporting).tools.leave (w.depth - 1) (at_me F H _ a e.lowers.0) e.leave_token
          (subst (λ d. HasDepth d (find_statics (Known depths.owner) ss)) (sym (one_deep w.depth some)) (s.beside).depth) (omega (arith, deep, small)) (stays_in F (H + 1) h a hv (omega arith) (omega arith))

      pub low_beside : (f : Frame) (fs fs' : List Frame) (w : World) (ex : List Cell) (ss : List Statics) → Sc f fs fs' w ex ss → Beside p k p' g n depths (lowered w) (with_depth depths.owner (w.depth - 1) (beside ss w)).statics
      low_beside f fs fs' w ex ss s =
          record {
            statics = others_set depths.owner n (w.depth - 1) (beside ss w) depths.appended ∙ (s.beside).statics;
            depth = depth_set depths.owner w.depth (w.depth - 1) (beside ss w) (s.beside).depth;
            bare = apart_set depths.owner g.exception (w.depth - 1) (beside ss w) depths.apart ∙ (s.beside).bare;
            failures = (s.beside).failures;
          }

      pub raised_beside : (f : Frame) (fs fs' : List Frame) (w : World) (ex : List Cell) (ss : List Statics) → Sc f fs fs' w ex ss → Beside p k p' g n depths (raised w) (with_depth depths.owner (w.depth + 1) (beside ss w)).statics
      raised_beside f fs fs' w ex ss s =
          record {
            statics = others_set depths.owner n (w.depth + 1) (beside ss w) depths.appended ∙ (s.beside).statics;
            depth = depth_set depths.owner w.depth (w.depth + 1) (beside ss w) (s.beside).depth;
            bare = apart_set depths.owner g.exception (w.depth + 1) (beside ss w) depths.apart ∙ (s.beside).bare;
            failures = (s.beside).failures;
          }

      -- out through the finally, with the depth lowered
      pub goes_over : (B : ℕ) → slice_get (body_of p' me).instrs B ≡ Some (leave R) → e.body ≤ B → B < H → (f : Frame) (fs fs' : List Frame) (w : World) (ex : List Cell) (ss : List Statics) (b : Continuation) (l : LocalState) → with_stack l [] ≡ grow ex (with_stack f.local []) → f.method ≡ me → 0 < w.depth → Sc f fs fs' w ex ss
          → Comes p' (1 + (6 + 1)) (at_place (base f b) l B [] fs' (beside ss w)) (at_place (base f b) (grow ex (with_stack f.local [])) R [] fs' (with_depth depths.owner (w.depth - 1) (beside ss w)))
      goes_over B there lo hi f fs fs' w ex ss b l same a some s =
          let F : Frame = base f b in
          let l0 : LocalState = grow ex (with_stack f.local []) in
          let W : World = beside ss w in
          let h : Handling = record { handler = v; cause = Leaving R; place = B; next = v + 1 } in
          let V : World = with_depth depths.owner (w.depth - 1) W in
          let dhi : B < H + 2 = omega (arith, hi) in
          one_step p' F l B [] fs' W (6 + 1) _ _
          (leaves_into p' F l B R v own [] fs' W (at_me F B _ a there) (through F B R a lo dhi (goes_out (in_try own B) (in_try own R) (in_own B lo hi) (behind_own R (omega (arith, e.room.1))))) (stays_in F H h a refl (omega arith) (omega arith)) ∙ ap (λ z. at_place F z H (h ∷ []) fs' W) same)
          (comes_on p' 6 1 _ _ _ (lowers f fs fs' w ex ss b h a refl some s)
          (one_step p' F l0 (H + 1) (h ∷ []) fs' V 0 _ _
          (ends_leaving p' F l0 (H + 1) B R v (v + 1) [] fs' V (at_me F (H + 1) _ a (e.lowers.1).0) (then_none F B R a lo dhi) refl)
          (comes_at_once p' 0 _ _ refl)))

      -- breaks
      pub breaks_group : (j q q' : ℕ) (f : Frame) (fs fs' : List Frame) (w : World) (ex : List Cell) (ss : List Statics) (b : Continuation) (x : ℕ) → f.at ≡ InGroup gr j q → IsHere (Some plan) f.at → IsTrue (m.belongs f.at q') → f.method ≡ me → 0 < w.depth → Sc f fs fs' w ex ss → drops (piece_at (Some plan) gr j) ≡ false
          → (ss2 : List Statics) × Beside p k p' g n depths (lowered w) ss2 × Comes p' (cost k p) (unwind p' no_contracts false (twin p k p' g n depths f f.local ex q' [] b ∷ fs') (beside ss w) x) (leaves_with p k p' g n depths f b fs' (lowered w) ss2 x)
      breaks_group j q q' f fs fs' w ex ss b x at here bel a some s kept =
          let F : Frame = base f b in
          let l0 = grow ex (with_stack f.local []) in
          let W : World = beside ss w in
          let V : World = with_depth depths.owner (w.depth - 1) W in
          let h : Handling = record { handler = v; cause = Unwinding x; place = q'; next = v + 1 } in
          let i = e.belongs_in j q q' (subst (λ z. IsTrue (m.belongs z q')) at bel) in
          let y = subst (IsHere (Some plan)) at here in
          let out = e.kept_out j q q' y.0 y.1 (keeps_none (y.0).captures (sym (ap drops y.1) ∙ kept)) (subst (λ z. IsTrue (m.belongs z q')) at bel) in (
            V.statics,
            low_beside f fs fs' w ex ss s,
            comes_within p' (6 + 1) (cost k p) _ _ (omega (arith, many))
                (subst (λ y. Comes p' (6 + 1) y (leaves_with p k p' g n depths f b fs' (lowered w) V.statics x))
                (sym (throws_into p' F (grow ex f.local) q' x v H fs' W (λ fits. taken fits F q' a i.0 i.1 out) (stays_in F H h a refl (omega arith) (omega arith))))
                (comes_on p' 6 1 _ _ _ (lowers f fs fs' w ex ss b h a refl some s)
                (one_step p' F l0 (H + 1) (h ∷ []) fs' V 0 _ _
                (ends_throwing p' F l0 (H + 1) q' x v (v + 1) [] fs' V (at_me F (H + 1) _ a (e.lowers.1).0) (λ fits. no_more fits F q' a i.0 i.1))
                (comes_at_once p' 0 _ _ refl)))),
          )

      -- ---- where each piece takes part

      module _ (c : GroupDoor p p' g k.settings.throwing depths.owner k.settings.guard r me plan m gr e) where
        -- the group begins with the stack that is there
        pub begins_group : (f : Frame) (fs fs' : List Frame) (w : World) (ex : List Cell) (ss : List Statics) (b : Continuation) → f.method ≡ me → f.thrown ≡ None → Sc f fs fs' w ex ss
            → BeginsAt p k p' g n depths me plan m gr (stands p k p' g n depths f f.local ex D b fs' w ss) f fs f.local b fs' w (next_piece p plan gr 0 f fs w) (runs_at plan gr w.depth)
        begins_group f fs fs' w ex ss b a none s =
            subst (λ o. Opens o (runs_at plan gr w.depth)) (sym (next_is 0 f fs w none ∙ ap (option_map (λ x. (0, x))) c.there)) (by_test (runs_at plan gr w.depth) refl)
          where
            Opens : Option (ℕ × Piece) → Bool → Type 0
            Opens o t = BeginsAt p k p' g n depths me plan m gr (stands p k p' g n depths f f.local ex D b fs' w ss) f fs f.local b fs' w o t

            F : Frame
            F = base f b

            l0 : LocalState
            l0 = grow ex f.local

            W : World
            W = beside ss w

            V : World
            V = with_depth depths.owner (w.depth + 1) W

            two : D + 1 + 1 ≡ D + 2
            two = omega arith

            by_test : (t : Bool) → runs_at plan gr w.depth ≡ t → Opens (Some (0, c.first)) t
            by_test true q =
                record {
                  extra = ex;
                  keeps = s.keeps;
                  statics = V.statics;
                  beside = raised_beside f fs fs' w ex ss s;
                  comes = comes_within p' (10 + 1) (cost k p) _ _ (omega (arith, many))
                      (comes_on p' 10 1 _ _ _ (asks D c.opens.0 f fs fs' w ex ss b true a s (asked gr w.depth true q))
                      (one_step p' F (pushed (I4 (pos 1)) l0) (D + 1) [] fs' V 0 _ _
                      (goes_one p' F (pushed (I4 (pos 1)) l0) l0 (D + 1) [] fs' V (brfalse R) (at_me F (D + 1) _ a (c.opens.1).0) (tests_brfalse p' (here_of F fs') R (I4 (pos 1)) l0.stack l0 true truth_of_one) refl)
                      (comes_at_once p' 0 _ _ (ap (λ z. at_place F l0 z [] fs' V) (two ∙ sym c.first_here)))));
                }
            by_test false q =
                record {
                  extra = ex;
                  keeps = s.keeps;
                  statics = ss;
                  beside = s.beside;
                  comes = comes_within p' (10 + 1) (cost k p) _ _ (omega (arith, many))
                      (comes_on p' 10 1 _ _ _ (asks D c.opens.0 f fs fs' w ex ss b false a s (asked gr w.depth false q))
                      (one_step p' F (pushed (I4 (pos 0)) l0) (D + 1) [] fs' W 0 _ _
                      (jumps_one p' F (pushed (I4 (pos 0)) l0) l0 (D + 1) R [] fs' W (brfalse R) (at_me F (D + 1) _ a (c.opens.1).0) (tests_brfalse p' (here_of F fs') R (I4 (pos 0)) l0.stack l0 false truth_of_zero) refl)
                      (comes_at_once p' 0 _ _ refl)));
                }

        -- continues
        pub continues_group : (j : ℕ) (x : Piece) (f : Frame) (fs fs' : List Frame) (w : World) (ex : List Cell) (ss : List Statics) (b : Continuation) → here_now j ≡ Some x → f.method ≡ me → f.thrown ≡ None → 0 < w.depth → Sc f fs fs' w ex ss
            → ContinuesAt p k p' g n depths m plan gr (cost k p) (stands p k p' g n depths f f.local ex (m.behind gr j) b fs' w ss) f fs f.local b fs' w (next_piece p plan gr (j + 1) f fs w)
        continues_group j x f fs fs' w ex ss b there a none some s =
            subst Continues (sym (next_is (j + 1) f fs w none)) (by_piece (here_now (j + 1)) refl)
          where
            Continues : Option (ℕ × Piece) → Type 0
            Continues o = ContinuesAt p k p' g n depths m plan gr (cost k p) (stands p k p' g n depths f f.local ex (m.behind gr j) b fs' w ss) f fs f.local b fs' w o

            F : Frame
            F = base f b

            l0 : LocalState
            l0 = grow ex (with_stack f.local [])

            W : World
            W = beside ss w

            B : ℕ
            B = m.behind gr j

            lo : e.body ≤ B
            lo = (e.behind_in j x there).0

            hi : B < H
            hi = (e.behind_in j x there).1

            by_piece : (o : Option Piece) → here_now (j + 1) ≡ o → Continues (option_map (λ y. (j + 1, y)) o)
            by_piece (Some y) q =
                let T = m.places (InGroup gr (j + 1) y.from) in
                let t = e.begins_in (j + 1) y q in
                record {
                  extra = ex;
                  keeps = emptied f fs ex s.keeps;
                  statics = ss;
                  beside = s.beside;
                  comes = comes_within p' 1 (cost k p) _ _ (omega (arith, many))
                      (one_step p' F (grow ex f.local) B [] fs' W 0 _ _
                      (leaves_plainly p' F (grow ex f.local) B T [] fs' W (at_me F B _ a (c.on j x y there q)) (plainly F B T a (omega (arith, lo)) (omega (arith, hi)) (stays_within (in_try own B) (in_try own T) (in_own T t.0 t.1))) refl)
                      (comes_at_once p' 0 _ _ refl));
                }
            by_piece None q =
                record {
                  extra = ex;
                  keeps = emptied f fs ex s.keeps;
                  statics = (with_depth depths.owner (w.depth - 1) W).statics;
                  beside = low_beside f fs fs' w ex ss s;
                  comes = comes_within p' (1 + (6 + 1)) (cost k p) _ _ (omega (arith, many)) (goes_over B (c.over j x there q) lo hi f fs fs' w ex ss b (grow ex f.local) refl a some s);
                }
