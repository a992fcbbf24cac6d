-- The group of EnsuresOnThrow begins with the first clause that the exception fits, and goes on with the next one.
use Rattle.std.proofs.Common.{◌≡◌, ℕ, zero, suc, ◌+◌, ◌*◌, ◌-◌, ◌<◌, ◌≤◌, Bool, true, false, List, [], ◌∷◌, ◌++◌, length, Option, Some, None, refl, sym, ap, ◌∙◌, subst, arith}
use Rattle.std.specs.Prelude.{slice_get, option_map, option_and_then, if◌then◌else◌, drop, pos}
use Rattle.cil_base.specs.declared.token.Token.{Token}
use Rattle.cil_model.specs.declared.ty.Ty.{Ty}
use Rattle.cil_model.specs.declared.value.Value.{Value, I4, Obj}
use Rattle.cil_model.specs.declared.value.Value as values
use Rattle.cil_model.specs.declared.body.Instr.{Instr}
use Rattle.cil_model.specs.declared.contract.Contracts.{Contracts}
use Rattle.cil_model.specs.declared.contract.Group.TheVariants as group
use Rattle.cil_model.specs.declared.program.Program.{Program}
use Rattle.cil_semantics.specs.Words.{maybe}
use Rattle.cil_semantics.specs.Lookups.{is_sub}
use Rattle.cil_semantics.specs.declared.state.Cell.{Cell}
use Rattle.cil_semantics.specs.declared.state.Local.{Local as LocalState}
use Rattle.cil_semantics.specs.declared.state.World.{World}
use Rattle.cil_semantics.specs.declared.state.Statics.{Statics}
use Rattle.cil_semantics.specs.declared.state.ProgramPoint.TheVariants.{InGroup}
use Rattle.cil_semantics.specs.declared.state.Frame.{Frame}
use Rattle.cil_semantics.specs.declared.state.Continuation.{Continuation}
use Rattle.cil_semantics.specs.State.{Next, unrecorded, goes_after, with_stack, pushed, raised}
use Rattle.cil_semantics.specs.Acts.{truth}
use Rattle.cil_semantics.specs.Tokens.{Here, ref_type}
use Rattle.cil_semantics.specs.Contracted.{Piece, Plan, pieces, runs_at}
use Rattle.cil_semantics.specs.Unwind.{body_of, here_of, piece_at, in_try, first_from, next_piece, takes_part, fits_type, object_type}
use Rattle.cil_semantics.specs.Checks.{AddedNumbers}
use Rattle.machine_laws.specs.Same.{most_clauses, plain_step}
use Rattle.splice_facts.specs.Comes.{Comes}
use Rattle.splice_facts.specs.Exceptions.{IsException}
use Rattle.splice_facts.specs.Grown.{grow, beside}
use Rattle.splice_facts.specs.Layout.{Depths, Marks, Keeps}
use Rattle.splice_facts.specs.Spliced.{Paired, Arrives, OpensAt, ContinuesAt, stands, cost, opening_cost}
use Rattle.splice_laws.specs.Straight.{ldloc, br, brtrue, brfalse, leave, frame_at, at_place}
use Rattle.splice_laws.specs.HelperRuns.{HelpersRun, with_depth}
use Rattle.splice_laws.specs.EntryCode.{GroupFrame}
use Rattle.splice_facts.proofs.ComesLaws.{comes_at_once, comes_on, comes_within}
use Rattle.splice_laws.proofs.StraightLaws.{one_step, goes_one, jumps_one, steps_by, arrives_at, does_ldloc, jumps_br, tests_brtrue, tests_brfalse, done}
use Rattle.splice_laws.proofs.SeamLocalLaws.{extra_at}
use Rattle.splice_laws.proofs.LeavingLaws.{leaves_plainly}
use Rattle.splice_laws.proofs.EntryGroupLaws.{plainly, in_own, stays_within, own, base, at_me, emptied, asks, asked, raised_beside, low_beside, goes_over, breaks_group}
use Rattle.splice_laws.proofs.GroupLaws.{checks_group, stuck_group}
use Rattle.throw_laws.specs.ThrowCode.{isinst, NamesType, TestsAt, AgainAt, ThrowCode, ThrowSeams}
use Rattle.throw_laws.proofs.TestLaws.{tested, tested_truth, tests, acts_isinst, tests_so, has_type, first_behind, First, first_or_last}

truth_of_one : truth (I4 (pos 1)) ≡ Some true
unfolding values.out-Value denote.Hole.Carrier.out
truth_of_one = refl

truth_of_zero : truth (I4 (pos 0)) ≡ Some false
unfolding values.out-Value denote.Hole.Carrier.out
truth_of_zero = refl

module _ (p : Program) (k : Contracts) (p' : Program) (g : AddedNumbers) (n : ℕ) (depths : Depths n g) (r : HelpersRun p' g k.settings.throwing depths.owner k.settings.guard) (me : ℕ) (plan : Plan) (m : Marks) (e : GroupFrame p p' g k.settings.throwing depths.owner k.settings.guard r me plan m group.Throw) (c : ThrowCode p k p' g n depths r me plan m e)
    (many : 1 ≤ most_clauses k p 0 p.methods) (few : length (pieces plan group.Throw) ≤ most_clauses k p 0 p.methods) (small : k.settings.guard ≤ 100) (settings : plan.settings ≡ k.settings) where
  abbrev ps : List Piece
  ps = pieces plan group.Throw

  abbrev D : ℕ
  D = m.door group.Throw

  abbrev R : ℕ
  R = m.out group.Throw

  abbrev H : ℕ
  H = e.handler

  abbrev to_piece : ℕ → Piece → ℕ
  to_piece j x = m.places (InGroup group.Throw j x.from)

  abbrev the_own : Rattle.cil_model.specs.declared.body.Region.Region
  the_own = own p k p' g n depths r me plan m group.Throw e

  module _ (f : Frame) (fs fs' : List Frame) (w : World) (ex : List Cell) (ss : List Statics) (b : Continuation) (y : ℕ) (a : f.method ≡ me) (thrown : f.thrown ≡ Some y) (there_is : IsException p w y) (s : Paired p k p' g n depths m f fs fs' w ex ss) where
    abbrev F : Frame
    F = base p k p' g n depths r me plan m group.Throw e f b

    abbrev l0 : LocalState
    l0 = grow ex (with_stack f.local [])

    abbrev W : World
    W = beside ss w

    at_mine : (q : ℕ) (i : Instr) → slice_get (body_of p' me).instrs q ≡ Some i → slice_get (body_of p' f.method).instrs q ≡ Some i
    at_mine q i h = at_me p k p' g n depths r me plan m group.Throw e f q i a h

    abbrev test : Piece → Bool
    test x = takes_part p f fs w x

    typed : (u : Ty) × (object_type w y ≡ Some u)
    typed = has_type p w y there_is

    -- the exception lies in its local
    held : (z : Cell) × (slice_get l0.locals c.thrown ≡ Some z) × (z.value ≡ Obj y)
    held = by_cell (slice_get ex m.thrown_at) refl ((s.keeps).thrown y thrown)
      where
        by_cell : (o : Option Cell) → slice_get ex m.thrown_at ≡ o → option_map (λ (z : Cell). z.value) o ≡ Some (Obj y) → (z : Cell) × (slice_get l0.locals c.thrown ≡ Some z) × (z.value ≡ Obj y)
        by_cell None h1 h2 = absurd (cc h2)
        by_cell (Some z) h1 h2 = (z, ap (slice_get l0.locals) c.thrown_is ∙ extra_at m.old_locals m.olds f.local.locals f.local.captured ex m.thrown_at (s.keeps).wide (s.keeps).caps ∙ h1, cc h2)

    abbrev here : Here
    here = here_of F fs'

    -- the type is that of the other run
    alike : (t : Token) (x : Piece) → NamesType p k p' g n depths r me plan m e t x → (v : Ty) × (option_and_then (ref_type p (here_of f fs)) x.clause.exception ≡ Some v) × (Rattle.cil_semantics.specs.Tokens.meaning_here p' here (isinst r.assembly t) ≡ Some (Rattle.cil_model.specs.declared.program.Meaning.TheVariants.OfType v))
    alike t x named =
        let z = named here a in
        (z.0, ap (λ j. option_and_then (ref_type p (record { number = j; method = f.method; type_args = f.type_args; method_args = f.method_args })) x.clause.exception) (sym s.numbers) ∙ z.1, z.2)

    test_is : (x : Piece) (v : Ty) → option_and_then (ref_type p (here_of f fs)) x.clause.exception ≡ Some v → is_sub p' typed.0 v ≡ test x
    test_is x v ev =
        c.same_sub typed.0 v
        ∙ sym (ap (λ o. maybe true (λ z. fits_type p w z (option_and_then (ref_type p (here_of f fs)) x.clause.exception)) o) thrown
        ∙ ap (fits_type p w y) ev ∙ ap (maybe false (λ u. is_sub p u v)) typed.1)

    -- ---- the tests in turn

    -- in a world with the same heap
    module _ (V : World) (heap : object_type (unrecorded V) y ≡ Some typed.0) where
      abbrev at_q : LocalState → ℕ → Next
      at_q l q = at_place F l q [] fs' V

      abbrev Lands : (ℕ → Piece → ℕ) → ℕ → List Piece → ℕ → Option (ℕ × Piece) → Type 0
      Lands to i xs q None = Comes p' (3 * length xs) (at_q l0 q) (at_q l0 (q + 3 * length xs))
      Lands to i xs q (Some z) = Comes p' (3 * length xs) (at_q l0 q) (at_q l0 (to z.0 z.1))

      -- one test: the exception, or null, is left
      one_test : (x : Piece) (t : ℕ) (q : ℕ) (b1 : Bool) (to : Next) (cost1 : ℕ) → Rattle.splice_laws.specs.Straight.StandAt (body_of p' me).instrs q (ldloc c.thrown ∷ isinst r.assembly (c.token x) ∷ brtrue t ∷ []) → NamesType p k p' g n depths r me plan m e (c.token x) x → test x ≡ b1
          → Comes p' cost1 (at_q l0 (if b1 then t else q + 3)) to → Comes p' (suc (suc (suc cost1))) (at_q l0 q) to
      one_test x t q b1 to cost1 stand named fit come =
          let z = alike (c.token x) x named in
          one_step p' F l0 q [] fs' V (suc (suc cost1)) _ _
          (goes_one p' F l0 (pushed (held.0).value l0) q [] fs' V (ldloc c.thrown) (at_mine q _ stand.0) (does_ldloc p' here c.thrown held.0 l0 held.1) refl)
          (subst (λ u. Comes p' (suc (suc cost1)) (at_q (pushed u l0) (q + 1)) to) (sym held.2)
          (one_step p' F (with_stack l0 (Obj y ∷ [])) (q + 1) [] fs' V (suc cost1) _ _
          (steps_by p' F (with_stack l0 (Obj y ∷ [])) (q + 1) [] fs' V (isinst r.assembly (c.token x)) (tests p' here z.0 y [] l0) (at_mine (q + 1) _ (stand.1).0) (acts_isinst p' here r.assembly (c.token x) z.0 y [] l0 z.2)
          ∙ ap (λ o. goes_after V.trace (done p' o (frame_at F (with_stack l0 (Obj y ∷ [])) (q + 1) []) fs' (unrecorded V))) (tests_so p' here z.0 typed.0 y [] l0 (unrecorded V) b1 heap (test_is x z.0 z.1 ∙ fit))
          ∙ arrives_at p' (frame_at F (with_stack l0 (Obj y ∷ [])) (q + 1) []) (with_stack l0 (tested b1 y ∷ [])) (q + 1 + 1) [] fs' V refl)
          (one_step p' F (with_stack l0 (tested b1 y ∷ [])) (q + 1 + 1) [] fs' V cost1 _ _ (by_bool b1 (tests_brtrue p' here t (tested b1 y) [] l0 b1 (tested_truth b1 y))) (subst (λ u. Comes p' cost1 u to) (behind b1) come))))
        where
          lands_at : Bool → ℕ
          lands_at true = t
          lands_at false = q + 1 + 1 + 1

          three : q + 3 ≡ q + 1 + 1 + 1
          three = omega arith

          behind : (b2 : Bool) → at_q l0 (if b2 then t else q + 3) ≡ at_q l0 (lands_at b2)
          behind true = refl
          behind false = ap (at_q l0) three

          by_bool : (b2 : Bool) → Rattle.splice_laws.specs.Straight.Acts_so p' here (brtrue t) (with_stack l0 (tested b2 y ∷ [])) (Rattle.splice_laws.proofs.StraightLaws.picked p' here b2 t l0)
              → plain_step p' (record { frames = frame_at F (with_stack l0 (tested b2 y ∷ [])) (q + 1 + 1) [] ∷ fs'; world = V }) ≡ at_q l0 (lands_at b2)
          by_bool true so = jumps_one p' F (with_stack l0 (tested true y ∷ [])) l0 (q + 1 + 1) t [] fs' V (brtrue t) (at_mine (q + 1 + 1) _ ((stand.1).1).0) so refl
          by_bool false so = goes_one p' F (with_stack l0 (tested false y ∷ [])) l0 (q + 1 + 1) [] fs' V (brtrue t) (at_mine (q + 1 + 1) _ ((stand.1).1).0) so refl

      run_tests : (to : ℕ → Piece → ℕ) (i : ℕ) (xs : List Piece) (q : ℕ) → TestsAt p k p' g n depths r me plan m e c.thrown c.token to i xs q → Lands to i xs q (first_from test 0 i xs)
      run_tests to i [] q all = comes_at_once p' 0 _ _ (ap (at_q l0) (same q))
        where
          same : (j : ℕ) → j ≡ j + 0
          same j = omega arith
      run_tests to i (x ∷ xs) q all = by_test (test x) refl (run_tests to (i + 1) xs (q + 3) all.2)
        where
          three_more : (j l : ℕ) → (j + 3) + 3 * l ≡ j + 3 * suc l
          three_more j l = omega arith

          three_times : (l : ℕ) → suc (suc (suc (3 * l))) ≤ 3 * suc l
          three_times l = omega arith

          later : (o : Option (ℕ × Piece)) → test x ≡ false → Lands to (i + 1) xs (q + 3) o → Lands to i (x ∷ xs) q o
          later None fit ih =
              comes_within p' (suc (suc (suc (3 * length xs)))) (3 * suc (length xs)) _ _ (three_times (length xs))
              (one_test x (to i x) q false _ (3 * length xs) all.0 all.1 fit (subst (λ j. Comes p' (3 * length xs) (at_q l0 (q + 3)) (at_q l0 j)) (three_more q (length xs)) ih))
          later (Some z) fit ih = comes_within p' (suc (suc (suc (3 * length xs)))) (3 * suc (length xs)) _ _ (three_times (length xs)) (one_test x (to i x) q false _ (3 * length xs) all.0 all.1 fit ih)

          by_test : (b1 : Bool) → test x ≡ b1 → Lands to (i + 1) xs (q + 3) (first_from test 0 (i + 1) xs) → Lands to i (x ∷ xs) q (if b1 then Some (i, x) else first_from test 0 (i + 1) xs)
          by_test true fit ih = comes_within p' (suc (suc (suc 0))) (3 * suc (length xs)) _ _ (omega arith) (one_test x (to i x) q true _ 0 all.0 all.1 fit (comes_at_once p' 0 _ _ refl))
          by_test false fit ih = later (first_from test 0 (i + 1) xs) fit ih

    -- ---- the door

    abbrev Opens : Option (ℕ × Piece) → Bool → Type 0
    Opens o t = OpensAt p k p' g n depths m plan group.Throw (opening_cost k p group.Throw) (stands p k p' g n depths f f.local ex D b fs' w ss) f fs f.local b fs' w o t

    kept : Keeps m (here_of f fs) f.thrown (with_stack f.local []) ex
    kept = emptied p k p' g n depths r me plan m group.Throw e f fs ex s.keeps

    abbrev E : ℕ
    E = c.enters

    abbrev entered_at : (q : ℕ) → Next
    entered_at q = at_place F l0 q [] fs' W

    passed : Arrives p k p' g n depths m (opening_cost k p group.Throw) (stands p k p' g n depths f f.local ex D b fs' w ss) f fs (with_stack f.local []) R b fs' w → (t : Bool) → Opens None t
    passed h true = h
    passed h false = h

    abbrev V : World
    V = with_depth depths.owner (w.depth + 1) W

    -- the frame with nothing on its stack
    abbrev f1 : Frame
    f1 = record f { local = with_stack f.local [] }

    s1 : Paired p k p' g n depths m f1 fs fs' w ex ss
    s1 = record { keeps = kept; beside = s.beside; numbers = s.numbers; deep = s.deep }

    asks_it : (t : Bool) → runs_at plan group.Throw w.depth ≡ t → Comes p' 10 (entered_at E) (Rattle.splice_laws.specs.HelperRuns.entered depths.owner t w.depth (base p k p' g n depths r me plan m group.Throw e f1 b) l0 E [] fs' W)
    asks_it t q = asks p k p' g n depths r me plan m group.Throw e many small settings E c.asks.0 f1 fs fs' w ex ss b t a s1 (asked p k p' g n depths r me plan m group.Throw e many small settings group.Throw w.depth t q)

    -- within the try: the clause that fits
    picks_it : (z : ℕ × Piece) → first_from test 0 0 ps ≡ Some z → Comes p' (3 * length c.firsts + 1) (at_place F l0 e.body [] fs' V) (at_place F l0 (to_piece z.0 z.1) [] fs' V)
    picks_it z first = by_inner (first_from test 0 0 c.firsts) (first_or_last test 0 c.firsts c.last z (ap (first_from test 0 0) (sym c.split) ∙ first)) (run_tests V typed.1 to_piece 0 c.firsts e.body c.picks)
      where
        Q : ℕ
        Q = e.body + 3 * length c.firsts

        same : (j : ℕ) → 0 + j ≡ j
        same j = omega arith

        by_inner : (o : Option (ℕ × Piece)) → First test 0 c.firsts c.last o z → Lands V typed.1 to_piece 0 c.firsts e.body o → Comes p' (3 * length c.firsts + 1) (at_place F l0 e.body [] fs' V) (at_place F l0 (to_piece z.0 z.1) [] fs' V)
        by_inner None h come =
            subst (λ t. Comes p' (3 * length c.firsts + 1) (at_place F l0 e.body [] fs' V) (at_place F l0 t [] fs' V)) (ap (λ t. to_piece t c.last) (sym (same (length c.firsts))) ∙ ap (λ (u : ℕ × Piece). to_piece u.0 u.1) (sym h))
            (comes_on p' (3 * length c.firsts) 1 _ _ _ come
            (one_step p' F l0 Q [] fs' V 0 _ _ (jumps_one p' F l0 l0 Q (to_piece (length c.firsts) c.last) [] fs' V (br (to_piece (length c.firsts) c.last)) (at_mine Q _ c.picks_last) (jumps_br p' here (to_piece (length c.firsts) c.last) l0) refl)
            (comes_at_once p' 0 _ _ refl)))
        by_inner (Some u) h come = comes_within p' (3 * length c.firsts) (3 * length c.firsts + 1) _ _ (omega arith) (subst (λ (t : ℕ × Piece). Comes p' (3 * length c.firsts) (at_place F l0 e.body [] fs' V) (at_place F l0 (to_piece t.0 t.1) [] fs' V)) h come)

    one_last : length ps ≡ length c.firsts + 1
    one_last = ap length c.split ∙ one_longer c.firsts c.last
      where
        one_longer : (xs : List Piece) (x : Piece) → length (xs ++ x ∷ []) ≡ length xs + 1
        one_longer [] x = refl
        one_longer (z ∷ zs) x = let ih = one_longer zs x in omega (arith, ih)

    module _ (empty : f.local.stack ≡ []) where
      from_empty : entered_at D ≡ stands p k p' g n depths f f.local ex D b fs' w ss
      from_empty = ap (λ st. at_place F (with_stack (grow ex f.local) st) D [] fs' W) (sym empty)

      over_now : Comes p' (3 * length ps) (entered_at D) (entered_at (D + 3 * length ps)) → Arrives p k p' g n depths m (opening_cost k p group.Throw) (stands p k p' g n depths f f.local ex D b fs' w ss) f fs (with_stack f.local []) R b fs' w
      over_now tests_end =
          record {
            extra = ex;
            keeps = kept;
            statics = ss;
            beside = s.beside;
            comes = comes_within p' (3 * length ps + 1) (opening_cost k p group.Throw) _ _ (omega (arith, few, many))
                (subst (λ z. Comes p' (3 * length ps + 1) z (entered_at R)) from_empty
                (comes_on p' (3 * length ps) 1 _ _ _ tests_end
                (one_step p' F l0 (D + 3 * length ps) [] fs' W 0 _ _ (jumps_one p' F l0 l0 (D + 3 * length ps) R [] fs' W (br R) (at_mine (D + 3 * length ps) _ c.passes) (jumps_br p' here R l0) refl)
                (comes_at_once p' 0 _ _ refl))));
          }

      -- one fits, and the guard refuses
      refused : Comes p' (3 * length ps) (entered_at D) (entered_at E) → runs_at plan group.Throw w.depth ≡ false → Arrives p k p' g n depths m (opening_cost k p group.Throw) (stands p k p' g n depths f f.local ex D b fs' w ss) f fs (with_stack f.local []) R b fs' w
      refused tests_end runs =
          record {
            extra = ex;
            keeps = kept;
            statics = ss;
            beside = s.beside;
            comes = comes_within p' (3 * length ps + (10 + 1)) (opening_cost k p group.Throw) _ _ (omega (arith, few, many))
                (subst (λ z. Comes p' (3 * length ps + (10 + 1)) z (entered_at R)) from_empty
                (comes_on p' (3 * length ps) (10 + 1) _ _ _ tests_end
                (comes_on p' 10 1 _ _ _ (asks_it false runs)
                (one_step p' F (pushed (I4 (pos 0)) l0) (E + 1) [] fs' W 0 _ _ (jumps_one p' F (pushed (I4 (pos 0)) l0) l0 (E + 1) R [] fs' W (brfalse R) (at_mine (E + 1) _ (c.asks.1).0) (tests_brfalse p' here R (I4 (pos 0)) [] l0 false truth_of_zero) refl)
                (comes_at_once p' 0 _ _ refl)))));
          }

      -- one fits, and the group begins with it
      begun : (z : ℕ × Piece) → first_from test 0 0 ps ≡ Some z → Comes p' (3 * length ps) (entered_at D) (entered_at E) → runs_at plan group.Throw w.depth ≡ true → Arrives p k p' g n depths m (opening_cost k p group.Throw) (stands p k p' g n depths f f.local ex D b fs' w ss) f fs (with_stack f.local []) (to_piece z.0 z.1) b fs' (raised w)
      begun z first tests_end runs =
          record {
            extra = ex;
            keeps = kept;
            statics = V.statics;
            beside = raised_beside p k p' g n depths r me plan m group.Throw e many small settings f fs fs' w ex ss s;
            comes = comes_within p' (3 * length ps + (10 + suc (3 * length c.firsts + 1))) (opening_cost k p group.Throw) _ _ (let one = one_last in omega (arith, few, many, one))
                (subst (λ t. Comes p' (3 * length ps + (10 + suc (3 * length c.firsts + 1))) t (at_place F l0 (to_piece z.0 z.1) [] fs' V)) from_empty
                (comes_on p' (3 * length ps) (10 + suc (3 * length c.firsts + 1)) _ _ _ tests_end
                (comes_on p' 10 (suc (3 * length c.firsts + 1)) _ _ _ (asks_it true runs)
                (one_step p' F (pushed (I4 (pos 1)) l0) (E + 1) [] fs' V (3 * length c.firsts + 1) _ _ (goes_one p' F (pushed (I4 (pos 1)) l0) l0 (E + 1) [] fs' V (brfalse R) (at_mine (E + 1) _ (c.asks.1).0) (tests_brfalse p' here R (I4 (pos 1)) [] l0 true truth_of_one) refl)
                (subst (λ t. Comes p' (3 * length c.firsts + 1) (at_place F l0 t [] fs' V) (at_place F l0 (to_piece z.0 z.1) [] fs' V)) (c.starts ∙ two E) (picks_it z first))))));
          }
        where
          two : (j : ℕ) → j + 2 ≡ j + 1 + 1
          two j = omega arith

      by_runs : (z : ℕ × Piece) → first_from test 0 0 ps ≡ Some z → Comes p' (3 * length ps) (entered_at D) (entered_at E) → (t : Bool) → runs_at plan group.Throw w.depth ≡ t → Opens (Some z) t
      by_runs z first come true runs = begun z first come runs
      by_runs z first come false runs = refused come runs

      by_first : (o : Option (ℕ × Piece)) → first_from test 0 0 ps ≡ o → Lands W typed.1 (λ i x. E) 0 ps D o → Opens o (runs_at plan group.Throw w.depth)
      by_first None first come = passed (over_now come) (runs_at plan group.Throw w.depth)
      by_first (Some z) first come = by_runs z first come (runs_at plan group.Throw w.depth) refl

      opens_it : Opens (next_piece p plan group.Throw 0 f fs w) (runs_at plan group.Throw w.depth)
      opens_it = by_first (first_from test 0 0 ps) refl (run_tests W typed.1 (λ i x. E) 0 ps D c.tests)

    -- ---- behind a clause

    shorter : (j : ℕ) (xs : List Piece) (x : Piece) → slice_get xs j ≡ Some x → suc (length (drop (suc j) xs)) ≤ length xs
    shorter j [] x h = absurd (cc h)
    shorter zero (z ∷ zs) x h = omega arith
    shorter (suc j) (z ∷ zs) x h = let ih = shorter j zs x h in omega (arith, ih)

    module _ (j : ℕ) (x : Piece) (there : piece_at (Some plan) group.Throw j ≡ Some x) (some : 0 < w.depth) where
      z : AgainAt p k p' g n depths r me plan m e c.thrown c.token j
      z = c.again j x there

      abbrev B : ℕ
      B = m.behind group.Throw j

      abbrev left : List Piece
      left = drop (j + 1) ps

      few_left : suc (length left) ≤ length ps
      few_left = subst (λ i. suc (length (drop i ps)) ≤ length ps) (next j) (shorter j ps x there)
        where
          next : (i : ℕ) → suc i ≡ i + 1
          next i = omega arith

      abbrev from : Next
      from = stands p k p' g n depths f f.local ex B b fs' w ss

      left_it : Comes p' 1 from (entered_at z.place)
      left_it =
          let lo = (e.behind_in j x there).0 in
          let hi = (e.behind_in j x there).1 in
          let within = z.within.1 in
          one_step p' F (grow ex f.local) B [] fs' W 0 _ _
          (leaves_plainly p' F (grow ex f.local) B z.place [] fs' W (at_mine B _ z.leaves)
          (plainly p k p' g n depths r me plan m group.Throw e F B z.place a lo (omega (arith, hi)) (stays_within p k p' g n depths r me plan m group.Throw e (in_try the_own B) (in_try the_own z.place) (in_own p k p' g n depths r me plan m group.Throw e z.place z.within.0 (omega (arith, within))))) refl)
          (comes_at_once p' 0 _ _ refl)

      abbrev Continues : Option (ℕ × Piece) → Type 0
      Continues o = ContinuesAt p k p' g n depths m plan group.Throw (cost k p) from f fs f.local b fs' w o

      by_next : (o : Option (ℕ × Piece)) → Lands W typed.1 to_piece (j + 1) left z.place o → Continues o
      by_next (Some u) come =
          record {
            extra = ex;
            keeps = kept;
            statics = ss;
            beside = s.beside;
            comes = comes_within p' (1 + 3 * length left) (cost k p) _ _ (let l = few_left in omega (arith, few, l)) (comes_on p' 1 (3 * length left) _ _ _ left_it come);
          }
      by_next None come =
          let Q = z.place + 3 * length left in
          let lo = z.within.0 in
          record {
            extra = ex;
            keeps = kept;
            statics = (with_depth depths.owner (w.depth - 1) W).statics;
            beside = low_beside p k p' g n depths r me plan m group.Throw e many small settings f fs fs' w ex ss s;
            comes = comes_within p' (1 + (3 * length left + (1 + (6 + 1)))) (cost k p) _ _ (let l = few_left in omega (arith, few, l))
                (comes_on p' 1 (3 * length left + (1 + (6 + 1))) _ _ _ left_it
                (comes_on p' (3 * length left) (1 + (6 + 1)) _ _ _ come (goes_over p k p' g n depths r me plan m group.Throw e many small settings Q z.over (omega (arith, lo)) z.within.1 f fs fs' w ex ss b l0 refl a some s)));
          }

      continues_it : Continues (next_piece p plan group.Throw (j + 1) f fs w)
      continues_it = subst Continues (sym (first_behind test (j + 1) 0 ps ∙ ap (λ i. first_from test 0 i left) (same (j + 1)))) (by_next (first_from test 0 (j + 1) left) (run_tests W typed.1 to_piece (j + 1) left z.place z.tests))
        where
          same : (i : ℕ) → 0 + i ≡ i
          same i = omega arith

  pub throw_seams : ThrowSeams p k p' g n depths r me plan m e
  throw_seams =
      record {
        opens = λ f fs fs' w ex ss b y empty a thrown there_is s. opens_it f fs fs' w ex ss b y a thrown there_is s empty;
        continues = λ j x f fs fs' w ex ss b y there a thrown there_is some s. continues_it f fs fs' w ex ss b y a thrown there_is s j x there some;
        breaks = λ j q q' f fs fs' w ex ss b x at here bel a some s kept. breaks_group p k p' g n depths r me plan m group.Throw e many small settings j q q' f fs fs' w ex ss b x at here bel a some s kept;
        checks = λ j q x i kd cond f fs fs' w ex ss b a at here there kept instr ends s given. checks_group p k p' g n depths me plan m group.Throw r e many j q x i kd cond f fs fs' w ex ss b a at here there kept instr ends s given;
        checks_stuck = λ j q x i kd f fs fs' w ex ss b a at here there kept instr ends s none. stuck_group p k p' g n depths me plan m group.Throw r e many j q x i kd f fs fs' w ex ss b a at here there kept instr ends s none;
      }
