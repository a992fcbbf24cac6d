-- The wrapper keeps an exception and goes to the group of EnsuresOnThrow; behind it the exception is thrown on.
use Rattle.std.proofs.Common.{◌≡◌, ℕ, zero, suc, ◌+◌, ◌<◌, ◌≤◌, Bool, true, false, List, [], ◌∷◌, ◌++◌, length, Option, Some, None, refl, sym, ap, ◌∙◌, subst, arith}
use Rattle.std.specs.Prelude.{slice_get, slice_set, option_map, option_and_then, if◌then◌else◌, filter, ◌&&◌, not, nat_le, nat_lt, IsTrue}
use Rattle.cil_base.specs.declared.token.Token.{Token}
use Rattle.cil_model.specs.declared.ty.Ty as types
use Rattle.cil_model.specs.declared.value.Value.{Value, Obj}
use Rattle.cil_model.specs.declared.value.Value as values
use Rattle.cil_model.specs.declared.body.Instr.{Instr}
use Rattle.cil_model.specs.declared.body.Region.{Region}
use Rattle.cil_model.specs.declared.body.RegionKind.TheVariants as region
use Rattle.cil_model.specs.declared.contract.Contracts.{Contracts}
use Rattle.cil_model.specs.declared.contract.Group.TheVariants as group
use Rattle.cil_model.specs.declared.program.Program.{Program}
use Rattle.cil_model.specs.NoContracts.{no_contracts}
use Rattle.cil_semantics.specs.Words.{maybe}
use Rattle.cil_semantics.specs.Core.{object_ty}
use Rattle.cil_semantics.specs.Types.{under}
use Rattle.il_opcodes.specs.declared.class.Storage.TheVariants.{Reference}
use Rattle.cil_semantics.specs.Places.{storage, prim_storage, stored, set_cell, stored_in}
use Rattle.cil_semantics.specs.declared.state.Cell.{Cell}
use Rattle.cil_semantics.specs.declared.state.Local.{Local as LocalState}
use Rattle.cil_semantics.specs.declared.state.World.{World}
use Rattle.cil_semantics.specs.declared.state.Statics.{Statics}
use Rattle.cil_semantics.specs.declared.state.ProgramPoint.{ProgramPoint}
use Rattle.cil_semantics.specs.declared.state.ProgramPoint.TheVariants.{LeadIn, InGroup, Rest}
use Rattle.cil_semantics.specs.declared.state.Cause.TheVariants.{Caught}
use Rattle.cil_semantics.specs.declared.state.Handling.{Handling}
use Rattle.cil_semantics.specs.declared.state.Frame.{Frame}
use Rattle.cil_semantics.specs.declared.state.Continuation.{Continuation}
use Rattle.cil_semantics.specs.State.{unrecorded, with_stack, pushed}
use Rattle.cil_semantics.specs.Acts.{Throw}
use Rattle.cil_semantics.specs.Contracted.{Plan}
use Rattle.cil_semantics.specs.Unwind.{body_of, here_of, in_try, in_handler, is_finally, moved_to, search_from, searched, left_from, Found, NoHandler, CatchHandler, throws_in, unwind, land, no_handler_left, fits_type, caught_type}
use Rattle.cil_semantics.specs.Checks.{AddedNumbers}
use Rattle.splice_facts.specs.Comes.{Comes}
use Rattle.splice_facts.specs.Exceptions.{IsException}
use Rattle.splice_facts.specs.Grown.{grow, beside}
use Rattle.splice_facts.specs.Layout.{Depths, Marks, Keeps, IsHere}
use Rattle.splice_facts.specs.Spliced.{Paired, Arrives, AreLow, twin, stands, leaves_with, is_guarded, wrapper_cost, cost}
use Rattle.splice_laws.specs.Straight.{ldloc, stloc, throw, frame_at, at_place, Misses, LeavesFreely, Does}
use Rattle.splice_facts.proofs.ComesLaws.{no_plan, comes_at_once, comes_within}
use Rattle.splice_facts.proofs.StoreLaws.{stored_plain}
use Rattle.splice_laws.proofs.StraightLaws.{one_step, goes_one, steps_by, world_back, rows, does_stloc, does_ldloc, acts_throw}
use Rattle.splice_laws.proofs.SeamLocalLaws.{extra_at, extra_set, get_set_same, get_set_other, map_set, CellOf, cell_of}
use Rattle.splice_laws.proofs.LeavingLaws.{search_none, found_own, unwind_told, leaves_out, picks}
use Rattle.throw_laws.specs.WrapperCode.{WrapperCode, WrapperSeams}

-- ---- searches

-- handlers of types that take the same are found alike
search_alike : (fits other : Token → Bool) → ((t : Token) → fits t ≡ other t) → (skip i q : ℕ) (rs : List Region) → search_from fits skip i q rs ≡ search_from other skip i q rs
search_alike fits other same skip i q [] = refl
search_alike fits other same (suc skip) i q (r ∷ rs) = search_alike fits other same skip (i + 1) q rs
search_alike fits other same zero i q (r ∷ rs) =
    ap (λ o. if in_try r q then maybe o (λ x. x) (Rattle.cil_semantics.specs.Unwind.found_in fits r i r.kind) else o) (search_alike fits other same zero (i + 1) q rs)
    ∙ ap (λ o. if in_try r q then maybe (search_from other zero (i + 1) q rs) (λ x. x) o else search_from other zero (i + 1) q rs) (by_kind r.kind)
  where
    by_kind : (kd : Rattle.cil_model.specs.declared.body.RegionKind.RegionKind) → Rattle.cil_semantics.specs.Unwind.found_in fits r i kd ≡ Rattle.cil_semantics.specs.Unwind.found_in other r i kd
    by_kind (region.Catch t) = ap (λ b. if b then Some (CatchHandler i r.handler_from) else None) (same t)
    by_kind (region.Filter place) = refl
    by_kind region.Finally = refl
    by_kind region.Fault = refl

onto : (i : ℕ) (rs : List Region) → (i + 1) + length rs ≡ i + suc (length rs)
onto i rs = omega arith

stays : (i : ℕ) → i ≡ i + 0
stays i = omega arith

-- where none of them takes it, the search goes on behind them
search_on : (fits : Token → Bool) (q skip i : ℕ) (rs more : List Region) → skip ≤ length rs → search_from fits skip i q rs ≡ NoHandler → search_from fits skip i q (rs ++ more) ≡ search_from fits 0 (i + length rs) q more
search_on fits q zero i [] more le none = ap (λ j. search_from fits 0 j q more) (stays i)
search_on fits q (suc skip) i [] more le none = absurd (no_less skip le)
  where
    no_less : (j : ℕ) → suc j ≤ 0 → ⊥
    no_less j l = omega (arith, l)
search_on fits q (suc skip) i (r ∷ rs) more le none = search_on fits q skip (i + 1) rs more (omega (arith, le)) none ∙ ap (λ j. search_from fits 0 j q more) (onto i rs)
search_on fits q zero i (r ∷ rs) more le none =
    by_test (in_try r q) (Rattle.cil_semantics.specs.Unwind.found_in fits r i r.kind) (found_is r.kind) none (λ h. search_on fits q zero (i + 1) rs more (omega arith) h) ∙ ap (λ j. search_from fits 0 j q more) (onto i rs)
  where
    -- what is found in a region is a handler
    found_is : (kd : Rattle.cil_model.specs.declared.body.RegionKind.RegionKind) → Rattle.cil_semantics.specs.Unwind.found_in fits r i kd ≡ Some NoHandler → ⊥
    found_is (region.Catch t) e = by_fit (fits t) e
      where
        by_fit : (b : Bool) → (if b then Some (CatchHandler i r.handler_from) else None) ≡ Some NoHandler → ⊥
        by_fit true h = let z : CatchHandler i r.handler_from ≡ NoHandler = cc h in cc z
        by_fit false h = cc h
    found_is (region.Filter place) e = cc e
    found_is region.Finally e = let z : Rattle.cil_semantics.specs.Unwind.CleanupHandler i r.handler_from ≡ NoHandler = cc e in cc z
    found_is region.Fault e = let z : Rattle.cil_semantics.specs.Unwind.CleanupHandler i r.handler_from ≡ NoHandler = cc e in cc z

    by_test : (t : Bool) (o : Option Found) → (o ≡ Some NoHandler → ⊥) → (if t then maybe (search_from fits 0 (i + 1) q rs) (λ x. x) o else search_from fits 0 (i + 1) q rs) ≡ NoHandler
        → (search_from fits 0 (i + 1) q rs ≡ NoHandler → search_from fits 0 (i + 1) q (rs ++ more) ≡ search_from fits 0 ((i + 1) + length rs) q more)
        → (if t then maybe (search_from fits 0 (i + 1) q (rs ++ more)) (λ x. x) o else search_from fits 0 (i + 1) q (rs ++ more)) ≡ search_from fits 0 ((i + 1) + length rs) q more
    by_test false o never h ih = ih h
    by_test true None never h ih = ih h
    by_test true (Some x) never h ih = absurd (never (ap Some h))

-- where no finally holds the place, a leave passes none
left_free : (q t i : ℕ) (rs : List Region) → LeavesFreely q rs → left_from 0 i q t rs ≡ None
left_free q t i [] free = refl
left_free q t i (r ∷ rs) free = ap (λ b. if b then Some (i, r) else left_from 0 (i + 1) q t rs) (and_first (is_finally r.kind) (in_try r q) (not (in_try r t)) free.0) ∙ left_free q t (i + 1) rs free.1
  where
    and_first : (a b c : Bool) → (a && b) ≡ false → (a && (b && c)) ≡ false
    and_first true b c e = ap (λ z. z && c) e
    and_first false b c e = refl

object_stored : (x : ℕ) → stored Reference (Obj x) ≡ Some (Obj x)
unfolding values.out-Value denote.Hole.Carrier.out
object_stored x = refl

module _ (p' : Program) where
  object_holds : storage p' object_ty ≡ Reference
  unfolding storage prim_storage types.out-Ty denote.Hole.Carrier.out
  object_holds = refl

  -- an exception that no region takes leaves the frame
  throws_past : (f : Frame) (l : LocalState) (q x : ℕ) (fs : List Frame) (w : World) → Misses q (rows p' f)
      → unwind p' no_contracts false (frame_at f l q [] ∷ fs) w x ≡ Rattle.cil_semantics.specs.Unwind.ends_frame p' f.initializes f.continuation w x (λ s u y. unwind p' no_contracts s fs u y)
  unfolding unwind
  throws_past f l q x fs w miss =
      ap (λ o. land p' no_contracts o (frame_at f l q []) [] q fs w x (λ s u y. unwind p' no_contracts s fs u y)) (search_none (λ token. fits_type p' w x (caught_type p' (frame_at f l q []) token)) q 0 (rows p' f) miss)
      ∙ ap (λ o. no_handler_left p' o (frame_at f l q []) (Rest q) fs w x (λ s u y. unwind p' no_contracts s fs u y)) (no_plan p' f.method)

module _ (p : Program) (k : Contracts) (p' : Program) (g : AddedNumbers) (n : ℕ) (depths : Depths n g) (me : ℕ) (plan : Plan) (m : Marks) (e : WrapperCode p k p' g n depths me plan m) where
  abbrev base : Frame → Continuation → Frame
  base f b = twin p k p' g n depths f f.local [] 0 [] b

  at_me : (f : Frame) (q : ℕ) (i : Instr) → f.method ≡ me → slice_get (body_of p' me).instrs q ≡ Some i → slice_get (body_of p' f.method).instrs q ≡ Some i
  at_me f q i a there = ap (λ z. slice_get (body_of p' z).instrs q) a ∙ there

  abbrev H : ℕ
  H = e.handler

  abbrev own : Region
  own = record { kind = region.Catch e.token; try_from = e.from; try_to = e.to; handler_from = H; handler_to = H + 2 }

  abbrev v : ℕ
  v = length e.before

  abbrev T : ℕ
  T = m.thrown_at

  module _ (f : Frame) (fs fs' : List Frame) (w : World) (ex : List Cell) (ss : List Statics) (b : Continuation) (a : f.method ≡ me) (s : Paired p k p' g n depths m f fs fs' w ex ss) where
    abbrev F : Frame
    F = base f b

    abbrev W : World
    W = beside ss w

    o : CellOf ex T object_ty
    o = cell_of ex (m.extra (here_of f fs)) T object_ty (s.keeps).typed (e.thrown_ty (here_of f fs) a)

    there_is : (l : LocalState) (ex1 : List Cell) (c : Cell) → length l.locals ≡ m.old_locals → length l.captured ≡ m.olds → slice_get ex1 T ≡ Some c → slice_get (grow ex1 l).locals e.thrown ≡ Some c
    there_is l ex1 c h1 h2 there = ap (slice_get (grow ex1 l).locals) e.thrown_is ∙ extra_at m.old_locals m.olds l.locals l.captured ex1 T h1 h2 ∙ there

    -- ---- thrown on

    throws_it : (x : ℕ) → f.thrown ≡ Some x → Comes p' 2 (stands p k p' g n depths f f.local ex (m.out group.Throw) b fs' w ss) (leaves_with p k p' g n depths f b fs' w ss x)
    throws_it x thrown =
        one_step p' F l0 R [] fs' W 1 _ _ (goes_one p' F l0 (pushed c.value l0) R [] fs' W (ldloc e.thrown) (at_me f R _ a e.throws_on.0) (does_ldloc p' (here_of F fs') e.thrown c l0 (there_is f.local ex c (s.keeps).wide (s.keeps).caps o.there)) refl)
        (subst (λ z. Comes p' 1 (at_place F (pushed z l0) (R + 1) [] fs' W) (leaves_with p k p' g n depths f b fs' w ss x)) (sym held)
        (one_step p' F (pushed (Obj x) l0) (R + 1) [] fs' W 0 _ _
        (steps_by p' F (pushed (Obj x) l0) (R + 1) [] fs' W throw (λ z. Throw x) (at_me f (R + 1) _ a (e.throws_on.1).0) (acts_throw p' (here_of F fs') x l0.stack l0)
        ∙ unwind_told p' W.trace false (frame_at F (pushed (Obj x) l0) (R + 1) [] ∷ fs') (unrecorded W) x
        ∙ ap (λ u. unwind p' no_contracts false (frame_at F (pushed (Obj x) l0) (R + 1) [] ∷ fs') u x) (world_back W)
        ∙ throws_past p' F (pushed (Obj x) l0) (R + 1) x fs' W (subst (λ z. Misses (R + 1) (body_of p' z).regions) (sym a) e.bare))
        (comes_at_once p' 0 _ _ refl)))
      where
        R : ℕ
        R = m.out group.Throw

        l0 : LocalState
        l0 = grow ex f.local

        c : Cell
        c = o.cell

        held : c.value ≡ Obj x
        held = let z : Some c.value ≡ Some (Obj x) = sym (ap (option_map (λ (y : Cell). y.value)) o.there) ∙ (s.keeps).thrown x thrown in cc z

    -- ---- caught

    module _ (q skip q' q0 x : ℕ) (hs hs' : List Handling) (low : AreLow p k p' g n depths me hs') (here : IsHere (Some plan) (Rest q)) (bel : IsTrue (m.belongs (Rest q) q')) (most : skip ≤ length (body_of p me).regions) (none : search_from (λ token. fits_type p w x (caught_type p f token)) skip 0 q (body_of p f.method).regions ≡ NoHandler) (thrown : IsException p w x) where
      abbrev F0 : Frame
      F0 = twin p k p' g n depths f f.local ex q0 hs b

      rows_so : rows p' F ≡ e.before ++ own ∷ []
      rows_so = ap (λ z. (body_of p' z).regions) a ∙ e.regions

      abbrev fits : Token → Bool
      fits token = fits_type p' W x (caught_type p' F0 token)

      abbrev fits_old : Token → Bool
      fits_old token = fits_type p w x (caught_type p f token)

      alike : (t : Token) → fits t ≡ fits_old t
      alike t = e.same_catches F0 W x t a

      within : in_try own q' ≡ true
      within = let y = e.held q q' here bel in held_so e.from e.to q' y.0 y.1
        where
          held_so : (a1 b1 t : ℕ) → a1 ≤ t → t < b1 → (nat_le a1 t && nat_lt t b1) ≡ true
          held_so a1 b1 t l h = grind (arith, l, h)

      taken_type : caught_type p' F0 e.token ≡ Some object_ty
      unfolding types.out-Ty denote.Hole.Carrier.out
      taken_type = ap (λ t. option_map (under f.type_args f.method_args) (Rattle.cil_semantics.specs.Tokens.as_type (Rattle.cil_semantics.specs.Tokens.meaning_of p' (Rattle.cil_semantics.specs.Lookups.method_of p' t).assembly e.token))) a ∙ ap (option_map (under f.type_args f.method_args)) e.catches

      takes : fits e.token ≡ true
      takes = ap (fits_type p' W x) taken_type ∙ e.same_exceptions W x thrown

      longer : skip ≤ length e.before
      longer = let y = e.longer in omega (arith, most, y)

      found : search_from fits skip 0 q' (rows p' F) ≡ CatchHandler v H
      found =
          ap (search_from fits skip 0 q') rows_so
          ∙ search_on fits q' skip 0 e.before (own ∷ []) longer (search_alike fits fits_old alike skip 0 q' e.before ∙ e.passes fits_old q skip q' here bel (ap (λ z. search_from fits_old skip 0 q (body_of p z).regions) (sym a) ∙ none))
          ∙ picks (in_try own q') (maybe NoHandler (λ t. t) (if fits e.token then Some (CatchHandler (0 + v) H) else None)) NoHandler within
          ∙ ap (λ t. maybe NoHandler (λ u. u) (if t then Some (CatchHandler (0 + v) H) else None)) takes
          ∙ ap (λ t. CatchHandler t H) (same v)
        where
          same : (t : ℕ) → 0 + t ≡ t
          same t = omega arith

      abbrev h : Handling
      h = record { handler = v; cause = Caught x; place = q'; next = v + 1 }

      h_at : (t : ℕ) (z : Bool) → Rattle.cil_semantics.specs.Unwind.holds_place H (H + 2) t ≡ z → in_handler (rows p' F) t h ≡ z
      h_at t z eq = ap (λ rs. in_handler rs t h) rows_so ∙ ap (λ u. maybe false (λ (x1 : Region). Rattle.cil_semantics.specs.Unwind.holds_place x1.handler_from x1.handler_to t) u) (found_own e.before own []) ∙ eq

      held_at : (t : ℕ) → H ≤ t → t < H + 2 → in_handler (rows p' F) t h ≡ true
      held_at t lo hi = h_at t true (held_so H t lo hi)
        where
          held_so : (a1 t1 : ℕ) → a1 ≤ t1 → t1 < a1 + 2 → (nat_le a1 t1 && nat_lt t1 (a1 + 2)) ≡ true
          held_so a1 t1 l1 h1 = grind (arith, l1, h1)

      -- the handlers that ran don't hold it
      dropped : (t : ℕ) → H ≤ t → t < H + 2 → (xs : List Handling) → AreLow p k p' g n depths me xs → filter (in_handler (rows p' F) t) xs ≡ []
      dropped t lo hi [] lows = refl
      dropped t lo hi (y ∷ ys) lows =
          ap (λ z. if z then y ∷ filter (in_handler (rows p' F) t) ys else filter (in_handler (rows p' F) t) ys) (ap (λ z. in_handler (body_of p' z).regions t y) a ∙ e.alone y t lows.0 lo hi) ∙ dropped t lo hi ys lows.1

      only_it : (t : ℕ) → H ≤ t → t < H + 2 → (xs : List Handling) → AreLow p k p' g n depths me xs → filter (in_handler (rows p' F) t) (h ∷ xs) ≡ h ∷ []
      only_it t lo hi xs lows = ap (λ z. if z then h ∷ filter (in_handler (rows p' F) t) xs else filter (in_handler (rows p' F) t) xs) (held_at t lo hi) ∙ ap (λ ys. h ∷ ys) (dropped t lo hi xs lows)

      abbrev l0 : LocalState
      l0 = grow ex (with_stack f.local [])

      caught : throws_in p' no_contracts F0 hs' skip q' fs' W x (λ z u y. unwind p' no_contracts z fs' u y) ≡ at_place F (with_stack l0 (Obj x ∷ [])) H (h ∷ []) fs' W
      caught =
          ap (λ z. land p' no_contracts z F0 hs' q' fs' W x (λ z1 u y. unwind p' no_contracts z1 fs' u y)) found
          ∙ ap (λ z. at_place F (with_stack l0 (Obj x ∷ [])) H z fs' W) (only_it H (omega arith) (omega arith) hs' low)

      abbrev c2 : Cell
      c2 = record { ty = object_ty; value = Obj x }

      abbrev ex2 : List Cell
      ex2 = slice_set ex T c2

      stores : Does p' (here_of F fs') (stloc e.thrown) (with_stack l0 (Obj x ∷ [])) (grow ex2 (with_stack f.local []))
      stores w1 =
          does_stloc p' (here_of F fs') e.thrown (Obj x) [] c2 l0
          (ap (option_and_then (set_cell p' (Obj x))) (there_is f.local ex o.cell (s.keeps).wide (s.keeps).caps o.there)
          ∙ ap (λ t. option_map (λ z. record { ty = t; value = z }) (stored_in p' t (Obj x))) o.ty
          ∙ ap (option_map (λ z. record { ty = object_ty; value = z })) (stored_plain p' object_ty Reference (Obj x) (object_holds p') tt ∙ object_stored x)) w1
          ∙ ap (λ ls. Rattle.cil_semantics.specs.Acts.GoOn [] (record l0 { locals = ls; stack = [] })) (ap (λ j. slice_set l0.locals j c2) e.thrown_is ∙ extra_set m.old_locals m.olds f.local.locals f.local.captured ex T c2 (s.keeps).wide (s.keeps).caps)

      kept : Keeps m (here_of f fs) (Some x) (with_stack f.local []) ex2
      kept =
          record {
            wide = (s.keeps).wide;
            caps = (s.keeps).caps;
            typed = map_set (λ (z : Cell). z.ty) ex T o.cell c2 o.there (sym o.ty) ∙ (s.keeps).typed;
            result = λ u eu. ap (option_map (λ (z : Cell). z.value)) (get_set_other ex T m.result_at c2 (λ d. e.apart (sym d))) ∙ (s.keeps).result u eu;
            thrown = λ y ey. let z : x ≡ y = cc ey in ap (option_map (λ (u : Cell). u.value)) (get_set_same ex T o.cell c2 o.there) ∙ ap (λ t. Some (Obj t)) z;
          }

      abbrev DOOR : ℕ
      DOOR = m.door group.Throw

      arrives : Arrives p k p' g n depths m (wrapper_cost k p) (throws_in p' no_contracts F0 hs' skip q' fs' W x (λ z u y. unwind p' no_contracts z fs' u y)) (record f { thrown = Some x }) fs (with_stack f.local []) DOOR b fs' w
      arrives =
          record {
            extra = ex2;
            keeps = kept;
            statics = ss;
            beside = s.beside;
            comes = comes_within p' 2 (wrapper_cost k p) _ _ (omega arith)
                (subst (λ z. Comes p' 2 z (at_place F (grow ex2 (with_stack f.local [])) DOOR [] fs' W)) (sym caught)
                (one_step p' F (with_stack l0 (Obj x ∷ [])) H (h ∷ []) fs' W 1 _ _
                (goes_one p' F (with_stack l0 (Obj x ∷ [])) (grow ex2 (with_stack f.local [])) H (h ∷ []) fs' W (stloc e.thrown) (at_me f H _ a e.keeps.0) stores (only_it (H + 1) (omega arith) (omega arith) [] tt))
                (one_step p' F (grow ex2 (with_stack f.local [])) (H + 1) (h ∷ []) fs' W 0 _ _
                (leaves_out p' F (grow ex2 (with_stack f.local [])) (H + 1) DOOR (h ∷ []) [] fs' W (at_me f (H + 1) _ a (e.keeps.1).0)
                (left_free (H + 1) DOOR 0 (rows p' F) (subst (λ z. LeavesFreely (H + 1) (body_of p' z).regions) (sym a) e.freely))
                (ap (λ z. if z then h ∷ [] else []) (h_at DOOR false e.door_out)))
                (comes_at_once p' 0 _ _ refl))));
          }

    by_place : (at : ProgramPoint) → f.at ≡ at → (q skip q' q0 x : ℕ) (hs hs' : List Handling) → AreLow p k p' g n depths me hs' → is_guarded p k p' g n depths (Some plan) at ≡ true → IsHere (Some plan) (moved_to q at) → IsTrue (m.belongs (moved_to q at) q') → skip ≤ length (body_of p me).regions → searched p f w x skip q at ≡ NoHandler → IsException p w x
        → Arrives p k p' g n depths m (wrapper_cost k p) (throws_in p' no_contracts (twin p k p' g n depths f f.local ex q0 hs b) hs' skip q' fs' (beside ss w) x (λ s1 u y. unwind p' no_contracts s1 fs' u y)) (record f { thrown = Some x }) fs (with_stack f.local []) (m.door group.Throw) b fs' w
    by_place (LeadIn q1) eq q skip q' q0 x hs hs' low guarded here bel most none thrown = absurd (cc guarded)
    by_place (InGroup gr j q1) eq q skip q' q0 x hs hs' low guarded here bel most none thrown = absurd (cc guarded)
    by_place (Rest q1) eq q skip q' q0 x hs hs' low guarded here bel most none thrown = arrives q skip q' q0 x hs hs' low here bel most none thrown

  pub wrapper_seams : WrapperSeams p k p' g n depths me plan m
  wrapper_seams =
      record {
        wrapper = λ f fs fs' w ex ss b q skip q' q0 x hs hs' a s low here guarded moved bel most none thrown. by_place f fs fs' w ex ss b a s f.at refl q skip q' q0 x hs hs' low guarded moved bel most none thrown;
        throws = λ f fs fs' w ex ss b x a thrown kept s. comes_within p' 2 (cost k p) _ _ (omega arith) (throws_it f fs fs' w ex ss b a s x thrown);
      }
