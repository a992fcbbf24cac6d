-- Where the search finds no fault, what it leaves agrees with every path, and has no height that another such map hasn't.
use Rattle.std.proofs.Common.{◌≡◌, ◌≢◌, ◌⊎◌, inl, inr, ◌<◌, ◌≤◌, ℕ, zero, suc, Bool, true, false, cond, ◌&&◌, ◌||◌, not, List, [], ◌∷◌, length, get_or, set, Option, Some, None, Result, Ok, Err, refl, sym, ap, ◌∙◌, arith, subst, Contains}
use Rattle.std.specs.Prelude.{filter, map, replicate, slice_get, slice_set, position, MatchOption, if◌then◌else◌, nat_lt, ◌==◌, option_and_then}
use Rattle.std.specs.List.{position_or_len}
use Rattle.std.proofs.lemmas.Bool.{cases_eq}
use Rattle.std.proofs.lemmas.Bool.Decides.{nat_tests}
use Rattle.std.proofs.lemmas.Option.{slice_get_within, slice_get-get_or, get_or_from_slice_get}
use Rattle.std.proofs.lemmas.List.{length-set, length-replicate}
use Rattle.std.proofs.lemmas.List.Sums.{fails_before_first}
use Rattle.cil_model.specs.declared.body.Body.{Body}
use Rattle.cil_model.specs.declared.body.Instr.{Instr}
use Rattle.il_flow.specs.declared.effect.Effect.{Effect}
use Rattle.il_flow.specs.declared.mark.Mark.{Mark}
use Rattle.il_flow.specs.declared.mark.Mark.TheVariants.{Unseen, Waits, Passed}
use Rattle.il_flow.specs.Effects.{height_after}
use Rattle.il_flow.specs.Successors.{successors}
use Rattle.il_flow.specs.Heights.{Agrees, Finds, ends, stops, goes, SearchFinds, begun, beginnings, begin_each, begin_fault, is_wrong, begins_try, cant_go, cant_have, clashes, differs, fault_by, give, give_each, height_at, height_in, is_unseen, is_waiting, least, passed_by}
use Rattle.il_flow.proofs.QueueLaws.{get_set_same, get_set_other, unseen_there}
use Rattle.il_flow.proofs.NoMapLaws.{In, below_begun, below_end}

-- ---- membership

pub walk : {X : Type 0} (q : X) (xs : List X) (k : ℕ) → k < length xs → get_or xs k q ≡ q → In q xs
walk q [] k below e = absurd (omega arith)
walk q (x ∷ xs) zero below e = inl e
walk q (x ∷ xs) (suc k) below e = inr (walk q xs k (omega arith) e)

least_none : (xs : List ℕ) → least xs ≡ None → xs ≡ []
least_none [] e = refl
least_none (x ∷ xs) e = absurd cc

no_firsts : (es : List (ℕ × ℕ)) → map (λ (e : ℕ × ℕ). e.0) es ≡ [] → es ≡ []
no_firsts [] e = refl
no_firsts (x ∷ es) e = absurd cc

fails_all : {X : Type 0} (test : X → Bool) (q : X) (xs : List X) → filter test xs ≡ [] → In q xs → test q ≡ false
fails_all test q [] e m = absurd m
fails_all test q (x ∷ xs) e m = go (λ f k. fails_all test q xs f k) (test x) refl e m
  where
    go : (filter test xs ≡ [] → In q xs → test q ≡ false) → (b : Bool) → test x ≡ b → cond b (x ∷ filter test xs) (filter test xs) ≡ [] → (x ≡ q) ⊎ In q xs → test q ≡ false
    go rest true s f k = absurd cc
    go rest false s f (inl t) = ap test (sym t) ∙ s
    go rest false s f (inr k) = rest f k

or_none : (x y : Bool) → (x || y) ≡ false → (x ≡ false) × (y ≡ false)
or_none true y e = absurd cc
or_none false y e = (refl, e)

not_both : (x : Bool) → x ≡ true → x ≡ false → ⊥
not_both x e f = cc

pub some_same : {x y : ℕ} → Some x ≡ Some y → x ≡ y
some_same e = cc

-- ---- one place is given a height

pub give_keeps : (ms : List Mark) (h p q j : ℕ) → height_at ms q ≡ Some j → height_at (give ms h p) q ≡ Some j
give_keeps ms h p q j e = go (is_unseen (slice_get ms p)) refl
  where
    apart : (q ≡ p) ⊎ (q ≢ p) → is_unseen (slice_get ms p) ≡ true → height_at (set ms p (Waits h)) q ≡ Some j
    apart (inl s) u =
        let free = unseen_there (slice_get ms p) u in
        let n : height_at ms q ≡ None = ap (height_at ms) s ∙ ap (λ (o : Option Mark). option_and_then height_in o) free in
        absurd (neither (height_at ms q) n e)
      where
        neither : (o : Option ℕ) → o ≡ None → o ≡ Some j → ⊥
        neither o f g = cc
    apart (inr ne) u = ap (λ (o : Option Mark). option_and_then height_in o) (get_set_other ms q p (Waits h) ne) ∙ e

    go : (b : Bool) → is_unseen (slice_get ms p) ≡ b → height_at (if b then slice_set ms p (Waits h) else ms) q ≡ Some j
    go true u = apart (cases_eq q p) u
    go false u = e

-- a height came with it or was there
pub give_origin : (ms : List Mark) (h p q j : ℕ) → height_at (give ms h p) q ≡ Some j → (height_at ms q ≡ Some j) ⊎ ((p ≡ q) × (j ≡ h))
give_origin ms h p q j e = go (is_unseen (slice_get ms p)) refl e
  where
    apart : (q ≡ p) ⊎ (q ≢ p) → is_unseen (slice_get ms p) ≡ true → height_at (set ms p (Waits h)) q ≡ Some j → (height_at ms q ≡ Some j) ⊎ ((p ≡ q) × (j ≡ h))
    apart (inl s) u w =
        let free = unseen_there (slice_get ms p) u in
        let now : height_at (set ms p (Waits h)) p ≡ Some h = ap (λ (o : Option Mark). option_and_then height_in o) (get_set_same ms p (Waits h) Unseen free) in
        inr (sym s, some_same (sym w ∙ ap (height_at (set ms p (Waits h))) s ∙ now))
    apart (inr ne) u w = inl (sym (ap (λ (o : Option Mark). option_and_then height_in o) (get_set_other ms q p (Waits h) ne)) ∙ w)

    go : (b : Bool) → is_unseen (slice_get ms p) ≡ b → height_at (if b then slice_set ms p (Waits h) else ms) q ≡ Some j → (height_at ms q ≡ Some j) ⊎ ((p ≡ q) × (j ≡ h))
    go true u w = apart (cases_eq q p) u w
    go false u w = inl w

pub give_size : (ms : List Mark) (h p : ℕ) → length (give ms h p) ≡ length ms
give_size ms h p = go (is_unseen (slice_get ms p))
  where
    go : (b : Bool) → length (if b then slice_set ms p (Waits h) else ms) ≡ length ms
    go true = length-set ms p (Waits h)
    go false = refl

-- then the place has a height
pub give_has : (ms : List Mark) (h p : ℕ) → p < length ms → (j : ℕ) × (height_at (give ms h p) p ≡ Some j)
give_has ms h p below = go (slice_get ms p) refl
  where
    there : slice_get ms p ≡ Some (get_or ms p Unseen)
    there = slice_get-get_or ms p Unseen below

    given : (m : Mark) → slice_get ms p ≡ Some m → (j : ℕ) × (height_at (give ms h p) p ≡ Some j)
    given Unseen e =
        let u : is_unseen (slice_get ms p) ≡ true = ap is_unseen e in
        (h, ap (λ (b : Bool). height_at (if b then slice_set ms p (Waits h) else ms) p) u ∙ ap (λ (o : Option Mark). option_and_then height_in o) (get_set_same ms p (Waits h) Unseen e))
    given (Waits j) e = (j, give_keeps ms h p p j (ap (λ (o : Option Mark). option_and_then height_in o) e))
    given (Passed j) e = (j, give_keeps ms h p p j (ap (λ (o : Option Mark). option_and_then height_in o) e))

    go : (o : Option Mark) → slice_get ms p ≡ o → (j : ℕ) × (height_at (give ms h p) p ≡ Some j)
    go o e = given (get_or ms p Unseen) there

-- nothing is passed by that
pub give_passes : (ms : List Mark) (h p k j : ℕ) → slice_get (give ms h p) k ≡ Some (Passed j) → slice_get ms k ≡ Some (Passed j)
give_passes ms h p k j e = go (is_unseen (slice_get ms p)) refl e
  where
    isnt : Some (Waits h) ≡ Some (Passed j) → ⊥
    isnt f = cc

    apart : (k ≡ p) ⊎ (k ≢ p) → is_unseen (slice_get ms p) ≡ true → slice_get (set ms p (Waits h)) k ≡ Some (Passed j) → slice_get ms k ≡ Some (Passed j)
    apart (inl s) u w =
        let free = unseen_there (slice_get ms p) u in
        absurd (isnt (sym (get_set_same ms p (Waits h) Unseen free) ∙ sym (ap (slice_get (set ms p (Waits h))) s) ∙ w))
    apart (inr ne) u w = sym (get_set_other ms k p (Waits h) ne) ∙ w

    go : (b : Bool) → is_unseen (slice_get ms p) ≡ b → slice_get (if b then slice_set ms p (Waits h) else ms) k ≡ Some (Passed j) → slice_get ms k ≡ Some (Passed j)
    go true u w = apart (cases_eq k p) u w
    go false u w = w

-- ---- several places are

each_keeps : (ms : List Mark) (h : ℕ) (ps : List ℕ) (q j : ℕ) → height_at ms q ≡ Some j → height_at (give_each ms h ps) q ≡ Some j
each_keeps ms h [] q j e = e
each_keeps ms h (p ∷ ps) q j e = each_keeps (give ms h p) h ps q j (give_keeps ms h p q j e)

pub each_size : (ms : List Mark) (h : ℕ) (ps : List ℕ) → length (give_each ms h ps) ≡ length ms
each_size ms h [] = refl
each_size ms h (p ∷ ps) = each_size (give ms h p) h ps ∙ give_size ms h p

each_passes : (ms : List Mark) (h : ℕ) (ps : List ℕ) (k j : ℕ) → slice_get (give_each ms h ps) k ≡ Some (Passed j) → slice_get ms k ≡ Some (Passed j)
each_passes ms h [] k j e = e
each_passes ms h (p ∷ ps) k j e = give_passes ms h p k j (each_passes (give ms h p) h ps k j e)

pub each_origin : (ms : List Mark) (h : ℕ) (ps : List ℕ) (q j : ℕ) → height_at (give_each ms h ps) q ≡ Some j → (height_at ms q ≡ Some j) ⊎ (In q ps × (j ≡ h))
each_origin ms h [] q j e = inl e
each_origin ms h (p ∷ ps) q j e = go (each_origin (give ms h p) h ps q j e)
  where
    head : (height_at ms q ≡ Some j) ⊎ ((p ≡ q) × (j ≡ h)) → (height_at ms q ≡ Some j) ⊎ (In q (p ∷ ps) × (j ≡ h))
    head (inl k) = inl k
    head (inr k) = inr (inl k.0, k.1)

    go : (height_at (give ms h p) q ≡ Some j) ⊎ (In q ps × (j ≡ h)) → (height_at ms q ≡ Some j) ⊎ (In q (p ∷ ps) × (j ≡ h))
    go (inl k) = head (give_origin ms h p q j k)
    go (inr k) = inr (inr k.0, k.1)

-- a place among them has the height, where it had no other
each_given : (ms : List Mark) (h : ℕ) (ps : List ℕ) (q : ℕ) → In q ps → q < length ms → ((j : ℕ) → height_at ms q ≡ Some j → j ≡ h) → height_at (give_each ms h ps) q ≡ Some h
each_given ms h [] q m below free = absurd m
each_given ms h (p ∷ ps) q (inl s) below free =
    let has = give_has ms h p (omega (arith, below, s)) in
    let here : height_at (give ms h p) q ≡ Some has.0 = sym (ap (height_at (give ms h p)) s) ∙ has.1 in
    each_keeps (give ms h p) h ps q h (here ∙ ap Some (which has.0 (give_origin ms h p q has.0 here)))
  where
    which : (j : ℕ) → (height_at ms q ≡ Some j) ⊎ ((p ≡ q) × (j ≡ h)) → j ≡ h
    which j (inl k) = free j k
    which j (inr k) = k.1
each_given ms h (p ∷ ps) q (inr m) below free =
    each_given (give ms h p) h ps q m (omega (arith, below, give_size ms h p)) (λ j e. which j (give_origin ms h p q j e))
  where
    which : (j : ℕ) → (height_at ms q ≡ Some j) ⊎ ((p ≡ q) × (j ≡ h)) → j ≡ h
    which j (inl k) = free j k
    which j (inr k) = k.1

-- ---- the beginnings

begin_keeps : (ms : List Mark) (es : List (ℕ × ℕ)) (q j : ℕ) → height_at ms q ≡ Some j → height_at (begin_each ms es) q ≡ Some j
begin_keeps ms [] q j e = e
begin_keeps ms (x ∷ es) q j e = begin_keeps (give ms x.1 x.0) es q j (give_keeps ms x.1 x.0 q j e)

pub begin_size : (ms : List Mark) (es : List (ℕ × ℕ)) → length (begin_each ms es) ≡ length ms
begin_size ms [] = refl
begin_size ms (x ∷ es) = begin_size (give ms x.1 x.0) es ∙ give_size ms x.1 x.0

begin_passes : (ms : List Mark) (es : List (ℕ × ℕ)) (k j : ℕ) → slice_get (begin_each ms es) k ≡ Some (Passed j) → slice_get ms k ≡ Some (Passed j)
begin_passes ms [] k j e = e
begin_passes ms (x ∷ es) k j e = give_passes ms x.1 x.0 k j (begin_passes (give ms x.1 x.0) es k j e)

-- a height comes with one of them
pub begin_origin : (ms : List Mark) (es : List (ℕ × ℕ)) (q j : ℕ) → height_at (begin_each ms es) q ≡ Some j → (height_at ms q ≡ Some j) ⊎ ((e : ℕ × ℕ) × In e es × (e.0 ≡ q) × (e.1 ≡ j))
begin_origin ms [] q j e = inl e
begin_origin ms (x ∷ es) q j e = go (begin_origin (give ms x.1 x.0) es q j e)
  where
    head : (height_at ms q ≡ Some j) ⊎ ((x.0 ≡ q) × (j ≡ x.1)) → (height_at ms q ≡ Some j) ⊎ ((e : ℕ × ℕ) × In e (x ∷ es) × (e.0 ≡ q) × (e.1 ≡ j))
    head (inl k) = inl k
    head (inr k) = inr (x, inl refl, k.0, sym k.1)

    go : (height_at (give ms x.1 x.0) q ≡ Some j) ⊎ ((e : ℕ × ℕ) × In e es × (e.0 ≡ q) × (e.1 ≡ j)) → (height_at ms q ≡ Some j) ⊎ ((e : ℕ × ℕ) × In e (x ∷ es) × (e.0 ≡ q) × (e.1 ≡ j))
    go (inl k) = head (give_origin ms x.1 x.0 q j k)
    go (inr k) = inr (k.0, inr k.1, k.2, k.3)

begin_has : (ms : List Mark) (es : List (ℕ × ℕ)) (e : ℕ × ℕ) → In e es → e.0 < length ms → (j : ℕ) × (height_at (begin_each ms es) e.0 ≡ Some j)
begin_has ms [] e m below = absurd m
begin_has ms (x ∷ es) e (inl s) below =
    let same : x.0 ≡ e.0 = ap (λ (y : ℕ × ℕ). y.0) s in
    let has = give_has ms x.1 x.0 (omega (arith, below, same)) in
    (has.0, begin_keeps (give ms x.1 x.0) es e.0 has.0 (sym (ap (height_at (give ms x.1 x.0)) same) ∙ has.1))
begin_has ms (x ∷ es) e (inr m) below = begin_has (give ms x.1 x.0) es e m (omega (arith, below, give_size ms x.1 x.0))

-- ---- what holds all along

-- no clash tells what a place may have
no_clash : (b : Body) (ms : List Mark) (h q : ℕ) → clashes b ms h q ≡ false → q < length ms → ((j : ℕ) → height_at ms q ≡ Some j → j ≡ h) × (begins_try b.regions q ≡ true → h ≡ 0)
no_clash b ms h q none below = go (get_or ms q Unseen) (slice_get-get_or ms q Unseen below)
  where
    same : (j : ℕ) → not (j == h) ≡ false → j ≡ h
    same j e = grind (arith, nat_tests)

    zero_then : (x : Bool) → (x && not (h == 0)) ≡ false → x ≡ true → h ≡ 0
    zero_then true e t = is_zero e
      where
        is_zero : not (h == 0) ≡ false → h ≡ 0
        is_zero f = grind (arith, nat_tests)
    zero_then false e t = absurd cc

    told : (o : Option ℕ) (j : ℕ) → differs h o ≡ false → o ≡ Some j → j ≡ h
    told None j d e = absurd cc
    told (Some i) j d e = same j (ap (λ (x : ℕ). not (x == h)) (sym (some_same e)) ∙ d)

    go : (m : Mark) → slice_get ms q ≡ Some m → ((j : ℕ) → height_at ms q ≡ Some j → j ≡ h) × (begins_try b.regions q ≡ true → h ≡ 0)
    go m s =
        let c : (differs h (height_in m) || (begins_try b.regions q && not (h == 0))) ≡ false = sym (ap (cant_have (begins_try b.regions q) h) s) ∙ none in
        let parts = or_none (differs h (height_in m)) (begins_try b.regions q && not (h == 0)) c in
        ((λ j e. told (height_in m) j parts.0 (sym (ap (λ (o : Option Mark). option_and_then height_in o) s) ∙ e)), (λ t. zero_then (begins_try b.regions q) parts.1 t))

pub record Sound (effect : Instr → Effect) (b : Body) (ms : List Mark) : Type 0 where
  pub size : length ms ≡ length b.instrs
  pub begins : (e : ℕ × ℕ) → In e (beginnings b) → e.0 < length b.instrs → height_at ms e.0 ≡ Some e.1
  pub fits : (e : ℕ × ℕ) → In e (beginnings b) → nat_lt b.max_stack e.1 ≡ false
  pub tries : (q h : ℕ) → height_at ms q ≡ Some h → begins_try b.regions q ≡ true → h ≡ 0
  pub passed : (k h : ℕ) (i : Instr) → slice_get ms k ≡ Some (Passed h) → slice_get b.instrs k ≡ Some i
      → (cant_go b.max_stack (effect i) h ≡ false) × ((t : ℕ) → In t (successors k i) → t < length b.instrs → height_at ms t ≡ Some (height_after (effect i) h))

pub blank_height : (n q h : ℕ) → height_at (replicate n Unseen) q ≡ Some h → ⊥
blank_height zero q h e = absurd cc
blank_height (suc n) zero h e = absurd cc
blank_height (suc n) (suc q) h e = blank_height n q h e

blank_passed : (n q h : ℕ) → slice_get (replicate n Unseen) q ≡ Some (Passed h) → ⊥
blank_passed zero q h e = absurd cc
blank_passed (suc n) zero h e = absurd cc
blank_passed (suc n) (suc q) h e = blank_passed n q h e

sound_begun : (effect : Instr → Effect) (b : Body) → begin_fault b ≡ None → Sound effect b (begun b)
sound_begun effect b none =
    record {
      size = size;
      begins = λ e m below. let has = begin_has (replicate (length b.instrs) Unseen) (beginnings b) e m (omega (arith, below, blank)) in has.1 ∙ ap Some ((no_clash b (begun b) e.1 e.0 (right e m).1 (omega (arith, below, size))).0 has.0 has.1);
      fits = λ e m. (right e m).0;
      tries = λ q h e t. zeros q h t (begin_origin (replicate (length b.instrs) Unseen) (beginnings b) q h e) e;
      passed = λ k h i e at. absurd (blank_passed (length b.instrs) k h (begin_passes (replicate (length b.instrs) Unseen) (beginnings b) k h e));
    }
  where
    blank : length (replicate {A = Mark} (length b.instrs) Unseen) ≡ length b.instrs
    blank = length-replicate (length b.instrs) Unseen

    size : length (begun b) ≡ length b.instrs
    size = begin_size (replicate (length b.instrs) Unseen) (beginnings b) ∙ blank

    right : (e : ℕ × ℕ) → In e (beginnings b) → (nat_lt b.max_stack e.1 ≡ false) × (clashes b (begun b) e.1 e.0 ≡ false)
    right e m = or_none (nat_lt b.max_stack e.1) (clashes b (begun b) e.1 e.0) (fails_all (is_wrong b (begun b)) e (beginnings b) (no_firsts (filter (is_wrong b (begun b)) (beginnings b)) (least_none (map (λ (x : ℕ × ℕ). x.0) (filter (is_wrong b (begun b)) (beginnings b))) none)) m)

    within : (q h : ℕ) → height_at (begun b) q ≡ Some h → q < length (begun b)
    within q h e = go (slice_get (begun b) q) refl
      where
        neither : (o : Option ℕ) → o ≡ None → o ≡ Some h → ⊥
        neither o f g = cc

        go : (o : Option Mark) → slice_get (begun b) q ≡ o → q < length (begun b)
        go None s = absurd (neither (height_at (begun b) q) (ap (λ (x : Option Mark). option_and_then height_in x) s) e)
        go (Some m) s = slice_get_within (begun b) q m s

    zeros : (q h : ℕ) → begins_try b.regions q ≡ true → (height_at (replicate (length b.instrs) Unseen) q ≡ Some h) ⊎ ((e : ℕ × ℕ) × In e (beginnings b) × (e.0 ≡ q) × (e.1 ≡ h)) → height_at (begun b) q ≡ Some h → h ≡ 0
    zeros q h t (inl k) e = absurd (blank_height (length b.instrs) q h k)
    zeros q h t (inr k) e =
        let r = (right k.0 k.1).1 in
        let c : clashes b (begun b) h q ≡ false = subst (λ (x : ℕ). clashes b (begun b) x q ≡ false) k.3 (subst (λ (x : ℕ). clashes b (begun b) k.0.1 x ≡ false) k.2 r) in
        (no_clash b (begun b) h q c (within q h e)).1 t

-- ---- one step

sound_passed : (effect : Instr → Effect) (b : Body) (ms : List Mark) (k h : ℕ) (i : Instr) → Sound effect b ms → slice_get ms k ≡ Some (Waits h) → slice_get b.instrs k ≡ Some i → fault_by b (effect i) ms k h i ≡ None → Sound effect b (passed_by (effect i) ms k h i)
sound_passed effect b ms k h i old there at none =
    record {
      size = size;
      begins = λ e m below. keeps e.0 e.1 (old.begins e m below);
      fits = old.fits;
      tries = λ q j e t. zeros q j t (each_origin mid after places q j e) e;
      passed = λ n j x e f. steps n j x f (each_passes mid after places n j e) (cases_eq n k);
    }
  where
    after : ℕ
    after = height_after (effect i) h

    places : List ℕ
    places = successors k i

    mid : List Mark
    mid = slice_set ms k (Passed h)

    size : length (passed_by (effect i) ms k h i) ≡ length b.instrs
    size = each_size (slice_set ms k (Passed h)) (height_after (effect i) h) (successors k i) ∙ (length-set ms k (Passed h) ∙ old.size)

    heights : (q : ℕ) → height_at (slice_set ms k (Passed h)) q ≡ height_at ms q
    heights q = go (cases_eq q k)
      where
        go : (q ≡ k) ⊎ (q ≢ k) → height_at (slice_set ms k (Passed h)) q ≡ height_at ms q
        go (inl s) =
            ap (height_at (slice_set ms k (Passed h))) s ∙ (ap (λ (o : Option Mark). option_and_then height_in o) (get_set_same ms k (Passed h) (Waits h) there)
            ∙ sym (ap (height_at ms) s ∙ ap (λ (o : Option Mark). option_and_then height_in o) there))
        go (inr ne) = ap (λ (o : Option Mark). option_and_then height_in o) (get_set_other ms q k (Passed h) ne)

    keeps : (q j : ℕ) → height_at ms q ≡ Some j → height_at (passed_by (effect i) ms k h i) q ≡ Some j
    keeps q j e = each_keeps (slice_set ms k (Passed h)) (height_after (effect i) h) (successors k i) q j (heights q ∙ e)

    right : (cant_go b.max_stack (effect i) h ≡ false) × (filter (clashes b ms (height_after (effect i) h)) (successors k i) ≡ [])
    right = go (cant_go b.max_stack (effect i) h) refl none
      where
        never : (n : ℕ) → Some n ≡ None → ⊥
        never n e = cc

        go : (c : Bool) → cant_go b.max_stack (effect i) h ≡ c → (if c then Some k else least (filter (clashes b ms (height_after (effect i) h)) (successors k i))) ≡ None → (cant_go b.max_stack (effect i) h ≡ false) × (filter (clashes b ms (height_after (effect i) h)) (successors k i) ≡ [])
        go true e f = absurd (never k f)
        go false e f = (e, least_none (filter (clashes b ms (height_after (effect i) h)) (successors k i)) f)

    free : (t : ℕ) → In t (successors k i) → clashes b ms (height_after (effect i) h) t ≡ false
    free t m = fails_all (clashes b ms (height_after (effect i) h)) t (successors k i) right.1 m

    within : (q j : ℕ) → height_at (passed_by (effect i) ms k h i) q ≡ Some j → q < length b.instrs
    within q j e = go (slice_get (passed_by (effect i) ms k h i) q) refl
      where
        neither : (o : Option ℕ) → o ≡ None → o ≡ Some j → ⊥
        neither o f g = cc

        go : (o : Option Mark) → slice_get (passed_by (effect i) ms k h i) q ≡ o → q < length b.instrs
        go None s = absurd (neither (height_at (passed_by (effect i) ms k h i) q) (ap (λ (x : Option Mark). option_and_then height_in x) s) e)
        go (Some m) s = omega (arith, slice_get_within (passed_by (effect i) ms k h i) q m s, size)

    zeros : (q j : ℕ) → begins_try b.regions q ≡ true → (height_at (slice_set ms k (Passed h)) q ≡ Some j) ⊎ (In q (successors k i) × (j ≡ height_after (effect i) h)) → height_at (passed_by (effect i) ms k h i) q ≡ Some j → j ≡ 0
    zeros q j t (inl e) f = old.tries q j (sym (heights q) ∙ e) t
    zeros q j t (inr e) f = e.1 ∙ (no_clash b ms (height_after (effect i) h) q (free q e.0) (omega (arith, within q j f, old.size))).1 t

    steps : (n j : ℕ) (x : Instr) → slice_get b.instrs n ≡ Some x → slice_get (slice_set ms k (Passed h)) n ≡ Some (Passed j) → (n ≡ k) ⊎ (n ≢ k)
        → (cant_go b.max_stack (effect x) j ≡ false) × ((t : ℕ) → In t (successors n x) → t < length b.instrs → height_at (passed_by (effect i) ms k h i) t ≡ Some (height_after (effect x) j))
    steps n j x f e (inr ne) =
        let r = old.passed n j x (sym (get_set_other ms n k (Passed h) ne) ∙ e) f in
        (r.0, λ t m below. keeps t _ (r.1 t m below))
    steps n j x f e (inl s) =
        let same : x ≡ i = some_instr (sym f ∙ ap (slice_get b.instrs) s ∙ at) in
        let high : j ≡ h = passed_same (sym e ∙ ap (slice_get (slice_set ms k (Passed h))) s ∙ get_set_same ms k (Passed h) (Waits h) there) in (
          ap (λ (y : Instr). cant_go b.max_stack (effect y) j) same ∙ ap (cant_go b.max_stack (effect i)) high ∙ right.0,
          λ t m below. told t (subst (λ (l : List ℕ). In t l) (ap (λ (y : Instr). successors n y) same ∙ ap (λ (y : ℕ). successors y i) s) m) below ∙ ap Some (sym (ap (λ (y : Instr). height_after (effect y) j) same ∙ ap (height_after (effect i)) high)),
        )
      where
        some_instr : {x y : Instr} → Some x ≡ Some y → x ≡ y
        some_instr p = cc

        passed_same : {x y : ℕ} → Some (Passed x) ≡ Some (Passed y) → x ≡ y
        passed_same p = cc

        told : (t : ℕ) → In t (successors k i) → t < length b.instrs → height_at (passed_by (effect i) ms k h i) t ≡ Some (height_after (effect i) h)
        told t m below =
            each_given (slice_set ms k (Passed h)) (height_after (effect i) h) (successors k i) t m (omega (arith, below, old.size, length-set ms k (Passed h)))
            (λ j' e'. (no_clash b ms (height_after (effect i) h) t (free t m) (omega (arith, below, old.size))).0 j' (sym (heights t) ∙ e'))

-- ---- the end

none_waiting : (ms : List Mark) (k : ℕ) (m : Mark) → position is_waiting ms ≡ None → slice_get ms k ≡ Some m → is_waiting m ≡ false
none_waiting ms k m none there = go (nat_lt (position_or_len is_waiting ms) (length ms)) refl none
  where
    never : (n : ℕ) → Some n ≡ None → ⊥
    never n e = cc

    past : nat_lt (position_or_len is_waiting ms) (length ms) ≡ false → length ms ≤ position_or_len is_waiting ms
    past e = grind (arith, nat_tests)

    go : (c : Bool) → nat_lt (position_or_len is_waiting ms) (length ms) ≡ c → cond c (Some (position_or_len is_waiting ms)) None ≡ None → is_waiting m ≡ false
    go true e f = absurd (never (position_or_len is_waiting ms) f)
    go false e f =
        ap is_waiting (sym (get_or_from_slice_get ms k m Unseen there))
        ∙ fails_before_first is_waiting ms k Unseen (omega (arith, past e, slice_get_within ms k m there))

agrees_at_end : (effect : Instr → Effect) (b : Body) (ms : List Mark) → Sound effect b ms → position is_waiting ms ≡ None → Agrees effect b (height_at ms)
agrees_at_end effect b ms sound none =
    record {
      begins = λ q h m below. sound.begins (q, h) (inside (q, h) (beginnings b) m) below;
      goes = λ k h t i e f m below. (sound.passed k h i (is_passed k h e) f).1 t (inside t (successors k i) m) below;
      can_go = λ k h i e f. (sound.passed k h i (is_passed k h e) f).0;
      fits = λ q h m. sound.fits (q, h) (inside (q, h) (beginnings b) m);
      tries = sound.tries;
    }
  where
    inside : {X : Type 0} (q : X) (xs : List X) → Contains xs q → In q xs
    inside q xs h = walk q xs h.0 h.1 h.2

    is_passed : (k h : ℕ) → height_at ms k ≡ Some h → slice_get ms k ≡ Some (Passed h)
    is_passed k h e = go (slice_get ms k) refl
      where
        neither : (o : Option ℕ) → o ≡ None → o ≡ Some h → ⊥
        neither o f g = cc

        of_mark : (m : Mark) → slice_get ms k ≡ Some m → slice_get ms k ≡ Some (Passed h)
        of_mark Unseen s = absurd (neither (height_at ms k) (ap (λ (x : Option Mark). option_and_then height_in x) s) e)
        of_mark (Waits j) s = absurd (not_both true refl (none_waiting ms k (Waits j) none s))
        of_mark (Passed j) s = s ∙ ap (λ (x : ℕ). Some (Passed x)) (some_same (sym (ap (λ (x : Option Mark). option_and_then height_in x) s) ∙ e))

        go : (o : Option Mark) → slice_get ms k ≡ o → slice_get ms k ≡ Some (Passed h)
        go None s = absurd (neither (height_at ms k) (ap (λ (x : Option Mark). option_and_then height_in x) s) e)
        go (Some m) s = of_mark m s

abbrev found : List Mark → Result (List Mark) ℕ
found ms = Ok ms

found_agrees : (effect : Instr → Effect) (b : Body) (ms new : List Mark) (r : Result (List Mark) ℕ) → Finds effect b ms r → r ≡ found new → Sound effect b ms → Agrees effect b (height_at new)
found_agrees effect b ms new r (ends {ms = last} none) is sound = agrees_at_end effect b new (subst (Sound effect b) (ok_same is) sound) (ap (position is_waiting) (sym (ok_same is)) ∙ none)
  where
    ok_same : {x y : List Mark} → found x ≡ found y → x ≡ y
    ok_same e = cc
found_agrees effect b ms new r (stops k h q i first there at fault) is sound = absurd cc
found_agrees effect b ms new r (goes k h i first there at right rest) is sound =
    found_agrees effect b (passed_by (effect i) ms k h i) new r rest is (sound_passed effect b ms k h i sound there at right)

-- Where the search finds no fault, what it leaves agrees with every path.
pub found_map : (effect : Instr → Effect) (b : Body) (ms : List Mark) → SearchFinds effect b (Ok ms) → Agrees effect b (height_at ms)
found_map effect b ms h = go (begin_fault b) refl h
  where
    never : (x : List Mark) (p : ℕ) → found x ≡ Err p → ⊥
    never x p e = cc

    go : (o : Option ℕ) → begin_fault b ≡ o → MatchOption o (Finds effect b (begun b) (found ms)) (λ p. found ms ≡ Err p) → Agrees effect b (height_at ms)
    go None e f = found_agrees effect b (begun b) ms (found ms) f refl (sound_begun effect b e)
    go (Some p) e f = absurd (never ms p f)

-- What it leaves has no height that another map hasn't.
pub least_map : (effect : Instr → Effect) (b : Body) (g : ℕ → Option ℕ) → Agrees effect b g → (ms : List Mark) → SearchFinds effect b (Ok ms) → (q h : ℕ) → height_at ms q ≡ Some h → g q ≡ Some h
least_map effect b g agrees ms h = go (begin_fault b) refl h
  where
    never : (x : List Mark) (p : ℕ) → found x ≡ Err p → ⊥
    never x p e = cc

    go : (o : Option ℕ) → begin_fault b ≡ o → MatchOption o (Finds effect b (begun b) (found ms)) (λ p. found ms ≡ Err p) → (q j : ℕ) → height_at ms q ≡ Some j → g q ≡ Some j
    go None e f = (below_end effect b g agrees (begun b) (found ms) f (below_begun effect b g agrees) ms refl).each
    go (Some p) e f = absurd (never ms p f)
