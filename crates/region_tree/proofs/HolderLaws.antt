-- Numbers that are noted for places.
use Rattle.std.proofs.Common.{add-one, ◌≡◌, ◌≢◌, ◌+◌, ◌≤◌, ◌<◌, ℕ, zero, suc, Bool, true, false, cond, ◌||◌, List, [], ◌∷◌, ◌++◌, ◌⊎◌, inl, inr, length, get_or, set, subst, take, refl, sym, ap, ◌∙◌, arith, eqb, leb, ltb}
use Rattle.std.specs.Prelude.{min, max}
use Rattle.std.proofs.lemmas.Bool.{eqb-true, eqb-false, leb-true, leb-false, ltb-true, ltb-false}
use Rattle.std.proofs.lemmas.List.{get_or-set_other, get_or-set_same, length-set, length-take-le, take_more}
use Rattle.cil_base.proofs.Small.{and_both}
use Rattle.cil_model.specs.declared.body.Region.{Region}
use Rattle.cil_semantics.specs.Unwind.{holds_place}
use Rattle.region_tree.specs.Holders.{AddsHolder, AreHolders, AreJumps, Fills, behind, first_number, is_held}

-- ---- one part

pub fills_none : (from number : ℕ) (xs : List ℕ) → Fills from from number xs xs
fills_none from number xs = record {
  size = refl;
  filled = λ q h x y z. absurd (omega (arith, x, y));
  kept = λ q h x. refl;
  before = λ q x. refl;
  later = λ q x. refl;
}

pub fills_one : (from q number : ℕ) (old new : List ℕ) → from ≤ q → q < length old → get_or new q 0 ≡ 0 → Fills from q number old new → Fills from (q + 1) number old (set new q number)
fills_one from q number old new h k none f = record {
  size = length-set new q number ∙ f.size;
  filled = λ j a b c d. by_place j (eqb j q) refl (get_or-set_same new q number 0 small) (λ e. f.filled j a b (omega (arith, c, e)) d);
  kept = λ j a b. at_place j (eqb j q) refl b (f.kept j a b);
  before = λ j a. get_or-set_other new q j number 0 (omega (arith, a, h)) ∙ f.before j a;
  later = λ j a. get_or-set_other new q j number 0 (omega (arith, a)) ∙ f.later j (omega (arith, a));
}
  where
    small : q < length new
    small = omega (arith, k, f.size)

    by_place : (j : ℕ) (b : Bool) → eqb j q ≡ b → get_or (set new q number) q 0 ≡ number → (j ≢ q → get_or new j 0 ≡ number) → get_or (set new q number) j 0 ≡ number
    by_place j true e s g = ap (λ (i : ℕ). get_or (set new q number) i 0) (eqb-true j q e) ∙ s
    by_place j false e s g = get_or-set_other new q j number 0 (eqb-false j q e) ∙ g (eqb-false j q e)

    at_place : (j : ℕ) (b : Bool) → eqb j q ≡ b → 0 < get_or old j 0 → get_or new j 0 ≡ get_or old j 0 → get_or (set new q number) j 0 ≡ get_or old j 0
    at_place j true e s g =
        let there : get_or new j 0 ≡ 0 = ap (λ (i : ℕ). get_or new i 0) (eqb-true j q e) ∙ none in
        absurd (omega (arith, s, g, there))
    at_place j false e s g = get_or-set_other new q j number 0 (eqb-false j q e) ∙ g

-- what is gone over has a number already
pub fills_over : (from q r number end : ℕ) (old new jumps : List ℕ) → q < end → end ≤ length old → r ≡ min (max (get_or jumps q 0) (q + 1)) end → AreJumps old jumps → get_or new q 0 ≢ 0 → Fills from q number old new → Fills from r number old new
fills_over from q r number end old new jumps less within e js some f = record {
  size = f.size;
  filled = λ j a b c d. go j a b c d (ltb j q) refl;
  kept = f.kept;
  before = f.before;
  later = λ j a. f.later j (omega (arith, a, e, less));
}
  where
    here : 0 < get_or old q 0
    here = omega (arith, some, f.later q (omega arith))

    go : (j : ℕ) → j < length old → from ≤ j → j < r → get_or old j 0 ≡ 0 → (b : Bool) → ltb j q ≡ b → get_or new j 0 ≡ number
    go j a b c d true t = f.filled j a b (ltb-true j q t) d
    go j a b c d false t = another (eqb j q) refl
      where
        another : (b : Bool) → eqb j q ≡ b → get_or new j 0 ≡ number
        another true s =
            let same : get_or old j 0 ≡ get_or old q 0 = ap (λ (i : ℕ). get_or old i 0) (eqb-true j q s) in
            absurd (omega (arith, same, here, d))
        another false s =
            let more : q ≤ j = ltb-false j q t in
            let other : j ≢ q = eqb-false j q s in
            let over : 0 < get_or old j 0 = js q j more (omega (arith, more, other, c, e)) a in
            absurd (omega (arith, over, d))

pub fills_all : (from q to number end : ℕ) (old new : List ℕ) → end ≡ min to (length old) → end ≤ q → from ≤ q → (q ≤ end ⊎ q ≡ from) → Fills from q number old new → Fills from to number old new
fills_all from q to number end old new e past ahead near f = record {
  size = f.size;
  filled = λ j a b c d. f.filled j a b (omega (arith, a, c, e, past)) d;
  kept = f.kept;
  before = f.before;
  later = λ j a. go j a near;
}
  where
    go : (j : ℕ) → to ≤ j → (q ≤ end ⊎ q ≡ from) → get_or new j 0 ≡ get_or old j 0
    go j a (inl x) = f.later j (omega (arith, a, x, e))
    go j a (inr x) = side (ltb j q) refl
      where
        side : (b : Bool) → ltb j q ≡ b → get_or new j 0 ≡ get_or old j 0
        side true s = f.before j (omega (arith, x, ltb-true j q s))
        side false s = f.later j (ltb-false j q s)

-- ---- jumps

some_still : (from to number : ℕ) (old new : List ℕ) → Fills from to number old new → (q : ℕ) → q < length old → 0 < get_or old q 0 → 0 < get_or new q 0
some_still from to number old new f q a b = omega (arith, b, f.kept q a b)

pub jumps_kept : (from to number : ℕ) (old new jumps : List ℕ) → Fills from to number old new → AreJumps old jumps → AreJumps new jumps
jumps_kept from to number old new jumps f js p q a b c =
    some_still from to number old new f q (omega (arith, c, f.size)) (js p q a b (omega (arith, c, f.size)))

pub jumps_set : (from to number : ℕ) (old new jumps : List ℕ) → 0 < number → from < length jumps → Fills from to number old new → AreJumps old jumps → AreJumps new (set jumps from to)
jumps_set from to number old new jumps some there f js p q a b c = go (eqb p from) refl
  where
    within : q < length old
    within = omega (arith, c, f.size)

    go : (x : Bool) → eqb p from ≡ x → 0 < get_or new q 0
    go false e =
        let same : get_or (set jumps from to) p 0 ≡ get_or jumps p 0 = get_or-set_other jumps from p to 0 (eqb-false p from e) in
        jumps_kept from to number old new jumps f js p q a (omega (arith, b, same)) c
    go true e = filled (eqb (get_or old q 0) 0) refl
      where
        here : p ≡ from
        here = eqb-true p from e

        ends : get_or (set jumps from to) p 0 ≡ to
        ends = ap (λ (i : ℕ). get_or (set jumps from to) i 0) here ∙ get_or-set_same jumps from to 0 there

        filled : (y : Bool) → eqb (get_or old q 0) 0 ≡ y → 0 < get_or new q 0
        filled true s = omega (arith, some, f.filled q within (omega (arith, a, here)) (omega (arith, b, ends)) (eqb-true (get_or old q 0) 0 s))
        filled false s = some_still from to number old new f q within (omega (arith, eqb-false (get_or old q 0) 0 s))

-- ---- a region

pub holds_true : (from to q : ℕ) → holds_place from to q ≡ true → (from ≤ q) × (q < to)
holds_true from to q e =
    let two = and_both (leb from q) (ltb q to) e in
    (leb-true from q two.0, ltb-true q to two.1)

pub holds_false : (from to q : ℕ) → holds_place from to q ≡ false → (q < from) ⊎ (to ≤ q)
holds_false from to q e = go (leb from q) refl (ltb q to) refl
  where
    go : (a : Bool) → leb from q ≡ a → (b : Bool) → ltb q to ≡ b → (q < from) ⊎ (to ≤ q)
    go false x b y = inl (leb-false from q x)
    go true x false y = inr (ltb-false q to y)
    go true x true y = absurd cc

-- outside a part nothing changes
untouched : (from to number : ℕ) (old new : List ℕ) → Fills from to number old new → (q : ℕ) → holds_place from to q ≡ false → get_or new q 0 ≡ get_or old q 0
untouched from to number old new f q e = elim (holds_false from to q e) [ inl x ↦ f.before q x | inr x ↦ f.later q x ]

behind_more : (n : ℕ) → behind (n + 1) ≡ suc n + 1
behind_more n = ap behind (add-one n) ∙ omega arith

-- the first number unless it is 0
abbrev or_else : ℕ → ℕ → ℕ
or_else zero m = m
or_else (suc n) m = suc n

first_behind : (p : Region → Bool) (rs : List Region) (r : Region) → first_number p (rs ++ r ∷ []) ≡ or_else (first_number p rs) (cond (p r) (length rs + 1) 0)
first_behind p [] r = go (p r)
  where
    go : (b : Bool) → cond b 1 (behind 0) ≡ cond b (0 + 1) 0
    go true = refl
    go false = refl
first_behind p (s ∷ ss) r = go (p s) (first_number p ss) (p r) (first_behind p ss r)
  where
    go : (a : Bool) (n : ℕ) (b : Bool) → first_number p (ss ++ r ∷ []) ≡ or_else n (cond b (length ss + 1) 0) → cond a 1 (behind (first_number p (ss ++ r ∷ []))) ≡ or_else (cond a 1 (behind n)) (cond b (length (s ∷ ss) + 1) 0)
    go true n b e = refl
    go false zero true e = ap behind e ∙ behind_more (length ss)
    go false zero false e = ap behind e
    go false (suc n) b e = ap behind e

pub adds_holder : (skip : ℕ) (r : Region) (number : ℕ) (a b c : List ℕ) (from : ℕ) → from ≡ r.try_from + skip → 0 < number → Fills from r.try_to number a b → Fills r.handler_from r.handler_to number b c → AddsHolder skip r number a c
adds_holder skip r number a b c from is some f g rs h count = record {
  size = g.size ∙ f.size;
  each = λ q k. go q k (first_number (λ (x : Region). is_held skip x q) rs) refl (holds_place (r.try_from + skip) r.try_to q) refl (holds_place r.handler_from r.handler_to q) refl;
}
  where
    told : (q : ℕ) (m n : ℕ) (x y : Bool) → first_number (λ (s : Region). is_held skip s q) rs ≡ n → holds_place (r.try_from + skip) r.try_to q ≡ x → holds_place r.handler_from r.handler_to q ≡ y → m ≡ or_else n (cond (x || y) (length rs + 1) 0) → m ≡ first_number (λ (s : Region). is_held skip s q) (rs ++ r ∷ [])
    told q m n x y u v w t =
        t ∙ sym (first_behind (λ (s : Region). is_held skip s q) rs r
        ∙ ap (λ (l : ℕ). or_else l (cond (is_held skip r q) (length rs + 1) 0)) u
        ∙ ap (λ (z : Bool). or_else n (cond (z || holds_place r.handler_from r.handler_to q) (length rs + 1) 0)) v
        ∙ ap (λ (z : Bool). or_else n (cond (x || z) (length rs + 1) 0)) w)

    go : (q : ℕ) → q < length a → (n : ℕ) → first_number (λ (s : Region). is_held skip s q) rs ≡ n → (x : Bool) → holds_place (r.try_from + skip) r.try_to q ≡ x → (y : Bool) → holds_place r.handler_from r.handler_to q ≡ y → get_or c q 0 ≡ first_number (λ (s : Region). is_held skip s q) (rs ++ r ∷ [])
    go q k (suc n) u x v y w =
        let old : get_or a q 0 ≡ suc n = h.each q k ∙ u in
        let mid : get_or b q 0 ≡ get_or a q 0 = f.kept q k (omega (arith, old)) in
        told q (get_or c q 0) (suc n) x y u v w (g.kept q (omega (arith, k, f.size)) (omega (arith, old, mid)) ∙ (mid ∙ old))
    go q k zero u true v y w =
        let old : get_or a q 0 ≡ 0 = h.each q k ∙ u in
        let in_try = holds_true (r.try_from + skip) r.try_to q v in
        let mid : get_or b q 0 ≡ number = f.filled q k (omega (arith, in_try.0, is)) in_try.1 old in
        told q (get_or c q 0) 0 true y u v w (g.kept q (omega (arith, k, f.size)) (omega (arith, mid, some)) ∙ (mid ∙ sym count))
    go q k zero u false v true w =
        let old : get_or a q 0 ≡ 0 = h.each q k ∙ u in
        let mid : get_or b q 0 ≡ 0 = untouched from r.try_to number a b f q (rw is v) ∙ old in
        let in_handler = holds_true r.handler_from r.handler_to q w in
        told q (get_or c q 0) 0 false true u v w (g.filled q (omega (arith, k, f.size)) in_handler.0 in_handler.1 mid ∙ sym count)
    go q k zero u false v false w =
        let old : get_or a q 0 ≡ 0 = h.each q k ∙ u in
        let mid : get_or b q 0 ≡ 0 = untouched from r.try_to number a b f q (rw is v) ∙ old in
        told q (get_or c q 0) 0 false false u v w (untouched r.handler_from r.handler_to number b c g q w ∙ mid)

pub next_holder : (skip : ℕ) (rs : List Region) (k : ℕ) (old new : List ℕ) (count : ℕ) (d : Region) → k < length rs → length old ≡ count → AddsHolder skip (get_or rs k d) (k + 1) old new → AreHolders skip (take k rs) count old → AreHolders skip (take (k + 1) rs) count new
next_holder skip rs k old new count d h size adds held =
    let small : length (take k rs) + 1 ≡ k + 1 = omega (arith, length-take-le k rs (omega (arith, h))) in
    subst (λ (l : List Region). AreHolders skip l count new) (sym (take_more rs k d h))
    (subst (λ (n : ℕ). AreHolders skip (take k rs ++ get_or rs k d ∷ []) n new) size
    (adds (take k rs) (subst (λ (n : ℕ). AreHolders skip (take k rs) n old) (sym size) held) small))
