-- What the innermost region round a place says of all others.
use Rattle.std.proofs.Common.{◌≡◌, ◌≢◌, ◌+◌, ◌-◌, ◌≤◌, ◌<◌, ℕ, zero, suc, Bool, true, false, not, cond, ◌||◌, ◌&&◌, List, [], ◌∷◌, ◌⊎◌, inl, inr, All, length, get_or, refl, sym, ap, ◌∙◌, arith, eqb}
use Rattle.std.specs.List.{AllPairs, list_any}
use Rattle.std.proofs.lemmas.Bool.{eqb-true, eqb-false}
use Rattle.std.proofs.lemmas.List.Elements.{All-head, All-tail, All-cons, All-nil}
use Rattle.cil_base.proofs.Small.{and_both, or_neither, never_true, not_true}
use Rattle.cil_model.specs.declared.body.Region.{Region}
use Rattle.cil_semantics.specs.Unwind.{holds_place, in_try}
use Rattle.region_tree.specs.Holders.{AreHolders, behind, first_number, is_held}
use Rattle.region_tree.specs.Order.{AreDisjoint, AreInOrder, AreWithin, HasParts, StandsBefore}
use Rattle.region_tree.specs.Rules.{goes_in, goes_out, in_handler}
use Rattle.region_tree.proofs.HolderLaws.{holds_false, holds_true}

-- ---- by recursion on the table

abbrev pub Orderly : List Region → Type 0
Orderly [] = Unit {0}
Orderly (r ∷ rs) = HasParts r × (All (StandsBefore r) rs × Orderly rs)

later : (r : Region) (rs : List Region) → AllPairs StandsBefore (r ∷ rs) → AllPairs StandsBefore rs
later r rs pairs i j d h k = pairs (suc i) (suc j) d (omega (arith, h)) (omega (arith, k))

each : (P : Region → Type 0) (rs : List Region) → ((k : ℕ) → (d : Region) → k < length rs → P (get_or rs k d)) → All P rs
each P [] f = All-nil P
each P (r ∷ rs) f = All-cons P r rs (f 0 r (omega arith)) (each P rs (λ k d h. f (suc k) d (omega (arith, h))))

pub orderly : (rs : List Region) → AreInOrder rs → Orderly rs
orderly [] x = tt
orderly (r ∷ rs) x =
    (All-head HasParts r rs x.0, (each (StandsBefore r) rs (λ k d h. x.1 0 (suc k) d (omega arith) (omega (arith, h))), orderly rs (All-tail HasParts r rs x.0, later r rs x.1)))

-- ---- places

-- a place lies in a part
pub record Within (from to q : ℕ) : Type 0 where
  pub begins : from ≤ q
  pub ends : q < to

-- a place lies in a region's handler, or in its try behind so many of its first instructions
abbrev InPart : ℕ → Region → ℕ → Type 0
InPart skip r q = Within (r.try_from + skip) r.try_to q ⊎ Within r.handler_from r.handler_to q

within : (from to q : ℕ) → holds_place from to q ≡ true → Within from to q
within from to q e =
    let two = holds_true from to q e in
    record { begins = two.0; ends = two.1 }

not_within : {P : Type 0} (from to q : ℕ) → holds_place from to q ≡ false → Within from to q → P
not_within from to q e w = elim (holds_false from to q e) [ inl x ↦ absurd (omega (arith, x, w.begins)) | inr x ↦ absurd (omega (arith, x, w.ends)) ]

not_both : {P : Type 0} (a b c d q : ℕ) → AreDisjoint a b c d → Within a b q → Within c d q → P
not_both a b c d q (inl x) v w = absurd (omega (arith, x, v.ends, w.begins))
not_both a b c d q (inr x) v w = absurd (omega (arith, x, v.begins, w.ends))

whole : (skip from to q : ℕ) → Within (from + skip) to q → Within from to q
whole skip from to q w = record { begins = omega (arith, w.begins); ends = w.ends }

-- where a place lies in a part, another one does
pub record Keeps (skip : ℕ) (r : Region) (k t : ℕ) : Type 0 where
  pub in_try : Within (r.try_from + skip) r.try_to k → Within r.try_from r.try_to t
  pub in_handler : Within r.handler_from r.handler_to k → Within r.handler_from r.handler_to t

record Both (from to k t : ℕ) : Type 0 where
  first : Within from to k
  second : Within from to t

-- both places lie in the range in which the region lies
both_within : (skip : ℕ) (r : Region) (from to k t : ℕ) → AreWithin r from to → Keeps skip r k t → InPart skip r k → Both from to k t
both_within skip r from to k t x keep (inl w) =
    let v = keep.in_try w in
    record { first = record { begins = omega (arith, w.begins, x.try_from); ends = omega (arith, w.ends, x.try_to) }; second = record { begins = omega (arith, v.begins, x.try_from); ends = omega (arith, v.ends, x.try_to) } }
both_within skip r from to k t x keep (inr w) =
    let v = keep.in_handler w in
    record { first = record { begins = omega (arith, w.begins, x.handler_from); ends = omega (arith, w.ends, x.handler_to) }; second = record { begins = omega (arith, v.begins, x.handler_from); ends = omega (arith, v.ends, x.handler_to) } }

one_part : {P : Type 0} (r : Region) (k : ℕ) → HasParts r → Within r.try_from r.try_to k → Within r.handler_from r.handler_to k → P
one_part r k p v w = absurd (omega (arith, v.ends, w.begins, p.is_behind))

same_within : (a b c d q : ℕ) → a ≡ c → b ≡ d → Within a b q → Within c d q
same_within a b c d q x y w = record { begins = omega (arith, w.begins, x); ends = omega (arith, w.ends, y) }

-- what keeps in a part of a region does in those that it may precede
around : (skip : ℕ) (r s : Region) (k t : ℕ) → HasParts r → HasParts s → StandsBefore r s → Keeps skip r k t → InPart skip r k → Keeps skip s k t
around skip r s k t p q (StandsBefore.in_try x) keep part =
    let both = both_within skip r s.try_from s.try_to k t x keep part in
    record { in_try = λ w. both.second; in_handler = λ w. one_part s k q both.first w }
around skip r s k t p q (StandsBefore.in_handler x) keep part =
    let both = both_within skip r s.handler_from s.handler_to k t x keep part in
    record { in_try = λ w. one_part s k q (whole skip s.try_from s.try_to k w) both.first; in_handler = λ w. both.second }
around skip r s k t p q (StandsBefore.apart x) keep (inl v) = record {
  in_try = λ w. not_both r.try_from r.try_to s.try_from s.try_to k x.tries (whole skip r.try_from r.try_to k v) (whole skip s.try_from s.try_to k w);
  in_handler = λ w. not_both r.try_from r.try_to s.handler_from s.handler_to k x.try_handler (whole skip r.try_from r.try_to k v) w;
}
around skip r s k t p q (StandsBefore.apart x) keep (inr v) = record {
  in_try = λ w. not_both r.handler_from r.handler_to s.try_from s.try_to k x.handler_try v (whole skip s.try_from s.try_to k w);
  in_handler = λ w. not_both r.handler_from r.handler_to s.handler_from s.handler_to k x.handlers v w;
}
around skip r s k t p q (StandsBefore.one_try x y z) keep (inl v) = record {
  in_try = λ w. same_within r.try_from r.try_to s.try_from s.try_to t x y (keep.in_try v);
  in_handler = λ w. one_part s k q (same_within r.try_from r.try_to s.try_from s.try_to k x y (whole skip r.try_from r.try_to k v)) w;
}
around skip r s k t p q (StandsBefore.one_try x y z) keep (inr v) = record {
  in_try = λ w. one_part r k p (same_within s.try_from s.try_to r.try_from r.try_to k (sym x) (sym y) (whole skip s.try_from s.try_to k w)) v;
  in_handler = λ w. not_both r.handler_from r.handler_to s.handler_from s.handler_to k z v w;
}

held_part : (skip : ℕ) (r : Region) (q : ℕ) → is_held skip r q ≡ true → InPart skip r q
held_part skip r q e = go (holds_place (r.try_from + skip) r.try_to q) refl e
  where
    go : (b : Bool) → holds_place (r.try_from + skip) r.try_to q ≡ b → (b || holds_place r.handler_from r.handler_to q) ≡ true → InPart skip r q
    go true x e = inl (within (r.try_from + skip) r.try_to q x)
    go false x e = inr (within r.handler_from r.handler_to q e)

-- from a place in no part nothing has to be kept
no_part : (skip : ℕ) (r : Region) (k t : ℕ) → is_held skip r k ≡ false → Keeps skip r k t
no_part skip r k t e =
    let two = or_neither (holds_place (r.try_from + skip) r.try_to k) (holds_place r.handler_from r.handler_to k) e in
    record { in_try = λ w. not_within (r.try_from + skip) r.try_to k two.0 w; in_handler = λ w. not_within r.handler_from r.handler_to k two.1 w }

-- a test that fails just for the regions that keep
pub record Tests (skip k t : ℕ) (bad : Region → Bool) : Type 0 where
  pub keeps : (r : Region) → bad r ≡ false → Keeps skip r k t
  pub passes : (r : Region) → Keeps skip r k t → bad r ≡ false

all_behind : (skip k t : ℕ) (bad : Region → Bool) → Tests skip k t bad → (r : Region) (rs : List Region) → HasParts r → All (StandsBefore r) rs → Orderly rs → Keeps skip r k t → InPart skip r k → list_any bad rs ≡ false
all_behind skip k t bad f r [] p may x keep part = refl
all_behind skip k t bad f r (s ∷ ss) p may x keep part =
    rw (f.passes s (around skip r s k t p x.0 (All-head (StandsBefore r) s ss may) keep part)) (all_behind skip k t bad f r ss p (All-tail (StandsBefore r) s ss may) x.1.1 keep part)

pub none_bad : (skip k t : ℕ) (bad : Region → Bool) → Tests skip k t bad → (rs : List Region) (n : ℕ) (d : Region) → Orderly rs → first_number (λ r. is_held skip r k) rs ≡ n → (n ≡ 0 ⊎ bad (get_or rs (n - 1) d) ≡ false) → list_any bad rs ≡ false
none_bad skip k t bad f [] n d x e or = refl
none_bad skip k t bad f (r ∷ rs) n d x e or =
    go (λ m g o. none_bad skip k t bad f rs m d x.1.1 g o) (is_held skip r k) refl (first_number (λ s. is_held skip s k) rs) refl e
  where
    at_first : (m : ℕ) → m ≡ n → (n ≡ 0 ⊎ bad (get_or (r ∷ rs) (n - 1) d) ≡ false) → (m ≡ 0 → ⊥) → bad (get_or (r ∷ rs) (m - 1) d) ≡ false
    at_first m g (inl z) some = absurd (some (g ∙ z))
    at_first m g (inr z) some = ap (λ (i : ℕ). bad (get_or (r ∷ rs) (i - 1) d)) g ∙ z

    behind_first : (m : ℕ) → bad (get_or (r ∷ rs) (suc (suc m) - 1) d) ≡ false → bad (get_or rs (suc m - 1) d) ≡ false
    behind_first m z =
        let same : suc (suc m - 1) ≡ suc (suc m) - 1 = omega arith in
        ap (λ (i : ℕ). bad (get_or (r ∷ rs) i d)) same ∙ z

    go : ((m : ℕ) → first_number (λ s. is_held skip s k) rs ≡ m → (m ≡ 0 ⊎ bad (get_or rs (m - 1) d) ≡ false) → list_any bad rs ≡ false) → (b : Bool) → is_held skip r k ≡ b → (m : ℕ) → first_number (λ s. is_held skip s k) rs ≡ m → cond b 1 (behind m) ≡ n → (bad r || list_any bad rs) ≡ false
    go more true h m e g =
        let first : bad r ≡ false = at_first 1 g or (λ z. absurd (omega (arith, z))) in
        rw first (all_behind skip k t bad f r rs x.0 x.1.0 x.1.1 (f.keeps r first) (held_part skip r k h))
    go more false h zero e g = rw (f.passes r (no_part skip r k t h)) (more 0 e (inl refl))
    go more false h (suc m) e g = rw (f.passes r (no_part skip r k t h)) (more (suc m) e (inr (behind_first m (at_first (suc (suc m)) g or (λ z. absurd (omega (arith, z)))))))

-- ---- out of no region, and into none

kept : (from to k t : ℕ) → (holds_place from to k && not (holds_place from to t)) ≡ false → Within from to k → Within from to t
kept from to k t e w = go (holds_place from to k) refl (holds_place from to t) refl
  where
    go : (a : Bool) → holds_place from to k ≡ a → (b : Bool) → holds_place from to t ≡ b → Within from to t
    go false x b y = not_within from to k x w
    go true x true y = within from to t y
    go true x false y = absurd cc

leaves : {P : Type 0} (from to k t : ℕ) → (holds_place from to k && not (holds_place from to t)) ≡ true → (Within from to k → Within from to t) → P
leaves from to k t e keep =
    let two = and_both (holds_place from to k) (not (holds_place from to t)) e in
    not_within from to t (not_true (holds_place from to t) two.1) (keep (within from to k two.0))

pub tests_out : (k t : ℕ) → Tests 0 k t (λ r. goes_out r k t)
tests_out k t = record { keeps = λ r e. out r e; passes = λ r keep. never_true (goes_out r k t) (λ e. go r keep (in_try r k && not (in_try r t)) refl e) }
  where
    out : (r : Region) → goes_out r k t ≡ false → Keeps 0 r k t
    out r e =
        let two = or_neither (in_try r k && not (in_try r t)) (in_handler r k && not (in_handler r t)) e in
        record { in_try = λ w. kept r.try_from r.try_to k t two.0 (whole 0 r.try_from r.try_to k w); in_handler = kept r.handler_from r.handler_to k t two.1 }

    none_skipped : (from to q : ℕ) → Within from to q → Within (from + 0) to q
    none_skipped from to q w = record { begins = omega (arith, w.begins); ends = w.ends }

    go : (r : Region) → Keeps 0 r k t → (b : Bool) → (in_try r k && not (in_try r t)) ≡ b → (b || (in_handler r k && not (in_handler r t))) ≡ true → ⊥
    go r keep true x e = leaves r.try_from r.try_to k t x (λ w. keep.in_try (none_skipped r.try_from r.try_to k w))
    go r keep false x e = leaves r.handler_from r.handler_to k t e keep.in_handler

pub tests_in : (k t : ℕ) → Tests 1 t k (λ r. goes_in r k t)
tests_in k t = record { keeps = λ r e. into r e; passes = λ r keep. never_true (goes_in r k t) (λ e. go r keep (in_handler r t && not (in_handler r k)) refl e) }
  where
    in_try_kept : (r : Region) → (in_try r t && (not (in_try r k) && not (eqb t r.try_from))) ≡ false → Within (r.try_from + 1) r.try_to t → Within r.try_from r.try_to k
    in_try_kept r e w = cases (in_try r t) refl (in_try r k) refl (eqb t r.try_from) refl
      where
        cases : (a : Bool) → in_try r t ≡ a → (b : Bool) → in_try r k ≡ b → (c : Bool) → eqb t r.try_from ≡ c → Within r.try_from r.try_to k
        cases false x b y c z = not_within r.try_from r.try_to t x (whole 1 r.try_from r.try_to t w)
        cases true x true y c z = within r.try_from r.try_to k y
        cases true x false y true z = absurd (omega (arith, w.begins, eqb-true t r.try_from z))
        cases true x false y false z = absurd cc

    into : (r : Region) → goes_in r k t ≡ false → Keeps 1 r t k
    into r e =
        let two = or_neither (in_handler r t && not (in_handler r k)) (in_try r t && (not (in_try r k) && not (eqb t r.try_from))) e in
        record { in_try = λ w. in_try_kept r two.1 w; in_handler = kept r.handler_from r.handler_to t k two.0 }

    go : (r : Region) → Keeps 1 r t k → (b : Bool) → (in_handler r t && not (in_handler r k)) ≡ b → (b || (in_try r t && (not (in_try r k) && not (eqb t r.try_from)))) ≡ true → ⊥
    go r keep true x e = leaves r.handler_from r.handler_to t k x keep.in_handler
    go r keep false x e =
        let two = and_both (in_try r t) (not (in_try r k) && not (eqb t r.try_from)) e in
        let more = and_both (not (in_try r k)) (not (eqb t r.try_from)) two.1 in
        let there : Within r.try_from r.try_to t = within r.try_from r.try_to t two.0 in
        let other : t ≢ r.try_from = eqb-false t r.try_from (not_true (eqb t r.try_from) more.1) in
        not_within r.try_from r.try_to k (not_true (in_try r k) more.0) (keep.in_try (record { begins = omega (arith, there.begins, other); ends = there.ends }))

none_held : (skip k t : ℕ) (bad : Region → Bool) → Tests skip k t bad → (rs : List Region) → Orderly rs → first_number (λ r. is_held skip r k) rs ≡ 0 → list_any bad rs ≡ false
none_held skip k t bad f [] x e = refl
none_held skip k t bad f (r ∷ rs) x e = none_bad skip k t bad f (r ∷ rs) 0 r x e (inl refl)

pub none_left : (rs : List Region) (holders : List ℕ) (k t : ℕ) (d : Region) → AreInOrder rs → AreHolders 0 rs (length holders) holders → k < length holders → goes_out (get_or rs (get_or holders k 0 - 1) d) k t ≡ false → list_any (λ r. goes_out r k t) rs ≡ false
none_left rs holders k t d x h less e = none_bad 0 k t (λ r. goes_out r k t) (tests_out k t) rs (get_or holders k 0) d (orderly rs x) (sym (h.each k less)) (inr e)

pub none_to_leave : (rs : List Region) (holders : List ℕ) (k t : ℕ) → AreInOrder rs → AreHolders 0 rs (length holders) holders → k < length holders → get_or holders k 0 ≡ 0 → list_any (λ r. goes_out r k t) rs ≡ false
none_to_leave rs holders k t x h less e = none_held 0 k t (λ r. goes_out r k t) (tests_out k t) rs (orderly rs x) (sym (h.each k less) ∙ e)

pub none_entered : (rs : List Region) (holders : List ℕ) (k t : ℕ) (d : Region) → AreInOrder rs → AreHolders 1 rs (length holders) holders → t < length holders → goes_in (get_or rs (get_or holders t 0 - 1) d) k t ≡ false → list_any (λ r. goes_in r k t) rs ≡ false
none_entered rs holders k t d x h less e = none_bad 1 t k (λ r. goes_in r k t) (tests_in k t) rs (get_or holders t 0) d (orderly rs x) (sym (h.each t less)) (inr e)

pub none_to_enter : (rs : List Region) (holders : List ℕ) (k t : ℕ) → AreInOrder rs → AreHolders 1 rs (length holders) holders → t < length holders → get_or holders t 0 ≡ 0 → list_any (λ r. goes_in r k t) rs ≡ false
none_to_enter rs holders k t x h less e = none_held 1 t k (λ r. goes_in r k t) (tests_in k t) rs (orderly rs x) (sym (h.each t less) ∙ e)
