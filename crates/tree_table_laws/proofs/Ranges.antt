-- Regions around a range of places, and regions that have no place of it.
use Rattle.std.proofs.Common.{◌≡◌, ◌<◌, ◌≤◌, ℕ, Bool, true, false, not, ◌&&◌, ◌||◌, ◌⊎◌, inl, inr, refl, arith}
use Rattle.std.specs.Prelude.{◌==◌}
use Rattle.std.proofs.lemmas.Bool.{and_left, and_right, both_ways, eq-eqb, leb-true, and_parts, not_from_true, or_cases, or_from}
use Rattle.cil_base.proofs.Small.{decide}
use Rattle.cil_model.specs.declared.body.Region.{Region}
use Rattle.cil_semantics.specs.Unwind.{in_try}
use Rattle.region_tree.specs.Rules.{goes_in, goes_out, in_handler, in_region}
use Rattle.tree_table_laws.specs.Flow.{Around, within}
use Rattle.tree_table_laws.proofs.Edges.{goes_not_in, goes_not_out, outside_before, outside_behind, stays_out}
use Rattle.tree_table_laws.proofs.OrderLaws.{Within}

-- no edge of a region lies within a range
pub record Uncut (low high : ℕ) (r : Region) : Type 0 where
  pub of_try : Bool
  pub of_handler : Bool
  pub tries : (k : ℕ) → low ≤ k → k < high → in_try r k ≡ of_try
  pub handlers : (k : ℕ) → low ≤ k → k < high → in_handler r k ≡ of_handler

pub uncut_less : (a b c d : ℕ) → a ≤ c → d ≤ b → (r : Region) → Uncut a b r → Uncut c d r
uncut_less a b c d x y r u = record {
  of_try = u.of_try;
  of_handler = u.of_handler;
  tries = λ k l h. u.tries k (omega (arith, x, l)) (omega (arith, y, h));
  handlers = λ k l h. u.handlers k (omega (arith, x, l)) (omega (arith, y, h));
}

-- a region has no place of a range
pub record Misses (low high : ℕ) (r : Region) : Type 0 where
  pub tries : (k : ℕ) → low ≤ k → k < high → in_try r k ≡ false
  pub handlers : (k : ℕ) → low ≤ k → k < high → in_handler r k ≡ false

pub missed : (low high : ℕ) (r : Region) → Misses low high r → Uncut low high r
missed low high r m = record { of_try = false; of_handler = false; tries = m.tries; handlers = m.handlers }

pub misses_behind : (a b low high : ℕ) (r : Region) → Within a b r → b ≤ low → Misses low high r
misses_behind a b low high r w x = record {
  tries = λ k l h. outside_behind r.try_from r.try_to k (omega (arith, x, l, w.to, w.parts.is_behind, w.parts.has_handler));
  handlers = λ k l h. outside_behind r.handler_from r.handler_to k (omega (arith, x, l, w.to));
}

pub misses_before : (a b low high : ℕ) (r : Region) → Within a b r → high ≤ a → Misses low high r
misses_before a b low high r w x = record {
  tries = λ k l h. outside_before r.try_from r.try_to k (omega (arith, x, h, w.from));
  handlers = λ k l h. outside_before r.handler_from r.handler_to k (omega (arith, x, h, w.from, w.parts.has_try, w.parts.is_behind));
}

-- ---- from one place of the range to another

same_and : (v a b : Bool) → a ≡ v → b ≡ v → (a && not b) ≡ false
same_and true a b e f = and_right a (not b) (not_from_true b f)
same_and false a b e f = and_left a (not b) e

pub uncut_out : (low high : ℕ) (r : Region) → Uncut low high r → (k t : ℕ) → low ≤ k → k < high → low ≤ t → t < high → goes_out r k t ≡ false
uncut_out low high r u k t a b c d =
    goes_not_out r k t (same_and u.of_try (in_try r k) (in_try r t) (u.tries k a b) (u.tries t c d)) (same_and u.of_handler (in_handler r k) (in_handler r t) (u.handlers k a b) (u.handlers t c d))

and_more : (x y z : Bool) → (x && not y) ≡ false → (x && (not y && z)) ≡ false
and_more true true z e = refl
and_more true false z e = absurd (both_ways true e refl)
and_more false y z e = refl

pub uncut_in : (low high : ℕ) (r : Region) → Uncut low high r → (k t : ℕ) → low ≤ k → k < high → low ≤ t → t < high → goes_in r k t ≡ false
uncut_in low high r u k t a b c d =
    goes_not_in r k t (same_and u.of_handler (in_handler r t) (in_handler r k) (u.handlers t c d) (u.handlers k a b))
    (and_more (in_try r t) (in_try r k) (not (t == r.try_from)) (same_and u.of_try (in_try r t) (in_try r k) (u.tries t c d) (u.tries k a b)))

-- ---- places at which a region may be entered

-- a place is not in the handler, and in the try only where that begins
pub record Enters (t : ℕ) (r : Region) : Type 0 where
  pub no_handler : in_handler r t ≡ false
  pub at_try : in_try r t ≡ true → t ≡ r.try_from

pub enters_in : (r : Region) (k t : ℕ) → Enters t r → goes_in r k t ≡ false
enters_in r k t e =
    goes_not_in r k t (and_left (in_handler r t) (not (in_handler r k)) e.no_handler)
    (decide (in_try r t)
    (λ x. and_right (in_try r t) (not (in_try r k) && not (t == r.try_from)) (and_right (not (in_try r k)) (not (t == r.try_from)) (not_from_true (t == r.try_from) (eq-eqb t r.try_from (e.at_try x)))))
    (λ x. and_left (in_try r t) (not (in_try r k) && not (t == r.try_from)) x))

pub enters_missed : (low high t : ℕ) (r : Region) → Misses low high r → low ≤ t → t < high → Enters t r
enters_missed low high t r m a b = record { no_handler = m.handlers t a b; at_try = λ e. absurd (both_ways (in_try r t) (m.tries t a b) e) }

-- the place at which a region's code begins
pub enters_first : (low high : ℕ) (r : Region) → Within low high r → Enters low r
enters_first low high r w = record {
  no_handler = outside_before r.handler_from r.handler_to low (omega (arith, w.from, w.parts.has_try, w.parts.is_behind));
  at_try = λ e. omega (arith, w.from, leb-true r.try_from low (and_parts _ _ e).0);
}

-- ---- what the code around a range may do

abbrev pub reaches : Around → ℕ → Bool
reaches a t = a.goes t || a.leaves t

-- no region is entered within by what may leave
pub record Passed (a : Around) (low high : ℕ) (r : Region) : Type 0 where
  pub uncut : Uncut low high r
  pub leaves : (k t : ℕ) → low ≤ k → k < high → reaches a t ≡ true → goes_in r k t ≡ false

pub passed_less : (a : Around) (low high c d : ℕ) → low ≤ c → d ≤ high → (r : Region) → Passed a low high r → Passed a c d r
passed_less a low high c d x y r p = record {
  uncut = uncut_less low high c d x y r p.uncut;
  leaves = λ k t l h e. p.leaves k t (omega (arith, x, l)) (omega (arith, y, h)) e;
}

-- the code of a range keeps to the region's edges
pub record Outer (a : Around) (low high : ℕ) (r : Region) : Type 0 where
  pub passed : Passed a low high r
  pub goes : (k t : ℕ) → low ≤ k → k < high → a.goes t ≡ true → goes_out r k t ≡ false
  pub returns : a.can_return ≡ true → (k : ℕ) → low ≤ k → k < high → in_region r k ≡ false

pub outer_less : (a : Around) (low high c d : ℕ) → low ≤ c → d ≤ high → (r : Region) → Outer a low high r → Outer a c d r
outer_less a low high c d x y r o = record {
  passed = passed_less a low high c d x y r o.passed;
  goes = λ k t l h e. o.goes k t (omega (arith, x, l)) (omega (arith, y, h)) e;
  returns = λ e k l h. o.returns e k (omega (arith, x, l)) (omega (arith, y, h));
}

-- the region is entered only where it may be
abbrev pub EntersWell : Around → Region → Type 0
EntersWell a r = (t : ℕ) → reaches a t ≡ true → Enters t r

pub passed_by_entering : (a : Around) (low high : ℕ) (r : Region) → Uncut low high r → EntersWell a r → Passed a low high r
passed_by_entering a low high r u w = record { uncut = u; leaves = λ k t l h e. enters_in r k t (w t e) }

-- a region beside the range
pub beside : (a : Around) (low high : ℕ) (r : Region) → Misses low high r → EntersWell a r → Outer a low high r
beside a low high r m w = record {
  passed = passed_by_entering a low high r (missed low high r m) w;
  goes = λ k t l h e. stays_out r k t (m.tries k l h) (m.handlers k l h);
  returns = λ e k l h. or_from (in_try r k) (in_handler r k) (m.tries k l h) (m.handlers k l h);
}

-- a try or a handler of which the range is the code: it goes to places of the range alone
pub outer_within : (goes : ℕ → Bool) (x y z : Bool) (a : Around) (low high : ℕ) → ((t : ℕ) → goes t ≡ true → (low ≤ t) × (t < high)) → (r : Region) → Passed a low high r → Outer (within goes x y z a) low high r
outer_within goes x y z a low high inside r p = record {
  passed = record { uncut = p.uncut; leaves = λ k t l h e. into k t l h (reached t e) };
  goes = λ k t l h e. uncut_out low high r p.uncut k t l h (inside t e).0 (inside t e).1;
  returns = λ e. absurd (both_ways false refl e);
}
  where
    into : (k t : ℕ) → low ≤ k → k < high → (goes t ≡ true) ⊎ (reaches a t ≡ true) → goes_in r k t ≡ false
    into k t l h (inl e) = uncut_in low high r p.uncut k t l h (inside t e).0 (inside t e).1
    into k t l h (inr e) = p.leaves k t l h e

    again : (t : ℕ) → (goes t ≡ true) ⊎ ((goes t || reaches a t) ≡ true) → (goes t ≡ true) ⊎ (reaches a t ≡ true)
    again t (inl e) = inl e
    again t (inr e) = or_cases (goes t) (reaches a t) e

    reached : (t : ℕ) → reaches (within goes x y z a) t ≡ true → (goes t ≡ true) ⊎ (reaches a t ≡ true)
    reached t e = again t (or_cases (goes t) (goes t || reaches a t) e)

pub enters_within : (goes : ℕ → Bool) (x y z : Bool) (a : Around) (r : Region) → ((t : ℕ) → goes t ≡ true → Enters t r) → EntersWell a r → EntersWell (within goes x y z a) r
enters_within goes x y z a r f w = λ t e. go t (or_cases (goes t) (goes t || reaches a t) e)
  where
    last : (t : ℕ) → (goes t ≡ true) ⊎ (reaches a t ≡ true) → Enters t r
    last t (inl e) = f t e
    last t (inr e) = w t e

    go : (t : ℕ) → (goes t ≡ true) ⊎ ((goes t || reaches a t) ≡ true) → Enters t r
    go t (inl e) = f t e
    go t (inr e) = last t (or_cases (goes t) (reaches a t) e)
