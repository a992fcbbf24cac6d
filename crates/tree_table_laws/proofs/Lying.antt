-- How two clauses lie to each other.
use Rattle.std.proofs.Common.{◌≡◌, ◌<◌, ◌≤◌, ℕ, true, false, not, ◌&&◌, ◌||◌, leb, eqb, arith}
use Rattle.std.proofs.lemmas.Bool.Decides.{nat_tests}
use Rattle.std.proofs.lemmas.Bool.{and_from, and_left, and_right, eq-eqb, le-leb, lt-leb, ne_eqb, not_from_false, not_from_true, or_from, or_left, or_right}
use Rattle.cil_model.specs.declared.body.Region.{Region}
use Rattle.region_tree.specs.Nesting.{are_apart, handlers_meet, have_same_try, is_misplaced, is_nested, lies_in, parts_meet, ranges_meet}
use Rattle.block_laws.specs.Blocks.{HasParts, LiesWhole}

-- ---- ranges

lies : (a b c d : ℕ) → c ≤ a → b ≤ d → lies_in a b c d ≡ true
lies a b c d x y = and_from (leb c a) (leb b d) (le-leb c a x) (le-leb b d y)

begins_before : (a b c d : ℕ) → a < c → lies_in a b c d ≡ false
begins_before a b c d x = and_left (leb c a) (leb b d) (lt-leb c a x)

ends_behind : (a b c d : ℕ) → d < b → lies_in a b c d ≡ false
ends_behind a b c d x = and_right (leb c a) (leb b d) (lt-leb b d x)

meets_not_before : (a b c d : ℕ) → b ≤ c → ranges_meet a b c d ≡ false
meets_not_before a b c d x = grind (arith, nat_tests)

meets_not_behind : (a b c d : ℕ) → d ≤ a → ranges_meet a b c d ≡ false
meets_not_behind a b c d x = grind (arith, nat_tests)

-- ---- two clauses, neither of which is nested in the other

try_outside : (r e : Region) → lies_in r.try_from r.try_to e.try_from e.try_to ≡ false → lies_in r.try_from r.try_to e.handler_from e.handler_to ≡ false → is_nested r e ≡ false
try_outside r e x y =
    or_from (lies_in r.try_from r.try_to e.try_from e.try_to && lies_in r.handler_from r.handler_to e.try_from e.try_to) (lies_in r.try_from r.try_to e.handler_from e.handler_to && lies_in r.handler_from r.handler_to e.handler_from e.handler_to)
    (and_left (lies_in r.try_from r.try_to e.try_from e.try_to) (lies_in r.handler_from r.handler_to e.try_from e.try_to) x)
    (and_left (lies_in r.try_from r.try_to e.handler_from e.handler_to) (lies_in r.handler_from r.handler_to e.handler_from e.handler_to) y)

handler_outside : (r e : Region) → lies_in r.handler_from r.handler_to e.try_from e.try_to ≡ false → lies_in r.handler_from r.handler_to e.handler_from e.handler_to ≡ false → is_nested r e ≡ false
handler_outside r e x y =
    or_from (lies_in r.try_from r.try_to e.try_from e.try_to && lies_in r.handler_from r.handler_to e.try_from e.try_to) (lies_in r.try_from r.try_to e.handler_from e.handler_to && lies_in r.handler_from r.handler_to e.handler_from e.handler_to)
    (and_right (lies_in r.try_from r.try_to e.try_from e.try_to) (lies_in r.handler_from r.handler_to e.try_from e.try_to) x)
    (and_right (lies_in r.try_from r.try_to e.handler_from e.handler_to) (lies_in r.handler_from r.handler_to e.handler_from e.handler_to) y)

within_try : (e r : Region) → r.try_from ≤ e.try_from → e.try_to ≤ r.try_to → r.try_from ≤ e.handler_from → e.handler_to ≤ r.try_to → is_nested e r ≡ true
within_try e r a b c d =
    or_left (lies_in e.try_from e.try_to r.try_from r.try_to && lies_in e.handler_from e.handler_to r.try_from r.try_to) (lies_in e.try_from e.try_to r.handler_from r.handler_to && lies_in e.handler_from e.handler_to r.handler_from r.handler_to)
    (and_from (lies_in e.try_from e.try_to r.try_from r.try_to) (lies_in e.handler_from e.handler_to r.try_from r.try_to) (lies e.try_from e.try_to r.try_from r.try_to a b) (lies e.handler_from e.handler_to r.try_from r.try_to c d))

within_handler : (e r : Region) → r.handler_from ≤ e.try_from → e.try_to ≤ r.handler_to → r.handler_from ≤ e.handler_from → e.handler_to ≤ r.handler_to → is_nested e r ≡ true
within_handler e r a b c d =
    or_right (lies_in e.try_from e.try_to r.try_from r.try_to && lies_in e.handler_from e.handler_to r.try_from r.try_to) (lies_in e.try_from e.try_to r.handler_from r.handler_to && lies_in e.handler_from e.handler_to r.handler_from r.handler_to)
    (and_from (lies_in e.try_from e.try_to r.handler_from r.handler_to) (lies_in e.handler_from e.handler_to r.handler_from r.handler_to) (lies e.try_from e.try_to r.handler_from r.handler_to a b) (lies e.handler_from e.handler_to r.handler_from r.handler_to c d))

no_parts_meet : (e r : Region) → ranges_meet e.try_from e.try_to r.try_from r.try_to ≡ false → ranges_meet e.try_from e.try_to r.handler_from r.handler_to ≡ false → ranges_meet e.handler_from e.handler_to r.try_from r.try_to ≡ false → handlers_meet e r ≡ false → are_apart e r ≡ true
no_parts_meet e r a b c d =
    or_left (not (parts_meet e r)) (have_same_try e r && not (handlers_meet e r)) (not_from_false (parts_meet e r)
    (or_from (ranges_meet e.try_from e.try_to r.try_from r.try_to || ranges_meet e.try_from e.try_to r.handler_from r.handler_to) (ranges_meet e.handler_from e.handler_to r.try_from r.try_to || handlers_meet e r)
    (or_from (ranges_meet e.try_from e.try_to r.try_from r.try_to) (ranges_meet e.try_from e.try_to r.handler_from r.handler_to) a b)
    (or_from (ranges_meet e.handler_from e.handler_to r.try_from r.try_to) (handlers_meet e r) c d)))

not_misplaced : (e r : Region) → is_nested r e ≡ false → (is_nested e r || are_apart e r) ≡ true → is_misplaced e r ≡ false
not_misplaced e r a b = or_from (is_nested r e) (not (is_nested e r || are_apart e r)) a (not_from_true (is_nested e r || are_apart e r) b)

-- ---- an earlier clause that lies whole in a part of a later one, or outside of both

pub is_placed : (e r : Region) → HasParts e → HasParts r → LiesWhole r e.try_from e.handler_to → is_misplaced e r ≡ false
is_placed e r ep rp (LiesWhole.before x) =
    not_misplaced e r
    (try_outside r e (ends_behind r.try_from r.try_to e.try_from e.try_to (omega (arith, x, ep.is_behind, ep.has_handler, rp.has_try))) (ends_behind r.try_from r.try_to e.handler_from e.handler_to (omega (arith, x, rp.has_try))))
    (or_right (is_nested e r) (are_apart e r) (no_parts_meet e r
    (meets_not_before e.try_from e.try_to r.try_from r.try_to (omega (arith, x, ep.is_behind, ep.has_handler)))
    (meets_not_before e.try_from e.try_to r.handler_from r.handler_to (omega (arith, x, ep.is_behind, ep.has_handler, rp.has_try, rp.is_behind)))
    (meets_not_before e.handler_from e.handler_to r.try_from r.try_to x)
    (meets_not_before e.handler_from e.handler_to r.handler_from r.handler_to (omega (arith, x, rp.has_try, rp.is_behind)))))
is_placed e r ep rp (LiesWhole.in_try x y) =
    not_misplaced e r
    (handler_outside r e (ends_behind r.handler_from r.handler_to e.try_from e.try_to (omega (arith, y, ep.is_behind, ep.has_handler, rp.is_behind, rp.has_handler))) (ends_behind r.handler_from r.handler_to e.handler_from e.handler_to (omega (arith, y, rp.is_behind, rp.has_handler))))
    (or_left (is_nested e r) (are_apart e r) (within_try e r x (omega (arith, y, ep.is_behind, ep.has_handler)) (omega (arith, x, ep.has_try, ep.is_behind)) y))
is_placed e r ep rp (LiesWhole.between x y) =
    not_misplaced e r
    (try_outside r e (begins_before r.try_from r.try_to e.try_from e.try_to (omega (arith, x, rp.has_try))) (begins_before r.try_from r.try_to e.handler_from e.handler_to (omega (arith, x, rp.has_try, ep.has_try, ep.is_behind))))
    (or_right (is_nested e r) (are_apart e r) (no_parts_meet e r
    (meets_not_behind e.try_from e.try_to r.try_from r.try_to x)
    (meets_not_before e.try_from e.try_to r.handler_from r.handler_to (omega (arith, y, ep.is_behind, ep.has_handler)))
    (meets_not_behind e.handler_from e.handler_to r.try_from r.try_to (omega (arith, x, ep.has_try, ep.is_behind)))
    (meets_not_before e.handler_from e.handler_to r.handler_from r.handler_to y)))
is_placed e r ep rp (LiesWhole.in_handler x y) =
    not_misplaced e r
    (try_outside r e (begins_before r.try_from r.try_to e.try_from e.try_to (omega (arith, x, rp.has_try, rp.is_behind))) (begins_before r.try_from r.try_to e.handler_from e.handler_to (omega (arith, x, rp.has_try, rp.is_behind, ep.has_try, ep.is_behind))))
    (or_left (is_nested e r) (are_apart e r) (within_handler e r x (omega (arith, y, ep.is_behind, ep.has_handler)) (omega (arith, x, ep.has_try, ep.is_behind)) y))
is_placed e r ep rp (LiesWhole.behind x) =
    not_misplaced e r
    (try_outside r e (begins_before r.try_from r.try_to e.try_from e.try_to (omega (arith, x, rp.has_try, rp.is_behind, rp.has_handler))) (begins_before r.try_from r.try_to e.handler_from e.handler_to (omega (arith, x, rp.has_try, rp.is_behind, rp.has_handler, ep.has_try, ep.is_behind))))
    (or_right (is_nested e r) (are_apart e r) (no_parts_meet e r
    (meets_not_behind e.try_from e.try_to r.try_from r.try_to (omega (arith, x, rp.is_behind, rp.has_handler)))
    (meets_not_behind e.try_from e.try_to r.handler_from r.handler_to x)
    (meets_not_behind e.handler_from e.handler_to r.try_from r.try_to (omega (arith, x, rp.is_behind, rp.has_handler, ep.has_try, ep.is_behind)))
    (meets_not_behind e.handler_from e.handler_to r.handler_from r.handler_to (omega (arith, x, ep.has_try, ep.is_behind)))))

begins_elsewhere : (e r : Region) → (e.try_from ≡ r.try_from → ⊥) → have_same_try e r ≡ false
begins_elsewhere e r x = and_left (eqb e.try_from r.try_from) (eqb e.try_to r.try_to) (ne_eqb e.try_from r.try_from x)

ends_elsewhere : (e r : Region) → (e.try_to ≡ r.try_to → ⊥) → have_same_try e r ≡ false
ends_elsewhere e r x = and_right (eqb e.try_from r.try_from) (eqb e.try_to r.try_to) (ne_eqb e.try_to r.try_to x)

pub has_other_try : (e r : Region) → HasParts e → HasParts r → LiesWhole r e.try_from e.handler_to → have_same_try e r ≡ false
has_other_try e r ep rp (LiesWhole.before x) = begins_elsewhere e r (λ s. omega (arith, s, x, ep.has_try, ep.is_behind, ep.has_handler))
has_other_try e r ep rp (LiesWhole.in_try x y) = ends_elsewhere e r (λ s. omega (arith, s, y, ep.is_behind, ep.has_handler))
has_other_try e r ep rp (LiesWhole.between x y) = begins_elsewhere e r (λ s. omega (arith, s, x, rp.has_try))
has_other_try e r ep rp (LiesWhole.in_handler x y) = begins_elsewhere e r (λ s. omega (arith, s, x, rp.has_try, rp.is_behind))
has_other_try e r ep rp (LiesWhole.behind x) = begins_elsewhere e r (λ s. omega (arith, s, x, rp.has_try, rp.is_behind, rp.has_handler))

-- ---- clauses of one try

pub is_one_try : (e r : Region) → e.try_from ≡ r.try_from → e.try_to ≡ r.try_to → have_same_try e r ≡ true
is_one_try e r x y = and_from (eqb e.try_from r.try_from) (eqb e.try_to r.try_to) (eq-eqb e.try_from r.try_from x) (eq-eqb e.try_to r.try_to y)

pub siblings_nest_not : (e r : Region) → HasParts e → HasParts r → e.try_from ≡ r.try_from → e.try_to ≡ r.try_to → is_nested r e ≡ false
siblings_nest_not e r ep rp x y =
    or_from (lies_in r.try_from r.try_to e.try_from e.try_to && lies_in r.handler_from r.handler_to e.try_from e.try_to) (lies_in r.try_from r.try_to e.handler_from e.handler_to && lies_in r.handler_from r.handler_to e.handler_from e.handler_to)
    (and_right (lies_in r.try_from r.try_to e.try_from e.try_to) (lies_in r.handler_from r.handler_to e.try_from e.try_to) (ends_behind r.handler_from r.handler_to e.try_from e.try_to (omega (arith, y, rp.is_behind, rp.has_handler))))
    (and_left (lies_in r.try_from r.try_to e.handler_from e.handler_to) (lies_in r.handler_from r.handler_to e.handler_from e.handler_to) (begins_before r.try_from r.try_to e.handler_from e.handler_to (omega (arith, x, y, rp.has_try, ep.is_behind))))

pub siblings_are_placed : (e r : Region) → HasParts e → HasParts r → e.try_from ≡ r.try_from → e.try_to ≡ r.try_to → e.handler_to ≤ r.handler_from → is_misplaced e r ≡ false
siblings_are_placed e r ep rp x y z =
    not_misplaced e r (siblings_nest_not e r ep rp x y)
    (or_right (is_nested e r) (are_apart e r) (or_right (not (parts_meet e r)) (have_same_try e r && not (handlers_meet e r)) (and_from (have_same_try e r) (not (handlers_meet e r)) (is_one_try e r x y) (not_from_false (handlers_meet e r) (meets_not_before e.handler_from e.handler_to r.handler_from r.handler_to z)))))

-- ---- clauses that lie behind one another

pub apart_nest_not : (e r : Region) → HasParts e → HasParts r → e.handler_to ≤ r.try_from → is_nested e r ≡ false
apart_nest_not e r ep rp x =
    try_outside e r (begins_before e.try_from e.try_to r.try_from r.try_to (omega (arith, x, ep.has_try, ep.is_behind, ep.has_handler))) (begins_before e.try_from e.try_to r.handler_from r.handler_to (omega (arith, x, ep.has_try, ep.is_behind, ep.has_handler, rp.has_try, rp.is_behind)))
