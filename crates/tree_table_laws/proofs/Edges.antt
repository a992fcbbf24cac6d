-- What the tests of X3 and X4 say of a region and of two places.
use Rattle.std.proofs.Common.{◌≡◌, ◌<◌, ◌≤◌, ℕ, Bool, true, false, not, ◌&&◌, ◌||◌, leb, ltb, List, [], ◌∷◌, ◌++◌, refl, ◌∙◌}
use Rattle.std.specs.Prelude.{◌==◌}
use Rattle.std.specs.List.{list_any}
use Rattle.std.proofs.lemmas.Bool.{and_from, and_left, and_right, le-leb, le-ltb, lt-leb, lt-ltb, not-false, not_from_true, or_from, or_left, or_parts, or_right}
use Rattle.std.proofs.lemmas.List.Folds.{list_any-append}
use Rattle.cil_model.specs.declared.body.Instr.{Instr}
use Rattle.cil_model.specs.declared.body.Region.{Region}
use Rattle.cil_semantics.specs.Unwind.{holds_place, in_try}
use Rattle.il_opcodes.specs.Opcodes.{class_of}
use Rattle.il_flow.specs.Successors.{successors}
use Rattle.region_tree.specs.Rules.{crosses, goes_in, goes_out, in_handler, in_region, is_endfinally, is_leave, is_out_of_place, is_ret, is_rethrow, may_end, may_leave, may_rethrow}
use Rattle.tree_table_laws.proofs.Lists.{Each, none_any}

-- ---- places

pub outside_before : (a b q : ℕ) → q < a → holds_place a b q ≡ false
outside_before a b q h = and_left (leb a q) (ltb q b) (lt-leb a q h)

pub outside_behind : (a b q : ℕ) → b ≤ q → holds_place a b q ≡ false
outside_behind a b q h = and_right (leb a q) (ltb q b) (le-ltb q b h)

pub holds : (a b q : ℕ) → a ≤ q → q < b → holds_place a b q ≡ true
holds a b q h k = and_from (leb a q) (ltb q b) (le-leb a q h) (lt-ltb q b k)

-- ---- edges

pub goes_not_out : (r : Region) (k t : ℕ) → (in_try r k && not (in_try r t)) ≡ false → (in_handler r k && not (in_handler r t)) ≡ false → goes_out r k t ≡ false
goes_not_out r k t a b = or_from (in_try r k && not (in_try r t)) (in_handler r k && not (in_handler r t)) a b

pub goes_not_in : (r : Region) (k t : ℕ) → (in_handler r t && not (in_handler r k)) ≡ false → (in_try r t && (not (in_try r k) && not (t == r.try_from))) ≡ false → goes_in r k t ≡ false
goes_not_in r k t a b = or_from (in_handler r t && not (in_handler r k)) (in_try r t && (not (in_try r k) && not (t == r.try_from))) a b

pub crosses_not : (b : Bool) (r : Region) (k t : ℕ) → goes_out r k t ≡ false → goes_in r k t ≡ false → crosses b r k t ≡ false
crosses_not b r k t x y = or_from (not b && goes_out r k t) (goes_in r k t) (and_right (not b) (goes_out r k t) x) y

-- from a place outside of a region to another one
pub passes_by : (r : Region) (k t : ℕ) → in_try r t ≡ false → in_handler r t ≡ false → goes_in r k t ≡ false
passes_by r k t a b = goes_not_in r k t (and_left (in_handler r t) (not (in_handler r k)) b) (and_left (in_try r t) (not (in_try r k) && not (t == r.try_from)) a)

pub stays_out : (r : Region) (k t : ℕ) → in_try r k ≡ false → in_handler r k ≡ false → goes_out r k t ≡ false
stays_out r k t a b = goes_not_out r k t (and_left (in_try r k) (not (in_try r t)) a) (and_left (in_handler r k) (not (in_handler r t)) b)

-- the test of X3 at one region
abbrev pub wrong : ℕ → Instr → Region → Bool
wrong k i r = (is_ret (class_of i.op) && in_region r k) || list_any (crosses (is_leave (class_of i.op)) r k) (successors k i)

pub right : (k : ℕ) (i : Instr) (r : Region) → (is_ret (class_of i.op) && in_region r k) ≡ false → Each (λ t. crosses (is_leave (class_of i.op)) r k t ≡ false) (successors k i) → wrong k i r ≡ false
right k i r a b = or_from (is_ret (class_of i.op) && in_region r k) (list_any (crosses (is_leave (class_of i.op)) r k) (successors k i)) a (none_any (crosses (is_leave (class_of i.op)) r k) (successors k i) b)

pub both : (p : Region → Bool) (xs ys : List Region) → list_any p xs ≡ false → list_any p ys ≡ false → list_any p (xs ++ ys) ≡ false
both p xs ys a b = list_any-append p xs ys ∙ or_from (list_any p xs) (list_any p ys) a b

pub one : (p : Region → Bool) (r : Region) → p r ≡ false → list_any p (r ∷ []) ≡ false
one p r e = or_from (p r) false e refl

-- ---- ends

pub weaker : (a x y : Bool) → (x ≡ true → y ≡ true) → (a && not x) ≡ false → (a && not y) ≡ false
weaker true x y f e = not_from_true y (f (not-false x e))
weaker false x y f e = refl

pub out_weaker : (xs ys : List Region) (k : ℕ) (i : Instr) → ((p : Region → Bool) → list_any p xs ≡ true → list_any p ys ≡ true) → is_out_of_place xs k i ≡ false → is_out_of_place ys k i ≡ false
out_weaker xs ys k i f e =
    let l : Bool = is_leave (class_of i.op) in
    let n : Bool = is_endfinally (class_of i.op) in
    let w : Bool = is_rethrow (class_of i.op) in
    let a = or_parts (l && not (list_any (λ r. may_leave r k) xs)) ((n && not (list_any (λ r. may_end r k) xs)) || (w && not (list_any (λ r. may_rethrow r k) xs))) e in
    let b = or_parts (n && not (list_any (λ r. may_end r k) xs)) (w && not (list_any (λ r. may_rethrow r k) xs)) a.1 in
    or_from (l && not (list_any (λ r. may_leave r k) ys)) ((n && not (list_any (λ r. may_end r k) ys)) || (w && not (list_any (λ r. may_rethrow r k) ys)))
    (weaker l (list_any (λ r. may_leave r k) xs) (list_any (λ r. may_leave r k) ys) (f (λ r. may_leave r k)) a.0)
    (or_from (n && not (list_any (λ r. may_end r k) ys)) (w && not (list_any (λ r. may_rethrow r k) ys))
    (weaker n (list_any (λ r. may_end r k) xs) (list_any (λ r. may_end r k) ys) (f (λ r. may_end r k)) b.0)
    (weaker w (list_any (λ r. may_rethrow r k) xs) (list_any (λ r. may_rethrow r k) ys) (f (λ r. may_rethrow r k)) b.1))

pub in_first : (xs ys : List Region) (p : Region → Bool) → list_any p xs ≡ true → list_any p (xs ++ ys) ≡ true
in_first xs ys p e = list_any-append p xs ys ∙ or_left (list_any p xs) (list_any p ys) e

pub in_second : (xs ys : List Region) (p : Region → Bool) → list_any p ys ≡ true → list_any p (xs ++ ys) ≡ true
in_second xs ys p e = list_any-append p xs ys ∙ or_right (list_any p xs) (list_any p ys) e
