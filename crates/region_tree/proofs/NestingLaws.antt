-- How deep the regions of a table lie.
use Rattle.std.proofs.Common.{◌≡◌, ℕ, ◌+◌, ◌-◌, ◌≤◌, ◌<◌, Bool, true, false, cond, List, [], ◌∷◌, length, drop, get_or, suc, refl, sym, ap, ◌∙◌, ◌++◌, append-nil, length-drop, arith}
use Rattle.std.specs.Prelude.{max}
use Rattle.std.specs.List.{slice_range}
use Rattle.std.proofs.Math.Seq.{drop-length}
use Rattle.std.proofs.lemmas.List.{at_drop_more}
use Rattle.std.proofs.lemmas.List.Folds.{drop_split}
use Rattle.cil_model.specs.declared.body.Region.{Region}
use Rattle.region_tree.specs.Nesting.{is_nested, deepest_around, depths_of}

-- no region lies deeper than there are regions behind it
pub deepest_within : (r : Region) (rs : List Region) → deepest_around r rs (depths_of rs) ≤ length rs
deepest_within r [] = omega arith
deepest_within r (s ∷ ss) = go (is_nested r s) (deepest_within r ss) (deepest_within s ss)
  where
    go : (b : Bool) → deepest_around r ss (depths_of ss) ≤ length ss → deepest_around s ss (depths_of ss) ≤ length ss → cond b (max (deepest_around s ss (depths_of ss) + 1) (deepest_around r ss (depths_of ss))) (deepest_around r ss (depths_of ss)) ≤ length (s ∷ ss)
    go true x y = omega arith
    go false x y = omega arith

pub length_depths : (rs : List Region) → length (depths_of rs) ≡ length rs
length_depths [] = refl
length_depths (r ∷ rs) = ap suc (length_depths rs)

-- the first of the regions that are left, and the others
pub deepest_more : (r : Region) (rs : List Region) (ds : List ℕ) (k : ℕ) (d : Region) → k < length rs → k < length ds → deepest_around r (drop k rs) (drop k ds) ≡ cond (is_nested r (get_or rs k d)) (max (get_or ds k 0) (deepest_around r (drop (k + 1) rs) (drop (k + 1) ds))) (deepest_around r (drop (k + 1) rs) (drop (k + 1) ds))
deepest_more r rs ds k d x y =
    at_drop_more (λ l. deepest_around r l (drop k ds)) rs k d x ∙ at_drop_more (λ l. deepest_around r (get_or rs k d ∷ drop (k + 1) rs) l) ds k 0 y

-- one more region in which it is nested, or not
pub deepest_with : (r : Region) (rs : List Region) (ds : List ℕ) (k : ℕ) (d : Region) (b : Bool) (best new m : ℕ) → k < length rs → k < length ds → b ≡ is_nested r (get_or rs k d) → b ≡ true → new ≡ max (get_or ds k 0) best → max best (deepest_around r (drop k rs) (drop k ds)) ≡ m → max new (deepest_around r (drop (k + 1) rs) (drop (k + 1) ds)) ≡ m
deepest_with r rs ds k d b best new m x y e t n inv =
    let more : deepest_around r (drop k rs) (drop k ds) ≡ max (get_or ds k 0) (deepest_around r (drop (k + 1) rs) (drop (k + 1) ds))
    = deepest_more r rs ds k d x y ∙ ap (λ (c : Bool). cond c (max (get_or ds k 0) (deepest_around r (drop (k + 1) rs) (drop (k + 1) ds))) (deepest_around r (drop (k + 1) rs) (drop (k + 1) ds))) (sym e ∙ t) in
    omega (arith, n, inv, more)

pub deepest_without : (r : Region) (rs : List Region) (ds : List ℕ) (k : ℕ) (d : Region) (b : Bool) (best new m : ℕ) → k < length rs → k < length ds → b ≡ is_nested r (get_or rs k d) → b ≡ false → new ≡ best → max best (deepest_around r (drop k rs) (drop k ds)) ≡ m → max new (deepest_around r (drop (k + 1) rs) (drop (k + 1) ds)) ≡ m
deepest_without r rs ds k d b best new m x y e t n inv =
    let more : deepest_around r (drop k rs) (drop k ds) ≡ deepest_around r (drop (k + 1) rs) (drop (k + 1) ds)
    = deepest_more r rs ds k d x y ∙ ap (λ (c : Bool). cond c (max (get_or ds k 0) (deepest_around r (drop (k + 1) rs) (drop (k + 1) ds))) (deepest_around r (drop (k + 1) rs) (drop (k + 1) ds))) (sym e ∙ t) in
    omega (arith, n, inv, more)

-- what is left of a list from a place on
rest : {X : Type 0} (xs : List X) (at : ℕ) → at ≤ length xs → slice_range xs at (length xs) ≡ drop at xs
rest xs at h = sym (drop_split xs at (length xs) h ∙ ap (λ l. slice_range xs at (length xs) ++ l) (drop-length xs) ∙ append-nil (slice_range xs at (length xs)))

pub rest_within : (rs : List Region) (ds : List ℕ) (at x : ℕ) → length ds ≡ length rs → at ≤ length rs → drop at ds ≡ depths_of (drop at rs) → (slice_range ds at (length ds) ≡ depths_of (slice_range rs at (length rs)) → x ≤ length (slice_range rs at (length rs))) → x ≤ length rs - at
rest_within rs ds at x size below e within =
    let same : slice_range ds at (length ds) ≡ depths_of (slice_range rs at (length rs)) = rest ds at (omega arith) ∙ e ∙ ap depths_of (sym (rest rs at below)) in
    omega (arith, within same, ap length (rest rs at below), length-drop at rs)

pub within_all : (r : Region) (rs : List Region) (ds : List ℕ) (x y : ℕ) → max x y ≡ deepest_around r rs ds → ds ≡ depths_of rs → x ≤ length rs
within_all r rs ds x y h e =
    let within = deepest_within r rs in
    let same : max x y ≡ deepest_around r rs (depths_of rs) = h ∙ ap (λ (l : List ℕ). deepest_around r rs l) e in
    omega arith
