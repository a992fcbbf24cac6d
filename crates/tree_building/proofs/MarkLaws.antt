-- Ranges in which no place is marked.
use Rattle.std.proofs.Common.{◌≡◌, ◌≢◌, ◌+◌, ◌≤◌, ◌<◌, ◌||◌, ℕ, Bool, true, false, List, [], ◌∷◌, All, length, get_or, refl, sym, ap, ◌∙◌, inl, inr, ◌⊎◌, arith, eqb, leb}
use Rattle.std.specs.List.{list_any}
use Rattle.std.proofs.lemmas.Bool.{eqb-false, eqb-true, leb-false, leb-true}
use Rattle.std.proofs.lemmas.List.Elements.{All-cons, All-nil}
use Rattle.cil_base.proofs.Small.{or_neither}
use Rattle.cil_model.specs.declared.body.Region.{Region}
use Rattle.block_laws.specs.Blocks.{CutsNothing, IsOutside}
use Rattle.region_tree.specs.Marks.{AreMarks, has_edge}
use Rattle.region_tree.proofs.MarkLaws.{IsNoEdge, no_edge}
use Rattle.tree_building.specs.Marks.{NoneWithin}

-- a place that is none of those within a range
outside : (p from to : ℕ) → ((q : ℕ) → from < q → q < to → p ≢ q) → IsOutside p from to
outside p from to none = go (leb p from) refl (leb to p) refl
  where
    go : (a : Bool) → leb p from ≡ a → (b : Bool) → leb to p ≡ b → IsOutside p from to
    go true e b f = inl (leb-true p from e)
    go false e true f = inr (leb-true to p f)
    go false e false f = absurd (none p (leb-false p from e) (leb-false to p f) refl)

cuts : (from to : ℕ) (rs : List Region) → ((q : ℕ) → from < q → q < to → list_any (has_edge q) rs ≡ false) → All (λ (r : Region). CutsNothing r from to) rs
cuts from to [] none = All-nil (λ (r : Region). CutsNothing r from to)
cuts from to (r ∷ rs) none =
    let here : (q : ℕ) → from < q → q < to → IsNoEdge q r = λ q x y. no_edge q r (or_neither (has_edge q r) (list_any (has_edge q) rs) (none q x y)).0 in
    All-cons (λ (s : Region). CutsNothing s from to) r rs
    (record {
      try_from = outside r.try_from from to (λ q x y. (here q x y).try_from);
      try_to = outside r.try_to from to (λ q x y. (here q x y).try_to);
      handler_from = outside r.handler_from from to (λ q x y. (here q x y).handler_from);
      handler_to = outside r.handler_to from to (λ q x y. (here q x y).handler_to);
    })
    (cuts from to rs (λ q x y. (or_neither (has_edge q r) (list_any (has_edge q) rs) (none q x y)).1))

pub cuts_nothing : (marks : List Bool) (from to count : ℕ) (rs : List Region) → to ≤ length marks → NoneWithin marks from to → AreMarks rs count marks → All (λ (r : Region). CutsNothing r from to) rs
cuts_nothing marks from to count rs h none are = cuts from to rs (λ q x y. sym (are.each q (omega (arith, y, h, are.size))) ∙ none q x y)

pub none_more : (marks : List Bool) (from to : ℕ) → get_or marks to false ≡ false → NoneWithin marks from to → NoneWithin marks from (to + 1)
none_more marks from to e none q x y = go (eqb q to) refl
  where
    go : (b : Bool) → eqb q to ≡ b → get_or marks q false ≡ false
    go true s = ap (λ (k : ℕ). get_or marks k false) (eqb-true q to s) ∙ e
    go false s = none q x (omega (arith, y, eqb-false q to s))

pub none_first : (marks : List Bool) (from : ℕ) → NoneWithin marks from (from + 1)
none_first marks from q x y = absurd (omega (arith, x, y))
