-- Lists of bodies out of which one is taken.
use Rattle.std.proofs.Common.{◌≡◌, ◌∙◌, sym, ap, refl, arith, rules, ℕ, zero, suc, ◌≤◌, ◌<◌, List, [], ◌∷◌, length, get_or, Bool, true, false}
use Rattle.std.specs.Prelude.{◌==◌, set, Option, Some}
use Rattle.std.proofs.lemmas.List.{get_or-set_same, get_or-set_other}
use Rattle.cil_model.specs.declared.body.Body.{Body}
use Rattle.set_program.specs.Numbering.{Cell}
use Rattle.program_bodies.specs.Filled.{body_of_cell, body_of_row}
use Rattle.program_bodies.proofs.FilledLaws.{Bodies}

pub nothing_past : {A : Type 0} (xs : List A) (k : ℕ) (d : A) → length xs ≤ k → get_or xs k d ≡ d
nothing_past [] zero d h = refl
nothing_past [] (suc k) d h = refl
nothing_past (x ∷ xs) zero d h = absurd (omega (arith, h))
nothing_past (x ∷ xs) (suc k) d h = let low : length xs ≤ k = omega (arith, h) in nothing_past xs k d low

abbrev pub no_bodies : List (Option Body)
no_bodies = []

-- ---- all but one row of one assembly

pub cell_kept : (bs : Bodies) (a row : ℕ) (l : List (Option Body)) → a < length bs → ((r : ℕ) → (r ≡ row → ⊥) → body_of_row l r ≡ body_of_row (get_or bs a []) r)
    → (c : Cell) → (c ≡ (a, row) → ⊥) → body_of_cell (set bs a l) (Some c) ≡ body_of_cell bs (Some c)
cell_kept bs a row l there others (b, r) h = go (b == a) refl
  where
    go : (t : Bool) → (b == a) ≡ t → body_of_row (get_or (set bs a l) b []) r ≡ body_of_row (get_or bs b []) r
    go true e =
        let same : b ≡ a = search (rules, e) in
        let differ : r ≡ row → ⊥ = λ f. h (ap (λ (n : ℕ). (n, r)) same ∙ ap (λ (n : ℕ). (a, n)) f) in
        ap (λ (n : ℕ). body_of_row (get_or (set bs a l) n []) r) same
        ∙ ap (λ (k : List (Option Body)). body_of_row k r) (get_or-set_same bs a l [] there)
        ∙ others r differ
        ∙ ap (λ (n : ℕ). body_of_row (get_or bs n []) r) (sym same)
    go false e =
        let differ : b ≡ a → ⊥ = λ f. isnt b a e f in
        ap (λ (k : List (Option Body)). body_of_row k r) (get_or-set_other bs a b l [] differ)
      where
        isnt : (p q : ℕ) → (p == q) ≡ false → p ≡ q → ⊥
        isnt p q e f = search (rules, e, f)
