-- Methods that get the bodies of their rows one after another.
use Rattle.std.proofs.Common.{◌≡◌, ◌∙◌, sym, ap, refl, subst, arith, ℕ, zero, suc, ◌+◌, ◌<◌, List, [], ◌∷◌, ◌++◌, length, take, drop}
use Rattle.std.specs.Prelude.{map, slice_get, option_and_then, Option, Some, None}
use Rattle.cil_model.specs.declared.body.Body.{Body}
use Rattle.cil_model.specs.declared.program.MethodDesc.{MethodDesc}
use Rattle.cil_model.specs.MethodLists.{with_body_at}
use Rattle.set_program.specs.Numbering.{Cell}
use Rattle.program_bodies.specs.Filled.{Apart, IsMissing, EachOnce, body_of_cell, filled, given, given_at, row_of}

abbrev pub Bodies : Type 0
Bodies = List (List (Option Body))

abbrev pub rows : List MethodDesc → List (Option Cell)
rows ds = map row_of ds

abbrev pub row_at : List MethodDesc → ℕ → Option Cell
row_at ds m = option_and_then row_of (slice_get ds m)

-- All but the body of one row are there still.
abbrev pub KeepsOthers : Bodies → Bodies → Option Cell → Type 0
KeepsOthers bs bs' taken = (c : Cell) → (Some c ≡ taken → ⊥) → body_of_cell bs' (Some c) ≡ body_of_cell bs (Some c)

body_kept : (bs bs' : Bodies) (c d : Option Cell) → Apart c d → KeepsOthers bs bs' c → body_of_cell bs' d ≡ body_of_cell bs d
body_kept bs bs' c None h others = refl
body_kept bs bs' None (Some d) h others = others d (λ e. absurd cc)
body_kept bs bs' (Some c) (Some d) h others = others d h

rest_kept : (bs bs' : Bodies) (c : Option Cell) (ds : List MethodDesc) → IsMissing c (rows ds) → KeepsOthers bs bs' c → filled bs' ds ≡ filled bs ds
rest_kept bs bs' c [] h others = refl
rest_kept bs bs' c (d ∷ ds) h others =
    ap (λ (o : Option Body). given d o ∷ filled bs' ds) (body_kept bs bs' c (row_of d) h.0 others)
    ∙ ap (λ (l : List MethodDesc). given d (body_of_cell bs (row_of d)) ∷ l) (rest_kept bs bs' c ds h.1 others)

given_first : (d : MethodDesc) (ds : List MethodDesc) (o : Option Body) → given_at (d ∷ ds) zero o ≡ given d o ∷ ds
given_first d ds None = refl
given_first d ds (Some body) = refl

given_next : (d : MethodDesc) (ds : List MethodDesc) (m : ℕ) (o : Option Body) → given_at (d ∷ ds) (suc m) o ≡ d ∷ given_at ds m o
given_next d ds m None = refl
given_next d ds m (Some body) = refl

pub given_count : (ds : List MethodDesc) (m : ℕ) (o : Option Body) → length (given_at ds m o) ≡ length ds
given_count ds m None = refl
given_count ds m (Some body) = go ds m
  where
    go : (l : List MethodDesc) (k : ℕ) → length (with_body_at l k body) ≡ length l
    go [] k = refl
    go (d ∷ l) zero = refl
    go (d ∷ l) (suc k) = ap suc (go l k)

-- the methods so far, and what is left
pub record SoFar (bs0 : Bodies) (ds0 : List MethodDesc) (bs : Bodies) (ds : List MethodDesc) (m : ℕ) : Type 0 where
  pub so_far : take m ds ++ filled bs (drop m ds) ≡ filled bs0 ds0
  pub once : EachOnce (rows (drop m ds))

abbrev pub Step : Bodies → List MethodDesc → Bodies → List MethodDesc → ℕ → Type 0
Step bs ds bs' ds' m = (take (suc m) ds' ++ filled bs' (drop (suc m) ds') ≡ take m ds ++ filled bs (drop m ds)) × EachOnce (rows (drop (suc m) ds'))

step_with : (bs bs' : Bodies) (m : ℕ) (ds : List MethodDesc) → m < length ds → KeepsOthers bs bs' (row_at ds m) → EachOnce (rows (drop m ds)) → Step bs ds bs' (given_at ds m (body_of_cell bs (row_at ds m))) m
step_with bs bs' m [] h others once = absurd (omega (arith, h))
step_with bs bs' zero (d ∷ ds) h others once =
    subst (λ (l : List MethodDesc). Step bs (d ∷ ds) bs' l zero) (sym (given_first d ds (body_of_cell bs (row_of d))))
    (ap (λ (l : List MethodDesc). given d (body_of_cell bs (row_of d)) ∷ l) (rest_kept bs bs' (row_of d) ds once.0 others), once.1)
step_with bs bs' (suc m) (d ∷ ds) h others once =
    let below : m < length ds = omega (arith, h) in
    let later : Step bs ds bs' (given_at ds m (body_of_cell bs (row_at ds m))) m = step_with bs bs' m ds below others once in
    subst (λ (l : List MethodDesc). Step bs (d ∷ ds) bs' l (suc m)) (sym (given_next d ds m (body_of_cell bs (row_at ds m))))
    (ap (λ (l : List MethodDesc). d ∷ l) later.0, later.1)

pub one_more : (bs0 bs bs' : Bodies) (ds0 ds ds' : List MethodDesc) (m : ℕ) (c : Option Cell) (o : Option Body) → m < length ds → c ≡ row_at ds m → o ≡ body_of_cell bs c → ds' ≡ given_at ds m o
    → KeepsOthers bs bs' c → SoFar bs0 ds0 bs ds m → SoFar bs0 ds0 bs' ds' (m + 1)
one_more bs0 bs bs' ds0 ds ds' m c o h at body is others so_far =
    let next : suc m ≡ m + 1 = omega arith in
    let full : ds' ≡ given_at ds m (body_of_cell bs (row_at ds m)) = is ∙ ap (given_at ds m) (body ∙ ap (body_of_cell bs) at) in
    let step : Step bs ds bs' ds' m = subst (λ (l : List MethodDesc). Step bs ds bs' l m) (sym full) (step_with bs bs' m ds h (subst (KeepsOthers bs bs') at others) so_far.once) in
    subst (SoFar bs0 ds0 bs' ds') next (record { so_far = step.0 ∙ so_far.so_far; once = step.1 })

pub none_yet : (bs : Bodies) (ds : List MethodDesc) → EachOnce (rows ds) → SoFar bs ds bs ds 0
none_yet bs ds once = record { so_far = refl; once = once }

whole : (bs : Bodies) (ds : List MethodDesc) → take (length ds) ds ++ filled bs (drop (length ds) ds) ≡ ds
whole bs [] = refl
whole bs (d ∷ ds) = ap (λ (l : List MethodDesc). d ∷ l) (whole bs ds)

pub all_given : (bs0 bs : Bodies) (ds0 ds : List MethodDesc) (m : ℕ) → m ≡ length ds → SoFar bs0 ds0 bs ds m → ds ≡ filled bs0 ds0
all_given bs0 bs ds0 ds m e so_far = sym (ap (λ (k : ℕ). take k ds ++ filled bs (drop k ds)) e ∙ whole bs ds) ∙ so_far.so_far
