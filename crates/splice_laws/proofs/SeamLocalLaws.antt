-- The locals behind the captured values, which seams use.
use Rattle.std.proofs.Common.{◌≡◌, ◌≢◌, ℕ, zero, suc, ◌+◌, List, [], ◌∷◌, ◌++◌, length, Option, Some, None, refl, sym, ap, ◌∙◌, arith}
use Rattle.std.specs.Prelude.{slice_get, slice_set, option_map, map}
use Rattle.std.proofs.lemmas.Option.{slice_get-map}
use Rattle.cil_model.specs.declared.ty.Ty.{Ty}
use Rattle.cil_semantics.specs.declared.state.Cell.{Cell}
use Rattle.cil_semantics.specs.declared.state.Local.{Local as LocalState}
use Rattle.cil_semantics.specs.Tokens.{Here}
use Rattle.splice_facts.specs.Layout.{Marks, Keeps}

module _ {X : Type 0} where
  pub get_right : (xs zs : List X) (i : ℕ) → slice_get (xs ++ zs) (length xs + i) ≡ slice_get zs i
  get_right [] zs i = ap (slice_get zs) (same i)
    where
      same : (j : ℕ) → 0 + j ≡ j
      same j = omega arith
  get_right (x ∷ xs) zs i = ap (slice_get (x ∷ (xs ++ zs))) (same (length xs) i) ∙ get_right xs zs i
    where
      same : (a b : ℕ) → suc a + b ≡ suc (a + b)
      same a b = omega arith

  pub set_right : (xs zs : List X) (i : ℕ) (c : X) → slice_set (xs ++ zs) (length xs + i) c ≡ xs ++ slice_set zs i c
  set_right [] zs i c = ap (λ j. slice_set zs j c) (same i)
    where
      same : (j : ℕ) → 0 + j ≡ j
      same j = omega arith
  set_right (x ∷ xs) zs i c = ap (λ j. slice_set (x ∷ (xs ++ zs)) j c) (same (length xs) i) ∙ ap (λ ys. x ∷ ys) (set_right xs zs i c)
    where
      same : (a b : ℕ) → suc a + b ≡ suc (a + b)
      same a b = omega arith

  pub get_set_same : (xs : List X) (i : ℕ) (c0 c : X) → slice_get xs i ≡ Some c0 → slice_get (slice_set xs i c) i ≡ Some c
  get_set_same [] i c0 c e = absurd (cc e)
  get_set_same (x ∷ xs) zero c0 c e = refl
  get_set_same (x ∷ xs) (suc i) c0 c e = get_set_same xs i c0 c e

  pub get_set_other : (xs : List X) (i j : ℕ) (c : X) → i ≢ j → slice_get (slice_set xs i c) j ≡ slice_get xs j
  get_set_other [] i j c d = refl
  get_set_other (x ∷ xs) zero zero c d = absurd (d refl)
  get_set_other (x ∷ xs) zero (suc j) c d = refl
  get_set_other (x ∷ xs) (suc i) zero c d = refl
  get_set_other (x ∷ xs) (suc i) (suc j) c d = get_set_other xs i j c (λ e. d (ap suc e))

  pub map_set : {Y : Type 0} (f : X → Y) (xs : List X) (i : ℕ) (c0 c : X) → slice_get xs i ≡ Some c0 → f c ≡ f c0 → map f (slice_set xs i c) ≡ map f xs
  map_set f [] i c0 c e h = refl
  map_set f (x ∷ xs) zero c0 c e h = let z : x ≡ c0 = cc e in ap (λ y. y ∷ map f xs) (h ∙ ap f (sym z))
  map_set f (x ∷ xs) (suc i) c0 c e h = ap (λ ys. f x ∷ ys) (map_set f xs i c0 c e h)

-- the local behind the captured values of a number
module _ (a b : ℕ) where
  two : (n m i : ℕ) → n ≡ a → m ≡ b → a + b + i ≡ n + (m + i)
  two n m i x y = omega (arith, x, y)

  pub extra_at : (xs ys ex : List Cell) (i : ℕ) → length xs ≡ a → length ys ≡ b → slice_get (xs ++ (ys ++ ex)) (a + b + i) ≡ slice_get ex i
  extra_at xs ys ex i h1 h2 = ap (slice_get (xs ++ (ys ++ ex))) (two (length xs) (length ys) i h1 h2) ∙ get_right xs (ys ++ ex) (length ys + i) ∙ get_right ys ex i

  pub extra_set : (xs ys ex : List Cell) (i : ℕ) (c : Cell) → length xs ≡ a → length ys ≡ b → slice_set (xs ++ (ys ++ ex)) (a + b + i) c ≡ xs ++ (ys ++ slice_set ex i c)
  extra_set xs ys ex i c h1 h2 =
      ap (λ j. slice_set (xs ++ (ys ++ ex)) j c) (two (length xs) (length ys) i h1 h2) ∙ set_right xs (ys ++ ex) (length ys + i) c ∙ ap (λ zs. xs ++ zs) (set_right ys ex i c)

-- the cell of a type at a place
pub record CellOf (ex : List Cell) (i : ℕ) (t : Ty) : Type 0 where
  pub cell : Cell
  pub there : slice_get ex i ≡ Some cell
  pub ty : cell.ty ≡ t

pub cell_of : (ex : List Cell) (ts : List Ty) (i : ℕ) (t : Ty) → map (λ (c : Cell). c.ty) ex ≡ ts → slice_get ts i ≡ Some t → CellOf ex i t
cell_of ex ts i t e h = by_cell (slice_get ex i) refl (sym (slice_get-map (λ (c : Cell). c.ty) ex i) ∙ ap (λ zs. slice_get zs i) e ∙ h)
  where
    by_cell : (o : Option Cell) → slice_get ex i ≡ o → option_map (λ (c : Cell). c.ty) o ≡ Some t → CellOf ex i t
    by_cell None q s = absurd (cc s)
    by_cell (Some c) q s = record { cell = c; there = q; ty = cc s }

-- a store in one that a group doesn't look at
pub keeps_set : (m : Marks) (here : Here) (x : Option ℕ) (l : LocalState) (ex : List Cell) (i : ℕ) (c : Cell) → Keeps m here x l ex → slice_get (m.extra here) i ≡ Some c.ty → i ≢ m.result_at → i ≢ m.thrown_at → Keeps m here x l (slice_set ex i c)
keeps_set m here x l ex i c kp t d1 d2 =
    let o = cell_of ex (m.extra here) i c.ty kp.typed t in
    record {
      wide = kp.wide;
      caps = kp.caps;
      typed = map_set (λ (z : Cell). z.ty) ex i o.cell c o.there (sym o.ty) ∙ kp.typed;
      result = λ v e. ap (option_map (λ (z : Cell). z.value)) (get_set_other ex i m.result_at c d1) ∙ kp.result v e;
      thrown = λ y e. ap (option_map (λ (z : Cell). z.value)) (get_set_other ex i m.thrown_at c d2) ∙ kp.thrown y e;
    }
