-- Tables in which one cell is written.
use Rattle.std.proofs.Common.{◌≡◌, ℕ, zero, suc, ◌+◌, ◌-◌, ◌<◌, Bool, true, false, cond, eqb, ◌&&◌, List, [], length, get_or, set, Option, Some, None, refl, sym, ap, ◌∙◌, subst, inl, inr, arith}
use Rattle.std.specs.Prelude.{slice_get}
use Rattle.std.proofs.lemmas.List.{length-set, get_or-set_same, get_or-set_other}
use Rattle.std.proofs.lemmas.Option.{slice_get-get_or, slice_get_past}
use Rattle.std.proofs.lemmas.Bool.{cases_lt, cases_eq, eq-eqb, ne_eqb}
use Rattle.cli_tables.specs.Schema.{columns_of}
use Rattle.cli_tables.specs.Stream.{kind_of}
use Rattle.cli_tables.specs.Tables.{column_of, rows_of, cell_of, limit_of, HasCell, IsShaped, IsSet}
use Rattle.cli_tables.proofs.GrowthLaws.{has_table_at, column_changed, column_other, cell_suc, read_back}

get_set_same : (l : List ℕ) (i v : ℕ) → i < length l → slice_get (set l i v) i ≡ Some v
get_set_same l i v lt = slice_get-get_or (set l i v) i 0 (omega (arith, lt, length-set l i v)) ∙ ap (λ (x : ℕ). Some x) (get_or-set_same l i v 0 lt)

get_set_other : (l : List ℕ) (i v k : ℕ) → (k ≡ i → ⊥) → slice_get (set l i v) k ≡ slice_get l k
get_set_other l i v k ne = elim (cases_lt k (length l)) [
  | inl lt ↦ slice_get-get_or (set l i v) k 0 (omega (arith, lt, length-set l i v)) ∙ ap (λ (x : ℕ). Some x) (get_or-set_other l i k v 0 ne) ∙ sym (slice_get-get_or l k 0 lt)
  | inr past ↦ slice_get_past (set l i v) k (omega (arith, past, length-set l i v)) ∙ sym (slice_get_past l k past)
]

-- in the table t the column c is col, in which v was written at i
module _ (old : List (List (List ℕ))) (t c i v : ℕ) (shape : IsShaped old) (here : c < length (columns_of t)) (row : i < rows_of old t) where
  in_old : t < length old
  in_old = has_table_at old t shape (omega (arith, here))

  in_table : c < length (get_or old t [])
  in_table = omega (arith, here, shape.columns t)

  in_column : i < length (column_of old t c)
  in_column = omega (arith, row, shape.rows t c here)

  abbrev written : List (List (List ℕ))
  written = set old t (set (get_or old t []) c (set (column_of old t c) i v))

  column_here : column_of written t c ≡ set (column_of old t c) i v
  column_here = column_changed old t in_old (set (get_or old t []) c (set (column_of old t c) i v)) c ∙ get_or-set_same (get_or old t []) c (set (column_of old t c) i v) [] in_table

  column_beside : (d : ℕ) → (d ≡ c → ⊥) → column_of written t d ≡ column_of old t d
  column_beside d ne = column_changed old t in_old (set (get_or old t []) c (set (column_of old t c) i v)) d ∙ get_or-set_other (get_or old t []) c d (set (column_of old t c) i v) [] ne

  column_else : (u d : ℕ) → (u ≡ t → ⊥) → column_of written u d ≡ column_of old u d
  column_else u d ne = column_other old t in_old (set (get_or old t []) c (set (column_of old t c) i v)) u d ne

  length_same : (u d : ℕ) → length (column_of written u d) ≡ length (column_of old u d)
  length_same u d = elim (cases_eq u t) [
    | inl e ↦ elim (cases_eq d c) [
      | inl f ↦ ap (λ (w : ℕ). length (column_of written w d)) e ∙ ap (λ (w : ℕ). length (column_of written t w)) f ∙ ap (λ (l : List ℕ). length l) column_here ∙ length-set (column_of old t c) i v
          ∙ sym (ap (λ (w : ℕ). length (column_of old w d)) e ∙ ap (λ (w : ℕ). length (column_of old t w)) f)
      | inr ne ↦ ap (λ (w : ℕ). length (column_of written w d)) e ∙ ap (λ (l : List ℕ). length l) (column_beside d ne) ∙ sym (ap (λ (w : ℕ). length (column_of old w d)) e)
    ]
    | inr ne ↦ ap (λ (l : List ℕ). length l) (column_else u d ne)
  ]

  cell_same : (u q d : ℕ) → column_of written u d ≡ column_of old u d → cell_of written u q d ≡ cell_of old u q d
  cell_same u q d e = ap (λ (l : List ℕ). cond (eqb q 0) None (slice_get l (q - 1))) e

  unless : (b : Bool) (x y : Option ℕ) → b ≡ false → y ≡ cond b x y
  unless b x y e = sym (ap (λ (z : Bool). cond z x y) e)

  cell_after : (k : ℕ) → slice_get (set (column_of old t c) i v) k ≡ cond (eqb (suc k) (i + 1)) (Some v) (cell_of old t (suc k) c)
  cell_after k = elim (cases_eq k i) [
    | inl e ↦ ap (λ (j : ℕ). slice_get (set (column_of old t c) i v) j) e ∙ get_set_same (column_of old t c) i v in_column
        ∙ sym (ap (λ (z : Bool). cond z (Some v) (cell_of old t (suc k) c)) (eq-eqb (suc k) (i + 1) (omega (arith, e))))
    | inr ne ↦ get_set_other (column_of old t c) i v k ne ∙ sym (cell_suc old t k c)
        ∙ unless (eqb (suc k) (i + 1)) (Some v) (cell_of old t (suc k) c) (ne_eqb (suc k) (i + 1) (λ z. ne (omega (arith, z))))
  ]

  cell_here : (q : ℕ) → cell_of written t q c ≡ cond (eqb q (i + 1)) (Some v) (cell_of old t q c)
  cell_here zero = unless (eqb 0 (i + 1)) (Some v) None (ne_eqb 0 (i + 1) (λ z. absurd (omega (arith, z))))
  cell_here (suc k) = cell_suc written t k c ∙ ap (λ (l : List ℕ). slice_get l k) column_here ∙ cell_after k

  cell_written : (u q d : ℕ) → cell_of written u q d ≡ cond (eqb u t && (eqb q (i + 1) && eqb d c)) (Some v) (cell_of old u q d)
  cell_written u q d = elim (cases_eq u t) [
    | inl e ↦ elim (cases_eq d c) [
      | inl f ↦ ap (λ (w : ℕ). cell_of written w q d) e ∙ ap (λ (w : ℕ). cell_of written t q w) f ∙ cell_here q ∙ both u q d e f (eqb q (i + 1))
      | inr ne ↦ ap (λ (w : ℕ). cell_of written w q d) e ∙ cell_same t q d (column_beside d ne) ∙ sym (ap (λ (w : ℕ). cell_of old w q d) e)
          ∙ unless (eqb u t && (eqb q (i + 1) && eqb d c)) (Some v) (cell_of old u q d) (no_right (eqb u t) (eqb q (i + 1)) (eqb d c) (ne_eqb d c ne))
    ]
    | inr ne ↦ cell_same u q d (column_else u d ne) ∙ unless (eqb u t && (eqb q (i + 1) && eqb d c)) (Some v) (cell_of old u q d) (ap (λ (z : Bool). z && (eqb q (i + 1) && eqb d c)) (ne_eqb u t ne))
  ]
    where
      no_right : (x y z : Bool) → z ≡ false → (x && (y && z)) ≡ false
      no_right true true z e = e
      no_right true false z e = refl
      no_right false y z e = refl

      both : (u q d : ℕ) → u ≡ t → d ≡ c → (b : Bool) → cond b (Some v) (cell_of old t q c) ≡ cond (eqb u t && (b && eqb d c)) (Some v) (cell_of old u q d)
      both u q d e f true = sym (ap (λ (z : Bool). cond (z && eqb d c) (Some v) (cell_of old u q d)) (eq-eqb u t e) ∙ ap (λ (z : Bool). cond z (Some v) (cell_of old u q d)) (eq-eqb d c f))
      both u q d e f false = sym (ap (λ (z : Bool). cond (z && false) (Some v) (cell_of old u q d)) (eq-eqb u t e) ∙ ap (λ (w : ℕ). cell_of old w q d) e ∙ ap (λ (w : ℕ). cell_of old t q w) f)

  is_set : IsSet old t (i + 1) c v written
  is_set = record { rows = λ u. length_same u 0; cells = cell_written }

  here_fits : v < limit_of (kind_of t c) → (k : ℕ) → get_or (column_of written t c) k 0 < limit_of (kind_of t c)
  here_fits small k = subst (λ (l : List ℕ). get_or l k 0 < limit_of (kind_of t c)) (sym column_here) (elim (cases_eq k i) [
    | inl e ↦ subst (λ (n : ℕ). n < limit_of (kind_of t c)) (sym (ap (λ (j : ℕ). get_or (set (column_of old t c) i v) j 0) e ∙ get_or-set_same (column_of old t c) i v 0 in_column)) small
    | inr ne ↦ subst (λ (n : ℕ). n < limit_of (kind_of t c)) (sym (get_or-set_other (column_of old t c) i k v 0 ne)) (shape.fits t c k)
  ])

  set_shape : v < limit_of (kind_of t c) → IsShaped written
  set_shape small = record {
    columns = λ u. elim (cases_eq u t) [
      | inl e ↦ subst (λ (w : ℕ). length (get_or written w []) ≡ length (columns_of w)) (sym e)
          (ap (λ (cs : List (List ℕ)). length cs) (get_or-set_same old t (set (get_or old t []) c (set (column_of old t c) i v)) [] in_old) ∙ length-set (get_or old t []) c (set (column_of old t c) i v) ∙ shape.columns t)
      | inr ne ↦ ap (λ (cs : List (List ℕ)). length cs) (get_or-set_other old t u (set (get_or old t []) c (set (column_of old t c) i v)) [] ne) ∙ shape.columns u
    ];
    rows = λ u d lt. length_same u d ∙ shape.rows u d lt ∙ sym (length_same u 0);
    few = λ u. omega (arith, length_same u 0, shape.few u);
    fits = λ u d k. elim (cases_eq u t) [
      | inl e ↦ subst (λ (w : ℕ). get_or (column_of written w d) k 0 < limit_of (kind_of w d)) (sym e) (elim (cases_eq d c) [
        | inl f ↦ subst (λ (w : ℕ). get_or (column_of written t w) k 0 < limit_of (kind_of t w)) (sym f) (here_fits small k)
        | inr ne ↦ subst (λ (l : List ℕ). get_or l k 0 < limit_of (kind_of t d)) (sym (column_beside d ne)) (shape.fits t d k)
      ])
      | inr ne ↦ subst (λ (l : List ℕ). get_or l k 0 < limit_of (kind_of u d)) (sym (column_else u d ne)) (shape.fits u d k)
    ];
  }

-- the table at its place was y, and new is y with the cell written
module _ (old : List (List (List ℕ))) (t r c v : ℕ) (y new : List (List ℕ)) (shape : IsShaped old) (has : HasCell old t r c) (read : y ≡ get_or old t y) (wrote : new ≡ set y c (set (get_or y c []) (r - 1) v)) where
  row_below : r - 1 < rows_of old t
  row_below = omega (arith, has.0, has.1)

  same : set old t new ≡ set old t (set (get_or old t []) c (set (column_of old t c) (r - 1) v))
  same = ap (λ (z : List (List ℕ)). set old t z) (wrote ∙ ap (λ (z : List (List ℕ)). set z c (set (get_or z c []) (r - 1) v)) (read_back old t y (has_table_at old t shape (omega (arith, has.2))) read))

  pub cell_is_set : IsSet old t r c v (set old t new)
  cell_is_set =
      let e : r - 1 + 1 ≡ r = omega (arith, has.0) in
      subst (λ (ts : List (List (List ℕ))). IsSet old t r c v ts) (sym same) (subst (λ (q : ℕ). IsSet old t q c v (set old t (set (get_or old t []) c (set (column_of old t c) (r - 1) v)))) e (is_set old t c (r - 1) v shape has.2 row_below))

  pub cell_shape : v < limit_of (kind_of t c) → IsShaped (set old t new)
  cell_shape small = subst IsShaped (sym same) (set_shape old t c (r - 1) v shape has.2 row_below small)
