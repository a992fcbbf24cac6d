-- Rows that bear an attribute, and rows of types around others.
use Rattle.std.proofs.Common.{◌≡◌, ◌∙◌, sym, ap, refl, arith, rules, ℕ, zero, suc, ◌+◌, ◌-◌, ◌*◌, ◌≤◌, ◌<◌, List, length, get_or, Bool, true, false}
use Rattle.std.specs.Prelude.{map, find, ◌==◌, ◌&&◌, ◌/◌, ◌%◌, Option, None, if◌then◌else◌}
use Rattle.std.specs.List.{range_with_len}
use Rattle.std.proofs.lemmas.Bool.{eqb-true, ne_eqb, eq-eqb}
use Rattle.std.proofs.lemmas.List.{get_or-map}
use Rattle.std.proofs.lemmas.List.FromFn.{get_or-map-range_with_len, length-map-range_with_len}
use Rattle.cil_base.specs.declared.tables.TheConstants.{CUSTOM_ATTRIBUTE, NESTED_CLASS, TYPE_DEF}
use Rattle.set_names.specs.Names.{Name, is_name}
use Rattle.set_rows.specs.Sets.{Assembly, Assemblies, assembly_at, count_in, rows_in, cell}
use Rattle.set_rows.specs.Owners.{if_row}
use Rattle.set_program.specs.TypeNames.{enclosing, enclosing_in}
use Rattle.set_program.specs.Attributes.{attribute_name, attribute_on, is_attribute}
use Rattle.attribute_marks.specs.Firsts.{AreFirst}
use Rattle.attribute_marks.specs.Marks.{AreMarks, AreEnclosing, marked_row, around}
use Rattle.attribute_marks.proofs.FirstLaws.{find_same}

-- whether the type of a row has a name, by the name of that type
named_as : (s : Assemblies) (a k : ℕ) (name : Name) (o : Option Name) → o ≡ attribute_name s a k → is_name name o ≡ is_attribute s a name k
named_as s a k name o e = search (rules, e)

-- two tests that come out alike
alike : (a b c d : ℕ) → (a ≡ b → c ≡ d) → (c ≡ d → a ≡ b) → (a == b) ≡ (c == d)
alike a b c d f g = go (a == b) refl
  where
    go : (t : Bool) → (a == b) ≡ t → (a == b) ≡ (c == d)
    go true e = e ∙ sym (eq-eqb c d (f (eqb-true a b e)))
    go false e = e ∙ sym (ne_eqb c d (λ h. search (rules, e, g h)))

-- a row in a HasCustomAttribute index
parent_test : (parent row tag : ℕ) → 1 ≤ row → tag < 32 → (is_wanted : Bool) → ((if is_wanted && (parent % 32 == tag) then parent / 32 else 0) == row) ≡ ((parent == row * 32 + tag) && is_wanted)
parent_test parent row tag low small false = search (rules, low)
parent_test parent row tag low small true = go (parent % 32 == tag) refl
  where
    go : (b : Bool) → (parent % 32 == tag) ≡ b → ((if b then parent / 32 else 0) == row) ≡ ((parent == row * 32 + tag) && true)
    go true e = let t : parent % 32 ≡ tag = eqb-true (parent % 32) tag e in
        alike (parent / 32) row parent (row * 32 + tag) (λ h. omega (arith, t, h)) (λ h. omega (arith, t, h)) ∙ search rules
    go false e = search rules

module _ (s : Assemblies) (a : ℕ) (name : Name) (tag count : ℕ) (names : List (Option Name)) (small : tag < 32)
    (are : names ≡ map (attribute_name s a) (rows_in (assembly_at s a) CUSTOM_ATTRIBUTE)) where
  abbrev pub x : Assembly
  x = assembly_at s a

  many : length names ≡ count_in x CUSTOM_ATTRIBUTE
  many = ap length are ∙ length-map-range_with_len (attribute_name s a) 1 (count_in x CUSTOM_ATTRIBUTE)

  abbrev pub marked : ℕ → ℕ
  marked k = marked_row x (is_name name (get_or names (k - 1) None)) tag k

  name_at : (k : ℕ) → 1 ≤ k → k < 1 + length names → get_or names (k - 1) None ≡ attribute_name s a k
  name_at k low high =
      ap (λ (l : List (Option Name)). get_or l (k - 1) None) are
      ∙ get_or-map-range_with_len (attribute_name s a) 1 (count_in x CUSTOM_ATTRIBUTE) (k - 1) k None (omega (arith, low, high, many)) (omega (arith, low))

  test_at : (row k : ℕ) → 1 ≤ row → 1 ≤ k → k < 1 + length names → (marked k == row) ≡ ((cell x CUSTOM_ATTRIBUTE k 0 == row * 32 + tag) && is_attribute s a name k)
  test_at row k one low high =
      parent_test (cell x CUSTOM_ATTRIBUTE k 0) row tag one small (is_name name (get_or names (k - 1) None))
      ∙ ap (λ (b : Bool). (cell x CUSTOM_ATTRIBUTE k 0 == row * 32 + tag) && b) (named_as s a k name (get_or names (k - 1) None) (name_at k low high))

  pub marks_of : (numbers marks : List ℕ) → numbers ≡ map marked (range_with_len 1 (length names)) → AreFirst numbers count marks → AreMarks s a name tag count marks
  unfolding attribute_on
  marks_of numbers marks e f =
      let same : length numbers ≡ length names = ap length e ∙ length-map-range_with_len marked 1 (length names) in
      record {
        size = f.size;
        rows = λ row low high.
            f.rows row low high
            ∙ ap (λ (n : ℕ). find (λ k. get_or numbers (k - 1) 0 == row) (range_with_len 1 n)) (same ∙ many)
            ∙ find_same (λ k. get_or numbers (k - 1) 0 == row) (λ k. (cell x CUSTOM_ATTRIBUTE k 0 == row * 32 + tag) && is_attribute s a name k) 1 (count_in x CUSTOM_ATTRIBUTE)
            (λ k from to.
            ap (λ (l : List ℕ). get_or l (k - 1) 0 == row) e
            ∙ ap (λ (n : ℕ). n == row) (get_or-map-range_with_len marked 1 (length names) (k - 1) k 0 (omega (arith, from, to, many)) (omega (arith, from)))
            ∙ test_at row k low from (omega (arith, to, many)));
      }

-- ---- types around others

pub enclosing_of : (x : Assembly) (numbers firsts rows : List ℕ) → numbers ≡ map (λ k. cell x NESTED_CLASS k 0) (rows_in x NESTED_CLASS) → AreFirst numbers (count_in x TYPE_DEF) firsts → rows ≡ map (around x) firsts → AreEnclosing x rows
unfolding enclosing
enclosing_of x numbers firsts rows e f g row low high =
    ap (λ (l : List ℕ). if_row (get_or l row 0)) g
    ∙ ap if_row (get_or-map (around x) firsts row 0 0 (omega (arith, high, f.size)))
    ∙ at_first (get_or firsts row 0) (find (λ k. cell x NESTED_CLASS k 0 == row) (rows_in x NESTED_CLASS)) (f.rows row low high ∙ found)
    ∙ sym within
  where
    many : length numbers ≡ count_in x NESTED_CLASS
    many = ap length e ∙ length-map-range_with_len (λ k. cell x NESTED_CLASS k 0) 1 (count_in x NESTED_CLASS)

    found : find (λ k. get_or numbers (k - 1) 0 == row) (range_with_len 1 (length numbers)) ≡ find (λ k. cell x NESTED_CLASS k 0 == row) (rows_in x NESTED_CLASS)
    found =
        ap (λ (n : ℕ). find (λ k. get_or numbers (k - 1) 0 == row) (range_with_len 1 n)) many
        ∙ find_same (λ k. get_or numbers (k - 1) 0 == row) (λ k. cell x NESTED_CLASS k 0 == row) 1 (count_in x NESTED_CLASS)
        (λ k from to.
        ap (λ (l : List ℕ). get_or l (k - 1) 0 == row) e
        ∙ ap (λ (n : ℕ). n == row) (get_or-map-range_with_len (λ j. cell x NESTED_CLASS j 0) 1 (count_in x NESTED_CLASS) (k - 1) k 0 (omega (arith, from, to)) (omega (arith, from))))

    at_first : (g : ℕ) (o : Option ℕ) → if_row g ≡ o → if_row (around x g) ≡ enclosing_in x o
    at_first zero o h = search (rules, h)
    at_first (suc g) o h = search (rules, h)

    within : enclosing x row ≡ enclosing_in x (find (λ k. cell x NESTED_CLASS k 0 == row) (rows_in x NESTED_CLASS))
    within = search (rules, low, high)
