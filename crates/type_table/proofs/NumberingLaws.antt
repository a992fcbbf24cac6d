-- Where a type stands among those of a set.
use Rattle.std.proofs.Common.{◌≡◌, ◌∙◌, sym, ap, refl, subst, arith, rules, append_assoc, ℕ, zero, suc, ◌+◌, ◌-◌, ◌≤◌, ◌<◌, List, [], ◌∷◌, ◌++◌, length, length-append, Bool, true, false}
use Rattle.std.specs.Prelude.{cond, map, find, flat_map, ◌==◌, bytes_eq, Option, Some, None, option_map, if◌then◌else◌}
use Rattle.std.specs.List.{range_with_len, position_from}
use Rattle.std.proofs.lemmas.List.{map-append, length-map}
use Rattle.std.proofs.lemmas.List.FromFn.{length-range_with_len}
use Rattle.std.proofs.lemmas.Grind.{flat_map-append}
use Rattle.cil_base.specs.declared.tables.TheConstants.{TYPE_DEF}
use Rattle.set_names.specs.Names.{Name, is_name}
use Rattle.set_names.specs.Distinct.{place_of}
use Rattle.set_rows.specs.Sets.{Assembly, Assemblies, assembly_at, count_in, rows_in}
use Rattle.set_program.specs.declared.identity.TypeId.{TypeId}
use Rattle.set_program.specs.declared.identity.TypeId.TheVariants.{Row, Outside}
use Rattle.set_program.specs.TypeNames.{full_name, type_named}
use Rattle.set_program.specs.Numbering.{Cell, runtime_name, row_or, type_cut, rows_between, outside_names, of_row, type_ids, same_id}
use Rattle.set_program.specs.Attributes.{attribute_outside}
use Rattle.set_program.specs.Environment.{types_of, number_of}
use Rattle.set_program.proofs.PlaceLaws.{AllFail, skipped, fail_append, run, runs, differs, itself, missed, hit, all_missed, placed, rows_of_assembly}
use Rattle.set_program.proofs.NumberLaws.{range_split}
use Rattle.type_table.specs.Table.{types_before}

-- ---- tests that fail

pub none_found : {A : Type 0} (test : A → Bool) (i : ℕ) (xs : List A) → AllFail test xs → position_from test i xs ≡ None
none_found test i [] h = refl
none_found test i (x ∷ xs) h = ap (λ (b : Bool). cond b (Some i) (position_from test (i + 1) xs)) h.0 ∙ none_found test (i + 1) xs h.1

-- rows before this one
passed : (a r from n : ℕ) → from + n ≤ r → AllFail (same_id (Row a r)) (run a from n)
passed a r from zero h = tt
passed a r from (suc n) h =
    let apart : r ≡ from → ⊥ = λ e. absurd (omega (arith, h, e)) in
    (ap (λ (c : Bool). if c then r == from else false) (itself a) ∙ differs r from apart, passed a r (from + 1) n (omega (arith, h)))

-- rows behind this one
ahead : (a r from n : ℕ) → r < from → AllFail (same_id (Row a r)) (run a from n)
ahead a r from zero h = tt
ahead a r from (suc n) h =
    let apart : r ≡ from → ⊥ = λ e. absurd (omega (arith, h, e)) in
    (ap (λ (c : Bool). if c then r == from else false) (itself a) ∙ differs r from apart, ahead a r (from + 1) n (omega (arith, h)))

no_names : (a r : ℕ) (names : List Name) → AllFail (same_id (Row a r)) (map Outside names)
no_names a r [] = tt
no_names a r (name ∷ names) = (refl, no_names a r names)

no_rows : (name : Name) (cells : List Cell) → AllFail (same_id (Outside name)) (map of_row cells)
no_rows name [] = tt
no_rows name (c ∷ cells) = (refl, no_rows name cells)

-- rows of an assembly in which there is no such row
outside_rows : (a r from n : ℕ) (b : ℕ) → (a ≡ b → (r < from → ⊥) → from + n ≤ r) → AllFail (same_id (Row a r)) (run b from n)
outside_rows a r from zero b h = tt
outside_rows a r from (suc n) b h = go (a == b) refl
  where
    is : (p q : ℕ) → (p == q) ≡ true → p ≡ q
    is p q e = search (rules, e)

    isnt : (p q : ℕ) → (p == q) ≡ false → p ≡ q → ⊥
    isnt p q e f = search (rules, e, f)

    below : (t : Bool) → (Rattle.std.specs.Prelude.nat_lt r from) ≡ t → a ≡ b → AllFail (same_id (Row a r)) (run b from (suc n))
    below true f e =
        let low : r < from = search (rules, f) in
        subst (λ c. AllFail (same_id (Row a r)) (run c from (suc n))) e (ahead a r from (suc n) low)
    below false f e =
        let not_low : r < from → ⊥ = λ l. search (rules, f, l) in
        subst (λ c. AllFail (same_id (Row a r)) (run c from (suc n))) e (passed a r from (suc n) (h e not_low))

    go : (t : Bool) → (a == b) ≡ t → AllFail (same_id (Row a r)) (run b from (suc n))
    go true e = below (Rattle.std.specs.Prelude.nat_lt r from) refl (is a b e)
    go false e = missed a r b from (suc n) (isnt a b e)

-- ---- the place of a name

shifted : {A : Type 0} (test : A → Bool) (i j : ℕ) (xs : List A) → position_from test (i + j) xs ≡ option_map (λ k. i + k) (position_from test j xs)
shifted test i j [] = refl
shifted test i j (x ∷ xs) =
    let next : (i + j) + 1 ≡ i + (j + 1) = omega arith in
    ap (λ (m : ℕ). cond (test x) (Some (i + j)) (position_from test m xs)) next ∙ ap (cond (test x) (Some (i + j))) (shifted test i (j + 1) xs) ∙ go (test x)
  where
    go : (b : Bool) → cond b (Some (i + j)) (option_map (λ k. i + k) (position_from test (j + 1) xs)) ≡ option_map (λ k. i + k) (cond b (Some j) (position_from test (j + 1) xs))
    go true = refl
    go false = refl

named_at : (name : Name) (i : ℕ) (names : List Name) (rest : List TypeId) → AllFail (same_id (Outside name)) rest → position_from (same_id (Outside name)) i (map Outside names ++ rest) ≡ position_from (bytes_eq name) i names
named_at name i [] rest h = none_found (same_id (Outside name)) i rest h
named_at name i (other ∷ names) rest h = ap (cond (bytes_eq name other) (Some i)) (named_at name (i + 1) names rest h)

-- ---- the row of the runtime class

found_between : (test : ℕ → Bool) (a n : ℕ) → (a ≤ row_or (a + n) (find test (range_with_len a n))) × (row_or (a + n) (find test (range_with_len a n)) ≤ a + n)
found_between test a zero = (omega arith, omega arith)
found_between test a (suc n) = go (test a) (found_between test (a + 1) n)
  where
    go : (b : Bool) → (a + 1 ≤ row_or ((a + 1) + n) (find test (range_with_len (a + 1) n))) × (row_or ((a + 1) + n) (find test (range_with_len (a + 1) n)) ≤ (a + 1) + n)
        → (a ≤ row_or (a + suc n) (cond b (Some a) (find test (range_with_len (a + 1) n)))) × (row_or (a + suc n) (cond b (Some a) (find test (range_with_len (a + 1) n))) ≤ a + suc n)
    go true h = (omega arith, omega arith)
    go false h =
        let same : (a + 1) + n ≡ a + suc n = omega arith in
        let at : row_or ((a + 1) + n) (find test (range_with_len (a + 1) n)) ≡ row_or (a + suc n) (find test (range_with_len (a + 1) n)) = ap (λ (m : ℕ). row_or m (find test (range_with_len (a + 1) n))) same in
        (omega (arith, h.0, at), omega (arith, h.1, at))

pub cut_low : (x : Assembly) → 1 ≤ type_cut x
unfolding type_cut type_named
cut_low x =
    let h : 1 ≤ row_or (1 + count_in x TYPE_DEF) (find (λ row. is_name runtime_name (full_name x row)) (rows_in x TYPE_DEF)) = (found_between (λ row. is_name runtime_name (full_name x row)) 1 (count_in x TYPE_DEF)).0 in
    let e : 1 + count_in x TYPE_DEF ≡ count_in x TYPE_DEF + 1 = omega arith in
    subst (λ m. 1 ≤ row_or m (find (λ row. is_name runtime_name (full_name x row)) (rows_in x TYPE_DEF))) e h

pub cut_high : (x : Assembly) → type_cut x ≤ count_in x TYPE_DEF + 1
unfolding type_cut type_named
cut_high x =
    let h : row_or (1 + count_in x TYPE_DEF) (find (λ row. is_name runtime_name (full_name x row)) (rows_in x TYPE_DEF)) ≤ 1 + count_in x TYPE_DEF = (found_between (λ row. is_name runtime_name (full_name x row)) 1 (count_in x TYPE_DEF)).1 in
    let e : 1 + count_in x TYPE_DEF ≡ count_in x TYPE_DEF + 1 = omega arith in
    subst (λ m. row_or m (find (λ row. is_name runtime_name (full_name x row)) (rows_in x TYPE_DEF)) ≤ m) e h

-- ---- all types

module _ (s : Assemblies) where
  rows_count : (b : ℕ) → length (rows_of_assembly s b) ≡ count_in (assembly_at s b) TYPE_DEF
  rows_count b =
      length-map (range_with_len 1 (count_in (assembly_at s b) TYPE_DEF + 1 - 1)) (λ (row : ℕ). (b, row))
      ∙ length-range_with_len 1 (count_in (assembly_at s b) TYPE_DEF + 1 - 1)
      ∙ omega arith

  pub before_first : types_before s 1 ≡ 0
  unfolding types_before
  before_first = refl

  before_split : (a n : ℕ) → 1 ≤ a → types_before s (a + n) ≡ types_before s a + length (flat_map (rows_of_assembly s) (range_with_len a n))
  unfolding types_before
  before_split a n low =
      let parts : (a + n) - 1 ≡ (a - 1) + n = omega (arith, low) in
      let at : 1 + (a - 1) ≡ a = omega (arith, low) in
      ap (λ (m : ℕ). length (flat_map (rows_of_assembly s) (range_with_len 1 m))) parts
      ∙ ap (λ (l : List ℕ). length (flat_map (rows_of_assembly s) l)) (range_split 1 (a - 1) n)
      ∙ ap length (flat_map-append (rows_of_assembly s) (range_with_len 1 (a - 1)) (range_with_len (1 + (a - 1)) n))
      ∙ length-append (flat_map (rows_of_assembly s) (range_with_len 1 (a - 1))) (flat_map (rows_of_assembly s) (range_with_len (1 + (a - 1)) n))
      ∙ ap (λ (m : ℕ). length (flat_map (rows_of_assembly s) (range_with_len 1 (a - 1))) + length (flat_map (rows_of_assembly s) (range_with_len m n))) at

  pub before_next : (a : ℕ) → 1 ≤ a → types_before s (a + 1) ≡ types_before s a + count_in (assembly_at s a) TYPE_DEF
  before_next a low =
      let one : length (rows_of_assembly s a ++ []) ≡ count_in (assembly_at s a) TYPE_DEF = length-append (rows_of_assembly s a) [] ∙ omega (arith, rows_count a) in
      before_split a 1 low ∙ ap (λ (m : ℕ). types_before s a + m) one

  pub before_rises : (a b : ℕ) → 1 ≤ a → a ≤ b → types_before s a ≤ types_before s b
  before_rises a b low h =
      let e : a + (b - a) ≡ b = omega (arith, h) in
      let split : types_before s (a + (b - a)) ≡ types_before s a + length (flat_map (rows_of_assembly s) (range_with_len a (b - a))) = before_split a (b - a) low in
      omega (arith, split, ap (types_before s) e)

  runs_count : (a : ℕ) → length (runs s 1 (a - 1)) ≡ types_before s a
  unfolding types_before
  runs_count a = length-map (flat_map (rows_of_assembly s) (range_with_len 1 (a - 1))) of_row

module _ (x : Assembly) (xs : Assemblies) where
  abbrev pub s : Assemblies
  s = x ∷ xs

  abbrev pub names : List Name
  names = outside_names s (attribute_outside s)

  abbrev count : ℕ
  count = count_in x TYPE_DEF

  abbrev pub others : List TypeId
  others = runs s 1 (length xs)

  abbrev pub old : List TypeId
  old = run 0 1 (type_cut x - 1)

  abbrev pub new : List TypeId
  new = run 0 (type_cut x) (count + 1 - type_cut x)

  types_split : types_of s ≡ others ++ (old ++ (map Outside names ++ new))
  unfolding types_of type_ids
  types_split =
      ap (λ (l : List TypeId). l ++ (map Outside names ++ new)) (map-append of_row (flat_map (rows_of_assembly s) (range_with_len 1 (length xs))) (rows_between 0 1 (type_cut x)))
      ∙ append_assoc others old (map Outside names ++ new)

  others_count : length others ≡ types_before s (suc (length xs))
  others_count = let e : length xs ≡ suc (length xs) - 1 = omega arith in ap (λ (m : ℕ). length (runs s 1 m)) e ∙ runs_count s (suc (length xs))

  old_count : length old ≡ type_cut x - 1
  old_count = length-map (map (λ (row : ℕ). (0, row)) (range_with_len 1 (type_cut x - 1))) of_row ∙ length-map (range_with_len 1 (type_cut x - 1)) (λ (row : ℕ). (0, row)) ∙ length-range_with_len 1 (type_cut x - 1)

  new_count : length new ≡ count + 1 - type_cut x
  new_count =
      length-map (map (λ (row : ℕ). (0, row)) (range_with_len (type_cut x) (count + 1 - type_cut x))) of_row
      ∙ length-map (range_with_len (type_cut x) (count + 1 - type_cut x)) (λ (row : ℕ). (0, row))
      ∙ length-range_with_len (type_cut x) (count + 1 - type_cut x)

  pub types_count : length (types_of s) ≡ types_before s (suc (length xs)) + count + length names
  types_count =
      let whole : length (types_of s) ≡ length others + (length old + (length names + length new)) =
      ap length types_split ∙ length-append others (old ++ (map Outside names ++ new))
      ∙ ap (λ (m : ℕ). length others + m) (length-append old (map Outside names ++ new)
      ∙ ap (λ (m : ℕ). length old + m) (length-append (map Outside names) new ∙ ap (λ (m : ℕ). m + length new) (length-map names Outside))) in
      omega (arith, whole, others_count, old_count, new_count, cut_low x, cut_high x)

  -- a row of another assembly
  pub other_number : (a r : ℕ) → 1 ≤ a → a < suc (length xs) → 1 ≤ r → r ≤ count_in (assembly_at s a) TYPE_DEF → number_of s (Row a r) ≡ Some (types_before s a + (r - 1))
  other_number a r low high rlow rhigh =
      let at : 0 + length (runs s 1 (a - 1)) + (r - 1) ≡ types_before s a + (r - 1) = omega (arith, runs_count s a) in
      ap (position_from (same_id (Row a r)) 0) types_split
      ∙ placed s a r 1 (length xs) 0 (old ++ (map Outside names ++ new)) low (omega (arith, high)) rlow rhigh
      ∙ ap (λ (j : ℕ). Some j) at

  not_others : (r : ℕ) → AllFail (same_id (Row 0 r)) others
  not_others r = all_missed s 0 r 1 (length xs) (λ b low high e. absurd (omega (arith, low, e)))

  behind_others : (r : ℕ) → number_of s (Row 0 r) ≡ position_from (same_id (Row 0 r)) (0 + length others) (old ++ (map Outside names ++ new))
  behind_others r = ap (position_from (same_id (Row 0 r)) 0) types_split ∙ skipped (same_id (Row 0 r)) 0 others (old ++ (map Outside names ++ new)) (not_others r)

  -- a row of TARGET before its runtime class
  pub old_number : (r : ℕ) → 1 ≤ r → r < type_cut x → number_of s (Row 0 r) ≡ Some (types_before s (suc (length xs)) + (r - 1))
  old_number r low high =
      let at : (0 + length others) + (r - 1) ≡ types_before s (suc (length xs)) + (r - 1) = omega (arith, others_count) in
      behind_others r ∙ hit 0 r 1 (type_cut x - 1) (0 + length others) (map Outside names ++ new) low (omega (arith, high)) ∙ ap (λ (j : ℕ). Some j) at

  -- one from the runtime class on
  pub new_number : (r : ℕ) → type_cut x ≤ r → r ≤ count → number_of s (Row 0 r) ≡ Some (types_before s (suc (length xs)) + length names + (r - 1))
  new_number r low high =
      let start : ℕ = (0 + length others) + length old in
      let at : (start + length (map Outside names)) + (r - type_cut x) ≡ types_before s (suc (length xs)) + length names + (r - 1) =
      omega (arith, others_count, old_count, length-map names Outside, low, cut_low x) in
      behind_others r
      ∙ skipped (same_id (Row 0 r)) (0 + length others) old (map Outside names ++ new) (passed 0 r 1 (type_cut x - 1) (omega (arith, low, cut_low x)))
      ∙ skipped (same_id (Row 0 r)) start (map Outside names) new (no_names 0 r names)
      ∙ ap (position_from (same_id (Row 0 r)) (start + length (map Outside names))) (sym (Rattle.std.proofs.lemmas.List.append-nil new))
      ∙ hit 0 r (type_cut x) (count + 1 - type_cut x) (start + length (map Outside names)) [] low (omega (arith, low, high))
      ∙ ap (λ (j : ℕ). Some j) at

  -- an outside type
  pub outside_number : (name : Name) → number_of s (Outside name) ≡ option_map (λ k. (types_before s (suc (length xs)) + (type_cut x - 1)) + k) (place_of names name)
  outside_number name =
      let front : List TypeId = others ++ old in
      let count_front : length front ≡ types_before s (suc (length xs)) + (type_cut x - 1) = length-append others old ∙ omega (arith, others_count, old_count) in
      let at : 0 + length front ≡ (types_before s (suc (length xs)) + (type_cut x - 1)) + 0 = omega (arith, count_front) in
      ap (position_from (same_id (Outside name)) 0) (types_split ∙ sym (append_assoc others old (map Outside names ++ new)))
      ∙ skipped (same_id (Outside name)) 0 front (map Outside names ++ new)
      (fail_append (same_id (Outside name)) others old (no_rows name (flat_map (rows_of_assembly s) (range_with_len 1 (length xs)))) (no_rows name (rows_between 0 1 (type_cut x))))
      ∙ ap (λ (j : ℕ). position_from (same_id (Outside name)) j (map Outside names ++ new)) at
      ∙ named_at name ((types_before s (suc (length xs)) + (type_cut x - 1)) + 0) names new (no_rows name (rows_between 0 (type_cut x) (count + 1)))
      ∙ shifted (bytes_eq name) (types_before s (suc (length xs)) + (type_cut x - 1)) 0 names

-- ---- the same of any set

pub whole_count : (s : Assemblies) → 0 < length s → length (types_of s) ≡ types_before s (length s) + count_in (assembly_at s 0) TYPE_DEF + length (outside_names s (attribute_outside s))
whole_count [] h = absurd (omega (arith, h))
whole_count (x ∷ xs) h = types_count x xs

pub number_other : (s : Assemblies) (a r : ℕ) → 1 ≤ a → a < length s → 1 ≤ r → r ≤ count_in (assembly_at s a) TYPE_DEF → number_of s (Row a r) ≡ Some (types_before s a + (r - 1))
number_other [] a r low high rlow rhigh = absurd (omega (arith, high))
number_other (x ∷ xs) a r low high rlow rhigh = other_number x xs a r low high rlow rhigh

pub number_old : (s : Assemblies) (r : ℕ) → 0 < length s → 1 ≤ r → r < type_cut (assembly_at s 0) → number_of s (Row 0 r) ≡ Some (types_before s (length s) + (r - 1))
number_old [] r some low high = absurd (omega (arith, some))
number_old (x ∷ xs) r some low high = old_number x xs r low high

pub number_new : (s : Assemblies) (r : ℕ) → 0 < length s → type_cut (assembly_at s 0) ≤ r → r ≤ count_in (assembly_at s 0) TYPE_DEF
    → number_of s (Row 0 r) ≡ Some (types_before s (length s) + length (outside_names s (attribute_outside s)) + (r - 1))
number_new [] r some low high = absurd (omega (arith, some))
number_new (x ∷ xs) r some low high = new_number x xs r low high

pub number_outside : (s : Assemblies) (name : Name) → 0 < length s → number_of s (Outside name) ≡ option_map (λ k. (types_before s (length s) + (type_cut (assembly_at s 0) - 1)) + k) (place_of (outside_names s (attribute_outside s)) name)
number_outside [] name some = absurd (omega (arith, some))
number_outside (x ∷ xs) name some = outside_number x xs name

-- a row that isn't there
all_outside : (s : Assemblies) (a r from n : ℕ) → ((b : ℕ) → from ≤ b → b < from + n → a ≡ b → (r < 1 → ⊥) → 1 + (count_in (assembly_at s b) TYPE_DEF + 1 - 1) ≤ r) → AllFail (same_id (Row a r)) (runs s from n)
all_outside s a r from zero h = tt
all_outside s a r from (suc n) h =
    subst (AllFail (same_id (Row a r))) (sym (map-append of_row (rows_of_assembly s from) (flat_map (rows_of_assembly s) (range_with_len (from + 1) n))))
    (fail_append (same_id (Row a r)) (map of_row (rows_of_assembly s from)) (runs s (from + 1) n)
    (outside_rows a r 1 (count_in (assembly_at s from) TYPE_DEF + 1 - 1) from (h from (omega arith) (omega arith)))
    (all_outside s a r (from + 1) n (λ b low high. h b (omega (arith, low)) (omega (arith, high)))))

pub no_number : (s : Assemblies) (a r : ℕ) → 0 < length s → (a < length s → 1 ≤ r → count_in (assembly_at s a) TYPE_DEF < r) → None ≡ number_of s (Row a r)
no_number [] a r some h = absurd (omega (arith, some))
no_number (x ∷ xs) a r some h =
    sym (ap (position_from (same_id (Row a r)) 0) (types_split x xs)
    ∙ none_found (same_id (Row a r)) 0 (others x xs ++ (old x xs ++ (map Outside (names x xs) ++ new x xs)))
    (fail_append (same_id (Row a r)) (others x xs) (old x xs ++ (map Outside (names x xs) ++ new x xs))
    (all_outside (x ∷ xs) a r 1 (length xs) (λ b low high e from. let past : count_in (assembly_at (x ∷ xs) b) TYPE_DEF < r = there b (omega (arith, high)) e from in omega (arith, past)))
    (fail_append (same_id (Row a r)) (old x xs) (map Outside (names x xs) ++ new x xs)
    (outside_rows a r 1 (type_cut x - 1) 0 (λ e from. let past : count_in x TYPE_DEF < r = there 0 (omega arith) e from in omega (arith, past, cut_high x, cut_low x)))
    (fail_append (same_id (Row a r)) (map Outside (names x xs)) (new x xs)
    (no_names a r (names x xs))
    (outside_rows a r (type_cut x) (count_in x TYPE_DEF + 1 - type_cut x) 0 (λ e from. late e from))))))
  where
    there : (b : ℕ) → b < suc (length xs) → a ≡ b → (r < 1 → ⊥) → count_in (assembly_at (x ∷ xs) b) TYPE_DEF < r
    there b high e from = subst (λ c. count_in (assembly_at (x ∷ xs) c) TYPE_DEF < r) e (h (omega (arith, high, e)) (omega (arith, from)))

    late : a ≡ 0 → (r < type_cut x → ⊥) → type_cut x + (count_in x TYPE_DEF + 1 - type_cut x) ≤ r
    late e from =
        let past : count_in x TYPE_DEF < r = there 0 (omega arith) e (λ l. from (omega (arith, l, cut_low x))) in
        omega (arith, past, cut_high x, cut_low x)

-- ---- what the fields of the table are

pub cut_is : (x : Assembly) (o : Option ℕ) → o ≡ type_named x runtime_name → row_or (count_in x TYPE_DEF + 1) o - 1 ≡ type_cut x - 1
unfolding type_cut
cut_is x o e = ap (λ (p : Option ℕ). row_or (count_in x TYPE_DEF + 1) p - 1) e

pub start_is : (s : Assemblies) (starts : List ℕ) (a : ℕ) → starts ≡ map (types_before s) (range_with_len 1 (length s)) → 1 ≤ a → a ≤ length s → Rattle.std.proofs.Common.get_or starts (a - 1) 0 ≡ types_before s a
start_is s starts a e low high =
    ap (λ (l : List ℕ). Rattle.std.proofs.Common.get_or l (a - 1) 0) e
    ∙ Rattle.std.proofs.lemmas.List.FromFn.get_or-map-range_with_len (types_before s) 1 (length s) (a - 1) a 0 (omega (arith, low, high)) (omega (arith, low))

pub place_within : (name : Name) (i : ℕ) (names : List Name) (k : ℕ) → position_from (bytes_eq name) i names ≡ Some k → k < i + length names
place_within name i [] k e = absurd cc
place_within name i (other ∷ names) k e = go (bytes_eq name other) e (λ f. place_within name (i + 1) names k f)
  where
    or_zero : Option ℕ → ℕ
    or_zero None = 0
    or_zero (Some n) = n

    go : (b : Bool) → cond b (Some i) (position_from (bytes_eq name) (i + 1) names) ≡ Some k → (position_from (bytes_eq name) (i + 1) names ≡ Some k → k < (i + 1) + length names) → k < i + suc (length names)
    go true f again = let same : i ≡ k = ap or_zero f in omega (arith, same)
    go false f again = let later : k < (i + 1) + length names = again f in omega (arith, later)
