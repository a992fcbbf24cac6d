-- Appended rows move no type's number.
use Rattle.std.proofs.Common.{◌≡◌, ◌∙◌, sym, ap, refl, arith, append_assoc, zero-add, suc-add, add-zero, ℕ, zero, suc, ◌+◌, ◌-◌, ◌≤◌, ◌<◌, List, [], ◌∷◌, ◌++◌, length, Bool, true, false}
use Rattle.std.specs.Prelude.{cond, map, Option, Some, None, is_some, filter_map, flat_map, if◌then◌else◌}
use Rattle.std.specs.List.{range_with_len, position_from, cons_option}
use Rattle.std.proofs.lemmas.List.{map-append, append-nil}
use Rattle.std.proofs.lemmas.List.Elements.{filter_map-append}
use Rattle.std.proofs.lemmas.Grind.{flat_map-append}
use Rattle.set_program.specs.declared.identity.TypeId.{TypeId}
use Rattle.set_program.specs.declared.identity.TypeId.TheVariants.{Outside}
use Rattle.set_names.specs.Names.{Name}
use Rattle.set_rows.specs.Sets.{Assembly, Assemblies, assembly_at, count_in, rows_in}
use Rattle.set_program.specs.References.{reference}
use Rattle.set_program.specs.Numbering.{Cell, runtime_name, row_or, type_cut, rows_between, old_rows, new_rows, order, outside_name, names_outside, fixed_names, outside_names, of_row, type_ids, same_id, number_in}
use Rattle.set_names.specs.Distinct.{among, added, distinct}
use Rattle.set_program.specs.Appended.{AppendsReferences, AreIndexes, AllNamed, KeepsTypes}
use Rattle.set_program.proofs.AppendLaws.{fun_same, type_named_same, reference_other, reference_own, references_stay}
use Rattle.cil_base.specs.declared.tables.TheConstants.{TYPE_DEF, TYPE_REF}

-- ---- lists

pub range_split : (a n k : ℕ) → range_with_len a (n + k) ≡ range_with_len a n ++ range_with_len (a + n) k
range_split a zero k = rw (zero-add k, add-zero a)
range_split a (suc n) k =
    let shift : (a + 1) + n ≡ a + suc n = omega arith in
    ap (range_with_len a) (suc-add n k) ∙ ap (λ (l : List ℕ). a ∷ l) (range_split (a + 1) n k ∙ ap (λ (b : ℕ). range_with_len (a + 1) n ++ range_with_len b k) shift)

pub filter_map_on : {B : Type 0} (f g : ℕ → Option B) (a n : ℕ) → ((r : ℕ) → a ≤ r → r < a + n → f r ≡ g r) → filter_map f (range_with_len a n) ≡ filter_map g (range_with_len a n)
filter_map_on f g a zero h = refl
filter_map_on {B} f g a (suc n) h =
    ap (λ (o : Option B). cons_option o (filter_map f (range_with_len (a + 1) n))) (h a (omega arith) (omega arith))
    ∙ ap (cons_option (g a)) (filter_map_on f g (a + 1) n (λ r low high. h r (omega (arith, low)) (omega (arith, high))))

pub flat_map_on : {B : Type 0} (f g : ℕ → List B) (a n : ℕ) → ((r : ℕ) → a ≤ r → f r ≡ g r) → flat_map f (range_with_len a n) ≡ flat_map g (range_with_len a n)
flat_map_on f g a zero h = refl
flat_map_on {B} f g a (suc n) h =
    ap (λ (l : List B). l ++ flat_map f (range_with_len (a + 1) n)) (h a (omega arith)) ∙ ap (λ (l : List B). g a ++ l) (flat_map_on f g (a + 1) n (λ r low. h r (omega (arith, low))))

found_before : {A : Type 0} (test : A → Bool) (i k : ℕ) (xs more : List A) → position_from test i xs ≡ Some k → position_from test i (xs ++ more) ≡ Some k
found_before test i k [] more e = absurd cc
found_before test i k (x ∷ xs) more e = go (test x) (λ h. found_before test (i + 1) k xs more h) e
  where
    go : (b : Bool) → (position_from test (i + 1) xs ≡ Some k → position_from test (i + 1) (xs ++ more) ≡ Some k)
        → cond b (Some i) (position_from test (i + 1) xs) ≡ Some k → cond b (Some i) (position_from test (i + 1) (xs ++ more)) ≡ Some k
    go true again e = e
    go false again e = again e

-- ---- names, each once

pub distinct_split : (names l m : List Name) → distinct names (l ++ m) ≡ distinct (distinct names l) m
distinct_split names [] m = refl
distinct_split names (name ∷ l) m = distinct_split (added names name) l m

pub record Grows (names : List Name) (all : List Name) : Type 0 where
  pub more : List Name
  pub is : all ≡ names ++ more

grows_on : (names more all : List Name) → Grows (names ++ more) all → Grows names all
grows_on names more all g = record { more = more ++ g.more; is = g.is ∙ append_assoc names more g.more }

added_grows : (names : List Name) (name : Name) → Grows names (added names name)
added_grows names name = go (among name names)
  where
    go : (b : Bool) → Grows names (if b then names else names ++ name ∷ [])
    go true = record { more = []; is = sym (append-nil names) }
    go false = record { more = name ∷ []; is = refl }

grows_both : (a b c : List Name) → Grows a b → Grows b c → Grows a c
grows_both a b c g h = record { more = g.more ++ h.more; is = h.is ∙ ap (λ (l : List Name). l ++ h.more) g.is ∙ append_assoc a g.more h.more }

distinct_grows : (names l : List Name) → Grows names (distinct names l)
distinct_grows names [] = record { more = []; is = sym (append-nil names) }
distinct_grows names (name ∷ l) = grows_both names (added names name) (distinct (added names name) l) (added_grows names name) (distinct_grows (added names name) l)

-- ---- the law

module _ (x x' : Assembly) (xs : Assemblies) (same : AppendsReferences x x') (indexes : AreIndexes x) (named : AllNamed (x ∷ xs)) where
  abbrev s : Assemblies
  s = x ∷ xs

  abbrev s' : Assemblies
  s' = x' ∷ xs

  abbrev row_name : Assemblies → ℕ → ℕ → Option Name
  row_name u a row = outside_name (reference u a row)

  stays_named : (o o' : Option TypeId) → is_some o ≡ true → ((id : TypeId) → o ≡ Some id → o' ≡ Some id) → o' ≡ o
  stays_named None o' e h = absurd cc
  stays_named (Some id) o' e h = h id refl

  old_name : (row : ℕ) → 1 ≤ row → row < 1 + count_in x TYPE_REF → row_name s' 0 row ≡ row_name s 0 row
  old_name row low high =
      let old : row ≤ count_in x TYPE_REF = omega (arith, high) in
      ap outside_name (stays_named (reference s 0 row) (reference s' 0 row) (named 0 row old low) (λ id e. reference_own x x' xs same indexes row id old e))

  new_names : List Name
  new_names = filter_map (row_name s' 0) (range_with_len (1 + count_in x TYPE_REF) (count_in x' TYPE_REF - count_in x TYPE_REF))

  own_names : names_outside s' 0 ≡ names_outside s 0 ++ new_names
  unfolding names_outside new_names
  own_names =
      let total : count_in x' TYPE_REF ≡ count_in x TYPE_REF + (count_in x' TYPE_REF - count_in x TYPE_REF) = omega (arith, same.more 0x01) in
      ap (λ (n : ℕ). filter_map (row_name s' 0) (range_with_len 1 n)) total
      ∙ ap (filter_map (row_name s' 0)) (range_split 1 (count_in x TYPE_REF) (count_in x' TYPE_REF - count_in x TYPE_REF))
      ∙ filter_map-append (row_name s' 0) (range_with_len 1 (count_in x TYPE_REF)) (range_with_len (1 + count_in x TYPE_REF) (count_in x' TYPE_REF - count_in x TYPE_REF))
      ∙ ap (λ (l : List Name). l ++ filter_map (row_name s' 0) (range_with_len (1 + count_in x TYPE_REF) (count_in x' TYPE_REF - count_in x TYPE_REF))) (filter_map_on (row_name s' 0) (row_name s 0) 1 (count_in x TYPE_REF) old_name)

  other_names : (a : ℕ) → 1 ≤ a → names_outside s' a ≡ names_outside s a
  unfolding names_outside
  other_names zero low = absurd (omega (arith, low))
  other_names (suc a) low =
      ap (λ (f : ℕ → Option TypeId). filter_map (λ row. outside_name (f row)) (rows_in (assembly_at s (suc a)) TYPE_REF)) (fun_same (reference s' (suc a)) (reference s (suc a)) (reference_other x x' xs same indexes a))

  others : List ℕ
  others = range_with_len 1 (length xs)

  all_names : flat_map (names_outside s') (order s') ≡ flat_map (names_outside s) (order s) ++ new_names
  unfolding others
  all_names =
      flat_map-append (names_outside s') others (0 ∷ [])
      ∙ ap (λ (l : List Name). l ++ (names_outside s' 0 ++ [])) (flat_map_on (names_outside s') (names_outside s) 1 (length xs) other_names)
      ∙ ap (λ (l : List Name). flat_map (names_outside s) others ++ l) (append-nil (names_outside s' 0) ∙ own_names ∙ ap (λ (l : List Name). l ++ new_names) (sym (append-nil (names_outside s 0))))
      ∙ sym (append_assoc (flat_map (names_outside s) others) (names_outside s 0 ++ []) new_names)
      ∙ ap (λ (l : List Name). l ++ new_names) (sym (flat_map-append (names_outside s) others (0 ∷ [])))

  pub outside_grows : (attributes : List Name) → Grows (outside_names s attributes) (outside_names s' attributes)
  unfolding outside_names
  outside_grows attributes =
      let walked : List Name = flat_map (names_outside s) (order s) in
      let front : fixed_names ++ (attributes ++ flat_map (names_outside s') (order s')) ≡ (fixed_names ++ (attributes ++ walked)) ++ new_names =
      ap (λ (l : List Name). fixed_names ++ (attributes ++ l)) all_names
      ∙ ap (λ (l : List Name). fixed_names ++ l) (sym (append_assoc attributes walked new_names))
      ∙ sym (append_assoc fixed_names (attributes ++ walked) new_names) in
      let split : distinct [] (fixed_names ++ (attributes ++ flat_map (names_outside s') (order s'))) ≡ distinct (distinct [] (fixed_names ++ (attributes ++ walked))) new_names =
      ap (distinct []) front ∙ distinct_split [] (fixed_names ++ (attributes ++ walked)) new_names in
      let g : Grows (distinct [] (fixed_names ++ (attributes ++ walked))) (distinct (distinct [] (fixed_names ++ (attributes ++ walked))) new_names) = distinct_grows (distinct [] (fixed_names ++ (attributes ++ walked))) new_names in
      record { more = g.more; is = split ∙ g.is }

  cut_same : type_cut x' ≡ type_cut x
  unfolding type_cut
  cut_same = ap (λ (n : ℕ). row_or (n + 1) (type_named' x')) (same.same_count TYPE_DEF refl) ∙ ap (row_or (count_in x TYPE_DEF + 1)) (type_named_same x x' same runtime_name)
    where
      type_named' : Assembly → Option ℕ
      type_named' y = Rattle.set_program.specs.TypeNames.type_named y runtime_name

  old_same : old_rows s' TYPE_DEF ≡ old_rows s TYPE_DEF
  old_same =
      ap (λ (n : ℕ). flat_map (λ a. rows_between a 1 (count_in (assembly_at s' a) TYPE_DEF + 1)) others' ++ rows_between 0 1 n) cut_same
      ∙ ap (λ (l : List Cell). l ++ rows_between 0 1 (type_cut x)) (flat_map_on (λ a. rows_between a 1 (count_in (assembly_at s' a) TYPE_DEF + 1)) (λ a. rows_between a 1 (count_in (assembly_at s a) TYPE_DEF + 1)) 1 (length xs) other_rows)
    where
      others' : List ℕ
      others' = range_with_len 1 (length xs)

      other_rows : (a : ℕ) → 1 ≤ a → rows_between a 1 (count_in (assembly_at s' a) TYPE_DEF + 1) ≡ rows_between a 1 (count_in (assembly_at s a) TYPE_DEF + 1)
      other_rows zero low = absurd (omega (arith, low))
      other_rows (suc a) low = refl

  new_same : new_rows s' TYPE_DEF ≡ new_rows s TYPE_DEF
  new_same = ap (λ (n : ℕ). rows_between 0 n (count_in x' TYPE_DEF + 1)) cut_same ∙ ap (λ (n : ℕ). rows_between 0 (type_cut x) (n + 1)) (same.same_count TYPE_DEF refl)

  pub types_grow : (attributes : List Name) → new_rows s TYPE_DEF ≡ [] → (more : List TypeId) × (type_ids s' attributes ≡ type_ids s attributes ++ more)
  unfolding type_ids
  types_grow attributes none =
      let g : Grows (outside_names s attributes) (outside_names s' attributes) = outside_grows attributes in
      let old : List TypeId = map of_row (old_rows s TYPE_DEF) in
      let names : List TypeId = map Outside (outside_names s attributes) in (
        map Outside g.more,
        ap (λ (l : List Cell). map of_row l ++ (map Outside (outside_names s' attributes) ++ map of_row (new_rows s' TYPE_DEF))) old_same
            ∙ ap (λ (l : List Cell). old ++ (map Outside (outside_names s' attributes) ++ map of_row l)) (new_same ∙ none)
            ∙ ap (λ (l : List TypeId). old ++ l) (append-nil (map Outside (outside_names s' attributes)) ∙ ap (map Outside) g.is ∙ map-append Outside (outside_names s attributes) g.more)
            ∙ sym (append_assoc old names (map Outside g.more))
            ∙ ap (λ (l : List TypeId). (old ++ l) ++ map Outside g.more) (sym (append-nil names) ∙ ap (λ (l : List Cell). names ++ map of_row l) (sym none)),
      )

  pub numbers_stay : (attributes : List Name) → new_rows s TYPE_DEF ≡ [] → (id : TypeId) (k : ℕ) → number_in (type_ids s attributes) id ≡ Some k → number_in (type_ids s' attributes) id ≡ Some k
  numbers_stay attributes none id k e =
      let g : (more : List TypeId) × (type_ids s' attributes ≡ type_ids s attributes ++ more) = types_grow attributes none in
      ap (position_from (same_id id) 0) g.1 ∙ found_before (same_id id) 0 k (type_ids s attributes) g.0 e

  pub keeps_types : KeepsTypes s s'
  keeps_types = record { references = references_stay x x' xs same indexes; types = types_grow; numbers = numbers_stay }
