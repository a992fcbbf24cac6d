-- Each type of a set's list is a row that there is, and each type that a coded index names has a number.
use Rattle.std.proofs.Common.{◌≡◌, ◌∙◌, sym, ap, refl, subst, arith, rules, ℕ, zero, suc, ◌+◌, ◌-◌, ◌<◌, ◌≤◌, List, [], ◌∷◌, ◌++◌, length, Bool, true, false, ◌⊎◌, inl, inr, ◌||◌}
use Rattle.std.specs.Prelude.{find, map, reverse, bytes_eq, ◌==◌, ◌&&◌, nat_lt, nat_le, get_or, slice_get, is_some, Option, Some, None, option_map, option_and_then, filter_map, flat_map, if◌then◌else◌}
use Rattle.std.specs.List.{range_with_len, position_from, cons_option}
use Rattle.std.proofs.lemmas.Bool.{cases_lt}
use Rattle.std.proofs.lemmas.Grind.{flat_map-append}
use Rattle.cil_base.specs.declared.tables.TheConstants.{ASSEMBLY_REF, EXPORTED_TYPE, TYPE_DEF, TYPE_REF}
use Rattle.set_names.specs.Names.{Name, is_name}
use Rattle.set_names.specs.Distinct.{among, added, distinct, place_of}
use Rattle.set_names.specs.Paths.{path_within}
use Rattle.set_names.proofs.PlaceLaws.{among_place}
use Rattle.set_rows.specs.Sets.{Assembly, Assemblies, assembly_at, assembly_named, no_assembly, count_in, cell, text, is_row}
use Rattle.set_types.specs.CodedIndexes.{tag, row_of}
use Rattle.set_program.specs.declared.identity.TypeId.{TypeId}
use Rattle.set_program.specs.declared.identity.TypeId.TheVariants.{Row, Outside}
use Rattle.set_program.specs.TypeNames.{own_name, inner_name, full_name, type_named}
use Rattle.set_program.specs.References.{if_found, inside, exported_named, in_named, forwarded, by_forwarder, own_or_forwarded, says, found_within, found_in, outer_reference, by_scope, along, from_outermost, by_path, reference}
use Rattle.set_program.specs.Numbering.{Cell, type_cut, rows_between, old_rows, new_rows, order, outside_name, names_outside, fixed_names, outside_names, of_row, type_ids}
use Rattle.set_program.specs.Attributes.{named_id, attribute_outside}
use Rattle.set_program.specs.Environment.{types_of, number_of}
use Rattle.type_table.proofs.NumberingLaws.{cut_low, cut_high, other_number, old_number, new_number, outside_number}
use Rattle.set_growth.proofs.FindLaws.{Among, found_among}
use Rattle.set_growth.proofs.GrowthLists.{Each, each_append}
use Rattle.program_growth.specs.Rules.{IsRowOf, IsNumbered}

-- ---- names that are among others

same_bytes : (a b : Name) → bytes_eq a b ≡ true → a ≡ b
same_bytes a b e = search (rules, e)

is_itself : (a : Name) → bytes_eq a a ≡ true
is_itself a = search rules

among_append : (q : Name) (l m : List Name) → among q (l ++ m) ≡ (among q l || among q m)
among_append q [] m = refl
among_append q (x ∷ l) m = ap (λ (b : Bool). bytes_eq q x || b) (among_append q l m) ∙ go (bytes_eq q x)
  where
    go : (b : Bool) → (b || (among q l || among q m)) ≡ ((b || among q l) || among q m)
    go true = refl
    go false = refl

or_true : (b : Bool) → (b || true) ≡ true
or_true true = refl
or_true false = refl

pub among_left : (q : Name) (l m : List Name) → among q l ≡ true → among q (l ++ m) ≡ true
among_left q l m h = among_append q l m ∙ ap (λ (b : Bool). b || among q m) h

pub among_right : (q : Name) (l m : List Name) → among q m ≡ true → among q (l ++ m) ≡ true
among_right q l m h = among_append q l m ∙ ap (λ (b : Bool). among q l || b) h ∙ or_true (among q l)

stays_added : (q : Name) (names : List Name) (name : Name) → among q names ≡ true → among q (added names name) ≡ true
stays_added q names name h = go (among name names)
  where
    go : (b : Bool) → among q (if b then names else names ++ name ∷ []) ≡ true
    go true = h
    go false = among_left q names (name ∷ []) h

is_added : (q : Name) (names : List Name) (name : Name) → bytes_eq q name ≡ true → among q (added names name) ≡ true
is_added q names name h = go (among name names) refl
  where
    go : (b : Bool) → among name names ≡ b → among q (if b then names else names ++ name ∷ []) ≡ true
    go true e = ap (λ (n : Name). among n names) (same_bytes q name h) ∙ e
    go false e = among_right q names (name ∷ []) (ap (λ (b : Bool). b || false) h)

stays_distinct : (q : Name) (names l : List Name) → among q names ≡ true → among q (distinct names l) ≡ true
stays_distinct q names [] h = h
stays_distinct q names (name ∷ l) h = stays_distinct q (added names name) l (stays_added q names name h)

pub among_distinct : (q : Name) (names l : List Name) → among q l ≡ true → among q (distinct names l) ≡ true
among_distinct q names [] h = absurd cc
among_distinct q names (name ∷ l) h = go (bytes_eq q name) refl (λ k. among_distinct q (added names name) l k) h
  where
    go : (b : Bool) → bytes_eq q name ≡ b → (among q l ≡ true → among q (distinct (added names name) l) ≡ true) → (b || among q l) ≡ true → among q (distinct (added names name) l) ≡ true
    go true e again f = stays_distinct q (added names name) l (is_added q names name e)
    go false e again f = again f

-- ---- rows of ranges

pub among_named : (q : Name) (f : ℕ → Option Name) (r a n : ℕ) → a ≤ r → r < a + n → f r ≡ Some q → among q (filter_map f (range_with_len a n)) ≡ true
among_named q f r a zero low high e = absurd (omega (arith, low, high))
among_named q f r a (suc n) low high e = go (cases_lt a r) (λ l. among_named q f r (a + 1) n (omega (arith, l)) (omega (arith, high)) e)
  where
    later : (o : Option Name) → among q (filter_map f (range_with_len (a + 1) n)) ≡ true → among q (cons_option o (filter_map f (range_with_len (a + 1) n))) ≡ true
    later None h = h
    later (Some name) h = ap (λ (b : Bool). bytes_eq q name || b) h ∙ or_true (bytes_eq q name)

    go : (a < r) ⊎ (r ≤ a) → (a < r → among q (filter_map f (range_with_len (a + 1) n)) ≡ true) → among q (cons_option (f a) (filter_map f (range_with_len (a + 1) n))) ≡ true
    go (inl l) again = later (f a) (again l)
    go (inr l) again =
        let same : r ≡ a = omega (arith, l, low) in
        ap (λ (o : Option Name). among q (cons_option o (filter_map f (range_with_len (a + 1) n)))) (ap f (sym same) ∙ e)
        ∙ ap (λ (b : Bool). b || among q (filter_map f (range_with_len (a + 1) n))) (is_itself q)

pub among_flat : (q : Name) (f : ℕ → List Name) (r a n : ℕ) → a ≤ r → r < a + n → among q (f r) ≡ true → among q (flat_map f (range_with_len a n)) ≡ true
among_flat q f r a zero low high e = absurd (omega (arith, low, high))
among_flat q f r a (suc n) low high e = go (cases_lt a r) (λ l. among_flat q f r (a + 1) n (omega (arith, l)) (omega (arith, high)) e)
  where
    go : (a < r) ⊎ (r ≤ a) → (a < r → among q (flat_map f (range_with_len (a + 1) n)) ≡ true) → among q (f a ++ flat_map f (range_with_len (a + 1) n)) ≡ true
    go (inl l) again = among_right q (f a) (flat_map f (range_with_len (a + 1) n)) (again l)
    go (inr l) again =
        let same : r ≡ a = omega (arith, l, low) in
        among_left q (f a) (flat_map f (range_with_len (a + 1) n)) (ap (λ (k : ℕ). among q (f k)) (sym same) ∙ e)

-- of what each assembly of a set has
pub among_order : (q : Name) (f : ℕ → List Name) (s : Assemblies) (a : ℕ) → a < length s → among q (f a) ≡ true → among q (flat_map f (order s)) ≡ true
among_order q f [] a h e = absurd (omega (arith, h))
among_order q f (x ∷ xs) a h e = go a h e
  where
    split : flat_map f (order (x ∷ xs)) ≡ flat_map f (range_with_len 1 (length xs)) ++ (f 0 ++ [])
    split = flat_map-append f (range_with_len 1 (length xs)) (0 ∷ [])

    go : (b : ℕ) → b < suc (length xs) → among q (f b) ≡ true → among q (flat_map f (order (x ∷ xs))) ≡ true
    go zero l g = ap (among q) split ∙ among_right q (flat_map f (range_with_len 1 (length xs))) (f 0 ++ []) (among_left q (f 0) [] g)
    go (suc b) l g = ap (among q) split ∙ among_left q (flat_map f (range_with_len 1 (length xs))) (f 0 ++ []) (among_flat q f (suc b) 1 (length xs) (omega arith) (omega (arith, l)) g)

-- ---- where there is a row, there is an assembly

no_rows : (table row : ℕ) → 1 ≤ row → row ≤ count_in no_assembly table → ⊥
unfolding no_assembly
no_rows table row low high = absurd (omega (arith, low, high))

pub is_there : (s : Assemblies) (a table row : ℕ) → 1 ≤ row → row ≤ count_in (assembly_at s a) table → a < length s
is_there [] a table row low high = absurd (no_rows table row low high)
is_there (x ∷ xs) zero table row low high = omega arith
is_there (x ∷ xs) (suc a) table row low high = let h : a < length xs = is_there xs a table row low high in omega (arith, h)

pub row_named : (s : Assemblies) (a row : ℕ) (name : Name) → type_named (assembly_at s a) name ≡ Some row → IsRowOf s (Row a row)
unfolding type_named
row_named s a row name e =
    let f : Among 1 (count_in (assembly_at s a) TYPE_DEF) row = found_among (λ r. is_name name (full_name (assembly_at s a) r)) 1 (count_in (assembly_at s a) TYPE_DEF) row e in
    let high : row ≤ count_in (assembly_at s a) TYPE_DEF = omega (arith, f.high) in
    (is_there s a TYPE_DEF row f.low high, (f.low, high))

abbrev pub IfRow : Assemblies → Option TypeId → Type 0
IfRow s None = Unit {0}
IfRow s (Some id) = IsRowOf s id

module _ (s : Assemblies) where
  -- ---- what names lead to

  module _ (go : ℕ → Option TypeId) (on : (a : ℕ) → IfRow s (go a)) where
    in_row : (name : Name) (o : Option ℕ) → IfRow s (in_named go name o)
    in_row name None = tt
    in_row name (Some a) = on a

    forwarded_row : (name : Name) (y : Assembly) (c : ℕ) (b : Bool) → IfRow s (forwarded go s name y c b)
    forwarded_row name y c true = in_row name (assembly_named s (text y ASSEMBLY_REF (row_of c) 6))
    forwarded_row name y c false = tt

    by_row : (name : Name) (y : Assembly) (o : Option ℕ) → IfRow s (by_forwarder go s name y o)
    by_row name y None = tt
    by_row name y (Some e) = forwarded_row name y (cell y EXPORTED_TYPE e 4) (tag (cell y EXPORTED_TYPE e 4) == 1)

    says_row : (name : Name) (a : ℕ) → IfRow s (says go s name a (assembly_at s a))
    says_row name a = by_type (type_named (assembly_at s a) name) refl
      where
        by_type : (o : Option ℕ) → type_named (assembly_at s a) name ≡ o → IfRow s (own_or_forwarded go s name a (assembly_at s a) o)
        by_type (Some row) e = row_named s a row name e
        by_type None e = by_row name (assembly_at s a) (exported_named (assembly_at s a) name)

  within_row : (name : Name) (n a : ℕ) → IfRow s (found_within s name n a)
  unfolding found_within
  within_row name zero a = tt
  within_row name (suc n) a = says_row (found_within s name n) (within_row name n) name a

  pub found_row : (name : Name) (a : ℕ) → IfRow s (found_in s name a)
  found_row name a = within_row name (length s) a

  pub inside_row : (name : Name) (id : TypeId) → IfRow s (inside s name id)
  unfolding inside
  inside_row name (Outside outer) = tt
  inside_row name (Row a row) = by_name (full_name (assembly_at s a) row)
    where
      if_row : (n : Name) (o : Option ℕ) → type_named (assembly_at s a) n ≡ o → IfRow s (if_found a o)
      if_row n None e = tt
      if_row n (Some r) e = row_named s a r n e

      by_name : (o : Option Name) → IfRow s (option_and_then (λ outer. if_found a (type_named (assembly_at s a) (inner_name outer name))) o)
      by_name None = tt
      by_name (Some outer) = if_row (inner_name outer name) (type_named (assembly_at s a) (inner_name outer name)) refl

  then_row : (n : Name) (o : Option TypeId) → IfRow s (option_and_then (inside s n) o)
  then_row n None = tt
  then_row n (Some id) = inside_row n id

  along_row : (y : Assembly) (rs : List ℕ) (o : Option TypeId) → IfRow s o → IfRow s (along s y o rs)
  along_row y [] o h = h
  along_row y (r ∷ rs) o h = along_row y rs (option_and_then (inside s (own_name y TYPE_REF r)) o) (then_row (own_name y TYPE_REF r) o)

  scope_row : (a : ℕ) (y : Assembly) (name : Name) (scope : ℕ) → IfRow s (by_scope s a y name scope)
  scope_row a y name scope = by_tag (tag scope == 2) (scope == 4)
    where
      by_tag : (b c : Bool) → IfRow s (if b then in_named (found_in s name) name (assembly_named s (text y ASSEMBLY_REF (row_of scope) 6)) else if c then found_in s name a else Some (Outside name))
      by_tag true c = in_row (found_in s name) (found_row name) name (assembly_named s (text y ASSEMBLY_REF (row_of scope) 6))
      by_tag false true = found_row name a
      by_tag false false = tt

  outermost_row : (a : ℕ) (y : Assembly) (rs : List ℕ) → IfRow s (from_outermost s a y rs)
  outermost_row a y [] = tt
  outermost_row a y (r ∷ rs) = along_row y rs (by_scope s a y (own_name y TYPE_REF r) (cell y TYPE_REF r 0)) (scope_row a y (own_name y TYPE_REF r) (cell y TYPE_REF r 0))

  path_row : (a : ℕ) (y : Assembly) (o : Option (List ℕ)) → IfRow s (by_path s a y o)
  path_row a y None = tt
  path_row a y (Some path) = outermost_row a y (reverse path)

  -- what a TypeRef row names is outside, or a row that there is
  pub reference_row : (a row : ℕ) → IfRow s (reference s a row)
  unfolding reference
  reference_row a row = path_row a (assembly_at s a) (path_within (outer_reference (assembly_at s a)) (count_in (assembly_at s a) TYPE_REF) row)

-- ---- numbers

some_if : {A B : Type 0} (f : A → B) (o : Option A) → is_some o ≡ true → is_some (option_map f o) ≡ true
some_if f None h = absurd cc
some_if f (Some v) h = refl

is_some_by : {A : Type 0} (o : Option A) (v : A) → o ≡ Some v → is_some o ≡ true
is_some_by o v e = ap is_some e

module _ (x : Assembly) (xs : Assemblies) where
  abbrev s : Assemblies
  s = x ∷ xs

  pub row_numbered : (a row : ℕ) → IsRowOf s (Row a row) → is_some (number_of s (Row a row)) ≡ true
  row_numbered zero row h = go (cases_lt row (type_cut x))
    where
      go : (row < type_cut x) ⊎ (type_cut x ≤ row) → is_some (number_of s (Row 0 row)) ≡ true
      go (inl l) = ap is_some (old_number x xs row h.1.0 l)
      go (inr l) = ap is_some (new_number x xs row l h.1.1)
  row_numbered (suc a) row h = ap is_some (other_number x xs (suc a) row (omega arith) h.0 h.1.0 h.1.1)

  -- outside types that are fixed, and those that rows or attributes name
  pub name_numbered : (name : Name) → among name (fixed_names ++ (attribute_outside s ++ flat_map (names_outside s) (order s))) ≡ true → is_some (number_of s (Outside name)) ≡ true
  unfolding outside_names
  name_numbered name h =
      let there : is_some (place_of (outside_names s (attribute_outside s)) name) ≡ true =
      among_place (outside_names s (attribute_outside s)) name 0 ∙ among_distinct name [] (fixed_names ++ (attribute_outside s ++ flat_map (names_outside s) (order s))) h in
      ap is_some (outside_number x xs name) ∙ some_if _ (place_of (outside_names s (attribute_outside s)) name) there

  pub fixed_numbered : (name : Name) → among name fixed_names ≡ true → is_some (number_of s (Outside name)) ≡ true
  fixed_numbered name h = name_numbered name (among_left name fixed_names (attribute_outside s ++ flat_map (names_outside s) (order s)) h)

  outside_among : (a row : ℕ) (name : Name) → 1 ≤ row → row ≤ count_in (assembly_at s a) TYPE_REF → reference s a row ≡ Some (Outside name) → among name (names_outside s a) ≡ true
  unfolding names_outside
  outside_among a row name low high e = among_named name (λ r. outside_name (reference s a r)) row 1 (count_in (assembly_at s a) TYPE_REF) low (omega (arith, high)) (ap outside_name e)

  reference_numbered : (a row : ℕ) (id : TypeId) → 1 ≤ row → row ≤ count_in (assembly_at s a) TYPE_REF → reference s a row ≡ Some id → is_some (number_of s id) ≡ true
  reference_numbered a row (Outside name) low high e =
      name_numbered name (among_right name fixed_names (attribute_outside s ++ flat_map (names_outside s) (order s))
      (among_right name (attribute_outside s) (flat_map (names_outside s) (order s))
      (among_order name (names_outside s) s a (is_there s a TYPE_REF row low high) (outside_among a row name low high e))))
  reference_numbered a row (Row b r) low high e = row_numbered b r (subst (IfRow s) e (reference_row s a row))

  bounds : (y : Assembly) (table row : ℕ) → is_row y table row ≡ true → (1 ≤ row) × (row ≤ count_in y table)
  bounds y table row e = both (nat_lt 0 row) (nat_le row (count_in y table)) refl refl e
    where
      both : (b c : Bool) → nat_lt 0 row ≡ b → nat_le row (count_in y table) ≡ c → (b && c) ≡ true → (1 ≤ row) × (row ≤ count_in y table)
      both true true f g h = (Rattle.set_growth.proofs.FindLaws.lt_from 0 row f, Rattle.set_growth.proofs.FindLaws.le_from row (count_in y table) g)
      both true false f g h = absurd cc
      both false c f g h = absurd cc

  this : (u v : TypeId) → Some u ≡ Some v → u ≡ v
  this u v e = ap (λ (o : Option TypeId). Rattle.std.specs.Prelude.unwrap_or o u) e

  pub named_numbered : (a coded : ℕ) (id : TypeId) → named_id s a coded ≡ Some id → is_some (number_of s id) ≡ true
  named_numbered a coded id e = by_tag (tag coded == 0) (tag coded == 1) e
    where
      own : (b : Bool) → is_row (assembly_at s a) TYPE_DEF (row_of coded) ≡ b → (if b then Some (Row a (row_of coded)) else None) ≡ Some id → is_some (number_of s id) ≡ true
      own false f g = absurd cc
      own true f g =
          let at : (1 ≤ row_of coded) × (row_of coded ≤ count_in (assembly_at s a) TYPE_DEF) = bounds (assembly_at s a) TYPE_DEF (row_of coded) f in
          subst (λ (i : TypeId). is_some (number_of s i) ≡ true) (this (Row a (row_of coded)) id g) (row_numbered a (row_of coded) (is_there s a TYPE_DEF (row_of coded) at.0 at.1, at))

      other : (b : Bool) → is_row (assembly_at s a) TYPE_REF (row_of coded) ≡ b → (if b then reference s a (row_of coded) else None) ≡ Some id → is_some (number_of s id) ≡ true
      other false f g = absurd cc
      other true f g =
          let at : (1 ≤ row_of coded) × (row_of coded ≤ count_in (assembly_at s a) TYPE_REF) = bounds (assembly_at s a) TYPE_REF (row_of coded) f in
          reference_numbered a (row_of coded) id at.0 at.1 g

      by_tag : (b c : Bool) → (if b then (if is_row (assembly_at s a) TYPE_DEF (row_of coded) then Some (Row a (row_of coded)) else None) else if c then (if is_row (assembly_at s a) TYPE_REF (row_of coded) then reference s a (row_of coded) else None) else None) ≡ Some id
          → is_some (number_of s id) ≡ true
      by_tag true c g = own (is_row (assembly_at s a) TYPE_DEF (row_of coded)) refl g
      by_tag false true g = other (is_row (assembly_at s a) TYPE_REF (row_of coded)) refl g
      by_tag false false g = absurd (let wrong : None ≡ Some id = g in cc)

  -- ---- types of the list

  ranged : (a from n : ℕ) → ((r : ℕ) → from ≤ r → r < from + n → IsRowOf s (Row a r)) → Each (IsRowOf s) (map of_row (map {B = Cell} (λ row. (a, row)) (range_with_len from n)))
  ranged a from zero h = tt
  ranged a from (suc n) h = (h from (omega arith) (omega arith), ranged a (from + 1) n (λ r low high. h r (omega (arith, low)) (omega (arith, high))))

  each_map_append : (cells more : List Cell) → Each (IsRowOf s) (map of_row cells) → Each (IsRowOf s) (map of_row more) → Each (IsRowOf s) (map of_row (cells ++ more))
  each_map_append [] more h k = k
  each_map_append (c ∷ cells) more h k = (h.0, each_map_append cells more h.1 k)

  others_there : (from n : ℕ) → Each (IsRowOf s) (map of_row (flat_map (λ a. rows_between a 1 (count_in (assembly_at s a) TYPE_DEF + 1)) (range_with_len from n)))
  others_there from zero = tt
  others_there from (suc n) =
      each_map_append (rows_between from 1 (count_in (assembly_at s from) TYPE_DEF + 1)) (flat_map (λ a. rows_between a 1 (count_in (assembly_at s a) TYPE_DEF + 1)) (range_with_len (from + 1) n))
      (ranged from 1 (count_in (assembly_at s from) TYPE_DEF + 1 - 1) (λ r low high. let le : r ≤ count_in (assembly_at s from) TYPE_DEF = omega (arith, high) in (is_there s from TYPE_DEF r low le, (low, le))))
      (others_there (from + 1) n)

  names_there : (names : List Name) → Each (IsRowOf s) (map Outside names)
  names_there [] = tt
  names_there (name ∷ names) = (tt, names_there names)

  target_there : (r : ℕ) → 1 ≤ r → r ≤ count_in x TYPE_DEF → IsRowOf s (Row 0 r)
  target_there r low high = (omega arith, (low, high))

  all_there : Each (IsRowOf s) (types_of s)
  unfolding types_of type_ids
  all_there =
      each_append (IsRowOf s) (map of_row (old_rows s TYPE_DEF)) (map Outside (outside_names s (attribute_outside s)) ++ map of_row (new_rows s TYPE_DEF))
      (each_map_append (flat_map (λ a. rows_between a 1 (count_in (assembly_at s a) TYPE_DEF + 1)) (range_with_len 1 (length xs))) (rows_between 0 1 (type_cut x))
      (others_there 1 (length xs))
      (ranged 0 1 (type_cut x - 1) (λ r low high. target_there r low (omega (arith, high, cut_high x)))))
      (each_append (IsRowOf s) (map Outside (outside_names s (attribute_outside s))) (map of_row (new_rows s TYPE_DEF))
      (names_there (outside_names s (attribute_outside s)))
      (ranged 0 (type_cut x) (count_in x TYPE_DEF + 1 - type_cut x) (λ r low high. target_there r (omega (arith, low, cut_low x)) (omega (arith, high, low)))))

  got : (l : List TypeId) (k : ℕ) (id : TypeId) → Each (IsRowOf s) l → slice_get l k ≡ Some id → IsRowOf s id
  got [] k id h e = absurd cc
  got (i ∷ l) zero id h e = subst (IsRowOf s) (this i id e) h.0
  got (i ∷ l) (suc k) id h e = got l k id h.1 e

  pub is_numbered : IsNumbered s
  is_numbered = record { types = λ k id e. got (types_of s) k id all_there e; named = named_numbered }
