-- The types of a set in order, by the parts that are pushed.
use Rattle.std.proofs.Common.{◌≡◌, ◌∙◌, sym, ap, refl, arith, append_assoc, ℕ, zero, suc, ◌+◌, ◌-◌, ◌<◌, ◌≤◌, List, [], ◌∷◌, ◌++◌, take, get_or, length, length-append}
use Rattle.std.specs.Prelude.{map, flat_map, slice_get, Some}
use Rattle.std.specs.List.{range_with_len}
use Rattle.std.proofs.lemmas.List.{map-append, length-map, append-nil}
use Rattle.std.proofs.lemmas.List.FromFn.{length-range_with_len, map-range_with_len_more}
use Rattle.std.proofs.lemmas.Grind.{flat_map-append}
use Rattle.set_program.proofs.NumberLaws.{range_split}
use Rattle.std.proofs.lemmas.Simd.{map-map}
use Rattle.cil_base.specs.declared.tables.TheConstants.{TYPE_DEF}
use Rattle.set_names.specs.Names.{Name}
use Rattle.set_rows.specs.Sets.{Assembly, Assemblies, assembly_at, count_in}
use Rattle.set_types.specs.CodedTypes.{coded_of}
use Rattle.set_types.specs.declared.coded.CodedTypes.{CodedTypes}
use Rattle.set_program.specs.declared.identity.TypeId.TheVariants.{Outside}
use Rattle.set_program.specs.Numbering.{Cell, type_cut, rows_between, outside_names, of_row, old_rows, new_rows, type_ids}
use Rattle.set_program.specs.Attributes.{attribute_outside}
use Rattle.set_program.specs.Environment.{types_of, coded_in}
use Rattle.members.specs.declared.assembly_members.AssemblyMembers.{AssemblyMembers}
use Rattle.members.specs.declared.set_type.SetType.{SetType}
use Rattle.member_table.specs.Environments.{Environment, environment, environment_in, set_type, set_types, AreOf}
use Rattle.member_table.proofs.EnvironmentLaws.{environment_same, many}
use Rattle.type_table.proofs.NumberingLaws.{cut_low}
use Rattle.member_numbers.specs.Types.{type_at, types_from, types_in, outside_type, outside_types, all_in}

-- ---- lists

map_flat : {A B C : Type 0} (h : B → C) (f : A → List B) (xs : List A) → map h (flat_map f xs) ≡ flat_map (λ x. map h (f x)) xs
map_flat h f [] = refl
map_flat {A} {B} {C} h f (x ∷ xs) = map-append h (f x) (flat_map f xs) ∙ ap (λ (l : List C). map h (f x) ++ l) (map_flat h f xs)

flat_map_same : {B : Type 0} (f g : ℕ → List B) (xs : List ℕ) → ((a : ℕ) → f a ≡ g a) → flat_map f xs ≡ flat_map g xs
flat_map_same f g [] h = refl
flat_map_same {B} f g (x ∷ xs) h = ap (λ (l : List B). l ++ flat_map f xs) (h x) ∙ ap (λ (l : List B). g x ++ l) (flat_map_same f g xs h)

const_same : {A B : Type 0} (t : B) (xs : List A) (i : ℕ) → map (λ (k : ℕ). t) (range_with_len i (length xs)) ≡ map (λ (x : A). t) xs
const_same t [] i = refl
const_same {A} {B} t (x ∷ xs) i = ap (λ (l : List B). t ∷ l) (const_same t xs (i + 1))

mapped_at : {A B : Type 0} (f : A → B) (l : List A) (a : ℕ) (m : A) → slice_get l a ≡ Some m → slice_get (map f l) a ≡ Some (f m)
mapped_at f [] a m e = absurd cc
mapped_at {A} {B} f (x ∷ l) zero m e = let same : x ≡ m = cc in ap (λ (y : A). Some (f y)) same
mapped_at f (x ∷ l) (suc a) m e = mapped_at f l a m e

-- ---- one assembly

-- the rows of an assembly as types
between : (f : Cell → SetType) (a from to : ℕ) → map f (rows_between a from to) ≡ map (λ row. f (a, row)) (range_with_len from (to - from))
between f a from to = map-map f (λ (row : ℕ). (a, row)) (range_with_len from (to - from))

module _ (x : Assembly) (xs : Assemblies) where
  abbrev s : Assemblies
  s = x ∷ xs

  abbrev names : List Name
  names = outside_names s (attribute_outside s)

  abbrev count : ℕ
  count = count_in x TYPE_DEF

  abbrev of_cell : Cell → SetType
  of_cell c = set_type s (of_row c)

  abbrev others : List SetType
  others = flat_map (types_in (environment s)) (range_with_len 1 (length xs))

  abbrev old : List SetType
  old = types_from (environment s) 0 1 (type_cut x - 1)

  abbrev outside : List SetType
  outside = map (λ (name : Name). outside_type (length s)) names

  abbrev new : List SetType
  new = types_from (environment s) 0 (type_cut x) (count + 1 - type_cut x)

  rows_of_one : (a : ℕ) → map of_cell (rows_between a 1 (count_in (assembly_at s a) TYPE_DEF + 1)) ≡ types_in (environment s) a
  rows_of_one a =
      let all : count_in (assembly_at s a) TYPE_DEF + 1 - 1 ≡ count_in (assembly_at s a) TYPE_DEF = omega arith in
      between of_cell a 1 (count_in (assembly_at s a) TYPE_DEF + 1)
      ∙ ap (λ (n : ℕ). map (λ row. of_cell (a, row)) (range_with_len 1 n)) all

  old_is : map (set_type s) (map of_row (old_rows s TYPE_DEF)) ≡ others ++ old
  old_is =
      map-map (set_type s) of_row (old_rows s TYPE_DEF)
      ∙ map-append of_cell (flat_map (λ a. rows_between a 1 (count_in (assembly_at s a) TYPE_DEF + 1)) (range_with_len 1 (length xs))) (rows_between 0 1 (type_cut x))
      ∙ ap (λ (l : List SetType). l ++ map of_cell (rows_between 0 1 (type_cut x))) (
      map_flat of_cell (λ a. rows_between a 1 (count_in (assembly_at s a) TYPE_DEF + 1)) (range_with_len 1 (length xs))
      ∙ flat_map_same (λ a. map of_cell (rows_between a 1 (count_in (assembly_at s a) TYPE_DEF + 1))) (types_in (environment s)) (range_with_len 1 (length xs)) rows_of_one)
      ∙ ap (λ (l : List SetType). others ++ l) (between of_cell 0 1 (type_cut x))

  new_is : map (set_type s) (map of_row (new_rows s TYPE_DEF)) ≡ new
  new_is = map-map (set_type s) of_row (new_rows s TYPE_DEF) ∙ between of_cell 0 (type_cut x) (count + 1)

  types_split : set_types s ≡ (others ++ old) ++ (outside ++ new)
  unfolding set_types types_of type_ids
  types_split =
      map-append (set_type s) (map of_row (old_rows s TYPE_DEF)) (map Outside names ++ map of_row (new_rows s TYPE_DEF))
      ∙ ap (λ (l : List SetType). l ++ map (set_type s) (map Outside names ++ map of_row (new_rows s TYPE_DEF))) old_is
      ∙ ap (λ (l : List SetType). (others ++ old) ++ l) (
      map-append (set_type s) (map Outside names) (map of_row (new_rows s TYPE_DEF))
      ∙ ap (λ (l : List SetType). l ++ map (set_type s) (map of_row (new_rows s TYPE_DEF))) (map-map (set_type s) Outside names)
      ∙ ap (λ (l : List SetType). outside ++ l) new_is)

  types_counted : length (types_of s) ≡ length (others ++ old) + (length names + (count + 1 - type_cut x))
  unfolding set_types
  types_counted =
      sym (length-map (types_of s) (set_type s))
      ∙ ap length types_split
      ∙ length-append (others ++ old) (outside ++ new)
      ∙ ap (λ (n : ℕ). length (others ++ old) + n) (length-append outside new
      ∙ ap (λ (n : ℕ). n + length new) (length-map names (λ (name : Name). outside_type (length s)))
      ∙ ap (λ (n : ℕ). length names + n) (length-map (range_with_len (type_cut x) (count + 1 - type_cut x)) (type_at (environment s) 0) ∙ length-range_with_len (type_cut x) (count + 1 - type_cut x)))

  pushed : (o n m : ℕ) → o ≡ type_cut x - 1 → n ≡ count - o → m ≡ length (types_of s) - length (others ++ types_from (environment s) 0 1 o) - n
      → ((others ++ types_from (environment s) 0 1 o) ++ outside_types (length s) m) ++ types_from (environment s) 0 (o + 1) n ≡ set_types s
  pushed o n m e f g =
      let low : 1 ≤ type_cut x = cut_low x in
      let first : o + 1 ≡ type_cut x = omega (arith, low, e) in
      let rest : n ≡ count + 1 - type_cut x = omega (arith, low, e, f) in
      let counted : length (types_of s) ≡ length (others ++ old) + (length names + (count + 1 - type_cut x)) = types_counted in
      let same : length (others ++ types_from (environment s) 0 1 o) ≡ length (others ++ old) = ap (λ (k : ℕ). length (others ++ types_from (environment s) 0 1 k)) e in
      let names_left : m ≡ length names = omega (arith, g, counted, same, rest) in
      ap (λ (k : ℕ). ((others ++ types_from (environment s) 0 1 k) ++ outside_types (length s) m) ++ types_from (environment s) 0 (o + 1) n) e
      ∙ ap (λ (k : ℕ). ((others ++ old) ++ outside_types (length s) k) ++ types_from (environment s) 0 (o + 1) n) names_left
      ∙ ap (λ (l : List SetType). ((others ++ old) ++ l) ++ types_from (environment s) 0 (o + 1) n) (const_same (outside_type (length s)) names 0)
      ∙ ap (λ (k : ℕ). ((others ++ old) ++ outside) ++ types_from (environment s) 0 k n) first
      ∙ ap (λ (k : ℕ). ((others ++ old) ++ outside) ++ types_from (environment s) 0 (type_cut x) k) rest
      ∙ append_assoc (others ++ old) outside new
      ∙ sym types_split

-- ---- of the assemblies as data

-- how many types aren't of the set, where there are so many in all
abbrev pub left : Environment → ℕ → ℕ → ℕ → ℕ → ℕ
left e n all old new = all - length (flat_map (types_in e) (range_with_len 1 (n - 1)) ++ types_from e 0 1 old) - new

abbrev pub all_of : Environment → ℕ → ℕ → ℕ → ℕ → List SetType
all_of e n all old new = all_in e n old (left e n all old new) new

all_types_are : (s : Assemblies) (old new all : ℕ) → 0 < length s → old ≡ type_cut (assembly_at s 0) - 1 → new ≡ count_in (assembly_at s 0) TYPE_DEF - old → all ≡ length (types_of s) → all_of (environment s) (length s) all old new ≡ set_types s
all_types_are [] old new all some e f g = absurd (omega (arith, some))
all_types_are (x ∷ xs) old new all some e f g =
    let others_left : length xs ≡ suc (length xs) - 1 = omega arith in
    ap (λ (k : ℕ). all_of (environment (x ∷ xs)) (length (x ∷ xs)) k old new) g
    ∙ sym (ap (λ (k : ℕ).
    ((flat_map (types_in (environment (x ∷ xs))) (range_with_len 1 k) ++ types_from (environment (x ∷ xs)) 0 1 old)
    ++ outside_types (length (x ∷ xs)) (length (types_of (x ∷ xs)) - length (flat_map (types_in (environment (x ∷ xs))) (range_with_len 1 k) ++ types_from (environment (x ∷ xs)) 0 1 old) - new))
    ++ types_from (environment (x ∷ xs)) 0 (old + 1) new) others_left)
    ∙ pushed x xs old new (length (types_of (x ∷ xs)) - length (flat_map (types_in (environment (x ∷ xs))) (range_with_len 1 (length xs)) ++ types_from (environment (x ∷ xs)) 0 1 old) - new) e f refl

module _ (s : Assemblies) (assemblies : List AssemblyMembers) (coded : List CodedTypes) (types : List SetType) (rows : map (λ m. m.rows) assemblies ≡ s) (codes : map (λ m. m.coded) assemblies ≡ coded)
    (are : (a : ℕ) (c : CodedTypes) → slice_get coded a ≡ Some c → coded_of c ≡ coded_in s a) where
  coded_are : (a : ℕ) (m : AssemblyMembers) → slice_get assemblies a ≡ Some m → coded_of m.coded ≡ coded_in s a
  coded_are a m e = are a m.coded (ap (λ (l : List CodedTypes). slice_get l a) (sym codes) ∙ mapped_at (λ m. m.coded) assemblies a m e)

  by_types : AreOf s assemblies (set_types s)
  by_types = record { rows = rows; coded = coded_are; bases = refl }

  pub are_of : (old new all : ℕ) → 0 < length s → old ≡ type_cut (assembly_at s 0) - 1 → new ≡ count_in (assembly_at s 0) TYPE_DEF - old → all ≡ length (types_of s)
      → types ≡ all_of (environment_in assemblies []) (length assemblies) all old new → AreOf s assemblies types
  are_of old new all some e f g h = record {
    rows = rows;
    coded = coded_are;
    bases = h
        ∙ ap (λ (k : ℕ). all_of (environment_in assemblies []) k all old new) (many s assemblies (set_types s) by_types)
        ∙ ap (λ (v : Environment). all_of v (length s) all old new) (environment_same s assemblies (set_types s) by_types)
        ∙ all_types_are s old new all some e f g;
  }

-- ---- types that are pushed

pub pushed_row : (f : ℕ → SetType) (from k : ℕ) (start older newer : List SetType) (t : SetType) → newer ≡ older ++ t ∷ [] → older ≡ start ++ map f (range_with_len from k) → t ≡ f (from + k) → newer ≡ start ++ map f (range_with_len from (k + 1))
pushed_row f from k start older newer t e h g =
    e ∙ ap (λ (l : List SetType). l ++ t ∷ []) h
    ∙ append_assoc start (map f (range_with_len from k)) (t ∷ [])
    ∙ ap (λ (y : SetType). start ++ (map f (range_with_len from k) ++ y ∷ [])) g
    ∙ ap (λ (l : List SetType). start ++ l) (sym (map-range_with_len_more f from k (from + k) refl))

pub pushed_rows : (f : ℕ → List SetType) (k : ℕ) (start older newer : List SetType) → newer ≡ older ++ f (k + 1) → older ≡ start ++ flat_map f (range_with_len 1 k) → newer ≡ start ++ flat_map f (range_with_len 1 (k + 1))
pushed_rows f k start older newer e h =
    let next : k + 1 ≡ 1 + k = omega arith in
    e ∙ ap (λ (l : List SetType). l ++ f (k + 1)) h
    ∙ append_assoc start (flat_map f (range_with_len 1 k)) (f (k + 1))
    ∙ ap (λ (a : ℕ). start ++ (flat_map f (range_with_len 1 k) ++ f a)) next
    ∙ ap (λ (l : List SetType). start ++ (flat_map f (range_with_len 1 k) ++ l)) (sym (append-nil (f (1 + k))))
    ∙ ap (λ (l : List SetType). start ++ l) (sym (flat_map-append f (range_with_len 1 k) (range_with_len (1 + k) 1)) ∙ ap (flat_map f) (sym (range_split 1 k 1)))

-- ---- assemblies that are pushed

take_next : {A : Type 0} (l : List A) (n : ℕ) (x d : A) → n < length l → x ≡ get_or l n d → take n l ++ x ∷ [] ≡ take (suc n) l
take_next [] n x d h e = absurd (omega (arith, h))
take_next {A} (y ∷ l) zero x d h e = ap (λ (z : A). z ∷ []) e
take_next {A} (y ∷ l) (suc n) x d h e = ap (λ (m : List A). y ∷ m) (take_next l n x d (omega (arith, h)) e)

pub rows_more : (s : Assemblies) (older newer : List AssemblyMembers) (m : AssemblyMembers) (d : Assembly) → newer ≡ older ++ m ∷ [] → length older < length s → m.rows ≡ get_or s (length older) d → map (λ m. m.rows) older ≡ take (length older) s
    → map (λ m. m.rows) newer ≡ take (length newer) s
rows_more s older newer m d e h is so_far =
    let many : suc (length older) ≡ length newer = omega (arith, ap length e ∙ length-append older (m ∷ [])) in
    ap (map (λ (m : AssemblyMembers). m.rows)) e
    ∙ map-append (λ (m : AssemblyMembers). m.rows) older (m ∷ [])
    ∙ ap (λ (l : Assemblies). l ++ m.rows ∷ []) so_far
    ∙ take_next s (length older) m.rows d h is
    ∙ ap (λ (n : ℕ). take n s) many

pub coded_more : (older newer : List AssemblyMembers) (m : AssemblyMembers) (c : CodedTypes) (coded : List CodedTypes) → newer ≡ older ++ m ∷ [] → m.coded ≡ c → map (λ m. m.coded) older ≡ coded → map (λ m. m.coded) newer ≡ coded ++ c ∷ []
coded_more older newer m c coded e is so_far =
    ap (map (λ (m : AssemblyMembers). m.coded)) e
    ∙ map-append (λ (m : AssemblyMembers). m.coded) older (m ∷ [])
    ∙ ap (λ (l : List CodedTypes). l ++ m.coded ∷ []) so_far
    ∙ ap (λ (k : CodedTypes). coded ++ k ∷ []) is
