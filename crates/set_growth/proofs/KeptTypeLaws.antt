-- What references name, and the numbers of types, where rows are appended.
use Rattle.std.proofs.Common.{◌≡◌, ◌∙◌, sym, ap, refl, arith, append_assoc, ℕ, zero, suc, ◌+◌, ◌-◌, ◌<◌, ◌≤◌, List, [], ◌∷◌, ◌++◌, length, Bool, true, false, ◌⊎◌, inl, inr}
use Rattle.std.specs.Prelude.{find, map, reverse, bytes_eq, ◌==◌, ◌&&◌, nat_le, is_some, Option, Some, None, option_map, option_and_then, filter_map, flat_map, if◌then◌else◌}
use Rattle.std.specs.List.{range_with_len, position_from}
use Rattle.std.proofs.lemmas.Bool.{cases_lt}
use Rattle.std.proofs.lemmas.List.{map-append, append-nil}
use Rattle.std.proofs.lemmas.List.Elements.{filter_map-append}
use Rattle.std.proofs.lemmas.Grind.{flat_map-append}
use Rattle.cil_base.specs.declared.tables.TheConstants.{ASSEMBLY, ASSEMBLY_REF, EXPORTED_TYPE, TYPE_DEF, TYPE_REF}
use Rattle.set_names.specs.Names.{Name, is_name}
use Rattle.set_names.specs.Paths.{path_within, if_row}
use Rattle.set_names.specs.Distinct.{distinct}
use Rattle.set_rows.specs.Sets.{Assembly, Assemblies, assembly_at, assembly_name, assembly_named, count_in, cell, text, is_row}
use Rattle.set_types.specs.CodedIndexes.{tag, row_of}
use Rattle.set_program.specs.declared.identity.TypeId.{TypeId}
use Rattle.set_program.specs.declared.identity.TypeId.TheVariants.{Row, Outside}
use Rattle.set_program.specs.TypeNames.{own_name, inner_name, joined, full_name, path_name, enclosing, type_named}
use Rattle.set_program.specs.References.{if_found, inside, exported_name, exported_named, in_named, forwarded, by_forwarder, own_or_forwarded, says, found_within, found_in, outer_reference, by_scope, along, from_outermost, by_path, reference_in, reference}
use Rattle.set_program.specs.Numbering.{Cell, runtime_name, row_or, type_cut, cut, rows_between, old_rows, new_rows, order, outside_name, names_outside, fixed_names, outside_names, of_row, type_ids, same_id, number_in}
use Rattle.set_program.specs.Appended.{AllNamed}
use Rattle.set_growth.specs.Grown.{KeepsRows, IsGrown}
use Rattle.set_growth.specs.Orderly.{IsOrderly}
use Rattle.set_growth.specs.Kept.{Stays, KeepsTypes}
use Rattle.set_growth.proofs.FindLaws.{lt_true, le_false, rows_split, find_same, first_past, filter_map_on, flat_map_on, found_before}
use Rattle.set_growth.proofs.GrowthLists.{Grows, distinct_split, distinct_grows, name_itself, Each, each_append, each_on, each_all}
use Rattle.set_growth.proofs.KeptNameLaws.{IfPath, path_stays, each_reverse, full_name_same, type_named_stays, type_named_same}

pub fun_same : {A B : Type 0} (f g : A → B) → ((a : A) → f a ≡ g a) → f ≡ g
fun_same f g h = λ i x. h x i

-- a type outside, or of a new row of TARGET
abbrev pub IsNew : ℕ → TypeId → Type 0
IsNew n (Row a row) = (a ≡ 0) × (n < row)
IsNew n (Outside name) = Unit {0}

pub record TypesGrow (n : ℕ) (ids ids' : List TypeId) : Type 0 where
  pub more : List TypeId
  pub is : ids' ≡ ids ++ more
  pub new : Each (IsNew n) more

-- ---- a set, to whose TARGET the runtime class is appended

module _ (x x' : Assembly) (xs : Assemblies) (grown : IsGrown x x') (orderly : IsOrderly x) where
  abbrev s : Assemblies
  s = x ∷ xs

  abbrev s' : Assemblies
  s' = x' ∷ xs

  rows : KeepsRows x x'
  rows = grown.rows

  name_at : (a : ℕ) → assembly_name (assembly_at s' a) ≡ assembly_name (assembly_at s a)
  name_at zero = rows.same_texts ASSEMBLY 1 7 refl refl
  name_at (suc a) = refl

  pub assembly_named_same : (name : Name) → assembly_named s' name ≡ assembly_named s name
  assembly_named_same name =
      ap (λ (f : ℕ → Name). find (λ a. bytes_eq name (f a)) (range_with_len 0 (length s)))
      (fun_same (λ a. assembly_name (assembly_at s' a)) (λ a. assembly_name (assembly_at s a)) name_at)

  -- ---- exported types

  exported_same : (row : ℕ) → exported_name x' row ≡ exported_name x row
  exported_same row = ap (λ (n : Name). joined n (text x' EXPORTED_TYPE row 2)) (rows.same_texts EXPORTED_TYPE row 3 refl refl) ∙ ap (joined (text x EXPORTED_TYPE row 3)) (rows.same_texts EXPORTED_TYPE row 2 refl refl)

  abbrev exported_by : (ℕ → Name) → (ℕ → ℕ) → ℕ → Name → Option ℕ
  exported_by own at n name = find (λ e. bytes_eq name (own e) && (if tag (at e) == 2 then row_of (at e) == 0 else true)) (range_with_len 1 n)

  pub exported_named_same : (name : Name) → exported_named x' name ≡ exported_named x name
  unfolding exported_named
  exported_named_same name =
      ap (λ (n : ℕ). exported_by (exported_name x') (λ e. cell x' EXPORTED_TYPE e 4) n name) (rows.same_count EXPORTED_TYPE refl)
      ∙ ap (λ (f : ℕ → Name). exported_by f (λ e. cell x' EXPORTED_TYPE e 4) (count_in x EXPORTED_TYPE) name) (fun_same (exported_name x') (exported_name x) exported_same)
      ∙ ap (λ (f : ℕ → ℕ). exported_by (exported_name x) f (count_in x EXPORTED_TYPE) name) (fun_same (λ e. cell x' EXPORTED_TYPE e 4) (λ e. cell x EXPORTED_TYPE e 4) (λ e. rows.same_cells EXPORTED_TYPE e 4 refl))

  -- ---- types by name

  module _ (go go' : ℕ → Option TypeId) (on : (a : ℕ) → Stays (go a) (go' a)) where
    in_named_stays : (name : Name) (o o' : Option ℕ) → o' ≡ o → Stays (in_named go name o) (in_named go' name o')
    in_named_stays name None o' e id f = ap (in_named go' name) e ∙ f
    in_named_stays name (Some a) o' e id f = ap (in_named go' name) e ∙ on a id f

    forwarded_stays : (name : Name) (y y' : Assembly) (c : ℕ) (b : Bool) → (b ≡ true → text y' ASSEMBLY_REF (row_of c) 6 ≡ text y ASSEMBLY_REF (row_of c) 6) → Stays (forwarded go s name y c b) (forwarded go' s' name y' c b)
    forwarded_stays name y y' c true h = in_named_stays name (assembly_named s (text y ASSEMBLY_REF (row_of c) 6)) (assembly_named s' (text y' ASSEMBLY_REF (row_of c) 6)) (ap (assembly_named s') (h refl) ∙ assembly_named_same (text y ASSEMBLY_REF (row_of c) 6))
    forwarded_stays name y y' c false h = λ id f. f

    -- of another assembly
    by_other : (name : Name) (y : Assembly) (o : Option ℕ) → Stays (by_forwarder go s name y o) (by_forwarder go' s' name y o)
    by_other name y None = λ id f. absurd cc
    by_other name y (Some e) = forwarded_stays name y y (cell y EXPORTED_TYPE e 4) (tag (cell y EXPORTED_TYPE e 4) == 1) (λ h. refl)

    own_other : (name : Name) (a : ℕ) (y : Assembly) (o : Option ℕ) → Stays (own_or_forwarded go s name a y o) (own_or_forwarded go' s' name a y o)
    own_other name a y (Some row) = λ id f. f
    own_other name a y None = by_other name y (exported_named y name)

    -- of TARGET
    by_own : (name : Name) (e : ℕ) → Stays (by_forwarder go s name x (Some e)) (by_forwarder go' s' name x' (Some e))
    by_own name e id f =
        ap (λ (c : ℕ). forwarded go' s' name x' c (tag c == 1)) (rows.same_cells EXPORTED_TYPE e 4 refl)
        ∙ forwarded_stays name x x' (cell x EXPORTED_TYPE e 4) (tag (cell x EXPORTED_TYPE e 4) == 1) (λ h. rows.old_texts ASSEMBLY_REF (row_of (cell x EXPORTED_TYPE e 4)) 6 refl (orderly.exported e h)) id f

    own_own : (name : Name) → Stays (own_or_forwarded go s name 0 x (type_named x name)) (own_or_forwarded go' s' name 0 x' (type_named x' name))
    own_own name = by_type (type_named x name) refl
      where
        by_type : (o : Option ℕ) → type_named x name ≡ o → Stays (own_or_forwarded go s name 0 x o) (own_or_forwarded go' s' name 0 x' (type_named x' name))
        by_type (Some row) e id f = ap (own_or_forwarded go' s' name 0 x') (type_named_stays x x' grown orderly name row e) ∙ f
        by_type None e id f = by_export (exported_named x name) refl f
          where
            by_export : (o : Option ℕ) → exported_named x name ≡ o → by_forwarder go s name x o ≡ Some id → own_or_forwarded go' s' name 0 x' (type_named x' name) ≡ Some id
            by_export None g k = absurd (let wrong : None ≡ Some id = k in cc)
            by_export (Some r) g k =
                let none : type_named x' name ≡ None = type_named_same x x' grown orderly name (λ row low high. grown.unforwarded name r row g low high) ∙ e in
                ap (own_or_forwarded go' s' name 0 x') none
                ∙ ap (by_forwarder go' s' name x') (exported_named_same name ∙ g)
                ∙ by_own name r id k

    says_stays : (name : Name) (a : ℕ) → Stays (says go s name a (assembly_at s a)) (says go' s' name a (assembly_at s' a))
    says_stays name zero = own_own name
    says_stays name (suc a) = own_other name (suc a) (assembly_at s (suc a)) (type_named (assembly_at s (suc a)) name)

  found_within_stays : (name : Name) (n a : ℕ) → Stays (found_within s name n a) (found_within s' name n a)
  unfolding found_within
  found_within_stays name zero a = λ id f. absurd cc
  found_within_stays name (suc n) a = says_stays (found_within s name n) (found_within s' name n) (found_within_stays name n) name a

  pub found_stays : (name : Name) (a : ℕ) → Stays (found_in s name a) (found_in s' name a)
  found_stays name a = found_within_stays name (length s) a

  -- ---- types inside others

  full_none : (row : ℕ) → is_row x TYPE_DEF row ≡ false → full_name x row ≡ None
  unfolding full_name
  full_none row e = ap (λ (b : Bool). if b then option_map (λ path. path_name (own_name x TYPE_DEF) (reverse path)) (path_within (enclosing x) (count_in x TYPE_DEF) row) else None) e

  pub full_name_stays : (row : ℕ) → Stays (full_name x row) (full_name x' row)
  full_name_stays zero name e = absurd (let wrong : None ≡ Some name = sym (full_none 0 refl) ∙ e in cc)
  full_name_stays (suc r) name e = go (cases_lt (count_in x TYPE_DEF) (suc r))
    where
      go : (count_in x TYPE_DEF < suc r) ⊎ (suc r ≤ count_in x TYPE_DEF) → full_name x' (suc r) ≡ Some name
      go (inl past) =
          let none : is_row x TYPE_DEF (suc r) ≡ false = ap (λ (b : Bool). b && nat_le (suc r) (count_in x TYPE_DEF)) (lt_true 0 (suc r) (omega arith)) ∙ le_false (suc r) (count_in x TYPE_DEF) past in
          absurd (let wrong : None ≡ Some name = sym (full_none (suc r) none) ∙ e in cc)
      go (inr high) = full_name_same x x' grown orderly (suc r) (omega arith) high ∙ e

  found_inside : (a : ℕ) (name : Name) (o o' : Option Name) (f f' : Name → Option ℕ) → Stays o o' → ((n : Name) → Stays (f n) (f' n))
      → Stays (option_and_then (λ outer. if_found a (f (inner_name outer name))) o) (option_and_then (λ outer. if_found a (f' (inner_name outer name))) o')
  found_inside a name None o' f f' h k id e = absurd cc
  found_inside a name (Some outer) o' f f' h k id e = ap (option_and_then (λ (n : Name). if_found a (f' (inner_name n name)))) (h outer refl) ∙ go (f (inner_name outer name)) (k (inner_name outer name)) e
    where
      go : (o : Option ℕ) → Stays o (f' (inner_name outer name)) → if_found a o ≡ Some id → if_found a (f' (inner_name outer name)) ≡ Some id
      go None l g = absurd cc
      go (Some row) l g = ap (if_found a) (l row refl) ∙ g

  pub inside_stays : (name : Name) (id : TypeId) → Stays (inside s name id) (inside s' name id)
  unfolding inside
  inside_stays name (Outside outer) id e = e
  inside_stays name (Row zero row) id e = found_inside 0 name (full_name x row) (full_name x' row) (type_named x) (type_named x') (full_name_stays row) (type_named_stays x x' grown orderly) id e
  inside_stays name (Row (suc a) row) id e = e

  -- ---- TypeRef rows

  then_inside : (n : Name) (o o' : Option TypeId) → Stays o o' → Stays (option_and_then (inside s n) o) (option_and_then (inside s' n) o')
  then_inside n None o' h id e = absurd cc
  then_inside n (Some t) o' h id e = ap (option_and_then (inside s' n)) (h t refl) ∙ inside_stays n t id e

  module _ (a : ℕ) (y y' : Assembly) where
    abbrev SameName : ℕ → Type 0
    SameName r = own_name y' TYPE_REF r ≡ own_name y TYPE_REF r

    abbrev SameScope : ℕ → Type 0
    SameScope scope = (tag scope == 2) ≡ true → text y' ASSEMBLY_REF (row_of scope) 6 ≡ text y ASSEMBLY_REF (row_of scope) 6

    along_stays : (rs : List ℕ) (o o' : Option TypeId) → Each SameName rs → Stays o o' → Stays (along s y o rs) (along s' y' o' rs)
    along_stays [] o o' h k = k
    along_stays (r ∷ rs) o o' h k =
        along_stays rs (option_and_then (inside s (own_name y TYPE_REF r)) o) (option_and_then (inside s' (own_name y' TYPE_REF r)) o') h.1
        (λ id e. ap (λ (n : Name). option_and_then (inside s' n) o') h.0 ∙ then_inside (own_name y TYPE_REF r) o o' k id e)

    scope_stays : (name : Name) (scope : ℕ) → SameScope scope → Stays (by_scope s a y name scope) (by_scope s' a y' name scope)
    scope_stays name scope h = go (tag scope == 2) h
      where
        go : (b : Bool) → (b ≡ true → text y' ASSEMBLY_REF (row_of scope) 6 ≡ text y ASSEMBLY_REF (row_of scope) 6)
            → Stays (if b then in_named (found_in s name) name (assembly_named s (text y ASSEMBLY_REF (row_of scope) 6)) else if scope == 4 then found_in s name a else Some (Outside name))
            (if b then in_named (found_in s' name) name (assembly_named s' (text y' ASSEMBLY_REF (row_of scope) 6)) else if scope == 4 then found_in s' name a else Some (Outside name))
        go true k = in_named_stays (found_in s name) (found_in s' name) (found_stays name) name (assembly_named s (text y ASSEMBLY_REF (row_of scope) 6)) (assembly_named s' (text y' ASSEMBLY_REF (row_of scope) 6)) (ap (assembly_named s') (k refl) ∙ assembly_named_same (text y ASSEMBLY_REF (row_of scope) 6))
        go false k = own (scope == 4)
          where
            own : (b : Bool) → Stays (if b then found_in s name a else Some (Outside name)) (if b then found_in s' name a else Some (Outside name))
            own true = found_stays name a
            own false = λ id e. e

    pub from_stays : (rs : List ℕ) → Each SameName rs → (Each (λ t. SameScope (cell y TYPE_REF t 0) × (cell y' TYPE_REF t 0 ≡ cell y TYPE_REF t 0)) rs) → Stays (from_outermost s a y rs) (from_outermost s' a y' rs)
    from_stays [] h k = λ id e. absurd cc
    from_stays (r ∷ rs) h k =
        along_stays rs (by_scope s a y (own_name y TYPE_REF r) (cell y TYPE_REF r 0)) (by_scope s' a y' (own_name y' TYPE_REF r) (cell y' TYPE_REF r 0)) h.1
        (λ id e. ap (λ (n : Name). by_scope s' a y' n (cell y' TYPE_REF r 0)) h.0 ∙ ap (by_scope s' a y' (own_name y TYPE_REF r)) k.0.1 ∙ scope_stays (own_name y TYPE_REF r) (cell y TYPE_REF r 0) k.0.0 id e)

  -- of another assembly
  path_other : (a : ℕ) (y : Assembly) (o : Option (List ℕ)) → Stays (by_path s a y o) (by_path s' a y o)
  path_other a y None = λ id e. absurd cc
  path_other a y (Some path) =
      from_stays a y y (reverse path) (each_all (SameName a y y) (reverse path) (same_name a y)) (each_all (λ t. SameScope a y y (cell y TYPE_REF t 0) × (cell y TYPE_REF t 0 ≡ cell y TYPE_REF t 0)) (reverse path) (λ t. (same_scope a y (cell y TYPE_REF t 0), refl)))
    where
      same_name : (a : ℕ) (y : Assembly) (r : ℕ) → SameName a y y r
      same_name a y r = refl

      same_scope : (a : ℕ) (y : Assembly) (c : ℕ) → SameScope a y y c
      same_scope a y c h = refl

  pub reference_other : (a row : ℕ) → Stays (reference s (suc a) row) (reference s' (suc a) row)
  unfolding reference
  reference_other a row = path_other (suc a) (assembly_at s (suc a)) (path_within (outer_reference (assembly_at s (suc a))) (count_in (assembly_at s (suc a)) TYPE_REF) row)

  -- of TARGET
  own_reference : (row : ℕ) → row ≤ count_in x TYPE_REF → SameName 0 x x' row
  own_reference row h = ap (λ (n : Name). joined n (text x' TYPE_REF row 1)) (rows.old_texts TYPE_REF row 2 refl h) ∙ ap (joined (text x TYPE_REF row 2)) (rows.old_texts TYPE_REF row 1 refl h)

  own_scope : (row : ℕ) → SameScope 0 x x' (cell x TYPE_REF row 0)
  own_scope row h = rows.old_texts ASSEMBLY_REF (row_of (cell x TYPE_REF row 0)) 6 refl (orderly.scopes row h)

  outer_same : (row : ℕ) → row ≤ count_in x TYPE_REF → outer_reference x' row ≡ outer_reference x row
  unfolding outer_reference
  outer_same row h = ap (λ (c : ℕ). if tag c == 3 then if_row (row_of c) else None) (rows.old_cells TYPE_REF row 0 refl h)

  pub reference_own : (row : ℕ) → row ≤ count_in x TYPE_REF → Stays (reference s 0 row) (reference s' 0 row)
  unfolding reference
  reference_own row h = go (path_within (outer_reference x) (count_in x TYPE_REF) row) (path_stays (outer_reference x) (outer_reference x') (count_in x TYPE_REF) outer_same orderly.outer (count_in x TYPE_REF) (count_in x' TYPE_REF) row h (rows.more TYPE_REF))
    where
      go : (p : Option (List ℕ)) → IfPath (outer_reference x) (outer_reference x') (count_in x TYPE_REF) outer_same orderly.outer (count_in x' TYPE_REF) row p → Stays (by_path s 0 x p) (reference_in s' 0 x' row)
      go None k = λ id e. absurd cc
      go (Some path) k = λ id e. ap (by_path s' 0 x') k.stays
          ∙ from_stays 0 x x' (reverse path) (each_reverse (SameName 0 x x') path (each_on (λ r. r ≤ count_in x TYPE_REF) (SameName 0 x x') path (λ r l. own_reference r l) k.old))
          (each_reverse (λ t. SameScope 0 x x' (cell x TYPE_REF t 0) × (cell x' TYPE_REF t 0 ≡ cell x TYPE_REF t 0)) path
          (each_on (λ t. t ≤ count_in x TYPE_REF) (λ t. SameScope 0 x x' (cell x TYPE_REF t 0) × (cell x' TYPE_REF t 0 ≡ cell x TYPE_REF t 0)) path (λ t l. (own_scope t, rows.old_cells TYPE_REF t 0 refl l)) k.old)) id e

  pub references_stay : (a row : ℕ) → row ≤ count_in (assembly_at s a) TYPE_REF → Stays (reference s a row) (reference s' a row)
  references_stay zero row h = reference_own row h
  references_stay (suc a) row h = reference_other a row

  -- ---- numbers of types

  abbrev types : ℕ
  types = count_in x TYPE_DEF

  unfolds_cut : type_cut x ≡ row_or (types + 1) (type_named x runtime_name)
  unfolding type_cut
  unfolds_cut = refl

  pub cut_is : type_cut x ≡ types + 1
  cut_is = unfolds_cut ∙ ap (row_or (types + 1)) orderly.no_runtime

  runtime_found : types < count_in x' TYPE_DEF → type_named x' runtime_name ≡ Some (types + 1)
  unfolding type_named
  runtime_found l =
      let new : types + 1 ≤ count_in x' TYPE_DEF = omega (arith, l) in
      first_past (λ row. is_name runtime_name (full_name x' row)) types (count_in x' TYPE_DEF) new old_fail
      (ap (is_name runtime_name) (grown.runtime l) ∙ name_itself runtime_name)
    where
      old_fail : find (λ row. is_name runtime_name (full_name x' row)) (range_with_len 1 types) ≡ None
      old_fail = find_same (λ row. is_name runtime_name (full_name x' row)) (λ row. is_name runtime_name (full_name x row)) 1 types (λ r low high. ap (is_name runtime_name) (full_name_same x x' grown orderly r low (omega (arith, high)))) ∙ orderly.no_runtime

  pub cut_same : type_cut x' ≡ type_cut x
  unfolding type_cut
  cut_same = go (cases_lt types (count_in x' TYPE_DEF)) ∙ sym cut_is
    where
      go : (types < count_in x' TYPE_DEF) ⊎ (count_in x' TYPE_DEF ≤ types) → row_or (count_in x' TYPE_DEF + 1) (type_named x' runtime_name) ≡ types + 1
      go (inl l) = ap (row_or (count_in x' TYPE_DEF + 1)) (runtime_found l)
      go (inr l) =
          let more : types ≤ count_in x' TYPE_DEF = rows.more TYPE_DEF in
          let same : count_in x' TYPE_DEF + 1 ≡ types + 1 = omega (arith, l, more) in
          ap (row_or (count_in x' TYPE_DEF + 1)) (type_named_same x x' grown orderly runtime_name (λ row low high. absurd (omega (arith, low, high, l))) ∙ orderly.no_runtime) ∙ same

  others : List ℕ
  others = range_with_len 1 (length xs)

  other_rows : (table a : ℕ) → 1 ≤ a → rows_between a 1 (count_in (assembly_at s' a) table + 1) ≡ rows_between a 1 (count_in (assembly_at s a) table + 1)
  other_rows table zero low = absurd (omega (arith, low))
  other_rows table (suc a) low = refl

  pub old_rows_by : (table : ℕ) → cut x' table ≡ cut x table → old_rows s' table ≡ old_rows s table
  unfolding others
  old_rows_by table e =
      ap (λ (n : ℕ). flat_map (λ a. rows_between a 1 (count_in (assembly_at s' a) table + 1)) others ++ rows_between 0 1 n) e
      ∙ ap (λ (l : List Cell). l ++ rows_between 0 1 (cut x table)) (flat_map_on (λ a. rows_between a 1 (count_in (assembly_at s' a) table + 1)) (λ a. rows_between a 1 (count_in (assembly_at s a) table + 1)) 1 (length xs) (other_rows table))

  none_between : (n m : ℕ) → n ≡ m → rows_between 0 n m ≡ []
  none_between n m e = let z : m - n ≡ 0 = omega (arith, e) in ap (λ (k : ℕ). map {B = Cell} (λ row. (0, row)) (range_with_len n k)) z

  module _ (named : AllNamed s) where
    abbrev row_name : Assemblies → ℕ → ℕ → Option Name
    row_name u a row = outside_name (reference u a row)

    stays_same : (o o' : Option TypeId) → is_some o ≡ true → Stays o o' → o' ≡ o
    stays_same None o' e h = absurd cc
    stays_same (Some id) o' e h = h id refl

    pub references_same : (a row : ℕ) → 1 ≤ row → row ≤ count_in (assembly_at s a) TYPE_REF → reference s' a row ≡ reference s a row
    references_same a row low high = stays_same (reference s a row) (reference s' a row) (named a row high low) (references_stay a row high)

    new_names : List Name
    new_names = filter_map (row_name s' 0) (range_with_len (1 + count_in x TYPE_REF) (count_in x' TYPE_REF - count_in x TYPE_REF))

    own_names : names_outside s' 0 ≡ names_outside s 0 ++ new_names
    unfolding names_outside new_names
    own_names =
        ap (filter_map (row_name s' 0)) (rows_split (count_in x TYPE_REF) (count_in x' TYPE_REF) (rows.more TYPE_REF))
        ∙ filter_map-append (row_name s' 0) (range_with_len 1 (count_in x TYPE_REF)) (range_with_len (1 + count_in x TYPE_REF) (count_in x' TYPE_REF - count_in x TYPE_REF))
        ∙ ap (λ (l : List Name). l ++ filter_map (row_name s' 0) (range_with_len (1 + count_in x TYPE_REF) (count_in x' TYPE_REF - count_in x TYPE_REF))) (filter_map_on (row_name s' 0) (row_name s 0) 1 (count_in x TYPE_REF) (λ r low high. ap outside_name (references_same 0 r low (omega (arith, high)))))

    other_names : (a : ℕ) → 1 ≤ a → names_outside s' a ≡ names_outside s a
    unfolding names_outside
    other_names zero low = absurd (omega (arith, low))
    other_names (suc a) low = filter_map_on (row_name s' (suc a)) (row_name s (suc a)) 1 (count_in (assembly_at s (suc a)) TYPE_REF) (λ r lo high. ap outside_name (references_same (suc a) r lo (omega (arith, high))))

    all_names : flat_map (names_outside s') (order s') ≡ flat_map (names_outside s) (order s) ++ new_names
    unfolding others
    all_names =
        flat_map-append (names_outside s') others (0 ∷ [])
        ∙ ap (λ (l : List Name). l ++ (names_outside s' 0 ++ [])) (flat_map_on (names_outside s') (names_outside s) 1 (length xs) other_names)
        ∙ ap (λ (l : List Name). flat_map (names_outside s) others ++ l) (append-nil (names_outside s' 0) ∙ own_names ∙ ap (λ (l : List Name). l ++ new_names) (sym (append-nil (names_outside s 0))))
        ∙ sym (append_assoc (flat_map (names_outside s) others) (names_outside s 0 ++ []) new_names)
        ∙ ap (λ (l : List Name). l ++ new_names) (sym (flat_map-append (names_outside s) others (0 ∷ [])))

    pub outside_grows : (attributes : List Name) → Grows (outside_names s attributes) (outside_names s' attributes)
    unfolding outside_names
    outside_grows attributes =
        let walked : List Name = flat_map (names_outside s) (order s) in
        let front : fixed_names ++ (attributes ++ flat_map (names_outside s') (order s')) ≡ (fixed_names ++ (attributes ++ walked)) ++ new_names =
        ap (λ (l : List Name). fixed_names ++ (attributes ++ l)) all_names
        ∙ ap (λ (l : List Name). fixed_names ++ l) (sym (append_assoc attributes walked new_names))
        ∙ sym (append_assoc fixed_names (attributes ++ walked) new_names) in
        let split : distinct [] (fixed_names ++ (attributes ++ flat_map (names_outside s') (order s'))) ≡ distinct (distinct [] (fixed_names ++ (attributes ++ walked))) new_names =
        ap (distinct []) front ∙ distinct_split [] (fixed_names ++ (attributes ++ walked)) new_names in
        let g : Grows (distinct [] (fixed_names ++ (attributes ++ walked))) (distinct (distinct [] (fixed_names ++ (attributes ++ walked))) new_names) = distinct_grows (distinct [] (fixed_names ++ (attributes ++ walked))) new_names in
        record { more = g.more; is = split ∙ g.is }

    no_new : new_rows s TYPE_DEF ≡ []
    no_new = none_between (type_cut x) (types + 1) cut_is

    outside_new : (n : ℕ) (names : List Name) → Each (IsNew n) (map Outside names)
    outside_new n [] = tt
    outside_new n (name ∷ names) = (tt, outside_new n names)

    rows_new : (n from m : ℕ) → n < from → Each (IsNew n) (map of_row (map {B = Cell} (λ row. (0, row)) (range_with_len from m)))
    rows_new n from zero h = tt
    rows_new n from (suc m) h = ((refl, h), rows_new n (from + 1) m (omega (arith, h)))

    pub types_grown : (attributes : List Name) → TypesGrow types (type_ids s attributes) (type_ids s' attributes)
    unfolding type_ids
    types_grown attributes =
        let g : Grows (outside_names s attributes) (outside_names s' attributes) = outside_grows attributes in
        let old : List TypeId = map of_row (old_rows s TYPE_DEF) in
        let names : List TypeId = map Outside (outside_names s attributes) in
        let added : List TypeId = map Outside g.more in
        let last : List TypeId = map of_row (new_rows s' TYPE_DEF) in
        let at : type_cut x' ≡ types + 1 = cut_same ∙ cut_is in
        record {
          more = added ++ last;
          is =
              ap (λ (l : List Cell). map of_row l ++ (map Outside (outside_names s' attributes) ++ last)) (old_rows_by TYPE_DEF cut_same)
              ∙ ap (λ (l : List TypeId). old ++ (l ++ last)) (ap (map Outside) g.is ∙ map-append Outside (outside_names s attributes) g.more)
              ∙ ap (λ (l : List TypeId). old ++ l) (append_assoc names added last)
              ∙ sym (append_assoc old names (added ++ last))
              ∙ ap (λ (l : List TypeId). (old ++ l) ++ (added ++ last)) (sym (append-nil names) ∙ ap (λ (l : List Cell). names ++ map of_row l) (sym no_new));
          new = each_append (IsNew types) added last (outside_new types g.more) (rows_new types (type_cut x') (count_in x' TYPE_DEF + 1 - type_cut x') (omega (arith, at)));
        }

    pub types_grow : (attributes : List Name) → (more : List TypeId) × (type_ids s' attributes ≡ type_ids s attributes ++ more)
    types_grow attributes = let g : TypesGrow types (type_ids s attributes) (type_ids s' attributes) = types_grown attributes in (g.more, g.is)

    pub numbers_stay : (attributes : List Name) (id : TypeId) → Stays (number_in (type_ids s attributes) id) (number_in (type_ids s' attributes) id)
    numbers_stay attributes id k e =
        let g : (more : List TypeId) × (type_ids s' attributes ≡ type_ids s attributes ++ more) = types_grow attributes in
        ap (position_from (same_id id) 0) g.1 ∙ found_before (same_id id) 0 k (type_ids s attributes) g.0 e

    pub keeps_types : KeepsTypes s s'
    keeps_types = record { references = references_stay; found = found_stays; inner = inside_stays; types = types_grow; numbers = numbers_stay }
