-- Names, nestings and lists of old types, where rows are appended.
use Rattle.std.proofs.Common.{◌≡◌, ◌∙◌, sym, ap, refl, subst, arith, ℕ, zero, suc, ◌+◌, ◌<◌, ◌≤◌, List, [], ◌∷◌, Bool, true, false, ◌⊎◌, inl, inr}
use Rattle.std.specs.Prelude.{find, max, reverse, ◌==◌, ◌&&◌, nat_lt, nat_le, is_some, Option, Some, None, option_map, if◌then◌else◌}
use Rattle.std.proofs.lemmas.Bool.{cases_lt}
use Rattle.std.proofs.lemmas.List.{reverse-append}
use Rattle.cil_base.specs.declared.tables.TheConstants.{FIELD, METHOD_DEF, NESTED_CLASS, TYPE_DEF}
use Rattle.set_names.specs.Names.{Name, is_name}
use Rattle.set_names.specs.Paths.{onwards, path_within, if_row}
use Rattle.set_rows.specs.Sets.{Assembly, count_in, rows_in, cell, text, is_row}
use Rattle.set_rows.specs.Owners.{owned_end, owns, owner}
use Rattle.set_program.specs.TypeNames.{own_name, inner_name, joined, enclosing_in, enclosing, nested_names, path_name, full_name, type_named}
use Rattle.row_descriptions.specs.RowLists.{is_owner, owned}
use Rattle.set_growth.specs.Grown.{varies, IsGrown}
use Rattle.set_growth.specs.Orderly.{IsOrderly}
use Rattle.set_growth.specs.Kept.{Stays, KeepsNames}
use Rattle.set_growth.proofs.GrowthLists.{Each, each_append}
use Rattle.set_growth.proofs.FindLaws.{lt_true, le_true, lt_false, le_from, differs, Among, found_among, find_stays, find_grown, filter_grown, found_past, find_same, find_none}

-- ---- paths of old rows

pub record PathStays (next' : ℕ → Option ℕ) (c m row : ℕ) (path : List ℕ) : Type 0 where
  pub stays : path_within next' m row ≡ Some path
  pub old : Each (λ r. r ≤ c) path

module _ (next next' : ℕ → Option ℕ) (c : ℕ) (same : (row : ℕ) → row ≤ c → next' row ≡ next row) (closed : (row k : ℕ) → next row ≡ Some k → k ≤ c) where
  abbrev pub IfPath : ℕ → ℕ → Option (List ℕ) → Type 0
  IfPath m row None = Unit {0}
  IfPath m row (Some path) = PathStays next' c m row path

  pub path_stays : (n m row : ℕ) → row ≤ c → n ≤ m → IfPath m row (path_within next n row)
  unfolding path_within
  path_stays zero m row h l = tt
  path_stays (suc n) zero row h l = absurd (omega (arith, l))
  path_stays (suc n) (suc m) row h l = go (λ k i. path_stays n m k i (omega (arith, l))) (next row) refl
    where
      go : ((k : ℕ) → k ≤ c → IfPath m k (path_within next n k)) → (o : Option ℕ) → next row ≡ o
          → IfPath (suc m) row (option_map (λ rest. row ∷ rest) (onwards (path_within next n) o))
      go again None e = record { stays = ap (λ (p : Option ℕ). option_map (λ rest. row ∷ rest) (onwards (path_within next' m) p)) (same row h ∙ e); old = (h, tt) }
      go again (Some k) e = further (path_within next n k) (again k (closed row k e))
        where
          further : (p : Option (List ℕ)) → IfPath m k p → IfPath (suc m) row (option_map (λ rest. row ∷ rest) p)
          further None i = tt
          further (Some path) i = record {
            stays = ap (λ (q : Option ℕ). option_map (λ rest. row ∷ rest) (onwards (path_within next' m) q)) (same row h ∙ e) ∙ ap (option_map (λ rest. row ∷ rest)) i.stays;
            old = (h, i.old);
          }

pub each_reverse : {A : Type 0} (P : A → Type 0) (xs : List A) → Each P xs → Each P (reverse xs)
each_reverse P [] h = tt
each_reverse P (x ∷ xs) h = subst (Each P) (sym (reverse-append (x ∷ []) xs)) (each_append P (reverse xs) (x ∷ []) (each_reverse P xs h.1) (h.0, tt))

nested_same : (own own' : ℕ → Name) (c : ℕ) → ((r : ℕ) → r ≤ c → own' r ≡ own r) → (outer : Name) (rows : List ℕ) → Each (λ r. r ≤ c) rows → nested_names own' outer rows ≡ nested_names own outer rows
nested_same own own' c same outer [] h = refl
nested_same own own' c same outer (r ∷ rows) h = ap (λ (n : Name). nested_names own' (inner_name outer n) rows) (same r h.0) ∙ nested_same own own' c same (inner_name outer (own r)) rows h.1

path_same : (own own' : ℕ → Name) (c : ℕ) → ((r : ℕ) → r ≤ c → own' r ≡ own r) → (rows : List ℕ) → Each (λ r. r ≤ c) rows → path_name own' rows ≡ path_name own rows
path_same own own' c same [] h = refl
path_same own own' c same (r ∷ rows) h = ap (λ (n : Name). nested_names own' n rows) (same r h.0) ∙ nested_same own own' c same (own r) rows h.1

-- nothing, or past so many
abbrev pub IsPast : ℕ → Option ℕ → Type 0
IsPast n o = (r : ℕ) → o ≡ Some r → n < r

past_owner : {n : ℕ} (row : ℕ) → row ≤ n → (o : Option ℕ) → IsPast n o → is_owner row o ≡ false
past_owner row h None p = refl
past_owner {n} row h (Some r) p = let l : n < r = p r refl in differs r row (λ e. omega (arith, e, h, l))

and_false : (b : Bool) → (b && false) ≡ false
and_false true = refl
and_false false = refl

-- ---- one assembly

module _ (x x' : Assembly) (grown : IsGrown x x') (orderly : IsOrderly x) where
  abbrev types : ℕ
  types = count_in x TYPE_DEF

  more_types : types ≤ count_in x' TYPE_DEF
  more_types = grown.rows.more TYPE_DEF

  there : (row : ℕ) → 1 ≤ row → row ≤ types → is_row x TYPE_DEF row ≡ true
  there row low high = ap (λ (b : Bool). b && nat_le row types) (lt_true 0 row low) ∙ le_true row types high

  there' : (row : ℕ) → 1 ≤ row → row ≤ types → is_row x' TYPE_DEF row ≡ true
  there' row low high = ap (λ (b : Bool). b && nat_le row (count_in x' TYPE_DEF)) (lt_true 0 row low) ∙ le_true row (count_in x' TYPE_DEF) (omega (arith, high, more_types))

  -- NestedClass rows

  nesting_same : (row : ℕ) → row ≤ types → find (λ k. cell x' NESTED_CLASS k 0 == row) (rows_in x' NESTED_CLASS) ≡ find (λ k. cell x NESTED_CLASS k 0 == row) (rows_in x NESTED_CLASS)
  nesting_same row h =
      find_grown (λ k. cell x NESTED_CLASS k 0 == row) (λ k. cell x' NESTED_CLASS k 0 == row) (count_in x NESTED_CLASS) (count_in x' NESTED_CLASS) (grown.rows.more NESTED_CLASS)
      (λ k low high. ap (λ (c : ℕ). c == row) (grown.rows.old_cells NESTED_CLASS k 0 refl high))
      (λ k low high. differs (cell x' NESTED_CLASS k 0) row (λ e. let new : types < cell x' NESTED_CLASS k 0 = grown.nested k low high in omega (arith, new, e, h)))

  around_old : (row : ℕ) → row ≤ types → enclosing_in x' (find (λ k. cell x NESTED_CLASS k 0 == row) (rows_in x NESTED_CLASS)) ≡ enclosing_in x (find (λ k. cell x NESTED_CLASS k 0 == row) (rows_in x NESTED_CLASS))
  around_old row h = go (find (λ k. cell x NESTED_CLASS k 0 == row) (rows_in x NESTED_CLASS)) (λ k e. found_among (λ j. cell x NESTED_CLASS j 0 == row) 1 (count_in x NESTED_CLASS) k e)
    where
      go : (o : Option ℕ) → ((k : ℕ) → o ≡ Some k → Among 1 (count_in x NESTED_CLASS) k) → enclosing_in x' o ≡ enclosing_in x o
      go None m = refl
      go (Some k) m = let high : k < 1 + count_in x NESTED_CLASS = (m k refl).high in ap if_row (grown.rows.old_cells NESTED_CLASS k 1 refl (omega (arith, high)))

  pub enclosing_same : (row : ℕ) → row ≤ types → enclosing x' row ≡ enclosing x row
  unfolding enclosing
  enclosing_same zero h = refl
  enclosing_same (suc r) h =
      ap (λ (b : Bool). if b then enclosing_in x' (find (λ k. cell x' NESTED_CLASS k 0 == suc r) (rows_in x' NESTED_CLASS)) else None) (there' (suc r) (omega arith) h)
      ∙ ap (enclosing_in x') (nesting_same (suc r) h)
      ∙ around_old (suc r) h
      ∙ ap (λ (b : Bool). if b then enclosing_in x (find (λ k. cell x NESTED_CLASS k 0 == suc r) (rows_in x NESTED_CLASS)) else None) (sym (there (suc r) (omega arith) h))

  own_same : (row : ℕ) → row ≤ types → own_name x' TYPE_DEF row ≡ own_name x TYPE_DEF row
  own_same row h = ap (λ (n : Name). joined n (text x' TYPE_DEF row 1)) (grown.rows.old_texts TYPE_DEF row 2 refl h) ∙ ap (joined (text x TYPE_DEF row 2)) (grown.rows.old_texts TYPE_DEF row 1 refl h)

  pub full_name_same : (row : ℕ) → 1 ≤ row → row ≤ types → full_name x' row ≡ full_name x row
  unfolding full_name
  full_name_same row low high =
      ap (λ (b : Bool). if b then option_map (λ path. path_name (own_name x' TYPE_DEF) (reverse path)) (path_within (enclosing x') (count_in x' TYPE_DEF) row) else None) (there' row low high)
      ∙ go (path_within (enclosing x) types row) refl (path_stays (enclosing x) (enclosing x') types enclosing_same orderly.around types (count_in x' TYPE_DEF) row high more_types)
      ∙ ap (λ (b : Bool). if b then option_map (λ path. path_name (own_name x TYPE_DEF) (reverse path)) (path_within (enclosing x) types row) else None) (sym (there row low high))
    where
      has : is_some (full_name x row) ≡ true
      has = orderly.named row low high

      has_path : is_some (option_map (λ path. path_name (own_name x TYPE_DEF) (reverse path)) (path_within (enclosing x) types row)) ≡ true
      has_path = ap (λ (b : Bool). is_some (if b then option_map (λ path. path_name (own_name x TYPE_DEF) (reverse path)) (path_within (enclosing x) types row) else None)) (sym (there row low high)) ∙ has

      go : (o : Option (List ℕ)) → path_within (enclosing x) types row ≡ o → IfPath (enclosing x) (enclosing x') types enclosing_same orderly.around (count_in x' TYPE_DEF) row o
          → option_map (λ path. path_name (own_name x' TYPE_DEF) (reverse path)) (path_within (enclosing x') (count_in x' TYPE_DEF) row) ≡ option_map (λ path. path_name (own_name x TYPE_DEF) (reverse path)) o
      go None e i = absurd (let wrong : false ≡ true = ap (λ (o : Option (List ℕ)). is_some (option_map (λ path. path_name (own_name x TYPE_DEF) (reverse path)) o)) (sym e) ∙ has_path in cc)
      go (Some path) e i =
          ap (option_map (λ p. path_name (own_name x' TYPE_DEF) (reverse p))) i.stays
          ∙ ap (λ (n : Name). Some n) (path_same (own_name x TYPE_DEF) (own_name x' TYPE_DEF) types own_same (reverse path) (each_reverse (λ r. r ≤ types) path i.old))

  pub type_named_stays : (name : Name) → Stays (type_named x name) (type_named x' name)
  unfolding type_named
  type_named_stays name k e =
      find_stays (λ row. is_name name (full_name x row)) (λ row. is_name name (full_name x' row)) types (count_in x' TYPE_DEF) k more_types (λ r low high. ap (is_name name) (full_name_same r low high)) e

  -- a name that no new type has
  pub type_named_same : (name : Name) → ((row : ℕ) → types < row → row ≤ count_in x' TYPE_DEF → is_name name (full_name x' row) ≡ false) → type_named x' name ≡ type_named x name
  unfolding type_named
  type_named_same name none =
      find_grown (λ row. is_name name (full_name x row)) (λ row. is_name name (full_name x' row)) types (count_in x' TYPE_DEF) more_types (λ r low high. ap (is_name name) (full_name_same r low high)) none

  -- ---- lists of fields and methods

  module _ (column table : ℕ) (fixed : varies TYPE_DEF column ≡ false) (from : owned_end x' column table types ≡ count_in x table + 1)
      (within : (row : ℕ) → row ≤ types → owned_end x column table row ≤ count_in x table + 1) where
    pub end_same : (row : ℕ) → row ≤ types → owned_end x' column table row ≡ owned_end x column table row
    end_same row h = go (cases_lt row types)
      where
        inner : (row < types) → owned_end x' column table row ≡ owned_end x column table row
        inner less =
            ap (λ (b : Bool). if b then cell x' TYPE_DEF (row + 1) column else count_in x' table + 1) (lt_true row (count_in x' TYPE_DEF) (omega (arith, less, more_types)))
            ∙ grown.rows.old_cells TYPE_DEF (row + 1) column fixed (omega (arith, less))
            ∙ ap (λ (b : Bool). if b then cell x TYPE_DEF (row + 1) column else count_in x table + 1) (sym (lt_true row types less))

        last : (row ≡ types) → owned_end x' column table row ≡ owned_end x column table row
        last e =
            ap (λ (r : ℕ). owned_end x' column table r) e
            ∙ from
            ∙ ap (λ (b : Bool). if b then cell x TYPE_DEF (row + 1) column else count_in x table + 1) (sym (lt_false row types (omega (arith, e))))

        go : (row < types) ⊎ (types ≤ row) → owned_end x' column table row ≡ owned_end x column table row
        go (inl less) = inner less
        go (inr past) = let e : row ≡ types = omega (arith, past, h) in last e

    first_same : (row : ℕ) → row ≤ types → cell x' TYPE_DEF row column ≡ cell x TYPE_DEF row column
    first_same row h = grown.rows.old_cells TYPE_DEF row column fixed h

    owns_same : (k row : ℕ) → row ≤ types → owns x' column table k row ≡ owns x column table k row
    owns_same k row h =
        ap (λ (c : ℕ). nat_le (max 1 c) k && nat_lt k (owned_end x' column table row)) (first_same row h)
        ∙ ap (λ (c : ℕ). nat_le (max 1 (cell x TYPE_DEF row column)) k && nat_lt k c) (end_same row h)

    none_owned : (k : ℕ) → is_row x table k ≡ false → owner x column table k ≡ None
    unfolding owner
    none_owned k e = ap (λ (b : Bool). if b then find (owns x column table k) (rows_in x TYPE_DEF) else None) e

    row_stays : (k : ℕ) → is_row x table k ≡ true → is_row x' table k ≡ true
    row_stays zero e = absurd cc
    row_stays (suc k) e =
        let h : suc k ≤ count_in x table = le_from (suc k) (count_in x table) (sym (ap (λ (b : Bool). b && nat_le (suc k) (count_in x table)) (lt_true 0 (suc k) (omega arith))) ∙ e) in
        let m : count_in x table ≤ count_in x' table = grown.rows.more table in
        ap (λ (b : Bool). b && nat_le (suc k) (count_in x' table)) (lt_true 0 (suc k) (omega arith)) ∙ le_true (suc k) (count_in x' table) (omega (arith, h, m))

    row_was : (k : ℕ) → k ≤ count_in x table → is_row x' table k ≡ true → is_row x table k ≡ true
    row_was zero l e = absurd cc
    row_was (suc k) l e = ap (λ (b : Bool). b && nat_le (suc k) (count_in x table)) (lt_true 0 (suc k) (omega arith)) ∙ le_true (suc k) (count_in x table) l

    pub owner_stays : (k : ℕ) → Stays (owner x column table k) (owner x' column table k)
    unfolding owner
    owner_stays k row e = go (is_row x table k) refl e
      where
        go : (b : Bool) → is_row x table k ≡ b → (if b then find (owns x column table k) (rows_in x TYPE_DEF) else None) ≡ Some row → owner x' column table k ≡ Some row
        go false f g = absurd cc
        go true f g =
            ap (λ (b : Bool). if b then find (owns x' column table k) (rows_in x' TYPE_DEF) else None) (row_stays k f)
            ∙ find_stays (owns x column table k) (owns x' column table k) types (count_in x' TYPE_DEF) row more_types (λ r low high. owns_same k r high) g

    -- a row that had no owner has none of the old types
    pub owner_or_past : (k : ℕ) → k ≤ count_in x table → (owner x' column table k ≡ owner x column table k) ⊎ IsPast types (owner x' column table k)
    unfolding owner
    owner_or_past k l = go (owner x column table k) refl
      where
        past : (b b' : Bool) → (b ≡ true → find (owns x column table k) (rows_in x TYPE_DEF) ≡ None) → (b' ≡ true → b ≡ true) → IsPast types (if b' then find (owns x' column table k) (rows_in x' TYPE_DEF) else None)
        past b false h t = λ r e. absurd cc
        past b true h t = λ r e.
            found_past (owns x' column table k) types (count_in x' TYPE_DEF) r more_types
            (find_same (owns x' column table k) (owns x column table k) 1 types (λ q low high. owns_same k q (omega (arith, high))) ∙ h (t refl)) e

        none_found : (b : Bool) → (if b then find (owns x column table k) (rows_in x TYPE_DEF) else None) ≡ None → b ≡ true → find (owns x column table k) (rows_in x TYPE_DEF) ≡ None
        none_found true e f = e
        none_found false e f = absurd cc

        go : (o : Option ℕ) → owner x column table k ≡ o → (owner x' column table k ≡ owner x column table k) ⊎ IsPast types (owner x' column table k)
        go (Some r) e = inl (owner_stays k r e ∙ sym e)
        go None e = inr (past (is_row x table k) (is_row x' table k) (none_found (is_row x table k) e) (row_was k l))

    -- a new row is of a new type
    pub owner_past : (k : ℕ) → count_in x table < k → IsPast types (owner x' column table k)
    unfolding owner
    owner_past k l = go (is_row x' table k)
      where
        fails : (r : ℕ) → 1 ≤ r → r < 1 + types → owns x' column table k r ≡ false
        fails r low high =
            let old : r ≤ types = omega (arith, high) in
            let end : owned_end x column table r ≤ count_in x table + 1 = within r old in
            owns_same k r old
            ∙ ap (λ (b : Bool). nat_le (max 1 (cell x TYPE_DEF r column)) k && b) (lt_false k (owned_end x column table r) (omega (arith, end, l)))
            ∙ and_false (nat_le (max 1 (cell x TYPE_DEF r column)) k)

        go : (b : Bool) → IsPast types (if b then find (owns x' column table k) (rows_in x' TYPE_DEF) else None)
        go false = λ r e. absurd cc
        go true = λ r e. found_past (owns x' column table k) types (count_in x' TYPE_DEF) r more_types (find_none (owns x' column table k) 1 types fails) e

    pub owned_same : (row : ℕ) → row ≤ types → owned x' column table row ≡ owned x column table row
    owned_same row h =
        filter_grown (λ k. is_owner row (owner x column table k)) (λ k. is_owner row (owner x' column table k)) (count_in x table) (count_in x' table) (grown.rows.more table)
        (λ k low high. by_owner k (owner_or_past k high) (owner x column table k) refl (λ r e. owner_stays k r e))
        (λ k low high. past_owner row h (owner x' column table k) (owner_past k low))
      where
        by_owner : (k : ℕ) → (owner x' column table k ≡ owner x column table k) ⊎ IsPast types (owner x' column table k) → (o : Option ℕ) → owner x column table k ≡ o → Stays o (owner x' column table k)
            → is_owner row (owner x' column table k) ≡ is_owner row (owner x column table k)
        by_owner k (inl e) o f s = ap (is_owner row) e
        by_owner k (inr past) None f s = past_owner row h (owner x' column table k) past ∙ ap (is_owner row) (sym f)
        by_owner k (inr past) (Some r) f s = ap (is_owner row) (s r refl ∙ sym f)

  pub keeps_names : KeepsNames x x'
  keeps_names = record {
    around = enclosing_same;
    names = full_name_same;
    named = type_named_stays;
    fields = owned_same 4 FIELD refl grown.fields_end orderly.field_lists;
    methods = owned_same 5 METHOD_DEF refl grown.methods_end orderly.method_lists;
    field_owner = owner_stays 4 FIELD refl grown.fields_end orderly.field_lists;
    method_owner = owner_stays 5 METHOD_DEF refl grown.methods_end orderly.method_lists;
  }
