-- Appended rows change no type's name, and nothing that a TypeRef row names.
use Rattle.std.proofs.Common.{◌≡◌, ◌∙◌, sym, ap, refl, subst, arith, ℕ, zero, suc, ◌≤◌, List, [], ◌∷◌, ◌++◌, length, Bool, true, false}
use Rattle.std.specs.Prelude.{◌==◌, ◌&&◌, nat_lt, nat_le, Option, Some, None, option_map, option_and_then, find, reverse, bytes_eq, if◌then◌else◌}
use Rattle.std.specs.List.{range_with_len}
use Rattle.std.proofs.lemmas.List.{reverse-append}
use Rattle.set_program.specs.declared.identity.TypeId.{TypeId}
use Rattle.set_program.specs.declared.identity.TypeId.TheVariants.{Row, Outside}
use Rattle.set_names.specs.Names.{Name, is_name}
use Rattle.set_rows.specs.Sets.{Assembly, Assemblies, assembly_at, assembly_name, assembly_named, count_in, rows_in, cell, text, is_row}
use Rattle.set_types.specs.CodedIndexes.{tag, row_of}
use Rattle.set_names.specs.Paths.{onwards, path_within, if_row}
use Rattle.set_program.specs.TypeNames.{own_name, joined, enclosing_in, enclosing, path_name, full_name, inner_name, type_named}
use Rattle.set_program.specs.References.{if_found, inside, exported_name, exported_named, in_named, forwarded, by_forwarder, own_or_forwarded, says, found_within, found_in, outer_reference, by_scope, along, from_outermost, by_path, reference_in, reference}
use Rattle.set_program.specs.Appended.{AppendsReferences, AreIndexes}
use Rattle.cil_base.specs.declared.tables.TheConstants.{ASSEMBLY, ASSEMBLY_REF, EXPORTED_TYPE, NESTED_CLASS, TYPE_DEF, TYPE_REF}

pub fun_same : {A B : Type 0} (f g : A → B) → ((a : A) → f a ≡ g a) → f ≡ g
fun_same f g h = λ i x. h x i

-- ---- one assembly

module _ (x x' : Assembly) (same : AppendsReferences x x') where
  same_rows : (table : ℕ) → count_in x' table ≡ count_in x table → rows_in x' table ≡ rows_in x table
  same_rows table e = ap (range_with_len 1) e

  enclosing_of : (o : Option ℕ) → enclosing_in x' o ≡ enclosing_in x o
  enclosing_of None = refl
  enclosing_of (Some k) = ap if_row (same.same_cells NESTED_CLASS k 1 refl)

  pub enclosing_same : (row : ℕ) → enclosing x' row ≡ enclosing x row
  unfolding enclosing
  enclosing_same row =
      ap (λ (n : ℕ). if nat_lt 0 row && nat_le row n then enclosing_in x' (find (λ k. cell x' NESTED_CLASS k 0 == row) (rows_in x' NESTED_CLASS)) else None) (same.same_count TYPE_DEF refl)
      ∙ ap (λ (o : Option ℕ). if is_row x TYPE_DEF row then o else None)
      (ap (λ (rows : List ℕ). enclosing_in x' (find (λ k. cell x' NESTED_CLASS k 0 == row) rows)) (same_rows 0x29 (same.same_count NESTED_CLASS refl))
      ∙ ap (λ (f : ℕ → ℕ). enclosing_in x' (find (λ k. f k == row) (rows_in x NESTED_CLASS))) (fun_same (λ k. cell x' NESTED_CLASS k 0) (λ k. cell x NESTED_CLASS k 0) (λ k. same.same_cells NESTED_CLASS k 0 refl))
      ∙ enclosing_of (find (λ k. cell x NESTED_CLASS k 0 == row) (rows_in x NESTED_CLASS)))

  abbrev named_by : ℕ → (ℕ → Name) → (ℕ → Option ℕ) → ℕ → Option Name
  named_by count own next row = if is_in count row then option_map (λ path. path_name own (reverse path)) (path_within next count row) else None
    where
      is_in : ℕ → ℕ → Bool
      is_in count row = nat_lt 0 row && nat_le row count

  own_same : (row : ℕ) → own_name x' TYPE_DEF row ≡ own_name x TYPE_DEF row
  own_same row = ap (λ (n : Name). joined n (text x' TYPE_DEF row 1)) (same.same_texts TYPE_DEF row 2 refl) ∙ ap (joined (text x TYPE_DEF row 2)) (same.same_texts TYPE_DEF row 1 refl)

  pub full_name_same : (row : ℕ) → full_name x' row ≡ full_name x row
  unfolding full_name
  full_name_same row =
      ap (λ (n : ℕ). named_by n (own_name x' TYPE_DEF) (enclosing x') row) (same.same_count TYPE_DEF refl)
      ∙ ap (λ (f : ℕ → Name). named_by (count_in x TYPE_DEF) f (enclosing x') row) (fun_same (own_name x' TYPE_DEF) (own_name x TYPE_DEF) own_same)
      ∙ ap (λ (f : ℕ → Option ℕ). named_by (count_in x TYPE_DEF) (own_name x TYPE_DEF) f row) (fun_same (enclosing x') (enclosing x) enclosing_same)

  pub type_named_same : (name : Name) → type_named x' name ≡ type_named x name
  unfolding type_named
  type_named_same name =
      ap (λ (rows : List ℕ). find (λ row. is_name name (full_name x' row)) rows) (same_rows 0x02 (same.same_count TYPE_DEF refl))
      ∙ ap (λ (f : ℕ → Option Name). find (λ row. is_name name (f row)) (rows_in x TYPE_DEF)) (fun_same (full_name x') (full_name x) full_name_same)

  exported_same : (row : ℕ) → exported_name x' row ≡ exported_name x row
  exported_same row = ap (λ (n : Name). joined n (text x' EXPORTED_TYPE row 2)) (same.same_texts EXPORTED_TYPE row 3 refl) ∙ ap (joined (text x EXPORTED_TYPE row 3)) (same.same_texts EXPORTED_TYPE row 2 refl)

  abbrev exported_by : (ℕ → Name) → (ℕ → ℕ) → List ℕ → Name → Option ℕ
  exported_by own at rows name = find (λ e. bytes_eq name (own e) && (if tag (at e) == 2 then row_of (at e) == 0 else true)) rows

  pub exported_named_same : (name : Name) → exported_named x' name ≡ exported_named x name
  unfolding exported_named
  exported_named_same name =
      ap (λ (rows : List ℕ). exported_by (exported_name x') (λ e. cell x' EXPORTED_TYPE e 4) rows name) (same_rows 0x27 (same.same_count EXPORTED_TYPE refl))
      ∙ ap (λ (f : ℕ → Name). exported_by f (λ e. cell x' EXPORTED_TYPE e 4) (rows_in x EXPORTED_TYPE) name) (fun_same (exported_name x') (exported_name x) exported_same)
      ∙ ap (λ (f : ℕ → ℕ). exported_by (exported_name x) f (rows_in x EXPORTED_TYPE) name) (fun_same (λ e. cell x' EXPORTED_TYPE e 4) (λ e. cell x EXPORTED_TYPE e 4) (λ e. same.same_cells EXPORTED_TYPE e 4 refl))

  pub outer_same : (row : ℕ) → row ≤ count_in x TYPE_REF → outer_reference x' row ≡ outer_reference x row
  unfolding outer_reference
  outer_same row h = ap (λ (c : ℕ). if tag c == 3 then if_row (row_of c) else None) (same.old_cells 0x01 row 0 h)

-- ---- a set, to whose TARGET rows are appended

module _ (x x' : Assembly) (xs : Assemblies) (same : AppendsReferences x x') (indexes : AreIndexes x) where
  abbrev s : Assemblies
  s = x ∷ xs

  abbrev s' : Assemblies
  s' = x' ∷ xs

  at_same : {X : Type 0} (F : Assembly → X) → F x' ≡ F x → (a : ℕ) → F (assembly_at s' a) ≡ F (assembly_at s a)
  at_same F e zero = e
  at_same F e (suc a) = refl

  pub assembly_named_same : (name : Name) → assembly_named s' name ≡ assembly_named s name
  assembly_named_same name =
      ap (λ (f : ℕ → Name). find (λ a. bytes_eq name (f a)) (range_with_len 0 (length s)))
      (fun_same (λ a. assembly_name (assembly_at s' a)) (λ a. assembly_name (assembly_at s a)) (at_same assembly_name (same.same_texts ASSEMBLY 1 7 refl)))

  -- what another assembly's names lead to
  forwarded_other : (go : ℕ → Option TypeId) (name : Name) (y : Assembly) (c : ℕ) (b : Bool) → forwarded go s' name y c b ≡ forwarded go s name y c b
  forwarded_other go name y c true = ap (in_named go name) (assembly_named_same (text y ASSEMBLY_REF (row_of c) 6))
  forwarded_other go name y c false = refl

  by_other : (go : ℕ → Option TypeId) (name : Name) (y : Assembly) (o : Option ℕ) → by_forwarder go s' name y o ≡ by_forwarder go s name y o
  by_other go name y None = refl
  by_other go name y (Some e) = forwarded_other go name y (cell y EXPORTED_TYPE e 4) (tag (cell y EXPORTED_TYPE e 4) == 1)

  own_other : (go : ℕ → Option TypeId) (name : Name) (a : ℕ) (y : Assembly) (o : Option ℕ) → own_or_forwarded go s' name a y o ≡ own_or_forwarded go s name a y o
  own_other go name a y (Some row) = refl
  own_other go name a y None = by_other go name y (exported_named y name)

  -- what TARGET's lead to
  forwarded_own : (go : ℕ → Option TypeId) (name : Name) (c : ℕ) (b : Bool) → (b ≡ true → row_of c ≤ count_in x ASSEMBLY_REF) → forwarded go s' name x' c b ≡ forwarded go s name x c b
  forwarded_own go name c true h = ap (λ (n : Name). in_named go name (assembly_named s' n)) (same.old_texts 0x23 (row_of c) 6 (h refl)) ∙ ap (in_named go name) (assembly_named_same (text x ASSEMBLY_REF (row_of c) 6))
  forwarded_own go name c false h = refl

  by_own : (go : ℕ → Option TypeId) (name : Name) (o : Option ℕ) → by_forwarder go s' name x' o ≡ by_forwarder go s name x o
  by_own go name None = refl
  by_own go name (Some e) =
      ap (λ (c : ℕ). forwarded go s' name x' c (tag c == 1)) (same.same_cells EXPORTED_TYPE e 4 refl)
      ∙ forwarded_own go name (cell x EXPORTED_TYPE e 4) (tag (cell x EXPORTED_TYPE e 4) == 1) (indexes.exported e)

  own_own : (go : ℕ → Option TypeId) (name : Name) (o : Option ℕ) → own_or_forwarded go s' name 0 x' o ≡ own_or_forwarded go s name 0 x o
  own_own go name (Some row) = refl
  own_own go name None = ap (by_forwarder go s' name x') (exported_named_same x x' same name) ∙ by_own go name (exported_named x name)

  says_same : (go : ℕ → Option TypeId) (name : Name) (a : ℕ) → says go s' name a (assembly_at s' a) ≡ says go s name a (assembly_at s a)
  says_same go name zero = ap (own_or_forwarded go s' name 0 x') (type_named_same x x' same name) ∙ own_own go name (type_named x name)
  says_same go name (suc a) = own_other go name (suc a) (assembly_at s (suc a)) (type_named (assembly_at s (suc a)) name)

  found_within_same : (name : Name) (n a : ℕ) → found_within s' name n a ≡ found_within s name n a
  unfolding found_within
  found_within_same name zero a = refl
  found_within_same name (suc n) a =
      ap (λ (go : ℕ → Option TypeId). says go s' name a (assembly_at s' a)) (fun_same (found_within s' name n) (found_within s name n) (found_within_same name n))
      ∙ says_same (found_within s name n) name a

  pub found_same : (name : Name) → found_in s' name ≡ found_in s name
  found_same name = fun_same (found_in s' name) (found_in s name) (found_within_same name (length s))

  pub inside_same : (name : Name) (id : TypeId) → inside s' name id ≡ inside s name id
  unfolding inside
  inside_same name (Outside outer) = refl
  inside_same name (Row a row) =
      ap (λ (f : Name → Option ℕ). option_and_then (λ outer. if_found a (f (inner_name outer name))) (full_name (assembly_at s' a) row))
      (at_same type_named (fun_same (type_named x') (type_named x) (type_named_same x x' same)) a)
      ∙ ap (option_and_then (λ outer. if_found a (type_named (assembly_at s a) (inner_name outer name)))) (at_same (λ y. full_name y row) (full_name_same x x' same row) a)

  then_inside : (n : Name) (o : Option TypeId) → option_and_then (inside s' n) o ≡ option_and_then (inside s n) o
  then_inside n None = refl
  then_inside n (Some id) = inside_same n id

  -- ---- TypeRef rows of another assembly

  scope_other : (a : ℕ) (y : Assembly) (name : Name) (scope : ℕ) → by_scope s' a y name scope ≡ by_scope s a y name scope
  scope_other a y name scope =
      ap (λ (f : ℕ → Option TypeId). if tag scope == 2 then in_named f name (assembly_named s' (text y ASSEMBLY_REF (row_of scope) 6)) else if scope == 4 then f a else Some (Outside name)) (found_same name)
      ∙ ap (λ (o : Option ℕ). if tag scope == 2 then in_named (found_in s name) name o else if scope == 4 then found_in s name a else Some (Outside name)) (assembly_named_same (text y ASSEMBLY_REF (row_of scope) 6))

  along_other : (y : Assembly) (found : Option TypeId) (rows : List ℕ) → along s' y found rows ≡ along s y found rows
  along_other y found [] = refl
  along_other y found (row ∷ rows) =
      ap (λ (o : Option TypeId). along s' y o rows) (then_inside (own_name y TYPE_REF row) found) ∙ along_other y (option_and_then (inside s (own_name y TYPE_REF row)) found) rows

  from_other : (a : ℕ) (y : Assembly) (rows : List ℕ) → from_outermost s' a y rows ≡ from_outermost s a y rows
  from_other a y [] = refl
  from_other a y (row ∷ rows) =
      ap (λ (o : Option TypeId). along s' y o rows) (scope_other a y (own_name y TYPE_REF row) (cell y TYPE_REF row 0))
      ∙ along_other y (by_scope s a y (own_name y TYPE_REF row) (cell y TYPE_REF row 0)) rows

  path_other : (a : ℕ) (y : Assembly) (o : Option (List ℕ)) → by_path s' a y o ≡ by_path s a y o
  path_other a y None = refl
  path_other a y (Some path) = from_other a y (reverse path)

  pub reference_other : (a row : ℕ) → reference s' (suc a) row ≡ reference s (suc a) row
  unfolding reference
  reference_other a row = path_other (suc a) (assembly_at s (suc a)) (path_within (outer_reference (assembly_at s (suc a))) (count_in (assembly_at s (suc a)) TYPE_REF) row)

  -- ---- TypeRef rows of TARGET

  own_reference : (row : ℕ) → row ≤ count_in x TYPE_REF → own_name x' TYPE_REF row ≡ own_name x TYPE_REF row
  own_reference row h = ap (λ (n : Name). joined n (text x' TYPE_REF row 1)) (same.old_texts 0x01 row 2 h) ∙ ap (joined (text x TYPE_REF row 2)) (same.old_texts 0x01 row 1 h)

  scope_own : (name : Name) (scope : ℕ) → ((tag scope == 2) ≡ true → row_of scope ≤ count_in x ASSEMBLY_REF) → by_scope s' 0 x' name scope ≡ by_scope s 0 x name scope
  scope_own name scope h = go (tag scope == 2) h ∙ scope_other 0 x name scope
    where
      go : (b : Bool) → (b ≡ true → row_of scope ≤ count_in x ASSEMBLY_REF)
          → (if b then in_named (found_in s' name) name (assembly_named s' (text x' ASSEMBLY_REF (row_of scope) 6)) else if scope == 4 then found_in s' name 0 else Some (Outside name))
          ≡ (if b then in_named (found_in s' name) name (assembly_named s' (text x ASSEMBLY_REF (row_of scope) 6)) else if scope == 4 then found_in s' name 0 else Some (Outside name))
      go true k = ap (λ (n : Name). in_named (found_in s' name) name (assembly_named s' n)) (same.old_texts 0x23 (row_of scope) 6 (k refl))
      go false k = refl

  -- each of the rows is an old one
  abbrev AreOld : List ℕ → Type 0
  AreOld [] = Unit {0}
  AreOld (row ∷ rows) = (row ≤ count_in x TYPE_REF) × AreOld rows

  along_own : (found : Option TypeId) (rows : List ℕ) → AreOld rows → along s' x' found rows ≡ along s x found rows
  along_own found [] h = refl
  along_own found (row ∷ rows) h =
      ap (λ (n : Name). along s' x' (option_and_then (inside s' n) found) rows) (own_reference row h.0)
      ∙ ap (λ (o : Option TypeId). along s' x' o rows) (then_inside (own_name x TYPE_REF row) found)
      ∙ along_own (option_and_then (inside s (own_name x TYPE_REF row)) found) rows h.1

  from_own : (rows : List ℕ) → AreOld rows → from_outermost s' 0 x' rows ≡ from_outermost s 0 x rows
  from_own [] h = refl
  from_own (row ∷ rows) h =
      ap (λ (n : Name). along s' x' (by_scope s' 0 x' n (cell x' TYPE_REF row 0)) rows) (own_reference row h.0)
      ∙ ap (λ (c : ℕ). along s' x' (by_scope s' 0 x' (own_name x TYPE_REF row) c) rows) (same.old_cells 0x01 row 0 h.0)
      ∙ ap (λ (o : Option TypeId). along s' x' o rows) (scope_own (own_name x TYPE_REF row) (cell x TYPE_REF row 0) (indexes.scopes row))
      ∙ along_own (by_scope s 0 x (own_name x TYPE_REF row) (cell x TYPE_REF row 0)) rows h.1

  old_append : (rows more : List ℕ) → AreOld rows → AreOld more → AreOld (rows ++ more)
  old_append [] more h k = k
  old_append (row ∷ rows) more h k = (h.0, old_append rows more h.1 k)

  old_reverse : (rows : List ℕ) → AreOld rows → AreOld (reverse rows)
  old_reverse [] h = h
  old_reverse (row ∷ rows) h = subst AreOld (sym (reverse-append (row ∷ []) rows)) (old_append (reverse rows) (row ∷ []) (old_reverse rows h.1) (h.0, tt))

  -- a path of old rows stays, where more rows are allowed
  pub record StaysPath (m row : ℕ) (path : List ℕ) : Type 0 where
    pub stays : path_within (outer_reference x') m row ≡ Some path
    pub old : AreOld path

  abbrev Stays : ℕ → ℕ → Option (List ℕ) → Type 0
  Stays m row None = Unit {0}
  Stays m row (Some path) = StaysPath m row path

  path_stays : (n m row : ℕ) → row ≤ count_in x TYPE_REF → n ≤ m → Stays m row (path_within (outer_reference x) n row)
  unfolding path_within
  path_stays zero m row h l = tt
  path_stays (suc n) zero row h l = absurd (omega (arith, l))
  path_stays (suc n) (suc m) row h l = go (λ next k. path_stays n m next k (omega (arith, l))) (outer_reference x row) refl
    where
      go : ((next : ℕ) → next ≤ count_in x TYPE_REF → Stays m next (path_within (outer_reference x) n next)) → (o : Option ℕ) → outer_reference x row ≡ o
          → Stays (suc m) row (option_map (λ rest. row ∷ rest) (onwards (path_within (outer_reference x) n) o))
      go again None e = record { stays = ap (λ (p : Option ℕ). option_map (λ rest. row ∷ rest) (onwards (path_within (outer_reference x') m) p)) (outer_same x x' same row h ∙ e); old = (h, tt) }
      go again (Some next) e = further (path_within (outer_reference x) n next) (again next (indexes.outer row next e))
        where
          further : (p : Option (List ℕ)) → Stays m next p → Stays (suc m) row (option_map (λ rest. row ∷ rest) p)
          further None k = tt
          further (Some path) k = record {
            stays = ap (λ (q : Option ℕ). option_map (λ rest. row ∷ rest) (onwards (path_within (outer_reference x') m) q)) (outer_same x x' same row h ∙ e) ∙ ap (option_map (λ rest. row ∷ rest)) k.stays;
            old = (h, k.old);
          }

  pub reference_own : (row : ℕ) (id : TypeId) → row ≤ count_in x TYPE_REF → reference s 0 row ≡ Some id → reference s' 0 row ≡ Some id
  unfolding reference
  reference_own row id h e = go (path_within (outer_reference x) (count_in x TYPE_REF) row) (path_stays (count_in x TYPE_REF) (count_in x' TYPE_REF) row h (same.more 0x01)) e
    where
      go : (p : Option (List ℕ)) → Stays (count_in x' TYPE_REF) row p → by_path s 0 x p ≡ Some id → reference_in s' 0 x' row ≡ Some id
      go None k none = absurd (let wrong : None ≡ Some id = none in cc)
      go (Some path) k found = ap (by_path s' 0 x') k.stays ∙ from_own (reverse path) (old_reverse path k.old) ∙ found

  pub references_stay : (a row : ℕ) (id : TypeId) → row ≤ count_in (assembly_at s a) TYPE_REF → reference s a row ≡ Some id → reference s' a row ≡ Some id
  references_stay zero row id h e = reference_own row id h e
  references_stay (suc a) row id h e = reference_other a row ∙ e
