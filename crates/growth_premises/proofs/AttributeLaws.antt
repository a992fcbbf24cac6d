-- Attributes say the same, where rows of other tables are appended.
use Rattle.std.proofs.Common.{◌≡◌, ◌∙◌, sym, ap, refl, subst, arith, ℕ, zero, suc, ◌+◌, ◌<◌, ◌≤◌, List, [], ◌∷◌, ◌++◌, Bool, true, false, ◌||◌}
use Rattle.std.specs.Prelude.{cond, unwrap_or, option_map, option_to_list, is_none, find, filter, filter_map, flat_map, ◌==◌, ◌&&◌, ◌/◌, ◌%◌, ◌*◌, nat_le, is_some, Option, Some, None, option_and_then, if◌then◌else◌}
use Rattle.std.specs.List.{range_with_len, cons_option}
use Rattle.std.proofs.lemmas.Bool.{eqb-true}
use Rattle.cil_base.specs.declared.tables.TheConstants.{CUSTOM_ATTRIBUTE, MEMBER_REF, METHOD_DEF, TYPE_DEF, TYPE_REF, TYPE_SPEC}
use Rattle.cli_sigs.specs.Attributes.{before_comma, assembly_in}
use Rattle.cli_sigs.specs.declared.types.SigTy.{SigTy, out-SigTy}
use Rattle.cli_sigs.specs.declared.types.SigTy.TheOpen.{SigTy-F}
use Rattle.cli_sigs.specs.declared.types.MethodSig.{MethodSig}
use Rattle.cli_sigs.specs.Grammar.{named_byte}
use Rattle.cli_sigs.specs.Reading.{type_at}
use Rattle.set_names.specs.Names.{Name, is_name}
use Rattle.set_rows.specs.Sets.{Assembly, Assemblies, assembly_at, assembly_named, count_in, cell, blob, is_row, rows_in}
use Rattle.set_types.specs.CodedIndexes.{tag, row_of}
use Rattle.set_rows.specs.Owners.{owner}
use Rattle.set_signatures.specs.Blobs.{spec_sig, attribute_text}
use Rattle.set_signatures.specs.Spelling.{Spelled, spelled, spelled_all, spelled_coded, spelled_layer, spelled_named, spelled_within, followed, behind}
use Rattle.set_program.specs.declared.identity.TypeId.{TypeId}
use Rattle.set_program.specs.declared.identity.TypeId.TheVariants.{Row, Outside}
use Rattle.set_program.specs.TypeNames.{full_name}
use Rattle.set_program.specs.References.{inside, in_named, found_in, reference}
use Rattle.set_program.specs.Numbering.{order, outside_name}
use Rattle.set_program.specs.Attributes.{method_owner, named_id, name_of, defined, parent_coded, attribute_name, is_attribute, attribute_on, class_attribute, class_for_attribute, parted, inside_all, named_in, by_parts, text_type, attribute_type, names_type, attribute_outside}
use Rattle.set_program.specs.Environment.{coded_in, is_value, ty_by_id}
use Rattle.member_table.specs.MemberRules.{isnt_read}
use Rattle.set_growth.specs.Grown.{KeepsRows, IsGrown, SaysAlike}
use Rattle.set_growth.specs.Orderly.{IsOrderly}
use Rattle.set_growth.specs.Kept.{Stays, KeepsNames}
use Rattle.set_growth.proofs.FindLaws.{differs, lt_true, le_true, le_from, find_same, filter_same}
use Rattle.set_growth.proofs.KeptNameLaws.{keeps_names}
use Rattle.set_growth.proofs.KeptTypeLaws.{assembly_named_same, found_stays, inside_stays, references_stay, full_name_stays}
use Rattle.growth_premises.specs.Attributes.{HasAttributes}
use Rattle.growth_premises.specs.Rules.{KeepsRules}
use Rattle.growth_premises.proofs.RuleLaws.{attribute_there, read, referenced, there}
use Rattle.growth_premises.proofs.NumberedLaws.{IfRow, is_there, reference_row}
use Rattle.growth_premises.proofs.PlacedLaws.{owner_row}

-- ---- what stays

then_stays : {A B : Type 0} (f f' : A → Option B) (o o' : Option A) → Stays o o' → ((v : A) → Stays (f v) (f' v)) → Stays (option_and_then f o) (option_and_then f' o')
then_stays f f' None o' h k w e = absurd cc
then_stays f f' (Some v) o' h k w e = ap (option_and_then f') (h v refl) ∙ k v w e

same_stays : {A : Type 0} (o o' : Option A) → o' ≡ o → Stays o o'
same_stays o o' e v f = e ∙ f

stays_same : {A : Type 0} (o o' : Option A) → is_some o ≡ true → Stays o o' → o' ≡ o
stays_same None o' e h = absurd cc
stays_same (Some v) o' e h = h v refl

row_high : (y : Assembly) (table row : ℕ) → is_row y table row ≡ true → row ≤ count_in y table
row_high y table zero e = absurd cc
row_high y table (suc r) e = le_from (suc r) (count_in y table) (sym (ap (λ (b : Bool). b && nat_le (suc r) (count_in y table)) (lt_true 0 (suc r) (omega arith))) ∙ e)

row_low : (y : Assembly) (table row : ℕ) → is_row y table row ≡ true → 1 ≤ row
row_low y table zero e = absurd cc
row_low y table (suc r) e = omega arith

row_is : (y : Assembly) (table row : ℕ) → 1 ≤ row → row ≤ count_in y table → is_row y table row ≡ true
row_is y table row low high = ap (λ (b : Bool). b && nat_le row (count_in y table)) (lt_true 0 row low) ∙ le_true row (count_in y table) high

-- ---- lists over ranges, of which tests and answers are the same

filter_map_where : {B : Type 0} (t : ℕ → Bool) (f g : ℕ → Option B) (a n : ℕ) → ((r : ℕ) → a ≤ r → r < a + n → t r ≡ true → f r ≡ g r) → filter_map f (filter t (range_with_len a n)) ≡ filter_map g (filter t (range_with_len a n))
filter_map_where t f g a zero h = refl
filter_map_where {B} t f g a (suc n) h = go (t a) refl (filter_map_where t f g (a + 1) n (λ r low high. h r (omega (arith, low)) (omega (arith, high))))
  where
    go : (b : Bool) → t a ≡ b → filter_map f (filter t (range_with_len (a + 1) n)) ≡ filter_map g (filter t (range_with_len (a + 1) n))
        → filter_map f (cond b (a ∷ filter t (range_with_len (a + 1) n)) (filter t (range_with_len (a + 1) n))) ≡ filter_map g (cond b (a ∷ filter t (range_with_len (a + 1) n)) (filter t (range_with_len (a + 1) n)))
    go true e more =
        ap (λ (o : Option B). cons_option o (filter_map f (filter t (range_with_len (a + 1) n)))) (h a (omega arith) (omega arith) e)
        ∙ ap (cons_option (g a)) more
    go false e more = more

this_number : (a b : ℕ) → Some a ≡ Some b → a ≡ b
this_number a b e = ap (λ (o : Option ℕ). unwrap_or o a) e

is_some_of : {A : Type 0} (o : Option A) → is_none o ≡ false → is_some o ≡ true
is_some_of None h = absurd cc
is_some_of (Some v) h = refl

apart : (n a b : ℕ) → (n == a) ≡ true → (n == b) ≡ true → (a ≡ b → ⊥) → ⊥
apart n a b e f different = different (sym (eqb-true n a e) ∙ eqb-true n b f)

abbrev named_by : Assemblies → ℕ → ℕ → Bool → Bool → Bool → Bool → Option TypeId
named_by u a row def def_there ref ref_there = if def then (if def_there then Some (Row a row) else None) else if ref then (if ref_there then reference u a row else None) else None

-- the name of an attribute's type is this one
attribute_is : (s : Assemblies) (a : ℕ) (name : Name) (k : ℕ) → is_attribute s a name k ≡ is_name name (attribute_name s a k)
attribute_is s a name k = go (attribute_name s a k) refl
  where
    go : (o : Option Name) → attribute_name s a k ≡ o → is_attribute s a name k ≡ is_name name (attribute_name s a k)
    go None e = rw e
    go (Some other) e = rw e

-- ---- a set, to whose TARGET rows are appended

module _ (x x' : Assembly) (xs : Assemblies) (grown : IsGrown x x') (orderly : IsOrderly x) where
  abbrev s : Assemblies
  s = x ∷ xs

  abbrev s' : Assemblies
  s' = x' ∷ xs

  rows : KeepsRows x x'
  rows = grown.rows

  names : KeepsNames x x'
  names = keeps_names x x' grown orderly

  full_stays : (a row : ℕ) → Stays (full_name (assembly_at s a) row) (full_name (assembly_at s' a) row)
  full_stays zero row = full_name_stays x x' xs grown orderly row
  full_stays (suc a) row = λ v e. e

  owner_stays : (a row : ℕ) → Stays (method_owner (assembly_at s a) row) (method_owner (assembly_at s' a) row)
  owner_stays zero row = names.method_owner row
  owner_stays (suc a) row = λ v e. e

  more_rows : (a table : ℕ) → count_in (assembly_at s a) table ≤ count_in (assembly_at s' a) table
  more_rows zero table = rows.more table
  more_rows (suc a) table = omega arith

  row_stays : (a table row : ℕ) → is_row (assembly_at s a) table row ≡ true → is_row (assembly_at s' a) table row ≡ true
  row_stays a table row e =
      let h : row ≤ count_in (assembly_at s a) table = row_high (assembly_at s a) table row e in
      let m : count_in (assembly_at s a) table ≤ count_in (assembly_at s' a) table = more_rows a table in
      row_is (assembly_at s' a) table row (row_low (assembly_at s a) table row e) (omega (arith, h, m))

  old_row_same : (table row : ℕ) → row ≤ count_in x table → is_row x' table row ≡ is_row x table row
  old_row_same table zero h = refl
  old_row_same table (suc r) h =
      let m : count_in x table ≤ count_in x' table = rows.more table in
      row_is x' table (suc r) (omega arith) (omega (arith, h, m)) ∙ sym (row_is x table (suc r) (omega arith) h)

  row_same : (a table row : ℕ) → (a ≡ 0 → row ≤ count_in x table) → is_row (assembly_at s' a) table row ≡ is_row (assembly_at s a) table row
  row_same zero table row h = old_row_same table row (h refl)
  row_same (suc a) table row h = refl

  full_same : (b r : ℕ) → 1 ≤ r → r ≤ count_in (assembly_at s b) TYPE_DEF → full_name (assembly_at s' b) r ≡ full_name (assembly_at s b) r
  full_same zero r low high = names.names r low high
  full_same (suc b) r low high = refl

  id_name_same : (o : Option TypeId) → IfRow s o → name_of s' o ≡ name_of s o
  id_name_same None h = refl
  id_name_same (Some (Outside n)) h = refl
  id_name_same (Some (Row b r)) h = full_same b r h.1.0 h.1.1

  -- what an index names is outside, or a row that there is
  named_row : (a coded : ℕ) → IfRow s (named_id s a coded)
  named_row a coded = go (tag coded == 0) (tag coded == 1)
    where
      own : (b : Bool) → is_row (assembly_at s a) TYPE_DEF (row_of coded) ≡ b → IfRow s (if b then Some (Row a (row_of coded)) else None)
      own true e =
          let low : 1 ≤ row_of coded = row_low (assembly_at s a) TYPE_DEF (row_of coded) e in
          let high : row_of coded ≤ count_in (assembly_at s a) TYPE_DEF = row_high (assembly_at s a) TYPE_DEF (row_of coded) e in
          (is_there s a TYPE_DEF (row_of coded) low high, (low, high))
      own false e = tt

      other : (b : Bool) → IfRow s (if b then reference s a (row_of coded) else None)
      other true = reference_row s a (row_of coded)
      other false = tt

      go : (b c : Bool) → IfRow s (if b then (if is_row (assembly_at s a) TYPE_DEF (row_of coded) then Some (Row a (row_of coded)) else None) else if c then (if is_row (assembly_at s a) TYPE_REF (row_of coded) then reference s a (row_of coded) else None) else None)
      go true c = own (is_row (assembly_at s a) TYPE_DEF (row_of coded)) refl
      go false true = other (is_row (assembly_at s a) TYPE_REF (row_of coded))
      go false false = tt

  -- ---- types that texts name

  then_inside : (n : Name) (o o' : Option TypeId) → Stays o o' → Stays (option_and_then (inside s n) o) (option_and_then (inside s' n) o')
  then_inside n o o' h = then_stays (inside s n) (inside s' n) o o' h (inside_stays x x' xs grown orderly n)

  all_inside : (ns : List Name) (o o' : Option TypeId) → Stays o o' → Stays (inside_all s o ns) (inside_all s' o' ns)
  all_inside [] o o' h = h
  all_inside (n ∷ ns) o o' h = all_inside ns (option_and_then (inside s n) o) (option_and_then (inside s' n) o') (then_inside n o o' h)

  in_stays : (name : Name) (o o' : Option ℕ) → o' ≡ o → Stays (in_named (found_in s name) name o) (in_named (found_in s' name) name o')
  in_stays name None o' e id f = ap (in_named (found_in s' name) name) e ∙ f
  in_stays name (Some a) o' e id f = ap (in_named (found_in s' name) name) e ∙ found_stays x x' xs grown orderly name a id f

  named_in_stays : (name : Name) (a : ℕ) (o : Option Name) → Stays (named_in s name a o) (named_in s' name a o)
  named_in_stays name a None = found_stays x x' xs grown orderly name a
  named_in_stays name a (Some n) = in_stays name (assembly_named s n) (assembly_named s' n) (assembly_named_same x x' xs grown orderly n)

  parts_stay : (a : ℕ) (o : Option Name) (ns : List Name) → Stays (by_parts s a o ns) (by_parts s' a o ns)
  parts_stay a o [] = λ id e. absurd cc
  parts_stay a o (n ∷ ns) = all_inside ns (named_in s n a o) (named_in s' n a o) (named_in_stays n a o)

  text_stays : (a : ℕ) (text : List ℕ) → Stays (text_type s a text) (text_type s' a text)
  unfolding text_type
  text_stays a text = parts_stay a (assembly_in text) (parted [] (before_comma text))

  -- ---- rows of CustomAttribute

  same_count : (a : ℕ) → count_in (assembly_at s' a) CUSTOM_ATTRIBUTE ≡ count_in (assembly_at s a) CUSTOM_ATTRIBUTE
  same_count zero = rows.same_count CUSTOM_ATTRIBUTE refl
  same_count (suc a) = refl

  same_cell : (a k column : ℕ) → cell (assembly_at s' a) CUSTOM_ATTRIBUTE k column ≡ cell (assembly_at s a) CUSTOM_ATTRIBUTE k column
  same_cell zero k column = rows.same_cells CUSTOM_ATTRIBUTE k column refl
  same_cell (suc a) k column = refl

  same_blob : (a k : ℕ) → k ≤ count_in (assembly_at s a) CUSTOM_ATTRIBUTE → blob (assembly_at s' a) CUSTOM_ATTRIBUTE k 2 ≡ blob (assembly_at s a) CUSTOM_ATTRIBUTE k 2
  same_blob zero k h = rows.old_blobs CUSTOM_ATTRIBUTE k 2 refl h
  same_blob (suc a) k h = refl

  type_stays : (a k : ℕ) → k ≤ count_in (assembly_at s a) CUSTOM_ATTRIBUTE → Stays (attribute_type s a k) (attribute_type s' a k)
  unfolding attribute_type
  type_stays a k h id e =
      ap (λ (bytes : List ℕ). option_and_then (text_type s' a) (attribute_text bytes)) (same_blob a k h)
      ∙ then_stays (text_type s a) (text_type s' a) (attribute_text (blob (assembly_at s a) CUSTOM_ATTRIBUTE k 2)) (attribute_text (blob (assembly_at s a) CUSTOM_ATTRIBUTE k 2)) (λ v f. f) (text_stays a) id e

  module _ (kept : KeepsRules (x ∷ xs)) (has : HasAttributes x) where
    -- ---- indexes

    -- an index that keeps to the old rows of TARGET, where it is of TARGET
    record Keeps (a coded : ℕ) : Type 0 where
      defined : (tag coded == 0) ≡ true → a ≡ 0 → row_of coded ≤ count_in x TYPE_DEF
      referenced : (tag coded == 1) ≡ true → a ≡ 0 → row_of coded ≤ count_in x TYPE_REF

    id_same : (a coded : ℕ) → Keeps a coded → named_id s' a coded ≡ named_id s a coded
    id_same a coded keeps = go (tag coded == 0) refl (tag coded == 1) refl
      where
        by_row : (known : Bool) → is_row (assembly_at s a) TYPE_REF (row_of coded) ≡ known → (if known then reference s' a (row_of coded) else None) ≡ (if known then reference s a (row_of coded) else None)
        by_row true e = stays_same (reference s a (row_of coded)) (reference s' a (row_of coded)) (referenced s kept a (row_of coded) e) (references_stay x x' xs grown orderly a (row_of coded) (row_high (assembly_at s a) TYPE_REF (row_of coded) e))
        by_row false e = refl

        go : (def : Bool) → (tag coded == 0) ≡ def → (ref : Bool) → (tag coded == 1) ≡ ref
            → (if def then (if is_row (assembly_at s' a) TYPE_DEF (row_of coded) then Some (Row a (row_of coded)) else None) else if ref then (if is_row (assembly_at s' a) TYPE_REF (row_of coded) then reference s' a (row_of coded) else None) else None)
            ≡ (if def then (if is_row (assembly_at s a) TYPE_DEF (row_of coded) then Some (Row a (row_of coded)) else None) else if ref then (if is_row (assembly_at s a) TYPE_REF (row_of coded) then reference s a (row_of coded) else None) else None)
        go true e ref f = ap (λ (b : Bool). if b then Some (Row a (row_of coded)) else None) (row_same a TYPE_DEF (row_of coded) (keeps.defined e))
        go false e true f =
            ap (λ (b : Bool). if b then reference s' a (row_of coded) else None) (row_same a TYPE_REF (row_of coded) (keeps.referenced f))
            ∙ by_row (is_row (assembly_at s a) TYPE_REF (row_of coded)) refl
        go false e false f = refl

    coded_name_same : (a coded : ℕ) → Keeps a coded → name_of s' (named_id s' a coded) ≡ name_of s (named_id s a coded)
    coded_name_same a coded keeps = ap (name_of s') (id_same a coded keeps) ∙ id_name_same (named_id s a coded) (named_row a coded)

    then_name_same : (a : ℕ) (o : Option ℕ) → ((coded : ℕ) → o ≡ Some coded → Keeps a coded) → option_and_then (λ coded. name_of s' (named_id s' a coded)) o ≡ option_and_then (λ coded. name_of s (named_id s a coded)) o
    then_name_same a None h = refl
    then_name_same a (Some coded) h = coded_name_same a coded (h coded refl)

    -- an index that names something
    keeps_named : (coded : ℕ) → is_some (named_id s 0 coded) ≡ true → Keeps 0 coded
    keeps_named coded h = record {
      defined = λ e z. row_high x TYPE_DEF (row_of coded) (own (is_row x TYPE_DEF (row_of coded)) refl (ap (λ (b : Bool). is_some (named_by s 0 (row_of coded) b (is_row x TYPE_DEF (row_of coded)) (tag coded == 1) (is_row x TYPE_REF (row_of coded)))) (sym e) ∙ h));
      referenced = λ e z. row_high x TYPE_REF (row_of coded) (other (is_row x TYPE_REF (row_of coded)) refl
          (ap (λ (b : Bool). is_some (named_by s 0 (row_of coded) b (is_row x TYPE_DEF (row_of coded)) true (is_row x TYPE_REF (row_of coded)))) (sym (not_both (tag coded) e))
          ∙ ap (λ (b : Bool). is_some (named_by s 0 (row_of coded) (tag coded == 0) (is_row x TYPE_DEF (row_of coded)) b (is_row x TYPE_REF (row_of coded)))) (sym e) ∙ h));
    }
      where
        own : (b : Bool) → is_row x TYPE_DEF (row_of coded) ≡ b → is_some (if b then Some (Row 0 (row_of coded)) else None) ≡ true → is_row x TYPE_DEF (row_of coded) ≡ true
        own true e f = e
        own false e f = absurd cc

        other : (b : Bool) → is_row x TYPE_REF (row_of coded) ≡ b → is_some (if b then reference s 0 (row_of coded) else None) ≡ true → is_row x TYPE_REF (row_of coded) ≡ true
        other true e f = e
        other false e f = absurd cc

        not_both : (t : ℕ) → (t == 1) ≡ true → (t == 0) ≡ false
        not_both t e = let one : t ≡ 1 = eqb-true t 1 e in differs t 0 (λ z. absurd (omega (arith, z, one)))

    -- ---- TypeSpec rows of TARGET

    named_some : (first : ℕ) (number : Option ℕ) (o : Option TypeId) → is_none (spelled_named first number (option_map (ty_by_id s) o)) ≡ false → is_some o ≡ true
    named_some first number None h = absurd cc
    named_some first number (Some id) h = refl

    by_spelled : (read : SigTy → Spelled) (first coded : ℕ) → is_none (spelled_coded (coded_in s 0) read first coded) ≡ false → Keeps 0 coded
    by_spelled read first coded h = go (tag coded == 2) refl h
      where
        go : (b : Bool) → (tag coded == 2) ≡ b → is_none (if b then option_and_then read ((coded_in s 0).spec (row_of coded)) else spelled_named first ((coded_in s 0).number coded) ((coded_in s 0).named coded)) ≡ false → Keeps 0 coded
        go true e f = record { defined = λ g z. absurd (apart (tag coded) 2 0 e g (λ i. absurd (omega (arith, i)))); referenced = λ g z. absurd (apart (tag coded) 2 1 e g (λ i. absurd (omega (arith, i)))) }
        go false e f = keeps_named coded (named_some first ((coded_in s 0).number coded) (named_id s 0 coded) f)

    first_some : (a b : Spelled) → is_none (followed a b) ≡ false → is_none a ≡ false
    first_some None b h = absurd cc
    first_some (Some l) b h = refl

    behind_some : (front : List ℕ) (a : Spelled) → is_none (behind front a) ≡ false → is_none a ≡ false
    behind_some front None h = absurd cc
    behind_some front (Some l) h = refl

    by_layer : (read : SigTy → Spelled) (l : SigTy-F SigTy MethodSig) (coded : ℕ) → is_none (spelled_layer (coded_in s 0) [] read l) ≡ false → defined l ≡ Some coded → Keeps 0 coded
    by_layer read (SigTy-F.Named value c) coded h e =
        let same : c ≡ coded = this_number c coded e in
        subst (Keeps 0) same (by_spelled read (named_byte value) c h)
    by_layer read (SigTy-F.Inst value c args) coded h e =
        let same : c ≡ coded = this_number c coded e in
        subst (Keeps 0) same
        (by_spelled read (named_byte value) c (first_some (spelled_coded (coded_in s 0) read (named_byte value) c) (spelled_all read args) (behind_some (0x15 ∷ []) (followed (spelled_coded (coded_in s 0) read (named_byte value) c) (spelled_all read args)) h)))
    by_layer read (SigTy-F.Prim b) coded h e = absurd cc
    by_layer read (SigTy-F.Ptr t) coded h e = absurd cc
    by_layer read (SigTy-F.ByRef t) coded h e = absurd cc
    by_layer read (SigTy-F.Var n) coded h e = absurd cc
    by_layer read (SigTy-F.MVar n) coded h e = absurd cc
    by_layer read (SigTy-F.Array t rank sizes lows) coded h e = absurd cc
    by_layer read (SigTy-F.Func m) coded h e = absurd cc
    by_layer read (SigTy-F.SzArray t) coded h e = absurd cc
    by_layer read (SigTy-F.Modified required c t) coded h e = absurd cc
    by_layer read (SigTy-F.Pinned t) coded h e = absurd cc

    spec_keeps : (t : SigTy) (coded : ℕ) → is_none (spelled (coded_in s 0) [] t) ≡ false → defined (out-SigTy t) ≡ Some coded → Keeps 0 coded
    unfolding spelled_within
    spec_keeps t coded h e = by_layer (spelled_within (coded_in s 0) [] 999) (out-SigTy t) coded h e

    first_read : (o : Option SigTy) (t : SigTy) → isnt_read (coded_in s 0) (option_to_list o) ≡ false → o ≡ Some t → is_none (spelled (coded_in s 0) [] t) ≡ false
    first_read o t h e = go (is_none (spelled (coded_in s 0) [] t)) (sym (ap (λ (p : Option SigTy). isnt_read (coded_in s 0) (option_to_list p)) e) ∙ h)
      where
        go : (b : Bool) → (b || false) ≡ false → b ≡ false
        go true f = absurd cc
        go false f = refl

    no_spec : spec_sig (blob x TYPE_SPEC 0 0) ≡ None
    unfolding spec_sig type_at
    no_spec = refl

    spec_row : (r coded : ℕ) → r ≤ count_in x TYPE_SPEC → option_and_then (λ (t : SigTy). defined (out-SigTy t)) (spec_sig (blob x TYPE_SPEC r 0)) ≡ Some coded → Keeps 0 coded
    spec_row zero coded high e = absurd (let wrong : None ≡ Some coded = sym (ap (option_and_then (λ (t : SigTy). defined (out-SigTy t))) no_spec) ∙ e in cc)
    spec_row (suc r) coded high e = go (spec_sig (blob x TYPE_SPEC (suc r) 0)) refl e
      where
        go : (o : Option SigTy) → spec_sig (blob x TYPE_SPEC (suc r) 0) ≡ o → option_and_then (λ (t : SigTy). defined (out-SigTy t)) o ≡ Some coded → Keeps 0 coded
        go None f g = absurd cc
        go (Some t) f g = spec_keeps t coded (first_read (spec_sig (blob x TYPE_SPEC (suc r) 0)) t (read s kept 0 TYPE_SPEC (suc r) (omega arith) high) f) g

    by_parent : (p coded : ℕ) → ((p % 8 == 0) ≡ true → p / 8 ≤ count_in x TYPE_DEF) → ((p % 8 == 1) ≡ true → p / 8 ≤ count_in x TYPE_REF) → ((p % 8 == 4) ≡ true → p / 8 ≤ count_in x TYPE_SPEC)
        → parent_coded x p ≡ Some coded → Keeps 0 coded
    by_parent p coded of_def of_ref of_spec e = go (p % 8 == 0) refl (p % 8 == 1) refl (p % 8 == 4) refl e
      where
        go : (b : Bool) → (p % 8 == 0) ≡ b → (c : Bool) → (p % 8 == 1) ≡ c → (d : Bool) → (p % 8 == 4) ≡ d
            → (if b then Some (p / 8 * 4) else if c then Some (p / 8 * 4 + 1) else if d then option_and_then (λ (t : SigTy). defined (out-SigTy t)) (spec_sig (blob x TYPE_SPEC (p / 8) 0)) else None) ≡ Some coded → Keeps 0 coded
        go true f c g d h i =
            let same : p / 8 * 4 ≡ coded = this_number (p / 8 * 4) coded i in
            let low : p / 8 ≤ count_in x TYPE_DEF = of_def f in
            record {
              defined = λ j z. omega (arith, same, low);
              referenced = λ j z. absurd (let tagged : tag coded ≡ 1 = eqb-true (tag coded) 1 j in omega (arith, same, tagged));
            }
        go false f true g d h i =
            let same : p / 8 * 4 + 1 ≡ coded = this_number (p / 8 * 4 + 1) coded i in
            let low : p / 8 ≤ count_in x TYPE_REF = of_ref g in
            record {
              defined = λ j z. absurd (let tagged : tag coded ≡ 0 = eqb-true (tag coded) 0 j in omega (arith, same, tagged));
              referenced = λ j z. omega (arith, same, low);
            }
        go false f false g true h i = spec_row (p / 8) coded (of_spec h) i
        go false f false g false h i = absurd cc

    parent_keeps : (row coded : ℕ) → row ≤ count_in x MEMBER_REF → parent_coded x (cell x MEMBER_REF row 0) ≡ Some coded → Keeps 0 coded
    parent_keeps row coded high e = by_parent (cell x MEMBER_REF row 0) coded (has.defined row high) (has.referenced row high) (has.specs row high) e

    -- ---- names of attributes

    abbrev by_constructor : Assemblies → ℕ → Assembly → ℕ → Option Name
    by_constructor u a y type =
        if type % 8 == 2 then option_and_then (full_name y) (method_owner y (type / 8))
        else if type % 8 == 3 then option_and_then (λ coded. name_of u (named_id u a coded)) (parent_coded y (cell y MEMBER_REF (type / 8) 0))
        else None

    owner_same : (row : ℕ) → row ≤ count_in x METHOD_DEF → method_owner x' row ≡ method_owner x row
    unfolding owner
    owner_same zero high = refl
    owner_same (suc r) high =
        stays_same (method_owner x (suc r)) (method_owner x' (suc r)) (is_some_of (method_owner x (suc r)) (there s kept 0 METHOD_DEF (suc r) (omega arith) high)) (names.method_owner (suc r))

    owner_name_same : (row : ℕ) → row ≤ count_in x METHOD_DEF → option_and_then (full_name x') (method_owner x' row) ≡ option_and_then (full_name x) (method_owner x row)
    owner_name_same row high = ap (option_and_then (full_name x')) (owner_same row high) ∙ go (method_owner x row) refl
      where
        go : (o : Option ℕ) → method_owner x row ≡ o → option_and_then (full_name x') o ≡ option_and_then (full_name x) o
        go None e = refl
        go (Some k) e = let at : (1 ≤ k) × (k ≤ count_in x TYPE_DEF) = owner_row x 5 METHOD_DEF row k e in full_same 0 k at.0 at.1

    abbrev by_spec : ℕ → Assembly → Option ℕ
    by_spec row y = option_and_then (λ (t : SigTy). defined (out-SigTy t)) (spec_sig (blob y TYPE_SPEC row 0))

    parent_same : (y y' : Assembly) (parent : ℕ) → ((parent % 8 == 4) ≡ true → blob y' TYPE_SPEC (parent / 8) 0 ≡ blob y TYPE_SPEC (parent / 8) 0) → parent_coded y' parent ≡ parent_coded y parent
    parent_same y y' parent h = go (parent % 8 == 0) (parent % 8 == 1) (parent % 8 == 4) h
      where
        go : (b c d : Bool) → (d ≡ true → blob y' TYPE_SPEC (parent / 8) 0 ≡ blob y TYPE_SPEC (parent / 8) 0)
            → (if b then Some (parent / 8 * 4) else if c then Some (parent / 8 * 4 + 1) else if d then by_spec (parent / 8) y' else None)
            ≡ (if b then Some (parent / 8 * 4) else if c then Some (parent / 8 * 4 + 1) else if d then by_spec (parent / 8) y else None)
        go true c d k = refl
        go false true d k = refl
        go false false true k = ap (λ (bytes : List ℕ). option_and_then (λ (t : SigTy). defined (out-SigTy t)) (spec_sig bytes)) (k refl)
        go false false false k = refl

    target_parent_same : (row : ℕ) → row ≤ count_in x MEMBER_REF → parent_coded x' (cell x' MEMBER_REF row 0) ≡ parent_coded x (cell x MEMBER_REF row 0)
    target_parent_same row high =
        ap (parent_coded x') (rows.old_cells MEMBER_REF row 0 refl high)
        ∙ parent_same x x' (cell x MEMBER_REF row 0) (λ f. rows.old_blobs TYPE_SPEC (cell x MEMBER_REF row 0 / 8) 0 refl (has.specs row high f))

    abbrev name_by : Assemblies → Assembly → ℕ → Option Name
    name_by u y row = option_and_then (λ coded. name_of u (named_id u 0 coded)) (parent_coded y (cell y MEMBER_REF row 0))

    target_name_same : (type : ℕ) → ((type % 8 == 2) ≡ true → type / 8 ≤ count_in x METHOD_DEF) → ((type % 8 == 3) ≡ true → type / 8 ≤ count_in x MEMBER_REF) → by_constructor s' 0 x' type ≡ by_constructor s 0 x type
    target_name_same type of_method of_reference = go (type % 8 == 2) refl (type % 8 == 3) refl
      where
        go : (b : Bool) → (type % 8 == 2) ≡ b → (c : Bool) → (type % 8 == 3) ≡ c
            → (if b then option_and_then (full_name x') (method_owner x' (type / 8)) else if c then name_by s' x' (type / 8) else None)
            ≡ (if b then option_and_then (full_name x) (method_owner x (type / 8)) else if c then name_by s x (type / 8) else None)
        go true e c f = owner_name_same (type / 8) (of_method e)
        go false e true f =
            ap (option_and_then (λ coded. name_of s' (named_id s' 0 coded))) (target_parent_same (type / 8) (of_reference f))
            ∙ then_name_same 0 (parent_coded x (cell x MEMBER_REF (type / 8) 0)) (λ coded. parent_keeps (type / 8) coded (of_reference f))
        go false e false f = refl

    other_name_same : (a type : ℕ) → by_constructor s' (suc a) (assembly_at s (suc a)) type ≡ by_constructor s (suc a) (assembly_at s (suc a)) type
    other_name_same a type =
        ap (λ (o : Option Name). if type % 8 == 2 then option_and_then (full_name (assembly_at s (suc a))) (method_owner (assembly_at s (suc a)) (type / 8)) else if type % 8 == 3 then o else None)
        (then_name_same (suc a) (parent_coded (assembly_at s (suc a)) (cell (assembly_at s (suc a)) MEMBER_REF (type / 8) 0)) (λ coded e. record { defined = λ f z. absurd (omega (arith, z)); referenced = λ f z. absurd (omega (arith, z)) }))

    name_same : (a k : ℕ) → 1 ≤ k → k ≤ count_in (assembly_at s a) CUSTOM_ATTRIBUTE → attribute_name s' a k ≡ attribute_name s a k
    unfolding attribute_name
    name_same zero k low high =
        ap (by_constructor s' 0 x') (same_cell 0 k 1) ∙ target_name_same (cell x CUSTOM_ATTRIBUTE k 1) (has.methods k high) (has.constructors k high)
    name_same (suc a) k low high = other_name_same a (cell (assembly_at s (suc a)) CUSTOM_ATTRIBUTE k 1)

    attribute_same : (a : ℕ) (name : Name) (k : ℕ) → 1 ≤ k → k ≤ count_in (assembly_at s a) CUSTOM_ATTRIBUTE → is_attribute s' a name k ≡ is_attribute s a name k
    attribute_same a name k low high = attribute_is s' a name k ∙ ap (is_name name) (name_same a k low high) ∙ sym (attribute_is s a name k)

    on_same : (a parent : ℕ) (name : Name) → attribute_on s' a name parent ≡ attribute_on s a name parent
    unfolding attribute_on
    on_same a parent name =
        ap (λ (n : ℕ). find (λ k. (cell (assembly_at s' a) CUSTOM_ATTRIBUTE k 0 == parent) && is_attribute s' a name k) (range_with_len 1 n)) (same_count a)
        ∙ find_same (λ k. (cell (assembly_at s' a) CUSTOM_ATTRIBUTE k 0 == parent) && is_attribute s' a name k) (λ k. (cell (assembly_at s a) CUSTOM_ATTRIBUTE k 0 == parent) && is_attribute s a name k) 1 (count_in (assembly_at s a) CUSTOM_ATTRIBUTE)
        (λ k low high. ap (λ (c : ℕ). (c == parent) && is_attribute s' a name k) (same_cell a k 0) ∙ ap (λ (b : Bool). (cell (assembly_at s a) CUSTOM_ATTRIBUTE k 0 == parent) && b) (attribute_same a name k low (omega (arith, high))))

    names_same : (a k : ℕ) → 1 ≤ k → k ≤ count_in (assembly_at s a) CUSTOM_ATTRIBUTE → names_type s' a k ≡ names_type s a k
    names_same a k low high = ap (λ (b : Bool). b || is_attribute s' a class_for_attribute k) (attribute_same a class_attribute k low high) ∙ ap (λ (b : Bool). is_attribute s a class_attribute k || b) (attribute_same a class_for_attribute k low high)

    abbrev outside_at : Assemblies → ℕ → ℕ → Option Name
    outside_at u a k = outside_name (attribute_type u a k)

    outside_same : (a : ℕ) → filter_map (outside_at s' a) (filter (names_type s' a) (rows_in (assembly_at s' a) CUSTOM_ATTRIBUTE)) ≡ filter_map (outside_at s a) (filter (names_type s a) (rows_in (assembly_at s a) CUSTOM_ATTRIBUTE))
    outside_same a =
        ap (λ (n : ℕ). filter_map (outside_at s' a) (filter (names_type s' a) (range_with_len 1 n))) (same_count a)
        ∙ ap (filter_map (outside_at s' a)) (filter_same (names_type s' a) (names_type s a) 1 (count_in (assembly_at s a) CUSTOM_ATTRIBUTE) (λ k low high. names_same a k low (omega (arith, high))))
        ∙ filter_map_where (names_type s a) (outside_at s' a) (outside_at s a) 1 (count_in (assembly_at s a) CUSTOM_ATTRIBUTE)
        (λ k low high t. let le : k ≤ count_in (assembly_at s a) CUSTOM_ATTRIBUTE = omega (arith, high) in ap outside_name (stays_same (attribute_type s a k) (attribute_type s' a k) (attribute_there s kept a k low le t) (type_stays a k le)))

    all_same : (numbers : List ℕ) → flat_map (λ a. filter_map (outside_at s' a) (filter (names_type s' a) (rows_in (assembly_at s' a) CUSTOM_ATTRIBUTE))) numbers ≡ flat_map (λ a. filter_map (outside_at s a) (filter (names_type s a) (rows_in (assembly_at s a) CUSTOM_ATTRIBUTE))) numbers
    all_same [] = refl
    all_same (a ∷ numbers) =
        ap (λ (l : List Name). l ++ flat_map (λ a. filter_map (outside_at s' a) (filter (names_type s' a) (rows_in (assembly_at s' a) CUSTOM_ATTRIBUTE))) numbers) (outside_same a)
        ∙ ap (λ (l : List Name). filter_map (outside_at s a) (filter (names_type s a) (rows_in (assembly_at s a) CUSTOM_ATTRIBUTE)) ++ l) (all_same numbers)

    attributes_same : attribute_outside s' ≡ attribute_outside s
    unfolding attribute_outside
    attributes_same = all_same (order s)

    pub says_alike : ((name : Name) → is_value s' name ≡ is_value s name) → SaysAlike s s'
    says_alike values = record {
      attributes = attributes_same;
      has = λ a parent name. ap is_some (on_same a parent name);
      values = values;
    }
