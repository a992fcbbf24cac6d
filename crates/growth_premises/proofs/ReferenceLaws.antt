-- What MemberRef rows name: rows of the set, or members outside that such a row names first.
use Rattle.std.proofs.Common.{◌≡◌, ◌∙◌, sym, ap, refl, subst, arith, append_assoc, ℕ, zero, suc, ◌+◌, ◌≤◌, List, [], ◌∷◌, ◌++◌, length, Bool, true, false, ◌||◌, ◌⊎◌, inl, inr}
use Rattle.std.specs.Prelude.{cond, find, map, flat_map, ◌==◌, ◌*◌, ◌/◌, ◌%◌, nat_lt, slice_get, unwrap_or, is_some, Option, Some, None, option_map, option_and_then, if◌then◌else◌}
use Rattle.std.specs.List.{range_with_len}
use Rattle.cil_base.specs.declared.tables.TheConstants.{MEMBER_REF, METHOD_DEF, TYPE_DEF}
use Rattle.cil_model.specs.declared.ty.Ty.{Ty, out-Ty}
use Rattle.cil_semantics.specs.Lookups.{in_set}
use Rattle.set_names.specs.Cycles.{any}
use Rattle.set_rows.specs.Sets.{Assembly, Assemblies, assembly_at, count_in, cell, text, blob, is_row, rows_in}
use Rattle.set_rows.specs.Owners.{owner, owns}
use Rattle.set_signatures.specs.Blobs.{is_field_blob}
use Rattle.set_signatures.specs.Shapes.{same_bool, signature_numbers}
use Rattle.set_signatures.specs.Spelling.{Spelled}
use Rattle.set_signatures.specs.declared.shape.Shape.{Shape}
use Rattle.set_program.specs.Numbering.{Cell, order}
use Rattle.set_program.specs.declared.identity.TypeId.TheVariants as type_id
use Rattle.set_program.specs.Environment.{coded_in, number_of}
use Rattle.members.specs.Bases.{arguments, onwards, with_arguments, here_or}
use Rattle.members.specs.MemberRows.{member_table, declared}
use Rattle.members.specs.OutsideMembers.{member_place}
use Rattle.members.specs.declared.set_type.SetType.{SetType}
use Rattle.members.specs.declared.outside_member.OutsideMember.{OutsideMember}
use Rattle.member_table.specs.declared.named.Found.{Found}
use Rattle.member_table.specs.declared.named.Named.{Named}
use Rattle.member_table.specs.declared.named.Named.TheVariants as named
use Rattle.member_table.specs.Environments.{Environment, environment, set_types, seen_within}
use Rattle.member_table.specs.Members.{declared_by, by_type, found_within, owner_name, found_or_missing, outside_or_missing, found_in_type, found_at, found_from, of_type, of_parent, method_found, of_method, reference_shape, parent_type, of_reference, member_in, member}
use Rattle.member_table.specs.Numbers.{outside_of, outside_in, added_if, all_noted, references_in, reference_rows, outside_members, names_member, outside_row}
use Rattle.set_growth.specs.Orderly.{IsOrderly}
use Rattle.set_growth.proofs.FindLaws.{Among, found_among, lt_from, le_from}
use Rattle.set_growth.proofs.GrowthLists.{Each, each_append}
use Rattle.program_growth.specs.Rules.{IsOutside}
use Rattle.growth_premises.specs.Places.{HasReferences}
use Rattle.growth_premises.proofs.AnyLaws.{any_right}
use Rattle.growth_premises.proofs.RuleLaws.{both_left, both_right}
use Rattle.growth_premises.proofs.OutsideLaws.{itself}
use Rattle.growth_premises.proofs.PlacedLaws.{members, each_got}

-- the type of each member outside that a MemberRef row names has a number
abbrev pub NumbersOwners : Assemblies → Type 0
NumbersOwners s = (a row : ℕ) (m : OutsideMember) → 1 ≤ row → row ≤ count_in (assembly_at s a) MEMBER_REF → member s a row ≡ named.Outside m → is_some (number_of s (type_id.Outside m.owner)) ≡ true

-- ---- what a row names, by cases

module _ (s : Assemblies) where
  abbrev e : Environment
  e = environment s

  abbrev IsRange : Found → Type 0
  IsRange f = (1 ≤ f.row) × (f.row ≤ count_in (assembly_at s f.assembly) (member_table f.is_field))

  -- a member that was found by type and row
  record Holds (y : Shape) (q : ℕ × ℕ) : Type 0 where
    type : SetType
    there : slice_get (set_types s) q.0 ≡ Some type
    low : 1 ≤ q.1
    high : q.1 ≤ count_in (assembly_at s type.assembly) (member_table y.is_field)

  declared_row : (args : List (List ℕ)) (y : Shape) (t : SetType) (r : ℕ) → declared_by e args y t ≡ Some r → (1 ≤ r) × (r ≤ count_in (assembly_at s t.assembly) (member_table y.is_field))
  unfolding declared
  declared_row args y t r h =
      let at : Among 1 (count_in (assembly_at s t.assembly) (member_table y.is_field)) r = found_among _ 1 (count_in (assembly_at s t.assembly) (member_table y.is_field)) r h in
      (at.low, omega (arith, at.high))

  same_pair : (p q : ℕ × ℕ) → Some p ≡ Some q → p ≡ q
  same_pair p q h = ap (λ (o : Option (ℕ × ℕ)). unwrap_or o p) h

  holds : (y : Shape) (n : ℕ) (args : List (List ℕ)) (k : ℕ) (q : ℕ × ℕ) → found_within e y n args k ≡ Some q → Holds y q
  unfolding found_within
  holds y zero args k q h = absurd cc
  holds y (suc n) args k q h = go (slice_get (set_types s) k) refl h (λ more j g. holds y n more j q g)
    where
      by_arguments : ((more : List (List ℕ)) (j : ℕ) → found_within e y n more j ≡ Some q → Holds y q) → (b : ℕ) (o : Option (List (List ℕ))) → with_arguments (found_within e y n) b o ≡ Some q → Holds y q
      by_arguments again b None g = absurd cc
      by_arguments again b (Some more) g = again more b g

      by_base : ((more : List (List ℕ)) (j : ℕ) → found_within e y n more j ≡ Some q → Holds y q) → (o : Option (List (List ℕ))) (b : Option ℕ) → onwards (found_within e y n) o b ≡ Some q → Holds y q
      by_base again o None g = absurd cc
      by_base again o (Some b) g = by_arguments again b o g

      by_declared : ((more : List (List ℕ)) (j : ℕ) → found_within e y n more j ≡ Some q → Holds y q) → (t : SetType) → slice_get (set_types s) k ≡ Some t → (o : Option ℕ) → declared_by e args y t ≡ o
          → here_or k (onwards (found_within e y n) (arguments (coded_in s t.assembly) args t.args) t.base) o ≡ Some q → Holds y q
      by_declared again t f None d g = by_base again (arguments (coded_in s t.assembly) args t.args) t.base g
      by_declared again t f (Some r) d g =
          let at : (1 ≤ r) × (r ≤ count_in (assembly_at s t.assembly) (member_table y.is_field)) = declared_row args y t r d in
          subst (Holds y) (same_pair (k, r) q g) (record { type = t; there = f; low = at.0; high = at.1 })

      by_has : ((more : List (List ℕ)) (j : ℕ) → found_within e y n more j ≡ Some q → Holds y q) → (t : SetType) → slice_get (set_types s) k ≡ Some t → (b : Bool)
          → (if b then here_or k (onwards (found_within e y n) (arguments (coded_in s t.assembly) args t.args) t.base) (declared_by e args y t) else None) ≡ Some q → Holds y q
      by_has again t f true g = by_declared again t f (declared_by e args y t) refl g
      by_has again t f false g = absurd cc

      go : (o : Option SetType) → slice_get (set_types s) k ≡ o → by_type (found_within e y n) e args y k o ≡ Some q → ((more : List (List ℕ)) (j : ℕ) → found_within e y n more j ≡ Some q → Holds y q) → Holds y q
      go None f g again = absurd cc
      go (Some t) f g again = by_has again t f (nat_lt t.assembly (length s)) g

  -- the kind of a row's signature
  abbrev kind_at : ℕ → ℕ → Bool
  kind_at a row = is_field_blob (blob (assembly_at s a) MEMBER_REF row 2)

  shape_kind : (a row : ℕ) (y : Shape) → reference_shape (assembly_at s a) (coded_in s a) row ≡ Some y → y.is_field ≡ kind_at a row
  shape_kind a row y h = go (signature_numbers (coded_in s a) [] (blob (assembly_at s a) MEMBER_REF row 2)) h
    where
      go : (o : Spelled) → option_map (λ (numbers : List ℕ). record { name = text (assembly_at s a) MEMBER_REF row 1; is_field = kind_at a row; signature = numbers }) o ≡ Some y → y.is_field ≡ kind_at a row
      go None g = absurd cc
      go (Some numbers) g = sym (ap (λ (p : Option Shape). (unwrap_or p y).is_field) g)

  module _ (P : Named → Type 0) (a row : ℕ) (missing : P named.Missing) (found : (f : Found) → IsRange f → (f.is_field ≡ true → kind_at a row ≡ true) → P (named.InSet f))
      (outside : (t : Option Ty) (y : Shape) → (t ≡ None) ⊎ (t ≡ parent_type (assembly_at s a) (coded_in s a) row) → reference_shape (assembly_at s a) (coded_in s a) row ≡ Some y → P (named.Outside (record { owner = owner_name t; shape = y }))) where
    abbrev shape : Option Shape
    shape = reference_shape (assembly_at s a) (coded_in s a) row

    abbrev IsParent : Option Ty → Type 0
    IsParent t = (t ≡ None) ⊎ (t ≡ parent_type (assembly_at s a) (coded_in s a) row)

    by_outside : (t : Option Ty) (o : Option Shape) → IsParent t → shape ≡ o → P (outside_or_missing t o)
    by_outside t None is h = missing
    by_outside t (Some y) is h = outside t y is h

    by_slot : (y : Shape) (q : ℕ × ℕ) → shape ≡ Some y → Holds y q → (u : Option Ty) (d : Option SetType) → slice_get (set_types s) q.0 ≡ d → P (found_or_missing (found_in_type y.is_field q.1 u d))
    by_slot y q is h None d f = missing
    by_slot y q is h (Some u) None f = missing
    by_slot y q is h (Some u) (Some d) f =
        let same : h.type ≡ d = same_type h.type d (sym h.there ∙ f) in
        found (record { owner = u; is_field = y.is_field; assembly = d.assembly; row = q.1 })
        (h.low, subst (λ (t : SetType). q.1 ≤ count_in (assembly_at s t.assembly) (member_table y.is_field)) same h.high)
        (λ field. sym (shape_kind a row y is) ∙ field)
      where
        same_type : (t u : SetType) → Some t ≡ Some u → t ≡ u
        same_type t u g = ap (λ (o : Option SetType). unwrap_or o t) g

    by_within : (t : Ty) (y : Shape) (o : Option (ℕ × ℕ)) → shape ≡ Some y → ((q : ℕ × ℕ) → o ≡ Some q → Holds y q) → P (found_or_missing (option_and_then (found_at e y.is_field t) o))
    by_within t y None is h = missing
    by_within t y (Some q) is h = by_slot y q is (h q refl) (seen_within e q.0 (length (set_types s)) t) (slice_get (set_types s) q.0) refl

    by_shape : (t : Ty) (k : ℕ) (o : Option Shape) → shape ≡ o → P (found_or_missing (option_and_then (found_from e t k) o))
    by_shape t k None f = missing
    by_shape t k (Some y) f = by_within t y (found_within e y (length (set_types s)) [] k) f (λ q h. holds y (length (set_types s)) [] k q h)

    by_definition : (t : Ty) (d : Option (ℕ × List Ty)) → IsParent (Some t) → P (of_type e shape t d)
    by_definition t None is = by_outside (Some t) shape is refl
    by_definition t (Some d) is = by_shape t d.0 shape refl

    by_parent : (o : Option Ty) → o ≡ parent_type (assembly_at s a) (coded_in s a) row → P (of_parent e shape o)
    by_parent None is = by_outside None shape (inl refl) refl
    by_parent (Some t) is = by_definition t (in_set (out-Ty t)) (inr is)

    by_method : (k : ℕ) → P (of_method a (assembly_at s a) (coded_in s a) k)
    unfolding owner
    by_method k = go (is_row (assembly_at s a) METHOD_DEF k) refl
      where
        to_type : is_row (assembly_at s a) METHOD_DEF k ≡ true → (o : Option Ty) → P (found_or_missing (option_map (method_found a k) o))
        to_type h None = missing
        to_type h (Some t) = found (method_found a k t) (
          lt_from 0 k (both_left (nat_lt 0 k) (Rattle.std.specs.Prelude.nat_le k (count_in (assembly_at s a) METHOD_DEF)) h),
          le_from k (count_in (assembly_at s a) METHOD_DEF) (both_right (nat_lt 0 k) (Rattle.std.specs.Prelude.nat_le k (count_in (assembly_at s a) METHOD_DEF)) h),
        ) (λ is. absurd cc)

        go : (b : Bool) → is_row (assembly_at s a) METHOD_DEF k ≡ b
            → P (found_or_missing (option_map (method_found a k) (option_and_then (λ r. (coded_in s a).named (r * 4)) (if b then find (owns (assembly_at s a) 5 METHOD_DEF k) (rows_in (assembly_at s a) TYPE_DEF) else None))))
        go true h = to_type h (option_and_then (λ r. (coded_in s a).named (r * 4)) (find (owns (assembly_at s a) 5 METHOD_DEF k) (rows_in (assembly_at s a) TYPE_DEF)))
        go false h = missing

    pub named_as : P (member s a row)
    unfolding member_in
    named_as = by_assembly (nat_lt a (length s))
      where
        by_tag : (b : Bool) → P (if b then of_method a (assembly_at s a) (coded_in s a) (cell (assembly_at s a) MEMBER_REF row 0 / 8) else of_parent e shape (parent_type (assembly_at s a) (coded_in s a) row))
        by_tag true = by_method (cell (assembly_at s a) MEMBER_REF row 0 / 8)
        by_tag false = by_parent (parent_type (assembly_at s a) (coded_in s a) row) refl

        by_assembly : (b : Bool) → P (if b then of_reference e a (assembly_at s a) (coded_in s a) row else named.Missing)
        by_assembly true = by_tag (cell (assembly_at s a) MEMBER_REF row 0 % 8 == 3)
        by_assembly false = missing

  -- ---- rows, and the kinds of members outside

  abbrev IfFound : Named → Type 0
  IfFound (named.InSet f) = IsRange f
  IfFound _ = Unit {0}

  found_row : (a row : ℕ) (f : Found) → member s a row ≡ named.InSet f → IsRange f
  found_row a row f h = subst IfFound h (named_as IfFound a row tt (λ f r k. r) (λ t y is g. tt))

  abbrev IfKind : ℕ → ℕ → Named → Type 0
  IfKind a row (named.Outside m) = m.shape.is_field ≡ kind_at a row
  IfKind a row _ = Unit {0}

  outside_kind : (a row : ℕ) (m : OutsideMember) → member s a row ≡ named.Outside m → m.shape.is_field ≡ kind_at a row
  outside_kind a row m h = subst (IfKind a row) h (named_as (IfKind a row) a row tt (λ f r k. tt) (λ t y is g. shape_kind a row y g))

  -- a row without a field's signature names no field
  abbrev pub IfMethod : Named → Type 0
  IfMethod (named.InSet f) = f.is_field ≡ false
  IfMethod (named.Outside m) = m.shape.is_field ≡ false
  IfMethod named.Missing = Unit {0}

  pub names_method : (a row : ℕ) → is_field_blob (blob (assembly_at s a) MEMBER_REF row 2) ≡ false → IfMethod (member s a row)
  names_method a row h = named_as IfMethod a row tt (λ f r k. no_field f.is_field k) (λ t y is g. shape_kind a row y g ∙ h)
    where
      no_field : (b : Bool) → (b ≡ true → kind_at a row ≡ true) → b ≡ false
      no_field true k = absurd (let wrong : false ≡ true = sym h ∙ k refl in cc)
      no_field false k = refl

  -- ---- members outside, by the rows that name them

  record Names (is_field : Bool) (n : Named) (m : OutsideMember) : Type 0 where
    is : n ≡ named.Outside m
    kind : m.shape.is_field ≡ is_field

  same_kind : (a b : Bool) → same_bool a b ≡ true → b ≡ a
  same_kind true true h = refl
  same_kind true false h = absurd cc
  same_kind false true h = absurd cc
  same_kind false false h = refl

  names_it : (is_field : Bool) (n : Named) (m : OutsideMember) → outside_of is_field n ≡ Some m → Names is_field n m
  names_it is_field named.Missing m h = absurd cc
  names_it is_field (named.InSet f) m h = absurd cc
  names_it is_field (named.Outside k) m h = go (same_bool is_field k.shape.is_field) refl h
    where
      go : (b : Bool) → same_bool is_field k.shape.is_field ≡ b → (if b then Some k else None) ≡ Some m → Names is_field (named.Outside k) m
      go true f g =
          let same : k ≡ m = ap (λ (o : Option OutsideMember). unwrap_or o k) g in
          record { is = ap named.Outside same; kind = sym (ap (λ (n : OutsideMember). n.shape.is_field) same) ∙ same_kind is_field k.shape.is_field f }
      go false f g = absurd cc

  module _ (is_field : Bool) where
    abbrev at : Cell → Option OutsideMember
    at = outside_in e is_field

    abbrev IsNamed : OutsideMember → Type 0
    IsNamed m = any (λ c. names_member m (at c)) (reference_rows s) ≡ true

    -- a row of MemberRef
    abbrev IsThere : Cell → Type 0
    IsThere c = (1 ≤ c.1) × (c.1 ≤ count_in (assembly_at s c.0) MEMBER_REF)

    rows_there : (a from n : ℕ) → 1 ≤ from → from + n ≤ count_in (assembly_at s a) MEMBER_REF + 1 → Each IsThere (map (λ row. (a, row)) (range_with_len from n))
    rows_there a from zero low high = tt
    rows_there a from (suc n) low high = ((low, omega (arith, high)), rows_there a (from + 1) n (omega arith) (omega (arith, high)))

    all_rows_there : (numbers : List ℕ) → Each IsThere (flat_map (references_in e) numbers)
    all_rows_there [] = tt
    all_rows_there (a ∷ numbers) = each_append IsThere (references_in e a) (flat_map (references_in e) numbers) (rows_there a 1 (count_in (assembly_at s a) MEMBER_REF) (omega arith) (omega arith)) (all_rows_there numbers)

    -- each row of the list names one that is named in the list
    each_in : (front rest : List Cell) → Each IsThere rest
        → Each (λ c. IsThere c × ((m : OutsideMember) → at c ≡ Some m → any (λ d. names_member m (at d)) (front ++ rest) ≡ true)) rest
    each_in front [] there = tt
    each_in front (c ∷ rest) there = (
      (there.0, λ m h. any_right (λ d. names_member m (at d)) front (c ∷ rest) (ap (λ (o : Option OutsideMember). names_member m o || any (λ d. names_member m (at d)) rest) h ∙ ap (λ (b : Bool). b || any (λ d. names_member m (at d)) rest) (itself m))),
      subst (λ (l : List Cell). Each (λ c. IsThere c × ((m : OutsideMember) → at c ≡ Some m → any (λ d. names_member m (at d)) l ≡ true)) rest) (append_assoc front (c ∷ []) rest) (each_in (front ++ c ∷ []) rest there.1),
    )

    abbrev IsFrom : Cell → OutsideMember → Type 0
    IsFrom c m = IsThere c × ((at c ≡ Some m) × IsNamed m)

    record Noted (m : OutsideMember) : Type 0 where
      by : Cell
      from : IsFrom by m

    added_each : (ms : List OutsideMember) (c : Cell) (o : Option OutsideMember) → at c ≡ o → IsThere c → ((m : OutsideMember) → at c ≡ Some m → IsNamed m) → Each Noted ms → Each Noted (added_if ms o)
    added_each ms c None h there f all = all
    added_each ms c (Some m) h there f all = go (is_some (member_place ms m))
      where
        go : (b : Bool) → Each Noted (if b then ms else ms ++ m ∷ [])
        go true = all
        go false = each_append Noted ms (m ∷ []) all (record { by = c; from = (there, (h, f m h)) }, tt)

    noted_each : (ms : List OutsideMember) (cells : List Cell) → Each Noted ms → Each (λ c. IsThere c × ((m : OutsideMember) → at c ≡ Some m → IsNamed m)) cells → Each Noted (all_noted at ms cells)
    noted_each ms [] all h = all
    noted_each ms (c ∷ cells) all h = noted_each (added_if ms (at c)) cells (added_each ms c (at c) refl h.0.0 h.0.1 all) h.1

    all_named : Each Noted (outside_members s is_field)
    unfolding outside_members reference_rows
    all_named = noted_each [] (reference_rows s) tt (each_in [] (reference_rows s) (all_rows_there (order s)))

    record Finds (m : OutsideMember) (cells : List Cell) : Type 0 where
      cell_at : Cell
      found : find (λ c. names_member m (at c)) cells ≡ Some cell_at
      passes : names_member m (at cell_at) ≡ true

    finds : (m : OutsideMember) (cells : List Cell) → any (λ c. names_member m (at c)) cells ≡ true → Finds m cells
    finds m [] h = absurd cc
    finds m (c ∷ cells) h = go (names_member m (at c)) refl (finds m cells) h
      where
        go : (b : Bool) → names_member m (at c) ≡ b → (any (λ d. names_member m (at d)) cells ≡ true → Finds m cells) → (b || any (λ d. names_member m (at d)) cells) ≡ true → Finds m (c ∷ cells)
        go true f again g = record { cell_at = c; found = ap (λ (b : Bool). cond b (Some c) (find (λ d. names_member m (at d)) cells)) f; passes = f }
        go false f again g = let r : Finds m cells = again g in record { cell_at = r.cell_at; found = ap (λ (b : Bool). cond b (Some c) (find (λ d. names_member m (at d)) cells)) f ∙ r.found; passes = r.passes }

    named_kind : (m : OutsideMember) (c : Cell) (o : Option OutsideMember) → at c ≡ o → names_member m o ≡ true → is_field_blob (blob (assembly_at s c.0) MEMBER_REF c.1 2) ≡ is_field
    named_kind m c None h p = absurd cc
    named_kind m c (Some n) h p =
        let is : Names is_field (member s c.0 c.1) n = names_it is_field (member s c.0 c.1) n h in
        sym (outside_kind c.0 c.1 n is.is) ∙ is.kind

    outside_is : NumbersOwners s → (m : OutsideMember) → Noted m → IsOutside s is_field m
    unfolding outside_row
    outside_is numbered m noted =
        let is : Names is_field (member s noted.by.0 noted.by.1) m = names_it is_field (member s noted.by.0 noted.by.1) m noted.from.1.0 in
        let first : Finds m (reference_rows s) = finds m (reference_rows s) noted.from.1.1 in
        record {
          kind = is.kind;
          at = first.cell_at;
          found = ap (λ (b : Bool). find (λ c. names_member m (outside_in e b c)) (reference_rows s)) is.kind ∙ first.found;
          blob_kind = named_kind m first.cell_at (at first.cell_at) refl first.passes;
          owner = numbered noted.by.0 noted.by.1 m noted.from.0.0 noted.from.0.1 is.is;
        }

    pub outside_there : NumbersOwners s → (k : ℕ) (m : OutsideMember) → slice_get (outside_members s is_field) k ≡ Some m → IsOutside s is_field m
    outside_there numbered k m h = outside_is numbered m (each_got Noted (outside_members s is_field) k m all_named h)

pub has_references : (x : Assembly) (xs : Assemblies) → IsOrderly x → NumbersOwners (x ∷ xs) → HasReferences (x ∷ xs)
has_references x xs orderly numbered = record {
  ids = λ is_field k m h. outside_there (x ∷ xs) is_field numbered k m h;
  found = λ a row f low high h. let at : IsRange (x ∷ xs) f = found_row (x ∷ xs) a row f h in members x xs orderly f.is_field f.assembly f.row at.0 at.1;
}
