-- Each row of a member, its owner and the type around a type have numbers.
use Rattle.std.proofs.Common.{◌≡◌, ◌∙◌, sym, ap, refl, subst, arith, rules, ℕ, zero, suc, ◌+◌, ◌-◌, ◌*◌, ◌<◌, ◌≤◌, List, [], ◌∷◌, ◌++◌, length, Bool, true, false, ◌⊎◌, inl, inr, ◌||◌}
use Rattle.std.specs.Prelude.{find, map, flat_map, max, ◌==◌, ◌&&◌, nat_lt, nat_le, slice_get, unwrap_or, is_some, Option, Some, None, option_and_then, if◌then◌else◌}
use Rattle.std.specs.List.{range_with_len}
use Rattle.std.proofs.lemmas.Bool.{cases_lt}
use Rattle.std.proofs.lemmas.List.{map-append}
use Rattle.cil_base.specs.declared.tables.TheConstants.{FIELD, METHOD_DEF, NESTED_CLASS, TYPE_DEF, TYPE_REF}
use Rattle.set_names.specs.Cycles.{any}
use Rattle.set_names.specs.Paths.{if_row}
use Rattle.set_rows.specs.Sets.{Assembly, Assemblies, assembly_at, count_in, cell, is_row, rows_in}
use Rattle.set_rows.specs.Owners.{owner, owns}
use Rattle.set_types.specs.CodedIndexes.{tag, row_of}
use Rattle.set_program.specs.declared.identity.TypeId.{TypeId}
use Rattle.set_program.specs.declared.identity.TypeId.TheVariants.{Row}
use Rattle.set_program.specs.TypeNames.{enclosing, enclosing_in}
use Rattle.set_program.specs.References.{reference}
use Rattle.set_program.specs.Numbering.{Cell, row_or, type_cut, first_owned, cut, rows_between, old_rows, new_rows}
use Rattle.set_program.specs.Attributes.{named_id}
use Rattle.set_program.specs.Environment.{number_of, coded_in}
use Rattle.members.specs.MemberRows.{member_table, list_column, row_owner}
use Rattle.members.specs.declared.outside_member.OutsideMember.{OutsideMember}
use Rattle.member_table.specs.declared.named.MemberId.{MemberId}
use Rattle.member_table.specs.declared.named.MemberId.TheVariants as id
use Rattle.member_table.specs.Numbers.{of_row, same_id, outside_members, member_ids, member_number}
use Rattle.set_growth.specs.Orderly.{IsOrderly}
use Rattle.set_growth.proofs.FindLaws.{Among, found_among, lt_true, le_true}
use Rattle.set_growth.proofs.GrowthLists.{Each, each_append}
use Rattle.program_growth.specs.Rules.{IsMember, IsOutside, HasPlaces}
use Rattle.growth_premises.specs.Places.{NestsInTypes, HasReferences}
use Rattle.growth_premises.proofs.AnyLaws.{some_place, any_later, any_left, any_right}
use Rattle.growth_premises.proofs.NumberedLaws.{is_there, row_numbered}
use Rattle.growth_premises.proofs.OutsideLaws.{outside_numbered}

-- ---- rows of a list

is_itself : (n : ℕ) → (n == n) ≡ true
is_itself n = search rules

any_rows : (a r from n : ℕ) → from ≤ r → r < from + n → any (same_id (id.Row a r)) (map of_row (map {B = Cell} (λ row. (a, row)) (range_with_len from n))) ≡ true
any_rows a r from zero low high = absurd (omega (arith, low, high))
any_rows a r from (suc n) low high = go (cases_lt from r) (λ l. any_rows a r (from + 1) n (omega (arith, l)) (omega (arith, high)))
  where
    go : (from < r) ⊎ (r ≤ from) → (from < r → any (same_id (id.Row a r)) (map of_row (map {B = Cell} (λ row. (a, row)) (range_with_len (from + 1) n))) ≡ true)
        → (((a == a) && (r == from)) || any (same_id (id.Row a r)) (map of_row (map {B = Cell} (λ row. (a, row)) (range_with_len (from + 1) n)))) ≡ true
    go (inl l) again = any_later (same_id (id.Row a r)) (id.Row a from) (map of_row (map {B = Cell} (λ row. (a, row)) (range_with_len (from + 1) n))) (again l)
    go (inr l) again =
        let same : r ≡ from = omega (arith, l, low) in
        let here : (r == from) ≡ true = ap (λ (k : ℕ). r == k) (sym same) ∙ is_itself r in
        ap (λ (b : Bool). (b && (r == from)) || any (same_id (id.Row a r)) (map of_row (map {B = Cell} (λ row. (a, row)) (range_with_len (from + 1) n)))) (is_itself a) ∙ ap (λ (b : Bool). b || any (same_id (id.Row a r)) (map of_row (map {B = Cell} (λ row. (a, row)) (range_with_len (from + 1) n)))) here

each_of : {A : Type 0} (P : A → Type 0) (l : List A) → ((k : ℕ) (v : A) → slice_get l k ≡ Some v → P v) → Each P l
each_of P [] h = tt
each_of P (v ∷ l) h = (h 0 v refl, each_of P l (λ k w e. h (suc k) w e))

pub each_got : {A : Type 0} (P : A → Type 0) (l : List A) (k : ℕ) (v : A) → Each P l → slice_get l k ≡ Some v → P v
each_got P [] k v h e = absurd cc
each_got {A} P (w ∷ l) zero v h e = subst P (ap (λ (o : Option A). unwrap_or o w) e) h.0
each_got P (w ∷ l) (suc k) v h e = each_got P l k v h.1 e

-- ---- indexes of TypeDef rows

tag_zero : (row : ℕ) → tag (row * 4) ≡ 0
tag_zero row = omega arith

row_back : (row : ℕ) → row_of (row * 4) ≡ row
row_back row = omega arith

row_is : (y : Assembly) (table row : ℕ) → 1 ≤ row → row ≤ count_in y table → is_row y table row ≡ true
row_is y table row low high = ap (λ (b : Bool). b && nat_le row (count_in y table)) (lt_true 0 row low) ∙ le_true row (count_in y table) high

abbrev named_by : Assemblies → ℕ → ℕ → ℕ → Option TypeId
named_by s a t row =
    if t == 0 then (if is_row (assembly_at s a) TYPE_DEF row then Some (Row a row) else None)
    else if t == 1 then (if is_row (assembly_at s a) TYPE_REF row then reference s a row else None)
    else None

pub own_named : (s : Assemblies) (a row : ℕ) → 1 ≤ row → row ≤ count_in (assembly_at s a) TYPE_DEF → named_id s a (row * 4) ≡ Some (Row a row)
own_named s a row low high =
    ap (λ (t : ℕ). named_by s a t (row_of (row * 4))) (tag_zero row)
    ∙ ap (named_by s a 0) (row_back row)
    ∙ ap (λ (b : Bool). if b then Some (Row a row) else None) (row_is (assembly_at s a) TYPE_DEF row low high)

pub owner_row : (y : Assembly) (column table k row : ℕ) → owner y column table k ≡ Some row → (1 ≤ row) × (row ≤ count_in y TYPE_DEF)
unfolding owner
owner_row y column table k row e = go (is_row y table k) e
  where
    go : (b : Bool) → (if b then find (owns y column table k) (rows_in y TYPE_DEF) else None) ≡ Some row → (1 ≤ row) × (row ≤ count_in y TYPE_DEF)
    go true f = let at : Among 1 (count_in y TYPE_DEF) row = found_among (owns y column table k) 1 (count_in y TYPE_DEF) row f in (at.low, omega (arith, at.high))
    go false f = absurd cc

module _ (x : Assembly) (xs : Assemblies) (orderly : IsOrderly x) where
  abbrev s : Assemblies
  s = x ∷ xs

  cut_past : type_cut x ≡ count_in x TYPE_DEF + 1
  unfolding type_cut
  cut_past = ap (row_or (count_in x TYPE_DEF + 1)) orderly.no_runtime

  first_past : (column table : ℕ) → first_owned x column table (type_cut x) ≡ count_in x table + 1
  first_past column table =
      let past : nat_lt (count_in x TYPE_DEF) (type_cut x) ≡ true = lt_true (count_in x TYPE_DEF) (type_cut x) (omega (arith, cut_past)) in
      ap (λ (b : Bool). if b then count_in x table + 1 else max 1 (cell x TYPE_DEF (type_cut x) column)) past

  pub cut_is : (is_field : Bool) → cut x (member_table is_field) ≡ count_in x (member_table is_field) + 1
  cut_is true = first_past 4 FIELD
  cut_is false = first_past 5 METHOD_DEF

  module _ (is_field : Bool) where
    abbrev table : ℕ
    table = member_table is_field

    abbrev others : ℕ → ℕ → List Cell
    others from n = flat_map (λ a. rows_between a 1 (count_in (assembly_at s a) table + 1)) (range_with_len from n)

    abbrev run_of : ℕ → List MemberId
    run_of b = map of_row (rows_between b 1 (count_in (assembly_at s b) table + 1))

    any_others : (a r from n : ℕ) → from ≤ a → a < from + n → 1 ≤ r → r ≤ count_in (assembly_at s a) table → any (same_id (id.Row a r)) (map of_row (others from n)) ≡ true
    any_others a r from zero low high rlow rhigh = absurd (omega (arith, low, high))
    any_others a r from (suc n) low high rlow rhigh =
        ap (any (same_id (id.Row a r))) (map-append of_row (rows_between from 1 (count_in (assembly_at s from) table + 1)) (others (from + 1) n))
        ∙ go (cases_lt from a) (λ l. any_others a r (from + 1) n (omega (arith, l)) (omega (arith, high)) rlow rhigh)
      where
        go : (from < a) ⊎ (a ≤ from) → (from < a → any (same_id (id.Row a r)) (map of_row (others (from + 1) n)) ≡ true) → any (same_id (id.Row a r)) (run_of from ++ map of_row (others (from + 1) n)) ≡ true
        go (inl l) again = any_right (same_id (id.Row a r)) (run_of from) (map of_row (others (from + 1) n)) (again l)
        go (inr l) again =
            let same : a ≡ from = omega (arith, l, low) in
            any_left (same_id (id.Row a r)) (run_of from) (map of_row (others (from + 1) n))
            (subst (λ (b : ℕ). any (same_id (id.Row a r)) (run_of b) ≡ true) same
            (any_rows a r 1 (count_in (assembly_at s a) table + 1 - 1) rlow (omega (arith, rhigh))))

    abbrev old : List MemberId
    old = map of_row (old_rows s table)

    abbrev outside : List MemberId
    outside = map id.Outside (outside_members s is_field)

    abbrev new : List MemberId
    new = map of_row (new_rows s table)

    old_split : old ≡ map of_row (others 1 (length xs)) ++ map of_row (rows_between 0 1 (cut x table))
    old_split = map-append of_row (others 1 (length xs)) (rows_between 0 1 (cut x table))

    any_old : (a r : ℕ) → 1 ≤ r → r ≤ count_in (assembly_at s a) table → any (same_id (id.Row a r)) old ≡ true
    any_old zero r low high =
        ap (any (same_id (id.Row 0 r))) old_split
        ∙ any_right (same_id (id.Row 0 r)) (map of_row (others 1 (length xs))) (map of_row (rows_between 0 1 (cut x table))) (any_rows 0 r 1 (cut x table - 1) low (omega (arith, high, cut_is is_field)))
    any_old (suc a) r low high =
        let there : suc a < suc (length xs) = is_there s (suc a) table r low high in
        ap (any (same_id (id.Row (suc a) r))) old_split
        ∙ any_left (same_id (id.Row (suc a) r)) (map of_row (others 1 (length xs))) (map of_row (rows_between 0 1 (cut x table))) (any_others (suc a) r 1 (length xs) (omega arith) (omega (arith, there)) low high)

    pub members : (a r : ℕ) → 1 ≤ r → r ≤ count_in (assembly_at s a) table → is_some (member_number s is_field (id.Row a r)) ≡ true
    unfolding member_ids
    members a r low high = some_place (same_id (id.Row a r)) 0 (old ++ (outside ++ new)) (any_left (same_id (id.Row a r)) old (outside ++ new) (any_old a r low high))

    -- ---- members of the list

    ranged : (a from n : ℕ) → ((r : ℕ) → from ≤ r → r < from + n → IsMember s is_field (id.Row a r)) → Each (IsMember s is_field) (map of_row (map {B = Cell} (λ row. (a, row)) (range_with_len from n)))
    ranged a from zero h = tt
    ranged a from (suc n) h = (h from (omega arith) (omega arith), ranged a (from + 1) n (λ r low high. h r (omega (arith, low)) (omega (arith, high))))

    each_map_append : (cells more : List Cell) → Each (IsMember s is_field) (map of_row cells) → Each (IsMember s is_field) (map of_row more) → Each (IsMember s is_field) (map of_row (cells ++ more))
    each_map_append [] more h k = k
    each_map_append (c ∷ cells) more h k = (h.0, each_map_append cells more h.1 k)

    others_there : (from n : ℕ) → Each (IsMember s is_field) (map of_row (others from n))
    others_there from zero = tt
    others_there from (suc n) =
        each_map_append (rows_between from 1 (count_in (assembly_at s from) table + 1)) (others (from + 1) n)
        (ranged from 1 (count_in (assembly_at s from) table + 1 - 1) (λ r low high. (low, omega (arith, high))))
        (others_there (from + 1) n)

    outside_there : (ms : List OutsideMember) → Each (IsOutside s is_field) ms → Each (IsMember s is_field) (map id.Outside ms)
    outside_there [] h = tt
    outside_there (m ∷ ms) h = (h.0, outside_there ms h.1)

    all_there : ((k : ℕ) (m : OutsideMember) → slice_get (outside_members s is_field) k ≡ Some m → IsOutside s is_field m) → Each (IsMember s is_field) (member_ids s is_field)
    unfolding member_ids
    all_there named =
        each_append (IsMember s is_field) old (outside ++ new)
        (each_map_append (others 1 (length xs)) (rows_between 0 1 (cut x table)) (others_there 1 (length xs)) (ranged 0 1 (cut x table - 1) (λ r low high. (low, omega (arith, high, cut_is is_field)))))
        (each_append (IsMember s is_field) outside new
        (outside_there (outside_members s is_field) (each_of (IsOutside s is_field) (outside_members s is_field) named))
        (ranged 0 (cut x table) (count_in x table + 1 - cut x table) (λ r low high. absurd (omega (arith, low, high, cut_is is_field)))))

  -- ---- owners, and types around types

  row_number : (a row : ℕ) → 1 ≤ row → row ≤ count_in (assembly_at s a) TYPE_DEF → is_some (number_of s (Row a row)) ≡ true
  row_number a row low high = row_numbered x xs a row (is_there s a TYPE_DEF row low high, (low, high))

  owners : (is_field : Bool) (a k row : ℕ) → row_owner (assembly_at s a) is_field k ≡ Some row → is_some ((coded_in s a).number (row * 4)) ≡ true
  owners is_field a k row e =
      let at : (1 ≤ row) × (row ≤ count_in (assembly_at s a) TYPE_DEF) = owner_row (assembly_at s a) (list_column is_field) (member_table is_field) k row e in
      ap (λ (o : Option TypeId). is_some (option_and_then (number_of s) o)) (own_named s a row at.0 at.1) ∙ row_number a row at.0 at.1

  not_zero : (n k : ℕ) → if_row n ≡ Some k → 1 ≤ k
  not_zero n k e = go (n == 0) refl (cases_lt n 1) e
    where
      go : (b : Bool) → (n == 0) ≡ b → (n < 1) ⊎ (1 ≤ n) → (if b then None else Some n) ≡ Some k → 1 ≤ k
      go true f o g = absurd cc
      go false f (inl l) g = let none : n ≡ 0 = omega (arith, l) in absurd (let wrong : (0 == 0) ≡ false = ap (λ (m : ℕ). m == 0) (sym none) ∙ f in cc)
      go false f (inr l) g = let same : n ≡ k = ap (λ (o : Option ℕ). unwrap_or o n) g in omega (arith, same, l)

  around_low : (y : Assembly) (row k : ℕ) → enclosing y row ≡ Some k → 1 ≤ k
  unfolding enclosing
  around_low y row k e = go (is_row y TYPE_DEF row) e
    where
      by_found : (o : Option ℕ) → enclosing_in y o ≡ Some k → 1 ≤ k
      by_found None f = absurd cc
      by_found (Some n) f = not_zero (cell y NESTED_CLASS n 1) k f

      go : (b : Bool) → (if b then enclosing_in y (find (λ n. cell y NESTED_CLASS n 0 == row) (rows_in y NESTED_CLASS)) else None) ≡ Some k → 1 ≤ k
      go true f = by_found (find (λ n. cell y NESTED_CLASS n 0 == row) (rows_in y NESTED_CLASS)) f
      go false f = absurd cc

  module _ (nests : NestsInTypes s) (refs : HasReferences s) where
    pub has_places : HasPlaces s
    has_places = record {
      ids = λ is_field k m e. each_got (IsMember s is_field) (member_ids s is_field) k m (all_there is_field (refs.ids is_field)) e;
      members = members;
      found = refs.found;
      outside = outside_numbered s;
      owners = owners;
      around = λ a row k e. row_number a k (around_low (assembly_at s a) row k e) (nests a row k e);
    }
