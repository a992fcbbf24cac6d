-- The numbers of fields and methods, where rows are appended.
use Rattle.std.proofs.Common.{◌≡◌, ◌∙◌, sym, ap, refl, arith, rules, append_assoc, ℕ, zero, suc, ◌+◌, ◌-◌, ◌<◌, ◌≤◌, List, [], ◌∷◌, ◌++◌, length, Bool, true, false, ◌⊎◌, inl, inr}
use Rattle.std.specs.Prelude.{map, max, is_some, flat_map, Option, Some, None, if◌then◌else◌}
use Rattle.std.specs.List.{range_with_len, position_from}
use Rattle.std.proofs.lemmas.Bool.{cases_lt}
use Rattle.std.proofs.lemmas.List.{map-append, append-nil}
use Rattle.std.proofs.lemmas.Grind.{flat_map-append}
use Rattle.cil_base.specs.declared.tables.TheConstants.{FIELD, MEMBER_REF, METHOD_DEF, TYPE_DEF}
use Rattle.set_rows.specs.Sets.{Assembly, Assemblies, assembly_at, count_in, cell}
use Rattle.set_rows.specs.Owners.{owned_end}
use Rattle.set_program.specs.Numbering.{Cell, type_cut, first_owned, cut, rows_between, old_rows, new_rows, order}
use Rattle.members.specs.MemberRows.{member_table}
use Rattle.members.specs.OutsideMembers.{member_place}
use Rattle.members.specs.declared.outside_member.OutsideMember.{OutsideMember}
use Rattle.member_table.specs.declared.named.MemberId.{MemberId}
use Rattle.member_table.specs.declared.named.MemberId.TheVariants as id
use Rattle.member_table.specs.Environments.{environment}
use Rattle.member_table.specs.Numbers.{outside_of, outside_in, added_if, all_noted, references_in, reference_rows, outside_members, of_row, member_ids, same_id, member_number}
use Rattle.set_growth.specs.Grown.{IsGrown, SaysAlike}
use Rattle.set_growth.specs.Orderly.{IsOrderly}
use Rattle.set_growth.specs.Kept.{Stays}
use Rattle.set_growth.proofs.FindLaws.{lt_true, lt_false, rows_split, flat_map_on, found_before}
use Rattle.set_growth.proofs.GrowthLists.{Each, each_append, each_on}
use Rattle.set_growth.proofs.KeptTypeLaws.{cut_is, cut_same, old_rows_by}
use Rattle.program_growth.specs.Rules.{IsNamed, IsNumbered}
use Rattle.program_growth.specs.Kept.{KeepsMembers}
use Rattle.program_growth.proofs.KeptCodedLaws.{coded_stays, ty_stays}
use Rattle.program_growth.proofs.KeptMemberLaws.{row_shape_same, member_same}

-- ---- outside members, each once

module _ (at : Cell → Option OutsideMember) where
  noted_split : (found : List OutsideMember) (l m : List Cell) → all_noted at found (l ++ m) ≡ all_noted at (all_noted at found l) m
  noted_split found [] m = refl
  noted_split found (c ∷ l) m = noted_split (added_if found (at c)) l m

  added_grows : (found : List OutsideMember) (o : Option OutsideMember) → (more : List OutsideMember) × (added_if found o ≡ found ++ more)
  added_grows found None = ([], sym (append-nil found))
  added_grows found (Some m) = go (is_some (member_place found m))
    where
      go : (b : Bool) → (more : List OutsideMember) × ((if b then found else found ++ m ∷ []) ≡ found ++ more)
      go true = ([], sym (append-nil found))
      go false = (m ∷ [], refl)

  noted_grow : (found : List OutsideMember) (l : List Cell) → (more : List OutsideMember) × (all_noted at found l ≡ found ++ more)
  noted_grow found [] = ([], sym (append-nil found))
  noted_grow found (c ∷ l) =
      let one : (more : List OutsideMember) × (added_if found (at c) ≡ found ++ more) = added_grows found (at c) in
      let rest : (more : List OutsideMember) × (all_noted at (added_if found (at c)) l ≡ added_if found (at c) ++ more) = noted_grow (added_if found (at c)) l in
      (one.0 ++ rest.0, rest.1 ∙ ap (λ (k : List OutsideMember). k ++ rest.0) one.1 ∙ append_assoc found one.0 rest.0)

noted_on : (at at' : Cell → Option OutsideMember) (found : List OutsideMember) (l : List Cell) → Each (λ c. at' c ≡ at c) l → all_noted at' found l ≡ all_noted at found l
noted_on at at' found [] h = refl
noted_on at at' found (c ∷ l) h = ap (λ (o : Option OutsideMember). all_noted at' (added_if found o) l) h.0 ∙ noted_on at at' (added_if found (at c)) l h.1

each_flat : {A B : Type 0} (P : B → Type 0) (f : A → List B) (xs : List A) → ((x : A) → Each P (f x)) → Each P (flat_map f xs)
each_flat P f [] h = tt
each_flat P f (x ∷ xs) h = each_append P (f x) (flat_map f xs) (h x) (each_flat P f xs h)

pub each_cells : (P : Cell → Type 0) (a from n : ℕ) → ((k : ℕ) → from ≤ k → k < from + n → P (a, k)) → Each P (map (λ row. (a, row)) (range_with_len from n))
each_cells P a from zero h = tt
each_cells P a from (suc n) h = (h from (omega arith) (omega arith), each_cells P a (from + 1) n (λ k low high. h k (omega (arith, low)) (omega (arith, high))))

nothing_between : (n : ℕ) → rows_between 0 n n ≡ []
nothing_between n = let z : n - n ≡ 0 = omega arith in ap (λ (k : ℕ). map {B = Cell} (λ row. (0, row)) (range_with_len n k)) z

max_of : (n : ℕ) → max 1 (n + 1) ≡ n + 1
max_of n = search rules

module _ (x x' : Assembly) (xs : Assemblies) (grown : IsGrown x x') (orderly : IsOrderly x) (named : IsNamed (x ∷ xs)) (numbered : IsNumbered (x ∷ xs)) (alike : SaysAlike (x ∷ xs) (x' ∷ xs)) where
  abbrev s : Assemblies
  s = x ∷ xs

  abbrev s' : Assemblies
  s' = x' ∷ xs

  -- ---- where the runtime class cuts

  list_cut : (column table : ℕ) → owned_end x' column table (count_in x TYPE_DEF) ≡ count_in x table + 1 → first_owned x' column table (type_cut x') ≡ first_owned x column table (type_cut x)
  list_cut column table end =
      ap (first_owned x' column table) (cut_same x x' xs grown orderly ∙ cut_is x x' xs grown orderly)
      ∙ go (cases_lt (count_in x TYPE_DEF) (count_in x' TYPE_DEF))
      ∙ ap (λ (b : Bool). if b then count_in x table + 1 else max 1 (cell x TYPE_DEF (count_in x TYPE_DEF + 1) column)) (sym (lt_true (count_in x TYPE_DEF) (count_in x TYPE_DEF + 1) (omega arith)))
      ∙ ap (first_owned x column table) (sym (cut_is x x' xs grown orderly))
    where
      go : (count_in x TYPE_DEF < count_in x' TYPE_DEF) ⊎ (count_in x' TYPE_DEF ≤ count_in x TYPE_DEF) → first_owned x' column table (count_in x TYPE_DEF + 1) ≡ count_in x table + 1
      go (inl l) =
          let from : cell x' TYPE_DEF (count_in x TYPE_DEF + 1) column ≡ count_in x table + 1 =
          ap (λ (b : Bool). if b then cell x' TYPE_DEF (count_in x TYPE_DEF + 1) column else count_in x' table + 1) (sym (lt_true (count_in x TYPE_DEF) (count_in x' TYPE_DEF) l)) ∙ end in
          ap (λ (b : Bool). if b then count_in x' table + 1 else max 1 (cell x' TYPE_DEF (count_in x TYPE_DEF + 1) column)) (lt_false (count_in x' TYPE_DEF) (count_in x TYPE_DEF + 1) (omega (arith, l)))
          ∙ ap (max 1) from ∙ max_of (count_in x table)
      go (inr l) =
          ap (λ (b : Bool). if b then count_in x' table + 1 else max 1 (cell x' TYPE_DEF (count_in x TYPE_DEF + 1) column)) (lt_true (count_in x' TYPE_DEF) (count_in x TYPE_DEF + 1) (omega (arith, l)))
          ∙ ap (λ (b : Bool). if b then cell x' TYPE_DEF (count_in x TYPE_DEF + 1) column else count_in x' table + 1) (sym (lt_false (count_in x TYPE_DEF) (count_in x' TYPE_DEF) l))
          ∙ end

  none_new : (column table : ℕ) → rows_between 0 (first_owned x column table (type_cut x)) (count_in x table + 1) ≡ []
  none_new column table =
      ap (λ (c : ℕ). rows_between 0 (first_owned x column table c) (count_in x table + 1)) (cut_is x x' xs grown orderly)
      ∙ ap (λ (b : Bool). rows_between 0 (if b then count_in x table + 1 else max 1 (cell x TYPE_DEF (count_in x TYPE_DEF + 1) column)) (count_in x table + 1)) (lt_true (count_in x TYPE_DEF) (count_in x TYPE_DEF + 1) (omega arith))
      ∙ nothing_between (count_in x table + 1)

  member_cut : (is_field : Bool) → cut x' (member_table is_field) ≡ cut x (member_table is_field)
  member_cut true = list_cut 4 FIELD grown.fields_end
  member_cut false = list_cut 5 METHOD_DEF grown.methods_end

  no_new : (is_field : Bool) → new_rows s (member_table is_field) ≡ []
  no_new true = none_new 4 FIELD
  no_new false = none_new 5 METHOD_DEF

  -- ---- members outside

  abbrev pub IsOldCell : Cell → Type 0
  IsOldCell c = (1 ≤ c.1) × (c.1 ≤ count_in (assembly_at s c.0) MEMBER_REF)

  new_cells : List Cell
  new_cells = map (λ row. (0, row)) (range_with_len (1 + count_in x MEMBER_REF) (count_in x' MEMBER_REF - count_in x MEMBER_REF))

  abbrev others : List ℕ
  others = range_with_len 1 (length xs)

  abbrev cells : Assemblies → ℕ → List Cell
  cells u a = references_in (environment u) a

  own_cells : cells s' 0 ≡ cells s 0 ++ new_cells
  unfolding new_cells
  own_cells =
      ap (map (λ row. (0, row))) (rows_split (count_in x MEMBER_REF) (count_in x' MEMBER_REF) (grown.rows.more MEMBER_REF))
      ∙ map-append (λ (row : ℕ). (0, row)) (range_with_len 1 (count_in x MEMBER_REF)) (range_with_len (1 + count_in x MEMBER_REF) (count_in x' MEMBER_REF - count_in x MEMBER_REF))

  other_cells : (a : ℕ) → 1 ≤ a → cells s' a ≡ cells s a
  other_cells zero low = absurd (omega (arith, low))
  other_cells (suc a) low = refl

  rows_are : reference_rows s' ≡ reference_rows s ++ new_cells
  unfolding reference_rows
  rows_are =
      flat_map-append (cells s') others (0 ∷ [])
      ∙ ap (λ (l : List Cell). l ++ (cells s' 0 ++ [])) (flat_map_on (cells s') (cells s) 1 (length xs) other_cells)
      ∙ ap (λ (l : List Cell). flat_map (cells s) others ++ l) (append-nil (cells s' 0) ∙ own_cells ∙ ap (λ (l : List Cell). l ++ new_cells) (sym (append-nil (cells s 0))))
      ∙ sym (append_assoc (flat_map (cells s) others) (cells s 0 ++ []) new_cells)
      ∙ ap (λ (l : List Cell). l ++ new_cells) (sym (flat_map-append (cells s) others (0 ∷ [])))

  pub rows_grow : (more : List Cell) × (reference_rows s' ≡ reference_rows s ++ more)
  rows_grow = (new_cells, rows_are)

  pub cells_old : Each IsOldCell (reference_rows s)
  unfolding reference_rows
  cells_old = each_flat IsOldCell (cells s) (order s) (λ a. each_cells IsOldCell a 1 (count_in (assembly_at s a) MEMBER_REF) (λ k low high. (low, omega (arith, high))))

  pub outside_same : (is_field : Bool) (c : Cell) → IsOldCell c → outside_in (environment s') is_field c ≡ outside_in (environment s) is_field c
  outside_same is_field c old = ap (outside_of is_field) (member_same x x' xs grown orderly named numbered alike c.0 c.1 old.0 old.1)

  outside_grow : (is_field : Bool) → (more : List OutsideMember) × (outside_members s' is_field ≡ outside_members s is_field ++ more)
  unfolding outside_members
  outside_grow is_field =
      let at : Cell → Option OutsideMember = outside_in (environment s) is_field in
      let at' : Cell → Option OutsideMember = outside_in (environment s') is_field in
      let before : List OutsideMember = all_noted at [] (reference_rows s) in
      let g : (more : List OutsideMember) × (all_noted at' before new_cells ≡ before ++ more) = noted_grow at' before new_cells in (
        g.0,
        ap (all_noted at' []) rows_are
            ∙ noted_split at' [] (reference_rows s) new_cells
            ∙ ap (λ (l : List OutsideMember). all_noted at' l new_cells) (noted_on at at' [] (reference_rows s) (each_on IsOldCell (λ c. at' c ≡ at c) (reference_rows s) (λ c old. outside_same is_field c old) cells_old))
            ∙ g.1,
      )

  -- ---- members in order

  pub member_ids_grow : (is_field : Bool) → (more : List MemberId) × (member_ids s' is_field ≡ member_ids s is_field ++ more)
  unfolding member_ids
  member_ids_grow is_field =
      let g : (more : List OutsideMember) × (outside_members s' is_field ≡ outside_members s is_field ++ more) = outside_grow is_field in
      let old : List MemberId = map of_row (old_rows s (member_table is_field)) in
      let outer : List MemberId = map id.Outside (outside_members s is_field) in
      let added : List MemberId = map id.Outside g.0 in
      let last : List MemberId = map of_row (new_rows s' (member_table is_field)) in (
        added ++ last,
        ap (λ (l : List Cell). map of_row l ++ (map id.Outside (outside_members s' is_field) ++ last)) (old_rows_by x x' xs grown orderly (member_table is_field) (member_cut is_field))
            ∙ ap (λ (l : List MemberId). old ++ (l ++ last)) (ap (map id.Outside) g.1 ∙ map-append id.Outside (outside_members s is_field) g.0)
            ∙ ap (λ (l : List MemberId). old ++ l) (append_assoc outer added last)
            ∙ sym (append_assoc old outer (added ++ last))
            ∙ ap (λ (l : List MemberId). (old ++ l) ++ (added ++ last)) (sym (append-nil outer) ∙ ap (λ (l : List Cell). outer ++ map of_row l) (sym (no_new is_field))),
      )

  pub member_stays : (is_field : Bool) (m : MemberId) → Stays (member_number s is_field m) (member_number s' is_field m)
  member_stays is_field m k e =
      let g : (more : List MemberId) × (member_ids s' is_field ≡ member_ids s is_field ++ more) = member_ids_grow is_field in
      ap (position_from (same_id m) 0) g.1 ∙ found_before (same_id m) 0 k (member_ids s is_field) g.0 e

  pub keeps_members : KeepsMembers s s'
  keeps_members = record {
    coded = coded_stays x x' xs grown orderly named numbered alike;
    types = ty_stays x x' xs grown orderly named numbered alike;
    shapes = row_shape_same x x' xs grown orderly named numbered alike;
    named = member_same x x' xs grown orderly named numbered alike;
    ids = member_ids_grow;
  }
