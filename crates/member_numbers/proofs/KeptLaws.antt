-- The numbers of fields, or methods, by what is kept of them.
use Rattle.std.proofs.Common.{◌≡◌, ◌∙◌, sym, ap, arith, ℕ, ◌+◌, ◌-◌, ◌≤◌, ◌<◌, List, [], ◌∷◌, length, Bool}
use Rattle.std.specs.Prelude.{Some, None, option_map}
use Rattle.std.specs.List.{position_from}
use Rattle.set_rows.specs.Sets.{Assemblies, assembly_at, count_in}
use Rattle.set_program.specs.Numbering.{Cell, cut}
use Rattle.members.specs.MemberRows.{member_table}
use Rattle.members.specs.OutsideMembers.{member_place}
use Rattle.members.specs.declared.outside_member.OutsideMember.{OutsideMember}
use Rattle.member_table.specs.declared.named.MemberId.{MemberId}
use Rattle.member_table.specs.declared.named.MemberId.TheVariants as id
use Rattle.member_table.specs.Numbers.{same_id, member_ids, member_number}
use Rattle.member_numbers.specs.Kept.{rows_before, IsNumbered}
use Rattle.member_numbers.proofs.NumberingLaws.{ids, number, ids_count, other_number, old_number, new_number, outside_number, none_there, before_next, before_rises, cut_low, place_within}

-- ---- of any set

module _ (table : ℕ) (outside : List OutsideMember) where
  whole : (s : Assemblies) → 0 < length s → 1 ≤ cut (assembly_at s 0) table
      → length (ids s table outside) ≡ rows_before s table (length s) + (cut (assembly_at s 0) table - 1) + length outside + (count_in (assembly_at s 0) table - (cut (assembly_at s 0) table - 1))
  whole [] some low = absurd (omega (arith, some))
  whole (x ∷ xs) some low = ids_count x xs table outside low

  other : (s : Assemblies) (a r : ℕ) → 1 ≤ cut (assembly_at s 0) table → 1 ≤ a → a < length s → 1 ≤ r → r ≤ count_in (assembly_at s a) table → number s table outside (id.Row a r) ≡ Some (rows_before s table a + (r - 1))
  other [] a r low alow high rlow rhigh = absurd (omega (arith, high))
  other (x ∷ xs) a r low alow high rlow rhigh = other_number x xs table outside low a r alow high rlow rhigh

  before : (s : Assemblies) (r : ℕ) → 0 < length s → 1 ≤ cut (assembly_at s 0) table → 1 ≤ r → r < cut (assembly_at s 0) table → number s table outside (id.Row 0 r) ≡ Some (rows_before s table (length s) + (r - 1))
  before [] r some low rlow high = absurd (omega (arith, some))
  before (x ∷ xs) r some low rlow high = old_number x xs table outside low r rlow high

  behind : (s : Assemblies) (r : ℕ) → 0 < length s → 1 ≤ cut (assembly_at s 0) table → cut (assembly_at s 0) table ≤ r → r ≤ count_in (assembly_at s 0) table
      → number s table outside (id.Row 0 r) ≡ Some (rows_before s table (length s) + length outside + (r - 1))
  behind [] r some low rlow high = absurd (omega (arith, some))
  behind (x ∷ xs) r some low rlow high = new_number x xs table outside low r rlow high

  placed : (s : Assemblies) (m : OutsideMember) → 0 < length s → 1 ≤ cut (assembly_at s 0) table
      → number s table outside (id.Outside m) ≡ option_map (λ k. (rows_before s table (length s) + (cut (assembly_at s 0) table - 1)) + k) (member_place outside m)
  placed [] m some low = absurd (omega (arith, some))
  placed (x ∷ xs) m some low = outside_number x xs table outside low m

  nowhere : (s : Assemblies) (a r : ℕ) → 0 < length s → 1 ≤ cut (assembly_at s 0) table → (a < length s → 1 ≤ r → count_in (assembly_at s a) table < r) → (a ≡ 0 → 1 ≤ r → cut (assembly_at s 0) table ≤ r)
      → number s table outside (id.Row a r) ≡ None
  nowhere [] a r some low h k = absurd (omega (arith, some))
  nowhere (x ∷ xs) a r some low h k = none_there x xs table outside low a r h k

-- ---- of a set with its numbers

module _ (s : Assemblies) (is_field : Bool) (starts : List ℕ) (old all : ℕ) (outside : List OutsideMember) (rows : List Cell) (t : IsNumbered s is_field starts old all outside rows) where
  abbrev table : ℕ
  table = member_table is_field

  low : 1 ≤ cut (assembly_at s 0) table
  low = cut_low (assembly_at s 0) is_field

  ids_are : ids s table outside ≡ member_ids s is_field
  unfolding member_ids
  ids_are = ap (ids s table) t.outside_are

  number_is : (m : MemberId) → number s table outside m ≡ member_number s is_field m
  number_is m = ap (position_from (same_id m) 0) ids_are

  pub all_counted : all ≡ length (member_ids s is_field)
  all_counted =
      let counted : length (ids s table outside) ≡ rows_before s table (length s) + (cut (assembly_at s 0) table - 1) + length outside + (count_in (assembly_at s 0) table - (cut (assembly_at s 0) table - 1)) = whole table outside s t.some low in
      let same : all ≡ length (ids s table outside) = omega (arith, counted, t.all_is, t.old_is) in
      same ∙ ap length ids_are

  pub other_fits : (a row : ℕ) → 1 ≤ a → a < length s → row ≤ count_in (assembly_at s a) table → rows_before s table a + (row - 1) ≤ all
  other_fits a row alow high to =
      let next : rows_before s table (a + 1) ≡ rows_before s table a + count_in (assembly_at s a) table = before_next s table a alow in
      let rises : rows_before s table (a + 1) ≤ rows_before s table (length s) = before_rises s table (a + 1) (length s) (omega arith) (omega (arith, high)) in
      omega (arith, next, rises, to, t.all_is)

  pub other_is : (a row n : ℕ) → n ≡ rows_before s table a → 1 ≤ a → a < length s → 1 ≤ row → row ≤ count_in (assembly_at s a) table → Some (n + (row - 1)) ≡ member_number s is_field (id.Row a row)
  other_is a row n e alow high from to = ap (λ (k : ℕ). Some (k + (row - 1))) e ∙ sym (other table outside s a row low alow high from to) ∙ number_is (id.Row a row)

  pub old_fits : (row n : ℕ) → n ≡ rows_before s table (length s) → row ≤ old → n + (row - 1) ≤ all
  old_fits row n e to = omega (arith, e, to, t.all_is)

  pub old_are : (row n : ℕ) → n ≡ rows_before s table (length s) → 1 ≤ row → row ≤ old → Some (n + (row - 1)) ≡ member_number s is_field (id.Row 0 row)
  old_are row n e from to =
      ap (λ (k : ℕ). Some (k + (row - 1))) e ∙ sym (before table outside s row t.some low from (omega (arith, from, to, t.old_is))) ∙ number_is (id.Row 0 row)

  pub new_fits : (row n : ℕ) → n ≡ rows_before s table (length s) → old < row → row ≤ count_in (assembly_at s 0) table → n + length outside + (row - 1) ≤ all
  new_fits row n e from to = omega (arith, e, from, to, t.all_is)

  pub new_are : (row n m : ℕ) → n ≡ rows_before s table (length s) → m ≡ length outside → old < row → row ≤ count_in (assembly_at s 0) table → Some (n + m + (row - 1)) ≡ member_number s is_field (id.Row 0 row)
  new_are row n m e f from to =
      ap (λ (k : ℕ). Some (k + m + (row - 1))) e
      ∙ ap (λ (k : ℕ). Some (rows_before s table (length s) + k + (row - 1))) f
      ∙ sym (behind table outside s row t.some low (omega (arith, from, t.old_is, low)) to) ∙ number_is (id.Row 0 row)

  pub none_at : (a row : ℕ) → (a < length s → 1 ≤ row → count_in (assembly_at s a) table < row) → (a ≡ 0 → 1 ≤ row → old < row) → None ≡ member_number s is_field (id.Row a row)
  none_at a row h k = sym (nowhere table outside s a row t.some low h (λ e from. let past : old < row = k e from in omega (arith, past, t.old_is, low))) ∙ number_is (id.Row a row)

  pub outside_fits : (m : OutsideMember) (n k : ℕ) → n ≡ rows_before s table (length s) → member_place outside m ≡ Some k → n + old + k ≤ all
  outside_fits m n k e f =
      let within : k < 0 + length outside = place_within m 0 outside k f in
      omega (arith, within, e, t.all_is)

  pub outside_is : (m : OutsideMember) (n : ℕ) → n ≡ rows_before s table (length s) → option_map (λ k. (n + old) + k) (member_place outside m) ≡ member_number s is_field (id.Outside m)
  outside_is m n e =
      ap (λ (j : ℕ). option_map (λ k. (j + old) + k) (member_place outside m)) e
      ∙ ap (λ (j : ℕ). option_map (λ k. (rows_before s table (length s) + j) + k) (member_place outside m)) t.old_is
      ∙ sym (placed table outside s m t.some low) ∙ number_is (id.Outside m)
