-- The numbers of types by what is kept of them.
use Rattle.std.proofs.Common.{◌≡◌, ◌∙◌, sym, ap, arith, ℕ, ◌+◌, ◌-◌, ◌≤◌, ◌<◌, List, length}
use Rattle.std.specs.Prelude.{Some, option_map}
use Rattle.cil_base.specs.declared.tables.TheConstants.{TYPE_DEF}
use Rattle.set_names.specs.Names.{Name}
use Rattle.set_names.specs.Distinct.{place_of}
use Rattle.set_rows.specs.Sets.{Assemblies, assembly_at, count_in}
use Rattle.set_program.specs.declared.identity.TypeId.TheVariants.{Row, Outside}
use Rattle.set_program.specs.Numbering.{type_cut}
use Rattle.set_program.specs.Environment.{types_of, number_of}
use Rattle.type_table.specs.Table.{types_before, IsNumbered}
use Rattle.type_table.proofs.NumberingLaws.{whole_count, number_old, number_new, number_outside, before_next, before_rises, cut_low, cut_high, place_within}

module _ (s : Assemblies) (starts : List ℕ) (old all : ℕ) (names : List Name) (t : IsNumbered s starts old all names) where
  pub table_count : all ≡ length (types_of s)
  table_count = t.all_is ∙ ap (λ (l : List Name). types_before s (length s) + count_in (assembly_at s 0) TYPE_DEF + length l) t.names_are ∙ sym (whole_count s t.some)

  pub other_fits : (a row : ℕ) → 1 ≤ a → a < length s → row ≤ count_in (assembly_at s a) TYPE_DEF → types_before s a + (row - 1) ≤ all
  other_fits a row low high to =
      let next : types_before s (a + 1) ≡ types_before s a + count_in (assembly_at s a) TYPE_DEF = before_next s a low in
      let rises : types_before s (a + 1) ≤ types_before s (length s) = before_rises s (a + 1) (length s) (omega arith) (omega (arith, high)) in
      omega (arith, next, rises, to, t.all_is)

  pub own_fits : (row : ℕ) → row ≤ count_in (assembly_at s 0) TYPE_DEF → types_before s (length s) + (row - 1) ≤ all
  own_fits row to = omega (arith, to, t.all_is)

  pub new_fits : (row : ℕ) → row ≤ count_in (assembly_at s 0) TYPE_DEF → types_before s (length s) + length names + (row - 1) ≤ all
  new_fits row to = omega (arith, to, t.all_is)

  pub own_old : (row n : ℕ) → 1 ≤ row → row ≤ old → n ≡ types_before s (length s) → Some (n + (row - 1)) ≡ number_of s (Row 0 row)
  own_old row n low high e =
      ap (λ (m : ℕ). Some (m + (row - 1))) e ∙ sym (number_old s row t.some low (omega (arith, low, high, t.old_is)))

  pub own_new : (row n m : ℕ) → old < row → row ≤ count_in (assembly_at s 0) TYPE_DEF → n ≡ types_before s (length s) → m ≡ length names → Some (n + m + (row - 1)) ≡ number_of s (Row 0 row)
  own_new row n m low high e f =
      ap (λ (k : ℕ). Some (k + m + (row - 1))) e
      ∙ ap (λ (k : ℕ). Some (types_before s (length s) + k + (row - 1))) (f ∙ ap length t.names_are)
      ∙ sym (number_new s row t.some (omega (arith, low, t.old_is, cut_low (assembly_at s 0))) high)

  pub name_fits : (name : Name) (k : ℕ) → place_of names name ≡ Some k → types_before s (length s) + old + k ≤ all
  name_fits name k e =
      let within : k < 0 + length names = place_within name 0 names k e in
      omega (arith, within, t.all_is, t.old_is, cut_high (assembly_at s 0))

  pub outside_is : (name : Name) (n : ℕ) → n ≡ types_before s (length s) → option_map (λ k. (n + old) + k) (place_of names name) ≡ number_of s (Outside name)
  outside_is name n e =
      ap (λ (m : ℕ). option_map (λ k. (m + old) + k) (place_of names name)) e
      ∙ ap (λ (m : ℕ). option_map (λ k. (types_before s (length s) + m) + k) (place_of names name)) t.old_is
      ∙ ap (λ (l : List Name). option_map (λ k. (types_before s (length s) + (type_cut (assembly_at s 0) - 1)) + k) (place_of l name)) t.names_are
      ∙ sym (number_outside s name t.some)
