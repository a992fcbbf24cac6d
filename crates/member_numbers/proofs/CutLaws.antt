-- How many rows stand before TARGET's runtime class.
use Rattle.std.proofs.Common.{◌≡◌, ◌∙◌, sym, ap, arith, rules, ℕ, ◌+◌, ◌-◌, ◌<◌, Bool, true, false}
use Rattle.std.specs.Prelude.{nat_lt, max, Option, if◌then◌else◌}
use Rattle.cil_base.specs.declared.tables.TheConstants.{TYPE_DEF}
use Rattle.set_rows.specs.Sets.{Assembly, count_in, cell}
use Rattle.set_program.specs.TypeNames.{type_named}
use Rattle.set_program.specs.Numbering.{runtime_name, row_or, type_cut, first_owned}

pub cut_of : (x : Assembly) (o : Option ℕ) → o ≡ type_named x runtime_name → row_or (count_in x TYPE_DEF + 1) o ≡ type_cut x
unfolding type_cut
cut_of x o e = ap (row_or (count_in x TYPE_DEF + 1)) e

less : (a b : ℕ) → a < b → nat_lt a b ≡ true
less a b h = search (rules, h)

not_less : (a b : ℕ) → (a < b → ⊥) → nat_lt a b ≡ false
not_less a b h = search (rules, h)

pub class_is : (x : Assembly) (column table row : ℕ) → row ≡ type_cut x → first_owned x column table row - 1 ≡ first_owned x column table (type_cut x) - 1
class_is x column table row e = ap (λ (r : ℕ). first_owned x column table r - 1) e

module _ (x : Assembly) (column table row : ℕ) where
  abbrev by_test : Bool → ℕ
  by_test b = (if b then count_in x table + 1 else max 1 (cell x TYPE_DEF row column)) - 1

  -- past the last type
  pub owned_past : count_in x TYPE_DEF < row → count_in x table ≡ first_owned x column table row - 1
  owned_past h =
      let one : count_in x table ≡ count_in x table + 1 - 1 = omega arith in
      one ∙ sym (ap by_test (less (count_in x TYPE_DEF) row h))

  pub owned_at : (count_in x TYPE_DEF < row → ⊥) → cell x TYPE_DEF row column - 1 ≡ first_owned x column table row - 1
  owned_at h =
      let one : cell x TYPE_DEF row column - 1 ≡ max 1 (cell x TYPE_DEF row column) - 1 = omega arith in
      one ∙ sym (ap by_test (not_less (count_in x TYPE_DEF) row h))
