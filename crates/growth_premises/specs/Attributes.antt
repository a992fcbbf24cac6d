-- Where the indexes lead by which CustomAttribute rows have types (ECMA-335, II.22.10, II.22.25).
use Rattle.std.specs.Prelude.{◌≡◌, ℕ, ◌≤◌, ◌/◌, ◌%◌, ◌==◌, true}
use Rattle.cil_base.specs.declared.tables.TheConstants.{CUSTOM_ATTRIBUTE, MEMBER_REF, METHOD_DEF, TYPE_DEF, TYPE_REF, TYPE_SPEC}
use Rattle.set_rows.specs.Sets.{Assembly, count_in, cell}

-- constructors and the parents of MemberRef rows keep to rows (M5)
pub record HasAttributes (x : Assembly) : Type 0 where
  pub methods : (k : ℕ) → k ≤ count_in x CUSTOM_ATTRIBUTE → (cell x CUSTOM_ATTRIBUTE k 1 % 8 == 2) ≡ true → cell x CUSTOM_ATTRIBUTE k 1 / 8 ≤ count_in x METHOD_DEF
  pub constructors : (k : ℕ) → k ≤ count_in x CUSTOM_ATTRIBUTE → (cell x CUSTOM_ATTRIBUTE k 1 % 8 == 3) ≡ true → cell x CUSTOM_ATTRIBUTE k 1 / 8 ≤ count_in x MEMBER_REF
  pub defined : (row : ℕ) → row ≤ count_in x MEMBER_REF → (cell x MEMBER_REF row 0 % 8 == 0) ≡ true → cell x MEMBER_REF row 0 / 8 ≤ count_in x TYPE_DEF
  pub referenced : (row : ℕ) → row ≤ count_in x MEMBER_REF → (cell x MEMBER_REF row 0 % 8 == 1) ≡ true → cell x MEMBER_REF row 0 / 8 ≤ count_in x TYPE_REF
  pub specs : (row : ℕ) → row ≤ count_in x MEMBER_REF → (cell x MEMBER_REF row 0 % 8 == 4) ≡ true → cell x MEMBER_REF row 0 / 8 ≤ count_in x TYPE_SPEC
