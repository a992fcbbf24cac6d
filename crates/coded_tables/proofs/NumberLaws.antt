-- Each TypeDef row has a number.
use Rattle.std.proofs.Common.{◌≡◌, ◌∙◌, sym, ap, refl, arith, rules, ℕ, zero, suc, ◌≤◌, ◌<◌, length, Bool, true, false}
use Rattle.std.specs.Prelude.{nat_lt, nat_le, ◌&&◌, if◌then◌else◌, Option, Some, None}
use Rattle.cil_base.specs.declared.tables.TheConstants.{TYPE_DEF}
use Rattle.set_rows.specs.Sets.{Assemblies, assembly_at, is_row, count_in}
use Rattle.set_program.specs.declared.identity.TypeId.TheVariants.{Row}
use Rattle.set_program.specs.Numbering.{type_cut}
use Rattle.set_program.specs.Environment.{number_of, number_or}
use Rattle.type_table.proofs.NumberingLaws.{number_other, number_old, number_new}
use Rattle.coded_tables.specs.CodedAssemblies.{own_number}

some_number : (o : Option ℕ) (k : ℕ) → o ≡ Some k → Some (number_or 0 o) ≡ o
some_number o k e = ap (λ (p : Option ℕ). Some (number_or 0 p)) e ∙ sym e

has_number : (s : Assemblies) (a row : ℕ) → a < length s → 1 ≤ row → row ≤ count_in (assembly_at s a) TYPE_DEF → Some (own_number s a row) ≡ number_of s (Row a row)
has_number s zero row there low high = go (nat_lt row (type_cut (assembly_at s 0))) refl
  where
    go : (b : Bool) → nat_lt row (type_cut (assembly_at s 0)) ≡ b → Some (own_number s 0 row) ≡ number_of s (Row 0 row)
    go true e =
        let before : row < type_cut (assembly_at s 0) = search (rules, e) in
        some_number (number_of s (Row 0 row)) _ (number_old s row (omega (arith, there)) low before)
    go false e =
        let over : row < type_cut (assembly_at s 0) → ⊥ = λ l. search (rules, e, l) in
        some_number (number_of s (Row 0 row)) _ (number_new s row (omega (arith, there)) (omega (arith, over)) high)
has_number s (suc a) row there low high = some_number (number_of s (Row (suc a) row)) _ (number_other s (suc a) row (omega arith) there low high)

lt_from : (k n : ℕ) → (nat_lt 0 k && nat_le k n) ≡ true → 1 ≤ k
lt_from k n h = search (rules, h)

le_from : (k n : ℕ) → (nat_lt 0 k && nat_le k n) ≡ true → k ≤ n
le_from k n h = search (rules, h)

pub row_numbered : (s : Assemblies) (a row : ℕ) → a < length s
    → (if is_row (assembly_at s a) TYPE_DEF row then Some (own_number s a row) else None) ≡ (if is_row (assembly_at s a) TYPE_DEF row then number_of s (Row a row) else None)
row_numbered s a row there = go (is_row (assembly_at s a) TYPE_DEF row) refl
  where
    go : (b : Bool) → is_row (assembly_at s a) TYPE_DEF row ≡ b → (if b then Some (own_number s a row) else None) ≡ (if b then number_of s (Row a row) else None)
    go true e = has_number s a row there (lt_from row (count_in (assembly_at s a) TYPE_DEF) e) (le_from row (count_in (assembly_at s a) TYPE_DEF) e)
    go false e = refl
