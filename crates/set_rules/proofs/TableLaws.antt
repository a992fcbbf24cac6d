-- The first test of a table that fails is the first refusal of it: the places of its rows rise.
use Rattle.std.proofs.Common.{◌≡◌, sym, ℕ, zero, suc, ◌+◌, ◌<◌, ◌≤◌, Bool, true, false, List, [], ◌∷◌, ◌++◌, refl, arith}
use Rattle.std.specs.Prelude.{◌==◌, ◌&&◌, if◌then◌else◌, is_none, option_to_list, flat_map}
use Rattle.std.specs.List.{range_with_len}
use Rattle.std.proofs.lemmas.Bool.{eqb-true}
use Rattle.cil_base.specs.declared.tables.TheConstants.{ASSEMBLY, CUSTOM_ATTRIBUTE, EXPORTED_TYPE, TYPE_DEF, TYPE_REF}
use Rattle.cil_base.specs.declared.rule.Rule.TheVariants.{N1, N3, N4}
use Rattle.cil_base.specs.declared.refusal.Refusal.{Refusal}
use Rattle.cil_base.specs.Rules.{rule_number}
use Rattle.cil_base.specs.Refusals.{Test, Fails, key, is_less, first_of}
use Rattle.cil_base.proofs.RefusalLaws.{Rises, not_less, first_is_first}
use Rattle.set_names.specs.Cycles.{any}
use Rattle.set_rows.specs.Sets.{Assemblies, assembly_at, count_in}
use Rattle.set_program.specs.declared.identity.TypeId.TheVariants.{Row}
use Rattle.set_program.specs.References.{reference}
use Rattle.set_program.specs.Attributes.{attribute_type, names_type}
use Rattle.set_program.specs.TypeNames.{full_name}
use Rattle.set_program.specs.Environment.{number_of}
use Rattle.set_program.specs.TypeRules.{test, type_tests, exported, is_entangled, name_is_taken, assembly_is_taken}
use Rattle.set_blobs.specs.BadBlobs.{TellsFirst}
use Rattle.set_rules.specs.TableTests.{table_tests}

no : {P : Type 0} → ⊥ → P
no h = absurd h

abbrev behind_row : Refusal → List ℕ
behind_row r = r.at ∷ rule_number r.rule ∷ []

abbrev behind_table : Refusal → List ℕ
behind_table r = r.row ∷ behind_row r

abbrev behind_assembly : Refusal → List ℕ
behind_assembly r = r.table ∷ behind_table r

by_row : (q r : Refusal) → r.row < q.row → is_less (behind_table q) (behind_table r) ≡ false
by_row q r h = not_less q.row r.row (behind_row q) (behind_row r) (omega arith) (λ e. no (omega arith))

later_row : (q r : Refusal) → q.assembly ≡ r.assembly → q.table ≡ r.table → r.row < q.row → is_less (key q) (key r) ≡ false
later_row q r e f h = not_less q.assembly r.assembly (behind_assembly q) (behind_assembly r) (omega arith) (λ _. not_less q.table r.table (behind_table q) (behind_table r) (omega arith) (λ _. by_row q r h))

-- a rule of a higher number at the same place
later_rule : (a table row x y : ℕ) → y ≤ x → is_less (a ∷ table ∷ row ∷ 0 ∷ x ∷ []) (a ∷ table ∷ row ∷ 0 ∷ y ∷ []) ≡ false
later_rule a table row x y h =
    not_less a a (table ∷ row ∷ 0 ∷ x ∷ []) (table ∷ row ∷ 0 ∷ y ∷ []) (omega arith) (λ _.
    not_less table table (row ∷ 0 ∷ x ∷ []) (row ∷ 0 ∷ y ∷ []) (omega arith) (λ _.
    not_less row row (0 ∷ x ∷ []) (0 ∷ y ∷ []) (omega arith) (λ _.
    not_less 0 0 (x ∷ []) (y ∷ []) (omega arith) (λ _. not_less x y [] [] h (λ _. refl)))))

-- a place in an earlier row of the table
pub record IsBefore (a table row : ℕ) (r : Refusal) : Type 0 where
  pub same_assembly : r.assembly ≡ a
  pub same_table : r.table ≡ table
  pub earlier : r.row < row

-- the tests are of this row, and their places don't fall
abbrev pub OfRow : ℕ → ℕ → ℕ → List Test → Type 0
OfRow a table row [] = Unit {0}
OfRow a table row (t ∷ ts) = (t.refusal.assembly ≡ a) × (t.refusal.table ≡ table) × (t.refusal.row ≡ row) × Rises (key t.refusal) ts × OfRow a table row ts

start : (k : List ℕ) (ts rest : List Test) (a table row : ℕ) → OfRow a table row ts → Rises k ts → Rises k rest → ((r : Refusal) → IsBefore a table (row + 1) r → Rises (key r) rest) → Rises k (ts ++ rest)
start k [] rest a table row h g e more = e
start k (t ∷ ts) rest a table row (p, q, o, i, h) g e more =
    (g.0, start (key t.refusal) ts rest a table row h i (more t.refusal (record { same_assembly = p; same_table = q; earlier = omega (arith, o) })) more)

module _ (a table : ℕ) (T : ℕ → List Test) (of_row : (row : ℕ) → OfRow a table row (T row)) where
  first_rises : (k : List ℕ) (ts : List Test) (row : ℕ) → ((r : Refusal) → r.assembly ≡ a → r.table ≡ table → r.row ≡ row → is_less (key r) k ≡ false) → OfRow a table row ts → Rises k ts
  first_rises k [] row low h = tt
  first_rises k (t ∷ ts) row low (p, q, o, i, h) = (low t.refusal p q o, i)

  -- from a key that no place from a row on comes before
  pub rows_rise : (k : List ℕ) (row n : ℕ) → ((r : Refusal) → r.assembly ≡ a → r.table ≡ table → row ≤ r.row → is_less (key r) k ≡ false) → Rises k (flat_map T (range_with_len row n))
  rows_rise k row zero low = tt
  rows_rise k row (suc n) low =
      start k (T row) (flat_map T (range_with_len (row + 1) n)) a table row (of_row row) (first_rises k (T row) row (λ r p q o. low r p q (omega (arith, o))) (of_row row))
      (rows_rise k (row + 1) n (λ r p q o. low r p q (omega (arith, o))))
      (λ r b. rows_rise (key r) (row + 1) n (λ q p t o. later_row q r (same_number q.assembly r.assembly a p b.same_assembly) (same_number q.table r.table table t b.same_table) (omega (arith, o, b.earlier))))
    where
      same_number : (x y z : ℕ) → x ≡ z → y ≡ z → x ≡ y
      same_number x y z e f = cc

-- ---- the tests of a row

module _ (s : Assemblies) (a table row : ℕ) where
  abbrev exports : List Test
  exports = test N1 a EXPORTED_TYPE row (is_none (exported s a row)) ∷ []

  abbrev assemblies : List Test
  assemblies = test N4 a ASSEMBLY row (assembly_is_taken s a) ∷ []

  abbrev attributes : List Test
  attributes = test N1 a CUSTOM_ATTRIBUTE row (names_type s a row && is_none (attribute_type s a row)) ∷ []

  abbrev types : List Test
  types = test N3 a TYPE_DEF row (any (is_entangled s) (option_to_list (number_of s (Row a row)))) ∷ test N4 a TYPE_DEF row (name_is_taken (assembly_at s a) (full_name (assembly_at s a) row) row) ∷ []

  abbrev references : List Test
  references = test N1 a TYPE_REF row (is_none (reference s a row)) ∷ []

  by_export : (b : Bool) → (table == EXPORTED_TYPE) ≡ b → OfRow a table row (if b then exports else [])
  by_export true e = (refl, sym (eqb-true table EXPORTED_TYPE e), refl, tt, tt)
  by_export false e = tt

  by_assembly : (b : Bool) → (table == ASSEMBLY) ≡ b → OfRow a table row (if b then assemblies else if table == EXPORTED_TYPE then exports else [])
  by_assembly true e = (refl, sym (eqb-true table ASSEMBLY e), refl, tt, tt)
  by_assembly false e = by_export (table == EXPORTED_TYPE) refl

  by_attribute : (b : Bool) → (table == CUSTOM_ATTRIBUTE) ≡ b → OfRow a table row (if b then attributes else if table == ASSEMBLY then assemblies else if table == EXPORTED_TYPE then exports else [])
  by_attribute true e = (refl, sym (eqb-true table CUSTOM_ATTRIBUTE e), refl, tt, tt)
  by_attribute false e = by_assembly (table == ASSEMBLY) refl

  by_type : (b : Bool) → (table == TYPE_DEF) ≡ b → OfRow a table row (if b then types else if table == CUSTOM_ATTRIBUTE then attributes else if table == ASSEMBLY then assemblies else if table == EXPORTED_TYPE then exports else [])
  by_type true e =
      let same = sym (eqb-true table TYPE_DEF e) in
      (refl, same, refl, (later_rule a TYPE_DEF row (rule_number N4) (rule_number N3) (omega arith), tt), (refl, same, refl, tt, tt))
  by_type false e = by_attribute (table == CUSTOM_ATTRIBUTE) refl

  by_reference : (b : Bool) → (table == TYPE_REF) ≡ b → OfRow a table row (if b then references else if table == TYPE_DEF then types else if table == CUSTOM_ATTRIBUTE then attributes else if table == ASSEMBLY then assemblies else if table == EXPORTED_TYPE then exports else [])
  by_reference true e = (refl, sym (eqb-true table TYPE_REF e), refl, tt, tt)
  by_reference false e = by_type (table == TYPE_DEF) refl

  tests_of_row : OfRow a table row (type_tests s a table row)
  tests_of_row = by_reference (table == TYPE_REF) refl

-- what the tests of a table answer is its first refusal
pub table_first : (s : Assemblies) (a table : ℕ) → TellsFirst (Fails (table_tests s a table)) (first_of (table_tests s a table))
table_first s a table =
    first_is_first [] (table_tests s a table) (rows_rise a table (type_tests s a table) (tests_of_row s a table) [] 1 (count_in (assembly_at s a) table) (λ r p q o. refl))
