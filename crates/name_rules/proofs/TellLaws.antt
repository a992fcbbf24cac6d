-- From the tests of a table's rows to the first rule on names that is broken in it.
use Rattle.std.proofs.Common.{◌≡◌, ◌∙◌, ◌⊎◌, inl, inr, sym, ap, subst, refl, arith, rules, ℕ, zero, suc, ◌+◌, ◌≤◌, ◌<◌, Bool, true, false, List, [], ◌∷◌, ◌++◌, length}
use Rattle.std.specs.Prelude.{◌==◌, ◌&&◌, nat_lt, nat_le, Option, Some, None, flat_map, if◌then◌else◌, Result, Ok, Err, IfOk}
use Rattle.std.specs.List.{range_with_len}
use Rattle.std.proofs.lemmas.Bool.{eqb-true, ltb-true, leb-true}
use Rattle.cil_base.specs.declared.tables.TheConstants.{ASSEMBLY, CUSTOM_ATTRIBUTE, EXPORTED_TYPE, TYPE_DEF, TYPE_REF}
use Rattle.cil_base.specs.declared.rule.Rule.{Rule}
use Rattle.cil_base.specs.declared.rule.Rule.TheVariants.{N4, N5}
use Rattle.cil_base.specs.declared.refusal.Refusal.{Refusal}
use Rattle.cil_base.specs.Rules.{rule_number}
use Rattle.cil_base.specs.Refusals.{Test, Fails, First, NoneBroken, key, is_less, first_of, refusal}
use Rattle.set_rows.specs.Sets.{Assembly, Assemblies, assembly_at, count_in, is_row, rows_in}
use Rattle.set_program.specs.TypeRules.{type_tests}
use Rattle.set_blobs.specs.BadBlobs.{TellsFirst}
use Rattle.set_rules.specs.TableTests.{table_tests}
use Rattle.set_rules.proofs.TableLaws.{table_first}
use Rattle.member_table.specs.MemberRules.{member_tests}
use Rattle.member_tests.specs.MemberTables.{member_table_tests}
use Rattle.name_rules.specs.NameTests.{BreaksNames, InAssembly, InTable, by_row, holds_signature, is_at, name_tests, refused_row, rewrite_table_tests, rewrite_tests}
use Rattle.name_rules.proofs.FailLaws.{FailsIn, IsAt, by_row_tells, fails_first, fails_parts, fails_second, first_same, in_rows, later_rule, of_test, rows_first, some_row}
use Rattle.name_rules.proofs.RowLaws.{OfRewrite, OfType, member_places, never_members, never_rewrites, never_types, other_tables, rewrite_places, rewrite_rule, signature_low, type_places}

-- ---- one row

row_test : (x : Assembly) (table row : ℕ) → 1 ≤ row → row < 1 + count_in x table → is_row x table row ≡ true
row_test x table row some most =
    let first : nat_lt 0 row ≡ true = search (rules, some) in
    let second : nat_le row (count_in x table) ≡ true = search (rules, most) in
    ap (λ (b : Bool). b && nat_le row (count_in x table)) first ∙ second

row_bounds : (x : Assembly) (table row : ℕ) → is_row x table row ≡ true → (1 ≤ row) × (row < 1 + count_in x table)
row_bounds x table row h = go (nat_lt 0 row) (nat_le row (count_in x table)) refl refl h
  where
    go : (b d : Bool) → nat_lt 0 row ≡ b → nat_le row (count_in x table) ≡ d → (b && d) ≡ true → (1 ≤ row) × (row < 1 + count_in x table)
    go true true e f k = let some : 0 < row = ltb-true 0 row e in let most : row ≤ count_in x table = leb-true row (count_in x table) f in (omega (arith, some), omega (arith, most))
    go true false e f k = absurd cc
    go false d e f k = absurd cc

record BrokenIn (s : Assemblies) (writes : Bool) (a table : ℕ) (r : Refusal) : Type 0 where
  pub low : 1 ≤ r.row
  pub high : r.row < 1 + count_in (assembly_at s a) table
  pub fails : Fails (name_tests s writes a table r.row) r

module _ (s : Assemblies) (writes : Bool) (a table : ℕ) where
  breaks : a < length s → (row : ℕ) (r : Refusal) → 1 ≤ row → row < 1 + count_in (assembly_at s a) table → IsAt a table row r → Fails (name_tests s writes a table row) r → InTable s writes a table r
  breaks there row r some most p f =
      let is : is_row (assembly_at s a) table row ≡ true = row_test (assembly_at s a) table row some most in
      let is_in_table : is_row (assembly_at s a) table r.row ≡ true = subst (λ (j : ℕ). is_row (assembly_at s a) table j ≡ true) (sym p.same_row) is in
      let is_in_assembly : is_row (assembly_at s a) r.table r.row ≡ true = subst (λ (t : ℕ). is_row (assembly_at s a) t r.row ≡ true) (sym p.same_table) is_in_table in
      let row_fails : Fails (name_tests s writes a table r.row) r = subst (λ (j : ℕ). Fails (name_tests s writes a table j) r) (sym p.same_row) f in
      let table_fails : Fails (name_tests s writes a r.table r.row) r = subst (λ (t : ℕ). Fails (name_tests s writes a t r.row) r) (sym p.same_table) row_fails in
      let it : BreaksNames s writes r = record {
        assembly_there = omega (arith, there, p.same_assembly);
        row_there = subst (λ (b : ℕ). is_row (assembly_at s b) r.table r.row ≡ true) (sym p.same_assembly) is_in_assembly;
        fails = subst (λ (b : ℕ). Fails (name_tests s writes b r.table r.row) r) (sym p.same_assembly) table_fails;
      } in
      ((it, p.same_assembly), p.same_table)

  broken : (r : Refusal) → InTable s writes a table r → BrokenIn s writes a table r
  broken r ((it, in_assembly), in_table) =
      let is_in_assembly : is_row (assembly_at s a) r.table r.row ≡ true = subst (λ (b : ℕ). is_row (assembly_at s b) r.table r.row ≡ true) in_assembly it.row_there in
      let is : is_row (assembly_at s a) table r.row ≡ true = subst (λ (t : ℕ). is_row (assembly_at s a) t r.row ≡ true) in_table is_in_assembly in
      let bounds = row_bounds (assembly_at s a) table r.row is in
      let table_fails : Fails (name_tests s writes a r.table r.row) r = subst (λ (b : ℕ). Fails (name_tests s writes b r.table r.row) r) in_assembly it.fails in
      record { low = bounds.0; high = bounds.1; fails = subst (λ (t : ℕ). Fails (name_tests s writes a t r.row) r) in_table table_fails }

  abbrev Parts : ℕ → Refusal → Type 0
  Parts row r = Fails (type_tests s a table row) r ⊎ (Fails (member_tests s a table row) r ⊎ Fails (rewrite_tests s writes a table row) r)

  parts : (row : ℕ) (r : Refusal) → Fails (name_tests s writes a table row) r → Parts row r
  parts row r f = go (fails_parts (type_tests s a table row) (member_tests s a table row ++ rewrite_tests s writes a table row) r f)
    where
      go : Fails (type_tests s a table row) r ⊎ Fails (member_tests s a table row ++ rewrite_tests s writes a table row) r → Parts row r
      go (inl g) = inl g
      go (inr g) = inr (fails_parts (member_tests s a table row) (rewrite_tests s writes a table row) r g)

  -- ---- a table that holds signatures

  module _ (there : a < length s) (is : holds_signature table ≡ true) where
    to_members : (r : Refusal) → Fails (member_table_tests s a table) r → InTable s writes a table r
    to_members r f =
        let at = some_row (member_tests s a table) 1 (count_in (assembly_at s a) table) r f in
        breaks there at.row r at.low at.high (of_test a table at.row (member_tests s a table at.row) r (member_places s a table at.row) at.fails)
        (fails_second (type_tests s a table at.row) (member_tests s a table at.row ++ rewrite_tests s writes a table at.row) r
        (fails_first (member_tests s a table at.row) (rewrite_tests s writes a table at.row) r at.fails))

    of_members : (r : Refusal) → InTable s writes a table r → Fails (member_table_tests s a table) r
    of_members r h =
        let k = broken r h in
        go k.low k.high (parts r.row r k.fails)
      where
        go : 1 ≤ r.row → r.row < 1 + count_in (assembly_at s a) table → Parts r.row r → Fails (member_table_tests s a table) r
        go low high (inl f) = absurd (never_types s a table r.row r is f)
        go low high (inr (inl f)) = in_rows (member_tests s a table) 1 (count_in (assembly_at s a) table) r.row r low high f
        go low high (inr (inr f)) = absurd (never_rewrites s writes a table r.row r is f)

    pub members_tell : (o : Option Refusal) → o ≡ first_of (member_table_tests s a table) → TellsFirst (InTable s writes a table) o
    members_tell o e =
        first_same (Fails (member_table_tests s a table)) (InTable s writes a table) o to_members of_members
        (subst (λ (p : Option Refusal). TellsFirst (Fails (member_table_tests s a table)) p) (sym e) (rows_first a table (member_tests s a table) (member_places s a table) (count_in (assembly_at s a) table)))

  -- ---- any other

  module _ (there : a < length s) (isnt : holds_signature table ≡ false) where
    of_types : (r : Refusal) → Fails (table_tests s a table) r → FailsIn (type_tests s a table) 1 (count_in (assembly_at s a) table) r
    of_types r f = some_row (type_tests s a table) 1 (count_in (assembly_at s a) table) r f

    of_rewrites : (r : Refusal) → Fails (rewrite_table_tests s writes a table) r → FailsIn (rewrite_tests s writes a table) 1 (count_in (assembly_at s a) table) r
    of_rewrites r f = some_row (rewrite_tests s writes a table) 1 (count_in (assembly_at s a) table) r f

    type_place : (r : Refusal) (at : FailsIn (type_tests s a table) 1 (count_in (assembly_at s a) table) r) → OfType a table at.row r
    type_place r at = type_places s a table at.row r at.fails

    rewrite_place : (r : Refusal) (at : FailsIn (rewrite_tests s writes a table) 1 (count_in (assembly_at s a) table) r) → IsAt a table at.row r
    rewrite_place r at = of_test a table at.row (rewrite_tests s writes a table at.row) r (rewrite_places s writes a table at.row) at.fails

    abbrev Either : Refusal → Type 0
    Either r = Fails (table_tests s a table) r ⊎ Fails (rewrite_table_tests s writes a table) r

    to_both : (r : Refusal) → Either r → InTable s writes a table r
    to_both r (inl f) =
        let at = of_types r f in
        let p = type_place r at in
        breaks there at.row r at.low at.high (record { same_assembly = p.same_assembly; same_table = p.same_table; same_row = p.same_row })
        (fails_first (type_tests s a table at.row) (member_tests s a table at.row ++ rewrite_tests s writes a table at.row) r at.fails)
    to_both r (inr f) =
        let at = of_rewrites r f in
        breaks there at.row r at.low at.high (rewrite_place r at)
        (fails_second (type_tests s a table at.row) (member_tests s a table at.row ++ rewrite_tests s writes a table at.row) r
        (fails_second (member_tests s a table at.row) (rewrite_tests s writes a table at.row) r at.fails))

    of_both : (r : Refusal) → InTable s writes a table r → Either r
    of_both r h =
        let k = broken r h in
        go k.low k.high (parts r.row r k.fails)
      where
        go : 1 ≤ r.row → r.row < 1 + count_in (assembly_at s a) table → Parts r.row r → Either r
        go low high (inl f) = inl (in_rows (type_tests s a table) 1 (count_in (assembly_at s a) table) r.row r low high f)
        go low high (inr (inl f)) = absurd (never_members s a table r.row r isnt f)
        go low high (inr (inr f)) = inr (in_rows (rewrite_tests s writes a table) 1 (count_in (assembly_at s a) table) r.row r low high f)

    types_placed : (r : Refusal) → Fails (table_tests s a table) r → (r.assembly ≡ a) × (r.table ≡ table)
    types_placed r f = let p = type_place r (of_types r f) in (p.same_assembly, p.same_table)

    rewrites_placed : (r : Refusal) → Fails (rewrite_table_tests s writes a table) r → (r.assembly ≡ a) × (r.table ≡ table)
    rewrites_placed r f = let p = rewrite_place r (of_rewrites r f) in (p.same_assembly, p.same_table)

    -- N5 is the last rule of a row
    rewrites_last : (q r : Refusal) → Fails (rewrite_table_tests s writes a table) q → Fails (table_tests s a table) r → q.row ≡ r.row → is_less (key q) (key r) ≡ false
    rewrites_last q r f g same =
        let p = type_place r (of_types r g) in
        let at = of_rewrites q f in
        let o = rewrite_place q at in
        let rule = rewrite_rule s writes a table at.row q at.fails in
        later_rule q r (o.same_assembly ∙ sym p.same_assembly) (o.same_table ∙ sym p.same_table) same (rule.no_offset ∙ sym p.no_offset)
        (subst (λ (x : Rule). rule_number r.rule ≤ rule_number x) (sym rule.same_rule) (omega (arith, p.early_rule)))

    pub types_tell : (o p : Option Refusal) → o ≡ first_of (table_tests s a table) → p ≡ first_of (rewrite_table_tests s writes a table) → TellsFirst (InTable s writes a table) (by_row o p)
    types_tell o p e f =
        first_same Either (InTable s writes a table) (by_row o p) to_both of_both
        (by_row_tells (Fails (table_tests s a table)) (Fails (rewrite_table_tests s writes a table)) a table types_placed rewrites_placed rewrites_last o p
        (subst (λ (x : Option Refusal). TellsFirst (Fails (table_tests s a table)) x) (sym e) (table_first s a table))
        (subst (λ (x : Option Refusal). TellsFirst (Fails (rewrite_table_tests s writes a table)) x) (sym f)
        (rows_first a table (rewrite_tests s writes a table) (rewrite_places s writes a table) (count_in (assembly_at s a) table))))

  low_tables : (row : ℕ) (r : Refusal) → Fails (name_tests s writes a table row) r → table < 0x2D
  low_tables row r h = go (parts row r h)
    where
      signature : (b : Bool) → holds_signature table ≡ b → Fails (member_tests s a table row) r → table < 0x2D
      signature true e f = signature_low table e
      signature false e f = absurd (never_members s a table row r e f)

      go : Parts row r → table < 0x2D
      go (inl f) = (type_places s a table row r f).low_table
      go (inr (inl f)) = signature (holds_signature table) refl f
      go (inr (inr f)) = (rewrite_rule s writes a table row r f).low_table

-- no rule is broken past the last table with one
pub tables_end : (s : Assemblies) (writes : Bool) (a : ℕ) (r : Refusal) → InAssembly s writes a r → r.table < 0x2D
tables_end s writes a r (it, e) = low_tables s writes r.assembly r.table r.row r it.fails

-- ---- answers of calls

pub members_answer : {E : Type 0} (s : Assemblies) (writes : Bool) (a table : ℕ) (answer : Result (Option Refusal) E) → a < length s → holds_signature table ≡ true
    → IfOk answer (λ o. o ≡ first_of (member_table_tests s a table)) → IfOk answer (λ o. TellsFirst (InTable s writes a table) o)
members_answer s writes a table (Ok o) there is h = members_tell s writes a table there is o h
members_answer s writes a table (Err e) there is h = tt

-- ---- tables without rules of a kind

flat_none : (f : ℕ → List Test) (k n : ℕ) → ((j : ℕ) → f j ≡ []) → flat_map f (range_with_len k n) ≡ []
flat_none f k zero h = refl
flat_none f k (suc n) h = ap (λ (l : List Test). l ++ flat_map f (range_with_len (k + 1) n)) (h k) ∙ flat_none f (k + 1) n h

pub no_types : (s : Assemblies) (a table : ℕ) → (table ≡ TYPE_REF → ⊥) → (table ≡ TYPE_DEF → ⊥) → (table ≡ CUSTOM_ATTRIBUTE → ⊥) → (table ≡ ASSEMBLY → ⊥) → (table ≡ EXPORTED_TYPE → ⊥) → None ≡ first_of (table_tests s a table)
no_types s a table p q r t u =
    sym (ap first_of (flat_none (type_tests s a table) 1 (count_in (assembly_at s a) table) (λ row.
    other_tables s a table row (differs TYPE_REF p) (differs TYPE_DEF q) (differs CUSTOM_ATTRIBUTE r) (differs ASSEMBLY t) (differs EXPORTED_TYPE u))))
  where
    differs : (t : ℕ) → (table ≡ t → ⊥) → (table == t) ≡ false
    differs t h = go (table == t) refl
      where
        go : (b : Bool) → (table == t) ≡ b → (table == t) ≡ false
        go true e = absurd (h (eqb-true table t e))
        go false e = e
