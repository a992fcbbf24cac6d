-- In a set without a broken rule no row fails a test.
use Rattle.std.proofs.Common.{◌≡◌, ◌∙◌, sym, ap, refl, subst, inl, inr, rules, ℕ, ◌<◌, ◌≤◌, Bool, true, false, List, [], ◌∷◌, ◌++◌, length}
use Rattle.std.specs.Prelude.{Option, Some, None, ◌&&◌, ◌==◌, if◌then◌else◌}
use Rattle.cil_base.specs.declared.tables.TheConstants.{TYPE_DEF}
use Rattle.cil_base.specs.declared.refusal.Refusal.{Refusal}
use Rattle.cil_base.specs.declared.rule.Rule.TheVariants.{N5}
use Rattle.cil_base.specs.Refusals.{Test, Fails, first_of}
use Rattle.set_rows.specs.Sets.{Assemblies, assembly_at, count_in, is_row}
use Rattle.set_program.specs.declared.identity.TypeId.TheVariants.{Row}
use Rattle.set_program.specs.Numbering.{runtime_name}
use Rattle.set_program.specs.TypeNames.{type_named}
use Rattle.set_program.specs.TypeRules.{test, type_tests}
use Rattle.member_table.specs.MemberRules.{member_tests}
use Rattle.name_rules.specs.NameTests.{name_tests, rewrite_tests, refused_row, is_at}
use Rattle.name_rules.proofs.FailLaws.{IsAt, of_test, fails_first, fails_second}
use Rattle.name_rules.proofs.RowLaws.{OfType, type_places, member_places, rewrite_places}
use Rattle.growth_premises.specs.Rules.{KeepsRules}
use Rattle.program_growth.specs.Rules.{IsRowOf}
use Rattle.growth_premises.proofs.NumberedLaws.{is_there, row_named}
use Rattle.growth_premises.proofs.RuleLaws.{no_first}
use Rattle.growth_rules.specs.Sound.{IsSound}
use Rattle.growth_rules.proofs.IndexLaws.{row_is}

pub no_test_fails : (ts : List Test) → ((r : Refusal) → Fails ts r → ⊥) → first_of ts ≡ None
no_test_fails [] never = refl
no_test_fails (t ∷ ts) never = go t.fails refl (no_test_fails ts (λ r f. never r (inr f)))
  where
    go : (b : Bool) → t.fails ≡ b → first_of ts ≡ None → (if b then Some t.refusal else first_of ts) ≡ None
    go true e later = absurd (never t.refusal (inl (e, refl)))
    go false e later = later

module _ (s : Assemblies) (sound : IsSound s) where
  -- a test of a row that fails is a broken rule
  breaks : (a table row : ℕ) (r : Refusal) → 1 ≤ row → row ≤ count_in (assembly_at s a) table → IsAt a table row r → Fails (name_tests s true a table row) r → ⊥
  breaks a table row r low high at fails =
      sound.names r (record {
        assembly_there = subst (λ (b : ℕ). b < length s) (sym at.same_assembly) (is_there s a table row low high);
        row_there = ap (λ (b : ℕ). is_row (assembly_at s b) r.table r.row) at.same_assembly ∙ ap (λ (t : ℕ). is_row (assembly_at s a) t r.row) at.same_table ∙ ap (is_row (assembly_at s a) table) at.same_row ∙ row_is (assembly_at s a) table row low high;
        fails =
            subst (λ (b : ℕ). Fails (name_tests s true b r.table r.row) r) (sym at.same_assembly)
            (subst (λ (t : ℕ). Fails (name_tests s true a t r.row) r) (sym at.same_table) (subst (λ (k : ℕ). Fails (name_tests s true a table k) r) (sym at.same_row) fails));
      })

  of_type : (a table row : ℕ) (r : Refusal) → Fails (type_tests s a table row) r → IsAt a table row r
  of_type a table row r f = let at : OfType a table row r = type_places s a table row r f in record { same_assembly = at.same_assembly; same_table = at.same_table; same_row = at.same_row }

  pub keeps_rules : KeepsRules s
  keeps_rules = record {
    types = λ a table row low high.
        no_test_fails (type_tests s a table row) (λ r f.
        breaks a table row r low high (of_type a table row r f)
        (fails_first (type_tests s a table row) (member_tests s a table row ++ rewrite_tests s true a table row) r f));
    members = λ a table row low high.
        no_test_fails (member_tests s a table row) (λ r f.
        breaks a table row r low high (of_test a table row (member_tests s a table row) r (member_places s a table row) f)
        (fails_second (type_tests s a table row) (member_tests s a table row ++ rewrite_tests s true a table row) r
        (fails_first (member_tests s a table row) (rewrite_tests s true a table row) r f)));
  }

  not_refused : (row : ℕ) → 1 ≤ row → row ≤ count_in (assembly_at s 0) TYPE_DEF → first_of (rewrite_tests s true 0 TYPE_DEF row) ≡ None
  not_refused row low high =
      no_test_fails (rewrite_tests s true 0 TYPE_DEF row) (λ r f.
      breaks 0 TYPE_DEF row r low high (of_test 0 TYPE_DEF row (rewrite_tests s true 0 TYPE_DEF row) r (rewrite_places s true 0 TYPE_DEF row) f)
      (fails_second (type_tests s 0 TYPE_DEF row) (member_tests s 0 TYPE_DEF row ++ rewrite_tests s true 0 TYPE_DEF row) r
      (fails_second (member_tests s 0 TYPE_DEF row) (rewrite_tests s true 0 TYPE_DEF row) r f)))

  same_number : (n : ℕ) → (n == n) ≡ true
  same_number n = search rules

  -- N5
  pub no_runtime : type_named (assembly_at s 0) runtime_name ≡ None
  no_runtime = go (type_named (assembly_at s 0) runtime_name) refl
    where
      fails_there : (row : ℕ) → type_named (assembly_at s 0) runtime_name ≡ Some row → (true && ((0 == 0) && is_at row (refused_row s TYPE_DEF))) ≡ true
      fails_there row e = ap (λ (o : Option ℕ). is_at row o) e ∙ same_number row

      go : (o : Option ℕ) → type_named (assembly_at s 0) runtime_name ≡ o → o ≡ None
      go None e = refl
      go (Some row) e =
          let at : IsRowOf s (Row 0 row) = row_named s 0 row runtime_name e in
          absurd (let wrong : true ≡ false = sym (fails_there row e) ∙ no_first (test N5 0 TYPE_DEF row (true && ((0 == 0) && is_at row (refused_row s TYPE_DEF)))) [] (not_refused row at.1.0 at.1.1) in cc)
