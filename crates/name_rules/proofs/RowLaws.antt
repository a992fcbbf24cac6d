-- Where the tests of a row may fail.
use Rattle.std.proofs.Common.{◌≡◌, ◌∙◌, ◌⊎◌, inl, inr, sym, ap, subst, refl, arith, rules, ℕ, ◌+◌, ◌≤◌, ◌<◌, Bool, true, false, List, [], ◌∷◌, ◌++◌}
use Rattle.std.specs.Prelude.{◌==◌, ◌&&◌, ◌||◌, Option, Some, None, is_none, option_to_list, flat_map, if◌then◌else◌}
use Rattle.std.proofs.lemmas.Bool.{eqb-true}
use Rattle.cil_base.specs.declared.tables.TheConstants.{ASSEMBLY, CUSTOM_ATTRIBUTE, EXPORTED_TYPE, FIELD, MEMBER_REF, METHOD_DEF, METHOD_SPEC, PROPERTY, STAND_ALONE_SIG, TYPE_DEF, TYPE_REF, TYPE_SPEC}
use Rattle.cil_base.specs.declared.rule.Rule.{Rule}
use Rattle.cil_base.specs.declared.rule.Rule.TheVariants.{N1, N2, N3, N4, N5, N6}
use Rattle.cil_base.specs.declared.refusal.Refusal.{Refusal}
use Rattle.cil_base.specs.Rules.{rule_number}
use Rattle.cil_base.specs.Refusals.{Test, Fails, key, is_less}
use Rattle.cil_base.proofs.Small.{or_neither}
use Rattle.cli_sigs.specs.declared.types.SigTy.{SigTy}
use Rattle.set_names.specs.Cycles.{any}
use Rattle.set_rows.specs.Sets.{Assemblies, assembly_at}
use Rattle.set_program.specs.declared.identity.TypeId.TheVariants.{Row}
use Rattle.set_program.specs.References.{reference}
use Rattle.set_program.specs.Attributes.{attribute_type, has_attribute, names_type, on_assembly, reference_attribute}
use Rattle.set_program.specs.Numbering.{runtime_name}
use Rattle.set_program.specs.TypeNames.{full_name, type_named}
use Rattle.set_program.specs.Environment.{coded_in, number_of, row_types}
use Rattle.set_program.specs.TypeRules.{test, type_tests, exported, is_entangled, name_is_taken, assembly_is_taken}
use Rattle.set_rules.proofs.TableLaws.{OfRow}
use Rattle.member_table.specs.MemberRules.{is_taken_at, is_unfit, isnt_read, isnt_there, member_tests, miscounts_at}
use Rattle.name_rules.specs.NameTests.{all_there, core_names, holds_signature, is_at, refused_row, rewrite_tests}
use Rattle.name_rules.proofs.FailLaws.{later_rule}

-- ---- rows that hold signatures

following : (a table row : ℕ) (x y : Rule) (b d : Bool) → rule_number y ≤ rule_number x → is_less (key (test x a table row b).refusal) (key (test y a table row d).refusal) ≡ false
following a table row x y b d h = later_rule (test x a table row b).refusal (test y a table row d).refusal refl refl refl refl h

pub member_places : (s : Assemblies) (a table row : ℕ) → OfRow a table row (member_tests s a table row)
unfolding member_tests
member_places s a table row = (
  refl,
  refl,
  refl,
  (following a table row N2 N1 true true (omega arith), (following a table row N4 N2 true true (omega arith), (following a table row N6 N4 true true (omega arith), tt))),
  (
    refl,
    refl,
    refl,
    (following a table row N4 N2 true true (omega arith), (following a table row N6 N4 true true (omega arith), tt)),
    (
      refl,
      refl,
      refl,
      (following a table row N6 N4 true true (omega arith), tt),
      (refl, refl, refl, tt, tt),
    ),
  ),
)

pub rewrite_places : (s : Assemblies) (writes : Bool) (a table row : ℕ) → OfRow a table row (rewrite_tests s writes a table row)
rewrite_places s writes a table row = (refl, refl, refl, tt, tt)

-- ---- rows that name types

pub record OfType (a table row : ℕ) (r : Refusal) : Type 0 where
  pub same_assembly : r.assembly ≡ a
  pub same_table : r.table ≡ table
  pub same_row : r.row ≡ row
  pub no_offset : r.at ≡ 0
  pub early_rule : rule_number r.rule ≤ rule_number N4
  pub low_table : table < 0x2D

one_type : (a table t row : ℕ) (rule : Rule) (fails : Bool) (r : Refusal) → table ≡ t → rule_number rule ≤ rule_number N4 → t < 0x2D → (test rule a t row fails).refusal ≡ r → OfType a table row r
one_type a table t row rule fails r e early low same = record {
  same_assembly = sym (ap (λ (x : Refusal). x.assembly) same);
  same_table = sym (ap (λ (x : Refusal). x.table) same) ∙ sym e;
  same_row = sym (ap (λ (x : Refusal). x.row) same);
  no_offset = sym (ap (λ (x : Refusal). x.at) same);
  early_rule = subst (λ (x : Refusal). rule_number x.rule ≤ rule_number N4) same early;
  low_table = omega (arith, e, low);
}

module _ (s : Assemblies) (a table row : ℕ) where
  abbrev exports : List Test
  exports = test N1 a EXPORTED_TYPE row (is_none (exported s a row)) ∷ []

  abbrev assemblies : List Test
  assemblies = test N4 a ASSEMBLY row (assembly_is_taken s a) ∷ []

  abbrev attributes : List Test
  attributes = test N1 a CUSTOM_ATTRIBUTE row (names_type s a row && is_none (attribute_type s a row)) ∷ []

  abbrev types : List Test
  types = test N3 a TYPE_DEF row (any (is_entangled s) (option_to_list (number_of s (Row a row)))) ∷ test N4 a TYPE_DEF row (name_is_taken (assembly_at s a) (full_name (assembly_at s a) row) row) ∷ []

  abbrev references : List Test
  references = test N1 a TYPE_REF row (is_none (reference s a row)) ∷ []

  pub type_places : (r : Refusal) → Fails (type_tests s a table row) r → OfType a table row r
  type_places r h = go (table == TYPE_REF) (table == TYPE_DEF) (table == CUSTOM_ATTRIBUTE) (table == ASSEMBLY) (table == EXPORTED_TYPE) refl refl refl refl refl h
    where
      go : (b d e f g : Bool) → (table == TYPE_REF) ≡ b → (table == TYPE_DEF) ≡ d → (table == CUSTOM_ATTRIBUTE) ≡ e → (table == ASSEMBLY) ≡ f → (table == EXPORTED_TYPE) ≡ g
          → Fails (if b then references else if d then types else if e then attributes else if f then assemblies else if g then exports else []) r → OfType a table row r
      go true d e f g u v w x y (inl k) = one_type a table TYPE_REF row N1 (is_none (reference s a row)) r (eqb-true table TYPE_REF u) (omega arith) (omega arith) k.1
      go true d e f g u v w x y (inr k) = absurd k
      go false true e f g u v w x y (inl k) = one_type a table TYPE_DEF row N3 (any (is_entangled s) (option_to_list (number_of s (Row a row)))) r (eqb-true table TYPE_DEF v) (omega arith) (omega arith) k.1
      go false true e f g u v w x y (inr (inl k)) = one_type a table TYPE_DEF row N4 (name_is_taken (assembly_at s a) (full_name (assembly_at s a) row) row) r (eqb-true table TYPE_DEF v) (omega arith) (omega arith) k.1
      go false true e f g u v w x y (inr (inr k)) = absurd k
      go false false true f g u v w x y (inl k) =
          one_type a table CUSTOM_ATTRIBUTE row N1 (names_type s a row && is_none (attribute_type s a row)) r (eqb-true table CUSTOM_ATTRIBUTE w) (omega arith) (omega arith) k.1
      go false false true f g u v w x y (inr k) = absurd k
      go false false false true g u v w x y (inl k) = one_type a table ASSEMBLY row N4 (assembly_is_taken s a) r (eqb-true table ASSEMBLY x) (omega arith) (omega arith) k.1
      go false false false true g u v w x y (inr k) = absurd k
      go false false false false true u v w x y (inl k) = one_type a table EXPORTED_TYPE row N1 (is_none (exported s a row)) r (eqb-true table EXPORTED_TYPE y) (omega arith) (omega arith) k.1
      go false false false false true u v w x y (inr k) = absurd k
      go false false false false false u v w x y k = absurd k

  -- no row of another table
  pub other_tables : (table == TYPE_REF) ≡ false → (table == TYPE_DEF) ≡ false → (table == CUSTOM_ATTRIBUTE) ≡ false → (table == ASSEMBLY) ≡ false → (table == EXPORTED_TYPE) ≡ false → type_tests s a table row ≡ []
  other_tables u v w x y = go (table == TYPE_REF) (table == TYPE_DEF) (table == CUSTOM_ATTRIBUTE) (table == ASSEMBLY) (table == EXPORTED_TYPE) u v w x y
    where
      go : (b d e f g : Bool) → b ≡ false → d ≡ false → e ≡ false → f ≡ false → g ≡ false → (if b then references else if d then types else if e then attributes else if f then assemblies else if g then exports else []) ≡ []
      go false false false false false u v w x y = refl
      go true d e f g u v w x y = absurd cc
      go false true e f g u v w x y = absurd cc
      go false false true f g u v w x y = absurd cc
      go false false false true g u v w x y = absurd cc
      go false false false false true u v w x y = absurd cc

-- ---- N5

pub record OfRewrite (table : ℕ) (r : Refusal) : Type 0 where
  pub no_offset : r.at ≡ 0
  pub same_rule : r.rule ≡ N5
  pub low_table : table < 0x2D

some_row_low : (s : Assemblies) (table row : ℕ) → is_at row (refused_row s table) ≡ true → table < 0x2D
some_row_low s table row h = go (table == TYPE_DEF) (table == ASSEMBLY) refl refl h
  where
    go : (b d : Bool) → (table == TYPE_DEF) ≡ b → (table == ASSEMBLY) ≡ d
        → is_at row (if b then type_named (assembly_at s 0) runtime_name else if d then (if has_attribute s 0 reference_attribute on_assembly || all_there s core_names then Some 1 else None) else None) ≡ true → table < 0x2D
    go true d e f k = let is : table ≡ TYPE_DEF = eqb-true table TYPE_DEF e in omega (arith, is)
    go false true e f k = let is : table ≡ ASSEMBLY = eqb-true table ASSEMBLY f in omega (arith, is)
    go false false e f k = absurd cc

both_hold : (a b d : Bool) → (a && (b && d)) ≡ true → d ≡ true
both_hold true true d h = h
both_hold true false d h = absurd cc
both_hold false b d h = absurd cc

pub rewrite_rule : (s : Assemblies) (writes : Bool) (a table row : ℕ) (r : Refusal) → Fails (rewrite_tests s writes a table row) r → OfRewrite table r
rewrite_rule s writes a table row r (inl k) = record {
  no_offset = sym (ap (λ (x : Refusal). x.at) k.1);
  same_rule = sym (ap (λ (x : Refusal). x.rule) k.1);
  low_table = some_row_low s table row (both_hold writes (a == 0) (is_at row (refused_row s table)) k.0);
}
rewrite_rule s writes a table row r (inr k) = absurd k

-- ---- tables that hold signatures

-- what holds of each of them
by_signature : (P : ℕ → Type 0) (table : ℕ) → P FIELD → P METHOD_DEF → P MEMBER_REF → P STAND_ALONE_SIG → P PROPERTY → P TYPE_SPEC → P METHOD_SPEC → holds_signature table ≡ true → P table
by_signature P table of_field of_method of_reference of_alone of_property of_spec of_instance h =
    go (table == FIELD) (table == METHOD_DEF) (table == MEMBER_REF) (table == STAND_ALONE_SIG) (table == PROPERTY) (table == TYPE_SPEC) (table == METHOD_SPEC) refl refl refl refl refl refl refl h
  where
    is : (t : ℕ) → P t → (table == t) ≡ true → P table
    is t p e = subst P (sym (eqb-true table t e)) p

    go : (b d e f g i j : Bool) → (table == FIELD) ≡ b → (table == METHOD_DEF) ≡ d → (table == MEMBER_REF) ≡ e → (table == STAND_ALONE_SIG) ≡ f → (table == PROPERTY) ≡ g → (table == TYPE_SPEC) ≡ i → (table == METHOD_SPEC) ≡ j
        → (b || (d || (e || (f || (g || (i || (j || false))))))) ≡ true → P table
    go true d e f g i j p q r s t u v h = is FIELD of_field p
    go false true e f g i j p q r s t u v h = is METHOD_DEF of_method q
    go false false true f g i j p q r s t u v h = is MEMBER_REF of_reference r
    go false false false true g i j p q r s t u v h = is STAND_ALONE_SIG of_alone s
    go false false false false true i j p q r s t u v h = is PROPERTY of_property t
    go false false false false false true j p q r s t u v h = is TYPE_SPEC of_spec u
    go false false false false false false true p q r s t u v h = is METHOD_SPEC of_instance v
    go false false false false false false false p q r s t u v h = absurd cc

pub signature_low : (table : ℕ) → holds_signature table ≡ true → table < 0x2D
signature_low table = by_signature (λ t. t < 0x2D) table (omega arith) (omega arith) (omega arith) (omega arith) (omega arith) (omega arith) (omega arith)

-- such a row breaks no rule of another
no_types : (s : Assemblies) (a table row : ℕ) → holds_signature table ≡ true → type_tests s a table row ≡ []
no_types s a table row = by_signature (λ t. type_tests s a t row ≡ []) table refl refl refl refl refl refl refl

no_row : (s : Assemblies) (table : ℕ) → holds_signature table ≡ true → refused_row s table ≡ None
no_row s table = by_signature (λ t. refused_row s t ≡ None) table refl refl refl refl refl refl refl

differ : true ≡ false → ⊥
differ e = absurd cc

pub never_types : (s : Assemblies) (a table row : ℕ) (r : Refusal) → holds_signature table ≡ true → Fails (type_tests s a table row) r → ⊥
never_types s a table row r h f = subst (λ (ts : List Test). Fails ts r) (no_types s a table row h) f

pub never_rewrites : (s : Assemblies) (writes : Bool) (a table row : ℕ) (r : Refusal) → holds_signature table ≡ true → Fails (rewrite_tests s writes a table row) r → ⊥
never_rewrites s writes a table row r h (inl k) = differ (sym (both_hold writes (a == 0) (is_at row (refused_row s table)) k.0) ∙ ap (is_at row) (no_row s table h))
never_rewrites s writes a table row r h (inr k) = k

-- ---- and no other row those on signatures

record NoSignature (table : ℕ) : Type 0 where
  pub field : (table == FIELD) ≡ false
  pub method : (table == METHOD_DEF) ≡ false
  pub reference : (table == MEMBER_REF) ≡ false
  pub alone : (table == STAND_ALONE_SIG) ≡ false
  pub property : (table == PROPERTY) ≡ false
  pub spec : (table == TYPE_SPEC) ≡ false
  pub instance : (table == METHOD_SPEC) ≡ false

none_of : (table : ℕ) → holds_signature table ≡ false → NoSignature table
none_of table h =
    let p = or_neither (table == FIELD) ((table == METHOD_DEF) || ((table == MEMBER_REF) || ((table == STAND_ALONE_SIG) || ((table == PROPERTY) || ((table == TYPE_SPEC) || ((table == METHOD_SPEC) || false)))))) h in
    let q = or_neither (table == METHOD_DEF) ((table == MEMBER_REF) || ((table == STAND_ALONE_SIG) || ((table == PROPERTY) || ((table == TYPE_SPEC) || ((table == METHOD_SPEC) || false))))) p.1 in
    let r = or_neither (table == MEMBER_REF) ((table == STAND_ALONE_SIG) || ((table == PROPERTY) || ((table == TYPE_SPEC) || ((table == METHOD_SPEC) || false)))) q.1 in
    let t = or_neither (table == STAND_ALONE_SIG) ((table == PROPERTY) || ((table == TYPE_SPEC) || ((table == METHOD_SPEC) || false))) r.1 in
    let u = or_neither (table == PROPERTY) ((table == TYPE_SPEC) || ((table == METHOD_SPEC) || false)) t.1 in
    let v = or_neither (table == TYPE_SPEC) ((table == METHOD_SPEC) || false) u.1 in
    let w = or_neither (table == METHOD_SPEC) false v.1 in
    record { field = p.0; method = q.0; reference = r.0; alone = t.0; property = u.0; spec = v.0; instance = w.0 }

module _ (s : Assemblies) (a table row : ℕ) (f : NoSignature table) where
  no_signature : row_types (assembly_at s a) table row ≡ []
  no_signature = rw (f.field, f.method, f.reference, f.alone, f.property, f.spec, f.instance) refl

  never_missing : isnt_there s a table row ≡ false
  never_missing = rw (f.field, f.method, f.reference) refl

  never_taken : is_taken_at s a table row ≡ false
  never_taken = rw (f.field, f.method) refl

  never_unfit : (types : List SigTy) → is_unfit s a table row types ≡ false
  never_unfit types = rw (f.field, f.method, f.property, f.spec, f.instance) refl

  either_false : (b d : Bool) → b ≡ false → d ≡ false → (b || d) ≡ false
  either_false false d e g = g
  either_false true d e g = absurd cc

  never_fails : (r : Refusal) → Fails (member_tests s a table row) r → ⊥
  unfolding member_tests
  never_fails r (inl k) = differ (sym k.0 ∙ ap (isnt_read (coded_in s a)) no_signature)
  never_fails r (inr (inl k)) = differ (sym k.0 ∙ never_missing)
  never_fails r (inr (inr (inl k))) = differ (sym k.0 ∙ never_taken)
  never_fails r (inr (inr (inr (inl k)))) =
      differ
      (sym k.0
      ∙ either_false (miscounts_at s a (row_types (assembly_at s a) table row)) (is_unfit s a table row (row_types (assembly_at s a) table row)) (ap (miscounts_at s a) no_signature) (never_unfit (row_types (assembly_at s a) table row)))
  never_fails r (inr (inr (inr (inr k)))) = k

pub never_members : (s : Assemblies) (a table row : ℕ) (r : Refusal) → holds_signature table ≡ false → Fails (member_tests s a table row) r → ⊥
never_members s a table row r h f = never_fails s a table row (none_of table h) r f
