-- The tests of a row, but one and then with it.
use Rattle.std.proofs.Common.{◌≡◌, ◌∙◌, sym, ap, refl, arith, ℕ, ◌+◌, ◌<◌, Bool, true, false, List, [], ◌∷◌}
use Rattle.std.specs.Prelude.{Option, Some, None, is_some, if◌then◌else◌, ◌||◌, nat_lt, nat_le}
use Rattle.cil_base.specs.declared.rule.Rule.{Rule}
use Rattle.cil_base.specs.declared.rule.Rule.TheVariants.{N1, N2, N4, N6}
use Rattle.cil_base.specs.declared.refusal.Refusal.{Refusal}
use Rattle.cil_base.specs.Refusals.{refusal, first_of}
use Rattle.cli_sigs.specs.declared.types.SigTy.{SigTy}
use Rattle.set_rows.specs.Sets.{Assembly, Assemblies, assembly_at, count_in, is_row}
use Rattle.set_types.specs.SignatureRules.{any, miscounts_within}
use Rattle.set_program.specs.Environment.{coded_in, row_types}
use Rattle.set_program.specs.TypeRules.{test}
use Rattle.signature_rules.specs.declared.parameter_counts.ParameterCounts.{ParameterCounts}
use Rattle.signature_rules.specs.ParameterCounts.{count_of}
use Rattle.member_table.specs.MemberRules.{isnt_read, isnt_there, is_taken_at, is_unfit, miscounts_at, member_tests}
use Rattle.member_rules.specs.Parameters.{AreParameters}
use Rattle.member_tests.specs.MemberTables.{early_tests}
use Rattle.member_tests.proofs.MapLaws.{lt_true, le_true, both_true}

pub miscounts_are : (s : Assemblies) (a : ℕ) (p : ParameterCounts) (tys : List SigTy) → AreParameters s a p → any (miscounts_within (count_of p) 1000) tys ≡ miscounts_at s a tys
miscounts_are s a p tys h = ap (λ (f : ℕ → Option ℕ). any (miscounts_within f 1000) tys) (λ i coded. h coded i)

differ : true ≡ false → ⊥
differ e = absurd cc

-- by what four tests say, and a fifth beside the last
module _ (p q r t : Refusal) where
  abbrev four : Bool → Bool → Bool → Bool → Option Refusal
  four b c d e = if b then Some p else if c then Some q else if d then Some r else if e then Some t else None

  abbrev last : Bool → Option Refusal
  last b = if b then Some t else None

  some_of_four : (b c d e f : Bool) (o : Option Refusal) → o ≡ four b c d e → is_some o ≡ true → o ≡ four b c d (e || f)
  some_of_four true c d e f o h g = h
  some_of_four false true d e f o h g = h
  some_of_four false false true e f o h g = h
  some_of_four false false false true f o h g = h
  some_of_four false false false false f o h g = absurd (differ (sym g ∙ ap is_some h))

  none_of_four : (b c d e f : Bool) (o : Option Refusal) → o ≡ four b c d e → is_some o ≡ false → last f ≡ four b c d (e || f)
  none_of_four false false false false f o h g = refl
  none_of_four true c d e f o h g = absurd (differ (sym (ap is_some h) ∙ g))
  none_of_four false true d e f o h g = absurd (differ (sym (ap is_some h) ∙ g))
  none_of_four false false true e f o h g = absurd (differ (sym (ap is_some h) ∙ g))
  none_of_four false false false true f o h g = absurd (differ (sym (ap is_some h) ∙ g))

module _ (s : Assemblies) (a table row : ℕ) (types : List SigTy) (same : types ≡ row_types (assembly_at s a) table row) where
  abbrev told : Rule → Refusal
  told rule = refusal rule (record { assembly = a; table = table; row = row }) 0

  abbrev all_of : List SigTy → Option Refusal
  all_of ts =
      first_of
      (test N1 a table row (isnt_read (coded_in s a) ts)
      ∷ test N2 a table row (isnt_there s a table row)
      ∷ test N4 a table row (is_taken_at s a table row)
      ∷ test N6 a table row (miscounts_at s a ts || is_unfit s a table row ts)
      ∷ [])

  all_are : all_of types ≡ first_of (member_tests s a table row)
  unfolding member_tests
  all_are = ap all_of same

  -- where one of those before it fails
  pub stops_early : (o : Option Refusal) → o ≡ first_of (early_tests s a table row types) → is_some o ≡ true → o ≡ first_of (member_tests s a table row)
  unfolding early_tests
  stops_early o h g =
      some_of_four (told N1) (told N2) (told N4) (told N6)
      (isnt_read (coded_in s a) types) (isnt_there s a table row) (is_taken_at s a table row) (miscounts_at s a types) (is_unfit s a table row types) o h g
      ∙ all_are

  -- where none does
  pub ends_late : (o f : Option Refusal) (unfit : Bool) → o ≡ first_of (early_tests s a table row types) → is_some o ≡ false → unfit ≡ is_unfit s a table row types → f ≡ first_of (test N6 a table row unfit ∷ [])
      → f ≡ first_of (member_tests s a table row)
  unfolding early_tests
  ends_late o f unfit h g u e =
      e
      ∙ ap (λ (b : Bool). first_of (test N6 a table row b ∷ [])) u
      ∙ none_of_four (told N1) (told N2) (told N4) (told N6)
      (isnt_read (coded_in s a) types) (isnt_there s a table row) (is_taken_at s a table row) (miscounts_at s a types) (is_unfit s a table row types) o h g
      ∙ all_are

-- ---- by what was computed

pub told_early : (s : Assemblies) (a table row : ℕ) (types : List SigTy) (b c d e : Bool) → b ≡ isnt_read (coded_in s a) types → c ≡ isnt_there s a table row → d ≡ is_taken_at s a table row → e ≡ miscounts_at s a types
    → first_of (test N1 a table row b ∷ test N2 a table row c ∷ test N4 a table row d ∷ test N6 a table row e ∷ []) ≡ first_of (early_tests s a table row types)
unfolding early_tests
told_early s a table row types b c d e f g h i =
    ap (λ (x : Bool). first_of (test N1 a table row x ∷ test N2 a table row c ∷ test N4 a table row d ∷ test N6 a table row e ∷ [])) f
    ∙ ap (λ (x : Bool). first_of (test N1 a table row (isnt_read (coded_in s a) types) ∷ test N2 a table row x ∷ test N4 a table row d ∷ test N6 a table row e ∷ [])) g
    ∙ ap (λ (x : Bool). first_of (test N1 a table row (isnt_read (coded_in s a) types) ∷ test N2 a table row (isnt_there s a table row) ∷ test N4 a table row x ∷ test N6 a table row e ∷ [])) h
    ∙ ap (λ (x : Bool). first_of (test N1 a table row (isnt_read (coded_in s a) types) ∷ test N2 a table row (isnt_there s a table row) ∷ test N4 a table row (is_taken_at s a table row) ∷ test N6 a table row x ∷ [])) i

-- ---- rows by number

pub is_row_there : (x : Assembly) (table k : ℕ) → k < count_in x table → is_row x table (k + 1) ≡ true
is_row_there x table k h = both_true (nat_lt 0 (k + 1)) (nat_le (k + 1) (count_in x table)) (lt_true 0 (k + 1) (omega arith)) (le_true (k + 1) (count_in x table) (omega (arith, h)))
