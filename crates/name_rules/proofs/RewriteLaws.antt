-- N5 at the one row of a table that is said.
use Rattle.std.proofs.Common.{◌≡◌, ◌∙◌, sym, ap, subst, refl, arith, rules, ℕ, zero, suc, ◌+◌, ◌≤◌, ◌<◌, Bool, true, false}
use Rattle.std.specs.Prelude.{◌==◌, ◌&&◌, Option, Some, None, flat_map}
use Rattle.std.specs.List.{range_with_len}
use Rattle.std.proofs.lemmas.Bool.{eqb-true}
use Rattle.cil_base.specs.declared.rule.Rule.TheVariants.{N5}
use Rattle.cil_base.specs.declared.refusal.Refusal.{Refusal}
use Rattle.cil_base.specs.Refusals.{first_of, refusal}
use Rattle.set_rows.specs.Sets.{Assemblies, assembly_at, count_in}
use Rattle.set_rules.specs.RowTests.{row_test}
use Rattle.set_rules.proofs.RowTestLaws.{goes_on, none_fails, stops_at}
use Rattle.name_rules.specs.NameTests.{is_at, refused_row, rewrite_table_tests}

abbrev here : ℕ → ℕ → Refusal
here table row = refusal N5 (record { assembly = 0; table = table; row = row }) 0

eq_refl : (m : ℕ) → (m == m) ≡ true
eq_refl m = search rules

differ : true ≡ false → ⊥
differ e = absurd cc

isnt : (k row : ℕ) → (k == row) ≡ false → k ≡ row → ⊥
isnt k row f g = differ (sym (ap (λ (m : ℕ). k == m) (sym g) ∙ eq_refl k) ∙ f)

abbrev found : ℕ → ℕ → ℕ → ℕ → Option Refusal
found table row k n = first_of (flat_map (row_test N5 0 table (λ j. is_at j (Some row))) (range_with_len k n))

pub marked_at : (table row k n : ℕ) → k ≤ row → row < k + n → Some (here table row) ≡ found table row k n
marked_at table row k zero low high = absurd (omega (arith, low, high))
marked_at table row k (suc n) low high = go (λ p. marked_at table row (k + 1) n p (omega (arith, high))) (k == row) refl
  where
    go : (k + 1 ≤ row → Some (here table row) ≡ found table row (k + 1) n) → (b : Bool) → (k == row) ≡ b → Some (here table row) ≡ found table row k (suc n)
    go later true e = ap (λ (j : ℕ). Some (here table j)) (sym (eqb-true k row e)) ∙ stops_at N5 0 table (λ j. is_at j (Some row)) (found table row k (suc n)) k n e refl
    go later false e = let other = isnt k row e in later (omega (arith, low, other)) ∙ goes_on N5 0 table (λ j. is_at j (Some row)) (found table row k (suc n)) k n e refl

pub marked_out : (table row k n : ℕ) → (k ≤ row → row < k + n → ⊥) → None ≡ found table row k n
marked_out table row k zero out = refl
marked_out table row k (suc n) out = go (marked_out table row (k + 1) n (λ p q. out (omega (arith, p)) (omega (arith, q)))) (k == row) refl
  where
    go : None ≡ found table row (k + 1) n → (b : Bool) → (k == row) ≡ b → None ≡ found table row k (suc n)
    go later true e = let same : k ≡ row = eqb-true k row e in absurd (out (omega (arith, same)) (omega (arith, same)))
    go later false e = later ∙ goes_on N5 0 table (λ j. is_at j (Some row)) (found table row k (suc n)) k n e refl

pub marked_none : (table k n : ℕ) → None ≡ first_of (flat_map (row_test N5 0 table (λ j. is_at j None)) (range_with_len k n))
marked_none table k n = sym (none_fails N5 0 table (λ j. is_at j None) k n (λ j. refl))

pub not_written : (s : Assemblies) (writes : Bool) (a table : ℕ) → (writes && (a == 0)) ≡ false → None ≡ first_of (rewrite_table_tests s writes a table)
not_written s writes a table h = sym (none_fails N5 a table (λ row. writes && ((a == 0) && is_at row (refused_row s table))) 1 (count_in (assembly_at s a) table) (λ j. go writes (a == 0) h (is_at j (refused_row s table))))
  where
    go : (b d : Bool) → (b && d) ≡ false → (e : Bool) → (b && (d && e)) ≡ false
    go true true h e = absurd cc
    go true false h e = refl
    go false d h e = refl

pub written : (s : Assemblies) (writes : Bool) (a table count : ℕ) (marked : Option ℕ) (o : Option Refusal) → (writes && (a == 0)) ≡ true → marked ≡ refused_row s table → count ≡ count_in (assembly_at s 0) table
    → o ≡ first_of (flat_map (row_test N5 0 table (λ j. is_at j marked)) (range_with_len 1 count)) → o ≡ first_of (rewrite_table_tests s writes a table)
written s writes a table count marked o h m n e =
    let here : o ≡ first_of (rewrite_table_tests s true 0 table) =
    e ∙ ap (λ (r : Option ℕ). first_of (flat_map (row_test N5 0 table (λ j. is_at j r)) (range_with_len 1 count))) m
    ∙ ap (λ (k : ℕ). first_of (flat_map (row_test N5 0 table (λ j. is_at j (refused_row s table))) (range_with_len 1 k))) n in
    let of_target : a ≡ 0 = eqb-true a 0 (second writes (a == 0) h) in
    subst (λ (w : Bool). o ≡ first_of (rewrite_table_tests s w a table)) (sym (first writes (a == 0) h)) (subst (λ (b : ℕ). o ≡ first_of (rewrite_table_tests s true b table)) (sym of_target) here)
  where
    first : (b d : Bool) → (b && d) ≡ true → b ≡ true
    first true d k = refl
    first false d k = absurd (differ (sym k))

    second : (b d : Bool) → (b && d) ≡ true → d ≡ true
    second true d k = k
    second false d k = absurd (differ (sym k))
