-- Tests that fail among those of many rows, and the first refusal of two kinds.
use Rattle.std.proofs.Common.{◌≡◌, ◌∙◌, ◌⊎◌, inl, inr, sym, ap, subst, refl, arith, rules, ℕ, zero, suc, ◌+◌, ◌≤◌, ◌<◌, Bool, true, false, List, [], ◌∷◌, ◌++◌, ltb}
use Rattle.std.specs.Prelude.{Option, Some, None, nat_lt, flat_map, if◌then◌else◌}
use Rattle.std.specs.List.{range_with_len}
use Rattle.std.proofs.lemmas.Bool.{ltb-true, ltb-false}
use Rattle.cil_base.specs.declared.refusal.Refusal.{Refusal}
use Rattle.cil_base.specs.Rules.{rule_number}
use Rattle.cil_base.specs.Refusals.{Test, Fails, First, NoneBroken, key, is_less, first_of}
use Rattle.cil_base.proofs.RefusalLaws.{Rises, not_less, less_trans, first_is_first}
use Rattle.set_blobs.specs.BadBlobs.{TellsFirst}
use Rattle.set_rules.proofs.TableLaws.{OfRow, rows_rise}
use Rattle.name_rules.specs.NameTests.{by_row}

-- ---- lists of tests

pub fails_parts : (xs ys : List Test) (r : Refusal) → Fails (xs ++ ys) r → Fails xs r ⊎ Fails ys r
fails_parts [] ys r h = inr h
fails_parts (t ∷ ts) ys r (inl h) = inl (inl h)
fails_parts (t ∷ ts) ys r (inr h) = go (fails_parts ts ys r h)
  where
    go : Fails ts r ⊎ Fails ys r → Fails (t ∷ ts) r ⊎ Fails ys r
    go (inl k) = inl (inr k)
    go (inr k) = inr k

pub fails_first : (xs ys : List Test) (r : Refusal) → Fails xs r → Fails (xs ++ ys) r
fails_first [] ys r h = absurd h
fails_first (t ∷ ts) ys r (inl h) = inl h
fails_first (t ∷ ts) ys r (inr h) = inr (fails_first ts ys r h)

pub fails_second : (xs ys : List Test) (r : Refusal) → Fails ys r → Fails (xs ++ ys) r
fails_second [] ys r h = h
fails_second (t ∷ ts) ys r h = inr (fails_second ts ys r h)

-- a row of which a test fails
pub record FailsIn (T : ℕ → List Test) (from count : ℕ) (r : Refusal) : Type 0 where
  pub row : ℕ
  pub low : from ≤ row
  pub high : row < from + count
  pub fails : Fails (T row) r

pub some_row : (T : ℕ → List Test) (k n : ℕ) (r : Refusal) → Fails (flat_map T (range_with_len k n)) r → FailsIn T k n r
some_row T k zero r h = absurd h
some_row T k (suc n) r h = go (some_row T (k + 1) n r) (fails_parts (T k) (flat_map T (range_with_len (k + 1) n)) r h)
  where
    later : FailsIn T (k + 1) n r → FailsIn T k (suc n) r
    later f = record { row = f.row; low = omega (arith, f.low); high = omega (arith, f.high); fails = f.fails }

    go : (Fails (flat_map T (range_with_len (k + 1) n)) r → FailsIn T (k + 1) n r) → Fails (T k) r ⊎ Fails (flat_map T (range_with_len (k + 1) n)) r → FailsIn T k (suc n) r
    go more (inl f) = record { row = k; low = omega arith; high = omega arith; fails = f }
    go more (inr f) = later (more f)

pub in_rows : (T : ℕ → List Test) (k n row : ℕ) (r : Refusal) → k ≤ row → row < k + n → Fails (T row) r → Fails (flat_map T (range_with_len k n)) r
in_rows T k zero row r low high h = absurd (omega (arith, low, high))
in_rows T k (suc n) row r low high h = go (λ p. in_rows T (k + 1) n row r p (omega (arith, high)) h) (ltb k row) refl
  where
    go : (k + 1 ≤ row → Fails (flat_map T (range_with_len (k + 1) n)) r) → (b : Bool) → ltb k row ≡ b → Fails (flat_map T (range_with_len k (suc n))) r
    go later true e = let more : k < row = ltb-true k row e in fails_second (T k) (flat_map T (range_with_len (k + 1) n)) r (later (omega (arith, more)))
    go later false e =
        let less : row ≤ k = ltb-false k row e in
        let same : row ≡ k = omega (arith, less, low) in
        fails_first (T k) (flat_map T (range_with_len (k + 1) n)) r (subst (λ (j : ℕ). Fails (T j) r) same h)

-- ---- the places of tests

pub record IsAt (a table row : ℕ) (r : Refusal) : Type 0 where
  pub same_assembly : r.assembly ≡ a
  pub same_table : r.table ≡ table
  pub same_row : r.row ≡ row

pub of_test : (a table row : ℕ) (ts : List Test) (r : Refusal) → OfRow a table row ts → Fails ts r → IsAt a table row r
of_test a table row [] r h f = absurd f
of_test a table row (t ∷ ts) r (p, q, o, i, h) (inl f) = record {
  same_assembly = sym (ap (λ (x : Refusal). x.assembly) f.1) ∙ p;
  same_table = sym (ap (λ (x : Refusal). x.table) f.1) ∙ q;
  same_row = sym (ap (λ (x : Refusal). x.row) f.1) ∙ o;
}
of_test a table row (t ∷ ts) r (p, q, o, i, h) (inr f) = of_test a table row ts r h f

-- what the tests of all rows answer is their first refusal
pub rows_first : (a table : ℕ) (T : ℕ → List Test) → ((row : ℕ) → OfRow a table row (T row)) → (n : ℕ) → TellsFirst (Fails (flat_map T (range_with_len 1 n))) (first_of (flat_map T (range_with_len 1 n)))
rows_first a table T h n = first_is_first [] (flat_map T (range_with_len 1 n)) (rows_rise a table T h [] 1 n (λ r p q o. refl))

-- ---- the first of what is broken

pub first_same : (P Q : Refusal → Type 0) (o : Option Refusal) → ((r : Refusal) → P r → Q r) → ((r : Refusal) → Q r → P r) → TellsFirst P o → TellsFirst Q o
first_same P Q None to from h = λ r q. h r (from r q)
first_same P Q (Some r) to from h = record { broken = to r h.broken; none_before = λ q k. h.none_before q (from q k) }

-- ---- of two kinds in one table

no : {A : Type 0} → ⊥ → A
no h = absurd h

later_row : (q r : Refusal) → q.assembly ≡ r.assembly → q.table ≡ r.table → r.row < q.row → is_less (key q) (key r) ≡ false
later_row q r e f h =
    not_less q.assembly r.assembly (q.table ∷ q.row ∷ q.at ∷ rule_number q.rule ∷ []) (r.table ∷ r.row ∷ r.at ∷ rule_number r.rule ∷ []) (omega (arith, e)) (λ _.
    not_less q.table r.table (q.row ∷ q.at ∷ rule_number q.rule ∷ []) (r.row ∷ r.at ∷ rule_number r.rule ∷ []) (omega (arith, f)) (λ _.
    not_less q.row r.row (q.at ∷ rule_number q.rule ∷ []) (r.at ∷ rule_number r.rule ∷ []) (omega (arith, h)) (λ same. no (omega (arith, same, h)))))

pub later_rule : (q r : Refusal) → q.assembly ≡ r.assembly → q.table ≡ r.table → q.row ≡ r.row → q.at ≡ r.at → rule_number r.rule ≤ rule_number q.rule → is_less (key q) (key r) ≡ false
later_rule q r e f g i h =
    not_less q.assembly r.assembly (q.table ∷ q.row ∷ q.at ∷ rule_number q.rule ∷ []) (r.table ∷ r.row ∷ r.at ∷ rule_number r.rule ∷ []) (omega (arith, e)) (λ _.
    not_less q.table r.table (q.row ∷ q.at ∷ rule_number q.rule ∷ []) (r.row ∷ r.at ∷ rule_number r.rule ∷ []) (omega (arith, f)) (λ _.
    not_less q.row r.row (q.at ∷ rule_number q.rule ∷ []) (r.at ∷ rule_number r.rule ∷ []) (omega (arith, g)) (λ _.
    not_less q.at r.at (rule_number q.rule ∷ []) (rule_number r.rule ∷ []) (omega (arith, i)) (λ _.
    not_less (rule_number q.rule) (rule_number r.rule) [] [] h (λ _. refl)))))

module _ (P Q : Refusal → Type 0) (a table : ℕ) (of_first : (r : Refusal) → P r → (r.assembly ≡ a) × (r.table ≡ table)) (of_second : (r : Refusal) → Q r → (r.assembly ≡ a) × (r.table ≡ table))
    (in_one_row : (q r : Refusal) → Q q → P r → q.row ≡ r.row → is_less (key q) (key r) ≡ false) where
  pub by_row_tells : (o p : Option Refusal) → TellsFirst P o → TellsFirst Q p → TellsFirst (λ r. P r ⊎ Q r) (by_row o p)
  by_row_tells None None h k = λ r. elim [ inl f ↦ h r f | inr f ↦ k r f ]
  by_row_tells None (Some q) h k = record { broken = inr k.broken; none_before = λ r. elim [ inl f ↦ no (h r f) | inr f ↦ k.none_before r f ] }
  by_row_tells (Some p) None h k = record { broken = inl h.broken; none_before = λ r. elim [ inl f ↦ h.none_before r f | inr f ↦ no (k r f) ] }
  by_row_tells (Some p) (Some q) h k = go (nat_lt q.row p.row) refl
    where
      same_assembly : q.assembly ≡ p.assembly
      same_assembly = (of_second q k.broken).0 ∙ sym (of_first p h.broken).0

      same_table : q.table ≡ p.table
      same_table = (of_second q k.broken).1 ∙ sym (of_first p h.broken).1

      not_before : nat_lt q.row p.row ≡ false → is_less (key q) (key p) ≡ false
      not_before e = tie (ltb p.row q.row) refl
        where
          le : p.row ≤ q.row
          le = ltb-false q.row p.row e

          tie : (b : Bool) → ltb p.row q.row ≡ b → is_less (key q) (key p) ≡ false
          tie true f = later_row q p same_assembly same_table (ltb-true p.row q.row f)
          tie false f = let ge : q.row ≤ p.row = ltb-false p.row q.row f in in_one_row q p k.broken h.broken (omega (arith, le, ge))

      go : (b : Bool) → nat_lt q.row p.row ≡ b → TellsFirst (λ r. P r ⊎ Q r) (if b then Some q else Some p)
      go true e =
          let before : is_less (key p) (key q) ≡ false = later_row p q (sym same_assembly) (sym same_table) (ltb-true q.row p.row e) in
          record { broken = inr k.broken; none_before = λ r. elim [ inl f ↦ less_trans (key r) (key p) (key q) (h.none_before r f) before | inr f ↦ k.none_before r f ] }
      go false e =
          record { broken = inl h.broken; none_before = λ r. elim [ inl f ↦ h.none_before r f | inr f ↦ less_trans (key r) (key q) (key p) (k.none_before r f) (not_before e) ] }
