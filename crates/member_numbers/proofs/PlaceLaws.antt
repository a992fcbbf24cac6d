-- Where a row stands among the rows of a table of a set.
use Rattle.std.proofs.Common.{◌≡◌, ◌∙◌, sym, ap, refl, subst, arith, rules, append_assoc, ℕ, zero, suc, ◌+◌, ◌-◌, ◌≤◌, ◌<◌, List, ◌++◌, length, length-append, Bool, true, false}
use Rattle.std.specs.Prelude.{cond, map, flat_map, ◌==◌, ◌&&◌, Some}
use Rattle.std.specs.List.{range_with_len, position_from}
use Rattle.std.proofs.lemmas.List.{map-append}
use Rattle.set_rows.specs.Sets.{Assemblies, assembly_at, count_in}
use Rattle.set_program.specs.Numbering.{Cell, rows_between}
use Rattle.set_program.proofs.PlaceLaws.{AllFail, skipped, fail_append, differs, itself}
use Rattle.member_table.specs.declared.named.MemberId.{MemberId}
use Rattle.member_table.specs.declared.named.MemberId.TheVariants as id
use Rattle.member_table.specs.Numbers.{of_row, same_id}

-- the rows of an assembly from one on, so many
abbrev pub run : ℕ → ℕ → ℕ → List MemberId
run a from n = map of_row (map (λ row. (a, row)) (range_with_len from n))

-- rows of another assembly
pub missed : (a r b from n : ℕ) → (a ≡ b → ⊥) → AllFail (same_id (id.Row a r)) (run b from n)
missed a r b from zero h = tt
missed a r b from (suc n) h = (ap (λ (c : Bool). c && (r == from)) (differs a b h), missed a r b (from + 1) n h)

pub hit : (a r from n i : ℕ) (rest : List MemberId) → from ≤ r → r < from + n → position_from (same_id (id.Row a r)) i (run a from n ++ rest) ≡ Some (i + (r - from))
hit a r from zero i rest low high = absurd (omega (arith, low, high))
hit a r from (suc n) i rest low high = go (r == from) refl (λ later. hit a r (from + 1) n (i + 1) rest later (omega (arith, high)))
  where
    test_is : same_id (id.Row a r) (id.Row a from) ≡ (r == from)
    test_is = ap (λ (c : Bool). c && (r == from)) (itself a)

    go : (b : Bool) → (r == from) ≡ b
        → (from + 1 ≤ r → position_from (same_id (id.Row a r)) (i + 1) (run a (from + 1) n ++ rest) ≡ Some ((i + 1) + (r - (from + 1))))
        → position_from (same_id (id.Row a r)) i (run a from (suc n) ++ rest) ≡ Some (i + (r - from))
    go true e again =
        let is : r ≡ from = search (rules, e) in
        let place : i ≡ i + (r - from) = omega (arith, is) in
        ap (λ (c : Bool). cond c (Some i) (position_from (same_id (id.Row a r)) (i + 1) (run a (from + 1) n ++ rest))) (test_is ∙ e) ∙ ap (λ (j : ℕ). Some j) place
    go false e again =
        let isnt : r ≡ from → ⊥ = λ f. apart r from e f in
        let later : from + 1 ≤ r = omega (arith, low, isnt) in
        let place : (i + 1) + (r - (from + 1)) ≡ i + (r - from) = omega (arith, later) in
        ap (λ (c : Bool). cond c (Some i) (position_from (same_id (id.Row a r)) (i + 1) (run a (from + 1) n ++ rest))) (test_is ∙ e) ∙ again later ∙ ap (λ (j : ℕ). Some j) place
      where
        apart : (p q : ℕ) → (p == q) ≡ false → p ≡ q → ⊥
        apart p q e f = search (rules, e, f)

not_same : (p q : ℕ) → (p == q) ≡ false → p ≡ q → ⊥
not_same p q e f = search (rules, e, f)

module _ (s : Assemblies) (table : ℕ) where
  abbrev pub rows_of_assembly : ℕ → List Cell
  rows_of_assembly b = rows_between b 1 (count_in (assembly_at s b) table + 1)

  -- those of the assemblies from one on, so many
  abbrev pub runs : ℕ → ℕ → List MemberId
  runs from n = map of_row (flat_map rows_of_assembly (range_with_len from n))

  pub all_missed : (a r from n : ℕ) → ((b : ℕ) → from ≤ b → b < from + n → a ≡ b → ⊥) → AllFail (same_id (id.Row a r)) (runs from n)
  all_missed a r from zero h = tt
  all_missed a r from (suc n) h =
      subst (AllFail (same_id (id.Row a r))) (sym (map-append of_row (rows_of_assembly from) (flat_map rows_of_assembly (range_with_len (from + 1) n))))
      (fail_append (same_id (id.Row a r)) (map of_row (rows_of_assembly from)) (runs (from + 1) n)
      (missed a r from 1 (count_in (assembly_at s from) table + 1 - 1) (h from (omega arith) (omega arith)))
      (all_missed a r (from + 1) n (λ b low high. h b (omega (arith, low)) (omega (arith, high)))))

  -- A row of an assembly among those of the assemblies from one on: behind those of the assemblies before it.
  pub placed : (a r from n i : ℕ) (rest : List MemberId) → from ≤ a → a < from + n → 1 ≤ r → r ≤ count_in (assembly_at s a) table
      → position_from (same_id (id.Row a r)) i (runs from n ++ rest) ≡ Some (i + length (runs from (a - from)) + (r - 1))
  placed a r from zero i rest low high rlow rhigh = absurd (omega (arith, low, high))
  placed a r from (suc n) i rest low high rlow rhigh = front ∙ go (a == from) refl (λ later. placed a r (from + 1) n (i + length first) rest later (omega (arith, high)) rlow rhigh)
    where
      first : List MemberId
      first = map of_row (rows_of_assembly from)

      others : List MemberId
      others = runs (from + 1) n ++ rest

      front : position_from (same_id (id.Row a r)) i (runs from (suc n) ++ rest) ≡ position_from (same_id (id.Row a r)) i (first ++ others)
      front =
          ap (λ (l : List MemberId). position_from (same_id (id.Row a r)) i (l ++ rest)) (map-append of_row (rows_of_assembly from) (flat_map rows_of_assembly (range_with_len (from + 1) n)))
          ∙ ap (position_from (same_id (id.Row a r)) i) (append_assoc first (runs (from + 1) n) rest)

      none_before : (k : ℕ) → k ≡ 0 → length (runs from k) ≡ 0
      none_before k e = ap (λ (j : ℕ). length (runs from j)) e

      one_before : (k : ℕ) → length (runs from (suc k)) ≡ length first + length (runs (from + 1) k)
      one_before k =
          ap length (map-append of_row (rows_of_assembly from) (flat_map rows_of_assembly (range_with_len (from + 1) k)))
          ∙ length-append first (runs (from + 1) k)

      go : (b : Bool) → (a == from) ≡ b
          → (from + 1 ≤ a → position_from (same_id (id.Row a r)) (i + length first) others ≡ Some ((i + length first) + length (runs (from + 1) (a - (from + 1))) + (r - 1)))
          → position_from (same_id (id.Row a r)) i (first ++ others) ≡ Some (i + length (runs from (a - from)) + (r - 1))
      go true e again =
          let is : a ≡ from = search (rules, e) in
          let zero_left : a - from ≡ 0 = omega (arith, is) in
          let place : i + (r - 1) ≡ i + length (runs from (a - from)) + (r - 1) = omega (arith, none_before (a - from) zero_left) in
          let count : r < 1 + (count_in (assembly_at s from) table + 1 - 1) = omega (arith, ap (λ (b : ℕ). count_in (assembly_at s b) table) is, rhigh) in
          ap (λ (b : ℕ). position_from (same_id (id.Row b r)) i (first ++ others)) is
          ∙ hit from r 1 (count_in (assembly_at s from) table + 1 - 1) i others rlow count
          ∙ ap (λ (j : ℕ). Some j) place
      go false e again =
          let isnt : a ≡ from → ⊥ = λ f. not_same a from e f in
          let later : from + 1 ≤ a = omega (arith, low, isnt) in
          let steps : a - from ≡ suc (a - (from + 1)) = omega (arith, later) in
          let before : length (runs from (a - from)) ≡ length first + length (runs (from + 1) (a - (from + 1))) = ap (λ (j : ℕ). length (runs from j)) steps ∙ one_before (a - (from + 1)) in
          let place : (i + length first) + length (runs (from + 1) (a - (from + 1))) + (r - 1) ≡ i + length (runs from (a - from)) + (r - 1) = omega (arith, before) in
          skipped (same_id (id.Row a r)) i first others (missed a r from 1 (count_in (assembly_at s from) table + 1 - 1) isnt)
          ∙ again later ∙ ap (λ (j : ℕ). Some j) place
