-- The place of an offset among offsets that rise.
use Rattle.std.proofs.Common.{◌≡◌, ◌≢◌, ℕ, zero, suc, ◌-◌, ◌<◌, ◌≤◌, Bool, true, false, cond, nat_lt, List, [], ◌∷◌, ◌++◌, length, get_or, Option, Some, None, Result, Ok, Err, refl, sym, ap, ◌∙◌, arith, length-append, ⊎_elim}
use Rattle.std.specs.Prelude.{MatchResult, ◌==◌}
use Rattle.std.specs.List.{position_or_len}
use Rattle.std.specs.List.Sorted.{IsBinarySearchResult}
use Rattle.std.specs.Ordering.{nat_cmp}
use Rattle.std.proofs.Math.ListN.{get_or-append}
use Rattle.std.proofs.Math.Seq.{get_or-append_seam}
use Rattle.std.proofs.lemmas.Bool.{cases_lt, lt-ltb, le-ltb, ltb-false}
use Rattle.std.proofs.lemmas.Grind.{common_steps}
use Rattle.std.proofs.lemmas.List.Sorted.{searched}
use Rattle.std.proofs.lemmas.List.Sums.{position_or_len_is, fails_before_first}
use Rattle.cil_model.specs.BodyOf.{index_of}
use Rattle.il_code.specs.Answers.{Rise}

differ : (m n : ℕ) → m ≢ n → (m == n) ≡ false
differ m n h = grind (arith, common_steps)

same : (m n : ℕ) → m ≡ n → (m == n) ≡ true
same m n h = grind (arith, common_steps)

pub found : (os : List ℕ) (at k : ℕ) → k < length os → get_or os k 0 ≡ at → ((j : ℕ) → j < k → get_or os j 0 ≢ at) → index_of os at ≡ Some k
found os at k h is others =
    let e = position_or_len_is (λ (o : ℕ). o == at) os k 0 (omega arith) (λ j below. differ (get_or os j 0) at (others j below)) (λ below. same (get_or os k 0) at is) in
    rw (e, lt-ltb k (length os) h) refl

pub missing : (os : List ℕ) (at : ℕ) → ((j : ℕ) → j < length os → get_or os j 0 ≢ at) → index_of os at ≡ None
missing os at others =
    let e = position_or_len_is (λ (o : ℕ). o == at) os (length os) 0 (omega arith) (λ j below. differ (get_or os j 0) at (others j below)) (λ below. absurd (omega arith)) in
    rw (e, le-ltb (length os) (length os) (omega arith)) refl

rises : (os : List ℕ) → Rise os → (i j : ℕ) → i ≤ j → j < length os → get_or os i 0 ≤ get_or os j 0
rises os rise i j le h = go (j - i) refl
  where
    go : (d : ℕ) → j - i ≡ d → get_or os i 0 ≤ get_or os j 0
    go zero e = let s : i ≡ j = omega arith in let p : get_or os i 0 ≡ get_or os j 0 = ap (λ (k : ℕ). get_or os k 0) s in omega arith
    go (suc d) e = let lt = rise i j (omega arith) h in omega arith

abbrev pub outcome : Result ℕ ℕ → Option ℕ
outcome (Ok k) = Some k
outcome (Err k) = None

pub searched_place : (os : List ℕ) (at : ℕ) (r : Result ℕ ℕ) → Rise os → IsBinarySearchResult (λ y. nat_cmp y at) os r → index_of os at ≡ outcome r
searched_place os at r rise h = go r (searched os at r h (rises os rise))
  where
    go : (r : Result ℕ ℕ) → MatchResult r (λ i. (i < length os) × (get_or os i 0 ≡ at)) (λ i. (i ≤ length os) × ((k : ℕ) → k < i → get_or os k 0 < at) × ((k : ℕ) → i ≤ k → k < length os → at < get_or os k 0)) → index_of os at ≡ outcome r
    go (Ok k) m = found os at k m.0 m.1 (λ j below e. let lt = rise j k below m.0 in let is = m.1 in absurd (omega arith))
    go (Err k) m = missing os at (λ j below e.
        ⊎_elim (λ lt. let p = m.1 j lt in absurd (omega arith)) (λ ge. let p = m.2 j ge below in absurd (omega arith)) (cases_lt j k))

abbrev first : List ℕ → ℕ → ℕ
first os at = position_or_len (λ (o : ℕ). o == at) os

pub none_there : (os : List ℕ) (at : ℕ) → index_of os at ≡ None → (j : ℕ) → j < length os → get_or os j 0 ≢ at
none_there os at none j below is = go (nat_lt (first os at) (length os)) refl none
  where
    go : (b : Bool) → nat_lt (first os at) (length os) ≡ b → let o : Option ℕ = cond b (Some (first os at)) None in o ≡ None → ⊥
    go true t h = absurd cc
    go false f h =
        let past = ltb-false (first os at) (length os) f in
        let n : (get_or os j 0 == at) ≡ false = fails_before_first (λ (o : ℕ). o == at) os j 0 (omega arith) in
        let y : (get_or os j 0 == at) ≡ true = same (get_or os j 0) at is in absurd cc

pub end_there : (os : List ℕ) (size at : ℕ) → index_of os at ≡ None → size ≡ at → index_of (os ++ size ∷ []) at ≡ Some (length os)
end_there os size at none e =
    found (os ++ size ∷ []) at (length os) (omega (arith, length-append os (size ∷ []))) (get_or-append_seam os size [] 0 ∙ e)
    (λ j below is. none_there os at none j below (sym (get_or-append os (size ∷ []) 0 j below) ∙ is))
