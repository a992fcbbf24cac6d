-- Where a reader stops is the end of the longest front with which something in its grammar begins.
use Rattle.std.proofs.Common.{◌≡◌, ℕ, zero, suc, ◌-◌, ◌<◌, ◌≤◌, List, [], ◌∷◌, ◌++◌, length, take, Ok, Err, refl, sym, ap, subst, ◌∙◌, append-nil, append_assoc, arith}
use Rattle.std.proofs.lemmas.List.{take_at, take_all, length-append}
use Rattle.cli_sigs.specs.Read.{Reader}
use Rattle.cli_sigs.specs.Grammar.{Begins, IsLongest}
use Rattle.cli_sigs.proofs.Readers.{IsReader, ok_is}

-- a front that goes on past this byte
past : (front : List ℕ) (c : ℕ) (cs : List ℕ) (n : ℕ) → length front < n → (x : List ℕ) × (take n (front ++ c ∷ cs) ≡ front ++ c ∷ x)
past [] c cs zero h = absurd (omega arith)
past [] c cs (suc n) h = (take n cs, refl)
past (b ∷ front) c cs zero h = absurd (omega arith)
past (b ∷ front) c cs (suc n) h = let p = past front c cs n (omega arith) in (p.0, ap (λ (l : List ℕ). b ∷ l) p.1)

module _ {A : Type 0} (G : List ℕ → A → Type 0) (r : Reader A) (h : IsReader G r) where
  pub whole_again : (bs : List ℕ) (v : A) → G bs v → r bs ≡ Ok (v, [])
  whole_again bs v g = ap r (sym (append-nil bs)) ∙ h.again bs [] v g

  pub rest_le : (bs rest : List ℕ) (v : A) → r bs ≡ Ok (v, rest) → length rest ≤ length bs
  rest_le bs rest v e = let f = h.found bs rest v e in omega (arith, length-append f.0 rest, ap length f.1)

  pub stop_le : (bs : List ℕ) (n : ℕ) → r bs ≡ Err n → n ≤ length bs
  stop_le bs zero e = omega arith
  stop_le bs (suc m) e = let b = h.bad bs m e in omega (arith, length-append b.0 (b.1 ∷ b.2), ap length b.3, b.4)

  -- what stops has no value
  pub none_at_stop : (bs : List ℕ) (n : ℕ) (v : A) → r bs ≡ Err n → G bs v → ⊥
  none_at_stop bs n v e g = let x = whole_again bs v g in cc

  pub none_before_rest : (bs rest : List ℕ) (c : ℕ) (u v : A) → r bs ≡ Ok (u, c ∷ rest) → G bs v → ⊥
  none_before_rest bs rest c u v e g = let x = whole_again bs v g in let y = ok_is u v (c ∷ rest) [] (sym e ∙ x) in let z = y.1 in cc

  -- where each longer front goes wrong, this front is the longest
  longest : (bs front cs : List ℕ) (c : ℕ) → bs ≡ front ++ c ∷ cs → Begins G front → ((x : List ℕ) (v : A) → G (front ++ c ∷ x) v → ⊥) → IsLongest G bs (length front)
  longest bs front cs c e begins wrong = record {
    within = omega (arith, length-append front (c ∷ cs), ap length e);
    begins = subst (λ (l : List ℕ). Begins G l) (sym (ap (take (length front)) e ∙ take_at front (c ∷ cs) (length front) refl)) begins;
    no_longer = λ n lt le b.
        let p = past front c cs n lt in
        wrong (p.0 ++ b.0) b.1 (subst (λ (l : List ℕ). G l b.1) (ap (λ (l : List ℕ). l ++ b.0) (ap (take n) e ∙ p.1) ∙ append_assoc front (c ∷ p.0) b.0) b.2);
  }

  pub longest_at_stop : (bs : List ℕ) (n : ℕ) → r bs ≡ Err n → IsLongest G bs (length bs - n)
  longest_at_stop bs zero e =
      let s = h.short bs e in
      let all : take (length bs - 0) bs ≡ bs = take_all (length bs - 0) bs (omega arith) in
      record {
        within = omega arith;
        begins = subst (λ (l : List ℕ). Begins G l) (sym all) s;
        no_longer = λ k lt le b. absurd (omega arith);
      }
  longest_at_stop bs (suc m) e =
      let b = h.bad bs m e in
      let front = b.0 in
      let at : length bs - suc m ≡ length front = omega (arith, length-append front (b.1 ∷ b.2), ap length b.3, b.4) in
      let wrong : (x : List ℕ) (v : A) → G (front ++ b.1 ∷ x) v → ⊥ = λ x v g. none_at_stop (front ++ b.1 ∷ x) (suc (length x)) v (b.6 x) g in
      subst (λ (k : ℕ). IsLongest G bs k) (sym at) (longest bs front b.2 b.1 b.3 (h.short front b.5) wrong)

  pub longest_before_rest : (bs rest : List ℕ) (c : ℕ) (u : A) → r bs ≡ Ok (u, c ∷ rest) → IsLongest G bs (length bs - length (c ∷ rest))
  longest_before_rest bs rest c u e =
      let f = h.found bs (c ∷ rest) u e in
      let front = f.0 in
      let at : length bs - length (c ∷ rest) ≡ length front = omega (arith, length-append front (c ∷ rest), ap length f.1) in
      let begins : Begins G front = ([], u, subst (λ (l : List ℕ). G l u) (sym (append-nil front)) f.2) in
      let wrong : (x : List ℕ) (v : A) → G (front ++ c ∷ x) v → ⊥ = λ x v g. none_before_rest (front ++ c ∷ x) x c u v (h.again front (c ∷ x) u f.2) g in
      subst (λ (k : ℕ). IsLongest G bs k) (sym at) (longest bs front rest c f.1 begins wrong)

  pub longest_before : (bs rest : List ℕ) (u : A) → r bs ≡ Ok (u, rest) → 1 ≤ length rest → IsLongest G bs (length bs - length rest)
  longest_before bs [] u e more = absurd (omega arith)
  longest_before bs (c ∷ rest) u e more = longest_before_rest bs rest c u e

  pub none_before : (bs rest : List ℕ) (u v : A) → r bs ≡ Ok (u, rest) → 1 ≤ length rest → G bs v → ⊥
  none_before bs [] u v e more g = absurd (omega arith)
  none_before bs (c ∷ rest) u v e more g = none_before_rest bs rest c u v e g

  pub found_all : (bs rest : List ℕ) (u : A) → r bs ≡ Ok (u, rest) → length rest < 1 → G bs u
  found_all bs [] u e none = let f = h.found bs [] u e in subst (λ (l : List ℕ). G l u) (sym (f.1 ∙ append-nil f.0)) f.2
  found_all bs (c ∷ rest) u e none = absurd (omega arith)

  pub only_one : (bs rest : List ℕ) (u v : A) → r bs ≡ Ok (u, rest) → G bs v → u ≡ v
  only_one bs rest u v e g = let p = ok_is u v rest [] (sym e ∙ whole_again bs v g) in p.0

  -- bytes have one value
  pub one_value : (bs : List ℕ) (u v : A) → G bs u → G bs v → u ≡ v
  one_value bs u v f g = only_one bs [] u v (whole_again bs u f) g
