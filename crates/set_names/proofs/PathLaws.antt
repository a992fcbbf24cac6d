-- Rows that lead to rows.
use Rattle.std.proofs.Common.{◌≡◌, ◌∙◌, sym, ◌++◌, ◌∷◌, [], ℕ, zero, suc, List, ap, refl, append_assoc}
use Rattle.std.specs.Prelude.{Option, Some, None, option_map}
use Rattle.set_names.specs.Paths.{onwards, path_within}

module _ (next : ℕ → Option ℕ) (front : List ℕ) (whole : Option (List ℕ)) where
  behind : Option (List ℕ) → Option (List ℕ)
  behind o = option_map (λ rest. front ++ rest) o

  further : (at : ℕ) (o : Option (List ℕ)) → option_map (λ rest. (front ++ at ∷ []) ++ rest) o ≡ option_map (λ rest. front ++ rest) (option_map (λ rest. at ∷ rest) o)
  further at None = refl
  further at (Some rest) = ap Some (append_assoc front (at ∷ []) rest)

  pub path_goes_on : (n at q : ℕ) → next at ≡ Some q → option_map (λ rest. front ++ rest) (path_within next (suc n) at) ≡ whole → option_map (λ rest. (front ++ at ∷ []) ++ rest) (path_within next n q) ≡ whole
  unfolding path_within
  path_goes_on n at q e h =
      further at (path_within next n q)
      ∙ ap (λ (o : Option ℕ). option_map (λ rest. front ++ rest) (option_map (λ rest. at ∷ rest) (onwards (path_within next n) o))) (sym e)
      ∙ h

  pub path_ends : (n at : ℕ) → next at ≡ None → option_map (λ rest. front ++ rest) (path_within next (suc n) at) ≡ whole → Some (front ++ at ∷ []) ≡ whole
  unfolding path_within
  path_ends n at e h = ap (λ (o : Option ℕ). option_map (λ rest. front ++ rest) (option_map (λ rest. at ∷ rest) (onwards (path_within next n) o))) (sym e) ∙ h

  pub path_over : (at : ℕ) → option_map (λ rest. front ++ rest) (path_within next zero at) ≡ whole → None ≡ whole
  unfolding path_within
  path_over at h = h
