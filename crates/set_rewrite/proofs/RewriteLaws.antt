-- The rules of a set, and behind them those on what is written.
use Rattle.std.proofs.Common.{◌≡◌, ◌⊎◌, ℕ, ◌+◌, ◌<◌, true, List, [], ◌∷◌, ◌++◌, map, length, subst, inl, inr, sym, arith}
use Rattle.cil_base.specs.declared.refusal.Refusal.{Refusal}
use Rattle.cil_base.specs.Refusals.{NoneBroken, InLayers, NoneOf}
use Rattle.cil_base.proofs.LayerLaws.{named_before, named_behind, none_joined}
use Rattle.assembly_rewrite.specs.Rewrite as one
use Rattle.assembly_rewrite.proofs.RewriteLaws as one_laws
use Rattle.set_check.specs.Sets as checked
use Rattle.set_check.specs.Sets.{bytes_at, IsContractOf, IsSound, IsUnsound}
use Rattle.set_check.proofs.SetLaws as checks
use Rattle.set_rewrite.specs.Sets.{Layer, OfSet, OfTarget, writing_layers, layers, Breaks, Names, MayBoth, IsSetRefusal, KeepsSetRules}

-- ---- layers of the set among those of the command

module _ (set : List (List ℕ)) where
  named_in_set : (ls : List checked.Layer) (r : Refusal) → InLayers (checked.Breaks set) (checked.Names set) ls r → InLayers (Breaks set) (Names set) (map OfSet ls) r
  named_in_set [] r h = absurd h
  named_in_set (l ∷ ls) r (inl h) = inl h
  named_in_set (l ∷ ls) r (inr h) = inr (h.0, named_in_set ls r h.1)

  none_in_set : (ls : List checked.Layer) → NoneOf (checked.Breaks set) ls → NoneOf (Breaks set) (map OfSet ls)
  none_in_set [] h = tt
  none_in_set (l ∷ ls) h = (h.0, none_in_set ls h.1)

  pub unsound_refused : (r : Refusal) → IsUnsound true set r → IsSetRefusal set r
  unsound_refused r h = named_before (Breaks set) (Names set) (map OfSet (checked.layers true (length set))) writing_layers r (named_in_set (checked.layers true (length set)) r h)

  -- ---- no contract in a sound set

  none_of : (ls : List checked.Layer) → NoneOf (checked.Breaks set) (ls ++ checked.later_layers true) → NoneBroken (IsContractOf set)
  none_of [] h = h.1.1.1.0
  none_of (l ∷ ls) h = none_of ls h.1

  no_contract : IsSound true set → NoneBroken (IsContractOf set)
  no_contract h = none_of (checked.all_reading_layers 0 (length set)) h

  pub written_refused : 0 < length set → IsSound true set → (r : Refusal) → one.IsRewriteRefusal (bytes_at set 0) 0 r → IsSetRefusal set r
  written_refused some sound r (inl h) =
      let number : 0 ≡ r.assembly = sym h.broken.assembly_is in
      absurd (no_contract sound r (omega (arith, some, number), subst (λ (j : ℕ). checks.Has set j r) number h.broken))
  written_refused some sound r (inr h) =
      named_behind (Breaks set) (Names set) (map OfSet (checked.layers true (length set))) writing_layers r (none_in_set (checked.layers true (length set)) sound) h.1

  pub written_kept : IsSound true set → one.KeepsRewriteRules (bytes_at set 0) 0 → KeepsSetRules set
  written_kept sound h = none_joined (Breaks set) (Names set) (map OfSet (checked.layers true (length set))) writing_layers (none_in_set (checked.layers true (length set)) sound) h.1

-- ---- which refusals are named

pub names_broken : (set : List (List ℕ)) (l : Layer) (r : Refusal) → Names set l r → Breaks set l r
names_broken set (OfSet l) r h = checks.names_broken set l r h
names_broken set (OfTarget l) r h = one_laws.names_broken (bytes_at set 0) 0 l r h

pub names_one : (set : List (List ℕ)) (l : Layer) (r s : Refusal) → Names set l r → Names set l s → (s ≡ r) ⊎ MayBoth set l s r
names_one set (OfSet l) r s h k = inl (checks.names_one set l r s h k)
names_one set (OfTarget l) r s h k = one_laws.names_one (bytes_at set 0) 0 l r s h k
