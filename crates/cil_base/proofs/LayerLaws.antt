-- The layers of a command: which refusals may be named.
use Rattle.std.proofs.Common.{◌≡◌, ◌⊎◌, List, [], ◌∷◌, ◌++◌, inl, inr}
use Rattle.cil_base.specs.declared.refusal.Refusal.{Refusal}
use Rattle.cil_base.specs.Refusals.{NoneBroken, InLayers, NoneOf}

module _ {L : Type 0} (Broken Named : L → Refusal → Type 0) where
  -- what is named is one refusal, or two that a layer may name both
  pub layers_are_one : (Either : Refusal → Refusal → Type 0) (ls : List L) → ((l : L) (r : Refusal) → Named l r → Broken l r) → ((l : L) (r s : Refusal) → Named l r → Named l s → (s ≡ r) ⊎ Either s r) → (r s : Refusal) → InLayers Broken Named ls r → InLayers Broken Named ls s → (s ≡ r) ⊎ Either s r
  layers_are_one Either [] broken one r s h k = absurd h
  layers_are_one Either (l ∷ ls) broken one r s (inl h) (inl k) = one l r s h k
  layers_are_one Either (l ∷ ls) broken one r s (inl h) (inr k) = absurd (k.0 r (broken l r h))
  layers_are_one Either (l ∷ ls) broken one r s (inr h) (inl k) = absurd (h.0 s (broken l s k))
  layers_are_one Either (l ∷ ls) broken one r s (inr h) (inr k) = layers_are_one Either ls broken one r s h.1 k.1

  -- nothing is named where nothing is broken
  pub none_named : (ls : List L) → ((l : L) (r : Refusal) → Named l r → Broken l r) → NoneOf Broken ls → NoneBroken (InLayers Broken Named ls)
  none_named [] broken none r h = absurd h
  none_named (l ∷ ls) broken none r (inl h) = none.0 r (broken l r h)
  none_named (l ∷ ls) broken none r (inr h) = none_named ls broken none.1 r h.1

  -- behind layers in which nothing is broken
  pub named_behind : (before after : List L) (r : Refusal) → NoneOf Broken before → InLayers Broken Named after r → InLayers Broken Named (before ++ after) r
  named_behind [] after r none h = h
  named_behind (l ∷ ls) after r none h = inr (none.0, named_behind ls after r none.1 h)

  -- in front of any layers
  pub named_before : (before after : List L) (r : Refusal) → InLayers Broken Named before r → InLayers Broken Named (before ++ after) r
  named_before [] after r h = absurd h
  named_before (l ∷ ls) after r (inl h) = inl h
  named_before (l ∷ ls) after r (inr h) = inr (h.0, named_before ls after r h.1)

  pub none_joined : (before after : List L) → NoneOf Broken before → NoneOf Broken after → NoneOf Broken (before ++ after)
  none_joined [] after none more = more
  none_joined (l ∷ ls) after none more = (none.0, none_joined ls after none.1 more)
