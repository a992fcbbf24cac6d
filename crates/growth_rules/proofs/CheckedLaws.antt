-- What the rules on a set accept is such a set.
use Rattle.std.proofs.Common.{◌≡◌, subst, inl, inr, arith, ℕ, zero, suc, ◌+◌, ◌<◌, ◌≤◌, List, [], ◌∷◌, ◌++◌, length, true, ◌⊎◌}
use Rattle.std.specs.Prelude.{flat_map}
use Rattle.std.specs.List.{range_with_len}
use Rattle.std.proofs.lemmas.Bool.{cases_lt}
use Rattle.cil_base.specs.declared.refusal.Refusal.{Refusal}
use Rattle.cil_base.specs.Refusals.{NoneOf}
use Rattle.set_check.specs.Sets.{Layer, assemblies_of, reading_layers, all_reading_layers, later_layers, layers, Breaks}
use Rattle.set_check.specs.Sets as checked
use Rattle.growth_rules.specs.Sound.{IsSound}
use Rattle.growth_rules.proofs.ReadLaws.{is_sound}

none_first : {L : Type 0} (B : L → Refusal → Type 0) (ls ms : List L) → NoneOf B (ls ++ ms) → NoneOf B ls
none_first B [] ms h = tt
none_first B (l ∷ ls) ms h = (h.0, none_first B ls ms h.1)

none_second : {L : Type 0} (B : L → Refusal → Type 0) (ls ms : List L) → NoneOf B (ls ++ ms) → NoneOf B ms
none_second B [] ms h = h
none_second B (l ∷ ls) ms h = none_second B ls ms h.1

none_in : {L : Type 0} (B : L → Refusal → Type 0) (f : ℕ → List L) (a from n : ℕ) → from ≤ a → a < from + n → NoneOf B (flat_map f (range_with_len from n)) → NoneOf B (f a)
none_in B f a from zero low high h = absurd (omega (arith, low, high))
none_in {L} B f a from (suc n) low high h = go (cases_lt from a) (λ l. none_in B f a (from + 1) n (omega (arith, l)) (omega (arith, high)) (none_second B (f from) (flat_map f (range_with_len (from + 1) n)) h))
  where
    go : (from < a) ⊎ (a ≤ from) → (from < a → NoneOf B (f a)) → NoneOf B (f a)
    go (inl l) later = later l
    go (inr l) later = let same : from ≡ a = omega (arith, l, low) in subst (λ (k : ℕ). NoneOf B (f k)) same (none_first B (f from) (flat_map f (range_with_len (from + 1) n)) h)

pub checked_is_sound : (set : List (List ℕ)) → checked.IsSound true set → IsSound (assemblies_of set)
checked_is_sound set none =
    let later : NoneOf (Breaks set) (later_layers true) = none_second (Breaks set) (all_reading_layers 0 (length set)) (later_layers true) none in
    is_sound set
    (λ a h. none_in (Breaks set) reading_layers a 0 (length set) (omega arith) (omega (arith, h)) (none_first (Breaks set) (all_reading_layers 0 (length set)) (later_layers true) none))
    later.0 later.1.0
