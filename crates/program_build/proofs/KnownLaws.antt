-- What is known of the assemblies of a set, one assembly more.
use Rattle.std.proofs.Common.{◌≡◌, ◌∙◌, ◌⊎◌, sym, ap, refl, inl, inr, subst, ℕ, zero, suc, ◌+◌, ◌<◌, List, [], ◌∷◌, ◌++◌, length, get_or}
use Rattle.std.specs.Prelude.{Option, Some, None, slice_get}
use Rattle.std.proofs.lemmas.List.{length-append}
use Rattle.std.proofs.lemmas.Option.{slice_get_read}
use Rattle.set_rows.specs.Sets.{Assemblies}
use Rattle.program_build.specs.declared.facts.Known.{Known}
use Rattle.program_build.specs.Known.{IsKnown, AreKnown}

abbrev value_or : {A : Type 0} → A → Option A → A
value_or d None = d
value_or d (Some x) = x

-- what stands in a list with one item more
last_or_before : {A : Type 0} (xs : List A) (y : A) (a : ℕ) (d : A) → slice_get (xs ++ y ∷ []) a ≡ Some d → (slice_get xs a ≡ Some d) ⊎ ((a ≡ length xs) × (y ≡ d))
last_or_before [] y zero d e = inr (refl, ap (value_or y) e)
last_or_before [] y (suc a) d e = absurd cc
last_or_before (x ∷ xs) y zero d e = inl e
last_or_before (x ∷ xs) y (suc a) d e = on (last_or_before xs y a d e)
  where
    on : (slice_get xs a ≡ Some d) ⊎ ((a ≡ length xs) × (y ≡ d)) → (slice_get xs a ≡ Some d) ⊎ ((suc a ≡ suc (length xs)) × (y ≡ d))
    on (inl h) = inl h
    on (inr h) = inr (ap suc h.0, h.1)

-- of the first assemblies
pub record KnownUpTo (s : Assemblies) (k : ℕ) (list : List Known) : Type 0 where
  pub size : length list ≡ k
  pub each : (a : ℕ) (x : Known) → slice_get list a ≡ Some x → IsKnown s a x

pub one_more : (s : Assemblies) (k : ℕ) (list newer : List Known) (x : Known) → newer ≡ list ++ x ∷ [] → IsKnown s k x → KnownUpTo s k list → KnownUpTo s (k + 1) newer
one_more s k list newer x e h so_far = record {
  size = ap length e ∙ length-append list (x ∷ []) ∙ ap (λ (n : ℕ). n + 1) so_far.size;
  each = λ a y g. go a y (last_or_before list x a y (ap (λ (l : List Known). slice_get l a) (sym e) ∙ g));
}
  where
    go : (a : ℕ) (y : Known) → (slice_get list a ≡ Some y) ⊎ ((a ≡ length list) × (x ≡ y)) → IsKnown s a y
    go a y (inl g) = so_far.each a y g
    go a y (inr g) = subst (λ (b : ℕ). IsKnown s b y) (sym (g.0 ∙ so_far.size)) (subst (IsKnown s k) g.1 h)

pub none_yet : (s : Assemblies) → KnownUpTo s 0 []
none_yet s = record { size = refl; each = λ a x e. absurd cc }

pub all_are : (s : Assemblies) (k : ℕ) (list : List Known) → k ≡ length s → KnownUpTo s k list → AreKnown s list
all_are s k list e h = record { many = h.size ∙ e; each = h.each }

-- what stands at a place is known of the assembly of that number
pub known_at : (s : Assemblies) (all : List Known) (k : ℕ) (x : Known) → AreKnown s all → k < length all → x ≡ get_or all k x → IsKnown s k x
known_at s all k x h short e = h.each k x (slice_get_read all (length all) k x refl short e)

-- and what stands first, of TARGET
pub known_first : (s : Assemblies) (all : List Known) (x : Known) → AreKnown s all → 0 < length s → x ≡ get_or all 0 x → IsKnown s 0 x
known_first s all x h some e = known_at s all 0 x h (subst (λ (n : ℕ). 0 < n) (sym h.many) some) e
