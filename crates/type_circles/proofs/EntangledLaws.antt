-- What a graph of a set's types says of circles and long chains.
use Rattle.std.proofs.Common.{◌≡◌, ◌∙◌, sym, ap, refl, subst, arith, ℕ, zero, suc, ◌<◌, ◌≤◌, ◌^◌, List, [], ◌∷◌, length, get_or, Bool, true, false, ⊎_elim}
use Rattle.std.specs.Prelude.{map, ◌||◌, ◌==◌}
use Rattle.std.specs.List.{range_with_len}
use Rattle.std.proofs.lemmas.Bool.{cases_lt}
use Rattle.std.proofs.lemmas.List.{get_or_past}
use Rattle.std.proofs.lemmas.List.FromFn.{get_or-map-range_with_len, length-map-range_with_len}
use Rattle.std.proofs.lemmas.Option.{slice_get_past}
use Rattle.set_names.specs.Cycles.{any, reaches, is_deep}
use Rattle.set_rows.specs.Sets.{Assemblies}
use Rattle.set_program.specs.Environment.{types_of}
use Rattle.set_program.specs.TypeRules.{above, around, within}
use Rattle.type_graphs.specs.Graphs.{next_of}
use Rattle.type_circles.proofs.ListLaws.{map_on}

any_same : {A : Type 0} (f g : A → Bool) → ((x : A) → f x ≡ g x) → (xs : List A) → any f xs ≡ any g xs
any_same {A} f g h [] = refl
any_same {A} f g h (x ∷ xs) = cc (h x, any_same f g h xs)

module _ (f g : ℕ → List ℕ) (same : (k : ℕ) → f k ≡ g k) where
  reaches_same : (n k to : ℕ) → reaches f n k to ≡ reaches g n k to
  unfolding reaches
  reaches_same zero k to = refl
  reaches_same (suc n) k to =
      ap (any (λ j. (j == to) || reaches f n j to)) (same k)
      ∙ any_same (λ j. (j == to) || reaches f n j to) (λ j. (j == to) || reaches g n j to) (λ j. ap (λ (b : Bool). (j == to) || b) (reaches_same n j to)) (g k)

  deep_same : (d k : ℕ) → is_deep f d k ≡ is_deep g d k
  unfolding is_deep
  deep_same zero k = refl
  deep_same (suc d) k = ap (any (is_deep f d)) (same k) ∙ any_same (is_deep f d) (is_deep g d) (deep_same d) (g k)

pub count_of : (f : ℕ → List ℕ) (n : ℕ) (graph : List (List ℕ)) → graph ≡ map f (range_with_len 0 n) → length graph ≡ n
count_of f n graph is = ap length is ∙ length-map-range_with_len f 0 n

pub small : (f : ℕ → List ℕ) (n : ℕ) (graph : List (List ℕ)) → graph ≡ map f (range_with_len 0 n) → n < 2 ^ 32 → length graph < 2 ^ 32
small f n graph is few = subst (λ (m : ℕ). m < 2 ^ 32) (sym (count_of f n graph is)) few

module _ (f : ℕ → List ℕ) (n : ℕ) (graph : List (List ℕ)) (is : graph ≡ map f (range_with_len 0 n)) (past : (k : ℕ) → n ≤ k → f k ≡ []) where
  next_is : (k : ℕ) → next_of graph k ≡ f k
  next_is k =
      ap (λ (g : List (List ℕ)). get_or g k []) is
      ∙ ⊎_elim
      (λ (h : k < n). get_or-map-range_with_len f 0 n k k [] h (omega arith))
      (λ (h : n ≤ k). get_or_past (map f (range_with_len 0 n)) k [] (omega (arith, h, length-map-range_with_len f 0 n)) ∙ sym (past k h))
      (cases_lt k n)

  pub circles_are : map (λ k. reaches (next_of graph) (length graph) k k) (range_with_len 0 (length graph)) ≡ map (λ k. reaches f n k k) (range_with_len 0 n)
  circles_are =
      ap (λ (m : ℕ). map (λ k. reaches (next_of graph) m k k) (range_with_len 0 m)) (count_of f n graph is)
      ∙ map_on true (λ k. reaches (next_of graph) n k k) (λ k. reaches f n k k) n (λ k h. reaches_same (next_of graph) f next_is n k k)

  pub deep_are : (d : ℕ) → map (is_deep (next_of graph) d) (range_with_len 0 (length graph)) ≡ map (is_deep f d) (range_with_len 0 n)
  deep_are d =
      ap (λ (m : ℕ). map (is_deep (next_of graph) d) (range_with_len 0 m)) (count_of f n graph is)
      ∙ map_on true (is_deep (next_of graph) d) (is_deep f d) n (λ k h. deep_same (next_of graph) f next_is d k)

pub or_are : (f g : ℕ → Bool) (n : ℕ) (first second : List Bool) → first ≡ map f (range_with_len 0 n) → second ≡ map g (range_with_len 0 n)
    → map (λ k. get_or first k false || get_or second k false) (range_with_len 0 (length first)) ≡ map (λ k. f k || g k) (range_with_len 0 n)
or_are f g n first second e h =
    ap (λ (m : ℕ). map (λ k. get_or first k false || get_or second k false) (range_with_len 0 m)) (ap length e ∙ length-map-range_with_len f 0 n)
    ∙ map_on true (λ k. get_or first k false || get_or second k false) (λ k. f k || g k) n
    (λ k w.
    ap (λ (l : List Bool). get_or l k false || get_or second k false) e
    ∙ ap (λ (b : Bool). b || get_or second k false) (get_or-map-range_with_len f 0 n k k false w (omega arith))
    ∙ ap (λ (l : List Bool). f k || get_or l k false) h
    ∙ ap (λ (b : Bool). f k || b) (get_or-map-range_with_len g 0 n k k false w (omega arith)))

-- ---- past the last type

module _ (s : Assemblies) (k : ℕ) (past : length (types_of s) ≤ k) where
  pub above_past : above s k ≡ []
  above_past = rw (slice_get_past (types_of s) k past) refl

  pub around_past : around s k ≡ []
  around_past = rw (slice_get_past (types_of s) k past) refl

  pub within_past : within s k ≡ []
  within_past = rw (slice_get_past (types_of s) k past) refl
