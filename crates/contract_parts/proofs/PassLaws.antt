-- A list narrowed or widened pass by pass, and tests on a list of parts.
use Rattle.std.proofs.Common.{◌≡◌, ℕ, suc, ◌+◌, ◌-◌, ◌<◌, Bool, List, [], ◌∷◌, refl, ap, arith}
use Rattle.std.specs.Prelude.{◌||◌, map}
use Rattle.std.specs.List.{list_any}
use Rattle.std.specs.Fn.{iterate}

-- one pass fewer is left
pub iterate_less : {X : Type 0} (f : X → X) (n k : ℕ) (x : X) → k < n → iterate f (n - k) x ≡ iterate f (n - (k + 1)) (f x)
iterate_less f n k x h =
    let one : n - k ≡ suc (n - (k + 1)) = omega arith in
    ap (λ (m : ℕ). iterate f m x) one

pub list_any-map : {X Y : Type 0} (test : Y → Bool) (f : X → Y) (xs : List X) → list_any test (map f xs) ≡ list_any (λ x. test (f x)) xs
list_any-map test f [] = refl
list_any-map test f (x ∷ xs) = ap (λ (b : Bool). test (f x) || b) (list_any-map test f xs)
