-- A stream of which less than the limit was read was read whole.
use Rattle.std.proofs.Common.{◌≡◌, ℕ, ◌<◌, ◌≤◌, List, [], ◌++◌, length, take, Option, Some, None, sym, ap, ◌∙◌, arith}
use Rattle.std.proofs.lemmas.List.{take_all, length-take}
use Rattle.std.specs.Prelude.{IfSome}
use Rattle.std.specs.Option.{option_map}

take_short : (n : ℕ) (xs : List ℕ) → length (take n xs) < n → take n xs ≡ xs
take_short n xs h = take_all n xs (omega (arith, length-take n xs))

pub read_whole : (o : Option (List ℕ)) (limit cap : ℕ) (old new : List ℕ) → old ≡ [] → cap < limit → length new ≤ cap → IfSome (option_map (take limit) o) (λ xs. new ≡ old ++ xs) → IfSome o (λ left. new ≡ left)
read_whole None limit cap old new e lt le h = tt
read_whole (Some xs) limit cap old new e lt le h =
    let same : new ≡ take limit xs = h ∙ ap (λ (l : List ℕ). l ++ take limit xs) e in
    same ∙ take_short limit xs (omega (arith, ap (λ (l : List ℕ). length l) same))
