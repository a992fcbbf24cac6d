-- Filters of lists that are turned round.
use Rattle.std.proofs.Common.{◌≡◌, ◌∙◌, ap, Bool, List, [], ◌++◌, reverse}
use Rattle.std.proofs.lemmas.List.{append-nil, reverse-reverse}
use Rattle.std.specs.Prelude.{filter}

pub turned_twice : {X : Type 0} (p : X → Bool) (xs : List X) → filter p (reverse (reverse xs ++ [])) ++ [] ≡ filter p xs
turned_twice p xs = append-nil (filter p (reverse (reverse xs ++ []))) ∙ ap (filter p) (ap reverse (append-nil (reverse xs)) ∙ reverse-reverse xs)
