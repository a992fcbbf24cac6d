-- What is read of a piece that stands at an offset, also of bytes that were copied there.
use Rattle.std.proofs.Common.{◌≡◌, ℕ, ◌+◌, ◌-◌, ◌≤◌, List, ◌∷◌, ◌++◌, length, refl, sym, ap, ◌∙◌, arith}
use Rattle.std.specs.List.{concat}
use Rattle.cil_base.specs.Numbers.{num}
use Rattle.cil_base.specs.Bytes.{part, between, IsAt}
use Rattle.cil_base.proofs.PieceLaws.{length_between, at_in, at_moved, at_joined, part_at, part_in, num_same}

-- one of joined pieces
pub piece : (bytes : List ℕ) (base : ℕ) (xs : List (List ℕ)) (y : List ℕ) (zs : List (List ℕ)) (at : ℕ) → IsAt bytes base (concat (xs ++ y ∷ zs)) → base + length (concat xs) ≡ at → IsAt bytes at y
piece bytes base xs y zs at is e =
    at_moved bytes y (base + length (concat xs)) at (at_in bytes (concat (xs ++ y ∷ zs)) y base (length (concat xs)) is (at_joined xs y zs)) e

-- a part of a piece
pub part_of : (bytes p : List ℕ) (at k n : ℕ) → IsAt bytes at p → k + n ≤ length p → part bytes (at + k) n ≡ part p k n
part_of bytes p at k n is le =
    sym (part_in bytes at (length p) k n le) ∙ ap (λ (x : List ℕ). part x k n) (part_at bytes p at (length p) is refl)

-- what stands at v in the old bytes stands at u
pub copied : (bytes old : List ℕ) (at from to u v n : ℕ) → IsAt bytes at (between old from to) → from ≤ v → v + n ≤ to → to ≤ length old → u + from ≡ at + v → part bytes u n ≡ part old v n
copied bytes old at from to u v n is low high within e =
    let long = length_between old from to (omega arith) within in
    ap (λ (k : ℕ). part bytes k n) (let t : u ≡ at + (v - from) = omega arith in t)
    ∙ part_of bytes (between old from to) at (v - from) n is (omega arith)
    ∙ part_in old from (to - from) (v - from) n (omega arith)
    ∙ ap (λ (k : ℕ). part old k n) (let t : from + (v - from) ≡ v = omega arith in t)

pub num_copied : (bytes old : List ℕ) (at from to u v width : ℕ) → IsAt bytes at (between old from to) → from ≤ v → v + width ≤ to → to ≤ length old → u + from ≡ at + v → num bytes u width ≡ num old v width
num_copied bytes old at from to u v width is low high within e =
    num_same bytes old u v width (copied bytes old at from to u v width is low high within e)
