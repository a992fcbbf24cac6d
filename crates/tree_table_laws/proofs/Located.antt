-- Where an instruction of wrapped code comes from.
use Rattle.std.proofs.Common.{◌≡◌, ◌+◌, ◌<◌, ◌≤◌, ℕ, zero, suc, Some, List, [], ◌∷◌, ◌++◌, length, take, drop, map, refl, sym, ap, arith}
use Rattle.std.specs.Prelude.{Option, slice_get, unwrap_or}
use Rattle.cil_model.specs.declared.body.Instr.{Instr}

-- from the front, from the part behind it, or from what was added
pub data Located (f : Instr → Instr) (xs ys : List Instr) (from k : ℕ) (i : Instr) : Type 0 where
  front : k < from → slice_get xs k ≡ Some i → Located f xs ys from k i
  part : (o : Instr) → from ≤ k → slice_get xs k ≡ Some o → i ≡ f o → Located f xs ys from k i
  added : (j : ℕ) → k ≡ length xs + j → slice_get ys j ≡ Some i → Located f xs ys from k i

further : (f : Instr → Instr) (x : Instr) (xs ys : List Instr) (from k : ℕ) (i : Instr) → Located f xs ys from k i → Located f (x ∷ xs) ys (suc from) (suc k) i
further f x xs ys from k i (Located.front h e) = Located.front (omega (arith, h)) e
further f x xs ys from k i (Located.part o h e t) = Located.part o (omega (arith, h)) e t
further f x xs ys from k i (Located.added j h e) = Located.added j (omega (arith, h)) e

further_part : (f : Instr → Instr) (x : Instr) (xs ys : List Instr) (k : ℕ) (i : Instr) → Located f xs ys 0 k i → Located f (x ∷ xs) ys 0 (suc k) i
further_part f x xs ys k i (Located.front h e) = absurd (omega (arith, h))
further_part f x xs ys k i (Located.part o h e t) = Located.part o (omega arith) e t
further_part f x xs ys k i (Located.added j h e) = Located.added j (omega (arith, h)) e

in_part : (f : Instr → Instr) (xs ys : List Instr) (k : ℕ) (i : Instr) → slice_get (map f xs ++ ys) k ≡ Some i → Located f xs ys 0 k i
in_part f [] ys k i e = Located.added k (omega arith) e
in_part f (x ∷ xs) ys zero i e = Located.part x (omega arith) refl (sym (ap (λ (o : Option Instr). unwrap_or o i) e))
in_part f (x ∷ xs) ys (suc k) i e = further_part f x xs ys k i (in_part f xs ys k i e)

pub locate : (f : Instr → Instr) (xs ys : List Instr) (from k : ℕ) (i : Instr) → from ≤ length xs → slice_get (take from xs ++ (map f (drop from xs) ++ ys)) k ≡ Some i → Located f xs ys from k i
locate f xs ys zero k i h e = in_part f xs ys k i e
locate f [] ys (suc from) k i h e = absurd (omega (arith, h))
locate f (x ∷ xs) ys (suc from) zero i h e = Located.front (omega arith) e
locate f (x ∷ xs) ys (suc from) (suc k) i h e = further f x xs ys from k i (locate f xs ys from k i (omega (arith, h)) e)
