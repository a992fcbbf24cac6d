-- Reading from left to right. A reader that stops says how many bytes are left from the first wrong one on.
use Rattle.std.specs.Prelude.{ℕ, zero, suc, Bool, ◌+◌, ◌==◌, List, [], ◌∷◌, ◌++◌, length, Option, Some, None, Result, Ok, Err, if◌then◌else◌}

abbrev pub Outcome : Type 0 → Type 0
Outcome A = Result (A × List ℕ) ℕ

abbrev pub Reader : Type 0 → Type 0
Reader A = List ℕ → Outcome A

abbrev pub and_then : {A B : Type 0} → Outcome A → (A → Reader B) → Outcome B
and_then (Ok p) f = f p.0 p.1
and_then (Err e) f = Err e

infixl 10 ◌>>=◌
abbrev pub ◌>>=◌ : {A B : Type 0} → Reader A → (A → Reader B) → Reader B
r >>= f = λ bytes. and_then (r bytes) f

abbrev pub pure : {A : Type 0} → A → Reader A
pure a = λ bytes. Ok (a, bytes)

-- what is read, seen by f
abbrev pub maps : {A B : Type 0} → (A → B) → Reader A → Reader B
maps f r = r >>= (λ a. pure (f a))

abbrev pub byte_given : {A : Type 0} → Option A → List ℕ → Outcome A
byte_given (Some a) rest = Ok (a, rest)
byte_given None rest = Err (length rest + 1)

-- a byte that means something
abbrev pub byte_as : {A : Type 0} → (ℕ → Option A) → Reader A
byte_as f [] = Err 0
byte_as f (b ∷ rest) = byte_given (f b) rest

abbrev pub byte_where : (ℕ → Bool) → Reader ℕ
byte_where p = byte_as (λ b. if p b then Some b else None)

-- so many of them
abbrev pub many : {A : Type 0} → ℕ → Reader A → Reader (List A)
many zero r = pure []
many (suc n) r = r >>= (λ x. maps (λ xs. x ∷ xs) (many n r))

-- what stands behind the mark
abbrev pub behind : ℕ → List ℕ → Option (List ℕ)
behind mark [] = None
behind mark (b ∷ rest) = if b == mark then Some rest else None

-- one reader behind the mark, the other where it is missing
abbrev pub marked : {A : Type 0} → ℕ → Reader A → Reader A → Reader A
marked mark r s bytes = elim (behind mark bytes) [ Some rest ↦ r rest | None ↦ s bytes ]

-- what is read, with what was read before in front
abbrev pub with_front : {A : Type 0} → List A → Outcome (List A) → Outcome (List A)
with_front front read = and_then read (λ xs. pure (front ++ xs))
