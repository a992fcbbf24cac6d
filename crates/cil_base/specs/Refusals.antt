-- Which refusal is named: within a layer the first one by place, and then by rule; a layer is tried where none before it is broken.
use Rattle.std.specs.Prelude.{◌≡◌, ℕ, ◌⊎◌, Bool, true, false, ◌||◌, ◌&&◌, ◌==◌, ◌+◌, nat_lt, List, [], ◌∷◌, Option, Some, None, Result, Ok, Err, if◌then◌else◌}
use Rattle.cil_base.specs.declared.rule.Rule.{Rule}
use Rattle.cil_base.specs.declared.refusal.Place.{Place}
use Rattle.cil_base.specs.declared.refusal.Refusal.{Refusal}
use Rattle.cil_base.specs.declared.refusal.Fault.{Fault}
use Rattle.cil_base.specs.declared.refusal.Fault.TheVariants.{Refused, Memory}
use Rattle.cil_base.specs.Rules.{rule_number}

abbrev pub refusal : Rule → Place → ℕ → Refusal
refusal rule place at = record { rule = rule; assembly = place.assembly; table = place.table; row = place.row; at = at }

abbrev pub key : Refusal → List ℕ
key r = r.assembly ∷ r.table ∷ r.row ∷ r.at ∷ rule_number r.rule ∷ []

-- the first place at which two lists differ decides
abbrev pub is_less : List ℕ → List ℕ → Bool
is_less [] [] = false
is_less [] (y ∷ ys) = true
is_less (x ∷ xs) [] = false
is_less (x ∷ xs) (y ∷ ys) = nat_lt x y || ((x == y) && is_less xs ys)

-- It is broken, and nothing that is broken comes before it.
pub record First (Broken : Refusal → Type 0) (r : Refusal) : Type 0 where
  pub broken : Broken r
  pub none_before : (s : Refusal) → Broken s → is_less (key s) (key r) ≡ false

abbrev pub NoneBroken : (Refusal → Type 0) → Type 0
NoneBroken Broken = (r : Refusal) → Broken r → ⊥

-- one layer, and where nothing of it is broken what comes after it
abbrev pub InTurn : (Refusal → Type 0) → (Refusal → Type 0) → Refusal → Type 0
InTurn Broken Later r = First Broken r ⊎ (NoneBroken Broken × Later r)

-- ---- layers, of which a command has a list: what is broken in each, and which refusals may be named where it is the first

-- the first layer in which something is broken
abbrev pub InLayers : {L : Type 0} → (L → Refusal → Type 0) → (L → Refusal → Type 0) → List L → Refusal → Type 0
InLayers Broken Named [] r = ⊥
InLayers Broken Named (l ∷ ls) r = Named l r ⊎ (NoneBroken (Broken l) × InLayers Broken Named ls r)

-- nothing is broken in any of the layers
abbrev pub NoneOf : {L : Type 0} → (L → Refusal → Type 0) → List L → Type 0
NoneOf Broken [] = Unit {0}
NoneOf Broken (l ∷ ls) = NoneBroken (Broken l) × NoneOf Broken ls

-- ---- rules that each have one place

-- a refusal, and whether it holds
pub record Test : Type 0 where
  pub refusal : Refusal
  pub fails : Bool

-- one of the tests fails with this refusal
abbrev pub Fails : List Test → Refusal → Type 0
Fails [] r = ⊥
Fails (t ∷ ts) r = ((t.fails ≡ true) × (t.refusal ≡ r)) ⊎ Fails ts r

-- the first of the tests that fails
abbrev pub first_of : List Test → Option Refusal
first_of [] = None
first_of (t ∷ ts) = if t.fails then Some t.refusal else first_of ts

-- ---- what a call answers

-- The fault is this refusal, unless it is want of memory.
abbrev pub IfRefused : Fault → (Refusal → Type 0) → Type 0
IfRefused (Refused r) P = P r
IfRefused (Memory e) P = Unit {0}

-- The fault is want of memory only where this holds.
abbrev pub IfMemory : Fault → Type 0 → Type 0
IfMemory (Refused r) P = Unit {0}
IfMemory (Memory e) P = P

-- Where the call refuses, this holds of the refusal; want of memory may stand in place of any answer.
abbrev pub OnRefused : {T : Type 0} → Result T Fault → (Refusal → Type 0) → Type 0
OnRefused (Ok x) P = Unit {0}
OnRefused (Err fault) P = IfRefused fault P

-- Want of memory is answered only where this holds: a limit that is tested before anything is allocated is not passed.
abbrev pub OnMemory : {T : Type 0} → Result T Fault → Type 0 → Type 0
OnMemory (Ok x) P = Unit {0}
OnMemory (Err fault) P = IfMemory fault P

-- the refusal of what passes a limit: the first number that is too large
abbrev pub limit_refusal : Rule → ℕ → Refusal
limit_refusal rule limit = record { rule = rule; assembly = 0; table = 0; row = 0; at = limit + 1 }

-- a whole assembly, by its number in the command
abbrev pub assembly_place : ℕ → Place
assembly_place assembly = record { assembly = assembly; table = 0; row = 0 }
