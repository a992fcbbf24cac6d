-- What a public reader answers.
use Rattle.std.specs.Prelude.{◌≡◌, ℕ, ◌-◌, ◌≤◌, List, [], ◌∷◌, length, Option, Some, None, Result, Ok, Err}
use Rattle.cil_base.specs.declared.rule.Rule.{Rule}
use Rattle.cil_base.specs.declared.refusal.Place.{Place}
use Rattle.cil_base.specs.declared.refusal.Refusal.{Refusal}
use Rattle.cil_base.specs.declared.refusal.Fault.{Fault}
use Rattle.cil_base.specs.declared.refusal.Fault.TheVariants.{Refused, Memory}
use Rattle.cil_base.specs.Refusals.{refusal}
use Rattle.cli_sigs.specs.declared.numbers.Stop.{Stop}
use Rattle.cli_sigs.specs.declared.numbers.Stop.TheVariants as stop
use Rattle.cli_sigs.specs.Grammar.{IsLongest}

-- the answer is this value, unless memory ran out
abbrev pub GivesOnly : {X : Type 0} → Result X Fault → X → Type 0
GivesOnly (Ok x) v = x ≡ v
GivesOnly (Err (Refused r)) v = ⊥
GivesOnly (Err (Memory e)) v = Unit {0}

-- the answer is this value, and a refusal where there is none, unless memory ran out
abbrev pub Reads : {X : Type 0} → Result X Fault → Option X → Type 0
Reads (Ok x) o = o ≡ Some x
Reads (Err (Refused r)) o = o ≡ None
Reads (Err (Memory e)) o = Unit {0}

-- the rule is broken at the length of the longest prefix with which something in the grammar begins
abbrev pub AtLongest : {A : Type 0} → Rule → Place → (List ℕ → A → Type 0) → List ℕ → Refusal → Type 0
AtLongest rule place G blob r = (at : ℕ) × (r ≡ refusal rule place at) × IsLongest G blob at

-- ---- from what a reader of a front gave to the answer

-- the value that was read, where nothing is left
abbrev pub Ends : {A : Type 0} → Rule → Place → List ℕ → A → List ℕ → Result A Fault → Type 0
Ends rule place blob v [] result = result ≡ Ok v
Ends rule place blob v (c ∷ rest) result = result ≡ Err (Refused (refusal rule place (length blob - length (c ∷ rest))))

abbrev pub EndsStopped : {A : Type 0} → Rule → Place → List ℕ → Stop → Result A Fault → Type 0
EndsStopped rule place blob (stop.At left) result = result ≡ Err (Refused (refusal rule place (length blob - left)))
EndsStopped rule place blob (stop.Memory e) result = result ≡ Err (Memory e)

abbrev pub Concludes : {X A : Type 0} → (X → A × List ℕ) → Rule → Place → List ℕ → Result X Stop → Result A Fault → Type 0
Concludes view rule place blob (Ok x) result = Ends rule place blob (view x).0 (view x).1 result
Concludes view rule place blob (Err s) result = EndsStopped rule place blob s result

-- no more is left than there was
abbrev pub StopsWithin : List ℕ → Stop → Type 0
StopsWithin blob (stop.At left) = left ≤ length blob
StopsWithin blob (stop.Memory e) = Unit {0}

abbrev pub Within : {X A : Type 0} → (X → A × List ℕ) → List ℕ → Result X Stop → Type 0
Within view blob (Ok x) = length (view x).1 ≤ length blob
Within view blob (Err s) = StopsWithin blob s
