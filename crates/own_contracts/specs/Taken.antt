-- The answers for methods one after another (own).
use Rattle.std.specs.Prelude.{◌≡◌, [], ◌∷◌, ◌++◌, Result, Ok, Err}
use Rattle.cil_base.specs.declared.refusal.Fault.{Fault}
use Rattle.cil_base.specs.declared.refusal.Fault.TheVariants.{Refused, Memory}
use Rattle.cil_model.specs.declared.contract.Contract.{Contract}
use Rattle.own_contracts.specs.declared.contracts.Found.{Found}
use Rattle.own_contracts.specs.Order.{earlier}

-- With the answer for one more method; want of memory isn't taken.
abbrev pub Takes : Found → Result Contract Fault → Found → Type 0
Takes f (Ok contract) g = g ≡ record f { contracts = f.contracts ++ contract ∷ [] }
Takes f (Err (Refused r)) g = g ≡ record f { first = earlier f.first r }
Takes f (Err (Memory e)) g = ⊥
