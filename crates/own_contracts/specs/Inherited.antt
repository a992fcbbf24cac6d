-- Methods whose effective contract isn't their own one: one of their sources has clauses (own).
use Rattle.std.specs.Prelude.{◌≡◌, ◌==◌, ◌&&◌, not, ℕ, Bool, true, false, List, [], ◌∷◌, length}
use Rattle.cil_base.specs.declared.rule.Rule.TheVariants.{Z1}
use Rattle.cil_base.specs.declared.tables.TheConstants.{METHOD_DEF}
use Rattle.cil_base.specs.declared.refusal.Refusal.{Refusal}
use Rattle.cil_model.specs.declared.contract.Clause.{Clause}
use Rattle.cil_model.specs.declared.contract.Contract.{Contract}
use Rattle.cil_model.specs.declared.program.MethodDesc.{MethodDesc}
use Rattle.cil_model.specs.declared.program.Program.{Program}
use Rattle.cil_model.specs.declared.program.Source.{Source}
use Rattle.cil_semantics.specs.Lookups.{method_of}
use Rattle.cil_semantics.specs.Words.{any}
use Rattle.look_ups.specs.Sources.{sources_of}
use Rattle.own_contracts.specs.Own.{contract_at}
use Rattle.own_contracts.specs.Order.{BrokenByOne}

abbrev pub has_any : List Clause → Bool
has_any [] = false
has_any (c ∷ cs) = true

-- another method, which has clauses of its own
abbrev pub lends : List Contract → ℕ → Source → Bool
lends contracts m s = not (s.method == m) && has_any (contract_at contracts s.method).clauses

-- a method of the first assembly, with a row
abbrev pub is_of_target : MethodDesc → Bool
is_of_target d = (d.assembly == 0) && not d.outside

-- The method is of the first assembly and has clauses from a source other than itself.
abbrev pub inherits : Program → List Contract → ℕ → Bool
inherits p contracts m = is_of_target (method_of p m) && any (lends contracts m) (sources_of p m)

abbrev pub method_refusal : ℕ → Refusal
method_refusal row = record { rule = Z1; assembly = 0; table = METHOD_DEF; row = row; at = 0 }

-- Z1 at the row of a method that inherits clauses
abbrev pub InheritsAt : Program → List Contract → ℕ → Refusal → Type 0
InheritsAt p contracts m r = (inherits p contracts m ≡ true) × (r ≡ method_refusal (method_of p m).row)

abbrev pub Inherits : Program → List Contract → Refusal → Type 0
Inherits p contracts = BrokenByOne (InheritsAt p contracts) (length p.methods)
