-- A run without contracts.
use Rattle.std.specs.Prelude.{true, false, []}
use Rattle.cil_model.specs.declared.contract.Contracts.{Contracts}
use Rattle.cil_model.specs.declared.contract.Level.TheVariants.{NoChecks}

abbrev pub no_contracts : Contracts
no_contracts = record { settings = record { level = NoChecks; guard = 0; throwing = true; surface = false; callsite = false }; target = 0; by_method = [] }
