-- What stands one step above a type (ECMA-335, I.8.7).
use Rattle.std.specs.Prelude.{◌++◌, List, option_to_list}
use Rattle.cil_model.specs.declared.ty.Ty.{Ty}
use Rattle.cil_model.specs.declared.program.Program.{Program}
use Rattle.cil_semantics.specs.Lookups.{base_of, interfaces_of}

abbrev pub supers_of : Program → Ty → List Ty
supers_of p t = option_to_list (base_of p t) ++ interfaces_of p t
