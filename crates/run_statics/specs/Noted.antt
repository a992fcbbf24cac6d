-- The statics of all types, once one type's initializer has begun (own).
use Rattle.std.specs.Prelude.{List, Some}
use Rattle.cil_model.specs.declared.ty.Ty.{Ty}
use Rattle.cil_model.specs.declared.program.Program.{Program}
use Rattle.cil_semantics.specs.declared.state.Init.TheVariants.{Begun}
use Rattle.cil_semantics.specs.Types.{same_ty}
use Rattle.cil_semantics.specs.Unwind.{set_statics}
use Rattle.cil_semantics.specs.declared.Statics.{Statics}
use Rattle.run_places.specs.Owners.{cells_of}

-- one type's initializer has begun
abbrev pub begun : Program → Ty → List Statics → List Statics
begun p t ss = set_statics (same_ty t) (record { owner = t; init = Some Begun; cells = cells_of p t ss }) ss
