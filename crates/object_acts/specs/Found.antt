-- What looking for a static field answers, in the machine's acts (own).
use Rattle.std.specs.Prelude.{Option, Some, None}
use Rattle.cil_model.specs.declared.ty.Ty.{Ty}
use Rattle.cil_model.specs.declared.value.Pointer.{Pointer}
use Rattle.cil_semantics.specs.Acts.{Act, Stuck}
use Rattle.object_acts.specs.declared.statics.StaticPlace.{StaticPlace}

-- what is done with a static field's type and place
abbrev pub static_act : Option StaticPlace → (Ty → Pointer → Act) → Act
static_act None go = Stuck
static_act (Some s) go = go s.owner s.place
