-- What looking for a field answers, in the machine's acts (own).
use Rattle.cil_model.specs.declared.value.Value.{Value}
use Rattle.cil_model.specs.declared.value.Pointer.{Pointer}
use Rattle.cil_semantics.specs.Acts.{Act, Stuck, null_reference}
use Rattle.field_acts.specs.declared.fields.FieldPlace.{FieldPlace}
use Rattle.field_acts.specs.declared.fields.FieldPlace.TheVariants as field

-- what is done with a field's place, or with a value that is no place of it
abbrev pub field_act : FieldPlace → (Pointer → Act) → (Value → Act) → Act
field_act field.Null go other = null_reference
field_act field.Stuck go other = Stuck
field_act (field.At q) go other = go q
field_act (field.Other v) go other = other v
