-- What looking at a value answers, in the machine's acts (own).
use Rattle.std.specs.Prelude.{ℕ, Option, slice_get, option_and_then}
use Rattle.cil_semantics.specs.declared.Cell.{Cell}
use Rattle.cil_semantics.specs.declared.Object.{Object}
use Rattle.cil_semantics.specs.declared.World.{World}
use Rattle.cil_semantics.specs.State.{object_at}
use Rattle.cil_semantics.specs.Acts.{Act, Stuck, if_some, invalid_cast, null_reference}
use Rattle.cast_acts.specs.declared.boxes.BoxOf.{BoxOf}
use Rattle.cast_acts.specs.declared.boxes.BoxOf.TheVariants as box
use Rattle.cast_acts.specs.declared.casts.Cast.{Cast}
use Rattle.cast_acts.specs.declared.casts.Cast.TheVariants as cast

-- what is done where a value is of the type, and where it isn't
abbrev pub cast_act : Cast → Act → Act → Act
cast_act cast.Passes passes other = passes
cast_act cast.Fails passes other = other
cast_act cast.Stuck passes other = Stuck

-- the first cell of the k-th object
abbrev pub first_cell : World → ℕ → Option Cell
first_cell w k = option_and_then (λ (o : Object). slice_get o.cells 0) (object_at w k)

-- what is done with what was boxed
abbrev pub box_act : BoxOf → World → (ℕ → Cell → Act) → Act
box_act box.Null w go = null_reference
box_act box.Other w go = invalid_cast
box_act box.Stuck w go = Stuck
box_act (box.At k) w go = if_some (first_cell w k) (go k)
