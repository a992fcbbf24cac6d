-- The stack behind a value that is returned (own).
use Rattle.std.specs.Prelude.{List, [], ◌∷◌}
use Rattle.cil_model.specs.declared.value.Value.{Value}
use Rattle.cil_model.specs.declared.program.Program.{Program}
use Rattle.il_opcodes.specs.declared.class.Storage.{Storage}
use Rattle.il_opcodes.specs.declared.class.Storage.TheVariants.{Void}
use Rattle.cil_semantics.specs.Places.{storage}
use Rattle.cil_semantics.specs.Returns.{result_type}
use Rattle.cil_semantics.specs.State.{with_local, with_stack}
use Rattle.cil_semantics.specs.declared.Frame.{Frame}

abbrev pub below_top : List Value → List Value
below_top [] = []
below_top (v ∷ vs) = vs

-- without its top, where a place of this kind holds a value
abbrev pub left_of : Storage → List Value → List Value
left_of Void vs = vs
left_of _ vs = below_top vs

-- the frame without the value that it returns
abbrev pub popped : Program → Frame → Frame
popped p f = with_local (with_stack f.local (left_of (storage p (result_type p f)) f.local.stack)) f
