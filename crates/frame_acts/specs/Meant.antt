-- What the acts that the arms answer mean to the machine (own).
use Rattle.std.specs.Prelude.{ℕ, [], ◌∷◌, replicate}
use Rattle.cil_model.specs.declared.ty.Ty.{Ty}
use Rattle.cil_model.specs.declared.ty.Ty.TheVariants as ty
use Rattle.cil_model.specs.declared.value.Value.{Value}
use Rattle.cil_semantics.specs.Acts as acts
use Rattle.cil_semantics.specs.declared.Object.{Object}
use Rattle.cil_semantics.specs.declared.Local.{Local}
use Rattle.run_numbers.specs.Answers.{exception_name}
use Rattle.frame_acts.specs.declared.wanted.Call.{Call}
use Rattle.frame_acts.specs.declared.wanted.Wanted.{Wanted}
use Rattle.frame_acts.specs.declared.wanted.Wanted.TheVariants as wanted

abbrev pub call_of : Call → acts.Call
call_of c = record { owner = c.owner; method = c.method; method_args = c.method_args; values = c.values; constrained = c.constrained }

-- an array of so many places that hold this value
abbrev pub array_of : Ty → Value → ℕ → Object
array_of item first count = record { ty = ty.Array item; cells = replicate count (record { ty = item; value = first }) }

-- the act, where `l` is the frame as it was left
abbrev pub meant : Wanted → Local → acts.Act
meant wanted.Stuck l = acts.Stuck
meant wanted.GoOn l = acts.GoOn [] l
meant (wanted.Make made) l = acts.GoOn (made ∷ []) l
meant (wanted.MakeArray item first count) l = acts.GoOn (array_of item first count ∷ []) l
meant (wanted.Jump target) l = acts.Jump target l
meant (wanted.Raise x) l = acts.Raise (exception_name x)
meant (wanted.Throw k) l = acts.Throw k
meant wanted.Rethrow l = acts.Rethrow
meant (wanted.Leave target) l = acts.Leave target
meant wanted.EndHandler l = acts.EndHandler
meant wanted.Return l = acts.Return
meant (wanted.Load q h) l = acts.Load q h l
meant (wanted.Store q v) l = acts.Store q v l
meant (wanted.Copy to from h) l = acts.Copy to from h l
meant (wanted.UseStatic owner access) l = acts.UseStatic owner access l
meant (wanted.CallMember c) l = acts.CallMember (call_of c) l
meant (wanted.CallVirtual c) l = acts.CallVirtual (call_of c) l
meant (wanted.NewObject c) l = acts.NewObject (call_of c) l
meant (wanted.LoadVirtualFunction c) l = acts.LoadVirtualFunction (call_of c) l
