-- The method that a run begins with, and the arguments that it is given (own; which types take which numbers is ECMA-335, I.12.1).
use Rattle.std.specs.Prelude.{ℕ, suc, Bool, true, false, ◌&&◌, ◌==◌, not, bytes_eq, is_some, if◌then◌else◌, List, [], ◌∷◌, Option, Some, None, option_map, option_and_then}
use Rattle.cil_base.specs.declared.refusal.Refusal.{Refusal}
use Rattle.cil_base.specs.declared.rule.Rule.TheVariants.{N2}
use Rattle.cil_model.specs.declared.ty.Ty.{Ty, out-Ty}
use Rattle.cil_model.specs.declared.value.Value.{Value, out-Value}
use Rattle.cil_model.specs.declared.value.Value.TheOpen.{Value-F}
use Rattle.cil_model.specs.declared.program.Program.{Program}
use Rattle.cil_model.specs.declared.program.MethodDesc.{MethodDesc}
use Rattle.cil_semantics.specs.Core.{Name}
use Rattle.cil_semantics.specs.Lookups.{type_of, method_of}
use Rattle.cil_semantics.specs.Outside.{all_fit, is_i4, is_i8, is_native}
use Rattle.il_opcodes.specs.declared.class.Storage.{Storage}
use Rattle.il_opcodes.specs.declared.class.Storage.TheVariants.{Truncated, Long, NativeInt, Reference, Address, Fields, Opaque, Anything, Void}
use Rattle.cil_semantics.specs.Places.{storage}
use Rattle.cil_semantics.specs.Types.{Layer, is_prim}

-- ---- arguments

-- null, or a text for a string itself
abbrev pub takes_reference : Layer → Value-F Value → Bool
takes_reference t Value-F.Null = true
takes_reference t (Value-F.Text units) = is_prim 0x0E t
takes_reference t _ = false

abbrev pub takes_by_kind : Storage → Layer → Value-F Value → Bool
takes_by_kind (Truncated n s) t v = is_i4 v
takes_by_kind Long t v = is_i8 v
takes_by_kind NativeInt t v = is_native v
takes_by_kind Reference t v = takes_reference t v
takes_by_kind Address t v = false
takes_by_kind (Fields n) t v = false
takes_by_kind Opaque t v = false
takes_by_kind Anything t v = false
takes_by_kind Void t v = false

-- a parameter of a type takes a value from outside: a number of its kind, null for a reference, a text for a string
abbrev pub takes : Program → Ty → Value → Bool
takes p t v = takes_by_kind (storage p t) (out-Ty t) (out-Value v)

-- ---- methods

-- neither the method nor its type has type parameters
abbrev pub is_closed : Program → MethodDesc → Bool
is_closed p d = (d.generics == 0) && ((type_of p d.owner).generics == 0)

-- a static method with a body, of no contract reference assembly, without type parameters, that takes these arguments
abbrev pub may_begin : Program → List Value → MethodDesc → Bool
may_begin p args d =
    (d.is_static && is_some d.body) && ((not (type_of p d.owner).reference && is_closed p d) && all_fit (takes p) d.params args)

-- a method of an assembly, of a type of this full name
abbrev pub is_called : Program → (assembly : ℕ) → (type_name method_name : Name) → MethodDesc → Bool
is_called p a t m d = ((d.assembly == a) && not d.outside) && (bytes_eq (type_of p d.owner).name t && bytes_eq d.name m)

-- the number of the first that passes
abbrev pub first_where : {X : Type 0} → (X → Bool) → List X → Option ℕ
first_where test [] = None
first_where test (x ∷ xs) = if test x then Some 0 else option_map suc (first_where test xs)

abbrev pub if_begins : Program → List Value → ℕ → Option ℕ
if_begins p args m = if may_begin p args (method_of p m) then Some m else None

-- the first method of these names, where a run may begin with it
unfoldable pub entry : Program → (assembly : ℕ) → (type_name method_name : Name) → List Value → Option ℕ
entry p a t m args = option_and_then (if_begins p args) (first_where (is_called p a t m) p.methods)

-- No method is the entry; the place is the MethodDef table as a whole (ECMA-335, II.22.26).
abbrev pub no_entry : (assembly : ℕ) → Refusal
no_entry a = record { rule = N2; assembly = a; table = 0x06; row = 0; at = 0 }
