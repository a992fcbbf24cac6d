-- Types, fields and methods of a program by their numbers, and the types of which a closed type is a sub.
use Rattle.std.specs.Prelude.{ℕ, zero, suc, ◌+◌, Bool, true, false, ◌||◌, ◌==◌, if◌then◌else◌, List, [], ◌∷◌, ◌++◌, length, slice_get, unwrap_or, Option, Some, None, option_to_list, codes}
use Rattle.cil_semantics.specs.Words.{any, maybe}
use Rattle.cil_model.specs.declared.ty.Ty.{Ty, out-Ty, Prim}
use Rattle.cil_model.specs.declared.ty.Ty.TheOpen.{Ty-F}
use Rattle.cil_model.specs.declared.ty.Ty.TheVariants as ty
use Rattle.cil_model.specs.declared.program.Program.{Program}
use Rattle.cil_model.specs.declared.program.TypeDesc.{TypeDesc}
use Rattle.cil_model.specs.declared.program.FieldDesc.{FieldDesc}
use Rattle.cil_model.specs.declared.program.MethodDesc.{MethodDesc}
use Rattle.cil_model.specs.declared.program.Kind.TheVariants.{Class}
use Rattle.cil_semantics.specs.Types.{Layer, under, all_under, same_ty}
use Rattle.cil_semantics.specs.Core.{class_named, object_ty, outside_base}

-- The class of the exception that a failed clause makes. It stands for each number past the types of a program.
unfoldable pub contract_exception : TypeDesc
contract_exception = record { assembly = 0; row = 0; name = codes "__ContractsRuntime/ContractException"; base = Some (class_named (codes "System.Exception")); kind = Class; interfaces = []; fields = []; methods = []; impls = []; enclosing = None; flags = 0; outside = false; reference = false; contract_class = None; contract_class_for = None; generated = false; generics = 0 }

abbrev pub type_of : Program → ℕ → TypeDesc
type_of p k = unwrap_or (slice_get p.types k) contract_exception

unfoldable pub no_field : FieldDesc
no_field = record { owner = 0; name = []; ty = ty.Opaque; is_static = false; flags = 0 }

abbrev pub field_of : Program → ℕ → FieldDesc
field_of p f = unwrap_or (slice_get p.fields f) no_field

unfoldable pub no_method : MethodDesc
no_method = record { assembly = 0; row = 0; owner = 0; name = []; params = []; result = Prim 0x01; sig = 0; is_static = true; flags = 0; outside = true; abbreviator = false; invariant = false; generated = false; body = None; generics = 0 }

abbrev pub method_of : Program → ℕ → MethodDesc
method_of p m = unwrap_or (slice_get p.methods m) no_method

-- a type of the set, with its arguments
abbrev pub in_set : Layer → Option (ℕ × List Ty)
in_set (Ty-F.Known k) = Some (k, [])
in_set (Ty-F.Inst k args) = Some (k, args)
in_set _ = None

abbrev pub args_of : Ty → List Ty
args_of t = maybe [] (λ (d : ℕ × List Ty). d.1) (in_set (out-Ty t))

-- The base of a type that is not of the set: System.Object for all that have no other, but for System.Object itself.
abbrev pub built_in_base : Layer → Option Ty
built_in_base (Ty-F.Prim b) = if b == 0x1C then None else if b == 0x0E then Some object_ty else Some (class_named (codes "System.ValueType"))
built_in_base (Ty-F.Outside name value) = Some (outside_base name value)
built_in_base (Ty-F.Array item) = Some (class_named (codes "System.Array"))
built_in_base _ = Some object_ty

-- System.Object where a row names none, as an interface's does
abbrev pub base_from : Program → Option (ℕ × List Ty) → Layer → Option Ty
base_from p None t = built_in_base t
base_from p (Some d) t = Some (maybe object_ty (under d.1 []) (type_of p d.0).base)

-- the base of a closed type (ECMA-335, II.10.1.3)
unfoldable pub base_of : Program → Ty → Option Ty
base_of p t = base_from p (in_set (out-Ty t)) (out-Ty t)

abbrev pub interfaces_from : Program → Option (ℕ × List Ty) → List Ty
interfaces_from p None = []
interfaces_from p (Some d) = all_under d.1 [] (type_of p d.0).interfaces

-- the interfaces that a closed type names (ECMA-335, II.22.23)
unfoldable pub interfaces_of : Program → Ty → List Ty
interfaces_of p t = interfaces_from p (in_set (out-Ty t))

abbrev pub chain_on : (Ty → List Ty) → Option Ty → List Ty
chain_on go None = []
chain_on go (Some t) = go t

-- a type and its bases, the nearest first, at most so many
unfoldable pub chain_within : ℕ → Program → Ty → List Ty
chain_within zero p t = t ∷ []
chain_within (suc n) p t = t ∷ chain_on (chain_within n p) (base_of p t)

-- Bases don't form a cycle, and a core type has at most four above it.
abbrev pub most_bases : Program → ℕ
most_bases p = length p.types + 8

abbrev pub chain : Program → Ty → List Ty
chain p t = chain_within (most_bases p) p t

unfoldable pub is_sub_within : ℕ → Program → Ty → Ty → Bool
is_sub_within zero p a b = same_ty a b
is_sub_within (suc n) p a b = same_ty a b || any (λ c. is_sub_within n p c b) (option_to_list (base_of p a) ++ interfaces_of p a)

-- A closed type is a sub of itself, of its base and of its interfaces, and of those of which they are subs (ECMA-335, I.8.7).
unfoldable pub is_sub : Program → Ty → Ty → Bool
is_sub p a b = is_sub_within (most_bases p) p a b
