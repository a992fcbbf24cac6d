-- The exceptions that contracts name: which types they may be (Code Contracts User Manual, sections 2.1 and 2.2).
use Rattle.std.specs.Prelude.{ℕ, zero, suc, ◌+◌, ◌/◌, ◌%◌, Bool, true, false, ◌&&◌, ◌||◌, ◌==◌, not, bytes_eq, List, [], ◌∷◌, length, slice_get, Option, Some, None, option_and_then, codes}
use Rattle.std.specs.List.{list_any}
use Rattle.cil_model.specs.declared.contract.ClauseKind.{ClauseKind}
use Rattle.cil_model.specs.declared.contract.ClauseKind.TheVariants as kind
use Rattle.cil_model.specs.declared.ty.Ty.{Ty, out-Ty}
use Rattle.cil_model.specs.declared.ty.Ty.TheOpen.{Ty-F}
use Rattle.cil_model.specs.declared.program.Program.{Program}
use Rattle.cil_model.specs.declared.program.TypeDesc.{TypeDesc}
use Rattle.cil_model.specs.declared.program.MethodDesc.{MethodDesc}
use Rattle.cil_semantics.specs.Words.{maybe}
use Rattle.cil_semantics.specs.Core.{Name, ends_with}
use Rattle.cil_semantics.specs.Types.{Layer, is_prim}
use Rattle.cil_semantics.specs.Lookups.{type_of, method_of}
use Rattle.cil_semantics.specs.Checks.{is_accessible}
use Rattle.contract_parts.specs.Parts.{type_number}

-- the outside types of which it is known that they are no exceptions; of all others only the name is known
abbrev pub no_exceptions : List Name
no_exceptions =
    codes "System.ValueType" ∷ codes "System.Enum" ∷ codes "System.Array" ∷ codes "System.Delegate" ∷ codes "System.MulticastDelegate" ∷ codes "System.IDisposable" ∷ []

abbrev pub is_no_exception : Name → Bool
is_no_exception name = list_any (λ n. bytes_eq n name) no_exceptions

-- an outside class under System.Exception: its name ends so
abbrev pub is_outside_exception : Layer → Bool
is_outside_exception (Ty-F.Outside name value) = ends_with name (codes "Exception")
is_outside_exception _ = false

-- the base that a type of the set names (ECMA-335, II.22.37)
abbrev pub named_base : Program → Ty → Option Ty
named_base p t = option_and_then (λ k. option_and_then (λ (d : TypeDesc). d.base) (slice_get p.types k)) (type_number t)

-- an outside exception class is the type or among so many bases
unfoldable pub is_exception_within : ℕ → Program → Ty → Bool
is_exception_within zero p t = false
is_exception_within (suc n) p t = is_outside_exception (out-Ty t) || maybe false (is_exception_within n p) (named_base p t)

-- bases don't form a cycle, so there are no more than types
abbrev pub is_exception : Program → Ty → Bool
is_exception p t = is_exception_within (length p.types + 1) p t

-- a constructor without parameters, or of a string
abbrev pub takes_text : List Ty → Bool
takes_text [] = true
takes_text (t ∷ []) = is_prim 0x0E (out-Ty t)
takes_text (t ∷ u ∷ ts) = false

-- a constructor that the method's clause can call
abbrev pub makes_exception : Program → ℕ → ℕ → Bool
makes_exception p home m =
    bytes_eq (method_of p m).name (codes ".ctor") && (takes_text (method_of p m).params && is_accessible p home m)

-- abstract (ECMA-335, II.23.1.15), or without such a constructor
abbrev pub cant_be_made : Program → ℕ → TypeDesc → Bool
cant_be_made p home t = (t.flags / 128 % 2 == 1) || not (list_any (makes_exception p home) t.methods)

abbrev pub must_be_made : ClauseKind → Bool
must_be_made kind.RequiresOf = true
must_be_made _ = false

abbrev pub is_wrong_outside : Layer → Bool
is_wrong_outside (Ty-F.Outside name value) = is_no_exception name
is_wrong_outside _ = true

-- the type is no exception type, or of the set and not to be made though it must be
abbrev pub is_wrong_type : Program → ℕ → ClauseKind → Ty → Bool
is_wrong_type p home k t =
    maybe (is_wrong_outside (out-Ty t)) (λ n. not (is_exception p t) || (must_be_made k && cant_be_made p home (type_of p n))) (type_number t)
