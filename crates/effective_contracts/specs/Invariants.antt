-- Which methods check the invariants of their type, and which clauses these are (Code Contracts User Manual, section 2.3; the rule on Dispose is this project's own).
use Rattle.std.specs.Prelude.{ℕ, ◌+◌, Bool, true, false, ◌&&◌, ◌||◌, ◌==◌, not, bytes_eq, is_some, get_or, if◌then◌else◌, List, [], ◌∷◌, ◌++◌, map, filter, codes, Option, Some, None}
use Rattle.cil_model.specs.declared.contract.Clause.{Clause}
use Rattle.cil_model.specs.declared.contract.OwnContracts.{OwnContracts}
use Rattle.cil_model.specs.declared.program.Impl.{Impl}
use Rattle.cil_model.specs.declared.program.MethodDesc.{MethodDesc}
use Rattle.cil_model.specs.declared.program.Program.{Program}
use Rattle.cil_model.specs.declared.program.TypeDesc.{TypeDesc}
use Rattle.cil_model.specs.declared.ty.Instance.{Instance}
use Rattle.cil_model.specs.declared.ty.Ty.{Ty, out-Ty, Known}
use Rattle.cil_model.specs.declared.ty.Under.{Under}
use Rattle.cil_semantics.specs.Core.{Name}
use Rattle.cil_semantics.specs.Dispatch.{is_public, is_virtual}
use Rattle.cil_semantics.specs.Lookups.{args_of, chain, in_set, method_of, type_of}
use Rattle.cil_semantics.specs.Types.{is_empty, is_outside, is_prim}
use Rattle.cil_semantics.specs.Words.{any, maybe}
use Rattle.clause_types.specs.ClauseTypes.{clause_under}

-- ---- methods

-- a method of the name that has no parameters
abbrev pub is_bare : Name → MethodDesc → Bool
is_bare name d = bytes_eq d.name name && is_empty d.params

-- System.IDisposable
abbrev pub is_disposable : Ty → Bool
is_disposable t = is_outside (codes "System.IDisposable") (out-Ty t)

-- a row for its Dispose
abbrev pub is_dispose_row : Program → Impl → Bool
is_dispose_row p i = is_disposable i.owner && is_bare (codes "Dispose") (method_of p i.declaration)

abbrev pub dispose_rows : Program → TypeDesc → List Impl
dispose_rows p d = filter (is_dispose_row p) d.impls

abbrev pub has_no_row : List Impl → Bool
has_no_row [] = true
has_no_row (i ∷ is) = false

-- the signature and the access of Dispose
abbrev pub is_like_dispose : MethodDesc → Bool
is_like_dispose d = is_public d && (is_virtual d && (not d.is_static && ((d.generics == 0) && is_prim 0x01 (out-Ty d.result))))

-- A Dispose without parameters implements System.IDisposable.Dispose: a row says so, or it is public and virtual and no row names that one (ECMA-335, II.12.2).
abbrev pub disposes : Program → ℕ → Bool
disposes p m =
    let d : MethodDesc = method_of p m in
    let t : TypeDesc = type_of p d.owner in
    is_bare (codes "Dispose") d
    && (any (λ (i : Impl). i.body == m) (dispose_rows p t) || (has_no_row (dispose_rows p t) && (any is_disposable t.interfaces && is_like_dispose d)))

-- an invariant method, an abbreviator, or a member of a contract class
abbrev pub speaks_for_others : Program → ℕ → Bool
speaks_for_others p m = (method_of p m).invariant || ((method_of p m).abbreviator || is_some (type_of p (method_of p m).owner).contract_class_for)

-- A public instance method or constructor with a body checks the invariants, but for Finalize and Dispose.
abbrev pub checks_invariants : Program → ℕ → Bool
checks_invariants p m =
    let d : MethodDesc = method_of p m in
    (is_public d && (not d.is_static && is_some d.body)) && not (is_bare (codes "Finalize") d || disposes p m)

-- ---- their clauses

-- what stands for the parameters of a type with these arguments, which such instances name; nothing where there are none
abbrev pub args_under : List Ty → List Instance → Option Under
args_under args is = if is_empty args then None else Some (record { type_args = args; method_args = []; instances = is })

abbrev pub is_of : Program → ℕ → ℕ → Bool
is_of p assembly k = ((type_of p k).assembly == assembly) && not (type_of p k).outside

-- the invariants of a type of TARGET, as its heir sees them
abbrev pub type_invariants : Program → OwnContracts → ℕ → Ty → List Instance → List Clause
type_invariants p own target t is =
    maybe [] (λ (d : ℕ × List Ty). if is_of p target d.0 then map (clause_under (args_under d.1 is)) (get_or own.invariants d.0 []) else []) (in_set (out-Ty t))

-- those of types, each the base of the one before it: the base's first. The instances stand by the place of the type.
abbrev pub base_first : Program → OwnContracts → ℕ → List (List Instance) → ℕ → List Ty → List Clause
base_first p own target given n [] = []
base_first p own target given n (t ∷ ts) = base_first p own target given (n + 1) ts ++ type_invariants p own target t (get_or given n [])

abbrev pub invariants : Program → OwnContracts → ℕ → ℕ → List (List Instance) → List Clause
invariants p own target m given =
    if checks_invariants p m && not (speaks_for_others p m)
    then base_first p own target given 0 (chain p (Known (method_of p m).owner))
    else []
