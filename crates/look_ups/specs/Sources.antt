-- The sources of a method: the methods whose contracts it has (own; overriding and implementing by ECMA-335, II.10.3 and II.12.2).
use Rattle.std.specs.Prelude.{ℕ, zero, suc, ◌==◌, ◌&&◌, ◌||◌, not, Bool, true, false, if◌then◌else◌, List, [], ◌∷◌, ◌++◌, map, filter, flat_map, option_to_list}
use Rattle.std.specs.List.{range_with_len}
use Rattle.cil_model.specs.declared.ty.Ty.{Ty}
use Rattle.cil_model.specs.declared.ty.Ty.TheVariants as ty
use Rattle.cil_model.specs.declared.program.Program.{Program}
use Rattle.cil_model.specs.declared.program.Impl.{Impl}
use Rattle.cil_model.specs.declared.program.Source.{Source}
use Rattle.cil_semantics.specs.Words.{any}
use Rattle.cil_semantics.specs.Types.{under, same_ty}
use Rattle.cil_semantics.specs.Lookups.{type_of, method_of, args_of, interfaces_of, most_bases}
use Rattle.cil_semantics.specs.Dispatch.{Seen, same_seen, same_shape, is_virtual, is_public, takes_new_slot, impls_of, methods_of, row_counts, by_rows, bases, hidden_by}

-- the type of a method, with its own parameters for its arguments
abbrev pub own_type : Program → ℕ → Ty
own_type p k = if (type_of p k).generics == 0 then ty.Known k else ty.Inst k (map ty.Var (range_with_len 0 (type_of p k).generics))

-- what a MethodImpl row declares, seen from a type
abbrev pub declared : Ty → Impl → Seen
declared t i = (under (args_of t) [] i.owner, i.declaration)

-- the methods of bases that rows of the type name for a method, in row order
abbrev pub by_row : Program → Seen → List Seen
by_row p s =
    filter (λ (d : Seen). any (same_ty d.0) (bases p s.0))
    (map (declared s.0) (filter (λ (i : Impl). (i.body == s.1) && row_counts p s.0 i) (impls_of p s.0)))

-- what of these one row declares
abbrev pub row_declares : Program → Seen → Impl → List Seen
row_declares p s i = if (i.body == s.1) && row_counts p s.0 i then (if any (same_ty (declared s.0 i).0) (bases p s.0) then declared s.0 i ∷ [] else []) else []

-- the method of the nearest base that has one of its name and signature
abbrev pub by_name : Program → Seen → List Seen
by_name p s = if is_virtual (method_of p s.1) && not (takes_new_slot (method_of p s.1)) then option_to_list (hidden_by p s) else []

abbrev pub is_none_of : List ℕ → Bool
is_none_of [] = true
is_none_of (m ∷ ms) = false

-- A method implements an interface's method: a row says so, or it is public and virtual with its name and signature, and no row names that method.
abbrev pub implements : Program → Seen → Seen → Bool
implements p s i =
    any (λ b. b == s.1) (by_rows p s.0 i)
    || (is_none_of (by_rows p s.0 i) && (is_public (method_of p s.1) && (is_virtual (method_of p s.1) && same_shape p s i)))

-- the interface methods that it implements, by InterfaceImpl row and then by MethodDef row
abbrev pub implemented : Program → Seen → List Seen
implemented p s = filter (implements p s) (flat_map (λ t. map (λ m. (t, m)) (methods_of p t)) (interfaces_of p s.0))

-- each at its first place
abbrev pub once : List Seen → List Seen → List Seen
once found [] = found
once found (s ∷ more) = once (if any (same_seen s) found then found else found ++ s ∷ []) more

unfoldable pub sources_within : ℕ → Program → Seen → List Seen
sources_within zero p s = s ∷ []
sources_within (suc n) p s = once [] (flat_map (sources_within n p) (by_row p s ++ by_name p s) ++ (implemented p s ++ s ∷ []))

abbrev pub source_of : Seen → Source
source_of s = record { method = s.1; args = args_of s.0 }

-- The sources of a method in order, with the arguments under which they are seen from its type.
unfoldable pub sources_of : Program → ℕ → List Source
sources_of p m = map source_of (sources_within (most_bases p) p (own_type p (method_of p m).owner, m))
