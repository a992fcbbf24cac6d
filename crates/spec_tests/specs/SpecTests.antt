-- The places where TypeSpec rows stand, and the parameters that are there (ECMA-335, II.22.20, II.22.21, II.22.23, II.22.27, II.22.37, II.22.39).
use Rattle.std.specs.Prelude.{◌≡◌, ℕ, ◌+◌, ◌*◌, ◌/◌, ◌%◌, ◌≤◌, ◌==◌, ◌&&◌, min, Bool, if◌then◌else◌, List, [], filter, length, get_or, Option, Some, None}
use Rattle.cil_base.specs.declared.tables.TheConstants.{GENERIC_PARAM, GENERIC_PARAM_CONSTRAINT, INTERFACE_IMPL, MEMBER_REF, METHOD_IMPL, TYPE_DEF, TYPE_SPEC}
use Rattle.cli_sigs.specs.declared.types.SigTy.{SigTy}
use Rattle.set_rows.specs.Sets.{Assembly, count_in, rows_in, cell}
use Rattle.set_types.specs.SignatureTypes.{Coded}
use Rattle.set_types.specs.SignatureRules.{any, passes, strays_within}
use Rattle.set_program.specs.Kinds.{generics}
use Rattle.row_descriptions.specs.RowLists.{rows_with}
use Rattle.member_table.specs.MemberRules.{is_parent, owner_parameters}

-- ---- contexts: how many parameters a type has, and its method

-- a parameter in a list of types isn't among those of a context
abbrev pub strays_in : Coded → List SigTy → ℕ × ℕ → Bool
strays_in c types context = any (strays_within c context.0 context.1 1000) types

-- a parameter strays in one of the contexts just where it strays in this one; nowhere, where there is none
abbrev pub IsNarrowest : List (ℕ × ℕ) → Option (ℕ × ℕ) → Type 0
IsNarrowest contexts narrowest = (c : Coded) (types : List SigTy) → any (strays_in c types) contexts ≡ passes (strays_in c types) narrowest

-- the context with the parameters that two have both
abbrev pub shared : Option (ℕ × ℕ) → Option (ℕ × ℕ) → Option (ℕ × ℕ)
shared None other = other
shared (Some p) None = Some p
shared (Some p) (Some q) = Some (min p.0 q.0, min p.1 q.1)

-- the context of a row that names a type: as the base of a TypeDef row, as an interface, as the type of a member, as a constraint
abbrev pub context_at : Assembly → ℕ → ℕ → ℕ × ℕ
context_at x table row =
    if table == TYPE_DEF then (generics x (row * 2), 0)
    else if table == INTERFACE_IMPL then (generics x (cell x INTERFACE_IMPL row 0 * 2), 0)
    else if table == METHOD_IMPL then (generics x (cell x METHOD_IMPL row 0 * 2), 0)
    else owner_parameters x (cell x GENERIC_PARAM (cell x GENERIC_PARAM_CONSTRAINT row 0) 2)

-- the MethodImpl rows that name a member of a TypeSpec row by a column
abbrev pub parent_rows : Assembly → ℕ → ℕ → List ℕ
parent_rows x column row = filter (λ i. is_parent x row (cell x METHOD_IMPL i column)) (rows_in x METHOD_IMPL)

-- the TypeSpec row of the member that a MethodDefOrRef index names; 0 where there is none
abbrev pub parent_spec : Assembly → ℕ → ℕ
parent_spec x coded = if (coded % 2 == 1) && (cell x MEMBER_REF (coded / 2) 0 % 8 == 4) then cell x MEMBER_REF (coded / 2) 0 / 8 else 0

-- the rows that name the types of TypeSpec rows, as lists by TypeDefOrRef index, and those of MethodImpl by TypeSpec row
pub record AreUses (x : Assembly) (types interfaces constraints firsts seconds : List (List ℕ)) : Type 0 where
  pub of_types : (row : ℕ) → row ≤ count_in x TYPE_SPEC → get_or types (row * 4 + 2) [] ≡ rows_with x TYPE_DEF 3 (row * 4 + 2)
  pub of_interfaces : (row : ℕ) → row ≤ count_in x TYPE_SPEC → get_or interfaces (row * 4 + 2) [] ≡ rows_with x INTERFACE_IMPL 1 (row * 4 + 2)
  pub of_constraints : (row : ℕ) → row ≤ count_in x TYPE_SPEC → get_or constraints (row * 4 + 2) [] ≡ rows_with x GENERIC_PARAM_CONSTRAINT 1 (row * 4 + 2)
  pub of_firsts : (row : ℕ) → 1 ≤ row → row ≤ count_in x TYPE_SPEC → get_or firsts row [] ≡ parent_rows x 1 row
  pub of_seconds : (row : ℕ) → 1 ≤ row → row ≤ count_in x TYPE_SPEC → get_or seconds row [] ≡ parent_rows x 2 row
