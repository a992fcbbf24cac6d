-- Calls of abbreviators, and the clauses that they stand for. Each statement is named by what it shows.
use Rattle.std.specs.Prelude.{◌≡◌, List, [], ◌∷◌, map, Some, None, codes}
use Rattle.cil_model.specs.declared.contract.Clause.{Clause}
use Rattle.cil_model.specs.declared.contract.ClauseKind.TheVariants as kind
use Rattle.cil_model.specs.declared.ty.Instance.{Instance}
use Rattle.cil_model.specs.declared.ty.Ty.{MVar, Prim}
use Rattle.contract_extract.specs.Clauses.{no_numbers}
use Rattle.clause_types.specs.ClauseTypes.{ref_under}
use Rattle.clause_expansion.specs.Expansion.{expanded}
use Rattle.clause_expansion.specs.Labels.{labelled_from}
use Rattle.expansion_rows.specs.Samples.{ldarg, ldloc, stloc, int, sub, above, jump, jump_if_false, requires, assert_call, old_value, clause, ty, site, under_method, program}

-- `Pos(int32 a)` requires a > 0.
abbrev pub pos_clause : Clause
pos_clause = clause kind.Requires (ldarg 0 ∷ int 0 ∷ above ∷ requires ∷ [])

-- `Pos(x - 1)` in U requires x - 1 > 0.
abbrev pub ArgumentStandsForItsParameter : Type 0
ArgumentStandsForItsParameter =
    labelled_from program 0 no_numbers (expanded (site ((ldarg 0 ∷ int 1 ∷ sub ∷ []) ∷ [])) pos_clause ∷ [])
    ≡ record (clause kind.Requires (ldarg 0 ∷ int 1 ∷ sub ∷ int 0 ∷ above ∷ requires ∷ [])) { home = 0; label = codes "T::U/requires/0" } ∷ []

-- `a ? b : 0`, where both arguments take more than one instruction and the first one has a branch of its own
abbrev pub choice : Clause
choice = clause kind.Requires (ldarg 0 ∷ jump_if_false 4 ∷ ldarg 1 ∷ jump 5 ∷ int 0 ∷ requires ∷ [])

abbrev pub BranchesGoWhereTheirTargetsStand : Type 0
BranchesGoWhereTheirTargetsStand =
    (expanded (site ((ldarg 4 ∷ jump_if_false 4 ∷ int 1 ∷ jump 5 ∷ int 2 ∷ []) ∷ (ldarg 3 ∷ int 1 ∷ sub ∷ []) ∷ [])) choice).instrs
    ≡ ldarg 4 ∷ jump_if_false 4 ∷ int 1 ∷ jump 5 ∷ int 2 ∷ jump_if_false 10 ∷ ldarg 3 ∷ int 1 ∷ sub ∷ jump 11 ∷ int 0 ∷ requires ∷ []

-- an argument that is loaded twice stands twice, each copy with its own targets
abbrev pub EachLoadIsACopy : Type 0
EachLoadIsACopy =
    (expanded (site ((ldarg 2 ∷ jump_if_false 3 ∷ int 1 ∷ []) ∷ [])) (clause kind.Requires (ldarg 0 ∷ ldarg 0 ∷ above ∷ requires ∷ []))).instrs
    ≡ ldarg 2 ∷ jump_if_false 3 ∷ int 1 ∷ ldarg 2 ∷ jump_if_false 6 ∷ int 1 ∷ above ∷ requires ∷ []

-- The caller's locals stand behind the abbreviator's, and what stands before the arguments stands before the clause.
abbrev pub LocalsAreCopied : Type 0
LocalsAreCopied =
    expanded (record { lead = ldarg 1 ∷ stloc 0 ∷ []; args = (ldloc 0 ∷ []) ∷ []; locals = ty 5 ∷ []; under = None })
    (record (clause kind.Requires (ldarg 0 ∷ stloc 0 ∷ ldloc 0 ∷ requires ∷ [])) { locals = ty 3 ∷ [] })
    ≡ record (clause kind.Requires (ldarg 1 ∷ stloc 1 ∷ ldloc 1 ∷ stloc 0 ∷ ldloc 0 ∷ requires ∷ [])) { locals = ty 3 ∷ ty 5 ∷ [] }

abbrev pub OldRangesGrow : Type 0
OldRangesGrow =
    expanded (site ((ldarg 3 ∷ int 1 ∷ sub ∷ []) ∷ []))
    (record (clause kind.Ensures (ldarg 0 ∷ ldarg 0 ∷ old_value ∷ above ∷ requires ∷ [])) { olds = record { from = 1; to = 2; ty = ty 4 } ∷ [] })
    ≡ record (clause kind.Ensures (ldarg 3 ∷ int 1 ∷ sub ∷ ldarg 3 ∷ int 1 ∷ sub ∷ old_value ∷ above ∷ requires ∷ [])) { olds = record { from = 3; to = 6; ty = ty 4 } ∷ [] }

-- ---- generics

abbrev pub by_int : Instance
by_int = record { assembly = 0; type_args = []; method_args = (0x08 ∷ []) ∷ [] }

abbrev pub by_parameter : Instance
by_parameter = record { assembly = 0; type_args = []; method_args = (0x1E ∷ 0x00 ∷ []) ∷ [] }

-- A type argument of the call stands under the abbreviator's instructions and not under the caller's.
abbrev pub TypeArgumentsStandUnderTheAbbreviator : Type 0
TypeArgumentsStandUnderTheAbbreviator =
    (expanded (record (site ((ldarg 3 ∷ []) ∷ [])) { under = Some (under_method (Prim 0x08 ∷ []) by_int) })
    (record (clause kind.RequiresOf (ldarg 0 ∷ requires ∷ [])) { exception = Some (ty 2) }))
    ≡ record (clause kind.RequiresOf (ldarg 3 ∷ record requires { under = Some (under_method (Prim 0x08 ∷ []) by_int) } ∷ [])) { exception = Some (record (ty 2) { under = Some (under_method (Prim 0x08 ∷ []) by_int) }) }

-- `A<T>` calls `B<T>`, and the caller `A<int>`: in B's clause int stands for B's parameter, and both instances are told, B's first.
abbrev pub InstancesFollowOneAnother : Type 0
InstancesFollowOneAnother =
    ref_under (Some (under_method (Prim 0x08 ∷ []) by_int)) (ref_under (Some (under_method (MVar 0 ∷ []) by_parameter)) (ty 2))
    ≡ record (ty 2) { under = Some (record { type_args = []; method_args = Prim 0x08 ∷ []; instances = by_parameter ∷ by_int ∷ [] }) }

-- ---- abbreviators of abbreviators, and labels

-- `Neg(x)` in Pos, which calls it with its own parameter less one, and `Pos(y)` in the caller
abbrev pub AbbreviatorsCallAbbreviators : Type 0
AbbreviatorsCallAbbreviators =
    (expanded (site ((ldarg 5 ∷ []) ∷ [])) (expanded (site ((ldarg 0 ∷ int 1 ∷ sub ∷ []) ∷ [])) pos_clause)).instrs
    ≡ ldarg 5 ∷ int 1 ∷ sub ∷ int 0 ∷ above ∷ requires ∷ []

-- three clauses, of which the first has an assert and the last two
abbrev pub three : List Clause
three =
    labelled_from program 0 no_numbers
    (clause kind.Requires (ldarg 0 ∷ assert_call ∷ requires ∷ []) ∷ clause kind.Ensures (requires ∷ []) ∷ clause kind.RequiresOf (assert_call ∷ assert_call ∷ requires ∷ []) ∷ [])

-- Requires and Requires<E> share one count.
abbrev pub LabelsAreTheCallers : Type 0
LabelsAreTheCallers = map (λ (x : Clause). x.label) three ≡ codes "T::U/requires/0" ∷ codes "T::U/ensures/0" ∷ codes "T::U/requires/1" ∷ []

abbrev pub AssertsAreNumberedOverAllClauses : Type 0
AssertsAreNumberedOverAllClauses =
    map (λ (x : Clause). x.inline) three
    ≡ (codes "T::U/assert/0" ∷ []) ∷ [] ∷ (codes "T::U/assert/1" ∷ codes "T::U/assert/2" ∷ []) ∷ []
