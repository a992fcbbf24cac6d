-- What holds of a call of a method: the clauses of its sources, the invariants of its type, and its own asserts (Code Contracts User Manual, sections 2 and 2.3; the order of the sources is this project's own).
use Rattle.std.specs.Prelude.{ℕ, Bool, true, false, ◌&&◌, ◌==◌, not, get_or, if◌then◌else◌, List, [], ◌∷◌, map, Option, None}
use Rattle.std.specs.List.{enumerate_from, flat_map}
use Rattle.cil_model.specs.declared.contract.Clause.{Clause}
use Rattle.cil_model.specs.declared.contract.ClauseKind.{ClauseKind}
use Rattle.cil_model.specs.declared.contract.ClauseKind.TheVariants as kind
use Rattle.cil_model.specs.declared.contract.Effective.{Effective}
use Rattle.cil_model.specs.declared.contract.OwnContracts.{OwnContracts}
use Rattle.cil_model.specs.declared.program.Program.{Program}
use Rattle.cil_model.specs.declared.program.Source.{Source}
use Rattle.cil_model.specs.declared.ty.Instance.{Instance}
use Rattle.cil_model.specs.declared.ty.Under.{Under}
use Rattle.cil_semantics.specs.Words.{any}
use Rattle.clause_types.specs.ClauseTypes.{clause_under}
use Rattle.look_ups.specs.Sources.{sources_of}
use Rattle.own_contracts.specs.Own.{contract_at}
use Rattle.effective_contracts.specs.Invariants.{args_under, invariants, speaks_for_others}

-- the clauses that a method has of its own
abbrev pub own_clauses : Program → OwnContracts → ℕ → List Clause
own_clauses p own m = if speaks_for_others p m then [] else (contract_at own.by_method m).clauses

-- what stands for the type parameters of a source, as the heir sees it; nothing for the method itself
abbrev pub source_under : ℕ → Source → List Instance → Option Under
source_under m s is = if s.method == m then None else args_under s.args is

-- what a source with its place says of the heir; the instances stand by the place of the source
abbrev pub said_by : Program → OwnContracts → ℕ → List (List Instance) → ℕ × Source → List Clause
said_by p own m given x = map (clause_under (source_under m x.1 (get_or given x.0 []))) (own_clauses p own x.1.method)

abbrev pub clauses : Program → OwnContracts → ℕ → List (List Instance) → List Clause
clauses p own m given =
    if speaks_for_others p m then [] else flat_map (said_by p own m given) (enumerate_from 0 (sources_of p m))

-- The effective contract of a method, where instances of these arguments name its sources and its bases.
unfoldable pub effective : Program → OwnContracts → ℕ → ℕ → List (List Instance) → List (List Instance) → Effective
effective p own target m sources bases =
    record {
      lead_end = (contract_at own.by_method m).lead_end;
      rest_from = (contract_at own.by_method m).rest_from;
      clauses = clauses p own m sources;
      invariants = invariants p own target m bases;
      asserts = (contract_at own.by_method m).asserts;
    }

-- ---- a precondition that comes too late

abbrev pub is_precondition : ClauseKind → Bool
is_precondition kind.Requires = true
is_precondition kind.RequiresOf = true
is_precondition _ = false

-- The method has sources before itself, and preconditions of its own (H1).
unfoldable pub adds_precondition : Program → OwnContracts → ℕ → Bool
adds_precondition p own m =
    any (λ (x : Clause). is_precondition x.kind) (own_clauses p own m) && any (λ (s : Source). not (s.method == m)) (sources_of p m)
