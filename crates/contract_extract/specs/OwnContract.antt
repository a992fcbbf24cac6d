-- The own contract of a body: its clauses and its asserts, in order (Code Contracts User Manual, sections 2 and 2.6).
use Rattle.std.specs.Prelude.{ℕ, Bool, false, List, [], filter, map, Option, None, slice_get, option_map, option_and_then}
use Rattle.std.specs.List.{filter_map}
use Rattle.cil_model.specs.declared.body.Instr.{Instr}
use Rattle.cil_model.specs.declared.contract.Clause.{Clause}
use Rattle.cil_model.specs.declared.contract.ClauseKind.{ClauseKind}
use Rattle.cil_model.specs.declared.contract.Contract.{Contract}
use Rattle.cil_model.specs.declared.contract.TyRef.{TyRef}
use Rattle.cil_semantics.specs.Core.{Name}
use Rattle.cil_semantics.specs.Words.{maybe}
use Rattle.cil_semantics.specs.ContractCalls.{contract_call, has_message}
use Rattle.contract_parts.specs.declared.segment.Segment.{Segment}
use Rattle.contract_parts.specs.Flow.{Code, placed}
use Rattle.contract_parts.specs.CallKinds.{ended_kind, checked_kind}
use Rattle.contract_parts.specs.Parts.{segments, segment_instrs, lead_end, rest_from, is_in}
use Rattle.contract_extract.specs.declared.numbers.Ended.{Ended}
use Rattle.contract_extract.specs.declared.numbers.Counted.{Counted}
use Rattle.contract_extract.specs.Clauses.{counted, label, clause_instrs, clause_locals, clause_olds, exception_of}

-- the kind of the clause that the call at a place ends
abbrev pub ended_at : Code → ℕ → Option ClauseKind
ended_at c at = option_and_then (λ i. ended_kind (contract_call c.program i)) (slice_get c.body.instrs at)

-- A segment whose call ends a clause. EndContractBlock and an abbreviator give none here.
abbrev pub ended : Code → Segment → Option Ended
ended c s = option_map (λ k. record { segment = s; kind = k }) (ended_at c s.at)

-- an Assert or Assume call, which is a segment of its own
abbrev pub checked : Code → ℕ × Instr → Option Ended
checked c x = option_map (λ k. record { segment = record { from = x.0; at = x.0 }; kind = k }) (checked_kind (contract_call c.program x.1))

abbrev pub clauses_in : Code → List Counted
clauses_in c = counted (filter_map (ended c) (segments c))

-- the Assert and Assume calls of a body, wherever they stand
abbrev pub inlines : Code → List Counted
inlines c = counted (filter_map (checked c) (placed c))

abbrev pub label_of : Code → Counted → Name
label_of c x = label c.program c.method x.kind x.number

-- the labels of the Assert and Assume calls within a segment
abbrev pub inline_labels : Code → Segment → List Name
inline_labels c s = map (label_of c) (filter (λ (x : Counted). is_in x.segment.at s) (inlines c))

-- the call at a place has a message
abbrev pub has_message_at : Code → ℕ → Bool
has_message_at c at = maybe false (has_message c.program) (slice_get c.body.instrs at)

abbrev pub exception_at : Code → ClauseKind → ℕ → Option TyRef
exception_at c k at = option_and_then (λ (i : Instr). exception_of k i.operand) (slice_get c.body.instrs at)

-- a clause's kind, method, message and label
abbrev pub bare_clause : Code → Counted → Clause
bare_clause c x =
    record { kind = x.kind; home = c.method; instrs = []; locals = []; olds = []; exception = None; user = has_message_at c x.segment.at; label = label_of c x; inline = [] }

-- a clause of an Assert or Assume: its call alone
abbrev pub inline_clause : Code → Counted → Clause
inline_clause c x = record (bare_clause c x) { instrs = segment_instrs c x.segment }

abbrev pub clause_of : Code → Counted → Clause
clause_of c x =
    record (bare_clause c x) {
      instrs = clause_instrs c x.segment;
      locals = clause_locals c x.segment;
      olds = clause_olds c x.segment;
      exception = exception_at c x.kind x.segment.at;
      inline = inline_labels c x.segment;
    }

unfoldable pub own_contract : Code → Contract
own_contract c =
    record { lead_end = lead_end c; rest_from = rest_from c; clauses = map (clause_of c) (clauses_in c); asserts = map (inline_clause c) (inlines c) }
