use Rattle.std.proofs.Common.{◌≡◌, ◌+◌, drop}
use Rattle.std.specs.Prelude.{◌||◌}
use Rattle.std.specs.List.{enumerate_from, list_any, slice_range}
use Rattle.contract_parts.specs.Parts.{is_base_call}
use Rattle.contract_parts.proofs.lead.calls_base.Given as goal

abbrev pub invariant-loop-instr : goal.invariant-loop-instr
invariant-loop-instr l =
    (l.at ≡ l.statement.from + l.instr-index)
    × ((l.found || list_any (is_base_call l.code) (enumerate_from (l.statement.from + l.instr-index) (drop l.instr-index l.own)))
    ≡ list_any (is_base_call l.code) (enumerate_from l.statement.from (slice_range l.code.body.instrs l.statement.from l.statement.to)))
