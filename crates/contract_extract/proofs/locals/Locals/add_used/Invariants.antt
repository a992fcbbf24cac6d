use Rattle.std.proofs.Common.{◌≡◌, drop}
use Rattle.std.specs.List.{filter_map}
use Rattle.contract_extract.specs.Clauses.{distinct_behind}
use Rattle.contract_extract.specs.Locals.{used}
use Rattle.contract_extract.proofs.locals.Locals.add_used.Given as goal

abbrev pub invariant-loop-instr : goal.invariant-loop-instr
invariant-loop-instr l =
    distinct_behind l.self (filter_map (used l.how) (drop l.instr-index l.instrs)) ≡ distinct_behind l.initial.self (filter_map (used l.how) l.instrs)
