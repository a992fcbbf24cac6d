use Rattle.std.proofs.Common.{◌≡◌, ◌++◌, take}
use Rattle.run_lines.specs.Results.{trace_text}
use Rattle.run_lines.proofs.results.push_trace.Given as goal

abbrev pub invariant-loop-item : goal.invariant-loop-item
invariant-loop-item l = l.out ≡ l.initial.out ++ trace_text (take l.item-index l.trace)
