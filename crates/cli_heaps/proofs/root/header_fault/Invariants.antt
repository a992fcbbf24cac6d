use Rattle.std.proofs.Common.{◌≡◌, ◌≤◌, length}
use Rattle.cil_base.specs.Refusals.{first_of}
use Rattle.cli_heaps.specs.Root.{first_header, stream_count}
use Rattle.cli_heaps.specs.RootRules.{header_tests}
use Rattle.cli_heaps.proofs.root.header_fault.Given as goal

abbrev pub invariant-loop-left : goal.invariant-loop-left
invariant-loop-left l = record {
  within : l.at ≤ length l.meta;
  rest : first_of (header_tests l.meta l.assembly l.at l.left) ≡ first_of (header_tests l.meta l.assembly (first_header l.meta) (stream_count l.meta));
}

abbrev pub decreases-loop-left : goal.decreases-loop-left
decreases-loop-left l = l.left
