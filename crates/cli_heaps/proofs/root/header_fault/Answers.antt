use Rattle.std.proofs.Common.{◌∙◌, sym, ap, arith, ◌-◌}
use Rattle.cil_base.specs.Refusals.{first_of}
use Rattle.cli_heaps.specs.RootRules.{header_tests, stream_tests}
use Rattle.cli_heaps.proofs.StreamLaws.{Begins, begins}
use Rattle.cli_heaps.proofs.RootLaws.{tests_step, first_behind, first_before}
use Rattle.cli_heaps.proofs.root.header_fault.Goals as goal

pub returns-in-Some-stream_fault : goal.returns-in-Some-stream_fault
returns-in-Some-stream_fault c =
    let here = stream_tests c.args.meta.now c.args.assembly c.in-Some.stream in
    let rest = header_tests c.args.meta.now c.args.assembly c.in-Some.end (c.loop-left.left - 1) in
    sym (first_before here rest c.in-Some-stream_fault.fault (sym c.in-Some-stream_fault.ensures))
    ∙ sym (ap first_of (tests_step c.args.meta.now c.args.assembly c.loop-left.at c.loop-left.left c.in-Some.end c.in-Some.stream (omega arith) (sym c.in-Some.ensures)))
    ∙ c.loop-left.invariant.rest

pub loop-left-preserved : goal.loop-left-preserved
loop-left-preserved c =
    let step : Begins c.args.meta.now c.loop-left.at c.loop-left.left c.in-Some.end c.in-Some.stream = begins c.args.meta.now c.loop-left.at c.loop-left.left c.in-Some.end c.in-Some.stream (omega arith) (sym c.in-Some.ensures) in
    let here = stream_tests c.args.meta.now c.args.assembly c.in-Some.stream in
    let rest = header_tests c.args.meta.now c.args.assembly c.in-Some.end (c.loop-left.left - 1) in
    record {
      within = step.within;
      rest = sym (first_behind here rest (sym c.in_default-stream_fault.ensures))
          ∙ sym (ap first_of (tests_step c.args.meta.now c.args.assembly c.loop-left.at c.loop-left.left c.in-Some.end c.in-Some.stream (omega arith) (sym c.in-Some.ensures)))
          ∙ c.loop-left.invariant.rest;
    }
