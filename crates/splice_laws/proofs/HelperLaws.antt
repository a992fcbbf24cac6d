-- The helpers' code does what is asked of them, where failures throw.
use Rattle.std.proofs.Common.{true}
use Rattle.cil_model.specs.declared.program.Program.{Program}
use Rattle.std.proofs.Common.{ℕ}
use Rattle.cil_semantics.specs.Checks.{AddedNumbers}
use Rattle.splice_laws.specs.Helpers.{HasRuntime}
use Rattle.splice_laws.specs.Fails.{HasFail}
use Rattle.splice_laws.specs.HelperRuns.{HelpersRun}
use Rattle.splice_laws.proofs.HelperCallLaws.{enter_runs, leave_runs}
use Rattle.splice_laws.proofs.FailLaws.{fail_runs}

pub helpers_run : (p : Program) (g : AddedNumbers) (owner guard : ℕ) (r : HasRuntime p owner guard) (fail : ℕ) → HasFail p g owner fail r.assembly → HelpersRun p g true owner guard
helpers_run p g owner guard r fail h =
    record {
      assembly = r.assembly;
      enter = r.enter;
      enter_outer = r.enter_outer;
      leave = r.leave;
      fail = fail;
      enters = enter_runs p owner guard r r.enter guard r.enter_is;
      enters_outer = enter_runs p owner guard r r.enter_outer 0 r.enter_outer_is;
      leaves = leave_runs p owner guard r r.leave_is;
      fails = fail_runs p owner guard r g fail h;
    }
