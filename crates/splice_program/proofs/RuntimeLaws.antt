-- The runtime class of the program: its helpers by their code.
use Rattle.std.proofs.Common.{◌≡◌, ◌≢◌, ℕ, ◌≤◌, true, [], None, refl, arith}
use Rattle.machine_rows.specs.Everything.{everything}
use Rattle.splice_facts.specs.Layout.{Depths}
use Rattle.splice_laws.specs.Fails.{FailRuns, FitsFail, HasFail, HasException, fail_code, ctor_code}
use Rattle.splice_laws.specs.HelperRuns.{HelpersRun, EnterRuns, LeaveRuns}
use Rattle.splice_laws.specs.Helpers.{HasRuntime, enter_code, leave_code}
use Rattle.splice_laws.proofs.ExceptionLaws.{makes_failure}
use Rattle.splice_laws.proofs.HelperCallLaws.{enter_runs, leave_runs}
use Rattle.splice_laws.proofs.FailLaws.{fail_runs}
use Rattle.splice_rows.specs.OneRequires.{token, a_body}
use Rattle.splice_program.specs.Program.{guard, numbers}
use Rattle.splice_program.specs.Written.{output}

pub appended : 2 ≤ 2
appended = omega arith

pub exception_appended : 2 ≤ 3
exception_appended = omega arith

pub apart : (m n : ℕ) → m ≡ 2 → n ≡ 3 → m ≢ n
apart m n two three e = absurd (omega (arith, two, three, e))

abbrev pub depths : Depths 2 numbers
depths = record { owner = 2; appended = appended; exception = exception_appended; apart = apart 2 3 refl refl }

unfoldable runtime : HasRuntime output 2 guard
unfolding everything
runtime =
    record {
      assembly = 0;
      field = 1;
      is_static = refl;
      layout = refl;
      no_initializer = refl;
      depth = token 4 2;
      depth_token = refl;
      enter = 9;
      enter_outer = 10;
      leave = 11;
      enter_is = record { static = refl; inside = refl; params = refl; result = refl; body = a_body (enter_code 0 (token 4 2) guard) [] None; has = refl; code = refl; regions = refl; locals = refl };
      enter_outer_is = record { static = refl; inside = refl; params = refl; result = refl; body = a_body (enter_code 0 (token 4 2) 0) [] None; has = refl; code = refl; regions = refl; locals = refl };
      leave_is = record { static = refl; inside = refl; params = refl; result = refl; body = a_body (leave_code 0 (token 4 2)) [] None; has = refl; code = refl; regions = refl; locals = refl };
      of_class = (refl, refl);
    }

exception : HasException output numbers 2 0 (token 6 13)
unfolding everything
exception =
    record {
      kind_is = refl;
      fields = ((2, 3), 4);
      layout_is = refl;
      places = ((refl, refl), refl);
      no_initializer = refl;
      method = 13;
      token = refl;
      instance = refl;
      named = refl;
      inside = refl;
      params = refl;
      result = refl;
      base = token 10 15;
      kind = token 4 3;
      user = token 4 4;
      label = token 4 5;
      body = a_body (ctor_code 0 (token 10 15) (token 4 3) (token 4 4) (token 4 5)) [] None;
      has = refl;
      code = refl;
      locals = refl;
      kind_token = refl;
      user_token = refl;
      label_token = refl;
      base_method = 15;
      base_token = refl;
      base_instance = refl;
      base_params = refl;
      base_core = refl;
    }

fails : HasFail output numbers 2 12 0
unfolding everything
fails =
    record {
      event = token 10 14;
      ctor = token 6 13;
      is = record { static = refl; inside = refl; params = refl; result = refl; body = a_body (fail_code 0 (token 10 14) (token 6 13)) [] None; has = refl; code = refl; regions = refl; locals = refl };
      event_token = refl;
      event_is = record { outside = refl; static = refl; owner = refl; name = refl; params = refl; result = refl };
      makes = makes_failure output numbers 2 0 (token 6 13) exception;
    }

pub enters : EnterRuns output 2 9 guard
unfolding everything runtime
enters = enter_runs output 2 guard runtime 9 guard (runtime).enter_is

pub enters_outer : EnterRuns output 2 10 0
unfolding everything runtime
enters_outer = enter_runs output 2 guard runtime 10 0 (runtime).enter_outer_is

pub leaves : LeaveRuns output 2 11
unfolding everything runtime
leaves = leave_runs output 2 guard runtime (runtime).leave_is

pub failures : FailRuns output numbers true 2 12 (FitsFail numbers 2)
unfolding everything runtime
failures = fail_runs output 2 guard runtime numbers 12 fails

unfoldable pub helpers : HelpersRun output numbers true 2 guard
helpers = record { assembly = 0; enter = 9; enter_outer = 10; leave = 11; fail = 12; enters = enters; enters_outer = enters_outer; leaves = leaves; fails = failures }
