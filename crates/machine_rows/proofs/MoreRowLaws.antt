-- Runs of further small programs, computed.
use Rattle.std.proofs.Common.{refl}
use Rattle.machine_rows.specs.Everything.{everything}
use Rattle.machine_rows.specs.MoreRows.{OutsideReplyDoesntFit, ArgumentsThatDontFit, FailureIsTriggered, CaughtInTheRest, FinallyRunsOnTheWayOut, FinallyRunsAfterLeave, InitializerFailsForGood, EntryRunsTheInitializer, ClosedTypesHaveTheirOwnStatics, InvariantChecksANestedCall, ValueAtReturnIsRead, RequiresOfMakesItsOwnException}

pub outside_reply_doesnt_fit : OutsideReplyDoesntFit
unfolding everything
outside_reply_doesnt_fit = refl

pub failure_is_triggered : FailureIsTriggered
unfolding everything
failure_is_triggered = refl

pub caught_in_the_rest : CaughtInTheRest
unfolding everything
caught_in_the_rest = refl

pub finally_runs_on_the_way_out : FinallyRunsOnTheWayOut
unfolding everything
finally_runs_on_the_way_out = refl

pub finally_runs_after_leave : FinallyRunsAfterLeave
unfolding everything
finally_runs_after_leave = refl

pub initializer_fails_for_good : InitializerFailsForGood
unfolding everything
initializer_fails_for_good = refl

pub entry_runs_the_initializer : EntryRunsTheInitializer
unfolding everything
entry_runs_the_initializer = refl

pub invariant_checks_a_nested_call : InvariantChecksANestedCall
unfolding everything
invariant_checks_a_nested_call = refl

pub value_at_return_is_read : ValueAtReturnIsRead
unfolding everything
value_at_return_is_read = refl

pub requires_of_makes_its_own_exception : RequiresOfMakesItsOwnException
unfolding everything
requires_of_makes_its_own_exception = refl

pub closed_types_have_their_own_statics : ClosedTypesHaveTheirOwnStatics
unfolding everything
closed_types_have_their_own_statics = refl

pub arguments_that_dont_fit : ArgumentsThatDontFit
unfolding everything
arguments_that_dont_fit = refl
