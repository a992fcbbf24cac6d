-- Runs of small programs, computed.
use Rattle.std.proofs.Common.{refl}
use Rattle.machine_rows.specs.Everything.{everything}
use Rattle.machine_rows.specs.Rows.{RequiresGoesOnAfterNull, RequiresThrowsByDefault, RequiresThrowsTheReply, RequiresHolds, RequiresOfThrowsItsType, RequiresIsntKept, DivisionByZeroThrows, DivisionReturns, OutsideReplyIsReturned, LeadInThrowsAtEveryLevel, LeadInPasses, RequiresFailsAfterLeadIn, CaptureIsTakenUnreached, CaptureIsRecalled, EnsuresFailsAtOneExit, EnsuresHoldsAtTheOther, ThrowGroupFits, ThrowGroupGoesOn, ThrowGroupDoesntFit, GuardZeroChecksOnce, GuardOneChecksTwice, AssertIsDroppedBelowFull, AssertFailsAtFull, EntryGroupIsOutsideTheThrowGroup}

pub requires_goes_on_after_null : RequiresGoesOnAfterNull
unfolding everything
requires_goes_on_after_null = refl

pub requires_throws_by_default : RequiresThrowsByDefault
unfolding everything
requires_throws_by_default = refl

pub requires_throws_the_reply : RequiresThrowsTheReply
unfolding everything
requires_throws_the_reply = refl

pub requires_holds : RequiresHolds
unfolding everything
requires_holds = refl

pub requires_of_throws_its_type : RequiresOfThrowsItsType
unfolding everything
requires_of_throws_its_type = refl

pub requires_isnt_kept : RequiresIsntKept
unfolding everything
requires_isnt_kept = refl

pub division_by_zero_throws : DivisionByZeroThrows
unfolding everything
division_by_zero_throws = refl

pub division_returns : DivisionReturns
unfolding everything
division_returns = refl

pub outside_reply_is_returned : OutsideReplyIsReturned
unfolding everything
outside_reply_is_returned = refl

pub lead_in_throws_at_every_level : LeadInThrowsAtEveryLevel
unfolding everything
lead_in_throws_at_every_level = refl

pub lead_in_passes : LeadInPasses
unfolding everything
lead_in_passes = refl

pub requires_fails_after_lead_in : RequiresFailsAfterLeadIn
unfolding everything
requires_fails_after_lead_in = refl

pub capture_is_taken_unreached : CaptureIsTakenUnreached
unfolding everything
capture_is_taken_unreached = refl

pub capture_is_recalled : CaptureIsRecalled
unfolding everything
capture_is_recalled = refl

pub ensures_fails_at_one_exit : EnsuresFailsAtOneExit
unfolding everything
ensures_fails_at_one_exit = refl

pub ensures_holds_at_the_other : EnsuresHoldsAtTheOther
unfolding everything
ensures_holds_at_the_other = refl

pub throw_group_fits : ThrowGroupFits
unfolding everything
throw_group_fits = refl

pub throw_group_goes_on : ThrowGroupGoesOn
unfolding everything
throw_group_goes_on = refl

pub throw_group_doesnt_fit : ThrowGroupDoesntFit
unfolding everything
throw_group_doesnt_fit = refl

pub guard_zero_checks_once : GuardZeroChecksOnce
unfolding everything
guard_zero_checks_once = refl

pub guard_one_checks_twice : GuardOneChecksTwice
unfolding everything
guard_one_checks_twice = refl

pub assert_is_dropped_below_full : AssertIsDroppedBelowFull
unfolding everything
assert_is_dropped_below_full = refl

pub assert_fails_at_full : AssertFailsAtFull
unfolding everything
assert_fails_at_full = refl

pub entry_group_is_outside_the_throw_group : EntryGroupIsOutsideTheThrowGroup
unfolding everything
entry_group_is_outside_the_throw_group = refl
