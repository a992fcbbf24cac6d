-- Plain runs of bodies spliced by hand, computed beside the runs with contracts.
use Rattle.std.proofs.Common.{refl}
use Rattle.machine_rows.specs.Everything.{everything}
use Rattle.machine_rows.specs.SplicedRows.{SplicedRequiresThrows, SplicedRequiresGoesOn, SplicedEnsuresFails, SplicedEnsuresHolds, SplicedAssertFails, SplicedConditionIsCut}

pub spliced_requires_throws : SplicedRequiresThrows
unfolding everything
spliced_requires_throws = refl

pub spliced_requires_goes_on : SplicedRequiresGoesOn
unfolding everything
spliced_requires_goes_on = refl

pub spliced_ensures_fails : SplicedEnsuresFails
unfolding everything
spliced_ensures_fails = refl

pub spliced_ensures_holds : SplicedEnsuresHolds
unfolding everything
spliced_ensures_holds = refl

pub spliced_assert_fails : SplicedAssertFails
unfolding everything
spliced_assert_fails = refl

pub spliced_condition_is_cut : SplicedConditionIsCut
unfolding everything
spliced_condition_is_cut = (refl, refl)
