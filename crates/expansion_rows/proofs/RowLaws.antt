-- Calls of abbreviators, computed.
use Rattle.std.proofs.Common.{refl}
use Rattle.expansion_rows.specs.Everything.{everything}
use Rattle.expansion_rows.specs.Rows.{ArgumentStandsForItsParameter, BranchesGoWhereTheirTargetsStand, EachLoadIsACopy, LocalsAreCopied, OldRangesGrow, TypeArgumentsStandUnderTheAbbreviator, InstancesFollowOneAnother, AbbreviatorsCallAbbreviators, LabelsAreTheCallers, AssertsAreNumberedOverAllClauses}

pub argument_stands_for_its_parameter : ArgumentStandsForItsParameter
unfolding everything
argument_stands_for_its_parameter = refl

pub branches_go_where_their_targets_stand : BranchesGoWhereTheirTargetsStand
unfolding everything
branches_go_where_their_targets_stand = refl

pub each_load_is_a_copy : EachLoadIsACopy
unfolding everything
each_load_is_a_copy = refl

pub locals_are_copied : LocalsAreCopied
unfolding everything
locals_are_copied = refl

pub old_ranges_grow : OldRangesGrow
unfolding everything
old_ranges_grow = refl

pub type_arguments_stand_under_the_abbreviator : TypeArgumentsStandUnderTheAbbreviator
unfolding everything
type_arguments_stand_under_the_abbreviator = refl

pub instances_follow_one_another : InstancesFollowOneAnother
unfolding everything
instances_follow_one_another = refl

pub abbreviators_call_abbreviators : AbbreviatorsCallAbbreviators
unfolding everything
abbreviators_call_abbreviators = refl

pub labels_are_the_callers : LabelsAreTheCallers
unfolding everything
labels_are_the_callers = refl

pub asserts_are_numbered_over_all_clauses : AssertsAreNumberedOverAllClauses
unfolding everything
asserts_are_numbered_over_all_clauses = refl
