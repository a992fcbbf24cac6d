-- Own contracts of small methods, computed.
use Rattle.std.proofs.Common.{refl}
use Rattle.contract_rows.specs.Everything.{everything}
use Rattle.contract_rows.specs.Rows.{AccountConstructorHasALeadIn, AccountTakeHasTwoClauses, AccountInvariantIsAClause, AccountBreaksNoRule, IfThrowIsLeadIn, EndContractBlockIsNoClause, LabelsCountRequiresTogether, MessageIsAStaticField, EachClauseHasItsOwnLocals, AssertsAreNumberedOverTheBody, ClauseSetsUpItsClosure, ThoseBreakNoRule, CrossedCallsBreak1, BadSegmentsBreak2, StrayCallsBreak3, BadOldValuesBreak4, ThrowInASegmentBreaks5, SharedLocalsBreak6, WrongTypesBreak7, WrongTypesOfEnsuresOnThrowBreak7, ExceptionsThatCantBeMadeBreak7, CallInAHandlerBreaks2And1, RegionInTwoSegmentsBreaks2, BranchesWithinASegmentBreakNothing, InnerClosureIsSetUpFirst}

pub account_constructor_has_a_lead_in : AccountConstructorHasALeadIn
unfolding everything
account_constructor_has_a_lead_in = refl

pub account_take_has_two_clauses : AccountTakeHasTwoClauses
unfolding everything
account_take_has_two_clauses = refl

pub account_invariant_is_a_clause : AccountInvariantIsAClause
unfolding everything
account_invariant_is_a_clause = refl

pub account_breaks_no_rule : AccountBreaksNoRule
unfolding everything
account_breaks_no_rule = refl

pub if_throw_is_lead_in : IfThrowIsLeadIn
unfolding everything
if_throw_is_lead_in = refl

pub end_contract_block_is_no_clause : EndContractBlockIsNoClause
unfolding everything
end_contract_block_is_no_clause = refl

pub labels_count_requires_together : LabelsCountRequiresTogether
unfolding everything
labels_count_requires_together = refl

pub message_is_a_static_field : MessageIsAStaticField
unfolding everything
message_is_a_static_field = refl

pub each_clause_has_its_own_locals : EachClauseHasItsOwnLocals
unfolding everything
each_clause_has_its_own_locals = refl

pub asserts_are_numbered_over_the_body : AssertsAreNumberedOverTheBody
unfolding everything
asserts_are_numbered_over_the_body = refl

pub clause_sets_up_its_closure : ClauseSetsUpItsClosure
unfolding everything
clause_sets_up_its_closure = refl

pub those_break_no_rule : ThoseBreakNoRule
unfolding everything
those_break_no_rule = refl

pub crossed_calls_break_1 : CrossedCallsBreak1
unfolding everything
crossed_calls_break_1 = refl

pub bad_segments_break_2 : BadSegmentsBreak2
unfolding everything
bad_segments_break_2 = refl

pub stray_calls_break_3 : StrayCallsBreak3
unfolding everything
stray_calls_break_3 = refl

pub bad_old_values_break_4 : BadOldValuesBreak4
unfolding everything
bad_old_values_break_4 = refl

pub throw_in_a_segment_breaks_5 : ThrowInASegmentBreaks5
unfolding everything
throw_in_a_segment_breaks_5 = refl

pub shared_locals_break_6 : SharedLocalsBreak6
unfolding everything
shared_locals_break_6 = refl

pub wrong_types_break_7 : WrongTypesBreak7
unfolding everything
wrong_types_break_7 = refl

pub inner_closure_is_set_up_first : InnerClosureIsSetUpFirst
unfolding everything
inner_closure_is_set_up_first = refl

pub wrong_types_of_ensures_on_throw_break_7 : WrongTypesOfEnsuresOnThrowBreak7
unfolding everything
wrong_types_of_ensures_on_throw_break_7 = refl

pub exceptions_that_cant_be_made_break_7 : ExceptionsThatCantBeMadeBreak7
unfolding everything
exceptions_that_cant_be_made_break_7 = refl

pub call_in_a_handler_breaks_2_and_1 : CallInAHandlerBreaks2And1
unfolding everything
call_in_a_handler_breaks_2_and_1 = refl

pub region_in_two_segments_breaks_2 : RegionInTwoSegmentsBreaks2
unfolding everything
region_in_two_segments_breaks_2 = refl

pub branches_within_a_segment_break_nothing : BranchesWithinASegmentBreakNothing
unfolding everything
branches_within_a_segment_break_nothing = refl
