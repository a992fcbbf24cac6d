use Rattle.contract_rows.proofs.RowLaws.{crossed_calls_break_1, bad_segments_break_2, stray_calls_break_3, bad_old_values_break_4, throw_in_a_segment_breaks_5, shared_locals_break_6, wrong_types_break_7, wrong_types_of_ensures_on_throw_break_7, exceptions_that_cant_be_made_break_7, call_in_a_handler_breaks_2_and_1, region_in_two_segments_breaks_2, branches_within_a_segment_break_nothing}
use Rattle.contract_rows.proofs.rows.broken_rules.Goals as goal

pub returns-clause-crossed_calls_break_1 : goal.returns-clause-crossed_calls_break_1
returns-clause-crossed_calls_break_1 c = crossed_calls_break_1

pub returns-clause-bad_segments_break_2 : goal.returns-clause-bad_segments_break_2
returns-clause-bad_segments_break_2 c = bad_segments_break_2

pub returns-clause-stray_calls_break_3 : goal.returns-clause-stray_calls_break_3
returns-clause-stray_calls_break_3 c = stray_calls_break_3

pub returns-clause-bad_old_values_break_4 : goal.returns-clause-bad_old_values_break_4
returns-clause-bad_old_values_break_4 c = bad_old_values_break_4

pub returns-clause-throw_in_a_segment_breaks_5 : goal.returns-clause-throw_in_a_segment_breaks_5
returns-clause-throw_in_a_segment_breaks_5 c = throw_in_a_segment_breaks_5

pub returns-clause-shared_locals_break_6 : goal.returns-clause-shared_locals_break_6
returns-clause-shared_locals_break_6 c = shared_locals_break_6

pub returns-clause-wrong_types_break_7 : goal.returns-clause-wrong_types_break_7
returns-clause-wrong_types_break_7 c = wrong_types_break_7

pub returns-clause-wrong_types_of_ensures_on_throw_break_7 : goal.returns-clause-wrong_types_of_ensures_on_throw_break_7
returns-clause-wrong_types_of_ensures_on_throw_break_7 c = wrong_types_of_ensures_on_throw_break_7

pub returns-clause-exceptions_that_cant_be_made_break_7 : goal.returns-clause-exceptions_that_cant_be_made_break_7
returns-clause-exceptions_that_cant_be_made_break_7 c = exceptions_that_cant_be_made_break_7

pub returns-clause-call_in_a_handler_breaks_2_and_1 : goal.returns-clause-call_in_a_handler_breaks_2_and_1
returns-clause-call_in_a_handler_breaks_2_and_1 c = call_in_a_handler_breaks_2_and_1

pub returns-clause-region_in_two_segments_breaks_2 : goal.returns-clause-region_in_two_segments_breaks_2
returns-clause-region_in_two_segments_breaks_2 c = region_in_two_segments_breaks_2

pub returns-clause-branches_within_a_segment_break_nothing : goal.returns-clause-branches_within_a_segment_break_nothing
returns-clause-branches_within_a_segment_break_nothing c = branches_within_a_segment_break_nothing
