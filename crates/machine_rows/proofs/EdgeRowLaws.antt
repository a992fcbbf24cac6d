-- Runs at the edges of the definitions, computed.
use Rattle.std.proofs.Common.{refl}
use Rattle.machine_rows.specs.Everything.{everything}
use Rattle.machine_rows.specs.EdgeRows.{BaselessIsCaught, EveryTypeIsAnObject, NamedExceptionIsOne, BaseMethodImplements, DelegateOverAStruct, DelegateWithAnotherResult, FieldOfABox, UnboxToAClass, StoreTruncatesFields, ValueAtReturnOfItsType, OwnerByAParameter, OtherParameters, LabelsFromTheEnd, RequiresOfAnArray, ReplyUnderString, EventOfOtherParameters, LeadInLeavesAValue}

pub baseless_is_caught : BaselessIsCaught
unfolding everything
baseless_is_caught = refl

pub every_type_is_an_object : EveryTypeIsAnObject
unfolding everything
every_type_is_an_object = (refl, refl, refl)

pub named_exception_is_one : NamedExceptionIsOne
unfolding everything
named_exception_is_one = refl

pub base_method_implements : BaseMethodImplements
unfolding everything
base_method_implements = refl

pub delegate_over_a_struct : DelegateOverAStruct
unfolding everything
delegate_over_a_struct = refl

pub delegate_with_another_result : DelegateWithAnotherResult
unfolding everything
delegate_with_another_result = refl

pub field_of_a_box : FieldOfABox
unfolding everything
field_of_a_box = refl

pub unbox_to_a_class : UnboxToAClass
unfolding everything
unbox_to_a_class = refl

pub store_truncates_fields : StoreTruncatesFields
unfolding everything
store_truncates_fields = refl

pub value_at_return_of_its_type : ValueAtReturnOfItsType
unfolding everything
value_at_return_of_its_type = refl

pub owner_by_a_parameter : OwnerByAParameter
unfolding everything
owner_by_a_parameter = refl

pub other_parameters : OtherParameters
unfolding everything
other_parameters = refl

pub labels_from_the_end : LabelsFromTheEnd
unfolding everything
labels_from_the_end = refl

pub requires_of_an_array : RequiresOfAnArray
unfolding everything
requires_of_an_array = refl

pub reply_under_string : ReplyUnderString
unfolding everything
reply_under_string = refl

pub event_of_other_parameters : EventOfOtherParameters
unfolding everything
event_of_other_parameters = refl

pub lead_in_leaves_a_value : LeadInLeavesAValue
unfolding everything
lead_in_leaves_a_value = refl
