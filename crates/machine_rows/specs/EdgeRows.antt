-- Small programs at the edges of the definitions: bases, boxes, delegates, stores, contract calls and replies.
use Rattle.std.specs.Prelude.{◌≡◌, ℕ, true, false, List, [], ◌∷◌, ◌++◌, Some, None, codes}
use Rattle.cil_base.specs.declared.token.Token.{Token}
use Rattle.cil_model.specs.declared.ty.Ty.{Ty, Prim, Known}
use Rattle.cil_model.specs.declared.ty.Ty.TheVariants as ty
use Rattle.cil_model.specs.declared.value.Value.{Null, Obj, Text}
use Rattle.cil_model.specs.declared.value.Value.TheVariants as value
use Rattle.cil_model.specs.declared.body.Instr.{Instr}
use Rattle.cil_model.specs.declared.body.RegionKind.TheVariants as region
use Rattle.cil_model.specs.declared.body.Operand.TheVariants.{Index, Tok}
use Rattle.cil_model.specs.declared.contract.Effective.{Effective}
use Rattle.cil_model.specs.declared.contract.ClauseKind.TheVariants as kind
use Rattle.cil_model.specs.declared.contract.Level.TheVariants.{Full}
use Rattle.cil_model.specs.declared.program.Program.{Program}
use Rattle.cil_model.specs.declared.program.FieldDesc.{FieldDesc}
use Rattle.cil_model.specs.declared.program.MethodDesc.{MethodDesc}
use Rattle.cil_model.specs.declared.program.TypeDesc.{TypeDesc}
use Rattle.cil_model.specs.declared.program.Kind.TheVariants.{Struct, Interface}
use Rattle.cil_model.specs.declared.program.Meaning.{Meaning}
use Rattle.cil_model.specs.declared.program.Meaning.TheVariants.{OfType, OfField, OfMethod, OfText, OfLocals}
use Rattle.cil_model.specs.declared.program.TokenRow.{TokenRow}
use Rattle.cil_model.specs.declared.run.Outcome.TheVariants as outcome
use Rattle.cil_model.specs.declared.run.ReplyResult.TheVariants as reply
use Rattle.cil_semantics.specs.declared.contract_call.ContractCall.TheVariants.{NoContractCall}
use Rattle.cil_semantics.specs.ContractCalls.{contract_call}
use Rattle.cil_semantics.specs.Core.{class_named, object_ty, string_ty, contract_name, helper_name, outside_base}
use Rattle.cil_semantics.specs.Dispatch.{body_for}
use Rattle.cil_semantics.specs.Lookups.{is_sub}
use Rattle.machine_rows.specs.Samples.{instr, bare, ldarg, ldloc, int, jump, call, ret, body, int_ty, bool_ty, void_ty, method, outside, class_with, outside_class, clause, no_effective, contracts, replies, null_reply, failed, sample, member_row, requires, ensures_call, assert, log_ty, call_own, type_token, type_ref, method_token, checked, i4, returns, contract_exception_name, contract_ty}
use Rattle.machine_rows.specs.Rows.{with_contract, positive, inc, inc_contract, inc_label}
use Rattle.machine_rows.specs.MoreRows.{protects, instance, new_own, field_token}

-- ---- words

abbrev pub row : Token → Meaning → TokenRow
row token meaning = record { assembly = 0; token = token; meaning = meaning }

-- further types, from number 2 on, and further tokens
abbrev pub with_types : List TypeDesc → List TokenRow → Program → Program
with_types ts rows p = record p { types = p.types ++ ts; tokens = rows ++ p.tokens }

abbrev pub using_field : ℕ → Instr
using_field op = instr op (Tok 0 (field_token 0))

abbrev pub using_method : ℕ → ℕ → Instr
using_method op k = instr op (Tok 0 (method_token k))

abbrev pub using_type : ℕ → ℕ → Instr
using_type op k = instr op (Tok 0 (type_token k))

abbrev pub locals_token : Token
locals_token = record { table = 0x11; row = 1 }

-- ---- every type but System.Object has System.Object above it

abbrev pub without_base : TypeDesc → TypeDesc
without_base t = record t { base = None }

-- Go(): throws an object of a class without a base in a try that catches System.Object
abbrev pub baseless : Program
baseless =
    with_types (without_base (class_with (codes "E") (1 ∷ [])) ∷ []) (row (method_token 8) (OfMethod (Known 2) 1 []) ∷ [])
    (sample
    (method 0 (codes "Go") [] int_ty (body (new_own 8 ∷ bare 0x7A ∷ bare 0x26 ∷ jump 0xDD 4 ∷ int 3 ∷ ret ∷ []) (protects (region.Catch (type_token 5)) 0 2 2 4 ∷ []) None)
    ∷ instance (method 2 (codes ".ctor") [] void_ty (body (ret ∷ []) [] None)) ∷ []))

abbrev pub BaselessIsCaught : Type 0
BaselessIsCaught = checked baseless (with_contract no_effective) 0 [] [] 40 ≡ Some (returns 3, [])

abbrev pub EveryTypeIsAnObject : Type 0
EveryTypeIsAnObject = (is_sub baseless (Known 2) object_ty ≡ true) × (is_sub baseless ty.Opaque object_ty ≡ true) × (is_sub baseless (ty.Var 0) object_ty ≡ true)

-- a name that ends so is an exception's, whatever a signature says
abbrev pub NamedExceptionIsOne : Type 0
NamedExceptionIsOne = outside_base (codes "Ext.OddException") true ≡ class_named (codes "System.Exception")

-- ---- an interface's method by a base's method, which a class below overrides: I; B<X>; D : B<int>, I; E : D

abbrev pub virtual : ℕ → MethodDesc → MethodDesc
virtual flags d = record d { is_static = false; flags = flags }

abbrev pub implemented : Program
implemented =
    record {
      types =
          record (without_base (class_with (codes "I") (0 ∷ []))) { kind = Interface }
          ∷ record (class_with (codes "B") (1 ∷ [])) { generics = 1 }
          ∷ record (class_with (codes "D") []) { base = Some (ty.Inst 1 (int_ty ∷ [])); interfaces = Known 0 ∷ []; impls = record { owner = Known 0; body = 1; declaration = 0 } ∷ [] }
          ∷ record (class_with (codes "E") (2 ∷ [])) { base = Some (Known 2) } ∷ [];
      fields = [];
      methods =
          record (virtual 0x546 (method 0 (codes "i") (int_ty ∷ []) void_ty (body [] [] None))) { body = None }
          ∷ virtual 0x146 (method 1 (codes "m") (ty.Var 0 ∷ []) void_ty (body (ret ∷ []) [] None))
          ∷ virtual 0x46 (method 3 (codes "m") (int_ty ∷ []) void_ty (body (ret ∷ []) [] None)) ∷ [];
      tokens = [];
    }

abbrev pub BaseMethodImplements : Type 0
BaseMethodImplements = body_for implemented (Known 3) (Known 0, 0) ≡ Some (Known 3, 2)

-- ---- struct S { n }: a delegate over its own method, and its box

abbrev pub number_field : Ty → FieldDesc
number_field t = record { owner = 2; name = codes "n"; ty = t; is_static = false; flags = 6 }

abbrev pub struct_type : List ℕ → TypeDesc
struct_type methods = record (class_with (codes "S") methods) { kind = Struct; base = Some (class_named (codes "System.ValueType")); fields = 0 ∷ [] }

abbrev pub delegate_ty : Ty
delegate_ty = class_named (codes "Ext.D")

-- the struct's own method, a delegate's constructor, its Invoke with a result and without, and a static method
abbrev pub delegate_methods : List MethodDesc
delegate_methods =
    instance (method 2 (codes "Get") [] int_ty (body (ldarg 0 ∷ using_field 0x7B ∷ ret ∷ []) [] None))
    ∷ outside 3 false (codes ".ctor") (object_ty ∷ Prim 0x18 ∷ []) void_ty
    ∷ outside 3 false (codes "Invoke") [] int_ty
    ∷ outside 3 false (codes "Invoke") [] void_ty
    ∷ method 0 (codes "Five") [] int_ty (body (int 5 ∷ ret ∷ []) [] None) ∷ []

abbrev pub with_struct : Ty → MethodDesc → Program
with_struct t go =
    record (with_types (struct_type (1 ∷ []) ∷ outside_class (codes "Ext.D") ∷ [])
    (row (field_token 0) (OfField (Known 2) 0)
    ∷ row (type_token 9) (OfType (Known 2))
    ∷ row (method_token 8) (OfMethod (Known 2) 1 [])
    ∷ row (method_token 9) (OfMethod delegate_ty 2 [])
    ∷ row (method_token 10) (OfMethod delegate_ty 3 [])
    ∷ row (method_token 11) (OfMethod delegate_ty 4 [])
    ∷ row locals_token (OfLocals (Known 2 ∷ [])) ∷ [])
    (sample (go ∷ delegate_methods))) { fields = number_field t ∷ [] }

-- the local's field is 5, and the local is boxed
abbrev pub boxed_five : List Instr
boxed_five = instr 0xFE0D (Index 0) ∷ int 5 ∷ using_field 0x7D ∷ ldloc 0 ∷ using_type 0x8C 9 ∷ []

abbrev pub going : Ty → List Instr → MethodDesc
going result is = method 0 (codes "Go") [] result (body is [] (Some locals_token))

-- a delegate over the boxed struct's method: Invoke is the call of that number
abbrev pub invoking : Ty → ℕ → MethodDesc
invoking result k = going result (boxed_five ++ (using_method 0xFE06 8 ∷ new_own 9 ∷ using_method 0x6F k ∷ ret ∷ []))

-- the method gets a pointer to what is boxed
abbrev pub DelegateOverAStruct : Type 0
DelegateOverAStruct = checked (with_struct int_ty (invoking int_ty 10)) (with_contract no_effective) 0 [] [] 60 ≡ Some (returns 5, [])

-- Invoke without a result on a static function with one
abbrev pub DelegateWithAnotherResult : Type 0
DelegateWithAnotherResult =
    checked (with_struct int_ty (going void_ty (bare 0x14 ∷ using_method 0xFE06 5 ∷ new_own 9 ∷ using_method 0x6F 11 ∷ ret ∷ []))) (with_contract no_effective) 0 [] [] 60 ≡ Some (outcome.Stuck, [])

-- ldfld of the box
abbrev pub FieldOfABox : Type 0
FieldOfABox = checked (with_struct int_ty (going void_ty (boxed_five ++ (using_field 0x7B ∷ bare 0x26 ∷ ret ∷ [])))) (with_contract no_effective) 0 [] [] 60 ≡ Some (outcome.Stuck, [])

-- class T { n }: unbox to T of a new T
abbrev pub unboxes : Program
unboxes =
    let q =
    with_types [] (row (type_token 9) (OfType (Known 0)) ∷ [])
    (sample (method 0 (codes "Go") [] void_ty (body (new_own 1 ∷ using_type 0x79 9 ∷ bare 0x26 ∷ ret ∷ []) [] None) ∷ instance (method 0 (codes ".ctor") [] void_ty (body (ret ∷ []) [] None)) ∷ []))
    in
    record q { types = record (class_with (codes "T") (0 ∷ 1 ∷ [])) { fields = 0 ∷ [] } ∷ outside_class contract_name ∷ []; fields = record (number_field int_ty) { owner = 0 } ∷ [] }

abbrev pub UnboxToAClass : Type 0
UnboxToAClass = checked unboxes (with_contract no_effective) 0 [] [] 40 ≡ Some (outcome.Stuck, [])

-- ---- Log::Make() replies a struct whose field is a byte

abbrev pub making : Program
making =
    let q = with_struct (Prim 0x05) (going int_ty (call 20 ∷ using_field 0x7B ∷ ret ∷ [])) in
    record q { methods = q.methods ++ outside 1 true (codes "Make") [] (Known 2) ∷ []; tokens = member_row 20 log_ty 22 [] ∷ q.tokens }

-- a store of the struct truncates its field
abbrev pub StoreTruncatesFields : Type 0
StoreTruncatesFields =
    checked making (with_contract no_effective) 0 [] (replies (reply.Given (value.Struct (i4 300 ∷ []))) ∷ []) 40
    ≡ Some (returns 44, record { member = codes "Ext.Log::Make"; args = []; reply = replies (reply.Given (value.Struct (i4 300 ∷ []))) } ∷ [])

-- ---- ValueAtReturn<uint8> of an int32 of 258

abbrev pub byte_at_return : Instr
byte_at_return = instr 0x28 (Tok 0 (record { table = 0x2B; row = 2 }))

abbrev pub byte_condition : List Instr
byte_condition = ldarg 0 ∷ byte_at_return ∷ int 2 ∷ bare 0xFE01 ∷ ensures_call ∷ []

abbrev pub vb : Program
vb =
    let q =
    sample
    (method 0 (codes "Vb") (ty.ByRef int_ty ∷ []) void_ty (body (byte_condition ++ (ldarg 0 ∷ int 258 ∷ bare 0x54 ∷ ret ∷ [])) [] None)
    ∷ method 0 (codes "Go") [] void_ty (body (instr 0xFE0D (Index 0) ∷ call_own 0 ∷ ret ∷ []) [] (Some locals_token)) ∷ [])
    in
    record q { tokens = row locals_token (OfLocals (int_ty ∷ [])) ∷ row (record { table = 0x2B; row = 2 }) (OfMethod contract_ty 17 (Prim 0x05 ∷ [])) ∷ q.tokens }

-- it is what a place of the type holds
abbrev pub ValueAtReturnOfItsType : Type 0
ValueAtReturnOfItsType =
    checked vb (contracts Full 4 (record no_effective { rest_from = 5; clauses = clause kind.Ensures (codes "T::Vb/ensures/0") byte_condition ∷ [] } ∷ no_effective ∷ [])) 1 [] [] 60 ≡ Some (outcome.Return None, [])

-- ---- which calls are contract calls

-- class T<X>: Go(bool b): X::Assert(b), under Contract for X
abbrev pub owned_by_parameter : Program
owned_by_parameter =
    let q =
    sample
    (method 0 (codes "Go") (bool_ty ∷ []) void_ty (body (ldarg 0 ∷ call 20 ∷ ret ∷ []) [] None)
    ∷ method 2 (codes "Main") [] void_ty (body (int 0 ∷ call_own 8 ∷ ret ∷ []) [] None) ∷ [])
    in
    record q {
      types = record (class_with (codes "T") (0 ∷ [])) { generics = 1 } ∷ outside_class contract_name ∷ class_with (codes "U") (1 ∷ []) ∷ [];
      tokens = row (method_token 8) (OfMethod (ty.Inst 0 (contract_ty ∷ [])) 0 []) ∷ member_row 20 (ty.Var 0) 6 [] ∷ q.tokens;
    }

-- it is a call outside as any other
abbrev pub OwnerByAParameter : Type 0
OwnerByAParameter =
    checked owned_by_parameter (contracts Full 4 (record no_effective { asserts = clause kind.Assert (codes "T::Go/assert/0") [] ∷ [] } ∷ no_effective ∷ [])) 1 [] [] 40
    ≡ Some (outcome.Return None, record { member = contract_name ++ codes "::Assert"; args = i4 0 ∷ []; reply = replies reply.Void } ∷ [])

-- Contract::Assert(int32)
abbrev pub odd_assert : Program
odd_assert =
    record { types = outside_class contract_name ∷ []; fields = []; methods = outside 0 true (codes "Assert") (int_ty ∷ []) void_ty ∷ []; tokens = member_row 1 contract_ty 0 [] ∷ [] }

abbrev pub OtherParameters : Type 0
OtherParameters = contract_call odd_assert (call 1) ≡ NoContractCall

-- Tw(int32 x): a segment whose abbreviator's clause holds an Assert; Assert(x)
abbrev pub twice : Program
twice = sample (method 0 (codes "Tw") (int_ty ∷ []) void_ty (body (ldarg 0 ∷ requires ∷ ldarg 0 ∷ assert ∷ ret ∷ []) [] None) ∷ [])

abbrev pub twice_contract : Effective
twice_contract = record no_effective { rest_from = 2; asserts = clause kind.Assert (codes "T::Tw/assert/0") [] ∷ clause kind.Assert (codes "T::Tw/assert/1") [] ∷ [] }

-- the rest's labels count from the end
abbrev pub LabelsFromTheEnd : Type 0
LabelsFromTheEnd =
    checked twice (with_contract twice_contract) 0 (i4 0 ∷ []) (null_reply ∷ []) 40
    ≡ Some (outcome.Return None, failed 4 (codes "T::Tw/assert/1") (reply.Given Null) ∷ [])

-- ---- failures

-- Requires<int32[]>
abbrev pub RequiresOfAnArray : Type 0
RequiresOfAnArray =
    checked (with_types [] (row (type_token 9) (OfType (ty.Array int_ty)) ∷ []) inc)
    (with_contract (record inc_contract { clauses = record (clause kind.RequiresOf inc_label positive) { exception = Some (type_ref 9) } ∷ [] })) 0 (i4 0 ∷ []) [] 20
    ≡ Some (outcome.Stuck, failed 0 inc_label (reply.Given (Text inc_label)) ∷ [])

-- D : System.String; Sub(int32 x): new D(); Requires(x > 0)
abbrev pub under_string : Program
under_string =
    with_types (record (class_with (codes "D") (1 ∷ [])) { base = Some string_ty } ∷ []) (row (method_token 8) (OfMethod (Known 2) 1 []) ∷ [])
    (sample
    (method 0 (codes "Sub") (int_ty ∷ []) int_ty (body (new_own 8 ∷ bare 0x26 ∷ (positive ++ (ldarg 0 ∷ ret ∷ []))) [] None)
    ∷ instance (method 2 (codes ".ctor") [] void_ty (body (ret ∷ []) [] None)) ∷ []))

-- an object under String as the reply acts as a text does
abbrev pub ReplyUnderString : Type 0
ReplyUnderString =
    checked under_string (contracts Full 4 (record inc_contract { lead_end = 2; rest_from = 6 } ∷ no_effective ∷ [])) 0 (i4 0 ∷ []) (replies (reply.Given (Obj 1)) ∷ []) 40
    ≡ Some (outcome.Thrown 2 contract_exception_name, failed 0 inc_label (reply.Given (Obj 1)) ∷ [])

-- a member of the event's name with other parameters replies by its result's default
abbrev pub other_event : Program
other_event =
    let q = sample (method 0 (codes "Go") [] string_ty (body (bare 0x14 ∷ bare 0x14 ∷ instr 0x72 (Tok 0 (record { table = 0x70; row = 1 })) ∷ call 20 ∷ ret ∷ []) [] None) ∷ []) in
    record q {
      methods = q.methods ++ outside 1 true (codes "RaiseContractFailedEvent") (string_ty ∷ string_ty ∷ string_ty ∷ []) string_ty ∷ [];
      tokens = row (record { table = 0x70; row = 1 }) (OfText (97 ∷ [])) ∷ member_row 20 (class_named helper_name) 17 [] ∷ q.tokens;
    }

abbrev pub EventOfOtherParameters : Type 0
EventOfOtherParameters =
    checked other_event (with_contract no_effective) 0 [] [] 40
    ≡ Some (outcome.Return (Some Null), record { member = helper_name ++ codes "::RaiseContractFailedEvent"; args = Null ∷ Null ∷ Text (97 ∷ []) ∷ []; reply = replies (reply.Given Null) } ∷ [])

-- ---- Le(): what the lead-in leaves is there in the rest, where the entry group is passed over

abbrev pub LeadInLeavesAValue : Type 0
LeadInLeavesAValue =
    checked (sample (method 0 (codes "Le") [] int_ty (body (int 7 ∷ ret ∷ []) [] None) ∷ [])) (with_contract (record no_effective { lead_end = 1; rest_from = 1 })) 0 [] [] 20 ≡ Some (returns 7, [])
