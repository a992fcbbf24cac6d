-- Further small programs: handlers, initializers, instance methods with invariants, generic statics, and replies.
use Rattle.std.specs.Prelude.{◌≡◌, ℕ, ◌+◌, true, false, List, [], ◌∷◌, ◌++◌, Some, None, codes}
use Rattle.cil_base.specs.declared.token.Token.{Token}
use Rattle.cil_model.specs.declared.ty.Ty.{Prim, Known}
use Rattle.cil_model.specs.declared.ty.Ty.TheVariants as ty
use Rattle.cil_model.specs.declared.value.Value.{Null, Text}
use Rattle.cil_model.specs.declared.body.Instr.{Instr}
use Rattle.cil_model.specs.declared.body.Region.{Region}
use Rattle.cil_model.specs.declared.body.RegionKind.{RegionKind}
use Rattle.cil_model.specs.declared.body.RegionKind.TheVariants as region
use Rattle.cil_model.specs.declared.body.Operand.TheVariants.{Index, Tok}
use Rattle.cil_model.specs.declared.contract.Clause.{Clause}
use Rattle.cil_model.specs.declared.contract.Contracts.{Contracts}
use Rattle.cil_model.specs.declared.contract.Effective.{Effective}
use Rattle.cil_model.specs.declared.contract.ClauseKind.TheVariants as kind
use Rattle.cil_model.specs.declared.contract.Level.TheVariants.{Full}
use Rattle.cil_model.specs.declared.program.Program.{Program}
use Rattle.cil_model.specs.declared.program.FieldDesc.{FieldDesc}
use Rattle.cil_model.specs.declared.program.MethodDesc.{MethodDesc}
use Rattle.cil_model.specs.declared.program.TypeDesc.{TypeDesc}
use Rattle.cil_model.specs.declared.program.Meaning.TheVariants.{OfType, OfField, OfMethod, OfLocals}
use Rattle.cil_model.specs.declared.program.TokenRow.{TokenRow}
use Rattle.cil_model.specs.declared.run.Outcome.TheVariants as outcome
use Rattle.cil_model.specs.declared.run.ReplyResult.TheVariants as reply
use Rattle.cil_semantics.specs.Core.{class_named, string_ty, contract_name, helper_name}
use Rattle.machine_rows.specs.Samples.{instr, bare, ldarg, starg, int, jump, call, ret, body, int_ty, void_ty, method, class_with, outside_class, clause, no_effective, contracts, replies, null_reply, failed, sample, requires, ensures_call, on_throw, invariant, log_get, log_find, new_operation_exception, call_own, type_token, type_ref, method_token, checked, i4, returns, contract_exception_name, contract_ty}
use Rattle.machine_rows.specs.Rows.{with_contract, find, inc, inc_contract, inc_label, got}

-- ---- a reply of another kind than the result

abbrev pub OutsideReplyDoesntFit : Type 0
OutsideReplyDoesntFit =
    checked find (with_contract no_effective) 0 (i4 1 ∷ []) (replies (reply.Given (Text (97 ∷ []))) ∷ []) 20
    ≡ Some (outcome.Stuck, record { member = codes "Ext.Log::Find"; args = i4 1 ∷ []; reply = replies (reply.Given (Text (97 ∷ []))) } ∷ [])

-- arguments that don't fit the parameters tell nothing
abbrev pub ArgumentsThatDontFit : Type 0
ArgumentsThatDontFit =
    checked (sample (method 0 (codes "Fn") [] int_ty (body (bare 0x14 ∷ log_find ∷ ret ∷ []) [] None) ∷ [])) (with_contract no_effective) 0 [] [] 20 ≡ Some (outcome.Stuck, [])

-- ---- --throw off: TriggerFailure is called, and the run goes on

abbrev pub quiet : Contracts
quiet = let k = with_contract inc_contract in record k { settings = record k.settings { throwing = false } }

abbrev pub FailureIsTriggered : Type 0
FailureIsTriggered =
    checked inc quiet 0 (i4 0 ∷ []) [] 20
    ≡ Some (returns 1, failed 0 inc_label (reply.Given (Text inc_label)) ∷ record { member = helper_name ++ codes "::TriggerFailure"; args = i4 0 ∷ Text inc_label ∷ Null ∷ Text inc_label ∷ Null ∷ []; reply = replies reply.Void } ∷ [])

-- ---- Tc(int32 d): EnsuresOnThrow<DivideByZeroException>(false); 1 / d in a try whose catch holds a try with finally

abbrev pub protects : RegionKind → ℕ → ℕ → ℕ → ℕ → Region
protects k a b c d = record { kind = k; try_from = a; try_to = b; handler_from = c; handler_to = d }

abbrev pub tc : Program
tc =
    sample
    (method 0 (codes "Tc") (int_ty ∷ []) int_ty
    (body (int 0 ∷ on_throw ∷ int 1 ∷ ldarg 0 ∷ bare 0x5B ∷ bare 0x26 ∷ jump 0xDD 14 ∷ bare 0x26 ∷ jump 0xDD 12 ∷ bare 0x00 ∷ log_get ∷ bare 0x26 ∷ jump 0xDD 14 ∷ bare 0x00 ∷ int 9 ∷ ret ∷ [])
    (protects (region.Catch (type_token 2)) 2 7 7 13 ∷ []) None) ∷ [])

abbrev pub tc_contract : Effective
tc_contract =
    record no_effective { rest_from = 2; clauses = record (clause kind.Throws (codes "T::Tc/throws/0") (int 0 ∷ on_throw ∷ [])) { exception = Some (type_ref 2) } ∷ [] }

-- an exception that the rest catches isn't seen by the throw group
abbrev pub CaughtInTheRest : Type 0
CaughtInTheRest = checked tc (with_contract tc_contract) 0 (i4 0 ∷ []) [] 60 ≡ Some (returns 9, [])

-- ---- Fi(int32 d): 1 / d in a try with finally, in a method that nobody catches in

abbrev pub fi : Program
fi =
    sample
    (method 0 (codes "Fi") (int_ty ∷ []) int_ty
    (body (int 1 ∷ ldarg 0 ∷ bare 0x5B ∷ starg 0 ∷ jump 0xDD 8 ∷ log_get ∷ bare 0x26 ∷ bare 0xDC ∷ ldarg 0 ∷ ret ∷ []) (protects region.Finally 0 5 5 8 ∷ []) None) ∷ [])

-- the finally block runs on the way out
abbrev pub FinallyRunsOnTheWayOut : Type 0
FinallyRunsOnTheWayOut =
    checked fi (with_contract no_effective) 0 (i4 0 ∷ []) [] 60 ≡ Some (outcome.Thrown 1 (codes "System.DivideByZeroException"), got 0 ∷ [])

-- and after leave
abbrev pub FinallyRunsAfterLeave : Type 0
FinallyRunsAfterLeave = checked fi (with_contract no_effective) 0 (i4 1 ∷ []) [] 60 ≡ Some (returns 1, got 0 ∷ [])

-- ---- a type whose initializer throws

abbrev pub special : MethodDesc → MethodDesc
special d = record d { flags = 0x1816 }

abbrev pub static_int : FieldDesc
static_int = record { owner = 0; name = codes "n"; ty = int_ty; is_static = true; flags = 0x16 }

abbrev pub field_token : ℕ → Token
field_token k = record { table = 0x04; row = k + 1 }

abbrev pub static_rows : List TokenRow
static_rows = record { assembly = 0; token = field_token 0; meaning = OfField (Known 0) 0 } ∷ []

-- the first type has the field of number 0
abbrev pub set_fields : List TypeDesc → List TypeDesc
set_fields [] = []
set_fields (t ∷ ts) = record t { fields = 0 ∷ [] } ∷ ts

abbrev pub with_field : FieldDesc → List TokenRow → Program → Program
with_field f rows p = record p { fields = f ∷ []; types = set_fields p.types; tokens = rows ++ p.tokens }

-- .cctor: throw new InvalidOperationException(); Twice(): reads the static field in a try that catches, and then again
abbrev pub init : Program
init =
    with_field static_int static_rows (sample
    (special (method 0 (codes ".cctor") [] void_ty (body (new_operation_exception ∷ bare 0x7A ∷ []) [] None))
    ∷ record (method 0 (codes "Read") [] int_ty (body (instr 0x7E (Tok 0 (field_token 0)) ∷ ret ∷ []) [] None)) { owner = 2 }
    ∷ record (method 0 (codes "Twice") [] int_ty (body (call_own 1 ∷ bare 0x26 ∷ jump 0xDD 5 ∷ bare 0x26 ∷ jump 0xDD 5 ∷ call_own 1 ∷ ret ∷ []) (protects (region.Catch (type_token 3)) 0 3 3 5 ∷ []) None)) { owner = 2 } ∷ []))

-- the same TypeInitializationException is thrown at each use
abbrev pub InitializerFailsForGood : Type 0
InitializerFailsForGood = checked init (with_contract no_effective) 2 [] [] 60 ≡ Some (outcome.Thrown 2 (codes "System.TypeInitializationException"), [])

-- an entry call is a use
abbrev pub EntryRunsTheInitializer : Type 0
EntryRunsTheInitializer = checked init (with_contract no_effective) 0 [] [] 60 ≡ Some (outcome.Thrown 2 (codes "System.TypeInitializationException"), [])

-- ---- class T<X>: Set(int32 n) stores n in a static field. Go(): T<int32>.Set(5); T<string>.Set(7); returns 10 times the one's field and the other's

abbrev pub generic_rows : List TokenRow
generic_rows =
    record { assembly = 0; token = field_token 0; meaning = OfField (ty.Inst 0 (ty.Var 0 ∷ [])) 0 }
    ∷ record { assembly = 0; token = field_token 1; meaning = OfField (ty.Inst 0 (int_ty ∷ [])) 0 }
    ∷ record { assembly = 0; token = field_token 2; meaning = OfField (ty.Inst 0 (string_ty ∷ [])) 0 }
    ∷ record { assembly = 0; token = method_token 8; meaning = OfMethod (ty.Inst 0 (int_ty ∷ [])) 0 [] }
    ∷ record { assembly = 0; token = method_token 9; meaning = OfMethod (ty.Inst 0 (string_ty ∷ [])) 0 [] } ∷ []

abbrev pub generic : Program
generic =
    let q =
    with_field static_int generic_rows (sample
    (method 0 (codes "Set") (int_ty ∷ []) void_ty (body (ldarg 0 ∷ instr 0x80 (Tok 0 (field_token 0)) ∷ ret ∷ []) [] None)
    ∷ method 2 (codes "Go") [] int_ty (body (int 5 ∷ call_own 8 ∷ int 7 ∷ call_own 9 ∷ instr 0x7E (Tok 0 (field_token 1)) ∷ int 10 ∷ bare 0x5A ∷ instr 0x7E (Tok 0 (field_token 2)) ∷ bare 0x58 ∷ ret ∷ []) [] None) ∷ []))
    in
    record q { types = record (class_with (codes "T") (0 ∷ [])) { fields = 0 ∷ []; generics = 1 } ∷ outside_class contract_name ∷ class_with (codes "U") (1 ∷ []) ∷ [] }

-- each closed type has a field of its own
abbrev pub ClosedTypesHaveTheirOwnStatics : Type 0
ClosedTypesHaveTheirOwnStatics = checked generic (with_contract no_effective) 1 [] [] 60 ≡ Some (returns 57, [])

-- ---- class C: Invariant(P(0) == 0); public P(x): Requires(x > 0); return x

abbrev pub instance : MethodDesc → MethodDesc
instance d = record d { is_static = false; flags = 0x6 }

abbrev pub new_own : ℕ → Instr
new_own k = instr 0x73 (Tok 0 (method_token k))

abbrev pub inv_clause : Clause
inv_clause = clause kind.Invariant (codes "C::I/invariant/0") (ldarg 0 ∷ int 0 ∷ call_own 1 ∷ int 0 ∷ bare 0xFE01 ∷ invariant ∷ [])

abbrev pub nested : Program
nested =
    sample
    (instance (method 0 (codes ".ctor") [] void_ty (body (ldarg 0 ∷ call 14 ∷ ret ∷ []) [] None))
    ∷ instance (method 0 (codes "P") (int_ty ∷ []) int_ty (body (ldarg 1 ∷ int 0 ∷ bare 0xFE02 ∷ requires ∷ ldarg 1 ∷ ret ∷ []) [] None))
    ∷ method 0 (codes "Go") [] void_ty (body (new_own 0 ∷ bare 0x26 ∷ ret ∷ []) [] None) ∷ [])

abbrev pub nested_contracts : Contracts
nested_contracts =
    contracts Full 4
    (record no_effective { lead_end = 2; rest_from = 2; invariants = inv_clause ∷ [] }
    ∷ record no_effective { rest_from = 4; clauses = record (clause kind.Requires (codes "C::P/requires/0") (ldarg 1 ∷ int 0 ∷ bare 0xFE02 ∷ requires ∷ [])) { home = 1 } ∷ []; invariants = inv_clause ∷ [] }
    ∷ no_effective ∷ [])

-- within the invariant's call the precondition is checked, and the invariant isn't
abbrev pub InvariantChecksANestedCall : Type 0
InvariantChecksANestedCall =
    checked nested nested_contracts 2 [] (null_reply ∷ null_reply ∷ null_reply ∷ []) 60
    ≡ Some (outcome.Return None, failed 0 (codes "C::P/requires/0") (reply.Given Null) ∷ [])

-- ---- Va(int32& r): Ensures(ValueAtReturn(r) == 3); stores 2 in r. Its caller passes a local's address.

-- ValueAtReturn<int>, the sixteenth of the members
abbrev pub int_at_return : Instr
int_at_return = instr 0x28 (Tok 0 (record { table = 0x2B; row = 1 }))

abbrev pub va : Program
va =
    let q =
    sample
    (method 0 (codes "Va") (ty.ByRef int_ty ∷ []) void_ty (body (ldarg 0 ∷ int_at_return ∷ int 3 ∷ bare 0xFE01 ∷ ensures_call ∷ ldarg 0 ∷ int 2 ∷ bare 0x54 ∷ ret ∷ []) [] None)
    ∷ method 0 (codes "Go") [] void_ty (body (instr 0xFE0D (Index 0) ∷ call_own 0 ∷ ret ∷ []) [] (Some (record { table = 0x11; row = 1 }))) ∷ [])
    in
    record q { tokens = record { assembly = 0; token = record { table = 0x11; row = 1 }; meaning = OfLocals (int_ty ∷ []) } ∷ record { assembly = 0; token = record { table = 0x2B; row = 1 }; meaning = OfMethod contract_ty 17 (int_ty ∷ []) } ∷ q.tokens }

abbrev pub va_contracts : Contracts
va_contracts =
    contracts Full 4
    (record no_effective { rest_from = 5; clauses = clause kind.Ensures (codes "T::Va/ensures/0") (ldarg 0 ∷ int_at_return ∷ int 3 ∷ bare 0xFE01 ∷ ensures_call ∷ []) ∷ [] } ∷ no_effective ∷ [])

abbrev pub ValueAtReturnIsRead : Type 0
ValueAtReturnIsRead =
    checked va va_contracts 1 [] [] 60
    ≡ Some (outcome.Thrown 1 contract_exception_name, failed 1 (codes "T::Va/ensures/0") (reply.Given (Text (codes "T::Va/ensures/0"))) ∷ [])

-- ---- Requires<E> with an E of the set, whose constructor takes the text

abbrev pub own_exception : Program
own_exception =
    let q =
    sample
    (method 0 (codes "Inc") (int_ty ∷ []) int_ty (body (ldarg 0 ∷ int 0 ∷ bare 0xFE02 ∷ requires ∷ ldarg 0 ∷ int 1 ∷ bare 0x58 ∷ ret ∷ []) [] None)
    ∷ record (instance (method 2 (codes ".ctor") (string_ty ∷ []) void_ty (body (ldarg 0 ∷ call 14 ∷ ret ∷ []) [] None))) { sig = 1 } ∷ [])
    in
    record q {
      types = q.types ++ record (class_with (codes "T/E") (1 ∷ [])) { base = Some (class_named (codes "System.Exception")) } ∷ [];
      tokens = record { assembly = 0; token = type_token 9; meaning = OfType (Known 2) } ∷ q.tokens;
    }

abbrev pub own_exception_contract : Effective
own_exception_contract = record inc_contract { clauses = record (clause kind.RequiresOf inc_label (ldarg 0 ∷ int 0 ∷ bare 0xFE02 ∷ requires ∷ [])) { exception = Some (type_ref 9) } ∷ [] }

abbrev pub RequiresOfMakesItsOwnException : Type 0
RequiresOfMakesItsOwnException =
    checked own_exception (contracts Full 4 (own_exception_contract ∷ no_effective ∷ [])) 0 (i4 0 ∷ []) [] 40
    ≡ Some (outcome.Thrown 1 (codes "T/E"), failed 0 inc_label (reply.Given (Text inc_label)) ∷ [])
