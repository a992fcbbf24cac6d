-- Small programs with their contracts, and what runs of them show. Each statement is named by what it shows.
use Rattle.std.specs.Prelude.{◌≡◌, ℕ, List, [], ◌∷◌, Some, None, negsuc, codes}
use Rattle.cil_model.specs.declared.value.Value.{I4, Null, Text}
use Rattle.cil_model.specs.declared.body.Instr.{Instr}
use Rattle.cil_model.specs.declared.body.Operand.TheVariants.{Int}
use Rattle.cil_model.specs.declared.contract.Contracts.{Contracts}
use Rattle.cil_model.specs.declared.contract.Effective.{Effective}
use Rattle.cil_model.specs.declared.contract.ClauseKind.TheVariants as kind
use Rattle.cil_model.specs.declared.contract.Level.TheVariants.{NoChecks, ReleaseRequires, Preconditions, Full}
use Rattle.cil_model.specs.declared.program.Program.{Program}
use Rattle.cil_model.specs.declared.run.Outcome.TheVariants as outcome
use Rattle.cil_model.specs.declared.run.ReplyResult.TheVariants as reply
use Rattle.cil_model.specs.declared.run.TraceItem.{TraceItem}
use Rattle.cil_semantics.specs.Core.{Name}
use Rattle.machine_rows.specs.Samples.{instr, bare, ldarg, starg, int, jump, ret, body, int_ty, void_ty, method, clause, no_effective, contracts, replies, null_reply, failed, sample, requires, ensures_call, on_throw, assert, result, old_value, log_get, log_check, log_find, new_argument_exception, new_null_exception, new_operation_exception, call_own, type_ref, checked, i4, returns, contract_exception_name}

-- one method with a contract, at a level and a guard of 4
abbrev pub with_contract : Effective → Contracts
with_contract e = contracts Full 4 (e ∷ [])

-- ---- Inc(int32 x): Requires(x > 0); return x + 1

abbrev pub positive : List Instr
positive = ldarg 0 ∷ int 0 ∷ bare 0xFE02 ∷ requires ∷ []

abbrev pub inc : Program
inc = sample (method 0 (codes "Inc") (int_ty ∷ []) int_ty (body (ldarg 0 ∷ int 0 ∷ bare 0xFE02 ∷ requires ∷ ldarg 0 ∷ int 1 ∷ bare 0x58 ∷ ret ∷ []) [] None) ∷ [])

abbrev pub inc_label : Name
inc_label = codes "T::Inc/requires/0"

abbrev pub inc_contract : Effective
inc_contract = record no_effective { rest_from = 4; clauses = clause kind.Requires inc_label positive ∷ [] }

-- a null reply goes on
abbrev pub RequiresGoesOnAfterNull : Type 0
RequiresGoesOnAfterNull =
    checked inc (with_contract inc_contract) 0 (i4 0 ∷ []) (null_reply ∷ []) 20
    ≡ Some (returns 1, failed 0 inc_label (reply.Given Null) ∷ [])

-- by default the reply is the label, and the clause throws
abbrev pub RequiresThrowsByDefault : Type 0
RequiresThrowsByDefault =
    checked inc (with_contract inc_contract) 0 (i4 0 ∷ []) [] 20
    ≡ Some (outcome.Thrown 1 contract_exception_name, failed 0 inc_label (reply.Given (Text inc_label)) ∷ [])

-- an exception as the reply is thrown
abbrev pub RequiresThrowsTheReply : Type 0
RequiresThrowsTheReply =
    checked inc (with_contract inc_contract) 0 (i4 0 ∷ []) (replies (reply.Throw (codes "System.FormatException")) ∷ []) 20
    ≡ Some (outcome.Thrown 1 (codes "System.FormatException"), failed 0 inc_label (reply.Throw (codes "System.FormatException")) ∷ [])

-- a precondition that holds tells nothing
abbrev pub RequiresHolds : Type 0
RequiresHolds = checked inc (with_contract inc_contract) 0 (i4 5 ∷ []) [] 20 ≡ Some (returns 6, [])

-- Requires<ArgumentException>: a text makes the exception by its constructor
abbrev pub inc_of : Effective
inc_of = record no_effective { rest_from = 4; clauses = record (clause kind.RequiresOf inc_label positive) { exception = Some (type_ref 1) } ∷ [] }

abbrev pub RequiresOfThrowsItsType : Type 0
RequiresOfThrowsItsType =
    checked inc (with_contract inc_of) 0 (i4 0 ∷ []) [] 20
    ≡ Some (outcome.Thrown 1 (codes "System.ArgumentException"), failed 0 inc_label (reply.Given (Text inc_label)) ∷ [])

-- below the level of preconditions the segment is passed over
abbrev pub RequiresIsntKept : Type 0
RequiresIsntKept = checked inc (contracts ReleaseRequires 4 (inc_contract ∷ [])) 0 (i4 0 ∷ []) [] 20 ≡ Some (returns 1, [])

-- ---- Div(int32 x): return 10 / x

abbrev pub div : Program
div = sample (method 0 (codes "Div") (int_ty ∷ []) int_ty (body (int 10 ∷ ldarg 0 ∷ bare 0x5B ∷ ret ∷ []) [] None) ∷ [])

abbrev pub DivisionByZeroThrows : Type 0
DivisionByZeroThrows = checked div (with_contract no_effective) 0 (i4 0 ∷ []) [] 20 ≡ Some (outcome.Thrown 1 (codes "System.DivideByZeroException"), [])

abbrev pub DivisionReturns : Type 0
DivisionReturns = checked div (with_contract no_effective) 0 (i4 2 ∷ []) [] 20 ≡ Some (returns 5, [])

-- ---- G(int32 x): return Ext.Log::Find(x)

abbrev pub find : Program
find = sample (method 0 (codes "G") (int_ty ∷ []) int_ty (body (ldarg 0 ∷ log_find ∷ ret ∷ []) [] None) ∷ [])

abbrev pub OutsideReplyIsReturned : Type 0
OutsideReplyIsReturned =
    checked find (with_contract no_effective) 0 (i4 1 ∷ []) (replies (reply.Given (i4 7)) ∷ []) 20
    ≡ Some (returns 7, record { member = codes "Ext.Log::Find"; args = i4 1 ∷ []; reply = replies (reply.Given (i4 7)) } ∷ [])

-- ---- Lg(int32 x): if (x < 0) throw new ArgumentException(); Requires(x > 9); return x

abbrev pub lg : Program
lg =
    sample
    (method 0 (codes "Lg") (int_ty ∷ []) int_ty
    (body (ldarg 0 ∷ int 0 ∷ jump 0x3C 5 ∷ new_argument_exception ∷ bare 0x7A ∷ ldarg 0 ∷ int 9 ∷ bare 0xFE02 ∷ requires ∷ ldarg 0 ∷ ret ∷ []) [] None) ∷ [])

abbrev pub lg_label : Name
lg_label = codes "T::Lg/requires/0"

abbrev pub lg_contract : Effective
lg_contract = record no_effective { lead_end = 5; rest_from = 9; clauses = clause kind.Requires lg_label (ldarg 0 ∷ int 9 ∷ bare 0xFE02 ∷ requires ∷ []) ∷ [] }

abbrev pub LeadInThrowsAtEveryLevel : Type 0
LeadInThrowsAtEveryLevel =
    checked lg (contracts NoChecks 4 (lg_contract ∷ [])) 0 (I4 (negsuc 0) ∷ []) [] 20 ≡ Some (outcome.Thrown 1 (codes "System.ArgumentException"), [])

abbrev pub LeadInPasses : Type 0
LeadInPasses = checked lg (contracts NoChecks 4 (lg_contract ∷ [])) 0 (i4 5 ∷ []) [] 20 ≡ Some (returns 5, [])

abbrev pub RequiresFailsAfterLeadIn : Type 0
RequiresFailsAfterLeadIn =
    checked lg (contracts Preconditions 4 (lg_contract ∷ [])) 0 (i4 5 ∷ []) [] 20
    ≡ Some (outcome.Thrown 1 contract_exception_name, failed 0 lg_label (reply.Given (Text lg_label)) ∷ [])

-- ---- Ca(int32 x): Ensures(x > 0 || OldValue(Ext.Log::Get()) == 0); return x

abbrev pub ca_clause : List Instr
ca_clause = ldarg 0 ∷ int 0 ∷ jump 0x3D 8 ∷ log_get ∷ old_value ∷ int 0 ∷ bare 0xFE01 ∷ jump 0x38 9 ∷ int 1 ∷ ensures_call ∷ []

abbrev pub ca : Program
ca =
    sample
    (method 0 (codes "Ca") (int_ty ∷ []) int_ty
    (body (ldarg 0 ∷ int 0 ∷ jump 0x3D 8 ∷ log_get ∷ old_value ∷ int 0 ∷ bare 0xFE01 ∷ jump 0x38 9 ∷ int 1 ∷ ensures_call ∷ ldarg 0 ∷ ret ∷ []) [] None) ∷ [])

abbrev pub ca_contract : Effective
ca_contract =
    record no_effective { rest_from = 10; clauses = record (clause kind.Ensures (codes "T::Ca/ensures/0") ca_clause) { olds = record { from = 3; to = 4; ty = type_ref 4 } ∷ [] } ∷ [] }

abbrev pub got : ℕ → TraceItem
got n = record { member = codes "Ext.Log::Get"; args = []; reply = replies (reply.Given (i4 n)) }

-- the value is captured though the clause doesn't reach it
abbrev pub CaptureIsTakenUnreached : Type 0
CaptureIsTakenUnreached = checked ca (with_contract ca_contract) 0 (i4 1 ∷ []) [] 40 ≡ Some (returns 1, got 0 ∷ [])

-- where it is reached, it is the captured one
abbrev pub CaptureIsRecalled : Type 0
CaptureIsRecalled =
    checked ca (with_contract ca_contract) 0 (i4 0 ∷ []) (replies (reply.Given (i4 3)) ∷ null_reply ∷ []) 40
    ≡ Some (returns 0, got 3 ∷ failed 1 (codes "T::Ca/ensures/0") (reply.Given Null) ∷ [])

-- ---- Loop(int32 n): Ensures(Result >= 0); a loop with two exits

abbrev pub loop_clause : List Instr
loop_clause = result ∷ int 0 ∷ bare 0xFE04 ∷ int 0 ∷ bare 0xFE01 ∷ ensures_call ∷ []

abbrev pub loop : Program
loop =
    sample
    (method 0 (codes "Loop") (int_ty ∷ []) int_ty
    (body (result ∷ int 0 ∷ bare 0xFE04 ∷ int 0 ∷ bare 0xFE01 ∷ ensures_call ∷ ldarg 0 ∷ int 100 ∷ jump 0x3D 16 ∷ ldarg 0 ∷ jump 0x39 18 ∷ ldarg 0 ∷ int 1 ∷ bare 0x59 ∷ starg 0 ∷ jump 0x38 6 ∷ int 7 ∷ ret ∷ instr 0x20 (Int (negsuc 0)) ∷ ret ∷ []) [] None) ∷ [])

abbrev pub loop_contract : Effective
loop_contract = record no_effective { rest_from = 6; clauses = clause kind.Ensures (codes "T::Loop/ensures/0") loop_clause ∷ [] }

abbrev pub EnsuresFailsAtOneExit : Type 0
EnsuresFailsAtOneExit =
    checked loop (with_contract loop_contract) 0 (i4 3 ∷ []) [] 60
    ≡ Some (outcome.Thrown 1 contract_exception_name, failed 1 (codes "T::Loop/ensures/0") (reply.Given (Text (codes "T::Loop/ensures/0"))) ∷ [])

abbrev pub EnsuresHoldsAtTheOther : Type 0
EnsuresHoldsAtTheOther = checked loop (with_contract loop_contract) 0 (i4 200 ∷ []) [] 60 ≡ Some (returns 7, [])

-- ---- Th(int32 k): EnsuresOnThrow<ArgumentException>(false); throws ArgumentNullException for 1, else InvalidOperationException

abbrev pub th : Program
th =
    sample
    (method 0 (codes "Th") (int_ty ∷ []) void_ty
    (body (int 0 ∷ on_throw ∷ ldarg 0 ∷ int 1 ∷ jump 0x3B 7 ∷ new_operation_exception ∷ bare 0x7A ∷ new_null_exception ∷ bare 0x7A ∷ []) [] None) ∷ [])

abbrev pub th_label : Name
th_label = codes "T::Th/throws/0"

abbrev pub th_contract : Effective
th_contract = record no_effective { rest_from = 2; clauses = record (clause kind.Throws th_label (int 0 ∷ on_throw ∷ [])) { exception = Some (type_ref 1) } ∷ [] }

abbrev pub ThrowGroupFits : Type 0
ThrowGroupFits =
    checked th (with_contract th_contract) 0 (i4 1 ∷ []) [] 40
    ≡ Some (outcome.Thrown 2 contract_exception_name, failed 2 th_label (reply.Given (Text th_label)) ∷ [])

-- after a null reply the same exception goes on
abbrev pub ThrowGroupGoesOn : Type 0
ThrowGroupGoesOn =
    checked th (with_contract th_contract) 0 (i4 1 ∷ []) (null_reply ∷ []) 40
    ≡ Some (outcome.Thrown 1 (codes "System.ArgumentNullException"), failed 2 th_label (reply.Given Null) ∷ [])

abbrev pub ThrowGroupDoesntFit : Type 0
ThrowGroupDoesntFit =
    checked th (with_contract th_contract) 0 (i4 2 ∷ []) [] 40 ≡ Some (outcome.Thrown 1 (codes "System.InvalidOperationException"), [])

-- ---- Rec(): Ensures(Rec() == 0); return 1

abbrev pub rec : Program
rec =
    sample
    (method 0 (codes "Rec") [] int_ty (body (call_own 0 ∷ int 0 ∷ bare 0xFE01 ∷ ensures_call ∷ int 1 ∷ ret ∷ []) [] None) ∷ [])

abbrev pub rec_contract : Effective
rec_contract = record no_effective { rest_from = 4; clauses = clause kind.Ensures (codes "T::Rec/ensures/0") (call_own 0 ∷ int 0 ∷ bare 0xFE01 ∷ ensures_call ∷ []) ∷ [] }

abbrev pub rec_failed : TraceItem
rec_failed = failed 1 (codes "T::Rec/ensures/0") (reply.Given Null)

abbrev pub GuardZeroChecksOnce : Type 0
GuardZeroChecksOnce =
    checked rec (contracts Full 0 (rec_contract ∷ [])) 0 [] (null_reply ∷ null_reply ∷ null_reply ∷ []) 60 ≡ Some (returns 1, rec_failed ∷ [])

abbrev pub GuardOneChecksTwice : Type 0
GuardOneChecksTwice =
    checked rec (contracts Full 1 (rec_contract ∷ [])) 0 [] (null_reply ∷ null_reply ∷ null_reply ∷ []) 60
    ≡ Some (returns 1, rec_failed ∷ rec_failed ∷ [])

-- ---- As(int32 x): Assert(Ext.Log::Check(x))

abbrev pub assertion : Program
assertion = sample (method 0 (codes "As") (int_ty ∷ []) void_ty (body (ldarg 0 ∷ log_check ∷ assert ∷ ret ∷ []) [] None) ∷ [])

abbrev pub assertion_contract : Effective
assertion_contract = record no_effective { asserts = clause kind.Assert (codes "T::As/assert/0") (assert ∷ []) ∷ [] }

abbrev pub check_item : TraceItem
check_item = record { member = codes "Ext.Log::Check"; args = i4 0 ∷ []; reply = replies (reply.Given (i4 0)) }

abbrev pub AssertIsDroppedBelowFull : Type 0
AssertIsDroppedBelowFull =
    checked assertion (contracts Preconditions 4 (assertion_contract ∷ [])) 0 (i4 0 ∷ []) [] 40 ≡ Some (outcome.Return None, check_item ∷ [])

abbrev pub AssertFailsAtFull : Type 0
AssertFailsAtFull =
    checked assertion (with_contract assertion_contract) 0 (i4 0 ∷ []) [] 40
    ≡ Some (outcome.Thrown 1 contract_exception_name, check_item ∷ failed 4 (codes "T::As/assert/0") (reply.Given (Text (codes "T::As/assert/0"))) ∷ [])

-- ---- Pe(int32 x): Requires(10 / x > 0); EnsuresOnThrow<Exception>(false)

abbrev pub pe : Program
pe =
    sample
    (method 0 (codes "Pe") (int_ty ∷ []) void_ty (body (int 10 ∷ ldarg 0 ∷ bare 0x5B ∷ int 0 ∷ bare 0xFE02 ∷ requires ∷ int 0 ∷ on_throw ∷ ret ∷ []) [] None) ∷ [])

abbrev pub pe_contract : Effective
pe_contract =
    record no_effective {
      rest_from = 8;
      clauses =
          clause kind.Requires (codes "T::Pe/requires/0") (int 10 ∷ ldarg 0 ∷ bare 0x5B ∷ int 0 ∷ bare 0xFE02 ∷ requires ∷ [])
          ∷ record (clause kind.Throws (codes "T::Pe/throws/0") (int 0 ∷ on_throw ∷ [])) { exception = Some (type_ref 3) } ∷ [];
    }

-- an exception of a precondition isn't seen by the throw group
abbrev pub EntryGroupIsOutsideTheThrowGroup : Type 0
EntryGroupIsOutsideTheThrowGroup =
    checked pe (with_contract pe_contract) 0 (i4 0 ∷ []) [] 40 ≡ Some (outcome.Thrown 1 (codes "System.DivideByZeroException"), [])
