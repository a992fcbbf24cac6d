-- Small methods with contracts, and what their own contracts are. Each statement is named by what it shows.
use Rattle.std.specs.Prelude.{◌≡◌, ℕ, List, [], ◌∷◌, ◌++◌, Some, None, codes, true, false, map}
use Rattle.cil_base.specs.declared.rule.Rule.TheVariants.{C1, C2, C3, C4, C5, C6, C7}
use Rattle.cil_model.specs.declared.body.Instr.{Instr}
use Rattle.cil_model.specs.declared.body.Operand.TheVariants.{Index, Targets}
use Rattle.cil_model.specs.declared.body.Region.{Region}
use Rattle.cil_model.specs.declared.body.RegionKind.TheVariants as region
use Rattle.cil_model.specs.declared.contract.Clause.{Clause}
use Rattle.cil_model.specs.declared.contract.ClauseKind.{ClauseKind}
use Rattle.cil_model.specs.declared.contract.ClauseKind.TheVariants as kind
use Rattle.cil_model.specs.declared.program.MethodDesc.{MethodDesc}
use Rattle.cil_model.specs.declared.ty.Ty.{Ty, Known, MVar}
use Rattle.cil_semantics.specs.Core.{Name, class_named, string_ty}
use Rattle.machine_rows.specs.Samples.{instr, bare, ldarg, ldloc, stloc, int, jump, ret, body, method, int_ty, void_ty, member_token}
use Rattle.contract_parts.specs.Flow.{Code}
use Rattle.contract_extract.specs.OwnContract.{own_contract}
use Rattle.contract_rows.specs.Samples.{sample, sample_of, code, first_broken, with_closure, requires, requires_with, requires_of, ensures_call, on_throw, invariant_call, assert_call, end_block, result, old_value, value_at_return, new_exception, object_constructor, log_get, with_field, ldstr, locals_token, new_closure, with_closure_field, sample_with_message, load_message, sample_made, own_exception, argument_exception, exception_constructor, with_exception, all_broken}
use Rattle.contract_extract.specs.Clauses.{ref}

-- ---- words

abbrev pub clause : ClauseKind → Name → List Instr → Clause
clause k label is = record { kind = k; home = 0; instrs = is; locals = []; olds = []; exception = None; user = false; label = label; inline = [] }

-- a static method T::M(int32) that returns an int32, with this code
abbrev pub static_code : List Instr → List Region → Code
static_code is rs = code (sample (codes "T") (method 0 (codes "M") (int_ty ∷ []) int_ty (body is rs (Some locals_token)))) is rs

-- the same without a result
abbrev pub void_code : List Instr → List Region → Code
void_code is rs = code (sample (codes "T") (method 0 (codes "M") (int_ty ∷ []) void_ty (body is rs (Some locals_token)))) is rs

-- a method of the account
abbrev pub account_code : Name → List Instr → Code
account_code name is = code (sample (codes "Acc") (record (method 0 name (int_ty ∷ []) int_ty (body is [] (Some locals_token))) { is_static = false })) is []

-- the same of a constructor
abbrev pub account_constructor : List Instr → Code
account_constructor is = code (sample (codes "Acc") (record (method 0 (codes ".ctor") (int_ty ∷ []) void_ty (body is [] None)) { is_static = false })) is []

abbrev pub account_invariant : List Instr → Code
account_invariant is = code (sample (codes "Acc") (record (method 0 (codes "Inv") [] void_ty (body is [] None)) { is_static = false; invariant = true })) is []

-- ---- the account

abbrev pub not_negative : List Instr
not_negative = bare 0 ∷ bare 0 ∷ ldarg 1 ∷ int 0 ∷ bare 0xFE04 ∷ int 0 ∷ bare 0xFE01 ∷ requires ∷ []

abbrev pub constructor : Code
constructor =
    account_constructor (ldarg 0 ∷ object_constructor ∷ bare 0 ∷ bare 0 ∷ ldarg 1 ∷ int 0 ∷ bare 0xFE04 ∷ int 0 ∷ bare 0xFE01 ∷ requires ∷ bare 0 ∷ ldarg 0 ∷ ldarg 1 ∷ with_field 0x7D ∷ ret ∷ [])

abbrev pub AccountConstructorHasALeadIn : Type 0
AccountConstructorHasALeadIn =
    own_contract constructor
    ≡ record { lead_end = 2; rest_from = 10; clauses = clause kind.Requires (codes "Acc::.ctor/requires/0") not_negative ∷ []; asserts = [] }

abbrev pub take : Code
take =
    account_code (codes "Take")
    (bare 0 ∷ ldarg 1 ∷ int 0 ∷ bare 0xFE02 ∷ ldstr ∷ requires_with
    ∷ bare 0 ∷ result ∷ ldarg 0 ∷ with_field 0x7B ∷ old_value ∷ ldarg 1 ∷ bare 0x59 ∷ bare 0xFE01 ∷ ensures_call
    ∷ bare 0 ∷ ldarg 0 ∷ ldarg 0 ∷ with_field 0x7B ∷ ldarg 1 ∷ bare 0x59 ∷ with_field 0x7D
    ∷ ldarg 0 ∷ with_field 0x7B ∷ stloc 0 ∷ jump 0x38 26 ∷ ldloc 0 ∷ ret ∷ [])

abbrev pub take_clauses : List Clause
take_clauses =
    record (clause kind.Requires (codes "Acc::Take/requires/0") (bare 0 ∷ ldarg 1 ∷ int 0 ∷ bare 0xFE02 ∷ ldstr ∷ requires_with ∷ [])) { user = true }
    ∷ record (clause kind.Ensures (codes "Acc::Take/ensures/0") (bare 0 ∷ result ∷ ldarg 0 ∷ with_field 0x7B ∷ old_value ∷ ldarg 1 ∷ bare 0x59 ∷ bare 0xFE01 ∷ ensures_call ∷ [])) { olds = record { from = 2; to = 4; ty = ref 0 (member_token 10) 0 } ∷ [] }
    ∷ []

abbrev pub AccountTakeHasTwoClauses : Type 0
AccountTakeHasTwoClauses = own_contract take ≡ record { lead_end = 0; rest_from = 15; clauses = take_clauses; asserts = [] }

abbrev pub inv : Code
inv = account_invariant (bare 0 ∷ ldarg 0 ∷ with_field 0x7B ∷ int 0 ∷ bare 0xFE04 ∷ int 0 ∷ bare 0xFE01 ∷ invariant_call ∷ bare 0 ∷ ret ∷ [])

abbrev pub AccountInvariantIsAClause : Type 0
AccountInvariantIsAClause =
    own_contract inv
    ≡ record { lead_end = 0; rest_from = 8; clauses = clause kind.Invariant (codes "Acc::Inv/invariant/0") (bare 0 ∷ ldarg 0 ∷ with_field 0x7B ∷ int 0 ∷ bare 0xFE04 ∷ int 0 ∷ bare 0xFE01 ∷ invariant_call ∷ []) ∷ []; asserts = [] }

abbrev pub AccountBreaksNoRule : Type 0
AccountBreaksNoRule = map first_broken (constructor ∷ take ∷ inv ∷ []) ≡ None ∷ None ∷ None ∷ []

-- ---- if (x < 0) throw new ArgumentException(); Requires(x > 9); return x

abbrev pub legacy : Code
legacy =
    static_code (ldarg 0 ∷ int 0 ∷ jump 0x3C 5 ∷ new_exception ∷ bare 0x7A ∷ ldarg 0 ∷ int 9 ∷ bare 0xFE02 ∷ requires ∷ ldarg 0 ∷ ret ∷ []) []

abbrev pub IfThrowIsLeadIn : Type 0
IfThrowIsLeadIn =
    own_contract legacy
    ≡ record { lead_end = 5; rest_from = 9; clauses = clause kind.Requires (codes "T::M/requires/0") (ldarg 0 ∷ int 9 ∷ bare 0xFE02 ∷ requires ∷ []) ∷ []; asserts = [] }

-- ---- if (x < 0) throw new ArgumentException(); EndContractBlock(); return x

abbrev pub legacy_block : Code
legacy_block = static_code (ldarg 0 ∷ int 0 ∷ jump 0x3C 5 ∷ new_exception ∷ bare 0x7A ∷ end_block ∷ ldarg 0 ∷ ret ∷ []) []

abbrev pub EndContractBlockIsNoClause : Type 0
EndContractBlockIsNoClause = own_contract legacy_block ≡ record { lead_end = 5; rest_from = 6; clauses = []; asserts = [] }

-- ---- Requires(x > 0); Requires<ArgumentException>(x > 1); Requires(x > 3); EnsuresOnThrow<ArgumentException>(x > 2)

abbrev pub several : Code
several =
    static_code
    (ldarg 0 ∷ int 0 ∷ bare 0xFE02 ∷ requires ∷ ldarg 0 ∷ int 1 ∷ bare 0xFE02 ∷ requires_of ∷ ldarg 0 ∷ int 3 ∷ bare 0xFE02 ∷ requires ∷ ldarg 0 ∷ int 2 ∷ bare 0xFE02 ∷ on_throw ∷ ldarg 0 ∷ ret ∷ []) []

abbrev pub LabelsCountRequiresTogether : Type 0
LabelsCountRequiresTogether =
    own_contract several
    ≡ record {
      lead_end = 0;
      rest_from = 16;
      clauses =
          clause kind.Requires (codes "T::M/requires/0") (ldarg 0 ∷ int 0 ∷ bare 0xFE02 ∷ requires ∷ [])
          ∷ record (clause kind.RequiresOf (codes "T::M/requires/1") (ldarg 0 ∷ int 1 ∷ bare 0xFE02 ∷ requires_of ∷ [])) { exception = Some (ref 0 (member_token 3) 0) }
          ∷ clause kind.Requires (codes "T::M/requires/2") (ldarg 0 ∷ int 3 ∷ bare 0xFE02 ∷ requires ∷ [])
          ∷ record (clause kind.Throws (codes "T::M/throws/0") (ldarg 0 ∷ int 2 ∷ bare 0xFE02 ∷ on_throw ∷ [])) { exception = Some (ref 0 (member_token 5) 0) }
          ∷ [];
      asserts = [];
    }

-- ---- Requires(x > 0, T.Message), whose message is a static field

abbrev pub with_message_instrs : List Instr
with_message_instrs = ldarg 0 ∷ int 0 ∷ bare 0xFE02 ∷ load_message ∷ requires_with ∷ ldarg 0 ∷ ret ∷ []

abbrev pub with_message : Code
with_message =
    code (sample_with_message (codes "T") (method 0 (codes "M") (int_ty ∷ []) int_ty (body with_message_instrs [] None))) with_message_instrs []

abbrev pub MessageIsAStaticField : Type 0
MessageIsAStaticField =
    own_contract with_message
    ≡ record {
      lead_end = 0;
      rest_from = 5;
      clauses = record (clause kind.Requires (codes "T::M/requires/0") (ldarg 0 ∷ int 0 ∷ bare 0xFE02 ∷ load_message ∷ requires_with ∷ [])) { user = true } ∷ [];
      asserts = [];
    }

-- ---- two clauses that store and load one local, and branch: int y = x; Requires(y > 0 && x < 9), twice

abbrev pub own_copy : Instr → List Instr
own_copy leave = ldarg 0 ∷ stloc 0 ∷ ldloc 0 ∷ jump 0x39 6 ∷ ldarg 0 ∷ leave ∷ int 0 ∷ requires ∷ []

abbrev pub shared_local : Code
shared_local =
    static_code
    (ldarg 0 ∷ stloc 2 ∷ ldloc 2 ∷ jump 0x39 6 ∷ ldarg 0 ∷ jump 0x38 7 ∷ int 0 ∷ requires
    ∷ ldarg 0 ∷ stloc 2 ∷ ldloc 2 ∷ jump 0x39 14 ∷ ldarg 0 ∷ jump 0x38 15 ∷ int 0 ∷ requires ∷ ldarg 0 ∷ ret ∷ []) []

abbrev pub EachClauseHasItsOwnLocals : Type 0
EachClauseHasItsOwnLocals =
    own_contract shared_local
    ≡ record {
      lead_end = 0;
      rest_from = 16;
      clauses =
          record (clause kind.Requires (codes "T::M/requires/0") (own_copy (jump 0x38 7))) { locals = ref 0 locals_token 2 ∷ [] }
          ∷ record (clause kind.Requires (codes "T::M/requires/1") (own_copy (jump 0x38 7))) { locals = ref 0 locals_token 2 ∷ [] }
          ∷ [];
      asserts = [];
    }

-- ---- an Assert in a segment, one in its clause's argument, and one in the rest

abbrev pub asserted : Code
asserted = static_code (ldarg 0 ∷ assert_call ∷ ldarg 0 ∷ ldarg 0 ∷ assert_call ∷ requires ∷ ldarg 0 ∷ assert_call ∷ ldarg 0 ∷ ret ∷ []) []

abbrev pub assert_clause : Name → Clause
assert_clause label = clause kind.Assert label (assert_call ∷ [])

abbrev pub AssertsAreNumberedOverTheBody : Type 0
AssertsAreNumberedOverTheBody =
    own_contract asserted
    ≡ record {
      lead_end = 0;
      rest_from = 6;
      clauses = record (clause kind.Requires (codes "T::M/requires/0") (ldarg 0 ∷ assert_call ∷ ldarg 0 ∷ ldarg 0 ∷ assert_call ∷ requires ∷ [])) { inline = codes "T::M/assert/0" ∷ codes "T::M/assert/1" ∷ [] } ∷ [];
      asserts = assert_clause (codes "T::M/assert/0") ∷ assert_clause (codes "T::M/assert/1") ∷ assert_clause (codes "T::M/assert/2") ∷ [];
    }

-- ---- a closure over x, which the clause and the rest read

abbrev pub closure_code : List Instr → Code
closure_code is = code (with_closure (sample (codes "T") (method 0 (codes "M") (int_ty ∷ []) int_ty (body is [] (Some locals_token))))) is []

abbrev pub captured : Code
captured =
    closure_code
    (new_closure ∷ stloc 1 ∷ ldloc 1 ∷ ldarg 0 ∷ with_closure_field 0x7D ∷ bare 0 ∷ ldloc 1 ∷ with_closure_field 0x7B ∷ requires ∷ ldloc 1 ∷ with_closure_field 0x7B ∷ ret ∷ [])

abbrev pub ClauseSetsUpItsClosure : Type 0
ClauseSetsUpItsClosure =
    own_contract captured
    ≡ record {
      lead_end = 5;
      rest_from = 9;
      clauses =
          record
          (clause kind.Requires (codes "T::M/requires/0")
          (new_closure ∷ stloc 0 ∷ ldloc 0 ∷ ldarg 0 ∷ with_closure_field 0x7D ∷ bare 0 ∷ ldloc 0 ∷ with_closure_field 0x7B ∷ requires ∷ []))
          { locals = ref 0 locals_token 1 ∷ [] } ∷ [];
      asserts = [];
    }

-- ---- a closure within a closure: the clause sets up both, the inner one first

abbrev pub nested_setup : List Instr
nested_setup =
    new_closure ∷ stloc 0 ∷ ldloc 0 ∷ ldarg 0 ∷ with_closure_field 0x7D ∷ new_closure ∷ stloc 1 ∷ ldloc 1 ∷ ldloc 0 ∷ with_closure_field 0x7D ∷ []

abbrev pub nested_use : List Instr
nested_use = ldloc 1 ∷ with_closure_field 0x7B ∷ requires ∷ []

abbrev pub nested : Code
nested = closure_code (nested_setup ++ nested_use ++ ldarg 0 ∷ ret ∷ [])

abbrev pub InnerClosureIsSetUpFirst : Type 0
InnerClosureIsSetUpFirst =
    own_contract nested
    ≡ record {
      lead_end = 10;
      rest_from = 13;
      clauses = record (clause kind.Requires (codes "T::M/requires/0") (nested_setup ++ nested_use)) { locals = ref 0 locals_token 0 ∷ ref 0 locals_token 1 ∷ [] } ∷ [];
      asserts = [];
    }

abbrev pub ThoseBreakNoRule : Type 0
ThoseBreakNoRule =
    map first_broken (legacy ∷ legacy_block ∷ several ∷ with_message ∷ shared_local ∷ asserted ∷ captured ∷ nested ∷ [])
    ≡ None ∷ None ∷ None ∷ None ∷ None ∷ None ∷ None ∷ None ∷ []

-- ---- each rule, broken in each of its ways

abbrev pub a_try : ℕ → ℕ → ℕ → Region
a_try from to end = record { kind = region.Finally; try_from = from; try_to = to; handler_from = to; handler_to = end }

abbrev pub generated_instrs : List Instr
generated_instrs = int 1 ∷ requires ∷ ret ∷ []

-- switch (ECMA-335, III.3.66)
abbrev pub a_switch : List ℕ → Instr
a_switch targets = instr 0x45 (Targets targets)

abbrev pub breaking_1 : List Code
breaking_1 =
    -- the contract block is crossed by a branch ahead, by one back, and by one back to the call
    static_code (ldarg 0 ∷ jump 0x3A 4 ∷ ldarg 0 ∷ requires ∷ ldarg 0 ∷ ret ∷ []) []
    ∷ static_code (ldarg 0 ∷ requires ∷ ldarg 0 ∷ jump 0x3A 0 ∷ ldarg 0 ∷ ret ∷ []) []
    ∷ static_code (ldarg 0 ∷ requires ∷ ldarg 0 ∷ ldarg 0 ∷ jump 0x3A 1 ∷ ret ∷ []) []
    -- a switch crosses it with one of its targets
    ∷ static_code (ldarg 0 ∷ a_switch (2 ∷ 4 ∷ []) ∷ ldarg 0 ∷ requires ∷ ldarg 0 ∷ ret ∷ []) []
    -- a compiler made the method, and its class
    ∷ code (sample (codes "T") (record (method 0 (codes "M") [] void_ty (body generated_instrs [] None)) { generated = true })) generated_instrs []
    ∷ code (sample_made (codes "T") (method 0 (codes "M") [] void_ty (body generated_instrs [] None))) generated_instrs []
    ∷ []

abbrev pub CrossedCallsBreak1 : Type 0
CrossedCallsBreak1 = map first_broken breaking_1 ≡ Some (C1, 3) ∷ Some (C1, 1) ∷ Some (C1, 1) ∷ Some (C1, 3) ∷ Some (C1, 1) ∷ Some (C1, 1) ∷ []

-- Branches within a segment cross no call: a switch before it, and a branch back before it.
abbrev pub BranchesWithinASegmentBreakNothing : Type 0
BranchesWithinASegmentBreakNothing =
    map first_broken
    (static_code (ldarg 0 ∷ a_switch (2 ∷ 2 ∷ []) ∷ ldarg 0 ∷ requires ∷ ldarg 0 ∷ ret ∷ []) []
    ∷ static_code (bare 0 ∷ ldarg 0 ∷ jump 0x3A 0 ∷ ldarg 0 ∷ requires ∷ ldarg 0 ∷ ret ∷ []) [] ∷ [])
    ≡ None ∷ None ∷ []

-- A call in a handler breaks the first rule at its place. Its segment begins before, where it breaks the second.
abbrev pub CallInAHandlerBreaks2And1 : Type 0
CallInAHandlerBreaks2And1 =
    all_broken (static_code (bare 0 ∷ jump 0xDD 5 ∷ int 1 ∷ requires ∷ bare 0xDC ∷ ldarg 0 ∷ ret ∷ []) (a_try 0 2 5 ∷ []))
    ≡ (C2, 0) ∷ (C1, 3) ∷ []

-- A region of which one segment holds the try block and the next one the handler: each segment breaks the second rule, and the branch over the call the first.
abbrev pub RegionInTwoSegmentsBreaks2 : Type 0
RegionInTwoSegmentsBreaks2 =
    all_broken (static_code (bare 0 ∷ jump 0xDD 5 ∷ ldarg 0 ∷ requires ∷ bare 0xDC ∷ ldarg 0 ∷ requires ∷ ldarg 0 ∷ ret ∷ []) (record (a_try 0 2 5) { handler_from = 4 } ∷ []))
    ≡ (C2, 0) ∷ (C1, 3) ∷ (C2, 4) ∷ []

abbrev pub breaking_2 : List Code
breaking_2 =
    -- no path reaches the call
    static_code (jump 0x38 3 ∷ ldarg 0 ∷ requires ∷ ldarg 0 ∷ ret ∷ []) []
    -- a value is left
    ∷ static_code (ldarg 0 ∷ ldarg 0 ∷ requires ∷ ret ∷ []) []
    -- a segment holds a region, and a call stands in one
    ∷ static_code (bare 0 ∷ jump 0xDD 3 ∷ bare 0xDC ∷ ldarg 0 ∷ requires ∷ ldarg 0 ∷ ret ∷ []) (a_try 0 2 3 ∷ [])
    ∷ static_code (end_block ∷ jump 0xDD 3 ∷ bare 0xDC ∷ ldarg 0 ∷ ret ∷ []) (a_try 0 2 3 ∷ [])
    -- a segment holds a ret
    ∷ static_code (ldarg 0 ∷ jump 0x3A 4 ∷ ldarg 0 ∷ ret ∷ ldarg 0 ∷ requires ∷ ldarg 0 ∷ ret ∷ []) []
    -- EndContractBlock behind code that no clause keeps, and behind a nop
    ∷ static_code (ldarg 0 ∷ bare 0x26 ∷ end_block ∷ ldarg 0 ∷ ret ∷ []) []
    ∷ static_code (bare 0 ∷ end_block ∷ ldarg 0 ∷ ret ∷ []) []
    ∷ []

abbrev pub BadSegmentsBreak2 : Type 0
BadSegmentsBreak2 = map first_broken breaking_2 ≡ Some (C2, 0) ∷ Some (C2, 0) ∷ Some (C2, 0) ∷ Some (C1, 0) ∷ Some (C2, 0) ∷ Some (C2, 0) ∷ None ∷ []

abbrev pub named_result : List Instr
named_result = result ∷ ensures_call ∷ ret ∷ []

abbrev pub breaking_3 : List Code
breaking_3 =
    -- Result in a precondition, in EnsuresOnThrow, in a method without a result, and in the rest
    static_code (result ∷ requires ∷ ldarg 0 ∷ ret ∷ []) []
    ∷ static_code (result ∷ on_throw ∷ ldarg 0 ∷ ret ∷ []) []
    ∷ void_code (result ∷ ensures_call ∷ ret ∷ []) []
    ∷ static_code (ldarg 0 ∷ ensures_call ∷ result ∷ ret ∷ []) []
    -- OldValue and ValueAtReturn in a precondition, and in the rest
    ∷ static_code (ldarg 0 ∷ old_value ∷ requires ∷ ldarg 0 ∷ ret ∷ []) []
    ∷ static_code (ldarg 0 ∷ value_at_return ∷ requires ∷ ldarg 0 ∷ ret ∷ []) []
    ∷ void_code (ldarg 0 ∷ requires ∷ int 1 ∷ old_value ∷ bare 0x26 ∷ ret ∷ []) []
    ∷ void_code (ldarg 0 ∷ requires ∷ int 1 ∷ value_at_return ∷ bare 0x26 ∷ ret ∷ []) []
    -- Result in the lead-in, and OldValue where Assert ends no segment
    ∷ static_code (result ∷ jump 0x3A 4 ∷ new_exception ∷ bare 0x7A ∷ ldarg 0 ∷ requires ∷ ldarg 0 ∷ ret ∷ []) []
    ∷ static_code (ldarg 0 ∷ requires ∷ ldarg 0 ∷ old_value ∷ assert_call ∷ ldarg 0 ∷ ret ∷ []) []
    -- Invariant in another method
    ∷ static_code (ldarg 0 ∷ invariant_call ∷ ldarg 0 ∷ ret ∷ []) []
    -- an abbreviator without a result may name one, and EnsuresOnThrow has old values
    ∷ code (sample (codes "T") (record (method 0 (codes "M") [] void_ty (body named_result [] None)) { abbreviator = true })) named_result []
    ∷ static_code (ldarg 0 ∷ old_value ∷ on_throw ∷ ldarg 0 ∷ ret ∷ []) []
    ∷ static_code (result ∷ ldarg 0 ∷ value_at_return ∷ bare 0xFE01 ∷ ensures_call ∷ ldarg 0 ∷ ret ∷ []) []
    ∷ []

abbrev pub StrayCallsBreak3 : Type 0
StrayCallsBreak3 =
    map first_broken breaking_3
    ≡ Some (C3, 0) ∷ Some (C3, 0) ∷ Some (C3, 0) ∷ Some (C3, 2) ∷ Some (C3, 1) ∷ Some (C3, 1) ∷ Some (C3, 3) ∷ Some (C3, 3) ∷ Some (C3, 0) ∷ Some (C3, 3) ∷ Some (C3, 1) ∷ None ∷ None ∷ None ∷ []

abbrev pub breaking_4 : List Code
breaking_4 =
    -- the argument isn't pushed by a range of its own
    static_code (ldarg 0 ∷ bare 0x25 ∷ old_value ∷ bare 0xFE01 ∷ ensures_call ∷ ldarg 0 ∷ ret ∷ []) []
    -- it holds OldValue, Result, ValueAtReturn
    ∷ static_code (ldarg 0 ∷ old_value ∷ old_value ∷ ensures_call ∷ ldarg 0 ∷ ret ∷ []) []
    ∷ static_code (result ∷ old_value ∷ ensures_call ∷ ldarg 0 ∷ ret ∷ []) []
    ∷ static_code (ldarg 0 ∷ value_at_return ∷ old_value ∷ ensures_call ∷ ldarg 0 ∷ ret ∷ []) []
    -- it reads a local that its segment stores outside
    ∷ static_code (ldarg 0 ∷ stloc 0 ∷ ldloc 0 ∷ old_value ∷ ensures_call ∷ ldarg 0 ∷ ret ∷ []) []
    -- it takes the address of one
    ∷ static_code (ldarg 0 ∷ stloc 0 ∷ instr 0xFE0D (Index 0) ∷ bare 0x4A ∷ old_value ∷ ensures_call ∷ ldarg 0 ∷ ret ∷ []) []
    -- no path reaches it
    ∷ static_code (jump 0x38 4 ∷ ldarg 0 ∷ old_value ∷ bare 0x26 ∷ ldarg 0 ∷ ensures_call ∷ ldarg 0 ∷ ret ∷ []) []
    ∷ []

abbrev pub BadOldValuesBreak4 : Type 0
BadOldValuesBreak4 = map first_broken breaking_4 ≡ Some (C4, 2) ∷ Some (C4, 2) ∷ Some (C4, 1) ∷ Some (C4, 2) ∷ Some (C4, 3) ∷ Some (C4, 4) ∷ Some (C4, 2) ∷ []

abbrev pub breaking_5 : List Code
breaking_5 =
    static_code (ldarg 0 ∷ requires ∷ ldarg 0 ∷ jump 0x3A 6 ∷ new_exception ∷ bare 0x7A ∷ ldarg 0 ∷ requires ∷ ldarg 0 ∷ ret ∷ []) [] ∷ []

abbrev pub ThrowInASegmentBreaks5 : Type 0
ThrowInASegmentBreaks5 = map first_broken breaking_5 ≡ Some (C5, 2) ∷ []

abbrev pub breaking_6 : List Code
breaking_6 =
    -- a segment names a local of the lead-in
    static_code (ldarg 0 ∷ stloc 0 ∷ ldarg 0 ∷ jump 0x3A 6 ∷ new_exception ∷ bare 0x7A ∷ ldloc 0 ∷ requires ∷ ldarg 0 ∷ ret ∷ []) []
    -- the field of a closure is set to what a call answers
    ∷ closure_code (new_closure ∷ stloc 0 ∷ ldloc 0 ∷ log_get ∷ with_closure_field 0x7D ∷ ldloc 0 ∷ with_closure_field 0x7B ∷ requires ∷ ldarg 0 ∷ ret ∷ [])
    -- a closure in an argument of OldValue
    ∷ closure_code (new_closure ∷ stloc 0 ∷ ldloc 0 ∷ ldarg 0 ∷ with_closure_field 0x7D ∷ ldloc 0 ∷ with_closure_field 0x7B ∷ old_value ∷ ensures_call ∷ ldarg 0 ∷ ret ∷ [])
    -- the rest loads a local that only a segment stores
    ∷ static_code (ldarg 0 ∷ stloc 0 ∷ ldloc 0 ∷ requires ∷ ldloc 0 ∷ ret ∷ []) []
    -- a segment names a local whose address the lead-in takes, and the rest one whose address a segment takes
    ∷ static_code (instr 0xFE0D (Index 0) ∷ bare 0x26 ∷ ldarg 0 ∷ jump 0x3A 6 ∷ new_exception ∷ bare 0x7A ∷ ldloc 0 ∷ requires ∷ ldarg 0 ∷ ret ∷ []) []
    ∷ static_code (instr 0xFE0D (Index 0) ∷ bare 0x4A ∷ requires ∷ ldloc 0 ∷ ret ∷ []) []
    -- the rest takes the address of a local that only a segment stores, and loads a second one besides
    ∷ static_code (ldarg 0 ∷ stloc 0 ∷ ldloc 0 ∷ requires ∷ instr 0xFE0D (Index 0) ∷ bare 0x4A ∷ ret ∷ []) []
    ∷ static_code (ldarg 0 ∷ stloc 1 ∷ ldarg 0 ∷ requires ∷ ldloc 0 ∷ bare 0x26 ∷ ldloc 1 ∷ ret ∷ []) []
    -- a segment stores a local that the lead-in stores
    ∷ static_code (ldarg 0 ∷ stloc 0 ∷ ldarg 0 ∷ jump 0x3A 6 ∷ new_exception ∷ bare 0x7A ∷ ldarg 0 ∷ stloc 0 ∷ ldarg 0 ∷ requires ∷ ldarg 0 ∷ ret ∷ []) []
    -- the rest stores it too, and loads one that nothing stores
    ∷ static_code (ldarg 0 ∷ stloc 0 ∷ ldloc 0 ∷ requires ∷ ldarg 0 ∷ stloc 0 ∷ ldloc 0 ∷ ret ∷ []) []
    ∷ static_code (ldarg 0 ∷ requires ∷ ldloc 3 ∷ ret ∷ []) []
    ∷ []

abbrev pub SharedLocalsBreak6 : Type 0
SharedLocalsBreak6 =
    map first_broken breaking_6
    ≡ Some (C6, 6) ∷ Some (C6, 5) ∷ Some (C6, 5) ∷ Some (C6, 4) ∷ Some (C6, 6) ∷ Some (C6, 3) ∷ Some (C6, 4) ∷ Some (C6, 6) ∷ Some (C6, 7) ∷ None ∷ None ∷ []

abbrev pub of_type_instrs : List Instr
of_type_instrs = ldarg 0 ∷ requires_of ∷ ldarg 0 ∷ ret ∷ []

-- a type that is no exception, a type parameter, and an outside type of which only its name is known
abbrev pub of_type : Ty → Code
of_type t = code (sample_of t argument_exception (codes "T") (method 0 (codes "M") (int_ty ∷ []) int_ty (body of_type_instrs [] None))) of_type_instrs []

abbrev pub WrongTypesBreak7 : Type 0
WrongTypesBreak7 =
    map (λ t. first_broken (of_type t)) (int_ty ∷ class_named (codes "System.Array") ∷ MVar 0 ∷ class_named (codes "Ext.Odd") ∷ class_named (codes "System.Exception") ∷ Known 0 ∷ [])
    ≡ Some (C7, 1) ∷ Some (C7, 1) ∷ Some (C7, 1) ∷ None ∷ None ∷ Some (C7, 1) ∷ []

abbrev pub on_throw_instrs : List Instr
on_throw_instrs = ldarg 0 ∷ on_throw ∷ ldarg 0 ∷ ret ∷ []

-- the same of EnsuresOnThrow
abbrev pub thrown_type : Ty → Code
thrown_type t = code (sample_of argument_exception t (codes "T") (method 0 (codes "M") (int_ty ∷ []) int_ty (body on_throw_instrs [] None))) on_throw_instrs []

abbrev pub WrongTypesOfEnsuresOnThrowBreak7 : Type 0
WrongTypesOfEnsuresOnThrowBreak7 =
    map (λ t. first_broken (thrown_type t)) (int_ty ∷ class_named (codes "System.Array") ∷ MVar 0 ∷ class_named (codes "Ext.Odd") ∷ Known 0 ∷ [])
    ≡ Some (C7, 1) ∷ Some (C7, 1) ∷ Some (C7, 1) ∷ None ∷ Some (C7, 1) ∷ []

-- an exception class of the set with these flags and constructors, of Requires and of EnsuresOnThrow
abbrev pub of_own : List Instr → ℕ → List MethodDesc → Code
of_own is flags constructors =
    code (with_exception flags constructors (sample_of own_exception own_exception (codes "T") (method 0 (codes "M") (int_ty ∷ []) int_ty (body is [] None)))) is []

abbrev pub exceptions_of_the_set : List Code
exceptions_of_the_set =
    -- a constructor without parameters, and one of a string
    of_own of_type_instrs 1 (exception_constructor [] 6 ∷ [])
    ∷ of_own of_type_instrs 1 (exception_constructor (string_ty ∷ []) 6 ∷ [])
    -- an abstract class; none, one of another parameter, and one that can't be reached
    ∷ of_own of_type_instrs 0x81 (exception_constructor [] 6 ∷ [])
    ∷ of_own of_type_instrs 1 []
    ∷ of_own of_type_instrs 1 (exception_constructor (int_ty ∷ []) 6 ∷ [])
    ∷ of_own of_type_instrs 1 (exception_constructor [] 1 ∷ [])
    -- EnsuresOnThrow makes none
    ∷ of_own on_throw_instrs 0x81 []
    ∷ []

abbrev pub ExceptionsThatCantBeMadeBreak7 : Type 0
ExceptionsThatCantBeMadeBreak7 =
    map first_broken exceptions_of_the_set ≡ None ∷ None ∷ Some (C7, 1) ∷ Some (C7, 1) ∷ Some (C7, 1) ∷ Some (C7, 1) ∷ None ∷ []
