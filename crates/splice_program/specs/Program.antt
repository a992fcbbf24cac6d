-- A program of two methods with contracts, as an input of a rewriting with the tables of its output: in C#,
--   class T {
--     bool ok;
--     void Valid() { Contract.Invariant(ok); }
--     public int Next(int x) {
--       Contract.Requires(x > -1);
--       Contract.Ensures(Contract.Result<int>() > Contract.OldValue(x));
--       Contract.EnsuresOnThrow<Exception>(ok);
--       if (x == 0) return 1;
--       return Inc(x);
--     }
--     public static int Inc(int x) { Contract.Requires(x > 0); return x + 1; }
--   }
use Rattle.std.specs.Prelude.{ℕ, true, false, List, [], ◌∷◌, ◌++◌, Option, Some, None, codes, pos, negsuc}
use Rattle.cil_base.specs.declared.token.Token.{Token}
use Rattle.cil_model.specs.declared.ty.Ty.{Ty, Known, MVar}
use Rattle.cil_model.specs.declared.body.Body.{Body}
use Rattle.cil_model.specs.declared.body.Instr.{Instr}
use Rattle.cil_model.specs.declared.contract.Clause.{Clause}
use Rattle.cil_model.specs.declared.contract.ClauseKind.{ClauseKind}
use Rattle.cil_model.specs.declared.contract.ClauseKind.TheVariants as kind
use Rattle.cil_model.specs.declared.contract.Contracts.{Contracts}
use Rattle.cil_model.specs.declared.contract.Effective.{Effective}
use Rattle.cil_model.specs.declared.contract.Level.TheVariants.{Full}
use Rattle.cil_model.specs.declared.contract.Old.{Old}
use Rattle.cil_model.specs.declared.contract.TyRef.{TyRef}
use Rattle.cil_model.specs.declared.program.Meaning.TheVariants.{OfType, OfField, OfMethod, OfText, OfLocals}
use Rattle.cil_model.specs.declared.program.MethodDesc.{MethodDesc}
use Rattle.cil_model.specs.declared.program.Program.{Program}
use Rattle.cil_model.specs.declared.program.TokenRow.{TokenRow}
use Rattle.cil_model.specs.Texts.{text_units}
use Rattle.cil_semantics.specs.Core.{Name, class_named, string_ty, object_ty, contract_name, helper_name, event_name, event_params, exception_ty}
use Rattle.cil_semantics.specs.Checks.{AddedNumbers}
use Rattle.cil_semantics.specs.Contracted.{Piece, Plan}
use Rattle.splice_laws.specs.EntryCode.{bool_ty}
use Rattle.splice_laws.specs.Fails.{fail_code, ctor_code}
use Rattle.splice_laws.specs.Helpers.{int32, nothing, enter_code, leave_code}
use Rattle.splice_laws.specs.Straight.{bare, ins, ldc, ldarg, add, ret, call, brtrue}
use Rattle.cil_model.specs.declared.body.Operand.TheVariants.{Tok}
use Rattle.splice_rows.specs.OneRequires.{token, a_class, a_field, a_body, a_method, a_row, cgt}

-- ---- the clauses

abbrev pub ldfld : Token → Instr
ldfld t = ins 0x7B (Tok 0 t)

abbrev pub nop : Instr
nop = bare 0x00

-- `ok` of this object
abbrev pub loads_ok : List Instr
loads_ok = ldarg 0 ∷ ldfld (token 4 1) ∷ []

abbrev pub requires_call : Instr
requires_call = call 0 (token 10 3)

abbrev pub ensures_call : Instr
ensures_call = call 0 (token 10 4)

abbrev pub throws_call : Instr
throws_call = call 0 (token 0x2B 3)

abbrev pub invariant_call : Instr
invariant_call = call 0 (token 10 8)

abbrev pub result_call : Instr
result_call = call 0 (token 0x2B 1)

abbrev pub old_call : Instr
old_call = call 0 (token 0x2B 2)

abbrev pub requires_code : List Instr
requires_code = ldarg 1 ∷ ldc (negsuc 0) ∷ cgt ∷ requires_call ∷ []

abbrev pub ensures_code : List Instr
ensures_code = result_call ∷ ldarg 1 ∷ old_call ∷ cgt ∷ ensures_call ∷ []

abbrev pub throws_code : List Instr
throws_code = loads_ok ++ throws_call ∷ []

abbrev pub invariant_code : List Instr
invariant_code = loads_ok ++ invariant_call ∷ []

abbrev pub inc_requires_code : List Instr
inc_requires_code = ldarg 0 ∷ ldc (pos 0) ∷ cgt ∷ requires_call ∷ []

-- the type that a MethodSpec row names first
abbrev pub first_of : ℕ → TyRef
first_of row = record { assembly = 0; token = token 0x2B row; index = 0; under = None }

abbrev pub a_clause : ClauseKind → ℕ → List Instr → List Old → Option TyRef → Name → Clause
a_clause kd home code olds exception label = record { kind = kd; home = home; instrs = code; locals = []; olds = olds; exception = exception; user = false; label = label; inline = [] }

abbrev pub next_requires : Clause
next_requires = a_clause kind.Requires 0 requires_code [] None (codes "T::Next/requires/0")

abbrev pub next_ensures : Clause
next_ensures = a_clause kind.Ensures 0 ensures_code (record { from = 1; to = 2; ty = first_of 2 } ∷ []) None (codes "T::Next/ensures/0")

abbrev pub next_throws : Clause
next_throws = a_clause kind.Throws 0 throws_code [] (Some (first_of 3)) (codes "T::Next/ensuresOnThrow/0")

abbrev pub always_valid : Clause
always_valid = a_clause kind.Invariant 2 invariant_code [] None (codes "T/invariant/0")

abbrev pub inc_requires : Clause
inc_requires = a_clause kind.Requires 1 inc_requires_code [] None (codes "T::Inc/requires/0")

-- ---- the bodies

abbrev pub next_rest : List Instr
next_rest = ldarg 1 ∷ brtrue 17 ∷ ldc (pos 1) ∷ ret ∷ ldarg 1 ∷ call 0 (token 6 1) ∷ ret ∷ []

-- a lead-in of one instruction, the clauses, and the rest
abbrev pub next_code : List Instr
next_code = (nop ∷ []) ++ requires_code ++ ensures_code ++ throws_code ++ next_rest

abbrev pub inc_rest : List Instr
inc_rest = ldarg 0 ∷ ldc (pos 1) ∷ add ∷ ret ∷ []

abbrev pub inc_code : List Instr
inc_code = inc_requires_code ++ inc_rest

abbrev pub valid_code : List Instr
valid_code = invariant_code ++ ret ∷ []

-- ---- the contracts

abbrev pub of_next : Effective
of_next = record { lead_end = 1; rest_from = 13; clauses = next_requires ∷ next_ensures ∷ next_throws ∷ []; invariants = always_valid ∷ []; asserts = [] }

abbrev pub of_inc : Effective
of_inc = record { lead_end = 0; rest_from = 4; clauses = inc_requires ∷ []; invariants = []; asserts = [] }

abbrev pub guard : ℕ
guard = 4

abbrev pub contracts : Contracts
contracts = record { settings = record { level = Full; guard = guard; throwing = true; surface = false; callsite = false }; target = 0; by_method = of_next ∷ of_inc ∷ [] }

-- no clause has locals of its own, and the first captured value is that of the postcondition
abbrev pub a_piece : Clause → ℕ → Piece
a_piece c captured = record { clause = c; from = 0; first_local = 0; first_captured = captured; captures = None }

-- the postcondition's old value
abbrev pub the_capture : Piece
the_capture = record { clause = next_ensures; from = 1; first_local = 0; first_captured = 0; captures = Some 0 }

abbrev pub next_plan : Plan
next_plan = record { effective = of_next; settings = contracts.settings; clauses = a_piece next_requires 0 ∷ a_piece next_ensures 0 ∷ a_piece next_throws 1 ∷ []; invariants = a_piece always_valid 1 ∷ [] }

abbrev pub inc_plan : Plan
inc_plan = record { effective = of_inc; settings = contracts.settings; clauses = a_piece inc_requires 0 ∷ []; invariants = [] }

-- ---- the programs

abbrev pub generic : MethodDesc → MethodDesc
generic d = record d { generics = 1 }

abbrev pub a_member : Name → List Ty → Ty → MethodDesc
a_member name params result = a_method 1 name params result true true None

abbrev pub a_helper : Name → List Ty → Ty → List Instr → MethodDesc
a_helper name params result code = a_method 2 name params result true false (Some (a_body code [] None))

-- the first nine methods are of the input
abbrev pub methods_with : Body → Body → List MethodDesc
methods_with next inc =
    a_method 0 (codes "Next") (int32 ∷ []) int32 false false (Some next)
    ∷ a_method 0 (codes "Inc") (int32 ∷ []) int32 true false (Some inc)
    ∷ a_method 0 (codes "Valid") [] nothing false false (Some (a_body valid_code [] None))
    ∷ a_member (codes "Requires") (bool_ty ∷ []) nothing
    ∷ a_member (codes "Ensures") (bool_ty ∷ []) nothing
    ∷ generic (a_member (codes "EnsuresOnThrow") (bool_ty ∷ []) nothing)
    ∷ generic (a_member (codes "Result") [] (MVar 0))
    ∷ generic (a_member (codes "OldValue") (MVar 0 ∷ []) (MVar 0))
    ∷ a_member (codes "Invariant") (bool_ty ∷ []) nothing
    ∷ a_helper (codes "Enter") [] int32 (enter_code 0 (token 4 2) guard)
    ∷ a_helper (codes "EnterOuter") [] int32 (enter_code 0 (token 4 2) 0)
    ∷ a_helper (codes "Leave") [] nothing (leave_code 0 (token 4 2))
    ∷ a_helper (codes "Fail") (int32 ∷ string_ty ∷ string_ty ∷ []) nothing (fail_code 0 (token 10 14) (token 6 13))
    ∷ a_method 3 (codes ".ctor") (int32 ∷ string_ty ∷ string_ty ∷ []) nothing false false (Some (a_body (ctor_code 0 (token 10 15) (token 4 3) (token 4 4) (token 4 5)) [] None))
    ∷ a_method 4 event_name event_params string_ty true true None
    ∷ a_method 5 (codes ".ctor") [] nothing false true None
    ∷ []

abbrev pub a_contract_row : Token → ℕ → List Ty → TokenRow
a_contract_row t m args = a_row t (OfMethod (class_named contract_name) m args)

abbrev pub tokens : List TokenRow
tokens =
    a_row (token 4 1) (OfField (Known 0) 0) ∷ a_row (token 4 2) (OfField (Known 2) 1)
    ∷ a_row (token 4 3) (OfField (Known 3) 2) ∷ a_row (token 4 4) (OfField (Known 3) 3) ∷ a_row (token 4 5) (OfField (Known 3) 4)
    ∷ a_row (token 6 1) (OfMethod (Known 0) 1 [])
    ∷ a_row (token 6 9) (OfMethod (Known 2) 9 []) ∷ a_row (token 6 10) (OfMethod (Known 2) 10 []) ∷ a_row (token 6 11) (OfMethod (Known 2) 11 []) ∷ a_row (token 6 12) (OfMethod (Known 2) 12 [])
    ∷ a_row (token 6 13) (OfMethod (Known 3) 13 [])
    ∷ a_contract_row (token 10 3) 3 [] ∷ a_contract_row (token 10 4) 4 [] ∷ a_contract_row (token 10 8) 8 []
    ∷ a_contract_row (token 0x2B 1) 6 (int32 ∷ []) ∷ a_contract_row (token 0x2B 2) 7 (int32 ∷ []) ∷ a_contract_row (token 0x2B 3) 5 (exception_ty ∷ [])
    ∷ a_row (token 10 14) (OfMethod (class_named helper_name) 14 []) ∷ a_row (token 10 15) (OfMethod exception_ty 15 [])
    ∷ a_row (token 1 1) (OfType object_ty) ∷ a_row (token 1 2) (OfType exception_ty)
    ∷ a_row (token 0x70 1) (OfText (text_units next_requires.label)) ∷ a_row (token 0x70 2) (OfText (text_units next_ensures.label)) ∷ a_row (token 0x70 3) (OfText (text_units next_throws.label))
    ∷ a_row (token 0x70 4) (OfText (text_units always_valid.label)) ∷ a_row (token 0x70 5) (OfText (text_units inc_requires.label))
    ∷ a_row (token 0x11 1) (OfLocals (int32 ∷ bool_ty ∷ string_ty ∷ int32 ∷ object_ty ∷ [])) ∷ a_row (token 0x11 2) (OfLocals (bool_ty ∷ string_ty ∷ []))
    ∷ []

abbrev pub input : Program
input =
    record {
      types =
          a_class (codes "T") (Some object_ty) (0 ∷ []) (0 ∷ 1 ∷ 2 ∷ []) false
          ∷ a_class contract_name None [] (3 ∷ 4 ∷ 5 ∷ 6 ∷ 7 ∷ 8 ∷ []) true
          ∷ a_class (codes "__ContractsRuntime") (Some object_ty) (1 ∷ []) (9 ∷ 10 ∷ 11 ∷ 12 ∷ []) false
          ∷ a_class (codes "__ContractsRuntime/ContractException") (Some exception_ty) (2 ∷ 3 ∷ 4 ∷ []) (13 ∷ []) false
          ∷ a_class helper_name None [] (14 ∷ []) true
          ∷ a_class (codes "System.Exception") None [] (15 ∷ []) true
          ∷ [];
      fields =
          a_field 0 (codes "ok") bool_ty false ∷ a_field 2 (codes "depth") int32 true
          ∷ a_field 3 (codes "Kind") int32 false ∷ a_field 3 (codes "User") string_ty false ∷ a_field 3 (codes "Label") string_ty false ∷ [];
      methods = methods_with (a_body next_code [] None) (a_body inc_code [] None);
      tokens = tokens;
    }

abbrev pub numbers : AddedNumbers
numbers = record { exception = 3; event = 14; trigger = 16; constructor = λ name. 17 }
