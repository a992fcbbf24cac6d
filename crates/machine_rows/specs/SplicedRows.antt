-- Bodies with their checks spliced in by hand: the plain run shows what the run with contracts does.
use Rattle.std.specs.Prelude.{◌≡◌, ℕ, List, [], ◌∷◌, ◌++◌, length, Option, Some, None, codes, false}
use Rattle.cil_base.specs.declared.token.Token.{Token}
use Rattle.cil_model.specs.declared.ty.Ty.{Known}
use Rattle.cil_model.specs.declared.value.Value.{Value, Null}
use Rattle.cil_model.specs.declared.contract.Effective.{Effective}
use Rattle.cil_model.specs.declared.contract.ClauseKind.TheVariants as kind
use Rattle.cil_model.specs.declared.body.Instr.{Instr}
use Rattle.cil_model.specs.declared.body.Operand.TheVariants.{Tok}
use Rattle.cil_model.specs.declared.program.Program.{Program}
use Rattle.cil_model.specs.declared.program.MethodDesc.{MethodDesc}
use Rattle.cil_model.specs.declared.program.Meaning.TheVariants.{OfMethod, OfText, OfLocals}
use Rattle.cil_model.specs.declared.run.Outcome.{Outcome}
use Rattle.cil_model.specs.declared.run.Reply.{Reply}
use Rattle.cil_model.specs.declared.run.ReplyResult.TheVariants as reply
use Rattle.cil_model.specs.declared.run.TraceItem.{TraceItem}
use Rattle.cil_semantics.specs.Core.{Name, class_named}
use Rattle.cil_semantics.specs.Machine.{plain_run}
use Rattle.machine_rows.specs.Samples.{instr, bare, ldarg, ldloc, stloc, int, jump, call, ret, body, int_ty, bool_ty, void_ty, method, class_with, clause, no_effective, requires, sample, null_reply, replies, log_get, log_check, report, checked, i4, returns, failed, shown, contract_exception_name}
use Rattle.machine_rows.specs.Rows.{with_contract, inc, inc_contract, inc_label, ca, ca_contract, assertion, assertion_contract}

-- ldstr of the label, newobj of the exception class, and the locals' signature
abbrev pub label_token : Token
label_token = record { table = 0x70; row = 1 }

abbrev pub exception_token : Token
exception_token = record { table = 0x06; row = 100 }

abbrev pub locals_token : Token
locals_token = record { table = 0x11; row = 1 }

-- a program with the exception class behind its types, and its constructor behind its methods
abbrev pub with_runtime : Name → Program → Program
with_runtime label p =
    record {
      types = p.types ++ record (class_with contract_exception_name (length p.methods ∷ [])) { base = Some (class_named (codes "System.Exception")) } ∷ [];
      fields = p.fields;
      methods = p.methods ++ record (method (length p.types) (codes ".ctor") [] void_ty (body (ldarg 0 ∷ call 14 ∷ ret ∷ []) [] None)) { is_static = false; flags = 0x1806 } ∷ [];
      tokens =
          record { assembly = 0; token = label_token; meaning = OfText label }
          ∷ record { assembly = 0; token = exception_token; meaning = OfMethod (Known (length p.types)) (length p.methods) [] }
          ∷ record { assembly = 0; token = locals_token; meaning = OfLocals (int_ty ∷ int_ty ∷ bool_ty ∷ []) } ∷ p.tokens;
    }

abbrev pub spliced : MethodDesc → Name → Program
spliced m label = with_runtime label (sample (m ∷ []))

-- reports a failure of a kind, throws unless the reply is null, and goes on at a place
abbrev pub fails : ℕ → ℕ → List Instr
fails kind on =
    int kind ∷ bare 0x14 ∷ instr 0x72 (Tok 0 label_token) ∷ bare 0x14 ∷ report ∷ jump 0x39 on ∷ instr 0x73 (Tok 0 exception_token) ∷ bare 0x7A ∷ []

-- A condition is stored as a bool before it is tested, as a call takes it.
abbrev pub tests : ℕ → List Instr
tests on = stloc 2 ∷ ldloc 2 ∷ jump 0x3A on ∷ []

abbrev pub plainly : Program → List Value → List Reply → ℕ → Option (Outcome × List TraceItem)
plainly p args rs n = shown (plain_run p 0 args rs n)

-- Inc with its precondition
abbrev pub inc_spliced : Program
inc_spliced =
    spliced (method 0 (codes "Inc") (int_ty ∷ []) int_ty (body (ldarg 0 ∷ int 0 ∷ bare 0xFE02 ∷ (tests 14 ++ (fails 0 14 ++ (ldarg 0 ∷ int 1 ∷ bare 0x58 ∷ ret ∷ [])))) [] (Some locals_token))) inc_label

abbrev pub SplicedRequiresThrows : Type 0
SplicedRequiresThrows = plainly inc_spliced (i4 0 ∷ []) [] 60 ≡ checked inc (with_contract inc_contract) 0 (i4 0 ∷ []) [] 20

abbrev pub SplicedRequiresGoesOn : Type 0
SplicedRequiresGoesOn = plainly inc_spliced (i4 0 ∷ []) (null_reply ∷ []) 60 ≡ checked inc (with_contract inc_contract) 0 (i4 0 ∷ []) (null_reply ∷ []) 20

-- Ca with its captured value and its postcondition
abbrev pub ca_spliced : Program
ca_spliced =
    spliced
    (method 0 (codes "Ca") (int_ty ∷ []) int_ty
    (body (log_get ∷ stloc 0 ∷ ldarg 0 ∷ stloc 1 ∷ ldarg 0 ∷ int 0 ∷ jump 0x3D 11 ∷ ldloc 0 ∷ int 0 ∷ bare 0xFE01 ∷ jump 0x38 12 ∷ int 1 ∷ (tests 23 ++ (fails 1 23 ++ (ldloc 1 ∷ ret ∷ [])))) [] (Some locals_token)))
    (codes "T::Ca/ensures/0")

abbrev pub SplicedEnsuresFails : Type 0
SplicedEnsuresFails =
    plainly ca_spliced (i4 0 ∷ []) (replies (reply.Given (i4 3)) ∷ null_reply ∷ []) 90
    ≡ checked ca (with_contract ca_contract) 0 (i4 0 ∷ []) (replies (reply.Given (i4 3)) ∷ null_reply ∷ []) 40

abbrev pub SplicedEnsuresHolds : Type 0
SplicedEnsuresHolds = plainly ca_spliced (i4 1 ∷ []) [] 90 ≡ checked ca (with_contract ca_contract) 0 (i4 1 ∷ []) [] 40

-- As with its Assert
abbrev pub assertion_spliced : Program
assertion_spliced =
    spliced (method 0 (codes "As") (int_ty ∷ []) void_ty (body (ldarg 0 ∷ log_check ∷ (tests 13 ++ (fails 4 13 ++ (ret ∷ [])))) [] (Some locals_token))) (codes "T::As/assert/0")

abbrev pub SplicedAssertFails : Type 0
SplicedAssertFails = plainly assertion_spliced (i4 0 ∷ []) [] 60 ≡ checked assertion (with_contract assertion_contract) 0 (i4 0 ∷ []) [] 40

-- ---- Cu(int32 x): Requires(x), where the condition is a number that a bool cuts

abbrev pub cut_label : Name
cut_label = codes "T::Cu/requires/0"

abbrev pub truncated : Program
truncated = sample (method 0 (codes "Cu") (int_ty ∷ []) int_ty (body (ldarg 0 ∷ requires ∷ ldarg 0 ∷ ret ∷ []) [] None) ∷ [])

abbrev pub cut_contract : Effective
cut_contract = record no_effective { rest_from = 2; clauses = clause kind.Requires cut_label (ldarg 0 ∷ requires ∷ []) ∷ [] }

abbrev pub cut_spliced : Program
cut_spliced = spliced (method 0 (codes "Cu") (int_ty ∷ []) int_ty (body (ldarg 0 ∷ (tests 12 ++ (fails 0 12 ++ (ldarg 0 ∷ ret ∷ [])))) [] (Some locals_token))) cut_label

-- 256 is false in both runs
abbrev pub SplicedConditionIsCut : Type 0
SplicedConditionIsCut =
    (checked truncated (with_contract cut_contract) 0 (i4 256 ∷ []) (null_reply ∷ []) 40 ≡ Some (returns 256, failed 0 cut_label (reply.Given Null) ∷ []))
    × (plainly cut_spliced (i4 256 ∷ []) (null_reply ∷ []) 60 ≡ checked truncated (with_contract cut_contract) 0 (i4 256 ∷ []) (null_reply ∷ []) 40)
