-- A program with one method and one precondition, and its written body: what a splice lays down for it.
use Rattle.std.specs.Prelude.{◌≡◌, ℕ, zero, suc, ◌+◌, get_or, ◌&&◌, nat_le, nat_lt, Bool, true, false, List, [], ◌∷◌, ◌++◌, Option, Some, None, codes, pos}
use Rattle.cil_base.specs.declared.token.Token.{Token}
use Rattle.cil_model.specs.declared.ty.Ty.{Ty, Known}
use Rattle.cil_model.specs.declared.body.Body.{Body}
use Rattle.cil_model.specs.declared.body.Instr.{Instr}
use Rattle.cil_model.specs.declared.body.Region.{Region}
use Rattle.cil_model.specs.declared.body.RegionKind.TheVariants as region
use Rattle.cil_model.specs.declared.contract.Clause.{Clause}
use Rattle.cil_model.specs.declared.contract.ClauseKind.TheVariants as kind
use Rattle.cil_model.specs.declared.contract.Contracts.{Contracts}
use Rattle.cil_model.specs.declared.contract.Effective.{Effective}
use Rattle.cil_model.specs.declared.contract.Group.{Group}
use Rattle.cil_model.specs.declared.contract.Group.TheVariants as group
use Rattle.cil_model.specs.declared.contract.Level.TheVariants.{Preconditions}
use Rattle.cil_model.specs.declared.program.FieldDesc.{FieldDesc}
use Rattle.cil_model.specs.declared.program.Kind.TheVariants.{Class}
use Rattle.cil_model.specs.declared.program.Meaning.{Meaning}
use Rattle.cil_model.specs.declared.program.Meaning.TheVariants.{OfField, OfMethod, OfText, OfLocals}
use Rattle.cil_model.specs.declared.program.MethodDesc.{MethodDesc}
use Rattle.cil_model.specs.declared.program.Program.{Program}
use Rattle.cil_model.specs.declared.program.TokenRow.{TokenRow}
use Rattle.cil_model.specs.declared.program.TypeDesc.{TypeDesc}
use Rattle.cil_model.specs.Texts.{text_units}
use Rattle.cil_semantics.specs.Core.{Name, class_named, string_ty, object_ty, contract_name, helper_name, event_name, event_params, exception_ty}
use Rattle.cil_semantics.specs.Checks.{AddedNumbers}
use Rattle.cil_semantics.specs.Contracted.{Piece, Plan}
use Rattle.cil_semantics.specs.declared.state.ProgramPoint.{ProgramPoint}
use Rattle.cil_semantics.specs.declared.state.ProgramPoint.TheVariants.{LeadIn, InGroup, Rest}
use Rattle.cil_semantics.specs.Unwind.{place_in, plan_at}
use Rattle.splice_facts.specs.Bodies.{with_methods}
use Rattle.splice_facts.specs.Input.{InputFacts, StackHeights}
use Rattle.splice_facts.specs.Related.{Rewritten}
use Rattle.splice_facts.specs.Spliced.{Spliced}
use Rattle.splice_laws.specs.HelperRuns.{HelpersRun}
use Rattle.splice_laws.specs.RequiresOnly.{RequiresOnly}
use Rattle.splice_facts.specs.Layout.{Depths, Marks}
use Rattle.splice_laws.specs.EntryCode.{EntryCode, bool_ty, reports, Tools}
use Rattle.splice_laws.specs.Fails.{fail_code, ctor_code}
use Rattle.splice_laws.specs.Helpers.{int32, nothing, enter_code, leave_code}
use Rattle.splice_laws.specs.Straight.{bare, ldc, ldarg, add, ret, call, brfalse, leave, endfinally, ldnull}

-- ---- rows

abbrev pub token : ℕ → ℕ → Token
token t r = record { table = t; row = r }

abbrev pub a_class : Name → Option Ty → List ℕ → List ℕ → Bool → TypeDesc
a_class name base fields methods out = record { assembly = 0; row = 0; name = name; base = base; kind = Class; interfaces = []; fields = fields; methods = methods; impls = []; enclosing = None; flags = 1; outside = out; reference = false; contract_class = None; contract_class_for = None; generated = false; generics = 0 }

abbrev pub a_field : ℕ → Name → Ty → Bool → FieldDesc
a_field owner name t static = record { owner = owner; name = name; ty = t; is_static = static; flags = 0 }

abbrev pub a_body : List Instr → List Region → Option Token → Body
a_body is rs locals = record { instrs = is; offsets = []; regions = rs; locals = locals; max_stack = 8; init = true }

abbrev pub a_method : ℕ → Name → List Ty → Ty → Bool → Bool → Option Body → MethodDesc
a_method owner name params result static out b = record { assembly = 0; row = 0; owner = owner; name = name; params = params; result = result; sig = 0; is_static = static; flags = 0x16; outside = out; abbreviator = false; invariant = false; generated = false; body = b; generics = 0 }

abbrev pub a_row : Token → Meaning → TokenRow
a_row t m = record { assembly = 0; token = t; meaning = m }

-- ---- the method: int32 Inc(int32 x) with Requires(x > 0), which returns x + 1

abbrev pub cgt : Instr
cgt = bare 0xFE02

abbrev pub requires_call : Instr
requires_call = call 0 (token 10 1)

abbrev pub condition : List Instr
condition = ldarg 0 ∷ ldc (pos 0) ∷ cgt ∷ requires_call ∷ []

abbrev pub inc_rest : List Instr
inc_rest = ldarg 0 ∷ ldc (pos 1) ∷ add ∷ ret ∷ []

abbrev pub label : Name
label = codes "T::Inc/requires/0"

abbrev pub the_clause : Clause
the_clause = record { kind = kind.Requires; home = 0; instrs = condition; locals = []; olds = []; exception = None; user = false; label = label; inline = [] }

abbrev pub effective : Effective
effective = record { lead_end = 0; rest_from = 4; clauses = the_clause ∷ []; invariants = []; asserts = [] }

abbrev pub guard : ℕ
guard = 4

abbrev pub contracts : Contracts
contracts = record { settings = record { level = Preconditions; guard = guard; throwing = true; surface = false; callsite = false }; target = 0; by_method = effective ∷ [] }

abbrev pub the_piece : Piece
the_piece = record { clause = the_clause; from = 0; first_local = 0; first_captured = 0; captures = None }

abbrev pub the_plan : Plan
the_plan = record { effective = effective; settings = contracts.settings; clauses = the_piece ∷ []; invariants = [] }

-- ---- its written body

abbrev pub tools : Tools
tools = record { enter = token 6 2; leave = token 6 4; fail = token 6 5; condition = 0; message = 1 }

abbrev pub written_code : List Instr
written_code =
    call 0 tools.enter ∷ brfalse 15
    ∷ ldarg 0 ∷ ldc (pos 0) ∷ cgt ∷ reports 0 tools 0 ldnull (token 0x70 1) 12 ++ leave 15
    ∷ call 0 tools.leave ∷ endfinally
    ∷ inc_rest

abbrev pub group_region : Region
group_region = record { kind = region.Finally; try_from = 2; try_to = 13; handler_from = 13; handler_to = 15 }

-- ---- the programs: that of the input with the tables of the output, and the output

abbrev pub methods_with : Body → List MethodDesc
methods_with b =
    a_method 0 (codes "Inc") (int32 ∷ []) int32 true false (Some b)
    ∷ a_method 1 (codes "Requires") (bool_ty ∷ []) nothing true true None
    ∷ a_method 2 (codes "Enter") [] int32 true false (Some (a_body (enter_code 0 (token 4 0) guard) [] None))
    ∷ a_method 2 (codes "EnterOuter") [] int32 true false (Some (a_body (enter_code 0 (token 4 0) 0) [] None))
    ∷ a_method 2 (codes "Leave") [] nothing true false (Some (a_body (leave_code 0 (token 4 0)) [] None))
    ∷ a_method 2 (codes "Fail") (int32 ∷ string_ty ∷ string_ty ∷ []) nothing true false (Some (a_body (fail_code 0 (token 10 7) (token 6 6)) [] None))
    ∷ a_method 3 (codes ".ctor") (int32 ∷ string_ty ∷ string_ty ∷ []) nothing false false (Some (a_body (ctor_code 0 (token 10 8) (token 4 1) (token 4 2) (token 4 3)) [] None))
    ∷ a_method 4 event_name event_params string_ty true true None
    ∷ a_method 5 (codes ".ctor") [] nothing false true None
    ∷ []

abbrev pub input : Program
input =
    record {
      types =
          a_class (codes "T") (Some object_ty) [] (0 ∷ []) false
          ∷ a_class contract_name None [] (1 ∷ []) true
          ∷ a_class (codes "__ContractsRuntime") (Some object_ty) (0 ∷ []) (2 ∷ 3 ∷ 4 ∷ 5 ∷ []) false
          ∷ a_class (codes "__ContractsRuntime/ContractException") (Some exception_ty) (1 ∷ 2 ∷ 3 ∷ []) (6 ∷ []) false
          ∷ a_class helper_name None [] (7 ∷ []) true
          ∷ a_class (codes "System.Exception") None [] (8 ∷ []) true
          ∷ [];
      fields = a_field 2 (codes "depth") int32 true ∷ a_field 3 (codes "Kind") int32 false ∷ a_field 3 (codes "User") string_ty false ∷ a_field 3 (codes "Label") string_ty false ∷ [];
      methods = methods_with (a_body (condition ++ inc_rest) [] None);
      tokens =
          a_row (token 4 0) (OfField (Known 2) 0) ∷ a_row (token 4 1) (OfField (Known 3) 1) ∷ a_row (token 4 2) (OfField (Known 3) 2) ∷ a_row (token 4 3) (OfField (Known 3) 3)
          ∷ a_row (token 6 2) (OfMethod (Known 2) 2 []) ∷ a_row (token 6 4) (OfMethod (Known 2) 4 []) ∷ a_row (token 6 5) (OfMethod (Known 2) 5 []) ∷ a_row (token 6 6) (OfMethod (Known 3) 6 [])
          ∷ a_row (token 10 1) (OfMethod (class_named contract_name) 1 []) ∷ a_row (token 10 7) (OfMethod (class_named helper_name) 7 []) ∷ a_row (token 10 8) (OfMethod exception_ty 8 [])
          ∷ a_row (token 0x70 1) (OfText (text_units label)) ∷ a_row (token 0x11 1) (OfLocals (bool_ty ∷ string_ty ∷ []))
          ∷ [];
    }

abbrev pub written_methods : List MethodDesc
written_methods = methods_with (a_body written_code (group_region ∷ []) (Some (token 0x11 1)))

abbrev pub output : Program
output = with_methods input written_methods

abbrev pub numbers : AddedNumbers
numbers = record { exception = 3; event = 7; trigger = 9; constructor = λ name. 10 }

-- ---- where the places of the method stand

abbrev pub new_places : ProgramPoint → ℕ
new_places (LeadIn q) = q
new_places (InGroup gr j q) = q + 2
new_places (Rest q) = q + 11

abbrev pub belongs_at : ProgramPoint → ℕ → Bool
belongs_at (InGroup gr j q) q' = nat_le 2 q' && nat_lt q' 13
belongs_at _ q' = nat_le 15 q'

abbrev pub begins_at : Group → ℕ
begins_at group.Entry = 0
begins_at _ = 15

abbrev pub the_marks : Marks
the_marks =
    record {
      places = new_places;
      belongs = belongs_at;
      door = begins_at;
      out = λ gr. 15;
      behind = λ gr j. 12;
      old_locals = 0;
      olds = 0;
      extra = λ here. bool_ty ∷ string_ty ∷ [];
      result_at = 2;
      thrown_at = 3;
    }

-- a method whose body is kept: each place stands where it stood
abbrev pub kept_marks : Marks
kept_marks =
    record {
      places = place_in;
      belongs = λ at q. true;
      door = λ gr. 0;
      out = λ gr. 0;
      behind = λ gr j. 0;
      old_locals = 0;
      olds = 0;
      extra = λ here. [];
      result_at = 0;
      thrown_at = 0;
    }

abbrev pub marks_of : ℕ → Marks
marks_of zero = the_marks
marks_of (suc m) = kept_marks

-- how many values lie on the stack at each place outside the clause
abbrev pub heights_here : ProgramPoint → ℕ
heights_here (Rest q) = get_or (0 ∷ 0 ∷ 0 ∷ 0 ∷ 0 ∷ 1 ∷ 2 ∷ 1 ∷ []) q 0
heights_here _ = 0

-- The premises are met, and with them all facts on the body and on the whole program; two types and two methods are of the input.
pub record Meets : Type 0 where
  pub plan : plan_at contracts input 0 ≡ Some the_plan
  pub depths : Depths 2 numbers
  pub helpers : HelpersRun output numbers true depths.owner guard
  pub code : EntryCode input output numbers true depths.owner guard helpers 0 the_plan the_marks
  pub only : RequiresOnly input contracts output numbers 2 depths 0 the_plan the_marks
  pub facts : InputFacts input contracts numbers 0 (Some the_plan)
  pub spliced : Spliced input contracts output numbers 2 depths 0 (Some the_plan) the_marks
  pub heights : StackHeights input contracts numbers 0 the_plan
  pub whole : Rewritten input contracts written_methods numbers
