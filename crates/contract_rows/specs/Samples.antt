-- Words to write small methods with contracts, with members of Contract as rows of MemberRef and MethodSpec.
use Rattle.std.specs.Prelude.{ℕ, ◌+◌, ◌-◌, unwrap_or, is_some, Bool, true, false, ◌==◌, List, [], ◌∷◌, ◌++◌, length, map, filter, Option, Some, None, codes, if◌then◌else◌}
use Rattle.std.specs.List.{flat_map}
use Rattle.cil_base.specs.declared.token.Token.{Token}
use Rattle.cil_base.specs.declared.rule.Rule.{Rule}
use Rattle.cil_base.specs.declared.refusal.Refusal.{Refusal}
use Rattle.cil_base.specs.Refusals.{Test, first_of}
use Rattle.cil_model.specs.declared.ty.Ty.{Ty, Prim, Known, MVar, ByRef}
use Rattle.cil_model.specs.declared.body.Body.{Body}
use Rattle.cil_model.specs.declared.body.Instr.{Instr}
use Rattle.cil_model.specs.declared.body.Region.{Region}
use Rattle.cil_model.specs.declared.body.Operand.TheVariants.{Nothing, Index, Tok}
use Rattle.cil_model.specs.declared.program.Program.{Program}
use Rattle.cil_model.specs.declared.program.MethodDesc.{MethodDesc}
use Rattle.cil_model.specs.declared.program.FieldDesc.{FieldDesc}
use Rattle.cil_model.specs.declared.program.TokenRow.{TokenRow}
use Rattle.cil_model.specs.declared.program.Meaning.TheVariants.{OfMethod, OfField, OfText, OfLocals}
use Rattle.cil_semantics.specs.Core.{Name, class_named, string_ty, object_ty, contract_name}
use Rattle.machine_rows.specs.Samples.{instr, body, method, outside, outside_class, class_with, bool_ty, int_ty, void_ty, member_token, count_up}
use Rattle.il_opcodes.specs.Opcodes.{opcode_of}
use Rattle.cil_semantics.specs.Words.{or_else}
use Rattle.il_flow.specs.Successors.{goes_on, targets}
use Rattle.il_flow.specs.Effects.{height_after}
use Rattle.contract_parts.specs.Flow.{Code, effect, placed}
use Rattle.contract_extract.specs.Rules.{tests}

-- ---- members of Contract, each with its arguments where it is generic

pub record Member : Type 0 where
  pub owner : Ty
  pub static : Bool
  pub name : Name
  pub params : List Ty
  pub result : Ty
  pub args : List Ty

abbrev pub contract_ty : Ty
contract_ty = class_named contract_name

abbrev pub of_contract : Name → List Ty → Ty → List Ty → Member
of_contract name params result args = record { owner = contract_ty; static = true; name = name; params = params; result = result; args = args }

abbrev pub argument_exception : Ty
argument_exception = class_named (codes "System.ArgumentException")

abbrev pub constructor : Ty → Member
constructor owner = record { owner = owner; static = false; name = codes ".ctor"; params = []; result = void_ty; args = [] }

-- the members, where Requires<E> and EnsuresOnThrow<E> are of these types
abbrev pub members_of : Ty → Ty → List Member
members_of e thrown =
    of_contract (codes "Requires") (bool_ty ∷ []) void_ty []
    ∷ of_contract (codes "Requires") (bool_ty ∷ string_ty ∷ []) void_ty []
    ∷ of_contract (codes "Requires") (bool_ty ∷ []) void_ty (e ∷ [])
    ∷ of_contract (codes "Ensures") (bool_ty ∷ []) void_ty []
    ∷ of_contract (codes "EnsuresOnThrow") (bool_ty ∷ []) void_ty (thrown ∷ [])
    ∷ of_contract (codes "Invariant") (bool_ty ∷ []) void_ty []
    ∷ of_contract (codes "Assert") (bool_ty ∷ []) void_ty []
    ∷ of_contract (codes "EndContractBlock") [] void_ty []
    ∷ of_contract (codes "Result") [] (MVar 0) (int_ty ∷ [])
    ∷ of_contract (codes "OldValue") (MVar 0 ∷ []) (MVar 0) (int_ty ∷ [])
    ∷ of_contract (codes "ValueAtReturn") (ByRef (MVar 0) ∷ []) (MVar 0) (int_ty ∷ [])
    ∷ constructor argument_exception
    ∷ constructor object_ty
    ∷ record { owner = class_named (codes "Ext.Log"); static = true; name = codes "Get"; params = []; result = int_ty; args = [] }
    ∷ []

abbrev pub generics_of : List Ty → ℕ
generics_of args = length args

abbrev pub desc : Member → MethodDesc
desc m = record (outside 1 m.static m.name m.params m.result) { generics = length m.args }

abbrev pub called : ℕ → Member → ℕ → TokenRow
called row m number = record { assembly = 0; token = member_token row; meaning = OfMethod m.owner number m.args }

abbrev pub member_rows : ℕ → ℕ → List Member → List TokenRow
member_rows row number [] = []
member_rows row number (m ∷ ms) = called row m number ∷ member_rows (row + 1) (number + 1) ms

abbrev pub call : ℕ → Instr
call k = instr 0x28 (Tok 0 (member_token k))

abbrev pub requires : Instr
requires = call 1

abbrev pub requires_with : Instr
requires_with = call 2

abbrev pub requires_of : Instr
requires_of = call 3

abbrev pub ensures_call : Instr
ensures_call = call 4

abbrev pub on_throw : Instr
on_throw = call 5

abbrev pub invariant_call : Instr
invariant_call = call 6

abbrev pub assert_call : Instr
assert_call = call 7

abbrev pub end_block : Instr
end_block = call 8

abbrev pub result : Instr
result = call 9

abbrev pub old_value : Instr
old_value = call 10

abbrev pub value_at_return : Instr
value_at_return = call 11

abbrev pub new_exception : Instr
new_exception = instr 0x73 (Tok 0 (member_token 12))

abbrev pub object_constructor : Instr
object_constructor = call 13

abbrev pub log_get : Instr
log_get = call 14

-- ---- the class, its field and its texts

abbrev pub field_token : Token
field_token = record { table = 0x04; row = 1 }

abbrev pub with_field : ℕ → Instr
with_field op = instr op (Tok 0 field_token)

abbrev pub text_token : Token
text_token = record { table = 0x70; row = 1 }

abbrev pub ldstr : Instr
ldstr = instr 0x72 (Tok 0 text_token)

abbrev pub locals_token : Token
locals_token = record { table = 0x11; row = 1 }

abbrev pub own_rows : List TokenRow
own_rows =
    record { assembly = 0; token = field_token; meaning = OfField (Known 0) 0 }
    ∷ record { assembly = 0; token = text_token; meaning = OfText (codes "n positive") }
    ∷ record { assembly = 0; token = locals_token; meaning = OfLocals (int_ty ∷ int_ty ∷ int_ty ∷ int_ty ∷ []) } ∷ []

abbrev pub int_field : FieldDesc
int_field = record { owner = 0; name = codes "bal"; ty = int_ty; is_static = false; flags = 1 }

-- the program of one class of this name with one method
abbrev pub sample_of : Ty → Ty → Name → MethodDesc → Program
sample_of e thrown name m =
    record {
      types = record (class_with name (0 ∷ [])) { fields = 0 ∷ [] } ∷ outside_class contract_name ∷ [];
      fields = int_field ∷ [];
      methods = m ∷ map desc (members_of e thrown);
      tokens = own_rows ++ member_rows 1 1 (members_of e thrown);
    }

abbrev pub sample : Name → MethodDesc → Program
sample name m = sample_of argument_exception argument_exception name m

-- the same program, whose class a compiler made
abbrev pub sample_made : Name → MethodDesc → Program
sample_made name m =
    let p : Program = sample name m in
    record p { types = record (class_with name (0 ∷ [])) { fields = 0 ∷ []; generated = true } ∷ outside_class contract_name ∷ [] }

-- ---- an exception class of the set, the third class of a program

abbrev pub own_exception : Ty
own_exception = Known 2

-- its constructor with these parameters and flags
abbrev pub exception_constructor : List Ty → ℕ → MethodDesc
exception_constructor params flags = record (method 2 (codes ".ctor") params void_ty (body [] [] None)) { is_static = false; flags = flags }

-- the same program with the class, of these flags and constructors
abbrev pub with_exception : ℕ → List MethodDesc → Program → Program
with_exception flags constructors p =
    record p {
      types =
          p.types
          ++ record (class_with (codes "Odd") (count_up (length p.methods) (length constructors))) { base = Some (class_named (codes "System.Exception")); flags = flags } ∷ [];
      methods = p.methods ++ constructors;
    }

-- ---- a nested class that a compiler made, with one field and a constructor that does nothing

abbrev pub closure_token : Token
closure_token = record { table = 0x06; row = 2 }

abbrev pub closure_field : Token
closure_field = record { table = 0x04; row = 2 }

abbrev pub new_closure : Instr
new_closure = instr 0x73 (Tok 0 closure_token)

abbrev pub with_closure_field : ℕ → Instr
with_closure_field op = instr op (Tok 0 closure_field)

abbrev pub closure_constructor : ℕ → MethodDesc
closure_constructor owner =
    record (method owner (codes ".ctor") [] void_ty (body (instr 0xFE09 (Index 0) ∷ object_constructor ∷ instr 0x2A Nothing ∷ []) [] None)) { is_static = false }

-- the same program with this class
abbrev pub with_closure : Program → Program
with_closure p =
    record p {
      types = p.types ++ record (class_with (codes "T/c") (length p.methods ∷ [])) { generated = true; enclosing = Some 0 } ∷ [];
      methods = p.methods ++ closure_constructor (length p.types) ∷ [];
      tokens =
          record { assembly = 0; token = closure_token; meaning = OfMethod (Known (length p.types)) (length p.methods) [] }
          ∷ record { assembly = 0; token = closure_field; meaning = OfField (Known (length p.types)) 1 } ∷ p.tokens;
    }

-- ---- a static field that holds a message

abbrev pub message_token : Token
message_token = record { table = 0x04; row = 3 }

abbrev pub load_message : Instr
load_message = instr 0x7E (Tok 0 message_token)

abbrev pub message_field : FieldDesc
message_field = record { owner = 0; name = codes "Message"; ty = string_ty; is_static = true; flags = 0x16 }

-- the program of one class of this name with one method, and with this field
abbrev pub sample_with_message : Name → MethodDesc → Program
sample_with_message name m =
    let p : Program = sample name m in
    record p {
      types = record (class_with name (0 ∷ [])) { fields = 0 ∷ 1 ∷ [] } ∷ outside_class contract_name ∷ [];
      fields = p.fields ++ message_field ∷ [];
      tokens = record { assembly = 0; token = message_token; meaning = OfField (Known 0) 1 } ∷ p.tokens;
    }

-- ---- heights of samples, found in one pass: no code of theirs is reached by backward branches alone

abbrev pub recorded : ℕ → List (ℕ × ℕ) → Option ℕ
recorded q [] = None
recorded q (x ∷ xs) = if x.0 == q then Some x.1 else recorded q xs

abbrev pub if_goes_on : Bool → ℕ → Option ℕ
if_goes_on b h = if b then Some h else None

abbrev pub height_past : Code → Instr → ℕ → ℕ
height_past c i h = height_after (effect c i) h

abbrev pub walk_past : Code → Instr → List (ℕ × ℕ) → Option ℕ → (Option ℕ → List (ℕ × ℕ) → List (Option ℕ)) → List (Option ℕ)
walk_past c i ahead None go = None ∷ go None ahead
walk_past c i ahead (Some h) go =
    Some h ∷ go (if_goes_on (goes_on (opcode_of i.op)) (height_past c i h)) (map (λ t. (t, height_past c i h)) (targets i.operand) ++ ahead)

abbrev pub walk : Code → Option ℕ → List (ℕ × ℕ) → List (ℕ × Instr) → List (Option ℕ)
walk c before ahead [] = []
walk c before ahead (x ∷ xs) = walk_past c x.1 ahead (or_else before (recorded x.0 ahead)) (λ b a. walk c b a xs)

abbrev pub entry_heights : Region → List (ℕ × ℕ)
entry_heights r = (r.handler_from, 0) ∷ []

-- the code of the first method of a program, whose handlers are finally blocks
abbrev pub code : Program → List Instr → List Region → Code
code p is rs =
    let b : Body = record (body is rs (Some locals_token)) { offsets = count_up 0 (length is) } in
    let c : Code = record { program = p; method = 0; body = b; heights = []; reached = [] } in
    let hs : List (Option ℕ) = walk c (Some 0) (flat_map entry_heights rs) (placed c) in
    record c { heights = map (λ h. unwrap_or h 0) hs; reached = map is_some hs }

-- the rule that is broken first, and the place of the instruction
abbrev pub rule_and_place : Option Refusal → Option (Rule × ℕ)
rule_and_place None = None
rule_and_place (Some r) = Some (r.rule, r.at)

abbrev pub first_broken : Code → Option (Rule × ℕ)
first_broken c = rule_and_place (first_of (tests c))

-- every rule that is broken, by place and then by rule
abbrev pub all_broken : Code → List (Rule × ℕ)
all_broken c = map (λ (t : Test). (t.refusal.rule, t.refusal.at)) (filter (λ (t : Test). t.fails) (tests c))
