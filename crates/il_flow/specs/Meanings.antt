-- What the tokens and indexes of a body have to mean (ECMA-335, III.1.9, and each instruction's section in III.3 and III.4).
use Rattle.std.specs.Prelude.{ℕ, Bool, true, false, ◌&&◌, not, nat_lt, List, [], ◌∷◌, length, map, slice_index, Option, Some, None}
use Rattle.std.specs.List.{list_all, enumerate_from}
use Rattle.cil_base.specs.declared.rule.Rule.TheVariants.{I6}
use Rattle.cil_base.specs.declared.token.Token.{Token}
use Rattle.cil_base.specs.declared.refusal.Place.{Place}
use Rattle.cil_base.specs.declared.refusal.Refusal.{Refusal}
use Rattle.cil_base.specs.Refusals.{Test, Fails}
use Rattle.cil_model.specs.declared.ty.Ty.{Ty}
use Rattle.cil_model.specs.declared.ty.Ty.TheOpen.{Ty-F}
use Rattle.cil_model.specs.declared.ty.Ty.TheFolds.{fold-Ty}
use Rattle.cil_model.specs.declared.body.Body.{Body}
use Rattle.cil_model.specs.declared.body.Instr.{Instr}
use Rattle.cil_model.specs.declared.body.Operand.{Operand}
use Rattle.cil_model.specs.declared.body.Operand.TheVariants.{Index, Tok}
use Rattle.cil_model.specs.declared.body.Region.{Region}
use Rattle.cil_model.specs.declared.body.RegionKind.{RegionKind}
use Rattle.cil_model.specs.declared.body.RegionKind.TheVariants.{Catch}
use Rattle.cil_model.specs.declared.program.Program.{Program}
use Rattle.cil_model.specs.declared.program.MethodDesc.{MethodDesc}
use Rattle.cil_model.specs.declared.program.Meaning.{Meaning}
use Rattle.cil_model.specs.declared.program.Meaning.TheVariants.{OfType, OfField, OfMethod, OfText, OfLocals}
use Rattle.il_opcodes.specs.declared.opcode.Opcode.{Opcode}
use Rattle.il_opcodes.specs.declared.opcode.OperandKind.{OperandKind}
use Rattle.il_opcodes.specs.declared.opcode.OperandKind.TheVariants.{TypeToken, FieldToken, MethodToken, StringToken, AnyToken}
use Rattle.il_opcodes.specs.declared.class.Class.{Class}
use Rattle.il_opcodes.specs.declared.class.Class.TheVariants as class
use Rattle.il_opcodes.specs.Opcodes.{opcode_of}
use Rattle.cil_semantics.specs.Lookups.{type_of}
use Rattle.cil_semantics.specs.Tokens.{meaning_of, locals_in}
use Rattle.il_flow.specs.Effects.{count_arguments}
use Rattle.il_flow.specs.Lowest.{test}

-- ---- type parameters

abbrev pub layer_stands : (types methods : ℕ) → Ty-F Bool → Bool
layer_stands types methods (Ty-F.Array item) = item
layer_stands types methods (Ty-F.ByRef item) = item
layer_stands types methods (Ty-F.Var k) = nat_lt k types
layer_stands types methods (Ty-F.MVar k) = nat_lt k methods
layer_stands types methods (Ty-F.Inst k args) = list_all (λ (b : Bool). b) args
layer_stands types methods _ = true

-- each parameter in the type is one of so many of a type and so many of a method (II.23.2.12)
abbrev pub stands : (types methods : ℕ) → Ty → Bool
stands types methods t = fold-Ty Bool (layer_stands types methods) t

-- the types that a meaning itself holds, and not the signature of the member that it names
abbrev pub held_types : Meaning → List Ty
held_types (OfType t) = t ∷ []
held_types (OfField owner field) = owner ∷ []
held_types (OfMethod owner method args) = owner ∷ args
held_types (OfText units) = []
held_types (OfLocals ts) = ts

-- ---- kinds

-- a token of this kind names a thing of this meaning; ldtoken takes a type, a field or a method (III.4.17)
abbrev pub is_of_kind : OperandKind → Meaning → Bool
is_of_kind TypeToken (OfType t) = true
is_of_kind FieldToken (OfField owner field) = true
is_of_kind MethodToken (OfMethod owner method args) = true
is_of_kind StringToken (OfText units) = true
is_of_kind AnyToken (OfType t) = true
is_of_kind AnyToken (OfField owner field) = true
is_of_kind AnyToken (OfMethod owner method args) = true
is_of_kind _ _ = false

abbrev pub are_locals : Meaning → Bool
are_locals (OfLocals ts) = true
are_locals _ = false

-- how many arguments or locals an instruction may name
abbrev pub index_limit : (arguments locals : ℕ) → Class → Option ℕ
index_limit arguments locals class.LoadArgument = Some arguments
index_limit arguments locals class.StoreArgument = Some arguments
index_limit arguments locals class.ArgumentAddress = Some arguments
index_limit arguments locals class.LoadLocal = Some locals
index_limit arguments locals class.StoreLocal = Some locals
index_limit arguments locals class.LocalAddress = Some locals
index_limit arguments locals _ = None

abbrev pub is_index_there : Option ℕ → Operand → Bool
is_index_there (Some n) (Index k) = nat_lt k n
is_index_there _ _ = true

module _ (p : Program) (own : MethodDesc) where
  -- each parameter in the types is one of the method or of its type
  abbrev pub all_stand : List Ty → Bool
  all_stand ts = list_all (stands (type_of p own.owner).generics own.generics) ts

  -- a meaning is there, passes the test, and its types stand in the method
  abbrev pub is_meant : (Meaning → Bool) → Option Meaning → Bool
  is_meant kind None = false
  is_meant kind (Some m) = kind m && all_stand (held_types m)

  abbrev pub is_operand_meant : OperandKind → Operand → Bool
  is_operand_meant kind (Tok assembly token) = is_meant (is_of_kind kind) (meaning_of p assembly token)
  is_operand_meant kind _ = true

  -- a token that names a type, if there is one: that of constrained. (III.2.1), or of a catch
  abbrev pub is_type_meant : Option Token → Bool
  is_type_meant None = true
  is_type_meant (Some token) = is_meant (is_of_kind TypeToken) (meaning_of p own.assembly token)

  abbrev pub are_locals_meant : Option Token → Bool
  are_locals_meant None = true
  are_locals_meant (Some token) = is_meant are_locals (meaning_of p own.assembly token)

  abbrev pub count_locals : Option Token → ℕ
  count_locals None = 0
  count_locals (Some token) = length (locals_in (meaning_of p own.assembly token))

  abbrev pub is_code_meant : (locals : ℕ) → Option Opcode → Operand → Bool
  is_code_meant locals None operand = true
  is_code_meant locals (Some o) operand =
      is_operand_meant o.operand operand && is_index_there (index_limit (count_arguments own) locals o.class) operand

  abbrev pub is_instr_meant : (locals : ℕ) → Instr → Bool
  is_instr_meant locals i = is_code_meant locals (opcode_of i.op) i.operand && is_type_meant i.constrained

  abbrev pub is_kind_meant : RegionKind → Bool
  is_kind_meant (Catch token) = is_type_meant (Some token)
  is_kind_meant _ = true

  abbrev pub is_region_meant : Region → Bool
  is_region_meant r = is_kind_meant r.kind

  -- ---- the tests

  abbrev pub instr_test : Place → Body → ℕ × Instr → Test
  instr_test place b x = test I6 place (slice_index b.offsets x.0) (not (is_instr_meant (count_locals b.locals) x.1))

  -- what has no place in the code is named at 0
  abbrev pub table_test : Place → Body → Test
  table_test place b = test I6 place 0 (not (are_locals_meant b.locals && list_all is_region_meant b.regions))

  abbrev pub meaning_tests : Place → Body → List Test
  meaning_tests place b = table_test place b ∷ map (instr_test place b) (enumerate_from 0 b.instrs)

  -- I6 is broken with this refusal.
  abbrev pub BreaksMeaning : Place → Body → Refusal → Type 0
  BreaksMeaning place b r = Fails (meaning_tests place b) r
