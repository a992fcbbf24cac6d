-- The input, and the input with the tables of the output: what a writer gives of both, so that a run of the input meets the same in either.
use Rattle.std.specs.Prelude.{◌≡◌, ◌⊎◌, ℕ, ◌%◌, ◌<◌, ◌≤◌, false, List, [], length, Option, Some, None, option_map, codes}
use Rattle.cil_base.specs.declared.token.Token.{Token}
use Rattle.cil_model.specs.declared.ty.Ty.{Ty, out-Ty, Known}
use Rattle.cil_model.specs.declared.body.Body.{Body}
use Rattle.cil_model.specs.declared.body.Instr.{Instr}
use Rattle.cil_model.specs.declared.body.Operand.{Operand}
use Rattle.cil_model.specs.declared.body.Operand.TheVariants.{Tok}
use Rattle.cil_model.specs.declared.body.Region.{Region}
use Rattle.cil_model.specs.declared.body.RegionKind.{RegionKind}
use Rattle.cil_model.specs.declared.body.RegionKind.TheVariants as region
use Rattle.cil_model.specs.declared.contract.Clause.{Clause}
use Rattle.cil_model.specs.declared.contract.Contracts.{Contracts}
use Rattle.cil_model.specs.declared.contract.Effective.{Effective}
use Rattle.cil_model.specs.declared.contract.Old.{Old}
use Rattle.cil_model.specs.declared.contract.TyRef.{TyRef}
use Rattle.cil_model.specs.declared.program.Kind.TheVariants.{Class}
use Rattle.cil_model.specs.declared.program.Meaning.{Meaning}
use Rattle.cil_model.specs.declared.program.Meaning.TheVariants.{OfType, OfField, OfMethod, OfText, OfLocals}
use Rattle.cil_model.specs.declared.program.Program.{Program}
use Rattle.il_opcodes.specs.Opcodes.{class_of}
use Rattle.il_opcodes.specs.declared.class.Class.TheVariants as class
use Rattle.cil_semantics.specs.Contracted.{effective_of}
use Rattle.cil_semantics.specs.Core.{exception_ty}
use Rattle.cil_semantics.specs.Dispatch.{is_virtual}
use Rattle.cil_semantics.specs.Lookups.{type_of, method_of}
use Rattle.cil_semantics.specs.Tokens.{meaning_of, own_meaning, meaning_in}
use Rattle.cil_semantics.specs.Unwind.{body_of}
use Rattle.machine_laws.specs.Answers.{Each, IsAmong, IsOld, NamesOwn, NamesNone}
use Rattle.machine_laws.specs.Growth.{Extends}

-- Old rows are kept, and what is appended are classes that name no interface (ECMA-335, II.22).
pub record IsGrownInput (p0 p : Program) : Type 0 where
  pub extends : Extends p0 p
  pub names_own : NamesOwn p0
  pub names_none : NamesNone p0 p
  pub classes : (j : ℕ) → length p0.types ≤ j → (type_of p j).kind ≡ Class

-- The row of the class of failures, or none: an exception, none of whose fields and methods a run of the input can name.
pub record IsFailureRow (p0 p : Program) (exception : ℕ) : Type 0 where
  pub beyond : length p0.types ≤ exception
  pub name : (type_of p exception).name ≡ codes "__ContractsRuntime/ContractException"
  pub base : (type_of p exception).base ≡ Some exception_ty
  pub fields : Each (λ f. length p0.fields ≤ f) (type_of p exception).fields
  pub methods : Each (λ m. is_virtual (method_of p m) ≡ false) (type_of p exception).methods
  pub impls : (type_of p exception).impls ≡ []

-- what a token of the input names is the input's
abbrev pub NamesInner : Program → Meaning → Type 0
NamesInner p0 (OfType t) = IsOld p0 t
NamesInner p0 (OfField owner f) = IsOld p0 owner × (f < length p0.fields)
NamesInner p0 (OfMethod owner m args) = IsOld p0 owner × (m < length p0.methods)
NamesInner p0 (OfText units) = Unit {0}
NamesInner p0 (OfLocals ts) = Unit {0}

-- ---- the input's code

-- a token that means nothing in the input means nothing with the output's tables
abbrev pub StaysUnmeant : (p0 p : Program) → ℕ → Token → Type 0
StaysUnmeant p0 p assembly token = meaning_of p0 assembly token ≡ None → meaning_of p assembly token ≡ None

module _ (p0 p : Program) where
  abbrev pub UnmeantIf : ℕ → Option Token → Type 0
  UnmeantIf assembly None = Unit {0}
  UnmeantIf assembly (Some token) = StaysUnmeant p0 p assembly token

  -- the token of an instruction, and that of its prefix
  abbrev pub OperandUnmeant : Operand → Option Token → Type 0
  OperandUnmeant (Tok assembly token) prefix = StaysUnmeant p0 p assembly token × UnmeantIf assembly prefix
  OperandUnmeant _ prefix = Unit {0}

  abbrev pub IsWhole : Meaning → Type 0
  IsWhole (OfType t) = IsAmong (length p0.types) (out-Ty t)
  IsWhole _ = Unit {0}

  -- a type whose name is loaded is no type parameter (ECMA-335, III.4.17)
  abbrev pub NamesWhole : Instr → Type 0
  NamesWhole i = class_of i.op ≡ class.LoadToken → (m : Meaning) → own_meaning p0 i.operand ≡ Some m → IsWhole (meaning_in i.under m)

  abbrev pub KeepsInstr : Instr → Type 0
  KeepsInstr i = OperandUnmeant i.operand i.constrained × NamesWhole i

  abbrev pub CaughtUnmeant : ℕ → RegionKind → Type 0
  CaughtUnmeant assembly (region.Catch token) = StaysUnmeant p0 p assembly token
  CaughtUnmeant assembly _ = Unit {0}

  pub record KeepsBody (assembly : ℕ) (b : Body) : Type 0 where
    pub instrs : Each KeepsInstr b.instrs
    pub regions : Each (λ (r : Region). CaughtUnmeant assembly r.kind) b.regions
    pub locals : UnmeantIf assembly b.locals

  abbrev pub KeepsRef : TyRef → Type 0
  KeepsRef r = StaysUnmeant p0 p r.assembly r.token

  abbrev pub KeepsRefIf : Option TyRef → Type 0
  KeepsRefIf None = Unit {0}
  KeepsRefIf (Some r) = KeepsRef r

  -- a clause belongs to a method of the input
  pub record KeepsClause (c : Clause) : Type 0 where
    pub home : c.home < length p0.methods
    pub instrs : Each KeepsInstr c.instrs
    pub locals : Each KeepsRef c.locals
    pub olds : Each (λ (o : Old). KeepsRef o.ty) c.olds
    pub exception : KeepsRefIf c.exception

-- The bodies of the input's methods stay, what their tokens and those of the clauses mean too, and constructors keep their access.
pub record KeepsCode (p0 p : Program) (k : Contracts) : Type 0 where
  pub same : (m : ℕ) → m < length p0.methods → (method_of p m).body ≡ (method_of p0 m).body
  pub bodies : (m : ℕ) → m < length p0.methods → KeepsBody p0 p (method_of p0 m).assembly (body_of p0 m)
  pub clauses : (m : ℕ) (e : Effective) → effective_of k p0 m ≡ Some e → Each (KeepsClause p0 p) e.clauses
  pub invariants : (m : ℕ) (e : Effective) → effective_of k p0 m ≡ Some e → Each (KeepsClause p0 p) e.invariants
  pub constructors : (m : ℕ) → m < length p0.methods → (method_of p0 m).name ≡ codes ".ctor" → (method_of p m).flags % 8 ≡ (method_of p0 m).flags % 8

-- What a writer gives of the two programs, where `exception` is the number of the class of failures.
pub record GrowsAround (p0 p : Program) (k : Contracts) (exception : ℕ) : Type 0 where
  -- the tables have grown
  pub tables : IsGrownInput p0 p
  -- tokens of the input name what is of the input
  pub names : (assembly : ℕ) (token : Token) (m : Meaning) → meaning_of p0 assembly token ≡ Some m → NamesInner p0 m
  -- methods of the input belong to types of the input
  pub members : (m : ℕ) → m < length p0.methods → (method_of p0 m).owner < length p0.types
  -- types of the input are nested in types of the input (ECMA-335, II.22.32)
  pub encloses : (j e : ℕ) → j < length p0.types → (type_of p0 j).enclosing ≡ Some e → e < length p0.types
  pub failure : IsFailureRow p0 p exception
  pub code : KeepsCode p0 p k

-- ---- the types that objects of a run have

-- of the input or outside, or the class of failures
abbrev pub IsHeld : Program → ℕ → Ty → Type 0
IsHeld p0 exception t = IsOld p0 t ⊎ (t ≡ Known exception)
