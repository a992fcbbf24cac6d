-- The values of signatures that have a spelling (ECMA-335, II.23.2): what each part of a value must be, without its bytes.
use Rattle.std.specs.Prelude.{◌≡◌, ℕ, ℤ, pos, neg_ℤ, ◌≤ℤ◌, ◌<ℤ◌, zero, suc, ◌^◌, ◌<◌, Bool, true, false, List, length, Option, Some, None}
use Rattle.std.specs.List.{All}
use Rattle.cli_sigs.specs.declared.elements.Slot.{Slot}
use Rattle.cli_sigs.specs.declared.elements.Slot.TheVariants.{Plain, Pointed, Param, Local}
use Rattle.cli_sigs.specs.declared.elements.MethodKind.{MethodKind}
use Rattle.cli_sigs.specs.declared.elements.MethodKind.TheVariants.{Method, Pointer}
use Rattle.cli_sigs.specs.declared.types.SigTy.{SigTy, out-SigTy}
use Rattle.cli_sigs.specs.declared.types.SigTy.TheOpen.{SigTy-F}
use Rattle.cli_sigs.specs.declared.types.MethodSig.{MethodSig, out-MethodSig}
use Rattle.cli_sigs.specs.declared.types.MethodSig.{MethodSig-F}
use Rattle.cli_sigs.specs.Elements.{is_prim, may_stand, allows_by_ref, allows_pinned, slot_behind}
use Rattle.cli_sigs.specs.Methods.{may_begin, result_slot, is_generic, is_vararg}
use Rattle.cli_sigs.specs.Numbers.{has_table}

-- ---- numbers and lists

-- a compressed number has 29 bits
abbrev pub IsShort : ℕ → Type 0
IsShort n = n < 2 ^ 29

-- from -half to half - 1
abbrev pub Reaches : ℕ → ℤ → Type 0
Reaches half z = (neg_ℤ (pos half) ≤ℤ z) × (z <ℤ pos half)

-- a signed one too
abbrev pub IsShortSigned : ℤ → Type 0
IsShortSigned z = Reaches 0x10000000 z

-- a coded index has the tag of a table too
abbrev pub IsShortCoded : ℕ → Type 0
IsShortCoded coded = IsShort coded × (has_table coded ≡ true)

-- few enough to be counted, and each of them is so
abbrev pub AllCounted : {A : Type 0} → (A → Type 0) → List A → Type 0
AllCounted P xs = IsShort (length xs) × All P xs

-- ---- methods (II.23.2.1 to II.23.2.3)

-- the number of generic parameters, where the flags have GENERIC
abbrev pub AreGenerics : Bool → ℕ → Type 0
AreGenerics true n = IsShort n
AreGenerics false n = 0 ≡ n

-- SENTINEL stands in a vararg signature, before one of the parameters
abbrev pub StandsBefore : Bool → ℕ → Option ℕ → Type 0
StandsBefore vararg params None = Unit {0}
StandsBefore vararg params (Some k) = (vararg ≡ true) × (k < params)

pub record IsValidOpenMethod (Inner : Slot → SigTy → Type 0) (kind : MethodKind) (m : MethodSig-F SigTy MethodSig) : Type 0 where
  pub begins : may_begin kind m.flags ≡ true
  pub generics : AreGenerics (is_generic m.flags) m.generics
  pub result : Inner (result_slot kind) m.result
  pub params : AllCounted (Inner Param) m.params
  pub sentinel : StandsBefore (is_vararg m.flags) (length m.params) m.sentinel

abbrev pub IsValidMethod : (Slot → SigTy → Type 0) → MethodKind → MethodSig → Type 0
IsValidMethod Inner kind sig = IsValidOpenMethod Inner kind (out-MethodSig sig)

-- ---- types (II.23.2.7 to II.23.2.14)

-- a type by its form; Inner is what stands inside
abbrev pub IsValidForm : (Slot → SigTy → Type 0) → Slot → SigTy-F SigTy MethodSig → Type 0
IsValidForm Inner slot (SigTy-F.Prim b) = (is_prim b ≡ true) × (may_stand slot b ≡ true)
IsValidForm Inner slot (SigTy-F.Ptr t) = Inner Pointed t
IsValidForm Inner slot (SigTy-F.ByRef t) = (allows_by_ref slot ≡ true) × Inner Plain t
IsValidForm Inner slot (SigTy-F.Named value coded) = IsShortCoded coded
IsValidForm Inner slot (SigTy-F.Var n) = IsShort n
IsValidForm Inner slot (SigTy-F.MVar n) = IsShort n
IsValidForm Inner slot (SigTy-F.Array t rank sizes lows) = Inner Plain t × IsShort rank × AllCounted IsShort sizes × AllCounted IsShortSigned lows
IsValidForm Inner slot (SigTy-F.Inst value coded args) = IsShortCoded coded × AllCounted (Inner Plain) args
IsValidForm Inner slot (SigTy-F.Func m) = IsValidMethod Inner Pointer m
IsValidForm Inner slot (SigTy-F.SzArray t) = Inner Plain t
IsValidForm Inner slot (SigTy-F.Modified required coded t) = IsShortCoded coded × Inner (slot_behind slot) t
IsValidForm Inner slot (SigTy-F.Pinned t) = (allows_pinned slot ≡ true) × Inner (slot_behind slot) t

-- a type that is nested at most so deep: one more than the deepest of its parts
unfoldable pub IsValidType : ℕ → Slot → SigTy → Type 0
IsValidType zero slot t = ⊥
IsValidType (suc depth) slot t = IsValidForm (IsValidType depth) slot (out-SigTy t)

-- ---- blobs, with types nested at most 1,000 deep

-- MethodDefSig or MethodRefSig (II.23.2.1, II.23.2.2)
abbrev pub IsValidMethodSig : MethodSig → Type 0
IsValidMethodSig = IsValidMethod (IsValidType 1000) Method

-- LocalVarSig (II.23.2.6)
abbrev pub AreValidLocals : List SigTy → Type 0
AreValidLocals = AllCounted (IsValidType 1000 Local)

-- TypeSpec (II.23.2.14)
abbrev pub IsValidTypeSpec : SigTy → Type 0
IsValidTypeSpec = IsValidType 1000 Plain

-- MethodSpec (II.23.2.15)
abbrev pub IsValidMethodSpec : List SigTy → Type 0
IsValidMethodSpec = AllCounted (IsValidType 1000 Plain)
