-- In what the members of a set are looked up: its assemblies, what their coded types lead to, and its types with their bases (ECMA-335, II.22.37).
use Rattle.std.specs.Prelude.{◌≡◌, ℕ, zero, suc, ◌==◌, nat_lt, Bool, false, is_some, if◌then◌else◌, List, [], ◌∷◌, map, length, slice_get, Option, Some, None, option_map, option_and_then}
use Rattle.cil_base.specs.declared.tables.TheConstants.{TYPE_DEF}
use Rattle.cil_model.specs.declared.ty.Ty.{Ty, out-Ty}
use Rattle.cil_semantics.specs.Lookups.{in_set}
use Rattle.cil_semantics.specs.Types.{under}
use Rattle.cli_sigs.specs.declared.types.SigTy.{SigTy, out-SigTy}
use Rattle.cli_sigs.specs.declared.types.SigTy.TheOpen.{SigTy-F}
use Rattle.cli_sigs.specs.declared.types.MethodSig.{MethodSig}
use Rattle.set_rows.specs.Sets.{Assembly, Assemblies, assembly_at, no_assembly, cell}
use Rattle.set_types.specs.CodedIndexes.{tag, row_of}
use Rattle.set_types.specs.SignatureTypes.{Coded, ty_of}
use Rattle.set_program.specs.declared.identity.TypeId.{TypeId}
use Rattle.set_program.specs.declared.identity.TypeId.TheVariants as id
use Rattle.set_program.specs.Environment.{types_of, coded_in}
use Rattle.set_types.specs.CodedTypes.{coded_of}
use Rattle.members.specs.declared.assembly_members.AssemblyMembers.{AssemblyMembers}
use Rattle.members.specs.declared.set_type.SetType.{SetType}

pub record Environment : Type 0 where
  -- whether there is an assembly of this number
  pub has : ℕ → Bool
  pub assembly : ℕ → Assembly
  pub coded : ℕ → Coded
  -- by number
  pub types : List SetType

-- ---- as data

abbrev pub no_coded : Coded
no_coded = record { named = λ coded. None; number = λ coded. None; spec = λ row. None }

abbrev pub rows_or : Option AssemblyMembers → Assembly
rows_or None = no_assembly
rows_or (Some a) = a.rows

abbrev pub coded_or : Option AssemblyMembers → Coded
coded_or None = no_coded
coded_or (Some a) = coded_of a.coded

-- in these assemblies, where these are the types
abbrev pub environment_in : List AssemblyMembers → List SetType → Environment
environment_in assemblies types = record {
  has = λ a. is_some (slice_get assemblies a);
  assembly = λ a. rows_or (slice_get assemblies a);
  coded = λ a. coded_or (slice_get assemblies a);
  types = types;
}

-- ---- the base of a type

-- the type that a TypeDefOrRef index of a row names, if it isn't 0 (II.24.2.6)
abbrev pub coded_ty_at : Coded → ℕ → Option Ty
coded_ty_at c coded = if row_of coded == 0 then None else if tag coded == 2 then option_map (ty_of c) (c.spec (row_of coded)) else c.named coded

-- the arguments of an instance, where another may stand in the TypeSpec row that it names
abbrev pub or_else : List SigTy → List SigTy → List SigTy
or_else [] args = args
or_else (t ∷ ts) args = t ∷ ts

abbrev pub in_spec : (SigTy → List SigTy) → Option SigTy → List SigTy
in_spec read None = []
in_spec read (Some t) = read t

abbrev pub in_coded : Coded → (SigTy → List SigTy) → ℕ → List SigTy
in_coded c read coded = if tag coded == 2 then in_spec read (c.spec (row_of coded)) else []

abbrev pub layer_arguments : Coded → (SigTy → List SigTy) → SigTy-F SigTy MethodSig → List SigTy
layer_arguments c read (SigTy-F.Named value coded) = in_coded c read coded
layer_arguments c read (SigTy-F.Inst value coded args) = or_else (in_coded c read coded) args
layer_arguments c read (SigTy-F.Modified required coded t) = read t
layer_arguments c read (SigTy-F.Pinned t) = read t
layer_arguments c read _ = []

-- the arguments of the instance that a type is, TypeSpec rows and modifiers read
unfoldable pub arguments_within : Coded → ℕ → SigTy → List SigTy
arguments_within c zero t = []
arguments_within c (suc depth) t = layer_arguments c (arguments_within c depth) (out-SigTy t)

-- those of the type that a TypeDefOrRef index names
abbrev pub arguments_at : Coded → ℕ → List SigTy
arguments_at c coded = in_coded c (arguments_within c 1000) coded

-- the number of a type of the set
abbrev pub definition_of : Ty → Option ℕ
definition_of t = option_map (λ (d : ℕ × List Ty). d.0) (in_set (out-Ty t))

-- ---- of a set

abbrev pub row_type : Coded → ℕ → ℕ → ℕ → SetType
row_type c a row extends = record { assembly = a; row = row; base = option_and_then definition_of (coded_ty_at c extends); args = arguments_at c extends }

-- a type that isn't of the set has no row in any assembly of it
abbrev pub set_type : Assemblies → TypeId → SetType
set_type s (id.Row a row) = row_type (coded_in s a) a row (cell (assembly_at s a) TYPE_DEF row 3)
set_type s (id.Outside name) = record { assembly = length s; row = 0; base = None; args = [] }

unfoldable pub set_types : Assemblies → List SetType
set_types s = map (set_type s) (types_of s)

abbrev pub environment : Assemblies → Environment
environment s = record { has = λ a. nat_lt a (length s); assembly = assembly_at s; coded = coded_in s; types = set_types s }

-- ---- a type and its bases, each with its arguments

abbrev pub base_ty : Environment → SetType → Option Ty
base_ty e t = coded_ty_at (e.coded t.assembly) (cell (e.assembly t.assembly) TYPE_DEF t.row 3)

-- the base of an instance
abbrev pub base_under : Environment → ℕ × List Ty → Option Ty
base_under e d = option_map (under d.1 []) (option_and_then (base_ty e) (slice_get e.types d.0))

abbrev pub is_of : ℕ → Option (ℕ × List Ty) → Bool
is_of k None = false
is_of k (Some d) = d.0 == k

abbrev pub by_definition : (Ty → Option Ty) → Environment → ℕ → Ty → Option (ℕ × List Ty) → Option Ty
by_definition go e k t d = if is_of k d then Some t else option_and_then go (option_and_then (base_under e) d)

-- the nearest of a type and its bases that has this definition, at most so many
unfoldable pub seen_within : Environment → ℕ → ℕ → Ty → Option Ty
seen_within e k zero t = None
seen_within e k (suc n) t = by_definition (seen_within e k n) e k t (in_set (out-Ty t))

-- These assemblies and types are those of a set.
pub record AreOf (s : Assemblies) (assemblies : List AssemblyMembers) (types : List SetType) : Type 0 where
  pub rows : map (λ m. m.rows) assemblies ≡ s
  pub coded : (a : ℕ) (m : AssemblyMembers) → slice_get assemblies a ≡ Some m → coded_of m.coded ≡ coded_in s a
  pub bases : types ≡ set_types s
