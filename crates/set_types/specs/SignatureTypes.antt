-- A signature's types as a program has them (ECMA-335, II.23.2.12).
use Rattle.std.specs.Prelude.{ℕ, zero, suc, ◌==◌, if◌then◌else◌, false, List, [], ◌∷◌, map, Option, Some, None, codes}
use Rattle.cli_sigs.specs.declared.types.SigTy.{SigTy, out-SigTy}
use Rattle.cli_sigs.specs.declared.types.SigTy.TheOpen.{SigTy-F}
use Rattle.cli_sigs.specs.declared.types.MethodSig.{MethodSig}
use Rattle.cil_model.specs.declared.ty.Ty.{Ty, out-Ty}
use Rattle.cil_model.specs.declared.ty.Ty.TheOpen.{Ty-F}
use Rattle.cil_model.specs.declared.ty.Ty.TheVariants as ty
use Rattle.set_types.specs.CodedIndexes.{tag, row_of}

-- What the coded types of an assembly's signatures lead to. None where there is no such row, or the type isn't there.
pub record Coded : Type 0 where
  -- the type that a TypeDef or TypeRef row names
  pub named : ℕ → Option Ty
  -- its number
  pub number : ℕ → Option ℕ
  -- the signature of a TypeSpec row
  pub spec : ℕ → Option SigTy

-- ---- types of a program

abbrev pub array_ty : Ty
array_ty = ty.Outside (codes "System.Array") false

abbrev pub ty_or : Ty → Option Ty → Ty
ty_or other None = other
ty_or other (Some t) = t

-- An instance: of a type of the set with its arguments, where there are some; of any other type that type itself.
abbrev pub instance_of : List Ty → Ty → Ty-F Ty → Ty
instance_of [] t layer = t
instance_of (a ∷ more) t (Ty-F.Known k) = ty.Inst k (a ∷ more)
instance_of (a ∷ more) t _ = t

-- what stands in a TypeSpec row, one level deeper
abbrev pub spec_ty : (SigTy → Ty) → Option SigTy → Ty
spec_ty read None = ty.Opaque
spec_ty read (Some t) = read t

abbrev pub coded_ty : Coded → (SigTy → Ty) → ℕ → Ty
coded_ty c read coded = if tag coded == 2 then spec_ty read (c.spec (row_of coded)) else ty_or ty.Opaque (c.named coded)

abbrev pub layer_ty : Coded → (SigTy → Ty) → SigTy-F SigTy MethodSig → Ty
layer_ty c read (SigTy-F.Prim b) = ty.Prim b
layer_ty c read (SigTy-F.Ptr t) = ty.Opaque
layer_ty c read (SigTy-F.ByRef t) = ty.ByRef (read t)
layer_ty c read (SigTy-F.Named value coded) = coded_ty c read coded
layer_ty c read (SigTy-F.Var n) = ty.Var n
layer_ty c read (SigTy-F.MVar n) = ty.MVar n
layer_ty c read (SigTy-F.Array t rank sizes lows) = array_ty
layer_ty c read (SigTy-F.Inst value coded args) = instance_of (map read args) (coded_ty c read coded) (out-Ty (coded_ty c read coded))
layer_ty c read (SigTy-F.Func m) = ty.Opaque
layer_ty c read (SigTy-F.SzArray t) = ty.Array (read t)
layer_ty c read (SigTy-F.Modified required coded t) = read t
layer_ty c read (SigTy-F.Pinned t) = read t

-- the type of a signature that nests at most so deep, with TypeSpec rows as a level
unfoldable pub ty_within : Coded → ℕ → SigTy → Ty
ty_within c zero t = ty.Opaque
ty_within c (suc depth) t = layer_ty c (ty_within c depth) (out-SigTy t)

abbrev pub ty_of : Coded → SigTy → Ty
ty_of c t = ty_within c 1000 t
