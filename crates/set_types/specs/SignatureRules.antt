-- What is asked of the types in a signature: which coded types are said to be value types (ECMA-335, II.23.1.16, II.23.2.12), and whether arguments and parameters fit (II.9.2, II.22.20).
use Rattle.std.specs.Prelude.{ℕ, zero, suc, ◌==◌, ◌||◌, nat_le, not, Bool, false, if◌then◌else◌, List, [], ◌∷◌, ◌++◌, length, flat_map, Option, Some, None}
use Rattle.cli_sigs.specs.declared.types.SigTy.{SigTy, out-SigTy}
use Rattle.cli_sigs.specs.declared.types.SigTy.TheOpen.{SigTy-F}
use Rattle.cli_sigs.specs.declared.types.MethodSig.{MethodSig, MethodSig-F, out-MethodSig}
use Rattle.set_types.specs.CodedIndexes.{tag, row_of}
use Rattle.set_types.specs.SignatureTypes.{Coded}

abbrev pub any : {A : Type 0} → (A → Bool) → List A → Bool
any test [] = false
any test (x ∷ xs) = test x || any test xs

-- what a method returns, and its parameters
abbrev pub method_types : MethodSig → List SigTy
method_types m = types_in (out-MethodSig m)
  where
    types_in : MethodSig-F SigTy MethodSig → List SigTy
    types_in m = m.result ∷ m.params

-- ---- the coded types that stand behind VALUETYPE in a type

abbrev pub open_values : (SigTy → List ℕ) → SigTy-F SigTy MethodSig → List ℕ
open_values read (SigTy-F.Prim b) = []
open_values read (SigTy-F.Ptr t) = read t
open_values read (SigTy-F.ByRef t) = read t
open_values read (SigTy-F.Named value coded) = if value then coded ∷ [] else []
open_values read (SigTy-F.Var n) = []
open_values read (SigTy-F.MVar n) = []
open_values read (SigTy-F.Array t rank sizes lows) = read t
open_values read (SigTy-F.Inst value coded args) = (if value then coded ∷ [] else []) ++ flat_map read args
open_values read (SigTy-F.Func m) = flat_map read (method_types m)
open_values read (SigTy-F.SzArray t) = read t
open_values read (SigTy-F.Modified required coded t) = read t
open_values read (SigTy-F.Pinned t) = read t

-- in a type that nests at most so deep
unfoldable pub values_within : ℕ → SigTy → List ℕ
values_within zero t = []
values_within (suc depth) t = open_values (values_within depth) (out-SigTy t)

-- ---- instances with a wrong number of arguments

abbrev pub isnt_count : ℕ → Option ℕ → Bool
isnt_count n None = false
isnt_count n (Some m) = not (n == m)

-- parameters: how many the type of the set has that a coded index names
module _ (parameters : ℕ → Option ℕ) where
  abbrev pub miscounts : (SigTy → Bool) → SigTy-F SigTy MethodSig → Bool
  miscounts read (SigTy-F.Prim b) = false
  miscounts read (SigTy-F.Ptr t) = read t
  miscounts read (SigTy-F.ByRef t) = read t
  miscounts read (SigTy-F.Named value coded) = false
  miscounts read (SigTy-F.Var n) = false
  miscounts read (SigTy-F.MVar n) = false
  miscounts read (SigTy-F.Array t rank sizes lows) = read t
  miscounts read (SigTy-F.Inst value coded args) = isnt_count (length args) (parameters coded) || any read args
  miscounts read (SigTy-F.Func m) = any read (method_types m)
  miscounts read (SigTy-F.SzArray t) = read t
  miscounts read (SigTy-F.Modified required coded t) = read t
  miscounts read (SigTy-F.Pinned t) = read t

  -- an instance of a type of the set with a wrong number of arguments stands in it
  unfoldable pub miscounts_within : ℕ → SigTy → Bool
  miscounts_within zero t = false
  miscounts_within (suc depth) t = miscounts (miscounts_within depth) (out-SigTy t)

-- ---- parameters that aren't there

abbrev pub passes : {A : Type 0} → (A → Bool) → Option A → Bool
passes test None = false
passes test (Some x) = test x

module _ (c : Coded) where
  -- what stands in a TypeSpec row
  abbrev pub through : (SigTy → Bool) → ℕ → Bool
  through read coded = if tag coded == 2 then passes read (c.spec (row_of coded)) else false

  -- of n parameters of the type, and m of the method
  module _ (n m : ℕ) where
    abbrev pub strays : (SigTy → Bool) → SigTy-F SigTy MethodSig → Bool
    strays read (SigTy-F.Prim b) = false
    strays read (SigTy-F.Ptr t) = read t
    strays read (SigTy-F.ByRef t) = read t
    strays read (SigTy-F.Named value coded) = through read coded
    strays read (SigTy-F.Var k) = nat_le n k
    strays read (SigTy-F.MVar k) = nat_le m k
    strays read (SigTy-F.Array t rank sizes lows) = read t
    strays read (SigTy-F.Inst value coded args) = through read coded || any read args
    strays read (SigTy-F.Func f) = any read (method_types f)
    strays read (SigTy-F.SzArray t) = read t
    strays read (SigTy-F.Modified required coded t) = through read coded || read t
    strays read (SigTy-F.Pinned t) = read t

    -- a VAR of n or more, or an MVAR of m or more, stands in it, TypeSpec rows read
    unfoldable pub strays_within : ℕ → SigTy → Bool
    strays_within zero t = false
    strays_within (suc depth) t = strays (strays_within depth) (out-SigTy t)
