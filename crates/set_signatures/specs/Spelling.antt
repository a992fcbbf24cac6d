-- Signatures as numbers, by which they are compared: equal just where the signatures are the same (own; the same signature, II.6.2, II.22.25).
use Rattle.std.specs.Prelude.{ℕ, ℤ, zero, suc, ◌==◌, nat_abs, int_lt, pos, if◌then◌else◌, Bool, true, false, List, [], ◌∷◌, ◌++◌, slice_get, Option, Some, None, option_map, option_and_then}
use Rattle.cli_sigs.specs.declared.types.SigTy.{SigTy, out-SigTy}
use Rattle.cli_sigs.specs.declared.types.SigTy.TheOpen.{SigTy-F}
use Rattle.cli_sigs.specs.declared.types.MethodSig.{MethodSig, MethodSig-F, out-MethodSig}
use Rattle.cli_sigs.specs.Grammar.{named_byte, modifier_byte}
use Rattle.cil_model.specs.declared.ty.Ty.{Ty, out-Ty}
use Rattle.cil_model.specs.declared.ty.Ty.TheOpen.{Ty-F}
use Rattle.set_types.specs.CodedIndexes.{tag, row_of}
use Rattle.set_types.specs.SignatureTypes.{Coded}

-- the numbers of a signature; none where a coded type names no row
abbrev pub Spelled : Type 0
Spelled = Option (List ℕ)

abbrev pub behind : List ℕ → Spelled → Spelled
behind front rest = option_map (λ l. front ++ l) rest

abbrev pub followed : Spelled → Spelled → Spelled
followed a b = option_and_then (λ l. behind l b) a

-- no type begins with 0, so that it ends a list
abbrev pub spelled_all : (SigTy → Spelled) → List SigTy → Spelled
spelled_all read [] = Some (0 ∷ [])
spelled_all read (t ∷ ts) = followed (read t) (spelled_all read ts)

-- one byte of a type that has one, else the first byte and the number
abbrev pub spelled_named : ℕ → Option ℕ → Option Ty → Spelled
spelled_named first number None = None
spelled_named first number (Some t) = by_layer first number (out-Ty t)
  where
    by_layer : ℕ → Option ℕ → Ty-F Ty → Spelled
    by_layer first number (Ty-F.Prim b) = Some (b ∷ [])
    by_layer first number _ = option_map (λ k. first ∷ k ∷ []) number

abbrev pub spelled_coded : Coded → (SigTy → Spelled) → ℕ → ℕ → Spelled
spelled_coded c read first coded = if tag coded == 2 then option_and_then read (c.spec (row_of coded)) else spelled_named first (c.number coded) (c.named coded)

abbrev pub spelled_sizes : List ℕ → List ℕ
spelled_sizes [] = 0 ∷ []
spelled_sizes (n ∷ ns) = 1 ∷ n ∷ spelled_sizes ns

-- its sign goes before, which isn't 0
abbrev pub spelled_lows : List ℤ → List ℕ
spelled_lows [] = 0 ∷ []
spelled_lows (z ∷ zs) = (if int_lt z (pos 0) then 2 else 1) ∷ nat_abs z ∷ spelled_lows zs

abbrev pub mark : Option ℕ → List ℕ
mark None = 0 ∷ []
mark (Some k) = 1 ∷ k ∷ []

abbrev pub spelled_open : (SigTy → Spelled) → MethodSig-F SigTy MethodSig → Spelled
spelled_open read m = behind (m.flags ∷ m.generics ∷ mark m.sentinel) (followed (read m.result) (spelled_all read m.params))

-- a parameter of a generic type: the numbers of the argument that stands for it, where there is one (II.9.8)
abbrev pub parameter : List (List ℕ) → ℕ → List ℕ
parameter args n = argument_or n (slice_get args n)
  where
    argument_or : ℕ → Option (List ℕ) → List ℕ
    argument_or n None = 0x13 ∷ n ∷ []
    argument_or n (Some numbers) = numbers

abbrev pub spelled_layer : Coded → List (List ℕ) → (SigTy → Spelled) → SigTy-F SigTy MethodSig → Spelled
spelled_layer c args read (SigTy-F.Prim b) = Some (b ∷ [])
spelled_layer c args read (SigTy-F.Ptr t) = behind (0x0F ∷ []) (read t)
spelled_layer c args read (SigTy-F.ByRef t) = behind (0x10 ∷ []) (read t)
spelled_layer c args read (SigTy-F.Named value coded) = spelled_coded c read (named_byte value) coded
spelled_layer c args read (SigTy-F.Var n) = Some (parameter args n)
spelled_layer c args read (SigTy-F.MVar n) = Some (0x1E ∷ n ∷ [])
spelled_layer c args read (SigTy-F.Array t rank sizes lows) = behind (0x14 ∷ rank ∷ spelled_sizes sizes ++ spelled_lows lows) (read t)
spelled_layer c args read (SigTy-F.Inst value coded more) = behind (0x15 ∷ []) (followed (spelled_coded c read (named_byte value) coded) (spelled_all read more))
spelled_layer c args read (SigTy-F.Func m) = behind (0x1B ∷ []) (spelled_open read (out-MethodSig m))
spelled_layer c args read (SigTy-F.SzArray t) = behind (0x1D ∷ []) (read t)
spelled_layer c args read (SigTy-F.Modified required coded t) = behind (modifier_byte required ∷ []) (followed (spelled_coded c read 0x12 coded) (read t))
spelled_layer c args read (SigTy-F.Pinned t) = behind (0x45 ∷ []) (read t)

-- None where a coded type names no row, or leads through TypeSpec rows to a type that nests deeper.
unfoldable pub spelled_within : Coded → List (List ℕ) → ℕ → SigTy → Spelled
spelled_within c args zero t = None
spelled_within c args (suc depth) t = spelled_layer c args (spelled_within c args depth) (out-SigTy t)

-- a type, with arguments for the parameters of the generic type around it
abbrev pub spelled : Coded → List (List ℕ) → SigTy → Spelled
spelled c args t = spelled_within c args 1000 t

-- a method's or a property's
abbrev pub spelled_method : Coded → List (List ℕ) → MethodSig → Spelled
spelled_method c args m = spelled_open (spelled c args) (out-MethodSig m)

-- what stands in a list to which a signature is appended, where all of it was
abbrev pub said : Bool → List ℕ → Spelled
said true now = Some now
said false now = None
