-- Which bytes are which signature (ECMA-335, II.23.2), one rule after another. A rule that ends in By says how its numbers are spelled.
use Rattle.std.specs.Prelude.{◌≡◌, ℕ, ℤ, zero, suc, ◌<◌, ◌≤◌, Bool, true, false, List, [], ◌∷◌, ◌++◌, length, take, Option, Some, None, if◌then◌else◌}
use Rattle.cli_sigs.specs.declared.elements.Slot.{Slot}
use Rattle.cli_sigs.specs.declared.elements.Slot.TheVariants.{Plain, Pointed, Param, Local}
use Rattle.cli_sigs.specs.declared.types.SigTy.{SigTy}
use Rattle.cli_sigs.specs.declared.types.SigTy.TheVariants as ty
use Rattle.cli_sigs.specs.declared.types.MethodSig.{MethodSig, roll-MethodSig}
use Rattle.cli_sigs.specs.Elements.{is_prim, may_stand, allows_by_ref, allows_pinned, slot_behind}
use Rattle.cli_sigs.specs.declared.elements.MethodKind.{MethodKind}
use Rattle.cli_sigs.specs.declared.elements.MethodKind.TheVariants.{Method, Pointer, Property}
use Rattle.cli_sigs.specs.Numbers.{Spelling, Any, Shortest, IsNumber, IsSignedNumber, IsCodedBy}
use Rattle.cli_sigs.specs.Methods.{may_begin, result_slot, is_generic, is_vararg}

-- ---- lists

-- the texts of the values, one after another
abbrev pub Each : {A : Type 0} → (List ℕ → A → Type 0) → List ℕ → List A → Type 0
Each G bytes [] = bytes ≡ []
Each G bytes (v ∷ vs) = (front : List ℕ) × (back : List ℕ) × (bytes ≡ front ++ back) × G front v × Each G back vs

-- how many, and the texts
abbrev pub CountedBy : {A : Type 0} → Spelling → (List ℕ → A → Type 0) → List ℕ → List A → Type 0
CountedBy s G bytes vs = (count : List ℕ) × (texts : List ℕ) × (bytes ≡ count ++ texts) × IsNumber s count (length vs) × Each G texts vs

abbrev pub Counted : {A : Type 0} → (List ℕ → A → Type 0) → List ℕ → List A → Type 0
Counted G = CountedBy Any G

-- ---- methods (II.23.2.1 to II.23.2.3)

-- the number of generic parameters stands where the flags say so
abbrev pub IsGenericsBy : Spelling → Bool → List ℕ → ℕ → Type 0
IsGenericsBy s true bytes n = IsNumber s bytes n
IsGenericsBy s false bytes n = (bytes ≡ []) × (0 ≡ n)

abbrev pub IsGenerics : Bool → List ℕ → ℕ → Type 0
IsGenerics = IsGenericsBy Any

-- the parameters; in a vararg signature SENTINEL may stand once before the extra ones
pub data IsParams (Parameter : List ℕ → SigTy → Type 0) (vararg : Bool) : List ℕ → List SigTy → Option ℕ → Type 0 where
  all_fixed : {bytes : List ℕ} {params : List SigTy} → Each Parameter bytes params → IsParams Parameter vararg bytes params None
  some_extra : (front back : List ℕ) (fixed extra : List SigTy) → vararg ≡ true → Each Parameter front fixed → Each Parameter back extra → 1 ≤ length extra
      → IsParams Parameter vararg (front ++ 0x41 ∷ back) (fixed ++ extra) (Some (length fixed))

abbrev pub method_of : ℕ → ℕ → SigTy → List SigTy → Option ℕ → MethodSig
method_of flags generics result params sentinel = roll-MethodSig (record { flags = flags; generics = generics; result = result; params = params; sentinel = sentinel })

pub data IsMethodBy (s : Spelling) (Inner : Slot → List ℕ → SigTy → Type 0) (kind : MethodKind) : List ℕ → MethodSig → Type 0 where
  method : {flags generics : ℕ} {result : SigTy} {params : List SigTy} {sentinel : Option ℕ} (gs ns rs ps : List ℕ)
      → may_begin kind flags ≡ true → IsGenericsBy s (is_generic flags) gs generics → IsNumber s ns (length params) → Inner (result_slot kind) rs result → IsParams (Inner Param) (is_vararg flags) ps params sentinel
      → IsMethodBy s Inner kind (flags ∷ gs ++ (ns ++ (rs ++ ps))) (method_of flags generics result params sentinel)

abbrev pub IsMethod : (Slot → List ℕ → SigTy → Type 0) → MethodKind → List ℕ → MethodSig → Type 0
IsMethod = IsMethodBy Any

-- ---- types (II.23.2.7 to II.23.2.14)

-- VALUETYPE or CLASS
abbrev pub named_byte : Bool → ℕ
named_byte value = if value then 0x11 else 0x12

-- CMOD_REQD or CMOD_OPT
abbrev pub modifier_byte : Bool → ℕ
modifier_byte required = if required then 0x1F else 0x20

-- a type, by its first byte; Inner is what stands inside
pub data LayerBy (s : Spelling) (Inner : Slot → List ℕ → SigTy → Type 0) (slot : Slot) : List ℕ → SigTy → Type 0 where
  prim : {b : ℕ} → is_prim b ≡ true → may_stand slot b ≡ true → LayerBy s Inner slot (b ∷ []) (ty.Prim b)
  ptr : {bytes : List ℕ} {t : SigTy} → Inner Pointed bytes t → LayerBy s Inner slot (0x0F ∷ bytes) (ty.Ptr t)
  by_ref : {bytes : List ℕ} {t : SigTy} → allows_by_ref slot ≡ true → Inner Plain bytes t → LayerBy s Inner slot (0x10 ∷ bytes) (ty.ByRef t)
  named : {bytes : List ℕ} {coded : ℕ} (value : Bool) → IsCodedBy s bytes coded → LayerBy s Inner slot (named_byte value ∷ bytes) (ty.Named value coded)
  var : {bytes : List ℕ} {n : ℕ} → IsNumber s bytes n → LayerBy s Inner slot (0x13 ∷ bytes) (ty.Var n)
  mvar : {bytes : List ℕ} {n : ℕ} → IsNumber s bytes n → LayerBy s Inner slot (0x1E ∷ bytes) (ty.MVar n)
  array : {t : SigTy} {rank : ℕ} (sizes : List ℕ) (lows : List ℤ) (is rs ss ls : List ℕ) → Inner Plain is t → IsNumber s rs rank → CountedBy s (IsNumber s) ss sizes → CountedBy s (IsSignedNumber s) ls lows
      → LayerBy s Inner slot (0x14 ∷ is ++ (rs ++ (ss ++ ls))) (ty.Array t rank sizes lows)
  inst : {coded : ℕ} (value : Bool) (args : List SigTy) (cs ts : List ℕ) → IsCodedBy s cs coded → CountedBy s (Inner Plain) ts args
      → LayerBy s Inner slot (0x15 ∷ named_byte value ∷ cs ++ ts) (ty.Inst value coded args)
  func : {bytes : List ℕ} {m : MethodSig} → IsMethodBy s Inner Pointer bytes m → LayerBy s Inner slot (0x1B ∷ bytes) (ty.Func m)
  sz_array : {bytes : List ℕ} {t : SigTy} → Inner Plain bytes t → LayerBy s Inner slot (0x1D ∷ bytes) (ty.SzArray t)
  modified : {coded : ℕ} {t : SigTy} (required : Bool) (cs ts : List ℕ) → IsCodedBy s cs coded → Inner (slot_behind slot) ts t
      → LayerBy s Inner slot (modifier_byte required ∷ cs ++ ts) (ty.Modified required coded t)
  pinned : {bytes : List ℕ} {t : SigTy} → allows_pinned slot ≡ true → Inner (slot_behind slot) bytes t → LayerBy s Inner slot (0x45 ∷ bytes) (ty.Pinned t)

abbrev pub Layer : (Slot → List ℕ → SigTy → Type 0) → Slot → List ℕ → SigTy → Type 0
Layer = LayerBy Any

-- a type that is nested at most so deep: one more than the deepest of its parts
unfoldable pub IsTypeBy : Spelling → ℕ → Slot → List ℕ → SigTy → Type 0
IsTypeBy s zero slot bytes t = ⊥
IsTypeBy s (suc depth) slot bytes t = LayerBy s (IsTypeBy s depth) slot bytes t

abbrev pub IsType : ℕ → Slot → List ℕ → SigTy → Type 0
IsType = IsTypeBy Any

-- ---- blobs, with types nested at most 1,000 deep

-- this byte, and then a text
abbrev pub Behind : {A : Type 0} → ℕ → (List ℕ → A → Type 0) → List ℕ → A → Type 0
Behind b G bytes v = (rest : List ℕ) × (bytes ≡ b ∷ rest) × G rest v

-- MethodDefSig or MethodRefSig (II.23.2.1, II.23.2.2)
abbrev pub IsMethodSigBy : Spelling → List ℕ → MethodSig → Type 0
IsMethodSigBy s = IsMethodBy s (IsTypeBy s 1000) Method

abbrev pub IsMethodSig : List ℕ → MethodSig → Type 0
IsMethodSig = IsMethodSigBy Any

-- PropertySig (II.23.2.5)
abbrev pub IsPropertySig : List ℕ → MethodSig → Type 0
IsPropertySig = IsMethod (IsType 1000) Property

-- FieldSig (II.23.2.4)
abbrev pub IsFieldSig : List ℕ → SigTy → Type 0
IsFieldSig = Behind 0x06 (IsType 1000 Plain)

-- LocalVarSig (II.23.2.6)
abbrev pub IsLocalsBy : Spelling → List ℕ → List SigTy → Type 0
IsLocalsBy s = Behind 0x07 (CountedBy s (IsTypeBy s 1000 Local))

abbrev pub IsLocals : List ℕ → List SigTy → Type 0
IsLocals = IsLocalsBy Any

-- TypeSpec (II.23.2.14)
abbrev pub IsTypeSpecBy : Spelling → List ℕ → SigTy → Type 0
IsTypeSpecBy s = IsTypeBy s 1000 Plain

abbrev pub IsTypeSpec : List ℕ → SigTy → Type 0
IsTypeSpec = IsTypeSpecBy Any

-- MethodSpec (II.23.2.15)
abbrev pub IsMethodSpecBy : Spelling → List ℕ → List SigTy → Type 0
IsMethodSpecBy s = Behind 0x0A (CountedBy s (IsTypeBy s 1000 Plain))

abbrev pub IsMethodSpec : List ℕ → List SigTy → Type 0
IsMethodSpec = IsMethodSpecBy Any

-- ---- prefixes and ends

-- with some end the bytes are in the grammar
abbrev pub Begins : {A : Type 0} → (List ℕ → A → Type 0) → List ℕ → Type 0
Begins {A} G bytes = (more : List ℕ) × (v : A) × G (bytes ++ more) v

-- the longest prefix of the bytes with which something in the grammar begins
pub record IsLongest {A : Type 0} (G : List ℕ → A → Type 0) (bytes : List ℕ) (at : ℕ) : Type 0 where
  pub within : at ≤ length bytes
  pub begins : Begins G (take at bytes)
  pub no_longer : (n : ℕ) → at < n → n ≤ length bytes → Begins G (take n bytes) → ⊥

-- new is old with a spelling at its end
abbrev pub Adds : {A : Type 0} → (List ℕ → A → Type 0) → List ℕ → List ℕ → A → Type 0
Adds G old new v = (text : List ℕ) × (new ≡ old ++ text) × G text v
