-- What look-ups answer on closed types, and what they answer on them in a program that has grown.
use Rattle.std.specs.Prelude.{◌≡◌, ℕ, ◌<◌, ◌≤◌, Bool, true, nat_lt, List, [], ◌∷◌, length, Some}
use Rattle.cil_model.specs.declared.ty.Ty.{Ty, out-Ty}
use Rattle.cil_model.specs.declared.ty.Ty.TheOpen.{Ty-F}
use Rattle.cil_model.specs.declared.program.Program.{Program}
use Rattle.cil_model.specs.declared.program.Impl.{Impl}
use Rattle.cil_semantics.specs.Words.{maybe}
use Rattle.cil_semantics.specs.Types.{Layer}
use Rattle.cil_semantics.specs.Lookups.{type_of, in_set, chain, is_sub}
use Rattle.cil_semantics.specs.Dispatch.{Seen, slot_of, body_for}
use Rattle.cil_semantics.specs.Places.{layout, static_layout}

abbrev pub Each : {A : Type 0} → (A → Type 0) → List A → Type 0
Each P [] = Unit {0}
Each P (x ∷ xs) = P x × Each P xs

-- a type whose number, if it is of the set, is one of the first n
abbrev pub is_below : ℕ → Ty → Bool
is_below n t = maybe true (λ (d : ℕ × List Ty). nat_lt d.0 n) (in_set (out-Ty t))

-- a type that is no parameter and, if it is of the set, one of the first n
abbrev pub IsAmong : ℕ → Layer → Type 0
IsAmong n (Ty-F.Known k) = k < n
IsAmong n (Ty-F.Inst k args) = k < n
IsAmong n (Ty-F.Var k) = ⊥
IsAmong n (Ty-F.MVar k) = ⊥
IsAmong n _ = Unit {0}

-- The types of a program name bases, interfaces, fields and methods of the program (ECMA-335, II.22.23, II.22.27 and II.22.37).
pub record NamesOwn (p : Program) : Type 0 where
  pub bases : (k : ℕ) (t : Ty) → k < length p.types → (type_of p k).base ≡ Some t → IsAmong (length p.types) (out-Ty t)
  pub interfaces : (k : ℕ) → k < length p.types → Each (λ t. IsAmong (length p.types) (out-Ty t)) (type_of p k).interfaces
  pub fields : (k : ℕ) → k < length p.types → Each (λ f. f < length p.fields) (type_of p k).fields
  pub methods : (k : ℕ) → k < length p.types → Each (λ m. m < length p.methods) (type_of p k).methods
  pub impls : (k : ℕ) → k < length p.types → Each (λ (i : Impl). (i.body < length p.methods) × (i.declaration < length p.methods)) (type_of p k).impls

-- what a grown program has behind its types names no interface
abbrev pub NamesNone : (p q : Program) → Type 0
NamesNone p q = (k : ℕ) → length p.types ≤ k → (type_of q k).interfaces ≡ []

-- a type of the program, or one outside
abbrev pub IsOld : Program → Ty → Type 0
IsOld p t = is_below (length p.types) t ≡ true

-- a method of the program, seen in a type of it
abbrev pub IsSeen : Program → Seen → Type 0
IsSeen p s = IsOld p s.0 × (s.1 < length p.methods)

-- On types of p, q answers as p: bases, types above, places of fields, slots and bodies of methods.
pub record AnswersAlike (p q : Program) : Type 0 where
  pub chains : (t : Ty) → IsOld p t → chain q t ≡ chain p t
  pub subs : (t u : Ty) → IsOld p t → is_sub q t u ≡ is_sub p t u
  pub layouts : (t : Ty) → IsOld p t → layout q t ≡ layout p t
  pub statics : (t : Ty) → IsOld p t → static_layout q t ≡ static_layout p t
  pub slots : (t : Ty) (s : Seen) → IsOld p t → IsSeen p s → slot_of q t s ≡ slot_of p t s
  pub bodies : (t : Ty) (s : Seen) → IsOld p t → IsSeen p s → body_for q t s ≡ body_for p t s
