-- Whether an exception is of a clause's type: one test, and the tests of clauses in turn.
use Rattle.std.proofs.Common.{◌≡◌, ℕ, zero, suc, ◌+◌, Bool, true, false, List, [], ◌∷◌, ◌++◌, length, Option, Some, None, refl, sym, ap, ◌∙◌, arith}
use Rattle.std.specs.Prelude.{if◌then◌else◌, drop}
use Rattle.cil_base.specs.declared.token.Token.{Token}
use Rattle.cil_model.specs.declared.ty.Ty.{Ty}
use Rattle.cil_model.specs.declared.value.Value.{Value, Obj, Null}
use Rattle.cil_model.specs.declared.value.Value as values
use Rattle.cil_model.specs.declared.program.Program.{Program}
use Rattle.cil_model.specs.declared.program.Meaning.TheVariants.{OfType}
use Rattle.il_opcodes.specs.Opcodes.{class_of, opcode_of, the_opcodes}
use Rattle.cil_semantics.specs.Words.{maybe}
use Rattle.cil_semantics.specs.Core.{object_ty}
use Rattle.cil_semantics.specs.Lookups.{is_sub}
use Rattle.cil_semantics.specs.declared.state.Local.{Local as LocalState}
use Rattle.cil_semantics.specs.declared.state.World.{World}
use Rattle.cil_semantics.specs.State.{with_stack}
use Rattle.cil_semantics.specs.Tokens.{Here, meaning_here}
use Rattle.cil_semantics.specs.Acts.{Act, GoOn, truth, on_type, cast, if_some, goes_with}
use Rattle.cil_semantics.specs.Instructions.{act, act_of_class}
use Rattle.cil_semantics.specs.Contracted.{Piece}
use Rattle.cil_semantics.specs.Unwind.{first_from, object_type}
use Rattle.splice_facts.specs.Exceptions.{IsException}
use Rattle.splice_laws.specs.Straight.{Acts_so}
use Rattle.throw_laws.specs.ThrowCode.{isinst}

-- what is left of the exception on the stack
abbrev pub tested : Bool → ℕ → Value
tested b y = if b then Obj y else Null

pub tested_truth : (b : Bool) (y : ℕ) → truth (tested b y) ≡ Some b
unfolding values.out-Value denote.Hole.Carrier.out
tested_truth true y = refl
tested_truth false y = refl

module _ (p' : Program) (here : Here) where
  -- where the object has a type
  abbrev pub tests : Ty → ℕ → List Value → LocalState → World → Act
  tests t y rest l w = if_some (object_type w y) (λ u. if is_sub p' u t then goes_with l (Obj y) rest else goes_with l Null rest)

  pub acts_isinst : (a : ℕ) (tk : Token) (t : Ty) (y : ℕ) (rest : List Value) (l : LocalState) → meaning_here p' here (isinst a tk) ≡ Some (OfType t) → Acts_so p' here (isinst a tk) (with_stack l (Obj y ∷ rest)) (tests t y rest l)
  unfolding act act_of_class class_of opcode_of the_opcodes values.out-Value denote.Hole.Carrier.out
  acts_isinst a tk t y rest l e w = ap (λ o. on_type o (λ u. cast p' u (Obj y) (goes_with (with_stack l (Obj y ∷ rest)) (Obj y) rest) (goes_with (with_stack l (Obj y ∷ rest)) Null rest) w)) e

  pub tests_so : (t u : Ty) (y : ℕ) (rest : List Value) (l : LocalState) (w : World) (b : Bool) → object_type w y ≡ Some u → is_sub p' u t ≡ b → tests t y rest l w ≡ GoOn [] (with_stack l (tested b y ∷ rest))
  tests_so t u y rest l w true e s = ap (λ o. if_some o (λ z. if is_sub p' z t then goes_with l (Obj y) rest else goes_with l Null rest)) e ∙ ap (λ z. if z then goes_with l (Obj y) rest else goes_with l Null rest) s
  tests_so t u y rest l w false e s = ap (λ o. if_some o (λ z. if is_sub p' z t then goes_with l (Obj y) rest else goes_with l Null rest)) e ∙ ap (λ z. if z then goes_with l (Obj y) rest else goes_with l Null rest) s

-- an exception has a type
pub has_type : (p : Program) (w : World) (y : ℕ) → IsException p w y → (u : Ty) × (object_type w y ≡ Some u)
has_type p w y h = by_type (object_type w y) h
  where
    by_type : (o : Option Ty) → maybe false (λ u. is_sub p u object_ty) o ≡ true → (u : Ty) × (o ≡ Some u)
    by_type None e = absurd (cc e)
    by_type (Some u) e = (u, refl)

-- ---- the first one that fits

module _ (test : Piece → Bool) where
  -- the first of those behind a number
  pub first_behind : (skip i : ℕ) (xs : List Piece) → first_from test skip i xs ≡ first_from test 0 (i + skip) (drop skip xs)
  first_behind zero i [] = refl
  first_behind zero i (x ∷ xs) = ap (λ j. first_from test 0 j (x ∷ xs)) (same i)
    where
      same : (j : ℕ) → j ≡ j + 0
      same j = omega arith
  first_behind (suc skip) i [] = refl
  first_behind (suc skip) i (x ∷ xs) = first_behind skip (i + 1) xs ∙ ap (λ j. first_from test 0 j (drop skip xs)) (same i skip)
    where
      same : (a b : ℕ) → (a + 1) + b ≡ a + suc b
      same a b = omega arith

  abbrev pub First : ℕ → List Piece → Piece → Option (ℕ × Piece) → ℕ × Piece → Type 0
  First i xs y None z = z ≡ (i + length xs, y)
  First i xs y (Some a) z = a ≡ z

  -- one of the first ones, or else the last
  pub first_or_last : (i : ℕ) (xs : List Piece) (y : Piece) (z : ℕ × Piece) → first_from test 0 i (xs ++ y ∷ []) ≡ Some z → First i xs y (first_from test 0 i xs) z
  first_or_last i [] y z e = by_test (test y) e
    where
      by_test : (b : Bool) → (if b then Some (i, y) else None) ≡ Some z → z ≡ (i + 0, y)
      by_test true h = let q : (i, y) ≡ z = cc h in sym q ∙ ap (λ j. (j, y)) (same i)
        where
          same : (j : ℕ) → j ≡ j + 0
          same j = omega arith
      by_test false h = absurd (cc h)
  first_or_last i (x ∷ xs) y z e = by_test (test x) e (first_or_last (i + 1) xs y z)
    where
      onto : (j l : ℕ) → (j + 1) + l ≡ j + suc l
      onto j l = omega arith

      moved : (o : Option (ℕ × Piece)) → First (i + 1) xs y o z → First i (x ∷ xs) y o z
      moved None h = h ∙ ap (λ j. (j, y)) (onto i (length xs))
      moved (Some a) h = h

      by_test : (b : Bool) → (if b then Some (i, x) else first_from test 0 (i + 1) (xs ++ y ∷ [])) ≡ Some z → (first_from test 0 (i + 1) (xs ++ y ∷ []) ≡ Some z → First (i + 1) xs y (first_from test 0 (i + 1) xs) z)
          → First i (x ∷ xs) y (if b then Some (i, x) else first_from test 0 (i + 1) xs) z
      by_test true h ih = cc h
      by_test false h ih = moved (first_from test 0 (i + 1) xs) (ih h)
