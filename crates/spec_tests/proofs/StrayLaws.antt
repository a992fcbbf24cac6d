-- A parameter strays among the fewer of two numbers just where it strays among one of them.
use Rattle.std.proofs.Common.{◌≡◌, ◌∙◌, sym, ap, refl, arith, rules, ℕ, zero, suc, ◌≤◌, Bool, true, false, ◌||◌, List, [], ◌∷◌, ◌++◌, leb, min}
use Rattle.std.specs.Prelude.{Option, Some, None, nat_le, map, filter, cond, if◌then◌else◌, ◌==◌}
use Rattle.std.proofs.Math.Nat.{min-eq_left, min-eq_right}
use Rattle.std.proofs.lemmas.Bool.{leb-true}
use Rattle.cli_sigs.specs.declared.types.SigTy.{SigTy, out-SigTy}
use Rattle.cli_sigs.specs.declared.types.SigTy.TheOpen.{SigTy-F}
use Rattle.cli_sigs.specs.declared.types.MethodSig.{MethodSig}
use Rattle.set_types.specs.CodedIndexes.{tag, row_of}
use Rattle.set_types.specs.SignatureTypes.{Coded}
use Rattle.set_types.specs.SignatureRules.{any, passes, through, strays, strays_within, method_types}
use Rattle.spec_tests.specs.SpecTests.{IsNarrowest, shared, strays_in}

-- ---- tests that hold where one of two does

or_both : (a b d e : Bool) → ((a || b) || (d || e)) ≡ ((a || d) || (b || e))
or_both true b d e = refl
or_both false true true e = refl
or_both false true false e = refl
or_both false false true e = refl
or_both false false false e = refl

or_assoc : (a b d : Bool) → ((a || b) || d) ≡ (a || (b || d))
or_assoc true b d = refl
or_assoc false b d = refl

or_none : (a : Bool) → (a || false) ≡ a
or_none true = refl
or_none false = refl

module _ {A : Type 0} (f g h : A → Bool) (is : (x : A) → f x ≡ (g x || h x)) where
  pub any_both : (xs : List A) → any f xs ≡ (any g xs || any h xs)
  any_both [] = refl
  any_both (x ∷ xs) = ap (λ (b : Bool). b || any f xs) (is x) ∙ ap (λ (b : Bool). (g x || h x) || b) (any_both xs) ∙ or_both (g x) (h x) (any g xs) (any h xs)

  passes_both : (o : Option A) → passes f o ≡ (passes g o || passes h o)
  passes_both None = refl
  passes_both (Some x) = is x

pub any_append : {A : Type 0} (f : A → Bool) (xs ys : List A) → any f (xs ++ ys) ≡ (any f xs || any f ys)
any_append f [] ys = refl
any_append f (x ∷ xs) ys = ap (λ (b : Bool). f x || b) (any_append f xs ys) ∙ sym (or_assoc (f x) (any f xs) (any f ys))

-- ---- numbers

first_holds : (b d : Bool) → (d ≡ true → b ≡ true) → b ≡ (b || d)
first_holds true d h = refl
first_holds false true h = h refl
first_holds false false h = refl

second_holds : (b d : Bool) → (b ≡ true → d ≡ true) → d ≡ (b || d)
second_holds true d h = h refl
second_holds false d h = refl

le_lower : (n m k : ℕ) → n ≤ m → leb m k ≡ true → leb n k ≡ true
le_lower n m k h e = let le : m ≤ k = leb-true m k e in let low : n ≤ k = omega (arith, h, le) in search (rules, low)

le_min : (n m k : ℕ) → nat_le (min n m) k ≡ (nat_le n k || nat_le m k)
le_min n m k = go (leb n m) refl
  where
    go : (b : Bool) → leb n m ≡ b → nat_le (min n m) k ≡ (nat_le n k || nat_le m k)
    go true e =
        let le : n ≤ m = leb-true n m e in
        ap (λ (j : ℕ). nat_le j k) (min-eq_left le) ∙ first_holds (nat_le n k) (nat_le m k) (le_lower n m k le)
    go false e =
        let le : m ≤ n = search (rules, e) in
        ap (λ (j : ℕ). nat_le j k) (min-eq_right le) ∙ second_holds (nat_le n k) (nat_le m k) (le_lower m n k le)

-- ---- types

module _ (c : Coded) (n m n' m' : ℕ) where
  module _ (f g h : SigTy → Bool) (is : (t : SigTy) → f t ≡ (g t || h t)) where
    through_both : (coded : ℕ) → through c f coded ≡ (through c g coded || through c h coded)
    through_both coded = go (tag coded == 2)
      where
        go : (b : Bool) → (if b then passes f (c.spec (row_of coded)) else false) ≡ ((if b then passes g (c.spec (row_of coded)) else false) || (if b then passes h (c.spec (row_of coded)) else false))
        go true = passes_both f g h is (c.spec (row_of coded))
        go false = refl

    pair_both : (a b d a' b' d' : Bool) → a ≡ (b || d) → a' ≡ (b' || d') → (a || a') ≡ ((b || b') || (d || d'))
    pair_both a b d a' b' d' e e' = ap (λ (x : Bool). x || a') e ∙ ap (λ (x : Bool). (b || d) || x) e' ∙ or_both b d b' d'

    layer_both : (t : SigTy-F SigTy MethodSig) → strays c (min n n') (min m m') f t ≡ (strays c n m g t || strays c n' m' h t)
    layer_both (SigTy-F.Prim b) = refl
    layer_both (SigTy-F.Ptr t) = is t
    layer_both (SigTy-F.ByRef t) = is t
    layer_both (SigTy-F.Named value coded) = through_both coded
    layer_both (SigTy-F.Var k) = le_min n n' k
    layer_both (SigTy-F.MVar k) = le_min m m' k
    layer_both (SigTy-F.Array t rank sizes lows) = is t
    layer_both (SigTy-F.Inst value coded args) =
        pair_both (through c f coded) (through c g coded) (through c h coded) (any f args) (any g args) (any h args) (through_both coded) (any_both f g h is args)
    layer_both (SigTy-F.Func s) = any_both f g h is (method_types s)
    layer_both (SigTy-F.SzArray t) = is t
    layer_both (SigTy-F.Modified required coded t) = pair_both (through c f coded) (through c g coded) (through c h coded) (f t) (g t) (h t) (through_both coded) (is t)
    layer_both (SigTy-F.Pinned t) = is t

  within_both : (depth : ℕ) (t : SigTy) → strays_within c (min n n') (min m m') depth t ≡ (strays_within c n m depth t || strays_within c n' m' depth t)
  unfolding strays_within
  within_both zero t = refl
  within_both (suc depth) t = layer_both (strays_within c (min n n') (min m m') depth) (strays_within c n m depth) (strays_within c n' m' depth) (within_both depth) (out-SigTy t)

-- ---- contexts

shared_strays : (c : Coded) (types : List SigTy) (p q : ℕ × ℕ) → strays_in c types (min p.0 q.0, min p.1 q.1) ≡ (strays_in c types p || strays_in c types q)
shared_strays c types p q =
    any_both (strays_within c (min p.0 q.0) (min p.1 q.1) 1000) (strays_within c p.0 p.1 1000) (strays_within c q.0 q.1 1000) (within_both c p.0 p.1 q.0 q.1 1000) types

pub shared_passes : (c : Coded) (types : List SigTy) (o p : Option (ℕ × ℕ)) → passes (strays_in c types) (shared o p) ≡ (passes (strays_in c types) o || passes (strays_in c types) p)
shared_passes c types None p = refl
shared_passes c types (Some a) None = sym (or_none (strays_in c types a))
shared_passes c types (Some a) (Some b) = shared_strays c types a b

pub narrowest_none : IsNarrowest [] None
narrowest_none = λ c types. refl

pub narrowest_append : (xs ys : List (ℕ × ℕ)) (o p : Option (ℕ × ℕ)) → IsNarrowest xs o → IsNarrowest ys p → IsNarrowest (xs ++ ys) (shared o p)
narrowest_append xs ys o p h k = λ c types.
    any_append (strays_in c types) xs ys ∙ ap (λ (b : Bool). b || any (strays_in c types) ys) (h c types)
    ∙ ap (λ (b : Bool). passes (strays_in c types) o || b) (k c types) ∙ sym (shared_passes c types o p)

-- what is left of a list, behind what was found
pub narrowest_more : (contexts : ℕ → ℕ × ℕ) (whole rest : List ℕ) (row : ℕ) (o : Option (ℕ × ℕ))
    → ((c : Coded) (types : List SigTy) → (passes (strays_in c types) o || any (strays_in c types) (map contexts (row ∷ rest))) ≡ any (strays_in c types) (map contexts whole))
    → (c : Coded) (types : List SigTy) → (passes (strays_in c types) (shared o (Some (contexts row))) || any (strays_in c types) (map contexts rest)) ≡ any (strays_in c types) (map contexts whole)
narrowest_more contexts whole rest row o h c types =
    ap (λ (b : Bool). b || any (strays_in c types) (map contexts rest)) (shared_passes c types o (Some (contexts row)))
    ∙ or_assoc (passes (strays_in c types) o) (strays_in c types (contexts row)) (any (strays_in c types) (map contexts rest))
    ∙ h c types
