-- Keys are equal just where the types and the members are.
use Rattle.std.proofs.Common.{◌≡◌, ◌∙◌, ap, sym, refl, arith, suc, eq-eqb, ne_eqb, ℕ, List, [], ◌∷◌, ◌++◌, Bool, true, false, eqb}
use Rattle.std.specs.Prelude.{bytes_eq, ◌&&◌, ◌==◌}
use Rattle.cil_base.proofs.Small.{decide, equal}
use Rattle.set_signatures.specs.declared.shape.Shape.{Shape}
use Rattle.set_signatures.specs.Shapes.{same_bool, is_same}
use Rattle.members.specs.Keys.{number_of_bool, ended_list, member_key}

and_assoc : (a b c : Bool) → (a && (b && c)) ≡ ((a && b) && c)
and_assoc true b c = refl
and_assoc false b c = refl

apart : (a b : ℕ) → eqb a b ≡ false → a ≡ b → ⊥
apart a b e same = let t : true ≡ false = sym (eq-eqb a b same) ∙ e in absurd cc

-- one more on both sides
one_more : (a b : ℕ) → eqb (suc a) (suc b) ≡ eqb a b
one_more a b = decide (eqb a b) (λ e. eq-eqb (suc a) (suc b) (ap suc (equal a b e)) ∙ sym e) (λ e. ne_eqb (suc a) (suc b) (λ same. apart a b e (omega (arith, same))) ∙ sym e)

pub ended_same : (m n s t : List ℕ) → bytes_eq (ended_list m ++ s) (ended_list n ++ t) ≡ (bytes_eq m n && bytes_eq s t)
ended_same [] [] s t = refl
ended_same [] (b ∷ n) s t = ap (λ (c : Bool). c && bytes_eq s (ended_list n ++ t)) (ne_eqb 0 (suc b) (λ same. absurd (omega (arith, same))))
ended_same (a ∷ m) [] s t = ap (λ (c : Bool). c && bytes_eq (ended_list m ++ s) t) (ne_eqb (suc a) 0 (λ same. absurd (omega (arith, same))))
ended_same (a ∷ m) (b ∷ n) s t =
    ap (λ (c : Bool). c && bytes_eq (ended_list m ++ s) (ended_list n ++ t)) (one_more a b) ∙ ap (λ (c : Bool). eqb a b && c) (ended_same m n s t) ∙ and_assoc (eqb a b) (bytes_eq m n) (bytes_eq s t)

kind_same : (a b : Bool) → eqb (number_of_bool a) (number_of_bool b) ≡ same_bool a b
kind_same true true = refl
kind_same true false = refl
kind_same false true = refl
kind_same false false = refl

moved : (a b c : Bool) → (a && (b && c)) ≡ (b && (a && c))
moved true true c = refl
moved true false c = refl
moved false true c = refl
moved false false c = refl

pub key_same : (d e : ℕ) (x y : Shape) → bytes_eq (member_key d x) (member_key e y) ≡ ((d == e) && is_same x y)
key_same d e x y =
    ap (λ (c : Bool). (d == e) && c)
    (ap (λ (c : Bool). eqb (number_of_bool x.is_field) (number_of_bool y.is_field) && c) (ended_same x.name y.name x.signature y.signature)
    ∙ ap (λ (b : Bool). b && (bytes_eq x.name y.name && bytes_eq x.signature y.signature)) (kind_same x.is_field y.is_field)
    ∙ moved (same_bool x.is_field y.is_field) (bytes_eq x.name y.name) (bytes_eq x.signature y.signature))
