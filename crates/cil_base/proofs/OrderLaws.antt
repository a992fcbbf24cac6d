-- The order of refusals is total: the first refusal of a layer is one.
use Rattle.std.proofs.Common.{◌≡◌, ℕ, false, List, [], ◌∷◌, get_or, refl, sym, ap, ◌∙◌, inl, inr, arith}
use Rattle.cil_base.specs.declared.rule.Rule.{Rule}
use Rattle.cil_base.specs.declared.rule.Rule.TheVariants.{P1, P2, P3, P4, P5, P6, M1, M2, M3, M4, M5, M6, M7, S1, S2, N1, N2, N3, N4, N5, N6, I1, I2, I3, I4, I5, I6, X1, X2, X3, X4, C1, C2, C3, C4, C5, C6, C7, C8, C9, C10, H1, H2, H3, H4, Z1, L1, L2, L3, L4, L5, L6}
use Rattle.cil_base.specs.declared.refusal.Refusal.{Refusal}
use Rattle.cil_base.specs.Rules.{rule_number}
use Rattle.cil_base.specs.Refusals.{key, is_less, First, InTurn}
use Rattle.cil_base.proofs.RefusalLaws.{head_of}

-- the rules by their numbers
abbrev rules : List Rule
rules = P1 ∷ P2 ∷ P3 ∷ P4 ∷ P5 ∷ P6 ∷ M1 ∷ M2 ∷ M3 ∷ M4 ∷ M5 ∷ M6 ∷ M7 ∷ S1 ∷ S2 ∷ N1 ∷ N2 ∷ N3 ∷ N4 ∷ N5 ∷ N6 ∷ I1 ∷ I2 ∷ I3 ∷ I4 ∷ I5 ∷ I6 ∷ X1 ∷ X2 ∷ X3 ∷ X4 ∷ C1 ∷ C2 ∷ C3 ∷ C4 ∷ C5 ∷ C6 ∷ C7 ∷ C8 ∷ C9 ∷ C10 ∷ H1 ∷ H2 ∷ H3 ∷ H4 ∷ Z1 ∷ L1 ∷ L2 ∷ L3 ∷ L4 ∷ L5 ∷ L6 ∷ []

by_number : (r : Rule) → get_or rules (rule_number r) P1 ≡ r
by_number P1 = refl
by_number P2 = refl
by_number P3 = refl
by_number P4 = refl
by_number P5 = refl
by_number P6 = refl
by_number M1 = refl
by_number M2 = refl
by_number M3 = refl
by_number M4 = refl
by_number M5 = refl
by_number M6 = refl
by_number M7 = refl
by_number S1 = refl
by_number S2 = refl
by_number N1 = refl
by_number N2 = refl
by_number N3 = refl
by_number N4 = refl
by_number N5 = refl
by_number N6 = refl
by_number I1 = refl
by_number I2 = refl
by_number I3 = refl
by_number I4 = refl
by_number I5 = refl
by_number I6 = refl
by_number X1 = refl
by_number X2 = refl
by_number X3 = refl
by_number X4 = refl
by_number C1 = refl
by_number C2 = refl
by_number C3 = refl
by_number C4 = refl
by_number C5 = refl
by_number C6 = refl
by_number C7 = refl
by_number C8 = refl
by_number C9 = refl
by_number C10 = refl
by_number H1 = refl
by_number H2 = refl
by_number H3 = refl
by_number H4 = refl
by_number Z1 = refl
by_number L1 = refl
by_number L2 = refl
by_number L3 = refl
by_number L4 = refl
by_number L5 = refl
by_number L6 = refl

number_decides : (p q : Rule) → rule_number p ≡ rule_number q → p ≡ q
number_decides p q e = sym (by_number p) ∙ ap (λ n. get_or rules n P1) e ∙ by_number q

same_head : (x y : ℕ) (xs ys : List ℕ) → is_less (x ∷ xs) (y ∷ ys) ≡ false → is_less (y ∷ ys) (x ∷ xs) ≡ false → (x ≡ y) × (is_less xs ys ≡ false) × (is_less ys xs ≡ false)
same_head x y xs ys h k =
    let p = head_of x y xs ys h in
    let q = head_of y x ys xs k in
    let same : x ≡ y = omega (arith, p.0, q.0) in
    (same, p.1 same, q.1 (sym same))

same_refusal : (r s : Refusal) → r.assembly ≡ s.assembly → r.table ≡ s.table → r.row ≡ s.row → r.at ≡ s.at → r.rule ≡ s.rule → r ≡ s
same_refusal r s a t w p e =
    let R : Rule → ℕ → ℕ → ℕ → ℕ → Refusal = λ rule assembly table row at. record { rule = rule; assembly = assembly; table = table; row = row; at = at } in
    ap (λ x. R x r.assembly r.table r.row r.at) e ∙ ap (λ x. R s.rule x r.table r.row r.at) a ∙ ap (λ x. R s.rule s.assembly x r.row r.at) t
    ∙ ap (λ x. R s.rule s.assembly s.table x r.at) w ∙ ap (λ x. R s.rule s.assembly s.table s.row x) p

neither_less : (r s : Refusal) → is_less (key r) (key s) ≡ false → is_less (key s) (key r) ≡ false → r ≡ s
neither_less r s h k =
    let a = same_head r.assembly s.assembly (r.table ∷ r.row ∷ r.at ∷ rule_number r.rule ∷ []) (s.table ∷ s.row ∷ s.at ∷ rule_number s.rule ∷ []) h k in
    let t = same_head r.table s.table (r.row ∷ r.at ∷ rule_number r.rule ∷ []) (s.row ∷ s.at ∷ rule_number s.rule ∷ []) a.1 a.2 in
    let w = same_head r.row s.row (r.at ∷ rule_number r.rule ∷ []) (s.at ∷ rule_number s.rule ∷ []) t.1 t.2 in
    let p = same_head r.at s.at (rule_number r.rule ∷ []) (rule_number s.rule ∷ []) w.1 w.2 in
    let e = same_head (rule_number r.rule) (rule_number s.rule) [] [] p.1 p.2 in
    same_refusal r s a.0 t.0 w.0 p.0 (number_decides r.rule s.rule e.0)

pub first_is_one : (Broken : Refusal → Type 0) (r s : Refusal) → First Broken r → First Broken s → s ≡ r
first_is_one Broken r s f g = neither_less s r (f.none_before s g.broken) (g.none_before r f.broken)

-- so is the first of a layer and of what comes after it
pub turn_is_one : (Broken Later : Refusal → Type 0) (r s : Refusal) → (Later r → Later s → s ≡ r) → InTurn Broken Later r → InTurn Broken Later s → s ≡ r
turn_is_one Broken Later r s later (inl f) (inl g) = first_is_one Broken r s f g
turn_is_one Broken Later r s later (inl f) (inr g) = absurd (g.0 r f.broken)
turn_is_one Broken Later r s later (inr f) (inl g) = absurd (f.0 s g.broken)
turn_is_one Broken Later r s later (inr f) (inr g) = later f.1 g.1
