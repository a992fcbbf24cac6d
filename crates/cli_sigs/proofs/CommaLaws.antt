-- What stands before the first comma.
use Rattle.std.proofs.Common.{◌≡◌, ℕ, zero, suc, ◌<◌, Bool, cond, List, [], ◌∷◌, length, take, get_or, refl, sym, ap, ◌∙◌, arith}
use Rattle.std.proofs.lemmas.Bool.{eq-eqb, ne_eqb}
use Rattle.cli_sigs.specs.Attributes.{before_comma}

abbrev NoneBelow : List ℕ → ℕ → Type 0
NoneBelow text at = (k : ℕ) → k < at → get_or text k 0 ≡ 0x2C → ⊥

no_comma : (b : ℕ) (rest : List ℕ) → (b ≡ 0x2C → ⊥) → before_comma (b ∷ rest) ≡ b ∷ before_comma rest
no_comma b rest h = ap (λ (t : Bool). cond t [] (b ∷ before_comma rest)) (ne_eqb b 0x2C h)

pub before_found : (text : List ℕ) (at : ℕ) → at < length text → NoneBelow text at → get_or text at 0 ≡ 0x2C → take at text ≡ before_comma text
before_found [] at lt none is = absurd (omega arith)
before_found (b ∷ rest) zero lt none is = ap (λ (t : Bool). cond t [] (b ∷ before_comma rest)) (sym (eq-eqb b 0x2C is))
before_found (b ∷ rest) (suc at) lt none is =
    ap (λ (l : List ℕ). b ∷ l) (before_found rest at (omega arith) (λ k h e. none (suc k) (omega arith) e) is)
    ∙ sym (no_comma b rest (none 0 (omega arith)))

pub before_none : (text : List ℕ) → NoneBelow text (length text) → text ≡ before_comma text
before_none [] none = refl
before_none (b ∷ rest) none =
    ap (λ (l : List ℕ). b ∷ l) (before_none rest (λ k h e. none (suc k) (omega arith) e))
    ∙ sym (no_comma b rest (none 0 (omega arith)))
