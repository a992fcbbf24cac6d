-- A type and its bases, one after another.
use Rattle.std.proofs.Common.{◌≡◌, ◌∙◌, sym, ap, refl, arith, append_assoc, ℕ, zero, suc, ◌<◌, ◌≤◌, ◌+◌, ◌-◌, List, [], ◌∷◌, ◌++◌}
use Rattle.std.specs.Prelude.{Option, Some, None}
use Rattle.cil_model.specs.declared.ty.Ty.{Ty}
use Rattle.cil_model.specs.declared.program.Program.{Program}
use Rattle.cil_semantics.specs.Lookups.{base_of, chain, chain_on, chain_within, most_bases}

-- at most so many, the first of which may be missing
abbrev pub links : Program → ℕ → Option Ty → List Ty
links p zero o = []
links p (suc n) o = chain_on (chain_within n p) o

nothing_more : (found : List Ty) → found ++ [] ≡ found
nothing_more [] = refl
nothing_more (t ∷ ts) = ap (λ (us : List Ty). t ∷ us) (nothing_more ts)

links_none : (p : Program) (n : ℕ) → links p n None ≡ []
links_none p zero = refl
links_none p (suc n) = refl

links_some : (p : Program) (n : ℕ) (t : Ty) → links p (suc n) (Some t) ≡ t ∷ links p n (base_of p t)
unfolding chain_within
links_some p zero t = refl
links_some p (suc n) t = refl

pub links_first : (p : Program) (t : Ty) (n : ℕ) (o : Option Ty) → n ≡ most_bases p + 1 → o ≡ Some t → [] ++ links p (n - 0) o ≡ chain p t
links_first p t n o e f = let m : n - 0 ≡ suc (most_bases p) = omega (arith, e) in ap (λ (i : ℕ). links p i o) m ∙ ap (links p (suc (most_bases p))) f

pub links_on : (p : Program) (found more whole : List Ty) (n k : ℕ) (t : Ty) (next : Option Ty) → k < n → more ≡ found ++ t ∷ [] → next ≡ base_of p t
    → found ++ links p (n - k) (Some t) ≡ whole → more ++ links p (n - (k + 1)) next ≡ whole
links_on p found more whole n k t next below e f h =
    let m : n - k ≡ suc (n - (k + 1)) = omega (arith, below) in
    ap (λ (ts : List Ty). ts ++ links p (n - (k + 1)) next) e
    ∙ ap (λ (o : Option Ty). (found ++ t ∷ []) ++ links p (n - (k + 1)) o) f
    ∙ append_assoc found (t ∷ []) (links p (n - (k + 1)) (base_of p t))
    ∙ ap (λ (ts : List Ty). found ++ ts) (sym (links_some p (n - (k + 1)) t))
    ∙ ap (λ (i : ℕ). found ++ links p i (Some t)) (sym m)
    ∙ h

pub links_end : (p : Program) (found whole : List Ty) (n : ℕ) (o : Option Ty) → o ≡ None → found ++ links p n o ≡ whole → found ≡ whole
links_end p found whole n o e h = sym (nothing_more found) ∙ ap (λ (ts : List Ty). found ++ ts) (sym (links_none p n)) ∙ ap (λ (x : Option Ty). found ++ links p n x) (sym e) ∙ h

pub links_over : (p : Program) (found whole : List Ty) (n k : ℕ) (o : Option Ty) → n ≤ k → found ++ links p (n - k) o ≡ whole → found ≡ whole
links_over p found whole n k o over h = let m : n - k ≡ 0 = omega (arith, over) in sym (nothing_more found) ∙ ap (λ (i : ℕ). found ++ links p i o) (sym m) ∙ h
