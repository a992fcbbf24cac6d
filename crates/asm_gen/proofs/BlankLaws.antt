-- The blank metadata breaks no rule.
use Rattle.std.proofs.Common.{◌≡◌, ℕ, false, List, [], ◌∷◌, None, refl, inl, inr}
use lib.Count.{ones}
use Rattle.cil_base.specs.declared.refusal.Refusal.{Refusal}
use Rattle.cil_base.specs.Numbers.{num}
use Rattle.cil_base.specs.Bytes.{number_bytes}
use Rattle.cil_base.specs.Refusals.{Test, Fails, First, first_of}
use Rattle.pe_image.proofs.SectionLaws.{none_of}
use Rattle.cli_heaps.specs.RootRules.{tests, Broken}
use Rattle.asm_gen.specs.Blank.{blank}

none_fails : (a : ℕ) → first_of (tests blank a) ≡ None
unfolding blank number_bytes num ones
none_fails a = refl

fails_not : (t : Test) (ts : List Test) (r : Refusal) → (t.fails ≡ false) × (first_of ts ≡ None) → (Fails ts r → ⊥) → Fails (t ∷ ts) r → ⊥
fails_not t ts r n f (inl x) = let no_fail = n.0 in let fail = x.0 in absurd cc
fails_not t ts r n f (inr y) = f y

clean : (ts : List Test) (r : Refusal) → first_of ts ≡ None → Fails ts r → ⊥
clean [] r e h = h
clean (t ∷ ts) r e h = let n = none_of t ts e in fails_not t ts r n (clean ts r n.1) h

pub not_refused : (a : ℕ) (r : Refusal) → First (Broken blank a) r → ⊥
unfolding Broken
not_refused a r f = clean (tests blank a) r (none_fails a) f.broken
