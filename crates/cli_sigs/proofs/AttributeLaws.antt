-- The reader of an attribute's text reads the attributes with one text.
use Rattle.std.proofs.Common.{◌≡◌, ◌==◌, ℕ, List, [], ◌∷◌, ◌++◌, true, refl, sym, ap, subst, ◌∙◌}
use Rattle.std.proofs.lemmas.Bool.{eqb-true, ltb-true, lt-ltb}
use Rattle.cli_sigs.specs.Read.{byte_where}
use Rattle.cli_sigs.specs.Grammar.{Counted}
use Rattle.cli_sigs.specs.Attributes.{IsChar, IsTypeAttribute, IsBareAttribute}
use Rattle.cli_sigs.specs.Reading.{this_byte, is_byte, attribute, bare_attribute}
use Rattle.cli_sigs.proofs.Readers.{IsReader, Then, IsByte, Image, reads-bind, reads-byte, reads-maps, same_grammar}
use Rattle.cli_sigs.proofs.Packed.{reads-counted}

abbrev Char : List ℕ → ℕ → Type 0
Char = IsChar

reads-char : IsReader Char (byte_where is_byte)
reads-char = same_grammar (IsByte is_byte) Char (byte_where is_byte) (reads-byte is_byte 0 refl) (λ bs b p. (p.0, ltb-true b 256 p.1)) (λ bs b p. (p.0, lt-ltb b 256 p.1))

abbrev One : List ℕ → ℕ → Type 0
One = IsByte (λ b. b == 0x01)

abbrev None : List ℕ → ℕ → Type 0
None = IsByte (λ b. b == 0x00)

reads-none : IsReader None (this_byte 0x00)
reads-none = reads-byte (λ b. b == 0x00) 0 refl

abbrev Parts : List ℕ → List ℕ → Type 0
Parts = Then One (λ a. Then None (λ b. Then (Counted Char) (λ text. Then None (λ c. Image (λ d. text) None))))

code_of : (c : ℕ) (bs : List ℕ) (b : ℕ) → (bs ≡ b ∷ []) × ((b == c) ≡ true) → bs ≡ c ∷ []
code_of c bs b (e, h) = e ∙ ap (λ (n : ℕ). n ∷ []) (eqb-true b c h)

to_attribute : (bs text : List ℕ) → Parts bs text → IsTypeAttribute bs text
to_attribute bs text (f1, b1, x1, e1, c1, (f2, b2, x2, e2, c2, (f3, b3, word, e3, g, (f4, b4, x4, e4, c4, (x5, c5, is))))) =
    let p1 = code_of 1 f1 x1 c1 in
    let p2 = code_of 0 f2 x2 c2 in
    let p4 = code_of 0 f4 x4 c4 in
    let p5 = code_of 0 b4 x5 c5 in
    let all : bs ≡ 1 ∷ 0 ∷ f3 ++ 0 ∷ 0 ∷ [] = cc in
    (f3, all, subst (λ (l : List ℕ). Counted Char f3 l) is g)

from_attribute : (bs text : List ℕ) → IsTypeAttribute bs text → Parts bs text
from_attribute bs text (front, e, g) =
    (1 ∷ [], 0 ∷ front ++ 0 ∷ 0 ∷ [], 1, e, (refl, refl), (0 ∷ [], front ++ 0 ∷ 0 ∷ [], 0, refl, (refl, refl), (front, 0 ∷ 0 ∷ [], text, refl, g, (0 ∷ [], 0 ∷ [], 0, refl, (refl, refl), (0, (refl, refl), refl)))))

pub reads-attribute : IsReader IsTypeAttribute attribute
unfolding attribute
reads-attribute = same_grammar Parts IsTypeAttribute attribute
    (reads-bind _ _ _ _ (reads-byte (λ b. b == 0x01) 1 refl) (λ a x y. reads-bind _ _ _ _ reads-none (λ b x y. reads-bind _ _ _ _ (reads-counted Char (byte_where is_byte) reads-char) (λ text x y. reads-bind _ _ _ _ reads-none (λ c x y. reads-maps (λ d. text) _ _ reads-none)))))
    to_attribute from_attribute

-- ---- the bare form

abbrev Bare : List ℕ → ℕ → Type 0
Bare = Then One (λ a. Then None (λ b. Then None (λ c. None)))

to_bare : (bs : List ℕ) (n : ℕ) → Bare bs n → IsBareAttribute bs n
to_bare bs n (f1, b1, x1, e1, c1, (f2, b2, x2, e2, c2, (f3, b3, x3, e3, c3, (e4, c4)))) =
    let p1 = code_of 1 f1 x1 c1 in
    let p2 = code_of 0 f2 x2 c2 in
    let p3 = code_of 0 f3 x3 c3 in
    let p4 = code_of 0 b3 n (e4, c4) in
    let all : bs ≡ 1 ∷ 0 ∷ 0 ∷ 0 ∷ [] = cc in
    (all, eqb-true n 0 c4)

from_bare : (bs : List ℕ) (n : ℕ) → IsBareAttribute bs n → Bare bs n
from_bare bs n (e, z) =
    let bare : Bare (1 ∷ 0 ∷ 0 ∷ 0 ∷ []) 0 =
    (1 ∷ [], 0 ∷ 0 ∷ 0 ∷ [], 1, refl, (refl, refl), (0 ∷ [], 0 ∷ 0 ∷ [], 0, refl, (refl, refl), (0 ∷ [], 0 ∷ [], 0, refl, (refl, refl), (refl, refl)))) in
    subst (λ (l : List ℕ). Bare l n) (sym e) (subst (λ (k : ℕ). Bare (1 ∷ 0 ∷ 0 ∷ 0 ∷ []) k) (sym z) bare)

pub reads-bare : IsReader IsBareAttribute bare_attribute
unfolding bare_attribute
reads-bare = same_grammar Bare IsBareAttribute bare_attribute
    (reads-bind _ _ _ _ (reads-byte (λ b. b == 0x01) 1 refl) (λ a x y. reads-bind _ _ _ _ reads-none (λ b x y. reads-bind _ _ _ _ reads-none (λ c x y. reads-none))))
    to_bare from_bare
