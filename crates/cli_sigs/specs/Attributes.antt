-- The blobs of attributes with one text and no named values (ECMA-335, II.23.3): a prolog, a counted text, and the number 0 in two bytes.
use Rattle.std.specs.Prelude.{◌≡◌, ℕ, ◌<◌, ◌==◌, List, [], ◌∷◌, ◌++◌, reverse, Option, Some, None, if◌then◌else◌}
use Rattle.std.specs.Option.{option_map}
use Rattle.cli_sigs.specs.Grammar.{Counted}

-- a byte of the text stands for itself
abbrev pub IsChar : List ℕ → ℕ → Type 0
IsChar bytes b = (bytes ≡ b ∷ []) × (b < 0x100)

abbrev pub IsTypeAttribute : List ℕ → List ℕ → Type 0
IsTypeAttribute bytes text = (front : List ℕ) × (bytes ≡ 0x01 ∷ 0x00 ∷ front ++ 0x00 ∷ 0x00 ∷ []) × Counted IsChar front text

-- the bare form: no arguments, and no named values, whose number this is
abbrev pub IsBareAttribute : List ℕ → ℕ → Type 0
IsBareAttribute bytes named = (bytes ≡ 0x01 ∷ 0x00 ∷ 0x00 ∷ 0x00 ∷ []) × (named ≡ 0)

-- ---- the text: a type name, and behind a comma an assembly name (Code Contracts manual, ContractClass; ECMA-335, II.23.3)

abbrev pub before_comma : List ℕ → List ℕ
before_comma [] = []
before_comma (b ∷ rest) = if b == 0x2C then [] else b ∷ before_comma rest

abbrev pub behind_comma : List ℕ → Option (List ℕ)
behind_comma [] = None
behind_comma (b ∷ rest) = if b == 0x2C then Some rest else behind_comma rest

-- without the blanks at its front
abbrev pub from_front : List ℕ → List ℕ
from_front [] = []
from_front (b ∷ rest) = if b == 0x20 then from_front rest else b ∷ rest

-- without the blanks at its end
abbrev pub up_to_end : List ℕ → List ℕ
up_to_end text = reverse (from_front (reverse text))

-- the simple name of the assembly: up to the next comma, without blanks around it
abbrev pub assembly_in : List ℕ → Option (List ℕ)
assembly_in text = option_map (λ rest. up_to_end (from_front (before_comma rest))) (behind_comma text)
