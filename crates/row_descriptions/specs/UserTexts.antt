-- The texts of `#US`: entries one after another from place 1 (ECMA-335, II.24.2.4).
use Rattle.std.specs.Prelude.{ℕ, zero, suc, ◌+◌, ◌*◌, List, [], ◌∷◌, ◌++◌, length, Option, Some, None}
use Rattle.cil_base.specs.Packed.{packed_at}
use Rattle.cil_base.specs.declared.tables.TheConstants.{USER_STRING}
use Rattle.cli_heaps.specs.Entries.{blob_at}
use Rattle.cil_model.specs.declared.program.TokenRow.{TokenRow}
use Rattle.cil_model.specs.declared.program.Meaning.{Meaning}
use Rattle.cil_model.specs.declared.program.Meaning.TheVariants.{OfText}

abbrev pub token_row : ℕ → ℕ → ℕ → Meaning → TokenRow
token_row a table row meaning = record { assembly = a; token = record { table = table; row = row }; meaning = meaning }

-- UTF-16 units, the low byte first; the byte behind them is none
abbrev pub units_of : List ℕ → List ℕ
units_of [] = []
units_of (b ∷ []) = []
units_of (low ∷ high ∷ rest) = (low + 0x100 * high) ∷ units_of rest

abbrev pub text_row : ℕ → ℕ → Option (List ℕ) → List TokenRow
text_row a at None = []
text_row a at (Some bytes) = token_row a USER_STRING at (OfText (units_of bytes)) ∷ []

-- where the entry behind one begins, by its length and the width of the length
abbrev pub next_entry : ℕ → ℕ × ℕ → ℕ
next_entry at p = at + p.1 + p.0

abbrev pub onwards : (ℕ → List TokenRow) → ℕ → Option (ℕ × ℕ) → List TokenRow
onwards go at None = []
onwards go at (Some p) = go (next_entry at p)

-- the texts from a place on, at most so many
unfoldable pub texts_from : ℕ → List ℕ → ℕ → ℕ → List TokenRow
texts_from a heap zero at = []
texts_from a heap (suc n) at = text_row a at (blob_at heap at) ++ onwards (texts_from a heap n) at (packed_at heap at)

-- Each entry has a byte at least.
abbrev pub user_texts : ℕ → List ℕ → List TokenRow
user_texts a heap = texts_from a heap (length heap) 1
