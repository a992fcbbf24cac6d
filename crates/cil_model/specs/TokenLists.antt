-- What a list of token rows says of a token (ECMA-335, II.22).
use Rattle.std.specs.Prelude.{ℕ, Bool, ◌==◌, ◌&&◌, ◌++◌, ◌∷◌, [], List, find, Option, option_map, is_some, if◌then◌else◌}
use Rattle.cil_base.specs.declared.token.Token.{Token}
use Rattle.cil_model.specs.declared.program.TokenRow.{TokenRow}
use Rattle.cil_model.specs.declared.program.Meaning.{Meaning}

-- the row is that of the assembly's token
abbrev pub is_row_of : ℕ → Token → TokenRow → Bool
is_row_of assembly token row = (row.assembly == assembly) && ((row.token.table == token.table) && (row.token.row == token.row))

-- the meaning of an assembly's token: that of its first row
abbrev pub meaning_among : List TokenRow → ℕ → Token → Option Meaning
meaning_among rows assembly token = option_map (λ (row : TokenRow). row.meaning) (find (is_row_of assembly token) rows)

-- the list with one more row, unless its token has one
abbrev pub noted_row : List TokenRow → TokenRow → List TokenRow
noted_row rows row = if is_some (meaning_among rows row.assembly row.token) then rows else rows ++ row ∷ []
