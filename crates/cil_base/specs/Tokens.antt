-- Tokens as numbers (ECMA-335, II.22): the table in the top byte, the row in the other three.
use Rattle.std.specs.Prelude.{ℕ, ◌+◌, ◌*◌, ◌/◌, ◌%◌, ◌^◌}
use Rattle.cil_base.specs.declared.token.Token.{Token}

abbrev pub token_of : ℕ → Token
token_of v = record { table = v / 2 ^ 24; row = v % 2 ^ 24 }

abbrev pub token_number : Token → ℕ
token_number token = token.table * 2 ^ 24 + token.row
