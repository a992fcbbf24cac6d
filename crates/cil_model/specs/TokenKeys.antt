-- Keys of token rows: the assembly and its token (ECMA-335, II.22).
use Rattle.std.specs.Prelude.{ℕ}
use Rattle.cil_base.specs.declared.token.Token.{Token}
use Rattle.cil_model.specs.declared.tokens.TokenKey.{TokenKey}
use Rattle.cil_model.specs.declared.program.TokenRow.{TokenRow}

abbrev pub key_of : ℕ → Token → TokenKey
key_of assembly token = record { assembly = assembly; table = token.table; row = token.row }

abbrev pub row_key : TokenRow → TokenKey
row_key row = key_of row.assembly row.token
