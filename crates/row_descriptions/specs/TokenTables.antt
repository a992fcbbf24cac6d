-- Token rows, each token once (own).
use Rattle.std.specs.Prelude.{List, [], ◌∷◌}
use Rattle.cil_model.specs.declared.program.TokenRow.{TokenRow}
use Rattle.cil_model.specs.TokenLists.{noted_row}

-- more rows behind some, where an earlier row of the same token stays
abbrev pub all_noted : List TokenRow → List TokenRow → List TokenRow
all_noted rows [] = rows
all_noted rows (row ∷ more) = all_noted (noted_row rows row) more
