-- Coded indexes with two bits of tag (ECMA-335, II.24.2.6).
use Rattle.std.specs.Prelude.{ℕ, ◌/◌, ◌%◌}

abbrev pub tag : ℕ → ℕ
tag coded = coded % 4

abbrev pub row_of : ℕ → ℕ
row_of coded = coded / 4
