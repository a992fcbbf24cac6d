-- The metadata that a sample begins as (ECMA-335, II.24.2.1 and II.24.2.2).
use Rattle.std.specs.Prelude.{ℕ, List, ◌∷◌, ◌++◌, codes}
use Rattle.cil_base.specs.Bytes.{number_bytes, zeros}

-- signature, versions 1.1, the version text v4.0.30319, five streams
abbrev pub root : List ℕ
root = number_bytes 4 0x424A5342 ++ number_bytes 2 1 ++ number_bytes 2 1 ++ zeros 4 ++ number_bytes 4 12 ++ codes "v4.0.30319" ++ zeros 4 ++ number_bytes 2 5

-- where a stream begins, its size, and its name with zeros behind it
abbrev pub header : ℕ → ℕ → List ℕ → List ℕ
header offset size name = number_bytes 4 offset ++ number_bytes 4 size ++ name

abbrev pub headers : List ℕ
headers =
    header 108 24 (codes "#~" ++ zeros 2) ++ header 132 1 (codes "#Strings" ++ zeros 4) ++ header 136 1 (codes "#US" ++ zeros 1)
    ++ header 140 16 (codes "#GUID" ++ zeros 3) ++ header 156 1 (codes "#Blob" ++ zeros 3)

-- version 2.0, no tables, and the tables that ECMA-335 wants sorted
abbrev pub tables : List ℕ
tables = zeros 4 ++ 2 ∷ 0 ∷ 0 ∷ 1 ∷ zeros 8 ++ number_bytes 8 0x16003301FA00

-- each stream but the one of the GUID is filled to a multiple of 4
unfoldable pub blank : List ℕ
blank = root ++ headers ++ tables ++ zeros 4 ++ zeros 4 ++ codes "ccrewrite sample" ++ zeros 4
