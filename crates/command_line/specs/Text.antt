-- What the program prints.
use Rattle.std.specs.Prelude.{ℕ, ◌/◌, ◌%◌, List, [], ◌∷◌, ◌++◌, codes, decimal, true}
use Rattle.std.specs.Fmt.{digit_glyph}
use Rattle.cil_base.specs.Rules.{rule_name}
use Rattle.cil_base.specs.declared.refusal.Refusal.{Refusal}

abbrev pub done_text : ℕ → List ℕ
done_text clauses = codes "body: " ++ (decimal clauses ++ codes " clauses\n")

abbrev pub rewrite_text : ℕ → ℕ → ℕ → List ℕ
rewrite_text assemblies methods clauses =
    codes "ok: " ++ (decimal assemblies ++ (codes " assemblies, " ++ (decimal methods ++ (codes " methods, " ++ (decimal clauses ++ codes " clauses\n")))))

-- two upper-case hexadecimal digits
abbrev pub hex_pair : ℕ → List ℕ
hex_pair n = digit_glyph true (n / 16) ∷ digit_glyph true (n % 16) ∷ []

abbrev pub refusal_text : Refusal → List ℕ
refusal_text r =
    codes "refused: " ++ (rule_name r.rule ++ (codes " assembly " ++ (decimal r.assembly ++ (codes " table " ++ (hex_pair r.table ++ (codes " row " ++ (decimal r.row ++ (codes " at " ++ (decimal r.at ++ codes "\n")))))))))

abbrev pub words_text : ℕ → List ℕ
words_text k = codes "words: " ++ (decimal k ++ codes "\n")

abbrev pub store_text : List ℕ → List ℕ
store_text name = codes "store: " ++ (name ++ codes "\n")

abbrev pub memory_text : List ℕ
memory_text = codes "memory\n"
