-- The first cell that breaks a rule.
use Rattle.std.proofs.Common.{◌≡◌, ℕ, ◌<◌, List, [], length, get_or, Option, None, refl, sym, ap, ◌∙◌, arith}
use Rattle.cil_base.specs.declared.rule.Rule.{Rule}
use Rattle.cli_tables.specs.declared.schema.Column.{Column}
use Rattle.cli_tables.specs.declared.sizes.Sizes.{Sizes}
use Rattle.cli_tables.specs.Schema.{columns_of}
use Rattle.cli_tables.specs.Stream.{kind_of}
use Rattle.cli_tables.specs.CellRules.{cell_rule, before, rule_at}
use Rattle.cli_tables.proofs.LayoutLaws.{kind_read}

pub rule_read : (meta : List ℕ) (s : Sizes) (table : ℕ) (rows : List (List ℕ)) (k c : ℕ) (columns : List Column) (d : Column) (cells : List ℕ) (b : ℕ) (result : Option Rule)
    → columns ≡ columns_of table → c < length columns → cells ≡ get_or rows c [] → b ≡ before cells k
    → result ≡ cell_rule meta s (get_or columns c d) b (get_or cells k 0) → result ≡ rule_at meta s table rows k c
rule_read meta s table rows k c columns d cells b result same lt read early e =
    e ∙ ap (λ (column : Column). cell_rule meta s column b (get_or cells k 0)) (kind_read table columns c d same lt)
    ∙ ap (λ (n : ℕ). cell_rule meta s (kind_of table c) n (get_or cells k 0)) early
    ∙ ap (λ (l : List ℕ). cell_rule meta s (kind_of table c) (before l k) (get_or l k 0)) read

pub clean_read : (meta : List ℕ) (s : Sizes) (table : ℕ) (rows : List (List ℕ)) (count c : ℕ) (columns : List Column) (d : Column) (cells : List ℕ)
    → columns ≡ columns_of table → c < length columns → cells ≡ get_or rows c [] → length (get_or rows c []) ≡ count
    → ((k : ℕ) → k < length cells → cell_rule meta s (get_or columns c d) (before cells k) (get_or cells k 0) ≡ None)
    → (k : ℕ) → k < count → rule_at meta s table rows k c ≡ None
clean_read meta s table rows count c columns d cells same lt read many clean k below =
    let all : k < length cells = omega (arith, ap length read, many) in
    sym (rule_read meta s table rows k c columns d cells (before cells k) (cell_rule meta s (get_or columns c d) (before cells k) (get_or cells k 0)) same lt read refl refl) ∙ clean k all
