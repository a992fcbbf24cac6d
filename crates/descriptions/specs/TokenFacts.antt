-- The tokens of an assembly by what is known of its members (ECMA-335, II.22).
use Rattle.std.specs.Prelude.{◌≡◌, ℕ, List, ◌++◌, option_map, option_to_list, filter_map, flat_map, Option}
use Rattle.cli_heaps.specs.Root.{user_strings}
use Rattle.cil_model.specs.declared.program.TokenRow.{TokenRow}
use Rattle.cil_model.specs.declared.program.Meaning.{Meaning}
use Rattle.set_rows.specs.Sets.{Assembly, Assemblies, assembly_at, rows_in}
use Rattle.set_types.specs.SignatureTypes.{Coded}
use Rattle.set_program.specs.Environment.{coded_in}
use Rattle.row_descriptions.specs.UserTexts.{token_row, user_texts}
use Rattle.descriptions.specs.declared.facts.MemberFacts.{MemberFacts}
use Rattle.descriptions.specs.Programs.{token_tables, assembly_tokens}
use Rattle.descriptions.specs.Facts.{AreFacts, meaning_by}

-- a row's token, where it means something
abbrev pub row_token : ℕ → ℕ → ℕ → Option Meaning → List TokenRow
row_token a table row m = option_to_list (option_map (token_row a table row) m)

abbrev pub table_tokens_by : Assembly → Coded → MemberFacts → ℕ → ℕ → List TokenRow
table_tokens_by x c f a table = filter_map (λ row. option_map (token_row a table row) (meaning_by x c f table row)) (rows_in x table)

abbrev pub assembly_tokens_by : Assembly → Coded → MemberFacts → ℕ → List TokenRow
assembly_tokens_by x c f a = flat_map (table_tokens_by x c f a) token_tables ++ user_texts a (user_strings x.meta)

-- What is known gives the tokens of an assembly of the set.
abbrev pub GiveTokens : Assemblies → ℕ → MemberFacts → Type 0
GiveTokens s a f = AreFacts s a f → assembly_tokens_by (assembly_at s a) (coded_in s a) f a ≡ assembly_tokens s a
