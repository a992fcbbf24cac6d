-- The text of the command `list` (own): the types of the first assembly, their methods by their tokens (ECMA-335, II.22), and the clauses of these.
use Rattle.std.specs.Prelude.{ℕ, ◌/◌, ◌%◌, ◌==◌, ◌&&◌, Bool, not, if◌then◌else◌, List, [], ◌∷◌, ◌++◌, codes, slice_get, Option, Some, None}
use Rattle.std.specs.List.{flat_map}
use Rattle.cil_base.specs.declared.tables.TheConstants.{TYPE_DEF, METHOD_DEF}
use Rattle.cil_model.specs.declared.contract.Clause.{Clause}
use Rattle.cil_model.specs.declared.contract.Contract.{Contract}
use Rattle.cil_model.specs.declared.program.Program.{Program}
use Rattle.cil_model.specs.declared.program.TypeDesc.{TypeDesc}
use Rattle.cil_model.specs.declared.program.MethodDesc.{MethodDesc}
use Rattle.run_texts.specs.Printed.{hex, name_text}

-- two upper-case hexadecimal digits
abbrev pub byte_text : ℕ → List ℕ
byte_text byte = hex (byte / 16) ∷ hex (byte % 16) ∷ []

-- the four bytes of a token from the top: the table, and the three of the row
abbrev pub token_text : ℕ → ℕ → List ℕ
token_text table row =
    byte_text table ++ (byte_text (row / 0x10000 % 0x100) ++ (byte_text (row / 0x100 % 0x100) ++ byte_text (row % 0x100)))

-- what it is, its token and its name
abbrev pub line_text : List ℕ → ℕ → ℕ → List ℕ → List ℕ
line_text word table row name = word ++ (token_text table row ++ (codes " " ++ (name_text name ++ codes "\n")))

-- A method's line, and behind it the text of its clauses; nothing where there is no such method.
abbrev pub described : (ℕ → List ℕ) → ℕ → Option MethodDesc → List ℕ
described clauses m None = []
described clauses m (Some d) = line_text (codes "method ") METHOD_DEF d.row d.name ++ clauses m

abbrev pub method_text : (ℕ → List ℕ) → List MethodDesc → ℕ → List ℕ
method_text clauses methods m = described clauses m (slice_get methods m)

abbrev pub methods_text : (ℕ → List ℕ) → List MethodDesc → List ℕ → List ℕ
methods_text clauses methods numbers = flat_map (method_text clauses methods) numbers

-- a type of the first assembly
abbrev pub is_listed : TypeDesc → Bool
is_listed t = (t.assembly == 0) && not t.outside

-- a type's line, and behind it the lines of its methods
abbrev pub type_text : (ℕ → List ℕ) → List MethodDesc → TypeDesc → List ℕ
type_text clauses methods t =
    if is_listed t then line_text (codes "type ") TYPE_DEF t.row t.name ++ methods_text clauses methods t.methods else []

-- the whole text, where each method has a text of its clauses by its number
abbrev pub types_text : (ℕ → List ℕ) → Program → List ℕ
types_text clauses p = flat_map (type_text clauses p.methods) p.types

-- a clause by its label
abbrev pub clause_line : Clause → List ℕ
clause_line c = codes "clause " ++ (name_text c.label ++ codes "\n")

-- the clauses of a contract, and behind them its Assert and Assume calls
abbrev pub contract_text : Contract → List ℕ
contract_text c = flat_map clause_line c.clauses ++ flat_map clause_line c.asserts

abbrev pub text_or_none : Option Contract → List ℕ
text_or_none None = []
text_or_none (Some c) = contract_text c

-- the text of the contract with a number
abbrev pub text_at : List Contract → ℕ → List ℕ
text_at contracts m = text_or_none (slice_get contracts m)
