-- The full names of the types of an assembly (ECMA-335, II.6.1.3, II.22.32, II.22.37): namespace, dot and name; `Outer/Inner` for a nested type.
use Rattle.std.specs.Prelude.{ℕ, ◌==◌, if◌then◌else◌, List, [], ◌∷◌, ◌++◌, reverse, find, Option, Some, None, option_map}
use Rattle.set_names.specs.Names.{Name, is_name}
use Rattle.set_rows.specs.Sets.{Assembly, count_in, is_row, rows_in, cell, text}
use Rattle.set_names.specs.Paths.{if_row, path_within}
use Rattle.cil_base.specs.declared.tables.TheConstants.{NESTED_CLASS, TYPE_DEF}

-- a name in its namespace
abbrev pub joined : Name → Name → Name
joined [] name = name
joined (b ∷ namespace) name = b ∷ namespace ++ 0x2E ∷ name

-- the name of a row of TypeRef or TypeDef, without the types around it
abbrev pub own_name : Assembly → ℕ → ℕ → Name
own_name x table row = joined (text x table row 2) (text x table row 1)

-- a type inside one of this name
abbrev pub inner_name : Name → Name → Name
inner_name outer name = outer ++ 0x2F ∷ name

abbrev pub enclosing_in : Assembly → Option ℕ → Option ℕ
enclosing_in x None = None
enclosing_in x (Some k) = if_row (cell x NESTED_CLASS k 1)

-- the type around a nested type: by its first NestedClass row
unfoldable pub enclosing : Assembly → ℕ → Option ℕ
enclosing x row = if is_row x TYPE_DEF row then enclosing_in x (find (λ k. cell x NESTED_CLASS k 0 == row) (rows_in x NESTED_CLASS)) else None

-- the names from the outermost on, one inside the other
abbrev pub nested_names : (ℕ → Name) → Name → List ℕ → Name
nested_names own outer [] = outer
nested_names own outer (row ∷ rows) = nested_names own (inner_name outer (own row)) rows

abbrev pub path_name : (ℕ → Name) → List ℕ → Name
path_name own [] = []
path_name own (row ∷ rows) = nested_names own (own row) rows

-- The full name of a TypeDef row; none where its nestings lead into a circle.
unfoldable pub full_name : Assembly → ℕ → Option Name
full_name x row =
    if is_row x TYPE_DEF row then option_map (λ path. path_name (own_name x TYPE_DEF) (reverse path)) (path_within (enclosing x) (count_in x TYPE_DEF) row) else None

-- the first TypeDef row of this full name
unfoldable pub type_named : Assembly → Name → Option ℕ
type_named x name = find (λ row. is_name name (full_name x row)) (rows_in x TYPE_DEF)
