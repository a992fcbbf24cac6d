-- The rows of Field and MethodDef as members (ECMA-335, II.22.15, II.22.26), and the first in a type that passes a test.
use Rattle.std.specs.Prelude.{ℕ, ◌==◌, ◌&&◌, Bool, false, if◌then◌else◌, List, [], find, Option, Some, None, option_map, option_and_then}
use Rattle.set_rows.specs.Sets.{Assembly, rows_in, text, blob}
use Rattle.set_rows.specs.Owners.{owner}
use Rattle.set_types.specs.SignatureTypes.{Coded}
use Rattle.set_signatures.specs.Shapes.{shape_of}
use Rattle.set_signatures.specs.declared.shape.Shape.{Shape}
use Rattle.members.specs.Keys.{member_key}

-- Field or MethodDef, and the columns of its name and its signature
abbrev pub member_table : Bool → ℕ
member_table is_field = if is_field then 0x04 else 0x06

abbrev pub name_column : Bool → ℕ
name_column is_field = if is_field then 1 else 3

abbrev pub signature_column : Bool → ℕ
signature_column is_field = if is_field then 2 else 4

-- the column of TypeDef that owns its rows
abbrev pub list_column : Bool → ℕ
list_column is_field = if is_field then 4 else 5

-- the member of a row, with arguments for the parameters of its type; none where its signature is in no grammar
unfoldable pub row_shape : Assembly → Coded → List (List ℕ) → Bool → ℕ → Option Shape
row_shape x c args is_field k =
    shape_of c args (text x (member_table is_field) k (name_column is_field)) (blob x (member_table is_field) k (signature_column is_field))

abbrev pub row_owner : Assembly → Bool → ℕ → Option ℕ
row_owner x is_field k = owner x (list_column is_field) (member_table is_field) k

abbrev pub passes : (Shape → Bool) → Option Shape → Bool
passes test None = false
passes test (Some y) = test y

abbrev pub is_owner : ℕ → Option ℕ → Bool
is_owner row None = false
is_owner row (Some other) = row == other

-- whether a row is of a type, and passes
abbrev pub is_declared : Assembly → Coded → List (List ℕ) → (Shape → Bool) → Bool → ℕ → ℕ → Bool
is_declared x c args test is_field row k = is_owner row (row_owner x is_field k) && passes test (row_shape x c args is_field k)

-- the first row of a type that passes
unfoldable pub declared : Assembly → Coded → List (List ℕ) → (Shape → Bool) → Bool → ℕ → Option ℕ
declared x c args test is_field row = find (is_declared x c args test is_field row) (rows_in x (member_table is_field))

-- the key by which a row is found
abbrev pub key_of : Option ℕ → Option Shape → Option (List ℕ)
key_of o y = option_and_then (λ row. option_map (member_key row) y) o

abbrev pub row_key : Assembly → Coded → Bool → ℕ → Option (List ℕ)
row_key x c is_field k = key_of (row_owner x is_field k) (row_shape x c [] is_field k)
