-- Rows of contract attributes that aren't read yet (Code Contracts User Manual, sections 2.8, 2.11 and 2.3.1; own).
use Rattle.std.specs.Prelude.{◌≡◌, ◌⊎◌, ◌≤◌, ◌&&◌, ◌||◌, ℕ, Bool, true, bytes_eq, codes, List}
use Rattle.cil_base.specs.declared.rule.Rule.TheVariants.{Z1}
use Rattle.cil_base.specs.declared.tables.TheConstants.{TYPE_DEF, TYPE_REF}
use Rattle.cil_base.specs.declared.refusal.Refusal.{Refusal}
use Rattle.set_rows.specs.Sets.{Assembly, count_in, text}

-- an attribute by which contracts are made that aren't own ones
abbrev pub is_unread_name : List ℕ → Bool
is_unread_name name =
    bytes_eq name (codes "ContractAbbreviatorAttribute") || (bytes_eq name (codes "ContractClassAttribute") || (bytes_eq name (codes "ContractClassForAttribute") || bytes_eq name (codes "ContractInvariantMethodAttribute")))

-- The third column of TypeRef and of TypeDef is the namespace, the second the name (II.22.37, II.22.38).
abbrev pub is_unread_row : Assembly → ℕ → ℕ → Bool
is_unread_row x table row = bytes_eq (text x table row 2) (codes "System.Diagnostics.Contracts") && is_unread_name (text x table row 1)

abbrev pub refusal_in : ℕ → ℕ → Refusal
refusal_in table row = record { rule = Z1; assembly = 0; table = table; row = row; at = 0 }

-- Z1 at such a row of a table
pub record IsUnreadIn (x : Assembly) (table : ℕ) (r : Refusal) : Type 0 where
  pub row : ℕ
  pub low : 1 ≤ row
  pub high : row ≤ count_in x table
  pub unread : is_unread_row x table row ≡ true
  pub is : r ≡ refusal_in table row

-- Z1 at such a row
abbrev pub IsUnread : Assembly → Refusal → Type 0
IsUnread x r = IsUnreadIn x TYPE_REF r ⊎ IsUnreadIn x TYPE_DEF r
