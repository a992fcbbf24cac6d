-- The first member of a type, by the rows between the ends of the type's list.
use Rattle.std.proofs.Common.{◌≡◌, ◌∙◌, sym, ap, refl, arith, rules, ℕ, ◌-◌, ◌≤◌, ◌<◌, List, Bool, true, false}
use Rattle.std.specs.Prelude.{find, ◌==◌, ◌&&◌, max, min, nat_lt, nat_le, Option, Some, None, if◌then◌else◌}
use Rattle.set_rows.specs.Sets.{Assembly, count_in, is_row, rows_in, cell}
use Rattle.set_rows.specs.Owners.{owned_end, owns, owner}
use Rattle.set_types.specs.SignatureTypes.{Coded}
use Rattle.set_signatures.specs.declared.shape.Shape.{Shape}
use Rattle.members.specs.MemberRows.{member_table, list_column, row_shape, row_owner, is_owner, passes, is_declared, declared}
use Rattle.members.proofs.ListLaws.{find_none, find_first, found_passes}

-- what does not own a row is not its owner
not_owner : (x : Assembly) (column table k row : ℕ) → owns x column table k row ≡ false → is_owner row (owner x column table k) ≡ false
unfolding owner
not_owner x column table k row h = by_row (is_row x table k)
  where
    differs : (other : ℕ) → (b : Bool) → (row == other) ≡ b → owns x column table k other ≡ true → b ≡ false
    differs other false e f = refl
    differs other true e f =
        let same : row ≡ other = search (rules, e) in
        let wrong : false ≡ true = sym h ∙ ap (owns x column table k) same ∙ f in
        absurd cc

    by_found : (o : Option ℕ) → find (owns x column table k) (rows_in x 0x02) ≡ o → is_owner row o ≡ false
    by_found None e = refl
    by_found (Some other) e = differs other (row == other) refl (found_passes (owns x column table k) (rows_in x 0x02) other e)

    by_row : (b : Bool) → is_owner row (if b then find (owns x column table k) (rows_in x 0x02) else None) ≡ false
    by_row true = by_found (find (owns x column table k) (rows_in x 0x02)) refl
    by_row false = refl

le_from : (a b : ℕ) → nat_le a b ≡ true → a ≤ b
le_from a b h = search (rules, h)

lt_from : (a b : ℕ) → nat_lt a b ≡ true → a < b
lt_from a b h = search (rules, h)

first_true : (a b : Bool) → (a && b) ≡ true → a ≡ true
first_true true b e = refl
first_true false b e = e

second_true : (a b : Bool) → (a && b) ≡ true → b ≡ true
second_true true b e = e
second_true false b e = absurd cc

unequal : (a : Bool) → (a ≡ true → ⊥) → a ≡ false
unequal true h = absurd (h refl)
unequal false h = refl

and_no : (a b : Bool) → a ≡ false → (a && b) ≡ false
and_no true b e = absurd cc
and_no false b e = refl

module _ (x : Assembly) (c : Coded) (args : List (List ℕ)) (test : Shape → Bool) (is_field : Bool) (row : ℕ) where
  -- a row before the list, or behind it, isn't declared
  outside_list : (k : ℕ) → (owns x (list_column is_field) (member_table is_field) k row ≡ true → ⊥) → is_declared x c args test is_field row k ≡ false
  outside_list k h =
      and_no (is_owner row (row_owner x is_field k)) (passes test (row_shape x c args is_field k))
      (not_owner x (list_column is_field) (member_table is_field) k row (unequal (owns x (list_column is_field) (member_table is_field) k row) h))

  pub before : (from k : ℕ) → from ≡ cell x 0x02 row (list_column is_field) - 1 → 1 ≤ k → k ≤ from → is_declared x c args test is_field row k ≡ false
  before from k e low high =
      outside_list k
      (λ h.
      let above : max 1 (cell x 0x02 row (list_column is_field)) ≤ k = le_from (max 1 (cell x 0x02 row (list_column is_field))) k (first_true (nat_le (max 1 (cell x 0x02 row (list_column is_field))) k) (nat_lt k (owned_end x (list_column is_field) (member_table is_field) row)) h) in
      omega (arith, above, e, low, high))

  pub past_end : (to k : ℕ) → to ≡ min (owned_end x (list_column is_field) (member_table is_field) row - 1) (count_in x (member_table is_field)) → to < k → k ≤ count_in x (member_table is_field) → is_declared x c args test is_field row k ≡ false
  past_end to k e low high =
      outside_list k
      (λ h.
      let below : k < owned_end x (list_column is_field) (member_table is_field) row = lt_from k (owned_end x (list_column is_field) (member_table is_field) row) (second_true (nat_le (max 1 (cell x 0x02 row (list_column is_field))) k) (nat_lt k (owned_end x (list_column is_field) (member_table is_field) row)) h) in
      omega (arith, below, e, low, high))

  pub declared_first : (k : ℕ) → 1 ≤ k → k ≤ count_in x (member_table is_field) → true ≡ is_declared x c args test is_field row k → ((r : ℕ) → 1 ≤ r → r < k → is_declared x c args test is_field row r ≡ false) → Some k ≡ declared x c args test is_field row
  unfolding declared
  declared_first k low high hit none = sym (find_first (is_declared x c args test is_field row) 1 (count_in x (member_table is_field)) k low (omega (arith, high)) (sym hit) none)

  pub declared_none : ((r : ℕ) → 1 ≤ r → r ≤ count_in x (member_table is_field) → is_declared x c args test is_field row r ≡ false) → None ≡ declared x c args test is_field row
  unfolding declared
  declared_none none = sym (find_none (is_declared x c args test is_field row) 1 (count_in x (member_table is_field)) (λ r low high. none r low (omega (arith, high))))

  above : (r k : ℕ) → nat_le r k ≡ false → k < r
  above r k h = search (rules, h)

  -- none up to a row, and none behind the list
  pub none_all : (to k : ℕ) → to ≡ min (owned_end x (list_column is_field) (member_table is_field) row - 1) (count_in x (member_table is_field)) → to ≤ k → ((r : ℕ) → 1 ≤ r → r ≤ k → is_declared x c args test is_field row r ≡ false) → None ≡ declared x c args test is_field row
  none_all to k e past none = declared_none (λ r low high. go r low high (nat_le r k) refl)
    where
      go : (r : ℕ) → 1 ≤ r → r ≤ count_in x (member_table is_field) → (b : Bool) → nat_le r k ≡ b → is_declared x c args test is_field row r ≡ false
      go r low high true f = none r low (le_from r k f)
      go r low high false f = let over : k < r = above r k f in past_end to r e (omega (arith, past, over)) high
