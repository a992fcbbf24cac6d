-- Tokens looked for by their keys.
use Rattle.std.proofs.Common.{◌≡◌, ◌∙◌, sym, ◌++◌, ◌∷◌, [], ℕ, zero, suc, ◌+◌, ◌<◌, ◌≤◌, List, length, ap, refl, Bool, true, false, not, ◌||◌, ◌&&◌, ◌==◌, arith, rules, slice_get}
use Rattle.std.specs.Prelude.{Option, Some, None, cond, is_some, if◌then◌else◌, map, find, position, option_map, nat_lt}
use Rattle.std.specs.List.{list_any, position_or_len}
use Rattle.std.proofs.lemmas.List.{map-append, length-map}
use Rattle.std.proofs.lemmas.List.Folds.{find_at}
use Rattle.std.proofs.lemmas.Option.{slice_get_past}
use Rattle.cil_base.specs.declared.token.Token.{Token}
use Rattle.cil_model.specs.declared.tokens.TokenKey.{TokenKey}
use Rattle.cil_model.specs.declared.program.TokenRow.{TokenRow}
use Rattle.cil_model.specs.declared.program.Meaning.{Meaning}
use Rattle.cil_model.specs.TokenKeys.{key_of, row_key}
use Rattle.cil_model.specs.TokenLists.{is_row_of, meaning_among, noted_row}

abbrev pub Test : Type 0
Test = TokenKey → Bool

-- a test of keys that holds of just the rows of a token
abbrev pub Tells : Test → ℕ → Token → Type 0
Tells test a t = (row : TokenRow) → test (row_key row) ≡ is_row_of a t row

module _ (test : Test) (a : ℕ) (t : Token) (same : Tells test a t) where
  place : (rows : List TokenRow) → position_or_len test (map row_key rows) ≡ position_or_len (is_row_of a t) rows
  place [] = refl
  place (row ∷ rows) = ap (λ (b : Bool). cond (not b) (1 + position_or_len test (map row_key rows)) 0) (same row) ∙ ap (λ (n : ℕ). cond (not (is_row_of a t row)) (1 + n) 0) (place rows)

  pub is_there : (rows : List TokenRow) → list_any test (map row_key rows) ≡ is_some (meaning_among rows a t)
  is_there [] = refl
  is_there (row ∷ rows) = ap (λ (b : Bool). b || list_any test (map row_key rows)) (same row) ∙ go (is_row_of a t row) (is_there rows)
    where
      go : (b : Bool) → list_any test (map row_key rows) ≡ is_some (meaning_among rows a t)
          → (b || list_any test (map row_key rows)) ≡ is_some (option_map (λ (r : TokenRow). r.meaning) (cond b (Some row) (find (is_row_of a t) rows)))
      go true h = refl
      go false h = h

eq_symm : (m n : ℕ) → (m == n) ≡ (n == m)
eq_symm m n = search (rules, arith)

pub keys_tell : (key : TokenKey) (a : ℕ) (t : Token) → key ≡ key_of a t → Tells (λ other. (key.assembly == other.assembly) && ((key.table == other.table) && (key.row == other.row))) a t
keys_tell key a t e row =
    ap (λ (k : TokenKey). (k.assembly == row.assembly) && ((k.table == row.token.table) && (k.row == row.token.row))) e
    ∙ ap (λ (b : Bool). b && ((t.table == row.token.table) && (t.row == row.token.row))) (eq_symm a row.assembly)
    ∙ ap (λ (b : Bool). (row.assembly == a) && (b && (t.row == row.token.row))) (eq_symm t.table row.token.table)
    ∙ ap (λ (b : Bool). (row.assembly == a) && ((row.token.table == t.table) && b)) (eq_symm t.row row.token.row)

same_place : {m n : ℕ} → Some m ≡ Some n → m ≡ n
same_place h = cc

module _ (test : Test) (a : ℕ) (t : Token) (same : Tells test a t) (rows : List TokenRow) where
  abbrev told : Option TokenRow → Option Meaning
  told = option_map (λ (r : TokenRow). r.meaning)

  at_place : (o : Option ℕ) → position test (map row_key rows) ≡ o → (p : ℕ) → o ≡ Some p → position_or_len (is_row_of a t) rows ≡ p
  at_place o e p f = by (nat_lt (position_or_len test (map row_key rows)) (length (map row_key rows))) (e ∙ f)
    where
      by : (b : Bool) → cond b (Some (position_or_len test (map row_key rows))) None ≡ Some p → position_or_len (is_row_of a t) rows ≡ p
      by true h = sym (place test a t same rows) ∙ same_place h
      by false h = absurd cc

  pub row_found : (p : ℕ) (row : TokenRow) → position test (map row_key rows) ≡ Some p → slice_get rows p ≡ Some row → Some row.meaning ≡ meaning_among rows a t
  row_found p row e f = sym (ap told (find_at (is_row_of a t) rows ∙ ap (slice_get rows) (at_place (Some p) e p refl) ∙ f))

  pub none_found : position test (map row_key rows) ≡ None → None ≡ meaning_among rows a t
  none_found e = sym (ap told (find_at (is_row_of a t) rows ∙ slice_get_past rows (position_or_len (is_row_of a t) rows) (past (nat_lt (position_or_len test (map row_key rows)) (length (map row_key rows))) refl e)))
    where
      past : (b : Bool) → nat_lt (position_or_len test (map row_key rows)) (length (map row_key rows)) ≡ b → cond b (Some (position_or_len test (map row_key rows))) None ≡ None → length rows ≤ position_or_len (is_row_of a t) rows
      past true g h = absurd cc
      past false g h = search (rules, arith, g, place test a t same rows, length-map rows row_key)

  pub noted_again : list_any test (map row_key rows) ≡ true → (row : TokenRow) → row.assembly ≡ a → row.token ≡ t → rows ≡ noted_row rows row
  noted_again e row f g = ap (λ (b : Bool). if b then rows else rows ++ row ∷ []) (sym e ∙ is_there test a t same rows ∙ ap (λ (k : ℕ). is_some (meaning_among rows k t)) (sym f) ∙ ap (λ (u : Token). is_some (meaning_among rows row.assembly u)) (sym g))

  pub noted_anew : list_any test (map row_key rows) ≡ false → (row : TokenRow) → row.assembly ≡ a → row.token ≡ t → rows ++ row ∷ [] ≡ noted_row rows row
  noted_anew e row f g = ap (λ (b : Bool). if b then rows else rows ++ row ∷ []) (sym e ∙ is_there test a t same rows ∙ ap (λ (k : ℕ). is_some (meaning_among rows k t)) (sym f) ∙ ap (λ (u : Token). is_some (meaning_among rows row.assembly u)) (sym g))
