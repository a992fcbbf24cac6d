-- A token among the tokens of a set: that of its assembly, table and row.
use Rattle.std.proofs.Common.{◌≡◌, ◌∙◌, sym, ap, refl, arith, rules, append_assoc, ℕ, zero, suc, ◌+◌, ◌<◌, ◌≤◌, List, [], ◌∷◌, ◌++◌, length, Bool, true, false}
use Rattle.std.specs.Prelude.{cond, find, ◌==◌, ◌&&◌, ◌||◌, is_some, Option, Some, None, option_map, filter_map, flat_map, if◌then◌else◌}
use Rattle.std.specs.List.{range_with_len, cons_option}
use Rattle.std.specs.Option.{option_or}
use Rattle.std.proofs.lemmas.List.{append-nil}
use Rattle.std.proofs.lemmas.List.Folds.{find-append}
use Rattle.cil_base.specs.declared.tables.TheConstants.{USER_STRING}
use Rattle.cil_base.specs.declared.token.Token.{Token}
use Rattle.cil_base.specs.Packed.{packed_at}
use Rattle.cil_model.specs.declared.program.TokenRow.{TokenRow}
use Rattle.cil_model.specs.declared.program.Meaning.{Meaning}
use Rattle.cil_model.specs.declared.program.Meaning.TheVariants.{OfText}
use Rattle.cil_model.specs.TokenLists.{is_row_of, meaning_among, noted_row}
use Rattle.cil_semantics.specs.Words.{any}
use Rattle.cil_semantics.specs.Tokens.{meaning_of}
use Rattle.cli_heaps.specs.Root.{user_strings}
use Rattle.cli_heaps.specs.Entries.{blob_at}
use Rattle.set_rows.specs.Sets.{Assemblies, assembly_at, rows_in}
use Rattle.set_growth.proofs.FindLaws.{differs}
use Rattle.row_descriptions.specs.TokenTables.{all_noted}
use Rattle.row_descriptions.specs.UserTexts.{token_row, units_of, text_row, next_entry, onwards, texts_from, user_texts}
use Rattle.descriptions.specs.Programs.{row_meaning, table_tokens, token_tables, assembly_tokens, program_of}

pub eq_from : (a b : ℕ) → (a == b) ≡ true → a ≡ b
eq_from a b e = search (rules, e)

eq_itself : (a : ℕ) → (a == a) ≡ true
eq_itself a = search rules

or_same : (o : Option TokenRow) (b : Bool) → option_or o (if b then o else None) ≡ o
or_same None true = refl
or_same None false = refl
or_same (Some v) b = refl

-- ---- a token among those of blocks, of which one can have it

pick : (test : TokenRow → Bool) (block : ℕ → List TokenRow) (m : ℕ) → ((b : ℕ) → (b == m) ≡ false → find test (block b) ≡ None) → (bs : List ℕ)
    → find test (flat_map block bs) ≡ (if any (λ b. b == m) bs then find test (block m) else None)
pick test block m h [] = refl
pick test block m h (b ∷ bs) = find-append test (block b) (flat_map block bs) ∙ ap (option_or (find test (block b))) (pick test block m h bs) ∙ go (b == m) refl
  where
    go : (c : Bool) → (b == m) ≡ c → option_or (find test (block b)) (if any (λ d. d == m) bs then find test (block m) else None) ≡ (if c || any (λ d. d == m) bs then find test (block m) else None)
    go true e = ap (λ (n : ℕ). option_or (find test (block n)) (if any (λ d. d == m) bs then find test (block m) else None)) (eq_from b m e) ∙ or_same (find test (block m)) (any (λ d. d == m) bs)
    go false e = ap (λ (o : Option TokenRow). option_or o (if any (λ d. d == m) bs then find test (block m) else None)) (h b e)

abbrev pub one_token : ℕ → ℕ → (ℕ → Option Meaning) → ℕ → Option TokenRow
one_token a table means row = option_map (token_row a table row) (means row)

-- of a block's rows, the token's own
pub row_found : (a : ℕ) (t : Token) (means : ℕ → Option Meaning) (from n : ℕ) → from ≤ t.row → t.row < from + n
    → find (is_row_of a t) (filter_map (one_token a t.table means) (range_with_len from n)) ≡ one_token a t.table means t.row
row_found a t means from zero low high = absurd (omega (arith, low, high))
row_found a t means from (suc n) low high = go (from == t.row) refl (λ later. row_found a t means (from + 1) n later (omega (arith, high)))
  where
    rest : List TokenRow
    rest = filter_map (one_token a t.table means) (range_with_len (from + 1) n)

    tests : (r : ℕ) (m : Meaning) (c : Bool) → (r == t.row) ≡ c → is_row_of a t (token_row a t.table r m) ≡ c
    tests r m c e = ap (λ (b : Bool). b && ((t.table == t.table) && (r == t.row))) (eq_itself a) ∙ ap (λ (b : Bool). b && (r == t.row)) (eq_itself t.table) ∙ e

    none_past : (from n : ℕ) → t.row < from → find (is_row_of a t) (filter_map (one_token a t.table means) (range_with_len from n)) ≡ None
    none_past from zero h = refl
    none_past from (suc n) h = skip (means from) (none_past (from + 1) n (omega (arith, h)))
      where
        skip : (o : Option Meaning) → find (is_row_of a t) (filter_map (one_token a t.table means) (range_with_len (from + 1) n)) ≡ None
            → find (is_row_of a t) (cons_option (option_map (token_row a t.table from) o) (filter_map (one_token a t.table means) (range_with_len (from + 1) n))) ≡ None
        skip None k = k
        skip (Some m) k = ap (λ (b : Bool). cond b (Some (token_row a t.table from m)) (find (is_row_of a t) (filter_map (one_token a t.table means) (range_with_len (from + 1) n)))) (tests from m false (differs from t.row (λ e. omega (arith, e, h)))) ∙ k

    at : (o : Option Meaning) → (from == t.row) ≡ true → find (is_row_of a t) rest ≡ None → find (is_row_of a t) (cons_option (option_map (token_row a t.table from) o) rest) ≡ option_map (token_row a t.table from) o
    at None e k = k
    at (Some m) e k = ap (λ (b : Bool). cond b (Some (token_row a t.table from m)) (find (is_row_of a t) rest)) (tests from m true e)

    past : (o : Option Meaning) → (from == t.row) ≡ false → find (is_row_of a t) (cons_option (option_map (token_row a t.table from) o) rest) ≡ find (is_row_of a t) rest
    past None e = refl
    past (Some m) e = ap (λ (b : Bool). cond b (Some (token_row a t.table from m)) (find (is_row_of a t) rest)) (tests from m false e)

    go : (c : Bool) → (from == t.row) ≡ c → (from + 1 ≤ t.row → find (is_row_of a t) rest ≡ one_token a t.table means t.row)
        → find (is_row_of a t) (cons_option (option_map (token_row a t.table from) (means from)) rest) ≡ one_token a t.table means t.row
    go true e again =
        let is : from ≡ t.row = eq_from from t.row e in
        at (means from) e (none_past (from + 1) n (omega (arith, is))) ∙ ap (one_token a t.table means) is
    go false e again = past (means from) e ∙ again (omega (arith, low, apart from t.row e))
      where
        apart : (p q : ℕ) → (p == q) ≡ false → p ≡ q → ⊥
        apart p q e f = search (rules, e, f)

-- ---- blocks that don't have a token

none_among : (a : ℕ) (t : Token) (b table : ℕ) (means : ℕ → Option Meaning) → ((r : ℕ) (m : Meaning) → is_row_of a t (token_row b table r m) ≡ false) → (rs : List ℕ) → find (is_row_of a t) (filter_map (one_token b table means) rs) ≡ None
none_among a t b table means h [] = refl
none_among a t b table means h (r ∷ rs) = go (means r) (none_among a t b table means h rs)
  where
    go : (o : Option Meaning) → find (is_row_of a t) (filter_map (one_token b table means) rs) ≡ None → find (is_row_of a t) (cons_option (option_map (token_row b table r) o) (filter_map (one_token b table means) rs)) ≡ None
    go None k = k
    go (Some m) k = ap (λ (c : Bool). cond c (Some (token_row b table r m)) (find (is_row_of a t) (filter_map (one_token b table means) rs))) (h r m) ∙ k

pub none_row : (a : ℕ) (t : Token) (means : ℕ → Option Meaning) (from n : ℕ) → ((r : ℕ) → from ≤ r → r < from + n → (r == t.row) ≡ false) → find (is_row_of a t) (filter_map (one_token a t.table means) (range_with_len from n)) ≡ None
none_row a t means from zero h = refl
none_row a t means from (suc n) h = go (means from) (none_row a t means (from + 1) n (λ r low high. h r (omega (arith, low)) (omega (arith, high)))) (h from (omega arith) (omega arith))
  where
    go : (o : Option Meaning) → find (is_row_of a t) (filter_map (one_token a t.table means) (range_with_len (from + 1) n)) ≡ None → (from == t.row) ≡ false
        → find (is_row_of a t) (cons_option (option_map (token_row a t.table from) o) (filter_map (one_token a t.table means) (range_with_len (from + 1) n))) ≡ None
    go None k e = k
    go (Some m) k e =
        ap (λ (c : Bool). cond c (Some (token_row a t.table from m)) (find (is_row_of a t) (filter_map (one_token a t.table means) (range_with_len (from + 1) n))))
        (ap (λ (b : Bool). b && ((t.table == t.table) && (from == t.row))) (eq_itself a) ∙ ap (λ (b : Bool). b && (from == t.row)) (eq_itself t.table) ∙ e)
        ∙ k

text_none : (a : ℕ) (t : Token) (b at : ℕ) (o : Option (List ℕ)) → ((r : ℕ) (m : Meaning) → is_row_of a t (token_row b USER_STRING r m) ≡ false) → find (is_row_of a t) (text_row b at o) ≡ None
text_none a t b at None h = refl
text_none a t b at (Some bytes) h = ap (λ (c : Bool). cond c (Some (token_row b USER_STRING at (OfText (units_of bytes)))) None) (h at (OfText (units_of bytes)))

pub no_text : (a : ℕ) (t : Token) (b : ℕ) (heap : List ℕ) → ((r : ℕ) (m : Meaning) → is_row_of a t (token_row b USER_STRING r m) ≡ false) → (n at : ℕ) → find (is_row_of a t) (texts_from b heap n at) ≡ None
unfolding texts_from
no_text a t b heap h zero at = refl
no_text a t b heap h (suc n) at =
    find-append (is_row_of a t) (text_row b at (blob_at heap at)) (onwards (texts_from b heap n) at (packed_at heap at))
    ∙ ap (λ (o : Option TokenRow). option_or o (find (is_row_of a t) (onwards (texts_from b heap n) at (packed_at heap at)))) (text_none a t b at (blob_at heap at) h)
    ∙ later (λ k. no_text a t b heap h n k) (packed_at heap at)
  where
    later : ((k : ℕ) → find (is_row_of a t) (texts_from b heap n k) ≡ None) → (o : Option (ℕ × ℕ)) → find (is_row_of a t) (onwards (texts_from b heap n) at o) ≡ None
    later again None = refl
    later again (Some p) = again (next_entry at p)

other_assembly : (a : ℕ) (t : Token) (b table : ℕ) → (b == a) ≡ false → (r : ℕ) (m : Meaning) → is_row_of a t (token_row b table r m) ≡ false
other_assembly a t b table e r m = ap (λ (c : Bool). c && ((table == t.table) && (r == t.row))) e

pub other_table : (a : ℕ) (t : Token) (b table : ℕ) → (table == t.table) ≡ false → (r : ℕ) (m : Meaning) → is_row_of a t (token_row b table r m) ≡ false
other_table a t b table e r m = go (b == a)
  where
    go : (c : Bool) → (c && ((table == t.table) && (r == t.row))) ≡ false
    go true = ap (λ (d : Bool). d && (r == t.row)) e
    go false = refl

-- ---- rows noted once

-- the first row of a token is what is found among them
abbrev row_at : ℕ → ℕ → ℕ → TokenRow → Bool
row_at a table number row = (row.assembly == a) && ((row.token.table == table) && (row.token.row == number))

and_first : (a b : Bool) → (a && b) ≡ true → a ≡ true
and_first true b e = refl
and_first false b e = e

and_second : (a b : Bool) → (a && b) ≡ true → b ≡ true
and_second true b e = e
and_second false b e = absurd cc

map_some : {A B : Type 0} (f : A → B) (o : Option A) → is_some (option_map f o) ≡ is_some o
map_some f None = refl
map_some f (Some v) = refl

some_or : {A : Type 0} (o q : Option A) → is_some o ≡ true → option_or o q ≡ o
some_or None q e = absurd cc
some_or (Some v) q e = refl

module _ (a : ℕ) (t : Token) where
  known : (rows : List TokenRow) (x : TokenRow) → is_row_of a t x ≡ true → is_some (meaning_among rows x.assembly x.token) ≡ true → is_some (find (is_row_of a t) rows) ≡ true
  known rows x e h =
      let one : x.assembly ≡ a = eq_from x.assembly a (and_first (x.assembly == a) ((x.token.table == t.table) && (x.token.row == t.row)) e) in
      let both : ((x.token.table == t.table) && (x.token.row == t.row)) ≡ true = and_second (x.assembly == a) ((x.token.table == t.table) && (x.token.row == t.row)) e in
      let two : x.token.table ≡ t.table = eq_from x.token.table t.table (and_first (x.token.table == t.table) (x.token.row == t.row) both) in
      let three : x.token.row ≡ t.row = eq_from x.token.row t.row (and_second (x.token.table == t.table) (x.token.row == t.row) both) in
      sym (ap (λ (n : ℕ). is_some (find (row_at n x.token.table x.token.row) rows)) one
      ∙ ap (λ (n : ℕ). is_some (find (row_at a n x.token.row) rows)) two
      ∙ ap (λ (n : ℕ). is_some (find (row_at a t.table n) rows)) three)
      ∙ sym (map_some (λ (row : TokenRow). row.meaning) (find (is_row_of x.assembly x.token) rows)) ∙ h

  pub noted_found : (rows xs : List TokenRow) → find (is_row_of a t) (all_noted rows xs) ≡ find (is_row_of a t) (rows ++ xs)
  noted_found rows [] = ap (find (is_row_of a t)) (sym (append-nil rows))
  noted_found rows (x ∷ xs) = noted_found (noted_row rows x) xs ∙ go (is_some (meaning_among rows x.assembly x.token)) (λ h e. known rows x e h)
    where
      skip : (b : Bool) → is_row_of a t x ≡ b → (b ≡ true → is_some (find (is_row_of a t) rows) ≡ true) → find (is_row_of a t) (rows ++ xs) ≡ find (is_row_of a t) (rows ++ x ∷ xs)
      skip true e h =
          find-append (is_row_of a t) rows xs
          ∙ some_or (find (is_row_of a t) rows) (find (is_row_of a t) xs) (h refl)
          ∙ sym (some_or (find (is_row_of a t) rows) (find (is_row_of a t) (x ∷ xs)) (h refl))
          ∙ sym (find-append (is_row_of a t) rows (x ∷ xs))
      skip false e h =
          find-append (is_row_of a t) rows xs
          ∙ ap (λ (b : Bool). option_or (find (is_row_of a t) rows) (cond b (Some x) (find (is_row_of a t) xs))) (sym e)
          ∙ sym (find-append (is_row_of a t) rows (x ∷ xs))

      go : (b : Bool) → (b ≡ true → is_row_of a t x ≡ true → is_some (find (is_row_of a t) rows) ≡ true) → find (is_row_of a t) ((if b then rows else rows ++ x ∷ []) ++ xs) ≡ find (is_row_of a t) (rows ++ x ∷ xs)
      go true h = skip (is_row_of a t x) refl (h refl)
      go false h = ap (find (is_row_of a t)) (append_assoc rows (x ∷ []) xs)

-- ---- the tokens of a set

module _ (u : Assemblies) (a : ℕ) (t : Token) where
  abbrev pub in_table : Option TokenRow
  in_table = find (is_row_of a t) (table_tokens u a t.table)

  abbrev pub in_texts : Option TokenRow
  in_texts = find (is_row_of a t) (user_texts a (user_strings (assembly_at u a).meta))

  abbrev pub in_assembly : Option TokenRow
  in_assembly = option_or (if any (λ b. b == t.table) token_tables then in_table else None) in_texts

  in_assembly_is : find (is_row_of a t) (assembly_tokens u a) ≡ in_assembly
  in_assembly_is =
      find-append (is_row_of a t) (flat_map (table_tokens u a) token_tables) (user_texts a (user_strings (assembly_at u a).meta))
      ∙ ap (λ (o : Option TokenRow). option_or o in_texts)
      (pick (is_row_of a t) (table_tokens u a) t.table (λ b e. none_among a t a b (row_meaning u a b) (other_table a t a b e) (rows_in (assembly_at u a) b)) token_tables)

  none_elsewhere : (b : ℕ) → (b == a) ≡ false → find (is_row_of a t) (assembly_tokens u b) ≡ None
  none_elsewhere b e =
      find-append (is_row_of a t) (flat_map (table_tokens u b) token_tables) (user_texts b (user_strings (assembly_at u b).meta))
      ∙ ap (λ (o : Option TokenRow). option_or o (find (is_row_of a t) (user_texts b (user_strings (assembly_at u b).meta)))) (tables token_tables)
      ∙ no_text a t b (user_strings (assembly_at u b).meta) (other_assembly a t b USER_STRING e) (length (user_strings (assembly_at u b).meta)) 1
    where
      tables : (ts : List ℕ) → find (is_row_of a t) (flat_map (table_tokens u b) ts) ≡ None
      tables [] = refl
      tables (table ∷ ts) =
          find-append (is_row_of a t) (table_tokens u b table) (flat_map (table_tokens u b) ts)
          ∙ ap (λ (o : Option TokenRow). option_or o (find (is_row_of a t) (flat_map (table_tokens u b) ts))) (none_among a t b table (row_meaning u b table) (other_assembly a t b table e) (rows_in (assembly_at u b) table))
          ∙ tables ts

  pub meaning_is : meaning_of (program_of u) a t ≡ option_map (λ (row : TokenRow). row.meaning) (if any (λ b. b == a) (range_with_len 0 (length u)) then in_assembly else None)
  unfolding meaning_of program_of
  meaning_is =
      ap (option_map (λ (row : TokenRow). row.meaning))
      (noted_found a t [] (flat_map (assembly_tokens u) (range_with_len 0 (length u)))
      ∙ pick (is_row_of a t) (assembly_tokens u) a none_elsewhere (range_with_len 0 (length u))
      ∙ ap (λ (o : Option TokenRow). if any (λ b. b == a) (range_with_len 0 (length u)) then o else None) in_assembly_is)
