-- Token rows, one row of a table after another.
use Rattle.std.proofs.Common.{◌≡◌, ◌∙◌, sym, ap, refl, ℕ, suc, ◌+◌, List, [], ◌∷◌, ◌++◌}
use Rattle.std.specs.Prelude.{Option, Some, None, option_to_list, filter_map, flat_map, Result, Ok, Err, OnOk}
use Rattle.std.proofs.lemmas.List.{append_assoc}
use Rattle.std.specs.List.{range_with_len, cons_option}
use Rattle.cil_model.specs.declared.program.TokenRow.{TokenRow}
use Rattle.cil_model.specs.TokenLists.{noted_row}
use Rattle.row_descriptions.specs.TokenTables.{all_noted}

pub noted_append : (rows xs ys : List TokenRow) → all_noted rows (xs ++ ys) ≡ all_noted (all_noted rows xs) ys
noted_append rows [] ys = refl
noted_append rows (x ∷ xs) ys = noted_append (noted_row rows x) xs ys

noted_option : (rows : List TokenRow) (o : Option TokenRow) (rest : List TokenRow) → all_noted rows (cons_option o rest) ≡ all_noted (all_noted rows (option_to_list o)) rest
noted_option rows None rest = refl
noted_option rows (Some r) rest = refl

pub noted_on : (h : ℕ → Option TokenRow) (rows rows' : List TokenRow) (k m n : ℕ) → m ≡ suc n → rows' ≡ all_noted rows (option_to_list (h (k + 1)))
    → all_noted rows' (filter_map h (range_with_len (k + 1 + 1) n)) ≡ all_noted rows (filter_map h (range_with_len (k + 1) m))
noted_on h rows rows' k m n e f =
    ap (λ (r : List TokenRow). all_noted r (filter_map h (range_with_len (k + 1 + 1) n))) f
    ∙ sym (ap (λ (j : ℕ). all_noted rows (filter_map h (range_with_len (k + 1) j))) e ∙ noted_option rows (h (k + 1)) (filter_map h (range_with_len (k + 1 + 1) n)))

-- the tokens of one table more
pub noted_table : (g : ℕ → List TokenRow) (table : ℕ) (rest : List ℕ) (texts rows rows' : List TokenRow) → rows' ≡ all_noted rows (g table)
    → all_noted rows' (flat_map g rest ++ texts) ≡ all_noted rows (flat_map g (table ∷ rest) ++ texts)
noted_table g table rest texts rows rows' e =
    ap (λ (r : List TokenRow). all_noted r (flat_map g rest ++ texts)) e
    ∙ sym (ap (all_noted rows) (append_assoc (g table) (flat_map g rest) texts) ∙ noted_append rows (g table) (flat_map g rest ++ texts))

pub on_ok : {V E : Type 0} (r : Result V E) {A B : Type 0} → (A → B) → OnOk r A → OnOk r B
on_ok (Ok v) f a = f a
on_ok (Err e) f a = tt
