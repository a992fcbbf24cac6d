-- Texts one after another, and token rows behind others.
use Rattle.std.proofs.Common.{◌≡◌, ◌∙◌, sym, ap, refl, arith, rules, ℕ, zero, suc, ◌+◌, ◌-◌, ◌≤◌, ◌<◌, List, [], ◌∷◌, ◌++◌, length, drop, Bool, true, false}
use Rattle.std.specs.Prelude.{Option, Some, None, ◌==◌, if◌then◌else◌}
use Rattle.std.proofs.lemmas.List.{drop_all}
use Rattle.cil_base.specs.Packed.{packed_at, packed_front}
use Rattle.cli_heaps.specs.Entries.{blob_at, counted_at}
use Rattle.cil_model.specs.declared.program.TokenRow.{TokenRow}
use Rattle.cil_model.specs.TokenLists.{noted_row}
use Rattle.row_descriptions.specs.TokenTables.{all_noted}
use Rattle.row_descriptions.specs.UserTexts.{text_row, onwards, next_entry, texts_from}

pub all_noted-append : (rows xs ys : List TokenRow) → all_noted rows (xs ++ ys) ≡ all_noted (all_noted rows xs) ys
all_noted-append rows [] ys = refl
all_noted-append rows (x ∷ xs) ys = all_noted-append (noted_row rows x) xs ys

no_packed : (heap : List ℕ) (at : ℕ) → length heap ≤ at → packed_at heap at ≡ None
no_packed heap at h = ap packed_front (drop_all at heap h)

no_blob : (heap : List ℕ) (at : ℕ) → length heap ≤ at → 1 ≤ at → blob_at heap at ≡ None
no_blob heap at h low =
    ap (λ (b : Bool). if b then Some [] else counted_at heap at (packed_at heap at)) (not_zero at low)
    ∙ ap (counted_at heap at) (no_packed heap at h)
  where
    not_zero : (n : ℕ) → 1 ≤ n → (n == 0) ≡ false
    not_zero n l = search (rules, l)

-- behind the heap there is no text
pub no_texts : (a : ℕ) (heap : List ℕ) (n at : ℕ) → length heap ≤ at → 1 ≤ at → texts_from a heap n at ≡ []
unfolding texts_from
no_texts a heap zero at h low = refl
no_texts a heap (suc n) at h low =
    ap (λ (o : Option (List ℕ)). text_row a at o ++ onwards (texts_from a heap n) at (packed_at heap at)) (no_blob heap at h low)
    ∙ ap (onwards (texts_from a heap n) at) (no_packed heap at h)

module _ (a : ℕ) (heap : List ℕ) (n at : ℕ) (rows rows' : List TokenRow) (noted : rows' ≡ all_noted rows (text_row a at (blob_at heap at))) where
  by_entry : all_noted rows (texts_from a heap (suc n) at) ≡ all_noted rows' (onwards (texts_from a heap n) at (packed_at heap at))
  unfolding texts_from
  by_entry = all_noted-append rows (text_row a at (blob_at heap at)) (onwards (texts_from a heap n) at (packed_at heap at))
      ∙ ap (λ (l : List TokenRow). all_noted l (onwards (texts_from a heap n) at (packed_at heap at))) (sym noted)

  -- the last entry
  pub texts_end : packed_at heap at ≡ None → all_noted rows (texts_from a heap (suc n) at) ≡ rows'
  texts_end e = by_entry ∙ ap (λ (o : Option (ℕ × ℕ)). all_noted rows' (onwards (texts_from a heap n) at o)) e

  -- one entry more
  pub texts_on : (size width : ℕ) → packed_at heap at ≡ Some (size, width) → all_noted rows (texts_from a heap (suc n) at) ≡ all_noted rows' (texts_from a heap n (at + width + size))
  texts_on size width e = by_entry ∙ ap (λ (o : Option (ℕ × ℕ)). all_noted rows' (onwards (texts_from a heap n) at o)) e
