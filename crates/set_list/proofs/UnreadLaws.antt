-- The first row of an attribute that isn't read yet.
use Rattle.std.proofs.Common.{◌≡◌, ◌⊎◌, ◌∙◌, sym, ap, subst, inl, inr, arith, ℕ, ◌+◌, ◌<◌, ◌≤◌, Bool, true, false, [], ◌∷◌, Option, Some, None}
use Rattle.std.specs.Prelude.{MatchOption}
use Rattle.std.proofs.lemmas.Bool.{cases_lt}
use Rattle.cil_base.specs.declared.rule.Rule.TheVariants.{Z1}
use Rattle.cil_base.specs.declared.tables.TheConstants.{TYPE_DEF, TYPE_REF}
use Rattle.cil_base.specs.declared.refusal.Refusal.{Refusal}
use Rattle.cil_base.specs.Refusals.{First, NoneBroken, is_less, key}
use Rattle.cil_base.specs.Rules.{rule_number}
use Rattle.cil_base.proofs.RefusalLaws.{not_less, less_refl}
use Rattle.set_rows.specs.Sets.{Assembly, count_in}
use Rattle.set_list.specs.Unread.{is_unread_row, refusal_in, IsUnread, IsUnreadIn}

row_after : (table i j : ℕ) → i ≤ j → is_less (key (refusal_in table j)) (key (refusal_in table i)) ≡ false
row_after table i j le =
    not_less 0 0 (table ∷ j ∷ 0 ∷ rule_number Z1 ∷ []) (table ∷ i ∷ 0 ∷ rule_number Z1 ∷ []) (omega arith)
    (λ e. not_less table table (j ∷ 0 ∷ rule_number Z1 ∷ []) (i ∷ 0 ∷ rule_number Z1 ∷ []) (omega arith)
    (λ f. not_less j i (0 ∷ rule_number Z1 ∷ []) (0 ∷ rule_number Z1 ∷ []) (omega (arith, le)) (λ g. less_refl (0 ∷ rule_number Z1 ∷ []))))

table_after : (i j : ℕ) → is_less (key (refusal_in TYPE_DEF j)) (key (refusal_in TYPE_REF i)) ≡ false
table_after i j =
    not_less 0 0 (TYPE_DEF ∷ j ∷ 0 ∷ rule_number Z1 ∷ []) (TYPE_REF ∷ i ∷ 0 ∷ rule_number Z1 ∷ []) (omega arith)
    (λ e. not_less TYPE_DEF TYPE_REF (j ∷ 0 ∷ rule_number Z1 ∷ []) (i ∷ 0 ∷ rule_number Z1 ∷ []) (omega arith) (λ f. absurd (omega (arith, f))))

same_keys : (r s t u : Refusal) → r ≡ t → s ≡ u → is_less (key t) (key u) ≡ false → is_less (key r) (key s) ≡ false
same_keys r s t u e f h = ap (λ (x : Refusal). is_less (key x) (key s)) e ∙ ap (λ (x : Refusal). is_less (key t) (key x)) f ∙ h

module _ (x : Assembly) (table : ℕ) where
  -- none of the first rows is one
  abbrev pub NoneTo : ℕ → Type 0
  NoneTo k = (row : ℕ) → 1 ≤ row → row ≤ k → is_unread_row x table row ≡ false

  pub none_yet : NoneTo 0
  none_yet row low high = absurd (omega (arith, low, high))

  pub none_more : (k : ℕ) → NoneTo k → is_unread_row x table (k + 1) ≡ false → NoneTo (k + 1)
  none_more k none here row low high = go (cases_lt k row)
    where
      go : (k < row) ⊎ (row ≤ k) → is_unread_row x table row ≡ false
      go (inl l) =
          let same : k + 1 ≡ row = omega (arith, l, high) in
          subst (λ (n : ℕ). is_unread_row x table n ≡ false) same here
      go (inr le) = none row low le

  true_isnt : (b : Bool) → b ≡ true → b ≡ false → ⊥
  true_isnt b e f = let g : true ≡ false = sym e ∙ f in absurd cc

  pub first_row : (k : ℕ) (r : Refusal) → k < count_in x table → NoneTo k → is_unread_row x table (k + 1) ≡ true → r ≡ refusal_in table (k + 1) → First (IsUnreadIn x table) r
  first_row k r l none here is = record {
    broken = record { row = k + 1; low = omega arith; high = omega (arith, l); unread = here; is = is };
    none_before = λ s h. go s h (cases_lt k h.row);
  }
    where
      go : (s : Refusal) (h : IsUnreadIn x table s) → (k < h.row) ⊎ (h.row ≤ k) → is_less (key s) (key r) ≡ false
      go s h (inl later) = same_keys s r (refusal_in table h.row) (refusal_in table (k + 1)) h.is is (row_after table (k + 1) h.row (omega (arith, later)))
      go s h (inr before) = absurd (true_isnt (is_unread_row x table h.row) h.unread (none h.row h.low before))

  pub none_of_rows : (k : ℕ) → k ≡ count_in x table → NoneTo k → NoneBroken (IsUnreadIn x table)
  none_of_rows k e none r h = let high = h.high in true_isnt (is_unread_row x table h.row) h.unread (none h.row h.low (omega (arith, high, e)))

module _ (x : Assembly) where
  pub in_first_table : (r : Refusal) → First (IsUnreadIn x TYPE_REF) r → First (IsUnread x) r
  in_first_table r f = record { broken = inl f.broken; none_before = λ s h. go s h }
    where
      go : (s : Refusal) → IsUnread x s → is_less (key s) (key r) ≡ false
      go s (inl h) = f.none_before s h
      go s (inr h) = same_keys s r (refusal_in TYPE_DEF h.row) (refusal_in TYPE_REF f.broken.row) h.is f.broken.is (table_after f.broken.row h.row)

  in_second_table : (r : Refusal) → NoneBroken (IsUnreadIn x TYPE_REF) → First (IsUnreadIn x TYPE_DEF) r → First (IsUnread x) r
  in_second_table r none f = record { broken = inr f.broken; none_before = λ s h. go s h }
    where
      go : (s : Refusal) → IsUnread x s → is_less (key s) (key r) ≡ false
      go s (inl h) = absurd (none s h)
      go s (inr h) = f.none_before s h

  none_in_tables : NoneBroken (IsUnreadIn x TYPE_REF) → NoneBroken (IsUnreadIn x TYPE_DEF) → NoneBroken (IsUnread x)
  none_in_tables one two r (inl h) = one r h
  none_in_tables one two r (inr h) = two r h

  pub both_tables : NoneBroken (IsUnreadIn x TYPE_REF) → (o : Option Refusal) → MatchOption o (NoneBroken (IsUnreadIn x TYPE_DEF)) (First (IsUnreadIn x TYPE_DEF)) → MatchOption o (NoneBroken (IsUnread x)) (First (IsUnread x))
  both_tables one None h = none_in_tables one h
  both_tables one (Some r) h = in_second_table r one h
