-- The header's two places, and what an unbroken header says of the counts.
use Rattle.std.proofs.Common.{◌≡◌, ◌⊎◌, ℕ, zero, suc, ◌+◌, ◌*◌, ◌<◌, ◌≤◌, Bool, true, false, not, cond, eqb, ◌&&◌, ◌||◌, List, [], ◌∷◌, length, map, Option, Some, None, refl, sym, ap, ◌∙◌, subst, inl, inr, arith}
use Rattle.std.specs.List.{range_with_len, list_any}
use Rattle.std.specs.Prelude.{MatchOption}
use Rattle.std.proofs.lemmas.List.{get_or_past}
use Rattle.std.proofs.lemmas.List.FromFn.{get_or-map-range_with_len, length-map-range_with_len}
use Rattle.std.proofs.lemmas.Bool.{cases_lt, cases_Bool, eq-eqb}
use Rattle.std.proofs.lemmas.Option.{MatchOption-at_some, MatchOption-at_none}
use Rattle.cli_heaps.specs.Root.{tables, tables_offset}
use Rattle.cil_base.specs.declared.rule.Rule.TheVariants.{M3}
use Rattle.cil_base.specs.declared.refusal.Refusal.{Refusal}
use Rattle.cil_base.specs.Refusals.{Fails, First, NoneBroken, first_of, key, is_less}
use Rattle.cil_base.proofs.RefusalLaws.{not_less, first_is_first, Rises}
use Rattle.cil_base.specs.Numbers.{num}
use Rattle.cli_tables.specs.Schema.{columns_of}
use Rattle.cli_tables.specs.Stream.{has_table, tables_below, row_count, counts_in}
use Rattle.cli_tables.specs.Tables.{rows_in}
use Rattle.cli_tables.specs.TableRules.{header_tests, is_unread, has_unread, is_one_assembly, HeaderBroken}

pub any_range : (f : ℕ → Bool) (a n k : ℕ) → a ≤ k → k < a + n → f k ≡ true → list_any f (range_with_len a n) ≡ true
any_range f a zero k le lt e = absurd (omega arith)
any_range f a (suc n) k le lt e =
    elim (cases_lt a k) [
      | inl less ↦ let rest = any_range f (a + 1) n k (omega arith) (omega arith) e in or_right (f a) (list_any f (range_with_len (a + 1) n)) rest
      | inr more ↦ let same : k ≡ a = omega arith in or_left (f a) (list_any f (range_with_len (a + 1) n)) (ap f (sym same) ∙ e)
    ]
  where
    or_right : (p q : Bool) → q ≡ true → (p || q) ≡ true
    or_right true q h = refl
    or_right false q h = h

    or_left : (p q : Bool) → p ≡ true → (p || q) ≡ true
    or_left true q h = refl
    or_left false q h = absurd cc

pub none_range : (f : ℕ → Bool) (a n : ℕ) → ((k : ℕ) → a ≤ k → k < a + n → f k ≡ false) → list_any f (range_with_len a n) ≡ false
none_range f a zero h = refl
none_range f a (suc n) h =
    ap (λ (b : Bool). b || list_any f (range_with_len (a + 1) n)) (h a (omega arith) (omega arith)) ∙ none_range f (a + 1) n (λ k le lt. h k (omega arith) (omega arith))

rises : (bytes : List ℕ) (offset a : ℕ) → Rises (key (record { rule = M3; assembly = a; table = 0; row = 0; at = 0 })) (header_tests bytes offset a)
rises bytes offset a = (step a 0 (offset + 6) (omega arith), (step a (offset + 6) (offset + 8) (omega arith), tt))
  where
    step : (a x y : ℕ) → x ≤ y → is_less (a ∷ 0 ∷ 0 ∷ y ∷ 8 ∷ []) (a ∷ 0 ∷ 0 ∷ x ∷ 8 ∷ []) ≡ false
    step a x y le =
        not_less a a (0 ∷ 0 ∷ y ∷ 8 ∷ []) (0 ∷ 0 ∷ x ∷ 8 ∷ []) (omega arith) (λ _. not_less y x (8 ∷ []) (8 ∷ []) le (λ _. refl))

pub header_first : (bytes : List ℕ) (offset a : ℕ) → MatchOption (first_of (header_tests bytes offset a)) (NoneBroken (Fails (header_tests bytes offset a))) (First (Fails (header_tests bytes offset a)))
header_first bytes offset a = first_is_first (key (record { rule = M3; assembly = a; table = 0; row = 0; at = 0 })) (header_tests bytes offset a) (rises bytes offset a)

-- a table that isn't read has no rows
pub unread_rows : (bytes : List ℕ) (offset a t : ℕ) → NoneBroken (Fails (header_tests bytes offset a)) → length (columns_of t) ≡ 0 → rows_in bytes t ≡ 0
unfolding counts_in has_unread
unread_rows bytes offset a t none empty =
    elim (cases_lt t 64) [
      | inl lt ↦ get_or-map-range_with_len (row_count bytes) 0 64 t t 0 lt (omega arith) ∙ go lt (cases_Bool (has_table bytes t))
      | inr past ↦ get_or_past (map (row_count bytes) (range_with_len 0 64)) t 0 (omega (arith, past, length-map-range_with_len (row_count bytes) 0 64))
    ]
  where
    fails : (b : Bool) → has_unread bytes ≡ true → (has_unread bytes || b) ≡ true
    fails b h = ap (λ (x : Bool). x || b) h

    go : t < 64 → (has_table bytes t ≡ true) ⊎ (has_table bytes t ≡ false) → row_count bytes t ≡ 0
    go lt (inl e) =
        let here : is_unread bytes t ≡ true = ap (λ (b : Bool). b && eqb (length (columns_of t)) 0) e ∙ eq-eqb (length (columns_of t)) 0 empty in
        let any : has_unread bytes ≡ true = any_range (is_unread bytes) 0 64 t (omega arith) (omega arith) here in
        absurd (none (record { rule = M3; assembly = a; table = 0; row = 0; at = offset + 8 }) (inr (inl (fails (not (is_one_assembly bytes)) any, refl))))
    go lt (inr e) = ap (λ (b : Bool). cond b (num bytes (24 + 4 * tables_below bytes t) 4) 0) e

pub refused_header : (meta stream : List ℕ) (offset a : ℕ) (r : Refusal) → stream ≡ tables meta → offset ≡ tables_offset meta → first_of (header_tests stream offset a) ≡ Some r → First (HeaderBroken meta a) r
unfolding HeaderBroken
refused_header meta stream offset a r s o e =
    let first : First (Fails (header_tests stream offset a)) r = MatchOption-at_some (NoneBroken (Fails (header_tests stream offset a))) (First (Fails (header_tests stream offset a))) r e (header_first stream offset a) in
    subst (λ (b : List ℕ). First (Fails (header_tests b (tables_offset meta) a)) r) s (subst (λ (n : ℕ). First (Fails (header_tests stream n a)) r) o first)

pub sound_header : (meta stream : List ℕ) (offset a : ℕ) → stream ≡ tables meta → offset ≡ tables_offset meta → first_of (header_tests stream offset a) ≡ None → NoneBroken (HeaderBroken meta a)
unfolding HeaderBroken
sound_header meta stream offset a s o e =
    let none : NoneBroken (Fails (header_tests stream offset a)) = MatchOption-at_none (NoneBroken (Fails (header_tests stream offset a))) (First (Fails (header_tests stream offset a))) e (header_first stream offset a) in
    subst (λ (b : List ℕ). NoneBroken (Fails (header_tests b (tables_offset meta) a))) s (subst (λ (n : ℕ). NoneBroken (Fails (header_tests stream n a))) o none)

pub header_fails : (meta : List ℕ) (a : ℕ) → NoneBroken (HeaderBroken meta a) → NoneBroken (Fails (header_tests (tables meta) (tables_offset meta) a))
unfolding HeaderBroken
header_fails meta a h = h

pub taken : (b : Bool) (x y : Refusal) (o : Option Refusal) → b ≡ true → x ≡ y → Some x ≡ cond b (Some y) o
taken b x y o e f = ap (λ (r : Refusal). Some r) f ∙ sym (ap (λ (t : Bool). cond t (Some y) o) e)
