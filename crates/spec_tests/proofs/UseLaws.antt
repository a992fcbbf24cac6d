-- The rows that name the type of a TypeSpec row, and the contexts that they stand for.
use Rattle.std.proofs.Common.{◌≡◌, ◌∙◌, sym, ap, subst, refl, arith, rules, ℕ, zero, suc, ◌+◌, ◌-◌, ◌*◌, ◌/◌, ◌%◌, ◌≤◌, ◌<◌, Bool, true, false, ◌||◌, ◌&&◌, List, [], ◌∷◌, ◌++◌, length, get_or}
use Rattle.std.specs.Prelude.{Option, Some, None, Result, Ok, Err, IfOk, map, filter, cond, if◌then◌else◌, ◌==◌}
use Rattle.std.specs.List.{range_with_len}
use Rattle.std.proofs.lemmas.Bool.{eqb-true}
use Rattle.std.proofs.lemmas.List.FromFn.{get_or-map-range_with_len, length-map-range_with_len}
use Rattle.cil_base.specs.declared.tables.TheConstants.{GENERIC_PARAM_CONSTRAINT, INTERFACE_IMPL, MEMBER_REF, METHOD_IMPL, TYPE_DEF, TYPE_SPEC}
use Rattle.cli_sigs.specs.declared.types.SigTy.{SigTy}
use Rattle.set_rows.specs.Sets.{Assembly, count_in, rows_in, cell}
use Rattle.set_types.specs.SignatureTypes.{Coded}
use Rattle.set_types.specs.SignatureRules.{any, passes}
use Rattle.row_descriptions.specs.RowLists.{AreListed, rows_under, rows_with}
use Rattle.member_table.specs.MemberRules.{contexts, is_parent}
use Rattle.spec_tests.specs.SpecTests.{AreUses, IsNarrowest, context_at, parent_rows, parent_spec, shared, strays_in}
use Rattle.spec_tests.proofs.StrayLaws.{narrowest_append, shared_passes}

-- ---- rows of one test or of another

module _ {A : Type 0} (f : A → Bool) (g : ℕ → A) (p q : ℕ → Bool) where
  both : (a b d : Bool) → (a || (b || d)) ≡ ((a || b) || (a || d))
  both true b d = refl
  both false b d = refl

  first : (a b d : Bool) → (a || (b || d)) ≡ ((a || b) || d)
  first true b d = refl
  first false b d = refl

  second : (a b d : Bool) → (a || (b || d)) ≡ (b || (a || d))
  second true true d = refl
  second true false d = refl
  second false b d = refl

  any_kept : (xs : List ℕ) → any f (map g (filter (λ x. p x || q x) xs)) ≡ (any f (map g (filter p xs)) || any f (map g (filter q xs)))
  any_kept [] = refl
  any_kept (x ∷ xs) = go (any_kept xs) (p x) (q x)
    where
      go : any f (map g (filter (λ y. p y || q y) xs)) ≡ (any f (map g (filter p xs)) || any f (map g (filter q xs)))
          → (b d : Bool) → any f (map g (cond (b || d) (x ∷ filter (λ y. p y || q y) xs) (filter (λ y. p y || q y) xs)))
          ≡ (any f (map g (cond b (x ∷ filter p xs) (filter p xs))) || any f (map g (cond d (x ∷ filter q xs) (filter q xs))))
      go h true true = ap (λ (b : Bool). f (g x) || b) h ∙ both (f (g x)) (any f (map g (filter p xs))) (any f (map g (filter q xs)))
      go h true false = ap (λ (b : Bool). f (g x) || b) h ∙ first (f (g x)) (any f (map g (filter p xs))) (any f (map g (filter q xs)))
      go h false true = ap (λ (b : Bool). f (g x) || b) h ∙ second (f (g x)) (any f (map g (filter p xs))) (any f (map g (filter q xs)))
      go h false false = h

narrowest_kept : (g : ℕ → ℕ × ℕ) (p q : ℕ → Bool) (xs : List ℕ) (o o' : Option (ℕ × ℕ)) → IsNarrowest (map g (filter p xs)) o → IsNarrowest (map g (filter q xs)) o' → IsNarrowest (map g (filter (λ x. p x || q x) xs)) (shared o o')
narrowest_kept g p q xs o o' h k = λ c types.
    any_kept (strays_in c types) g p q xs
    ∙ ap (λ (b : Bool). b || any (strays_in c types) (map g (filter q xs))) (h c types)
    ∙ ap (λ (b : Bool). passes (strays_in c types) o || b) (k c types)
    ∙ sym (shared_passes c types o o')

-- ---- the five lists of a row

pub narrowest_all : (x : Assembly) (types interfaces constraints firsts seconds : List (List ℕ)) (row : ℕ) (a b d e g : Option (ℕ × ℕ)) → AreUses x types interfaces constraints firsts seconds → 1 ≤ row → row ≤ count_in x TYPE_SPEC
    → IsNarrowest (map (context_at x TYPE_DEF) (get_or types (row * 4 + 2) [])) a → IsNarrowest (map (context_at x INTERFACE_IMPL) (get_or interfaces (row * 4 + 2) [])) b
    → IsNarrowest (map (context_at x METHOD_IMPL) (get_or firsts row [])) d → IsNarrowest (map (context_at x METHOD_IMPL) (get_or seconds row [])) e
    → IsNarrowest (map (context_at x GENERIC_PARAM_CONSTRAINT) (get_or constraints (row * 4 + 2) [])) g
    → IsNarrowest (contexts x row) (shared a (shared b (shared (shared d e) g)))
narrowest_all x types interfaces constraints firsts seconds row a b d e g u some most ha hb hd he hg =
    let ta : IsNarrowest (map (context_at x TYPE_DEF) (rows_with x TYPE_DEF 3 (row * 4 + 2))) a = subst (λ (l : List ℕ). IsNarrowest (map (context_at x TYPE_DEF) l) a) (u.of_types row most) ha in
    let tb : IsNarrowest (map (context_at x INTERFACE_IMPL) (rows_with x INTERFACE_IMPL 1 (row * 4 + 2))) b = subst (λ (l : List ℕ). IsNarrowest (map (context_at x INTERFACE_IMPL) l) b) (u.of_interfaces row most) hb in
    let td : IsNarrowest (map (context_at x METHOD_IMPL) (parent_rows x 1 row)) d = subst (λ (l : List ℕ). IsNarrowest (map (context_at x METHOD_IMPL) l) d) (u.of_firsts row some most) hd in
    let te : IsNarrowest (map (context_at x METHOD_IMPL) (parent_rows x 2 row)) e = subst (λ (l : List ℕ). IsNarrowest (map (context_at x METHOD_IMPL) l) e) (u.of_seconds row some most) he in
    let tg : IsNarrowest (map (context_at x GENERIC_PARAM_CONSTRAINT) (rows_with x GENERIC_PARAM_CONSTRAINT 1 (row * 4 + 2))) g = subst (λ (l : List ℕ). IsNarrowest (map (context_at x GENERIC_PARAM_CONSTRAINT) l) g) (u.of_constraints row most) hg in
    let kept = narrowest_kept (context_at x METHOD_IMPL) (λ i. is_parent x row (cell x METHOD_IMPL i 1)) (λ i. is_parent x row (cell x METHOD_IMPL i 2)) (rows_in x METHOD_IMPL) d e td te in
    narrowest_append (map (context_at x TYPE_DEF) (rows_with x TYPE_DEF 3 (row * 4 + 2)))
    (map (context_at x INTERFACE_IMPL) (rows_with x INTERFACE_IMPL 1 (row * 4 + 2)) ++ (map (context_at x METHOD_IMPL) (filter (λ i. is_parent x row (cell x METHOD_IMPL i 1) || is_parent x row (cell x METHOD_IMPL i 2)) (rows_in x METHOD_IMPL)) ++ map (context_at x GENERIC_PARAM_CONSTRAINT) (rows_with x GENERIC_PARAM_CONSTRAINT 1 (row * 4 + 2))))
    a (shared b (shared (shared d e) g)) ta
    (narrowest_append (map (context_at x INTERFACE_IMPL) (rows_with x INTERFACE_IMPL 1 (row * 4 + 2)))
    (map (context_at x METHOD_IMPL) (filter (λ i. is_parent x row (cell x METHOD_IMPL i 1) || is_parent x row (cell x METHOD_IMPL i 2)) (rows_in x METHOD_IMPL)) ++ map (context_at x GENERIC_PARAM_CONSTRAINT) (rows_with x GENERIC_PARAM_CONSTRAINT 1 (row * 4 + 2)))
    b (shared (shared d e) g) tb
    (narrowest_append (map (context_at x METHOD_IMPL) (filter (λ i. is_parent x row (cell x METHOD_IMPL i 1) || is_parent x row (cell x METHOD_IMPL i 2)) (rows_in x METHOD_IMPL)))
    (map (context_at x GENERIC_PARAM_CONSTRAINT) (rows_with x GENERIC_PARAM_CONSTRAINT 1 (row * 4 + 2))) (shared d e) g kept tg))

-- ---- lists by number

filter_same : (f g : ℕ → Bool) (a n : ℕ) → ((r : ℕ) → a ≤ r → r < a + n → f r ≡ g r) → filter f (range_with_len a n) ≡ filter g (range_with_len a n)
filter_same f g a zero h = refl
filter_same f g a (suc n) h =
    ap (λ (b : Bool). cond b (a ∷ filter f (range_with_len (a + 1) n)) (filter f (range_with_len (a + 1) n))) (h a (omega arith) (omega arith))
    ∙ ap (λ (l : List ℕ). cond (g a) (a ∷ l) l) (filter_same f g (a + 1) n (λ r low high. h r (omega (arith, low)) (omega (arith, high))))

eq_refl : (n : ℕ) → (n == n) ≡ true
eq_refl n = search rules

-- two equations that hold together
same_tests : (a b d e : ℕ) → (a ≡ b → d ≡ e) → (d ≡ e → a ≡ b) → (a == b) ≡ (d == e)
same_tests a b d e to from = go (a == b) (d == e) refl refl
  where
    holds : (m n : ℕ) → m ≡ n → (m == n) ≡ true
    holds m n h = ap (λ (k : ℕ). m == k) (sym h) ∙ eq_refl m

    go : (u v : Bool) → (a == b) ≡ u → (d == e) ≡ v → (a == b) ≡ (d == e)
    go true v h k = h ∙ sym (holds d e (to (eqb-true a b h)))
    go false true h k = holds a b (from (eqb-true d e k)) ∙ sym k
    go false false h k = h ∙ sym k

no_zero : (row : ℕ) → 1 ≤ row → (0 == row) ≡ false
no_zero row h = search (rules, h)

parent_number : (d row : ℕ) → 1 ≤ row → ((if d % 8 == 4 then d / 8 else 0) == row) ≡ (d == row * 8 + 4)
parent_number d row some = go (d % 8 == 4) refl (d == row * 8 + 4) refl
  where
    go : (b : Bool) → (d % 8 == 4) ≡ b → (v : Bool) → (d == row * 8 + 4) ≡ v → ((if b then d / 8 else 0) == row) ≡ (d == row * 8 + 4)
    go true e v g = let is : d % 8 ≡ 4 = eqb-true (d % 8) 4 e in same_tests (d / 8) row d (row * 8 + 4) (λ h. omega (arith, h, is)) (λ h. omega (arith, h))
    go false e true g =
        let is : d ≡ row * 8 + 4 = eqb-true d (row * 8 + 4) g in
        let four : d % 8 ≡ 4 = omega (arith, is) in
        let no : (d % 8 == 4) ≡ true = ap (λ (k : ℕ). k == 4) four in absurd cc
    go false e false g = no_zero row some ∙ sym g

parent_test : (x : Assembly) (row coded : ℕ) → 1 ≤ row → (parent_spec x coded == row) ≡ is_parent x row coded
parent_test x row coded some = go (coded % 2 == 1)
  where
    go : (b : Bool) → ((if b && (cell x MEMBER_REF (coded / 2) 0 % 8 == 4) then cell x MEMBER_REF (coded / 2) 0 / 8 else 0) == row) ≡ (b && (cell x MEMBER_REF (coded / 2) 0 == row * 8 + 4))
    go true = parent_number (cell x MEMBER_REF (coded / 2) 0) row some
    go false = no_zero row some

pub parents_listed : (x : Assembly) (column bound : ℕ) (numbers : List ℕ) (lists : List (List ℕ)) → numbers ≡ map (λ i. parent_spec x (cell x METHOD_IMPL i column)) (rows_in x METHOD_IMPL) → AreListed (rows_under numbers) bound lists
    → (row : ℕ) → 1 ≤ row → row < bound → get_or lists row [] ≡ parent_rows x column row
parents_listed x column bound numbers lists is l row some most =
    let count : length numbers ≡ count_in x METHOD_IMPL = ap length is ∙ length-map-range_with_len (λ i. parent_spec x (cell x METHOD_IMPL i column)) 1 (count_in x METHOD_IMPL) in
    l.items row most
    ∙ ap (λ (j : ℕ). filter (λ r. get_or numbers (r - 1) 0 == row) (range_with_len 1 j)) count
    ∙ filter_same (λ r. get_or numbers (r - 1) 0 == row) (λ i. is_parent x row (cell x METHOD_IMPL i column)) 1 (count_in x METHOD_IMPL)
    (λ r low high.
    ap (λ (m : ℕ). m == row)
    (ap (λ (n : List ℕ). get_or n (r - 1) 0) is
    ∙ get_or-map-range_with_len (λ i. parent_spec x (cell x METHOD_IMPL i column)) 1 (count_in x METHOD_IMPL) (r - 1) r 0 (omega (arith, low, high)) (omega (arith, low)))
    ∙ parent_test x row (cell x METHOD_IMPL r column) some)

pub parents_are : {V E : Type 0} (items : V → List (List ℕ)) (result : Result V E) (x : Assembly) (column count : ℕ) (numbers : List ℕ) → numbers ≡ map (λ i. parent_spec x (cell x METHOD_IMPL i column)) (rows_in x METHOD_IMPL)
    → IfOk result (λ v. AreListed (rows_under numbers) (count + 1) (items v)) → IfOk result (λ v. (row : ℕ) → 1 ≤ row → row < count + 1 → get_or (items v) row [] ≡ parent_rows x column row)
parents_are items (Ok v) x column count numbers is l = parents_listed x column (count + 1) numbers (items v) is l
parents_are items (Err e) x column count numbers is l = tt

pub uses_are : (x : Assembly) (bound n count : ℕ) (types interfaces constraints firsts seconds : List (List ℕ)) → count ≡ count_in x TYPE_SPEC → bound ≡ count * 4 + 3 → n ≡ count + 1
    → AreListed (rows_with x TYPE_DEF 3) bound types → AreListed (rows_with x INTERFACE_IMPL 1) bound interfaces → AreListed (rows_with x GENERIC_PARAM_CONSTRAINT 1) bound constraints
    → ((row : ℕ) → 1 ≤ row → row < n → get_or firsts row [] ≡ parent_rows x 1 row) → ((row : ℕ) → 1 ≤ row → row < n → get_or seconds row [] ≡ parent_rows x 2 row)
    → AreUses x types interfaces constraints firsts seconds
uses_are x bound n count types interfaces constraints firsts seconds is wide long a b d e g = record {
  of_types = λ row most. a.items (row * 4 + 2) (omega (arith, most, is, wide));
  of_interfaces = λ row most. b.items (row * 4 + 2) (omega (arith, most, is, wide));
  of_constraints = λ row most. d.items (row * 4 + 2) (omega (arith, most, is, wide));
  of_firsts = λ row some most. e row some (omega (arith, most, is, long));
  of_seconds = λ row some most. g row some (omega (arith, most, is, long));
}
