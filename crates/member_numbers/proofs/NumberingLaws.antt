-- Where a field, or a method, stands among those of a set.
use Rattle.std.proofs.Common.{◌≡◌, ◌∙◌, sym, ap, refl, subst, arith, rules, append_assoc, ℕ, zero, suc, ◌+◌, ◌-◌, ◌≤◌, ◌<◌, List, [], ◌∷◌, ◌++◌, length, length-append, get_or, Bool, true, false}
use Rattle.std.specs.Prelude.{cond, map, flat_map, ◌==◌, ◌&&◌, nat_lt, max, Option, Some, None, option_map, if◌then◌else◌}
use Rattle.std.specs.List.{range_with_len, position_from}
use Rattle.std.proofs.lemmas.List.{map-append, length-map, append-nil}
use Rattle.std.proofs.lemmas.List.FromFn.{length-range_with_len, get_or-map-range_with_len}
use Rattle.std.proofs.lemmas.Grind.{flat_map-append}
use Rattle.cil_base.specs.declared.tables.TheConstants.{TYPE_DEF, FIELD, METHOD_DEF}
use Rattle.set_rows.specs.Sets.{Assembly, Assemblies, assembly_at, count_in, cell}
use Rattle.set_program.specs.Numbering.{Cell, type_cut, first_owned, cut, rows_between, old_rows, new_rows}
use Rattle.set_program.proofs.PlaceLaws.{AllFail, skipped, fail_append, differs, itself}
use Rattle.set_program.proofs.NumberLaws.{range_split}
use Rattle.members.specs.MemberRows.{member_table}
use Rattle.members.specs.OutsideMembers.{same_member, member_place}
use Rattle.members.specs.declared.outside_member.OutsideMember.{OutsideMember}
use Rattle.member_table.specs.declared.named.MemberId.{MemberId}
use Rattle.member_table.specs.declared.named.MemberId.TheVariants as id
use Rattle.member_table.specs.Numbers.{of_row, same_id}
use Rattle.member_numbers.specs.Kept.{rows_before}
use Rattle.member_numbers.proofs.PlaceLaws.{run, runs, rows_of_assembly, missed, hit, all_missed, placed}

-- ---- the cut

pub cut_low : (x : Assembly) (is_field : Bool) → 1 ≤ cut x (member_table is_field)
cut_low x true = low x 4 FIELD
  where
    by_test : (b : Bool) (n m : ℕ) → 1 ≤ (if b then n + 1 else max 1 m)
    by_test true n m = omega arith
    by_test false n m = omega arith

    low : (x : Assembly) (column table : ℕ) → 1 ≤ first_owned x column table (type_cut x)
    low x column table = by_test (nat_lt (count_in x TYPE_DEF) (type_cut x)) (count_in x table) (cell x TYPE_DEF (type_cut x) column)
cut_low x false = low x 5 METHOD_DEF
  where
    by_test : (b : Bool) (n m : ℕ) → 1 ≤ (if b then n + 1 else max 1 m)
    by_test true n m = omega arith
    by_test false n m = omega arith

    low : (x : Assembly) (column table : ℕ) → 1 ≤ first_owned x column table (type_cut x)
    low x column table = by_test (nat_lt (count_in x TYPE_DEF) (type_cut x)) (count_in x table) (cell x TYPE_DEF (type_cut x) column)

-- ---- tests that fail

none_found : {A : Type 0} (test : A → Bool) (i : ℕ) (xs : List A) → AllFail test xs → position_from test i xs ≡ None
none_found test i [] h = refl
none_found test i (x ∷ xs) h = ap (λ (b : Bool). cond b (Some i) (position_from test (i + 1) xs)) h.0 ∙ none_found test (i + 1) xs h.1

-- rows before this one
passed : (a r from n : ℕ) → from + n ≤ r → AllFail (same_id (id.Row a r)) (run a from n)
passed a r from zero h = tt
passed a r from (suc n) h =
    let apart : r ≡ from → ⊥ = λ e. absurd (omega (arith, h, e)) in
    (ap (λ (c : Bool). c && (r == from)) (itself a) ∙ differs r from apart, passed a r (from + 1) n (omega (arith, h)))

-- rows behind this one
ahead : (a r from n : ℕ) → r < from → AllFail (same_id (id.Row a r)) (run a from n)
ahead a r from zero h = tt
ahead a r from (suc n) h =
    let apart : r ≡ from → ⊥ = λ e. absurd (omega (arith, h, e)) in
    (ap (λ (c : Bool). c && (r == from)) (itself a) ∙ differs r from apart, ahead a r (from + 1) n (omega (arith, h)))

none_outside : (a r : ℕ) (outside : List OutsideMember) → AllFail (same_id (id.Row a r)) (map id.Outside outside)
none_outside a r [] = tt
none_outside a r (m ∷ outside) = (refl, none_outside a r outside)

no_rows : (m : OutsideMember) (cells : List Cell) → AllFail (same_id (id.Outside m)) (map of_row cells)
no_rows m [] = tt
no_rows m (c ∷ cells) = (refl, no_rows m cells)

-- rows of an assembly in which there is no such row
outside_rows : (a r from n : ℕ) (b : ℕ) → (a ≡ b → (r < from → ⊥) → from + n ≤ r) → AllFail (same_id (id.Row a r)) (run b from n)
outside_rows a r from zero b h = tt
outside_rows a r from (suc n) b h = go (a == b) refl
  where
    is : (p q : ℕ) → (p == q) ≡ true → p ≡ q
    is p q e = search (rules, e)

    isnt : (p q : ℕ) → (p == q) ≡ false → p ≡ q → ⊥
    isnt p q e f = search (rules, e, f)

    below : (t : Bool) → nat_lt r from ≡ t → a ≡ b → AllFail (same_id (id.Row a r)) (run b from (suc n))
    below true f e =
        let low : r < from = search (rules, f) in
        subst (λ c. AllFail (same_id (id.Row a r)) (run c from (suc n))) e (ahead a r from (suc n) low)
    below false f e =
        let not_low : r < from → ⊥ = λ l. search (rules, f, l) in
        subst (λ c. AllFail (same_id (id.Row a r)) (run c from (suc n))) e (passed a r from (suc n) (h e not_low))

    go : (t : Bool) → (a == b) ≡ t → AllFail (same_id (id.Row a r)) (run b from (suc n))
    go true e = below (nat_lt r from) refl (is a b e)
    go false e = missed a r b from (suc n) (isnt a b e)

-- ---- the place of an outside member

shifted : {A : Type 0} (test : A → Bool) (i j : ℕ) (xs : List A) → position_from test (i + j) xs ≡ option_map (λ k. i + k) (position_from test j xs)
shifted test i j [] = refl
shifted test i j (x ∷ xs) =
    let next : (i + j) + 1 ≡ i + (j + 1) = omega arith in
    ap (λ (m : ℕ). cond (test x) (Some (i + j)) (position_from test m xs)) next ∙ ap (cond (test x) (Some (i + j))) (shifted test i (j + 1) xs) ∙ go (test x)
  where
    go : (b : Bool) → cond b (Some (i + j)) (option_map (λ k. i + k) (position_from test (j + 1) xs)) ≡ option_map (λ k. i + k) (cond b (Some j) (position_from test (j + 1) xs))
    go true = refl
    go false = refl

outside_at : (m : OutsideMember) (i : ℕ) (outside : List OutsideMember) (rest : List MemberId) → AllFail (same_id (id.Outside m)) rest
    → position_from (same_id (id.Outside m)) i (map id.Outside outside ++ rest) ≡ position_from (same_member m) i outside
outside_at m i [] rest h = none_found (same_id (id.Outside m)) i rest h
outside_at m i (n ∷ outside) rest h = ap (cond (same_member m n) (Some i)) (outside_at m (i + 1) outside rest h)

pub place_within : (m : OutsideMember) (i : ℕ) (outside : List OutsideMember) (k : ℕ) → position_from (same_member m) i outside ≡ Some k → k < i + length outside
place_within m i [] k e = absurd cc
place_within m i (n ∷ outside) k e = go (same_member m n) e (λ f. place_within m (i + 1) outside k f)
  where
    go : (b : Bool) → cond b (Some i) (position_from (same_member m) (i + 1) outside) ≡ Some k → (position_from (same_member m) (i + 1) outside ≡ Some k → k < (i + 1) + length outside) → k < i + suc (length outside)
    go true f again = let same : i ≡ k = cc in omega (arith, same)
    go false f again = let later : k < (i + 1) + length outside = again f in omega (arith, later)

-- ---- rows before those of an assembly

module _ (s : Assemblies) (table : ℕ) where
  rows_count : (b : ℕ) → length (rows_of_assembly s table b) ≡ count_in (assembly_at s b) table
  rows_count b =
      length-map (range_with_len 1 (count_in (assembly_at s b) table + 1 - 1)) (λ (row : ℕ). (b, row))
      ∙ length-range_with_len 1 (count_in (assembly_at s b) table + 1 - 1)
      ∙ omega arith

  pub before_first : rows_before s table 1 ≡ 0
  unfolding rows_before
  before_first = refl

  before_split : (a n : ℕ) → 1 ≤ a → rows_before s table (a + n) ≡ rows_before s table a + length (flat_map (rows_of_assembly s table) (range_with_len a n))
  unfolding rows_before
  before_split a n low =
      let parts : (a + n) - 1 ≡ (a - 1) + n = omega (arith, low) in
      let at : 1 + (a - 1) ≡ a = omega (arith, low) in
      ap (λ (m : ℕ). length (flat_map (rows_of_assembly s table) (range_with_len 1 m))) parts
      ∙ ap (λ (l : List ℕ). length (flat_map (rows_of_assembly s table) l)) (range_split 1 (a - 1) n)
      ∙ ap length (flat_map-append (rows_of_assembly s table) (range_with_len 1 (a - 1)) (range_with_len (1 + (a - 1)) n))
      ∙ length-append (flat_map (rows_of_assembly s table) (range_with_len 1 (a - 1))) (flat_map (rows_of_assembly s table) (range_with_len (1 + (a - 1)) n))
      ∙ ap (λ (m : ℕ). length (flat_map (rows_of_assembly s table) (range_with_len 1 (a - 1))) + length (flat_map (rows_of_assembly s table) (range_with_len m n))) at

  pub before_next : (a : ℕ) → 1 ≤ a → rows_before s table (a + 1) ≡ rows_before s table a + count_in (assembly_at s a) table
  before_next a low =
      let one : length (rows_of_assembly s table a ++ []) ≡ count_in (assembly_at s a) table = length-append (rows_of_assembly s table a) [] ∙ omega (arith, rows_count a) in
      before_split a 1 low ∙ ap (λ (m : ℕ). rows_before s table a + m) one

  pub before_rises : (a b : ℕ) → 1 ≤ a → a ≤ b → rows_before s table a ≤ rows_before s table b
  before_rises a b low h =
      let e : a + (b - a) ≡ b = omega (arith, h) in
      let split : rows_before s table (a + (b - a)) ≡ rows_before s table a + length (flat_map (rows_of_assembly s table) (range_with_len a (b - a))) = before_split a (b - a) low in
      omega (arith, split, ap (rows_before s table) e)

  runs_count : (a : ℕ) → length (runs s table 1 (a - 1)) ≡ rows_before s table a
  unfolding rows_before
  runs_count a = length-map (flat_map (rows_of_assembly s table) (range_with_len 1 (a - 1))) of_row

  pub start_is : (starts : List ℕ) (a : ℕ) → starts ≡ map (rows_before s table) (range_with_len 1 (length s)) → 1 ≤ a → a ≤ length s → get_or starts (a - 1) 0 ≡ rows_before s table a
  start_is starts a e low high =
      ap (λ (l : List ℕ). get_or l (a - 1) 0) e
      ∙ get_or-map-range_with_len (rows_before s table) 1 (length s) (a - 1) a 0 (omega (arith, low, high)) (omega (arith, low))

-- ---- all members

abbrev pub ids : Assemblies → ℕ → List OutsideMember → List MemberId
ids s table outside = map of_row (old_rows s table) ++ (map id.Outside outside ++ map of_row (new_rows s table))

abbrev pub number : Assemblies → ℕ → List OutsideMember → MemberId → Option ℕ
number s table outside member = position_from (same_id member) 0 (ids s table outside)

module _ (x : Assembly) (xs : Assemblies) (table : ℕ) (outside : List OutsideMember) (low : 1 ≤ cut x table) where
  abbrev s : Assemblies
  s = x ∷ xs

  abbrev count : ℕ
  count = count_in x table

  abbrev others : List MemberId
  others = runs s table 1 (length xs)

  abbrev old : List MemberId
  old = run 0 1 (cut x table - 1)

  abbrev new : List MemberId
  new = run 0 (cut x table) (count + 1 - cut x table)

  split : ids s table outside ≡ others ++ (old ++ (map id.Outside outside ++ new))
  split =
      ap (λ (l : List MemberId). l ++ (map id.Outside outside ++ new)) (map-append of_row (flat_map (rows_of_assembly s table) (range_with_len 1 (length xs))) (rows_between 0 1 (cut x table)))
      ∙ append_assoc others old (map id.Outside outside ++ new)

  others_count : length others ≡ rows_before s table (suc (length xs))
  others_count = let e : length xs ≡ suc (length xs) - 1 = omega arith in ap (λ (m : ℕ). length (runs s table 1 m)) e ∙ runs_count s table (suc (length xs))

  old_count : length old ≡ cut x table - 1
  old_count = length-map (map (λ (row : ℕ). (0, row)) (range_with_len 1 (cut x table - 1))) of_row ∙ length-map (range_with_len 1 (cut x table - 1)) (λ (row : ℕ). (0, row)) ∙ length-range_with_len 1 (cut x table - 1)

  new_count : length new ≡ count + 1 - cut x table
  new_count =
      length-map (map (λ (row : ℕ). (0, row)) (range_with_len (cut x table) (count + 1 - cut x table))) of_row
      ∙ length-map (range_with_len (cut x table) (count + 1 - cut x table)) (λ (row : ℕ). (0, row))
      ∙ length-range_with_len (cut x table) (count + 1 - cut x table)

  pub ids_count : length (ids s table outside) ≡ rows_before s table (suc (length xs)) + (cut x table - 1) + length outside + (count - (cut x table - 1))
  ids_count =
      let whole : length (ids s table outside) ≡ length others + (length old + (length outside + length new)) =
      ap length split ∙ length-append others (old ++ (map id.Outside outside ++ new))
      ∙ ap (λ (m : ℕ). length others + m) (length-append old (map id.Outside outside ++ new)
      ∙ ap (λ (m : ℕ). length old + m) (length-append (map id.Outside outside) new ∙ ap (λ (m : ℕ). m + length new) (length-map outside id.Outside))) in
      omega (arith, whole, others_count, old_count, new_count, low)

  -- a row of another assembly
  pub other_number : (a r : ℕ) → 1 ≤ a → a < suc (length xs) → 1 ≤ r → r ≤ count_in (assembly_at s a) table → number s table outside (id.Row a r) ≡ Some (rows_before s table a + (r - 1))
  other_number a r alow high rlow rhigh =
      let at : 0 + length (runs s table 1 (a - 1)) + (r - 1) ≡ rows_before s table a + (r - 1) = omega (arith, runs_count s table a) in
      ap (position_from (same_id (id.Row a r)) 0) split
      ∙ placed s table a r 1 (length xs) 0 (old ++ (map id.Outside outside ++ new)) alow (omega (arith, high)) rlow rhigh
      ∙ ap (λ (j : ℕ). Some j) at

  not_others : (r : ℕ) → AllFail (same_id (id.Row 0 r)) others
  not_others r = all_missed s table 0 r 1 (length xs) (λ b blow high e. absurd (omega (arith, blow, e)))

  behind_others : (r : ℕ) → number s table outside (id.Row 0 r) ≡ position_from (same_id (id.Row 0 r)) (0 + length others) (old ++ (map id.Outside outside ++ new))
  behind_others r = ap (position_from (same_id (id.Row 0 r)) 0) split ∙ skipped (same_id (id.Row 0 r)) 0 others (old ++ (map id.Outside outside ++ new)) (not_others r)

  -- a row of TARGET before its runtime class
  pub old_number : (r : ℕ) → 1 ≤ r → r < cut x table → number s table outside (id.Row 0 r) ≡ Some (rows_before s table (suc (length xs)) + (r - 1))
  old_number r rlow high =
      let at : (0 + length others) + (r - 1) ≡ rows_before s table (suc (length xs)) + (r - 1) = omega (arith, others_count) in
      behind_others r ∙ hit 0 r 1 (cut x table - 1) (0 + length others) (map id.Outside outside ++ new) rlow (omega (arith, high)) ∙ ap (λ (j : ℕ). Some j) at

  -- one from the runtime class on
  pub new_number : (r : ℕ) → cut x table ≤ r → r ≤ count → number s table outside (id.Row 0 r) ≡ Some (rows_before s table (suc (length xs)) + length outside + (r - 1))
  new_number r rlow high =
      let start : ℕ = (0 + length others) + length old in
      let at : (start + length (map id.Outside outside)) + (r - cut x table) ≡ rows_before s table (suc (length xs)) + length outside + (r - 1) =
      omega (arith, others_count, old_count, length-map outside id.Outside, rlow, low) in
      behind_others r
      ∙ skipped (same_id (id.Row 0 r)) (0 + length others) old (map id.Outside outside ++ new) (passed 0 r 1 (cut x table - 1) (omega (arith, rlow, low)))
      ∙ skipped (same_id (id.Row 0 r)) start (map id.Outside outside) new (none_outside 0 r outside)
      ∙ ap (position_from (same_id (id.Row 0 r)) (start + length (map id.Outside outside))) (sym (append-nil new))
      ∙ hit 0 r (cut x table) (count + 1 - cut x table) (start + length (map id.Outside outside)) [] rlow (omega (arith, rlow, high))
      ∙ ap (λ (j : ℕ). Some j) at

  -- an outside member
  pub outside_number : (m : OutsideMember) → number s table outside (id.Outside m) ≡ option_map (λ k. (rows_before s table (suc (length xs)) + (cut x table - 1)) + k) (member_place outside m)
  outside_number m =
      let front : List MemberId = others ++ old in
      let count_front : length front ≡ rows_before s table (suc (length xs)) + (cut x table - 1) = length-append others old ∙ omega (arith, others_count, old_count) in
      let at : 0 + length front ≡ (rows_before s table (suc (length xs)) + (cut x table - 1)) + 0 = omega (arith, count_front) in
      ap (position_from (same_id (id.Outside m)) 0) (split ∙ sym (append_assoc others old (map id.Outside outside ++ new)))
      ∙ skipped (same_id (id.Outside m)) 0 front (map id.Outside outside ++ new)
      (fail_append (same_id (id.Outside m)) others old (no_rows m (flat_map (rows_of_assembly s table) (range_with_len 1 (length xs)))) (no_rows m (rows_between 0 1 (cut x table))))
      ∙ ap (λ (j : ℕ). position_from (same_id (id.Outside m)) j (map id.Outside outside ++ new)) at
      ∙ outside_at m ((rows_before s table (suc (length xs)) + (cut x table - 1)) + 0) outside new (no_rows m (rows_between 0 (cut x table) (count + 1)))
      ∙ shifted (same_member m) (rows_before s table (suc (length xs)) + (cut x table - 1)) 0 outside

  -- a row that isn't there
  all_outside : (a r from n : ℕ) → ((b : ℕ) → from ≤ b → b < from + n → a ≡ b → (r < 1 → ⊥) → 1 + (count_in (assembly_at s b) table + 1 - 1) ≤ r) → AllFail (same_id (id.Row a r)) (runs s table from n)
  all_outside a r from zero h = tt
  all_outside a r from (suc n) h =
      subst (AllFail (same_id (id.Row a r))) (sym (map-append of_row (rows_of_assembly s table from) (flat_map (rows_of_assembly s table) (range_with_len (from + 1) n))))
      (fail_append (same_id (id.Row a r)) (map of_row (rows_of_assembly s table from)) (runs s table (from + 1) n)
      (outside_rows a r 1 (count_in (assembly_at s from) table + 1 - 1) from (h from (omega arith) (omega arith)))
      (all_outside a r (from + 1) n (λ b blow high. h b (omega (arith, blow)) (omega (arith, high)))))

  pub none_there : (a r : ℕ) → (a < suc (length xs) → 1 ≤ r → count_in (assembly_at s a) table < r) → (a ≡ 0 → 1 ≤ r → cut x table ≤ r) → number s table outside (id.Row a r) ≡ None
  none_there a r h k =
      ap (position_from (same_id (id.Row a r)) 0) split
      ∙ none_found (same_id (id.Row a r)) 0 (others ++ (old ++ (map id.Outside outside ++ new)))
      (fail_append (same_id (id.Row a r)) others (old ++ (map id.Outside outside ++ new))
      (all_outside a r 1 (length xs) (λ b blow high e from. let past : count_in (assembly_at s b) table < r = there b (omega (arith, high)) e from in omega (arith, past)))
      (fail_append (same_id (id.Row a r)) old (map id.Outside outside ++ new)
      (outside_rows a r 1 (cut x table - 1) 0 (λ e from. let past : cut x table ≤ r = k e (omega (arith, from)) in omega (arith, past, low)))
      (fail_append (same_id (id.Row a r)) (map id.Outside outside) new
      (none_outside a r outside)
      (outside_rows a r (cut x table) (count + 1 - cut x table) 0 (λ e from. late e from)))))
    where
      there : (b : ℕ) → b < suc (length xs) → a ≡ b → (r < 1 → ⊥) → count_in (assembly_at s b) table < r
      there b high e from = subst (λ c. count_in (assembly_at s c) table < r) e (h (omega (arith, high, e)) (omega (arith, from)))

      late : a ≡ 0 → (r < cut x table → ⊥) → cut x table + (count + 1 - cut x table) ≤ r
      late e from =
          let past : count < r = there 0 (omega arith) e (λ l. from (omega (arith, l, low))) in
          omega (arith, past, low, from)
