-- In the program of a set no row is that of two methods.
use Rattle.std.proofs.Common.{◌≡◌, ◌∙◌, sym, ap, refl, subst, arith, ℕ, zero, suc, ◌+◌, ◌-◌, ◌≤◌, ◌<◌, List, [], ◌∷◌, ◌++◌, length, Bool, true, false}
use Rattle.std.specs.Prelude.{map, flat_map, nat_lt, max, Option, Some, None, if◌then◌else◌}
use Rattle.std.specs.List.{range_with_len}
use Rattle.std.proofs.lemmas.List.{map-append}
use Rattle.cil_base.specs.declared.tables.TheConstants.{METHOD_DEF, TYPE_DEF}
use Rattle.row_descriptions.specs.RowDescriptions.{method_row}
use Rattle.set_rows.specs.Sets.{Assembly, Assemblies, assembly_at, count_in, cell}
use Rattle.set_program.specs.Numbering.{Cell, type_cut, cut, rows_between, old_rows, new_rows}
use Rattle.members.specs.declared.outside_member.OutsideMember.{OutsideMember}
use Rattle.member_table.specs.declared.named.MemberId.{MemberId}
use Rattle.member_table.specs.declared.named.MemberId.TheVariants as id
use Rattle.member_table.specs.Numbers.{of_row, member_ids, outside_members}
use Rattle.descriptions.specs.Descriptions.{method_desc}
use Rattle.program_bodies.specs.Filled.{IsMissing, EachOnce, row_of}

-- ---- two lists

pub missing_append : (c : Option Cell) (xs ys : List (Option Cell)) → IsMissing c xs → IsMissing c ys → IsMissing c (xs ++ ys)
missing_append c [] ys h k = k
missing_append c (x ∷ xs) ys h k = (h.0, missing_append c xs ys h.1 k)

abbrev AreApart : List (Option Cell) → List (Option Cell) → Type 0
AreApart [] ys = Unit {0}
AreApart (x ∷ xs) ys = IsMissing x ys × AreApart xs ys

once_append : (xs ys : List (Option Cell)) → EachOnce xs → EachOnce ys → AreApart xs ys → EachOnce (xs ++ ys)
once_append [] ys h k a = k
once_append (x ∷ xs) ys h k a = (missing_append x xs ys h.0 a.0, once_append xs ys h.1 k a.1)

apart_append : (xs ys zs : List (Option Cell)) → AreApart xs zs → AreApart ys zs → AreApart (xs ++ ys) zs
apart_append [] ys zs h k = k
apart_append (x ∷ xs) ys zs h k = (h.0, apart_append xs ys zs h.1 k)

-- ---- rows of one assembly

abbrev pub as_row : MemberId → Option Cell
as_row (id.Row a row) = Some (a, row)
as_row (id.Outside m) = None

abbrev as_rows : List MemberId → List (Option Cell)
as_rows ids = map as_row ids

-- so many rows of an assembly from one on
abbrev run : ℕ → ℕ → ℕ → List (Option Cell)
run a from n = as_rows (map of_row (map (λ row. (a, row)) (range_with_len from n)))

abbrev first_of : Option Cell → ℕ
first_of None = 0
first_of (Some c) = c.0

abbrev second_of : Option Cell → ℕ
second_of None = 0
second_of (Some c) = c.1

abbrev at_cell : ℕ → ℕ → Option Cell
at_cell a r = Some (a, r)

other_assembly : (a b r q : ℕ) → (a ≡ b → ⊥) → at_cell b q ≡ at_cell a r → ⊥
other_assembly a b r q h e = h (sym (ap first_of e))

other_row : (a b r q : ℕ) → (r ≡ q → ⊥) → at_cell b q ≡ at_cell a r → ⊥
other_row a b r q h e = h (sym (ap second_of e))

in_other : (a b r from n : ℕ) → (a ≡ b → ⊥) → IsMissing (Some (a, r)) (run b from n)
in_other a b r from zero h = tt
in_other a b r from (suc n) h = (other_assembly a b r from h, in_other a b r (from + 1) n h)

before : (a r from n : ℕ) → r < from → IsMissing (Some (a, r)) (run a from n)
before a r from zero h = tt
before a r from (suc n) h =
    let differ : r ≡ from → ⊥ = λ e. absurd (omega (arith, h, e)) in
    let low : r < from + 1 = omega (arith, h) in
    (other_row a a r from differ, before a r (from + 1) n low)

once_run : (a from n : ℕ) → EachOnce (run a from n)
once_run a from zero = tt
once_run a from (suc n) = let low : from < from + 1 = omega arith in (before a from (from + 1) n low, once_run a (from + 1) n)

apart_run : (a from n : ℕ) (ys : List (Option Cell)) → ((r : ℕ) → r < from + n → IsMissing (Some (a, r)) ys) → AreApart (run a from n) ys
apart_run a from zero ys h = tt
apart_run a from (suc n) ys h =
    let first : from < from + suc n = omega arith in
    (h from first, apart_run a (from + 1) n ys (λ r low. let below : r < from + suc n = omega (arith, low) in h r below))

-- ---- rows of the other assemblies

module _ (s : Assemblies) where
  abbrev rows_of_assembly : ℕ → List Cell
  rows_of_assembly b = rows_between b 1 (count_in (assembly_at s b) METHOD_DEF + 1)

  abbrev first : ℕ → List (Option Cell)
  first b = run b 1 (count_in (assembly_at s b) METHOD_DEF + 1 - 1)

  abbrev runs : ℕ → ℕ → List (Option Cell)
  runs from n = as_rows (map of_row (flat_map rows_of_assembly (range_with_len from n)))

  runs_more : (from n : ℕ) → runs from (suc n) ≡ first from ++ runs (from + 1) n
  runs_more from n =
      ap as_rows (map-append of_row (rows_of_assembly from) (flat_map rows_of_assembly (range_with_len (from + 1) n)))
      ∙ map-append as_row (map of_row (rows_of_assembly from)) (map of_row (flat_map rows_of_assembly (range_with_len (from + 1) n)))

  in_later : (a r from n : ℕ) → a < from → IsMissing (Some (a, r)) (runs from n)
  in_later a r from zero h = tt
  in_later a r from (suc n) h =
      let differ : a ≡ from → ⊥ = λ e. absurd (omega (arith, h, e)) in
      let low : a < from + 1 = omega (arith, h) in
      subst (IsMissing (Some (a, r))) (sym (runs_more from n))
      (missing_append (Some (a, r)) (first from) (runs (from + 1) n) (in_other a from r 1 (count_in (assembly_at s from) METHOD_DEF + 1 - 1) differ) (in_later a r (from + 1) n low))

  once_runs : (from n : ℕ) → EachOnce (runs from n)
  once_runs from zero = tt
  once_runs from (suc n) =
      let low : from < from + 1 = omega arith in
      subst EachOnce (sym (runs_more from n))
      (once_append (first from) (runs (from + 1) n) (once_run from 1 (count_in (assembly_at s from) METHOD_DEF + 1 - 1)) (once_runs (from + 1) n)
      (apart_run from 1 (count_in (assembly_at s from) METHOD_DEF + 1 - 1) (runs (from + 1) n) (λ r below. in_later from r (from + 1) n low)))

  apart_runs : (from n : ℕ) (ys : List (Option Cell)) → ((a r : ℕ) → from ≤ a → IsMissing (Some (a, r)) ys) → AreApart (runs from n) ys
  apart_runs from zero ys h = tt
  apart_runs from (suc n) ys h =
      let here : from ≤ from = omega arith in
      subst (λ (xs : List (Option Cell)). AreApart xs ys) (sym (runs_more from n))
      (apart_append (first from) (runs (from + 1) n) ys (apart_run from 1 (count_in (assembly_at s from) METHOD_DEF + 1 - 1) ys (λ r below. h from r here))
      (apart_runs (from + 1) n ys (λ a r low. let from_on : from ≤ a = omega (arith, low) in h a r from_on)))

-- ---- outside members

abbrev nones : List OutsideMember → List (Option Cell)
nones outside = as_rows (map id.Outside outside)

in_nones : (c : Cell) (outside : List OutsideMember) → IsMissing (Some c) (nones outside)
in_nones c [] = tt
in_nones c (m ∷ outside) = ((λ e. absurd cc), in_nones c outside)

none_missing : (xs : List (Option Cell)) → IsMissing None xs
none_missing [] = tt
none_missing (x ∷ xs) = (tt, none_missing xs)

once_nones : (outside : List OutsideMember) → EachOnce (nones outside)
once_nones [] = tt
once_nones (m ∷ outside) = (none_missing (nones outside), once_nones outside)

apart_nones : (outside : List OutsideMember) (ys : List (Option Cell)) → AreApart (nones outside) ys
apart_nones [] ys = tt
apart_nones (m ∷ outside) ys = (none_missing ys, apart_nones outside ys)

-- ---- all members

cut_low : (x : Assembly) → 1 ≤ cut x METHOD_DEF
cut_low x = by_test (nat_lt (count_in x TYPE_DEF) (type_cut x)) (count_in x METHOD_DEF) (cell x TYPE_DEF (type_cut x) 5)
  where
    by_test : (b : Bool) (n m : ℕ) → 1 ≤ (if b then n + 1 else max 1 m)
    by_test true n m = omega arith
    by_test false n m = omega arith

module _ (x : Assembly) (xs : Assemblies) (outside : List OutsideMember) where
  abbrev others : List (Option Cell)
  others = runs (x ∷ xs) 1 (length xs)

  abbrev old : List (Option Cell)
  old = run 0 1 (cut x METHOD_DEF - 1)

  abbrev new : List (Option Cell)
  new = run 0 (cut x METHOD_DEF) (count_in x METHOD_DEF + 1 - cut x METHOD_DEF)

  abbrev behind : List (Option Cell)
  behind = nones outside ++ new

  split : as_rows (map of_row (old_rows (x ∷ xs) METHOD_DEF) ++ (map id.Outside outside ++ map of_row (new_rows (x ∷ xs) METHOD_DEF))) ≡ (others ++ old) ++ behind
  split =
      map-append as_row (map of_row (old_rows (x ∷ xs) METHOD_DEF)) (map id.Outside outside ++ map of_row (new_rows (x ∷ xs) METHOD_DEF))
      ∙ ap (λ (l : List (Option Cell)). as_rows (map of_row (old_rows (x ∷ xs) METHOD_DEF)) ++ l) (map-append as_row (map id.Outside outside) (map of_row (new_rows (x ∷ xs) METHOD_DEF)))
      ∙ ap (λ (l : List (Option Cell)). l ++ behind) (ap as_rows (map-append of_row (flat_map (rows_of_assembly (x ∷ xs)) (range_with_len 1 (length xs))) (rows_between 0 1 (cut x METHOD_DEF)))
      ∙ map-append as_row (map of_row (flat_map (rows_of_assembly (x ∷ xs)) (range_with_len 1 (length xs)))) (map of_row (rows_between 0 1 (cut x METHOD_DEF))))

  in_target : (a r from n : ℕ) → 1 ≤ a → IsMissing (Some (a, r)) (run 0 from n)
  in_target a r from n h = let differ : a ≡ 0 → ⊥ = λ e. absurd (omega (arith, h, e)) in in_other a 0 r from n differ

  in_behind : (c : Cell) → IsMissing (Some c) new → IsMissing (Some c) behind
  in_behind c h = missing_append (Some c) (nones outside) new (in_nones c outside) h

  once_split : EachOnce ((others ++ old) ++ behind)
  once_split =
      let low : 1 ≤ cut x METHOD_DEF = cut_low x in
      once_append (others ++ old) behind
      (once_append others old (once_runs (x ∷ xs) 1 (length xs)) (once_run 0 1 (cut x METHOD_DEF - 1)) (apart_runs (x ∷ xs) 1 (length xs) old (λ a r h. in_target a r 1 (cut x METHOD_DEF - 1) h)))
      (once_append (nones outside) new (once_nones outside) (once_run 0 (cut x METHOD_DEF) (count_in x METHOD_DEF + 1 - cut x METHOD_DEF)) (apart_nones outside new))
      (apart_append others old behind
      (apart_runs (x ∷ xs) 1 (length xs) behind (λ a r h. in_behind (a, r) (in_target a r (cut x METHOD_DEF) (count_in x METHOD_DEF + 1 - cut x METHOD_DEF) h)))
      (apart_run 0 1 (cut x METHOD_DEF - 1) behind
      (λ r h. let below : r < cut x METHOD_DEF = omega (arith, h, low) in in_behind (0, r) (before 0 r (cut x METHOD_DEF) (count_in x METHOD_DEF + 1 - cut x METHOD_DEF) below))))

  once_all : EachOnce (as_rows (map of_row (old_rows (x ∷ xs) METHOD_DEF) ++ (map id.Outside outside ++ map of_row (new_rows (x ∷ xs) METHOD_DEF))))
  once_all = subst EachOnce (sym split) once_split

once_ids : (x : Assembly) (xs : Assemblies) → EachOnce (as_rows (member_ids (x ∷ xs) false))
unfolding member_ids
once_ids x xs = once_all x xs (outside_members (x ∷ xs) false)

pub row_of_desc : (s : Assemblies) (m : MemberId) → row_of (method_desc s m) ≡ as_row m
unfolding method_row
row_of_desc s (id.Row a row) = refl
row_of_desc s (id.Outside m) = refl

rows_of_descs : (s : Assemblies) (ids : List MemberId) → map row_of (map (method_desc s) ids) ≡ as_rows ids
rows_of_descs s [] = refl
rows_of_descs s (m ∷ ids) =
    ap (λ (c : Option Cell). c ∷ map row_of (map (method_desc s) ids)) (row_of_desc s m)
    ∙ ap (λ (l : List (Option Cell)). as_row m ∷ l) (rows_of_descs s ids)

pub rows_once : (s : Assemblies) → 0 < length s → EachOnce (map row_of (map (method_desc s) (member_ids s false)))
rows_once [] h = absurd (omega (arith, h))
rows_once (x ∷ xs) h = subst EachOnce (sym (rows_of_descs (x ∷ xs) (member_ids (x ∷ xs) false))) (once_ids x xs)
