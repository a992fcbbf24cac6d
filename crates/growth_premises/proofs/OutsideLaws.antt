-- Each member outside that a MemberRef row names is among those of the list, and has a number.
use Rattle.std.proofs.Common.{◌≡◌, ◌∙◌, sym, ap, refl, subst, arith, rules, ℕ, zero, suc, ◌+◌, ◌<◌, ◌≤◌, List, [], ◌∷◌, ◌++◌, length, Bool, true, false, ◌⊎◌, inl, inr, ◌||◌}
use Rattle.std.specs.Prelude.{cond, map, flat_map, bytes_eq, ◌&&◌, is_some, Option, Some, None, if◌then◌else◌}
use Rattle.std.specs.List.{range_with_len, position_from}
use Rattle.std.proofs.lemmas.Bool.{cases_lt}
use Rattle.std.proofs.lemmas.Grind.{flat_map-append}
use Rattle.cil_base.specs.declared.tables.TheConstants.{MEMBER_REF}
use Rattle.set_names.specs.Cycles.{any}
use Rattle.set_rows.specs.Sets.{Assemblies, assembly_at, count_in}
use Rattle.set_signatures.specs.Shapes.{same_bool, is_same}
use Rattle.set_program.specs.Numbering.{Cell, order, old_rows, new_rows}
use Rattle.members.specs.MemberRows.{member_table}
use Rattle.members.specs.OutsideMembers.{same_member, member_place}
use Rattle.members.specs.declared.outside_member.OutsideMember.{OutsideMember}
use Rattle.member_table.specs.declared.named.MemberId.{MemberId}
use Rattle.member_table.specs.declared.named.MemberId.TheVariants as id
use Rattle.member_table.specs.declared.named.Named.TheVariants as named
use Rattle.member_table.specs.Environments.{environment}
use Rattle.member_table.specs.Members.{member}
use Rattle.member_table.specs.Numbers.{of_row, same_id, outside_of, outside_in, added_if, all_noted, references_in, reference_rows, outside_members, member_ids, member_number}
use Rattle.growth_premises.proofs.AnyLaws.{some_place, any_left, any_right}
use Rattle.growth_premises.proofs.NumberedLaws.{is_there}

-- ---- a member that is added stays

same_name : (a : List ℕ) → bytes_eq a a ≡ true
same_name a = search rules

same_kind : (b : Bool) → same_bool b b ≡ true
same_kind true = refl
same_kind false = refl

pub itself : (m : OutsideMember) → same_member m m ≡ true
itself m =
    ap (λ (b : Bool). b && is_same m.shape m.shape) (same_name m.owner)
    ∙ ap (λ (b : Bool). b && (same_bool m.shape.is_field m.shape.is_field && bytes_eq m.shape.signature m.shape.signature)) (same_name m.shape.name)
    ∙ ap (λ (b : Bool). b && bytes_eq m.shape.signature m.shape.signature) (same_kind m.shape.is_field)
    ∙ same_name m.shape.signature

any_placed : (test : OutsideMember → Bool) (i : ℕ) (l : List OutsideMember) → is_some (position_from test i l) ≡ true → any test l ≡ true
any_placed test i [] h = absurd cc
any_placed test i (v ∷ l) h = go (test v) (any_placed test (i + 1) l) h
  where
    go : (b : Bool) → (is_some (position_from test (i + 1) l) ≡ true → any test l ≡ true) → is_some (cond b (Some i) (position_from test (i + 1) l)) ≡ true → (b || any test l) ≡ true
    go true again e = refl
    go false again e = again e

stays_added : (test : OutsideMember → Bool) (ms : List OutsideMember) (o : Option OutsideMember) → any test ms ≡ true → any test (added_if ms o) ≡ true
stays_added test ms None h = h
stays_added test ms (Some n) h = go (is_some (member_place ms n))
  where
    go : (b : Bool) → any test (if b then ms else ms ++ n ∷ []) ≡ true
    go true = h
    go false = any_left test ms (n ∷ []) h

is_added : (m : OutsideMember) (ms : List OutsideMember) → any (same_member m) (added_if ms (Some m)) ≡ true
is_added m ms = go (is_some (member_place ms m)) refl
  where
    go : (b : Bool) → is_some (member_place ms m) ≡ b → any (same_member m) (if b then ms else ms ++ m ∷ []) ≡ true
    go true e = any_placed (same_member m) 0 ms e
    go false e = any_right (same_member m) ms (m ∷ []) (ap (λ (b : Bool). b || false) (itself m))

module _ (at : Cell → Option OutsideMember) where
  stays_noted : (test : OutsideMember → Bool) (ms : List OutsideMember) (cells : List Cell) → any test ms ≡ true → any test (all_noted at ms cells) ≡ true
  stays_noted test ms [] h = h
  stays_noted test ms (c ∷ cells) h = stays_noted test (added_if ms (at c)) cells (stays_added test ms (at c) h)

  noted_split : (ms : List OutsideMember) (cells more : List Cell) → all_noted at ms (cells ++ more) ≡ all_noted at (all_noted at ms cells) more
  noted_split ms [] more = refl
  noted_split ms (c ∷ cells) more = noted_split (added_if ms (at c)) cells more

  -- a member that one of the cells names, whatever was found before
  abbrev Notes : OutsideMember → List Cell → Type 0
  Notes m cells = (ms : List OutsideMember) → any (same_member m) (all_noted at ms cells) ≡ true

  notes_left : (m : OutsideMember) (cells more : List Cell) → Notes m cells → Notes m (cells ++ more)
  notes_left m cells more h ms = ap (any (same_member m)) (noted_split ms cells more) ∙ stays_noted (same_member m) (all_noted at ms cells) more (h ms)

  notes_right : (m : OutsideMember) (cells more : List Cell) → Notes m more → Notes m (cells ++ more)
  notes_right m cells more h ms = ap (any (same_member m)) (noted_split ms cells more) ∙ h (all_noted at ms cells)

  notes_row : (m : OutsideMember) (a r from n : ℕ) → from ≤ r → r < from + n → at (a, r) ≡ Some m → Notes m (map (λ row. (a, row)) (range_with_len from n))
  notes_row m a r from zero low high e = absurd (omega (arith, low, high))
  notes_row m a r from (suc n) low high e = go (cases_lt from r) (λ l. notes_row m a r (from + 1) n (omega (arith, l)) (omega (arith, high)) e)
    where
      go : (from < r) ⊎ (r ≤ from) → (from < r → Notes m (map (λ row. (a, row)) (range_with_len (from + 1) n))) → Notes m ((a, from) ∷ map (λ row. (a, row)) (range_with_len (from + 1) n))
      go (inl l) again ms = again l (added_if ms (at (a, from)))
      go (inr l) again ms =
          let same : r ≡ from = omega (arith, l, low) in
          let here : at (a, from) ≡ Some m = subst (λ (k : ℕ). at (a, k) ≡ Some m) same e in
          stays_noted (same_member m) (added_if ms (at (a, from))) (map (λ row. (a, row)) (range_with_len (from + 1) n))
          (ap (λ (o : Option OutsideMember). any (same_member m) (added_if ms o)) here ∙ is_added m ms)

  notes_flat : (m : OutsideMember) (f : ℕ → List Cell) (a from n : ℕ) → from ≤ a → a < from + n → Notes m (f a) → Notes m (flat_map f (range_with_len from n))
  notes_flat m f a from zero low high h = absurd (omega (arith, low, high))
  notes_flat m f a from (suc n) low high h = go (cases_lt from a) (λ l. notes_flat m f a (from + 1) n (omega (arith, l)) (omega (arith, high)) h)
    where
      go : (from < a) ⊎ (a ≤ from) → (from < a → Notes m (flat_map f (range_with_len (from + 1) n))) → Notes m (f from ++ flat_map f (range_with_len (from + 1) n))
      go (inl l) again = notes_right m (f from) (flat_map f (range_with_len (from + 1) n)) (again l)
      go (inr l) again =
          let same : a ≡ from = omega (arith, l, low) in
          notes_left m (f from) (flat_map f (range_with_len (from + 1) n)) (subst (λ (k : ℕ). Notes m (f k)) same h)

  notes_order : (m : OutsideMember) (f : ℕ → List Cell) (s : Assemblies) (a : ℕ) → a < length s → Notes m (f a) → Notes m (flat_map f (order s))
  notes_order m f [] a l h = absurd (omega (arith, l))
  notes_order m f (x ∷ xs) a l h = subst (Notes m) (sym (flat_map-append f (range_with_len 1 (length xs)) (0 ∷ []))) (go a l h)
    where
      go : (b : ℕ) → b < suc (length xs) → Notes m (f b) → Notes m (flat_map f (range_with_len 1 (length xs)) ++ (f 0 ++ []))
      go zero k g = notes_right m (flat_map f (range_with_len 1 (length xs))) (f 0 ++ []) (notes_left m (f 0) [] g)
      go (suc b) k g = notes_left m (flat_map f (range_with_len 1 (length xs))) (f 0 ++ []) (notes_flat m f (suc b) 1 (length xs) (omega arith) (omega (arith, k)) g)

-- ---- of a set

module _ (s : Assemblies) where
  named_here : (a row : ℕ) (m : OutsideMember) → member s a row ≡ named.Outside m → outside_in (environment s) m.shape.is_field (a, row) ≡ Some m
  named_here a row m e = ap (outside_of m.shape.is_field) e ∙ ap (λ (b : Bool). if b then Some m else None) (same_kind m.shape.is_field)

  listed : (a row : ℕ) (m : OutsideMember) → 1 ≤ row → row ≤ count_in (assembly_at s a) MEMBER_REF → member s a row ≡ named.Outside m → any (same_member m) (outside_members s m.shape.is_field) ≡ true
  unfolding outside_members reference_rows
  listed a row m low high e =
      notes_order (outside_in (environment s) m.shape.is_field) m (references_in (environment s)) s a (is_there s a MEMBER_REF row low high)
      (notes_row (outside_in (environment s) m.shape.is_field) m a row 1 (count_in (assembly_at s a) MEMBER_REF) low (omega (arith, high)) (named_here a row m e)) []

  any_outside : (m : OutsideMember) (ms : List OutsideMember) → any (same_member m) ms ≡ true → any (same_id (id.Outside m)) (map id.Outside ms) ≡ true
  any_outside m [] h = absurd cc
  any_outside m (n ∷ ms) h = go (same_member m n) (any_outside m ms) h
    where
      go : (b : Bool) → (any (same_member m) ms ≡ true → any (same_id (id.Outside m)) (map id.Outside ms) ≡ true) → (b || any (same_member m) ms) ≡ true → (b || any (same_id (id.Outside m)) (map id.Outside ms)) ≡ true
      go true again e = refl
      go false again e = again e

  pub outside_numbered : (a row : ℕ) (m : OutsideMember) → 1 ≤ row → row ≤ count_in (assembly_at s a) MEMBER_REF → member s a row ≡ named.Outside m → is_some (member_number s m.shape.is_field (id.Outside m)) ≡ true
  unfolding member_ids
  outside_numbered a row m low high e =
      let is_field : Bool = m.shape.is_field in
      let old : List MemberId = map of_row (old_rows s (member_table is_field)) in
      let outside : List MemberId = map id.Outside (outside_members s is_field) in
      let new : List MemberId = map of_row (new_rows s (member_table is_field)) in
      some_place (same_id (id.Outside m)) 0 (old ++ (outside ++ new))
      (any_right (same_id (id.Outside m)) old (outside ++ new)
      (any_left (same_id (id.Outside m)) outside new (any_outside m (outside_members s is_field) (listed a row m low high e))))
