-- Where no type is around itself, each type of TARGET has a full name (N3).
use Rattle.std.proofs.Common.{◌≡◌, ◌∙◌, sym, ap, refl, arith, rules, ℕ, zero, suc, ◌+◌, ◌≤◌, Bool, true, false, List, [], ◌∷◌, ◌++◌, length, ◌||◌}
use Rattle.std.specs.Prelude.{Option, Some, None, cond, is_some, slice_get, bytes_eq, reverse, option_map, option_and_then, option_to_list, flat_map, ◌==◌, ◌&&◌, if◌then◌else◌}
use Rattle.std.specs.List.{position_from}
use Rattle.std.proofs.lemmas.Bool.{eqb-true}
use Rattle.cil_base.specs.declared.tables.TheConstants.{TYPE_DEF}
use Rattle.cil_base.specs.declared.rule.Rule.TheVariants.{N3, N4}
use Rattle.set_names.specs.Cycles.{any, reaches, is_deep}
use Rattle.set_names.specs.Paths.{path_within}
use Rattle.set_rows.specs.Sets.{Assembly, Assemblies, assembly_at, count_in}
use Rattle.set_program.specs.declared.identity.TypeId.{TypeId}
use Rattle.set_program.specs.declared.identity.TypeId.TheVariants.{Row, Outside}
use Rattle.set_program.specs.TypeNames.{own_name, path_name, enclosing, full_name}
use Rattle.set_program.specs.Numbering.{Cell, same_id, outside_names}
use Rattle.set_program.specs.Attributes.{attribute_outside}
use Rattle.set_program.specs.Environment.{types_of, number_of}
use Rattle.set_program.specs.TypeRules.{test, defined_at, row_of_number, around, above, within, deepest, is_on_cycle, is_entangled, name_is_taken}
use Rattle.type_graphs.proofs.StepLaws.{is_among, in_more, next_reached, reached_next}
use Rattle.type_table.specs.Table.{types_before}
use Rattle.type_table.proofs.NumberingLaws.{whole_count}
use Rattle.growth_premises.specs.Rules.{KeepsRules}
use Rattle.growth_premises.proofs.NumberedLaws.{row_numbered}
use Rattle.growth_premises.proofs.RuleLaws.{no_first}
use Rattle.growth_rules.proofs.PathLaws.{ahead, path_ends}
use Rattle.growth_rules.proofs.IndexLaws.{row_is}

-- ---- the place of a number

pub record IsSlot {A : Type 0} (test : A → Bool) (xs : List A) (i k : ℕ) : Type 0 where
  pub at : ℕ
  pub value : A
  pub place : k ≡ i + at
  pub there : slice_get xs at ≡ Some value
  pub passes : test value ≡ true

pub slot_of : {A : Type 0} (test : A → Bool) (xs : List A) (i k : ℕ) → position_from test i xs ≡ Some k → IsSlot test xs i k
slot_of test [] i k e = absurd cc
slot_of {A} test (x ∷ xs) i k e = go (test x) refl (slot_of test xs (i + 1) k) e
  where
    go : (b : Bool) → test x ≡ b → (position_from test (i + 1) xs ≡ Some k → IsSlot test xs (i + 1) k) → cond b (Some i) (position_from test (i + 1) xs) ≡ Some k → IsSlot test (x ∷ xs) i k
    go true f later g = let same : i ≡ k = this i k g in record { at = 0; value = x; place = omega (arith, same); there = refl; passes = f }
      where
        this : (a b : ℕ) → Some a ≡ Some b → a ≡ b
        this a b h = ap (λ (o : Option ℕ). Rattle.std.specs.Prelude.unwrap_or o a) h
    go false f later g = let s : IsSlot test xs (i + 1) k = later g in record { at = suc s.at; value = s.value; place = omega (arith, s.place); there = s.there; passes = s.passes }

pub same_row : (a r : ℕ) (id : TypeId) → same_id (Row a r) id ≡ true → id ≡ Row a r
same_row a r (Outside name) e = absurd cc
same_row a r (Row b q) e = go (a == b) refl e
  where
    go : (t : Bool) → (a == b) ≡ t → (if t then r == q else false) ≡ true → Row b q ≡ Row a r
    go true f g = ap (λ (c : ℕ). Row c q) (sym (eqb-true a b f)) ∙ ap (Row a) (sym (eqb-true r q g))
    go false f g = absurd cc

pub row_at : (s : Assemblies) (a r k : ℕ) → number_of s (Row a r) ≡ Some k → row_of_number s k ≡ Some (a, r)
row_at s a r k e =
    let slot : IsSlot (same_id (Row a r)) (types_of s) 0 k = slot_of (same_id (Row a r)) (types_of s) 0 k e in
    let at : k ≡ slot.at = omega (arith, slot.place) in
    ap (λ (n : ℕ). option_and_then defined_at (slice_get (types_of s) n)) at
    ∙ ap (option_and_then defined_at) slot.there
    ∙ ap defined_at (same_row a r slot.value slot.passes)

same_number : (k : ℕ) → (k == k) ≡ true
same_number k = search rules

-- ---- types around types

module _ (x : Assembly) (xs : Assemblies) (bounds : (row k : ℕ) → enclosing x row ≡ Some k → (1 ≤ k) × (k ≤ count_in x TYPE_DEF)) where
  abbrev s : Assemblies
  s = x ∷ xs

  abbrev outer_of : Cell → List ℕ
  outer_of r = option_to_list (option_and_then (λ o. number_of s (Row r.0 o)) (enclosing (assembly_at s r.0) r.1))

  one_around : (r t k j : ℕ) → number_of s (Row 0 r) ≡ Some k → number_of s (Row 0 t) ≡ Some j → enclosing x r ≡ Some t → is_among (around s k) j ≡ true
  one_around r t k j e f g =
      ap (λ (o : Option Cell). any (λ i. i == j) (flat_map outer_of (option_to_list o))) (row_at s 0 r k e)
      ∙ ap (λ (o : Option ℕ). any (λ i. i == j) (option_to_list (option_and_then (λ o. number_of s (Row 0 o)) o) ++ [])) g
      ∙ ap (λ (o : Option ℕ). any (λ i. i == j) (option_to_list o ++ [])) f
      ∙ ap (λ (b : Bool). b || false) (same_number j)

  number_there : (r : ℕ) → 1 ≤ r → r ≤ count_in x TYPE_DEF → is_some (number_of s (Row 0 r)) ≡ true
  number_there r low high = row_numbered x xs 0 r (omega arith, (low, high))

  reached : (d r t k j : ℕ) → number_of s (Row 0 r) ≡ Some k → number_of s (Row 0 t) ≡ Some j → ahead (enclosing x) (suc d) r ≡ Some t → reaches (around s) (suc d) k j ≡ true
  reached zero r t k j e f g = next_reached (around s) 0 k j (one_around r t k j e f g)
  reached (suc d) r t k j e f g = by_middle (ahead (enclosing x) (suc d) r) refl g (λ m i h. reached d r m k i e h)
    where
      by_number : (m : ℕ) → ahead (enclosing x) (suc d) r ≡ Some m → enclosing x m ≡ Some t → ((i : ℕ) → number_of s (Row 0 m) ≡ Some i → ahead (enclosing x) (suc d) r ≡ Some m → reaches (around s) (suc d) k i ≡ true)
          → (o : Option ℕ) → number_of s (Row 0 m) ≡ o → is_some o ≡ true → reaches (around s) (suc (suc d)) k j ≡ true
      by_number m h n again None p q = absurd cc
      by_number m h n again (Some i) p q = reached_next (around s) (suc d) k i j (again i p h) (one_around m t i j p f n)

      within_rows : (m : ℕ) (o : Option ℕ) → ahead (enclosing x) d r ≡ o → option_and_then (enclosing x) o ≡ Some m → (1 ≤ m) × (m ≤ count_in x TYPE_DEF)
      within_rows m None h n = absurd cc
      within_rows m (Some l) h n = bounds l m n

      by_middle : (o : Option ℕ) → ahead (enclosing x) (suc d) r ≡ o → option_and_then (enclosing x) o ≡ Some t
          → ((m i : ℕ) → number_of s (Row 0 m) ≡ Some i → ahead (enclosing x) (suc d) r ≡ Some m → reaches (around s) (suc d) k i ≡ true) → reaches (around s) (suc (suc d)) k j ≡ true
      by_middle None h n again = absurd cc
      by_middle (Some m) h n again =
          let at : (1 ≤ m) × (m ≤ count_in x TYPE_DEF) = within_rows m (ahead (enclosing x) d r) refl h in
          by_number m h n (again m) (number_of s (Row 0 m)) refl (number_there m at.0 at.1)

  module _ (kept : KeepsRules s) where
    middle : (a b c : Bool) → (a || (b || c)) ≡ false → b ≡ false
    middle true b c e = absurd cc
    middle false true c e = absurd cc
    middle false false c e = refl

    alone : (b : Bool) → (b || false) ≡ false → b ≡ false
    alone true e = absurd cc
    alone false e = refl

    no_circle : (r k : ℕ) → 1 ≤ r → r ≤ count_in x TYPE_DEF → number_of s (Row 0 r) ≡ Some k → reaches (around s) (length (types_of s)) k k ≡ false
    no_circle r k low high e =
        middle (is_on_cycle s (above s) k) (is_on_cycle s (around s) k) (is_on_cycle s (within s) k || is_deep (within s) deepest k)
        (alone (is_entangled s k)
        (sym (ap (λ (o : Option ℕ). any (is_entangled s) (option_to_list o)) e)
        ∙ no_first (test N3 0 TYPE_DEF r (any (is_entangled s) (option_to_list (number_of s (Row 0 r))))) (test N4 0 TYPE_DEF r (name_is_taken x (full_name x r) r) ∷ []) (kept.types 0 TYPE_DEF r low high)))

    few : count_in x TYPE_DEF ≤ length (types_of s)
    few = let whole : length (types_of s) ≡ types_before s (length s) + count_in x TYPE_DEF + length (outside_names s (attribute_outside s)) = whole_count s (omega arith) in omega (arith, whole)

    never_back : (d r : ℕ) → 1 ≤ r → r ≤ count_in x TYPE_DEF → suc d ≤ count_in x TYPE_DEF → ahead (enclosing x) (suc d) r ≡ Some r → ⊥
    never_back d r low high bound e = go (number_of s (Row 0 r)) refl (number_there r low high)
      where
        go : (o : Option ℕ) → number_of s (Row 0 r) ≡ o → is_some o ≡ true → ⊥
        go None f g = absurd cc
        go (Some k) f g = let wrong : true ≡ false = sym (in_more (around s) (suc d) (length (types_of s)) k k (omega (arith, bound, few)) (reached d r r k k f f e)) ∙ no_circle r k low high f in cc

    mapped : {A B : Type 0} (f : A → B) (o : Option A) → is_some o ≡ true → is_some (option_map f o) ≡ true
    mapped f None h = absurd cc
    mapped f (Some v) h = refl

    pub has_name : (r : ℕ) → 1 ≤ r → r ≤ count_in x TYPE_DEF → is_some (full_name x r) ≡ true
    unfolding full_name
    has_name r low high =
        ap (λ (b : Bool). is_some (if b then option_map (λ path. path_name (own_name x TYPE_DEF) (reverse path)) (path_within (enclosing x) (count_in x TYPE_DEF) r) else None)) (row_is x TYPE_DEF r low high)
        ∙ mapped (λ path. path_name (own_name x TYPE_DEF) (reverse path)) (path_within (enclosing x) (count_in x TYPE_DEF) r) (path_ends (enclosing x) (count_in x TYPE_DEF) bounds never_back r low high)
