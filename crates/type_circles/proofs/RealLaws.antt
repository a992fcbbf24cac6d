-- The types of a set that are rows are rows of its tables.
use Rattle.std.proofs.Common.{◌≡◌, ◌∙◌, sym, ap, refl, subst, arith, rules, ℕ, zero, suc, ◌+◌, ◌-◌, ◌<◌, ◌≤◌, List, [], ◌∷◌, ◌++◌}
use Rattle.std.specs.Prelude.{map, slice_get, Some}
use Rattle.std.specs.List.{range_with_len, flat_map}
use Rattle.cil_base.specs.declared.tables.TheConstants.{TYPE_DEF}
use Rattle.set_names.specs.Names.{Name}
use Rattle.set_rows.specs.Sets.{Assemblies, assembly_at, count_in}
use Rattle.set_program.specs.declared.identity.TypeId.{TypeId}
use Rattle.set_program.specs.declared.identity.TypeId.TheVariants.{Row, Outside}
use Rattle.set_program.specs.Numbering.{Cell, of_row, old_rows, new_rows, outside_names, rows_between, type_cut, type_ids}
use Rattle.set_program.specs.Attributes.{attribute_outside}
use Rattle.set_program.specs.Environment.{types_of}
use Rattle.type_table.proofs.NumberingLaws.{cut_low, cut_high}

module _ (s : Assemblies) where
  abbrev pub IsReal : TypeId → Type 0
  IsReal (Row a r) = (1 ≤ r) × (r ≤ count_in (assembly_at s a) TYPE_DEF)
  IsReal (Outside name) = Unit {0}

  abbrev AreReal : List TypeId → Type 0
  AreReal [] = Unit {0}
  AreReal (i ∷ is) = IsReal i × AreReal is

  append_real : (is js : List TypeId) → AreReal is → AreReal js → AreReal (is ++ js)
  append_real [] js h k = k
  append_real (i ∷ is) js h k = (h.0, append_real is js h.1 k)

  names_real : (names : List Name) → AreReal (map Outside names)
  names_real [] = tt
  names_real (n ∷ ns) = (tt, names_real ns)

  run_real : (a from n : ℕ) → 1 ≤ from → from + n ≤ count_in (assembly_at s a) TYPE_DEF + 1 → AreReal (map of_row (map (λ row. (a, row)) (range_with_len from n)))
  run_real a from zero low high = tt
  run_real a from (suc n) low high = ((low, omega (arith, high)), run_real a (from + 1) n (omega arith) (omega (arith, high)))

  between_real : (a from to : ℕ) → 1 ≤ from → to ≤ count_in (assembly_at s a) TYPE_DEF + 1 → from ≤ to → AreReal (map of_row (rows_between a from to))
  between_real a from to low high le = run_real a from (to - from) low (omega (arith, high, le))

  map_append : (xs ys : List Cell) → map of_row (xs ++ ys) ≡ map of_row xs ++ map of_row ys
  map_append xs ys = Rattle.std.proofs.lemmas.List.map-append of_row xs ys

  others_real : (bs : List ℕ) → AreReal (map of_row (flat_map (λ a. rows_between a 1 (count_in (assembly_at s a) TYPE_DEF + 1)) bs))
  others_real [] = tt
  others_real (a ∷ bs) = subst AreReal (sym (map_append (rows_between a 1 (count_in (assembly_at s a) TYPE_DEF + 1)) (flat_map (λ b. rows_between b 1 (count_in (assembly_at s b) TYPE_DEF + 1)) bs)))
      (append_real (map of_row (rows_between a 1 (count_in (assembly_at s a) TYPE_DEF + 1))) (map of_row (flat_map (λ b. rows_between b 1 (count_in (assembly_at s b) TYPE_DEF + 1)) bs))
      (between_real a 1 (count_in (assembly_at s a) TYPE_DEF + 1) (omega arith) (omega arith) (omega arith)) (others_real bs))

  real_at : (is : List TypeId) (k : ℕ) (i : TypeId) → AreReal is → slice_get is k ≡ Some i → IsReal i
  real_at [] k i h e = absurd cc
  real_at (j ∷ js) zero i h e = let same : j ≡ i = cc in subst IsReal same h.0
  real_at (j ∷ js) (suc k) i h e = real_at js k i h.1 e

  new_real : AreReal (map of_row (new_rows s TYPE_DEF))
  new_real = between_real 0 (type_cut (assembly_at s 0)) (count_in (assembly_at s 0) TYPE_DEF + 1) (cut_low (assembly_at s 0)) (omega arith) (cut_high (assembly_at s 0))

old_real : (s : Assemblies) → AreReal s (map of_row (old_rows s TYPE_DEF))
old_real [] = tt
old_real (x ∷ xs) =
    subst (AreReal (x ∷ xs)) (sym (map_append (x ∷ xs) (flat_map (λ a. rows_between a 1 (count_in (assembly_at (x ∷ xs) a) TYPE_DEF + 1)) (range_with_len 1 (Rattle.std.proofs.Common.length xs))) (rows_between 0 1 (type_cut x))))
    (append_real (x ∷ xs) (map of_row (flat_map (λ a. rows_between a 1 (count_in (assembly_at (x ∷ xs) a) TYPE_DEF + 1)) (range_with_len 1 (Rattle.std.proofs.Common.length xs)))) (map of_row (rows_between 0 1 (type_cut x)))
    (others_real (x ∷ xs) (range_with_len 1 (Rattle.std.proofs.Common.length xs)))
    (between_real (x ∷ xs) 0 1 (type_cut x) (omega arith) (cut_high x) (cut_low x)))

all_real : (s : Assemblies) → AreReal s (types_of s)
unfolding types_of type_ids
all_real s =
    append_real s (map of_row (old_rows s TYPE_DEF)) (map Outside (outside_names s (attribute_outside s)) ++ map of_row (new_rows s TYPE_DEF)) (old_real s)
    (append_real s (map Outside (outside_names s (attribute_outside s))) (map of_row (new_rows s TYPE_DEF)) (names_real s (outside_names s (attribute_outside s))) (new_real s))

pub type_is_real : (s : Assemblies) (k : ℕ) (i : TypeId) → slice_get (types_of s) k ≡ Some i → IsReal s i
type_is_real s k i e = real_at s (types_of s) k i (all_real s) e
