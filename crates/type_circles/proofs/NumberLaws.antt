-- Lists by row against lists by number.
use Rattle.std.proofs.Common.{◌≡◌, ◌∙◌, sym, ap, refl, arith, ℕ, ◌-◌, ◌<◌, ◌≤◌, List, [], length, get_or, ⊎_elim}
use Rattle.std.specs.Prelude.{map, slice_get, Option, Some, option_to_list, option_and_then}
use Rattle.std.specs.List.{range_with_len, flat_map}
use Rattle.std.proofs.lemmas.Bool.{cases_lt}
use Rattle.std.proofs.lemmas.List.{append-nil, get_or_past, get_or-map, length-map}
use Rattle.std.proofs.lemmas.List.FromFn.{fill_by_all, get_or-map-range_with_len, length-range_with_len}
use Rattle.std.proofs.lemmas.Option.{slice_get-get_or}
use Rattle.cil_base.specs.declared.tables.TheConstants.{TYPE_DEF}
use Rattle.set_rows.specs.Sets.{Assembly, Assemblies, assembly_at, no_assembly, count_in, rows_in}
use Rattle.set_program.specs.declared.identity.TypeId.{TypeId}
use Rattle.set_program.specs.declared.identity.TypeId.TheVariants.{Row, Outside}
use Rattle.set_program.specs.Numbering.{Cell}
use Rattle.set_program.specs.Environment.{types_of}
use Rattle.set_program.specs.TypeRules.{defined_at, row_of_number}
use Rattle.members.specs.declared.set_type.SetType.{SetType}
use Rattle.member_table.specs.Environments.{set_type, set_types}
use Rattle.type_circles.specs.RowGraphs.{row_list}
use Rattle.type_circles.proofs.RealLaws.{IsReal, type_is_real}

pub no_rows : count_in no_assembly TYPE_DEF ≡ 0
unfolding no_assembly
no_rows = refl

pub outside : TypeId
outside = Outside []

module _ (s : Assemblies) (f : ℕ → ℕ → List ℕ) where
  abbrev pub of_number : ℕ → List ℕ
  of_number k = flat_map (λ (r : Cell). f r.0 r.1) (option_to_list (row_of_number s k))

  module _ (lists : List (List (List ℕ))) (are : lists ≡ map (λ a. map (f a) (rows_in (assembly_at s a) TYPE_DEF)) (range_with_len 0 (length s))) where
    of_row_is : (a r : ℕ) → 1 ≤ r → r ≤ count_in (assembly_at s a) TYPE_DEF → get_or (get_or lists a []) (r - 1) [] ≡ f a r
    of_row_is a r low high = ⊎_elim
        (λ (h : a < length s).
        ap (λ (l : List (List (List ℕ))). get_or (get_or l a []) (r - 1) []) are
        ∙ ap (λ (l : List (List ℕ)). get_or l (r - 1) []) (get_or-map-range_with_len (λ (b : ℕ). map (f b) (rows_in (assembly_at s b) TYPE_DEF)) 0 (length s) a a [] h (omega arith))
        ∙ get_or-map-range_with_len (f a) 1 (count_in (assembly_at s a) TYPE_DEF) (r - 1) r [] (omega (arith, low, high)) (omega (arith, low)))
        (λ (h : length s ≤ a).
        let none : count_in (assembly_at s a) TYPE_DEF ≡ 0 = ap (λ (x : Assembly). count_in x TYPE_DEF) (get_or_past s a no_assembly h) ∙ no_rows in
        absurd (omega (arith, low, high, none)))
        (cases_lt a (length s))

    count_lists : length lists ≡ length s
    count_lists = ap length are ∙ length-map (range_with_len 0 (length s)) (λ (a : ℕ). map (f a) (rows_in (assembly_at s a) TYPE_DEF)) ∙ length-range_with_len 0 (length s)

    by_id : (k : ℕ) (i : TypeId) → slice_get (types_of s) k ≡ Some i → row_list lists (set_type s i) ≡ of_number k
    by_id k (Row a r) e =
        let real : IsReal s (Row a r) = type_is_real s k (Row a r) e in
        of_row_is a r real.0 real.1
        ∙ sym (append-nil (f a r))
        ∙ sym (ap (λ (o : Option TypeId). flat_map (λ (c : Cell). f c.0 c.1) (option_to_list (option_and_then defined_at o))) e)
    by_id k (Outside name) e =
        let past : length lists ≤ length s = omega (arith, count_lists) in
        ap (λ (l : List (List ℕ)). get_or l 0 []) (get_or_past lists (length s) [] past)
        ∙ sym (ap (λ (o : Option TypeId). flat_map (λ (c : Cell). f c.0 c.1) (option_to_list (option_and_then defined_at o))) e)

    pub lists_are : (types : List SetType) → types ≡ set_types s → map (row_list lists) types ≡ map of_number (range_with_len 0 (length (types_of s)))
    unfolding set_types
    lists_are types e =
        ap (map (row_list lists)) e
        ∙ fill_by_all of_number (map (row_list lists) (map (set_type s) (types_of s))) (length (types_of s)) []
        (length-map (map (set_type s) (types_of s)) (row_list lists) ∙ length-map (types_of s) (set_type s))
        (λ k h.
        let w : k < length (map (set_type s) (types_of s)) = omega (arith, h, length-map (types_of s) (set_type s)) in
        let d : TypeId = outside in
        get_or-map (row_list lists) (map (set_type s) (types_of s)) k (set_type s d) [] w
        ∙ ap (row_list lists) (get_or-map (set_type s) (types_of s) k d (set_type s d) h)
        ∙ by_id k (get_or (types_of s) k d) (slice_get-get_or (types_of s) k d h))
