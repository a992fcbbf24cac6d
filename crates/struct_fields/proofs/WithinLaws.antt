-- The structs within a type, by the rows of its assembly and by its number.
use Rattle.std.proofs.Common.{◌≡◌, ◌∙◌, sym, ap, refl, arith, ℕ, ◌<◌, ◌≤◌, List, [], length, get_or, ⊎_elim}
use Rattle.std.specs.Prelude.{map, filter, slice_get, Option, Some, None, option_to_list, option_and_then, if◌then◌else◌}
use Rattle.std.specs.List.{range_with_len, flat_map}
use Rattle.std.proofs.lemmas.Bool.{cases_lt}
use Rattle.std.proofs.lemmas.List.{append-nil, get_or_past, get_or-map, length-map}
use Rattle.std.proofs.lemmas.Option.{slice_get-get_or, slice_get_past}
use Rattle.cil_base.specs.declared.tables.TheConstants.{FIELD, TYPE_DEF}
use Rattle.set_rows.specs.Sets.{Assembly, Assemblies, assembly_at, no_assembly, count_in, rows_in}
use Rattle.set_rows.specs.Owners.{owns}
use Rattle.set_types.specs.CodedTypes.{coded_of}
use Rattle.set_types.specs.SignatureTypes.{Coded}
use Rattle.set_program.specs.declared.identity.TypeId.{TypeId}
use Rattle.set_program.specs.declared.identity.TypeId.TheVariants.{Row, Outside}
use Rattle.set_program.specs.Numbering.{Cell}
use Rattle.set_program.specs.Environment.{types_of}
use Rattle.set_program.specs.TypeRules.{is_struct, field_structs, within, defined_at}
use Rattle.members.specs.declared.assembly_members.AssemblyMembers.{AssemblyMembers}
use Rattle.members.specs.declared.set_type.SetType.{SetType}
use Rattle.member_table.specs.Environments.{AreOf, rows_or, set_type, set_types}
use Rattle.struct_fields.specs.StructFields.{within_row, within_or, within_type, within_number, within_at}
use Rattle.type_circles.proofs.ListLaws.{map_on}
use Rattle.type_circles.proofs.RealLaws.{IsReal, type_is_real}
use Rattle.type_circles.proofs.NumberLaws.{no_rows}
use Rattle.type_circles.proofs.SetLaws.{rows_are, count_are, there}

module _ (s : Assemblies) where
  abbrev fields_within : ℕ → ℕ → List ℕ
  fields_within a row = flat_map (field_structs s a) (filter (λ f. owns (assembly_at s a) 4 FIELD f row) (rows_in (assembly_at s a) FIELD))

  abbrev within_id : Option TypeId → List ℕ
  within_id o = flat_map (λ (r : Cell). fields_within r.0 r.1) (option_to_list (option_and_then defined_at o))

  module _ (ms : List AssemblyMembers) (types : List SetType) (are : AreOf s ms types) where
    by_row : (a r : ℕ) (o : Option AssemblyMembers) → slice_get ms a ≡ o → a < length ms → within_or s r o ≡ fields_within a r
    by_row a r None e h = absurd (there ms a h e)
    by_row a r (Some m) e h =
        let rows : m.rows ≡ assembly_at s a = sym (ap rows_or e) ∙ rows_are s ms types are a in
        ap (λ (x : Assembly). within_row s x (coded_of m.coded) r) rows
        ∙ ap (λ (c : Coded). within_row s (assembly_at s a) c r) (are.coded a m e)

    by_id : (k : ℕ) (i : TypeId) → slice_get (types_of s) k ≡ Some i → within_type s ms (set_type s i) ≡ within_id (Some i)
    by_id k (Row a r) e = ⊎_elim
        (λ (h : a < length ms). by_row a r (slice_get ms a) refl h ∙ sym (append-nil (fields_within a r)))
        (λ (h : length ms ≤ a).
        absurd (past a r (type_is_real s k (Row a r) e) (omega (arith, h, count_are s ms types are))))
        (cases_lt a (length ms))
      where
        past : (a r : ℕ) → IsReal s (Row a r) → length s ≤ a → ⊥
        past a r real h =
            let none : count_in (assembly_at s a) TYPE_DEF ≡ 0 = ap (λ (x : Assembly). count_in x TYPE_DEF) (get_or_past s a no_assembly h) ∙ no_rows in
            omega (arith, real.0, real.1, none)
    by_id k (Outside name) e = ap (within_or s 0) (slice_get_past ms (length s) (omega (arith, count_are s ms types are)))

    by_number : (k : ℕ) → k < length (types_of s) → within_at s ms types k ≡ within s k
    unfolding set_types
    by_number k h =
        let i : TypeId = get_or (types_of s) k (Outside []) in
        let known : slice_get (types_of s) k ≡ Some i = slice_get-get_or (types_of s) k (Outside []) h in
        let t : SetType = set_type s i in
        let long : k < length (map (set_type s) (types_of s)) = omega (arith, h, length-map (types_of s) (set_type s)) in
        let found : slice_get types k ≡ Some t =
        ap (λ (l : List SetType). slice_get l k) are.bases
        ∙ slice_get-get_or (map (set_type s) (types_of s)) k t long
        ∙ ap (λ (u : SetType). Some u) (get_or-map (set_type s) (types_of s) k (Outside []) t h) in
        ap (within_number s ms k) found
        ∙ ap (λ (l : List ℕ). if is_struct s k then l else []) (by_id k i known ∙ sym (ap within_id known))

    pub count_types : length types ≡ length (types_of s)
    unfolding set_types
    count_types = ap length are.bases ∙ length-map (types_of s) (set_type s)

    pub within_all : map (within_at s ms types) (range_with_len 0 (length types)) ≡ map (within s) (range_with_len 0 (length (types_of s)))
    within_all =
        ap (λ (n : ℕ). map (within_at s ms types) (range_with_len 0 n)) count_types
        ∙ map_on [] (within_at s ms types) (within s) (length (types_of s)) by_number
