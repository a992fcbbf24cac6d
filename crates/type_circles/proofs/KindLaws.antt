-- Which types of a set are structs, by number.
use Rattle.std.proofs.Common.{◌≡◌, ◌∙◌, sym, ap, refl, arith, ℕ, ◌<◌, ◌≤◌, List, [], length, get_or, Bool, true, false, ⊎_elim}
use Rattle.std.specs.Prelude.{map, ◌||◌, bytes_eq, codes, slice_get, Option, Some, None, option_to_list, option_and_then, if◌then◌else◌}
use Rattle.std.proofs.lemmas.Bool.{cases_lt}
use Rattle.std.proofs.lemmas.List.{get_or_past, get_or-map, length-map}
use Rattle.std.proofs.lemmas.Option.{slice_get-get_or, slice_get_past}
use Rattle.cil_model.specs.declared.program.Kind.TheVariants.{Struct, Enumeration, Delegate, Class}
use Rattle.cil_base.specs.declared.tables.TheConstants.{TYPE_DEF}
use Rattle.set_names.specs.Cycles.{any}
use Rattle.set_names.specs.Names.{Name}
use Rattle.set_rows.specs.Sets.{Assembly, Assemblies, assembly_at, no_assembly, count_in}
use Rattle.set_types.specs.CodedTypes.{coded_of}
use Rattle.set_types.specs.SignatureTypes.{Coded}
use Rattle.set_program.specs.declared.identity.TypeId.{TypeId}
use Rattle.set_program.specs.declared.identity.TypeId.TheVariants.{Row, Outside}
use Rattle.set_program.specs.Numbering.{Cell}
use Rattle.set_program.specs.Environment.{types_of}
use Rattle.set_program.specs.Kinds.{kind_at, kind_by_name}
use Rattle.set_program.specs.TypeRules.{is_struct, is_struct_kind, defined_at}
use Rattle.members.specs.declared.assembly_members.AssemblyMembers.{AssemblyMembers}
use Rattle.members.specs.declared.set_type.SetType.{SetType}
use Rattle.member_table.specs.Environments.{AreOf, rows_or, set_type, set_types}
use Rattle.type_circles.specs.Structs.{AreStructs, is_struct_in, is_struct_of, is_struct_or}
use Rattle.type_circles.proofs.RealLaws.{IsReal, type_is_real}
use Rattle.type_circles.proofs.NumberLaws.{no_rows}
use Rattle.type_circles.proofs.SetLaws.{rows_are, count_are, there}

other_kind : (b c d : Bool) → is_struct_kind (if b then Enumeration else if c then Delegate else if d then Delegate else Class) ≡ false
other_kind true c d = refl
other_kind false true d = refl
other_kind false false true = refl
other_kind false false false = refl

struct_if : (a b c d : Bool) → is_struct_kind (if a then Struct else if b then Enumeration else if c then Delegate else if d then Delegate else Class) ≡ a
struct_if true b c d = refl
struct_if false b c d = other_kind b c d

pub struct_name : (name : Name) → is_struct_kind (kind_by_name name) ≡ bytes_eq name (codes "System.ValueType")
struct_name name =
    struct_if (bytes_eq name (codes "System.ValueType")) (bytes_eq name (codes "System.Enum")) (bytes_eq name (codes "System.MulticastDelegate")) (bytes_eq name (codes "System.Delegate"))

or_none : (b : Bool) → (b || false) ≡ b
or_none true = refl
or_none false = refl

module _ (s : Assemblies) (ms : List AssemblyMembers) (types : List SetType) (are : AreOf s ms types) where
  abbrev at_row : Cell → Bool
  at_row r = is_struct_kind (kind_at s r.0 r.1)

  by_row : (a r : ℕ) (o : Option AssemblyMembers) → slice_get ms a ≡ o → a < length ms → is_struct_or r o ≡ at_row (a, r)
  by_row a r None e h = absurd (there ms a h e)
  by_row a r (Some m) e h =
      let rows : m.rows ≡ assembly_at s a = sym (ap rows_or e) ∙ rows_are s ms types are a in
      ap (λ (x : Assembly). is_struct_in x (coded_of m.coded) r) rows
      ∙ ap (λ (c : Coded). is_struct_in (assembly_at s a) c r) (are.coded a m e)

  by_id : (k : ℕ) (i : TypeId) → slice_get (types_of s) k ≡ Some i → is_struct_of ms (set_type s i) ≡ is_struct s k
  by_id k (Row a r) e = ⊎_elim
      (λ (h : a < length ms).
      by_row a r (slice_get ms a) refl h ∙ sym (or_none (at_row (a, r)))
      ∙ sym (ap (λ (o : Option TypeId). any at_row (option_to_list (option_and_then defined_at o))) e))
      (λ (h : length ms ≤ a).
      absurd (past a r (type_is_real s k (Row a r) e) (omega (arith, h, count_are s ms types are))))
      (cases_lt a (length ms))
    where
      past : (a r : ℕ) → IsReal s (Row a r) → length s ≤ a → ⊥
      past a r real h =
          let none : count_in (assembly_at s a) TYPE_DEF ≡ 0 = ap (λ (x : Assembly). count_in x TYPE_DEF) (get_or_past s a no_assembly h) ∙ no_rows in
          omega (arith, real.0, real.1, none)
  by_id k (Outside name) e =
      ap (is_struct_or 0) (slice_get_past ms (length s) (omega (arith, count_are s ms types are)))
      ∙ sym (ap (λ (o : Option TypeId). any at_row (option_to_list (option_and_then defined_at o))) e)

  pub flags_are : AreStructs s (map (is_struct_of ms) types)
  unfolding set_types
  flags_are = record {
    items = λ k. ⊎_elim
        (λ (h : k < length (types_of s)).
        let d : TypeId = Outside [] in
        ap (λ (l : List SetType). get_or (map (is_struct_of ms) l) k false) are.bases
        ∙ get_or-map (is_struct_of ms) (map (set_type s) (types_of s)) k (set_type s d) false (omega (arith, h, length-map (types_of s) (set_type s)))
        ∙ ap (is_struct_of ms) (get_or-map (set_type s) (types_of s) k d (set_type s d) h)
        ∙ by_id k (get_or (types_of s) k d) (slice_get-get_or (types_of s) k d h))
        (λ (h : length (types_of s) ≤ k).
        ap (λ (l : List SetType). get_or (map (is_struct_of ms) l) k false) are.bases
        ∙ get_or_past (map (is_struct_of ms) (map (set_type s) (types_of s))) k false
        (omega (arith, h, length-map (map (set_type s) (types_of s)) (is_struct_of ms), length-map (types_of s) (set_type s)))
        ∙ sym (ap (λ (o : Option TypeId). any at_row (option_to_list (option_and_then defined_at o))) (slice_get_past (types_of s) k h)))
        (cases_lt k (length (types_of s)));
  }
