-- What tokens of an assembly mean, by what is known of its members (ECMA-335, II.22, II.24.2.6).
use Rattle.std.specs.Prelude.{◌≡◌, ℕ, ◌+◌, ◌-◌, ◌*◌, ◌/◌, ◌%◌, ◌==◌, ◌&&◌, nat_lt, nat_le, Bool, true, false, if◌then◌else◌, List, [], map, length, get_or, Option, None, option_map, option_and_then}
use Rattle.cil_base.specs.declared.tables.TheConstants.{FIELD, MEMBER_REF, METHOD_DEF, METHOD_SPEC, STAND_ALONE_SIG, TYPE_DEF, TYPE_REF, TYPE_SPEC}
use Rattle.cil_model.specs.declared.program.Meaning.{Meaning}
use Rattle.cil_model.specs.declared.program.Meaning.TheVariants.{OfType}
use Rattle.set_rows.specs.Sets.{Assembly, Assemblies, assembly_at, rows_in, blob, cell}
use Rattle.set_rows.specs.Owners.{AreOwners, row_in}
use Rattle.set_types.specs.SignatureTypes.{Coded, ty_of}
use Rattle.set_signatures.specs.Blobs.{instance_sigs, is_field_blob}
use Rattle.member_table.specs.declared.named.MemberId.TheVariants as id
use Rattle.descriptions.specs.declared.facts.NamedMember.{NamedMember}
use Rattle.descriptions.specs.declared.facts.MemberFacts.{MemberFacts}
use Rattle.descriptions.specs.Descriptions.{number_in, named_as, reference_at}
use Rattle.descriptions.specs.Programs.{of_field, of_method, of_member, of_locals, tys_in}

-- what is known is so of an assembly of the set
pub record AreFacts (s : Assemblies) (a : ℕ) (f : MemberFacts) : Type 0 where
  pub field_owners : AreOwners (assembly_at s a) 4 FIELD f.field_owners.items
  pub method_owners : AreOwners (assembly_at s a) 5 METHOD_DEF f.method_owners.items
  pub field_numbers : f.field_numbers.items ≡ map (λ row. number_in s true (id.Row a row)) (rows_in (assembly_at s a) FIELD)
  pub method_numbers : f.method_numbers.items ≡ map (λ row. number_in s false (id.Row a row)) (rows_in (assembly_at s a) METHOD_DEF)
  pub references : f.references.items ≡ map (reference_at s a) (rows_in (assembly_at s a) MEMBER_REF)

-- ---- by lists that stand by row from 0

abbrev pub number_of_row : List ℕ → ℕ → ℕ
number_of_row numbers row = get_or numbers (row - 1) 0

abbrev pub member_of_row : Coded → List ℕ → List ℕ → ℕ → Option NamedMember
member_of_row c owners numbers row = option_map (λ t. named_as t (number_of_row numbers row)) (option_and_then (λ k. c.named (k * 4)) (row_in owners row))

abbrev pub reference_of_row : List (Option NamedMember) → ℕ → Option NamedMember
reference_of_row references row = if nat_lt 0 row && nat_le row (length references) then get_or references (row - 1) None else None

abbrev pub method_by : Coded → MemberFacts → ℕ → Option NamedMember
method_by c f coded = if coded % 2 == 0 then member_of_row c f.method_owners.items f.method_numbers.items (coded / 2) else reference_of_row f.references.items (coded / 2)

-- what a row of Field or MethodDef means
abbrev pub definition_by : Coded → MemberFacts → Bool → ℕ → Option Meaning
definition_by c f true row = of_field (member_of_row c f.field_owners.items f.field_numbers.items row)
definition_by c f false row = of_method [] (member_of_row c f.method_owners.items f.method_numbers.items row)

-- what a MethodSpec row names
abbrev pub instance_by : Assembly → Coded → MemberFacts → ℕ → Option Meaning
instance_by x c f row = of_method (tys_in c (instance_sigs (blob x METHOD_SPEC row 1))) (method_by c f (cell x METHOD_SPEC row 0))

-- what a token means, by table and row
unfoldable pub meaning_by : Assembly → Coded → MemberFacts → ℕ → ℕ → Option Meaning
meaning_by x c f table row =
    if table == TYPE_REF then option_map OfType (c.named (row * 4 + 1))
    else if table == TYPE_DEF then option_map OfType (c.named (row * 4))
    else if table == FIELD then definition_by c f true row
    else if table == METHOD_DEF then definition_by c f false row
    else if table == MEMBER_REF then of_member (is_field_blob (blob x MEMBER_REF row 2)) (reference_of_row f.references.items row)
    else if table == STAND_ALONE_SIG then of_locals c (blob x STAND_ALONE_SIG row 0)
    else if table == TYPE_SPEC then option_map OfType (option_map (ty_of c) (c.spec row))
    else if table == METHOD_SPEC then instance_by x c f row
    else None
