-- What rows of members, MemberRef rows and MethodDefOrRef indexes name, and the numbers of members, where rows are appended.
use Rattle.std.proofs.Common.{◌≡◌, ◌∙◌, sym, ap, refl, arith, ℕ, ◌<◌, ◌≤◌, ◌∷◌, Bool, true, false, ◌⊎◌, inl, inr}
use Rattle.std.specs.Prelude.{◌==◌, ◌/◌, ◌*◌, ◌%◌, is_some, Option, Some, None, option_map, option_and_then, if◌then◌else◌}
use Rattle.std.proofs.lemmas.Bool.{cases_lt}
use Rattle.cil_base.specs.declared.tables.TheConstants.{FIELD, MEMBER_REF, METHOD_DEF}
use Rattle.cil_model.specs.declared.ty.Ty.{Ty}
use Rattle.cil_model.specs.declared.ty.Ty.TheVariants as ty
use Rattle.set_rows.specs.Sets.{Assembly, Assemblies, assembly_at, count_in, is_row, or_zero}
use Rattle.set_rows.specs.Owners.{owner}
use Rattle.set_types.specs.SignatureTypes.{ty_or}
use Rattle.set_program.specs.declared.identity.TypeId.{TypeId}
use Rattle.set_program.specs.Environment.{number_of, number_or, coded_in}
use Rattle.members.specs.MemberRows.{member_table, row_owner}
use Rattle.members.specs.declared.outside_member.OutsideMember.{OutsideMember}
use Rattle.member_table.specs.declared.named.Found.{Found}
use Rattle.member_table.specs.declared.named.Named.{Named}
use Rattle.member_table.specs.declared.named.Named.TheVariants as what
use Rattle.member_table.specs.declared.named.MemberId.{MemberId}
use Rattle.member_table.specs.declared.named.MemberId.TheVariants as id
use Rattle.member_table.specs.Members.{member, parent_type}
use Rattle.member_table.specs.Numbers.{member_number}
use Rattle.descriptions.specs.declared.facts.NamedMember.{NamedMember}
use Rattle.descriptions.specs.Descriptions.{number_in, named_as, field_at, method_of_row, of_named, reference_at, method_at}
use Rattle.set_growth.specs.Grown.{IsGrown, SaysAlike}
use Rattle.set_growth.specs.Orderly.{IsOrderly}
use Rattle.set_growth.specs.Kept.{Stays}
use Rattle.program_growth.specs.Rules.{IsNamed, IsNumbered, IsMethodIndex, HasPlaces}
use Rattle.program_growth.proofs.KeptCodedLaws.{number_stays, coded_stays, row_is, row_stays}
use Rattle.program_growth.proofs.KeptMemberLaws.{stays_same, then_stays, map_stays, row_owner_stays, row_owner_same, member_same, parent_same}
use Rattle.program_growth.proofs.KeptNumberLaws.{member_stays}

-- an index of row 0 names nothing
pub no_method : (u : Assemblies) (a coded : ℕ) → coded / 2 ≡ 0 → method_at u a coded ≡ None
unfolding owner reference_at
no_method u a coded e = go (coded % 2 == 0)
  where
    no_row : method_of_row u a 0 ≡ None
    no_row = refl

    no_reference : reference_at u a 0 ≡ None
    no_reference = refl

    go : (b : Bool) → (if b then method_of_row u a (coded / 2) else reference_at u a (coded / 2)) ≡ None
    go true = ap (method_of_row u a) e ∙ no_row
    go false = ap (reference_at u a) e ∙ no_reference

module _ (x x' : Assembly) (xs : Assemblies) (grown : IsGrown x x') (orderly : IsOrderly x) (named : IsNamed (x ∷ xs)) (numbered : IsNumbered (x ∷ xs)) (alike : SaysAlike (x ∷ xs) (x' ∷ xs)) (placed : HasPlaces (x ∷ xs)) where
  abbrev s : Assemblies
  s = x ∷ xs

  abbrev s' : Assemblies
  s' = x' ∷ xs

  -- ---- numbers

  pub number_same : (is_field : Bool) (m : MemberId) → is_some (member_number s is_field m) ≡ true → number_in s' is_field m ≡ number_in s is_field m
  number_same is_field m h = ap (number_or 0) (stays_same (member_number s is_field m) (member_number s' is_field m) h (member_stays x x' xs grown orderly named numbered alike is_field m))

  pub type_number_same : (t : TypeId) → is_some (number_of s t) ≡ true → number_of s' t ≡ number_of s t
  type_number_same t h = stays_same (number_of s t) (number_of s' t) h (number_stays x x' xs grown orderly named numbered alike t)

  -- the number of the type that owns a row
  pub owner_same : (is_field : Bool) (a k : ℕ) → 1 ≤ k → k ≤ count_in (assembly_at s a) (member_table is_field)
      → or_zero (option_and_then (λ r. (coded_in s' a).number (r * 4)) (row_owner (assembly_at s' a) is_field k)) ≡ or_zero (option_and_then (λ r. (coded_in s a).number (r * 4)) (row_owner (assembly_at s a) is_field k))
  owner_same is_field a k low high =
      ap (λ (o : Option ℕ). or_zero (option_and_then (λ r. (coded_in s' a).number (r * 4)) o)) (row_owner_same x x' xs grown orderly named numbered alike is_field a k low high)
      ∙ ap or_zero (go (row_owner (assembly_at s a) is_field k) (λ r e. placed.owners is_field a k r e))
    where
      go : (o : Option ℕ) → ((r : ℕ) → o ≡ Some r → is_some ((coded_in s a).number (r * 4)) ≡ true) → option_and_then (λ r. (coded_in s' a).number (r * 4)) o ≡ option_and_then (λ r. (coded_in s a).number (r * 4)) o
      go None h = refl
      go (Some r) h = stays_same ((coded_in s a).number (r * 4)) ((coded_in s' a).number (r * 4)) (h r refl) ((coded_stays x x' xs grown orderly named numbered alike a).number (r * 4))

  -- ---- rows of members

  abbrev row_by : Assemblies → Bool → ℕ → ℕ → Option NamedMember
  row_by u is_field a row = option_map (λ t. named_as t (number_in u is_field (id.Row a row))) (option_and_then (λ k. (coded_in u a).named (k * 4)) (row_owner (assembly_at u a) is_field row))

  row_by_stays : (is_field : Bool) (a row : ℕ) → 1 ≤ row → row ≤ count_in (assembly_at s a) (member_table is_field) → Stays (row_by s is_field a row) (row_by s' is_field a row)
  row_by_stays is_field a row low high v e =
      ap (λ (n : ℕ). option_map (λ t. named_as t n) (option_and_then (λ k. (coded_in s' a).named (k * 4)) (row_owner (assembly_at s' a) is_field row))) (number_same is_field (id.Row a row) (placed.members is_field a row low high))
      ∙ map_stays (λ t. named_as t (number_in s is_field (id.Row a row))) (option_and_then (λ k. (coded_in s a).named (k * 4)) (row_owner (assembly_at s a) is_field row)) (option_and_then (λ k. (coded_in s' a).named (k * 4)) (row_owner (assembly_at s' a) is_field row))
      (then_stays (λ k. (coded_in s a).named (k * 4)) (λ k. (coded_in s' a).named (k * 4)) (row_owner (assembly_at s a) is_field row) (row_owner (assembly_at s' a) is_field row)
      (row_owner_stays x x' xs grown orderly named numbered alike is_field a row) (λ k f. (coded_stays x x' xs grown orderly named numbered alike a).named (k * 4))) v e

  pub field_at_stays : (a row : ℕ) → 1 ≤ row → row ≤ count_in (assembly_at s a) FIELD → Stays (field_at s a row) (field_at s' a row)
  field_at_stays a row low high = row_by_stays true a row low high

  pub method_of_row_stays : (a row : ℕ) → 1 ≤ row → row ≤ count_in (assembly_at s a) METHOD_DEF → Stays (method_of_row s a row) (method_of_row s' a row)
  method_of_row_stays a row low high = row_by_stays false a row low high

  -- ---- MemberRef rows

  named_same : (t : Option Ty) (n : Named)
      → ((f : Found) → n ≡ what.InSet f → is_some (member_number s f.is_field (id.Row f.assembly f.row)) ≡ true)
      → ((m : OutsideMember) → n ≡ what.Outside m → is_some (member_number s m.shape.is_field (id.Outside m)) ≡ true)
      → of_named s' t n ≡ of_named s t n
  named_same t (what.InSet f) h k = ap (λ (n : ℕ). Some (named_as f.owner n)) (number_same f.is_field (id.Row f.assembly f.row) (h f refl))
  named_same t (what.Outside m) h k = ap (λ (n : ℕ). Some (named_as (ty_or ty.Opaque t) n)) (number_same m.shape.is_field (id.Outside m) (k m refl))
  named_same t what.Missing h k = refl

  abbrev reference_by : Assemblies → ℕ → ℕ → Option NamedMember
  reference_by u a row = of_named u (parent_type (assembly_at u a) (coded_in u a) row) (member u a row)

  reference_by_same : (a row : ℕ) → 1 ≤ row → row ≤ count_in (assembly_at s a) MEMBER_REF → reference_by s' a row ≡ reference_by s a row
  reference_by_same a row low high =
      ap (λ (t : Option Ty). of_named s' t (member s' a row)) (parent_same x x' xs grown orderly named numbered alike a row low high)
      ∙ ap (of_named s' (parent_type (assembly_at s a) (coded_in s a) row)) (member_same x x' xs grown orderly named numbered alike a row low high)
      ∙ named_same (parent_type (assembly_at s a) (coded_in s a) row) (member s a row) (λ f e. placed.found a row f low high e) (λ m e. placed.outside a row m low high e)

  pub reference_at_same : (a row : ℕ) → 1 ≤ row → row ≤ count_in (assembly_at s a) MEMBER_REF → reference_at s' a row ≡ reference_at s a row
  unfolding reference_at
  reference_at_same a row low high =
      let there : is_row (assembly_at s a) MEMBER_REF row ≡ true = row_is x x' xs grown orderly named numbered alike (assembly_at s a) MEMBER_REF row low high in
      ap (λ (b : Bool). if b then reference_by s' a row else None) (row_stays x x' xs grown orderly named numbered alike a MEMBER_REF row there)
      ∙ reference_by_same a row low high
      ∙ ap (λ (b : Bool). if b then reference_by s a row else None) (sym there)

  -- ---- MethodDefOrRef indexes

  pub method_at_same : (a coded : ℕ) → IsMethodIndex s a coded → method_at s' a coded ≡ method_at s a coded
  method_at_same a coded index = go (coded % 2 == 0) refl index.there
    where
      go : (b : Bool) → (coded % 2 == 0) ≡ b → is_some (if b then method_of_row s a (coded / 2) else reference_at s a (coded / 2)) ≡ true
          → (if b then method_of_row s' a (coded / 2) else reference_at s' a (coded / 2)) ≡ (if b then method_of_row s a (coded / 2) else reference_at s a (coded / 2))
      go true e there = stays_same (method_of_row s a (coded / 2)) (method_of_row s' a (coded / 2)) there (method_of_row_stays a (coded / 2) index.low (index.row e))
      go false e there = reference_at_same a (coded / 2) index.low (index.reference e)

  pub method_index_same : (a coded : ℕ) → (1 ≤ coded / 2 → IsMethodIndex s a coded) → method_at s' a coded ≡ method_at s a coded
  method_index_same a coded index = go (cases_lt (coded / 2) 1)
    where
      go : (coded / 2 < 1) ⊎ (1 ≤ coded / 2) → method_at s' a coded ≡ method_at s a coded
      go (inl l) = let none : coded / 2 ≡ 0 = omega (arith, l) in no_method s' a coded none ∙ sym (no_method s a coded none)
      go (inr l) = method_at_same a coded (index l)
