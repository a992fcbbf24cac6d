-- Interfaces are types, and rows of MethodImpl and MethodSpec name methods, by the rules that a set keeps.
use Rattle.std.proofs.Common.{◌≡◌, ◌∙◌, sym, ap, refl, arith, ℕ, ◌*◌, ◌<◌, ◌≤◌, Bool, true, false, ◌⊎◌, inl, inr}
use Rattle.std.specs.Prelude.{◌==◌, ◌/◌, ◌%◌, nat_lt, nat_le, is_some, Option, Some, None, option_map, option_and_then, if◌then◌else◌}
use Rattle.cil_base.specs.declared.tables.TheConstants.{INTERFACE_IMPL, MEMBER_REF, METHOD_DEF, METHOD_IMPL, METHOD_SPEC, TYPE_DEF}
use Rattle.cil_model.specs.declared.ty.Ty.{Ty}
use Rattle.set_rows.specs.Sets.{Assemblies, assembly_at, count_in, cell, is_row}
use Rattle.set_rows.specs.Owners.{owner}
use Rattle.set_program.specs.declared.identity.TypeId.{TypeId}
use Rattle.set_program.specs.Environment.{coded_in, ty_by_id}
use Rattle.member_table.specs.declared.named.Named.{Named}
use Rattle.member_table.specs.declared.named.Named.TheVariants as named
use Rattle.member_table.specs.declared.named.MemberId.TheVariants as id
use Rattle.member_table.specs.Members.{member}
use Rattle.member_table.specs.MemberRules.{is_missing}
use Rattle.descriptions.specs.Descriptions.{number_in, named_as, owner_ty, method_of_row, of_named, parent_ty, reference_at, method_at}
use Rattle.set_growth.proofs.FindLaws.{lt_from, le_from, differs}
use Rattle.std.proofs.lemmas.Bool.{cases_lt}
use Rattle.program_growth.proofs.KeptNamedLaws.{no_method}
use Rattle.program_growth.specs.Rules.{IsMethodIndex, IsDescribed}
use Rattle.growth_premises.specs.Rules.{KeepsRules, HasMethodIndexes, is_method_index}
use Rattle.growth_premises.proofs.RuleLaws.{is_there, mapped, both_left, both_right, there, leads}
use Rattle.growth_premises.proofs.PlacedLaws.{own_named, owner_row}

named_some : (s : Assemblies) (t : Option Ty) (n : Named) → is_missing n ≡ false → is_some (of_named s t n) ≡ true
named_some s t (named.InSet f) h = refl
named_some s t (named.Outside m) h = refl
named_some s t named.Missing h = absurd cc

-- an index of row 0 names nothing
not_none_low : (s : Assemblies) (a coded : ℕ) → is_some (method_at s a coded) ≡ true → 1 ≤ coded / 2
not_none_low s a coded h = go (cases_lt (coded / 2) 1)
  where
    go : (coded / 2 < 1) ⊎ (1 ≤ coded / 2) → 1 ≤ coded / 2
    go (inl l) = let none : coded / 2 ≡ 0 = omega (arith, l) in absurd (let wrong : false ≡ true = sym (ap is_some (no_method s a coded none)) ∙ h in cc)
    go (inr l) = l

module _ (s : Assemblies) (kept : KeepsRules s) where
  record Within (a table row : ℕ) : Type 0 where
    low : 1 ≤ row
    high : row ≤ count_in (assembly_at s a) table

  within : (a table row : ℕ) → is_row (assembly_at s a) table row ≡ true → Within a table row
  within a table row h = record {
    low = lt_from 0 row (both_left (nat_lt 0 row) (nat_le row (count_in (assembly_at s a) table)) h);
    high = le_from row (count_in (assembly_at s a) table) (both_right (nat_lt 0 row) (nat_le row (count_in (assembly_at s a) table)) h);
  }

  owner_named : (a row : ℕ) (o : Option ℕ) → owner (assembly_at s a) 5 METHOD_DEF row ≡ o → is_some o ≡ true → is_some (owner_ty s a 5 METHOD_DEF row) ≡ true
  owner_named a row None e h = absurd cc
  owner_named a row (Some k) e h =
      let at : (1 ≤ k) × (k ≤ count_in (assembly_at s a) TYPE_DEF) = owner_row (assembly_at s a) 5 METHOD_DEF row k e in
      ap (λ (o : Option ℕ). is_some (option_and_then (λ k. (coded_in s a).named (k * 4)) o)) e
      ∙ ap (λ (o : Option TypeId). is_some (option_map (ty_by_id s) o)) (own_named s a k at.0 at.1)

  method_there : (a row : ℕ) → is_row (assembly_at s a) METHOD_DEF row ≡ true → is_some (method_of_row s a row) ≡ true
  method_there a row h =
      let at : Within a METHOD_DEF row = within a METHOD_DEF row h in
      mapped (λ t. named_as t (number_in s false (id.Row a row))) (owner_ty s a 5 METHOD_DEF row)
      (owner_named a row (owner (assembly_at s a) 5 METHOD_DEF row) refl (is_there (owner (assembly_at s a) 5 METHOD_DEF row) (there s kept a METHOD_DEF row at.low at.high)))

  reference_there : (a row : ℕ) → is_row (assembly_at s a) MEMBER_REF row ≡ true → is_some (reference_at s a row) ≡ true
  unfolding reference_at
  reference_there a row h =
      let at : Within a MEMBER_REF row = within a MEMBER_REF row h in
      ap (λ (b : Bool). is_some (if b then of_named s (parent_ty s a (cell (assembly_at s a) MEMBER_REF row 0)) (member s a row) else None)) h
      ∙ named_some s (parent_ty s a (cell (assembly_at s a) MEMBER_REF row 0)) (member s a row) (there s kept a MEMBER_REF row at.low at.high)

  -- an index of a row names a method
  names_method : (a coded : ℕ) → is_method_index (assembly_at s a) coded ≡ true → 1 ≤ coded / 2 → IsMethodIndex s a coded
  names_method a coded h low =
      go (coded % 2 == 0) refl
      (sym (ap (λ (b : Bool). if b then true else if coded % 2 == 0 then is_row (assembly_at s a) METHOD_DEF (coded / 2) else is_row (assembly_at s a) MEMBER_REF (coded / 2)) (differs (coded / 2) 0 (λ e. omega (arith, e, low)))) ∙ h)
    where
      of_row : (e : (coded % 2 == 0) ≡ true) → is_row (assembly_at s a) METHOD_DEF (coded / 2) ≡ true → Within a METHOD_DEF (coded / 2) → IsMethodIndex s a coded
      of_row e f at = record {
        there = ap (λ (b : Bool). is_some (if b then method_of_row s a (coded / 2) else reference_at s a (coded / 2))) e ∙ method_there a (coded / 2) f;
        low = at.low;
        row = λ g. at.high;
        reference = λ g. absurd (let wrong : true ≡ false = sym e ∙ g in cc);
      }

      of_reference : (e : (coded % 2 == 0) ≡ false) → is_row (assembly_at s a) MEMBER_REF (coded / 2) ≡ true → Within a MEMBER_REF (coded / 2) → IsMethodIndex s a coded
      of_reference e f at = record {
        there = ap (λ (b : Bool). is_some (if b then method_of_row s a (coded / 2) else reference_at s a (coded / 2))) e ∙ reference_there a (coded / 2) f;
        low = at.low;
        row = λ g. absurd (let wrong : false ≡ true = sym e ∙ g in cc);
        reference = λ g. at.high;
      }

      go : (b : Bool) → (coded % 2 == 0) ≡ b → (if b then is_row (assembly_at s a) METHOD_DEF (coded / 2) else is_row (assembly_at s a) MEMBER_REF (coded / 2)) ≡ true → IsMethodIndex s a coded
      go true e f = of_row e f (within a METHOD_DEF (coded / 2) f)
      go false e f = of_reference e f (within a MEMBER_REF (coded / 2) f)

  pub is_described : HasMethodIndexes s → IsDescribed s
  is_described indexes = record {
    interfaces = λ a k low high. leads s kept a (cell (assembly_at s a) INTERFACE_IMPL k 1) (indexes.interfaces a k low high);
    bodies = λ a k low high. names_method a (cell (assembly_at s a) METHOD_IMPL k 1) (indexes.bodies a k low high);
    declarations = λ a k low high. names_method a (cell (assembly_at s a) METHOD_IMPL k 2) (indexes.declarations a k low high);
    instances = λ a row low high is. names_method a (cell (assembly_at s a) METHOD_SPEC row 0) (indexes.instances a row low high) (not_none_low s a (cell (assembly_at s a) METHOD_SPEC row 0) is);
  }
