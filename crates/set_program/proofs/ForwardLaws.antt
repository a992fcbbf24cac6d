-- What an assembly says of a name.
use Rattle.std.proofs.Common.{◌≡◌, ◌∙◌, sym, ◌≤◌, rules, ℕ, zero, suc, ap, refl, true, false, length}
use Rattle.std.specs.Prelude.{Option, Some, None, ◌==◌}
use Rattle.std.proofs.Math.ListN.{get_or-eq_default}
use Rattle.set_program.specs.declared.identity.TypeId.{TypeId}
use Rattle.set_program.specs.declared.identity.TypeId.TheVariants.{Row, Outside}
use Rattle.set_program.specs.declared.references.Step.{Step}
use Rattle.set_program.specs.declared.references.Step.TheVariants.{Done, Asks}
use Rattle.set_names.specs.Names.{Name}
use Rattle.set_rows.specs.Sets.{Assembly, Assemblies, no_assembly, assembly_at, assembly_named, cell, text}
use Rattle.set_types.specs.CodedIndexes.{tag, row_of}
use Rattle.set_program.specs.TypeNames.{type_named}
use Rattle.set_program.specs.References.{exported_named, in_named, forwarded, by_forwarder, own_or_forwarded, says, found_within}
use Rattle.set_program.specs.Steps.{step_to}
use Rattle.cil_base.specs.declared.tables.TheConstants.{ASSEMBLY_REF, EXPORTED_TYPE}

no_type : (name : Name) → type_named no_assembly name ≡ None
unfolding type_named no_assembly
no_type name = refl

no_forwarder : (name : Name) → exported_named no_assembly name ≡ None
unfolding exported_named no_assembly
no_forwarder name = refl

pub none_else : {A : Type 0} (o : Option A) → ((x : A) → o ≡ Some x → ⊥) → o ≡ None
none_else None h = refl
none_else (Some x) h = absurd (h x refl)

pub not_eq : (a b : ℕ) → (a ≡ b → ⊥) → (a == b) ≡ false
not_eq a b h = search (rules, h)

module _ (go : ℕ → Option TypeId) (s : Assemblies) (name : Name) (a : ℕ) where
  pub asked_past : length s ≤ a → None ≡ says go s name a (assembly_at s a)
  asked_past h =
      sym (ap (λ (x : Assembly). says go s name a x) (get_or-eq_default s no_assembly h)
      ∙ ap (own_or_forwarded go s name a no_assembly) (no_type name)
      ∙ ap (by_forwarder go s name no_assembly) (no_forwarder name))

  module _ (x : Assembly) (there : assembly_at s a ≡ x) where
    pub asked_own : (row : ℕ) → type_named x name ≡ Some row → Some (Row a row) ≡ says go s name a (assembly_at s a)
    asked_own row found = sym (ap (λ (y : Assembly). says go s name a y) there ∙ ap (own_or_forwarded go s name a x) found)

    module _ (none : type_named x name ≡ None) where
      leads : says go s name a (assembly_at s a) ≡ by_forwarder go s name x (exported_named x name)
      leads = ap (λ (y : Assembly). says go s name a y) there ∙ ap (own_or_forwarded go s name a x) none

      pub asked_none : exported_named x name ≡ None → None ≡ says go s name a (assembly_at s a)
      asked_none e = sym (leads ∙ ap (by_forwarder go s name x) e)

      pub asked_next : (e next : ℕ) → exported_named x name ≡ Some e → (tag (cell x EXPORTED_TYPE e 4) == 1) ≡ true → assembly_named s (text x ASSEMBLY_REF (row_of (cell x EXPORTED_TYPE e 4)) 6) ≡ Some next
          → go next ≡ says go s name a (assembly_at s a)
      asked_next e next found one named =
          sym (leads ∙ ap (by_forwarder go s name x) found ∙ ap (forwarded go s name x (cell x EXPORTED_TYPE e 4)) one ∙ ap (in_named go name) named)

      pub asked_out : (e : ℕ) → exported_named x name ≡ Some e → (tag (cell x EXPORTED_TYPE e 4) == 1) ≡ true → assembly_named s (text x ASSEMBLY_REF (row_of (cell x EXPORTED_TYPE e 4)) 6) ≡ None
          → Some (Outside name) ≡ says go s name a (assembly_at s a)
      asked_out e found one named =
          sym (leads ∙ ap (by_forwarder go s name x) found ∙ ap (forwarded go s name x (cell x EXPORTED_TYPE e 4)) one ∙ ap (in_named go name) named)

      pub asked_file : (e : ℕ) → exported_named x name ≡ Some e → (tag (cell x EXPORTED_TYPE e 4) == 1) ≡ false → Some (Outside name) ≡ says go s name a (assembly_at s a)
      asked_file e found other = sym (leads ∙ ap (by_forwarder go s name x) found ∙ ap (forwarded go s name x (cell x EXPORTED_TYPE e 4)) other)

-- ---- one assembly after another

module _ (s : Assemblies) (name : Name) (whole : Option TypeId) where
  abbrev pub Says : Step → ℕ → Type 0
  Says step a = (go : ℕ → Option TypeId) → step_to go step ≡ says go s name a (assembly_at s a)

  pub found_done : (n at : ℕ) (step : Step) (id : Option TypeId) → Says step at → step ≡ Done id → found_within s name (suc n) at ≡ whole → id ≡ whole
  unfolding found_within
  found_done n at step id says e h = ap (step_to (found_within s name n)) (sym e) ∙ says (found_within s name n) ∙ h

  pub found_next : (n at : ℕ) (step : Step) (next : ℕ) → Says step at → step ≡ Asks next → found_within s name (suc n) at ≡ whole → found_within s name n next ≡ whole
  unfolding found_within
  found_next n at step next says e h = ap (step_to (found_within s name n)) (sym e) ∙ says (found_within s name n) ∙ h

  pub found_over : (at : ℕ) → found_within s name zero at ≡ whole → None ≡ whole
  unfolding found_within
  found_over at h = h
