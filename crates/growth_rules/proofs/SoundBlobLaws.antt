-- In a set without a bad blob, rows have signatures of their kind (S1).
use Rattle.std.proofs.Common.{◌≡◌, ◌∙◌, sym, ap, refl, ℕ, ◌≤◌, Bool, true, false, List, [], ◌∷◌}
use Rattle.std.specs.Prelude.{◌==◌, is_some, Some, None, if◌then◌else◌}
use Rattle.std.proofs.lemmas.Bool.{eqb-true}
use Rattle.cil_base.specs.declared.tables.TheConstants.{FIELD, METHOD_DEF, TYPE_SPEC}
use Rattle.cil_base.specs.declared.refusal.Place.{Place}
use Rattle.cil_base.specs.declared.rule.Rule.TheVariants.{S1}
use Rattle.cil_base.specs.Refusals.{NoneBroken, refusal}
use Rattle.cli_sigs.specs.declared.elements.Slot.TheVariants.{Plain}
use Rattle.cli_sigs.specs.declared.elements.MethodKind.TheVariants.{Method}
use Rattle.cli_sigs.specs.Read.{Reader, byte_where}
use Rattle.cli_sigs.specs.Reading.{type_at, field_at, method_at, ended}
use Rattle.cli_sigs.specs.Grammar.{IsFieldSig, IsMethodSig, IsTypeSpec}
use Rattle.cli_sigs.proofs.KindLaws.{reads-field, reads-methods, reads-spec}
use Rattle.set_rows.specs.Sets.{Assemblies, assembly_at, count_in, blob}
use Rattle.set_signatures.specs.Blobs.{spec_sig, is_field_blob}
use Rattle.set_blobs.specs.BadBlobs.{BreaksBlobs}
use Rattle.growth_premises.proofs.NumberedLaws.{is_there}
use Rattle.growth_rules.proofs.IndexLaws.{row_is}
use Rattle.growth_rules.proofs.UnreadLaws.{read_unless}

-- ---- the first byte

begins_field : (bytes : List ℕ) → is_some (ended (field_at 999 bytes)) ≡ true → is_field_blob bytes ≡ true
unfolding field_at
begins_field [] h = absurd cc
begins_field (b ∷ rest) h = go (b == 0x06) refl
  where
    go : (t : Bool) → (b == 0x06) ≡ t → t ≡ true
    go true e = refl
    go false e = absurd (let wrong : false ≡ true = sym (ap (λ (t : Bool). is_some (ended (Rattle.cli_sigs.specs.Read.and_then (Rattle.cli_sigs.specs.Read.byte_given (if t then Some b else None) rest) (λ c. type_at 999 Plain)))) e) ∙ h in cc)

begins_method : (bytes : List ℕ) → is_some (ended (method_at Method (type_at 999) bytes)) ≡ true → is_field_blob bytes ≡ false
unfolding method_at
begins_method [] h = absurd cc
begins_method (b ∷ rest) h = go (b == 0x06) refl
  where
    wrong_first : (rest : List ℕ) → is_some (ended (method_at Method (type_at 999) (0x06 ∷ rest))) ≡ false
    wrong_first rest = refl

    go : (t : Bool) → (b == 0x06) ≡ t → t ≡ false
    go true e = absurd (let wrong : false ≡ true = sym (ap (λ (c : ℕ). is_some (ended (method_at Method (type_at 999) (c ∷ rest)))) (eqb-true b 0x06 e) ∙ wrong_first rest) ∙ h in cc)
    go false e = refl

module _ (s : Assemblies) (none : NoneBroken (BreaksBlobs s)) where
  abbrev place : ℕ → ℕ → ℕ → Place
  place a table row = record { assembly = a; table = table; row = row }

  pub specs : (a row : ℕ) → 1 ≤ row → row ≤ count_in (assembly_at s a) TYPE_SPEC → is_some (spec_sig (blob (assembly_at s a) TYPE_SPEC row 0)) ≡ true
  unfolding spec_sig
  specs a row low high =
      read_unless IsTypeSpec (type_at 999 Plain) (reads-spec Plain) (blob (assembly_at s a) TYPE_SPEC row 0)
      (λ unread. none (refusal S1 (place a TYPE_SPEC row) unread.1.0)
      (record { assembly_there = is_there s a TYPE_SPEC row low high; row_there = row_is (assembly_at s a) TYPE_SPEC row low high; bad = (unread.0, (unread.1.0, refl, unread.1.1)) }))

  fields : (a row : ℕ) → 1 ≤ row → row ≤ count_in (assembly_at s a) FIELD → is_some (ended (field_at 999 (blob (assembly_at s a) FIELD row 2))) ≡ true
  fields a row low high =
      read_unless IsFieldSig (field_at 999) reads-field (blob (assembly_at s a) FIELD row 2)
      (λ unread. none (refusal S1 (place a FIELD row) unread.1.0)
      (record { assembly_there = is_there s a FIELD row low high; row_there = row_is (assembly_at s a) FIELD row low high; bad = (unread.0, (unread.1.0, refl, unread.1.1)) }))

  pub field_blobs : (a row : ℕ) → 1 ≤ row → row ≤ count_in (assembly_at s a) FIELD → is_field_blob (blob (assembly_at s a) FIELD row 2) ≡ true
  field_blobs a row low high = begins_field (blob (assembly_at s a) FIELD row 2) (fields a row low high)

  methods : (a row : ℕ) → 1 ≤ row → row ≤ count_in (assembly_at s a) METHOD_DEF → is_some (ended (method_at Method (type_at 999) (blob (assembly_at s a) METHOD_DEF row 4))) ≡ true
  methods a row low high =
      read_unless IsMethodSig (method_at Method (type_at 999)) (reads-methods Method) (blob (assembly_at s a) METHOD_DEF row 4)
      (λ unread. none (refusal S1 (place a METHOD_DEF row) unread.1.0)
      (record { assembly_there = is_there s a METHOD_DEF row low high; row_there = row_is (assembly_at s a) METHOD_DEF row low high; bad = (unread.0, (unread.1.0, refl, unread.1.1)) }))

  pub method_blobs : (a row : ℕ) → 1 ≤ row → row ≤ count_in (assembly_at s a) METHOD_DEF → is_field_blob (blob (assembly_at s a) METHOD_DEF row 4) ≡ false
  method_blobs a row low high = begins_method (blob (assembly_at s a) METHOD_DEF row 4) (methods a row low high)
