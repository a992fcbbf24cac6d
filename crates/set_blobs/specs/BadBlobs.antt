-- Blobs of rows that are in no grammar of their kind (signatures: ECMA-335, II.23.2; attributes: II.23.3, and the Code Contracts manual for which).
use Rattle.std.specs.Prelude.{◌≡◌, ℕ, ◌<◌, ◌==◌, ◌||◌, true, if◌then◌else◌, List, length, MatchOption, Option, Some, None, option_map}
use Rattle.cil_base.specs.declared.tables.TheConstants.{CUSTOM_ATTRIBUTE, FIELD, MEMBER_REF, METHOD_DEF, METHOD_SPEC, PROPERTY, STAND_ALONE_SIG, TYPE_SPEC}
use Rattle.cil_base.specs.declared.refusal.Place.{Place}
use Rattle.cil_base.specs.declared.refusal.Refusal.{Refusal}
use Rattle.cil_base.specs.declared.rule.Rule.TheVariants.{S2}
use Rattle.cil_base.specs.Refusals.{First, NoneBroken}
use Rattle.cli_sigs.specs.Attributes.{IsTypeAttribute, IsBareAttribute}
use Rattle.set_names.specs.Names.{Name, is_name}
use Rattle.set_rows.specs.Sets.{Assemblies, assembly_at, is_row, blob}
use Rattle.set_program.specs.Attributes.{attribute_name, class_attribute, class_for_attribute, abbreviator_attribute, invariant_attribute, reference_attribute}
use Rattle.signature_rules.specs.BlobKinds.{blob_kind, IsBad, IsBadBlob}
use Rattle.set_blobs.specs.declared.forms.BlobForm.{BlobForm}
use Rattle.set_blobs.specs.declared.forms.BlobForm.TheVariants as form

-- the column of a table that names a signature or the value of an attribute (II.22)
abbrev pub blob_column : ℕ → Option ℕ
blob_column table =
    if table == FIELD then Some 2
    else if table == METHOD_DEF then Some 4
    else if table == MEMBER_REF then Some 2
    else if table == CUSTOM_ATTRIBUTE then Some 2
    else if table == STAND_ALONE_SIG then Some 0
    else if table == PROPERTY then Some 2
    else if table == TYPE_SPEC then Some 0
    else if table == METHOD_SPEC then Some 1
    else None

-- the grammar of the value of an attribute, by the full name of its type; other attributes aren't read
abbrev pub attribute_form : Option Name → Option BlobForm
attribute_form name =
    if is_name class_attribute name || is_name class_for_attribute name then Some form.Text
    else if is_name abbreviator_attribute name || (is_name invariant_attribute name || is_name reference_attribute name) then Some form.Bare
    else None

-- the grammar of a row's blob
abbrev pub row_form : Assemblies → Place → List ℕ → Option BlobForm
row_form s p bytes = if p.table == CUSTOM_ATTRIBUTE then attribute_form (attribute_name s p.assembly p.row) else option_map form.Signature (blob_kind p.table bytes)

-- the blob is in no such grammar, and the longest prefix of one ends there
abbrev pub IsBadForm : Option BlobForm → Place → List ℕ → Refusal → Type 0
IsBadForm None p bytes r = ⊥
IsBadForm (Some (form.Signature kind)) p bytes r = IsBadBlob kind p bytes r
IsBadForm (Some form.Text) p bytes r = IsBad IsTypeAttribute S2 p bytes r
IsBadForm (Some form.Bare) p bytes r = IsBad IsBareAttribute S2 p bytes r

abbrev pub IsBadIn : Option ℕ → Assemblies → Place → Refusal → Type 0
IsBadIn None s p r = ⊥
IsBadIn (Some column) s p r = let bytes = blob (assembly_at s p.assembly) p.table p.row column in IsBadForm (row_form s p bytes) p bytes r

-- the blob of a row is in no grammar of its kind
abbrev pub IsBadAt : Assemblies → Place → Refusal → Type 0
IsBadAt s p r = IsBadIn (blob_column p.table) s p r

abbrev pub place_of : Refusal → Place
place_of r = record { assembly = r.assembly; table = r.table; row = r.row }

-- S1 or S2 is broken there
pub record BreaksBlobs (s : Assemblies) (r : Refusal) : Type 0 where
  pub assembly_there : r.assembly < length s
  pub row_there : is_row (assembly_at s r.assembly) r.table r.row ≡ true
  pub bad : IsBadAt s (place_of r) r

-- ---- the first of what is broken

abbrev pub TellsFirst : (Refusal → Type 0) → Option Refusal → Type 0
TellsFirst Broken o = MatchOption o (NoneBroken Broken) (First Broken)

-- what is broken in one assembly, in one of its tables, in one row of it
abbrev pub InAssembly : Assemblies → ℕ → Refusal → Type 0
InAssembly s a r = BreaksBlobs s r × (r.assembly ≡ a)

abbrev pub InTable : Assemblies → ℕ → ℕ → Refusal → Type 0
InTable s a table r = InAssembly s a r × (r.table ≡ table)

abbrev pub InRow : Assemblies → Place → Refusal → Type 0
InRow s p r = InTable s p.assembly p.table r × (r.row ≡ p.row)
