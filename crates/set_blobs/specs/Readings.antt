-- What the answers of readers say of a blob, and what is handed to a pass over rows.
use Rattle.std.specs.Prelude.{◌≡◌, ℕ, ◌-◌, ◌==◌, if◌then◌else◌, List, map, get_or, MatchOption, Option, Some, None, option_map, Result, Ok, Err}
use Rattle.cil_base.specs.declared.tables.TheConstants.{CUSTOM_ATTRIBUTE}
use Rattle.cil_base.specs.declared.refusal.Place.{Place}
use Rattle.cil_base.specs.declared.refusal.Refusal.{Refusal}
use Rattle.cil_base.specs.declared.refusal.Fault.{Fault}
use Rattle.cil_base.specs.declared.refusal.Fault.TheVariants.{Refused, Memory}
use Rattle.cil_base.specs.Refusals.{NoneBroken}
use Rattle.set_names.specs.Names.{Name}
use Rattle.set_rows.specs.Sets.{Assemblies, assembly_at, rows_in}
use Rattle.set_program.specs.Attributes.{attribute_name}
use Rattle.signature_rules.specs.BlobKinds.{blob_kind}
use Rattle.set_blobs.specs.declared.forms.BlobForm.{BlobForm}
use Rattle.set_blobs.specs.declared.forms.BlobForm.TheVariants as form
use Rattle.set_blobs.specs.BadBlobs.{attribute_form, IsBadForm}

-- none where something was read, else the reader's own; want of memory is no answer
abbrev pub IsRefusalOf : {T : Type 0} → Result T Fault → Option Refusal → Type 0
IsRefusalOf (Ok v) o = o ≡ None
IsRefusalOf (Err (Refused r)) o = o ≡ Some r
IsRefusalOf (Err (Memory e)) o = ⊥

-- none just where the blob is in its grammar
abbrev pub TellsBad : Option BlobForm → Place → List ℕ → Option Refusal → Type 0
TellsBad f p bytes o = MatchOption o (NoneBroken (IsBadForm f p bytes)) (IsBadForm f p bytes)

-- ---- the names of attributes, by row

abbrev pub AreNames : Assemblies → ℕ → List (Option Name) → Type 0
AreNames s a names = names ≡ map (attribute_name s a) (rows_in (assembly_at s a) CUSTOM_ATTRIBUTE)

abbrev pub name_in : List (Option Name) → ℕ → Option Name
name_in names row = if row == 0 then None else get_or names (row - 1) None

-- the grammar of a row's blob, by these names
abbrev pub form_by : List (Option Name) → Place → List ℕ → Option BlobForm
form_by names p bytes = if p.table == CUSTOM_ATTRIBUTE then attribute_form (name_in names p.row) else option_map form.Signature (blob_kind p.table bytes)
