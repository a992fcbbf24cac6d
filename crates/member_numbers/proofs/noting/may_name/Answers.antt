use Rattle.std.proofs.Common.{◌≡◌, ◌∙◌, sym, ap}
use Rattle.std.specs.Prelude.{slice_get, Some}
use Rattle.std.specs.Option.{option_copied}
use Rattle.cil_base.specs.declared.tables.TheConstants.{MEMBER_REF}
use Rattle.set_rows.specs.Sets.{blob}
use Rattle.set_signatures.specs.Blobs.{is_field_blob}
use Rattle.member_table.specs.Environments.{environment_in, rows_or}
use Rattle.member_numbers.proofs.KindLaws.{kinds_differ, other_kind}
use Rattle.member_numbers.proofs.noting.may_name.Goals as goal

pub returns-in-Some : goal.returns-in-Some
returns-in-Some c = λ types h.
    let there : slice_get c.args.assemblies.now c.args.a ≡ Some c.in-Some.assembly.now = sym c.at.ensures ∙ ap option_copied c.in-Some.is in
    let bytes : c.blob.result.now ≡ blob (rows_or (slice_get c.args.assemblies.now c.args.a)) MEMBER_REF c.args.row 2 =
    c.blob.ensures.bytes ∙ ap (λ o. blob (rows_or o) MEMBER_REF c.args.row 2) (sym there) in
    other_kind (environment_in c.args.assemblies.now types) c.args.is_field c.args.a c.args.row
    (kinds_differ c.args.is_field c.is_field_blob.result (is_field_blob (blob (rows_or (slice_get c.args.assemblies.now c.args.a)) MEMBER_REF c.args.row 2)) (c.is_field_blob.ensures ∙ ap is_field_blob bytes) h)
