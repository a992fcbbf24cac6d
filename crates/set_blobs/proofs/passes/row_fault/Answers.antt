use Rattle.std.proofs.Common.{◌≡◌, ◌∙◌, sym, ap}
use Rattle.std.specs.Prelude.{Some, None}
use Rattle.std.proofs.lemmas.List.{get_or_default}
use Rattle.cil_base.specs.declared.refusal.Place.{Place}
use Rattle.set_rows.specs.Sets.{Assembly, Assemblies, no_assembly, assembly_at, blob}
use Rattle.set_blobs.specs.BadBlobs.{row_form}
use Rattle.set_blobs.proofs.BlobLaws.{form_is, row_tells, row_answers}
use Rattle.set_blobs.proofs.passes.row_fault.Goals as goal

pub returns-in-None : goal.returns-in-None
returns-in-None c =
    let s : Assemblies = c.args.set.now in
    let p : Place = c.args.place in
    let x : Assembly = c.index-set-place.result in
    let there : x ≡ assembly_at s p.assembly = c.index-set-place.is ∙ sym (get_or_default s p.assembly no_assembly x c.requires.there) in
    let bytes : c.blob-blob.result.now ≡ blob (assembly_at s p.assembly) p.table p.row c.args.column = c.blob-blob.ensures.bytes ∙ ap (λ (y : Assembly). blob y p.table p.row c.args.column) there in
    let f : None ≡ row_form s p c.blob-blob.result.now = sym c.in-None.is ∙ c.form_by.ensures ∙ form_is s p c.args.names.now c.blob-blob.result.now c.requires.names c.requires.some c.requires.row in
    row_tells s p c.requires.there c.requires.some c.requires.row c.args.column c.requires.column c.blob-blob.result.now None None bytes f (λ r h. h)

pub returns-in-Some : goal.returns-in-Some
returns-in-Some c =
    let s : Assemblies = c.args.set.now in
    let p : Place = c.args.place in
    let x : Assembly = c.index-set-place.result in
    let there : x ≡ assembly_at s p.assembly = c.index-set-place.is ∙ sym (get_or_default s p.assembly no_assembly x c.requires.there) in
    let bytes : c.blob-blob.result.now ≡ blob (assembly_at s p.assembly) p.table p.row c.args.column = c.blob-blob.ensures.bytes ∙ ap (λ (y : Assembly). blob y p.table p.row c.args.column) there in
    let f : Some c.in-Some.form ≡ row_form s p c.blob-blob.result.now = sym c.in-Some.is ∙ c.form_by.ensures ∙ form_is s p c.args.names.now c.blob-blob.result.now c.requires.names c.requires.some c.requires.row in
    row_answers s p c.requires.there c.requires.some c.requires.row c.args.column c.requires.column c.blob-blob.result.now (Some c.in-Some.form) c.form_fault.result bytes f c.form_fault.ensures
