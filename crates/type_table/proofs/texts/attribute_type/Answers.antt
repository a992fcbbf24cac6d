use Rattle.std.proofs.Common.{◌≡◌, ◌∙◌, sym, ap}
use Rattle.std.specs.Prelude.{Some, None}
use Rattle.std.proofs.lemmas.List.{get_or_default}
use Rattle.set_rows.specs.Sets.{Assembly, no_assembly, assembly_at}
use Rattle.set_signatures.specs.Blobs.{attribute_text}
use Rattle.set_program.specs.Attributes.{text_type, attribute_type}
use Rattle.set_program.proofs.AlongLaws.{if_ok_is}
use Rattle.type_table.proofs.AttributeLaws.{attribute_is}
use Rattle.type_table.proofs.texts.attribute_type.Goals as goal

pub returns-in-None : goal.returns-in-None
returns-in-None c =
    let x : Assembly = c.index-set-a.result in
    let there : assembly_at c.args.set.now c.args.a ≡ x = get_or_default c.args.set.now c.args.a no_assembly x c.requires.there ∙ sym c.index-set-a.is in
    attribute_is c.args.set.now c.args.a c.args.row x None there (sym c.in-None.is ∙ c.in_ok-attribute_text.ensures ∙ ap attribute_text c.blob-blob.ensures.bytes)

pub returns-in-Some : goal.returns-in-Some
returns-in-Some c =
    let x : Assembly = c.index-set-a.result in
    let there : assembly_at c.args.set.now c.args.a ≡ x = get_or_default c.args.set.now c.args.a no_assembly x c.requires.there ∙ sym c.index-set-a.is in
    if_ok_is c.text_type.result (text_type c.args.set.now c.args.a c.as_slice.result.now) (attribute_type c.args.set.now c.args.a c.args.row)
    (ap (text_type c.args.set.now c.args.a) c.as_slice.ensures
    ∙ attribute_is c.args.set.now c.args.a c.args.row x (Some c.in-Some.text) there (sym c.in-Some.is ∙ c.in_ok-attribute_text.ensures ∙ ap attribute_text c.blob-blob.ensures.bytes))
    c.text_type.ensures
