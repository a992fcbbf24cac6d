use Rattle.std.proofs.Common.{◌≡◌, ◌∙◌, ap, sym, ◌-◌, length, get_or}
use Rattle.std.specs.Prelude.{map, None}
use Rattle.std.specs.List.{range_with_len}
use Rattle.std.proofs.lemmas.List.{get_or_default}
use Rattle.set_names.specs.Names.{is_name}
use Rattle.set_rows.specs.Sets.{Assembly, no_assembly, assembly_at}
use Rattle.attribute_marks.specs.Firsts.{AreFirst}
use Rattle.attribute_marks.specs.Marks.{AreMarks, marked_row}
use Rattle.attribute_marks.proofs.FirstLaws.{if_ok_of}
use Rattle.attribute_marks.proofs.MarkLaws.{marks_of}
use Rattle.attribute_marks.proofs.marks.first_marks.Goals as goal

pub returns : goal.returns
returns c =
    let here : assembly_at c.args.set.now c.args.a ≡ c.index-set-a.result = get_or_default c.args.set.now c.args.a no_assembly c.index-set-a.result c.requires.there ∙ sym c.index-set-a.is in
    if_ok_of (λ v. v.items) c.first_rows.result (AreFirst c.as_slice.result.now c.args.count) (AreMarks c.args.set.now c.args.a c.args.name.now c.args.tag c.args.count)
    (λ l f.
    marks_of c.args.set.now c.args.a c.args.name.now c.args.tag c.args.count c.args.names.now c.requires.tag c.requires.names c.as_slice.result.now l
    (c.as_slice.ensures.value ∙ c.in_ok-rows.ensures.rows
    ∙ ap (λ (x : Assembly). map (λ k. marked_row x (is_name c.args.name.now (get_or c.args.names.now (k - 1) None)) c.args.tag k) (range_with_len 1 (length c.args.names.now))) (sym here))
    f)
    c.first_rows.ensures
