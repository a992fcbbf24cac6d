use Rattle.std.proofs.Common.{◌≡◌, ◌∙◌, ap, sym, subst}
use Rattle.std.specs.Prelude.{map}
use Rattle.std.proofs.lemmas.List.{get_or_default}
use Rattle.cil_base.specs.declared.tables.TheConstants.{TYPE_DEF}
use Rattle.set_rows.specs.Sets.{Assembly, no_assembly, assembly_at, rows_in}
use Rattle.set_program.specs.Kinds.{kind_at}
use Rattle.attribute_marks.specs.Marks.{AreEnclosing}
use Rattle.type_facts.proofs.types.type_marks.Goals as goal

pub returns : goal.returns
returns c =
    let here : c.index-set-a.result ≡ assembly_at c.args.set.now c.args.a = c.index-set-a.is ∙ sym (get_or_default c.args.set.now c.args.a no_assembly c.index-set-a.result c.requires.there) in
    let rows : c.rows-rows.result.now ≡ assembly_at c.args.set.now c.args.a = c.rows-rows.ensures ∙ here in
    record {
      kinds = c.in_ok-kinds.ensures c.args.set.now c.args.a rows c.requires.coded ∙ ap (λ (x : Assembly). map (kind_at c.args.set.now c.args.a) (rows_in x TYPE_DEF)) rows;
      around = subst (λ x. AreEnclosing x c.in_ok-enclosing_rows.field-0.items) rows c.in_ok-enclosing_rows.ensures;
      classes = c.in_ok-marks_on_types.ensures;
      classes_for = c.in_ok-marks_on_types-2.ensures;
      generated = c.in_ok-marks_on_types-3.ensures;
      generics = c.requires.counts;
      reference = c.in_ok-is_reference.ensures;
    }
