use Rattle.std.proofs.Common.{◌≡◌, ◌∙◌, ap, sym, arith, ◌+◌, ◌-◌, ℕ, length, get_or}
use Rattle.std.specs.Prelude.{Option, None}
use Rattle.std.proofs.lemmas.List.{get_or_default}
use Rattle.std.proofs.lemmas.List.FromFn.{length-map-range_with_len}
use Rattle.set_names.specs.Names.{Name, is_name}
use Rattle.attribute_marks.proofs.FirstLaws.{row_more}
use Rattle.attribute_marks.specs.Marks.{marked_row}
use Rattle.attribute_marks.proofs.marks.marked_rows.Goals as goal

pub loop-k-preserved : goal.loop-k-preserved
loop-k-preserved c =
    let here : get_or c.args.names.now c.loop-k.k None ≡ c.index-names-k.result = get_or_default c.args.names.now c.loop-k.k None c.index-names-k.result c.loop-k-test.true ∙ sym c.index-names-k.is in
    row_more (λ k. marked_row c.args.part.now (is_name c.args.name.now (get_or c.args.names.now (k - 1) None)) c.args.tag k) c.loop-k.k c.loop-k.rows.items c.push.new.self.items c.marked_row.result c.in_ok-push.ensures.items
    (c.marked_row.ensures
    ∙ ap (λ (o : Option Name). marked_row c.args.part.now (is_name c.args.name.now o) c.args.tag (c.loop-k.k + 1)) (sym here ∙ ap (λ (j : ℕ). get_or c.args.names.now j None) back))
    c.loop-k.invariant
  where
    back : c.loop-k.k ≡ (c.loop-k.k + 1) - 1
    back = omega arith

pub returns-clause-short : goal.returns-clause-short
returns-clause-short c =
    let long : length c.loop-k.rows.items ≡ c.loop-k.k = ap length c.loop-k.invariant ∙ length-map-range_with_len (λ k. marked_row c.args.part.now (is_name c.args.name.now (get_or c.args.names.now (k - 1) None)) c.args.tag k) 1 c.loop-k.k in
    omega (arith, long, c.loop-k.auto.k-end, c.requires)
