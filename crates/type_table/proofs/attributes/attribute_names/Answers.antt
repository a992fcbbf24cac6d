use Rattle.std.proofs.Common.{◌≡◌, ◌∙◌, ap, arith, length}
use Rattle.std.proofs.lemmas.List.FromFn.{length-map-range_with_len}
use Rattle.set_program.specs.Attributes.{attribute_name}
use Rattle.type_table.proofs.RowLaws.{row_more}
use Rattle.type_table.proofs.attributes.attribute_names.Goals as goal

pub loop-k-preserved : goal.loop-k-preserved
loop-k-preserved c =
    row_more (attribute_name c.args.set.now c.args.a) c.loop-k.k c.loop-k.names.items c.push.new.self.items c.in_ok-attribute_name.field-0 c.in_ok-push.ensures.items c.in_ok-attribute_name.ensures c.loop-k.invariant

pub returns-clause-short : goal.returns-clause-short
returns-clause-short c =
    let long : length c.loop-k.names.items ≡ c.loop-k.k = ap length c.loop-k.invariant ∙ length-map-range_with_len (attribute_name c.args.set.now c.args.a) 1 c.loop-k.k in
    omega (arith, long, c.loop-k.auto.k-end, c.count-count.type_inv)
