use Rattle.std.proofs.Common.{◌≡◌, ◌∙◌, ap, arith, length}
use Rattle.std.proofs.lemmas.List.FromFn.{length-map-range_with_len}
use Rattle.set_program.specs.TypeNames.{full_name}
use Rattle.set_program.proofs.IndexLaws.{one_more}
use Rattle.set_program.proofs.full_names.full_names.Goals as goal

pub loop-k-preserved : goal.loop-k-preserved
loop-k-preserved c =
    one_more (full_name c.args.rows.now) c.loop-k.k c.loop-k.names.items c.push.new.self.items c.in_ok-full_name_of.field-0 c.in_ok-push.ensures.items c.in_ok-full_name_of.ensures c.loop-k.invariant

pub returns-clause-short : goal.returns-clause-short
returns-clause-short c =
    let long : length c.loop-k.names.items ≡ c.loop-k.k = ap length c.loop-k.invariant ∙ length-map-range_with_len (full_name c.args.rows.now) 1 c.loop-k.k in
    omega (arith, long, c.loop-k.auto.k-end, c.count-count.type_inv)
