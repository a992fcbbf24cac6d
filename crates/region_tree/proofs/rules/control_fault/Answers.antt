use Rattle.region_tree.proofs.PlainLaws.{none_broken_in}
use Rattle.region_tree.proofs.rules.control_fault.Goals as goal

pub returns-then-plain : goal.returns-then-plain
returns-then-plain c =
    none_broken_in c.args.place c.args.body.now c.as_slice-regions.result.now c.as_slice.result.now c.as_slice-regions.ensures c.as_slice.ensures (c.in_ok-plain.ensures c.if-plain.true)
