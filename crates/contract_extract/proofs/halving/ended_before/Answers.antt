use Rattle.std.proofs.Common.{ltb, sym, rules}
use Rattle.std.proofs.lemmas.List.Sorted.{IsPartitionPoint-from_clause, IsPartitionedBy-ltb}
use Rattle.contract_parts.specs.declared.segment.Segment.{Segment}
use Rattle.contract_extract.specs.Halving.{ends_before}
use Rattle.contract_extract.proofs.SegmentLaws.{prefix_from_point}
use Rattle.contract_extract.proofs.halving.ended_before.Goals as goal

pub returns : goal.returns
returns c =
    let parted = IsPartitionedBy-ltb (λ (s : Segment). s.at) _ c.args.place c.requires in
    let point = IsPartitionPoint-from_clause (λ (s : Segment). ltb s.at c.args.place) _ _ c.partition_point.ensures.partitioned parted (λ a r q k. search rules) in
    sym (prefix_from_point (ends_before c.args.place) c.args.segments.now c.partition_point.result (record { from = 0; at = 0 }) c.partition_point.ensures.bound point)
