use Rattle.std.proofs.Common.{◌≡◌, ltb, rules}
use Rattle.std.specs.List.{prefix_len}
use Rattle.std.proofs.lemmas.List.Sorted.{IsPartitionPoint-from_clause, IsPartitionedBy-ltb}
use Rattle.std.proofs.lemmas.List.{take_rest}
use Rattle.contract_extract.specs.declared.numbers.Counted.{Counted}
use Rattle.contract_extract.specs.Halving.{stands_before}
use Rattle.contract_extract.proofs.SegmentLaws.{prefix_from_point}
use Rattle.contract_extract.proofs.CheckLaws.{place_of, some_call}
use Rattle.contract_extract.proofs.halving.calls_from.Goals as goal

pub returns : goal.returns
returns c =
    let calls = c.args.calls.now in
    let parted = IsPartitionedBy-ltb place_of _ c.args.place c.requires in
    let point = IsPartitionPoint-from_clause (λ (x : Counted). ltb x.segment.at c.args.place) _ _ c.partition_point.ensures.partitioned parted (λ a r q k. search rules) in
    let few : prefix_len (stands_before c.args.place) calls ≡ c.partition_point.result = prefix_from_point (stands_before c.args.place) calls c.partition_point.result some_call c.partition_point.ensures.bound point in
    rw few (take_rest calls c.partition_point.result)
