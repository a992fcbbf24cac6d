use Rattle.std.proofs.Common.{◌≡◌, ◌∙◌, ap, arith, length}
use Rattle.std.proofs.lemmas.List.FromFn.{length-map-range_with_len}
use Rattle.set_types.specs.CodedTypes.{coded_of}
use Rattle.members.specs.MemberRows.{row_key}
use Rattle.members.proofs.DeclaredLaws.{one_more}
use Rattle.members.proofs.declaring.row_keys.Goals as goal

pub loop-k-preserved : goal.loop-k-preserved
loop-k-preserved c =
    one_more (row_key c.args.rows.now (coded_of c.args.coded.now) c.args.is_field) c.loop-k.k c.loop-k.keys.items c.push.new.self.items c.in_ok-row_key.field-0 c.in_ok-push.ensures.items c.in_ok-row_key.ensures c.loop-k.invariant

pub returns-clause-short : goal.returns-clause-short
returns-clause-short c =
    let long : length c.loop-k.keys.items ≡ c.loop-k.k = ap length c.loop-k.invariant ∙ length-map-range_with_len (row_key c.args.rows.now (coded_of c.args.coded.now) c.args.is_field) 1 c.loop-k.k in
    omega (arith, long, c.loop-k.auto.k-end, c.count-count.type_inv)
