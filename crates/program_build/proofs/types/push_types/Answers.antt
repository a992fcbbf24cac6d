use Rattle.std.proofs.Common.{◌≡◌, arith, ◌+◌}
use Rattle.descriptions.specs.Descriptions.{type_row}
use Rattle.program_build.proofs.OrderLaws.{pushed_row}
use Rattle.program_build.proofs.types.push_types.Goals as goal

pub loop-k-preserved : goal.loop-k-preserved
loop-k-preserved c =
    let row : c.args.before + c.loop-k.k + 1 ≡ c.args.before + 1 + c.loop-k.k = omega arith in
    pushed_row (type_row c.args.tables.now c.args.a) (c.args.before + 1) c.loop-k.k (c.args.before + c.loop-k.k + 1) c.args.out.now c.loop-k.out c.push.new.self c.in_ok-type_at.field-0
    c.in_ok-push.ensures.ok c.loop-k.invariant row c.in_ok-type_at.ensures
