use Rattle.std.proofs.Common.{◌≡◌, arith, ◌+◌}
use Rattle.program_build.specs.Orders.{signature_at}
use Rattle.program_build.proofs.OrderLaws.{pushed_row}
use Rattle.program_build.proofs.signatures.push_signatures.Goals as goal

pub loop-k-preserved : goal.loop-k-preserved
loop-k-preserved c =
    let row : c.args.before + c.loop-k.k + 1 ≡ c.args.before + 1 + c.loop-k.k = omega arith in
    pushed_row (signature_at c.args.tables.now c.args.a) (c.args.before + 1) c.loop-k.k (c.args.before + c.loop-k.k + 1) c.args.out.now.items c.loop-k.out.items c.push.new.self.items c.in_ok-row_signature.field-0
    c.in_ok-push.ensures.items c.loop-k.invariant row c.in_ok-row_signature.ensures
