use Rattle.std.proofs.Common.{◌∙◌, ◌<◌, ap, arith, length, []}
use Rattle.descriptions.specs.Descriptions.{outside_type}
use Rattle.program_build.proofs.OutsideLaws.{name_at, pushed_item}
use Rattle.program_build.proofs.types.push_outside.Goals as goal

pub loop-k-preserved : goal.loop-k-preserved
loop-k-preserved c =
    let short : c.loop-k.k < length c.args.names.now = omega (arith, c.loop-k-test.true, c.len-k-end.ensures) in
    pushed_item outside_type c.args.names.now c.loop-k.k [] c.args.out.now c.loop-k.out c.push.new.self c.in_ok-outside_at.field-0
    c.in_ok-push.ensures.ok c.loop-k.invariant short (c.in_ok-outside_at.ensures ∙ ap outside_type (name_at c.args.names.now c.loop-k.k))
