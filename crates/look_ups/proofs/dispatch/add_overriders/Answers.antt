use Rattle.std.specs.Prelude.{reverse}
use Rattle.cil_semantics.specs.Lookups.{chain}
use Rattle.cil_semantics.specs.Dispatch.{overriders}
use Rattle.look_ups.proofs.OverrideLaws.{overriders_on, overriders_end}
use Rattle.look_ups.proofs.dispatch.add_overriders.Goals as goal

pub loop-ty-preserved : goal.loop-ty-preserved
loop-ty-preserved c =
    overriders_on c.args.program.now c.loop-ty.left c.pop.new.self c.in-Some.ty c.loop-ty.seen c.add_overriders_in.new.seen (overriders c.args.program.now (reverse (chain c.args.program.now c.args.ty.now)) c.args.seen.now)
    c.in-Some.ensures c.in_ok-add_overriders_in.ensures c.loop-ty.invariant

pub returns : goal.returns
returns c = overriders_end c.args.program.now c.loop-ty.left c.loop-ty.seen (overriders c.args.program.now (reverse (chain c.args.program.now c.args.ty.now)) c.args.seen.now) c.in_default.ensures.0 c.loop-ty.invariant
