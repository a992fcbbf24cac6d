use Rattle.std.proofs.Common.{◌∙◌, sym}
use Rattle.look_ups.proofs.OverrideLaws.{by_named, by_unnamed}
use Rattle.look_ups.proofs.dispatch.overrides_either.Goals as goal

pub returns-then-named : goal.returns-then-named
returns-then-named c = by_named c.args.program.now (c.args.ty.now, c.args.method) c.args.slot.now c.has_base.result (sym c.in_ok-named.ensures ∙ c.if-named.true) c.has_base.ensures

pub returns : goal.returns
returns c = by_unnamed c.args.program.now (c.args.ty.now, c.args.method) c.args.slot.now c.overrides_by_name.result (sym c.in_ok-named.ensures ∙ c.if-named.false) c.overrides_by_name.ensures
