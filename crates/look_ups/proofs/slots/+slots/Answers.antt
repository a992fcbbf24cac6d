use Rattle.std.proofs.Common.{◌∙◌, sym}
use Rattle.look_ups.proofs.SlotLaws.{slot_step}
use Rattle.look_ups.proofs.slots.+slots.Goals as goal

pub interface_slot-returns-in-Some : goal.interface_slot-returns-in-Some
interface_slot-returns-in-Some t c =
    slot_step c.args.program.now (c.args.owner.now, c.args.slot) c.args.steps c.args.ty.now c.in-Some.naming c.slot_from.result c.if-steps-eq0.false (sym c.in_ok-naming.ensures ∙ c.in-Some.is) c.slot_from.ensures
