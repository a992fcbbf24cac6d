use Rattle.std.proofs.Common.{◌*◌, ◌+◌}
use Rattle.look_ups.proofs.slots.+slots.Given as goal

abbrev pub decreases-interface_slot : goal.decreases-interface_slot
decreases-interface_slot l = 2 * l.steps

abbrev pub decreases-slot_from : goal.decreases-slot_from
decreases-slot_from l = 2 * l.steps + 1
