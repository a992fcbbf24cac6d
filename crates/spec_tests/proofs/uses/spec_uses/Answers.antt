use Rattle.std.proofs.Common.{◌*◌, ◌+◌, refl}
use Rattle.spec_tests.proofs.UseLaws.{uses_are}
use Rattle.spec_tests.proofs.uses.spec_uses.Goals as goal

pub returns : goal.returns
returns c =
    uses_are c.args.rows.now (c.count-count.result * 4 + 3) (c.count-count.result + 1) c.count-count.result
    c.in_ok-types.types.items c.in_ok-interfaces.interfaces.items c.in_ok-constraints.constraints.items c.in_ok-firsts.firsts.items c.in_ok-seconds.seconds.items
    c.count-count.ensures refl refl c.in_ok-types.ensures c.in_ok-interfaces.ensures c.in_ok-constraints.ensures c.in_ok-firsts.ensures c.in_ok-seconds.ensures
