use Rattle.std.proofs.Common.{ℕ, false, get_or}
use Rattle.std.specs.Prelude.{◌||◌}
use Rattle.type_circles.proofs.ListLaws.{list_push}
use Rattle.type_circles.proofs.entangled.or_each.Goals as goal

pub loop-k-preserved : goal.loop-k-preserved
loop-k-preserved c =
    list_push (λ (k : ℕ). get_or c.args.first.now k false || get_or c.args.second.now k false) c.loop-k.k c.loop-k.joined.items c.push.new.self.items c.holds_at.result c.in_ok-push.ensures.items c.holds_at.ensures c.loop-k.invariant
