use Rattle.run_handlers.proofs.SkipLaws.{leaves}
use Rattle.run_handlers.proofs.leaving.find_finally.Goals as goal

pub loop-k-init : goal.loop-k-init
loop-k-init c = leaves c.args.skip c.args.q c.args.t c.args.regions.now
