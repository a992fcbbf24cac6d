use Rattle.cil_semantics.specs.Unwind.{caught_type, fits_type}
use Rattle.run_handlers.proofs.SkipLaws.{searches}
use Rattle.run_handlers.proofs.search.find_handler.Goals as goal

pub loop-k-init : goal.loop-k-init
loop-k-init c =
    searches (λ token. fits_type c.args.program.now c.args.world.now c.args.exception (caught_type c.args.program.now c.args.frame.now token)) c.args.skip c.args.q c.args.regions.now
