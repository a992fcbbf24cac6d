use Rattle.run_frames.proofs.TypeLaws.{types_of_all}
use Rattle.run_frames.proofs.types.push_kept_olds.Goals as goal

pub returns : goal.returns
returns c number method = rw (c.in-Some.is, types_of_all, ← c.clauses.ensures) (c.in_ok-push_captured.ensures number method)
