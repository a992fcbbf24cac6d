use Rattle.il_body.proofs.ValidLaws.{body_valid}
use Rattle.il_body.proofs.valid.read_is_valid.Goals as goal

pub returns : goal.returns
returns c a bytes body len b s row = body_valid a bytes body len b s row
