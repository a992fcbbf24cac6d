use Rattle.std.proofs.Common.{arith}
use Rattle.cli_sigs.proofs.CommaLaws.{before_found, before_none}
use Rattle.cli_sigs.proofs.attribute.before_comma.Goals as goal

pub returns-then-b-eq-COMMA : goal.returns-then-b-eq-COMMA
returns-then-b-eq-COMMA c = before_found c.args.text.now c.loop-at.at c.loop-at-test.true c.loop-at.invariant c.if-b-eq-COMMA.true

pub returns : goal.returns
returns c = before_none c.args.text.now (λ k h e. c.loop-at.invariant k (omega arith) e)
