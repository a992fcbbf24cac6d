use Rattle.std.proofs.Common.{arith, sym}
use Rattle.heap_writer.proofs.TextLaws.{other_length}
use Rattle.heap_writer.proofs.text.is_text.Goals as goal

pub returns-then-content-units : goal.returns-then-content-units
returns-then-content-units c = sym (other_length c.args.units.now c.args.content.now (λ e. omega (arith, e)))
