use Rattle.cil_base.specs.Bytes.{number_bytes}
use Rattle.asm_gen.specs.Blank.{blank}
use Rattle.asm_gen.proofs.BlankLaws.{not_refused}
use Rattle.asm_gen.proofs.blank.blank_heaps.Goals as goal

pub unreachable-requires : goal.unreachable-requires
unfolding blank number_bytes
unreachable-requires c = let f = rw c.in-Err.is at c.read.ensures.refused in not_refused 0 c.in-Err.field-0 f

pub returns : goal.returns
unfolding blank number_bytes
returns c = let f = rw c.in-Ok.is at c.read.ensures.ok in f
