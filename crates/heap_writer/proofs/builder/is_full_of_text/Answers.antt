use Rattle.std.proofs.Common.{◌∙◌, ap, sym, arith, nat_lt}
use Rattle.heap_writer.specs.Growth.{next_offset}
use Rattle.heap_writer.proofs.TextLaws.{long_text, text_size}
use Rattle.heap_writer.proofs.builder.is_full_of_text.Goals as goal

pub returns-then-units : goal.returns-then-units
returns-then-units c = sym (long_text (next_offset c.args.heap.now) c.args.units.now (omega arith))

pub returns : goal.returns
returns c = c.is_full.ensures ∙ ap (nat_lt 16777216) (text_size (next_offset c.args.heap.now) c.packed_width.result c.args.units.now c.packed_width.ensures)
