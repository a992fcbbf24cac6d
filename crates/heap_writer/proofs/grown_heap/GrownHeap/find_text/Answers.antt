use Rattle.std.proofs.Common.{◌∙◌, ap}
use Rattle.heap_writer.specs.Growth.{HeapGrowth, entry_offset, user_string_content}
use Rattle.heap_writer.proofs.grown_heap.GrownHeap.find_text.Goals as goal

pub returns : goal.returns
returns c = c.find_text.ensures ∙ ap (λ (g : HeapGrowth). entry_offset g (user_string_content c.args.units.now)) c.self.view_is
