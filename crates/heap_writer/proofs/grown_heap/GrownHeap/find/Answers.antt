use Rattle.std.proofs.Common.{◌∙◌, ap}
use Rattle.heap_writer.specs.Growth.{HeapGrowth, entry_offset}
use Rattle.heap_writer.proofs.GrowthLaws.{contents_found}
use Rattle.heap_writer.proofs.grown_heap.GrownHeap.find.Goals as goal

pub returns : goal.returns
returns c = c.copied.ensures ∙ c.get.ensures.value ∙ contents_found c.args.content.now c.self.inside.offsets.entries ∙ ap (λ (g : HeapGrowth). entry_offset g c.args.content.now) c.self.view_is
