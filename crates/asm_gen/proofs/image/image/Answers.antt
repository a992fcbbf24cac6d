use Rattle.asm_gen.proofs.FinishLaws.{reads_back}
use Rattle.asm_gen.proofs.image.image.Goals as goal

pub returns-clause-reads : goal.returns-clause-reads
returns-clause-reads c = reads_back c.args.code.now c.args.metadata.now c.args.entry c.image_bytes.result c.ranges.entry.fits c.image_bytes.ensures.ok c.image_bytes.ensures.short
