use Rattle.std.proofs.Common.{◌^◌, lit<}
use Rattle.heap_writer.proofs.GrowthLaws.{reads_blobs}
use Rattle.heap_writer.proofs.builder.HeapBuilder.append_blob.Goals as goal

pub invariant_of-self : goal.invariant_of-self
invariant_of-self c =
    let reads = reads_blobs c.self.inside.blobs c.append_counted.new.heap c.args.b.now (2 ^ 28) c.append_counted.result (lit< tt) c.append_counted.ensures.ok c.append_counted.ensures.unchanged c.self.invariant.1 in
    (c.self.invariant.0, reads.all, c.self.invariant.2, c.self.invariant.3)

pub returns-clause-reads_back : goal.returns-clause-reads_back
returns-clause-reads_back c = (reads_blobs c.self.inside.blobs c.append_counted.new.heap c.args.b.now (2 ^ 28) c.append_counted.result (lit< tt) c.append_counted.ensures.ok c.append_counted.ensures.unchanged c.self.invariant.1).back

pub returns-clause-old_entries : goal.returns-clause-old_entries
returns-clause-old_entries c = rw (← c.self.view_is) (reads_blobs c.self.inside.blobs c.append_counted.new.heap c.args.b.now (2 ^ 28) c.append_counted.result (lit< tt) c.append_counted.ensures.ok c.append_counted.ensures.unchanged c.self.invariant.1).kept
