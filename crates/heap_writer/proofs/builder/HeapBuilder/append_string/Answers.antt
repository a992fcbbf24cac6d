use Rattle.std.proofs.Common.{◌^◌}
use Rattle.heap_writer.proofs.GrowthLaws.{reads_strings}
use Rattle.heap_writer.proofs.builder.HeapBuilder.append_string.Goals as goal

pub invariant_of-self : goal.invariant_of-self
invariant_of-self c =
    let reads = reads_strings c.self.inside.strings c.append_ended.new.heap c.args.s.now (2 ^ 28) c.append_ended.result c.requires c.append_ended.ensures.ok c.append_ended.ensures.unchanged c.self.invariant.0 in
    (reads.all, c.self.invariant.1, c.self.invariant.2, c.self.invariant.3)

pub returns-clause-reads_back : goal.returns-clause-reads_back
returns-clause-reads_back c = (reads_strings c.self.inside.strings c.append_ended.new.heap c.args.s.now (2 ^ 28) c.append_ended.result c.requires c.append_ended.ensures.ok c.append_ended.ensures.unchanged c.self.invariant.0).back

pub returns-clause-old_entries : goal.returns-clause-old_entries
returns-clause-old_entries c = rw (← c.self.view_is) (reads_strings c.self.inside.strings c.append_ended.new.heap c.args.s.now (2 ^ 28) c.append_ended.result c.requires c.append_ended.ensures.ok c.append_ended.ensures.unchanged c.self.invariant.0).kept
