use Rattle.std.proofs.Common.{◌^◌, lit<}
use Rattle.heap_writer.specs.Growth.{user_string_content}
use Rattle.heap_writer.proofs.GrowthLaws.{reads_blobs, user_strings_after}
use Rattle.heap_writer.proofs.UserStringLaws.{user_string_content_odd}
use Rattle.heap_writer.proofs.builder.HeapBuilder.append_user.Goals as goal

pub invariant_of-self : goal.invariant_of-self
invariant_of-self c =
    let content = user_string_content c.args.units.now in
    let reads = reads_blobs c.self.inside.user_strings c.append_text.new.heap content (2 ^ 24) c.append_text.result (lit< tt) c.append_text.ensures.ok c.append_text.ensures.unchanged c.self.invariant.2 in
    (c.self.invariant.0, c.self.invariant.1, reads.all, user_strings_after c.self.inside.user_strings c.append_text.new.heap content (2 ^ 24) c.append_text.result (lit< tt) (user_string_content_odd c.args.units.now) c.append_text.ensures.ok c.append_text.ensures.unchanged c.self.invariant.3)

pub returns-clause-reads_back : goal.returns-clause-reads_back
returns-clause-reads_back c =
    (reads_blobs c.self.inside.user_strings c.append_text.new.heap (user_string_content c.args.units.now) (2 ^ 24) c.append_text.result (lit< tt) c.append_text.ensures.ok c.append_text.ensures.unchanged c.self.invariant.2).back

pub returns-clause-old_entries : goal.returns-clause-old_entries
returns-clause-old_entries c =
    rw (← c.self.view_is)
    (reads_blobs c.self.inside.user_strings c.append_text.new.heap (user_string_content c.args.units.now) (2 ^ 24) c.append_text.result (lit< tt) c.append_text.ensures.ok c.append_text.ensures.unchanged c.self.invariant.2).kept
