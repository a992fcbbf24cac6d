use Rattle.std.proofs.Common.{◌∙◌, ap}
use Rattle.set_signatures.specs.Blobs.{spec_sig}
use Rattle.coded_tables.specs.CodedAssemblies.{row_spec}
use Rattle.coded_tables.proofs.ListLaws.{row_pushed}
use Rattle.coded_tables.proofs.references.push_specs.Goals as goal

pub loop-k-preserved : goal.loop-k-preserved
loop-k-preserved c =
    row_pushed (row_spec c.args.rows.now) c.loop-k.k c.args.out.now.items c.loop-k.out.items c.push.new.self.items c.in_ok-spec_sig.field-0
    c.in_ok-push.ensures.items (c.in_ok-spec_sig.ensures ∙ ap spec_sig c.blob.ensures.bytes) c.loop-k.invariant
