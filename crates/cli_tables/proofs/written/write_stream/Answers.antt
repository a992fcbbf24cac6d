use Rattle.cli_tables.proofs.WrittenLaws.{holds_written}
use Rattle.cli_tables.proofs.written.write_stream.Goals as goal

pub returns-clause-holds : goal.returns-clause-holds
returns-clause-holds c =
    holds_written c.args.old.now c.args.sizes.now c.args.tables.now c.requires.whole c.requires.shaped c.requires.fit
    c.in_ok-out.out.items c.push_counts.new.out.items c.push_tables.new.out.items c.push_padding.new.out.items
    c.in_ok-out.ensures c.in_ok-push_counts.ensures c.in_ok-push_tables.ensures c.in_ok-push_padding.ensures
