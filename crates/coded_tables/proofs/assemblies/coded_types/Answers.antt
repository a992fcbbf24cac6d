use Rattle.coded_tables.proofs.TableLaws.{tables_same}
use Rattle.coded_tables.proofs.assemblies.coded_types.Goals as goal

pub returns : goal.returns
returns c = tables_same c.args.set.now c.args.a c.note_rows.new.coded c.in_ok-note_rows.ensures c.requires.there
