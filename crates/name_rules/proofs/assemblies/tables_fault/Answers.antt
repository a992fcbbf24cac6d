use Rattle.std.proofs.Common.{◌<◌, arith}
use Rattle.name_rules.proofs.TellLaws.{tables_end}
use Rattle.name_rules.proofs.assemblies.tables_fault.Goals as goal

pub returns : goal.returns
returns c = λ r h. let low : r.table < 0x2D = tables_end c.args.tables.now c.args.writes c.args.a r h in c.loop-table.invariant r h (omega (arith, low, c.loop-table-test.false))
