use Rattle.std.proofs.Common.{◌≡◌, arith}
use Rattle.set_program.specs.declared.identity.TypeId.TheVariants.{Row}
use Rattle.type_table.proofs.AttributeLaws.{name_past}
use Rattle.type_table.proofs.attributes.id_name.Goals as goal

pub returns-then-assembly-set : goal.returns-then-assembly-set
returns-then-assembly-set c = let e : c.args.id.now ≡ Row c.in-Row.assembly c.in-Row.row = c.in-Row.is in rw e (name_past c.args.set.now c.in-Row.assembly c.in-Row.row (omega (arith, c.if-assembly-set.true)))
