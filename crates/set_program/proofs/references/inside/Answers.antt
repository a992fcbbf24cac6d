use Rattle.std.proofs.Common.{◌≡◌, arith}
use Rattle.set_program.specs.declared.identity.TypeId.TheVariants.{Row}
use Rattle.set_program.proofs.RowLaws.{inside_past}
use Rattle.set_program.proofs.references.inside.Goals as goal

pub returns-then-assembly-set : goal.returns-then-assembly-set
returns-then-assembly-set c = let e : c.args.outer ≡ Row c.in-Row.assembly c.in-Row.row = c.in-Row.is in rw e (inside_past c.args.set.now c.args.name.now c.in-Row.assembly c.in-Row.row (omega (arith, c.if-assembly-set.true)))
