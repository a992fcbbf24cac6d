use Rattle.std.proofs.Common.{◌≡◌, length}
use Rattle.std.specs.Prelude.{reverse}
use Rattle.set_program.specs.References.{along, from_outermost}
use Rattle.set_program.proofs.references.from_outermost.Given as goal

-- what is found from here on, along what is left of the path
abbrev pub invariant-loop-row : goal.invariant-loop-row
invariant-loop-row l = along l.set l.part l.found (reverse l.rows.items) ≡ from_outermost l.set l.a l.part (reverse l.fn.path.items)

abbrev pub decreases-loop-row : goal.decreases-loop-row
decreases-loop-row l = length l.rows.items
