use Rattle.method_bodies.proofs.RowLaws.{has_code}
use Rattle.method_bodies.proofs.rows.bodies_have_code.Goals as goal

pub returns : goal.returns
returns c s a rva body h = has_code s a rva body h
