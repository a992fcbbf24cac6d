use Rattle.std.specs.Prelude.{map}
use Rattle.program_bodies.proofs.ProgramLaws.{held_bodies, with_bodies}
use Rattle.program_bodies.proofs.filling.set_bodies.Goals as goal

pub returns-clause-whole : goal.returns-clause-whole
returns-clause-whole c = λ s some is are. with_bodies s (map (λ v. v.items) c.args.bodies.items) c.args.program.now c.fill.new.methods some is are c.fill.ensures

pub returns-clause-held : goal.returns-clause-held
returns-clause-held c = λ s some is. held_bodies s (map (λ v. v.items) c.args.bodies.items) c.args.program.now c.fill.new.methods some is c.fill.ensures
