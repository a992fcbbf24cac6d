use Rattle.std.proofs.Common.{◌≡◌, ◌∙◌, sym, subst, length, List, ℕ, ◌<◌, ◌^◌}
use Rattle.set_check.specs.Sets.{bytes_at, bytes_of}
use Rattle.set_check.proofs.SetLaws.{are_numbered, same_assemblies, bytes_of_there}
use Rattle.set_check.proofs.check.check_bodies.Goals as goal

pub program_of-requires-clause-same : goal.program_of-requires-clause-same
program_of-requires-clause-same c = same_assemblies c.args.set.now ∙ sym c.requires.same

pub program_of-requires-clause-numbered : goal.program_of-requires-clause-numbered
program_of-requires-clause-numbered c = are_numbered c.args.set.now c.requires.numbered
