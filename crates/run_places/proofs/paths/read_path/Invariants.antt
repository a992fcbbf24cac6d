use Rattle.std.proofs.Common.{◌≡◌, drop}
use Rattle.cil_semantics.specs.Places.{read_path}
use Rattle.run_places.proofs.paths.read_path.Given as goal

abbrev pub invariant-loop-part : goal.invariant-loop-part
invariant-loop-part l = read_path (drop l.part-index l.path) l.at ≡ read_path l.path l.v
