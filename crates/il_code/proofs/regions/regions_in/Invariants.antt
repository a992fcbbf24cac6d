use Rattle.std.proofs.Common.{◌≡◌, drop}
use Rattle.cil_model.specs.BodyOf.{map_all, region_of}
use Rattle.il_code.proofs.MappedLaws.{after}
use Rattle.il_code.proofs.regions.regions_in.Given as goal

abbrev pub invariant-loop-clause : goal.invariant-loop-clause
invariant-loop-clause l = after l.regions (map_all (region_of l.offsets l.size) (drop l.clause-index l.clauses)) ≡ map_all (region_of l.offsets l.size) l.clauses
