use Rattle.std.proofs.Common.{ℕ, ◌<◌, ◌++◌, length, map}
use Rattle.cil_model.specs.ValidBody.{AllValidRegions}
use Rattle.il_body.specs.BodyEncoding.{clause_of, sections}
use Rattle.il_body.proofs.PushLaws.{AreLeft}
use Rattle.il_body.proofs.clauses.push_each.Given as goal

abbrev pub invariant-loop-rest : goal.invariant-loop-rest
invariant-loop-rest l = AreLeft (clause_of l.offsets) l.out.items (l.initial.out.items ++ sections (length l.regions) (map (clause_of l.offsets) l.regions)) l.rest × ((count : ℕ) × (count < length l.offsets) × AllValidRegions count l.rest)

abbrev pub decreases-loop-rest : goal.decreases-loop-rest
decreases-loop-rest l = length l.rest
