use Rattle.std.proofs.Common.{◌≡◌, ℕ, ◌<◌, ◌++◌, length, drop, map}
use Rattle.std.specs.Prelude.{flat_map}
use Rattle.cil_model.specs.ValidBody.{AllValidRegions}
use Rattle.il_body.specs.BodyEncoding.{clause_bytes, clause_of}
use Rattle.il_body.proofs.clauses.push_clauses.Given as goal

abbrev pub invariant-loop-region : goal.invariant-loop-region
invariant-loop-region l = (l.out.items ++ flat_map clause_bytes (map (clause_of l.offsets) (drop l.region-index l.regions)) ≡ l.initial.out.items ++ flat_map clause_bytes (map (clause_of l.offsets) l.regions)) × ((count : ℕ) × (count < length l.offsets) × AllValidRegions count (drop l.region-index l.regions))
