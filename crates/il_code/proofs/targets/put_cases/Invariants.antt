use Rattle.std.proofs.Common.{◌≡◌, length, take, drop}
use Rattle.cil_model.specs.BodyOf.{map_all, index_of}
use Rattle.il_code.proofs.MappedLaws.{after}
use Rattle.il_code.proofs.targets.put_cases.Given as goal

abbrev pub invariant-loop-k : goal.invariant-loop-k
invariant-loop-k l = (length l.targets ≡ length l.initial.targets) × (drop l.k l.targets ≡ drop l.k l.initial.targets) × (after (take l.k l.targets) (map_all (index_of l.offsets) (drop l.k l.initial.targets)) ≡ map_all (index_of l.offsets) l.initial.targets)
