use Rattle.std.proofs.Common.{◌≡◌, ◌<◌, ℕ, false, length, take, drop, get_or}
use Rattle.std.specs.Prelude.{is_none}
use Rattle.cil_model.specs.declared.body.Instr.{Instr}
use Rattle.cil_model.specs.BodyOf.{map_all, with_indexes}
use Rattle.il_code.proofs.MappedLaws.{after}
use Rattle.il_code.proofs.targets.put_all.Given as goal

abbrev pub invariant-loop-k : goal.invariant-loop-k
invariant-loop-k l = (length l.i-items ≡ length l.initial.i-items) × (drop l.k l.i-items ≡ drop l.k l.initial.i-items) × (after (take l.k l.i-items) (map_all (with_indexes l.offsets) (drop l.k l.initial.i-items)) ≡ map_all (with_indexes l.offsets) l.initial.i-items) × ((j : ℕ) (d : Instr) → j < l.k → is_none (with_indexes l.offsets (get_or l.initial.i-items j d)) ≡ false)
