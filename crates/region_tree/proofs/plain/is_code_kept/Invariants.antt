use Rattle.std.proofs.Common.{◌≡◌, ◌<◌, ℕ, false, get_or}
use Rattle.cil_model.specs.declared.body.Instr.{Instr}
use Rattle.region_tree.specs.Rules.{breaks_region, is_out_of_place}
use Rattle.region_tree.proofs.plain.is_code_kept.Given as goal

abbrev pub invariant-loop-k : goal.invariant-loop-k
invariant-loop-k l = (j : ℕ) (d : Instr) → j < l.k → (breaks_region l.regions j (get_or l.instrs j d) ≡ false) × (is_out_of_place l.regions j (get_or l.instrs j d) ≡ false)
