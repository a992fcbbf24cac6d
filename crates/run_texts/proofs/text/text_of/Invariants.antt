use Rattle.std.proofs.Common.{◌≡◌, ◌++◌, drop}
use Rattle.cil_model.specs.Texts.{units_from}
use Rattle.run_texts.proofs.text.text_of.Given as goal

-- what stands there and what the other bytes add are the whole text
abbrev pub invariant-loop-i : goal.invariant-loop-i
invariant-loop-i l = l.units ++ units_from l.more (drop l.i l.name) ≡ units_from 0 l.name
