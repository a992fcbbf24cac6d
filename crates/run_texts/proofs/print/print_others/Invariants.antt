use Rattle.std.proofs.Common.{◌≡◌, ◌++◌, take}
use Rattle.std.specs.List.{flat_map}
use Rattle.run_texts.specs.Printed.{more_text}
use Rattle.run_texts.proofs.print.print_others.Given as goal

abbrev pub invariant-loop-v : goal.invariant-loop-v
invariant-loop-v l = l.out ≡ l.initial.out ++ flat_map more_text (take l.v-index l.vs)
