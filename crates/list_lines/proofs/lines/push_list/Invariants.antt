use Rattle.std.proofs.Common.{◌≡◌, ◌++◌, take}
use Rattle.std.specs.List.{flat_map}
use Rattle.list_lines.specs.Lists.{type_text, text_at}
use Rattle.list_lines.proofs.lines.push_list.Given as goal

abbrev pub invariant-loop-t : goal.invariant-loop-t
invariant-loop-t l = l.out ≡ l.initial.out ++ flat_map (type_text (text_at l.contracts) l.program.methods) (take l.t-index l.types)
