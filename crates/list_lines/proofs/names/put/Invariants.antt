use Rattle.std.proofs.Common.{◌≡◌, ◌++◌, take}
use Rattle.list_lines.proofs.names.put.Given as goal

abbrev pub invariant-loop-byte : goal.invariant-loop-byte
invariant-loop-byte l = l.out ≡ l.initial.out ++ take l.byte-index l.text
