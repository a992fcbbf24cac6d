use Rattle.std.proofs.Common.{◌≡◌, ◌++◌, drop}
use Rattle.std.specs.Prelude.{map}
use Rattle.set_types.specs.CodedTypes.{coded_of}
use Rattle.row_descriptions.specs.RowDescriptions.{method_row}
use Rattle.row_descriptions.proofs.methods.push_methods.Given as goal

-- what is left of the methods
abbrev pub invariant-loop-known : goal.invariant-loop-known
invariant-loop-known l = l.out ++ map (method_row l.rows (coded_of l.coded)) (drop l.known-index l.facts) ≡ l.initial.out ++ map (method_row l.rows (coded_of l.coded)) l.facts
