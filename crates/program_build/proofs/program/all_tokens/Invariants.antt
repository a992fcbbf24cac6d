use Rattle.std.proofs.Common.{◌≡◌, []}
use Rattle.std.specs.Prelude.{flat_map}
use Rattle.std.specs.List.{range_with_len}
use Rattle.row_descriptions.specs.TokenTables.{all_noted}
use Rattle.descriptions.specs.Programs.{assembly_tokens}
use Rattle.program_build.proofs.program.all_tokens.Given as goal

-- of the assemblies so far
abbrev pub invariant-loop-a : goal.invariant-loop-a
invariant-loop-a l = l.tokens ≡ all_noted [] (flat_map (assembly_tokens l.tables) (range_with_len 0 l.a))
