use Rattle.std.proofs.Common.{◌≡◌, ◌++◌, drop, length}
use Rattle.std.specs.Prelude.{option_map}
use Rattle.cil_semantics.specs.Frames.{stored_args}
use Rattle.run_frames.proofs.arguments.stored_args.Given as goal

abbrev pub invariant-loop-k : goal.invariant-loop-k
invariant-loop-k l = record {
  even : length l.tys ≡ length l.values;
  stored : option_map (λ cs. l.cells ++ cs) (stored_args l.program (drop l.k l.tys) (drop l.k l.values)) ≡ stored_args l.program l.tys l.values;
}
