use Rattle.std.proofs.Common.{◌≡◌, ◌≤◌, length}
use Rattle.command_line.specs.Options.{texts, positionals}
use Rattle.command_line.proofs.options.positionals.Given as goal

abbrev pub invariant-loop-rest : goal.invariant-loop-rest
invariant-loop-rest l = record { same : positionals (texts l.rest) ≡ positionals (texts l.words); short : length l.rest ≤ length l.words }

abbrev pub decreases-loop-rest : goal.decreases-loop-rest
decreases-loop-rest l = length l.rest
