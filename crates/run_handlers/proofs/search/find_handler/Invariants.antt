use Rattle.std.proofs.Common.{◌≡◌, drop}
use Rattle.cil_semantics.specs.Unwind.{caught_type, fits_type, search_from}
use Rattle.run_handlers.proofs.search.find_handler.Given as goal

abbrev pub invariant-loop-k : goal.invariant-loop-k
invariant-loop-k l =
    search_from (λ token. fits_type l.program l.world l.exception (caught_type l.program l.frame token)) 0 l.k l.q (drop l.k l.regions)
    ≡ search_from (λ token. fits_type l.program l.world l.exception (caught_type l.program l.frame token)) l.skip 0 l.q l.regions
