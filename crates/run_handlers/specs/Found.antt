-- What a search for handlers answers, in the machine's words (own).
use Rattle.cil_semantics.specs.Unwind.{Found, NoHandler, CatchHandler, CleanupHandler}
use Rattle.run_handlers.specs.declared.search.Sought.{Sought}
use Rattle.run_handlers.specs.declared.search.Sought.TheVariants as sought

-- where the search ended
abbrev pub found_by : Sought → Found
found_by sought.Nowhere = NoHandler
found_by (sought.Catch i t) = CatchHandler i t
found_by (sought.Cleanup i t) = CleanupHandler i t
