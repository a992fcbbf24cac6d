use Rattle.std.proofs.Common.{◌∙◌, sym, ap, arith, ◌-◌, ◌++◌, ◌∷◌, [], List, append_assoc}
use Rattle.cli_heaps.specs.Root.{Stream, streams_from}
use Rattle.cli_heaps.proofs.StreamLaws.{Begins, begins}
use Rattle.cli_heaps.proofs.streams.all_streams.Goals as goal

pub loop-left-preserved : goal.loop-left-preserved
loop-left-preserved c =
    let step : Begins c.args.meta.now c.loop-left.at c.loop-left.left c.in-Some.end c.in-Some.stream = begins c.args.meta.now c.loop-left.at c.loop-left.left c.in-Some.end c.in-Some.stream (omega arith) (sym c.in-Some.ensures) in
    let rest = streams_from c.args.meta.now c.in-Some.end (c.loop-left.left - 1) in
    record {
      within = step.within;
      rest = ap (λ (l : List Stream). l ++ rest) c.in_ok-push.ensures.items ∙ append_assoc c.loop-left.found.items (c.in-Some.stream ∷ []) rest ∙ ap (λ (l : List Stream). c.loop-left.found.items ++ l) (sym step.are) ∙ c.loop-left.invariant.rest;
    }
