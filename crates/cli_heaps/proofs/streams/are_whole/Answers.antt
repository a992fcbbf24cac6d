use Rattle.std.proofs.Common.{◌≡◌, ◌≢◌, ◌∙◌, sym, ap, arith, ◌-◌, length, suc, ℕ}
use Rattle.std.proofs.lemmas.Bool.{ne_eqb}
use Rattle.cli_heaps.specs.Root.{streams, stream_count, streams_from}
use Rattle.cli_heaps.proofs.StreamLaws.{goes_on, ends_here}
use Rattle.cli_heaps.proofs.streams.are_whole.Goals as goal

pub returns-then-end-meta : goal.returns-then-end-meta
returns-then-end-meta c =
    let none : length (streams_from c.args.meta.now c.loop-left.at c.loop-left.left) ≡ 0 = ap length (ends_here c.args.meta.now c.loop-left.at c.loop-left.left (omega arith) (omega (arith, c.header_end-end.ensures))) in
    let ne : length (streams c.args.meta.now) ≢ stream_count c.args.meta.now = omega (arith, none, c.loop-left.invariant.rest) in
    sym (ne_eqb (length (streams c.args.meta.now)) (stream_count c.args.meta.now) ne)

pub loop-left-preserved : goal.loop-left-preserved
loop-left-preserved c =
    let one : length (streams_from c.args.meta.now c.loop-left.at c.loop-left.left) ≡ suc (length (streams_from c.args.meta.now c.header_end-end.result (c.loop-left.left - 1))) =
    ap length (goes_on c.args.meta.now c.loop-left.at c.loop-left.left (omega arith) (omega (arith, c.header_end-end.ensures)))
    ∙ ap (λ (k : ℕ). suc (length (streams_from c.args.meta.now k (c.loop-left.left - 1)))) (sym c.header_end-end.ensures) in
    record { within = c.if-end-meta.false; rest = omega (arith, one, c.loop-left.invariant.rest) }
