use Rattle.std.proofs.Common.{arith, refl}
use Rattle.std.proofs.lemmas.Bool.{lt-ltb, le-ltb}
use Rattle.cli_tables.specs.Stream.{count_of}
use Rattle.cli_tables.specs.Written.{has_rows, bits_of}
use Rattle.cli_tables.proofs.PieceLaws.{shifted, bits_fit, bits_yes, bits_no}
use Rattle.cli_tables.proofs.written.valid_bits.Goals as goal
use Rattle.cli_tables.proofs.written.valid_bits.Goals.{then-count-gt0, else-count-gt0}

pub loop-table-init : goal.loop-table-init
unfolding bits_of
loop-table-init c = refl

pub overflow_add-bits : goal.overflow_add-bits
overflow_add-bits c =
    let t = c.loop-table.table in
    let fit = bits_fit (has_rows c.args.sizes.now) t (omega arith) in
    omega (arith, fit, shifted t (omega arith), c.loop-table.invariant)

pub loop-table-preserved : goal.loop-table-preserved
loop-table-preserved c =
    let t = c.loop-table.table in
    let s = c.args.sizes.now in
    elim c.if-count-gt0.branch [
      | then-count-gt0 w ↦ bits_yes (has_rows s) t c.loop-table.bits c.if-count-gt0.bits (omega arith) c.loop-table.invariant (lt-ltb 0 (count_of s t) (omega (arith, w.if-count-gt0.true, c.count.ensures))) w.bits-is
      | else-count-gt0 w ↦ bits_no (has_rows s) t c.loop-table.bits c.if-count-gt0.bits c.loop-table.invariant (le-ltb 0 (count_of s t) (omega (arith, w.if-count-gt0.false, c.count.ensures))) w.bits-is
    ]
