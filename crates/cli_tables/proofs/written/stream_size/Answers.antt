use Rattle.std.proofs.Common.{◌≤◌, ◌<◌, ◌+◌, ◌*◌, ◌^◌, ℕ, sym, ap, subst, arith}
use Rattle.std.specs.Prelude.{count_ones}
use Rattle.std.proofs.lemmas.Nat.{ones-le}
use Rattle.cli_tables.specs.Written.{has_rows}
use Rattle.cli_tables.proofs.StreamLaws.{bytes_below_none, bytes_below_more}
use Rattle.cli_tables.proofs.PieceLaws.{bits_small}
use Rattle.cli_tables.proofs.written.stream_size.Goals as goal

pub loop-table-init : goal.loop-table-init
loop-table-init c =
    let few : count_ones c.valid_bits.result ≤ 64 = ones-le 64 c.valid_bits.result (subst (λ (n : ℕ). n < 2 ^ 64) (sym c.valid_bits.ensures) (bits_small (has_rows c.args.sizes.now) 64)) in
    record {
      sum = omega (arith, ap (λ (n : ℕ). 24 + 4 * count_ones n) c.valid_bits.ensures, bytes_below_none c.args.sizes.now);
      small = omega (arith, few);
    }

pub loop-table-preserved : goal.loop-table-preserved
loop-table-preserved c = record {
  sum = omega (arith, bytes_below_more c.args.sizes.now c.loop-table.table, c.table_bytes-size.ensures.size, c.loop-table.invariant.sum);
  small = omega (arith, c.table_bytes-size.ensures.small, c.loop-table.invariant.small);
}
