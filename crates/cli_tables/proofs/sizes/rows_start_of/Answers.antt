use Rattle.std.proofs.Common.{◌≡◌, ◌∙◌, ◌+◌, ◌*◌, ◌<◌, ◌^◌, ℕ, sym, ap, arith}
use Rattle.std.specs.Int.RustNames.{count_ones}
use Rattle.cil_base.specs.Numbers.{num}
use Rattle.cli_tables.specs.Stream.{rows_start}
use Rattle.cli_tables.proofs.StreamLaws.{start_ones}
use Rattle.cli_tables.proofs.sizes.rows_start_of.Goals as goal

pub returns : goal.returns
returns c =
    let small : num c.args.stream.now 8 8 < 2 ^ 64 = omega (arith, c.valid_of-valid.ensures, c.valid_of-valid.type_inv) in
    let e : rows_start c.args.stream.now ≡ 24 + 4 * count_ones (num c.args.stream.now 8 8) = start_ones c.args.stream.now small in
    record {
      start = ap (λ (v : ℕ). 24 + 4 * count_ones v) c.valid_of-valid.ensures ∙ sym e;
      bits = e;
      bytes = λ i. omega (arith, c.type_inv.stream i);
    }
