use Rattle.std.proofs.Common.{◌≡◌, ℕ, ◌^◌, ◌∙◌, sym, ap, arith}
use Rattle.std.specs.Prelude.{nat_lt}
use Rattle.std.specs.List.{list_all}
use Rattle.cli_tables.proofs.PieceLaws.{all_below}
use Rattle.cli_tables.proofs.written.fits_width.Goals as goal

pub returns-in_default : goal.returns-in_default
returns-in_default c =
    let four : c.args.width ≡ 4 = grind arith in
    sym (ap (λ (w : ℕ). list_all (λ (value : ℕ). nat_lt value (256 ^ w)) c.args.cells.now) four ∙ all_below c.args.cells.now (256 ^ 4) (λ k. omega (arith, c.type_inv.cells k)))
