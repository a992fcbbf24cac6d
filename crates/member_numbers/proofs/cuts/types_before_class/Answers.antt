use Rattle.std.proofs.Common.{◌≡◌, ◌∙◌, sym, arith, ◌+◌, ◌-◌}
use Rattle.std.specs.Prelude.{Some, None}
use Rattle.type_table.proofs.NumberingLaws.{cut_is}
use Rattle.member_numbers.proofs.cuts.types_before_class.Goals as goal

pub returns-in-Some : goal.returns-in-Some
returns-in-Some c = c.saturating_sub.ensures ∙ cut_is c.args.target.now (Some c.in-Some.row) (sym c.in-Some.is ∙ c.type_named.ensures)

pub returns-in-None : goal.returns-in-None
returns-in-None c =
    let same : c.count.result ≡ c.count.result + 1 - 1 = omega arith in
    same ∙ Rattle.std.proofs.Common.ap (λ (n : Rattle.std.proofs.Common.ℕ). n + 1 - 1) c.count.ensures ∙ cut_is c.args.target.now None (sym c.in-None.is ∙ c.type_named.ensures)
