use Rattle.std.proofs.Common.{◌∙◌, ap, arith, ◌-◌, ◌<◌, ℕ}
use Rattle.cil_base.specs.declared.tables.TheConstants.{TYPE_DEF}
use Rattle.set_rows.specs.Sets.{count_in}
use Rattle.member_numbers.proofs.CutLaws.{owned_past, owned_at}
use Rattle.member_numbers.proofs.cuts.owned_before.Goals as goal

pub returns-then-count-row : goal.returns-then-count-row
returns-then-count-row c =
    let past : count_in c.args.target.now TYPE_DEF < c.args.row = omega (arith, c.if-count-row.true, c.count.ensures) in
    c.count-then-count-row.ensures ∙ owned_past c.args.target.now c.args.column c.args.table c.args.row past

pub returns : goal.returns
returns c =
    let within : count_in c.args.target.now TYPE_DEF < c.args.row → ⊥ = λ h. absurd (omega (arith, c.if-count-row.false, c.count.ensures, h)) in
    c.saturating_sub.ensures ∙ ap (λ (n : ℕ). n - 1) c.cell.ensures ∙ owned_at c.args.target.now c.args.column c.args.table c.args.row within
