use Rattle.std.proofs.Common.{◌≡◌, ◌∙◌, ap, sym, arith, length}
use Rattle.set_rows.specs.Sets.{Assembly, count_in}
use Rattle.set_program.proofs.RowLaws.{no_row_zero, no_row_past}
use Rattle.set_program.proofs.part.Part.full_name.Goals.{then-row-eq0-via-then-row-eq0, then-row-eq0-via-else-row-eq0+then-row-len}
use Rattle.cil_base.specs.declared.tables.TheConstants.{TYPE_DEF}
use Rattle.set_program.proofs.part.Part.full_name.Goals as goal

counted : (c : goal.Joined-then-row-eq0) → count_in c.args.self.now TYPE_DEF ≡ length c.self.inside.full.items
counted c = ap (λ (x : Assembly). count_in x TYPE_DEF) (sym c.self.view_is) ∙ sym c.self.invariant.count

pub returns-then-row-eq0 : goal.returns-then-row-eq0
returns-then-row-eq0 c =
    elim c.then-row-eq0.branch [
      | then-row-eq0-via-then-row-eq0 w ↦ no_row_zero c.args.self.now c.args.row w.if-row-eq0.true
      | then-row-eq0-via-else-row-eq0+then-row-len w ↦ no_row_past c.args.self.now c.args.row (omega (arith, counted c, w.if-row-len.true, w.len.ensures, c.self.inside.full.ok.0))
    ]
