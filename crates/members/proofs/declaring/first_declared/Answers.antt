use Rattle.std.proofs.Common.{◌≡◌, ◌∙◌, sym, ap, arith, ℕ, ◌+◌, ◌-◌, ◌≤◌}
use Rattle.set_rows.specs.Sets.{count_in, cell}
use Rattle.set_types.specs.CodedTypes.{coded_of}
use Rattle.set_signatures.specs.Shapes.{is_same}
use Rattle.members.specs.MemberRows.{member_table, list_column}
use Rattle.members.proofs.ScanLaws.{before, declared_first, none_all}
use Rattle.members.proofs.declaring.first_declared.Goals as goal

pub loop-k-init : goal.loop-k-init
loop-k-init c = λ r low high.
    let e : c.saturating_sub-from.result ≡ cell c.args.rows.now 0x02 c.args.row (list_column c.args.x.now.is_field) - 1 =
    c.saturating_sub-from.ensures ∙ ap (λ (n : ℕ). n - 1) (c.cell.ensures ∙ ap (cell c.args.rows.now 0x02 c.args.row) c.list_column.ensures) in
    before c.args.rows.now (coded_of c.args.coded.now) c.args.args.now (is_same c.args.x.now) c.args.x.now.is_field c.args.row c.saturating_sub-from.result r e low high

pub returns-then-branch : goal.returns-then-branch
returns-then-branch c =
    let within : c.loop-k.k + 1 ≤ count_in c.args.rows.now (member_table c.args.x.now.is_field) = omega (arith, c.loop-k-test.true, c.end_place-to.ensures) in
    declared_first c.args.rows.now (coded_of c.args.coded.now) c.args.args.now (is_same c.args.x.now) c.args.x.now.is_field c.args.row (c.loop-k.k + 1) (omega arith) within (sym c.if-branch.true ∙ c.in_ok-is_declared.ensures)
    (λ r low high. c.loop-k.invariant r low (omega (arith, high)))

pub returns : goal.returns
returns c =
    none_all c.args.rows.now (coded_of c.args.coded.now) c.args.args.now (is_same c.args.x.now) c.args.x.now.is_field c.args.row c.end_place-to.result c.loop-k.k c.end_place-to.ensures c.loop-k-test.false c.loop-k.invariant
