use Rattle.std.proofs.Common.{◌∙◌, ap, ℕ, List}
use Rattle.std.specs.Prelude.{option_to_list}
use Rattle.cil_base.specs.declared.tables.TheConstants.{INTERFACE_IMPL}
use Rattle.set_rows.specs.Sets.{cell}
use Rattle.set_types.specs.CodedTypes.{coded_of}
use Rattle.set_program.specs.TypeRules.{leads_to}
use Rattle.member_table.specs.Environments.{coded_ty_at}
use Rattle.type_circles.proofs.ListLaws.{flat_on}
use Rattle.type_circles.proofs.above.push_interfaces.Goals as goal

pub loop-row-preserved : goal.loop-row-preserved
loop-row-preserved c =
    let f : ℕ → List ℕ = λ i. leads_to (option_to_list c.args.own) (coded_ty_at (coded_of c.args.coded.now) (cell c.args.rows.now INTERFACE_IMPL i 1)) in
    flat_on f c.loop-row.out c.push_some.new.out (option_to_list c.in_ok-number.number) _ c.args.list.now c.loop-row.row-index c.loop-row-test.true c.in_ok-push_some.ensures
    (c.in_ok-number.ensures ∙ ap (λ (n : ℕ). leads_to (option_to_list c.args.own) (coded_ty_at (coded_of c.args.coded.now) n)) c.cell.ensures)
    c.loop-row.invariant
