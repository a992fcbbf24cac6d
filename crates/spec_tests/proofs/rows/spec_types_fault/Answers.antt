use Rattle.std.proofs.Common.{◌≡◌, ◌∙◌, sym, true, false}
use Rattle.std.specs.Prelude.{is_some}
use Rattle.cil_base.specs.declared.tables.TheConstants.{TYPE_SPEC}
use Rattle.member_tests.proofs.RowLaws.{stops_early, ends_late}
use Rattle.spec_tests.proofs.rows.spec_types_fault.Goals as goal

pub returns-then-is_some : goal.returns-then-is_some
returns-then-is_some c =
    let some : is_some c.in_ok-early.early ≡ true = sym c.is_some.ensures ∙ c.if-is_some.true in
    stops_early c.args.tables.now c.args.a TYPE_SPEC c.args.row c.args.tys.now c.requires.types c.in_ok-early.early c.in_ok-early.ensures some

pub returns : goal.returns
returns c =
    let none : is_some c.in_ok-early.early ≡ false = sym c.is_some.ensures ∙ c.if-is_some.false in
    ends_late c.args.tables.now c.args.a TYPE_SPEC c.args.row c.args.tys.now c.requires.types c.in_ok-early.early c.unfit_fault.result c.is_unfit.result c.in_ok-early.ensures none c.is_unfit.ensures c.unfit_fault.ensures
