use Rattle.std.proofs.Common.{◌∙◌, sym}
use Rattle.std.specs.Prelude.{Some, None}
use Rattle.members.proofs.ListLaws.{none_else}
use Rattle.member_table.proofs.BaseLaws.{found_none, found_is}
use Rattle.member_table.proofs.member.found_from.Goals as goal

pub returns-in_default : goal.returns-in_default
returns-in_default c = found_none c.args.assemblies.now c.args.types.now c.args.ty.now c.args.k c.args.shape.now (sym (none_else c.in_ok-number.field-0 c.in_default.not-Some) ∙ c.in_ok-number.ensures)

pub returns-in-None : goal.returns-in-None
returns-in-None c = found_is c.args.assemblies.now c.args.types.now c.args.ty.now c.args.k c.args.shape.now (c.in-Some.number, c.in-Some.row) None (sym c.in-Some.is ∙ c.in_ok-number.ensures) (sym c.in-None.is ∙ c.in_ok-found_at.ensures)

pub returns-in-Some-2 : goal.returns-in-Some-2
returns-in-Some-2 c = found_is c.args.assemblies.now c.args.types.now c.args.ty.now c.args.k c.args.shape.now (c.in-Some.number, c.in-Some.row) (Some c.in-Some-2.found) (sym c.in-Some.is ∙ c.in_ok-number.ensures) (sym c.in-Some-2.is ∙ c.in_ok-found_at.ensures)
