use Rattle.std.proofs.Common.{◌≡◌, ◌∙◌, sym, arith, ◌+◌, ◌<◌}
use Rattle.std.specs.Prelude.{Some, None}
use Rattle.cil_base.specs.declared.tables.TheConstants.{TYPE_DEF}
use Rattle.set_rows.specs.Sets.{count_in}
use Rattle.set_program.specs.Numbering.{type_cut}
use Rattle.member_numbers.proofs.CutLaws.{cut_of, class_is, owned_past}
use Rattle.member_numbers.proofs.cuts.owned_before_class.Goals as goal

pub returns-in-Some : goal.returns-in-Some
returns-in-Some c =
    c.owned_before.ensures ∙ class_is c.args.target.now c.args.column c.args.table c.in-Some.row (cut_of c.args.target.now (Some c.in-Some.row) (sym c.in-Some.is ∙ c.type_named.ensures))

pub returns-in-None : goal.returns-in-None
returns-in-None c =
    let cut : count_in c.args.target.now TYPE_DEF + 1 ≡ type_cut c.args.target.now = cut_of c.args.target.now None (sym c.in-None.is ∙ c.type_named.ensures) in
    let past : count_in c.args.target.now TYPE_DEF < type_cut c.args.target.now = omega (arith, cut) in
    c.count.ensures ∙ owned_past c.args.target.now c.args.column c.args.table (type_cut c.args.target.now) past
