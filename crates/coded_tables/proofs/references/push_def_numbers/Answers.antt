use Rattle.std.proofs.Common.{◌∙◌, ap}
use Rattle.set_program.specs.Environment.{number_or}
use Rattle.coded_tables.specs.CodedAssemblies.{own_number}
use Rattle.coded_tables.proofs.ListLaws.{row_pushed}
use Rattle.coded_tables.proofs.references.push_def_numbers.Goals as goal

pub loop-k-preserved : goal.loop-k-preserved
loop-k-preserved c =
    row_pushed (own_number c.args.table.now c.args.a) c.loop-k.k c.args.out.now c.loop-k.out c.push.new.self c.number_or_zero.result
    c.in_ok-push.ensures.ok (c.number_or_zero.ensures ∙ ap (number_or 0) c.row_number.ensures) c.loop-k.invariant
