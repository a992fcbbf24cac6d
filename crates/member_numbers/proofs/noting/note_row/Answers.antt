use Rattle.member_table.specs.Environments.{environment_in}
use Rattle.member_table.specs.Numbers.{outside_in}
use Rattle.member_numbers.proofs.NotedLaws.{named_noted}
use Rattle.member_numbers.proofs.noting.note_row.Goals as goal

pub returns : goal.returns
returns c = λ cells h.
    named_noted (outside_in (environment_in c.args.assemblies.now c.args.types.now) c.args.is_field) cells (c.args.a, c.args.row) c.args.noted.outside c.args.noted.rows.items _ c.with_named.result h
    c.in_ok-member.ensures c.with_named.ensures.outside c.with_named.ensures.rows
