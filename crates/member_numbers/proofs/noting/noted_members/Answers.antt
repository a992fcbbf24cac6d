use Rattle.member_numbers.proofs.NotedLaws.{outside_of_set, rows_of_set}
use Rattle.member_numbers.proofs.noting.noted_members.Goals as goal

pub returns-clause-outside : goal.returns-clause-outside
returns-clause-outside c = λ s h.
    outside_of_set s c.args.table.now.assemblies.items c.as_slice.result.now c.args.table.now.types.items c.as_slice-2.result.now c.args.is_field c.as_slice.ensures.value c.as_slice-2.ensures.value h c.note_all.result c.note_all.ensures

pub returns-clause-rows : goal.returns-clause-rows
returns-clause-rows c = λ s h.
    rows_of_set s c.args.table.now.assemblies.items c.as_slice.result.now c.args.table.now.types.items c.as_slice-2.result.now c.args.is_field c.as_slice.ensures.value c.as_slice-2.ensures.value h c.note_all.result c.note_all.ensures
