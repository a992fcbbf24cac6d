use Rattle.std.proofs.Common.{◌∙◌}
use Rattle.type_table.specs.Names.{AreReferences}
use Rattle.coded_tables.proofs.TableLaws.{types_noted, numbers_noted}
use Rattle.coded_tables.proofs.assemblies.note_references.Goals as goal

pub returns-clause-types : goal.returns-clause-types
returns-clause-types c =
    let refs : AreReferences c.args.set.now c.args.a c.as_slice.result.now = c.as_slice.ensures.value ∙ c.in_ok-references.ensures in
    types_noted c.args.table.now c.args.set.now c.args.a c.as_slice.result.now c.requires.same refs c.args.refs.now.items c.push_references.new.out.items c.in_ok-push_references.ensures

pub returns-clause-numbers : goal.returns-clause-numbers
returns-clause-numbers c =
    let refs : AreReferences c.args.set.now c.args.a c.as_slice-2.result.now = c.as_slice-2.ensures.value ∙ c.in_ok-references.ensures in
    numbers_noted c.args.table.now c.args.set.now c.args.a c.as_slice-2.result.now c.requires.same refs c.args.numbers.now.items c.push_numbers.new.out.items c.in_ok-push_numbers.ensures
