use Rattle.std.proofs.Common.{◌∙◌, ap}
use Rattle.set_rows.specs.Sets.{Assemblies}
use Rattle.set_types.specs.CodedTypes.{coded_of}
use Rattle.descriptions.specs.Descriptions.{type_row}
use Rattle.descriptions.specs.TypeFacts.{type_by}
use Rattle.program_build.proofs.RowLaws.{same_answer, type_is}
use Rattle.type_facts.specs.Known.{type_facts_by}
use Rattle.program_build.proofs.types.type_at.Goals as goal

pub returns : goal.returns
returns c =
    same_answer c.type_row.result (type_by c.rows_at-rows.result.now (coded_of c.coded-coded.result.now) c.args.known.now.members c.args.known.now.lists c.in_ok-facts.facts c.args.a c.args.row) (type_row c.args.tables.now c.args.a c.args.row)
    (type_is c.args.tables.now c.args.a c.args.row c.args.known.now c.in_ok-facts.facts (coded_of c.coded-coded.result.now) c.rows_at-rows.result.now c.coded-coded.ensures c.rows_at-rows.ensures
    (c.in_ok-facts.ensures ∙ ap (λ (t : Assemblies). type_facts_by t c.args.a c.args.known.now.types c.args.row) c.set-set.ensures)
    c.requires.known (c.facts_give_types.ensures c.args.tables.now c.args.a c.args.known.now.members c.args.known.now.lists) (c.marks_give_types.ensures c.args.tables.now c.args.a c.args.known.now.types) c.requires.from c.requires.to)
    c.type_row.ensures
