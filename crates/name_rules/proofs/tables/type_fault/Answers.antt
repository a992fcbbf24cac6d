use Rattle.name_rules.proofs.TellLaws.{no_types}
use Rattle.name_rules.proofs.tables.type_fault.Goals as goal

pub returns : goal.returns
returns c =
    no_types c.args.tables.now c.args.a c.args.table c.if-table-eq-TYPE_REF.false c.if-table-eq-TYPE_DEF.false c.if-table-eq-CUSTOM_ATTRIBUTE.false c.if-table-eq-ASSEMBLY.false c.if-table-eq-EXPORTED_TYPE.false
