use Rattle.set_types.specs.CodedTypes.{coded_of}
use Rattle.coded_tables.proofs.KindLaws.{kinds_are}
use Rattle.coded_tables.proofs.base_kinds.kinds.Goals as goal

pub returns : goal.returns
returns c = kinds_are (λ v. v.items) c.row_kinds.result c.args.rows.now (coded_of c.args.coded.now) c.row_kinds.ensures
