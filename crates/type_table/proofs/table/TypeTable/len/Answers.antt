use Rattle.std.proofs.Common.{subst}
use Rattle.type_table.specs.Table.{IsNumbered}
use Rattle.type_table.proofs.TableLaws.{table_count}
use Rattle.type_table.proofs.table.TypeTable.len.Goals as goal

pub returns : goal.returns
returns c =
    let inv : IsNumbered c.args.self.now c.self.inside.starts.items c.self.inside.old c.self.inside.all c.self.inside.names =
    subst (λ s. IsNumbered s c.self.inside.starts.items c.self.inside.old c.self.inside.all c.self.inside.names) c.self.view_is c.self.invariant in
    table_count c.args.self.now c.self.inside.starts.items c.self.inside.old c.self.inside.all c.self.inside.names inv
