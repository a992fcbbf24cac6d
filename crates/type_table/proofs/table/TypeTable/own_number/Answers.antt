use Rattle.std.proofs.Common.{subst, arith}
use Rattle.type_table.specs.Table.{IsNumbered}
use Rattle.type_table.proofs.TableLaws.{own_old, own_new}
use Rattle.type_table.proofs.table.TypeTable.own_number.Goals as goal

pub returns-then-row-self : goal.returns-then-row-self
returns-then-row-self c =
    let inv : IsNumbered c.args.self.now c.self.inside.starts.items c.self.inside.old c.self.inside.all c.self.inside.names =
    subst (λ s. IsNumbered s c.self.inside.starts.items c.self.inside.old c.self.inside.all c.self.inside.names) c.self.view_is c.self.invariant in
    own_old c.args.self.now c.self.inside.starts.items c.self.inside.old c.self.inside.all c.self.inside.names inv c.args.row c.before_own-before.result c.requires.from c.if-row-self.true c.before_own-before.ensures

pub returns : goal.returns
returns c =
    let inv : IsNumbered c.args.self.now c.self.inside.starts.items c.self.inside.old c.self.inside.all c.self.inside.names =
    subst (λ s. IsNumbered s c.self.inside.starts.items c.self.inside.old c.self.inside.all c.self.inside.names) c.self.view_is c.self.invariant in
    own_new c.args.self.now c.self.inside.starts.items c.self.inside.old c.self.inside.all c.self.inside.names inv c.args.row c.before_own-before.result c.len.result (omega (arith, c.if-row-self.false)) c.requires.to c.before_own-before.ensures c.len.ensures
