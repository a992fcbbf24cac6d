use Rattle.std.proofs.Common.{◌∙◌, ap, subst, ◌-◌, ℕ, List, get_or}
use Rattle.type_table.specs.Table.{IsNumbered}
use Rattle.type_table.proofs.NumberingLaws.{start_is}
use Rattle.type_table.proofs.table.TypeTable.before.Goals as goal

pub returns : goal.returns
returns c =
    let inv : IsNumbered c.args.self.now c.self.inside.starts.items c.self.inside.old c.self.inside.all c.self.inside.names =
    subst (λ s. IsNumbered s c.self.inside.starts.items c.self.inside.old c.self.inside.all c.self.inside.names) c.self.view_is c.self.invariant in
    c.start_at.ensures ∙ ap (λ (l : List ℕ). get_or l (c.args.a - 1) 0) c.as_slice.ensures.value ∙ start_is c.args.self.now c.self.inside.starts.items c.args.a inv.starts_are c.requires.low c.requires.high
