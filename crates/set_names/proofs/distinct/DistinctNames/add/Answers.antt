use Rattle.std.proofs.Common.{◌∙◌, sym, ap, List, ℕ}
use Rattle.std.specs.Prelude.{is_some, Vec}
use Rattle.std.specs.declared.alloc.Global.{Global}
use Rattle.set_names.specs.Names.{Name}
use Rattle.set_names.specs.Distinct.{added, names_of}
use Rattle.set_names.proofs.PlaceLaws.{keys_added, added_again}
use Rattle.set_names.proofs.distinct.DistinctNames.add.Goals as goal

pub returns-then-is_some-clause-ok : goal.returns-then-is_some-clause-ok
returns-then-is_some-clause-ok c = added_again c.args.self.now c.args.name.now (ap is_some (sym c.place.ensures) ∙ sym c.is_some.ensures ∙ c.if-is_some.true)

pub returns-clause-ok : goal.returns-clause-ok
returns-clause-ok c =
    ap names_of c.in_ok-insert.ensures.keys
    ∙ keys_added c.self.inside.names.keys c.in_ok-key.key
    ∙ ap (added (names_of c.self.inside.names.keys)) c.in_ok-key.ensures.items
    ∙ ap (λ (names : List Name). added names c.args.name.now) c.self.view_is
