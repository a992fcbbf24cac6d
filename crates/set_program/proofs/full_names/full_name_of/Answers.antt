use Rattle.std.proofs.Common.{◌∙◌, sym, ap, ℕ}
use Rattle.std.specs.Prelude.{Option, Some, None, option_map, Vec}
use Rattle.std.specs.declared.alloc.Global.{Global}
use Rattle.set_names.specs.Names.{Name}
use Rattle.set_program.proofs.IndexLaws.{full_is}
use Rattle.set_program.proofs.full_names.full_name_of.Goals as goal

pub returns-in-None : goal.returns-in-None
returns-in-None c =
    full_is c.args.rows.now c.args.outer.now c.args.row None c.requires.outer c.requires.there
    (ap (λ (o : Option (Vec ℕ Global)). option_map (λ rows. rows.items) o) (sym c.in-None.is) ∙ c.in_ok-path_of.ensures)

pub returns-in_ok-name-in-Some : goal.returns-in_ok-name-in-Some
returns-in_ok-name-in-Some c =
    ap (λ (n : Name). Some n) c.in_ok-name-in-Some.ensures
    ∙ full_is c.args.rows.now c.args.outer.now c.args.row (Some c.in-Some.path.items) c.requires.outer c.requires.there
    (ap (λ (o : Option (Vec ℕ Global)). option_map (λ rows. rows.items) o) (sym c.in-Some.is) ∙ c.in_ok-path_of.ensures)
