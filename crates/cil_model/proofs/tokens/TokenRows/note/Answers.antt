use Rattle.std.proofs.Common.{◌≡◌, sym, ap, ◌∙◌, Bool, List, ◌++◌, ◌∷◌, [], refl}
use Rattle.std.specs.Prelude.{if◌then◌else◌}
use Rattle.std.specs.List.{list_any}
use Rattle.std.specs.Result.{is_ok}
use Rattle.cil_model.specs.declared.program.TokenRow.{TokenRow}
use Rattle.cil_model.specs.TokenLists.{noted_row}
use Rattle.cil_model.proofs.TokenLaws.{noted_again, noted_anew, keys_tell}
use Rattle.cil_model.proofs.tokens.TokenRows.note.Goals as goal

pub returns-then-contains-clause-ok : goal.returns-then-contains-clause-ok
returns-then-contains-clause-ok c =
    let tells = keys_tell c.key_of-key.result c.args.row.assembly c.args.row.token c.key_of-key.ensures in
    sym c.self.view_is
    ∙ noted_again _ c.args.row.assembly c.args.row.token tells c.self.inside.rows.items (ap (list_any _) (sym c.self.invariant) ∙ sym c.contains.ensures ∙ c.if-contains.true) c.args.row refl refl
    ∙ ap (λ (rows : List TokenRow). noted_row rows c.args.row) c.self.view_is

pub returns-clause-ok : goal.returns-clause-ok
returns-clause-ok c =
    let tells = keys_tell c.key_of-key.result c.args.row.assembly c.args.row.token c.key_of-key.ensures in
    let rows = c.self.inside.rows.items in
    c.push.ensures.items
    ∙ ap (λ (b : Bool). if b then rows ++ c.args.row ∷ [] else rows) (ap is_ok c.in_default.is)
    ∙ noted_anew _ c.args.row.assembly c.args.row.token tells rows (ap (list_any _) (sym c.self.invariant) ∙ sym c.contains.ensures ∙ c.if-contains.false) c.args.row refl refl
    ∙ ap (λ (rows : List TokenRow). noted_row rows c.args.row) c.self.view_is
