use Rattle.std.proofs.Common.{◌≡◌, sym, ap, ◌∙◌, List}
use Rattle.std.specs.Prelude.{position, slice_get}
use Rattle.std.specs.Option.{option_copied}
use Rattle.cil_model.specs.declared.program.TokenRow.{TokenRow}
use Rattle.cil_model.specs.TokenLists.{meaning_among}
use Rattle.cil_model.proofs.TokenLaws.{row_found, none_found, keys_tell}
use Rattle.cil_model.proofs.tokens.TokenRows.meaning.Goals as goal

pub returns-in_err-place : goal.returns-in_err-place
returns-in_err-place c =
    let tells = keys_tell c.key_of.result c.args.assembly c.args.token c.key_of.ensures in
    ap option_copied c.from_residual.ensures
    ∙ none_found _ c.args.assembly c.args.token tells c.self.inside.rows.items (ap (position _) (sym c.self.invariant) ∙ sym c.get_index_of.ensures.index ∙ c.in_err-place.was)
    ∙ ap (λ (rows : List TokenRow). meaning_among rows c.args.assembly c.args.token) c.self.view_is

pub returns : goal.returns
returns c =
    let tells = keys_tell c.key_of.result c.args.assembly c.args.token c.key_of.ensures in
    row_found _ c.args.assembly c.args.token tells c.self.inside.rows.items c.in_ok-place.place c.in_ok-row.row.now
    (ap (position _) (sym c.self.invariant) ∙ sym c.get_index_of.ensures.index ∙ c.in_ok-place.was)
    (ap (λ (rows : List TokenRow). slice_get rows c.in_ok-place.place) (sym c.as_slice.ensures.value) ∙ sym c.in_ok-row.ensures)
    ∙ ap (λ (rows : List TokenRow). meaning_among rows c.args.assembly c.args.token) c.self.view_is
