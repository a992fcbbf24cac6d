use Rattle.std.proofs.Common.{ap, ◌∙◌}
use Rattle.std.specs.Prelude.{◌==◌, ◌||◌}
use Rattle.std.specs.List.{list_any}
use Rattle.contract_parts.specs.Flow.{Code}
use Rattle.contract_extract.specs.Rules.{lead_stores, rest_stores}
use Rattle.contract_extract.proofs.LocalLaws.{is_stored_outside}
use Rattle.contract_extract.proofs.block.Block.stores_outside.Goals as goal

pub returns : goal.returns
returns c =
    c.has.ensures ∙ ap (list_any (λ j. j == c.args.k)) c.self.invariant.4.2 ∙ is_stored_outside c.self.inside.code.now c.args.k
    ∙ ap (λ (x : Code). lead_stores x c.args.k || rest_stores x c.args.k) c.self.view_is
