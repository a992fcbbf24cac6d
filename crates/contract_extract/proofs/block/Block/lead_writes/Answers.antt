use Rattle.std.proofs.Common.{ap, ◌∙◌}
use Rattle.std.specs.Prelude.{◌==◌}
use Rattle.std.specs.List.{list_any}
use Rattle.contract_parts.specs.Flow.{Code}
use Rattle.contract_extract.specs.declared.locals.Use.TheVariants as how
use Rattle.contract_extract.specs.Locals.{lead_code}
use Rattle.contract_extract.specs.Rules.{lead_writes}
use Rattle.contract_extract.proofs.LocalLaws.{is_used}
use Rattle.contract_extract.proofs.block.Block.lead_writes.Goals as goal

pub returns : goal.returns
returns c =
    c.has.ensures ∙ ap (list_any (λ j. j == c.args.k)) c.self.invariant.4.0 ∙ is_used how.Writes (lead_code c.self.inside.code.now) c.args.k
    ∙ ap (λ (x : Code). lead_writes x c.args.k) c.self.view_is
