use Rattle.std.proofs.Common.{sym, ap, ◌∙◌}
use Rattle.contract_extract.proofs.LocalLaws.{read_at}
use Rattle.contract_extract.proofs.locals.Locals.at.Goals as goal

pub returns : goal.returns
returns c = read_at c.args.self.now c.self.inside.numbers.keys c.args.n c.unwrap_or.result c.copied.result (c.copied.ensures ∙ c.get_index.ensures.key) c.self.view_is c.unwrap_or.ensures
