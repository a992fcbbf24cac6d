use Rattle.std.proofs.Common.{◌≡◌, ℕ, List, ap, sym, ◌∙◌}
use Rattle.std.specs.Prelude.{◌==◌}
use Rattle.contract_parts.specs.declared.made.Made.{Made}
use Rattle.contract_parts.specs.Closures.{closures, holds_local}
use Rattle.contract_parts.proofs.PassLaws.{list_any-map}
use Rattle.contract_parts.proofs.setup.Closures.is_closure.Goals as goal

pub returns : goal.returns
returns c =
    c.holds_local.ensures
    ∙ ap (λ (xs : List Made). holds_local xs c.args.k) c.made.ensures
    ∙ sym (list_any-map (λ (j : ℕ). j == c.args.k) (λ (x : Made). x.local) (closures c.args.self.now))
