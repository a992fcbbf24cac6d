use Rattle.std.proofs.Common.{◌≡◌, ◌∙◌, ◌++◌, ◌∷◌, [], ℕ, List, true, eqb, drop, sym, ap, subst}
use Rattle.std.specs.List.{starts_with}
use Rattle.cli_heaps.specs.Root.{strings}
use Rattle.assembly_rewrite.specs.Rewrite.{contracts_namespace}
use Rattle.assembly_rewrite.proofs.ContractLaws.{is_name, name_begins}
use Rattle.assembly_rewrite.proofs.contract_rows.is_contracts.Goals as goal

tail : (c : goal.After-starts_with) → c.bytes_from.result.now ≡ drop c.args.at (strings c.args.heaps.now.bytes)
tail c = c.bytes_from.ensures ∙ ap (drop c.args.at) c.strings.ensures

pub returns-then-at-ne0-clause-yes : goal.returns-then-at-ne0-clause-yes
returns-then-at-ne0-clause-yes c = λ h.
    is_name (strings c.args.heaps.now.bytes) c.args.at c.if-at-ne0.true
    (subst (λ (l : List ℕ). starts_with eqb l (contracts_namespace ++ 0 ∷ []) ≡ true) (tail c) (sym c.starts_with.ensures.value ∙ h))

pub returns-then-at-ne0-clause-all : goal.returns-then-at-ne0-clause-all
returns-then-at-ne0-clause-all c = λ h.
    c.starts_with.ensures.value
    ∙ subst (λ (l : List ℕ). starts_with eqb l (contracts_namespace ++ 0 ∷ []) ≡ true) (sym (tail c)) (name_begins (strings c.args.heaps.now.bytes) c.args.at c.if-at-ne0.true h)
