use Rattle.std.proofs.Common.{◌∙◌, ap, ℕ, List, [], get_or, ◌-◌}
use Rattle.type_circles.proofs.ListLaws.{past, present}
use Rattle.type_circles.proofs.by_number.row_list.Goals as goal

pub returns-in-None : goal.returns-in-None
returns-in-None c = ap (λ (l : List (List ℕ)). get_or l (c.args.of.now.row - 1) []) (past c.args.lists.now c.args.of.now.assembly [] c.in-None.ensures)

pub returns-in-Some : goal.returns-in-Some
returns-in-Some c =
    c.list_at.ensures
    ∙ ap (λ (k : ℕ). get_or c.in-Some.lists.now k []) c.saturating_sub.ensures
    ∙ ap (λ (l : List (List ℕ)). get_or l (c.args.of.now.row - 1) []) (present c.args.lists.now c.args.of.now.assembly [] c.in-Some.lists.now c.in-Some.ensures)
