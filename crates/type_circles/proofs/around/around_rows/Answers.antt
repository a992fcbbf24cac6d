use Rattle.std.proofs.Common.{◌∙◌, ap, ℕ, List, ◌+◌}
use Rattle.std.specs.Prelude.{Option, option_and_then, option_to_list}
use Rattle.set_names.specs.Paths.{next_in}
use Rattle.set_program.specs.declared.identity.TypeId.TheVariants.{Row}
use Rattle.set_program.specs.Environment.{number_of}
use Rattle.type_circles.specs.RowGraphs.{around_row}
use Rattle.type_circles.proofs.ListLaws.{row_push}
use Rattle.type_circles.proofs.around.around_rows.Goals as goal

pub loop-k-preserved : goal.loop-k-preserved
loop-k-preserved c =
    let number : ℕ → Option ℕ = λ o. number_of c.args.types.now (Row c.args.a o) in
    row_push (around_row c.args.types.now c.args.a c.args.rows.now) c.loop-k.k c.loop-k.lists c.push.new.self c.in_ok-around_row.field-0 c.in_ok-push.ensures.ok
    (c.in_ok-around_row.ensures
    ∙ ap (λ (l : List ℕ). option_to_list (option_and_then number (next_in l (c.loop-k.k + 1)))) c.deref.ensures.value
    ∙ ap (λ (o : Option ℕ). option_to_list (option_and_then number o)) (c.in_ok-outer.ensures.rows (c.loop-k.k + 1)))
    c.loop-k.invariant
