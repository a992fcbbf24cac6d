use Rattle.std.proofs.Common.{◌+◌, ◌∙◌, ap, sym, ℕ, Some, option_map}
use Rattle.cil_semantics.specs.Places.{layouts, place_of}
use Rattle.run_values.proofs.LayoutLaws.{place_behind, place_found}
use Rattle.run_values.proofs.layouts.look_at.Goals as goal

pub returns-in-Some-checked_add : goal.returns-in-Some-checked_add
returns-in-Some-checked_add c ts =
    ap Some c.in-Some-checked_add.ensures.1 ∙ place_found c.args.program.now c.args.field c.args.before c.in-Some.place ts c.args.link.now (sym c.in-Some.ensures)

pub returns-in-Some-checked_add-2 : goal.returns-in-Some-checked_add-2
returns-in-Some-checked_add-2 c ts =
    ap (λ (n : ℕ). option_map (λ i. n + i) (place_of c.args.field (layouts c.args.program.now ts))) c.in-Some-checked_add-2.ensures.1
    ∙ place_behind c.args.program.now c.args.field c.args.before c.own_count.result ts c.args.link.now (sym c.in-None.ensures) c.own_count.ensures
