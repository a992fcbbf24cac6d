use Rattle.std.proofs.Common.{◌≡◌, ◌∙◌, sym, ap, arith, ℕ, ◌<◌, List, [], length, get_or, Vec, Global}
use Rattle.std.specs.Prelude.{map, Option, Some}
use Rattle.std.proofs.lemmas.List.{length-map, map-set, get_or-map}
use Rattle.cil_model.specs.declared.body.Body.{Body}
use Rattle.program_bodies.specs.Filled.{body_of_cell, body_of_row}
use Rattle.program_bodies.proofs.FilledLaws.{Bodies}
use Rattle.program_bodies.proofs.TakenLaws.{cell_kept}
use Rattle.program_bodies.proofs.filling.take_body.Goals as goal

abbrev items_of : Vec (Option Body) Global → List (Option Body)
items_of v = v.items

pub returns-clause-others : goal.returns-clause-others
returns-clause-others c = λ k differ.
    let lists : List (Vec (Option Body) Global) = c.args.bodies.now.items in
    let a : ℕ = c.args.a in
    let low : a < length lists = omega (arith, c.if-a-len.false, c.len.ensures) in
    let count : length (map items_of lists) ≡ length lists = length-map lists items_of in
    let there : a < length (map items_of lists) = omega (arith, low, count) in
    let old : c.index_mut.result.now.items ≡ get_or (map items_of lists) a [] = ap items_of c.index_mut.ensures.value ∙ sym (get_or-map items_of lists a c.index_mut.result.now [] low) in
    ap (λ (l : Bodies). body_of_cell l (Some k)) (map-set items_of lists a c.take_row.new.bodies)
    ∙ cell_kept (map items_of lists) a c.args.row c.take_row.new.bodies.items there (λ r d. c.take_row.ensures.others r d ∙ ap (λ (l : List (Option Body)). body_of_row l r) old) k differ
