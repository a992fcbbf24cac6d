use Rattle.std.proofs.Common.{◌≡◌, ◌∙◌, ℕ, length, Bool}
use Rattle.std.specs.Prelude.{map, ◌||◌}
use Rattle.std.specs.List.{range_with_len}
use Rattle.set_names.specs.Cycles.{is_deep}
use Rattle.set_rows.specs.Sets.{Assemblies}
use Rattle.set_program.specs.Environment.{types_of}
use Rattle.set_program.specs.TypeRules.{above, around, within, is_on_cycle, deepest}
use Rattle.type_circles.proofs.EntangledLaws.{small, circles_are, deep_are, or_are, above_past, around_past, within_past}
use Rattle.type_circles.proofs.entangled.entangled_types.Goals as goal

pub deep_nodes-requires : goal.deep_nodes-requires
deep_nodes-requires c = small (within c.args.types.now) (length (types_of c.args.types.now)) c.args.structs.now c.requires.structs c.requires.few

pub nodes_on_circles-requires : goal.nodes_on_circles-requires
nodes_on_circles-requires c = small (within c.args.types.now) (length (types_of c.args.types.now)) c.args.structs.now c.requires.structs c.requires.few

pub nodes_on_circles-requires-2 : goal.nodes_on_circles-requires-2
nodes_on_circles-requires-2 c = small (around c.args.types.now) (length (types_of c.args.types.now)) c.args.nestings.now c.requires.nestings c.requires.few

pub nodes_on_circles-requires-3 : goal.nodes_on_circles-requires-3
nodes_on_circles-requires-3 c = small (above c.args.types.now) (length (types_of c.args.types.now)) c.args.bases.now c.requires.bases c.requires.few

pub returns : goal.returns
returns c =
    let s : Assemblies = c.args.types.now in
    let n : ℕ = length (types_of s) in
    let is_within : ℕ → Bool = λ k. is_on_cycle s (within s) k in
    let is_around : ℕ → Bool = λ k. is_on_cycle s (around s) k in
    let is_above : ℕ → Bool = λ k. is_on_cycle s (above s) k in
    let too_deep : ℕ → Bool = λ k. is_deep (within s) deepest k in
    let deep : c.in_ok-deep.deep.items ≡ map too_deep (range_with_len 0 n) = c.in_ok-deep.ensures ∙ deep_are (within s) n c.args.structs.now c.requires.structs (within_past s) deepest in
    let in_structs : c.in_ok-in_structs.in_structs.items ≡ map is_within (range_with_len 0 n) = c.in_ok-in_structs.ensures ∙ circles_are (within s) n c.args.structs.now c.requires.structs (within_past s) in
    let tangled : c.in_ok-tangled.tangled.items ≡ map (λ k. is_within k || too_deep k) (range_with_len 0 n) =
    c.in_ok-tangled.ensures ∙ or_are is_within too_deep n c.deref.result.now c.deref-2.result.now (c.deref.ensures.value ∙ in_structs) (c.deref-2.ensures.value ∙ deep) in
    let in_nestings : c.in_ok-in_nestings.in_nestings.items ≡ map is_around (range_with_len 0 n) = c.in_ok-in_nestings.ensures ∙ circles_are (around s) n c.args.nestings.now c.requires.nestings (around_past s) in
    let inside : c.in_ok-inside.inside.items ≡ map (λ k. is_around k || (is_within k || too_deep k)) (range_with_len 0 n) =
    c.in_ok-inside.ensures ∙ or_are is_around (λ k. is_within k || too_deep k) n c.deref-3.result.now c.deref-4.result.now (c.deref-3.ensures.value ∙ in_nestings) (c.deref-4.ensures.value ∙ tangled) in
    let in_bases : c.in_ok-in_bases.in_bases.items ≡ map is_above (range_with_len 0 n) = c.in_ok-in_bases.ensures ∙ circles_are (above s) n c.args.bases.now c.requires.bases (above_past s) in
    c.in_ok-all.ensures
    ∙ or_are is_above (λ k. is_around k || (is_within k || too_deep k)) n c.deref-5.result.now c.deref-6.result.now (c.deref-5.ensures.value ∙ in_bases) (c.deref-6.ensures.value ∙ inside)
