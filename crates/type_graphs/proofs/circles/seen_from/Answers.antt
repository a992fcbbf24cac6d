use Rattle.std.proofs.Common.{◌≡◌, ◌∙◌, sym, ap, arith, ℕ, List, [], Bool, false, length, replicate}
use Rattle.type_graphs.specs.Graphs.{next_of}
use Rattle.type_graphs.specs.Searches.{Found, with_nodes}
use Rattle.type_graphs.proofs.ListLaws.{row_is}
use Rattle.type_graphs.proofs.SearchLaws.{Goes, goes_first, goes_on, seen_is_reached}
use Rattle.type_graphs.proofs.circles.seen_from.Goals as goal

pub loop-place-init : goal.loop-place-init
loop-place-init c =
    let graph : List (List ℕ) = c.args.graph.now in
    let nodes : List ℕ = c.as_slice.result.now in
    let none : c.in_ok-seen.seen.items ≡ replicate (length graph) false = c.in_ok-seen.ensures.items_if_clones_equal (λ y e. cc) in
    let s : Found = (c.note_nodes.new.seen.items, c.note_nodes.new.found.items) in
    let e : nodes ≡ next_of graph c.args.from = row_is graph c.args.from c.index-graph-from.result nodes c.requires c.index-graph-from.is c.as_slice.ensures in
    goes_first graph c.args.from s
    (c.in_ok-note_nodes.ensures
    ∙ ap (λ (l : List Bool). with_nodes (l, c.new-found.result.items) nodes) none
    ∙ ap (λ (l : List ℕ). with_nodes (replicate (length graph) false, l) nodes) c.new-found.ensures.items
    ∙ ap (with_nodes (replicate (length graph) false, [])) e)

pub loop-place-preserved : goal.loop-place-preserved
loop-place-preserved c =
    goes_on c.args.graph.now c.args.from c.loop-place.place (c.loop-place.seen.items, c.loop-place.found.items) (c.note_next.new.seen.items, c.note_next.new.found.items) c.loop-place.invariant c.in_ok-note_next.ensures

pub returns-clause-seen : goal.returns-clause-seen
returns-clause-seen c =
    let graph : List (List ℕ) = c.args.graph.now in
    let s : Found = (c.loop-place.seen.items, c.loop-place.found.items) in
    let all : c.loop-place.place ≡ length graph = omega (arith, c.loop-place-test.false, c.loop-place.auto.place-end) in
    let goes : Goes graph c.args.from (length graph) s = Rattle.std.proofs.Common.subst (λ (n : ℕ). Goes graph c.args.from n s) all c.loop-place.invariant in
    seen_is_reached graph c.args.from s goes
