use Rattle.std.proofs.Common.{◌≡◌, ◌∙◌, ◌++◌, ◌+◌, ◌∷◌, [], ℕ, List, None, ap, length, eqb}
use Rattle.std.specs.Prelude.{Vec}
use Rattle.std.specs.Map.{lookup}
use Rattle.std.specs.Cmp.Lexicographic.{pointwise}
use Rattle.std.specs.declared.alloc.Global.{Global}
use Rattle.indexmap.proofs.CallerLemmas.{insert_entry-new}
use Rattle.heap_writer.specs.Growth.{HeapGrowth, entry_offset, front, next_offset, contents_of}
use Rattle.heap_writer.proofs.GrowthLaws.{front_is, place_is, appended_is, last_is, key_absent, contents-append}
use Rattle.heap_writer.proofs.grown_heap.GrownHeap.add.Goals as goal

pub returns-clause-ok : goal.returns-clause-ok
returns-clause-ok c =
    let g : HeapGrowth = record { base = c.self.inside.base; added = c.self.inside.added.items; entries = contents_of c.self.inside.offsets.entries } in
    let n : ℕ = length c.as_slice.result.now in
    let begin : List ℕ = c.front_of-front.result.now in
    let entry : List ℕ = c.args.head.now ++ c.args.content.now ++ c.args.tail.now in
    let long : n ≡ length g.added = ap length c.as_slice.ensures.value in
    let before : begin ≡ front g = front_is g n begin long c.front_of-front.ensures in
    let at : g.base + n + length begin ≡ next_offset g = place_is g n begin long before in
    let bytes : c.as_slice-2.result.now ≡ begin ++ entry = c.as_slice-2.ensures.value ∙ c.in_ok-entry.ensures in
    let added : c.extend_from_slice.new.self.items ≡ g.added ++ (front g ++ entry) =
    c.in_ok-extend_from_slice.ensures.items ∙ ap (λ (l : List ℕ). g.added ++ l) (bytes ∙ ap (λ (l : List ℕ). l ++ entry) before) in
    let same : c.reserve.new.self.entries ≡ c.self.inside.offsets.entries = c.in_ok-reserve.ensures.entries in
    let none : entry_offset g c.args.content.now ≡ None = ap (λ (x : HeapGrowth). entry_offset x c.args.content.now) c.self.view_is ∙ c.requires.absent in
    let absent : lookup (λ (k : Vec ℕ Global). pointwise eqb c.in_ok-key.key.items k.items) c.reserve.new.self.entries ≡ None =
    key_absent c.args.content.now c.in_ok-key.key c.reserve.new.self.entries c.in_ok-key.ensures.items (ap (λ (es : List (Vec ℕ Global × ℕ)). lookup (λ (l : List ℕ). pointwise eqb c.args.content.now l) (contents_of es)) same ∙ none) in
    let entries : contents_of c.insert.new.self.entries ≡ g.entries ++ (c.args.content.now, next_offset g) ∷ [] =
    ap contents_of (c.in-Ok.ensures.entries ∙ insert_entry-new (λ (x y : Vec ℕ Global). pointwise eqb x.items y.items) c.reserve.new.self c.in_ok-key.key (g.base + n + length begin) absent)
    ∙ contents-append c.reserve.new.self.entries c.in_ok-key.key (g.base + n + length begin)
    ∙ last_is (contents_of c.reserve.new.self.entries) g.entries c.in_ok-key.key.items c.args.content.now (g.base + n + length begin) (next_offset g) (ap contents_of same) c.in_ok-key.ensures.items at in
    rw (← c.self.view_is) (at, appended_is g c.args.content.now entry c.extend_from_slice.new.self.items (contents_of c.insert.new.self.entries) added entries)
