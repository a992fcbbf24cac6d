use Rattle.std.proofs.Common.{◌≡◌, ◌∙◌, ◌<◌, List, ℕ, Bool, true, false, eqb, ap, arith}
use Rattle.std.specs.Cmp.Lexicographic.{pointwise}
use Rattle.indexmap.specs.IndexMap.{index_map_len}
use Rattle.heap_writer.specs.Growth.{user_string_content}
use Rattle.heap_writer.proofs.TextLaws.{entry_found, entry_other}
use Rattle.heap_writer.proofs.text.find_text.Goals as goal
use Rattle.heap_writer.proofs.text.find_text.Goals.{in-Some+else-is_text, in_default}

apart : false ≡ true → ⊥
apart e = cc

pub returns-then-is_text : goal.returns-then-is_text
returns-then-is_text c =
    let test : List ℕ → Bool = λ l. pointwise eqb (user_string_content c.args.units.now) l in
    entry_found test c.args.entries.now.entries c.loop-k.k c.in-Some.content.now c.in-Some.at.now _ c.in-Some.ensures.entry (c.if-is_text.ensures ∙ ap test c.deref.ensures.value) c.loop-k.invariant

pub loop-k-preserved : goal.loop-k-preserved
loop-k-preserved c =
    let test : List ℕ → Bool = λ l. pointwise eqb (user_string_content c.args.units.now) l in
    elim c.match-get_index.branch [
      | in-Some+else-is_text w ↦
          entry_other test c.args.entries.now.entries c.loop-k.k w.in-Some.content.now w.in-Some.at.now _ w.in-Some.ensures.entry (w.if-is_text.ensures ∙ ap test w.deref.ensures.value) c.loop-k.invariant
      | in_default w ↦
          let lt : c.loop-k.k < index_map_len c.args.entries.now = omega (arith, c.len-k-end.ensures.len, c.loop-k-test.true) in
          absurd (apart (w.in_default.ensures.found.1 lt))
    ]
