use Rattle.std.proofs.Common.{◌≡◌, ◌∙◌, sym, ap, List, get_or, ◌+◌}
use Rattle.std.specs.Prelude.{Option, None}
use Rattle.std.proofs.lemmas.List.{get_or_default}
use Rattle.set_names.specs.Names.{Name}
use Rattle.set_names.specs.Names.{Noted, number_under, noted}
use Rattle.set_names.proofs.NameLaws.{name_noted, name_missing}
use Rattle.members.proofs.keys.rows_by_key.Goals.{in-Some+in_ok-note, in_default}
use Rattle.members.proofs.keys.rows_by_key.Goals as goal

pub loop-k-preserved : goal.loop-k-preserved
loop-k-preserved c = λ name.
    let keys : List (Option Name) = c.args.keys.now in
    let key : get_or keys c.loop-k.k None ≡ c.index-keys-k.result = get_or_default keys c.loop-k.k None c.index-keys-k.result c.loop-k-test.true ∙ sym c.index-keys-k.is in
    elim c.match-keys-k.branch [
      | in-Some+in_ok-note w ↦
          ap (λ (es : Noted). number_under es name) (w.found-is ∙ w.in_ok-note.ensures.ok ∙ ap (λ (n : Name). noted c.loop-k.found n (c.loop-k.k + 1)) w.as_slice.ensures)
          ∙ name_noted keys c.loop-k.k name c.loop-k.found w.in-Some.key (key ∙ w.in-Some.is) (c.loop-k.invariant name)
      | in_default w ↦
          ap (λ (es : Noted). number_under es name) w.found-is
          ∙ name_missing keys c.loop-k.k name c.loop-k.found (key ∙ w.in_default.is) (c.loop-k.invariant name)
    ]
