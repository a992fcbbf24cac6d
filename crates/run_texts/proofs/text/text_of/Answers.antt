use Rattle.std.proofs.Common.{◌≡◌, ◌<◌, ◌≤◌, ◌+◌, ◌++◌, ◌∙◌, ℕ, List, length, get_or, drop, ap, arith}
use Rattle.cil_model.specs.Texts.{units_from, units_or, char_from, passed, text_units}
use Rattle.run_texts.proofs.TextLaws.{all_behind, read, read_all, skipped}
use Rattle.run_texts.proofs.text.text_of.Goals as goal
use Rattle.run_texts.proofs.text.text_of.Goals.{then-more-gt0, else-more-gt0+in_ok-more}

step : (name units units_now rest : List ℕ) (i more more_now : ℕ) → i < length name → more ≤ 0 → rest ≡ drop (i + 1) name
    → units ++ units_from more (drop i name) ≡ text_units name
    → more_now ≡ passed (char_from (get_or name i 0) rest) → units_now ≡ units ++ units_or (char_from (get_or name i 0) rest)
    → units_now ++ units_from more_now (drop (i + 1) name) ≡ text_units name
step name units units_now rest i more more_now h none is e m u =
    let c = char_from (get_or name i 0) in
    let m2 : more_now ≡ passed (c (drop (i + 1) name)) = m ∙ ap (λ z. passed (c z)) is in
    let u2 : units_now ≡ units ++ units_or (c (drop (i + 1) name)) = u ∙ ap (λ z. units ++ units_or (c z)) is in
    ap (λ z. z ++ units_from more_now (drop (i + 1) name)) u2 ∙ (ap (λ k. (units ++ units_or (c (drop (i + 1) name))) ++ units_from k (drop (i + 1) name)) m2 ∙ read units name i more h none e)

pub loop-i-preserved : goal.loop-i-preserved
loop-i-preserved c = elim c.if-more-gt0.branch [
  | then-more-gt0 w ↦
      let e = skipped c.loop-i.units c.args.name.now c.loop-i.i c.loop-i.more c.loop-i-test.true w.if-more-gt0.true c.loop-i.invariant in
      let i = c.loop-i.i + 1 in
      ap (λ z. z ++ units_from c.if-more-gt0.more (drop i c.args.name.now)) w.units-is ∙ (ap (λ k. c.loop-i.units ++ units_from k (drop i c.args.name.now)) w.more-is ∙ e)
  | else-more-gt0+in_ok-more w ↦
      let name = c.args.name.now in
      let i = c.loop-i.i + 1 in
      let l : i ≤ length name = omega (arith, c.loop-i-test.true) in
      step name c.loop-i.units c.if-more-gt0.units _ c.loop-i.i c.loop-i.more c.if-more-gt0.more c.loop-i-test.true w.if-more-gt0.false (all_behind name i l) c.loop-i.invariant
      (w.more-is ∙ w.in_ok-more.ensures.read) (w.units-is ∙ w.in_ok-more.ensures.pushed)
]

pub returns : goal.returns
returns c = read_all c.loop-i.units c.args.name.now c.loop-i.i c.loop-i.more c.loop-i-test.false c.loop-i.invariant
