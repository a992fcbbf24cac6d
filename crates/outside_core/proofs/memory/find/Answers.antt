use Rattle.std.proofs.Common.{◌≡◌, ◌<◌, length, arith, Some, sym, ap, ◌∙◌}
use Rattle.std.specs.Option.{option_map}
use Rattle.std.specs.Str.{bytes_eq}
use Rattle.outside_core.proofs.Entries.{found_now, found_before}
use Rattle.outside_core.proofs.memory.find.Goals as goal
use Rattle.outside_core.proofs.memory.find.Goals.{then-eq, else-eq}

pub loop-entry-preserved : goal.loop-entry-preserved
loop-entry-preserved c =
    let h : c.loop-entry.entry-index < length c.args.entries.now = omega arith in
    let e = c.entry-item.result in
    let test : bytes_eq e.name c.args.name.now ≡ c.eq.result = ap (λ n. bytes_eq n c.args.name.now) (sym c.as_slice.ensures) ∙ sym c.eq.ensures in
    elim c.if-eq.branch [
      | then-eq w ↦
          ap (option_map (λ x. x.now)) w.found-is
          ∙ ap Some w.as_slice-then-eq.ensures
          ∙ sym (found_now c.args.entries.now c.loop-entry.entry-index e c.args.name.now h c.entry-item.is (test ∙ w.if-eq.true))
      | else-eq w ↦
          ap (option_map (λ x. x.now)) w.found-is
          ∙ c.loop-entry.invariant
          ∙ sym (found_before c.args.entries.now c.loop-entry.entry-index e c.args.name.now h c.entry-item.is (test ∙ w.if-eq.false))
    ]
