use Rattle.std.proofs.Common.{◌≡◌, ℕ, ◌+◌, ◌<◌, ◌≤◌, arith, length, [], ◌∷◌, drop, Ok, sym, ap, ◌∙◌, length-append, List}
use Rattle.std.proofs.lemmas.List.{length-drop, drop-drop}
use Rattle.il_code.specs.Answers.{reader_of}
use Rattle.il_code.proofs.ReadLaws.{read_more, below_more, rise_more}
use Rattle.il_code.proofs.code.read_code.Goals as goal

pub loop-at-preserved : goal.loop-at-preserved
loop-at-preserved c =
    let code = c.args.code.now in
    let a = c.args.place.assembly in
    let at = c.loop-at.at in
    let i = c.in-Ok.i in
    let n = c.in-Ok.n in
    let inv = c.loop-at.invariant in
    let rest = drop at code in
    let read = reader_of c.args.form a in
    let first : read at rest ≡ Ok (i, n) = ap (read at) (sym c.bytes_from.ensures) ∙ c.in-Ok.ensures.value in
    let within : (0 < n) × (n ≤ length c.bytes_from.result.now) = c.in-Ok.ensures.within in
    let size : length c.bytes_from.result.now ≡ length rest = ap (λ (l : List ℕ). length l) c.bytes_from.ensures in
    let more = read_more read 0 code c.loop-at.instrs.items c.loop-at.offsets at rest i n inv.read first in
    record {
      inside = omega (arith, length-drop at code);
      read = rw (c.in_ok-push-in-Ok.ensures.ok, c.in_ok-push-in-Ok-2.ensures) (rw (← drop-drop n at code) more);
      rise = rw c.in_ok-push-in-Ok.ensures.ok (rise_more c.loop-at.offsets at inv.rise inv.below);
      below = rw c.in_ok-push-in-Ok.ensures.ok (below_more c.loop-at.offsets at (at + n) inv.below (omega arith));
      few = rw c.in_ok-push-in-Ok.ensures.ok (omega (arith, length-append c.loop-at.offsets (at ∷ [])));
      each = rw (c.in_ok-push-in-Ok.ensures.ok, c.in_ok-push-in-Ok-2.ensures) (omega (arith, length-append c.loop-at.offsets (at ∷ []), length-append c.loop-at.instrs.items (i ∷ []), inv.each));
    }
