use Rattle.std.proofs.Common.{◌≡◌, ℕ, List, Some, None, arith, sym, ap, ◌∙◌, get_or, refl}
use Rattle.cil_model.specs.BodyOf.{index_of}
use Rattle.il_code.proofs.MappedLaws.{put_none, put_one}
use Rattle.il_code.proofs.targets.put_cases.Goals as goal

pub returns-in_default : goal.returns-in_default
returns-in_default c =
    let inv = c.loop-k.invariant in
    let f = index_of c.args.offsets.now in
    let at : f (get_or c.loop-k.targets c.loop-k.k 0) ≡ None = ap (λ (l : List ℕ). f (get_or l c.loop-k.k 0)) (sym c.as_slice.ensures) ∙ sym c.in_default.ensures in
    let none = put_none f c.args.targets.now c.loop-k.targets c.loop-k.k 0 (omega arith) inv.1 inv.2 at in
    rw none refl

pub loop-k-preserved : goal.loop-k-preserved
loop-k-preserved c =
    let inv = c.loop-k.invariant in
    let f = index_of c.args.offsets.now in
    let at : f (get_or c.loop-k.targets c.loop-k.k 0) ≡ Some c.in-Some.index = ap (λ (l : List ℕ). f (get_or l c.loop-k.k 0)) (sym c.as_slice.ensures) ∙ sym c.in-Some.ensures in
    let one = put_one f c.args.targets.now c.loop-k.targets c.loop-k.k 0 c.in-Some.index (omega arith) inv.0 inv.1 inv.2 at in
    rw c.set.ensures one
