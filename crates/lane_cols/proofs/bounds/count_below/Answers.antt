use Rattle.std.proofs.Common.{◌≡◌, ℕ, leb, ap, ◌∙◌, arith, w32, take, drop, ◌+◌, ◌-◌}
use Rattle.std.specs.Int.RustNames.{count_ones}
use Rattle.std.specs.Prelude.{count_by}
use Rattle.std.proofs.lemmas.Simd.{bitmask_splat, ones-mask_l, length-chunk}
use Rattle.lane_cols.proofs.bounds.count_below.Goals as goal

pub returns : goal.returns
returns c =
    let xs = take 8 (drop c.args.at c.args.col.now) in
    ap count_ones (bitmask_splat w32 leb xs 8 c.args.bound (length-chunk c.args.at 8 c.args.col.now c.requires) (omega arith)) ∙ ones-mask_l (λ (x : ℕ). leb x c.args.bound) xs
    ∙ (let n : 8 ≡ c.args.at + 8 - c.args.at = omega arith in ap (λ (k : ℕ). count_by (λ x. leb x c.args.bound) (take k (drop c.args.at c.args.col.now))) n)
