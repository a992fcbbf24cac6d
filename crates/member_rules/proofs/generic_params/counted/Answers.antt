use Rattle.std.proofs.Common.{◌≡◌, ◌∙◌, ap, arith, ◌+◌, ◌==◌, ℕ, suc, Bool}
use Rattle.std.specs.Prelude.{if◌then◌else◌}
use Rattle.cil_base.specs.declared.tables.TheConstants.{GENERIC_PARAM}
use Rattle.set_rows.specs.Sets.{cell}
use Rattle.set_program.specs.Kinds.{generics}
use Rattle.member_rules.proofs.GenericLaws.{counts_on, no_more}
use Rattle.member_rules.proofs.generic_params.counted.Goals as goal

pub loop-k-preserved : goal.loop-k-preserved
loop-k-preserved c =
    let k : ℕ = c.loop-k.k in
    let count : ℕ = c.loop-k.count in
    let p : ℕ → Bool = λ g. cell c.args.rows.now GENERIC_PARAM g 2 == c.args.owner in
    let more : c.one_more-count.result ≡ (if p (k + 1) then count + 1 else count) = c.one_more-count.ensures ∙ ap (λ (v : ℕ). if v == c.args.owner then count + 1 else count) c.cell.ensures in (
      (λ n e. counts_on p k n count c.one_more-count.result (generics c.args.rows.now c.args.owner) more (c.loop-k.invariant.0 (suc n) (omega (arith, e)))),
      no_more (p (k + 1)) k count c.one_more-count.result more c.loop-k.invariant.1,
    )

pub returns : goal.returns
returns c =
    let all = c.loop-k.invariant.0 0 (omega (arith, c.loop-k-test.false, c.loop-k.auto.k-end)) in
    omega (arith, all)
