use Rattle.std.proofs.Common.{◌∙◌, ap, arith, suc, ℕ, map}
use Rattle.std.specs.List.{range_with_len}
use Rattle.member_table.specs.Environments.{environment_in}
use Rattle.member_table.specs.Numbers.{all_noted, outside_in}
use Rattle.member_table.proofs.NoteLaws.{noted_step}
use Rattle.member_table.proofs.outside.note_assembly.Goals as goal

pub loop-k-preserved : goal.loop-k-preserved
loop-k-preserved c = λ n e.
    noted_step (outside_in (environment_in c.args.assemblies.now c.args.types.now) c.args.is_field) c.args.a c.loop-k.k n c.loop-k.found c.in_ok-found.found
    (all_noted (outside_in (environment_in c.args.assemblies.now c.args.types.now) c.args.is_field) c.args.start (map (λ row. (c.args.a, row)) (range_with_len 1 c.reference_count-count.result)))
    c.in_ok-found.ensures (c.loop-k.invariant (suc n) (omega (arith, e)))

pub returns : goal.returns
returns c =
    c.loop-k.invariant 0 (omega (arith, c.loop-k-test.false, c.loop-k.auto.k-end))
    ∙ ap (λ (n : ℕ). all_noted (outside_in (environment_in c.args.assemblies.now c.args.types.now) c.args.is_field) c.args.start (map (λ row. (c.args.a, row)) (range_with_len 1 n))) c.reference_count-count.ensures
