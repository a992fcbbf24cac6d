use Rattle.std.proofs.Common.{◌∙◌, ap, arith, suc, ℕ, []}
use Rattle.std.specs.Prelude.{flat_map}
use Rattle.std.specs.List.{range_with_len}
use Rattle.member_table.specs.Environments.{environment_in}
use Rattle.member_table.specs.Numbers.{all_noted, outside_in, references_in}
use Rattle.member_table.proofs.NoteLaws.{others_step}
use Rattle.member_table.proofs.outside.note_others.Goals as goal

pub loop-k-preserved : goal.loop-k-preserved
loop-k-preserved c = λ n e.
    others_step (outside_in (environment_in c.args.assemblies.now c.args.types.now) c.args.is_field) (references_in (environment_in c.args.assemblies.now c.args.types.now)) c.loop-k.k n c.loop-k.found c.in_ok-found.found
    (all_noted (outside_in (environment_in c.args.assemblies.now c.args.types.now) c.args.is_field) [] (flat_map (references_in (environment_in c.args.assemblies.now c.args.types.now)) (range_with_len 1 c.saturating_sub-others.result)))
    c.in_ok-found.ensures (c.loop-k.invariant (suc n) (omega (arith, e)))

pub returns : goal.returns
returns c =
    c.loop-k.invariant 0 (omega (arith, c.loop-k-test.false, c.loop-k.auto.k-end))
    ∙ ap (λ (n : ℕ). all_noted (outside_in (environment_in c.args.assemblies.now c.args.types.now) c.args.is_field) [] (flat_map (references_in (environment_in c.args.assemblies.now c.args.types.now)) (range_with_len 1 n))) c.saturating_sub-others.ensures
