use Rattle.std.proofs.Common.{◌≡◌, ◌∙◌, subst, arith}
use Rattle.std.specs.Prelude.{flat_map}
use Rattle.std.specs.List.{range_with_len}
use Rattle.member_table.specs.Environments.{environment_in}
use Rattle.member_table.specs.Numbers.{outside_in, references_in}
use Rattle.member_numbers.specs.Noted.{AreNoted}
use Rattle.member_numbers.proofs.NotedLaws.{assembly_noted}
use Rattle.member_numbers.proofs.noting.note_others.Goals as goal

pub loop-k-preserved : goal.loop-k-preserved
loop-k-preserved c =
    assembly_noted (outside_in (environment_in c.args.assemblies.now c.args.types.now) c.args.is_field) (references_in (environment_in c.args.assemblies.now c.args.types.now)) c.loop-k.k c.in_ok-noted.noted.outside c.in_ok-noted.noted.rows.items
    (c.in_ok-noted.ensures (flat_map (references_in (environment_in c.args.assemblies.now c.args.types.now)) (range_with_len 1 c.loop-k.k)) c.loop-k.invariant)

pub returns : goal.returns
returns c =
    let all : c.loop-k.k ≡ c.saturating_sub-others.result = omega (arith, c.loop-k-test.false, c.loop-k.auto.k-end) in
    subst (λ n. AreNoted (outside_in (environment_in c.args.assemblies.now c.args.types.now) c.args.is_field) (flat_map (references_in (environment_in c.args.assemblies.now c.args.types.now)) (range_with_len 1 n)) c.loop-k.noted.outside c.loop-k.noted.rows.items)
    (all ∙ c.saturating_sub-others.ensures) c.loop-k.invariant
