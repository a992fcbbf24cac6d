use Rattle.std.proofs.Common.{[]}
use Rattle.member_table.specs.Environments.{environment_in}
use Rattle.member_numbers.specs.Types.{types_in}
use Rattle.member_numbers.proofs.TypesLaws.{pushed_rows}
use Rattle.member_numbers.proofs.types.push_others.Goals as goal

pub loop-k-preserved : goal.loop-k-preserved
loop-k-preserved c =
    pushed_rows (types_in (environment_in c.args.assemblies.now [])) c.loop-k.k c.args.types.now.items c.loop-k.types.items c.push_assembly.new.types.items c.in_ok-push_assembly.ensures c.loop-k.invariant
