use Rattle.std.proofs.Common.{◌<◌, ◌+◌, arith, length}
use Rattle.cil_base.specs.declared.tables.TheConstants.{TYPE_DEF}
use Rattle.descriptions.specs.Descriptions.{type_row}
use Rattle.program_build.proofs.OrderLaws.{pushed_assembly}
use Rattle.program_build.proofs.KnownLaws.{known_at}
use Rattle.program_build.proofs.types.push_others.Goals as goal

pub loop-k-preserved : goal.loop-k-preserved
loop-k-preserved c =
    pushed_assembly c.args.tables.now TYPE_DEF (type_row c.args.tables.now) c.loop-k.k c.count-count.result c.rows_at.result.now c.args.out.now c.loop-k.out c.push_types.new.out
    c.count-count.ensures c.rows_at.ensures c.in_ok-push_types.ensures c.loop-k.invariant

pub push_types-requires-clause-known : goal.push_types-requires-clause-known
push_types-requires-clause-known c =
    let short : c.loop-k.k + 1 < length c.args.known.now = omega (arith, c.loop-k-test.true, c.saturating_sub-others.ensures) in
    known_at c.args.tables.now c.args.known.now (c.loop-k.k + 1) c.index-known-k.result c.requires.known short c.index-known-k.is
