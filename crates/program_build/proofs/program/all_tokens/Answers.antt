use Rattle.std.proofs.Common.{◌<◌, arith, length}
use Rattle.descriptions.specs.Programs.{assembly_tokens}
use Rattle.program_build.proofs.CutLaws.{file_at}
use Rattle.program_build.proofs.TokenLaws.{tokens_more}
use Rattle.program_build.proofs.KnownLaws.{known_at}
use Rattle.program_build.proofs.program.all_tokens.Goals as goal

pub loop-a-preserved : goal.loop-a-preserved
loop-a-preserved c = tokens_more (assembly_tokens c.args.tables.now) c.loop-a.a c.loop-a.tokens c.note_assembly.new.tokens c.in_ok-note_assembly.ensures c.loop-a.invariant

pub note_assembly-requires-clause-is : goal.note_assembly-requires-clause-is
note_assembly-requires-clause-is c =
    let short : c.loop-a.a < length c.args.tables.now = omega (arith, c.loop-a-test.true, c.requires.known.many) in
    file_at c.args.set.now c.args.tables.now c.loop-a.a c.index-set-a.result c.requires.same short c.index-set-a.is

pub note_assembly-requires-clause-known : goal.note_assembly-requires-clause-known
note_assembly-requires-clause-known c = known_at c.args.tables.now c.args.known.now c.loop-a.a c.index-known-a.result c.requires.known c.loop-a-test.true c.index-known-a.is
