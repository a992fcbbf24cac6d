use Rattle.std.proofs.Common.{◌≡◌, ◌∙◌, List, ℕ, length, ap, arith}
use Rattle.pe_image.specs.Cli.{metadata_of}
use Rattle.pe_image.specs.Images.{File}
use Rattle.assembly.specs.Assemblies.{IsReadable}
use Rattle.assembly.proofs.ReadLaws.{short_metadata, readable, belong, unread_tables}
use Rattle.assembly.proofs.assembly.Assembly.read.Goals as goal

pub read-requires-2 : goal.read-requires-2
read-requires-2 c =
    let same : c.metadata.result.now ≡ metadata_of c.args.bytes.now = c.metadata.ensures ∙ ap (λ (i : File). metadata_of i.bytes) c.in-Ok.ensures.ok in
    omega (arith, ap (λ (l : List ℕ). length l) same, short_metadata c.args.bytes.now, c.requires)

pub returns-in-Err-read-2-clause-refused : goal.returns-in-Err-read-2-clause-refused
returns-in-Err-read-2-clause-refused c =
    unread_tables c.args.bytes.now c.metadata.result.now c.args.number c.in-Ok.image c.in-Ok-read.heaps c.in-Ok.ensures.ok c.metadata.ensures c.in-Ok-read.ensures.ok
    c.in-Err-read-2.fault c.in-Ok.ensures.accepted c.in-Ok-read.ensures.accepted c.in-Err-read-2.ensures.refused

pub invariant_of-result : goal.invariant_of-result
invariant_of-result c =
    let rules : IsReadable c.args.bytes.now c.args.number =
    readable c.args.bytes.now c.metadata.result.now c.args.number c.in-Ok.image c.in-Ok-read.heaps c.in-Ok.ensures.ok c.metadata.ensures c.in-Ok-read.ensures.ok
    c.in-Ok.ensures.accepted c.in-Ok-read.ensures.accepted c.in-Ok-read-2.ensures.header c.in-Ok-read-2.ensures.accepted in
    belong c.args.bytes.now c.metadata.result.now c.args.number c.in-Ok.image c.in-Ok-read.heaps c.in-Ok.ensures.ok c.metadata.ensures c.in-Ok-read.ensures.ok
    c.in-Ok-read-2.tables c.in-Ok-read-2.ensures.cells c.in-Ok-read-2.ensures.exact c.in-Ok-read-2.ensures.writable rules

pub returns-clause-accepted : goal.returns-clause-accepted
returns-clause-accepted c =
    readable c.args.bytes.now c.metadata.result.now c.args.number c.in-Ok.image c.in-Ok-read.heaps c.in-Ok.ensures.ok c.metadata.ensures c.in-Ok-read.ensures.ok
    c.in-Ok.ensures.accepted c.in-Ok-read.ensures.accepted c.in-Ok-read-2.ensures.header c.in-Ok-read-2.ensures.accepted
