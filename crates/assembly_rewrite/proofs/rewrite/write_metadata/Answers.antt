use Rattle.std.proofs.Common.{◌≡◌, ◌⊎◌, sym, subst}
use Rattle.std.specs.Prelude.{IfOk, OnOk}
use Rattle.cil_base.specs.Refusals.{NoneBroken, OnRefused, OnMemory}
use Rattle.cil_base.proofs.Small.{if_ok}
use Rattle.pe_image.specs.Cli.{metadata_of}
use Rattle.cli_heaps.specs.Root as root
use Rattle.cli_heaps.specs.Root.{Metadata}
use Rattle.heap_writer.specs.Written.{IsWritten}
use Rattle.cli_tables.specs.Tables.{AreIn}
use Rattle.cli_tables.specs.TableRules.{HeaderBroken}
use Rattle.cli_tables.specs.Written.{AreOfOne}
use Rattle.assembly.specs.Assemblies.{AreWritable}
use Rattle.assembly_rewrite.specs.Rewrite.{no_growths, stream_of, metadata_with, IsLimit, AreTooLong, AreShort}
use Rattle.assembly_rewrite.proofs.RewriteLaws.{of_parts, is_new, streams_are, one_each}
use Rattle.assembly_rewrite.proofs.rewrite.write_metadata.Goals as goal

pub write_tables-requires : goal.write_tables-requires
write_tables-requires c =
    subst (λ (m : Metadata). AreWritable m.bytes c.tables.result.now) (sym c.heaps.ensures) c.tables.ensures.writable

pub returns-clause-ok : goal.returns-clause-ok
returns-clause-ok c =
    if_ok (λ new. IsWritten (metadata_of c.args.assembly.now.bytes) (no_growths (metadata_of c.args.assembly.now.bytes)) (root.tables new) new) _ c.write_tables.result (λ new w. w)
    (of_parts (λ m ts. IfOk c.write_tables.result (λ new. IsWritten m (no_growths m) (root.tables new) new)) c.args.assembly.now c.heaps.result.now c.tables.result.now c.heaps.ensures c.tables.ensures.value
    (if_ok _ (λ new. IsWritten c.heaps.result.now.bytes (no_growths c.heaps.result.now.bytes) (root.tables new) new) c.write_tables.result (λ new w. streams_are c.heaps.result.now.bytes (stream_of c.heaps.result.now.bytes c.tables.result.now) new w) c.write_tables.ensures.ok))

pub returns-clause-bytes : goal.returns-clause-bytes
returns-clause-bytes c =
    is_new c.args.assembly.now.bytes c.write_tables.result
    (of_parts (λ m ts. IfOk c.write_tables.result (λ new. new ≡ metadata_with m ts)) c.args.assembly.now c.heaps.result.now c.tables.result.now c.heaps.ensures c.tables.ensures.value c.write_tables.ensures.bytes)

pub returns-clause-rows : goal.returns-clause-rows
returns-clause-rows c =
    of_parts (λ m ts. IfOk c.write_tables.result (λ new. AreIn (root.tables new) ts)) c.args.assembly.now c.heaps.result.now c.tables.result.now c.heaps.ensures c.tables.ensures.value c.write_tables.ensures.rows

pub returns-clause-header : goal.returns-clause-header
returns-clause-header c =
    let each : AreOfOne c.tables.result.now = one_each (metadata_of c.args.assembly.now.bytes) c.tables.result.now c.args.assembly.now.assembly c.tables.ensures.cells c.tables.ensures.readable.1.1.0 in
    if_ok _ (λ new. NoneBroken (HeaderBroken new c.args.assembly.now.assembly)) c.write_tables.result
    (λ new h. subst (λ (m : Metadata). NoneBroken (HeaderBroken new m.assembly)) c.heaps.ensures (h each)) c.write_tables.ensures.header

pub returns-clause-within : goal.returns-clause-within
returns-clause-within c =
    of_parts (λ m ts. OnOk c.write_tables.result (AreShort m ts)) c.args.assembly.now c.heaps.result.now c.tables.result.now c.heaps.ensures c.tables.ensures.value c.write_tables.ensures.within

pub returns-clause-refused : goal.returns-clause-refused
returns-clause-refused c =
    of_parts (λ m ts. OnRefused c.write_tables.result (λ r. IsLimit m ts r ⊎ AreTooLong m ts r)) c.args.assembly.now c.heaps.result.now c.tables.result.now c.heaps.ensures c.tables.ensures.value c.write_tables.ensures.refused

pub returns-clause-memory : goal.returns-clause-memory
returns-clause-memory c =
    of_parts (λ m ts. OnMemory c.write_tables.result (AreShort m ts)) c.args.assembly.now c.heaps.result.now c.tables.result.now c.heaps.ensures c.tables.ensures.value c.write_tables.ensures.memory
