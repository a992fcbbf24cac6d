use Rattle.std.proofs.Common.{ℕ, List, subst, ◌∙◌, ◌<◌, ◌^◌, length, sym, ap, inl, arith}
use Rattle.cil_base.specs.Refusals.{NoneBroken}
use Rattle.cli_tables.specs.TableRules.{HeaderBroken}
use Rattle.cli_tables.proofs.HeaderLaws.{refused_header, sound_header}
use Rattle.cli_tables.proofs.ShapeLaws.{read_cells, read_shape, sound_rows, refused_rows}
use Rattle.cli_tables.specs.Tables.{AreIn}
use Rattle.cli_tables.proofs.WidthLaws.{read_fits}
use Rattle.cli_tables.proofs.tables.Tables.read.Goals as goal

pub returns-in-Some-clause-refused : goal.returns-in-Some-clause-refused
returns-in-Some-clause-refused c =
    inl (refused_header c.args.heaps.now.bytes c.tables-stream.result.now c.tables_offset.result c.args.assembly c.in-Some.refusal c.tables-stream.ensures.bytes c.tables_offset.ensures.offset (sym c.first_in_header.ensures ∙ c.in-Some.is))

short : (c : goal.In-Ok) → length c.tables-stream.result.now < 2 ^ 32
short c = omega (arith, ap length c.tables-stream.ensures.bytes, c.tables_offset.ensures.within, c.metadata-short.ensures.short)

no_header : (c : goal.In-Ok) → NoneBroken (HeaderBroken c.args.heaps.now.bytes c.args.assembly)
no_header c = sound_header c.args.heaps.now.bytes c.tables-stream.result.now c.tables_offset.result c.args.assembly c.tables-stream.ensures.bytes c.tables_offset.ensures.offset (sym c.first_in_header.ensures ∙ c.in_default.is)

pub invariant_of-result : goal.invariant_of-result
invariant_of-result c = read_shape c.args.heaps.now.bytes c.tables-stream.result.now c.args.assembly c.in-Ok.tables.items c.in-Ok.ensures.clean (short c) c.rows_start_of-whole.ensures.bytes c.in-Ok.ensures.ok

pub returns-in-Ok-clause-cells : goal.returns-in-Ok-clause-cells
returns-in-Ok-clause-cells c = read_cells c.args.heaps.now.bytes c.tables-stream.result.now c.args.assembly c.in-Ok.tables.items c.tables-stream.ensures.bytes (no_header c) c.in-Ok.ensures.ok

pub returns-in-Ok-clause-shaped : goal.returns-in-Ok-clause-shaped
returns-in-Ok-clause-shaped c = read_shape c.args.heaps.now.bytes c.tables-stream.result.now c.args.assembly c.in-Ok.tables.items c.in-Ok.ensures.clean (short c) c.rows_start_of-whole.ensures.bytes c.in-Ok.ensures.ok

pub returns-in-Ok-clause-header : goal.returns-in-Ok-clause-header
returns-in-Ok-clause-header c = no_header c

pub returns-in-Ok-clause-accepted : goal.returns-in-Ok-clause-accepted
returns-in-Ok-clause-accepted c = sound_rows c.args.heaps.now.bytes c.tables-stream.result.now c.args.assembly c.tables-stream.ensures.bytes c.in-Ok.ensures.clean

pub returns-in-Err-clause-refused : goal.returns-in-Err-clause-refused
returns-in-Err-clause-refused c =
    refused_rows c.args.heaps.now.bytes c.tables-stream.result.now c.args.assembly c.in-Err.fault c.tables-stream.ensures.bytes
    (sound_header c.args.heaps.now.bytes c.tables-stream.result.now c.tables_offset.result c.args.assembly c.tables-stream.ensures.bytes c.tables_offset.ensures.offset (sym c.first_in_header.ensures ∙ c.in_default.is))
    c.in-Err.ensures.refused

pub returns-in-Ok-clause-writable : goal.returns-in-Ok-clause-writable
returns-in-Ok-clause-writable c grown =
    read_fits c.args.heaps.now.bytes c.tables-stream.result.now c.args.assembly grown c.in-Ok.tables.items c.in-Ok.ensures.clean c.rows_start_of-whole.ensures.bytes c.in-Ok.ensures.ok
    (subst (λ (l : List ℕ). AreIn l c.in-Ok.tables.items) (sym c.tables-stream.ensures.bytes) (returns-in-Ok-clause-cells c))
