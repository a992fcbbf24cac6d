use Rattle.std.proofs.Common.{◌∙◌, ℕ, List, sym, subst, inr, arith}
use Rattle.cil_base.proofs.RefusalLaws.{OnRefused-weaker}
use Rattle.heap_writer.proofs.LimitLaws.{limit_passed, within_limits}
use Rattle.cli_tables.specs.Written.{Holds, stream_in}
use Rattle.cli_tables.specs.Tables.{IsShaped}
use Rattle.cli_tables.proofs.WrittenLaws.{fit_of, bytes_kept, header_kept, limits_kept, short_kept, refused_kept, memory_only, size_written}
use Rattle.cli_tables.proofs.tables.Tables.write.Goals as goal

pub write_metadata-requires-clause-whole : goal.write_metadata-requires-clause-whole
write_metadata-requires-clause-whole c =
    let h = subst (λ (l : List ℕ). Holds c.tables-old.result.now c.written_sizes-sizes.result c.as_slice-tables.result.now l) (sym c.deref.ensures.value) c.in_ok-stream.ensures.holds in
    omega (arith, h.header, h.bits)

pub returns-clause-header : goal.returns-clause-header
returns-clause-header c =
    header_kept c.write_metadata.result c.args.heaps.now.bytes c.tables-old.result.now c.args.grown.now c.written_sizes-sizes.result c.args.self.now c.as_slice-tables.result.now c.deref.result.now
    c.tables-old.ensures.bytes c.written_sizes-sizes.ensures (c.as_slice-tables.ensures.value ∙ c.self.view_is) (c.deref.ensures.value ∙ c.in_ok-stream.ensures.bytes)
    c.write_metadata.ensures.ok
    (subst (λ (l : List ℕ). Holds c.tables-old.result.now c.written_sizes-sizes.result c.as_slice-tables.result.now l) (sym c.deref.ensures.value) c.in_ok-stream.ensures.holds)

pub returns-clause-limits : goal.returns-clause-limits
returns-clause-limits c =
    limits_kept c.write_metadata.result c.args.heaps.now.bytes c.tables-old.result.now c.args.grown.now c.written_sizes-sizes.result c.args.self.now c.as_slice-tables.result.now c.deref.result.now
    c.tables-old.ensures.bytes c.written_sizes-sizes.ensures (c.as_slice-tables.ensures.value ∙ c.self.view_is) (c.deref.ensures.value ∙ c.in_ok-stream.ensures.bytes)
    c.write_metadata.ensures.within

pub returns-clause-refused : goal.returns-clause-refused
returns-clause-refused c =
    refused_kept c.write_metadata.result c.args.heaps.now.bytes c.tables-old.result.now c.args.grown.now c.written_sizes-sizes.result c.args.self.now c.as_slice-tables.result.now c.deref.result.now
    c.tables-old.ensures.bytes c.written_sizes-sizes.ensures (c.as_slice-tables.ensures.value ∙ c.self.view_is) (c.deref.ensures.value ∙ c.in_ok-stream.ensures.bytes)
    c.write_metadata.ensures.refused

pub write_stream-requires-clause-fit : goal.write_stream-requires-clause-fit
write_stream-requires-clause-fit c =
    fit_of c.args.heaps.now.bytes c.args.grown.now c.args.self.now c.as_slice-tables.result.now c.written_sizes-sizes.result (subst IsShaped c.self.view_is c.self.invariant) c.requires.fit c.written_sizes-sizes.ensures
    (c.as_slice-tables.ensures.value ∙ c.self.view_is)

pub returns-clause-bytes : goal.returns-clause-bytes
returns-clause-bytes c =
    bytes_kept c.write_metadata.result c.args.heaps.now.bytes c.tables-old.result.now c.args.grown.now c.written_sizes-sizes.result c.args.self.now c.as_slice-tables.result.now c.deref.result.now
    c.tables-old.ensures.bytes c.written_sizes-sizes.ensures (c.as_slice-tables.ensures.value ∙ c.self.view_is) (c.deref.ensures.value ∙ c.in_ok-stream.ensures.bytes)
    c.write_metadata.ensures.bytes

pub returns-clause-short : goal.returns-clause-short
returns-clause-short c =
    short_kept c.write_metadata.result c.args.heaps.now.bytes c.tables-old.result.now c.args.grown.now c.written_sizes-sizes.result c.args.self.now c.as_slice-tables.result.now c.deref.result.now
    c.tables-old.ensures.bytes c.written_sizes-sizes.ensures (c.as_slice-tables.ensures.value ∙ c.self.view_is) (c.deref.ensures.value ∙ c.in_ok-stream.ensures.bytes)
    c.write_metadata.ensures.short

pub returns-in-Some-first_limit-clause-refused : goal.returns-in-Some-first_limit-clause-refused
returns-in-Some-first_limit-clause-refused c =
    inr (limit_passed c.args.heaps.now.bytes c.args.grown.now (stream_in c.args.heaps.now.bytes c.args.grown.now c.args.self.now) c.in-Some-first_limit.refusal
    (c.in-Some-first_limit.ensures (stream_in c.args.heaps.now.bytes c.args.grown.now c.args.self.now)
    (size_written c.args.heaps.now.bytes c.tables-old.result.now c.args.grown.now c.args.self.now c.written_sizes-sizes.result c.stream_size.result
    c.tables-old.ensures.bytes (omega (arith, c.tables-old.ensures.whole)) (subst IsShaped c.self.view_is c.self.invariant) c.requires.fit c.written_sizes-sizes.ensures c.stream_size.ensures)))

pub returns-in_err-stream-clause-memory : goal.returns-in_err-stream-clause-memory
returns-in_err-stream-clause-memory c =
    memory_only c.from_residual.result (
      c.in_default.ensures,
      within_limits c.args.heaps.now.bytes c.args.grown.now (stream_in c.args.heaps.now.bytes c.args.grown.now c.args.self.now)
          (c.in_default-first_limit.ensures (stream_in c.args.heaps.now.bytes c.args.grown.now c.args.self.now)
          (size_written c.args.heaps.now.bytes c.tables-old.result.now c.args.grown.now c.args.self.now c.written_sizes-sizes.result c.stream_size.result
          c.tables-old.ensures.bytes (omega (arith, c.tables-old.ensures.whole)) (subst IsShaped c.self.view_is c.self.invariant) c.requires.fit c.written_sizes-sizes.ensures c.stream_size.ensures)),
    )

pub returns-in-Some-first_limit-clause-full : goal.returns-in-Some-first_limit-clause-full
returns-in-Some-first_limit-clause-full c = inr c.in_default.ensures

pub returns-clause-full : goal.returns-clause-full
returns-clause-full c = OnRefused-weaker c.write_metadata.result _ _ (λ r x. inr c.in_default.ensures) c.write_metadata.ensures.refused
