use Rattle.std.proofs.Common.{◌≡◌, ◌⊎◌, subst}
use Rattle.std.specs.Prelude.{IfOk, OnOk}
use Rattle.cil_base.specs.Refusals.{OnRefused, OnMemory}
use Rattle.asm_gen.specs.Samples.{Sample, metadata_bytes, HoldsRows, PassesLimit, IsTooLong, WithinLimits}
use Rattle.asm_gen.proofs.FinishLaws.{held, stated, passed, within, within_first}
use Rattle.asm_gen.proofs.builder.Builder.metadata.Goals as goal

-- the builder as its contracts see it
view : goal.After-write → Sample
view c = record { tables = c.self.inside.tables; heaps = c.self.inside.heaps; code = c.self.inside.code.items; entry = c.self.inside.entry }

pub returns-clause-ok : goal.returns-clause-ok
unfolding view
returns-clause-ok c =
    subst (λ (k : Sample). IfOk c.write.result (HoldsRows k)) c.self.view_is
    (held (view c) c.blank_heaps.result c.write.result c.blank_heaps.ensures c.write.ensures.written c.write.ensures.entries c.write.ensures.cells c.write.ensures.header)

pub returns-clause-bytes : goal.returns-clause-bytes
unfolding view
returns-clause-bytes c =
    subst (λ (k : Sample). IfOk c.write.result (λ m. m ≡ metadata_bytes k)) c.self.view_is
    (stated (view c) c.blank_heaps.result c.write.result c.blank_heaps.ensures c.write.ensures.bytes)

pub returns-clause-refused : goal.returns-clause-refused
unfolding view
returns-clause-refused c =
    subst (λ (k : Sample). OnRefused c.write.result (λ f. PassesLimit k f ⊎ IsTooLong k f)) c.self.view_is
    (passed (view c) c.blank_heaps.result c.write.result c.blank_heaps.ensures c.write.ensures.refused)

pub returns-clause-within : goal.returns-clause-within
unfolding view
returns-clause-within c =
    subst (λ (k : Sample). OnOk c.write.result (WithinLimits k)) c.self.view_is
    (within (view c) c.blank_heaps.result c.write.result c.blank_heaps.ensures c.write.ensures.room c.write.ensures.limits c.write.ensures.short)

pub returns-clause-memory : goal.returns-clause-memory
unfolding view
returns-clause-memory c =
    subst (λ (k : Sample). OnMemory c.write.result (WithinLimits k)) c.self.view_is
    (within_first (view c) c.blank_heaps.result c.write.result c.blank_heaps.ensures c.write.ensures.memory)
