use Rattle.std.proofs.Common.{◌≡◌, ℕ, ◌≤◌, ◌^◌, length, subst}
use Rattle.std.specs.Prelude.{IfOk, OnOk}
use Rattle.std.proofs.lemmas.Result.{IfOk-weaker}
use Rattle.cil_base.specs.Refusals.{NoneBroken, Fails, OnRefused, OnMemory}
use Rattle.heap_writer.specs.Growth.{HeapGrowths}
use Rattle.heap_writer.specs.Written.{parts, written_root, limit_tests}
use Rattle.cli_tables.specs.TableRules.{HeaderBroken}
use Rattle.cli_tables.specs.Written.{stream_in, AreOfOne, IsRefused, FitsLimits}
use Rattle.assembly_rewrite.proofs.RewriteLaws.{within, short_only, write_refused}
use Rattle.assembly_rewrite.proofs.rewrite.write_tables.Goals as goal

pub returns-clause-bytes : goal.returns-clause-bytes
returns-clause-bytes c =
    subst (λ (g : HeapGrowths). IfOk c.write.result (λ new. new ≡ written_root c.args.heaps.now.bytes (parts c.args.heaps.now.bytes g (stream_in c.args.heaps.now.bytes g c.args.tables.now)))) c.in_ok-grown.ensures.empty c.write.ensures.bytes

pub returns-clause-header : goal.returns-clause-header
returns-clause-header c =
    IfOk-weaker c.write.result (λ new. AreOfOne c.args.tables.now → (assembly : ℕ) → NoneBroken (HeaderBroken new assembly)) (λ new. AreOfOne c.args.tables.now → NoneBroken (HeaderBroken new c.args.heaps.now.assembly))
    (λ new h one. h one c.args.heaps.now.assembly) c.write.ensures.header

pub returns-clause-within : goal.returns-clause-within
returns-clause-within c =
    within c.write.result c.args.heaps.now.bytes c.args.tables.now c.write.ensures.room
    (subst (λ (g : HeapGrowths). OnOk c.write.result (NoneBroken (Fails (limit_tests c.args.heaps.now.bytes g (stream_in c.args.heaps.now.bytes g c.args.tables.now))))) c.in_ok-grown.ensures.empty c.write.ensures.limits)
    (subst (λ (g : HeapGrowths). OnOk c.write.result (length (written_root c.args.heaps.now.bytes (parts c.args.heaps.now.bytes g (stream_in c.args.heaps.now.bytes g c.args.tables.now))) ≤ 2 ^ 27)) c.in_ok-grown.ensures.empty c.write.ensures.short)

pub returns-clause-memory : goal.returns-clause-memory
returns-clause-memory c =
    short_only c.write.result c.args.heaps.now.bytes c.args.tables.now
    (subst (λ (g : HeapGrowths). OnMemory c.write.result (FitsLimits c.args.heaps.now.bytes g c.args.tables.now)) c.in_ok-grown.ensures.empty c.write.ensures.memory)

pub returns-clause-refused : goal.returns-clause-refused
returns-clause-refused c =
    write_refused c.write.result c.args.heaps.now.bytes c.args.tables.now
    (subst (λ (g : HeapGrowths). OnRefused c.write.result (IsRefused c.args.heaps.now.bytes g c.args.tables.now)) c.in_ok-grown.ensures.empty c.write.ensures.refused) c.write.ensures.full
