use Rattle.std.proofs.Common.{Some, ◌∙◌, sym, ap, arith}
use Rattle.cil_base.specs.declared.refusal.Refusal.{Refusal}
use Rattle.heap_writer.proofs.LimitLaws.{first_long, first_none}
use Rattle.heap_writer.proofs.limits.first_limit.Goals as goal

pub returns-then-metadata_size : goal.returns-then-metadata_size
returns-then-metadata_size c tables e =
    ap (λ (r : Refusal). Some r) c.limit-then-metadata_size.ensures
    ∙ first_long c.args.heaps.now.bytes c.args.grown.now tables c.stream_count.result c.metadata_size.result (sym c.in_default.ensures) (c.stream_count.ensures tables) (omega arith) (c.metadata_size.ensures tables e) (omega arith)

pub returns : goal.returns
returns c tables e =
    first_none c.args.heaps.now.bytes c.args.grown.now tables c.stream_count.result c.metadata_size.result (sym c.in_default.ensures) (c.stream_count.ensures tables) (omega arith) (c.metadata_size.ensures tables e) (omega arith)
