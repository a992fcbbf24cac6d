use Rattle.std.proofs.Common.{ℕ, ◌+◌, ◌-◌, ◌^◌, min, ◌∙◌, sym, ap, arith}
use Rattle.cli_heaps.proofs.AcceptedLaws.{whole_root}
use Rattle.cli_heaps.proofs.StreamLaws.{begins}
use Rattle.heap_writer.specs.Written.{grown_known}
use Rattle.heap_writer.proofs.LimitLaws.{sizes_go_on, none_left}
use Rattle.heap_writer.proofs.limits.old_size.Goals as goal

pub first_header-at-requires : goal.first_header-at-requires
first_header-at-requires c = whole_root c.metadata-meta.result.now c.args.heaps.now.assembly (rw c.metadata-meta.ensures.bytes c.metadata-meta.ensures.accepted)

pub returns-in_default : goal.returns-in_default
returns-in_default c tables e =
    none_left c.metadata-meta.result.now c.args.heaps.now.bytes (grown_known c.args.heaps.now.bytes c.args.grown.now tables) c.loop-left.at c.loop-left.left c.loop-left.size _
    c.metadata-meta.ensures.bytes (sym c.header_at.ensures ∙ c.in_default.is) c.loop-left.invariant.small (c.loop-left.invariant.sum tables e)

pub loop-left-preserved : goal.loop-left-preserved
loop-left-preserved c = record {
  within = (begins c.metadata-meta.result.now c.loop-left.at c.loop-left.left c.in-Some.end c.in-Some.stream (omega arith) (sym c.in-Some.ensures)).within;
  small = omega (arith, c.saturating_add-size.ensures);
  sum = λ tables e.
      sizes_go_on c.metadata-meta.result.now c.args.heaps.now.bytes (grown_known c.args.heaps.now.bytes c.args.grown.now tables) c.loop-left.at c.loop-left.left c.in-Some.end c.loop-left.size c.new_size-body.result c.saturating_add-size.result c.in-Some.stream
      c.metadata-meta.ensures.bytes (omega arith) (sym c.in-Some.ensures) (c.new_size-body.ensures tables e)
      (c.saturating_add-size.ensures ∙ ap (λ (n : ℕ). min (n + c.new_size-body.result) (2 ^ 64 - 1)) (c.saturating_add.ensures ∙ ap (λ (n : ℕ). min (c.loop-left.size + (c.in-Some.end - c.loop-left.at + n)) (2 ^ 64 - 1)) c.padding.ensures))
      ∙ c.loop-left.invariant.sum tables e;
}
