use Rattle.std.proofs.Common.{◌≡◌, ◌+◌, ◌∙◌, ap, arith, length, List}
use Rattle.std.proofs.lemmas.Result.{IfOk-weaker}
use Rattle.cil_model.specs.declared.tree.Block.{Block}
use Rattle.cil_model.specs.declared.tree.Handler.{Handler}
use Rattle.region_tree.specs.Trees.{code, handlers_code, handler_parts, part}
use Rattle.region_tree.proofs.PartLaws.{handlers_more}
use Rattle.body_tree.proofs.TableLaws.{guarded_size}
use Rattle.body_tree.proofs.size.+ends.Goals as goal

pub block_end-returns-in_ok-to-in-Guarded : goal.block_end-returns-in_ok-to-in-Guarded
block_end-returns-in_ok-to-in-Guarded t c =
    let size = guarded_size c.args.block.now c.in-Guarded.inner c.in-Guarded.handlers c.in-Guarded.is in
    let inner = ap (λ (bs : List Block). length (code bs)) c.as_slice.ensures in
    let behind = ap (λ (hs : List Handler). length (handlers_code (handler_parts hs))) c.as_slice-in-Guarded.ensures in
    IfOk-weaker c.handlers_end.result (λ end. end ≡ c.in_ok-to-in-Guarded.to + length (handlers_code (handler_parts c.as_slice-in-Guarded.result.now))) (λ end. end ≡ c.args.at + length (part c.args.block.now).code) (λ end e. omega (arith, size, inner, behind, c.in_ok-to-in-Guarded.ensures, e)) c.handlers_end.ensures

pub handlers_end-loop-handler-preserved : goal.handlers_end-loop-handler-preserved
handlers_end-loop-handler-preserved t c =
    let more = handlers_more c.args.handlers.now c.loop-handler.handler-index c.handler-item.result c.loop-handler-test.true in
    let same = ap (λ (bs : List Block). length (code bs)) c.as_slice.ensures ∙ ap (λ (h : Handler). length (code h.blocks)) c.handler-item.is in
    omega (arith, more, same, c.in_ok-end.ensures, c.loop-handler.invariant)
