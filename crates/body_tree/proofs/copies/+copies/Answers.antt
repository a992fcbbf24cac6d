use Rattle.std.proofs.Common.{◌∙◌, ap, subst, List, get_or}
use Rattle.cil_model.specs.declared.tree.Block.{Block}
use Rattle.cil_model.specs.declared.tree.Handler.{Handler}
use Rattle.body_tree.specs.Copies.{AddsCopies, AddsHandlers, IsCopy}
use Rattle.body_tree.proofs.CopyLaws.{copied_guarded, copies_more, handlers_more, one_handler}
use Rattle.body_tree.proofs.copies.+copies.Goals as goal

pub copy_of-returns-in_ok-put_handlers-in-Guarded : goal.copy_of-returns-in_ok-put_handlers-in-Guarded
copy_of-returns-in_ok-put_handlers-in-Guarded t c =
    copied_guarded c.args.exit c.args.block.now c.in-Guarded.inner c.as_slice-in-Guarded.result.now c.put_copies.new.out c.in-Guarded.handlers c.as_slice-in-Guarded-2.result.now c.put_handlers.new.out c.in-Guarded.is c.as_slice-in-Guarded.ensures c.as_slice-in-Guarded-2.ensures
    (subst (λ (l : List Block). AddsCopies c.args.exit l c.as_slice-in-Guarded.result.now c.put_copies.new.out) c.new-blocks.ensures c.in_ok-put_copies-in-Guarded.ensures)
    (subst (λ (l : List Handler). AddsHandlers c.args.exit l c.as_slice-in-Guarded-2.result.now c.put_handlers.new.out) c.new-own.ensures c.in_ok-put_handlers-in-Guarded.ensures)

pub put_copies-loop-block-preserved : goal.put_copies-loop-block-preserved
put_copies-loop-block-preserved t c =
    copies_more c.args.exit c.args.out.now c.args.blocks.now c.loop-block.out c.push.new.self c.loop-block.block-index c.block-item.result c.in_ok-copy_of.field-0 c.loop-block-test.true c.loop-block.invariant
    (subst (λ (b : Block). IsCopy c.args.exit b c.in_ok-copy_of.field-0) c.block-item.is c.in_ok-copy_of.ensures) c.in_ok-push.ensures.ok

pub put_handlers-loop-handler-preserved : goal.put_handlers-loop-handler-preserved
put_handlers-loop-handler-preserved t c =
    let h : Handler = get_or c.args.handlers.now c.loop-handler.handler-index c.handler-item.result in
    handlers_more c.args.exit c.args.out.now c.args.handlers.now c.loop-handler.out c.push.new.self c.loop-handler.handler-index c.handler-item.result (record { kind = c.same_kind.result; blocks = c.put_copies.new.out }) c.loop-handler-test.true c.loop-handler.invariant
    (one_handler c.args.exit h c.same_kind.result c.as_slice.result.now c.put_copies.new.out (c.same_kind.ensures ∙ ap (λ (x : Handler). x.kind) c.handler-item.is) (c.as_slice.ensures ∙ ap (λ (x : Handler). x.blocks) c.handler-item.is)
    (subst (λ (l : List Block). AddsCopies c.args.exit l c.as_slice.result.now c.put_copies.new.out) c.new-blocks.ensures c.in_ok-put_copies.ensures)) c.in_ok-push.ensures.ok
