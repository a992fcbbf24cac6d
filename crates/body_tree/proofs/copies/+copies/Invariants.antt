use Rattle.std.proofs.Common.{take}
use Rattle.body_tree.specs.Copies.{AddsCopies, AddsHandlers}
use Rattle.body_tree.proofs.copies.+copies.Given as goal

abbrev pub invariant-put_copies-loop-block : goal.invariant-put_copies-loop-block
invariant-put_copies-loop-block l = AddsCopies l.exit l.fn.out (take l.block-index l.blocks) l.out

abbrev pub invariant-put_handlers-loop-handler : goal.invariant-put_handlers-loop-handler
invariant-put_handlers-loop-handler l = AddsHandlers l.exit l.fn.out (take l.handler-index l.handlers) l.out
