use Rattle.std.proofs.Common.{◌≡◌, ◌+◌, drop, length}
use Rattle.region_tree.specs.Trees.{code, handler_parts, handlers_code}
use Rattle.body_tree.proofs.size.+ends.Given as goal

abbrev pub invariant-blocks_end-loop-block : goal.invariant-blocks_end-loop-block
invariant-blocks_end-loop-block l = l.end + length (code (drop l.block-index l.blocks)) ≡ l.fn.at + length (code l.blocks)

abbrev pub invariant-handlers_end-loop-handler : goal.invariant-handlers_end-loop-handler
invariant-handlers_end-loop-handler l =
    l.end + length (handlers_code (handler_parts (drop l.handler-index l.handlers))) ≡ l.fn.at + length (handlers_code (handler_parts l.handlers))
