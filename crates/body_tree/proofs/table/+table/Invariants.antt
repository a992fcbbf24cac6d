use Rattle.std.proofs.Common.{◌≡◌, ◌++◌, ◌+◌, drop, length}
use Rattle.region_tree.specs.Trees.{clauses, code, handler_parts, handlers_clauses, handlers_code, own_clauses}
use Rattle.body_tree.proofs.table.+table.Given as goal

abbrev pub invariant-put_blocks-loop-block : goal.invariant-put_blocks-loop-block
invariant-put_blocks-loop-block l = record {
  end : l.end + length (code (drop l.block-index l.blocks)) ≡ l.fn.at + length (code l.blocks);
  table : l.table ++ clauses l.end (drop l.block-index l.blocks) ≡ l.fn.table ++ clauses l.fn.at l.blocks;
}

abbrev pub invariant-put_handlers-loop-handler : goal.invariant-put_handlers-loop-handler
invariant-put_handlers-loop-handler l = record {
  end : l.end + length (handlers_code (handler_parts (drop l.handler-index l.handlers))) ≡ l.fn.to + length (handlers_code (handler_parts l.handlers));
  table : l.table ++ handlers_clauses l.end (handler_parts (drop l.handler-index l.handlers)) ≡ l.fn.table ++ handlers_clauses l.fn.to (handler_parts l.handlers);
  own : l.own ++ own_clauses l.fn.from l.fn.to l.end (handler_parts (drop l.handler-index l.handlers)) ≡ l.fn.own ++ own_clauses l.fn.from l.fn.to l.fn.to (handler_parts l.handlers);
}
