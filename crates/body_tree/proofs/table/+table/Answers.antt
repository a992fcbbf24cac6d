use Rattle.std.proofs.Common.{◌≡◌, ◌+◌, ◌++◌, ◌∙◌, ℕ, ap, arith, length, List, [], ◌∷◌, get_or}
use Rattle.cil_model.specs.declared.body.Region.{Region}
use Rattle.cil_model.specs.declared.body.RegionKind.{RegionKind}
use Rattle.cil_model.specs.declared.tree.Block.{Block}
use Rattle.cil_model.specs.declared.tree.Handler.{Handler}
use Rattle.region_tree.specs.Trees.{clauses, code, handlers_code, handler_parts, own_clauses}
use Rattle.region_tree.proofs.PartLaws.{handlers_more}
use Rattle.body_tree.proofs.TableLaws.{guarded_size, guarded_clauses, table_more, own_more}
use Rattle.body_tree.proofs.table.+table.Goals as goal

pub put_block-returns-in_ok-append-in-Guarded-clause-end : goal.put_block-returns-in_ok-append-in-Guarded-clause-end
put_block-returns-in_ok-append-in-Guarded-clause-end t c =
    let size = guarded_size c.args.block.now c.in-Guarded.inner c.in-Guarded.handlers c.in-Guarded.is in
    let inner = ap (λ (bs : List Block). length (code bs)) c.as_slice.ensures in
    let behind = ap (λ (hs : List Handler). length (handlers_code (handler_parts hs))) c.as_slice-in-Guarded.ensures in
    omega (arith, size, inner, behind, c.in_ok-to-in-Guarded.ensures.end, c.in_ok-end-in-Guarded.ensures.end)

pub put_block-returns-in_ok-append-in-Guarded-clause-clauses : goal.put_block-returns-in_ok-append-in-Guarded-clause-clauses
put_block-returns-in_ok-append-in-Guarded-clause-clauses t c =
    guarded_clauses c.args.block.now c.in-Guarded.inner c.as_slice.result.now c.in-Guarded.handlers c.as_slice-in-Guarded.result.now c.args.at c.in_ok-to-in-Guarded.to c.args.table.now c.put_blocks.new.table c.put_handlers.new.table c.put_handlers.new.own c.append.new.self c.in-Guarded.is c.as_slice.ensures c.as_slice-in-Guarded.ensures c.in_ok-to-in-Guarded.ensures.end c.in_ok-to-in-Guarded.ensures.clauses c.in_ok-end-in-Guarded.ensures.clauses (c.in_ok-end-in-Guarded.ensures.own ∙ ap (λ (l : List Region). l ++ own_clauses c.args.at c.in_ok-to-in-Guarded.to c.in_ok-to-in-Guarded.to (handler_parts c.as_slice-in-Guarded.result.now)) c.new-own.ensures) c.in_ok-append-in-Guarded.ensures

pub put_handlers-loop-handler-preserved : goal.put_handlers-loop-handler-preserved
put_handlers-loop-handler-preserved t c =
    let hs : List Handler = c.args.handlers.now in
    let k : ℕ = c.loop-handler.handler-index in
    let d : Handler = c.handler-item.result in
    let blocks : c.as_slice.result.now ≡ (get_or hs k d).blocks = c.as_slice.ensures ∙ ap (λ (h : Handler). h.blocks) c.handler-item.is in
    let ends : c.in_ok-end.end ≡ c.loop-handler.end + length (code (get_or hs k d).blocks) = c.in_ok-end.ensures.end ∙ ap (λ (bs : List Block). c.loop-handler.end + length (code bs)) blocks in
    let more = handlers_more hs k d c.loop-handler-test.true in
    record {
      end = omega (arith, more, ends, c.loop-handler.invariant.end);
      table = table_more hs k d c.loop-handler.end c.in_ok-end.end c.loop-handler.table c.put_blocks.new.table _ c.loop-handler-test.true ends (c.in_ok-end.ensures.clauses ∙ ap (λ (bs : List Block). c.loop-handler.table ++ clauses c.loop-handler.end bs) blocks) c.loop-handler.invariant.table;
      own = own_more hs k d c.args.from c.args.to c.loop-handler.end c.in_ok-end.end c.loop-handler.own c.push.new.self _ c.loop-handler-test.true ends (c.in_ok-push.ensures.ok ∙ ap (λ (k : RegionKind). c.loop-handler.own ++ record { kind = k; try_from = c.args.from; try_to = c.args.to; handler_from = c.loop-handler.end; handler_to = c.in_ok-end.end } ∷ []) (c.same_kind.ensures ∙ ap (λ (h : Handler). h.kind) c.handler-item.is)) c.loop-handler.invariant.own;
    }
