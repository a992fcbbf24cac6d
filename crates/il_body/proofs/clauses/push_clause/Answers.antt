use Rattle.std.proofs.Common.{◌++◌}
use Rattle.std.specs.Int.{w32, to_le_bytes}
use Rattle.cil_base.specs.Bytes.{number_bytes}
use Rattle.cil_base.proofs.Small.{on_ok}
use Rattle.il_body.proofs.PushLaws.{grown}
use Rattle.il_body.proofs.clauses.push_clause.Goals as goal

pub returns : goal.returns
unfolding number_bytes
returns c =
    let a = c.args.out.now.items in
    let x0 = to_le_bytes w32 c.args.clause.flags in
    let x1 = to_le_bytes w32 c.args.clause.try_from in
    let x2 = to_le_bytes w32 c.args.clause.try_size in
    let x3 = to_le_bytes w32 c.args.clause.handler_from in
    let x4 = to_le_bytes w32 c.args.clause.handler_size in
    let x5 = to_le_bytes w32 c.args.clause.last in
    let b1 = c.push_u32.new.out.items in
    let b2 = c.push_u32-2.new.out.items in
    let b3 = c.push_u32-3.new.out.items in
    let b4 = c.push_u32-4.new.out.items in
    let b5 = c.push_u32-5.new.out.items in
    let e2 = grown a b1 b2 x0 x1 c.in_ok-push_u32.ensures c.in_ok-push_u32-2.ensures in
    let e3 = grown a b2 b3 (x0 ++ x1) x2 e2 c.in_ok-push_u32-3.ensures in
    let e4 = grown a b3 b4 (x0 ++ (x1 ++ x2)) x3 e3 c.in_ok-push_u32-4.ensures in
    let e5 = grown a b4 b5 (x0 ++ (x1 ++ (x2 ++ x3))) x4 e4 c.in_ok-push_u32-5.ensures in
    on_ok c.push_u32-6.result (λ e. grown a b5 c.push_u32-6.new.out.items (x0 ++ (x1 ++ (x2 ++ (x3 ++ x4)))) x5 e5 e) c.push_u32-6.ensures
