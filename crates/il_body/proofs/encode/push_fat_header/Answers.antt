use Rattle.std.proofs.Common.{◌++◌}
use Rattle.std.specs.Int.{w16, w32, to_le_bytes}
use Rattle.cil_base.specs.Bytes.{number_bytes}
use Rattle.cil_base.proofs.Small.{on_ok}
use Rattle.il_body.proofs.PushLaws.{grown}
use Rattle.il_body.proofs.encode.push_fat_header.Goals as goal

pub returns : goal.returns
unfolding number_bytes
returns c =
    let a = c.args.out.now.items in
    let body = c.args.body.now in
    let x0 = to_le_bytes w16 c.flags_of.result in
    let x1 = to_le_bytes w16 body.max_stack in
    let x2 = to_le_bytes w32 c.args.size in
    let x3 = to_le_bytes w32 c.number_of_locals.result in
    let b1 = c.push_u16.new.out.items in
    let b2 = c.push_u16-2.new.out.items in
    let b3 = c.push_u32.new.out.items in
    let e2 = grown a b1 b2 x0 x1 c.in_ok-push_u16.ensures c.in_ok-push_u16-2.ensures in
    let e3 = grown a b2 b3 (x0 ++ x1) x2 e2 c.in_ok-push_u32.ensures in
    on_ok c.push_u32-2.result (λ e. rw (← c.flags_of.ensures, ← c.number_of_locals.ensures) (grown a b3 c.push_u32-2.new.out.items (x0 ++ (x1 ++ x2)) x3 e3 e)) c.push_u32-2.ensures
