use Rattle.std.proofs.Common.{arith}
use Rattle.il_body.specs.BodyEncoding.{clause_of}
use Rattle.il_body.proofs.PushLaws.{behind}
use Rattle.il_body.proofs.clauses.push_sections.Goals as goal

pub returns : goal.returns
returns c =
    let size = c.len.ensures in
    let pad = c.padding.ensures in
    behind c.push_each.result (clause_of c.args.offsets.now) c.args.out.now.items c.push_zeros.new.out.items c.push_each.new.out.items c.args.regions.now c.padding.result c.if-is_empty.ensures (omega arith) c.in_ok-push_zeros.ensures c.push_each.ensures
