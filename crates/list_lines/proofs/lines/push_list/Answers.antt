use Rattle.list_lines.specs.Lists.{type_text, text_at}
use Rattle.list_lines.proofs.TextLaws.{next_text}
use Rattle.list_lines.proofs.lines.push_list.Goals as goal

pub loop-t-preserved : goal.loop-t-preserved
loop-t-preserved c =
    next_text (type_text (text_at c.args.contracts.now) c.args.program.now.methods) c.args.out.now c.loop-t.out c.push_type.new.out c.as_slice-types.result.now c.loop-t.t-index c.t-item.result c.t-item.is c.loop-t-test.true c.loop-t.invariant c.in_ok-push_type.ensures
