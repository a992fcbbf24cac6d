use Rattle.command_line.specs.Options.{texts}
use Rattle.program.specs.Reading.{reading}
use Rattle.program.proofs.AnswerLaws.{answer_expected, expected_memory, put_expected}
use Rattle.program.proofs.program.run_words.Goals as goal

pub returns-in-Ok-clause-complete : goal.returns-in-Ok-clause-complete
returns-in-Ok-clause-complete g c = λ command inputs output is tells calm quiet.
    let store = c.args.store.now in
    let new = c.answer_words.new.store in
    let out = c.args.out.now in
    let reply = c.in-Ok.reply in
    let expected = answer_expected (g.S.Store.tells store) (g.S.Store.file store) (g.S.Store.file new) (g.S.Store.faults store) (g.S.Store.faults new) (texts c.args.words.now) reply.status reply.text command inputs output is tells calm c.in-Ok.ensures.answer in
    put_expected (g.W.Sink.tells out) (g.W.Sink.taken out) (g.W.Sink.taken c.put_text-in-Ok.new.out) (g.W.Sink.faults out) (g.W.Sink.faults c.put_text-in-Ok.new.out) (g.W.Sink.room out) c.as_slice.result.now reply.status c.put_text-in-Ok.result command (reading (g.S.Store.file store) inputs) quiet c.put_text-in-Ok.ensures expected

pub returns-in-Err-clause-complete : goal.returns-in-Err-clause-complete
returns-in-Err-clause-complete g c = λ command inputs output is tells calm quiet.
    let out = c.args.out.now in
    let files = reading (g.S.Store.file c.args.store.now) inputs in
    put_expected (g.W.Sink.tells out) (g.W.Sink.taken out) (g.W.Sink.taken c.put_text.new.out) (g.W.Sink.faults out) (g.W.Sink.faults c.put_text.new.out) (g.W.Sink.room out) _ 5 c.put_text.result command files quiet c.put_text.ensures (expected_memory command files)
