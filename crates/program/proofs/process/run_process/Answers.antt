use Rattle.std.proofs.Common.{sym, subst, IfOk, Result, List, ℕ}
use Rattle.std.specs.Prelude.{String, Vec}
use Rattle.std.specs.declared.alloc.Global.{Global}
use Rattle.command_line.specs.Options.{texts}
use Rattle.program.specs.declared.process.WordsFault.{WordsFault}
use Rattle.program.specs.Program.{Answer, Puts}
use Rattle.program.proofs.process.run_process.Goals as goal

pub returns-in-Ok-clause-answer : goal.returns-in-Ok-clause-answer
returns-in-Ok-clause-answer g c =
    let store = g.S.Store in
    let sink = g.W.Sink in
    let said = subst (λ (words : List (String Global)). (status : ℕ) × (text : List ℕ)
    × Answer (store.tells c.args.store.now) (store.file c.args.store.now) (store.file c.run_words.new.store) (store.faults c.args.store.now) (store.faults c.run_words.new.store) (texts words) status text
    × Puts (sink.tells c.args.out.now) (sink.taken c.args.out.now) (sink.taken c.run_words.new.out) (sink.faults c.args.out.now) (sink.faults c.run_words.new.out) (sink.room c.args.out.now) text status c.run_words.result) c.as_slice.ensures.value c.run_words.ensures.answer in
    subst (λ (words : Result (Vec (String Global) Global) WordsFault). IfOk words (λ told. (status : ℕ) × (text : List ℕ)
    × Answer (store.tells c.args.store.now) (store.file c.args.store.now) (store.file c.run_words.new.store) (store.faults c.args.store.now) (store.faults c.run_words.new.store) (texts told.items) status text
    × Puts (sink.tells c.args.out.now) (sink.taken c.args.out.now) (sink.taken c.run_words.new.out) (sink.faults c.args.out.now) (sink.faults c.run_words.new.out) (sink.room c.args.out.now) text status c.run_words.result)) (sym c.in-Ok.is) said
