use Rattle.std.proofs.Common.{subst, sym, List, ℕ, Option, Bor}
use Rattle.std.specs.Prelude.{option_map}
use Rattle.program.specs.Program.{FromBytes}
use Rattle.program.specs.Replies.{Replied}
use Rattle.program.proofs.AnswerLaws.{from_written, from_told}
use Rattle.program.proofs.program.answer_made.Goals as goal

pub returns-in-Some-clause-answer : goal.returns-in-Some-clause-answer
returns-in-Some-clause-answer g c =
    let store = c.args.store.now in
    let new = c.put_output.new.store in
    subst (λ (o : Option (Bor (List ℕ))). Replied (FromBytes c.args.command (g.S.Store.tells store) (g.S.Store.file store) (g.S.Store.file new) (g.S.Store.faults store) (g.S.Store.faults new) c.args.files.now (option_map (λ (n : Bor (List ℕ)). n.now) o)) c.put_output.result) (sym c.in-Some.is)
    (from_written c.args.command (g.S.Store.tells store) (g.S.Store.file store) (g.S.Store.file new) (g.S.Store.faults store) (g.S.Store.faults new)
    c.args.files.now c.in-Some.output.now c.args.made.bytes c.args.made.text c.put_output.result
    c.requires.made c.requires.accepted c.put_output.ensures.done c.put_output.ensures.failed c.put_output.ensures.kept c.put_output.ensures.only)

pub returns-in-None-clause-answer : goal.returns-in-None-clause-answer
returns-in-None-clause-answer g c =
    let store = c.args.store.now in
    let made = c.args.made in
    let reply = c.reply_made.result in
    subst (λ (o : Option (Bor (List ℕ))). FromBytes c.args.command (g.S.Store.tells store) (g.S.Store.file store) (g.S.Store.file store) (g.S.Store.faults store) (g.S.Store.faults store) c.args.files.now (option_map (λ (n : Bor (List ℕ)). n.now) o) reply.status reply.text) (sym c.in-None.is)
    (from_told c.args.command (g.S.Store.tells store) (g.S.Store.file store) (g.S.Store.faults store) c.args.files.now made.bytes reply.status made.text reply.text
    c.requires.made c.requires.accepted c.reply_made.ensures.status c.reply_made.ensures.text)
