use Rattle.std.proofs.Common.{refl, List, ℕ, Option, Bor}
use Rattle.std.specs.Prelude.{option_map}
use Rattle.cil_base.proofs.Small.{if_ok}
use Rattle.program.proofs.AnswerLaws.{replied_by, bytes_refused, no_memory}
use Rattle.program.specs.Program.{FromBytes}
use Rattle.program.proofs.program.answer_bytes.Goals as goal

pub returns-in-Err-Refused-clause-answer : goal.returns-in-Err-Refused-clause-answer
returns-in-Err-Refused-clause-answer g c =
    let tells = g.S.Store.tells c.args.store.now in
    let files = g.S.Store.file c.args.store.now in
    let count = g.S.Store.faults c.args.store.now in
    let set = c.args.files.now in
    let output : Option (List ℕ) = option_map (λ (n : Bor (List ℕ)). n.now) c.args.output in
    let refusal = rw c.in-Err-Refused.field-0-is at c.in-Err-Refused.ensures.refused in
    let said = rw c.in-Err-Refused.field-0-is at c.reply_refusal.ensures in
    replied_by (FromBytes c.args.command tells files files count count set output) c.reply_refusal.result
    (if_ok _ _ c.reply_refusal.result (λ a e. bytes_refused c.args.command tells files count set output c.in-Err-Refused.r a.status _ refusal e) said)
    (no_memory c.args.command tells files files count count set output (λ t name. refl))
