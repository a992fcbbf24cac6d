use Rattle.std.proofs.Common.{◌≤◌, ◌∙◌, sym, ap, length, arith, string_bytes}
use Rattle.std.proofs.lemmas.List.{length-map}
use Rattle.cil_base.specs.declared.limits.TheConstants.{ASSEMBLY_LIMIT}
use Rattle.command_line.specs.Options.{texts}
use Rattle.program.specs.Reading.{Whole}
use Rattle.program.proofs.AnswerLaws.{replied_weaker, from_read, few_read}
use Rattle.program.proofs.program.answer_few.Goals as goal

pub returns-in-Ok-clause-answer : goal.returns-in-Ok-clause-answer
returns-in-Ok-clause-answer g c =
    let store = g.S.Store in
    let old = c.args.store.now in
    let mid = c.read_files.new.store in
    let new = c.answer_bytes.new.store in
    let names = texts c.args.inputs.now in
    let set = c.as_slice.result.now in
    let read = c.in-Ok.ensures.read in
    let few : length names ≤ ASSEMBLY_LIMIT = omega (arith, c.requires.few, length-map c.args.inputs.now string_bytes) in
    replied_weaker _ _ c.answer_bytes.result
    (λ status text. from_read c.args.command (store.tells old) (store.tells mid) (store.file old) (store.file mid) (store.file new) (store.faults old) (store.faults mid) (store.faults new) names set _ status text
    c.in-Ok.ensures.tells c.in-Ok.ensures.kept read.0 (λ t. few_read (store.file old) names few ∙ read.3 t ∙ ap Whole (sym c.as_slice.ensures.value)))
    c.answer_bytes.ensures.answer

pub returns-in-Ok-clause-steady : goal.returns-in-Ok-clause-steady
returns-in-Ok-clause-steady g c = λ s.
    let steady = c.in-Ok.ensures.steady s in
    c.answer_bytes.ensures.steady steady.0 ∙ steady.1
