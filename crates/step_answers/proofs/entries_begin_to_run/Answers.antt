use Rattle.step_answers.proofs.EntryLaws.{entries_begin}
use Rattle.step_answers.proofs.entries_begin_to_run.Goals as goal

pub returns : goal.returns
returns c = λ p k m args rs entry. entries_begin p k m args rs entry
