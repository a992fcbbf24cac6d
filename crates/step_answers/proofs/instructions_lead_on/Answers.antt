use Rattle.cil_semantics.specs.Unwind.{next_place}
use Rattle.splice_facts.specs.Layout.{Onward}
use Rattle.step_answers.proofs.LeadLaws.{acts_led}
use Rattle.step_answers.proofs.instructions_lead_on.Goals as goal

pub returns : goal.returns
returns c = λ plan places at. acts_led (Onward plan places at (next_place at)) plan at
