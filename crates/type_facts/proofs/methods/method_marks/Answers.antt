use Rattle.type_facts.proofs.methods.method_marks.Goals as goal

pub returns : goal.returns
returns c = record {
  abbreviators = c.in_ok-marks_on_methods.ensures;
  invariants = c.in_ok-marks_on_methods-2.ensures;
  generated = c.in_ok-marks_on_methods-3.ensures;
  generics = c.requires.counts;
}
