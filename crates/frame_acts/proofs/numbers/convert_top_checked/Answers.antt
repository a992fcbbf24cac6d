use Rattle.frame_acts.specs.Meant.{meant}
use Rattle.frame_acts.proofs.ConversionLaws.{converts}
use Rattle.frame_acts.proofs.numbers.convert_top_checked.Goals as goal

pub returns-in_ok-answer-in-Some : goal.returns-in_ok-answer-in-Some
returns-in_ok-answer-in-Some c =
    converts c.args.unsigned c.args.kind c.args.local.now c.in-Some.x c.pop.new.self c.number_in.result c.convert_checked.result (meant c.in_ok-answer-in-Some.answer c.finish.new.local)
    c.in_ok-answer-in-Some.ensures c.number_in.ensures c.in-Some.ensures c.convert_checked.ensures
