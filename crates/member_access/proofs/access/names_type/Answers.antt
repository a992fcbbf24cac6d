use Rattle.std.proofs.Common.{◌∙◌, sym, length, arith}
use Rattle.member_access.specs.Access.{names_within}
use Rattle.member_access.proofs.AroundLaws.{named_on}
use Rattle.member_access.proofs.access.names_type.Goals as goal

pub loop-step-preserved : goal.loop-step-preserved
loop-step-preserved c =
    named_on c.args.program.now c.args.reader.now c.loop-step.at c.in-Some.outer (length c.args.program.now.types) c.loop-step.step
    (names_within (length c.args.program.now.types) c.args.program.now c.args.reader.now c.args.k)
    (omega (arith, c.loop-step-test.true, c.len-step-end.ensures))
    (sym c.is_near.ensures ∙ c.if-is_near.false)
    (sym c.is_open.ensures ∙ c.if-not-is_open.false)
    (sym c.enclosing_of.ensures ∙ c.in-Some.is)
    c.loop-step.invariant
