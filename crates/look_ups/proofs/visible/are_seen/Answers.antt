use Rattle.std.proofs.Common.{◌∙◌, sym, ap, length, arith}
use Rattle.cil_semantics.specs.Contracted.{are_seen_within, is_seen_type}
use Rattle.look_ups.proofs.VisibleLaws.{seen_on}
use Rattle.look_ups.proofs.visible.are_seen.Goals as goal

pub loop-k-preserved : goal.loop-k-preserved
loop-k-preserved c =
    seen_on c.args.program.now c.loop-k.at c.in-Some.outer (length c.args.program.now.types) c.loop-k.k (are_seen_within (length c.args.program.now.types) c.args.program.now c.args.ty)
    (omega (arith, c.loop-k-test.true, c.len-k-end.ensures))
    (sym (ap is_seen_type c.type_flags.ensures) ∙ sym c.is_seen_type.ensures ∙ c.if-not-is_seen_type.false)
    (sym c.enclosing_of.ensures ∙ c.in-Some.is)
    c.loop-k.invariant
