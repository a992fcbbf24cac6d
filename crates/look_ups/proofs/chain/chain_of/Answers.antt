use Rattle.std.proofs.Common.{◌∙◌, sym, ap, length, ◌+◌, ◌-◌, ◌++◌, arith}
use Rattle.std.specs.Prelude.{Option}
use Rattle.cil_model.specs.declared.ty.Ty.{Ty}
use Rattle.cil_semantics.specs.Lookups.{chain, most_bases}
use Rattle.look_ups.proofs.ChainLaws.{links, links_on}
use Rattle.look_ups.proofs.chain.chain_of.Goals as goal

pub loop-k-preserved : goal.loop-k-preserved
loop-k-preserved c =
    links_on c.args.program.now c.loop-k.found c.add_link.new.found (chain c.args.program.now c.args.ty.now) (most_bases c.args.program.now + 1) c.loop-k.k c.in-Some.ty c.in_ok-at.at
    (omega (arith, c.loop-k-test.true, ap length c.as_slice.ensures))
    c.in_ok-at.ensures.found
    c.in_ok-at.ensures.base
    (ap (λ (o : Option Ty). c.loop-k.found ++ links c.args.program.now ((most_bases c.args.program.now + 1) - c.loop-k.k) o) (sym c.in-Some.is) ∙ c.loop-k.invariant)
