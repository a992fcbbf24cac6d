use Rattle.std.proofs.Common.{subst, sym, List}
use Rattle.program_build.specs.declared.facts.Known.{Known}
use Rattle.program_build.proofs.KnownLaws.{KnownUpTo, one_more, none_yet}
use Rattle.program_build.proofs.facts.all_known.Goals as goal

pub loop-a-init : goal.loop-a-init
loop-a-init c = subst (λ (l : List Known). KnownUpTo c.args.tables.now 0 l) (sym c.new-all.ensures.items) (none_yet c.args.tables.now)

pub loop-a-preserved : goal.loop-a-preserved
loop-a-preserved c = one_more c.args.tables.now c.loop-a.a c.loop-a.all.items c.push.new.self.items c.in_ok-known_of.field-0 c.in_ok-push.ensures.items c.in_ok-known_of.ensures c.loop-a.invariant
