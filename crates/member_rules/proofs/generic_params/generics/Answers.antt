use Rattle.std.proofs.Common.{◌∙◌, sym, arith, get_or, []}
use Rattle.set_rows.specs.Sets.{assembly_at}
use Rattle.member_rules.proofs.GenericLaws.{known_is, none_past}
use Rattle.member_rules.proofs.generic_params.generics.Goals as goal

pub returns-then-a-set : goal.returns-then-a-set
returns-then-a-set c = none_past c.args.set.now c.args.a c.args.owner (omega (arith, c.if-a-set.true))

pub returns-in-Some : goal.returns-in-Some
returns-in-Some c = known_is (assembly_at c.args.set.now c.args.a) (get_or c.args.counts.now c.args.a []) c.args.owner c.in-Some.count (c.requires c.args.a) (sym c.in-Some.is ∙ c.known.ensures)
