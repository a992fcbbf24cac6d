use Rattle.std.proofs.Common.{ap, arith, suc}
use Rattle.std.specs.Prelude.{flat_map}
use Rattle.set_names.specs.Distinct.{distinct}
use Rattle.set_rows.specs.Sets.{Assemblies}
use Rattle.set_program.specs.Numbering.{names_outside, order}
use Rattle.type_table.proofs.OutsideLaws.{walk_on, walk_all, last_added}
use Rattle.type_table.proofs.outside.add_all_references.Goals as goal

pub loop-a-init : goal.loop-a-init
loop-a-init c = λ n e. ap (distinct c.args.names.now) (walk_all (names_outside c.args.set.now) c.args.set.now n e)

pub loop-a-preserved : goal.loop-a-preserved
loop-a-preserved c = λ n e.
    let s : Assemblies = c.args.set.now in
    walk_on (names_outside s) (distinct c.args.names.now (flat_map (names_outside s) (order s))) c.loop-a.names c.add_references.new.names c.loop-a.a n c.in_ok-add_references.ensures (c.loop-a.invariant (suc n) (omega (arith, e)))

pub returns : goal.returns
returns c =
    let s : Assemblies = c.args.set.now in
    last_added c.add_references-2.result c.loop-a.names c.add_references-2.new.names (names_outside s 0) (distinct c.args.names.now (flat_map (names_outside s) (order s))) c.add_references-2.ensures (c.loop-a.invariant 0 (omega (arith, c.loop-a-test.false, c.loop-a.auto.a-end c.requires.some)))
