use Rattle.std.proofs.Common.{ap, arith, suc}
use Rattle.std.specs.Prelude.{flat_map}
use Rattle.set_names.specs.Distinct.{distinct}
use Rattle.set_rows.specs.Sets.{Assemblies}
use Rattle.set_program.specs.Numbering.{order}
use Rattle.set_program.specs.Environment.{values_in}
use Rattle.type_table.proofs.OutsideLaws.{walk_on, walk_all, last_added}
use Rattle.value_types.proofs.names.add_all_values.Goals as goal

pub loop-a-init : goal.loop-a-init
loop-a-init c = λ n e. ap (distinct c.args.names.now) (walk_all (values_in c.args.set.now) c.args.set.now n e)

pub loop-a-preserved : goal.loop-a-preserved
loop-a-preserved c = λ n e.
    let s : Assemblies = c.args.set.now in
    walk_on (values_in s) (distinct c.args.names.now (flat_map (values_in s) (order s))) c.loop-a.names c.add_values.new.names c.loop-a.a n c.in_ok-add_values.ensures (c.loop-a.invariant (suc n) (omega (arith, e)))

pub returns : goal.returns
returns c =
    let s : Assemblies = c.args.set.now in
    last_added c.add_values-2.result c.loop-a.names c.add_values-2.new.names (values_in s 0) (distinct c.args.names.now (flat_map (values_in s) (order s))) c.add_values-2.ensures (c.loop-a.invariant 0 (omega (arith, c.loop-a-test.false, c.loop-a.auto.a-end c.requires.some)))
