use Rattle.std.proofs.Common.{◌∙◌, ap, arith, suc}
use Rattle.set_names.specs.Distinct.{distinct}
use Rattle.set_rows.specs.Sets.{Assemblies}
use Rattle.set_program.specs.Attributes.{attribute_outside}
use Rattle.type_table.specs.Outside.{outside_by_attributes}
use Rattle.type_table.proofs.OutsideLaws.{walk_on, walk_all, last_added, attributes_walked}
use Rattle.type_table.proofs.outside.add_all_attributes.Goals as goal

pub loop-a-init : goal.loop-a-init
loop-a-init c = λ n e. ap (distinct c.args.names.now) (walk_all (outside_by_attributes c.args.set.now) c.args.set.now n e ∙ attributes_walked c.args.set.now)

pub loop-a-preserved : goal.loop-a-preserved
loop-a-preserved c = λ n e.
    let s : Assemblies = c.args.set.now in
    walk_on (outside_by_attributes s) (distinct c.args.names.now (attribute_outside s)) c.loop-a.names c.add_by_attributes.new.names c.loop-a.a n c.in_ok-add_by_attributes.ensures (c.loop-a.invariant (suc n) (omega (arith, e)))

pub returns : goal.returns
returns c =
    let s : Assemblies = c.args.set.now in
    last_added c.add_by_attributes-2.result c.loop-a.names c.add_by_attributes-2.new.names (outside_by_attributes s 0) (distinct c.args.names.now (attribute_outside s)) c.add_by_attributes-2.ensures (c.loop-a.invariant 0 (omega (arith, c.loop-a-test.false, c.loop-a.auto.a-end c.requires.some)))
