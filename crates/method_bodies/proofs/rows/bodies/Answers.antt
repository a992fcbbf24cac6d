use Rattle.std.proofs.Common.{◌≡◌, ◌<◌, arith}
use Rattle.cil_base.specs.declared.tables.TheConstants.{METHOD_DEF}
use Rattle.set_rows.specs.Sets.{count_in}
use Rattle.method_bodies.proofs.RowLaws.{one_more, none_of_rows, refused_row}
use Rattle.method_bodies.proofs.rows.bodies.Goals as goal

pub returns-in-Err-clause-refused : goal.returns-in-Err-clause-refused
returns-in-Err-clause-refused c =
    let within : c.loop-k.k < count_in c.args.rows.now METHOD_DEF = omega (arith, c.loop-k-test.true, c.count-count.ensures) in
    refused_row c.args.rows.now c.args.image.now.bytes c.args.a c.loop-k.k c.loop-k.bodies.items c.loop-k.invariant c.method_body.result c.in-Err.fault c.in-Err.is within c.method_body.ensures.broken c.method_body.ensures.first

pub loop-k-preserved : goal.loop-k-preserved
loop-k-preserved c =
    one_more c.args.rows.now c.args.image.now.bytes c.args.a c.loop-k.k c.loop-k.bodies.items c.loop-k.invariant c.push_body.new.bodies.items c.in-Ok.body c.in_ok-push_body-in-Ok.ensures c.in-Ok.ensures.body c.in-Ok.ensures.valid c.in-Ok.ensures.accepted

pub returns-clause-accepted : goal.returns-clause-accepted
returns-clause-accepted c =
    let all : c.loop-k.k ≡ count_in c.args.rows.now METHOD_DEF = omega (arith, c.loop-k-test.false, c.loop-k.auto.k-end, c.count-count.ensures) in
    none_of_rows c.args.rows.now c.args.image.now.bytes c.args.a c.loop-k.k c.loop-k.bodies.items c.loop-k.invariant all
