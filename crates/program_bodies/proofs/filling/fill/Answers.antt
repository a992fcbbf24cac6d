use Rattle.std.proofs.Common.{◌≡◌, ◌∙◌, ap, refl, arith, ◌<◌, length}
use Rattle.std.specs.Prelude.{map}
use Rattle.program_bodies.proofs.FilledLaws.{all_given, given_count, none_yet, one_more}
use Rattle.program_bodies.proofs.filling.fill.Goals as goal

pub loop-m-init : goal.loop-m-init
loop-m-init c = (refl, λ once. none_yet (map (λ v. v.items) c.args.bodies.now.items) c.args.methods.now once)

pub give-requires : goal.give-requires
give-requires c = let count : length c.loop-m.methods ≡ length c.args.methods.now = c.loop-m.invariant.0 in omega (arith, count, c.loop-m-test.true, c.len-m-end.ensures)

pub loop-m-preserved : goal.loop-m-preserved
loop-m-preserved c =
    let count : length c.loop-m.methods ≡ length c.args.methods.now = c.loop-m.invariant.0 in
    let there : c.loop-m.m < length c.loop-m.methods = omega (arith, count, c.loop-m-test.true, c.len-m-end.ensures) in (
      ap length c.give.ensures ∙ given_count c.loop-m.methods c.loop-m.m c.take_of-body.result ∙ count,
      λ once. one_more (map (λ v. v.items) c.args.bodies.now.items) (map (λ v. v.items) c.loop-m.bodies.items) (map (λ v. v.items) c.take_of-body.new.bodies.items)
          c.args.methods.now c.loop-m.methods c.give.new.methods c.loop-m.m c.row_of-row.result c.take_of-body.result
          there c.row_of-row.ensures c.take_of-body.ensures.taken c.give.ensures c.take_of-body.ensures.others (c.loop-m.invariant.1 once),
    )

pub returns : goal.returns
returns c = λ once.
    let count : length c.loop-m.methods ≡ length c.args.methods.now = c.loop-m.invariant.0 in
    let all : c.loop-m.m ≡ length c.loop-m.methods = omega (arith, count, c.loop-m-test.false, c.loop-m.auto.m-end, c.len-m-end.ensures) in
    all_given (map (λ v. v.items) c.args.bodies.now.items) (map (λ v. v.items) c.loop-m.bodies.items) c.args.methods.now c.loop-m.methods c.loop-m.m all (c.loop-m.invariant.1 once)
