use Rattle.std.proofs.Common.{◌++◌, length, map, arith}
use Rattle.cil_base.proofs.Small.{on_ok}
use Rattle.il_body.specs.BodyEncoding.{clause_of, sections}
use Rattle.il_body.proofs.PushLaws.{none_left, one_less_at, regions_rest, regions_take}
use Rattle.il_body.proofs.clauses.push_each.Goals as goal

pub push_section-requires-clause-valid : goal.push_section-requires-clause-valid
push_section-requires-clause-valid c =
    let i = c.loop-rest.invariant.1 in (i.0, i.1, regions_take i.0 c.limit-limit.result c.loop-rest.rest.now i.2)

pub loop-rest-preserved : goal.loop-rest-preserved
loop-rest-preserved c =
    let f = clause_of c.args.offsets.now in
    let rs = c.args.regions.now in
    let i = c.loop-rest.invariant.1 in (
      one_less_at f c.loop-rest.out.items c.push_section.new.out.items (c.args.out.now.items ++ sections (length rs) (map f rs)) c.loop-rest.rest.now c.limit-limit.result c.limit-limit.ensures.value c.loop-rest-test.true c.in_ok-push_section.ensures c.loop-rest.invariant.0,
      (i.0, i.1, regions_rest i.0 c.limit-limit.result c.loop-rest.rest.now i.2),
    )

pub returns : goal.returns
returns c =
    let f = clause_of c.args.offsets.now in
    let rs = c.args.regions.now in
    let few = c.loop-rest-test.false in
    let value = c.limit-limit.ensures.value in
    on_ok c.push_section-2.result
    (λ e. none_left f c.loop-rest.out.items c.push_section-2.new.out.items (c.args.out.now.items ++ sections (length rs) (map f rs)) c.loop-rest.rest.now (omega arith) e c.loop-rest.invariant.0)
    c.push_section-2.ensures
