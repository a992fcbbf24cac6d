use Rattle.std.proofs.Common.{◌≡◌, ◌∙◌, ◌++◌, List, ap, map}
use Rattle.std.specs.Prelude.{flat_map}
use Rattle.cil_model.specs.declared.body.Region.{Region}
use Rattle.cil_model.specs.declared.layout.RawClause.{RawClause}
use Rattle.il_body.specs.BodyEncoding.{clause_bytes, clause_of}
use Rattle.il_body.proofs.PushLaws.{clauses_more, region_at, region_at_next, regions_more}
use Rattle.il_body.proofs.clauses.push_clauses.Goals as goal

pub loop-region-preserved : goal.loop-region-preserved
loop-region-preserved c =
    let rs : List Region = c.args.regions.now in
    let k = c.loop-region.region-index in
    let f = clause_of c.args.offsets.now in
    let out = c.loop-region.out.items in
    let r = region_at rs k in
    let inv = c.loop-region.invariant in
    let next = region_at_next rs k c.loop-region-test.true in
    let e : c.push_clause.new.out.items ≡ out ++ clause_bytes (f r) = c.in_ok-push_clause.ensures ∙ ap (λ (x : RawClause). out ++ clause_bytes x) c.raw_clause.ensures in (
      clauses_more f out c.push_clause.new.out.items rs k r (c.args.out.now.items ++ flat_map clause_bytes (map f rs)) next e inv.0,
      (inv.1.0, inv.1.1, regions_more inv.1.0 rs k r next inv.1.2),
    )
