use Rattle.std.proofs.Common.{◌≡◌, arith, refl, ℕ, List, suc, ◌+◌, ◌-◌}
use Rattle.set_types.specs.CodedTypes.{coded_of}
use Rattle.struct_fields.specs.StructFields.{field_row_structs}
use Rattle.struct_fields.proofs.OwnedLaws.{range_on}
use Rattle.struct_fields.proofs.within.push_fields.Goals as goal

pub loop-k-preserved : goal.loop-k-preserved
loop-k-preserved c =
    let f : ℕ → List ℕ = field_row_structs c.args.structs.now c.args.rows.now (coded_of c.args.coded.now) in
    let row : ℕ = c.loop-k.k + 1 in
    let count : c.args.to - c.loop-k.k ≡ suc (c.args.to - (c.loop-k.k + 1)) = omega (arith, c.loop-k-test.true) in
    range_on f c.loop-k.out c.push_field.new.out (f row) _ row (c.args.to - c.loop-k.k) (c.args.to - (c.loop-k.k + 1)) count c.in_ok-push_field.ensures refl c.loop-k.invariant
