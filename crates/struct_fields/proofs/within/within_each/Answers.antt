use Rattle.struct_fields.specs.StructFields.{within_at}
use Rattle.type_circles.proofs.ListLaws.{list_push}
use Rattle.struct_fields.proofs.within.within_each.Goals as goal

pub loop-k-preserved : goal.loop-k-preserved
loop-k-preserved c =
    list_push (within_at c.args.structs.now c.args.assemblies.now c.args.types.now) c.loop-k.k c.loop-k.lists.items c.push.new.self.items c.in_ok-within_number.field-0 c.in_ok-push.ensures.items
    c.in_ok-within_number.ensures c.loop-k.invariant
