use Rattle.std.proofs.Common.{◌≡◌, true}
use Rattle.set_program.specs.TypeRules.{is_struct}
use Rattle.type_circles.proofs.StructLaws.{pushed_instance}
use Rattle.type_circles.proofs.structs.+named.Goals as goal

pub push_structs-returns-in_ok-push_each-in-Inst : goal.push_structs-returns-in_ok-push_each-in-Inst
push_structs-returns-in_ok-push_each-in-Inst t c =
    let is : is_struct c.args.structs.now c.in-Inst.k ≡ true = cc in
    pushed_instance c.args.structs.now c.args.ty.now c.in-Inst.k c.in-Inst.args c.as_slice.result.now c.args.out.now c.push-in-Inst.new.self c.push_each.new.out c.in-Inst.is is c.as_slice.ensures c.in_ok-push-in-Inst.ensures.ok
    c.in_ok-push_each-in-Inst.ensures
