use Rattle.std.proofs.Common.{◌<◌, ◌^◌, Option, length, subst, sym}
use Rattle.std.specs.Prelude.{IfSome}
use Rattle.cil_base.specs.declared.token.Token.{Token}
use Rattle.body_tests.proofs.write.read_small.Goals as goal

pub returns-in-Ok : goal.returns-in-Ok
returns-in-Ok c =
    let s = c.in-Ok.ensures.body in
    let none = subst (λ (o : Option Token). IfSome o (λ token. token.row < 2 ^ 24)) (sym s.locals) tt in
    c.read_is_valid.ensures 0 c.args.bytes.now c.in-Ok.body (length c.args.bytes.now) (λ k. (c.type_inv.bytes k).fits) s.stands none
