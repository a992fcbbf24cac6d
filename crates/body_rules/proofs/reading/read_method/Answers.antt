use Rattle.std.proofs.Common.{◌<◌, ◌^◌, length, sym, subst}
use Rattle.std.specs.Prelude.{Option, IfSome}
use Rattle.cil_model.specs.declared.body.Body.{Body}
use Rattle.cil_model.specs.ValidBody.{IsValid}
use Rattle.method_bodies.specs.Bodies.{FaultAt}
use Rattle.method_bodies.specs.Rows.{method_place, rva_of}
use Rattle.body_rules.specs.Faults.{IsRead}
use Rattle.body_rules.proofs.CountLaws.{few_instrs}
use Rattle.body_rules.proofs.CodeLaws.{first_refused}
use Rattle.body_rules.proofs.MethodLaws.{plain_read, plain_valid, plain_few, small_locals}
use Rattle.body_rules.proofs.reading.read_method.Goals as goal

pub returns-in-Ok-clause-read : goal.returns-in-Ok-clause-read
returns-in-Ok-clause-read c =
    subst (IsRead c.args.image.now.bytes c.args.a (rva_of c.args.rows.now c.args.row)) (sym c.plain_body.ensures) (plain_read c.args.image.now.bytes c.args.a (rva_of c.args.rows.now c.args.row) c.in-Ok.body c.in-Ok.ensures.body)

pub returns-in-Ok-clause-valid : goal.returns-in-Ok-clause-valid
returns-in-Ok-clause-valid c =
    subst (λ (o : Option Body). IfSome o (IsValid c.args.a)) (sym c.plain_body.ensures) (plain_valid c.args.a c.in-Ok.body c.in-Ok.ensures.valid)

pub returns-in-Ok-clause-few : goal.returns-in-Ok-clause-few
returns-in-Ok-clause-few c =
    subst (λ (o : Option Body). IfSome o (λ b. length b.instrs < 2 ^ 32)) (sym c.plain_body.ensures)
    (plain_few c.in-Ok.body (few_instrs c.args.image.now.bytes c.args.a (rva_of c.args.rows.now c.args.row) c.in-Ok.body c.requires c.in-Ok.ensures.body))

pub returns-in-Err-clause-refused : goal.returns-in-Err-clause-refused
returns-in-Err-clause-refused c =
    first_refused (FaultAt c.args.image.now.bytes (method_place c.args.a c.args.row) (rva_of c.args.rows.now c.args.row)) c.in-Err.fault c.in-Err.ensures.broken c.in-Err.ensures.first

pub plain_body-requires : goal.plain_body-requires
plain_body-requires c = small_locals c.args.a c.in-Ok.body c.in-Ok.ensures.valid
