use Rattle.std.proofs.Common.{◌≡◌, Some, refl, sym, ◌∙◌}
use Rattle.cil_base.proofs.RefusalLaws.{IfRefused-weaker}
use Rattle.cil_model.specs.SmallBody.{tiny_code}
use Rattle.il_code.proofs.SmallLaws.{small_body, code_few, read_again, no_fault, no_header, first_fault}
use Rattle.il_code.proofs.small.decode_small.Goals as goal

pub returns-in-Err-clause-refused : goal.returns-in-Err-clause-refused
returns-in-Err-clause-refused c =
    IfRefused-weaker c.in-Err.fault _ _ (λ r f. first_fault c.args.place c.args.bytes.now c.in-Some.code.now r (sym c.in-Some.ensures.code) f) c.in-Err.ensures.broken

pub returns-clause-few : goal.returns-clause-few
returns-clause-few c =
    rw c.from_vec.ensures (code_few c.args.place.assembly c.in-Some.code.now c.in-Ok.read.0.items c.in-Ok.read.1 (c.in-Some.ensures.small c.in-Some.code refl) c.in-Ok.ensures.read)

pub returns-clause-body : goal.returns-clause-body
returns-clause-body c =
    rw (c.from_vec.ensures, c.new.ensures) (small_body c.args.place.assembly c.args.bytes.now c.in-Some.code.now c.in-Ok.read.0.items c.in-Ok.read.1 (sym c.in-Some.ensures.code) (c.in-Some.ensures.small c.in-Some.code refl) c.in-Ok.ensures.read)

pub returns-clause-once : goal.returns-clause-once
returns-clause-once c other s =
    let again = read_again c.args.place.assembly c.args.bytes.now c.in-Some.code.now c.in-Ok.read.0.items c.in-Ok.read.1 other (sym c.in-Some.ensures.code) c.in-Ok.ensures.read s in
    (again.0 ∙ sym c.from_vec.ensures, again.1)

pub returns-clause-accepted : goal.returns-clause-accepted
returns-clause-accepted c =
    let h : tiny_code c.args.bytes.now ≡ Some c.in-Some.code.now = sym c.in-Some.ensures.code in
    (λ r x. no_header c.args.bytes.now c.in-Some.code.now h x.0, no_fault c.args.place c.args.bytes.now c.in-Some.code.now c.in-Ok.read.0.items c.in-Ok.read.1 h c.in-Ok.ensures.read)
