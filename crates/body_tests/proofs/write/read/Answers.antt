use Rattle.body_tests.proofs.write.read.Goals as goal

pub returns-in-Ok : goal.returns-in-Ok
returns-in-Ok c =
    let s = c.in-Ok.ensures.body in
    c.read_is_valid.ensures 0 c.args.bytes.now c.in-Ok.body s.0 (λ k. (c.type_inv.bytes k).fits) s.1 c.in-Ok.ensures.row
