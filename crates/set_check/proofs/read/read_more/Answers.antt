use Rattle.std.proofs.Common.{◌≡◌, subst, length, ℕ, arith}
use Rattle.assembly.specs.Assemblies.{IsReadable}
use Rattle.set_check.proofs.read.read_more.Goals as goal

pub returns-clause-accepted : goal.returns-clause-accepted
returns-clause-accepted c =
    let same : c.len-number.result ≡ length c.args.set.now.items = omega (arith, c.len-number.ensures) in
    subst (λ (n : ℕ). IsReadable c.args.bytes.now n) same c.in_ok-assembly.ensures.accepted
