use Rattle.std.proofs.Common.{ap, sym, ◌∙◌, ℕ}
use Rattle.std.proofs.lemmas.Result.{err_from_is_err_and}
use Rattle.cil_base.specs.Refusals.{first_of}
use Rattle.pe_image.specs.Rules.{coff_tests}
use Rattle.pe_image.proofs.headers.read_headers.Goals as goal

pub returns-in_err-headers-clause-tests : goal.returns-in_err-headers-clause-tests
returns-in_err-headers-clause-tests c =
    let p = err_from_is_err_and c.from_residual-in_err-headers.result c.from_residual-in_err-headers.ensures.1 in
    rw (p.1, p.2)
    (c.in_ok-pe.ensures.tests
    ∙ ap (λ (p : ℕ). first_of (coff_tests c.args.bytes.now c.args.assembly p)) (sym c.in_ok-pe.ensures.offset)
    ∙ c.in_err-headers.ensures.tests)
