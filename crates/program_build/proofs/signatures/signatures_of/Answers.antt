use Rattle.std.proofs.Common.{◌∙◌, refl, length}
use Rattle.program_build.proofs.RowLaws.{numbers_are}
use Rattle.program_build.proofs.signatures.signatures_of.Goals as goal

pub returns : goal.returns
returns c =
    numbers_are c.args.tables.now c.in_ok-found.found (length c.as_slice-all.result.now) c.as_slice-all.result.now (c.as_slice-all.ensures.value ∙ c.in_ok-signatures.ensures) refl c.in_ok-found.ensures
