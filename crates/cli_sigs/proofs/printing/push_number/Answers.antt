use Rattle.cil_base.specs.Packed.{packed_spelling}
use Rattle.cil_base.proofs.Small.{on_ok}
use Rattle.cli_sigs.proofs.NumberLaws.{packed_shortest}
use Rattle.cli_sigs.proofs.printing.push_number.Goals as goal

pub returns : goal.returns
returns c = on_ok c.push_packed.result (λ e. (packed_spelling c.args.n, e, packed_shortest c.args.n c.requires)) c.push_packed.ensures.spelled
