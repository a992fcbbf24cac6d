-- The seam of each Requires<E> throws what was made there.
use Rattle.std.proofs.Common.{List}
use Rattle.cil_model.specs.declared.contract.Contracts.{Contracts}
use Rattle.cil_model.specs.declared.program.MethodDesc.{MethodDesc}
use Rattle.cil_model.specs.declared.program.Program.{Program}
use Rattle.cil_semantics.specs.Checks.{AddedNumbers}
use Rattle.splice_facts.specs.Related.{Rewritten, SeamsThrow}

pub seam_throws : (p : Program) (k : Contracts) (ms : List MethodDesc) (g : AddedNumbers) (r : Rewritten p k ms g) → SeamsThrow p k ms g r
seam_throws p k ms g r f fs fs' w ex ss b hs x holds rest on c inside kd y = record { belongs = c.maker_belongs; in_group = inside; next = c.made kd y }
