use Rattle.assembly_rewrite.proofs.ContractLaws.{NoneBefore}
use Rattle.assembly_rewrite.proofs.contract_rows.first_row.Given as goal

abbrev pub invariant-loop-k : goal.invariant-loop-k
invariant-loop-k l = NoneBefore l.heaps.bytes l.places l.k
