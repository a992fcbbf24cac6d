use Rattle.assembly_rewrite.proofs.ContractLaws.{contracts_in_first, contracts_in_second, no_contracts, numbered}
use Rattle.assembly_rewrite.proofs.contract_rows.first_of_tables.Goals as goal

pub returns-in-Some : goal.returns-in-Some
returns-in-Some c =
    numbered c.args.heaps.now.bytes c.args.heaps.now.assembly 1 c.in-Some.row c.assembly.result c.contract_row.result c.assembly.ensures c.contract_row.ensures (contracts_in_first c.args.heaps.now.bytes c.args.heaps.now.assembly c.in-Some.row c.in-Some.ensures)

pub returns-in-None : goal.returns-in-None
returns-in-None c = no_contracts c.args.heaps.now.bytes c.args.heaps.now.assembly c.in_default.ensures c.in-None.ensures

pub returns-in-Some-first_row : goal.returns-in-Some-first_row
returns-in-Some-first_row c =
    numbered c.args.heaps.now.bytes c.args.heaps.now.assembly 2 c.in-Some-first_row.row c.assembly-in-Some-first_row.result c.contract_row-in-Some-first_row.result c.assembly-in-Some-first_row.ensures c.contract_row-in-Some-first_row.ensures
    (contracts_in_second c.args.heaps.now.bytes c.args.heaps.now.assembly c.in-Some-first_row.row c.in_default.ensures c.in-Some-first_row.ensures)
