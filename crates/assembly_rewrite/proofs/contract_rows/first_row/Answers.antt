use Rattle.std.proofs.Common.{◌≡◌, ◌<◌, ℕ, List, length, get_or, Some, subst, arith}
use Rattle.cli_heaps.specs.Root.{strings}
use Rattle.cli_heaps.specs.Entries.{string_at}
use Rattle.assembly_rewrite.specs.Rewrite.{contracts_namespace}
use Rattle.assembly_rewrite.proofs.ContractLaws.{NoneBefore, first_row, no_row}
use Rattle.assembly_rewrite.proofs.contract_rows.first_row.Goals as goal

pub returns-then-is_contracts : goal.returns-then-is_contracts
returns-then-is_contracts c =
    first_row c.args.heaps.now.bytes c.args.tables.now c.args.table c.loop-k.k c.requires
    (subst (λ (l : List ℕ). c.loop-k.k < length l) c.column-places.ensures.cells c.loop-k-test.true)
    (subst (λ (l : List ℕ). NoneBefore c.args.heaps.now.bytes l c.loop-k.k) c.column-places.ensures.cells c.loop-k.invariant)
    (subst (λ (l : List ℕ). string_at (strings c.args.heaps.now.bytes) (get_or l c.loop-k.k 0) ≡ Some contracts_namespace) c.column-places.ensures.cells (c.is_contracts.ensures.yes c.if-is_contracts.true))

pub returns : goal.returns
returns c =
    no_row c.args.heaps.now.bytes c.args.tables.now c.args.table c.requires
    (subst (λ (l : List ℕ). NoneBefore c.args.heaps.now.bytes l (length l)) c.column-places.ensures.cells (λ j lt. c.loop-k.invariant j (omega (arith, lt, c.loop-k-test.false))))
