-- Labels of clauses after expansion: numbered in the method whose clauses they are (Code Contracts User Manual, section 7).
use Rattle.std.specs.Prelude.{ℕ, List, [], ◌∷◌}
use Rattle.std.specs.List.{filter_map}
use Rattle.cil_model.specs.declared.body.Instr.{Instr}
use Rattle.cil_model.specs.declared.contract.Clause.{Clause}
use Rattle.cil_model.specs.declared.contract.ClauseKind.{ClauseKind}
use Rattle.cil_model.specs.declared.program.Program.{Program}
use Rattle.cil_semantics.specs.Core.{Name}
use Rattle.cil_semantics.specs.ContractCalls.{contract_call}
use Rattle.contract_parts.specs.CallKinds.{checked_kind}
use Rattle.contract_extract.specs.declared.numbers.Numbers.{Numbers}
use Rattle.contract_extract.specs.Clauses.{number_of, one_more, label}

-- the Assert and Assume calls among instructions
abbrev pub checks : Program → List Instr → List ClauseKind
checks p is = filter_map (λ i. checked_kind (contract_call p i)) is

-- the labels of calls that follow one another, behind so many
abbrev pub labels_from : Program → ℕ → Numbers → List ClauseKind → List Name
labels_from p m n [] = []
labels_from p m n (k ∷ ks) = label p m k (number_of n k) ∷ labels_from p m (one_more n k) ks

abbrev pub all_more : Numbers → List ClauseKind → Numbers
all_more n [] = n
all_more n (k ∷ ks) = all_more (one_more n k) ks

-- A clause of a method behind so many others: its own label, and those of the asserts in it.
abbrev pub labelled : Program → ℕ → Numbers → Clause → Clause
labelled p m n x = record x { home = m; label = label p m x.kind (number_of n x.kind); inline = labels_from p m n (checks p x.instrs) }

-- how many there are with this one
abbrev pub numbers_behind : Program → Numbers → Clause → Numbers
numbers_behind p n x = one_more (all_more n (checks p x.instrs)) x.kind

-- the clauses of a method as they follow one another
abbrev pub labelled_from : Program → ℕ → Numbers → List Clause → List Clause
labelled_from p m n [] = []
labelled_from p m n (x ∷ xs) = labelled p m n x ∷ labelled_from p m (numbers_behind p n x) xs

abbrev pub numbers_behind_all : Program → Numbers → List Clause → Numbers
numbers_behind_all p n [] = n
numbers_behind_all p n (x ∷ xs) = numbers_behind_all p (numbers_behind p n x) xs
