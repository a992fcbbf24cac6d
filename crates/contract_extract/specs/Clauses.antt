-- A clause as its segment says it: instructions with locals of its own, old ranges, exception, message and label (Code Contracts User Manual, sections 2.1 to 2.5).
use Rattle.std.specs.Prelude.{ℕ, ◌+◌, ◌-◌, min, Bool, true, false, ◌==◌, List, [], ◌∷◌, ◌++◌, map, length, Option, Some, None, option_map, codes, decimal, if◌then◌else◌}
use Rattle.std.specs.List.{list_any, filter_map}
use Rattle.cil_base.specs.declared.token.Token.{Token}
use Rattle.cil_model.specs.declared.body.Instr.{Instr}
use Rattle.cil_model.specs.declared.body.Operand.{Operand}
use Rattle.cil_model.specs.declared.body.Operand.TheVariants.{Index, Target, Targets, Tok}
use Rattle.cil_model.specs.declared.contract.ClauseKind.{ClauseKind}
use Rattle.cil_model.specs.declared.contract.ClauseKind.TheVariants as kind
use Rattle.cil_model.specs.declared.contract.Old.{Old}
use Rattle.cil_model.specs.declared.contract.TyRef.{TyRef}
use Rattle.cil_model.specs.declared.program.Program.{Program}
use Rattle.cil_semantics.specs.Core.{Name}
use Rattle.cil_semantics.specs.Lookups.{type_of, method_of}
use Rattle.cil_semantics.specs.ContractCalls.{contract_call}
use Rattle.contract_parts.specs.declared.segment.Segment.{Segment}
use Rattle.contract_parts.specs.Flow.{Code, last_argument}
use Rattle.contract_parts.specs.CallKinds.{is_old}
use Rattle.contract_parts.specs.Parts.{segment_code, segment_instrs, named}
use Rattle.contract_parts.specs.Closures.{setups}
use Rattle.contract_extract.specs.declared.numbers.Numbers.{Numbers}
use Rattle.contract_extract.specs.declared.numbers.Ended.{Ended}
use Rattle.contract_extract.specs.declared.numbers.Counted.{Counted}

-- ---- labels

abbrev pub kind_word : ClauseKind → Name
kind_word kind.Requires = codes "requires"
kind_word kind.RequiresOf = codes "requires"
kind_word kind.Ensures = codes "ensures"
kind_word kind.Throws = codes "throws"
kind_word kind.Invariant = codes "invariant"
kind_word kind.Assert = codes "assert"
kind_word kind.Assume = codes "assume"

-- A number for each word, of which Requires and Requires<E> share one.
abbrev pub number_of : Numbers → ClauseKind → ℕ
number_of n kind.Requires = n.preconditions
number_of n kind.RequiresOf = n.preconditions
number_of n kind.Ensures = n.postconditions
number_of n kind.Throws = n.throws
number_of n kind.Invariant = n.invariants
number_of n kind.Assert = n.asserts
number_of n kind.Assume = n.assumes

abbrev pub one_more : Numbers → ClauseKind → Numbers
one_more n kind.Requires = record n { preconditions = n.preconditions + 1 }
one_more n kind.RequiresOf = record n { preconditions = n.preconditions + 1 }
one_more n kind.Ensures = record n { postconditions = n.postconditions + 1 }
one_more n kind.Throws = record n { throws = n.throws + 1 }
one_more n kind.Invariant = record n { invariants = n.invariants + 1 }
one_more n kind.Assert = record n { asserts = n.asserts + 1 }
one_more n kind.Assume = record n { assumes = n.assumes + 1 }

abbrev pub no_numbers : Numbers
no_numbers = record { preconditions = 0; postconditions = 0; throws = 0; invariants = 0; asserts = 0; assumes = 0 }

-- each clause with its number among those of its word
abbrev pub counted_from : Numbers → List Ended → List Counted
counted_from n [] = []
counted_from n (x ∷ xs) = record { segment = x.segment; kind = x.kind; number = number_of n x.kind } ∷ counted_from (one_more n x.kind) xs

abbrev pub counted : List Ended → List Counted
counted xs = counted_from no_numbers xs

-- `Type::Method/kind/index`
abbrev pub label : Program → ℕ → ClauseKind → ℕ → Name
label p m k n =
    (type_of p (method_of p m).owner).name ++ (codes "::" ++ ((method_of p m).name ++ (codes "/" ++ (kind_word k ++ (codes "/" ++ decimal n)))))

-- ---- instructions

-- the numbers, each once, at its first place
abbrev pub with_local : List ℕ → ℕ → List ℕ
with_local ks k = if list_any (λ j. j == k) ks then ks else ks ++ k ∷ []

abbrev pub distinct_behind : List ℕ → List ℕ → List ℕ
distinct_behind seen [] = seen
distinct_behind seen (k ∷ ks) = distinct_behind (with_local seen k) ks

abbrev pub locals_named : List Instr → List ℕ
locals_named is = distinct_behind [] (filter_map named is)

-- a number that 32 bits hold; a larger one names no place and no local
abbrev pub in_32_bits : ℕ → ℕ
in_32_bits n = min n 0xFFFFFFFF

-- where a place of a segment lies in the clause, whose set-up takes so many instructions
abbrev pub moved : ℕ → Segment → ℕ → ℕ
moved setup s q = in_32_bits (q - s.from + setup)

abbrev pub moved_target : ℕ → Segment → Operand → Operand
moved_target setup s (Target t) = Target (moved setup s t)
moved_target setup s (Targets ts) = Targets (map (moved setup s) ts)
moved_target setup s x = x

abbrev pub moved_instr : ℕ → Segment → Instr → Instr
moved_instr setup s i = record i { operand = moved_target setup s i.operand }

-- the place of a number in a list that has it
abbrev pub number_in : ℕ → List ℕ → ℕ
number_in k [] = 0
number_in k (j ∷ js) = if j == k then 0 else number_in k js + 1

-- a local by its number among the clause's own
abbrev pub renumbered : List ℕ → Option ℕ → Operand → Operand
renumbered ks None x = x
renumbered ks (Some k) x = Index (in_32_bits (number_in k ks))

abbrev pub with_locals : List ℕ → Instr → Instr
with_locals ks i = record i { operand = renumbered ks (named i) i.operand }

-- the locals that a segment names
abbrev pub segment_locals : Code → Segment → List ℕ
segment_locals c s = locals_named (segment_instrs c s)

-- the set-ups of the closure locals that the segment names
abbrev pub setup : Code → Segment → List Instr
setup c s = setups c (segment_locals c s)

-- the set-ups and then the segment, by the body's locals
abbrev pub code_of : Code → Segment → List Instr
code_of c s = setup c s ++ map (moved_instr (length (setup c s)) s) (segment_instrs c s)

abbrev pub clause_instrs : Code → Segment → List Instr
clause_instrs c s = let is : List Instr = code_of c s in map (with_locals (locals_named is)) is

-- ---- types

abbrev pub ref : ℕ → Token → ℕ → TyRef
ref assembly token k = record { assembly = assembly; token = token; index = k; under = None }

-- the type argument of a generic call
abbrev pub argument_type : Operand → Option TyRef
argument_type (Tok assembly token) = Some (ref assembly token 0)
argument_type _ = None

-- a local of the body, as it stands in the row of its locals
abbrev pub local_type : Code → ℕ → Option TyRef
local_type c k = option_map (λ token. ref (method_of c.program c.method).assembly token k) c.body.locals

-- the types of the clause's own locals, in the order in which its instructions name them
abbrev pub clause_locals : Code → Segment → List TyRef
clause_locals c s = filter_map (local_type c) (locals_named (code_of c s))

abbrev pub has_exception : ClauseKind → Bool
has_exception kind.RequiresOf = true
has_exception kind.Throws = true
has_exception _ = false

abbrev pub exception_of : ClauseKind → Operand → Option TyRef
exception_of k x = if has_exception k then argument_type x else None

-- ---- old ranges

abbrev pub old_from : ℕ → Segment → ℕ → Option ℕ → Option TyRef → Option Old
old_from setup s at (Some from) (Some ty) = Some (record { from = moved setup s from; to = moved setup s at; ty = ty })
old_from setup s at _ _ = None

-- the range of the argument of an OldValue call, where the set-up takes so many instructions
abbrev pub old_at : Code → ℕ → Segment → ℕ × Instr → Option Old
old_at c setup s x =
    if is_old (contract_call c.program x.1)
    then old_from setup s x.0 (last_argument c x.0) (argument_type x.1.operand)
    else None

abbrev pub clause_olds : Code → Segment → List Old
clause_olds c s = filter_map (old_at c (length (setup c s)) s) (segment_code c s)
