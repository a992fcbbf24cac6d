-- The rules on contract blocks, each at its place (Code Contracts User Manual, section 2; closed ranges and the lead-in are this project's own).
use Rattle.std.specs.Prelude.{ℕ, ◌+◌, Bool, true, false, ◌&&◌, ◌||◌, ◌==◌, not, nat_lt, nat_le, List, [], ◌∷◌, filter, map, get_or, slice_get, length, find, Option, Some, None, option_and_then, if◌then◌else◌}
use Rattle.std.specs.List.{list_any, flat_map, slice_range}
use Rattle.cil_base.specs.declared.refusal.Place.{Place}
use Rattle.cil_base.specs.declared.refusal.Refusal.{Refusal}
use Rattle.cil_base.specs.declared.rule.Rule.{Rule}
use Rattle.cil_base.specs.declared.rule.Rule.TheVariants.{C1, C2, C3, C4, C5, C6, C7}
use Rattle.cil_base.specs.Refusals.{Test, refusal, Fails}
use Rattle.cil_model.specs.declared.body.Instr.{Instr}
use Rattle.cil_model.specs.declared.body.Region.{Region}
use Rattle.cil_model.specs.declared.contract.ClauseKind.{ClauseKind}
use Rattle.cil_model.specs.declared.contract.ClauseKind.TheVariants as kind
use Rattle.cil_model.specs.declared.ty.Ty.{Ty}
use Rattle.cil_model.specs.declared.program.Program.{Program}
use Rattle.cil_model.specs.declared.program.Meaning.{Meaning}
use Rattle.cil_model.specs.declared.program.Meaning.TheVariants.{OfMethod}
use Rattle.cil_semantics.specs.Words.{maybe}
use Rattle.cil_semantics.specs.Lookups.{type_of, method_of}
use Rattle.cil_semantics.specs.Unwind.{holds_place}
use Rattle.cil_semantics.specs.declared.contract_call.ContractCall.{ContractCall}
use Rattle.contract_parts.specs.declared.segment.Segment.{Segment}
use Rattle.cil_semantics.specs.Tokens.{own_meaning}
use Rattle.il_flow.specs.Successors.{targets}
use Rattle.contract_parts.specs.Flow.{Code, placed, has_result, height_behind, last_argument}
use Rattle.cil_semantics.specs.ContractCalls.{contract_call}
use Rattle.contract_parts.specs.CallKinds.{ends_block, is_prefix, is_result, is_old, is_of_postcondition, ended_kind}
use Rattle.contract_parts.specs.Parts.{is_nop, written, segments, segment_code, segment_instrs, lead_end, rest_from, is_in, is_throw, read, stored, named, is_it}
use Rattle.contract_parts.specs.Closures.{is_closure}
use Rattle.contract_extract.specs.Clauses.{has_exception}
use Rattle.contract_extract.specs.OwnContract.{ended_at}
use Rattle.contract_extract.specs.Exceptions.{is_wrong_type}

-- ---- segments

-- the segment in which a place lies
abbrev pub segment_at : Code → ℕ → Option Segment
segment_at c q = find (is_in q) (segments c)

-- the segment that begins at a place
abbrev pub segment_from : Code → ℕ → Option Segment
segment_from c q = find (λ (s : Segment). s.from == q) (segments c)

-- the kind of the clause in whose segment a place lies
abbrev pub kind_at : Code → ℕ → Option ClauseKind
kind_at c q = option_and_then (λ s. ended_at c s.at) (segment_at c q)

-- ---- C1: a prefix call inside a region, crossed by a branch, or in code that a compiler made

-- the instruction at a place is part of a region
abbrev pub has_place : ℕ → Region → Bool
has_place q r = holds_place r.try_from r.try_to q || holds_place r.handler_from r.handler_to q

-- a branch leads from before a call to behind it, or from behind it to it or before it
abbrev pub crosses : ℕ → ℕ × Instr → Bool
crosses q x = list_any (λ t. (nat_lt x.0 q && nat_lt q t) || (nat_lt q x.0 && nat_le t q)) (targets x.1.operand)

abbrev pub is_generated : Program → ℕ → Bool
is_generated p m = (method_of p m).generated || (type_of p (method_of p m).owner).generated

abbrev pub breaks_1 : Code → ℕ × Instr → Bool
breaks_1 c x =
    is_prefix (contract_call c.program x.1)
    && (list_any (has_place x.0) c.body.regions || (list_any (crosses x.0) (placed c) || is_generated c.program c.method))

-- ---- C2: at its beginning, a segment whose prefix call no path reaches or leaves values on the stack, which holds a part of a region or a ret, or whose code would be dropped

abbrev pub meets : ℕ → ℕ → Region → Bool
meets from to r = (nat_lt from r.try_to && nat_lt r.try_from to) || (nat_lt from r.handler_to && nat_lt r.handler_from to)

abbrev pub is_ret : Instr → Bool
is_ret i = i.op == 0x2A

abbrev pub leaves_none : Code → ℕ → Option Instr → Bool
leaves_none c at None = false
leaves_none c at (Some i) = height_behind c (at, i) == 0

abbrev pub is_left_empty : Code → Segment → Bool
is_left_empty c s = get_or c.reached s.at false && leaves_none c s.at (slice_get c.body.instrs s.at)

-- EndContractBlock gives no clause: before it, its segment has nops alone
abbrev pub drops_code : Code → Segment → Bool
drops_code c s =
    maybe false (λ i. ends_block (contract_call c.program i)) (slice_get c.body.instrs s.at) && list_any (λ i. not (is_nop i)) (slice_range c.body.instrs s.from s.at)

abbrev pub segment_breaks_2 : Code → Segment → Bool
segment_breaks_2 c s =
    not (is_left_empty c s) || (list_any (meets s.from (s.at + 1)) c.body.regions || (list_any is_ret (segment_instrs c s) || drops_code c s))

abbrev pub breaks_2 : Code → ℕ × Instr → Bool
breaks_2 c x = maybe false (segment_breaks_2 c) (segment_from c x.0)

-- ---- C3: Result outside Ensures or without a result, OldValue or ValueAtReturn outside Ensures and EnsuresOnThrow, Invariant in another method

abbrev pub is_ensures : Option ClauseKind → Bool
is_ensures (Some kind.Ensures) = true
is_ensures _ = false

abbrev pub is_postcondition : Option ClauseKind → Bool
is_postcondition (Some kind.Ensures) = true
is_postcondition (Some kind.Throws) = true
is_postcondition _ = false

abbrev pub is_invariant : Option ClauseKind → Bool
is_invariant (Some kind.Invariant) = true
is_invariant _ = false

-- a result, or an abbreviator's
abbrev pub may_name_result : Program → ℕ → Bool
may_name_result p m = has_result (method_of p m) || (method_of p m).abbreviator

abbrev pub breaks_3 : Code → ℕ × Instr → Bool
breaks_3 c x =
    let call : ContractCall = contract_call c.program x.1 in
    (is_result call && not (is_ensures (kind_at c x.0) && may_name_result c.program c.method))
    || ((is_of_postcondition call && not (is_postcondition (kind_at c x.0)))
    || (is_invariant (ended_kind call) && not (method_of c.program c.method).invariant))

-- ---- C4: an OldValue call that no path reaches, or whose argument isn't to be evaluated at entry

abbrev pub isnt_of_entry : ContractCall → Bool
isnt_of_entry call = is_result call || is_of_postcondition call

abbrev pub is_stored_by : List Instr → Instr → Bool
is_stored_by is i = maybe false (λ k. list_any (λ j. is_it k (stored j)) is) (read i)

-- the instructions of the segment outside the range
abbrev pub outside_range : Code → Segment → ℕ → ℕ → List Instr
outside_range c s from to = map (λ (x : ℕ × Instr). x.1) (filter (λ (x : ℕ × Instr). not (holds_place from to x.0)) (segment_code c s))

abbrev pub range_breaks_4 : Code → ℕ → ℕ → Segment → Bool
range_breaks_4 c from to s =
    list_any (λ i. isnt_of_entry (contract_call c.program i) || is_stored_by (outside_range c s from to) i) (slice_range c.body.instrs from to)

abbrev pub old_breaks_4 : Code → ℕ → Option ℕ → Bool
old_breaks_4 c at None = true
old_breaks_4 c at (Some from) = maybe false (range_breaks_4 c from at) (segment_at c at)

abbrev pub breaks_4 : Code → ℕ × Instr → Bool
breaks_4 c x = is_old (contract_call c.program x.1) && (not (get_or c.reached x.0 false) || old_breaks_4 c x.0 (last_argument c x.0))

-- ---- C5: at its beginning, a segment that holds a throw

abbrev pub breaks_5 : Code → ℕ × Instr → Bool
breaks_5 c x = maybe false (λ s. list_any is_throw (segment_instrs c s)) (segment_from c x.0)

-- ---- C6: at the instruction that names it, a local of the lead-in in a segment, a closure local in an argument of OldValue, a local of segments in the rest

-- a call may store through the address of a local
abbrev pub lead_writes : Code → ℕ → Bool
lead_writes c k = list_any (λ i. is_it k (written i)) (slice_range c.body.instrs 0 (lead_end c))

abbrev pub block_writes : Code → ℕ → Bool
block_writes c k = list_any (λ i. is_it k (written i)) (slice_range c.body.instrs (lead_end c) (rest_from c))

abbrev pub lead_stores : Code → ℕ → Bool
lead_stores c k = list_any (λ i. is_it k (stored i)) (slice_range c.body.instrs 0 (lead_end c))

abbrev pub rest_stores : Code → ℕ → Bool
rest_stores c k = list_any (λ i. is_it k (stored i)) (slice_range c.body.instrs (rest_from c) (length c.body.instrs))

abbrev pub is_in_block : Code → ℕ → Bool
is_in_block c q = holds_place (lead_end c) (rest_from c) q

-- the place lies in the range of an argument of OldValue
abbrev pub range_holds : Code → ℕ → ℕ × Instr → Bool
range_holds c q x = is_old (contract_call c.program x.1) && maybe false (λ from. holds_place from x.0 q) (last_argument c x.0)

abbrev pub is_in_old : Code → ℕ → Bool
is_in_old c q = maybe false (λ s. list_any (range_holds c q) (segment_code c s)) (segment_at c q)

abbrev pub named_breaks_6 : Code → ℕ → ℕ → Bool
named_breaks_6 c q k =
    is_in_block c q && (if is_closure c k then is_in_old c q else lead_writes c k)

abbrev pub read_breaks_6 : Code → ℕ → ℕ → Bool
read_breaks_6 c q k = nat_le (rest_from c) q && (block_writes c k && not (lead_stores c k || rest_stores c k))

abbrev pub breaks_6 : Code → ℕ × Instr → Bool
breaks_6 c x = maybe false (named_breaks_6 c x.0) (named x.1) || maybe false (read_breaks_6 c x.0) (read x.1)

-- ---- C7: the type argument is no exception type, or of the set and not to be made

-- the type argument of the member
abbrev pub type_argument : Option Meaning → Option Ty
type_argument (Some (OfMethod owner m args)) = slice_get args 0
type_argument _ = None

abbrev pub kind_breaks_7 : Code → Instr → ClauseKind → Bool
kind_breaks_7 c i k = has_exception k && maybe true (is_wrong_type c.program c.method k) (type_argument (own_meaning c.program i.operand))

abbrev pub breaks_7 : Code → ℕ × Instr → Bool
breaks_7 c x = maybe false (kind_breaks_7 c x.1) (ended_kind (contract_call c.program x.1))

-- ---- all of them, in the order of places and then of rules

abbrev pub place_of : Program → ℕ → Place
place_of p m = record { assembly = (method_of p m).assembly; table = 6; row = (method_of p m).row }

abbrev pub test : Code → ℕ × Instr → Rule → Bool → Test
test c x rule fails = record { refusal = refusal rule (place_of c.program c.method) (get_or c.body.offsets x.0 0); fails = fails }

abbrev pub tests_at : Code → ℕ × Instr → List Test
tests_at c x =
    test c x C1 (breaks_1 c x) ∷ test c x C2 (breaks_2 c x) ∷ test c x C3 (breaks_3 c x) ∷ test c x C4 (breaks_4 c x)
    ∷ test c x C5 (breaks_5 c x) ∷ test c x C6 (breaks_6 c x) ∷ test c x C7 (breaks_7 c x) ∷ []

unfoldable pub tests : Code → List Test
tests c = flat_map (tests_at c) (placed c)

-- the body of a method breaks a rule
abbrev pub Broken : Code → Refusal → Type 0
Broken c r = Fails (tests c) r
