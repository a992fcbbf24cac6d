-- The parts of a body: its lead-in, the segments of its contract block, and its rest (Code Contracts User Manual, section 2; the lead-in is this project's own).
use Rattle.std.specs.Prelude.{ℕ, ◌+◌, Bool, true, false, ◌&&◌, ◌||◌, ◌==◌, not, nat_le, bytes_eq, List, [], ◌∷◌, filter, map, find, reverse, length, is_some, Option, Some, None, option_and_then, option_map, codes, if◌then◌else◌}
use Rattle.std.specs.List.{list_any, slice_range, enumerate_from}
use Rattle.cil_model.specs.declared.ty.Ty.{Ty, out-Ty}
use Rattle.cil_model.specs.declared.ty.Ty.TheOpen.{Ty-F}
use Rattle.cil_model.specs.declared.body.Instr.{Instr}
use Rattle.cil_model.specs.declared.body.Operand.{Operand}
use Rattle.cil_model.specs.declared.body.Operand.TheVariants.{Index}
use Rattle.cil_model.specs.declared.program.Program.{Program}
use Rattle.cil_model.specs.declared.program.Meaning.{Meaning}
use Rattle.cil_model.specs.declared.program.Meaning.TheVariants.{OfMethod}
use Rattle.cil_semantics.specs.Words.{maybe, only}
use Rattle.cil_semantics.specs.Lookups.{type_of, method_of, in_set}
use Rattle.cil_semantics.specs.Types.{Layer, is_prim, is_outside}
use Rattle.cil_semantics.specs.Tokens.{own_meaning}
use Rattle.cil_semantics.specs.ContractCalls.{contract_call}
use Rattle.contract_parts.specs.declared.segment.Segment.{Segment}
use Rattle.contract_parts.specs.declared.statement.Statement.{Statement}
use Rattle.contract_parts.specs.Flow.{Code, placed, boundaries, argument}
use Rattle.contract_parts.specs.CallKinds.{is_prefix}

-- ---- instructions

abbrev pub is_nop : Instr → Bool
is_nop i = i.op == 0x00

abbrev pub begins_with_nop : List Instr → Bool
begins_with_nop [] = false
begins_with_nop (i ∷ is) = is_nop i

abbrev pub no_nops : List Instr → List Instr
no_nops is = filter (λ (i : Instr). not (is_nop i)) is

abbrev pub index_of : Operand → Option ℕ
index_of (Index k) = Some k
index_of _ = None

abbrev pub index_if : Bool → Operand → Option ℕ
index_if true x = index_of x
index_if false x = None

-- the local that an instruction loads, that it stores, and that it names at all (ECMA-335, III.3.43, III.3.63 and III.3.44)
abbrev pub loaded : Instr → Option ℕ
loaded i = index_if (i.op == 0xFE0C) i.operand

abbrev pub stored : Instr → Option ℕ
stored i = index_if (i.op == 0xFE0E) i.operand

abbrev pub named : Instr → Option ℕ
named i = index_if ((i.op == 0xFE0C) || ((i.op == 0xFE0E) || (i.op == 0xFE0D))) i.operand

-- the local whose value or address an instruction takes
abbrev pub read : Instr → Option ℕ
read i = index_if ((i.op == 0xFE0C) || (i.op == 0xFE0D)) i.operand

-- the local that an instruction stores, or whose address it takes, through which a call may store
abbrev pub written : Instr → Option ℕ
written i = index_if ((i.op == 0xFE0E) || (i.op == 0xFE0D)) i.operand

abbrev pub is_it : ℕ → Option ℕ → Bool
is_it k None = false
is_it k (Some j) = j == k

-- ---- prefix calls

abbrev pub is_prefix_at : Code → ℕ × Instr → Bool
is_prefix_at c x = is_prefix (contract_call c.program x.1)

-- the places of the prefix calls, rising
abbrev pub prefixes : Code → List ℕ
prefixes c = map (λ (x : ℕ × Instr). x.0) (filter (is_prefix_at c) (placed c))

-- ---- closure set-up

-- the first instruction that is no nop, and the last
abbrev pub first_line : List Instr → Option Instr
first_line is = find (λ (i : Instr). not (is_nop i)) is

abbrev pub last_line : List Instr → Option Instr
last_line is = first_line (reverse is)

-- the instructions, where there are just three
abbrev pub three_of : List Instr → Option (Instr × Instr × Instr)
three_of (i ∷ j ∷ k ∷ []) = Some (i, j, k)
three_of _ = None

-- the number of a type of the set
abbrev pub number_of : Layer → Option ℕ
number_of t = option_map (λ (d : ℕ × List Ty). d.0) (in_set t)

abbrev pub type_number : Ty → Option ℕ
type_number t = number_of (out-Ty t)

abbrev pub owner_of : Option Meaning → Option Ty
owner_of (Some (OfMethod owner m args)) = Some owner
owner_of _ = None

-- a nested type that a compiler made
abbrev pub is_nested_generated : Program → ℕ → Bool
is_nested_generated p k = (type_of p k).generated && is_some (type_of p k).enclosing

-- the type of the set of which an operand names a member
abbrev pub made_type : Program → Operand → Option ℕ
made_type p x = option_and_then type_number (owner_of (own_meaning p x))

-- newobj of such a type (ECMA-335, III.4.21)
abbrev pub makes_closure : Program → Instr → Bool
makes_closure p i = (i.op == 0x73) && maybe false (is_nested_generated p) (made_type p i.operand)

-- the local into which an instruction's new closure goes, where the next instruction stores it
abbrev pub closure_put : Program → Instr → List Instr → Option ℕ
closure_put p i is = if makes_closure p i then option_and_then stored (first_line is) else None

-- the locals into which closures go
abbrev pub closures_in : Program → List Instr → List ℕ
closures_in p [] = []
closures_in p (i ∷ is) = maybe (closures_in p is) (λ k. k ∷ closures_in p is) (closure_put p i is)

abbrev pub loads_one_of : List ℕ → Option Instr → Bool
loads_one_of ks None = false
loads_one_of ks (Some i) = list_any (λ k. is_it k (loaded i)) ks

abbrev pub is_field_store : Option Instr → Bool
is_field_store None = false
is_field_store (Some i) = i.op == 0x7D

-- A statement is closure set-up: it puts a closure into a local, or ends with a store into a field and begins with such a local.
abbrev pub sets_up_closure : Code → Statement → Bool
sets_up_closure c s =
    list_any (λ k. true) (closures_in c.program (slice_range c.body.instrs s.from s.to))
    || (is_field_store (last_line (slice_range c.body.instrs s.from s.to))
    && loads_one_of (closures_in c.program (slice_range c.body.instrs 0 s.from)) (first_line (slice_range c.body.instrs s.from s.to)))

-- ---- constructor calls

abbrev pub is_constructor_name : List ℕ → Bool
is_constructor_name name = bytes_eq name (codes ".ctor")

-- two types are of one definition: a type of the set, an outside type or a type of one byte, whatever their arguments
abbrev pub same_definition : Layer → Layer → Bool
same_definition (Ty-F.Prim b) u = is_prim b u
same_definition (Ty-F.Outside name value) u = is_outside name u
same_definition (Ty-F.Known k) u = is_it k (number_of u)
same_definition (Ty-F.Inst k args) u = is_it k (number_of u)
same_definition _ u = false

-- the type itself, or its base
abbrev pub is_own_or_base : Program → ℕ → Ty → Bool
is_own_or_base p t owner = is_it t (type_number owner) || maybe false (λ (base : Ty). same_definition (out-Ty base) (out-Ty owner)) (type_of p t).base

abbrev pub is_base_call_in : Program → ℕ → Option Meaning → Bool
is_base_call_in p m (Some (OfMethod owner called args)) =
    is_constructor_name (method_of p called).name && (is_constructor_name (method_of p m).name && is_own_or_base p (method_of p m).owner owner)
is_base_call_in p m _ = false

-- ldarg.0, `this` in an instance method (ECMA-335, III.3.38)
abbrev pub loads_this : Instr → Bool
loads_this i = (i.op == 0xFE09) && is_it 0 (index_of i.operand)

abbrev pub is_this_range : Code → Option (ℕ × ℕ) → Bool
is_this_range c None = false
is_this_range c (Some r) = maybe false loads_this (only (no_nops (slice_range c.body.instrs r.0 r.1)))

-- the argument that all parameters follow is `this`
abbrev pub is_on_this : Code → ℕ → Option Meaning → Bool
is_on_this c at (Some (OfMethod owner called args)) = is_this_range c (argument c (length (method_of c.program called).params) at)
is_on_this c at _ = false

-- a call of a constructor of the own type or its base on `this`
abbrev pub is_base_call : Code → ℕ × Instr → Bool
is_base_call c x =
    (x.1.op == 0x28)
    && (is_base_call_in c.program c.method (own_meaning c.program x.1.operand) && is_on_this c x.0 (own_meaning c.program x.1.operand))

-- ---- the lead-in

-- A statement is the code between two neighbouring boundaries.
abbrev pub neighbours : ℕ → List ℕ → List Statement
neighbours k [] = []
neighbours k (j ∷ js) = record { from = k; to = j } ∷ neighbours j js

abbrev pub statements_of : List ℕ → List Statement
statements_of [] = []
statements_of (k ∷ ks) = neighbours k ks

abbrev pub statements : Code → List Statement
statements c = statements_of (boundaries c)

abbrev pub is_throw : Instr → Bool
is_throw i = i.op == 0x7A

-- it contains a throw, calls a base or own constructor on `this`, or is closure set-up
abbrev pub is_led : Code → Statement → Bool
is_led c s =
    list_any is_throw (slice_range c.body.instrs s.from s.to)
    || (list_any (is_base_call c) (enumerate_from s.from (slice_range c.body.instrs s.from s.to)) || sets_up_closure c s)

-- the end of the last statement, or a place where there is none
abbrev pub last_end : ℕ → List Statement → ℕ
last_end from [] = from
last_end from (s ∷ ss) = last_end s.to ss

-- where the lead-in ends: behind the last such statement that ends before the first prefix call
abbrev pub end_before : Code → List ℕ → ℕ
end_before c [] = 0
end_before c (first ∷ more) = last_end 0 (filter (λ (s : Statement). nat_le s.to first && is_led c s) (statements c))

abbrev pub lead_end : Code → ℕ
lead_end c = end_before c (prefixes c)

-- ---- segments and rest

-- each begins where the one before ended
abbrev pub segments_from : ℕ → List ℕ → List Segment
segments_from from [] = []
segments_from from (at ∷ more) = record { from = from; at = at } ∷ segments_from (at + 1) more

abbrev pub segments : Code → List Segment
segments c = segments_from (lead_end c) (prefixes c)

-- the rest begins behind the last prefix call
abbrev pub rest_behind : ℕ → List ℕ → ℕ
rest_behind from [] = from
rest_behind from (at ∷ more) = rest_behind (at + 1) more

abbrev pub rest_from : Code → ℕ
rest_from c = rest_behind 0 (prefixes c)

abbrev pub is_in : ℕ → Segment → Bool
is_in q s = nat_le s.from q && nat_le q s.at

-- the instructions of a segment with their places, the prefix call last
abbrev pub segment_code : Code → Segment → List (ℕ × Instr)
segment_code c s = enumerate_from s.from (slice_range c.body.instrs s.from (s.at + 1))

abbrev pub segment_instrs : Code → Segment → List Instr
segment_instrs c s = slice_range c.body.instrs s.from (s.at + 1)
