-- The locals of the lead-in that hold a closure, and the code that sets one up anew for a clause (this project's own).
use Rattle.std.specs.Prelude.{ℕ, ◌+◌, Bool, true, false, ◌&&◌, ◌||◌, ◌==◌, not, nat_lt, nat_le, bytes_eq, List, [], ◌∷◌, ◌++◌, filter, map, drop, find, length, Option, Some, None, option_and_then, count_by, codes, if◌then◌else◌}
use Rattle.std.specs.List.{list_any, list_all, flat_map, filter_map, enumerate_from, slice_range}
use Rattle.std.specs.Fn.{iterate}
use Rattle.cil_model.specs.declared.body.Instr.{Instr}
use Rattle.cil_model.specs.declared.body.Body.{Body}
use Rattle.cil_model.specs.declared.ty.Ty.{out-Ty}
use Rattle.cil_model.specs.declared.program.Program.{Program}
use Rattle.cil_model.specs.declared.program.TypeDesc.{TypeDesc}
use Rattle.cil_model.specs.declared.program.MethodDesc.{MethodDesc}
use Rattle.cil_model.specs.declared.program.Kind.{Kind}
use Rattle.cil_model.specs.declared.program.Kind.TheVariants as type_kind
use Rattle.cil_model.specs.declared.program.Meaning.{Meaning}
use Rattle.cil_model.specs.declared.program.Meaning.TheVariants.{OfMethod}
use Rattle.cil_semantics.specs.Words.{maybe}
use Rattle.cil_semantics.specs.Types.{is_prim}
use Rattle.cil_semantics.specs.Lookups.{type_of, method_of}
use Rattle.cil_semantics.specs.Tokens.{own_meaning}
use Rattle.contract_parts.specs.declared.made.Made.{Made}
use Rattle.contract_parts.specs.declared.statement.Statement.{Statement}
use Rattle.contract_parts.specs.Flow.{Code, placed}
use Rattle.contract_parts.specs.Parts.{statements, lead_end, is_nop, no_nops, makes_closure, made_type, loaded, stored, named, is_it, loads_this, first_line, three_of}

-- ---- classes of closures

abbrev pub is_class : Kind → Bool
is_class type_kind.Class = true
is_class _ = false

abbrev pub is_initializer : MethodDesc → Bool
is_initializer d = bytes_eq d.name (codes ".cctor")

abbrev pub has_initializer : Program → TypeDesc → Bool
has_initializer p t = list_any (λ m. is_initializer (method_of p m)) t.methods

abbrev pub is_constructor : MethodDesc → Bool
is_constructor d = bytes_eq d.name (codes ".ctor")

abbrev pub is_object_call : Program → Option Meaning → Bool
is_object_call p (Some (OfMethod owner m args)) = is_prim 0x1C (out-Ty owner) && is_constructor (method_of p m)
is_object_call p _ = false

-- a constructor's code that is the call of Object's constructor on `this` and ret
abbrev pub only_calls_object : Program → Instr × Instr × Instr → Bool
only_calls_object p x = loads_this x.0 && ((x.1.op == 0x28) && (is_object_call p (own_meaning p x.1.operand) && (x.2.op == 0x2A)))

abbrev pub body_does_nothing : Program → Body → Bool
body_does_nothing p b = maybe false (only_calls_object p) (three_of (no_nops b.instrs))

abbrev pub does_nothing : Program → MethodDesc → Bool
does_nothing p d = (length d.params == 0) && maybe false (body_does_nothing p) d.body

abbrev pub is_plain_constructor : Program → Option Meaning → Bool
is_plain_constructor p (Some (OfMethod owner m args)) = does_nothing p (method_of p m)
is_plain_constructor p _ = false

-- a class of no reference assembly, without initializer
abbrev pub is_plain_class : Program → TypeDesc → Bool
is_plain_class p t = is_class t.kind && (not t.reference && not (has_initializer p t))

-- newobj of a nested class that a compiler made, of no reference assembly, without initializer, whose constructor does nothing
abbrev pub makes_plain_closure : Program → Instr → Bool
makes_plain_closure p i =
    makes_closure p i
    && (maybe false (λ k. is_plain_class p (type_of p k)) (made_type p i.operand) && is_plain_constructor p (own_meaning p i.operand))

-- ---- closure locals

-- the next instruction from a place on that is no nop, with its place
abbrev pub next_line : Code → ℕ → Option (ℕ × Instr)
next_line c q = find (λ (x : ℕ × Instr). not (is_nop x.1)) (enumerate_from q (drop q c.body.instrs))

abbrev pub made_by : ℕ → ℕ × Instr → Option Made
made_by maker y = maybe None (λ k. Some (record { local = k; maker = maker; place = y.0 })) (stored y.1)

-- an instruction that makes such a closure, and a stloc next to it
abbrev pub made_at : Code → ℕ × Instr → Option Made
made_at c x = if makes_plain_closure c.program x.1 then option_and_then (made_by x.0) (next_line c (x.0 + 1)) else None

abbrev pub is_addressed : ℕ → Instr → Bool
is_addressed k i = (i.op == 0xFE0D) && is_it k (named i)

abbrev pub stores_of : List Instr → ℕ → ℕ
stores_of is k = count_by (λ i. is_it k (stored i)) is

-- just one stloc stores it, in the lead-in, and no ldloca names it
abbrev pub is_stored_once : Code → Made → Bool
is_stored_once c x =
    nat_lt x.place (lead_end c)
    && ((stores_of c.body.instrs x.local == 1) && not (list_any (is_addressed x.local) c.body.instrs))

abbrev pub if_stored_once : Code → Made → Option Made
if_stored_once c x = if is_stored_once c x then Some x else None

abbrev pub candidate : Code → ℕ × Instr → Option Made
candidate c x = option_and_then (if_stored_once c) (made_at c x)

abbrev pub candidates : Code → List Made
candidates c = filter_map (candidate c) (placed c)

-- the statements of the lead-in
abbrev pub lead_statements : Code → List (List Instr)
lead_statements c =
    map (λ (s : Statement). slice_range c.body.instrs s.from s.to) (filter (λ (s : Statement). nat_le s.to (lead_end c)) (statements c))

-- ldarg, ldnull, ldc.i4, ldc.i8 and ldstr
abbrev pub is_constant : Instr → Bool
is_constant i = (i.op == 0xFE09) || ((i.op == 0x14) || ((i.op == 0x20) || ((i.op == 0x21) || (i.op == 0x72))))

-- a local whose closure is stored before that of another
abbrev pub is_earlier : List Made → Made → ℕ → Bool
is_earlier xs x k = list_any (λ (y : Made). (y.local == k) && nat_lt y.place x.place) xs

-- a value that a statement may store into the closure
abbrev pub is_value : List Made → Made → Instr → Bool
is_value xs x v = is_constant v || maybe false (is_earlier xs x) (loaded v)

-- the statement `ldloc; v; stfld` of a local, nops aside
abbrev pub sets_field : (Instr → Bool) → (Instr → Bool) → List Instr → Bool
sets_field of value is = maybe false (λ (x : Instr × Instr × Instr). of x.0 && (value x.1 && (x.2.op == 0x7D))) (three_of (no_nops is))

abbrev pub loads : ℕ → Instr → Bool
loads k i = is_it k (loaded i)

abbrev pub loads_other : List Made → ℕ → Instr → Bool
loads_other xs k i = list_any (λ (y : Made). not (y.local == k) && loads y.local i) xs

-- each ldloc of the local is followed by ldfld
abbrev pub is_field_load : Option Instr → Bool
is_field_load None = false
is_field_load (Some i) = i.op == 0x7B

abbrev pub reads_fields : ℕ → List Instr → Bool
reads_fields k [] = true
reads_fields k (i ∷ is) = (not (loads k i) || is_field_load (first_line is)) && reads_fields k is

-- in a statement, the local is set up, is the value that another closure's field is set to, or has its fields read
abbrev pub uses_well : List Made → Made → List Instr → Bool
uses_well xs x is =
    sets_field (loads x.local) (is_value xs x) is || (sets_field (loads_other xs x.local) (loads x.local) is || reads_fields x.local is)

-- where just some locals count as closure locals, one of them is used as a closure local is
abbrev pub is_well_used : Code → List Made → Made → Bool
is_well_used c xs x = list_all (uses_well xs x) (lead_statements c)

abbrev pub well_used : Code → List Made → List Made
well_used c xs = filter (is_well_used c xs) xs

-- The closure locals, by the places of their stloc: the most candidates that are used well together.
abbrev pub closures : Code → List Made
closures c = iterate (well_used c) (length (candidates c)) (candidates c)

abbrev pub closure_numbers : Code → List ℕ
closure_numbers c = map (λ (x : Made). x.local) (closures c)

abbrev pub is_closure : Code → ℕ → Bool
is_closure c k = list_any (λ j. j == k) (closure_numbers c)

-- ---- set-up

-- a statement that sets a field of a closure local, and none else
abbrev pub field_setting : ℕ → List Instr → List Instr
field_setting k is = if sets_field (loads k) (λ v. true) is then no_nops is else []

-- the newobj and stloc of a closure local, and the statements that set its fields
abbrev pub own_setup : Code → Made → List Instr
own_setup c x =
    slice_range c.body.instrs x.maker (x.maker + 1) ++ slice_range c.body.instrs x.place (x.place + 1) ++ flat_map (field_setting x.local) (lead_statements c)

-- a closure that a statement puts into a field of the other
abbrev pub is_put_into : Code → Made → Made → Bool
is_put_into c y x = list_any (sets_field (loads x.local) (loads y.local)) (lead_statements c)

abbrev pub holds_local : List Made → ℕ → Bool
holds_local xs k = list_any (λ (x : Made). x.local == k) xs

abbrev pub is_with : Code → List Made → Made → Bool
is_with c xs y = holds_local xs y.local || list_any (is_put_into c y) xs

-- with some closures, those that are put into them
abbrev pub with_inner : Code → List Made → List Made
with_inner c xs = filter (is_with c xs) (closures c)

abbrev pub is_among : List ℕ → Made → Bool
is_among ks x = list_any (λ k. k == x.local) ks

-- the closures that some locals need: those that these locals hold, and those put into them, at any depth
abbrev pub needed : Code → List ℕ → List Made
needed c ks = iterate (with_inner c) (length (closures c)) (filter (is_among ks) (closures c))

-- the set-up of the closure locals among some, each once, by the places of their stloc
abbrev pub setups : Code → List ℕ → List Instr
setups c ks = flat_map (own_setup c) (needed c ks)

-- the set-up of one local, if it is a closure local
abbrev pub setup_of : Code → ℕ → Option (List Instr)
setup_of c k = if is_closure c k then Some (setups c (k ∷ [])) else None
