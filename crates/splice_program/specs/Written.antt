-- The written bodies of the two methods, laid down by hand, and where the old places stand in them.
use Rattle.std.specs.Prelude.{ℕ, zero, suc, ◌+◌, get_or, nat_le, Bool, List, [], ◌∷◌, ◌++◌, Some, pos, negsuc}
use Rattle.cil_model.specs.declared.body.Instr.{Instr}
use Rattle.cil_model.specs.declared.body.Region.{Region}
use Rattle.cil_model.specs.declared.body.RegionKind.TheVariants as region
use Rattle.cil_model.specs.declared.contract.Group.{Group}
use Rattle.cil_model.specs.declared.contract.Group.TheVariants as group
use Rattle.cil_model.specs.declared.program.MethodDesc.{MethodDesc}
use Rattle.cil_model.specs.declared.program.Program.{Program}
use Rattle.cil_semantics.specs.Core.{string_ty, object_ty}
use Rattle.cil_semantics.specs.declared.state.ProgramPoint.{ProgramPoint}
use Rattle.cil_semantics.specs.declared.state.ProgramPoint.TheVariants.{LeadIn, InGroup, Rest}
use Rattle.cil_semantics.specs.Unwind.{holds_place}
use Rattle.splice_facts.specs.Bodies.{with_methods}
use Rattle.splice_facts.specs.Layout.{Marks}
use Rattle.splice_laws.specs.EntryCode.{bool_ty, reports, Tools}
use Rattle.splice_laws.specs.Helpers.{int32}
use Rattle.splice_laws.specs.Straight.{bare, ldc, ldarg, ldloc, stloc, ldnull, pop, ret, throw, call, br, brtrue, brfalse, leave, endfinally}
use Rattle.throw_laws.specs.ThrowCode.{isinst}
use Rattle.splice_rows.specs.OneRequires.{token, a_body, cgt, kept_marks}
use Rattle.splice_program.specs.Program.{input, methods_with, nop, loads_ok, inc_rest}

-- ---- Next

-- its locals: the captured value, a condition, a message, the result, and what was thrown
abbrev pub next_tools : Tools
next_tools = record { enter = token 6 9; leave = token 6 11; fail = token 6 12; condition = 1; message = 2 }

abbrev pub outer_tools : Tools
outer_tools = record { enter = token 6 10; leave = token 6 11; fail = token 6 12; condition = 1; message = 2 }

abbrev pub captured : ℕ
captured = 0

abbrev pub result : ℕ
result = 3

abbrev pub thrown : ℕ
thrown = 4

-- the end of a clause without a message
abbrev pub ends : (kind label on : ℕ) → List Instr
ends n label on = reports 0 next_tools n ldnull (token 0x70 label) on

abbrev pub lowers : List Instr
lowers = call 0 next_tools.leave ∷ endfinally ∷ []

-- from 1 on: the precondition, and the capture within a catch of its own
abbrev pub entry_group : List Instr
entry_group =
    call 0 next_tools.enter ∷ brfalse 21
    ∷ ldarg 1 ∷ ldc (negsuc 0) ∷ cgt ∷ ends 0 1 13 ++ leave 14
    ∷ ldarg 1 ∷ stloc captured ∷ leave 21 ∷ pop ∷ leave 21
    ∷ lowers

-- an instruction that isn't run, where the rest ends
abbrev pub not_run : Instr
not_run = bare 0x22

-- from 21 on: the rest within the wrapper, whose handler keeps the exception
abbrev pub wrapped_rest : List Instr
wrapped_rest =
    ldarg 1 ∷ brtrue 26 ∷ ldc (pos 1) ∷ stloc result ∷ leave 55
    ∷ ldarg 1 ∷ call 0 (token 6 1) ∷ stloc result ∷ leave 55
    ∷ not_run
    ∷ stloc thrown ∷ leave 33 ∷ []

-- from 33 on: where the exception is of the clause's type its clause is checked, and it is thrown on
abbrev pub throw_group : List Instr
throw_group =
    ldloc thrown ∷ isinst 0 (token 1 2) ∷ brtrue 37 ∷ br 53
    ∷ call 0 next_tools.enter ∷ brfalse 53 ∷ br 40
    ∷ loads_ok ++ ends 2 3 49 ++ leave 50 ∷ leave 53
    ∷ lowers ++ ldloc thrown ∷ throw ∷ []

-- from 55 on: the postcondition
abbrev pub exit_group : List Instr
exit_group =
    call 0 next_tools.enter ∷ brfalse 70
    ∷ ldloc result ∷ ldloc captured ∷ cgt ∷ ends 1 2 67 ++ leave 70
    ∷ lowers

-- from 70 on: the invariant, and what is returned
abbrev pub invariant_group : List Instr
invariant_group =
    call 0 outer_tools.enter ∷ brfalse 84
    ∷ loads_ok ++ ends 3 4 81 ++ leave 84
    ∷ lowers ++ ldloc result ∷ ret ∷ []

abbrev pub next_written : List Instr
next_written = (nop ∷ []) ++ entry_group ++ wrapped_rest ++ throw_group ++ exit_group ++ invariant_group

abbrev pub a_finally : (from to : ℕ) → Region
a_finally from to = record { kind = region.Finally; try_from = from; try_to = to; handler_from = to; handler_to = to + 2 }

abbrev pub catches_all : (from to : ℕ) → Region
catches_all from to = record { kind = region.Catch (token 1 1); try_from = from; try_to = to; handler_from = to; handler_to = to + 2 }

-- that of the capture first, those of the groups, and the wrapper last
abbrev pub next_regions : List Region
next_regions = catches_all 14 17 ∷ a_finally 3 19 ∷ a_finally 57 68 ∷ a_finally 39 51 ∷ a_finally 72 82 ∷ catches_all 21 31 ∷ []

-- ---- Inc

abbrev pub inc_tools : Tools
inc_tools = record { enter = token 6 9; leave = token 6 11; fail = token 6 12; condition = 0; message = 1 }

abbrev pub inc_written : List Instr
inc_written =
    call 0 inc_tools.enter ∷ brfalse 15
    ∷ ldarg 0 ∷ ldc (pos 0) ∷ cgt ∷ reports 0 inc_tools 0 ldnull (token 0x70 5) 12 ++ leave 15
    ∷ call 0 inc_tools.leave ∷ endfinally
    ∷ inc_rest

-- ---- the output

abbrev pub written_methods : List MethodDesc
written_methods = methods_with (a_body next_written next_regions (Some (token 0x11 1))) (a_body inc_written (a_finally 2 13 ∷ []) (Some (token 0x11 2)))

abbrev pub output : Program
output = with_methods input written_methods

-- ---- where the places of Next stand

-- those of the rest begin at 13
abbrev pub rest_places : List ℕ
rest_places = 0 ∷ 0 ∷ 0 ∷ 0 ∷ 0 ∷ 0 ∷ 0 ∷ 0 ∷ 0 ∷ 0 ∷ 0 ∷ 0 ∷ 0 ∷ 21 ∷ 22 ∷ 23 ∷ 24 ∷ 26 ∷ 27 ∷ 28 ∷ []

abbrev pub next_places : ProgramPoint → ℕ
next_places (LeadIn q) = q
next_places (InGroup group.Entry zero q) = q + 3
next_places (InGroup group.Entry (suc j) q) = q + 13
next_places (InGroup group.Exit j q) = get_or (57 ∷ 58 ∷ 58 ∷ 59 ∷ 60 ∷ []) q 61
next_places (InGroup group.Throw j q) = q + 40
next_places (InGroup group.Invariant j q) = q + 72
next_places (InGroup group.Inline j q) = q
next_places (Rest q) = get_or rest_places q 30

-- the seams of an instruction stand in the same part
abbrev pub next_belongs : ProgramPoint → ℕ → Bool
next_belongs (LeadIn q) = holds_place 0 1
next_belongs (InGroup group.Entry zero q) = holds_place 3 14
next_belongs (InGroup group.Entry (suc j) q) = holds_place 14 17
next_belongs (InGroup group.Exit j q) = holds_place 57 68
next_belongs (InGroup group.Throw j q) = holds_place 39 51
next_belongs (InGroup group.Invariant j q) = holds_place 72 82
next_belongs (InGroup group.Inline j q) = holds_place 0 0
next_belongs (Rest q) = holds_place 21 31

abbrev pub next_door : Group → ℕ
next_door group.Entry = 1
next_door group.Exit = 55
next_door group.Throw = 33
next_door group.Invariant = 70
next_door group.Inline = 0

abbrev pub next_out : Group → ℕ
next_out group.Entry = 21
next_out group.Exit = 70
next_out group.Throw = 53
next_out group.Invariant = 84
next_out group.Inline = 0

abbrev pub next_behind : Group → ℕ → ℕ
next_behind group.Entry zero = 13
next_behind group.Entry (suc j) = 16
next_behind group.Exit j = 67
next_behind group.Throw j = 49
next_behind group.Invariant j = 81
next_behind group.Inline j = 0

abbrev pub next_marks : Marks
next_marks =
    record {
      places = next_places;
      belongs = next_belongs;
      door = next_door;
      out = next_out;
      behind = next_behind;
      old_locals = 0;
      olds = 1;
      extra = λ here. bool_ty ∷ string_ty ∷ int32 ∷ object_ty ∷ [];
      result_at = 2;
      thrown_at = 3;
    }

-- ---- where those of Inc stand

abbrev pub inc_places : ProgramPoint → ℕ
inc_places (LeadIn q) = q
inc_places (InGroup gr j q) = q + 2
inc_places (Rest q) = q + 11

abbrev pub inc_belongs : ProgramPoint → ℕ → Bool
inc_belongs (InGroup gr j q) = holds_place 2 13
inc_belongs _ = nat_le 15

abbrev pub inc_door : Group → ℕ
inc_door group.Entry = 0
inc_door _ = 15

abbrev pub inc_marks : Marks
inc_marks =
    record {
      places = inc_places;
      belongs = inc_belongs;
      door = inc_door;
      out = λ gr. 15;
      behind = λ gr j. 12;
      old_locals = 0;
      olds = 0;
      extra = λ here. bool_ty ∷ string_ty ∷ [];
      result_at = 2;
      thrown_at = 3;
    }

abbrev pub marks_of : ℕ → Marks
marks_of zero = next_marks
marks_of (suc zero) = inc_marks
marks_of (suc (suc m)) = kept_marks

-- how many values lie on the stack at each place outside the clauses
abbrev pub next_heights : ProgramPoint → ℕ
next_heights (Rest q) = get_or (0 ∷ 0 ∷ 0 ∷ 0 ∷ 0 ∷ 0 ∷ 0 ∷ 0 ∷ 0 ∷ 0 ∷ 0 ∷ 0 ∷ 0 ∷ 0 ∷ 1 ∷ 0 ∷ 1 ∷ 0 ∷ 1 ∷ 1 ∷ []) q 0
next_heights _ = 0

abbrev pub inc_heights : ProgramPoint → ℕ
inc_heights (Rest q) = get_or (0 ∷ 0 ∷ 0 ∷ 0 ∷ 0 ∷ 1 ∷ 2 ∷ 1 ∷ []) q 0
inc_heights _ = 0
