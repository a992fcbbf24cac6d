-- Straight code of the plain machine: instructions that stand from a place on, and what each does to its frame.
use Rattle.std.specs.Prelude.{◌≡◌, ℕ, ◌+◌, List, [], ◌∷◌, slice_get, Some, None}
use Rattle.cil_base.specs.declared.token.Token.{Token}
use Rattle.cil_model.specs.declared.body.Instr.{Instr}
use Rattle.cil_model.specs.declared.body.Operand.{Operand}
use Rattle.cil_model.specs.declared.body.Operand.TheVariants.{Nothing, Int, Index, Target, Tok}
use Rattle.cil_model.specs.declared.program.Program.{Program}
use Rattle.cil_semantics.specs.declared.state.World.{World}
use Rattle.cil_semantics.specs.declared.state.ProgramPoint.TheVariants.{Rest}
use Rattle.cil_semantics.specs.declared.state.Handling.{Handling}
use Rattle.cil_semantics.specs.declared.state.Frame.{Frame}
use Rattle.cil_semantics.specs.State.{Next, Running}
use Rattle.cil_semantics.specs.declared.state.Local.{Local as LocalState}
use Rattle.cil_semantics.specs.Tokens.{Here}
use Rattle.cil_semantics.specs.Acts.{Act, GoOn}
use Rattle.cil_semantics.specs.Instructions.{act}
use Rattle.std.specs.Prelude.{ℤ, false, filter, ◌&&◌}
use Rattle.cil_model.specs.declared.body.Region.{Region}
use Rattle.cil_semantics.specs.Unwind.{body_of, in_try, in_handler, is_finally}

-- an instruction without prefixes
abbrev pub ins : ℕ → Operand → Instr
ins op o = record { op = op; operand = o; constrained = None; prefixes = 0; under = None }

abbrev pub bare : ℕ → Instr
bare op = ins op Nothing

abbrev pub ldc : ℤ → Instr
ldc z = ins 0x20 (Int z)

abbrev pub ldloc : ℕ → Instr
ldloc i = ins 0xFE0C (Index i)

abbrev pub stloc : ℕ → Instr
stloc i = ins 0xFE0E (Index i)

abbrev pub ldarg : ℕ → Instr
ldarg i = ins 0xFE09 (Index i)

abbrev pub ldnull : Instr
ldnull = bare 0x14

abbrev pub dup : Instr
dup = bare 0x25

abbrev pub pop : Instr
pop = bare 0x26

abbrev pub add : Instr
add = bare 0x58

abbrev pub sub : Instr
sub = bare 0x59

abbrev pub ret : Instr
ret = bare 0x2A

abbrev pub throw : Instr
throw = bare 0x7A

abbrev pub endfinally : Instr
endfinally = bare 0xDC

abbrev pub br : ℕ → Instr
br t = ins 0x38 (Target t)

abbrev pub brfalse : ℕ → Instr
brfalse t = ins 0x39 (Target t)

abbrev pub brtrue : ℕ → Instr
brtrue t = ins 0x3A (Target t)

abbrev pub bgt : ℕ → Instr
bgt t = ins 0x3D (Target t)

abbrev pub leave : ℕ → Instr
leave t = ins 0xDD (Target t)

abbrev pub call : ℕ → Token → Instr
call a t = ins 0x28 (Tok a t)

abbrev pub newobj : ℕ → Token → Instr
newobj a t = ins 0x73 (Tok a t)

abbrev pub ldstr : ℕ → Token → Instr
ldstr a t = ins 0x72 (Tok a t)

abbrev pub ldsfld : ℕ → Token → Instr
ldsfld a t = ins 0x7E (Tok a t)

abbrev pub stsfld : ℕ → Token → Instr
stsfld a t = ins 0x80 (Tok a t)

abbrev pub ldobj : ℕ → Token → Instr
ldobj a t = ins 0x71 (Tok a t)

-- these instructions stand in the code from a place on
abbrev pub StandAt : List Instr → ℕ → List Instr → Type 0
StandAt code q [] = Unit {0}
StandAt code q (i ∷ is) = (slice_get code q ≡ Some i) × StandAt code (q + 1) is

-- a frame at a place
abbrev pub frame_at : Frame → LocalState → ℕ → List Handling → Frame
frame_at f l q hs = record f { local = l; at = Rest q; handling = hs }

abbrev pub at_place : Frame → LocalState → ℕ → List Handling → List Frame → World → Next
at_place f l q hs fs w = Running (record { frames = frame_at f l q hs ∷ fs; world = w })

module _ (p : Program) (here : Here) where
  -- what it does in every world
  abbrev pub Acts_so : Instr → LocalState → (World → Act) → Type 0
  Acts_so i l a = (w : World) → act p here i w l ≡ a w

  -- it goes on with other places, and with the world as it was
  abbrev pub Does : Instr → LocalState → LocalState → Type 0
  Does i l m = Acts_so i l (λ w. GoOn [] m)

  abbrev pub DoAll : List Instr → LocalState → LocalState → Type 0
  DoAll [] l m = l ≡ m
  DoAll (i ∷ is) l m = (n : LocalState) × Does i l n × DoAll is n m

-- no try block of these holds the place
abbrev pub Misses : ℕ → List Region → Type 0
Misses q [] = Unit {0}
Misses q (r ∷ rs) = (in_try r q ≡ false) × Misses q rs

-- no finally of these holds the place
abbrev pub LeavesFreely : ℕ → List Region → Type 0
LeavesFreely q [] = Unit {0}
LeavesFreely q (r ∷ rs) = ((is_finally r.kind && in_try r q) ≡ false) × LeavesFreely q rs

-- the handlers that run go on at a place
abbrev pub Stay : Program → Frame → ℕ → List Handling → Type 0
Stay p f q hs = filter (in_handler (body_of p f.method).regions q) hs ≡ hs
