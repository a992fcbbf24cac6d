-- One step of the plain machine at each instruction of straight code, and runs of them.
use Rattle.std.proofs.Common.{◌≡◌, ℕ, suc, ◌+◌, Bool, true, false, List, [], ◌∷◌, length, Some, None, refl, sym, ap, ◌∙◌, subst, arith}
use Rattle.std.specs.Prelude.{slice_get, slice_set, option_map, option_and_then, if◌then◌else◌, filter, ℤ, pos, nat_le, take, drop, reverse}
use Rattle.std.proofs.lemmas.List.{append-nil}
use Rattle.cil_base.specs.declared.token.Token.{Token}
use Rattle.cil_model.specs.declared.ty.Ty.{Ty}
use Rattle.cil_model.specs.declared.value.Value.{Value, out-Value, I4, Null, Obj, Text}
use Rattle.cil_model.specs.declared.value.Value as values
use Rattle.cil_model.specs.declared.body.Instr.{Instr}
use Rattle.cil_model.specs.declared.body.Region.{Region}
use Rattle.cil_model.specs.declared.program.Program.{Program}
use Rattle.cil_model.specs.declared.program.Meaning.TheVariants.{OfMethod, OfText}
use Rattle.cil_model.specs.NoContracts.{no_contracts}
use Rattle.cil_semantics.specs.declared.state.Cell.{Cell}
use Rattle.cil_semantics.specs.Places.{set_cell}
use Rattle.cil_semantics.specs.declared.state.Local.{Local as LocalState}
use Rattle.cil_semantics.specs.declared.state.World.{World}
use Rattle.cil_semantics.specs.declared.state.ProgramPoint.TheVariants.{Rest}
use Rattle.cil_semantics.specs.declared.state.Handling.{Handling}
use Rattle.cil_semantics.specs.declared.state.Frame.{Frame}
use Rattle.cil_semantics.specs.State.{Next, unrecorded, recorded_after, goes_after, with_stack, pushed}
use Rattle.il_opcodes.specs.Opcodes.{class_of, opcode_of, the_opcodes}
use Rattle.cil_semantics.specs.Tokens.{Here, meaning_here}
use Rattle.cil_semantics.specs.Acts as Acts
use Rattle.cil_semantics.specs.Acts.{Act, GoOn, Jump, Throw, Leave, EndHandler, Return, UseStatic, CallMember, Call, truth, is_wanted, if_some, branch, text_in, on_static, on_type, taken, method_in, with_this, compare}
use Rattle.cil_semantics.specs.Instructions.{act, act_of_class}
use Rattle.cil_semantics.specs.Unwind.{body_of, here_of, arrive_in, plan_at, goes_at}
use Rattle.cil_semantics.specs.Frames.{if_there}
use Rattle.cil_semantics.specs.Machine.{step, step_at, perform, run_plain, unused_numbers}
use Rattle.machine_laws.specs.Same.{plain_step}
use Rattle.splice_facts.specs.Comes.{Comes, Goes}
use Rattle.splice_laws.specs.Straight.{ldc, ldloc, stloc, ldarg, ldnull, dup, pop, add, sub, ret, throw, endfinally, br, brfalse, brtrue, bgt, leave, call, ldstr, StandAt, Stay, frame_at, at_place, Acts_so, Does, DoAll}
use Rattle.splice_facts.proofs.ComesLaws.{no_plan, arrives_plain, comes_one, comes_at_once, moves_one}

-- ---- what each instruction does

module _ (p : Program) (here : Here) where
  pub does_ldc : (z : ℤ) (l : LocalState) → Does p here (ldc z) l (pushed (I4 z) l)
  unfolding act act_of_class class_of opcode_of the_opcodes
  does_ldc z l w = refl

  pub does_ldnull : (l : LocalState) → Does p here ldnull l (pushed Null l)
  unfolding act act_of_class class_of opcode_of the_opcodes
  does_ldnull l w = refl

  pub does_ldloc : (i : ℕ) (c : Cell) (l : LocalState) → slice_get l.locals i ≡ Some c → Does p here (ldloc i) l (pushed c.value l)
  unfolding act act_of_class class_of opcode_of the_opcodes
  does_ldloc i c l e w = ap (λ o. if_some o (λ (x : Cell). GoOn [] (pushed x.value l))) e

  pub does_ldarg : (i : ℕ) (c : Cell) (l : LocalState) → slice_get l.args i ≡ Some c → Does p here (ldarg i) l (pushed c.value l)
  unfolding act act_of_class class_of opcode_of the_opcodes
  does_ldarg i c l e w = ap (λ o. if_some o (λ (x : Cell). GoOn [] (pushed x.value l))) e

  -- the frame's stack is written out, so that the instruction computes
  pub does_stloc : (i : ℕ) (v : Value) (rest : List Value) (c : Cell) (l : LocalState) → option_and_then (set_cell p v) (slice_get l.locals i) ≡ Some c → Does p here (stloc i) (with_stack l (v ∷ rest)) (record l { locals = slice_set l.locals i c; stack = rest })
  unfolding act act_of_class class_of opcode_of the_opcodes
  does_stloc i v rest c l e w = ap (λ o. if_some o (λ (x : Cell). GoOn [] (record l { locals = slice_set l.locals i x; stack = rest }))) e

  pub does_dup : (v : Value) (rest : List Value) (l : LocalState) → Does p here dup (with_stack l (v ∷ rest)) (with_stack l (v ∷ v ∷ rest))
  unfolding act act_of_class class_of opcode_of the_opcodes
  does_dup v rest l w = refl

  pub does_pop : (v : Value) (rest : List Value) (l : LocalState) → Does p here pop (with_stack l (v ∷ rest)) (with_stack l rest)
  unfolding act act_of_class class_of opcode_of the_opcodes
  does_pop v rest l w = refl

  pub does_add : (x y : ℤ) (rest : List Value) (l : LocalState) → Does p here add (with_stack l (I4 y ∷ I4 x ∷ rest)) (with_stack l (I4 (Rattle.std.specs.Int.int_wrapping_add Rattle.std.specs.Int.w32 x y) ∷ rest))
  unfolding act act_of_class class_of opcode_of the_opcodes values.out-Value denote.Hole.Carrier.out
  does_add x y rest l w = refl

  pub does_sub : (x y : ℤ) (rest : List Value) (l : LocalState) → Does p here sub (with_stack l (I4 y ∷ I4 x ∷ rest)) (with_stack l (I4 (Rattle.std.specs.Int.int_wrapping_sub Rattle.std.specs.Int.w32 x y) ∷ rest))
  unfolding act act_of_class class_of opcode_of the_opcodes values.out-Value denote.Hole.Carrier.out
  does_sub x y rest l w = refl

  pub does_ldstr : (a : ℕ) (t : Token) (units : List ℕ) (l : LocalState) → meaning_here p here (ldstr a t) ≡ Some (OfText units) → Does p here (ldstr a t) l (pushed (Text units) l)
  unfolding act act_of_class class_of opcode_of the_opcodes
  does_ldstr a t units l e w = ap (λ m. if_some (text_in m) (λ v. GoOn [] (pushed v l))) e

  -- ---- where it leads elsewhere

  pub jumps_br : (t : ℕ) (l : LocalState) → Acts_so p here (br t) l (λ w. Jump t l)
  unfolding act act_of_class class_of opcode_of the_opcodes
  jumps_br t l w = refl

  abbrev pub picked : Bool → ℕ → LocalState → World → Act
  picked b t l w = if b then Jump t l else GoOn [] l

  pub tests_brtrue : (t : ℕ) (v : Value) (rest : List Value) (l : LocalState) (b : Bool) → truth v ≡ Some b → Acts_so p here (brtrue t) (with_stack l (v ∷ rest)) (picked b t (with_stack l rest))
  unfolding act act_of_class class_of opcode_of the_opcodes
  tests_brtrue t v rest l b e w = ap (λ o. if_some o (λ x. picked (is_wanted true x) t (with_stack l rest) w)) e

  pub tests_brfalse : (t : ℕ) (v : Value) (rest : List Value) (l : LocalState) (b : Bool) → truth v ≡ Some b → Acts_so p here (brfalse t) (with_stack l (v ∷ rest)) (picked (is_wanted false b) t (with_stack l rest))
  unfolding act act_of_class class_of opcode_of the_opcodes
  tests_brfalse t v rest l b e w = ap (λ o. if_some o (λ x. picked (is_wanted false x) t (with_stack l rest) w)) e

  pub tests_bgt : (t : ℕ) (x y : ℤ) (rest : List Value) (l : LocalState) → Acts_so p here (bgt t) (with_stack l (I4 y ∷ I4 x ∷ rest)) (picked (Rattle.std.specs.Prelude.int_lt y x) t (with_stack l rest))
  unfolding act act_of_class class_of opcode_of the_opcodes compare values.out-Value denote.Hole.Carrier.out
  tests_bgt t x y rest l w = refl

  pub acts_leave : (t : ℕ) (l : LocalState) → Acts_so p here (leave t) l (λ w. Leave t)
  unfolding act act_of_class class_of opcode_of the_opcodes
  acts_leave t l w = refl

  pub acts_endfinally : (l : LocalState) → Acts_so p here endfinally l (λ w. EndHandler)
  unfolding act act_of_class class_of opcode_of the_opcodes
  acts_endfinally l w = refl

  pub acts_ret : (l : LocalState) → Acts_so p here ret l (λ w. Return)
  unfolding act act_of_class class_of opcode_of the_opcodes
  acts_ret l w = refl

  pub acts_throw : (x : ℕ) (rest : List Value) (l : LocalState) → Acts_so p here throw (with_stack l (Obj x ∷ rest)) (λ w. Throw x)
  unfolding act act_of_class class_of opcode_of the_opcodes values.out-Value denote.Hole.Carrier.out
  acts_throw x rest l w = refl

  abbrev pub called : Ty → ℕ → List Ty → List Value → Call
  called owner m args values = record { owner = owner; method = m; method_args = args; values = values; constrained = None }

  -- a call with so many values on the stack
  pub acts_call : (a : ℕ) (t : Token) (owner : Ty) (m : ℕ) (args : List Ty) (l : LocalState) → meaning_here p here (call a t) ≡ Some (OfMethod owner m args) → nat_le (with_this p m) (length l.stack) ≡ true
      → Acts_so p here (call a t) l (λ w. CallMember (called owner m args (reverse (take (with_this p m) l.stack))) (with_stack l (drop (with_this p m) l.stack)))
  unfolding act act_of_class class_of opcode_of the_opcodes
  acts_call a t owner m args l e le w =
      ap (λ o. taken p (call a t) here (with_this p (method_in o)) o l CallMember) e
      ∙ ap (λ b. if b then CallMember (called owner m args (reverse (take (with_this p m) l.stack))) (with_stack l (drop (with_this p m) l.stack)) else Acts.Stuck) le

-- ---- steps

pub world_back : (w : World) → recorded_after w.trace (unrecorded w) ≡ w
world_back w = ap (λ t. record w { trace = t }) (append-nil w.trace)

module _ (p : Program) where
  abbrev pub rows : Frame → List Region
  rows f = (body_of p f.method).regions

  abbrev pub done : Act → Frame → List Frame → World → Next
  done a f fs w = perform p no_contracts (unused_numbers p) a f fs w

  -- one step at an instruction is its act
  pub steps_by : (f : Frame) (l : LocalState) (q : ℕ) (hs : List Handling) (fs : List Frame) (w : World) (i : Instr) (a : World → Act) → slice_get (body_of p f.method).instrs q ≡ Some i → Acts_so p (here_of f fs) i l a
      → plain_step p (record { frames = frame_at f l q hs ∷ fs; world = w }) ≡ goes_after w.trace (done (a (unrecorded w)) (frame_at f l q hs) fs (unrecorded w))
  unfolding step
  steps_by f l q hs fs w i a there so =
      ap (λ o. goes_after w.trace (step_at p no_contracts (unused_numbers p) o (Rest q) (frame_at f l q hs) fs (unrecorded w))) (no_plan p f.method)
      ∙ ap (λ o. goes_after w.trace (if_there o (unrecorded w) (λ j. run_plain p no_contracts (unused_numbers p) j (frame_at f l q hs) fs (unrecorded w)))) there
      ∙ ap (λ b. goes_after w.trace (done b (frame_at f l q hs) fs (unrecorded w))) (so (unrecorded w))

  -- the plain machine comes to a place; what handlers go on is said by it
  pub arrives_with : (f : Frame) (l : LocalState) (q : ℕ) (hs : List Handling) (fs : List Frame) (w : World) → goes_after w.trace (arrive_in p (plan_at no_contracts p f.method) f (Rest q) l hs fs (unrecorded w)) ≡ goes_at p f (Rest q) l hs fs w
  arrives_with f l q hs fs w = ap (goes_after w.trace) (arrives_plain p f (Rest q) l hs fs (unrecorded w)) ∙ ap (λ v. goes_at p f (Rest q) l hs fs v) (world_back w)

  pub arrives_at : (f : Frame) (l : LocalState) (q : ℕ) (hs : List Handling) (fs : List Frame) (w : World) → Stay p f q hs → goes_after w.trace (arrive_in p (plan_at no_contracts p f.method) f (Rest q) l hs fs (unrecorded w)) ≡ at_place f l q hs fs w
  arrives_at f l q hs fs w st = arrives_with f l q hs fs w ∙ ap (λ z. at_place f l q z fs w) st

  pub goes_one : (f : Frame) (l m : LocalState) (q : ℕ) (hs : List Handling) (fs : List Frame) (w : World) (i : Instr) → slice_get (body_of p f.method).instrs q ≡ Some i → Does p (here_of f fs) i l m → Stay p f (q + 1) hs
      → plain_step p (record { frames = frame_at f l q hs ∷ fs; world = w }) ≡ at_place f m (q + 1) hs fs w
  goes_one f l m q hs fs w i there so st = steps_by f l q hs fs w i (λ v. GoOn [] m) there so ∙ arrives_at (frame_at f l q hs) m (q + 1) hs fs w st

  pub jumps_one : (f : Frame) (l m : LocalState) (q t : ℕ) (hs : List Handling) (fs : List Frame) (w : World) (i : Instr) → slice_get (body_of p f.method).instrs q ≡ Some i → Acts_so p (here_of f fs) i l (λ v. Jump t m) → Stay p f t hs
      → plain_step p (record { frames = frame_at f l q hs ∷ fs; world = w }) ≡ at_place f m t hs fs w
  jumps_one f l m q t hs fs w i there so st = steps_by f l q hs fs w i (λ v. Jump t m) there so ∙ arrives_at (frame_at f l q hs) m t hs fs w st

  pub jumps_behind : (f : Frame) (l m : LocalState) (q t : ℕ) (hs : List Handling) (fs : List Frame) (w : World) (i : Instr) → slice_get (body_of p f.method).instrs q ≡ Some i → Acts_so p (here_of f fs) i l (λ v. Jump t m)
      → plain_step p (record { frames = frame_at f l q hs ∷ fs; world = w }) ≡ goes_at p f (Rest t) m hs fs w
  jumps_behind f l m q t hs fs w i there so = steps_by f l q hs fs w i (λ v. Jump t m) there so ∙ arrives_with (frame_at f l q hs) m t hs fs w

  -- ---- runs of straight code, where no handler runs

  pub one_step : (f : Frame) (l : LocalState) (q : ℕ) (hs : List Handling) (fs : List Frame) (w : World) (n : ℕ) (x y : Next) → plain_step p (record { frames = frame_at f l q hs ∷ fs; world = w }) ≡ x → Comes p n x y → Comes p (suc n) (at_place f l q hs fs w) y
  one_step f l q hs fs w n x y e c = comes_one p n (record { frames = frame_at f l q hs ∷ fs; world = w }) y (subst (λ z. Comes p n z y) (sym e) c)

  pub first_step : (f : Frame) (l : LocalState) (q : ℕ) (hs : List Handling) (fs : List Frame) (w : World) (n : ℕ) (x y : Next) → plain_step p (record { frames = frame_at f l q hs ∷ fs; world = w }) ≡ x → Comes p n x y → Goes p (suc n) (at_place f l q hs fs w) y
  first_step f l q hs fs w n x y e c = moves_one p n (record { frames = frame_at f l q hs ∷ fs; world = w }) y (subst (λ z. Comes p n z y) (sym e) c)

  pub straight : (is : List Instr) (f : Frame) (l m : LocalState) (q : ℕ) (fs : List Frame) (w : World) → StandAt (body_of p f.method).instrs q is → DoAll p (here_of f fs) is l m → Comes p (length is) (at_place f l q [] fs w) (at_place f m (q + length is) [] fs w)
  straight [] f l m q fs w there all = comes_at_once p 0 (at_place f l q [] fs w) (at_place f m (q + 0) [] fs w) (ap (λ z. at_place f z q [] fs w) all ∙ ap (λ z. at_place f m z [] fs w) (omega arith))
  straight (i ∷ is) f l m q fs w there all =
      one_step f l q [] fs w (length is) (at_place f all.0 (q + 1) [] fs w) _ (goes_one f l all.0 q [] fs w i there.0 all.1 refl)
      (subst (λ z. Comes p (length is) (at_place f all.0 (q + 1) [] fs w) (at_place f m z [] fs w)) (omega arith) (straight is f all.0 m (q + 1) fs w there.1 all.2))
