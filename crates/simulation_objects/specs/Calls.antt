-- Calls of every kind and new objects in both runs.
use Rattle.std.specs.Prelude.{◌≡◌, ℕ, suc, ◌+◌, ◌*◌, ◌<◌, ◌≤◌, List, [], ◌∷◌, length, Some, IsTrue}
use Rattle.cil_model.specs.declared.ty.Ty.{Ty}
use Rattle.cil_model.specs.declared.value.Value.{Value}
use Rattle.cil_model.specs.declared.body.Instr.{Instr}
use Rattle.cil_model.specs.declared.contract.Contracts.{Contracts}
use Rattle.cil_model.specs.declared.program.Program.{Program}
use Rattle.cil_model.specs.declared.program.MethodDesc.{MethodDesc}
use Rattle.cil_model.specs.NoContracts.{no_contracts}
use Rattle.cil_semantics.specs.Lookups.{args_of}
use Rattle.cil_semantics.specs.declared.state.World.{World}
use Rattle.cil_semantics.specs.declared.state.Statics.{Statics}
use Rattle.cil_semantics.specs.declared.state.Frame.{Frame}
use Rattle.cil_semantics.specs.declared.state.Continuation.TheVariants.{Push}
use Rattle.cil_semantics.specs.Acts.{Call, Act, CallMember, CallVirtual, NewObject, LoadVirtualFunction}
use Rattle.cil_semantics.specs.Instructions.{act}
use Rattle.cil_semantics.specs.State.{Running, unrecorded}
use Rattle.cil_semantics.specs.Unwind.{plan_at, here_of, next_place}
use Rattle.cil_semantics.specs.Machine.{step, step_frames, run_plain}
use Rattle.cil_semantics.specs.Calls.{call_member, body_seen, call_virtual, find_virtual_on, make, pushes_new}
use Rattle.cil_semantics.specs.Checks.{AddedNumbers}
use Rattle.cil_semantics.specs.Dispatch.{Seen}
use Rattle.splice_facts.specs.Bodies.{with_methods}
use Rattle.splice_facts.specs.Grown.{beside}
use Rattle.machine_laws.specs.Answers.{is_below}
use Rattle.splice_facts.specs.WellFormed.{Bounds, WellFormedLocal, WellFormedValues, WellFormedObjects, WellFormedWorld, NoneVoid}
use Rattle.splice_facts.specs.Spliced.{IsPlainAt, cost}
use Rattle.splice_facts.specs.Layout.{Onward, fetch}
use Rattle.splice_facts.specs.Acting.{WellFormedAct}
use Rattle.splice_facts.specs.Related.{TopPair, Rewritten, written, bounds, ReachesIn, per_frame, Under, AllStand, count_groups, AnswersIn}
use Rattle.simulation_steps.specs.Steps.{BesideIn}

-- The same body for each type and member.
abbrev pub FindsAlike : Program → List MethodDesc → Type 0
FindsAlike p ms = (t : Ty) (s : Seen) → body_seen (with_methods p ms) t s ≡ body_seen p t s

-- the places of each frame hold what a run of the input can have
abbrev pub WellFormedFrames : Bounds → List Frame → Type 0
WellFormedFrames b [] = Unit {0}
WellFormedFrames b (f ∷ fs) = WellFormedLocal b f.local × WellFormedFrames b fs

module _ (p : Program) (k : Contracts) (ms : List MethodDesc) (g : AddedNumbers) (r : Rewritten p k ms g) where
  -- the frames that a call leaves behind
  pub record CallSite (fs fs' : List Frame) (w : World) (ss : List Statics) : Type 0 where
    pub under : Under p k ms g r Push Push fs fs'
    pub others : AllStand p k ms g r fs
    pub alike : BesideIn p k ms g r w ss
    pub deep : w.depth ≤ suc k.settings.guard
    pub count : w.depth ≡ count_groups fs
    pub heap : WellFormedObjects (bounds p k ms g r) w.heap

  -- how many steps a call may take in a frame over n others
  abbrev pub call_cost : ℕ → ℕ
  call_cost n = 2 * cost k p + per_frame p k ms g r (suc (suc n))

  -- A call of the member that a token names does the same in both runs, ForAll and Exists too.
  abbrev pub CallsAlike : Type 0
  CallsAlike =
      (owner : Ty) (m : ℕ) (args : List Ty) (values : List Value) (fs fs' : List Frame) (w : World) (ss : List Statics) → m < r.methods → IsTrue (is_below r.types owner) → WellFormedValues (bounds p k ms g r) values → CallSite fs fs' w ss
      → ReachesIn p k ms g r (call_cost (length fs)) (call_member p k owner m args values fs w) (call_member (written p k ms g r) no_contracts owner m args values fs' (beside ss w))

  -- a member of the input, of a type of the input, with values that are well formed, over frames and a world that are, since under constrained. a pointer is read
  pub record CallOf (c : Call) (fs : List Frame) (w : World) : Type 0 where
    pub old : c.method < r.methods
    pub owner : IsTrue (is_below r.types c.owner)
    pub values : WellFormedValues (bounds p k ms g r) c.values
    pub frames : WellFormedFrames (bounds p k ms g r) fs
    pub world : WellFormedWorld (bounds p k ms g r) w
    pub constrained : (t : Ty) → c.constrained ≡ Some t → NoneVoid p (args_of t)

  -- A virtual call runs the same body in both runs: by the type of the object, of a delegate its function, and under constrained. by the type that is named (ECMA-335, III.4.2 and III.2.1).
  abbrev pub VirtualCallsAlike : Type 0
  VirtualCallsAlike =
      (c : Call) (fs fs' : List Frame) (w : World) (ss : List Statics) → CallOf c fs w → CallSite fs fs' w ss
      → ReachesIn p k ms g r (call_cost (length fs)) (call_virtual p k c fs w) (call_virtual (written p k ms g r) no_contracts c fs' (beside ss w))

  -- ldvirtftn pushes the same function (ECMA-335, III.4.18).
  abbrev pub FunctionsAlike : Type 0
  FunctionsAlike =
      (c : Call) (values : List Value) (fs fs' : List Frame) (w : World) (ss : List Statics) → CallSite fs fs' w ss
      → ReachesIn p k ms g r (call_cost (length fs)) (find_virtual_on p k c values fs w) (find_virtual_on (written p k ms g r) no_contracts c values fs' (beside ss w))

  -- newobj makes the same object in both runs: a delegate, a core exception, what an outside constructor makes, or one whose constructor runs; or a struct, which its constructor leaves behind its arguments (ECMA-335, III.4.21).
  abbrev pub NewObjectsAlike : Type 0
  NewObjectsAlike =
      (t : Ty) (m : ℕ) (values : List Value) (fs fs' : List Frame) (w : World) (ss : List Statics) → m < r.methods → IsTrue (is_below r.types t) → WellFormedValues (bounds p k ms g r) values → CallSite fs fs' w ss
      → ReachesIn p k ms g r (call_cost (length fs)) (make p k (pushes_new p k) t m values fs w) (make (written p k ms g r) no_contracts (pushes_new (written p k ms g r) no_contracts) t m values fs' (beside ss w))

  -- where an act leads that calls: behind its instruction, with what it passes
  abbrev pub CallLeads : Frame → List Frame → World → Act → Type 0
  CallLeads f fs w (CallMember c l) = Onward (plan_at k p f.method) (r.marks f.method).places f.at (next_place f.at) × WellFormedValues (bounds p k ms g r) c.values
  CallLeads f fs w (CallVirtual c l) = Onward (plan_at k p f.method) (r.marks f.method).places f.at (next_place f.at) × CallOf c (record f { local = l } ∷ fs) w
  CallLeads f fs w (NewObject c l) = Onward (plan_at k p f.method) (r.marks f.method).places f.at (next_place f.at) × WellFormedValues (bounds p k ms g r) c.values
  CallLeads f fs w (LoadVirtualFunction c l) = Onward (plan_at k p f.method) (r.marks f.method).places f.at (next_place f.at)
  CallLeads f fs w a = ⊥

  -- A step at a copied instruction that calls, makes an object or loads a virtual function is answered by the plain run's step at the copy.
  abbrev pub CallStepsAnswered : Type 0
  CallStepsAnswered =
      (f f' : Frame) (fs fs' : List Frame) (w : World) (ss : List Statics) (t : TopPair p k ms g r f f' fs fs' (unrecorded w) ss) (i : Instr) → fetch p k g (plan_at k p f.method) f.method f.at ≡ Some i → IsPlainAt p k (written p k ms g r) g r.types r.depths f.method (plan_at k p f.method) f.at i → WellFormedObjects (bounds p k ms g r) w.heap
      → WellFormedAct (bounds p k ms g r) f.local (act p (here_of f fs) i (unrecorded w) f.local) → CallLeads f fs (unrecorded w) (act p (here_of f fs) i (unrecorded w) f.local) → step_frames p k g (f ∷ fs) (unrecorded w) ≡ run_plain p k g i f fs (unrecorded w)
      → AnswersIn p k ms g r (suc (call_cost (suc (length fs)))) (step p k g (record { frames = f ∷ fs; world = w })) (Running (record { frames = f' ∷ fs'; world = beside ss w }))
