-- Calls of members, new objects and the exceptions of Requires<E> in the run with contracts: what is known where they begin, and what then stays valid.
use Rattle.std.specs.Prelude.{◌≡◌, ℕ, suc, ◌<◌, ◌≤◌, true, List, ◌∷◌, Some, IsTrue}
use Rattle.cil_model.specs.declared.body.Instr.{Instr}
use Rattle.il_opcodes.specs.Opcodes.{class_of}
use Rattle.il_opcodes.specs.declared.class.Class.TheVariants as class
use Rattle.cil_semantics.specs.Tokens.{meaning_here}
use Rattle.cil_semantics.specs.Unwind.{plan_at, here_of}
use Rattle.cil_semantics.specs.Machine.{run_plain}
use Rattle.splice_facts.specs.Layout.{fetch}
use Rattle.cil_model.specs.declared.ty.Ty.{Ty, out-Ty}
use Rattle.cil_model.specs.declared.value.Value.{Value}
use Rattle.cil_model.specs.declared.contract.Contracts.{Contracts}
use Rattle.cil_model.specs.declared.program.Program.{Program}
use Rattle.cil_model.specs.declared.program.MethodDesc.{MethodDesc}
use Rattle.cil_model.specs.declared.contract.ClauseKind.TheVariants as kind
use Rattle.cil_semantics.specs.Lookups.{args_of, in_set}
use Rattle.cil_semantics.specs.State.{Next}
use Rattle.cil_semantics.specs.declared.state.World.{World}
use Rattle.cil_semantics.specs.declared.state.Frame.{Frame}
use Rattle.cil_semantics.specs.declared.state.Continuation.TheVariants.{Push}
use Rattle.cil_semantics.specs.Calls.{core_of, call_member, make, pushes_new}
use Rattle.cil_semantics.specs.Checks.{AddedNumbers, Failure, made_type, goes_on_from}
use Rattle.machine_laws.specs.Answers.{is_below}
use Rattle.splice_facts.specs.WellFormed.{NoneVoid, WellFormedValues, WellFormedWorld}
use Rattle.splice_facts.specs.Input.{result_count, is_group}
pub use Rattle.splice_facts.specs.Input.{GivesAsDescribed, NamesGiving}
use Rattle.splice_facts.specs.Related.{Rewritten, IsOwnClass, HasHeight, bounds, count_groups}
use Rattle.simulation_valid.specs.Keeping.{StaysValid, ValidTail}
use Rattle.simulation_valid.specs.Steps.{NextHeight, MayCall, RunsHere, MakesValid}

module _ (p : Program) (k : Contracts) (ms : List MethodDesc) (g : AddedNumbers) (r : Rewritten p k ms g) where
  -- A call of the member that a token names: a core member, ForAll or Exists, one outside, or one with a body.
  abbrev pub MembersValid : Type 0
  MembersValid =
      (owner : Ty) (m : ℕ) (args : List Ty) (values : List Value) (fs : List Frame) (w : World) → m < r.methods → IsTrue (is_below r.types owner) → NoneVoid p (args_of owner) → NoneVoid p args → WellFormedValues (bounds p k ms g r) values → GivesAsDescribed (core_of p owner m) (result_count p m) → MayCall p k ms g r m fs w
      → StaysValid p k ms g r (call_member p k owner m args values fs w)

  -- a step at a call (ECMA-335, III.3.19)
  abbrev pub CallStepsValid : Type 0
  CallStepsValid =
      (i : Instr) (f : Frame) (fs : List Frame) (w : World) → RunsHere p k ms g r f fs w → HasHeight p k ms g r f f.at 0 → fetch p k g (plan_at k p f.method) f.method f.at ≡ Some i → class_of i.op ≡ class.Call → NamesGiving p (meaning_here p (here_of f fs) i) → StaysValid p k ms g r (run_plain p k g i f fs w)

  -- a step at newobj
  abbrev pub NewStepsValid : Type 0
  NewStepsValid =
      (i : Instr) (f : Frame) (fs : List Frame) (w : World) → RunsHere p k ms g r f fs w → HasHeight p k ms g r f f.at 0 → fetch p k g (plan_at k p f.method) f.method f.at ≡ Some i → class_of i.op ≡ class.NewObject → StaysValid p k ms g r (run_plain p k g i f fs w)

  -- the frames that wait for a new object or struct
  pub record MayMake (fs : List Frame) (w : World) : Type 0 where
    pub tail : ValidTail p k ms g r Push fs
    pub next : NextHeight p k ms g r 1 fs
    pub world : WellFormedWorld (bounds p k ms g r) w
    pub count : w.depth ≡ count_groups fs
    pub deep : w.depth ≤ suc k.settings.guard

  -- newobj: a delegate, a core exception, what an outside constructor makes, an object, or a struct (ECMA-335, III.4.21).
  abbrev pub NewObjectsValid : Type 0
  NewObjectsValid =
      (t : Ty) (m : ℕ) (values : List Value) (fs : List Frame) (w : World) → m < r.methods → IsTrue (is_below r.types t) → NoneVoid p (args_of t) → WellFormedValues (bounds p k ms g r) values → MayMake fs w → StaysValid p k ms g r (make p k (pushes_new p k) t m values fs w)

  -- The exception of a failed Requires<E>, from a frame in the group of the clause: E is outside, or an own class without void among its arguments. Its constructor may throw too.
  abbrev pub ExceptionsValid : Type 0
  ExceptionsValid =
      (x : Failure) (passes : World → Next) (f : Frame) (fs : List Frame) (w : World) → RunsHere p k ms g r f fs w → is_group f.at ≡ true
      → ((t : Ty) (d : ℕ × List Ty) → x.kind ≡ kind.RequiresOf → made_type x ≡ Some t → in_set (out-Ty t) ≡ Some d → IsOwnClass p r.types r.methods t × NoneVoid p (args_of t))
      → MakesValid p k ms g r x (goes_on_from p k (f ∷ fs) passes) (f ∷ fs) w.depth
