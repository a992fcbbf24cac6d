-- What the helpers of the runtime class do, from their calls on: facts about runs, so that a body is spliced over any helpers that meet them.
use Rattle.std.specs.Prelude.{◌≡◌, ℕ, ◌+◌, ◌≤◌, Bool, true, false, nat_le, List, [], ◌∷◌, slice_get, Some, pos}
use Rattle.cil_base.specs.declared.token.Token.{Token}
use Rattle.cil_model.specs.declared.ty.Ty.{Known}
use Rattle.cil_model.specs.declared.value.Value.{I4}
use Rattle.cil_model.specs.declared.contract.Group.{Group}
use Rattle.cil_model.specs.declared.contract.Group.TheVariants as group
use Rattle.cil_model.specs.declared.program.Program.{Program}
use Rattle.cil_model.specs.declared.program.Meaning.TheVariants.{OfMethod}
use Rattle.cil_semantics.specs.declared.state.Local.{Local as LocalState}
use Rattle.cil_semantics.specs.declared.state.World.{World}
use Rattle.cil_semantics.specs.declared.state.Handling.{Handling}
use Rattle.cil_semantics.specs.declared.state.Frame.{Frame}
use Rattle.cil_semantics.specs.State.{Next, pushed}
use Rattle.cil_semantics.specs.Tokens.{meaning_of}
use Rattle.cil_semantics.specs.Unwind.{body_of, find_statics}
use Rattle.cil_semantics.specs.Frames.{set_static}
use Rattle.cil_semantics.specs.Checks.{AddedNumbers}
use Rattle.splice_facts.specs.Comes.{Comes}
use Rattle.splice_facts.specs.Layout.{HasDepth, depth_cell}
use Rattle.splice_laws.specs.Straight.{call, at_place, Stay}
use Rattle.splice_laws.specs.Fails.{FitsFail, FailRuns}

-- the world with another depth in the class's static
abbrev pub with_depth : ℕ → ℕ → World → World
with_depth owner d w = set_static w (Known owner) (depth_cell d ∷ [])

-- `enter` answers 1 and has raised the depth, or answers 0
abbrev pub entered : ℕ → Bool → ℕ → Frame → LocalState → ℕ → List Handling → List Frame → World → Next
entered owner true d f l q hs fs w = at_place f (pushed (I4 (pos 1)) l) (q + 1) hs fs (with_depth owner (d + 1) w)
entered owner false d f l q hs fs w = at_place f (pushed (I4 (pos 0)) l) (q + 1) hs fs w

-- bool enter(): within 10 steps with its call the depth is raised where it is at most `most`
abbrev pub EnterRuns : Program → (owner enter most : ℕ) → Type 0
EnterRuns p owner enter most =
    (f : Frame) (l : LocalState) (q : ℕ) (hs : List Handling) (fs : List Frame) (w : World) (a : ℕ) (t : Token) (d : ℕ) (b : Bool)
    → slice_get (body_of p f.method).instrs q ≡ Some (call a t) → meaning_of p a t ≡ Some (OfMethod (Known owner) enter []) → HasDepth d (find_statics (Known owner) w.statics) → d ≤ 150 → Stay p f (q + 1) hs → nat_le d most ≡ b
    → Comes p 10 (at_place f l q hs fs w) (entered owner b d f l q hs fs w)

-- void leave(): within 6 steps with its call the depth is lowered
abbrev pub LeaveRuns : Program → (owner leave : ℕ) → Type 0
LeaveRuns p owner leave =
    (f : Frame) (l : LocalState) (q : ℕ) (hs : List Handling) (fs : List Frame) (w : World) (a : ℕ) (t : Token) (d : ℕ)
    → slice_get (body_of p f.method).instrs q ≡ Some (call a t) → meaning_of p a t ≡ Some (OfMethod (Known owner) leave []) → HasDepth (d + 1) (find_statics (Known owner) w.statics) → d ≤ 150 → Stay p f (q + 1) hs
    → Comes p 6 (at_place f l q hs fs w) (at_place f l (q + 1) hs fs (with_depth owner d w))

-- The helpers under their numbers; tokens of spliced code are of one assembly. `enter_outer` is asked by the group of invariants, which runs at depth 0 alone.
pub record HelpersRun (p : Program) (g : AddedNumbers) (throwing : Bool) (owner guard : ℕ) : Type 0 where
  pub assembly : ℕ
  pub enter : ℕ
  pub enter_outer : ℕ
  pub leave : ℕ
  pub fail : ℕ
  pub enters : EnterRuns p owner enter guard
  pub enters_outer : EnterRuns p owner enter_outer 0
  pub leaves : LeaveRuns p owner leave
  pub fails : FailRuns p g throwing owner fail (FitsFail g owner)

-- the group of invariants asks whether the depth is 0, each other one whether it is at most the guard
abbrev pub enter_of : {p : Program} {g : AddedNumbers} {throwing : Bool} {owner guard : ℕ} → HelpersRun p g throwing owner guard → Group → ℕ
enter_of r group.Invariant = r.enter_outer
enter_of r _ = r.enter

abbrev pub most_of : Group → (guard : ℕ) → ℕ
most_of group.Invariant guard = 0
most_of _ guard = guard
