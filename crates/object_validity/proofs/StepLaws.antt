-- A whole step, in a body without contracts, in the parts of one with contracts, and in a clause: references stay.
use Rattle.std.proofs.Common.{ℕ, ◌+◌, List, [], ◌∷◌, Option, Some, None}
use Rattle.std.specs.Prelude.{slice_get, take}
use Rattle.cil_model.specs.declared.value.Value.{Value, out-Value}
use Rattle.cil_model.specs.declared.value.Pointer.{Pointer}
use Rattle.cil_model.specs.declared.body.Instr.{Instr}
use Rattle.cil_model.specs.declared.contract.Contracts.{Contracts}
use Rattle.cil_model.specs.declared.contract.Group.{Group}
use Rattle.cil_model.specs.declared.contract.Old.{Old}
use Rattle.cil_model.specs.declared.program.Program.{Program}
use Rattle.cil_model.specs.declared.program.Meaning.{Meaning}
use Rattle.cil_model.specs.declared.program.Meaning.TheVariants as meaning
use Rattle.cil_semantics.specs.Words.{maybe}
use Rattle.cil_semantics.specs.Places.{storage}
use Rattle.cil_semantics.specs.Tokens.{meaning_here}
use Rattle.cil_semantics.specs.declared.state.Cell.{Cell}
use Rattle.cil_semantics.specs.declared.state.Item.{Item}
use Rattle.cil_semantics.specs.declared.state.World.{World}
use Rattle.cil_semantics.specs.declared.state.Frame.{Frame}
use Rattle.cil_semantics.specs.declared.state.ProgramPoint.{ProgramPoint}
use Rattle.cil_semantics.specs.declared.state.ProgramPoint.TheVariants.{LeadIn, InGroup, Rest}
use Rattle.cil_semantics.specs.State.{Next, Running, Ended, pushed, with_stack, unrecorded, goes_after}
use Rattle.cil_semantics.specs.declared.contract_call.ContractCall.{ContractCall}
use Rattle.cil_semantics.specs.declared.contract_call.ContractCall.TheVariants.{EndsClause, EndsBlock, Abbreviates, GivesResult, ReadsArgument, TakesOld, ChecksHere, NoContractCall}
use Rattle.cil_semantics.specs.ContractCalls.{contract_call, count_checks}
use Rattle.cil_semantics.specs.Contracted.{Piece, Plan}
use Rattle.cil_semantics.specs.Instructions.{act}
use Rattle.cil_semantics.specs.Unwind.{body_of, plan_at, piece_at, here_of, place_in, moved_to, arrive}
use Rattle.cil_semantics.specs.Frames.{if_there, go_on, load}
use Rattle.cil_semantics.specs.Calls.{pointed}
use Rattle.cil_semantics.specs.Checks.{AddedNumbers, capture, recalled, inline_label, inline_number}
use Rattle.cil_semantics.specs.Machine.{relocated_instr, run_plain, run_in_body, read_argument, run_in_piece, recall, step_piece, step_body, step_at, step_frames, step}
use Rattle.object_validity.specs.Known.{KnownIf, KnownValues, KnownWorld, KnownFrame, KnownFrames, KeepsReferences}
use Rattle.object_validity.specs.Steps.{StepsKnown}
use Rattle.object_validity.proofs.StoredLaws.{cell_there}
use Rattle.object_validity.proofs.GrowthLaws.{restacked}
use Rattle.object_validity.proofs.MoveLaws.{arrives_known}
use Rattle.object_validity.proofs.PlaceStepLaws.{there_known, pushed_known, goes_on, loads_known}
use Rattle.object_validity.proofs.ClassActLaws.{acts_known}
use Rattle.object_validity.proofs.PerformLaws.{performs_known}
use Rattle.object_validity.proofs.CheckLaws.{inline_known, clause_ends, captures_known}

abbrev Keeps : Next → Type 0
Keeps x = KeepsReferences x

module _ (p : Program) (k : Contracts) (g : AddedNumbers) (b : ℕ) (f : Frame) (fs : List Frame) (w : World) (kf : KnownFrame b f) (ks : KnownFrames b fs) (kw : KnownWorld b w) where
  runs_plainly : (i : Instr) → Keeps (run_plain p k g i f fs w)
  runs_plainly i = performs_known p k g b (act p (here_of f fs) i w f.local) f fs w (acts_known b p (here_of f fs) i w f.local kw kf.local) kf ks kw

  runs_in_body : (plan : Plan) (c : ContractCall) (i : Instr) → Keeps (run_in_body p k g plan c i f fs w)
  runs_in_body plan (ChecksHere c) i = inline_known p k g b plan c f.method (inline_label plan.effective.asserts (inline_number p plan.effective.asserts (body_of p f.method).instrs f.at)) i f fs w kf ks kw
  runs_in_body plan (EndsClause c) i = runs_plainly i
  runs_in_body plan EndsBlock i = runs_plainly i
  runs_in_body plan Abbreviates i = runs_plainly i
  runs_in_body plan GivesResult i = runs_plainly i
  runs_in_body plan ReadsArgument i = runs_plainly i
  runs_in_body plan TakesOld i = runs_plainly i
  runs_in_body plan NoContractCall i = runs_plainly i

  reads_argument : (m : Option Meaning) (stack : List Value) → KnownValues b stack → Keeps (read_argument p k g m stack f fs w)
  reads_argument None stack kv = tt
  reads_argument (Some (meaning.OfType t)) stack kv = tt
  reads_argument (Some (meaning.OfField t n)) stack kv = tt
  reads_argument (Some (meaning.OfText u)) stack kv = tt
  reads_argument (Some (meaning.OfLocals ts)) stack kv = tt
  reads_argument (Some (meaning.OfMethod owner m [])) stack kv = tt
  reads_argument (Some (meaning.OfMethod owner m (t ∷ ts))) [] kv = tt
  reads_argument (Some (meaning.OfMethod owner m (t ∷ ts))) (v ∷ rest) kv =
      there_known (pointed (out-Value v)) w (λ (q : Pointer). load p k q (storage p t) f (with_stack f.local rest) fs w) (λ q e. loads_known p k b q (storage p t) f (with_stack f.local rest) fs w (restacked b f.local rest kf.local kv.1) kf ks kw)

  gives_result : (o : Option Value) → KnownIf b o → Keeps (if_there o w (λ v. go_on p k f (pushed v f.local) fs w))
  gives_result None kv = tt
  gives_result (Some v) kv = goes_on p k b f (pushed v f.local) fs w (pushed_known b v f.local kv kf.local) kf ks kw

  runs_in_piece : (plan : Plan) (gr : Group) (n : ℕ) (x : Piece) (c : ContractCall) (q : ℕ) (i : Instr) → Keeps (run_in_piece p k g plan gr n x c q i f fs w)
  runs_in_piece plan gr n x (EndsClause c) q i = clause_ends p k g b plan gr n x i f fs w kf ks kw
  runs_in_piece plan gr n x GivesResult q i = gives_result f.local.result (kf.local).result
  runs_in_piece plan gr n x ReadsArgument q i = reads_argument (meaning_here p (here_of f fs) i) f.local.stack (kf.local).stack
  runs_in_piece plan gr n x TakesOld q i = there_known x.captures w (λ c. capture p k plan gr n c f f.local.stack fs w) (λ c e. captures_known p k b plan gr n c f f.local.stack fs w (kf.local).stack kf ks kw)
  runs_in_piece plan gr n x (ChecksHere c) q i = inline_known p k g b plan c x.clause.home (maybe [] (λ name. name) (slice_get x.clause.inline (count_checks p (take q x.clause.instrs)))) i f fs w kf ks kw
  runs_in_piece plan gr n x EndsBlock q i = runs_plainly (relocated_instr x.first_local i)
  runs_in_piece plan gr n x Abbreviates q i = runs_plainly (relocated_instr x.first_local i)
  runs_in_piece plan gr n x NoContractCall q i = runs_plainly (relocated_instr x.first_local i)

  recalls_known : (x : Piece) (o : ℕ × Old) → Keeps (recall p k g x o f fs w)
  recalls_known x o =
      there_known (slice_get f.local.captured (x.first_captured + o.0)) w (λ (c : Cell). arrive p k f (moved_to (o.1.to + 1) f.at) (pushed c.value f.local) fs w)
      (λ c e. arrives_known p b (plan_at k p f.method) f (moved_to (o.1.to + 1) f.at) (pushed c.value f.local) f.handling fs w (pushed_known b c.value f.local (cell_there b f.local.captured (x.first_captured + o.0) c (kf.local).captured e) kf.local) kf.handling kf ks kw)

  steps_piece : (plan : Plan) (gr : Group) (n : ℕ) (x : Piece) (q : ℕ) (o : Option (ℕ × Old)) → Keeps (step_piece p k g plan gr n x q o f fs w)
  steps_piece plan gr n x q (Some o) = recalls_known x o
  steps_piece plan gr n x q None = there_known (slice_get x.clause.instrs q) w (λ i. run_in_piece p k g plan gr n x (contract_call p i) q i f fs w) (λ i e. runs_in_piece plan gr n x (contract_call p i) q i)

  steps_body : (plan : Plan) (q : ℕ) → Keeps (step_body p k g plan q f fs w)
  steps_body plan q = there_known (slice_get (body_of p f.method).instrs q) w (λ i. run_in_body p k g plan (contract_call p i) i f fs w) (λ i e. runs_in_body plan (contract_call p i) i)

  steps_at : (o : Option Plan) (at : ProgramPoint) → Keeps (step_at p k g o at f fs w)
  steps_at None at = there_known (slice_get (body_of p f.method).instrs (place_in at)) w (λ i. run_plain p k g i f fs w) (λ i e. runs_plainly i)
  steps_at (Some plan) (LeadIn q) = steps_body plan q
  steps_at (Some plan) (Rest q) = steps_body plan q
  steps_at (Some plan) (InGroup gr n q) = there_known (piece_at (Some plan) gr n) w (λ x. step_piece p k g plan gr n x q (recalled x q) f fs w) (λ x e. steps_piece plan gr n x q (recalled x q))

  steps_known : Keeps (step_frames p k g (f ∷ fs) w)
  steps_known = steps_at (plan_at k p f.method) f.at

after_known : (before : List Item) (x : Next) → Keeps x → Keeps (goes_after before x)
after_known before (Running s) h = record { objects = h.objects; frames = h.frames; world = record { count = (h.world).count; heap = (h.world).heap; statics = (h.world).statics } }
after_known before (Ended o w) h = tt

by_frames : (p : Program) (k : Contracts) (g : AddedNumbers) (b : ℕ) (fs : List Frame) (w : World) → KnownFrames b fs → KnownWorld b w → Keeps (step_frames p k g fs w)
by_frames p k g b [] w ks kw = tt
by_frames p k g b (f ∷ fs) w ks kw = steps_known p k g b f fs w ks.0 ks.1 kw

pub each_step_known : StepsKnown
unfolding step
each_step_known p k g s h =
    after_known (s.world).trace (step_frames p k g s.frames (unrecorded s.world)) (by_frames p k g h.objects s.frames (unrecorded s.world) h.frames (record { count = (h.world).count; heap = (h.world).heap; statics = (h.world).statics }))
