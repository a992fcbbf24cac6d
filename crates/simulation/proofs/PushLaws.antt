-- A value goes to the frame below in both runs, which go on there.
use Rattle.std.proofs.Common.{◌≡◌, ℕ, suc, ◌+◌, ◌<◌, ◌≤◌, List, ◌∷◌, length, Option, Some, None, refl, sym, ap, ◌∙◌, subst, arith}
use Rattle.cil_model.specs.declared.value.Value.{Value}
use Rattle.cil_model.specs.declared.contract.Contracts.{Contracts}
use Rattle.cil_model.specs.declared.contract.Group.{Group}
use Rattle.cil_model.specs.declared.program.Program.{Program}
use Rattle.cil_model.specs.declared.program.MethodDesc.{MethodDesc}
use Rattle.cil_model.specs.NoContracts.{no_contracts}
use Rattle.cil_semantics.specs.Words.{maybe}
use Rattle.cil_semantics.specs.declared.state.Cell.{Cell}
use Rattle.cil_semantics.specs.declared.state.World.{World}
use Rattle.cil_semantics.specs.declared.state.Statics.{Statics}
use Rattle.cil_semantics.specs.declared.state.Local.{Local}
use Rattle.cil_semantics.specs.declared.state.ProgramPoint.{ProgramPoint}
use Rattle.cil_semantics.specs.declared.state.ProgramPoint.TheVariants.{LeadIn, InGroup, Rest}
use Rattle.cil_semantics.specs.declared.state.Handling.{Handling}
use Rattle.cil_semantics.specs.declared.state.Frame.{Frame}
use Rattle.cil_semantics.specs.State.{Next, pushed}
use Rattle.cil_semantics.specs.declared.state.Continuation.{Continuation}
use Rattle.cil_semantics.specs.Contracted.{Plan}
use Rattle.cil_semantics.specs.Unwind.{body_of, plan_at, place_in, moved_to, next_place, goes_at, arrive, arrive_in}
use Rattle.cil_semantics.specs.Returns.{push_below}
use Rattle.cil_semantics.specs.Checks.{AddedNumbers}
use Rattle.splice_facts.specs.Bodies.{with_methods}
use Rattle.splice_facts.specs.Grown.{grow, beside}
use Rattle.splice_facts.specs.Acting.{KeepsPlaces}
use Rattle.splice_facts.specs.Layout.{Marks, CanArrive}
use Rattle.splice_facts.specs.Related.{Rewritten, HandlingPair, HandlingPairs, Waits, FramePair, Under, Frames, Related, laid_by, ValidFrame, ValidFrames, count_groups, in_group}
use Rattle.splice_facts.specs.Related as Pairs
use Rattle.splice_facts.proofs.ComesLaws.{arrives_plain}
use Rattle.simulation.proofs.ArriveLaws as Arriving
use Rattle.simulation.proofs.UnwindLaws as Unwinding
use Rattle.simulation.proofs.UnwindLaws.{moved_pairs, as_many, begun}

-- what a frame has in its places is given anew where it arrives
pub stale_arrive : (p : Program) (o : Option Plan) (h : Frame) (at : ProgramPoint) (l0 l : Local) (hs : List Handling) (fs : List Frame) (w : World) → arrive_in p o (record h { local = l0 }) at l hs fs w ≡ arrive_in p o h at l hs fs w
stale_arrive p None h at l0 l hs fs w = refl
stale_arrive p (Some c) h (LeadIn q) l0 l hs fs w = refl
stale_arrive p (Some c) h (InGroup gr j q) l0 l hs fs w = refl
stale_arrive p (Some c) h (Rest q) l0 l hs fs w = refl

pub fits_moved : (fits : Group → Option ℕ → Type 0) (at : ProgramPoint) (t : ℕ) (o : Option ℕ) → Pairs.FitsAt fits at o → Pairs.FitsAt fits (moved_to t at) o
fits_moved fits (LeadIn q) t o h = h
fits_moved fits (InGroup gr j q) t o h = h
fits_moved fits (Rest q) t o h = h

pub waits_moved : (plan : Option Plan) (m : Marks) (rows : ℕ) (at : ProgramPoint) (t : ℕ) (hs hs' : List Handling) → Waits plan m rows at hs hs' → Waits plan m rows (moved_to t at) hs hs'
waits_moved plan m rows (LeadIn q) t hs hs' h = moved_pairs plan m rows (LeadIn q) t hs hs' tt h
waits_moved plan m rows (InGroup gr j q) t hs hs' h = h
waits_moved plan m rows (Rest q) t hs hs' h = moved_pairs plan m rows (Rest q) t hs hs' tt h

module _ (p : Program) (k : Contracts) (ms : List MethodDesc) (g : AddedNumbers) (r : Rewritten p k ms g) where
  abbrev p' : Program
  p' = with_methods p ms

  abbrev To : ℕ → Next → Next → Type 0
  To n x y = Unwinding.To p k ms g r n x y

  abbrev lay : ℕ → ℕ
  lay n = Unwinding.lay p k ms g r n

  abbrev cst : ℕ
  cst = Unwinding.cst p k ms g r

  abbrev IsBeside : World → List Statics → Type 0
  IsBeside w ss = Unwinding.IsBeside p k ms g r w ss

  abbrev below : Continuation → Continuation → List Frame → List Frame → Type 0
  below b b' fs fs' = Under p k ms g r b b' fs fs'

  abbrev valid : List Frame → Type 0
  valid fs = Pairs.AllStand p k ms g r fs

  -- a frame goes on from where it stands to a place of the same part
  pub moves : (h h' : Frame) (q t u : ℕ) (l : Local) (fs fs' : List Frame) (w : World) (ss : List Statics) (change : Local → Local) → ((l1 : Local) (ex : List Cell) → change (grow ex l1) ≡ grow ex (change l1)) → change h.local ≡ l → KeepsPlaces h.local l → FramePair p k ms g r q h fs h' → (Pairs.marks_in p k ms g r h.method).places (moved_to t h.at) ≡ u → CanArrive (plan_at k p h.method) (moved_to t h.at) → h.method < r.methods → Pairs.FitsAt (Unwinding.Fits p k ms g r) h.at h.thrown → below h.continuation h'.continuation fs fs' → IsBeside w ss → w.depth ≤ suc k.settings.guard
      → To (cst + lay (suc (length fs))) (arrive p k h (moved_to t h.at) l fs w) (arrive p' no_contracts h' (Rest u) (change h'.local) fs' (beside ss w))
  moves h h' q t u l fs fs' w ss change grows same kept pair placed can old fits under bes deep =
      let m = Pairs.marks_in p k ms g r h.method in
      let twin : Frame = Unwinding.tw p k ms g r h h.local pair.extra q h'.handling h'.continuation in
      let a = Arriving.arrives p k ms g r (plan_at k p h.method) h (moved_to t h.at) l h.local pair.extra h.handling h'.handling h'.handling q h'.continuation fs fs' w ss refl old can (fits_moved (Unwinding.Fits p k ms g r) h.at t h.thrown fits)
      (record { wide = kept.locals ∙ pair.keeps.wide; caps = kept.captured ∙ pair.keeps.caps; typed = pair.keeps.typed; result = λ v e. pair.keeps.result v (sym kept.result ∙ e); thrown = pair.keeps.thrown }) (waits_moved (plan_at k p h.method) m (length (body_of p h.method).regions) h.at t h.handling h'.handling pair.waits) bes (as_many p k ms g r h.continuation h'.continuation fs fs' under) deep under in
      let e1 = arrives_plain p' twin (Rest u) (change twin.local) h'.handling fs' (beside ss w) in
      let e2 = ap (λ z. goes_at p' twin (Rest u) z h'.handling fs' (beside ss w)) (grows h.local pair.extra ∙ ap (grow pair.extra) same) in
      subst (λ z. To (cst + lay (suc (length fs))) (arrive p k h (moved_to t h.at) l fs w) (arrive p' no_contracts z (Rest u) (change z.local) fs' (beside ss w))) (sym pair.same)
      (subst (λ z. To (cst + lay (suc (length fs))) (arrive p k h (moved_to t h.at) l fs w) z) (sym (e1 ∙ e2))
      (subst (λ z. To (cst + lay (suc (length fs))) (arrive p k h (moved_to t h.at) l fs w) (goes_at p' twin (Rest z) (grow pair.extra l) h'.handling fs' (beside ss w))) placed a))

  abbrev with_value : Option Value → Local → Local
  with_value v l = maybe l (λ x. pushed x l) v

  value_grows : (v : Option Value) (l : Local) (ex : List Cell) → with_value v (grow ex l) ≡ grow ex (with_value v l)
  value_grows None l ex = refl
  value_grows (Some x) l ex = refl

  value_result : (v : Option Value) (l : Local) → KeepsPlaces l (with_value v l)
  value_result None l = record { result = refl; locals = refl; captured = refl }
  value_result (Some x) l = record { result = refl; locals = refl; captured = refl }

  -- a value is pushed in the frame below
  pub pushes : (b b' : Continuation) (v : Option Value) (fs fs' : List Frame) (w : World) (ss : List Statics) → Pairs.IsCommon p k ms g r b → below b b' fs fs' → valid fs → IsBeside w ss → w.depth ≤ suc k.settings.guard → To (cst + lay (length fs)) (push_below p k v fs w) (push_below p' no_contracts v fs' (beside ss w))
  pushes b b' v fs fs' w ss c (Under.bottom b1 c1) ok bes deep = Unwinding.reach_now p k ms g r (cst + lay 0) _ _ (omega arith) (refl, record { heap = refl; statics = sym bes.statics; trace = refl })
  pushes b b' v fs fs' w ss c (Under.waits b1 h h' hs hs' c1 pair here on under) ok bes deep =
      let a = moves h h' ((Pairs.marks_in p k ms g r h.method).places h.at) (place_in h.at + 1) ((Pairs.marks_in p k ms g r h.method).places h.at + 1) (with_value v h.local) hs hs' w ss (with_value v) (value_grows v) refl (value_result v h.local) pair on.placed on.there (ok.0).old (ok.0).fits under bes deep in
      subst (λ z. To (cst + lay (suc (length hs))) (push_below p k v (h ∷ hs) w) (arrive p' no_contracts h' (next_place z) (with_value v h'.local) hs' (beside ss w))) (sym (ap (λ (z : Frame). z.at) pair.same)) a
  pushes b b' v fs fs' w ss c (Under.begins h h' hs hs' pair first n n' under) ok bes deep = absurd c
  pushes b b' v fs fs' w ss c (Under.throws x q h h' hs hs' pair here t under) ok bes deep = absurd c
