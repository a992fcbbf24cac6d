-- The call that ends a clause, in both runs.
use Rattle.std.proofs.Common.{◌≡◌, ℕ, suc, ◌+◌, ◌*◌, ◌<◌, ◌≤◌, false, List, [], ◌∷◌, length, Some, refl, sym, ap, ◌∙◌, subst, arith}
use Rattle.std.specs.Prelude.{slice_get}
use Rattle.cil_model.specs.declared.contract.Contracts.{Contracts}
use Rattle.cil_model.specs.declared.contract.Group.{Group}
use Rattle.cil_model.specs.declared.contract.Group.TheVariants as group
use Rattle.cil_model.specs.declared.program.Program.{Program}
use Rattle.cil_model.specs.declared.program.MethodDesc.{MethodDesc}
use Rattle.cil_model.specs.NoContracts.{no_contracts}
use Rattle.cil_semantics.specs.declared.state.Cell.{Cell}
use Rattle.cil_semantics.specs.declared.state.Local.{Local as LocalState}
use Rattle.cil_semantics.specs.declared.state.World.{World}
use Rattle.cil_semantics.specs.declared.state.Statics.{Statics}
use Rattle.cil_semantics.specs.declared.state.ProgramPoint.{ProgramPoint}
use Rattle.cil_semantics.specs.declared.state.ProgramPoint.TheVariants.{InGroup}
use Rattle.cil_semantics.specs.declared.state.Frame.{Frame}
use Rattle.cil_semantics.specs.State.{Next, Running, with_stack, with_local}
use Rattle.cil_semantics.specs.declared.state.Continuation.{Continuation}
use Rattle.cil_semantics.specs.Contracted.{Piece, Plan, pieces}
use Rattle.cil_semantics.specs.Unwind.{plan_at, piece_at, here_of, unwind}
use Rattle.cil_semantics.specs.Returns.{piece_over}
use Rattle.cil_semantics.specs.Checks.{AddedNumbers, Failure, Condition, check}
use Rattle.splice_facts.specs.Exceptions.{IsObject, ObjectIf, BackThere}
use Rattle.splice_facts.specs.Bodies.{with_methods}
use Rattle.splice_facts.specs.Grown.{beside}
use Rattle.splice_facts.specs.WellFormed.{WellFormedObjects}
use Rattle.splice_facts.specs.Layout.{Marks}
use Rattle.splice_facts.specs.Spliced.{clause_failure, from_here, Checked, failure_cost}
use Rattle.splice_facts.specs.Related.{Rewritten, Under, FramePair, Waits, count_groups, in_group}
use Rattle.splice_facts.specs.Related as Pairs
use Rattle.simulation_calls.specs.Failures as Failing
use Rattle.simulation.proofs.ArriveLaws as Arriving
use Rattle.simulation.proofs.ArriveLaws.{groups_of}
use Rattle.simulation.proofs.UnwindLaws as Unwinding
use Rattle.simulation.proofs.UnwindLaws.{as_many, unwinds, unwinds_at}
use Rattle.simulation_steps.proofs.ReturnLaws as Returning
use Rattle.simulation_calls.proofs.CheckLaws as Checking

pub not_inline : (c : Plan) (gr : Group) (j : ℕ) (x : Piece) → piece_at (Some c) gr j ≡ Some x → gr ≡ group.Inline → ⊥
not_inline c gr j x e q = let z : slice_get (pieces c group.Inline) j ≡ Some x = ap (λ y. slice_get (pieces c y) j) (sym q) ∙ e in absurd (cc z)

module _ (p : Program) (k : Contracts) (ms : List MethodDesc) (g : AddedNumbers) (r : Rewritten p k ms g) where
  abbrev p' : Program
  p' = with_methods p ms

  abbrev To : ℕ → Next → Next → Type 0
  To n x y = Unwinding.To p k ms g r n x y

  abbrev lay : ℕ → ℕ
  lay n = Unwinding.lay p k ms g r n

  abbrev cst : ℕ
  cst = Unwinding.cst p k ms g r

  abbrev mk : ℕ → Marks
  mk m = Pairs.marks_in p k ms g r m

  abbrev valid : List Frame → Type 0
  valid fs = Pairs.AllStand p k ms g r fs

  abbrev IsBeside : World → List Statics → Type 0
  IsBeside w ss = Unwinding.IsBeside p k ms g r w ss

  abbrev ending : ℕ → ℕ
  ending n = 4 * cst + lay (suc (suc n))

  pub fits_in : (gr : Group) (j q : ℕ) (h : Frame) (fs : List Frame) → h.at ≡ InGroup gr j q → Pairs.Standing p k ms g r h fs → Unwinding.Fits p k ms g r gr h.thrown
  fits_in gr j q h fs e st = subst (λ a. Pairs.FitsAt (Unwinding.Fits p k ms g r) a h.thrown) e st.fits

  pub no_waits : (m : ℕ) (gr : Group) (j q : ℕ) (a : ProgramPoint) (hs : List Rattle.cil_semantics.specs.declared.state.Handling.Handling) → a ≡ InGroup gr j q → hs ≡ [] → Waits (plan_at k p m) (mk m) (length (Rattle.cil_semantics.specs.Unwind.body_of p m).regions) a hs []
  no_waits m gr j q a hs e e2 = subst (λ z. Waits (plan_at k p m) (mk m) (length (Rattle.cil_semantics.specs.Unwind.body_of p m).regions) z hs []) (sym e) (e2, refl)

  -- the condition is there: it holds and the piece is over, or it fails
  pub condition_ends : (c : Plan) (gr : Group) (j q : ℕ) (x : Piece) (h : Frame) (ex : List Cell) (b' : Continuation) (fs fs' : List Frame) (w : World) (ss : List Statics) (o : Condition) (z : Failing.InPiece p k ms g r c gr j q x h ex b' fs fs' w ss)
      → (ch : Checked p k p' g r.types r.depths (mk h.method) h fs fs' w ex ss b' [] (clause_failure p k p' g r.types r.depths h fs x o.user) o.holds o.rest ((mk h.method).behind gr j))
      → Failing.MakesAlike p k ms g r (clause_failure p k p' g r.types r.depths h fs x o.user) (Failing.old_sequel p k ms g r c gr j h (with_stack h.local o.rest) fs) (Failing.new_sequel p k ms g r h fs' b' (with_stack h.local o.rest) ch.after ch.seam ch.maker ((mk h.method).behind gr j)) (record h { local = with_stack h.local o.rest } ∷ fs) fs' (ending (length fs)) w.depth
      → Unwinding.An p k ms g r (failure_cost k p + ending (length fs)) (check p k g (clause_failure p k p' g r.types r.depths h fs x o.user) o.holds (record h { local = with_stack h.local o.rest } ∷ fs) w (λ v. piece_over p k c gr j (with_local (with_stack h.local o.rest) h) fs v)) (from_here p k p' g r.types r.depths (mk h.method) h ex b' fs' w ss [])
  condition_ends c gr j q x h ex b' fs fs' w ss o z ch mk_so =
      Unwinding.answer_by p k ms g r (failure_cost k p) (ending (length fs)) _ _ _ ch.goes
      (Checking.checks_so p k ms g r (ending (length fs)) w.depth w.heap fl (Failing.old_sequel p k ms g r c gr j h l fs) (Failing.new_sequel p k ms g r h fs' b' l ch.after ch.seam ch.maker ((mk h.method).behind gr j)) (record h { local = l } ∷ fs) fs'
      (record { passes_so = passes; throws_so = throws; makes_so = mk_so; stops_so = λ v ss2 bes. Arriving.stuck_both p k ms g r (ending (length fs)) v ss2 bes }) o.holds w ss z.alike refl refl)
    where
      l : LocalState
      l = with_stack h.local o.rest

      fl : Failure
      fl = clause_failure p k p' g r.types r.depths h fs x o.user

      passes : (v : World) (ss2 : List Statics) → IsBeside v ss2 → v.depth ≡ w.depth → v.heap ≡ w.heap → To (ending (length fs)) (piece_over p k c gr j (with_local l h) fs v) (Running (record { frames = Unwinding.tw p k ms g r h l ch.after ((mk h.method).behind gr j) [] b' ∷ fs'; world = beside ss2 v }))
      passes v ss2 bes e same =
          let deep : v.depth ≤ suc k.settings.guard = subst (λ d. d ≤ suc k.settings.guard) (sym e) z.deep in
          let some : 0 < v.depth = omega (arith, e, z.count) in
          Returning.piece_is_over p k ms g r c gr j x h l ch.after b' fs fs' v ss2 (not_inline c gr j x z.piece) z.stays (fits_in gr j q h fs z.at z.stands) z.piece
          (record {
            plan = z.plan;
            old = (z.stands).old;
            keeps = record { typed = (ch.keeps).typed; result = (ch.keeps).result; thrown = (ch.keeps).thrown; wide = (ch.keeps).wide; caps = (ch.keeps).caps };
            under = z.under;
            others = z.others;
            own = (z.stands).initializes;
            fine_back = z.fine_back;
            deep = omega (arith, deep);
            count = omega (arith, e, z.count);
            heap = subst (WellFormedObjects (Pairs.bounds p k ms g r)) (sym same) z.heap;
            thrown = subst (λ os. ObjectIf (length os) h.thrown) (sym same) z.thrown;
            back = subst (λ os. BackThere (length os) h.continuation) (sym same) z.back;
            named = z.named;
          }) bes deep some

      throws : (v : World) (ss2 : List Statics) (y : ℕ) → IsBeside v ss2 → IsObject (length v.heap) y → v.depth ≡ w.depth → To (ending (length fs)) (unwind p k false (record h { local = l } ∷ fs) v y) (unwind p' no_contracts false (Unwinding.tw p k ms g r h l ch.after ch.seam [] b' ∷ fs') (beside ss2 v) y)
      throws v ss2 y bes there e =
          Unwinding.reach_within p k ms g r (2 * cst + lay (suc (length fs))) _ _ _ (omega arith)
          (unwinds_at p k ms g r (record h { local = l }) h.at ch.after [] ch.seam b' fs fs' v ss2 y
          (record {
            old = (z.stands).old;
            here = z.here;
            thrown_there = there;
            belongs = ch.belongs;
            keeps = record { typed = (ch.keeps).typed; result = (ch.keeps).result; thrown = (ch.keeps).thrown; wide = (ch.keeps).wide; caps = (ch.keeps).caps };
            fits = (z.stands).fits;
            waits = no_waits h.method gr j q h.at h.handling z.at z.bare;
            under = z.under;
            alike = bes;
            numbers = as_many p k ms g r h.continuation b' fs fs' z.under;
            deep = subst (λ d. d ≤ suc k.settings.guard) (sym e) z.deep;
            count = e ∙ z.count ∙ sym (ap (λ a. in_group a + count_groups fs) z.at);
            down = unwinds p k ms g r h.continuation b' fs fs' z.under z.others;
            own = (z.stands).initializes;
          }))
