-- An old value and Result are loaded from their locals.
use Rattle.std.proofs.Common.{◌≡◌, ℕ, zero, suc, ◌+◌, ◌<◌, List, [], ◌∷◌, length, Option, Some, None, refl, sym, ap, ◌∙◌, subst, arith}
use Rattle.std.specs.Prelude.{slice_get, option_map}
use Rattle.cil_model.specs.declared.value.Value.{Value}
use Rattle.cil_model.specs.declared.contract.Contracts.{Contracts}
use Rattle.cil_model.specs.declared.program.Program.{Program}
use Rattle.cil_semantics.specs.declared.state.Cell.{Cell}
use Rattle.cil_semantics.specs.declared.state.World.{World}
use Rattle.cil_semantics.specs.declared.state.Statics.{Statics}
use Rattle.cil_semantics.specs.declared.state.Frame.{Frame}
use Rattle.cil_semantics.specs.declared.state.Continuation.{Continuation}
use Rattle.cil_semantics.specs.State.{pushed}
use Rattle.cil_semantics.specs.Contracted.{Plan}
use Rattle.cil_semantics.specs.Unwind.{body_of, here_of, moved_to, next_place}
use Rattle.cil_semantics.specs.Checks.{AddedNumbers}
use Rattle.splice_facts.specs.Comes.{Goes}
use Rattle.splice_facts.specs.Grown.{grow, beside}
use Rattle.splice_facts.specs.Layout.{Depths, Marks, IsHere, CanArrive}
use Rattle.splice_facts.specs.Spliced.{twin, stands, from_here, cost}
use Rattle.splice_laws.specs.Straight.{ldloc, at_place}
use Rattle.splice_facts.proofs.ComesLaws.{comes_at_once, moves_within}
use Rattle.splice_laws.proofs.StraightLaws.{first_step, goes_one, does_ldloc}
use Rattle.splice_laws.proofs.SeamLocalLaws.{extra_at}
use Rattle.seam_laws.specs.RecallCode.{RecallCode, RecallSeams}
use Rattle.seam_laws.proofs.CaptureLaws.{captured_get}

-- what is there is within
there_within : (xs : List Cell) (i : ℕ) (c : Cell) → slice_get xs i ≡ Some c → i < length xs
there_within [] i c e = absurd (cc e)
there_within (x ∷ xs) zero c e = omega arith
there_within (x ∷ xs) (suc i) c e = let ih = there_within xs i c e in omega (arith, ih)

the_cell : (o : Option Cell) (v : Value) → option_map (λ (c : Cell). c.value) o ≡ Some v → (c : Cell) × (o ≡ Some c) × (c.value ≡ v)
the_cell None v e = absurd (cc e)
the_cell (Some c) v e = (c, refl, cc e)

module _ (p : Program) (k : Contracts) (p' : Program) (g : AddedNumbers) (n : ℕ) (depths : Depths n g) (me : ℕ) (plan : Plan) (m : Marks) (code : RecallCode p k p' g n depths me plan m) where
  -- one load, from a place to the next
  loads : (f : Frame) (fs' : List Frame) (w : World) (ex : List Cell) (ss : List Statics) (b : Continuation) (t next : ℕ) (c : Cell) → f.method ≡ me → slice_get (body_of p' me).instrs (m.places f.at) ≡ Some (ldloc t) → slice_get (grow ex f.local).locals t ≡ Some c → next ≡ m.places f.at + 1
      → Goes p' (cost k p) (from_here p k p' g n depths m f ex b fs' w ss []) (stands p k p' g n depths f (pushed c.value f.local) ex next b fs' w ss)
  loads f fs' w ex ss b t next c a there held eq =
      let F : Frame = twin p k p' g n depths f f.local [] 0 [] b in
      let l0 = grow ex f.local in
      let W : World = beside ss w in
      let S = m.places f.at in
      moves_within p' 1 (cost k p) _ _ (omega arith)
      (first_step p' F l0 S [] fs' W 0 _ _ (goes_one p' F l0 (pushed c.value l0) S [] fs' W (ldloc t) (ap (λ z. slice_get (body_of p' z).instrs S) a ∙ there) (does_ldloc p' (here_of F fs') t c l0 held) refl)
      (comes_at_once p' 0 _ _ (ap (λ z. at_place F (pushed c.value l0) z [] fs' W) (sym eq))))

  pub recall_seams : RecallSeams p k p' g n depths me plan m
  recall_seams =
      record {
        recalls = λ gr j q x o c f fs fs' w ex ss b a at here there rec held s.
            let z = code.recalls gr j q x o (subst (IsHere (Some plan)) at here) there rec in
            let y = x.first_captured + o.0 in (
              subst (λ t. CanArrive (Some plan) (moved_to (o.1.to + 1) t)) (sym at) z.there,
              loads f fs' w ex ss b (m.old_locals + y) (m.places (moved_to (o.1.to + 1) f.at)) c a (ap (λ t. slice_get (body_of p' me).instrs (m.places t)) at ∙ z.code)
                  (captured_get f.local.locals f.local.captured ex m.old_locals y (s.keeps).wide (there_within f.local.captured y c held) ∙ held) (ap (λ t. m.places (moved_to (o.1.to + 1) t)) at ∙ z.next ∙ ap (λ t. m.places t + 1) (sym at)),
            );
        results = λ gr j q x i v f fs fs' w ex ss b a at here there instr gives res s.
            let z = code.results gr j q x i (subst (IsHere (Some plan)) at here) there instr gives in
            let c = the_cell (slice_get ex m.result_at) v ((s.keeps).result v res) in
            subst (λ u. Goes p' (cost k p) (from_here p k p' g n depths m f ex b fs' w ss []) (stands p k p' g n depths f (pushed u f.local) ex (m.places (next_place f.at)) b fs' w ss)) c.2
            (loads f fs' w ex ss b (m.old_locals + m.olds + m.result_at) (m.places (next_place f.at)) c.0 a (ap (λ t. slice_get (body_of p' me).instrs (m.places t)) at ∙ z.code)
            (extra_at m.old_locals m.olds f.local.locals f.local.captured ex m.result_at (s.keeps).wide (s.keeps).caps ∙ c.1) (ap (λ t. m.places (next_place t)) at ∙ z.next ∙ ap (λ t. m.places t + 1) (sym at)));
      }
