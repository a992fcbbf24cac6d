-- Where references lead to objects, what a frame throws, looks at or makes is one.
use Rattle.std.proofs.Common.{ℕ, List, ◌∷◌, sym, subst}
use Rattle.cil_model.specs.declared.contract.Contracts.{Contracts}
use Rattle.cil_model.specs.declared.program.Program.{Program}
use Rattle.cil_model.specs.declared.program.MethodDesc.{MethodDesc}
use Rattle.cil_semantics.specs.declared.state.World.{World}
use Rattle.cil_semantics.specs.declared.state.Frame.{Frame}
use Rattle.cil_semantics.specs.declared.state.Continuation.{Continuation}
use Rattle.cil_semantics.specs.declared.state.Continuation.TheVariants.{Push, PushObject, PushStruct, ThrowObject, BeginCallee, UseField, TryNext}
use Rattle.cil_semantics.specs.State.{unrecorded}
use Rattle.cil_semantics.specs.Unwind.{here_of}
use Rattle.cil_semantics.specs.Instructions.{act}
use Rattle.cil_semantics.specs.Checks.{AddedNumbers}
use Rattle.splice_facts.specs.Exceptions.{ObjectIf, BackThere, ThrowsObject}
use Rattle.splice_facts.specs.Related.{Rewritten}
use Rattle.object_validity.specs.Known.{KnownContinuation, References}
use Rattle.object_validity.proofs.PerformLaws.{throws_known}
use Rattle.step_answers.specs.Answering.{ObjectsThere}

back_there : (b : ℕ) (c : Continuation) → KnownContinuation b c → BackThere b c
back_there b Push h = tt
back_there b (PushObject v) h = tt
back_there b PushStruct h = tt
back_there b (ThrowObject x) h = h
back_there b BeginCallee h = tt
back_there b (UseField a) h = tt
back_there b (TryNext exists target left) h = tt

module _ (p : Program) (k : Contracts) (ms : List MethodDesc) (g : AddedNumbers) (r : Rewritten p k ms g) where
  pub objects_there : (f : Frame) (fs : List Frame) (w : World) → References (record { frames = f ∷ fs; world = w }) → ObjectsThere p k ms g r f fs w
  objects_there f fs w h =
      let kf = h.frames.0 in
      record {
        thrown = subst (λ n. ObjectIf n f.thrown) (sym (h.world).count) kf.thrown;
        back = subst (λ n. BackThere n f.continuation) (sym (h.world).count) (back_there h.objects f.continuation kf.back);
        throws = λ i e. subst (λ n. ThrowsObject n f.handling (act p (here_of f fs) i (unrecorded w) f.local)) (sym (h.world).count)
            (throws_known h.objects p (here_of f fs) i (unrecorded w) f.local f.handling (record { count = (h.world).count; heap = (h.world).heap; statics = (h.world).statics }) kf.local kf.handling);
      }
