-- Steps at copied instructions that call, in both runs.
use Rattle.std.proofs.Common.{◌≡◌, ℕ, suc, List, ◌∷◌, length, Some, refl, sym, subst}
use Rattle.cil_model.specs.declared.body.Instr.{Instr}
use Rattle.cil_model.specs.declared.contract.Contracts.{Contracts}
use Rattle.cil_model.specs.declared.program.Program.{Program}
use Rattle.cil_model.specs.declared.program.MethodDesc.{MethodDesc}
use Rattle.cil_model.specs.NoContracts.{no_contracts}
use Rattle.cil_semantics.specs.declared.state.Local.{Local as LocalState}
use Rattle.cil_semantics.specs.declared.state.World.{World}
use Rattle.cil_semantics.specs.declared.state.Statics.{Statics}
use Rattle.cil_semantics.specs.declared.state.Frame.{Frame}
use Rattle.cil_semantics.specs.declared.state.Continuation.TheVariants.{Push}
use Rattle.cil_semantics.specs.State.{Next, Running, unrecorded}
use Rattle.cil_semantics.specs.Acts.{Act, CallMember, CallVirtual, NewObject, LoadVirtualFunction}
use Rattle.cil_semantics.specs.Instructions.{act}
use Rattle.cil_semantics.specs.Unwind.{plan_at, here_of, moved_to, next_place}
use Rattle.cil_semantics.specs.Machine.{step, step_frames, perform, run_plain, unused_numbers}
use Rattle.cil_semantics.specs.Checks.{AddedNumbers}
use Rattle.splice_facts.specs.Bodies.{with_methods}
use Rattle.splice_facts.specs.Grown.{grow, beside, grow_act}
use Rattle.splice_facts.specs.WellFormed.{WellFormedObjects}
use Rattle.splice_facts.specs.Acting.{KeepsPlaces, WellFormedAct}
use Rattle.splice_facts.specs.Layout.{Onward, fetch}
use Rattle.splice_facts.specs.Spliced.{IsPlainAt}
use Rattle.splice_facts.specs.Related.{Rewritten, Under, TopPair, bounds}
use Rattle.simulation_objects.specs.Calls as Sites
use Rattle.simulation.proofs.UnwindLaws as Unwinding
use Rattle.simulation_steps.proofs.StepLaws as Stepping
use Rattle.simulation_objects.proofs.CallLaws as Calling
use Rattle.simulation_objects.proofs.VirtualLaws as Finding
use Rattle.simulation_objects.proofs.NewLaws as Making

module _ (p : Program) (k : Contracts) (ms : List MethodDesc) (g : AddedNumbers) (r : Rewritten p k ms g) where
  abbrev p' : Program
  p' = with_methods p ms

  abbrev To : ℕ → Next → Next → Type 0
  To n x y = Unwinding.To p k ms g r n x y

  -- the plain machine's numbers, which it never reads
  abbrev none : AddedNumbers
  none = unused_numbers p'

  -- the frame waits for what is called
  site : (f f' : Frame) (fs fs' : List Frame) (w : World) (ss : List Statics) (l : LocalState) (t : TopPair p k ms g r f f' fs fs' w ss) → Onward (plan_at k p f.method) (r.marks f.method).places f.at (next_place f.at) → KeepsPlaces f.local l → WellFormedObjects (bounds p k ms g r) w.heap
      → Sites.CallSite p k ms g r (record f { local = l } ∷ fs) (record f' { local = grow (t.pair.extra) l } ∷ fs') w ss
  site f f' fs fs' w ss l t on kept heap =
      let top = Stepping.top_with p k ms g r f f' fs fs' w ss l t kept in
      record { under = Under.waits Push (record f { local = l }) (record f' { local = grow (t.pair.extra) l }) fs fs' tt (top.pair) (top.here) on (top.under); others = (top.stands, top.others); alike = t.alike; deep = t.deep; count = t.count; heap = heap }

  performs_call : (a : Act) (f f' : Frame) (fs fs' : List Frame) (w : World) (ss : List Statics) (t : TopPair p k ms g r f f' fs fs' w ss) → WellFormedObjects (bounds p k ms g r) w.heap → WellFormedAct (bounds p k ms g r) f.local a → Sites.CallLeads p k ms g r f fs w a
      → To (Sites.call_cost p k ms g r (suc (length fs))) (perform p k g a f fs w) (perform p' no_contracts none (grow_act (λ u. (r.marks f.method).places (moved_to u f.at)) (t.pair.extra) a) f' fs' (beside ss w))
  performs_call (CallMember c l) f f' fs fs' w ss t heap fine on =
      Calling.calls_member p k ms g r c.owner c.method c.method_args c.values (record f { local = l } ∷ fs) (record f' { local = grow (t.pair.extra) l } ∷ fs') w ss fine.1 fine.2 on.1 (site f f' fs fs' w ss l t on.0 fine.0 heap)
  performs_call (CallVirtual c l) f f' fs fs' w ss t heap fine on =
      Finding.calls_virtual p k ms g r c (record f { local = l } ∷ fs) (record f' { local = grow (t.pair.extra) l } ∷ fs') w ss on.1 (site f f' fs fs' w ss l t on.0 fine.0 heap)
  performs_call (NewObject c l) f f' fs fs' w ss t heap fine on =
      Making.makes p k ms g r c.owner c.method c.values (record f { local = l } ∷ fs) (record f' { local = grow (t.pair.extra) l } ∷ fs') w ss fine.1 fine.2 on.1 (site f f' fs fs' w ss l t on.0 fine.0 heap)
  performs_call (LoadVirtualFunction c l) f f' fs fs' w ss t heap fine on =
      Finding.finds_function p k ms g r c c.values (record f { local = l } ∷ fs) (record f' { local = grow (t.pair.extra) l } ∷ fs') w ss (site f f' fs fs' w ss l t on fine.0 heap)
  performs_call _ f f' fs fs' w ss t heap fine on = absurd on

  pub call_step_answers : (f f' : Frame) (fs fs' : List Frame) (w : World) (ss : List Statics) (t : TopPair p k ms g r f f' fs fs' (unrecorded w) ss) (i : Instr) → fetch p k g (plan_at k p f.method) f.method f.at ≡ Some i → IsPlainAt p k p' g r.types r.depths f.method (plan_at k p f.method) f.at i → WellFormedObjects (bounds p k ms g r) w.heap
      → WellFormedAct (bounds p k ms g r) f.local (act p (here_of f fs) i (unrecorded w) f.local) → Sites.CallLeads p k ms g r f fs (unrecorded w) (act p (here_of f fs) i (unrecorded w) f.local) → step_frames p k g (f ∷ fs) (unrecorded w) ≡ run_plain p k g i f fs (unrecorded w)
      → Unwinding.An p k ms g r (suc (Sites.call_cost p k ms g r (suc (length fs)))) (step p k g (record { frames = f ∷ fs; world = w })) (Running (record { frames = f' ∷ fs'; world = beside ss w }))
  call_step_answers f f' fs fs' w ss t i e plain heap fine on first =
      Stepping.step_by p k ms g r (Sites.call_cost p k ms g r (suc (length fs))) (record { frames = f ∷ fs; world = w }) (record { frames = f' ∷ fs'; world = beside ss w }) refl
      (subst (λ z. To (Sites.call_cost p k ms g r (suc (length fs))) z (step_frames p' no_contracts none (f' ∷ fs') (beside ss (unrecorded w)))) (sym first)
      (subst (λ z. To (Sites.call_cost p k ms g r (suc (length fs))) (run_plain p k g i f fs (unrecorded w)) z) (sym (Stepping.copy_runs p k ms g r f f' fs fs' (unrecorded w) ss t i e plain))
      (performs_call (act p (here_of f fs) i (unrecorded w) f.local) f f' fs fs' (unrecorded w) ss t heap fine on)))
