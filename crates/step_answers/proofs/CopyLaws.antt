-- A step at a copied instruction, at a `ret`, and behind the end of the code.
use Rattle.std.proofs.Common.{◌≡◌, ℕ, suc, ◌+◌, ◌<◌, Bool, true, false, List, [], ◌∷◌, length, Option, Some, None, refl, sym, ap, ◌∙◌, subst, arith, take, drop}
use Rattle.std.specs.Prelude.{map, slice_get, nat_le, if◌then◌else◌, IsTrue, reverse}
use Rattle.cil_model.specs.declared.ty.Ty.{Ty}
use Rattle.cil_model.specs.declared.value.Value.{Value}
use Rattle.cil_model.specs.declared.body.Instr.{Instr}
use Rattle.cil_model.specs.declared.contract.Contracts.{Contracts}
use Rattle.cil_model.specs.declared.program.Program.{Program}
use Rattle.cil_model.specs.declared.program.MethodDesc.{MethodDesc}
use Rattle.cil_model.specs.declared.program.Meaning.{Meaning}
use Rattle.cil_model.specs.declared.program.Meaning.TheVariants.{OfType, OfField, OfMethod, OfText, OfLocals}
use Rattle.cil_model.specs.NoContracts.{no_contracts}
use Rattle.il_opcodes.specs.Opcodes.{class_of}
use Rattle.il_opcodes.specs.declared.class.Class.{Class}
use Rattle.il_opcodes.specs.declared.class.Class.TheVariants as class
use Rattle.cil_semantics.specs.Lookups.{args_of}
use Rattle.cil_semantics.specs.declared.state.Cell.{Cell}
use Rattle.cil_semantics.specs.declared.state.World.{World}
use Rattle.cil_semantics.specs.declared.state.Statics.{Statics}
use Rattle.cil_semantics.specs.declared.state.Frame.{Frame}
use Rattle.cil_semantics.specs.declared.state.Local.{Local}
use Rattle.cil_semantics.specs.declared.state.ProgramPoint.{ProgramPoint}
use Rattle.cil_semantics.specs.declared.state.ProgramPoint.TheVariants.{LeadIn, InGroup, Rest}
use Rattle.cil_semantics.specs.State.{Next, Running, unrecorded, with_stack}
use Rattle.cil_semantics.specs.Tokens.{Here, meaning_here, constrained_here}
use Rattle.cil_semantics.specs.Contracted.{Plan}
use Rattle.cil_semantics.specs.Unwind.{body_of, plan_at, here_of, place_in, next_place}
use Rattle.cil_semantics.specs.Frames.{stuck, if_there}
use Rattle.cil_semantics.specs.Acts.{Call, Act, taken, with_this, method_in, arity}
use Rattle.cil_semantics.specs.Acts as Acts
use Rattle.cil_semantics.specs.Instructions.{act, act_of_class}
use Rattle.cil_semantics.specs.Returns.{returns}
use Rattle.cil_semantics.specs.Checks.{AddedNumbers}
use Rattle.cil_semantics.specs.Machine.{step, step_at, step_frames, run_plain, perform, unused_numbers}
use Rattle.machine_laws.specs.Same.{bound_of, most_clauses}
use Rattle.machine_laws.specs.Answers.{is_below}
use Rattle.splice_facts.specs.Acting.{KeepsPlaces, WellFormedAct}
use Rattle.splice_facts.specs.Bodies.{with_methods}
use Rattle.splice_facts.specs.Grown.{beside, grow_act}
use Rattle.splice_facts.specs.WellFormed.{Bounds, WellFormedLocal, WellFormedValues, NoneVoid}
use Rattle.splice_facts.specs.Layout.{Marks, IsHere, Onward, fetch, never_falls}
use Rattle.splice_facts.specs.Input.{is_group, never_in_clause, PiecesIf}
use Rattle.splice_facts.specs.Spliced.{Beside, IsPlainAt, has_exit}
use Rattle.splice_facts.specs.Related.{Rewritten, FramePair, Under, ValidFrames, NamesInput, ActLeads, TopPair, bounds, laid_by, count_groups, in_group}
use Rattle.splice_facts.proofs.ComesLaws.{no_plan}
use Rattle.simulation.proofs.UnwindLaws as Unwinding
use Rattle.simulation.proofs.ArriveLaws as Arriving
use Rattle.simulation_steps.proofs.StepLaws as Stepping
use Rattle.simulation_objects.specs.Calls.{CallLeads, WellFormedFrames}
use Rattle.simulation_objects.proofs.CallStepLaws.{call_step_answers}
use Rattle.simulation_calls.specs.Rets.{Ret, NoExit}
use Rattle.simulation_calls.proofs.RetLaws.{rets_bare}
use Rattle.simulation_valid.specs.Keeping.{Sound, ValidPlaces}
use Rattle.simulation_valid.specs.Steps.{RunsHere, FineAct, MayStep}
use Rattle.simulation_valid.proofs.StepValidLaws.{acts_fine}
use Rattle.simulation_valid.proofs.UnwindValidLaws.{places_of, restacked}
use Rattle.valid_calls.proofs.CallStepLaws.{reversed, taken_values, dropped_values}
use Rattle.step_answers.specs.Answering.{ObjectsThere}
use Rattle.step_answers.specs.Leading.{LedBy, CallsNothing}
use Rattle.step_answers.proofs.LeadLaws.{acts_led}
use Rattle.step_answers.proofs.SiteLaws.{top_pair, runs_here}

map_length : {X Y : Type 0} (h : X → Y) (xs : List X) → length (map h xs) ≡ length xs
map_length h [] = refl
map_length h (x ∷ xs) = ap suc (map_length h xs)

pub act_returns : (p : Program) (here : Here) (i : Instr) (w : World) (l : Local) → class_of i.op ≡ class.Return → act p here i w l ≡ Acts.Return
unfolding act act_of_class
act_returns p here i w l e = ap (act_of_class p here i w l) e

act_unsupported : (p : Program) (here : Here) (i : Instr) (w : World) (l : Local) → class_of i.op ≡ class.Unsupported → act p here i w l ≡ Acts.Stuck
unfolding act act_of_class
act_unsupported p here i w l e = ap (act_of_class p here i w l) e

module _ (p : Program) (k : Contracts) (ms : List MethodDesc) (g : AddedNumbers) (r : Rewritten p k ms g) where
  abbrev p' : Program
  p' = with_methods p ms

  abbrev An : ℕ → Next → Next → Type 0
  An n x y = Unwinding.An p k ms g r n x y

  abbrev mk : ℕ → Marks
  mk m = r.marks m

  abbrev none : AddedNumbers
  none = unused_numbers p'

  abbrev Bs : Bounds
  Bs = bounds p k ms g r

  well_formed_frames : (fs : List Frame) → ValidFrames p k ms g r fs → WellFormedFrames Bs fs
  well_formed_frames [] v = tt
  well_formed_frames (f ∷ fs) v = (v.0.fine, well_formed_frames fs v.1)

  module _ (f f' : Frame) (fs fs' : List Frame) (w : World) (ss : List Statics) (pair : FramePair p k ms g r ((mk f.method).places f.at) f fs f') (here : IsHere (plan_at k p f.method) f.at) (under : Under p k ms g r f.continuation f'.continuation fs fs') (bes : Beside p k p' g r.types r.depths w ss)
      (sound : Sound p k ms g r (record { frames = f ∷ fs; world = w })) (objects : ObjectsThere p k ms g r f fs w) where
    abbrev w0 : World
    w0 = unrecorded w

    abbrev N : ℕ
    N = bound_of k p + laid_by p k ms g r (record { frames = f ∷ fs; world = w })

    abbrev Goal : Type 0
    Goal = An N (step p k g (record { frames = f ∷ fs; world = w })) (Running (record { frames = f' ∷ fs'; world = beside ss w }))

    abbrev M : ℕ
    M = most_clauses k p 0 p.methods

    t : TopPair p k ms g r f f' fs fs' w0 ss
    t = top_pair p k ms g r f f' fs fs' w ss pair here under bes sound

    a : RunsHere p k ms g r f fs w0
    a = runs_here p k ms g r f f' fs fs' w here under sound

    places : ValidPlaces p k ms g r f fs
    places = places_of p k ms g r f fs a.top.frame a.top.as_named

    abbrev On : Type 0
    On = Onward (plan_at k p f.method) (mk f.method).places f.at (next_place f.at)

    kept : (l : Local) → ValidPlaces p k ms g r (record f { local = l }) fs → l.result ≡ f.local.result → KeepsPlaces f.local l
    kept l v same =
        record {
          result = same;
          locals = v.wide ∙ sym places.wide;
          captured = sym (map_length (λ (c : Cell). c.ty) l.captured) ∙ ap length (v.captured ∙ sym places.captured) ∙ map_length (λ (c : Cell). c.ty) f.local.captured;
        }

    well_formed : (b : Act) → FineAct p k ms g r f fs b → WellFormedAct Bs f.local b
    well_formed Acts.Stuck v = tt
    well_formed (Acts.GoOn made l) v = kept l v.1 v.2
    well_formed (Acts.Jump q l) v = kept l v.0 v.1
    well_formed (Acts.Raise name) v = tt
    well_formed (Acts.Throw x) v = tt
    well_formed Acts.Rethrow v = tt
    well_formed (Acts.Leave q) v = tt
    well_formed Acts.EndHandler v = tt
    well_formed Acts.Return v = tt
    well_formed (Acts.Load q s l) v = (kept l v.0 v.1, v.2)
    well_formed (Acts.Store q x l) v = (kept l v.0 v.1, v.2)
    well_formed (Acts.Copy q q2 s l) v = (kept l v.0 v.1, v.2, v.3)
    well_formed (Acts.UseStatic u c l) v = (kept l v.0 v.1, v.3, v.2)
    well_formed (Acts.CallMember c l) v = absurd v
    well_formed (Acts.CallVirtual c l) v = absurd v
    well_formed (Acts.NewObject c l) v = absurd v
    well_formed (Acts.LoadVirtualFunction c l) v = absurd v

    no_group : (at : ProgramPoint) → is_group at ≡ false → Rattle.splice_facts.specs.Related.is_no_group p k ms g r at
    no_group (LeadIn q) e = tt
    no_group (Rest q) e = tt
    no_group (InGroup gr j q) e = absurd (cc e)

    leads : (b : Act) → LedBy On (plan_at k p f.method) f.at b → FineAct p k ms g r f fs b → ActLeads p k ms g r f b
    leads Acts.Stuck x v = tt
    leads (Acts.GoOn made l) x v = x
    leads (Acts.Jump q l) x v = x
    leads (Acts.Raise name) x v = tt
    leads (Acts.Throw y) x v = tt
    leads Acts.Rethrow x v = tt
    leads (Acts.Leave q) x v = (no_group f.at v, x)
    leads Acts.EndHandler x v = tt
    leads Acts.Return x v = absurd x
    leads (Acts.Load q s l) x v = x
    leads (Acts.Store q y l) x v = x
    leads (Acts.Copy q q2 s l) x v = x
    leads (Acts.UseStatic u c l) x v = x
    leads (Acts.CallMember c l) x v = absurd x
    leads (Acts.CallVirtual c l) x v = absurd x
    leads (Acts.NewObject c l) x v = absurd x
    leads (Acts.LoadVirtualFunction c l) x v = absurd x

    -- ---- behind the end of the code

    nothing_runs : fetch p k g (plan_at k p f.method) f.method f.at ≡ None → step_frames p' no_contracts none (f' ∷ fs') (beside ss w0) ≡ stuck (beside ss w0)
    nothing_runs e =
        ap (λ o. step_at p' no_contracts none o f'.at f' fs' (beside ss w0)) (no_plan p' f'.method)
        ∙ by_instr (slice_get (body_of p' f'.method).instrs (place_in f'.at)) found
      where
        found : slice_get (body_of p' f'.method).instrs (place_in f'.at) ≡ slice_get (body_of p' f.method).instrs ((mk f.method).places f.at)
        found = ap (λ (z : Frame). slice_get (body_of p' z.method).instrs (place_in z.at)) pair.same

        by_instr : (o : Option Instr) → o ≡ slice_get (body_of p' f.method).instrs ((mk f.method).places f.at) → if_there o (beside ss w0) (λ i. run_plain p' no_contracts none i f' fs' (beside ss w0)) ≡ stuck (beside ss w0)
        by_instr None s = refl
        by_instr (Some i) s = ap (λ b. perform p' no_contracts none b f' fs' (beside ss w0)) (act_unsupported p' (here_of f' fs') i (beside ss w0) f'.local ((r.bodies f.method (t.stands).old).ends f.at i here e (sym s)))

    pub ends_answered : fetch p k g (plan_at k p f.method) f.method f.at ≡ None → step_frames p k g (f ∷ fs) w0 ≡ stuck w0 → Goal
    ends_answered e first =
        Unwinding.answer_within p k ms g r (suc 0) N _ _ (omega arith)
        (Stepping.step_by p k ms g r 0 (record { frames = f ∷ fs; world = w }) (record { frames = f' ∷ fs'; world = beside ss w }) refl
        (subst (λ z. Unwinding.To p k ms g r 0 z (step_frames p' no_contracts none (f' ∷ fs') (beside ss w0))) (sym first)
        (subst (λ z. Unwinding.To p k ms g r 0 (stuck w0) z) (sym (nothing_runs e)) (Arriving.stuck_both p k ms g r 0 w0 ss t.alike))))

    -- ---- a copied instruction

    module _ (i : Instr) (found : fetch p k g (plan_at k p f.method) f.method f.at ≡ Some i) (plain : IsPlainAt p k p' g r.types r.depths f.method (plan_at k p f.method) f.at i) (first : step_frames p k g (f ∷ fs) w0 ≡ run_plain p k g i f fs w0) where
      abbrev the_act : Act
      the_act = act p (here_of f fs) i w0 f.local

      onward : never_falls (class_of i.op) ≡ false → On
      onward e = (r.bodies f.method (t.stands).old).goes_on f.at i here found plain e

      by_act : FineAct p k ms g r f fs the_act → ActLeads p k ms g r f the_act → Goal
      by_act fine on =
          Unwinding.answer_within p k ms g r _ N _ _ (omega arith)
          (Stepping.plain_step_answers p k ms g r f f' fs fs' w ss t i found plain (well_formed the_act fine) on (objects.throws i found) first)

      calls_nothing : CallsNothing (class_of i.op) → MayStep p k ms g r i f fs w0 (class_of i.op) → Goal
      calls_nothing n may =
          let fine = acts_fine p k ms g r i f fs w0 a found may in
          by_act fine (leads the_act (acts_led On (plan_at k p f.method) f.at p (here_of f fs) i w0 f.local n onward ((r.input f.method (t.stands).old).jumps f.at i here found)) fine)

      -- what a call passes
      record Passed (c : Call) (l : Local) : Type 0 where
        pub kept : KeepsPlaces f.local l
        pub old : c.method < r.methods
        pub owner : IsTrue (is_below r.types c.owner)
        pub values : WellFormedValues Bs c.values
        pub fine : WellFormedLocal Bs l
        pub constrained : (u : Ty) → c.constrained ≡ Some u → NoneVoid p (args_of u)

      abbrev CallReady : Act → Type 0
      CallReady Acts.Stuck = Unit {0}
      CallReady (Acts.CallMember c l) = Passed c l
      CallReady (Acts.CallVirtual c l) = Passed c l
      CallReady (Acts.NewObject c l) = Passed c l
      CallReady (Acts.LoadVirtualFunction c l) = Passed c l
      CallReady b = ⊥

      answered_call : (b : Act) → the_act ≡ b → WellFormedAct Bs f.local b → CallLeads p k ms g r f fs w0 b → Goal
      answered_call b e fine on =
          Unwinding.answer_within p k ms g r _ N _ _ (omega arith)
          (call_step_answers p k ms g r f f' fs fs' w ss t i found plain (a.top.below.world).heap (subst (WellFormedAct Bs f.local) (sym e) fine) (subst (CallLeads p k ms g r f fs w0) (sym e) on) first)

      by_ready : On → (b : Act) → the_act ≡ b → CallReady b → Goal
      by_ready on Acts.Stuck e x = by_act (subst (FineAct p k ms g r f fs) (sym e) tt) (subst (ActLeads p k ms g r f) (sym e) tt)
      by_ready on (Acts.CallMember c l) e x = answered_call (Acts.CallMember c l) e (x.kept, x.old, x.owner) (on, x.values)
      by_ready on (Acts.CallVirtual c l) e x =
          answered_call (Acts.CallVirtual c l) e (x.kept, x.old, x.owner)
          (on, record { old = x.old; owner = x.owner; values = x.values; frames = (x.fine, well_formed_frames fs a.top.below.others); world = a.top.below.world; constrained = x.constrained })
      by_ready on (Acts.NewObject c l) e x = answered_call (Acts.NewObject c l) e (x.kept, x.old, x.owner) (on, x.values)
      by_ready on (Acts.LoadVirtualFunction c l) e x = answered_call (Acts.LoadVirtualFunction c l) e (x.kept, x.old, x.owner) on
      by_ready on (Acts.GoOn made l) e x = absurd x
      by_ready on (Acts.Jump q l) e x = absurd x
      by_ready on (Acts.Raise name) e x = absurd x
      by_ready on (Acts.Throw y) e x = absurd x
      by_ready on Acts.Rethrow e x = absurd x
      by_ready on (Acts.Leave q) e x = absurd x
      by_ready on Acts.EndHandler e x = absurd x
      by_ready on Acts.Return e x = absurd x
      by_ready on (Acts.Load q s l) e x = absurd x
      by_ready on (Acts.Store q y l) e x = absurd x
      by_ready on (Acts.Copy q q2 s l) e x = absurd x
      by_ready on (Acts.UseStatic u c l) e x = absurd x

      own : NamesInput p r.types r.methods (meaning_here p (here_of f fs) i)
      own = r.names f.method f.at i (here_of f fs) a.top.frame.stands.old refl a.top.as_named.2 a.top.as_named.3 here found

      taken_ready : (go : Call → Local → Act) → ((c : Call) (l : Local) → Passed c l → CallReady (go c l)) → (n : ℕ) (m : Option Meaning) → NamesInput p r.types r.methods m → CallReady (taken p i (here_of f fs) n m f.local go)
      taken_ready go h n None o = tt
      taken_ready go h n (Some (OfType u)) o = tt
      taken_ready go h n (Some (OfField owner c)) o = tt
      taken_ready go h n (Some (OfText units)) o = tt
      taken_ready go h n (Some (OfLocals ts)) o = tt
      taken_ready go h n (Some (OfMethod owner m args)) o = by_test (nat_le n (length f.local.stack))
        where
          call : Call
          call = record { owner = owner; method = m; method_args = args; values = reverse (take n f.local.stack); constrained = constrained_here p (here_of f fs) i }

          rest : List Value
          rest = drop n f.local.stack

          by_test : (b : Bool) → CallReady (if b then go call (with_stack f.local rest) else Acts.Stuck)
          by_test true =
              let v = restacked p k ms g r f rest fs places (dropped_values Bs n f.local.stack places.fine.stack) in
              h call (with_stack f.local rest) (record { kept = kept (with_stack f.local rest) v refl; old = o.0; owner = o.1; values = reversed Bs (take n f.local.stack) (taken_values Bs n f.local.stack places.fine.stack); fine = v.fine; constrained = λ u q. r.constrains f.method f.at i (here_of f fs) u a.top.frame.stands.old refl a.top.as_named.2 a.top.as_named.3 here found q })
          by_test false = tt

      ready : (c : Class) → class_of i.op ≡ c → CallReady (act_of_class p (here_of f fs) i w0 f.local c) → never_falls c ≡ false → Goal
      unfolding act
      ready c e x n = by_ready (onward (ap never_falls e ∙ n)) (act_of_class p (here_of f fs) i w0 f.local c) (ap (act_of_class p (here_of f fs) i w0 f.local) e) x

      calls : (c : Class) → class_of i.op ≡ c → never_falls c ≡ false → (CallsNothing c → ⊥) → Goal
      unfolding act_of_class
      calls class.Call e n x = ready class.Call e (taken_ready (λ c l. Acts.CallMember c l) (λ c l y. y) _ _ own) refl
      calls class.CallVirtual e n x = ready class.CallVirtual e (taken_ready (λ c l. Acts.CallVirtual c l) (λ c l y. y) _ _ own) refl
      calls class.NewObject e n x = ready class.NewObject e (taken_ready (λ c l. Acts.NewObject c l) (λ c l y. y) _ _ own) refl
      calls class.LoadVirtualFunction e n x = ready class.LoadVirtualFunction e (taken_ready (λ c l. Acts.LoadVirtualFunction c l) (λ c l y. y) _ _ own) refl
      calls class.Return e n x = absurd (cc n)
      calls c e n x = absurd (x tt)

      -- ---- ret, where no group comes at exit

      outside : class_of i.op ≡ class.Return → w0.depth ≡ count_groups fs
      outside e = by_place f.at refl (t.count)
        where
          in_no_clause : (o : Option Plan) (gr : _) (j q : ℕ) → PiecesIf p k g f.method o → IsHere o (InGroup gr j q) → fetch p k g o f.method (InGroup gr j q) ≡ Some i → ⊥
          in_no_clause None gr j q y h s = h
          in_no_clause (Some c) gr j q y h s = let z : true ≡ false = sym (ap never_in_clause e) ∙ y.no_such gr j q i h s in cc z

          by_place : (at : ProgramPoint) → f.at ≡ at → w0.depth ≡ in_group f.at + count_groups fs → w0.depth ≡ count_groups fs
          by_place (LeadIn q) s c = c ∙ ap (λ z. in_group z + count_groups fs) s ∙ none_more (count_groups fs)
            where
              none_more : (n : ℕ) → 0 + n ≡ n
              none_more n = omega arith
          by_place (Rest q) s c = c ∙ ap (λ z. in_group z + count_groups fs) s ∙ none_more (count_groups fs)
            where
              none_more : (n : ℕ) → 0 + n ≡ n
              none_more n = omega arith
          by_place (InGroup gr j q) s c =
              absurd (in_no_clause (plan_at k p f.method) gr j q (r.input f.method (t.stands).old).pieces (subst (IsHere (plan_at k p f.method)) s here) (sym (ap (fetch p k g (plan_at k p f.method) f.method) s) ∙ found))

      pub returning : class_of i.op ≡ class.Return → Ret p k ms g r f f' fs fs' w0 ss
      returning e = record { top = t; outside = outside e; fine_back = a.top.frame.fine_back; heap = (a.top.below.world).heap; back = objects.back; named = a.top.as_named.0 }

      rets : class_of i.op ≡ class.Return → NoExit p k ms g r (plan_at k p f.method) f.at → Goal
      rets e bare =
          Unwinding.answer_within p k ms g r _ N _ _ (omega arith)
          (Stepping.step_by p k ms g r _ (record { frames = f ∷ fs; world = w }) (record { frames = f' ∷ fs'; world = beside ss w }) refl
          (subst (λ z. Unwinding.To p k ms g r R z (step_frames p' no_contracts none (f' ∷ fs') (beside ss w0))) (sym (first ∙ ap (λ b. perform p k g b f fs w0) (act_returns p (here_of f fs) i w0 f.local e)))
          (subst (λ z. Unwinding.To p k ms g r R (returns p k f fs w0) z) (sym (Stepping.copy_runs p k ms g r f f' fs fs' w0 ss t i found plain ∙ ap (λ b. perform p' no_contracts none (grow_act (λ u. (mk f.method).places (Rattle.cil_semantics.specs.Unwind.moved_to u f.at)) (t.pair.extra) b) f' fs' (beside ss w0)) (act_returns p (here_of f fs) i w0 f.local e)))
          (rets_bare p k ms g r f f' fs fs' w0 ss (returning e) bare))))
        where
          R : ℕ
          R = Unwinding.cst p k ms g r + Unwinding.lay p k ms g r (suc (suc (length fs)))

      no_exit : class_of i.op ≡ class.Return → (o : Option Plan) (at : ProgramPoint) → plan_at k p f.method ≡ o → f.at ≡ at → NoExit p k ms g r o at
      no_exit e None at eo ea = tt
      no_exit e (Some c) (LeadIn q) eo ea = tt
      no_exit e (Some c) (Rest q) eo ea = by_exit (has_exit p k p' g r.types r.depths c) refl
        where
          here_plain : IsPlainAt p k p' g r.types r.depths f.method (Some c) (Rest q) i
          here_plain = subst (λ z. IsPlainAt p k p' g r.types r.depths f.method (Some c) z i) ea (subst (λ o. IsPlainAt p k p' g r.types r.depths f.method o f.at i) eo plain)

          by_exit : (b : Bool) → has_exit p k p' g r.types r.depths c ≡ b → has_exit p k p' g r.types r.depths c ≡ false
          by_exit false s = s
          by_exit true s = absurd (here_plain.1 s e)
      no_exit e (Some c) (InGroup gr j q) eo ea =
          let y : w0.depth ≡ count_groups fs = outside e in
          let z : w0.depth ≡ 1 + count_groups fs = t.count ∙ ap (λ u. in_group u + count_groups fs) ea in
          absurd (omega (arith, y, z))

      pub copied_answered : Goal
      copied_answered = by_class (class_of i.op) refl
        where
          by_class : (c : Class) → class_of i.op ≡ c → Goal
          by_class class.Call e = calls class.Call e refl (λ y. y)
          by_class class.CallVirtual e = calls class.CallVirtual e refl (λ y. y)
          by_class class.NewObject e = calls class.NewObject e refl (λ y. y)
          by_class class.LoadVirtualFunction e = calls class.LoadVirtualFunction e refl (λ y. y)
          by_class class.Return e = rets e (no_exit e (plan_at k p f.method) f.at refl refl)
          by_class c e = calls_nothing (subst CallsNothing (sym e) tt) (subst (MayStep p k ms g r i f fs w0) (sym e) tt)
