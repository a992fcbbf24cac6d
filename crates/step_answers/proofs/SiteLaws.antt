-- What both runs have where a step begins, and answers where nothing was told before.
use Rattle.std.proofs.Common.{◌≡◌, ℕ, suc, ◌≤◌, Bool, true, false, List, [], ◌∷◌, length, Option, Some, refl, sym, ap, ◌∙◌, subst, arith}
use Rattle.std.proofs.lemmas.List.{append-nil}
use Rattle.std.specs.Prelude.{filter, slice_get, if◌then◌else◌}
use Rattle.cil_model.specs.declared.body.Region.{Region}
use Rattle.cil_model.specs.declared.contract.Contracts.{Contracts}
use Rattle.cil_model.specs.declared.program.Program.{Program}
use Rattle.cil_model.specs.declared.program.MethodDesc.{MethodDesc}
use Rattle.cil_semantics.specs.declared.state.World.{World}
use Rattle.cil_semantics.specs.declared.state.Statics.{Statics}
use Rattle.cil_semantics.specs.declared.state.Frame.{Frame}
use Rattle.cil_semantics.specs.declared.state.Handling.{Handling}
use Rattle.cil_semantics.specs.declared.state.ProgramPoint.{ProgramPoint}
use Rattle.cil_semantics.specs.declared.state.ProgramPoint.TheVariants.{LeadIn, InGroup, Rest}
use Rattle.cil_semantics.specs.declared.state.Continuation.{Continuation}
use Rattle.cil_semantics.specs.declared.state.Continuation.TheVariants.{Push, PushObject, PushStruct, ThrowObject, BeginCallee, UseField, TryNext}
use Rattle.cil_semantics.specs.State.{State, Next, Running, unrecorded, recorded_after, goes_after}
use Rattle.cil_semantics.specs.Contracted.{Piece, Plan}
use Rattle.cil_semantics.specs.Unwind.{body_of, plan_at, in_handler}
use Rattle.cil_semantics.specs.Checks.{AddedNumbers}
use Rattle.cil_semantics.specs.Machine.{step, step_frames, and_then, runs}
use Rattle.machine_laws.specs.Same.{plain_step}
use Rattle.machine_laws.specs.Simulation.{Match}
use Rattle.splice_facts.specs.Bodies.{with_methods}
use Rattle.splice_facts.specs.Grown.{beside}
use Rattle.splice_facts.specs.Layout.{Marks, IsHere}
use Rattle.splice_facts.specs.Input.{is_group}
use Rattle.splice_facts.specs.Spliced.{Beside, Current, from_here, has_any}
use Rattle.splice_facts.specs.Related.{Rewritten, FramePair, HandlingPairs, Waits, Under, IsCommon, ValidFrames, AllStand, TopPair}
use Rattle.simulation.proofs.UnwindLaws as Unwinding
use Rattle.simulation.proofs.ArriveLaws as Arriving
use Rattle.simulation_steps.proofs.StepLaws as Stepping
use Rattle.simulation_valid.specs.Keeping.{Sound, Placed, PlacedAt}
use Rattle.simulation_valid.specs.Steps.{RunsHere}

-- ---- handlers that hold a place

short : (t : Handling → Bool) (hs : List Handling) → length (filter t hs) ≤ length hs
short t [] = omega arith
short t (h ∷ hs) = by_test (t h) (short t hs)
  where
    by_test : (b : Bool) → length (filter t hs) ≤ length hs → length (if b then h ∷ filter t hs else filter t hs) ≤ suc (length hs)
    by_test true le = omega (arith, le)
    by_test false le = omega (arith, le)

first_kept : (t : Handling → Bool) (h : Handling) (hs : List Handling) → filter t (h ∷ hs) ≡ h ∷ hs → (t h ≡ true) × (filter t hs ≡ hs)
first_kept t h hs e = by_test (t h) refl e
  where
    by_test : (b : Bool) → t h ≡ b → (if b then h ∷ filter t hs else filter t hs) ≡ h ∷ hs → (t h ≡ true) × (filter t hs ≡ hs)
    by_test true s q = (s, cc q)
    by_test false s q = let l : length (filter t hs) ≡ suc (length hs) = ap length q in let le = short t hs in absurd (omega (arith, l, le))

kept_too : (rs : List Region) (q : ℕ) (plan : Option Plan) (m : Marks) (rows : ℕ) (at : ProgramPoint) (hs hs' : List Handling) → HandlingPairs plan m rows at hs hs' → filter (in_handler rs q) hs ≡ hs → filter (in_handler rs q) hs' ≡ hs'
kept_too rs q plan m rows at [] [] x e = refl
kept_too rs q plan m rows at [] (h' ∷ hs') x e = absurd x
kept_too rs q plan m rows at (h ∷ hs) [] x e = absurd x
kept_too rs q plan m rows at (h ∷ hs) (h' ∷ hs') x e =
    let first = first_kept (in_handler rs q) h hs e in
    ap (λ b. if b then h' ∷ filter (in_handler rs q) hs' else filter (in_handler rs q) hs') (Arriving.same_number rs q h h' (x.0).handler ∙ first.0)
    ∙ ap (λ xs. h' ∷ xs) (kept_too rs q plan m rows at hs hs' x.1 first.1)

module _ (p : Program) (k : Contracts) (ms : List MethodDesc) (g : AddedNumbers) (r : Rewritten p k ms g) where
  abbrev p' : Program
  p' = with_methods p ms

  abbrev An : ℕ → Next → Next → Type 0
  An n x y = Unwinding.An p k ms g r n x y

  abbrev mk : ℕ → Marks
  mk m = r.marks m

  -- ---- frames

  all_stand : (fs : List Frame) → ValidFrames p k ms g r fs → AllStand p k ms g r fs
  all_stand [] v = tt
  all_stand (f ∷ fs) v = (v.0.stands, all_stand fs v.1)

  placed_at : (b : Continuation) (f : Frame) → IsCommon p k ms g r b → IsHere (plan_at k p f.method) f.at → PlacedAt p k ms g r b f
  placed_at Push f c h = h
  placed_at (PushObject v) f c h = h
  placed_at PushStruct f c h = h
  placed_at (ThrowObject x) f c h = absurd c
  placed_at BeginCallee f c h = absurd c
  placed_at (UseField a) f c h = h
  placed_at (TryNext e t l) f c h = h

  placed_of : (b b' : Continuation) (fs fs' : List Frame) → Under p k ms g r b b' fs fs' → Placed p k ms g r b fs
  placed_of b b' fs fs' (Under.bottom b1 c) = tt
  placed_of b b' fs fs' (Under.waits b1 h h' hs hs' c pair here on under) = (placed_at b1 h c here, placed_of h.continuation h'.continuation hs hs' under)
  placed_of b b' fs fs' (Under.begins h h' hs hs' pair first n n' under) = ((first, n), placed_of h.continuation h'.continuation hs hs' under)
  placed_of b b' fs fs' (Under.throws x q h h' hs hs' pair here t under) = (here, placed_of h.continuation h'.continuation hs hs' under)

  abbrev Unheard : World → List Statics → Type 0
  Unheard w ss = Beside p k p' g r.types r.depths (unrecorded w) ss

  pub unheard : (w : World) (ss : List Statics) → Beside p k p' g r.types r.depths w ss → Unheard w ss
  unheard w ss b = record { statics = b.statics; depth = b.depth; bare = b.bare; failures = b.failures }

  pub top_pair : (f f' : Frame) (fs fs' : List Frame) (w : World) (ss : List Statics) → FramePair p k ms g r ((mk f.method).places f.at) f fs f' → IsHere (plan_at k p f.method) f.at → Under p k ms g r f.continuation f'.continuation fs fs' → Beside p k p' g r.types r.depths w ss → Sound p k ms g r (record { frames = f ∷ fs; world = w }) → TopPair p k ms g r f f' fs fs' (unrecorded w) ss
  top_pair f f' fs fs' w ss pair here under bes sound =
      let v = sound.valid in
      record { pair = pair; here = here; under = under; stands = (v.frames).0.stands; others = all_stand fs (v.frames).1; alike = unheard w ss bes; deep = v.deep; count = v.depth }

  pub runs_here : (f f' : Frame) (fs fs' : List Frame) (w : World) → IsHere (plan_at k p f.method) f.at → Under p k ms g r f.continuation f'.continuation fs fs' → Sound p k ms g r (record { frames = f ∷ fs; world = w }) → RunsHere p k ms g r f fs (unrecorded w)
  runs_here f f' fs fs' w here under sound =
      let v = sound.valid in
      record {
        top = record {
          frame = (v.frames).0;
          as_named = (sound.returning).0;
          counted = (sound.returning).1;
          below = record { others = (v.frames).1; returning = (sound.returning).2; heights = (v.heights).1; world = record { heap = (v.world).heap; statics = (v.world).statics } };
          count = v.depth;
          deep = v.deep;
        };
        here = here;
        placed = placed_of f.continuation f'.continuation fs fs' under;
      }

  -- the twin's handlers hold the place too
  pub current_too : (f f' : Frame) (at : ProgramPoint) → is_group at ≡ false → Waits (plan_at k p f.method) (mk f.method) (length (body_of p f.method).regions) at f.handling f'.handling → Current p k p' g r.types r.depths f.method at f.handling → Current p k p' g r.types r.depths f.method at f'.handling
  current_too f f' (LeadIn q) n x c = (Unwinding.lows p k ms g r f.method (LeadIn q) f.handling f'.handling x, kept_too (body_of p f.method).regions q (plan_at k p f.method) (mk f.method) (length (body_of p f.method).regions) (LeadIn q) f.handling f'.handling x c.1)
  current_too f f' (Rest q) n x c = (Unwinding.lows p k ms g r f.method (Rest q) f.handling f'.handling x, kept_too (body_of p f.method).regions q (plan_at k p f.method) (mk f.method) (length (body_of p f.method).regions) (Rest q) f.handling f'.handling x c.1)
  current_too f f' (InGroup gr j q) n x c = absurd (cc n)

  -- the twin stands at the place of the frame's instruction
  pub from_twin : (f f' : Frame) (fs fs' : List Frame) (w : World) (ss : List Statics) (hs : List Handling) (pair : FramePair p k ms g r ((mk f.method).places f.at) f fs f') → f'.handling ≡ hs
      → from_here p k p' g r.types r.depths (mk f.method) f pair.extra f'.continuation fs' w ss hs ≡ Running (record { frames = f' ∷ fs'; world = beside ss w })
  from_twin f f' fs fs' w ss hs pair e =
      ap (λ z. from_here p k p' g r.types r.depths (mk f.method) f pair.extra f'.continuation fs' w ss z) (sym e)
      ∙ ap (λ z. Running (record { frames = z ∷ fs'; world = beside ss w })) (sym pair.same)

  pub any_there : (xs : List Piece) (j : ℕ) (x : Piece) → slice_get xs j ≡ Some x → has_any p k p' g r.types r.depths xs ≡ true
  any_there [] j x e = absurd (cc e)
  any_there (y ∷ ys) j x e = refl

  -- ---- what was told before stands before both

  world_again : (w : World) → recorded_after w.trace (unrecorded w) ≡ w
  world_again w = ap (λ t. record w { trace = t }) (append-nil w.trace)

  pub told_answers : (n : ℕ) (x : Next) (fs' : List Frame) (w : World) (ss : List Statics) → An n x (Running (record { frames = fs'; world = beside ss (unrecorded w) })) → An n (goes_after w.trace x) (Running (record { frames = fs'; world = beside ss w }))
  told_answers n x fs' w ss h =
      let s0 : State = record { frames = fs'; world = beside ss (unrecorded w) } in
      let j = (h.reaches).steps in
      let y = and_then (Running s0) (runs (plain_step p') j) in
      subst (λ v. An n (goes_after w.trace x) (Running (record { frames = fs'; world = beside ss v }))) (world_again w)
      (record {
        reaches = record {
          steps = j;
          most = omega (arith, (h.reaches).most, Stepping.weight_told p k ms g r w.trace x);
          same = subst (Match (Arriving.E p k ms g r) (Arriving.R p k ms g r) (goes_after w.trace x)) (sym (Stepping.told_so p k ms g r j w.trace (Running s0))) (Stepping.match_told p k ms g r w.trace x y (h.reaches).same);
        };
        moves = h.moves;
      })

  -- a step's answer is that to what the topmost frame does
  pub step_answered : (n m : ℕ) (f : Frame) (fs fs' : List Frame) (w : World) (ss : List Statics) → n ≤ m → An n (step_frames p k g (f ∷ fs) (unrecorded w)) (Running (record { frames = fs'; world = beside ss (unrecorded w) })) → An m (step p k g (record { frames = f ∷ fs; world = w })) (Running (record { frames = fs'; world = beside ss w }))
  unfolding step
  step_answered n m f fs fs' w ss le h = Unwinding.answer_within p k ms g r n m _ _ le (told_answers n (step_frames p k g (f ∷ fs) (unrecorded w)) fs' w ss h)
