-- Same behaviour of two programs, from the answers to single steps.
use Rattle.std.proofs.Common.{length, ◌≡◌, ℕ, suc, ◌+◌, ◌*◌, ◌≤◌, List, refl, sym, ap, ◌∙◌, subst, arith}
use Rattle.cil_model.specs.declared.value.Value.{Value}
use Rattle.cil_model.specs.declared.contract.Contracts.{Contracts}
use Rattle.cil_model.specs.declared.program.Program.{Program}
use Rattle.cil_model.specs.declared.run.Outcome.{Outcome}
use Rattle.cil_model.specs.declared.run.Reply.{Reply}
use Rattle.cil_model.specs.NoContracts.{no_contracts}
use Rattle.cil_semantics.specs.Checks.{AddedNumbers}
use Rattle.cil_semantics.specs.declared.state.World.{World}
use Rattle.cil_semantics.specs.State.{State, Next, Running, Ended}
use Rattle.cil_semantics.specs.Machine.{step, start, runs, run, plain_run, and_then, unused_numbers}
use Rattle.machine_laws.specs.Simulation.{IsPrefix, trace_of, weight, Match, Simulates, EndsAlike, Lifted}
use Rattle.machine_laws.specs.Same.{Same, SameWorld, IsEntry, Meets, BeginsAlike, AnswersSteps, bound_of, plain_step}
use Rattle.machine_laws.proofs.LiftLaws.{lifts, prefix_refl, end_outcome, end_world}
use Rattle.machine_laws.proofs.GrowthLaws.{step_grows}

-- the two directions and the two laws on prefixes, for two runs as functions of their steps
record SameRuns (E : World → World → Type 0) (c : ℕ) (a b : ℕ → Next) : Type 0 where
  ends_only : (n : ℕ) (o : Outcome) (w' : World) → b n ≡ Ended o w' → EndsAlike (λ w. E w w') (a n) o
  ends_too : (n : ℕ) (o : Outcome) (w : World) → a n ≡ Ended o w → EndsAlike (E w) (b (c * (n + 1))) o
  writes_no_more : (n : ℕ) → IsPrefix (trace_of (b n)) (trace_of (a n))
  writes_no_less : (n : ℕ) → IsPrefix (trace_of (a n)) (trace_of (b (c * (n + 1))))

module _ (p : Program) (k : Contracts) (p' : Program) (g : AddedNumbers) (R : State → State → Type 0) (f : State → ℕ) (h : AnswersSteps p k p' g R f) where
  simulates : Simulates (step p k g) (plain_step p') (SameWorld (length p.types)) R f (bound_of k p)
  simulates =
      record {
        same_trace = h.same_trace;
        same_recorded = λ w w' e. e.trace;
        answer = h.answer;
        grows = step_grows p' no_contracts (unused_numbers p');
      }

  -- runs that are over at once
  over : (o o1 : Outcome) (w w1 : World) → o ≡ o1 → SameWorld (length p.types) w w1 → SameRuns (SameWorld (length p.types)) (bound_of k p) (λ n. Ended o w) (λ n. Ended o1 w1)
  over o o1 w w1 e s =
      record {
        ends_only = λ n o2 w2 q. (w, ap (λ z. Ended z w) (e ∙ ap end_outcome q), subst (SameWorld (length p.types) w) (ap end_world q) s);
        ends_too = λ n o2 w2 q. (w1, ap (λ z. Ended z w1) (sym e ∙ ap end_outcome q), subst (λ z. SameWorld (length p.types) z w1) (ap end_world q) s);
        writes_no_more = λ n. subst (λ z. IsPrefix w1.trace z) (sym s.trace) (prefix_refl w1.trace);
        writes_no_less = λ n. subst (λ z. IsPrefix w.trace z) s.trace (prefix_refl w.trace);
      }

  -- runs that begin
  begun : (s t : State) → Meets p k p' R f s t → SameRuns (SameWorld (length p.types)) (bound_of k p) (λ n. runs (step p k g) n s) (λ n. runs (plain_step p') n t)
  begun s t b =
      let l : Lifted (step p k g) (plain_step p') (SameWorld (length p.types)) (bound_of k p) s t =
      lifts (step p k g) (plain_step p') (SameWorld (length p.types)) R f (bound_of k p) simulates b.steps s b.met t b.related b.meets b.within
      in
      record { ends_only = l.ends_only; ends_too = l.ends_too; writes_no_more = l.writes_no_more; writes_no_less = l.writes_no_less }

  from_starts : (x y : Next) → BeginsAlike p k p' R f x y → SameRuns (SameWorld (length p.types)) (bound_of k p) (λ n. and_then x (runs (step p k g) n)) (λ n. and_then y (runs (plain_step p') n))
  from_starts (Running s) (Running t) b = begun s t b
  from_starts (Ended o w) (Ended o1 w1) b = over o o1 w w1 b.0 b.1
  from_starts (Running s) (Ended o1 w1) b = absurd b
  from_starts (Ended o w) (Running t) b = absurd b

  of_entry : (m : ℕ) (args : List Value) (rs : List Reply) → IsEntry p m args → SameRuns (SameWorld (length p.types)) (bound_of k p) (run p k g m args rs) (plain_run p' m args rs)
  unfolding run
  of_entry m args rs e = from_starts (start p k m args rs) (start p' no_contracts m args rs) (h.entry m args rs e)

  pub same : Same p k p'
  same =
      record {
        numbers = g;
        identities = h.identities;
        added = h.added;
        ends_only = λ m args rs n o w' e. (of_entry m args rs e).ends_only n o w';
        ends_too = λ m args rs n o w e. (of_entry m args rs e).ends_too n o w;
        writes_no_more = λ m args rs n e. (of_entry m args rs e).writes_no_more n;
        writes_no_less = λ m args rs n e. (of_entry m args rs e).writes_no_less n;
      }

-- ---- a program without contracts and itself

-- a state goes with itself alone
abbrev IsItself : State → State → Type 0
IsItself s s' = s ≡ s'

module _ (p : Program) where
  same_world : (w : World) → SameWorld (length p.types) w w
  same_world w = record { heap = refl; statics = refl; trace = refl }

  begins : (x : Next) → BeginsAlike p no_contracts p IsItself (λ s. 0) x x
  begins (Running s) = record { met = s; steps = 0; meets = refl; related = refl; within = omega arith }
  begins (Ended o w) = (refl, same_world w)

  matches : (x : Next) → Match (SameWorld (length p.types)) IsItself x (and_then x (runs (plain_step p) 0))
  matches (Running s) = refl
  matches (Ended o w) = (refl, same_world w)

  no_weight : (x : Next) → weight (λ s. 0) x ≤ 0
  no_weight (Running s) = omega arith
  no_weight (Ended o w) = omega arith

  one_step : (s s' : State) → s ≡ s' → (j : ℕ) × (suc j + weight (λ s. 0) (plain_step p s) ≤ bound_of no_contracts p + 0) × Match (SameWorld (length p.types)) IsItself (plain_step p s) (runs (plain_step p) (suc j) s')
  one_step s s' e =
      let small : weight (λ s. 0) (plain_step p s) ≤ 0 = no_weight (plain_step p s) in
      (0, omega (arith, small), subst (λ z. Match (SameWorld (length p.types)) IsItself (plain_step p s) (runs (plain_step p) 1 z)) e (matches (plain_step p s)))

  itself : AnswersSteps p no_contracts p (unused_numbers p) IsItself (λ s. 0)
  itself =
      record {
        identities = record {
          types = λ k l. record { assembly = refl; row = refl; name = refl; outside = refl };
          fields = λ k l. record { owner = refl; name = refl; ty = refl; is_static = refl };
          methods = λ k l. record { assembly = refl; row = refl; owner = refl; name = refl; params = refl; result = refl; is_static = refl; outside = refl };
          signatures = λ j k l m. refl;
        };
        added = record {
          unused = omega arith;
          exception = λ l. absurd (omega (arith, l));
          constructor = λ name l. absurd (omega (arith, l));
          event = λ l. absurd (omega (arith, l));
          trigger = λ l. absurd (omega (arith, l));
        };
        entry = λ m args rs e. begins (start p no_contracts m args rs);
        same_trace = λ s s' e. ap (λ (z : State). z.world.trace) e;
        answer = λ s s' e. one_step s s' e;
      }

pub behaves_as_itself : (p : Program) → Same p no_contracts p
behaves_as_itself p = same p no_contracts p (unused_numbers p) IsItself (λ s. 0) (itself p)
