-- The entries of the input with the output's tables.
use Rattle.std.proofs.Common.{◌≡◌, ℕ, ◌+◌, ◌*◌, ◌<◌, List, sym, subst}
use Rattle.cil_model.specs.declared.value.Value.{Value}
use Rattle.cil_model.specs.declared.contract.Contracts.{Contracts}
use Rattle.cil_model.specs.declared.program.Program.{Program}
use Rattle.cil_model.specs.declared.program.MethodDesc.{MethodDesc}
use Rattle.cil_model.specs.declared.run.Reply.{Reply}
use Rattle.cil_model.specs.declared.run.Outcome.{Outcome}
use Rattle.cil_model.specs.NoContracts.{no_contracts}
use Rattle.cil_semantics.specs.declared.state.World.{World}
use Rattle.cil_semantics.specs.Checks.{AddedNumbers}
use Rattle.cil_semantics.specs.State.{State, Next, Running, Ended}
use Rattle.cil_semantics.specs.Machine.{step, start, runs, run, plain_run, and_then}
use Rattle.machine_laws.specs.Same.{IsEntry, SameWorld, bound_of, plain_step}
use Rattle.machine_laws.specs.Simulation.{EndsAlike, IsPrefix, trace_of, Lifted}
use Rattle.splice_facts.specs.Related.{Rewritten, AlikeWorlds, written}
use Rattle.step_answers.proofs.RunLaws.{runs_answered}
use Rattle.same_behaviour.specs.Behaviour.{SameAmong}

same_world : (n : ℕ) (w w' : World) → AlikeWorlds n w w' → SameWorld n w w'
same_world n w w' a = record { heap = a.heap; statics = a.statics; trace = a.trace }

-- two runs, as functions of their steps
record Together (types c : ℕ) (a b : ℕ → Next) : Type 0 where
  pub ends_only : (n : ℕ) (o : Outcome) (w' : World) → b n ≡ Ended o w' → EndsAlike (λ w. SameWorld types w w') (a n) o
  pub ends_too : (n : ℕ) (o : Outcome) (w : World) → a n ≡ Ended o w → EndsAlike (SameWorld types w) (b (c * (n + 1))) o
  pub writes_no_more : (n : ℕ) → IsPrefix (trace_of (b n)) (trace_of (a n))
  pub writes_no_less : (n : ℕ) → IsPrefix (trace_of (a n)) (trace_of (b (c * (n + 1))))

module _ (p : Program) (k : Contracts) (ms : List MethodDesc) (g : AddedNumbers) (r : Rewritten p k ms g) where
  abbrev p' : Program
  p' = written p k ms g r

  lifted : (s t : State) → Lifted (step p k g) (plain_step p') (AlikeWorlds r.types) (bound_of k p) s t → Together r.types (bound_of k p) (λ n. runs (step p k g) n s) (λ n. runs (plain_step p') n t)
  lifted s t l =
      record {
        ends_only = λ n o w' e. let x = l.ends_only n o w' e in (x.0, x.1, same_world r.types x.0 w' x.2);
        ends_too = λ n o w e. let x = l.ends_too n o w e in (x.0, x.1, same_world r.types w x.0 x.2);
        writes_no_more = l.writes_no_more;
        writes_no_less = l.writes_no_less;
      }

  together : (m : ℕ) (args : List Value) (rs : List Reply) → m < r.methods → IsEntry p m args → Together r.types (bound_of k p) (run p k g m args rs) (plain_run p' m args rs)
  unfolding run
  together m args rs old entry =
      let x = runs_answered p k ms g r m args rs old entry in
      let y = x.2 in
      by_starts x.0 y.0 (start p k m args rs) (start p' no_contracts m args rs) x.1 y.1 (lifted x.0 y.0 y.2)
    where
      by_starts : (s t : State) (a b : Next) → a ≡ Running s → b ≡ Running t → Together r.types (bound_of k p) (λ n. runs (step p k g) n s) (λ n. runs (plain_step p') n t)
          → Together r.types (bound_of k p) (λ n. and_then a (runs (step p k g) n)) (λ n. and_then b (runs (plain_step p') n))
      by_starts s t a b e f h =
          subst (λ z. Together r.types (bound_of k p) (λ n. and_then z (runs (step p k g) n)) (λ n. and_then b (runs (plain_step p') n))) (sym e)
          (subst (λ z. Together r.types (bound_of k p) (λ n. runs (step p k g) n s) (λ n. and_then z (runs (plain_step p') n))) (sym f) h)

  pub same_among : SameAmong r.types r.methods p k g p'
  same_among =
      record {
        ends_only = λ m args rs n o w' old e. (together m args rs old e).ends_only n o w';
        ends_too = λ m args rs n o w old e. (together m args rs old e).ends_too n o w;
        writes_no_more = λ m args rs n old e. (together m args rs old e).writes_no_more n;
        writes_no_less = λ m args rs n old e. (together m args rs old e).writes_no_less n;
      }
