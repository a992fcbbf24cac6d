-- From the input with the output's tables to the input.
use Rattle.std.proofs.Common.{ℕ, ◌+◌, ◌*◌, ◌<◌, List, length, sym, ◌∙◌, subst}
use Rattle.cil_model.specs.declared.value.Value.{Value}
use Rattle.cil_model.specs.declared.contract.Contracts.{Contracts}
use Rattle.cil_model.specs.declared.program.Program.{Program}
use Rattle.cil_model.specs.declared.program.MethodDesc.{MethodDesc}
use Rattle.cil_semantics.specs.Checks.{AddedNumbers}
use Rattle.cil_semantics.specs.Machine.{run, plain_run}
use Rattle.machine_laws.specs.Same.{IsEntry, Same, SameWorld, bound_of}
use Rattle.machine_laws.specs.Simulation.{EndsAlike, IsPrefix, trace_of}
use Rattle.splice_facts.specs.Related.{Rewritten, written}
use Rattle.same_behaviour.specs.Behaviour.{OfInput}
use Rattle.same_behaviour.proofs.AmongLaws.{same_among}
use Rattle.same_behaviour.proofs.BoundLaws.{same_bound}
use Rattle.grown_runs.proofs.EntryLaws.{entries_same}
use Rattle.grown_runs.proofs.RunLaws.{runs_stay}

module _ (p0 p : Program) (k : Contracts) (ms : List MethodDesc) (g : AddedNumbers) (r : Rewritten p k ms g) (x : OfInput p0 p k ms g r) where
  abbrev p' : Program
  p' = written p k ms g r

  old : (m : ℕ) (args : List Value) → IsEntry p0 m args → m < r.methods
  old m args e = subst (λ n. m < n) (sym x.methods) e.there

  pub same_whole : Same p0 k p'
  same_whole =
      let among = same_among p k ms g r in
      let grown = entries_same p0 p k g.exception x.grows in
      let runs = runs_stay p0 p k ms g r x.grows x.types x.methods in
      let bound = same_bound p0 p k ms g r x in
      record {
        numbers = g;
        identities = x.identities;
        added = x.added;
        ends_only = λ m args rs n o w' e f. subst (λ z. EndsAlike (λ w. SameWorld (length p0.types) w w') z o) (sym (runs m args rs n e)) (subst (λ t. EndsAlike (λ w. SameWorld t w w') (run p k g m args rs n) o) x.types (among.ends_only m args rs n o w' (old m args e) (grown m args e) f));
        ends_too = λ m args rs n o w e f. subst (λ c. EndsAlike (SameWorld (length p0.types) w) (plain_run p' m args rs (c * (n + 1))) o) bound (subst (λ t. EndsAlike (SameWorld t w) (plain_run p' m args rs (bound_of k p * (n + 1))) o) x.types (among.ends_too m args rs n o w (old m args e) (grown m args e) (sym (runs m args rs n e) ∙ f)));
        writes_no_more = λ m args rs n e. subst (λ z. IsPrefix (trace_of (plain_run p' m args rs n)) (trace_of z)) (sym (runs m args rs n e)) (among.writes_no_more m args rs n (old m args e) (grown m args e));
        writes_no_less = λ m args rs n e. subst (λ c. IsPrefix (trace_of (run p0 k g m args rs n)) (trace_of (plain_run p' m args rs (c * (n + 1))))) bound (subst (λ z. IsPrefix (trace_of z) (trace_of (plain_run p' m args rs (bound_of k p * (n + 1))))) (sym (runs m args rs n e)) (among.writes_no_less m args rs n (old m args e) (grown m args e)));
      }
