-- From what a reader of a front gave to what the reader of a blob answers.
use Rattle.std.proofs.Common.{◌≡◌, ℕ, ◌-◌, List, [], ◌∷◌, length, Result, Ok, Err, refl, sym, ap, subst, arith}
use Rattle.std.specs.Prelude.{IfOk}
use Rattle.cil_base.specs.declared.rule.Rule.{Rule}
use Rattle.cil_base.specs.declared.refusal.Place.{Place}
use Rattle.cil_base.specs.declared.refusal.Fault.{Fault}
use Rattle.cil_base.specs.Refusals.{OnRefused}
use Rattle.cli_sigs.specs.declared.numbers.Stop.{Stop}
use Rattle.cli_sigs.specs.declared.numbers.Stop.TheVariants as stop
use Rattle.cli_sigs.specs.Read.{Reader}
use Rattle.cli_sigs.specs.Reading.{Stops, Gives, ended}
use Rattle.cli_sigs.specs.Answers.{GivesOnly, Reads, AtLongest, Ends, EndsStopped, Concludes, StopsWithin, Within}
use Rattle.cli_sigs.proofs.Readers.{IsReader}
use Rattle.cli_sigs.proofs.Longest.{rest_le, stop_le, none_at_stop, longest_at_stop, longest_before, none_before, found_all, only_one}

module _ {X A : Type 0} (G : List ℕ → A → Type 0) (r : Reader A) (h : IsReader G r) (view : X → A × List ℕ) (blob : List ℕ) where
  stop_within : (s : Stop) → Stops s (r blob) → StopsWithin blob s
  stop_within (stop.At n) e = stop_le G r h blob n e
  stop_within (stop.Memory e) g = tt

  pub reads_within : (read : Result X Stop) → Gives view read (r blob) → Within view blob read
  reads_within (Ok x) e = rest_le G r h blob (view x).1 (view x).0 e
  reads_within (Err s) g = stop_within s g

  -- ---- what is read is in the grammar

  found_ends : (rule : Rule) (place : Place) (v : A) (rest : List ℕ) (result : Result A Fault) → r blob ≡ Ok (v, rest) → Ends rule place blob v rest result → IfOk result (G blob)
  found_ends rule place v [] result e c = subst (λ (a : Result A Fault). IfOk a (G blob)) (sym c) (found_all G r h blob [] v e (omega arith))
  found_ends rule place v (b ∷ rest) result e c = subst (λ (a : Result A Fault). IfOk a (G blob)) (sym c) tt

  found_stopped : (rule : Rule) (place : Place) (s : Stop) (result : Result A Fault) → EndsStopped rule place blob s result → IfOk result (G blob)
  found_stopped rule place (stop.At n) result c = subst (λ (a : Result A Fault). IfOk a (G blob)) (sym c) tt
  found_stopped rule place (stop.Memory e) result c = subst (λ (a : Result A Fault). IfOk a (G blob)) (sym c) tt

  pub answers_found : (rule : Rule) (place : Place) (read : Result X Stop) (result : Result A Fault) → Gives view read (r blob) → Concludes view rule place blob read result → IfOk result (G blob)
  answers_found rule place (Ok x) result e c = found_ends rule place (view x).0 (view x).1 result e c
  answers_found rule place (Err s) result g c = found_stopped rule place s result c

  -- ---- what is in the grammar is read

  only_ends : (rule : Rule) (place : Place) (u : A) (rest : List ℕ) (result : Result A Fault) (v : A) → r blob ≡ Ok (u, rest) → Ends rule place blob u rest result → G blob v → GivesOnly result v
  only_ends rule place u [] result v e c g = subst (λ (a : Result A Fault). GivesOnly a v) (sym c) (only_one G r h blob [] u v e g)
  only_ends rule place u (b ∷ rest) result v e c g = absurd (none_before G r h blob (b ∷ rest) u v e (omega arith) g)

  only_stopped : (rule : Rule) (place : Place) (s : Stop) (result : Result A Fault) (v : A) → Stops s (r blob) → EndsStopped rule place blob s result → G blob v → GivesOnly result v
  only_stopped rule place (stop.At n) result v e c g = absurd (none_at_stop G r h blob n v e g)
  only_stopped rule place (stop.Memory e) result v s c g = subst (λ (a : Result A Fault). GivesOnly a v) (sym c) tt

  pub answers_only : (rule : Rule) (place : Place) (read : Result X Stop) (result : Result A Fault) → Gives view read (r blob) → Concludes view rule place blob read result → (v : A) → G blob v → GivesOnly result v
  answers_only rule place (Ok x) result e c v g = only_ends rule place (view x).0 (view x).1 result v e c g
  answers_only rule place (Err s) result e c v g = only_stopped rule place s result v e c g

  -- ---- the refusal

  refused_ends : (rule : Rule) (place : Place) (v : A) (rest : List ℕ) (result : Result A Fault) → r blob ≡ Ok (v, rest) → Ends rule place blob v rest result → OnRefused result (AtLongest rule place G blob)
  refused_ends rule place v [] result e c = subst (λ (a : Result A Fault). OnRefused a (AtLongest rule place G blob)) (sym c) tt
  refused_ends rule place v (b ∷ rest) result e c =
      subst (λ (a : Result A Fault). OnRefused a (AtLongest rule place G blob)) (sym c)
      (length blob - length (b ∷ rest), refl, longest_before G r h blob (b ∷ rest) v e (omega arith))

  refused_stopped : (rule : Rule) (place : Place) (s : Stop) (result : Result A Fault) → Stops s (r blob) → EndsStopped rule place blob s result → OnRefused result (AtLongest rule place G blob)
  refused_stopped rule place (stop.At n) result e c =
      subst (λ (a : Result A Fault). OnRefused a (AtLongest rule place G blob)) (sym c) (length blob - n, refl, longest_at_stop G r h blob n e)
  refused_stopped rule place (stop.Memory e) result s c = subst (λ (a : Result A Fault). OnRefused a (AtLongest rule place G blob)) (sym c) tt

  pub answers_refused : (rule : Rule) (place : Place) (read : Result X Stop) (result : Result A Fault) → Gives view read (r blob) → Concludes view rule place blob read result → OnRefused result (AtLongest rule place G blob)
  answers_refused rule place (Ok x) result e c = refused_ends rule place (view x).0 (view x).1 result e c
  answers_refused rule place (Err s) result e c = refused_stopped rule place s result e c

-- ---- the answer is what the reader of a front gives where nothing is left

module _ {X A : Type 0} (r : Reader A) (view : X → A × List ℕ) (blob : List ℕ) where
  read_ends : (rule : Rule) (place : Place) (v : A) (rest : List ℕ) (result : Result A Fault) → r blob ≡ Ok (v, rest) → Ends rule place blob v rest result → Reads result (ended (r blob))
  read_ends rule place v [] result e c = subst (λ (a : Result A Fault). Reads a (ended (r blob))) (sym c) (ap ended e)
  read_ends rule place v (b ∷ rest) result e c = subst (λ (a : Result A Fault). Reads a (ended (r blob))) (sym c) (ap ended e)

  read_stopped : (rule : Rule) (place : Place) (s : Stop) (result : Result A Fault) → Stops s (r blob) → EndsStopped rule place blob s result → Reads result (ended (r blob))
  read_stopped rule place (stop.At n) result e c = subst (λ (a : Result A Fault). Reads a (ended (r blob))) (sym c) (ap ended e)
  read_stopped rule place (stop.Memory e) result s c = subst (λ (a : Result A Fault). Reads a (ended (r blob))) (sym c) tt

  pub answers_read : (rule : Rule) (place : Place) (read : Result X Stop) (result : Result A Fault) → Gives view read (r blob) → Concludes view rule place blob read result → Reads result (ended (r blob))
  answers_read rule place (Ok x) result e c = read_ends rule place (view x).0 (view x).1 result e c
  answers_read rule place (Err s) result g c = read_stopped rule place s result g c
