-- The contracts of the methods of a program, one after another.
use Rattle.std.proofs.Common.{◌≡◌, ◌⊎◌, ℕ, ◌+◌, ◌-◌, ◌<◌, ◌≤◌, List, [], ◌∷◌, ◌++◌, length, get_or, Bool, true, false, Option, Some, None, Result, Ok, Err, refl, sym, ap, ◌∙◌, subst, inl, inr, arith}
use Rattle.std.specs.Prelude.{IfOk, IfSome, IsSome, MatchOption, OnOk, is_some, if◌then◌else◌}
use Rattle.std.proofs.lemmas.Bool.{cases_lt}
use Rattle.std.proofs.lemmas.List.{length-append, get_or_append_left, get_or-append_right}
use Rattle.cil_base.specs.declared.refusal.Refusal.{Refusal}
use Rattle.cil_base.specs.declared.refusal.Fault.{Fault}
use Rattle.cil_base.specs.declared.refusal.Fault.TheVariants.{Refused, Memory}
use Rattle.cil_base.specs.Refusals.{First, NoneBroken, IfRefused, OnRefused, is_less, key}
use Rattle.cil_model.specs.declared.body.Body.{Body}
use Rattle.cil_model.specs.declared.contract.Contract.{Contract}
use Rattle.cil_model.specs.declared.program.Program.{Program}
use Rattle.cil_semantics.specs.Lookups.{method_of}
use Rattle.own_contracts.specs.declared.contracts.Found.{Found}
use Rattle.own_contracts.specs.Order.{earlier}
use Rattle.own_contracts.specs.Own.{no_contract, contract_at, AreOwn, BreaksAt, BreaksOwn, IsOwn}
use Rattle.own_contracts.specs.Taken.{Takes}
use Rattle.own_contracts.proofs.BestLaws.{Best, best_of_none, best_on, best_found}

-- what is taken of the first methods
pub record SoFar (p : Program) (k : ℕ) (f : Found) : Type 0 where
  pub best : Best (BreaksAt p) k f.first
  pub count : f.first ≡ None → length f.contracts ≡ k
  pub each : f.first ≡ None → (m : ℕ) → m < k → IsOwn p m (contract_at f.contracts m)

pub none_taken : (p : Program) (f : Found) → f.contracts ≡ [] → f.first ≡ None → SoFar p 0 f
none_taken p f e g = record {
  best = subst (Best (BreaksAt p) 0) (sym g) (best_of_none (BreaksAt p));
  count = λ h. ap length e;
  each = λ h m l. absurd (omega (arith, l));
}

module _ (p : Program) (k : ℕ) (f : Found) (h : SoFar p k f) where
  one_more : (c : Contract) → IsOwn p k c → NoneBroken (BreaksAt p k) → SoFar p (k + 1) (record f { contracts = f.contracts ++ c ∷ [] })
  one_more c own none = record {
    best = best_on (BreaksAt p) k f.first h.best none;
    count = λ e. length-append f.contracts (c ∷ []) ∙ ap (λ (n : ℕ). n + 1) (h.count e);
    each = λ e m l. go e m l (cases_lt m k);
  }
    where
      go : f.first ≡ None → (m : ℕ) → m < k + 1 → (m < k) ⊎ (k ≤ m) → IsOwn p m (contract_at (f.contracts ++ c ∷ []) m)
      go e m l (inl less) =
          let within : m < length f.contracts = omega (arith, less, h.count e) in
          subst (IsOwn p m) (sym (get_or_append_left f.contracts (c ∷ []) no_contract m within)) (h.each e m less)
      go e m l (inr le) =
          let same : k ≡ m = omega (arith, le, l) in
          let zero_left : m - k ≡ 0 = omega (arith, le, l) in
          let there : contract_at (f.contracts ++ c ∷ []) m ≡ c =
          get_or-append_right f.contracts (c ∷ []) k m no_contract (h.count e) le ∙ ap (λ (j : ℕ). get_or (c ∷ []) j no_contract) zero_left in
          subst (IsOwn p m) (sym there) (subst (λ (j : ℕ). IsOwn p j c) same own)

  by_test : (b : Bool) (r s : Refusal) → (if b then Some r else Some s) ≡ None → ⊥
  by_test true r s e = absurd cc
  by_test false r s e = absurd cc

  some_isnt : (o : Option Refusal) (r : Refusal) → earlier o r ≡ None → ⊥
  some_isnt None r e = absurd cc
  some_isnt (Some s) r e = by_test (is_less (key r) (key s)) r s e

  one_refused : (r : Refusal) → First (BreaksAt p k) r → SoFar p (k + 1) (record f { first = earlier f.first r })
  one_refused r first = record {
    best = best_found (BreaksAt p) k f.first r h.best first;
    count = λ e. absurd (some_isnt f.first r e);
    each = λ e m l. absurd (some_isnt f.first r e);
  }

  pub one_taken : (answer : Result Contract Fault) (g : Found) → Takes f answer g → IfOk answer (IsOwn p k) → OnOk answer (NoneBroken (BreaksAt p k)) → OnRefused answer (First (BreaksAt p k)) → SoFar p (k + 1) g
  one_taken (Ok c) g e own none first = subst (SoFar p (k + 1)) (sym e) (one_more c own none)
  one_taken (Err (Refused r)) g e own none first = subst (SoFar p (k + 1)) (sym e) (one_refused r first)
  one_taken (Err (Memory x)) g e own none first = absurd e

  pub all_own : k ≡ length p.methods → f.first ≡ None → AreOwn p f.contracts
  all_own e g = record { count = h.count g ∙ e; each = λ m l. h.each g m (omega (arith, l, e)) }

  pub none_broken : k ≡ length p.methods → f.first ≡ None → NoneBroken (BreaksOwn p)
  none_broken e g = subst (Best (BreaksAt p) (length p.methods)) g (subst (λ (n : ℕ). Best (BreaksAt p) n f.first) e h.best)

  pub first_broken : (r : Refusal) → k ≡ length p.methods → f.first ≡ Some r → First (BreaksOwn p) r
  first_broken r e g = subst (Best (BreaksAt p) (length p.methods)) g (subst (λ (n : ℕ). Best (BreaksAt p) n f.first) e h.best)

pub taken_at : (p : Program) (k n : ℕ) (f : Found) (h : SoFar p k f) (answer : Result Contract Fault) (g : Found) → n ≡ k → Takes f answer g
    → IfOk answer (IsOwn p n) → OnOk answer (NoneBroken (BreaksAt p n)) → OnRefused answer (First (BreaksAt p n)) → SoFar p (k + 1) g
taken_at p k n f h answer g e t own none first =
    one_taken p k f h answer g t (subst (λ (j : ℕ). IfOk answer (IsOwn p j)) e own) (subst (λ (j : ℕ). OnOk answer (NoneBroken (BreaksAt p j))) e none) (subst (λ (j : ℕ). OnRefused answer (First (BreaksAt p j))) e first)
