-- The plans of all methods, one after another.
use Rattle.std.proofs.Common.{◌≡◌, ◌∙◌, sym, ap, refl, arith, ℕ, ◌+◌, ◌<◌, ◌≤◌, List, [], ◌∷◌, ◌++◌, length, Option, Some, None, ⊎_elim}
use Rattle.std.specs.Prelude.{map, slice_get, option_and_then}
use Rattle.std.specs.List.{range_with_len}
use Rattle.std.proofs.lemmas.Bool.{cases_lt}
use Rattle.std.proofs.lemmas.List.FromFn.{get_or-map-range_with_len, length-map-range_with_len, map-range_with_len_more}
use Rattle.std.proofs.lemmas.Option.{slice_get_past, slice_get-get_or}
use Rattle.cil_model.specs.declared.contract.Contracts.{Contracts}
use Rattle.cil_model.specs.declared.program.Program.{Program}
use Rattle.cil_semantics.specs.Contracted.{Plan, plan_for}
use Rattle.cil_semantics.specs.Lookups.{no_method}
use Rattle.cil_semantics.specs.Unwind.{plan_at}
use Rattle.run_machine.specs.Machines.{ArePlans}

pub one_more : {A : Type 0} (f : ℕ → A) (k : ℕ) (xs ys : List A) (x : A) → ys ≡ xs ++ x ∷ [] → x ≡ f k → xs ≡ map f (range_with_len 0 k) → ys ≡ map f (range_with_len 0 (k + 1))
one_more {A} f k xs ys x e n h =
    e ∙ ap (λ (l : List A). l ++ x ∷ []) h ∙ ap (λ (o : A). map f (range_with_len 0 k) ++ o ∷ []) n
    ∙ sym (map-range_with_len_more f 0 k k (omega arith))

module _ (p : Program) (k : Contracts) where
  -- there is no plan past the last method
  past_planned : (m : ℕ) → length p.methods ≤ m → plan_at k p m ≡ None
  unfolding plan_for no_method
  past_planned m past = rw (slice_get_past p.methods m past) refl

  pub are_plans : (plans : List (Option Plan)) → plans ≡ map (plan_at k p) (range_with_len 0 (length p.methods)) → ArePlans p k plans
  are_plans plans e m =
      ⊎_elim
      (λ (h : m < length p.methods). ap (λ (l : List (Option Plan)). option_and_then (λ x. x) (slice_get l m)) e ∙ there h)
      (λ (h : length p.methods ≤ m). ap (λ (l : List (Option Plan)). option_and_then (λ x. x) (slice_get l m)) e ∙ past h)
      (cases_lt m (length p.methods))
    where
      all : List (Option Plan)
      all = map (plan_at k p) (range_with_len 0 (length p.methods))

      there : m < length p.methods → option_and_then (λ x. x) (slice_get all m) ≡ plan_at k p m
      there h =
          ap (λ (o : Option (Option Plan)). option_and_then (λ x. x) o)
          (slice_get-get_or all m None (omega (arith, h, length-map-range_with_len (plan_at k p) 0 (length p.methods)))
          ∙ ap (λ (o : Option Plan). Some o) (get_or-map-range_with_len (plan_at k p) 0 (length p.methods) m m None h (omega arith)))

      past : length p.methods ≤ m → option_and_then (λ x. x) (slice_get all m) ≡ plan_at k p m
      past h =
          ap (λ (o : Option (Option Plan)). option_and_then (λ x. x) o) (slice_get_past all m (omega (arith, h, length-map-range_with_len (plan_at k p) 0 (length p.methods))))
          ∙ sym (past_planned m h)
