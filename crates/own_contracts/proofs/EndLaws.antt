-- The search for heights ends in each body.
use Rattle.std.proofs.Common.{◌≡◌, ℕ, zero, suc, ◌+◌, ◌<◌, ◌≤◌, Bool, true, false, List, [], ◌∷◌, length, Option, Some, None, Result, Ok, Err, refl, sym, ap, ◌∙◌, subst, arith}
use Rattle.std.specs.Prelude.{cond, nat_lt, option_map, unwrap_or, replicate, position, slice_get, slice_set, MatchOption, if◌then◌else◌}
use Rattle.std.specs.List.{position_or_len}
use Rattle.std.proofs.lemmas.Bool.{ltb-true}
use Rattle.std.proofs.lemmas.List.{length-set, length-replicate}
use Rattle.std.proofs.lemmas.Option.{slice_get_within}
use Rattle.cil_model.specs.declared.body.Body.{Body}
use Rattle.cil_model.specs.declared.body.Instr.{Instr}
use Rattle.il_flow.specs.declared.effect.Effect.{Effect}
use Rattle.il_flow.specs.declared.mark.Mark.{Mark}
use Rattle.il_flow.specs.declared.mark.Mark.TheVariants.{Unseen, Waits, Passed}
use Rattle.il_flow.specs.Effects.{height_after}
use Rattle.il_flow.specs.Successors.{successors}
use Rattle.il_flow.specs.Heights.{Finds, ends, stops, goes, SearchFinds, begun, beginnings, begin_fault, fault_by, give, give_each, is_unseen, is_waiting, passed_by}
use Rattle.il_flow.proofs.QueueLaws.{unseen_there}
use Rattle.il_flow.proofs.MapLaws.{begin_size, each_size}

-- ---- how many instructions are still to be gone on from

abbrev weight : Mark → ℕ
weight (Passed h) = 0
weight _ = 1

abbrev left : List Mark → ℕ
left [] = 0
left (m ∷ ms) = weight m + left ms

weight_same : (m n : Mark) → Some m ≡ Some n → weight m ≡ weight n
weight_same m n e = ap (λ (o : Option Mark). unwrap_or (option_map weight o) 0) e

left_set : (ms : List Mark) (q : ℕ) (m v : Mark) → slice_get ms q ≡ Some m → left (slice_set ms q v) + weight m ≡ left ms + weight v
left_set [] q m v e = absurd cc
left_set (x ∷ ms) zero m v e = let same : weight x ≡ weight m = weight_same x m e in omega (arith, same)
left_set (x ∷ ms) (suc q) m v e = let rest : left (slice_set ms q v) + weight m ≡ left ms + weight v = left_set ms q m v e in omega (arith, rest)

left_given : (ms : List Mark) (h q : ℕ) → left (give ms h q) ≡ left ms
left_given ms h q = go (is_unseen (slice_get ms q)) refl
  where
    go : (b : Bool) → is_unseen (slice_get ms q) ≡ b → left (if b then slice_set ms q (Waits h) else ms) ≡ left ms
    go true e = let same : left (slice_set ms q (Waits h)) + 1 ≡ left ms + 1 = left_set ms q Unseen (Waits h) (unseen_there (slice_get ms q) e) in omega (arith, same)
    go false e = refl

left_all_given : (ms : List Mark) (h : ℕ) (qs : List ℕ) → left (give_each ms h qs) ≡ left ms
left_all_given ms h [] = refl
left_all_given ms h (q ∷ qs) = left_all_given (give ms h q) h qs ∙ left_given ms h q

-- ---- the first that waits

further : (m : Mark) (ms : List Mark) (p q : ℕ) → q ≡ suc p → (h : ℕ) × (slice_get ms p ≡ Some (Waits h)) → (h : ℕ) × (slice_get (m ∷ ms) q ≡ Some (Waits h))
further m ms p q e found = (found.0, ap (slice_get (m ∷ ms)) e ∙ found.1)

first_waits : (ms : List Mark) → position_or_len is_waiting ms < length ms → (h : ℕ) × (slice_get ms (position_or_len is_waiting ms) ≡ Some (Waits h))
first_waits [] low = absurd (omega (arith, low))
first_waits (Unseen ∷ ms) low = further Unseen ms (position_or_len is_waiting ms) (position_or_len is_waiting (Unseen ∷ ms)) (omega arith) (first_waits ms (omega (arith, low)))
first_waits (Passed h ∷ ms) low = further (Passed h) ms (position_or_len is_waiting ms) (position_or_len is_waiting (Passed h ∷ ms)) (omega arith) (first_waits ms (omega (arith, low)))
first_waits (Waits h ∷ ms) low = (h, refl)

waits_at : (ms : List Mark) (k : ℕ) → position is_waiting ms ≡ Some k → (h : ℕ) × (slice_get ms k ≡ Some (Waits h))
waits_at ms k e = go (nat_lt (position_or_len is_waiting ms) (length ms)) refl e
  where
    this : (a b : ℕ) → Some a ≡ Some b → a ≡ b
    this a b f = ap (λ (o : Option ℕ). unwrap_or o a) f

    go : (b : Bool) → nat_lt (position_or_len is_waiting ms) (length ms) ≡ b → cond b (Some (position_or_len is_waiting ms)) None ≡ Some k → (h : ℕ) × (slice_get ms k ≡ Some (Waits h))
    go true f g =
        let found : (h : ℕ) × (slice_get ms (position_or_len is_waiting ms) ≡ Some (Waits h)) = first_waits ms (ltb-true (position_or_len is_waiting ms) (length ms) f) in
        (found.0, ap (slice_get ms) (sym (this (position_or_len is_waiting ms) k g)) ∙ found.1)
    go false f g = absurd cc

there_is : {A : Type 0} (xs : List A) (k : ℕ) → k < length xs → (x : A) × (slice_get xs k ≡ Some x)
there_is [] k low = absurd (omega (arith, low))
there_is (x ∷ xs) zero low = (x, refl)
there_is (x ∷ xs) (suc k) low = there_is xs k (omega (arith, low))

-- ---- the search

module _ (effect : Instr → Effect) (b : Body) where
  abbrev Answer : List Mark → Type 0
  Answer ms = (r : Result (List Mark) ℕ) × Finds effect b ms r

  -- one step, and what is found behind it
  step : (ms : List Mark) → length ms ≡ length b.instrs → ((new : List Mark) → left new + 1 ≡ left ms → length new ≡ length b.instrs → Answer new) → Answer ms
  step ms size later = go (position is_waiting ms) refl
    where
      waits : (k h : ℕ) (i : Instr) → position is_waiting ms ≡ Some k → slice_get ms k ≡ Some (Waits h) → slice_get b.instrs k ≡ Some i → (o : Option ℕ) → fault_by b (effect i) ms k h i ≡ o → Answer ms
      waits k h i at there here (Some q) e = (Err q, stops k h q i at there here e)
      waits k h i at there here None e =
          let given : left (passed_by (effect i) ms k h i) ≡ left (slice_set ms k (Passed h)) = left_all_given (slice_set ms k (Passed h)) (height_after (effect i) h) (successors k i) in
          let fewer : left (slice_set ms k (Passed h)) + 1 ≡ left ms + 0 = left_set ms k (Waits h) (Passed h) there in
          let same : length (passed_by (effect i) ms k h i) ≡ length b.instrs = each_size (slice_set ms k (Passed h)) (height_after (effect i) h) (successors k i) ∙ length-set ms k (Passed h) ∙ size in
          let rest : Answer (passed_by (effect i) ms k h i) = later (passed_by (effect i) ms k h i) (omega (arith, given, fewer)) same in
          (rest.0, goes k h i at there here e rest.1)

      go : (o : Option ℕ) → position is_waiting ms ≡ o → Answer ms
      go None e = (Ok ms, ends e)
      go (Some k) e =
          let w : (h : ℕ) × (slice_get ms k ≡ Some (Waits h)) = waits_at ms k e in
          let low : k < length ms = slice_get_within ms k (Waits w.0) w.1 in
          let i : (i : Instr) × (slice_get b.instrs k ≡ Some i) = there_is b.instrs k (omega (arith, low, size)) in
          waits k w.0 i.0 e w.1 i.1 (fault_by b (effect i.0) ms k w.0 i.0) refl

  finds_within : (n : ℕ) (ms : List Mark) → left ms ≤ n → length ms ≡ length b.instrs → Answer ms
  finds_within zero ms few size = step ms size (λ new less same. absurd (omega (arith, few, less)))
  finds_within (suc n) ms few size = step ms size (λ new less same. finds_within n new (omega (arith, few, less)) same)

  pub search_ends : (r : Result (List Mark) ℕ) × SearchFinds effect b r
  search_ends = go (begin_fault b)
    where
      size : length (begun b) ≡ length b.instrs
      size = begin_size (replicate (length b.instrs) Unseen) (beginnings b) ∙ length-replicate (length b.instrs) Unseen

      go : (o : Option ℕ) → (r : Result (List Mark) ℕ) × MatchOption o (Finds effect b (begun b) r) (λ q. r ≡ Err q)
      go None = finds_within (left (begun b)) (begun b) (omega arith) size
      go (Some q) = (Err q, refl)
