-- Steps of the search from one instruction to the next.
use Rattle.std.proofs.Common.{◌≡◌, ◌≢◌, ◌⊎◌, inl, inr, ℕ, ◌+◌, ◌^◌, ◌<◌, ◌≤◌, Bool, true, false, cond, List, [], ◌∷◌, length, get_or, set, Option, Some, None, refl, sym, ap, subst, ◌∙◌, arith, IsPermutation, All, Contains, Result}
use Rattle.std.specs.Prelude.{slice_get, slice_set, position, count_by, if◌then◌else◌}
use Rattle.std.specs.Ordering.{nat_cmp}
use Rattle.std.specs.BinaryHeap.{IsHeap}
use Rattle.std.proofs.lemmas.Bool.{cases_eq, lt-ltb}
use Rattle.std.proofs.lemmas.Option.{slice_get_within, get_or_from_slice_get, slice_get-get_or}
use Rattle.std.proofs.lemmas.List.Elements.{All-contains}
use Rattle.std.proofs.lemmas.List.Sums.{sum_by-set, position_or_len_is}
use Rattle.std.proofs.lemmas.List.Sorted.{Contains-permutation}
use Rattle.cil_model.specs.declared.body.Body.{Body}
use Rattle.cil_model.specs.declared.body.Instr.{Instr}
use Rattle.il_flow.specs.declared.effect.Effect.{Effect}
use Rattle.il_flow.specs.declared.mark.Mark.{Mark}
use Rattle.il_flow.specs.declared.mark.Mark.TheVariants.{Unseen, Waits, Passed}
use Rattle.il_flow.specs.Effects.{height_after}
use Rattle.il_flow.specs.Successors.{successors}
use Rattle.il_flow.specs.Heights.{Finds, fault_by, give, give_each, goes, is_unseen, is_waiting, passed_by, stops}
use Rattle.il_flow.specs.Straight.{FindsMore}
use Rattle.il_flow.specs.Queue.{IsNext, IsQueued, count_left, isnt_seen, mirrored}
use Rattle.il_flow.proofs.QueueLaws.{contains_rest, get_set_other, get_set_same, left_passed, unseen_there}

-- what is popped comes next
pub next_popped : (ms : List Mark) (queue rest : List ℕ) (k : ℕ) → k < 2 ^ 32 → length ms ≤ 2 ^ 32 → IsQueued ms queue → IsPermutation queue (mirrored k ∷ rest) → IsHeap nat_cmp rest → All (λ y. y ≤ mirrored k) queue → IsNext k ms rest
next_popped ms queue rest k small few old moved ordered top = record { ordered = ordered; low = low; each = each }
  where
    low : (q h : ℕ) → q < k → slice_get ms q ≡ Some (Waits h) → ⊥
    low q h below w =
        let le = All-contains (λ y. y ≤ mirrored k) queue (mirrored q) top (old.each q h w) in
        let there = slice_get_within ms q (Waits h) w in
        omega arith

    apart : (q g : ℕ) → q ≢ k → slice_get ms q ≡ Some (Waits g) → mirrored k ≡ mirrored q → ⊥
    apart q g ne w e = let below = slice_get_within ms q (Waits g) w in ne (omega arith)

    each : (q h : ℕ) → q ≢ k → slice_get ms q ≡ Some (Waits h) → Contains rest (mirrored q)
    each q h ne w = contains_rest (mirrored k) (mirrored q) rest (apart q h ne w) (Contains-permutation queue _ (mirrored q) moved (old.each q h w))

-- what comes next is the lowest place that waits, if it waits
pub next_waits : (ms : List Mark) (queue : List ℕ) (k h : ℕ) → IsNext k ms queue → slice_get ms k ≡ Some (Waits h) → position is_waiting ms ≡ Some k
next_waits ms queue k h next there =
    let within : k < length ms = slice_get_within ms k (Waits h) there in
    let p = position_or_len_is is_waiting ms k Unseen (omega arith) (λ j below. none j below) (λ b. ap is_waiting (get_or_from_slice_get ms k (Waits h) Unseen there)) in
    rw (p, lt-ltb k (length ms) within) refl
  where
    waits_not : (j : ℕ) (m : Mark) → j < k → slice_get ms j ≡ Some m → is_waiting m ≡ false
    waits_not j Unseen below e = refl
    waits_not j (Waits g) below e = absurd (next.low j g below e)
    waits_not j (Passed g) below e = refl

    none : (j : ℕ) → j < k → is_waiting (get_or ms j Unseen) ≡ false
    none j below =
        let w = slice_get_within ms k (Waits h) there in
        waits_not j (get_or ms j Unseen) below (slice_get-get_or ms j Unseen (omega arith))

-- where it doesn't wait all that waits is in the queue
pub next_none : (ms : List Mark) (queue : List ℕ) (k : ℕ) → IsNext k ms queue → ((h : ℕ) → slice_get ms k ≡ Some (Waits h) → ⊥) → IsQueued ms queue
next_none ms queue k next free = record { ordered = next.ordered; each = λ q g w. go q g w (cases_eq q k) }
  where
    go : (q g : ℕ) → slice_get ms q ≡ Some (Waits g) → (q ≡ k) ⊎ (q ≢ k) → Contains queue (mirrored q)
    go q g w (inl e) = absurd (free g (subst (λ (j : ℕ). slice_get ms j ≡ Some (Waits g)) e w))
    go q g w (inr ne) = next.each q g ne w

isnt_passed : (ms : List Mark) (k h g : ℕ) → slice_get ms k ≡ Some (Waits h) → slice_get (set ms k (Passed h)) k ≡ Some (Waits g) → ⊥
isnt_passed ms k h g there e = isnt (sym (get_set_same ms k (Passed h) (Waits h) there) ∙ e)
  where
    isnt : Some (Passed h) ≡ Some (Waits g) → ⊥
    isnt f = cc

-- it is gone on from
pub next_passed : (ms : List Mark) (queue : List ℕ) (k h : ℕ) → IsNext k ms queue → slice_get ms k ≡ Some (Waits h) → IsQueued (slice_set ms k (Passed h)) queue
next_passed ms queue k h next there = record { ordered = next.ordered; each = λ q g w. go q g w (cases_eq q k) }
  where
    go : (q g : ℕ) → slice_get (set ms k (Passed h)) q ≡ Some (Waits g) → (q ≡ k) ⊎ (q ≢ k) → Contains queue (mirrored q)
    go q g w (inl e) = absurd (isnt_passed ms k h g there (subst (λ (j : ℕ). slice_get (set ms k (Passed h)) j ≡ Some (Waits g)) e w))
    go q g w (inr ne) = next.each q g ne (sym (get_set_other ms q k (Passed h) ne) ∙ w)

give_other : (ms : List Mark) (a q n : ℕ) → q ≢ n → slice_get (give ms a n) q ≡ slice_get ms q
give_other ms a q n ne = go (is_unseen (slice_get ms n))
  where
    go : (b : Bool) → slice_get (if b then slice_set ms n (Waits a) else ms) q ≡ slice_get ms q
    go true = get_set_other ms q n (Waits a) ne
    go false = refl

-- it is gone on from to the one behind it
pub next_on : (ms : List Mark) (queue : List ℕ) (k h a : ℕ) → IsNext k ms queue → slice_get ms k ≡ Some (Waits h) → IsNext (k + 1) (give (slice_set ms k (Passed h)) a (k + 1)) queue
next_on ms queue k h a next there = record { ordered = next.ordered; low = low; each = each }
  where
    was : (q g : ℕ) → q ≢ k + 1 → slice_get (give (slice_set ms k (Passed h)) a (k + 1)) q ≡ Some (Waits g) → slice_get (set ms k (Passed h)) q ≡ Some (Waits g)
    was q g ne w = sym (give_other (slice_set ms k (Passed h)) a q (k + 1) ne) ∙ w

    low_at : (q g : ℕ) → q < k + 1 → slice_get (set ms k (Passed h)) q ≡ Some (Waits g) → (q ≡ k) ⊎ (q ≢ k) → ⊥
    low_at q g below w (inl e) = isnt_passed ms k h g there (subst (λ (j : ℕ). slice_get (set ms k (Passed h)) j ≡ Some (Waits g)) e w)
    low_at q g below w (inr ne) = next.low q g (omega arith) (sym (get_set_other ms q k (Passed h) ne) ∙ w)

    low : (q g : ℕ) → q < k + 1 → slice_get (give (slice_set ms k (Passed h)) a (k + 1)) q ≡ Some (Waits g) → ⊥
    low q g below w = low_at q g below (was q g (λ e. omega arith) w) (cases_eq q k)

    each_at : (q g : ℕ) → slice_get (set ms k (Passed h)) q ≡ Some (Waits g) → (q ≡ k) ⊎ (q ≢ k) → Contains queue (mirrored q)
    each_at q g w (inl e) = absurd (isnt_passed ms k h g there (subst (λ (j : ℕ). slice_get (set ms k (Passed h)) j ≡ Some (Waits g)) e w))
    each_at q g w (inr ne) = next.each q g ne (sym (get_set_other ms q k (Passed h) ne) ∙ w)

    each : (q g : ℕ) → q ≢ k + 1 → slice_get (give (slice_set ms k (Passed h)) a (k + 1)) q ≡ Some (Waits g) → Contains queue (mirrored q)
    each q g ne w = each_at q g (was q g ne w) (cases_eq q k)

give_left : (ms : List Mark) (a n : ℕ) → count_by isnt_seen (give ms a n) ≤ count_by isnt_seen ms
give_left ms a n = go (is_unseen (slice_get ms n)) refl
  where
    go : (b : Bool) → is_unseen (slice_get ms n) ≡ b → count_by isnt_seen (if b then slice_set ms n (Waits a) else ms) ≤ count_by isnt_seen ms
    go true e =
        let there : slice_get ms n ≡ Some Unseen = unseen_there (slice_get ms n) e in
        let s : count_by isnt_seen (set ms n (Waits a)) + cond {A = ℕ} (isnt_seen (get_or ms n Unseen)) 1 0 ≡ count_by isnt_seen ms + 0 = sum_by-set (λ m. cond (isnt_seen m) 1 0) ms n (Waits a) Unseen (slice_get_within ms n Unseen there) in
        omega arith
    go false e = omega arith

pub left_on : (ms : List Mark) (queue : List ℕ) (k h a n m : ℕ) → slice_get ms k ≡ Some (Waits h) → count_left ms queue ≤ m → count_left (give (slice_set ms k (Passed h)) a n) queue ≤ m
left_on ms queue k h a n m there before =
    let less : count_by isnt_seen (give (slice_set ms k (Passed h)) a n) ≤ count_by isnt_seen (slice_set ms k (Passed h)) = give_left (slice_set ms k (Passed h)) a n in
    let same : count_by isnt_seen (slice_set ms k (Passed h)) ≡ count_by isnt_seen ms = left_passed ms k h there in
    omega arith

pub left_same_passed : (ms : List Mark) (queue : List ℕ) (k h : ℕ) → slice_get ms k ≡ Some (Waits h) → count_left (slice_set ms k (Passed h)) queue ≡ count_left ms queue
left_same_passed ms queue k h there = ap (λ (n : ℕ). n + length queue) (left_passed ms k h there)

pub passed_straight : (e : Effect) (ms : List Mark) (k h : ℕ) (i : Instr) → successors k i ≡ (k + 1) ∷ [] → give (slice_set ms k (Passed h)) (height_after e h) (k + 1) ≡ passed_by e ms k h i
passed_straight e ms k h i straight = sym (ap (give_each (slice_set ms k (Passed h)) (height_after e h)) straight)

-- one step from the lowest instruction that waits
pub goes_more : (effect : Instr → Effect) (b : Body) (old ms new : List Mark) (k h : ℕ) (i : Instr) (e : Effect) (fault : Option ℕ) → position is_waiting ms ≡ Some k → slice_get ms k ≡ Some (Waits h) → slice_get b.instrs k ≡ Some i → e ≡ effect i → fault ≡ fault_by b e ms k h i → (fault ≡ None → new ≡ passed_by e ms k h i) → ((r : Result (List Mark) ℕ) → Finds effect b ms r → Finds effect b old r) → FindsMore effect b old new fault
goes_more effect b old ms new k h i e None first there at same broken passed more =
    λ r found. more r (goes k h i first there at (ap (λ (x : Effect). fault_by b x ms k h i) (sym same) ∙ sym broken) (subst (λ (l : List Mark). Finds effect b l r) (passed refl ∙ ap (λ (x : Effect). passed_by x ms k h i) same) found))
goes_more effect b old ms new k h i e (Some q) first there at same broken passed more =
    more _ (stops k h q i first there at (ap (λ (x : Effect). fault_by b x ms k h i) (sym same) ∙ sym broken))
