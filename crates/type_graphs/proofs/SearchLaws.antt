-- What a search finds, and that it is what is reached.
use Rattle.std.proofs.Common.{◌≡◌, ◌∙◌, sym, ap, refl, subst, arith, rules, ℕ, zero, suc, ◌+◌, ◌<◌, ◌≤◌, List, [], ◌∷◌, ◌++◌, length, get_or, replicate, Bool, true, false, ⊎_elim}
use Rattle.std.specs.Prelude.{◌||◌, ◌==◌, not, nat_lt, set, if◌then◌else◌, cond}
use Rattle.std.specs.List.{count_by}
use Rattle.std.proofs.lemmas.Bool.{cases_lt, cases_eq, eqb-true, ltb-true, ltb-false}
use Rattle.std.proofs.lemmas.List.{length-set, get_or-set_same, get_or-set_other, get_or_past, get_or_default, get_or-replicate, length-replicate, get_or_append_left, get_or_push, length-append}
use Rattle.std.proofs.lemmas.List.Sums.{sum_by-set, count_by-le-length}
use Rattle.cil_base.proofs.Small.{decide}
use Rattle.set_names.specs.Cycles.{any, reaches}
use Rattle.type_graphs.specs.Graphs.{next_of}
use Rattle.type_graphs.specs.Searches.{Found, is_unseen, with_node, with_nodes, with_next}
use Rattle.type_graphs.proofs.AnyLaws.{any_here, any_behind, any_excludes, or_neither, same_number}
use Rattle.type_graphs.proofs.StepLaws.{is_among, in_more, next_reached, reached_next}

-- each node found is seen, reached, and counted
pub record Finds (graph : List (List ℕ)) (from : ℕ) (s : Found) : Type 0 where
  pub size : length s.0 ≡ length graph
  pub count : count_by (λ b. b) s.0 ≡ length s.1
  pub near : (i : ℕ) → i < length s.1 → reaches (next_of graph) (suc i) from (get_or s.1 i 0) ≡ true
  pub listed : (k : ℕ) → get_or s.0 k false ≡ true → (i : ℕ) × (i < length s.1) × (get_or s.1 i 0 ≡ k)

apart : true ≡ false → ⊥
apart h = cc

not_false : (b : Bool) → not b ≡ true → b ≡ false
not_false true e = absurd (apart (sym e))
not_false false e = refl

unseen_within : (seen : List Bool) (k : ℕ) → is_unseen seen k ≡ true → k < length seen
unseen_within seen k u = ⊎_elim
    (λ (h : k < length seen). h)
    (λ (h : length seen ≤ k). absurd (apart (sym (get_or_past seen k true h) ∙ not_false (get_or seen k true) u)))
    (cases_lt k (length seen))

count_set : (seen : List Bool) (k : ℕ) → is_unseen seen k ≡ true → count_by (λ b. b) (set seen k true) ≡ count_by (λ b. b) seen + 1
count_set seen k u =
    let one : Bool → ℕ = λ b. cond b 1 0 in
    let h : count_by (λ b. b) (set seen k true) + one (get_or seen k true) ≡ count_by (λ b. b) seen + 1 = sum_by-set one seen k true true (unseen_within seen k u) in
    let e : one (get_or seen k true) ≡ 0 = ap one (not_false (get_or seen k true) u) in
    omega (arith, h, e)

module _ (graph : List (List ℕ)) (from : ℕ) where
  -- one node more
  module _ (s : Found) (are : Finds graph from s) (k : ℕ) (u : is_unseen s.0 k ≡ true) (reached : reaches (next_of graph) (suc (length s.1)) from k ≡ true) where
    longer : length (s.1 ++ k ∷ []) ≡ length s.1 + 1
    longer = search (rules, length-append)

    near_with : (i : ℕ) → i < length (s.1 ++ k ∷ []) → reaches (next_of graph) (suc i) from (get_or (s.1 ++ k ∷ []) i 0) ≡ true
    near_with i h = ⊎_elim
        (λ (l : i < length s.1). ap (λ (j : ℕ). reaches (next_of graph) (suc i) from j) (get_or_append_left s.1 (k ∷ []) 0 i l) ∙ are.near i l)
        (λ (l : length s.1 ≤ i).
        let e : length s.1 ≡ i = omega (arith, h, l, longer) in
        ap (λ (j : ℕ). reaches (next_of graph) (suc i) from j) (get_or_push s.1 k 0 i e) ∙ ap (λ (n : ℕ). reaches (next_of graph) (suc n) from k) (sym e) ∙ reached)
        (cases_lt i (length s.1))

    listed_with : (j : ℕ) → get_or (set s.0 k true) j false ≡ true → (i : ℕ) × (i < length (s.1 ++ k ∷ [])) × (get_or (s.1 ++ k ∷ []) i 0 ≡ j)
    listed_with j e = ⊎_elim
        (λ (same : j ≡ k). (length s.1, omega (arith, longer), get_or_push s.1 k 0 (length s.1) refl ∙ sym same))
        (λ (ne : j ≡ k → ⊥).
        let w = are.listed j (sym (get_or-set_other s.0 k j true false ne) ∙ e) in
        (w.0, omega (arith, longer, w.1), get_or_append_left s.1 (k ∷ []) 0 w.0 w.1 ∙ w.2))
        (cases_eq j k)

    finds_new : Finds graph from (set s.0 k true, s.1 ++ k ∷ [])
    finds_new = record {
      size = length-set s.0 k true ∙ are.size;
      count = count_set s.0 k u ∙ ap (λ (n : ℕ). n + 1) are.count ∙ sym longer;
      near = near_with;
      listed = listed_with;
    }

  finds_node : (s : Found) → Finds graph from s → (k : ℕ) → reaches (next_of graph) (suc (length s.1)) from k ≡ true → Finds graph from (with_node s k)
  finds_node s are k reached =
      decide (is_unseen s.0 k)
      (λ u. subst (λ (b : Bool). Finds graph from (if b then (set s.0 k true, s.1 ++ k ∷ []) else s)) (sym u) (finds_new s are k u reached))
      (λ f. subst (λ (b : Bool). Finds graph from (if b then (set s.0 k true, s.1 ++ k ∷ []) else s)) (sym f) are)

-- a list of nodes found only grows, at its end
grows_node : (s : Found) (k : ℕ) → length s.1 ≤ length (with_node s k).1
grows_node s k = go (is_unseen s.0 k)
  where
    go : (b : Bool) → length s.1 ≤ length (if b then (set s.0 k true, s.1 ++ k ∷ []) else s).1
    go true = omega (arith, length-append s.1 (k ∷ []))
    go false = omega arith

front_node : (s : Found) (k i : ℕ) → i < length s.1 → get_or (with_node s k).1 i 0 ≡ get_or s.1 i 0
front_node s k i h = go (is_unseen s.0 k)
  where
    go : (b : Bool) → get_or (if b then (set s.0 k true, s.1 ++ k ∷ []) else s).1 i 0 ≡ get_or s.1 i 0
    go true = get_or_append_left s.1 (k ∷ []) 0 i h
    go false = refl

set_true : (xs : List Bool) (k : ℕ) → get_or (set xs k true) k true ≡ true
set_true xs k = ⊎_elim
    (λ (h : k < length xs). get_or-set_same xs k true true h)
    (λ (h : length xs ≤ k). get_or_past (set xs k true) k true (omega (arith, h, length-set xs k true)))
    (cases_lt k (length xs))

set_keeps : (xs : List Bool) (k j : ℕ) → is_unseen xs j ≡ false → is_unseen (set xs k true) j ≡ false
set_keeps xs k j e = ⊎_elim
    (λ (same : j ≡ k). ap (is_unseen (set xs k true)) same ∙ ap (λ (b : Bool). not b) (set_true xs k))
    (λ (ne : j ≡ k → ⊥). ap (λ (b : Bool). not b) (get_or-set_other xs k j true true ne) ∙ e)
    (cases_eq j k)

unseen_node : (s : Found) (k j : ℕ) → is_unseen s.0 j ≡ false → is_unseen (with_node s k).0 j ≡ false
unseen_node s k j e = go (is_unseen s.0 k)
  where
    go : (b : Bool) → is_unseen (if b then (set s.0 k true, s.1 ++ k ∷ []) else s).0 j ≡ false
    go true = set_keeps s.0 k j e
    go false = e

seen_node : (s : Found) (k : ℕ) → is_unseen (with_node s k).0 k ≡ false
seen_node s k = go (is_unseen s.0 k) refl
  where
    go : (b : Bool) → is_unseen s.0 k ≡ b → is_unseen (if b then (set s.0 k true, s.1 ++ k ∷ []) else s).0 k ≡ false
    go true u = ap (λ (b : Bool). not b) (set_true s.0 k)
    go false u = u

-- ---- many nodes more

grows : (ks : List ℕ) (s : Found) → length s.1 ≤ length (with_nodes s ks).1
grows [] s = omega arith
grows (k ∷ ks) s = omega (arith, grows_node s k, grows ks (with_node s k))

front : (ks : List ℕ) (s : Found) (i : ℕ) → i < length s.1 → get_or (with_nodes s ks).1 i 0 ≡ get_or s.1 i 0
front [] s i h = refl
front (k ∷ ks) s i h = front ks (with_node s k) i (omega (arith, grows_node s k, h)) ∙ front_node s k i h

stay_seen : (ks : List ℕ) (s : Found) (j : ℕ) → is_unseen s.0 j ≡ false → is_unseen (with_nodes s ks).0 j ≡ false
stay_seen [] s j e = e
stay_seen (k ∷ ks) s j e = stay_seen ks (with_node s k) j (unseen_node s k j e)

are_seen : (ks : List ℕ) (s : Found) → any (is_unseen (with_nodes s ks).0) ks ≡ false
are_seen [] s = refl
are_seen (k ∷ ks) s = or_neither (is_unseen (with_nodes (with_node s k) ks).0 k) (any (is_unseen (with_nodes (with_node s k) ks).0) ks) (stay_seen ks (with_node s k) k (seen_node s k)) (are_seen ks (with_node s k))

still_seen : (ks : List ℕ) (s : Found) (xs : List ℕ) → any (is_unseen s.0) xs ≡ false → any (is_unseen (with_nodes s ks).0) xs ≡ false
still_seen ks s xs e = any_excludes (is_unseen s.0) (is_unseen (with_nodes s ks).0) (stay_seen ks s) xs e

finds_nodes : (graph : List (List ℕ)) (from m : ℕ) (ks : List ℕ) (s : Found) → Finds graph from s → m ≤ length s.1 → ((j : ℕ) → is_among ks j ≡ true → reaches (next_of graph) (suc m) from j ≡ true) → Finds graph from (with_nodes s ks)
finds_nodes graph from m [] s are le h = are
finds_nodes graph from m (k ∷ ks) s are le h =
    finds_nodes graph from m ks (with_node s k)
    (finds_node graph from s are k (in_more (next_of graph) (suc m) (suc (length s.1)) from k (omega (arith, le)) (h k (any_here (λ (i : ℕ). i == k) k ks (same_number k)))))
    (omega (arith, le, grows_node s k))
    (λ j a. h j (any_behind (λ (i : ℕ). i == j) k ks a))

-- ---- the search

-- what those lead to is seen that stand before a place
pub record Goes (graph : List (List ℕ)) (from place : ℕ) (s : Found) : Type 0 where
  pub finds : Finds graph from s
  pub begun : any (is_unseen s.0) (next_of graph from) ≡ false
  pub passed : (i : ℕ) → i < place → i < length s.1 → any (is_unseen s.0) (next_of graph (get_or s.1 i 0)) ≡ false

count_none : (n : ℕ) → count_by (λ b. b) (replicate n false) ≡ 0
count_none zero = refl
count_none (suc n) = count_none n

none_seen : (n k : ℕ) → get_or (replicate n false) k false ≡ false
none_seen n k = ⊎_elim
    (λ (h : k < n). get_or-replicate n k false false h)
    (λ (h : n ≤ k). get_or_past (replicate n false) k false (omega (arith, h, length-replicate n false)))
    (cases_lt k n)

module _ (graph : List (List ℕ)) (from : ℕ) where
  finds_none : Finds graph from (replicate (length graph) false, [])
  finds_none = record {
    size = length-replicate (length graph) false;
    count = count_none (length graph);
    near = λ i h. absurd (omega (arith, h));
    listed = λ k e. absurd (apart (sym e ∙ none_seen (length graph) k));
  }

  pub goes_first : (s : Found) → s ≡ with_nodes (replicate (length graph) false, []) (next_of graph from) → Goes graph from 0 s
  goes_first s e = subst (Goes graph from 0) (sym e) (record {
    finds = finds_nodes graph from 0 (next_of graph from) (replicate (length graph) false, []) finds_none (omega arith) (λ j a. next_reached (next_of graph) 0 from j a);
    begun = are_seen (next_of graph from) (replicate (length graph) false, []);
    passed = λ i low h. absurd (omega (arith, low));
  })

  module _ (place : ℕ) (s : Found) (goes : Goes graph from place s) where
    within : place < length s.1 → Goes graph from (place + 1) (with_nodes s (next_of graph (get_or s.1 place 0)))
    within h =
        let node : ℕ = get_or s.1 place 0 in
        let nodes : List ℕ = next_of graph node in
        record {
          finds = finds_nodes graph from (suc place) nodes s goes.finds h (λ j a. reached_next (next_of graph) (suc place) from node j (goes.finds.near place h) a);
          begun = still_seen nodes s (next_of graph from) goes.begun;
          passed = λ i low _. ap (λ (q : ℕ). any (is_unseen (with_nodes s nodes).0) (next_of graph q)) (front nodes s i (omega (arith, low, h)))
              ∙ ⊎_elim
              (λ (b : i < place). still_seen nodes s (next_of graph (get_or s.1 i 0)) (goes.passed i b (omega (arith, b, h))))
              (λ (b : place ≤ i).
              let same : i ≡ place = omega (arith, b, low) in
              ap (λ (q : ℕ). any (is_unseen (with_nodes s nodes).0) (next_of graph (get_or s.1 q 0))) same ∙ are_seen nodes s)
              (cases_lt i place);
        }

    beyond : length s.1 ≤ place → Goes graph from (place + 1) s
    beyond h = record {
      finds = goes.finds;
      begun = goes.begun;
      passed = λ i low l. goes.passed i (omega (arith, l, h)) l;
    }

    next_place : Goes graph from (place + 1) (with_next graph s place)
    next_place =
        decide (nat_lt place (length s.1))
        (λ t. subst (λ (b : Bool). Goes graph from (place + 1) (if b then with_nodes s (next_of graph (get_or s.1 place 0)) else s)) (sym t) (within (ltb-true place (length s.1) t)))
        (λ f. subst (λ (b : Bool). Goes graph from (place + 1) (if b then with_nodes s (next_of graph (get_or s.1 place 0)) else s)) (sym f) (beyond (ltb-false place (length s.1) f)))

  pub goes_on : (place : ℕ) (s s' : Found) → Goes graph from place s → s' ≡ with_next graph s place → Goes graph from (place + 1) s'
  goes_on place s s' goes e = subst (Goes graph from (place + 1)) (sym e) (next_place place s goes)

  -- no step leads out of what is seen
  module _ (s : Found) (goes : Goes graph from (length graph) s) where
    few : length s.1 ≤ length graph
    few = omega (arith, count_by-le-length (λ (b : Bool). b) s.0, goes.finds.count, goes.finds.size)

    closed : (p : ℕ) → get_or s.0 p false ≡ true → any (is_unseen s.0) (next_of graph p) ≡ false
    closed p e =
        let w = goes.finds.listed p e in
        ap (λ (q : ℕ). any (is_unseen s.0) (next_of graph q)) (sym w.2) ∙ goes.passed w.0 (omega (arith, w.1, few)) w.1

    leads_in : (j : ℕ) → is_unseen s.0 j ≡ false → any (is_unseen s.0) (next_of graph j) ≡ false
    leads_in j v = ⊎_elim
        (λ (h : j < length graph). closed j (get_or_default s.0 j false true (omega (arith, h, goes.finds.size)) ∙ is_seen (get_or s.0 j true) v))
        (λ (h : length graph ≤ j). ap (any (is_unseen s.0)) (get_or_past graph j [] h))
        (cases_lt j (length graph))
      where
        is_seen : (b : Bool) → not b ≡ false → b ≡ true
        is_seen true f = refl
        is_seen false f = absurd (apart f)

    unreached : (to : ℕ) → is_unseen s.0 to ≡ true → (m p : ℕ) → any (is_unseen s.0) (next_of graph p) ≡ false → reaches (next_of graph) m p to ≡ false
    unfolding reaches
    unreached to u zero p e = refl
    unreached to u (suc m) p e =
        any_excludes (is_unseen s.0) (λ j. (j == to) || reaches (next_of graph) m j to)
        (λ j v. or_neither (j == to) (reaches (next_of graph) m j to)
        (decide (j == to) (λ same. absurd (apart (sym u ∙ ap (is_unseen s.0) (sym (eqb-true j to same)) ∙ v))) (λ f. f))
        (unreached to u m j (leads_in j v)))
        (next_of graph p) e

    pub seen_is_reached : (to : ℕ) → to < length graph → get_or s.0 to false ≡ reaches (next_of graph) (length graph) from to
    seen_is_reached to h =
        decide (get_or s.0 to false)
        (λ e.
        let w = goes.finds.listed to e in
        e ∙ sym (in_more (next_of graph) (suc w.0) (length graph) from to (omega (arith, w.1, few)) (ap (λ (q : ℕ). reaches (next_of graph) (suc w.0) from q) (sym w.2) ∙ goes.finds.near w.0 w.1)))
        (λ e. e ∙ sym (unreached to (ap (λ (b : Bool). not b) (get_or_default s.0 to true false (omega (arith, h, goes.finds.size)) ∙ e)) (length graph) from goes.begun))
