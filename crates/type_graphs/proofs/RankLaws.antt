-- Ranks against chains and circles.
use Rattle.std.proofs.Common.{◌≡◌, ◌∙◌, sym, ap, refl, subst, arith, rules, ℕ, zero, suc, ◌+◌, ◌<◌, ◌≤◌, List, [], length, get_or, drop, replicate, Bool, true, false, ⊎_elim}
use Rattle.std.specs.Prelude.{◌||◌, ◌==◌, nat_lt, max, set}
use Rattle.std.proofs.lemmas.Bool.{eqb-true, cases_eq, cases_lt}
use Rattle.std.proofs.lemmas.Bool.Decides.{nat_tests}
use Rattle.std.proofs.lemmas.List.{length-set, get_or-set_same, get_or-set_other, get_or-replicate, length-replicate, get_or_past}
use Rattle.cil_base.proofs.Small.{decide}
use Rattle.set_names.specs.Cycles.{any, is_deep, reaches}
use Rattle.type_graphs.specs.Graphs.{next_of}
use Rattle.type_graphs.specs.Ranks.{AreRanks, LeadOn, has_no_rank, is_above, rank_in}
use Rattle.type_graphs.proofs.AnyLaws.{or_group, any_on, any_implies, any_alike, or_either}

lt_max : (d a b : ℕ) → nat_lt d (max a b) ≡ (nat_lt d a || nat_lt d b)
lt_max d a b = grind (arith, nat_tests)

pub lt_suc : (d b : ℕ) → nat_lt (suc d) (b + 1) ≡ nat_lt d b
lt_suc d b = grind (arith, nat_tests)

not_below : (d : ℕ) → nat_lt d d ≡ false
not_below d = search rules

-- the highest rank so far
pub above_more : (ranks nodes : List ℕ) (i best rank : ℕ) (whole : Bool) (d : ℕ) → i < length nodes → rank ≡ rank_in ranks (get_or nodes i 0) → (nat_lt d best || any (is_above ranks d) (drop i nodes)) ≡ whole
    → (nat_lt d (max best rank) || any (is_above ranks d) (drop (i + 1) nodes)) ≡ whole
above_more ranks nodes i best rank whole d within e h =
    ap (λ (b : Bool). b || any (is_above ranks d) (drop (i + 1) nodes)) (lt_max d best rank)
    ∙ or_group (nat_lt d best) (nat_lt d rank) (any (is_above ranks d) (drop (i + 1) nodes))
    ∙ sym (ap (λ (b : Bool). nat_lt d best || b) (any_on (is_above ranks d) nodes i 0 (nat_lt d rank) within (sym (ap (nat_lt d) e))))
    ∙ h

module _ (graph : List (List ℕ)) (ranks : List ℕ) (are : AreRanks graph ranks) where
  -- a node gets the rank above those that it leads to
  module _ (at rank : ℕ) (within : at < length ranks) (ranked : any (has_no_rank ranks) (next_of graph at) ≡ false)
      (above : (d : ℕ) → any (is_above ranks d) (next_of graph at) ≡ nat_lt (suc d) rank) (some : nat_lt 0 rank ≡ true) where
    here : (d : ℕ) → is_deep (next_of graph) d at ≡ nat_lt d rank
    unfolding is_deep
    here zero = sym some
    here (suc d) = any_alike (has_no_rank ranks) (is_deep (next_of graph) d) (is_above ranks d) (λ j r. are.exact j d r) (next_of graph at) ranked ∙ above d

    same : (k : ℕ) → k ≡ at → rank_in (set ranks at rank) k ≡ rank
    same k e = ap (rank_in (set ranks at rank)) e ∙ get_or-set_same ranks at rank 1 within

    other : (k : ℕ) → (k ≡ at → ⊥) → rank_in (set ranks at rank) k ≡ rank_in ranks k
    other k ne = get_or-set_other ranks at k rank 1 ne

    pub rank_set : AreRanks graph (set ranks at rank)
    rank_set = record {
      size = length-set ranks at rank ∙ are.size;
      exact = λ k d r. ⊎_elim
          (λ (e : k ≡ at). ap (is_deep (next_of graph) d) e ∙ here d ∙ sym (ap (nat_lt d) (same k e)))
          (λ (ne : k ≡ at → ⊥). are.exact k d (sym (ap (λ n. n == 0) (other k ne)) ∙ r) ∙ sym (ap (nat_lt d) (other k ne)))
          (cases_eq k at);
    }

  -- what has no rank and leads to what has none leads on for ever
  pub deep_always : LeadOn graph ranks → (d k : ℕ) → has_no_rank ranks k ≡ true → is_deep (next_of graph) d k ≡ true
  unfolding is_deep
  deep_always on zero k e = refl
  deep_always on (suc d) k e = any_implies (has_no_rank ranks) (is_deep (next_of graph) d) (deep_always on d) (next_of graph k) (on.leads k e)

-- no node has a rank yet, and nothing follows a number past the end
module _ (graph : List (List ℕ)) where
  nothing : (k d : ℕ) → length graph ≤ k → is_deep (next_of graph) d k ≡ nat_lt d 1
  unfolding is_deep
  nothing k zero past = refl
  nothing k (suc d) past = ap (any (is_deep (next_of graph) d)) (get_or_past graph k [] past) ∙ search rules

  pub no_ranks : (ranks : List ℕ) → ranks ≡ replicate (length graph) 0 → AreRanks graph ranks
  no_ranks ranks e = record {
    size = ap length e ∙ length-replicate (length graph) 0;
    exact = λ k d r. ⊎_elim
        (λ (within : k < length graph). absurd (apart (sym (ap (λ (n : ℕ). n == 0) (ap (λ (l : List ℕ). get_or l k 1) e ∙ get_or-replicate (length graph) k 0 1 within)) ∙ r)))
        (λ (past : length graph ≤ k). nothing k d past ∙ sym (ap (nat_lt d) (ap (λ (l : List ℕ). get_or l k 1) e ∙ get_or_past (replicate (length graph) 0) k 1 (subst (λ (n : ℕ). n ≤ k) (sym (length-replicate (length graph) 0)) past))))
        (cases_lt k (length graph));
  }
    where
      apart : true ≡ false → ⊥
      apart h = cc

-- ---- chains that lead to circles

module _ (next : ℕ → List ℕ) where
  shorter : (d k : ℕ) → is_deep next (suc d) k ≡ true → is_deep next d k ≡ true
  unfolding is_deep
  shorter zero k e = refl
  shorter (suc d) k e = any_implies (is_deep next (suc d)) (is_deep next d) (shorter d) (next k) e

  deep_before : (n k to d : ℕ) → reaches next n k to ≡ true → is_deep next d to ≡ true → is_deep next (suc d) k ≡ true
  unfolding is_deep reaches
  deep_before zero k to d r e = absurd cc
  deep_before (suc n) k to d r e =
      any_implies (λ j. (j == to) || reaches next n j to) (is_deep next d)
      (λ j h. or_either (j == to) (reaches next n j to)
      (λ same. ap (is_deep next d) (eqb-true j to same) ∙ e)
      (λ further. shorter d j (deep_before n j to d further e)) h)
      (next k) r

  pub deep_on_circle : (n k : ℕ) → reaches next n k k ≡ true → (d : ℕ) → is_deep next d k ≡ true
  unfolding is_deep
  deep_on_circle n k r zero = refl
  deep_on_circle n k r (suc d) = deep_before n k k d r (deep_on_circle n k r d)

pub ranked_on_no_circle : (graph : List (List ℕ)) (ranks : List ℕ) (n k : ℕ) → AreRanks graph ranks → has_no_rank ranks k ≡ false → reaches (next_of graph) n k k ≡ false
ranked_on_no_circle graph ranks n k are e =
    decide (reaches (next_of graph) n k k)
    (λ r. absurd (apart (sym (deep_on_circle (next_of graph) n k r (rank_in ranks k)) ∙ are.exact k (rank_in ranks k) e ∙ not_below (rank_in ranks k))))
    (λ f. f)
  where
    apart : true ≡ false → ⊥
    apart h = cc
