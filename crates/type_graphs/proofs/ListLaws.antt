-- Lists by node, and the nodes that a row of the graph gives.
use Rattle.std.proofs.Common.{◌≡◌, ◌∙◌, sym, ap, refl, arith, rules, ℕ, zero, suc, ◌+◌, ◌<◌, ◌≤◌, List, [], ◌∷◌, ◌++◌, length, get_or, replicate, Bool, true, false, ⊎_elim}
use Rattle.std.specs.Prelude.{map, ◌==◌}
use Rattle.std.specs.List.{range_with_len}
use Rattle.std.proofs.lemmas.Bool.{cases_lt}
use Rattle.std.proofs.lemmas.List.{get_or_default, get_or_past, get_or-replicate, length-replicate}
use Rattle.std.proofs.lemmas.List.FromFn.{map-range_with_len_more, get_or-map-range_with_len, length-map-range_with_len, fill_by_all}
use Rattle.set_names.specs.Cycles.{any, is_deep}
use Rattle.type_graphs.specs.Graphs.{next_of}
use Rattle.type_graphs.specs.Levels.{level_of, is_in}

pub list_push : {A : Type 0} (f : ℕ → A) (k : ℕ) (xs xs' : List A) (x : A) → xs' ≡ xs ++ x ∷ [] → x ≡ f k → xs ≡ map f (range_with_len 0 k) → xs' ≡ map f (range_with_len 0 (k + 1))
list_push {A} f k xs xs' x e n h =
    e ∙ ap (λ (l : List A). l ++ x ∷ []) h ∙ ap (λ (o : A). map f (range_with_len 0 k) ++ o ∷ []) n
    ∙ sym (map-range_with_len_more f 0 k k (omega arith))

pub row_is : (graph : List (List ℕ)) (at : ℕ) (row nodes : List ℕ) → at < length graph → row ≡ get_or graph at row → nodes ≡ row → nodes ≡ next_of graph at
row_is graph at row nodes h e n = n ∙ e ∙ get_or_default graph at row [] h

any_same : {A : Type 0} (f g : A → Bool) → ((x : A) → f x ≡ g x) → (xs : List A) → any f xs ≡ any g xs
any_same {A} f g h [] = refl
any_same {A} f g h (x ∷ xs) = cc (h x, any_same f g h xs)

map_same : {A B : Type 0} (f g : A → B) → ((x : A) → f x ≡ g x) → (xs : List A) → map f xs ≡ map g xs
map_same f g h [] = refl
map_same f g h (x ∷ xs) = cc (h x, map_same f g h xs)

module _ (graph : List (List ℕ)) where
  first : (k : ℕ) → true ≡ is_deep (next_of graph) 0 k
  unfolding is_deep
  first k = refl

  pub level_first : (level : List Bool) → level ≡ replicate (length graph) true → level ≡ level_of graph 0
  level_first level e =
      e ∙ fill_by_all (is_deep (next_of graph) 0) (replicate (length graph) true) (length graph) true (length-replicate (length graph) true)
      (λ k h. get_or-replicate (length graph) k true true h ∙ first k)

  not_none : (d : ℕ) → (suc d == 0) ≡ false
  not_none d = search rules

  -- past the end only no step leads on
  past_end : (d k : ℕ) → length graph ≤ k → (d == 0) ≡ is_deep (next_of graph) d k
  unfolding is_deep
  past_end zero k h = refl
  past_end (suc d) k h = not_none d ∙ sym (ap (any (is_deep (next_of graph) d)) (get_or_past graph k [] h))

  module _ (level : List Bool) (d : ℕ) (is : level ≡ level_of graph d) where
    in_level : (k : ℕ) → is_in level (d == 0) k ≡ is_deep (next_of graph) d k
    in_level k =
        ap (λ (l : List Bool). get_or l k (d == 0)) is
        ∙ ⊎_elim
        (λ (within : k < length graph). get_or-map-range_with_len (is_deep (next_of graph) d) 0 (length graph) k k (d == 0) within (omega arith))
        (λ (past : length graph ≤ k). get_or_past (level_of graph d) k (d == 0) (omega (arith, length-map-range_with_len (is_deep (next_of graph) d) 0 (length graph), past)) ∙ past_end d k past)
        (cases_lt k (length graph))

    one_step : (k : ℕ) → any (is_in level (d == 0)) (next_of graph k) ≡ is_deep (next_of graph) (d + 1) k
    unfolding is_deep
    one_step k = let e : d + 1 ≡ suc d = omega arith in any_same (is_in level (d == 0)) (is_deep (next_of graph) d) in_level (next_of graph k) ∙ ap (λ (n : ℕ). is_deep (next_of graph) n k) (sym e)

    pub level_more : map (λ k. any (is_in level (d == 0)) (next_of graph k)) (range_with_len 0 (length graph)) ≡ level_of graph (d + 1)
    level_more = map_same (λ k. any (is_in level (d == 0)) (next_of graph k)) (is_deep (next_of graph) (d + 1)) one_step (range_with_len 0 (length graph))
