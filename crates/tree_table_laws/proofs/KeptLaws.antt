-- The code of a tree whose body breaks none of the rules on edges and ends.
use Rattle.std.proofs.Common.{◌≡◌, ◌+◌, ◌<◌, ◌≤◌, ℕ, zero, suc, Bool, true, false, leb, ltb, ◌||◌, ◌⊎◌, inl, inr, Some, List, [], ◌∷◌, ◌++◌, length, refl, sym, subst, ◌∙◌, arith}
use Rattle.std.specs.Prelude.{slice_get}
use Rattle.std.specs.List.{list_all, list_any, enumerate_from}
use Rattle.std.proofs.lemmas.Bool.{and_from, and_parts, both_ways, cases_lt, leb-true, ltb-true, or_cases, or_left, or_right}
use Rattle.std.proofs.lemmas.List.Folds.{list_any-append}
use Rattle.std.proofs.lemmas.Option.{none-some}
use Rattle.cil_model.specs.declared.body.Instr.{Instr}
use Rattle.cil_model.specs.declared.body.Region.{Region}
use Rattle.cil_model.specs.declared.body.RegionKind.{RegionKind}
use Rattle.cil_model.specs.declared.body.RegionKind.TheVariants as region
use Rattle.cil_semantics.specs.Unwind.{holds_place, in_try}
use Rattle.il_flow.specs.Successors.{successors}
use Rattle.region_tree.specs.Rules.{in_handler, in_region, may_end, may_leave, may_rethrow}
use Rattle.tree_table_laws.specs.Flow.{Around, is_catch, is_cleanup, within}
use Rattle.tree_table_laws.proofs.Lists.{Each, each_left, each_right, each_weaker, none_any}
use Rattle.tree_table_laws.proofs.Edges.{holds, outside_before, outside_behind}
use Rattle.tree_table_laws.proofs.FlowLaws.{Good, each_both, good_same, own_row}
use Rattle.tree_table_laws.proofs.OrderLaws.{IsOwn}
use Rattle.tree_table_laws.proofs.Ranges.{Enters, Misses, reaches}
use Rattle.tree_table_laws.proofs.BackLaws.{Keeps, Lets, NotInto, enters_handler, enters_try, no_end, no_leave, no_rethrow, only_left, stays_in_handler, stays_in_try}

-- ---- instructions

pub get_first : (xs ys : List Instr) (k : ℕ) (i : Instr) → slice_get xs k ≡ Some i → slice_get (xs ++ ys) k ≡ Some i
get_first [] ys k i e = absurd (none-some i e)
get_first (x ∷ xs) ys zero i e = e
get_first (x ∷ xs) ys (suc k) i e = get_first xs ys k i e

pub get_second : (xs ys : List Instr) (k : ℕ) (i : Instr) → slice_get ys k ≡ Some i → slice_get (xs ++ ys) (length xs + k) ≡ Some i
get_second [] ys k i e =
    let same : k ≡ 0 + k = omega arith in
    subst (λ (n : ℕ). slice_get ys n ≡ Some i) same e
get_second (x ∷ xs) ys k i e =
    let same : suc (length xs + k) ≡ length (x ∷ xs) + k = omega arith in
    subst (λ (n : ℕ). slice_get (x ∷ (xs ++ ys)) n ≡ Some i) same (get_second xs ys k i e)

pub all_from : (p : ℕ × Instr → Bool) (q : ℕ) (is : List Instr) → ((k : ℕ) (i : Instr) → slice_get is k ≡ Some i → p (q + k, i) ≡ true) → list_all p (enumerate_from q is) ≡ true
all_from p q [] f = refl
all_from p q (x ∷ is) f =
    and_from (p (q, x)) (list_all p (enumerate_from (q + 1) is)) (subst (λ (n : ℕ). p (n, x) ≡ true) (omega arith) (f 0 x refl))
    (all_from p (q + 1) is (λ k i e. subst (λ (n : ℕ). p (n, i) ≡ true) (omega arith) (f (suc k) i e)))

-- each instruction of some code at a place keeps the rules, and goes to places of the code or to its end
abbrev pub AllGood : List Region → List Instr → (q end : ℕ) → Type 0
AllGood rs is q end = (k : ℕ) (i : Instr) → slice_get is k ≡ Some i → Good rs (q + k) i × Each (λ t. t ≤ end) (successors (q + k) i)

pub good_first : (xs ys : List Instr) (old new : List Region) (q end : ℕ) → ((p : Region → Bool) → list_any p old ≡ list_any p new) → AllGood old (xs ++ ys) q end → AllGood new xs q end
good_first xs ys old new q end s g k i e =
    let both = g k i (get_first xs ys k i e) in
    (good_same old new (q + k) i s both.0, both.1)

pub good_second : (xs ys : List Instr) (old new : List Region) (q end : ℕ) → ((p : Region → Bool) → list_any p old ≡ list_any p new) → AllGood old (xs ++ ys) q end → AllGood new ys (q + length xs) end
good_second xs ys old new q end s g k i e =
    let both = g (length xs + k) i (get_second xs ys k i e) in
    let at : q + (length xs + k) ≡ q + length xs + k = omega arith in
    (subst (λ (n : ℕ). Good new n i) at (good_same old new (q + (length xs + k)) i s both.0), subst (λ (n : ℕ). Each (λ t. t ≤ end) (successors n i)) at both.1)

-- ---- the code of a try or of a handler

-- a range is the code of one part of each of some regions, and of no other part of them
pub record IsPart (x y z : Bool) (around : List Region) (c d : ℕ) : Type 0 where
  pub stays : (k t : ℕ) → c ≤ k → k < d → Each (Keeps k t) around → (c ≤ t) × (t < d)
  pub contains : (k : ℕ) → c ≤ k → k < d → Each (λ r. in_region r k ≡ false) around → ⊥
  pub enters : (k t : ℕ) → c ≤ k → k < d → (t < c) ⊎ (d ≤ t) → Each (NotInto k t) around → Each (Enters t) around
  pub leaves : (k : ℕ) → c ≤ k → k < d → list_any (λ r. may_leave r k) around ≡ true → x ≡ true
  pub ends : (k : ℕ) → c ≤ k → k < d → list_any (λ r. may_end r k) around ≡ true → y ≡ true
  pub rethrows : (k : ℕ) → c ≤ k → k < d → list_any (λ r. may_rethrow r k) around ≡ true → z ≡ true

pub either_of : (p : Region → Bool) (xs ys : List Region) (x y : Bool) → (list_any p ys ≡ true → x ≡ true) → (list_any p xs ≡ true → y ≡ true) → list_any p (xs ++ ys) ≡ true → (x || y) ≡ true
either_of p xs ys x y f g e = go (or_cases (list_any p xs) (list_any p ys) (sym (list_any-append p xs ys) ∙ e))
  where
    go : (list_any p xs ≡ true) ⊎ (list_any p ys ≡ true) → (x || y) ≡ true
    go (inl h) = or_right x y (g h)
    go (inr h) = or_left x y (f h)

pub lets_within : (g : ℕ → Bool) (x y z : Bool) (a : Around) (others beside around own all : List Region) (low high c d end : ℕ) → ((P : Region → Type 0) → Each P beside → Each P around → Each P own → Each P all) → Each (Misses c d) beside → IsPart x y z around c d → ((t : ℕ) → c ≤ t → t < d → Each (Enters t) own → g t ≡ true) → low ≤ c → d ≤ high → Lets a others all low high end → Lets (within g x y z a) ((others ++ beside) ++ around) own c d end
lets_within g x y z a others beside around own all low high c d end join m p whole lo hi l = record {
  goes = λ k t u v h o w.
      let in_it = p.stays k t u v (each_right (Keeps k t) (others ++ beside) around o) in
      whole t in_it.0 in_it.1 w;
  reached = λ k t u v h o w. reach k t u v h o w (cases_lt t c) (cases_lt t d);
  leaves = λ e t r. again t (or_cases (g t) (g t || reaches a t) r);
  returns = λ k u v o. absurd (p.contains k u v (each_right (λ r. in_region r k ≡ false) (others ++ beside) around o));
  can_leave = λ k u v e. either_of (λ r. may_leave r k) (others ++ beside) around x a.can_leave (p.leaves k u v) (λ f. l.can_leave k (omega (arith, lo, u)) (omega (arith, hi, v)) (only_left (λ r. may_leave r k) others beside (each_weaker (Misses c d) (λ r. may_leave r k ≡ false) (λ r n. no_leave r k (n.tries k u v) (n.handlers k u v)) beside m) f)) e;
  can_end = λ k u v e. either_of (λ r. may_end r k) (others ++ beside) around y a.can_end (p.ends k u v) (λ f. l.can_end k (omega (arith, lo, u)) (omega (arith, hi, v)) (only_left (λ r. may_end r k) others beside (each_weaker (Misses c d) (λ r. may_end r k ≡ false) (λ r n. no_end r k (n.handlers k u v)) beside m) f)) e;
  can_rethrow = λ k u v e. either_of (λ r. may_rethrow r k) (others ++ beside) around z a.can_rethrow (p.rethrows k u v) (λ f. l.can_rethrow k (omega (arith, lo, u)) (omega (arith, hi, v)) (only_left (λ r. may_rethrow r k) others beside (each_weaker (Misses c d) (λ r. may_rethrow r k ≡ false) (λ r n. no_rethrow r k (n.handlers k u v)) beside m) f)) e;
}
  where
    again : (t : ℕ) → (g t ≡ true) ⊎ ((g t || reaches a t) ≡ true) → (g t || reaches a t) ≡ true
    again t (inl e) = or_left (g t) (reaches a t) e
    again t (inr e) = e

    outside : (k t : ℕ) → c ≤ k → k < d → t ≤ end → Each (NotInto k t) ((others ++ beside) ++ around) → Each (Enters t) own → (t < c) ⊎ (d ≤ t) → reaches (within g x y z a) t ≡ true
    outside k t u v h o w out =
        let front : Each (NotInto k t) (others ++ beside) = each_left (NotInto k t) (others ++ beside) around o in
        let sides : Each (Enters t) beside = each_weaker (λ r. Misses c d r × NotInto k t r) (Enters t) (λ r e. record { no_handler = enters_handler r k t (e.0.handlers k u v) e.1; at_try = enters_try r k t (e.0.tries k u v) e.1 }) beside (each_both (Misses c d) (NotInto k t) beside m (each_right (NotInto k t) others beside front)) in
        or_right (g t) (g t || reaches a t) (or_right (g t) (reaches a t)
        (l.reached k t (omega (arith, lo, u)) (omega (arith, hi, v)) h (each_left (NotInto k t) others beside front) (join (Enters t) sides (p.enters k t u v out (each_right (NotInto k t) (others ++ beside) around o)) w)))

    reach : (k t : ℕ) → c ≤ k → k < d → t ≤ end → Each (NotInto k t) ((others ++ beside) ++ around) → Each (Enters t) own → (t < c) ⊎ (c ≤ t) → (t < d) ⊎ (d ≤ t) → reaches (within g x y z a) t ≡ true
    reach k t u v h o w (inl e) f = outside k t u v h o w (inl e)
    reach k t u v h o w (inr e) (inl f) = or_left (g t) (g t || reaches a t) (whole t e f w)
    reach k t u v h o w (inr e) (inr f) = outside k t u v h o w (inr f)

pub held : (a b q : ℕ) → holds_place a b q ≡ true → (a ≤ q) × (q < b)
held a b q e =
    let two = and_parts (leb a q) (ltb q b) e in
    (leb-true a q two.0, ltb-true q b two.1)

-- the code of a try, by its clauses
pub try_is_part : (from to : ℕ) (r : Region) (rest : List Region) → Each (IsOwn from to to) (r ∷ rest) → IsPart true false false (r ∷ rest) from to
try_is_part from to r rest o = record {
  stays = λ k t u v e. in_first t (held r.try_from r.try_to t (stays_in_try r k t (inside k u v) e.0.0));
  contains = λ k u v e. both_ways (in_region r k) e.0 (or_left (in_try r k) (in_handler r k) (inside k u v));
  enters = λ k t u v out e. each_weaker (λ s. IsOwn from to to s × NotInto k t s) (Enters t) (λ s b. record { no_handler = enters_handler s k t (no_handler s b.0 k v) b.1; at_try = λ x. absurd (past s t b.0 out (held s.try_from s.try_to t x)) }) (r ∷ rest) (each_both (IsOwn from to to) (NotInto k t) (r ∷ rest) o e);
  leaves = λ k u v e. refl;
  ends = λ k u v e. absurd (both_ways (list_any (λ s. may_end s k) (r ∷ rest)) (none_any (λ s. may_end s k) (r ∷ rest) (each_weaker (IsOwn from to to) (λ s. may_end s k ≡ false) (λ s b. no_end s k (no_handler s b k v)) (r ∷ rest) o)) e);
  rethrows = λ k u v e. absurd (both_ways (list_any (λ s. may_rethrow s k) (r ∷ rest)) (none_any (λ s. may_rethrow s k) (r ∷ rest) (each_weaker (IsOwn from to to) (λ s. may_rethrow s k ≡ false) (λ s b. no_rethrow s k (no_handler s b k v)) (r ∷ rest) o)) e);
}
  where
    inside : (k : ℕ) → from ≤ k → k < to → in_try r k ≡ true
    inside k u v = holds r.try_from r.try_to k (omega (arith, u, o.0.from_is)) (omega (arith, v, o.0.to_is))

    in_first : (t : ℕ) → (r.try_from ≤ t) × (t < r.try_to) → (from ≤ t) × (t < to)
    in_first t h = (omega (arith, h.0, o.0.from_is), omega (arith, h.1, o.0.to_is))

    no_handler : (s : Region) → IsOwn from to to s → (k : ℕ) → k < to → in_handler s k ≡ false
    no_handler s b k v = outside_before s.handler_from s.handler_to k (omega (arith, v, b.starts))

    past : (s : Region) (t : ℕ) → IsOwn from to to s → (t < from) ⊎ (to ≤ t) → (s.try_from ≤ t) × (t < s.try_to) → ⊥
    past s t b (inl e) h = omega (arith, e, h.0, b.from_is)
    past s t b (inr e) h = omega (arith, e, h.1, b.to_is)

-- ---- the code of a handler, by its clause

pub row_leaves : (kind : RegionKind) (from to at end k : ℕ) → in_try (own_row from to at end kind) k ≡ false → may_leave (own_row from to at end kind) k ≡ true → is_catch kind ≡ true
row_leaves (region.Catch token) from to at end k a e = refl
row_leaves (region.Filter place) from to at end k a e = absurd (no_other (holds_place from to k) a e)
  where
    no_other : (b : Bool) → b ≡ false → (b || false) ≡ true → ⊥
    no_other true f g = both_ways true f refl
    no_other false f g = both_ways false refl g
row_leaves region.Finally from to at end k a e = absurd (no_other (holds_place from to k) a e)
  where
    no_other : (b : Bool) → b ≡ false → (b || false) ≡ true → ⊥
    no_other true f g = both_ways true f refl
    no_other false f g = both_ways false refl g
row_leaves region.Fault from to at end k a e = absurd (no_other (holds_place from to k) a e)
  where
    no_other : (b : Bool) → b ≡ false → (b || false) ≡ true → ⊥
    no_other true f g = both_ways true f refl
    no_other false f g = both_ways false refl g

pub row_ends : (kind : RegionKind) (from to at end k : ℕ) → may_end (own_row from to at end kind) k ≡ true → is_cleanup kind ≡ true
row_ends (region.Catch token) from to at end k e = absurd (both_ways false refl e)
row_ends (region.Filter place) from to at end k e = absurd (both_ways false refl e)
row_ends region.Finally from to at end k e = refl
row_ends region.Fault from to at end k e = refl

pub row_rethrows : (kind : RegionKind) (from to at end k : ℕ) → may_rethrow (own_row from to at end kind) k ≡ true → is_catch kind ≡ true
row_rethrows (region.Catch token) from to at end k e = refl
row_rethrows (region.Filter place) from to at end k e = absurd (both_ways false refl e)
row_rethrows region.Finally from to at end k e = absurd (both_ways false refl e)
row_rethrows region.Fault from to at end k e = absurd (both_ways false refl e)

pub only_one : (p : Region → Bool) (r : Region) → list_any p (r ∷ []) ≡ true → p r ≡ true
only_one p r e = go (or_cases (p r) false e)
  where
    go : (p r ≡ true) ⊎ (false ≡ true) → p r ≡ true
    go (inl f) = f
    go (inr f) = absurd (both_ways false refl f)

pub handler_is_part : (from to at end : ℕ) (kind : RegionKind) → to ≤ at → IsPart (is_catch kind) (is_cleanup kind) (is_catch kind) (own_row from to at end kind ∷ []) at end
handler_is_part from to at end kind x = record {
  stays = λ k t u v e. held at end t (stays_in_handler r k t (holds at end k u v) e.0.0);
  contains = λ k u v e. both_ways (in_region r k) e.0 (or_right (in_try r k) (in_handler r k) (holds at end k u v));
  enters = λ k t u v out e. (record { no_handler = missed t out; at_try = enters_try r k t (no_try k u) e.0 }, tt);
  leaves = λ k u v e. row_leaves kind from to at end k (no_try k u) (only_one (λ s. may_leave s k) r e);
  ends = λ k u v e. row_ends kind from to at end k (only_one (λ s. may_end s k) r e);
  rethrows = λ k u v e. row_rethrows kind from to at end k (only_one (λ s. may_rethrow s k) r e);
}
  where
    r : Region
    r = own_row from to at end kind

    no_try : (k : ℕ) → at ≤ k → in_try r k ≡ false
    no_try k u = outside_behind from to k (omega (arith, x, u))

    missed : (t : ℕ) → (t < at) ⊎ (end ≤ t) → in_handler r t ≡ false
    missed t (inl e) = outside_before at end t e
    missed t (inr e) = outside_behind at end t e
