-- In a body that breaks none of the rules on edges and ends, control stays where it may.
use Rattle.std.proofs.Common.{◌≡◌, ◌<◌, ◌≤◌, ℕ, Bool, true, false, not, cond, ◌&&◌, ◌||◌, ◌⊎◌, inl, inr, List, [], ◌∷◌, ◌++◌, refl, sym, ◌∙◌, arith}
use Rattle.std.specs.Prelude.{◌==◌}
use Rattle.std.specs.List.{list_all, list_any}
use Rattle.std.proofs.lemmas.Bool.{and_cases, and_from, both_ways, eqb-true, not-false, not_from_false, or_cases, or_from, or_parts}
use Rattle.std.proofs.lemmas.List.Folds.{list_any-append}
use Rattle.cil_model.specs.declared.body.Instr.{Instr}
use Rattle.cil_model.specs.declared.body.Region.{Region}
use Rattle.cil_model.specs.declared.body.RegionKind.{RegionKind}
use Rattle.cil_model.specs.declared.body.RegionKind.TheVariants as region
use Rattle.cil_semantics.specs.Unwind.{in_try}
use Rattle.il_opcodes.specs.declared.class.Class.{Class}
use Rattle.il_opcodes.specs.Opcodes.{class_of}
use Rattle.il_flow.specs.Successors.{successors}
use Rattle.region_tree.specs.Rules.{crosses, goes_in, goes_out, in_handler, in_region, is_endfinally, is_leave, is_ret, is_rethrow, may_end, may_leave, may_rethrow}
use Rattle.tree_table_laws.specs.Flow.{Around, instr_keeps}
use Rattle.tree_table_laws.proofs.Lists.{Each, any_none, each_left, each_right, each_weaker, none_any}
use Rattle.tree_table_laws.proofs.Edges.{wrong}
use Rattle.tree_table_laws.proofs.FlowLaws.{Good, each_both}
use Rattle.tree_table_laws.proofs.Ranges.{Enters, Misses, reaches}

-- ---- regions that a place or a range misses

must_be : (x y : Bool) → x ≡ true → (x && not y) ≡ false → y ≡ true
must_be true y f e = not-false y e
must_be false y f e = absurd (both_ways false refl f)

pub enters_handler : (r : Region) (k t : ℕ) → in_handler r k ≡ false → goes_in r k t ≡ false → in_handler r t ≡ false
enters_handler r k t b g = first (and_cases (in_handler r t) (not (in_handler r k)) (or_parts (in_handler r t && not (in_handler r k)) (in_try r t && (not (in_try r k) && not (t == r.try_from))) g).0)
  where
    first : (in_handler r t ≡ false) ⊎ (not (in_handler r k) ≡ false) → in_handler r t ≡ false
    first (inl e) = e
    first (inr e) = absurd (both_ways (not (in_handler r k)) e (not_from_false (in_handler r k) b))

pub enters_try : (r : Region) (k t : ℕ) → in_try r k ≡ false → goes_in r k t ≡ false → in_try r t ≡ true → t ≡ r.try_from
enters_try r k t a g e = second (and_cases (in_try r t) (not (in_try r k) && not (t == r.try_from)) (or_parts (in_handler r t && not (in_handler r k)) (in_try r t && (not (in_try r k) && not (t == r.try_from))) g).1)
  where
    last : (not (in_try r k) ≡ false) ⊎ (not (t == r.try_from) ≡ false) → t ≡ r.try_from
    last (inl f) = absurd (both_ways (not (in_try r k)) f (not_from_false (in_try r k) a))
    last (inr f) = eqb-true t r.try_from (not-false (t == r.try_from) f)

    second : (in_try r t ≡ false) ⊎ ((not (in_try r k) && not (t == r.try_from)) ≡ false) → t ≡ r.try_from
    second (inl f) = absurd (both_ways (in_try r t) f e)
    second (inr f) = last (and_cases (not (in_try r k)) (not (t == r.try_from)) f)

-- a place outside of a region, from which control doesn't go into it wrongly
pub enters_from : (r : Region) (k t : ℕ) → in_try r k ≡ false → in_handler r k ≡ false → goes_in r k t ≡ false → Enters t r
enters_from r k t a b g = record { no_handler = enters_handler r k t b g; at_try = enters_try r k t a g }

-- a place inside, from which control doesn't go out
pub stays_in_try : (r : Region) (k t : ℕ) → in_try r k ≡ true → goes_out r k t ≡ false → in_try r t ≡ true
stays_in_try r k t a g = must_be (in_try r k) (in_try r t) a (or_parts (in_try r k && not (in_try r t)) (in_handler r k && not (in_handler r t)) g).0

pub stays_in_handler : (r : Region) (k t : ℕ) → in_handler r k ≡ true → goes_out r k t ≡ false → in_handler r t ≡ true
stays_in_handler r k t a g = must_be (in_handler r k) (in_handler r t) a (or_parts (in_try r k && not (in_try r t)) (in_handler r k && not (in_handler r t)) g).1

pub no_leave : (r : Region) (k : ℕ) → in_try r k ≡ false → in_handler r k ≡ false → may_leave r k ≡ false
no_leave r k a b = go r.kind
  where
    go : (kind : RegionKind) → may_leave (record r { kind = kind }) k ≡ false
    go (region.Catch token) = or_from (in_try r k) (in_handler r k) a b
    go (region.Filter place) = or_from (in_try r k) false a refl
    go region.Finally = or_from (in_try r k) false a refl
    go region.Fault = or_from (in_try r k) false a refl

pub no_end : (r : Region) (k : ℕ) → in_handler r k ≡ false → may_end r k ≡ false
no_end r k b = go r.kind
  where
    go : (kind : RegionKind) → may_end (record r { kind = kind }) k ≡ false
    go (region.Catch token) = refl
    go (region.Filter place) = refl
    go region.Finally = b
    go region.Fault = b

pub no_rethrow : (r : Region) (k : ℕ) → in_handler r k ≡ false → may_rethrow r k ≡ false
no_rethrow r k b = go r.kind
  where
    go : (kind : RegionKind) → may_rethrow (record r { kind = kind }) k ≡ false
    go (region.Catch token) = b
    go (region.Filter place) = refl
    go region.Finally = refl
    go region.Fault = refl

-- some regions of two lists that none of the second passes
pub only_left : (p : Region → Bool) (xs ys : List Region) → Each (λ r. p r ≡ false) ys → list_any p (xs ++ ys) ≡ true → list_any p xs ≡ true
only_left p xs ys a e = go (or_cases (list_any p xs) (list_any p ys) (sym (list_any-append p xs ys) ∙ e))
  where
    go : (list_any p xs ≡ true) ⊎ (list_any p ys ≡ true) → list_any p xs ≡ true
    go (inl f) = f
    go (inr f) = absurd (both_ways (list_any p ys) (none_any p ys a) f)

-- ---- what the code around a range lets

abbrev pub Keeps : (k t : ℕ) → Region → Type 0
Keeps k t r = (goes_out r k t ≡ false) × (goes_in r k t ≡ false)

abbrev pub NotInto : (k t : ℕ) → Region → Type 0
NotInto k t r = goes_in r k t ≡ false

-- What crosses no edge of the other regions and of the range's own is let by what the code may do.
pub record Lets (a : Around) (others own : List Region) (low high end : ℕ) : Type 0 where
  pub goes : (k t : ℕ) → low ≤ k → k < high → t ≤ end → Each (Keeps k t) others → Each (Enters t) own → a.goes t ≡ true
  pub reached : (k t : ℕ) → low ≤ k → k < high → t ≤ end → Each (NotInto k t) others → Each (Enters t) own → reaches a t ≡ true
  pub leaves : a.can_leave ≡ true → (t : ℕ) → reaches a t ≡ true → a.leaves t ≡ true
  pub returns : (k : ℕ) → low ≤ k → k < high → Each (λ r. in_region r k ≡ false) others → a.can_return ≡ true
  pub can_leave : (k : ℕ) → low ≤ k → k < high → list_any (λ r. may_leave r k) others ≡ true → a.can_leave ≡ true
  pub can_end : (k : ℕ) → low ≤ k → k < high → list_any (λ r. may_end r k) others ≡ true → a.can_end ≡ true
  pub can_rethrow : (k : ℕ) → low ≤ k → k < high → list_any (λ r. may_rethrow r k) others ≡ true → a.can_rethrow ≡ true

-- a part of the range, with the regions beside it among the others
pub lets_part : (a : Around) (others beside own all : List Region) (low high c d end : ℕ) → ((P : Region → Type 0) → Each P beside → Each P own → Each P all) → Each (Misses c d) beside → low ≤ c → d ≤ high → Lets a others all low high end → Lets a (others ++ beside) own c d end
lets_part a others beside own all low high c d end join m x y l = record {
  goes = λ k t p q h o w. l.goes k t (omega (arith, x, p)) (omega (arith, y, q)) h (each_left (Keeps k t) others beside o) (join (Enters t) (beside_enter k t p q (each_weaker (Keeps k t) (NotInto k t) (λ r e. e.1) beside (each_right (Keeps k t) others beside o))) w);
  reached = λ k t p q h o w. l.reached k t (omega (arith, x, p)) (omega (arith, y, q)) h (each_left (NotInto k t) others beside o) (join (Enters t) (beside_enter k t p q (each_right (NotInto k t) others beside o)) w);
  leaves = l.leaves;
  returns = λ k p q o. l.returns k (omega (arith, x, p)) (omega (arith, y, q)) (each_left (λ r. in_region r k ≡ false) others beside o);
  can_leave = λ k p q e. l.can_leave k (omega (arith, x, p)) (omega (arith, y, q)) (only_left (λ r. may_leave r k) others beside (each_weaker (Misses c d) (λ r. may_leave r k ≡ false) (λ r n. no_leave r k (n.tries k p q) (n.handlers k p q)) beside m) e);
  can_end = λ k p q e. l.can_end k (omega (arith, x, p)) (omega (arith, y, q)) (only_left (λ r. may_end r k) others beside (each_weaker (Misses c d) (λ r. may_end r k ≡ false) (λ r n. no_end r k (n.handlers k p q)) beside m) e);
  can_rethrow = λ k p q e. l.can_rethrow k (omega (arith, x, p)) (omega (arith, y, q)) (only_left (λ r. may_rethrow r k) others beside (each_weaker (Misses c d) (λ r. may_rethrow r k ≡ false) (λ r n. no_rethrow r k (n.handlers k p q)) beside m) e);
}
  where
    beside_enter : (k t : ℕ) → c ≤ k → k < d → Each (NotInto k t) beside → Each (Enters t) beside
    beside_enter k t p q o = each_weaker (λ r. Misses c d r × NotInto k t r) (Enters t) (λ r e. enters_from r k t (e.0.tries k p q) (e.0.handlers k p q) e.1) beside (each_both (Misses c d) (NotInto k t) beside m o)

-- ---- one instruction

each_turned : {X Y : Type 0} (P : X → Y → Type 0) (xs : List X) (ys : List Y) → Each (λ x. Each (P x) ys) xs → Each (λ y. Each (λ x. P x y) xs) ys
each_turned P xs [] a = tt
each_turned P xs (y ∷ ys) a = (each_weaker (λ x. Each (P x) (y ∷ ys)) (λ x. P x y) (λ x e. e.0) xs a, each_turned P xs ys (each_weaker (λ x. Each (P x) (y ∷ ys)) (λ x. Each (P x) ys) (λ x e. e.1) xs a))

each_all : {X : Type 0} (p : X → Bool) (xs : List X) → Each (λ x. p x ≡ true) xs → list_all p xs ≡ true
each_all p [] a = refl
each_all p (x ∷ xs) a = and_from (p x) (list_all p xs) a.0 (each_all p xs a.1)

-- what is excluded unless it may be
allowed : (x y : Bool) → (x ≡ true → y ≡ true) → (not x || y) ≡ true
allowed true y f = f refl
allowed false y f = refl

target_kept : (b : Bool) (r : Region) (k t : ℕ) → crosses b r k t ≡ false → (b ≡ false → goes_out r k t ≡ false) × (goes_in r k t ≡ false)
target_kept true r k t e = (λ f. absurd (both_ways true f refl), e)
target_kept false r k t e =
    let two = or_parts (goes_out r k t) (goes_in r k t) e in
    (λ f. two.0, two.1)

pub instr_back : (a : Around) (rs : List Region) (low high end k : ℕ) (i : Instr) → Lets a rs [] low high end → low ≤ k → k < high → Good rs k i → Each (λ t. t ≤ end) (successors k i) → instr_keeps a (k, i) ≡ true
instr_back a rs low high end k i l x y g ends =
    let c : Class = class_of i.op in
    let ts : List ℕ = successors k i in
    let e = or_parts (is_leave c && not (list_any (λ r. may_leave r k) rs)) ((is_endfinally c && not (list_any (λ r. may_end r k) rs)) || (is_rethrow c && not (list_any (λ r. may_rethrow r k) rs))) g.ends in
    let f = or_parts (is_endfinally c && not (list_any (λ r. may_end r k) rs)) (is_rethrow c && not (list_any (λ r. may_rethrow r k) rs)) e.1 in
    let kept : Each (λ t. Each (λ r. crosses (is_leave c) r k t ≡ false) rs) ts = each_turned (λ r t. crosses (is_leave c) r k t ≡ false) rs ts (each_weaker (λ r. wrong k i r ≡ false) (λ r. Each (λ t. crosses (is_leave c) r k t ≡ false) ts) (λ r w. any_none (crosses (is_leave c) r k) ts (or_parts (is_ret c && in_region r k) (list_any (crosses (is_leave c) r k) ts) w).1) rs (any_none (wrong k i) rs g.edges)) in
    let may : is_leave c ≡ true → a.can_leave ≡ true = λ t. l.can_leave k x y (must_be (is_leave c) (list_any (λ r. may_leave r k) rs) t e.0) in
    and_from (not (is_ret c) || a.can_return) _ (allowed (is_ret c) a.can_return (λ t. l.returns k x y (each_weaker (λ r. wrong k i r ≡ false) (λ r. in_region r k ≡ false) (λ r w. outside r t (or_parts (is_ret c && in_region r k) (list_any (crosses (is_leave c) r k) ts) w).0) rs (any_none (wrong k i) rs g.edges))))
    (and_from (not (is_leave c) || a.can_leave) _ (allowed (is_leave c) a.can_leave may)
    (and_from (not (is_endfinally c) || a.can_end) _ (allowed (is_endfinally c) a.can_end (λ t. l.can_end k x y (must_be (is_endfinally c) (list_any (λ r. may_end r k) rs) t f.0)))
    (and_from (not (is_rethrow c) || a.can_rethrow) _ (allowed (is_rethrow c) a.can_rethrow (λ t. l.can_rethrow k x y (must_be (is_rethrow c) (list_any (λ r. may_rethrow r k) rs) t f.1)))
    (each_all (λ t. cond (is_leave c) (a.leaves t) (a.goes t)) ts (each_weaker (λ t. (t ≤ end) × Each (λ r. crosses (is_leave c) r k t ≡ false) rs) (λ t. cond (is_leave c) (a.leaves t) (a.goes t) ≡ true) (λ t w. target (is_leave c) may t w.0 w.1) ts (each_both (λ t. t ≤ end) (λ t. Each (λ r. crosses (is_leave c) r k t ≡ false) rs) ts ends kept))))))
  where
    outside : (r : Region) → is_ret (class_of i.op) ≡ true → (is_ret (class_of i.op) && in_region r k) ≡ false → in_region r k ≡ false
    outside r t w = go (and_cases (is_ret (class_of i.op)) (in_region r k) w)
      where
        go : (is_ret (class_of i.op) ≡ false) ⊎ (in_region r k ≡ false) → in_region r k ≡ false
        go (inl z) = absurd (both_ways (is_ret (class_of i.op)) z t)
        go (inr z) = z

    target : (b : Bool) → (b ≡ true → a.can_leave ≡ true) → (t : ℕ) → t ≤ end → Each (λ r. crosses b r k t ≡ false) rs → cond b (a.leaves t) (a.goes t) ≡ true
    target true may t h w = l.leaves (may refl) t (l.reached k t x y h (each_weaker (λ r. crosses true r k t ≡ false) (NotInto k t) (λ r z. (target_kept true r k t z).1) rs w) tt)
    target false may t h w = l.goes k t x y h (each_weaker (λ r. crosses false r k t ≡ false) (Keeps k t) (λ r z. ((target_kept false r k t z).0 refl, (target_kept false r k t z).1)) rs w) tt
