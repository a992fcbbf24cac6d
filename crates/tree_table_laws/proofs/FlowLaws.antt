-- Control in the code of a tree keeps to the edges of the regions in its table.
use Rattle.std.proofs.Common.{◌≡◌, ◌+◌, ◌<◌, ◌≤◌, ℕ, zero, suc, Bool, true, false, not, cond, nat_lt, ◌&&◌, ◌||◌, ◌⊎◌, inl, inr, Option, Some, None, List, [], ◌∷◌, ◌++◌, length, refl, sym, subst, ap, ◌∙◌, append_assoc, arith, length-append}
use Rattle.std.specs.Prelude.{slice_get}
use Rattle.std.specs.List.{list_all, list_any, enumerate_from}
use Rattle.std.proofs.lemmas.Bool.{and_left, and_parts, and_right, both_ways, cond-false, cond-true, ltb-true, not_from_true, or_cases, or_from, or_left, or_right}
use Rattle.std.proofs.lemmas.List.Folds.{list_any-append}
use Rattle.std.proofs.lemmas.Option.{none-some}
use Rattle.cil_base.proofs.Small.{decide}
use Rattle.cil_model.specs.declared.body.Instr.{Instr}
use Rattle.cil_model.specs.declared.body.Region.{Region}
use Rattle.cil_model.specs.declared.body.RegionKind.{RegionKind}
use Rattle.cil_model.specs.declared.body.RegionKind.TheVariants as region
use Rattle.cil_semantics.specs.Unwind.{holds_place, in_try}
use Rattle.il_opcodes.specs.declared.class.Class.{Class}
use Rattle.il_opcodes.specs.Opcodes.{class_of}
use Rattle.il_flow.specs.Successors.{successors}
use Rattle.region_tree.specs.Rules.{breaks_region, crosses, goes_in, goes_out, in_handler, in_region, is_endfinally, is_leave, is_out_of_place, is_ret, is_rethrow, may_end, may_leave, may_rethrow}
use Rattle.region_tree.specs.Trees.{Part, HandlerPart, joined_code, joined_clauses, handlers_code, handlers_clauses, own_clauses}
use Rattle.tree_table_laws.specs.Flow.{Around, Ways, all_keep, entered_among, instr_keeps, is_catch, is_cleanup, way_sizes}
use Rattle.tree_table_laws.proofs.Lists.{Each, each_append, each_left, each_right, each_weaker, none_any}
use Rattle.tree_table_laws.proofs.Edges.{holds, out_weaker, outside_before, outside_behind, right, wrong}
use Rattle.tree_table_laws.proofs.OrderLaws.{AllOrderly, HasCode, IsOwn, Orderly, Within, inside_within, joined_within, own_are, parts_of}
use Rattle.tree_table_laws.proofs.Ranges.{Enters, EntersWell, Misses, Outer, Passed, Uncut, beside, enters_missed, missed, misses_before, misses_behind, outer_less, passed_by_entering, passed_less}

-- ---- lists

pub each_both : {X : Type 0} (P Q : X → Type 0) (xs : List X) → Each P xs → Each Q xs → Each (λ x. P x × Q x) xs
each_both P Q [] a b = tt
each_both P Q (x ∷ xs) a b = ((a.0, b.0), each_both P Q xs a.1 b.1)

pub each_swap : {X : Type 0} (A : ℕ → Type 0) (P : ℕ → X → Type 0) (xs : List X) → ((t : ℕ) → A t → Each (P t) xs) → Each (λ x. (t : ℕ) → A t → P t x) xs
each_swap A P [] f = tt
each_swap A P (x ∷ xs) f = (λ t h. (f t h).0, each_swap A P xs (λ t h. (f t h).1))

pub all_each : {X : Type 0} (p : X → Bool) (xs : List X) → list_all p xs ≡ true → Each (λ x. p x ≡ true) xs
all_each p [] e = tt
all_each p (x ∷ xs) e =
    let two = and_parts (p x) (list_all p xs) e in
    (two.0, all_each p xs two.1)

pub all_at : (p : ℕ × Instr → Bool) (q : ℕ) (is : List Instr) (k : ℕ) (i : Instr) → list_all p (enumerate_from q is) ≡ true → slice_get is k ≡ Some i → p (q + k, i) ≡ true
all_at p q [] k i a e = absurd (none-some i e)
all_at p q (x ∷ is) zero i a e =
    subst (λ (o : Option Instr). Passes o) e (subst (λ (n : ℕ). p (n, x) ≡ true) (omega arith) (and_parts (p (q, x)) (list_all p (enumerate_from (q + 1) is)) a).0)
  where
    Passes : Option Instr → Type 0
    Passes None = Unit {0}
    Passes (Some y) = p (q + 0, y) ≡ true
all_at p q (x ∷ is) (suc k) i a e =
    subst (λ (n : ℕ). p (n, i) ≡ true) (omega arith) (all_at p (q + 1) is k i (and_parts (p (q, x)) (list_all p (enumerate_from (q + 1) is)) a).1 e)

-- an instruction of one of two lists
pub data From (xs ys : List Instr) (k : ℕ) (i : Instr) : Type 0 where
  first : slice_get xs k ≡ Some i → From xs ys k i
  second : (j : ℕ) → k ≡ length xs + j → slice_get ys j ≡ Some i → From xs ys k i

pub one_further : (x : Instr) (xs ys : List Instr) (k : ℕ) (i : Instr) → From xs ys k i → From (x ∷ xs) ys (suc k) i
one_further x xs ys k i (From.first e) = From.first e
one_further x xs ys k i (From.second j h e) = From.second j (omega (arith, h)) e

pub from_one : (xs ys : List Instr) (k : ℕ) (i : Instr) → slice_get (xs ++ ys) k ≡ Some i → From xs ys k i
from_one [] ys k i e = From.second k (omega arith) e
from_one (x ∷ xs) ys zero i e = From.first e
from_one (x ∷ xs) ys (suc k) i e = one_further x xs ys k i (from_one xs ys k i e)

abbrev pub Includes : (xs ys : List Region) → Type 0
Includes xs ys = (p : Region → Bool) → list_any p xs ≡ true → list_any p ys ≡ true

pub left_in : (xs ys : List Region) → Includes xs (xs ++ ys)
left_in xs ys p e = list_any-append p xs ys ∙ or_left (list_any p xs) (list_any p ys) e

pub right_in : (xs ys : List Region) → Includes ys (xs ++ ys)
right_in xs ys p e = list_any-append p xs ys ∙ or_right (list_any p xs) (list_any p ys) e

-- ---- one instruction

-- both rules hold at an instruction
pub record Good (rs : List Region) (k : ℕ) (i : Instr) : Type 0 where
  pub edges : breaks_region rs k i ≡ false
  pub ends : is_out_of_place rs k i ≡ false

abbrev pub SameAny : (xs ys : List Region) → Type 0
SameAny xs ys = (p : Region → Bool) → list_any p xs ≡ list_any p ys

pub good_same : (xs ys : List Region) (k : ℕ) (i : Instr) → SameAny xs ys → Good xs k i → Good ys k i
good_same xs ys k i s g = record { edges = sym (s (wrong k i)) ∙ g.edges; ends = out_weaker xs ys k i (λ p e. sym (s p) ∙ e) g.ends }

pub moved : (o r c : Bool) → ((o || r) || c) ≡ (o || (c || r))
moved true r c = refl
moved false true true = refl
moved false true false = refl
moved false false true = refl
moved false false false = refl

pub last_first : (o r c : List Region) → SameAny ((o ++ r) ++ c) (o ++ (c ++ r))
last_first o r c p =
    list_any-append p (o ++ r) c ∙ ap (λ (b : Bool). b || list_any p c) (list_any-append p o r) ∙ moved (list_any p o) (list_any p r) (list_any p c)
    ∙ sym (list_any-append p o (c ++ r) ∙ ap (λ (b : Bool). list_any p o || b) (list_any-append p c r))

-- which of leave, endfinally and rethrow some regions have in a range
pub record Can (leave finish rethrow : Bool) (rs : List Region) (low high : ℕ) : Type 0 where
  pub leaves : leave ≡ true → (k : ℕ) → low ≤ k → k < high → list_any (λ r. may_leave r k) rs ≡ true
  pub ends : finish ≡ true → (k : ℕ) → low ≤ k → k < high → list_any (λ r. may_end r k) rs ≡ true
  pub rethrows : rethrow ≡ true → (k : ℕ) → low ≤ k → k < high → list_any (λ r. may_rethrow r k) rs ≡ true

pub can_more : (l n w : Bool) (xs ys : List Region) (low high c d : ℕ) → Includes xs ys → low ≤ c → d ≤ high → Can l n w xs low high → Can l n w ys c d
can_more l n w xs ys low high c d f x y can = record {
  leaves = λ e k a b. f (λ r. may_leave r k) (can.leaves e k (omega (arith, x, a)) (omega (arith, y, b)));
  ends = λ e k a b. f (λ r. may_end r k) (can.ends e k (omega (arith, x, a)) (omega (arith, y, b)));
  rethrows = λ e k a b. f (λ r. may_rethrow r k) (can.rethrows e k (omega (arith, x, a)) (omega (arith, y, b)));
}

pub can_or : (l n w l2 n2 w2 : Bool) (rs : List Region) (low high : ℕ) → Can l n w rs low high → Can l2 n2 w2 rs low high → Can (l || l2) (n || n2) (w || w2) rs low high
can_or l n w l2 n2 w2 rs low high x y = record {
  leaves = λ e. either x.leaves y.leaves (or_cases l l2 e);
  ends = λ e. either x.ends y.ends (or_cases n n2 e);
  rethrows = λ e. either x.rethrows y.rethrows (or_cases w w2 e);
}
  where
    either : {A B C : Type 0} → (A → C) → (B → C) → A ⊎ B → C
    either f g (inl a) = f a
    either f g (inr b) = g b

pub implied : (x y : Bool) → (not x || y) ≡ true → x ≡ true → y ≡ true
implied true y e f = e
implied false y e f = absurd (both_ways false refl f)

pub and_not : (x y : Bool) → (x ≡ true → y ≡ true) → (x && not y) ≡ false
and_not true y f = not_from_true y (f refl)
and_not false y f = refl

pub target_right : (a : Around) (r : Region) (low high n t : ℕ) → Outer a low high r → low ≤ n → n < high → (b : Bool) → cond b (a.leaves t) (a.goes t) ≡ true → crosses b r n t ≡ false
target_right a r low high n t o x y true e = o.passed.leaves n t x y (or_right (a.goes t) (a.leaves t) e)
target_right a r low high n t o x y false e = or_from (goes_out r n t) (goes_in r n t) (o.goes n t x y e) (o.passed.leaves n t x y (or_left (a.goes t) (a.leaves t) e))

pub instr_good : (a : Around) (rs : List Region) (low high n : ℕ) (i : Instr) → Each (Outer a low high) rs → Can a.can_leave a.can_end a.can_rethrow rs low high → low ≤ n → n < high → instr_keeps a (n, i) ≡ true → Good rs n i
instr_good a rs low high n i os can x y e =
    let c : Class = class_of i.op in
    let ts : List ℕ = successors n i in
    let target : ℕ → Bool = λ t. cond (is_leave c) (a.leaves t) (a.goes t) in
    let p = and_parts (not (is_ret c) || a.can_return) ((not (is_leave c) || a.can_leave) && ((not (is_endfinally c) || a.can_end) && ((not (is_rethrow c) || a.can_rethrow) && list_all target ts))) e in
    let q = and_parts (not (is_leave c) || a.can_leave) ((not (is_endfinally c) || a.can_end) && ((not (is_rethrow c) || a.can_rethrow) && list_all target ts)) p.1 in
    let u = and_parts (not (is_endfinally c) || a.can_end) ((not (is_rethrow c) || a.can_rethrow) && list_all target ts) q.1 in
    let v = and_parts (not (is_rethrow c) || a.can_rethrow) (list_all target ts) u.1 in
    record {
      edges = none_any (wrong n i) rs (each_weaker (Outer a low high) (λ r. wrong n i r ≡ false) (λ r o. right n i r (no_ret r o p.0) (each_weaker (λ t. target t ≡ true) (λ t. crosses (is_leave c) r n t ≡ false) (λ t f. target_right a r low high n t o x y (is_leave c) f) ts (all_each target ts v.1))) rs os);
      ends =
          or_from (is_leave c && not (list_any (λ r. may_leave r n) rs)) ((is_endfinally c && not (list_any (λ r. may_end r n) rs)) || (is_rethrow c && not (list_any (λ r. may_rethrow r n) rs)))
          (and_not (is_leave c) (list_any (λ r. may_leave r n) rs) (λ f. can.leaves (implied (is_leave c) a.can_leave q.0 f) n x y))
          (or_from (is_endfinally c && not (list_any (λ r. may_end r n) rs)) (is_rethrow c && not (list_any (λ r. may_rethrow r n) rs))
          (and_not (is_endfinally c) (list_any (λ r. may_end r n) rs) (λ f. can.ends (implied (is_endfinally c) a.can_end u.0 f) n x y))
          (and_not (is_rethrow c) (list_any (λ r. may_rethrow r n) rs) (λ f. can.rethrows (implied (is_rethrow c) a.can_rethrow v.0 f) n x y)));
    }
  where
    no_ret : (r : Region) → Outer a low high r → (not (is_ret (class_of i.op)) || a.can_return) ≡ true → (is_ret (class_of i.op) && in_region r n) ≡ false
    no_ret r o f =
        decide (is_ret (class_of i.op))
        (λ g. and_right (is_ret (class_of i.op)) (in_region r n) (o.returns (implied (is_ret (class_of i.op)) a.can_return f g) n x y))
        (λ g. and_left (is_ret (class_of i.op)) (in_region r n) g)

-- ---- parts

-- a part's code keeps to the edges of its own clauses and of others
pub record Sound (w : Ways) (p : Part) : Type 0 where
  pub size : w.size ≡ length p.code
  pub orderly : Orderly p
  pub entered : (q t : ℕ) → Each HasCode (p.clauses q) → w.entered q t ≡ true → (q ≤ t) × Each (Enters t) (p.clauses q)
  pub good : (a : Around) (q : ℕ) (others : List Region) → Each HasCode (p.clauses q) → Each (Outer a q (q + length p.code)) others → Each (EntersWell a) (p.clauses q) → Can a.can_leave a.can_end a.can_rethrow others q (q + length p.code) → w.keeps a q ≡ true → (k : ℕ) (i : Instr) → slice_get p.code k ≡ Some i → Good (others ++ p.clauses q) (q + k) i

pub data AllSound : List Ways → List Part → Type 0 where
  none : AllSound [] []
  more : {ws : List Ways} {ps : List Part} (w : Ways) (p : Part) → Sound w p → AllSound ws ps → AllSound (w ∷ ws) (p ∷ ps)

pub are_orderly : {ws : List Ways} {ps : List Part} → AllSound ws ps → AllOrderly ps
are_orderly none = AllOrderly.none
are_orderly (more w p s all) = AllOrderly.more p s.orderly (are_orderly all)

pub same_sizes : {ws : List Ways} {ps : List Part} → AllSound ws ps → way_sizes ws ≡ length (joined_code ps)
same_sizes none = refl
same_sizes (more {ws} {ps} w p s all) = omega (arith, s.size, same_sizes all, length-append p.code (joined_code ps))

-- where some parts may be entered, by the first of them and the others
pub record Entered (q high t : ℕ) (rs : List Region) : Type 0 where
  pub low : q ≤ t
  pub below : t < high
  pub enters : Each (Enters t) rs

pub joined_entered : {ws : List Ways} {ps : List Part} → AllSound ws ps → (q t : ℕ) → Each HasCode (joined_clauses q ps) → entered_among q t ws ≡ true → Entered q (q + length (joined_code ps)) t (joined_clauses q ps)
joined_entered none q t c e = absurd (both_ways false refl e)
joined_entered (more {ws} {ps} w p s all) q t c e =
    decide (nat_lt t (q + w.size)) here (λ x. there x (joined_entered all (q + length p.code) t (each_right HasCode (p.clauses q) (joined_clauses (q + length p.code) ps) c)))
  where
    here : nat_lt t (q + w.size) ≡ true → Entered q (q + length (joined_code (p ∷ ps))) t (joined_clauses q (p ∷ ps))
    here x =
        let end : ℕ = q + length p.code in
        let rest : List Region = joined_clauses end ps in
        let own = s.entered q t (each_left HasCode (p.clauses q) rest c) (sym (cond-true (nat_lt t (q + w.size)) (w.entered q t) (entered_among (q + w.size) t ws) x) ∙ e) in
        let low : t < end = omega (arith, ltb-true t (q + w.size) x, s.size) in
        record {
          low = own.0;
          below = omega (arith, low, length-append p.code (joined_code ps));
          enters = each_append (Enters t) (p.clauses q) rest own.1 (each_weaker (Within end (end + length (joined_code ps))) (Enters t) (λ r v. enters_missed q end t r (misses_before end (end + length (joined_code ps)) q end r v (omega arith)) own.0 low) rest (joined_within ps (are_orderly all) end (each_right HasCode (p.clauses q) rest c)));
        }

    there : nat_lt t (q + w.size) ≡ false → (entered_among (q + length p.code) t ws ≡ true → Entered (q + length p.code) (q + length p.code + length (joined_code ps)) t (joined_clauses (q + length p.code) ps)) → Entered q (q + length (joined_code (p ∷ ps))) t (joined_clauses q (p ∷ ps))
    there x f =
        let end : ℕ = q + length p.code in
        let rest : List Region = joined_clauses end ps in
        let in_rest = f (subst (λ (n : ℕ). entered_among (q + n) t ws ≡ true) s.size (sym (cond-false (nat_lt t (q + w.size)) (w.entered q t) (entered_among (q + w.size) t ws) x) ∙ e)) in
        record {
          low = omega (arith, in_rest.low);
          below = omega (arith, in_rest.below, length-append p.code (joined_code ps));
          enters = each_append (Enters t) (p.clauses q) rest (each_weaker (Within q end) (Enters t) (λ r v. enters_missed end (end + length (joined_code ps)) t r (misses_behind q end end (end + length (joined_code ps)) r v (omega arith)) in_rest.low in_rest.below) (p.clauses q) (s.orderly.within q (each_left HasCode (p.clauses q) rest c))) in_rest.enters;
        }

-- the regions beside a part are entered well
pub besides : (a : Around) (low high : ℕ) (rs : List Region) → Each (Misses low high) rs → Each (EntersWell a) rs → Each (Outer a low high) rs
besides a low high rs m w = each_weaker (λ r. Misses low high r × EntersWell a r) (Outer a low high) (λ r b. beside a low high r b.0 b.1) rs (each_both (Misses low high) (EntersWell a) rs m w)

pub joined_good : {ws : List Ways} {ps : List Part} → AllSound ws ps → (a : Around) (q : ℕ) (others : List Region) → Each HasCode (joined_clauses q ps) → Each (Outer a q (q + length (joined_code ps))) others → Each (EntersWell a) (joined_clauses q ps) → Can a.can_leave a.can_end a.can_rethrow others q (q + length (joined_code ps)) → all_keep a q ws ≡ true → (k : ℕ) (i : Instr) → slice_get (joined_code ps) k ≡ Some i → Good (others ++ joined_clauses q ps) (q + k) i
joined_good none a q others c o w can e k i g = absurd (none-some i g)
joined_good (more {ws} {ps} v p s all) a q others c o w can e k i g =
    go (from_one p.code (joined_code ps) k i g) (λ keep j x. joined_good all a end (others ++ p.clauses q) (each_right HasCode (p.clauses q) rest c) (each_append (Outer a end last2) others (p.clauses q)
    (each_weaker (Outer a q last) (Outer a end last2) (outer_less a q last end last2 (omega arith) (omega (arith, long))) others o)
    (besides a end last2 (p.clauses q) (each_weaker (Within q end) (Misses end last2) (λ r n. misses_behind q end end last2 r n (omega arith)) (p.clauses q) (s.orderly.within q own)) (each_left (EntersWell a) (p.clauses q) rest w)))
    (each_right (EntersWell a) (p.clauses q) rest w)
    (can_more a.can_leave a.can_end a.can_rethrow others (others ++ p.clauses q) q last end last2 (left_in others (p.clauses q)) (omega arith) (omega (arith, long)) can) keep j i x)
  where
    end : ℕ
    end = q + length p.code

    rest : List Region
    rest = joined_clauses end ps

    last : ℕ
    last = q + length (joined_code (p ∷ ps))

    last2 : ℕ
    last2 = end + length (joined_code ps)

    long : length (joined_code (p ∷ ps)) ≡ length p.code + length (joined_code ps)
    long = length-append p.code (joined_code ps)

    own : Each HasCode (p.clauses q)
    own = each_left HasCode (p.clauses q) rest c

    later : Each (Misses q end) rest
    later = each_weaker (Within end last2) (Misses q end) (λ r n. misses_before end last2 q end r n (omega arith)) rest (joined_within ps (are_orderly all) end (each_right HasCode (p.clauses q) rest c))

    go : From p.code (joined_code ps) k i → (all_keep a end ws ≡ true → (j : ℕ) → slice_get (joined_code ps) j ≡ Some i → Good ((others ++ p.clauses q) ++ rest) (end + j) i) → Good (others ++ (p.clauses q ++ rest)) (q + k) i
    go (From.first x) f =
        good_same ((others ++ rest) ++ p.clauses q) (others ++ (p.clauses q ++ rest)) (q + k) i (last_first others rest (p.clauses q))
        (s.good a q (others ++ rest) own (each_append (Outer a q end) others rest (each_weaker (Outer a q last) (Outer a q end) (outer_less a q last q end (omega arith) (omega (arith, long))) others o) (besides a q end rest later (each_right (EntersWell a) (p.clauses q) rest w)))
        (each_left (EntersWell a) (p.clauses q) rest w)
        (can_more a.can_leave a.can_end a.can_rethrow others (others ++ rest) q last q end (left_in others rest) (omega arith) (omega (arith, long)) can)
        (and_parts (v.keeps a q) (all_keep a (q + v.size) ws) e).0 k i x)
    go (From.second j h x) f =
        let at : end + j ≡ q + k = omega (arith, h) in
        subst (λ (n : ℕ). Good (others ++ (p.clauses q ++ rest)) n i) at
        (subst (λ (l : List Region). Good l (end + j) i) (append_assoc others (p.clauses q) rest)
        (f (subst (λ (n : ℕ). all_keep a (q + n) ws ≡ true) s.size (and_parts (v.keeps a q) (all_keep a (q + v.size) ws) e).1) j x))

-- ---- handlers

-- which of leave, endfinally and rethrow a handler's code has by its own clause or by others
abbrev pub CanIn : RegionKind → Around → List Region → (low high : ℕ) → Type 0
CanIn kind a rs low high = Can (is_catch kind || a.can_leave) (is_cleanup kind || a.can_end) (is_catch kind || a.can_rethrow) rs low high

pub record HandlerSound (w : Ways) (h : HandlerPart) : Type 0 where
  pub size : w.size ≡ length h.part.code
  pub orderly : Orderly h.part
  pub good : (a : Around) (q : ℕ) (others : List Region) → Each HasCode (h.part.clauses q) → Each (Passed a q (q + length h.part.code)) others → Each (EntersWell a) (h.part.clauses q) → CanIn h.kind a others q (q + length h.part.code) → w.keeps a q ≡ true → (k : ℕ) (i : Instr) → slice_get h.part.code k ≡ Some i → Good (others ++ h.part.clauses q) (q + k) i

pub data HandlersSound : List Ways → List HandlerPart → Type 0 where
  none : HandlersSound [] []
  more : {ws : List Ways} {hs : List HandlerPart} (w : Ways) (h : HandlerPart) → HandlerSound w h → HandlersSound ws hs → HandlersSound (w ∷ ws) (h ∷ hs)

pub handlers_orderly : {ws : List Ways} {hs : List HandlerPart} → HandlersSound ws hs → AllOrderly (parts_of hs)
handlers_orderly none = AllOrderly.none
handlers_orderly (more w h s all) = AllOrderly.more h.part s.orderly (handlers_orderly all)

pub handler_sizes : {ws : List Ways} {hs : List HandlerPart} → HandlersSound ws hs → way_sizes ws ≡ length (handlers_code hs)
handler_sizes none = refl
handler_sizes (more {ws} {hs} w h s all) = omega (arith, s.size, handler_sizes all, length-append h.part.code (handlers_code hs))

-- a region has no edge within any of the handlers
abbrev pub PassedEach : Around → ℕ → List HandlerPart → Region → Type 0
PassedEach a at [] r = Unit {0}
PassedEach a at (h ∷ hs) r = Passed a at (at + length h.part.code) r × PassedEach a (at + length h.part.code) hs r

pub passed_each : (a : Around) (at high : ℕ) (hs : List HandlerPart) → at + length (handlers_code hs) ≤ high → (r : Region) → Passed a at high r → PassedEach a at hs r
passed_each a at high [] x r p = tt
passed_each a at high (h ∷ hs) x r p =
    let end : ℕ = at + length h.part.code in
    let long = length-append h.part.code (handlers_code hs) in
    (passed_less a at high at end (omega arith) (omega (arith, x, long)) r p, passed_each a end high hs (omega (arith, x, long)) r (passed_less a at high end high (omega arith) (omega arith) r p))

abbrev pub CanEach : List Region → ℕ → List HandlerPart → Type 0
CanEach rs at [] = Unit {0}
CanEach rs at (h ∷ hs) = Can (is_catch h.kind) (is_cleanup h.kind) (is_catch h.kind) rs at (at + length h.part.code) × CanEach rs (at + length h.part.code) hs

pub can_each_more : (xs ys : List Region) (at : ℕ) (hs : List HandlerPart) → Includes xs ys → CanEach xs at hs → CanEach ys at hs
can_each_more xs ys at [] f c = tt
can_each_more xs ys at (h ∷ hs) f c =
    (can_more (is_catch h.kind) (is_cleanup h.kind) (is_catch h.kind) xs ys at (at + length h.part.code) at (at + length h.part.code) f (omega arith) (omega arith) c.0, can_each_more xs ys (at + length h.part.code) hs f c.1)

pub handlers_good : {ws : List Ways} {hs : List HandlerPart} → HandlersSound ws hs → (a : Around) (at : ℕ) (others : List Region) → Each HasCode (handlers_clauses at hs) → Each (PassedEach a at hs) others → Each (EntersWell a) (handlers_clauses at hs) → CanEach others at hs → Can a.can_leave a.can_end a.can_rethrow others at (at + length (handlers_code hs)) → all_keep a at ws ≡ true → (k : ℕ) (i : Instr) → slice_get (handlers_code hs) k ≡ Some i → Good (others ++ handlers_clauses at hs) (at + k) i
handlers_good none a at others c o w each can e k i g = absurd (none-some i g)
handlers_good (more {ws} {hs} v h s all) a at others c o w each can e k i g =
    go (from_one h.part.code (handlers_code hs) k i g) (λ keep j x. handlers_good all a end (others ++ own) (each_right HasCode own rest c)
    (each_append (PassedEach a end hs) others own (each_weaker (PassedEach a at (h ∷ hs)) (PassedEach a end hs) (λ r p. p.1) others o)
    (each_weaker (λ r. Within at end r × EntersWell a r) (PassedEach a end hs) (λ r b. passed_each a end last2 hs (omega arith) r (passed_by_entering a end last2 r (missed end last2 r (misses_behind at end end last2 r b.0 (omega arith))) b.1)) own (each_both (Within at end) (EntersWell a) own (s.orderly.within at had) (each_left (EntersWell a) own rest w))))
    (each_right (EntersWell a) own rest w) (can_each_more others (others ++ own) end hs (left_in others own) each.1)
    (can_more a.can_leave a.can_end a.can_rethrow others (others ++ own) at last end last2 (left_in others own) (omega arith) (omega (arith, long)) can) keep j i x)
  where
    end : ℕ
    end = at + length h.part.code

    own : List Region
    own = h.part.clauses at

    rest : List Region
    rest = handlers_clauses end hs

    last : ℕ
    last = at + length (handlers_code (h ∷ hs))

    last2 : ℕ
    last2 = end + length (handlers_code hs)

    long : length (handlers_code (h ∷ hs)) ≡ length h.part.code + length (handlers_code hs)
    long = length-append h.part.code (handlers_code hs)

    had : Each HasCode own
    had = each_left HasCode own rest c

    later : Each (Passed a at end) rest
    later = each_weaker (λ r. Within end last2 r × EntersWell a r) (Passed a at end) (λ r b. passed_by_entering a at end r (missed at end r (misses_before end last2 at end r b.0 (omega arith))) b.1) rest (each_both (Within end last2) (EntersWell a) rest (inside_within hs (handlers_orderly all) end (each_right HasCode own rest c)) (each_right (EntersWell a) own rest w))

    both_can : CanIn h.kind a (others ++ rest) at end
    both_can =
        can_or (is_catch h.kind) (is_cleanup h.kind) (is_catch h.kind) a.can_leave a.can_end a.can_rethrow (others ++ rest) at end
        (can_more (is_catch h.kind) (is_cleanup h.kind) (is_catch h.kind) others (others ++ rest) at end at end (left_in others rest) (omega arith) (omega arith) each.0)
        (can_more a.can_leave a.can_end a.can_rethrow others (others ++ rest) at last at end (left_in others rest) (omega arith) (omega (arith, long)) can)

    go : From h.part.code (handlers_code hs) k i → (all_keep a end ws ≡ true → (j : ℕ) → slice_get (handlers_code hs) j ≡ Some i → Good ((others ++ own) ++ rest) (end + j) i) → Good (others ++ (own ++ rest)) (at + k) i
    go (From.first x) f =
        good_same ((others ++ rest) ++ own) (others ++ (own ++ rest)) (at + k) i (last_first others rest own)
        (s.good a at (others ++ rest) had (each_append (Passed a at end) others rest (each_weaker (PassedEach a at (h ∷ hs)) (Passed a at end) (λ r p. p.0) others o) later) (each_left (EntersWell a) own rest w) both_can (and_parts (v.keeps a at) (all_keep a (at + v.size) ws) e).0 k i x)
    go (From.second j m x) f =
        let here : end + j ≡ at + k = omega (arith, m) in
        subst (λ (n : ℕ). Good (others ++ (own ++ rest)) n i) here
        (subst (λ (l : List Region). Good l (end + j) i) (append_assoc others own rest)
        (f (subst (λ (n : ℕ). all_keep a (at + n) ws ≡ true) s.size (and_parts (v.keeps a at) (all_keep a (at + v.size) ws) e).1) j x))

-- ---- a try's own clauses

abbrev pub own_row : (from to at end : ℕ) → RegionKind → Region
own_row from to at end kind = record { kind = kind; try_from = from; try_to = to; handler_from = at; handler_to = end }

pub catch_leaves : (kind : RegionKind) (from to at end k : ℕ) → is_catch kind ≡ true → in_handler (own_row from to at end kind) k ≡ true → may_leave (own_row from to at end kind) k ≡ true
catch_leaves (region.Catch token) from to at end k e x = or_right (holds_place from to k) (holds_place at end k) x
catch_leaves (region.Filter place) from to at end k e x = absurd (both_ways false refl e)
catch_leaves region.Finally from to at end k e x = absurd (both_ways false refl e)
catch_leaves region.Fault from to at end k e x = absurd (both_ways false refl e)

pub catch_rethrows : (kind : RegionKind) (from to at end k : ℕ) → is_catch kind ≡ true → in_handler (own_row from to at end kind) k ≡ true → may_rethrow (own_row from to at end kind) k ≡ true
catch_rethrows (region.Catch token) from to at end k e x = x
catch_rethrows (region.Filter place) from to at end k e x = absurd (both_ways false refl e)
catch_rethrows region.Finally from to at end k e x = absurd (both_ways false refl e)
catch_rethrows region.Fault from to at end k e x = absurd (both_ways false refl e)

pub cleanup_ends : (kind : RegionKind) (from to at end k : ℕ) → is_cleanup kind ≡ true → in_handler (own_row from to at end kind) k ≡ true → may_end (own_row from to at end kind) k ≡ true
cleanup_ends (region.Catch token) from to at end k e x = absurd (both_ways false refl e)
cleanup_ends (region.Filter place) from to at end k e x = absurd (both_ways false refl e)
cleanup_ends region.Finally from to at end k e x = x
cleanup_ends region.Fault from to at end k e x = x

pub own_can : (from to at : ℕ) (hs : List HandlerPart) → CanEach (own_clauses from to at hs) at hs
own_can from to at [] = tt
own_can from to at (h ∷ hs) =
    let end : ℕ = at + length h.part.code in
    let r : Region = own_row from to at end h.kind in
    let rest : List Region = own_clauses from to end hs in (
      record {
        leaves = λ e k x y. or_left (may_leave r k) (list_any (λ s. may_leave s k) rest) (catch_leaves h.kind from to at end k e (holds at end k x y));
        ends = λ e k x y. or_left (may_end r k) (list_any (λ s. may_end s k) rest) (cleanup_ends h.kind from to at end k e (holds at end k x y));
        rethrows = λ e k x y. or_left (may_rethrow r k) (list_any (λ s. may_rethrow s k) rest) (catch_rethrows h.kind from to at end k e (holds at end k x y));
      },
      can_each_more rest (r ∷ rest) end hs (λ p e. or_right (p r) (list_any p rest) e) (own_can from to end hs),
    )

-- an own clause has no edge within a handler
pub own_passed : (a : Around) (from to at : ℕ) (hs : List HandlerPart) → to ≤ at → Each HasCode (own_clauses from to at hs) → Each (EntersWell a) (own_clauses from to at hs) → Each (PassedEach a at hs) (own_clauses from to at hs)
own_passed a from to at [] x c w = tt
own_passed a from to at (h ∷ hs) x c w =
    let end : ℕ = at + length h.part.code in
    let last : ℕ = end + length (handlers_code hs) in
    let r : Region = own_row from to at end h.kind in
    let rest : List Region = own_clauses from to end hs in
    let around : Uncut at end r = record { of_try = false; of_handler = true; tries = λ k l m. outside_behind from to k (omega (arith, x, l)); handlers = λ k l m. holds at end k l m } in
    let mine : Uncut end last r = record { of_try = false; of_handler = false; tries = λ k l m. outside_behind from to k (omega (arith, x, l)); handlers = λ k l m. outside_behind at end k l } in (
      (passed_by_entering a at end r around w.0, passed_each a end last hs (omega arith) r (passed_by_entering a end last r mine w.0)),
      each_weaker (λ s. (IsOwn from to end s × EntersWell a s) × PassedEach a end hs s) (PassedEach a at (h ∷ hs)) (λ s b. (passed_by_entering a at end s (record { of_try = false; of_handler = false; tries = λ k l m. outside_behind s.try_from s.try_to k (omega (arith, x, l, b.0.0.to_is)); handlers = λ k l m. outside_before s.handler_from s.handler_to k (omega (arith, m, b.0.0.starts)) }) b.0.1, b.1)) rest
          (each_both (λ s. IsOwn from to end s × EntersWell a s) (PassedEach a end hs) rest (each_both (IsOwn from to end) (EntersWell a) rest (own_are from to end hs (omega (arith, x)) c.1) w.1) (own_passed a from to end hs (omega (arith, x)) c.1 w.1)),
    )

-- where a try has a handler, its code may leave
pub try_can : (from to : ℕ) (h : HandlerPart) (hs : List HandlerPart) → Can true false false (own_clauses from to to (h ∷ hs)) from to
try_can from to h hs =
    let end : ℕ = to + length h.part.code in
    let r : Region = own_row from to to end h.kind in
    record {
      leaves = λ e k x y. or_left (may_leave r k) (list_any (λ z. may_leave z k) (own_clauses from to end hs)) (or_left (in_try r k) _ (holds from to k x y));
      ends = λ e. absurd (both_ways false refl e);
      rethrows = λ e. absurd (both_ways false refl e);
    }
