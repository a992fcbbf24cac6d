-- The body with the check does what the body with the call does.
use Rattle.std.proofs.Common.{◌≡◌, ℕ, zero, suc, ◌+◌, ◌-◌, ◌<◌, ◌≤◌, Bool, true, false, not, ◌&&◌, nat_eq, ℤ, pos, List, [], ◌∷◌, ◌++◌, length, map, take, drop, Option, Some, None, refl, sym, ap, ◌∙◌, subst, arith, append_assoc, length-append}
use Rattle.std.specs.Prelude.{slice_get, get_or}
use Rattle.std.specs.Option.{option_map}
use Rattle.std.specs.Ordering.{int_eq}
use Rattle.std.proofs.lemmas.List.{append-nil, map-append}
use Rattle.std.proofs.lemmas.Option.{slice_get-get_or, slice_get_past}
use Rattle.std.proofs.Math.Seq.{get_or-append_seam, take-append_seam, drop-append_seam}
use Rattle.cil_base.specs.declared.rule.Rule.TheVariants.{C1, C2}
use Rattle.cil_base.specs.declared.token.Token.{Token}
use Rattle.cil_base.specs.declared.rule.Rule.{Rule}
use Rattle.cil_model.specs.declared.body.Operand.{Operand}
use Rattle.cil_model.specs.declared.body.Operand.TheVariants.{Nothing, Int, Index, Target, Targets, Tok}
use Rattle.cil_model.specs.declared.body.Instr.{Instr}
use Rattle.cil_model.specs.declared.body.Body.{Body}
use Rattle.cil_model.specs.SmallMeaning.{End, Returned, Failed, Stuck, Act, Leaves, Ends, State, At, Over, act, pop_one, required, called_row, to_state, is_branch, is_requires, step, jumped, after, Runs, SameBody}
use Rattle.cil_model.specs.BodyCode.{instr}
use Rattle.cil_model.specs.SmallBody.{is_plain, has_target, AllPlain}
use Rattle.cil_model.specs.ValidBody.{AllValid}
use Rattle.cil_base.proofs.Small.{decide, and_both, not_true, equal}
use Rattle.il_body.specs.BodyEncoding.{weight, without_arguments}
use Rattle.il_body.proofs.SpliceLaws.{spliced_valid, valid_nop, valid_zero, valid_call, valid_brtrue, weight_append, plain_weight, plain_kept}
use Rattle.body_splice.specs.Splice.{failure_token, guard, filler, check, spliced, first_call, rewritten, rewritten_at, call_fault, fault_at, second_fault, is_one, height}

straight : (i : Instr) → is_plain i ≡ true → is_branch i ≡ false
straight i h = let x = and_both (not (has_target i.operand)) _ h in not_true (is_branch i) (and_both (not (is_branch i)) _ x.1).0

-- ---- one step

go_on : (code : List Instr) (args : List ℤ) (n p : ℕ) (st st' : List ℤ) (e : End) (i : Instr) → slice_get code p ≡ Some i → is_branch i ≡ false → act i args st ≡ Leaves st' → Runs code args n (p + 1) st' e → Runs code args (suc n) p st e
go_on code args n p st st' e i h b a r = rw (h, b, a) r

stop : (code : List Instr) (args : List ℤ) (p : ℕ) (st : List ℤ) (e : End) (i : Instr) → slice_get code p ≡ Some i → is_branch i ≡ false → act i args st ≡ Ends e → Runs code args 1 p st e
stop code args p st e i h b a = rw (h, b, a) (refl, refl)

past : (code : List Instr) (args : List ℤ) (p : ℕ) (st : List ℤ) → slice_get code p ≡ None → Runs code args 1 p st Stuck
past code args p st h = rw h (refl, refl)

-- from these two places the runs end alike
abbrev Alike : List Instr → List Instr → List ℤ → ℕ → ℕ → Type 0
Alike c1 c2 args p1 p2 = (st : List ℤ) → (n m : ℕ) × (e : End) × Runs c1 args n p1 st e × Runs c2 args m p2 st e × (n ≤ m) × (m ≤ n + 2)

-- the same instruction at both
one_more : (c1 c2 : List Instr) (args : List ℤ) (p1 p2 : ℕ) (i : Instr) → slice_get c1 p1 ≡ Some i → slice_get c2 p2 ≡ Some i → is_branch i ≡ false → Alike c1 c2 args (p1 + 1) (p2 + 1) → Alike c1 c2 args p1 p2
one_more c1 c2 args p1 p2 i h1 h2 b next st = by_act (act i args st) refl
  where
    by_act : (x : Act) → act i args st ≡ x → (n m : ℕ) × (e : End) × Runs c1 args n p1 st e × Runs c2 args m p2 st e × (n ≤ m) × (m ≤ n + 2)
    by_act (Leaves st') a =
        let x = next st' in
        (suc x.0, suc x.1, x.2, go_on c1 args x.0 p1 st st' x.2 i h1 b a x.3, go_on c2 args x.1 p2 st st' x.2 i h2 b a x.4, omega (arith, x.5), omega (arith, x.6))
    by_act (Ends e) a = (1, 1, e, stop c1 args p1 st e i h1 b a, stop c2 args p2 st e i h2 b a, omega arith, omega arith)

-- the instructions stand in the code from this place on, and nothing behind them
abbrev pub StandsLast : List Instr → ℕ → List Instr → Type 0
StandsLast code p [] = slice_get code p ≡ None
StandsLast code p (i ∷ is) = (slice_get code p ≡ Some i) × StandsLast code (p + 1) is

-- the instructions stand in the code from this place on
abbrev pub Stands : List Instr → ℕ → List Instr → Type 0
Stands code p [] = Unit {0}
Stands code p (i ∷ is) = (slice_get code p ≡ Some i) × Stands code (p + 1) is

last_alike : (c1 c2 : List Instr) (args : List ℤ) (a p1 p2 : ℕ) (is : List Instr) → AllPlain is → StandsLast c1 p1 is → StandsLast c2 p2 is → Alike c1 c2 args p1 p2
last_alike c1 c2 args a p1 p2 [] plain h1 h2 = λ st. (1, 1, Stuck, past c1 args p1 st h1, past c2 args p2 st h2, omega arith, omega arith)
last_alike c1 c2 args a p1 p2 (i ∷ is) plain h1 h2 =
    one_more c1 c2 args p1 p2 i h1.0 h2.0 (straight i plain.0) (last_alike c1 c2 args a (p1 + 1) (p2 + 1) is plain.1 h1.1 h2.1)

front_alike : (c1 c2 : List Instr) (args : List ℤ) (a p : ℕ) (is : List Instr) → AllPlain is → Stands c1 p is → Stands c2 p is → Alike c1 c2 args (p + length is) (p + length is) → Alike c1 c2 args p p
front_alike c1 c2 args a p [] plain h1 h2 next = let e : p + 0 ≡ p = omega arith in subst (λ q. Alike c1 c2 args q q) e next
front_alike c1 c2 args a p (i ∷ is) plain h1 h2 next =
    let e : p + length (i ∷ is) ≡ p + 1 + length is = omega arith in
    one_more c1 c2 args p p i h1.0 h2.0 (straight i plain.0) (front_alike c1 c2 args a (p + 1) is plain.1 h1.1 h2.1 (subst (λ q. Alike c1 c2 args q q) e next))

-- a call of Requires takes a value
act_requires : (i : Instr) (args st : List ℤ) → is_requires i ≡ true → act i args st ≡ pop_one required st
act_requires i args st h = let x = and_both (nat_eq i.op 0x28) _ h in rw (equal i.op 0x28 x.0, x.1) refl

requires_no_branch : (i : Instr) → is_requires i ≡ true → is_branch i ≡ false
requires_no_branch i h = let x = and_both (nat_eq i.op 0x28) _ h in rw (equal i.op 0x28 x.0) refl

-- the call at p and the check from p on
check_alike : (c1 c2 : List Instr) (args : List ℤ) (a p : ℕ) (i : Instr) → is_requires i ≡ true → slice_get c1 p ≡ Some i → Stands c2 p (guard a (p + 3)) → Alike c1 c2 args (p + 1) (p + 3) → Alike c1 c2 args p p
check_alike c1 c2 args a p i call h1 h2 next [] =
    (1, 1, Stuck, stop c1 args p [] Stuck i h1 (requires_no_branch i call) (act_requires i args [] call), rw h2.0 (refl, refl), omega arith, omega arith)
check_alike c1 c2 args a p i call h1 h2 next (x ∷ st) = decide (int_eq x (pos 0))
    (λ t. (1, 3, Failed (pos 0), stop c1 args p (x ∷ st) (Failed (pos 0)) i h1 (requires_no_branch i call) (act_requires i args (x ∷ st) call ∙ rw t refl), rw (h2.0, t) (rw (h2.1.0, h2.1.1.0) (refl, refl)), omega arith, omega arith))
    (λ f. let y = next st in
    (suc y.0, suc y.1, y.2, go_on c1 args y.0 p (x ∷ st) st y.2 i h1 (requires_no_branch i call) (act_requires i args (x ∷ st) call ∙ rw f refl) y.3, rw (h2.0, f) y.4, omega (arith, y.5), omega (arith, y.6)))

-- ---- where things stand

pub at_seam : (pre : List Instr) (i : Instr) (post : List Instr) → slice_get (pre ++ i ∷ post) (length pre) ≡ Some i
at_seam pre i post =
    let within : length pre < length (pre ++ i ∷ post) = omega (arith, length-append pre (i ∷ post)) in
    slice_get-get_or (pre ++ i ∷ post) (length pre) i within ∙ ap Some (get_or-append_seam pre i post i)

stands_from : (pre is post code : List Instr) (p : ℕ) → code ≡ pre ++ (is ++ post) → p ≡ length pre → Stands code p is
stands_from pre [] post code p c e = tt
stands_from pre (i ∷ is) post code p c e =
    let here : slice_get (pre ++ (i ∷ (is ++ post))) (length pre) ≡ Some i = at_seam pre i (is ++ post) in
    (rw (c, e) here, stands_from (pre ++ i ∷ []) is post code (p + 1) (c ∙ sym (append_assoc pre (i ∷ []) (is ++ post))) (omega (arith, length-append pre (i ∷ []))))

stands_last_from : (pre is code : List Instr) (p : ℕ) → code ≡ pre ++ is → p ≡ length pre → StandsLast code p is
stands_last_from pre [] code p c e =
    let nil : List Instr = [] in let l : length code ≤ p = rw (c, e) (omega (arith, length-append pre nil)) in slice_get_past code p l
stands_last_from pre (i ∷ is) code p c e =
    (rw (c, e) (at_seam pre i is), stands_last_from (pre ++ i ∷ []) is code (p + 1) (c ∙ sym (append_assoc pre (i ∷ []) is)) (omega (arith, length-append pre (i ∷ []))))

plain_front : (xs ys : List Instr) → AllPlain (xs ++ ys) → AllPlain xs
plain_front [] ys h = tt
plain_front (x ∷ xs) ys h = (h.0, plain_front xs ys h.1)

plain_back : (xs ys : List Instr) → AllPlain (xs ++ ys) → AllPlain ys
plain_back [] ys h = h
plain_back (x ∷ xs) ys h = plain_back xs ys h.1

-- a check begins with the guard
guard_stands : (code : List Instr) (p a place : ℕ) (rest : List Instr) → Stands code p (check a place rest) → Stands code p (guard a place)
guard_stands code p a place [] h = (h.0, (h.1.0, (h.1.1.0, tt)))
guard_stands code p a place (i ∷ is) h = (h.0, (h.1.0, (h.1.1.0, tt)))

-- what follows the call, and what follows the check
tail_alike : (args : List ℤ) (a place : ℕ) (pre post c1 c2 : List Instr) → AllPlain post → StandsLast c1 (length pre + 1) post → c2 ≡ (pre ++ check a place post) ++ post → Alike c1 c2 args (length pre + 1) (length pre + 3)
tail_alike args a place pre [] c1 c2 plain h1 e = λ st. (1, 2, Stuck, past c1 args (length pre + 1) st h1, go_on c2 args 1 (length pre + 3) st st Stuck nop here refl refl (past c2 args (length pre + 3 + 1) st end), omega arith, omega arith)
  where
    nop : Instr
    nop = instr 0x00 Nothing

    none : List Instr
    none = []

    long : length (pre ++ guard a place) ≡ length pre + 3
    long = omega (arith, length-append pre (guard a place))

    code : c2 ≡ (pre ++ guard a place) ++ nop ∷ none
    code = e ∙ append-nil (pre ++ check a place none) ∙ sym (append_assoc pre (guard a place) (nop ∷ none))

    here : slice_get c2 (length pre + 3) ≡ Some nop
    here = ap (λ l. slice_get l (length pre + 3)) code ∙ ap (λ n. slice_get ((pre ++ guard a place) ++ nop ∷ none) n) (sym long) ∙ at_seam (pre ++ guard a place) nop none

    end : slice_get c2 (length pre + 3 + 1) ≡ None
    end = let l : length c2 ≤ length pre + 3 + 1 = rw code (omega (arith, length-append (pre ++ guard a place) (nop ∷ none), long)) in slice_get_past c2 (length pre + 3 + 1) l
tail_alike args a place pre (x ∷ xs) c1 c2 plain h1 e =
    last_alike c1 c2 args a (length pre + 1) (length pre + 3) (x ∷ xs) plain h1
    (stands_last_from (pre ++ check a place (x ∷ xs)) (x ∷ xs) c2 (length pre + 3) e (omega (arith, length-append pre (check a place (x ∷ xs)))))

-- a body whose one call stands between these instructions
around : (args : List ℤ) (a : ℕ) (pre post : List Instr) (i : Instr) → is_requires i ≡ true → AllPlain (pre ++ i ∷ post) → Alike (pre ++ i ∷ post) ((pre ++ check a (length pre + 3) post) ++ post) args 0 0
around args a pre post i call plain =
    let c1 = pre ++ i ∷ post in
    let g = check a (length pre + 3) post in
    let c2 = (pre ++ g) ++ post in
    let e2 : c2 ≡ pre ++ (g ++ post) = append_assoc pre g post in
    let k : 0 + length pre ≡ length pre = omega arith in
    let tail = tail_alike args a (length pre + 3) pre post c1 c2 (plain_back pre (i ∷ post) plain).1
    (stands_last_from (pre ++ i ∷ []) post c1 (length pre + 1) (sym (append_assoc pre (i ∷ []) post)) (omega (arith, length-append pre (i ∷ [])))) refl in
    let middle = check_alike c1 c2 args a (length pre) i call (at_seam pre i post) (guard_stands c2 (length pre) a (length pre + 3) post (stands_from pre g post c2 (length pre) e2 refl)) tail in
    front_alike c1 c2 args a 0 pre (plain_front pre (i ∷ post) plain)
    (stands_from [] pre (i ∷ post) c1 0 refl refl) (stands_from [] pre (g ++ post) c2 0 e2 refl)
    (subst (λ q. Alike c1 c2 args q q) (sym k) middle)

-- ---- the calls

-- what stands around the first call
pub record Split (is : List Instr) (k : ℕ) : Type 0 where
  pub pre : List Instr
  pub i : Instr
  pub post : List Instr
  pub is_is : is ≡ pre ++ i ∷ post
  pub call : is_requires i ≡ true
  pub place : k ≡ length pre
  pub none : first_call pre ≡ None

none_more : (i : Instr) (is : List Instr) → is_requires i ≡ false → first_call is ≡ None → first_call (i ∷ is) ≡ None
none_more i is h e = rw (h, e) refl

from_suc : (o : Option ℕ) (k : ℕ) → option_map (λ j. j + 1) o ≡ Some k → (j : ℕ) × (o ≡ Some j) × (k ≡ j + 1)
from_suc None k h = cc
from_suc (Some j) k h = (j, refl, cc)

pub split_of : (is : List Instr) (k : ℕ) → first_call is ≡ Some k → Split is k
split_of [] k h = cc
split_of (i ∷ is) k h = decide (is_requires i)
    (λ t. let e : Some 0 ≡ Some k = rw t at h in record { pre = []; i = i; post = is; is_is = refl; call = t; place = cc; none = refl })
    (λ f. let e : option_map (λ j. j + 1) (first_call is) ≡ Some k = rw f at h in
    let x = from_suc (first_call is) k e in
    let s = split_of is x.0 x.1 in
    record { pre = i ∷ s.pre; i = s.i; post = s.post; is_is = ap (λ l. i ∷ l) s.is_is; call = s.call; place = omega (arith, x.2, s.place); none = none_more i s.pre f s.none })

from_none : (o : Option ℕ) → option_map (λ j. j + 1) o ≡ None → o ≡ None
from_none None h = refl
from_none (Some j) h = cc

none_append : (xs ys : List Instr) → first_call xs ≡ None → first_call ys ≡ None → first_call (xs ++ ys) ≡ None
none_append [] ys h k = k
none_append (x ∷ xs) ys h k = decide (is_requires x)
    (λ t. let e : Some 0 ≡ None = rw t at h in cc)
    (λ f. let e : option_map (λ j. j + 1) (first_call xs) ≡ None = rw f at h in none_more x (xs ++ ys) f (none_append xs ys (from_none (first_call xs) e) k))

pub none_at : (xs : List Instr) (k : ℕ) (i : Instr) → first_call xs ≡ None → slice_get xs k ≡ Some i → is_requires i ≡ false
none_at [] k i h g = cc
none_at (x ∷ xs) zero i h g = decide (is_requires x)
    (λ t. let e : Some 0 ≡ None = rw t at h in cc)
    (λ f. let e : x ≡ i = cc in ap is_requires (sym e) ∙ f)
none_at (x ∷ xs) (suc k) i h g = decide (is_requires x)
    (λ t. let e : Some 0 ≡ None = rw t at h in cc)
    (λ f. let e : option_map (λ j. j + 1) (first_call xs) ≡ None = rw f at h in none_at xs k i (from_none (first_call xs) e) g)

take_split : (is pre : List Instr) (i : Instr) (post : List Instr) (k : ℕ) → is ≡ pre ++ i ∷ post → k ≡ length pre → take k is ≡ pre
take_split is pre i post k e p = rw (e, p) (take-append_seam pre (i ∷ post))

drop_split : (is pre : List Instr) (i : Instr) (post : List Instr) (k : ℕ) → is ≡ pre ++ i ∷ post → k ≡ length pre → drop (k + 1) is ≡ post
drop_split is pre i post k e p =
    let n : k + 1 ≡ length (pre ++ i ∷ []) = omega (arith, length-append pre (i ∷ [])) in
    rw (n, e ∙ sym (append_assoc pre (i ∷ []) post)) (drop-append_seam (pre ++ i ∷ []) post)

pub no_second : (is : List Instr) (k : ℕ) → fault_at is (Some k) ≡ None → first_call (drop (k + 1) is) ≡ None
no_second is k h = decide (is_one (height 0 (take k is)))
    (λ t. from_second (first_call (drop (k + 1) is)) (rw t at h))
    (λ f. let e : Some (C2, k) ≡ None = rw f at h in cc)
  where
    from_second : (o : Option ℕ) → option_map {U = Rule × ℕ} (λ j. (C1, k + 1 + j)) o ≡ None → o ≡ None
    from_second None h = refl
    from_second (Some j) h = cc

check_none : (a place : ℕ) (rest : List Instr) → first_call (check a place rest) ≡ None
check_none a place [] = refl
check_none a place (i ∷ is) = refl

abbrev EndAlike : List ℤ → List Instr → List Instr → Type 0
EndAlike args c1 c2 = (n m : ℕ) × (e : End) × Runs c1 args n 0 [] e × Runs c2 args m 0 [] e × (n ≤ m) × (m ≤ n + 2)

pub same_body : (a : ℕ) (before now : Body) → AllPlain before.instrs → now.instrs ≡ rewritten a before.instrs → call_fault before.instrs ≡ None → SameBody before now
same_body a before now plain e accepted = by_call (first_call before.instrs) refl
  where
    by_call : (o : Option ℕ) → first_call before.instrs ≡ o → SameBody before now
    by_call None c =
        let same : now.instrs ≡ before.instrs = e ∙ ap (rewritten_at a before.instrs) c in
        record {
          same = λ args four. subst (λ l. EndAlike args before.instrs l) (sym same)
              (last_alike before.instrs before.instrs args a 0 0 before.instrs plain (stands_last_from [] before.instrs before.instrs 0 refl refl) (stands_last_from [] before.instrs before.instrs 0 refl refl) []);
          none_left = λ k i g. none_at now.instrs k i (ap first_call same ∙ c) g;
        }
    by_call (Some k) c =
        let s = split_of before.instrs k c in
        let t = take_split before.instrs s.pre s.i s.post k s.is_is s.place in
        let d = drop_split before.instrs s.pre s.i s.post k s.is_is s.place in
        let new : now.instrs ≡ (s.pre ++ check a (length s.pre + 3) s.post) ++ s.post =
        e ∙ ap (rewritten_at a before.instrs) c ∙ ap (λ l. (l ++ check a (k + 3) (drop (k + 1) before.instrs)) ++ drop (k + 1) before.instrs) t ∙ ap (λ l. (s.pre ++ check a (k + 3) l) ++ l) d ∙ ap (λ n. (s.pre ++ check a (n + 3) s.post) ++ s.post) s.place in
        let after_none : first_call s.post ≡ None = ap first_call (sym d) ∙ no_second before.instrs k (ap (fault_at before.instrs) (sym c) ∙ accepted) in
        let whole : first_call ((s.pre ++ check a (length s.pre + 3) s.post) ++ s.post) ≡ None =
        none_append (s.pre ++ check a (length s.pre + 3) s.post) s.post (none_append s.pre (check a (length s.pre + 3) s.post) s.none (check_none a (length s.pre + 3) s.post)) after_none in
        record {
          same = λ args four.
              subst (λ l. EndAlike args l now.instrs) (sym s.is_is)
              (subst (λ l. EndAlike args (s.pre ++ s.i ∷ s.post) l) (sym new)
              (around args a s.pre s.post s.i s.call (subst AllPlain s.is_is plain) []));
          none_left = λ j i g. none_at now.instrs j i (ap first_call new ∙ whole) g;
        }

-- ---- what is written

check_valid : (a n place : ℕ) (rest : List Instr) → place < n → AllValid a n (check a place rest)
check_valid a n place [] lt = (valid_brtrue a n place lt, (valid_zero a n, (valid_call a n failure_token (omega arith, omega arith), (valid_nop a n, tt))))
check_valid a n place (i ∷ is) lt = (valid_brtrue a n place lt, (valid_zero a n, (valid_call a n failure_token (omega arith, omega arith), tt)))

check_reach : (a place : ℕ) (rest : List Instr) → (1 ≤ length (check a place rest)) × (4 ≤ length (check a place rest) + length rest)
check_reach a place [] = (omega arith, omega arith)
check_reach a place (i ∷ is) = (omega arith, omega arith)

check_weight : (a place : ℕ) (rest : List Instr) → weight (check a place rest) ≤ 4
check_weight a place [] = omega arith
check_weight a place (i ∷ is) = omega arith

check_kept : (a place : ℕ) (rest : List Instr) → map without_arguments (check a place rest) ≡ check a place rest
check_kept a place [] = refl
check_kept a place (i ∷ is) = refl

-- The new instructions can be written, are few, and nothing stands for type parameters in them.
pub record IsWritable (a : ℕ) (is now : List Instr) : Type 0 where
  pub valid : AllValid a (length now) now
  pub few : weight now ≤ length is + 3
  pub bare : map without_arguments now ≡ now

pub rewritten_writable : (a : ℕ) (is now : List Instr) → AllPlain is → AllValid a (length is) is → now ≡ rewritten a is → IsWritable a is now
rewritten_writable a is now plain valid e = by_call (first_call is) refl
  where
    by_call : (o : Option ℕ) → first_call is ≡ o → IsWritable a is now
    by_call None c =
        let same : is ≡ now = sym (e ∙ ap (rewritten_at a is) c) in
        subst (IsWritable a is) same (record { valid = valid; few = omega (arith, plain_weight is plain); bare = plain_kept is plain })
    by_call (Some k) c =
        let s = split_of is k c in
        let t = take_split is s.pre s.i s.post k s.is_is s.place in
        let d = drop_split is s.pre s.i s.post k s.is_is s.place in
        let g = check a (k + 3) (drop (k + 1) is) in
        let new : (take k is ++ g) ++ drop (k + 1) is ≡ now = sym (e ∙ ap (rewritten_at a is) c) in
        let reach = check_reach a (k + 3) (drop (k + 1) is) in
        let was : length is ≡ k + 1 + length s.post = ap length s.is_is ∙ omega (arith, length-append s.pre (s.i ∷ s.post), s.place) in
        let front : length (take k is) ≡ k = ap length t ∙ sym s.place in
        let back : length (drop (k + 1) is) ≡ length s.post = ap length d in
        let long : length ((take k is ++ g) ++ drop (k + 1) is) ≡ k + length g + length (drop (k + 1) is) = omega (arith, length-append (take k is ++ g) (drop (k + 1) is), length-append (take k is) g, front) in
        let p = subst AllPlain s.is_is plain in
        let plain_pre : AllPlain (take k is) = subst AllPlain (sym t) (plain_front s.pre (s.i ∷ s.post) p) in
        let plain_post : AllPlain (drop (k + 1) is) = subst AllPlain (sym d) (plain_back s.pre (s.i ∷ s.post) p).1 in
        subst (IsWritable a is) new (record {
          valid = spliced_valid a k is g valid reach.0 (check_valid a (length ((take k is ++ g) ++ drop (k + 1) is)) (k + 3) (drop (k + 1) is) (omega (arith, long, reach.1)));
          few = omega (arith, weight_append (take k is ++ g) (drop (k + 1) is), weight_append (take k is) g, plain_weight (take k is) plain_pre, plain_weight (drop (k + 1) is) plain_post, check_weight a (k + 3) (drop (k + 1) is), front, back, was);
          bare = map-append without_arguments (take k is ++ g) (drop (k + 1) is)
              ∙ ap (λ l. l ++ map without_arguments (drop (k + 1) is)) (map-append without_arguments (take k is) g)
              ∙ ap (λ l. (l ++ map without_arguments g) ++ map without_arguments (drop (k + 1) is)) (plain_kept (take k is) plain_pre)
              ∙ ap (λ l. (take k is ++ l) ++ map without_arguments (drop (k + 1) is)) (check_kept a (k + 3) (drop (k + 1) is))
              ∙ ap (λ l. (take k is ++ g) ++ l) (plain_kept (drop (k + 1) is) plain_post);
        })
