-- The fault that is found first is the first one by offset, and where none is found no call breaks a rule.
use Rattle.std.proofs.Common.{◌≡◌, ◌⊎◌, ℕ, zero, suc, ◌+◌, ◌-◌, ◌<◌, ◌≤◌, Bool, true, false, ◌&&◌, not, nat_eq, nat_lt, List, [], ◌∷◌, length, take, drop, Option, Some, None, Result, Ok, Err, refl, sym, ap, ◌∙◌, subst, arith, inl, inr}
use Rattle.std.specs.Prelude.{slice_get, get_or, IsTrue}
use Rattle.std.specs.Option.{option_map}
use Rattle.std.proofs.lemmas.Option.{slice_get-get_or, slice_get_within, get_or_from_slice_get}
use Rattle.std.proofs.lemmas.List.{get_or-drop, length-drop}
use Rattle.std.proofs.lemmas.Grind.{common_steps}
use Rattle.cil_base.specs.declared.rule.Rule.{Rule}
use Rattle.cil_base.specs.declared.rule.Rule.TheVariants.{C1, C2}
use Rattle.cil_base.specs.declared.refusal.Place.{Place}
use Rattle.cil_base.specs.declared.refusal.Refusal.{Refusal}
use Rattle.cil_base.specs.Rules.{rule_number}
use Rattle.cil_base.specs.Refusals.{First, NoneBroken, key, is_less, refusal}
use Rattle.cil_base.proofs.RefusalLaws.{less_refl, not_less}
use Rattle.cil_base.proofs.Small.{decide}
use Rattle.cil_model.specs.declared.body.Instr.{Instr}
use Rattle.cil_model.specs.declared.body.Body.{Body}
use Rattle.cil_model.specs.SmallMeaning.{is_requires}
use Rattle.cil_model.specs.BodyCode.{Reads}
use Rattle.cil_model.specs.SmallBody.{IsSmallBody, small_at}
use Rattle.il_code.proofs.SmallLaws.{small_read}
use Rattle.body_splice.specs.Splice.{first_call, call_fault, fault_at, second_fault, is_one, height, CallBreaks, HeightBreaks, SecondBreaks, CallsAt}
use Rattle.body_splice.proofs.Same.{split_of, at_seam, none_at, no_second}

-- ---- each instruction takes a byte at least, so the offsets rise

positive : (a at : ℕ) (bytes : List ℕ) (i : Instr) (n : ℕ) → small_at a at bytes ≡ Ok (i, n) → 0 < n
positive a at bytes i n h = (small_read a at bytes i n h).some

above : (a at : ℕ) (bytes : List ℕ) (is : List Instr) (os : List ℕ) (end : ℕ) (rest : List ℕ) (k : ℕ) → Reads (small_at a) at bytes is os end rest → k < length is → at ≤ get_or os k 0
above a at bytes [] os end rest k h l = absurd (omega arith)
above a at bytes (i ∷ is) [] end rest k h l = absurd h
above a at bytes (i ∷ is) (o ∷ os) end rest zero h l = omega (arith, h.0)
above a at bytes (i ∷ is) (o ∷ os) end rest (suc k) h l =
    let n = h.1.0 in omega (arith, above a (at + n) (drop n bytes) is os end rest k h.1.2 (omega arith))

rises : (a at : ℕ) (bytes : List ℕ) (is : List Instr) (os : List ℕ) (end : ℕ) (rest : List ℕ) (j k : ℕ) → Reads (small_at a) at bytes is os end rest → j < k → k < length is → get_or os j 0 < get_or os k 0
rises a at bytes [] os end rest j k h l m = absurd (omega arith)
rises a at bytes (i ∷ is) [] end rest j k h l m = absurd h
rises a at bytes (i ∷ is) (o ∷ os) end rest j zero h l m = absurd (omega arith)
rises a at bytes (i ∷ is) (o ∷ os) end rest zero (suc k) h l m =
    let n = h.1.0 in omega (arith, h.0, positive a at bytes i n h.1.1, above a (at + n) (drop n bytes) is os end rest k h.1.2 (omega arith))
rises a at bytes (i ∷ is) (o ∷ os) end rest (suc j) (suc k) h l m =
    let n = h.1.0 in rises a (at + n) (drop n bytes) is os end rest j k h.1.2 (omega arith) (omega arith)

-- ---- the first call

calls_first : (is : List Instr) (k : ℕ) → first_call is ≡ Some k → CallsAt is k
calls_first is k h =
    let s = split_of is k h in
    (s.i, ap (λ n. slice_get is n) s.place ∙ ap (λ l. slice_get l (length s.pre)) s.is_is ∙ at_seam s.pre s.i s.post, s.call)

not_both : (b : Bool) → b ≡ true → b ≡ false → ⊥
not_both true p q = cc
not_both false p q = cc

same_some : (m n : ℕ) → let o : Option ℕ = Some m in o ≡ Some n → m ≡ n
same_some m n h = cc

-- one of the list behind the first
later_call : (x : Instr) (xs : List Instr) (m : ℕ) (o : Option ℕ) → first_call xs ≡ o → option_map (λ k. k + 1) o ≡ Some m → (q : ℕ) → CallsAt (x ∷ xs) q → is_requires x ≡ false → ((k q : ℕ) → first_call xs ≡ Some k → CallsAt xs q → k ≤ q) → m ≤ q
later_call x xs m None o e q c f rest = cc
later_call x xs m (Some k) o e zero c f rest =
    let s : Some x ≡ Some c.0 = c.1 in
    let same : x ≡ c.0 = cc in
    let no : is_requires c.0 ≡ false = ap is_requires (sym same) ∙ f in
    let yes : is_requires c.0 ≡ true = c.2 in
    absurd (not_both (is_requires c.0) yes no)
later_call x xs m (Some k) o e (suc q) c f rest = omega (arith, same_some (k + 1) m e, rest k q o (c.0, c.1, c.2))

least : (is : List Instr) (m q : ℕ) → first_call is ≡ Some m → CallsAt is q → m ≤ q
least [] m q h c = cc
least (x ∷ xs) m q h c = decide (is_requires x)
    (λ t. let e : Some 0 ≡ Some m = rw t at h in omega (arith, same_some 0 m e))
    (λ f. let e : option_map (λ k. k + 1) (first_call xs) ≡ Some m = rw f at h in later_call x xs m (first_call xs) refl e q c f (λ k r g d. least xs k r g d))

-- a call behind the place k, counted from there
from_there : (is : List Instr) (k j : ℕ) → k < j → CallsAt is j → CallsAt (drop (k + 1) is) (j - (k + 1))
from_there is k j l c =
    let within : j < length is = slice_get_within is j c.0 c.1 in
    let n = j - (k + 1) in
    let there : k + 1 + n ≡ j = omega arith in
    let fits : n < length (drop (k + 1) is) = omega (arith, length-drop (k + 1) is) in
    let item : get_or (drop (k + 1) is) n c.0 ≡ c.0 = get_or-drop (k + 1) is n c.0 ∙ ap (λ p. get_or is p c.0) there ∙ get_or_from_slice_get is j c.0 c.0 c.1 in
    (c.0, slice_get-get_or (drop (k + 1) is) n c.0 fits ∙ ap Some item, c.2)

to_there : (is : List Instr) (k n : ℕ) → CallsAt (drop (k + 1) is) n → CallsAt is (k + 1 + n)
to_there is k n c =
    let inside : n < length (drop (k + 1) is) = slice_get_within (drop (k + 1) is) n c.0 c.1 in
    let within : k + 1 + n < length is = omega (arith, length-drop (k + 1) is) in
    let item : get_or is (k + 1 + n) c.0 ≡ c.0 = sym (get_or-drop (k + 1) is n c.0) ∙ get_or_from_slice_get (drop (k + 1) is) n c.0 c.0 c.1 in
    (c.0, slice_get-get_or is (k + 1 + n) c.0 within ∙ ap Some item, c.2)

-- ---- which refusal comes first

later_place : (place : Place) (p q : Rule) (m n : ℕ) → m ≤ n → (n ≡ m → rule_number p ≤ rule_number q) → is_less (key (refusal q place n)) (key (refusal p place m)) ≡ false
later_place place p q m n le rules =
    let x1 = rule_number q ∷ [] in
    let y1 = rule_number p ∷ [] in
    let x2 = n ∷ x1 in
    let y2 = m ∷ y1 in
    let x3 = place.row ∷ x2 in
    let y3 = place.row ∷ y2 in
    not_less place.assembly place.assembly (place.table ∷ x3) (place.table ∷ y3) (omega arith) (λ a.
    not_less place.table place.table x3 y3 (omega arith) (λ b.
    not_less place.row place.row x2 y2 (omega arith) (λ c.
    not_less n m x1 y1 le (λ e. not_less (rule_number q) (rule_number p) [] [] (rules e) (λ f. refl)))))

at_one : (o : Option ℕ) (k j : ℕ) → o ≡ Some k → o ≡ Some j → j ≡ k
at_one o k j h g = let e : Some j ≡ Some k = sym g ∙ h in same_some j k e

abbrev Offsets : Body → Type 0
Offsets body = (j k : ℕ) → j < k → k < length body.instrs → get_or body.offsets j 0 < get_or body.offsets k 0

offsets_rise : (a : ℕ) (bytes : List ℕ) (body : Body) → IsSmallBody a bytes body → Offsets body
offsets_rise a bytes body s = λ j k l m. rises a 0 s.code body.instrs body.offsets (length s.code) [] j k s.instrs l m

height_first : (place : Place) (body : Body) (k : ℕ) → Offsets body → first_call body.instrs ≡ Some k → is_one (height 0 (take k body.instrs)) ≡ false → First (CallBreaks place body) (refusal C2 place (get_or body.offsets k 0))
height_first place body k rise h low = record {
  broken = inl (k, h, low, refl);
  none_before = λ s. elim [
    | inl x ↦
        let e : x.0 ≡ k = at_one (first_call body.instrs) k x.0 h x.1 in
        subst (λ t. is_less (key t) (key (refusal C2 place (get_or body.offsets k 0))) ≡ false) (sym (x.3 ∙ ap (λ n. refusal C2 place (get_or body.offsets n 0)) e)) (less_refl (key (refusal C2 place (get_or body.offsets k 0))))
    | inr x ↦
        let e : x.0 ≡ k = at_one (first_call body.instrs) k x.0 h x.2 in
        let l : k < x.1 = omega (arith, x.3, e) in
        let strict : get_or body.offsets k 0 < get_or body.offsets x.1 0 = rise k x.1 l (slice_get_within body.instrs x.1 x.4.0 x.4.1) in
        subst (λ t. is_less (key t) (key (refusal C2 place (get_or body.offsets k 0))) ≡ false) (sym x.5) (later_place place C2 C1 (get_or body.offsets k 0) (get_or body.offsets x.1 0) (omega arith) (λ q. absurd (omega arith)))
  ];
}

second_first : (place : Place) (body : Body) (k n : ℕ) → Offsets body → first_call body.instrs ≡ Some k → is_one (height 0 (take k body.instrs)) ≡ true → first_call (drop (k + 1) body.instrs) ≡ Some n → First (CallBreaks place body) (refusal C1 place (get_or body.offsets (k + 1 + n) 0))
second_first place body k n rise h high second = record {
  broken = inr (k, k + 1 + n, h, omega arith, to_there body.instrs k n (calls_first (drop (k + 1) body.instrs) n second), refl);
  none_before = λ s. elim [
    | inl x ↦
        let e : x.0 ≡ k = at_one (first_call body.instrs) k x.0 h x.1 in
        let low : is_one (height 0 (take k body.instrs)) ≡ false = ap (λ m. is_one (height 0 (take m body.instrs))) (sym e) ∙ x.2 in
        absurd (not_both (is_one (height 0 (take k body.instrs))) high low)
    | inr x ↦
        let e : x.0 ≡ k = at_one (first_call body.instrs) k x.0 h x.2 in
        let l : k < x.1 = omega (arith, x.3, e) in
        let m : n ≤ x.1 - (k + 1) = least (drop (k + 1) body.instrs) n (x.1 - (k + 1)) second (from_there body.instrs k x.1 l x.4) in
        let place_le : get_or body.offsets (k + 1 + n) 0 ≤ get_or body.offsets x.1 0 = in_order (k + 1 + n) x.1 (omega arith) (slice_get_within body.instrs x.1 x.4.0 x.4.1) in
        subst (λ t. is_less (key t) (key (refusal C1 place (get_or body.offsets (k + 1 + n) 0))) ≡ false) (sym x.5) (later_place place C1 C1 (get_or body.offsets (k + 1 + n) 0) (get_or body.offsets x.1 0) place_le (λ q. omega arith))
  ];
}
  where
    in_order : (p q : ℕ) → p ≤ q → q < length body.instrs → get_or body.offsets p 0 ≤ get_or body.offsets q 0
    in_order p q le fits = decide (nat_lt p q)
        (λ t. let strict = rise p q (less_than p q t) fits in omega arith)
        (λ f. let same : p ≡ q = equal_then p q le f in let both : get_or body.offsets p 0 ≡ get_or body.offsets q 0 = ap (λ m. get_or body.offsets m 0) same in omega arith)
      where
        less_than : (p q : ℕ) → nat_lt p q ≡ true → p < q
        less_than p q t = grind (arith, common_steps)

        equal_then : (p q : ℕ) → p ≤ q → nat_lt p q ≡ false → p ≡ q
        equal_then p q l f = grind (arith, common_steps)

-- the fault that is found, as a refusal
pub fault_first : (place : Place) (a : ℕ) (bytes : List ℕ) (body : Body) (rule : Rule) (k : ℕ) → IsSmallBody a bytes body → call_fault body.instrs ≡ Some (rule, k) → First (CallBreaks place body) (refusal rule place (get_or body.offsets k 0))
fault_first place a bytes body rule k s h = by_call (first_call body.instrs) refl h
  where
    rise : Offsets body
    rise = offsets_rise a bytes body s

    same_pair : (p q : Rule × ℕ) → let o : Option (Rule × ℕ) = Some p in o ≡ Some q → p ≡ q
    same_pair p q e = cc

    moved : (p : Rule × ℕ) → p ≡ (rule, k) → First (CallBreaks place body) (refusal p.0 place (get_or body.offsets p.1 0)) → First (CallBreaks place body) (refusal rule place (get_or body.offsets k 0))
    moved p e f = subst (λ (x : Rule × ℕ). First (CallBreaks place body) (refusal x.0 place (get_or body.offsets x.1 0))) e f

    by_second : (j : ℕ) → first_call body.instrs ≡ Some j → is_one (height 0 (take j body.instrs)) ≡ true → (o : Option ℕ) → first_call (drop (j + 1) body.instrs) ≡ o → option_map {U = Rule × ℕ} (λ n. (C1, j + 1 + n)) o ≡ Some (rule, k) → First (CallBreaks place body) (refusal rule place (get_or body.offsets k 0))
    by_second j c t None d e = cc
    by_second j c t (Some n) d e = moved (C1, j + 1 + n) (same_pair (C1, j + 1 + n) (rule, k) e) (second_first place body j n rise c t d)

    by_call : (o : Option ℕ) → first_call body.instrs ≡ o → fault_at body.instrs o ≡ Some (rule, k) → First (CallBreaks place body) (refusal rule place (get_or body.offsets k 0))
    by_call None c e = cc
    by_call (Some j) c e = decide (is_one (height 0 (take j body.instrs)))
        (λ t. let e' : second_fault body.instrs j ≡ Some (rule, k) = rw t at e in by_second j c t (first_call (drop (j + 1) body.instrs)) refl e')
        (λ f. let e' : Some (C2, j) ≡ Some (rule, k) = rw f at e in moved (C2, j) (same_pair (C2, j) (rule, k) e') (height_first place body j rise c f))

pub none_broken : (place : Place) (body : Body) → call_fault body.instrs ≡ None → NoneBroken (CallBreaks place body)
none_broken place body h = λ r. elim [ inl x ↦ low x.0 x.1 x.2 | inr x ↦ second x.0 x.1 x.2 x.3 x.4 ]
  where
    low : (k : ℕ) → first_call body.instrs ≡ Some k → is_one (height 0 (take k body.instrs)) ≡ false → ⊥
    low k c f =
        let e : fault_at body.instrs (Some k) ≡ None = ap (fault_at body.instrs) (sym c) ∙ h in
        let e' : Some (C2, k) ≡ None = rw f at e in cc

    second : (k j : ℕ) → first_call body.instrs ≡ Some k → k < j → CallsAt body.instrs j → ⊥
    second k j c l calls =
        let none : first_call (drop (k + 1) body.instrs) ≡ None = no_second body.instrs k (ap (fault_at body.instrs) (sym c) ∙ h) in
        let there = from_there body.instrs k j l calls in
        let no : is_requires there.0 ≡ false = none_at (drop (k + 1) body.instrs) (j - (k + 1)) there.0 none there.1 in
        let yes : is_requires there.0 ≡ true = there.2 in cc
