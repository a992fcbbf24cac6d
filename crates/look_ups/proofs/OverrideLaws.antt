-- Overriding by rows, by name, and through several types.
use Rattle.std.proofs.Common.{◌≡◌, ◌∙◌, sym, ap, refl, subst, append_assoc, ℕ, ◌+◌, ◌<◌, length, get_or, drop, List, [], ◌∷◌, ◌++◌, Bool, true, false}
use Rattle.std.specs.Prelude.{Result, IfOk, ◌&&◌, ◌||◌, ◌==◌, not, cond, if◌then◌else◌, Option, Some, None, is_none, reverse, filter, map}
use Rattle.std.proofs.lemmas.List.{at_drop_more, reverse-append}
use Rattle.cil_model.specs.declared.ty.Ty.{Ty}
use Rattle.cil_model.specs.declared.program.Program.{Program}
use Rattle.cil_semantics.specs.Words.{any, maybe}
use Rattle.cil_semantics.specs.Types.{same_ty}
use Rattle.cil_semantics.specs.Lookups.{method_of}
use Rattle.cil_semantics.specs.Dispatch.{Seen, bases, by_rows, hidden_by, is_virtual, methods_of, overriders, overrides, overrides_outside, same_seen, same_shape, takes_new_slot}
use Rattle.look_ups.specs.Overriding.{by_hidden, overrides_by_name, overrides_either}

by_row_alone : (r b v m o n s : Bool) → r ≡ true → ((if r then b else (v && m)) || (o && (v && (n && (b && s))))) ≡ b
by_row_alone false b v m o n s e = absurd (cc e)
by_row_alone true true v m o n s e = refl
by_row_alone true false v m false n s e = refl
by_row_alone true false false m true n s e = refl
by_row_alone true false true m true false s e = refl
by_row_alone true false true m true true s e = refl

named : (p : Program) (x slot : Seen) → any (λ b. b == x.1) (by_rows p x.0 slot) ≡ true → overrides_either p x slot ≡ any (same_ty slot.0) (bases p x.0)
unfolding overrides overrides_outside
named p x slot e =
    by_row_alone (any (λ b. b == x.1) (by_rows p x.0 slot)) (any (same_ty slot.0) (bases p x.0)) (is_virtual (method_of p x.1) && not (takes_new_slot (method_of p x.1)))
    (maybe false (same_seen slot) (hidden_by p x)) ((method_of p slot.1).outside) (is_none (hidden_by p x)) (same_shape p x slot) e

or_none : (a : Bool) → (a || false) ≡ a
or_none true = refl
or_none false = refl

-- where rows don't say so
with_hidden : (v o c m : Bool) → ((v && m) || (o && (v && (false && c)))) ≡ (v && m)
with_hidden false false c m = refl
with_hidden false true c m = refl
with_hidden true false c m = or_none m
with_hidden true true c m = or_none m

without_hidden : (v o c : Bool) → ((v && false) || (o && (v && (true && c)))) ≡ (v && (o && c))
without_hidden false false c = refl
without_hidden false true c = refl
without_hidden true false c = refl
without_hidden true true c = refl

by_name_alone : (p : Program) (x slot : Seen) (h : Option Seen) (v : Bool)
    → ((v && maybe false (same_seen slot) h) || ((method_of p slot.1).outside && (v && (is_none h && (any (same_ty slot.0) (bases p x.0) && same_shape p x slot))))) ≡ (v && by_hidden p x slot h)
by_name_alone p x slot (Some h) v = with_hidden v (method_of p slot.1).outside (any (same_ty slot.0) (bases p x.0) && same_shape p x slot) (same_seen slot h)
by_name_alone p x slot None v = without_hidden v (method_of p slot.1).outside (any (same_ty slot.0) (bases p x.0) && same_shape p x slot)

unnamed : (p : Program) (x slot : Seen) → any (λ b. b == x.1) (by_rows p x.0 slot) ≡ false → overrides_either p x slot ≡ overrides_by_name p x slot
unfolding overrides overrides_outside
unnamed p x slot e =
    ap (λ (r : Bool). (if r then any (same_ty slot.0) (bases p x.0) else ((is_virtual (method_of p x.1) && not (takes_new_slot (method_of p x.1))) && maybe false (same_seen slot) (hidden_by p x))) || overrides_outside p x slot) e
    ∙ by_name_alone p x slot (hidden_by p x) (is_virtual (method_of p x.1) && not (takes_new_slot (method_of p x.1)))

pub overriders_on : (p : Program) (left more : List Ty) (t : Ty) (seen next whole : List Seen) → left ≡ more ++ t ∷ []
    → next ≡ seen ++ filter (λ (x : Seen). any (overrides_either p x) seen) (map (λ (m : ℕ). (t, m)) (methods_of p t))
    → overriders p (reverse left) seen ≡ whole → overriders p (reverse more) next ≡ whole
unfolding overriders
overriders_on p left more t seen next whole e f h =
    ap (overriders p (reverse more)) f ∙ ap (λ (ts : List Ty). overriders p ts seen) (sym (reverse-append more (t ∷ []))) ∙ ap (λ (ts : List Ty). overriders p (reverse ts) seen) (sym e) ∙ h

pub overriders_end : (p : Program) (left : List Ty) (seen whole : List Seen) → left ≡ [] → overriders p (reverse left) seen ≡ whole → seen ≡ whole
unfolding overriders
overriders_end p left seen whole e h = ap (λ (ts : List Ty). overriders p (reverse ts) seen) (sym e) ∙ h

pub answered : {A E : Type 0} (r : Result A E) (x y : A) → x ≡ y → IfOk r (λ v. v ≡ x) → IfOk r (λ v. v ≡ y)
answered r x y e h = subst (λ z. IfOk r (λ v. v ≡ z)) e h

pub by_named : {E : Type 0} (p : Program) (x slot : Seen) (r : Result Bool E) → any (λ b. b == x.1) (by_rows p x.0 slot) ≡ true
    → IfOk r (λ is. is ≡ any (same_ty slot.0) (bases p x.0)) → IfOk r (λ is. is ≡ overrides_either p x slot)
by_named p x slot r e h = answered r (any (same_ty slot.0) (bases p x.0)) (overrides_either p x slot) (sym (named p x slot e)) h

pub by_unnamed : {E : Type 0} (p : Program) (x slot : Seen) (r : Result Bool E) → any (λ b. b == x.1) (by_rows p x.0 slot) ≡ false
    → IfOk r (λ is. is ≡ overrides_by_name p x slot) → IfOk r (λ is. is ≡ overrides_either p x slot)
by_unnamed p x slot r e h = answered r (overrides_by_name p x slot) (overrides_either p x slot) (sym (unnamed p x slot e)) h

pub kept_one : (f : Seen → Bool) (xs found more whole : List Seen) (k : ℕ) (x : Seen) → k < length xs → x ≡ get_or xs k x → found ++ filter f (drop k xs) ≡ whole
    → f x ≡ true → more ≡ found ++ x ∷ [] → more ++ filter f (drop (k + 1) xs) ≡ whole
kept_one f xs found more whole k x below is h yes' e =
    ap (λ (ss : List Seen). ss ++ filter f (drop (k + 1) xs)) e
    ∙ append_assoc found (x ∷ []) (filter f (drop (k + 1) xs))
    ∙ ap (λ (b : Bool). found ++ cond b (x ∷ filter f (drop (k + 1) xs)) (filter f (drop (k + 1) xs))) (sym yes')
    ∙ ap (λ (y : Seen). found ++ filter f (y ∷ drop (k + 1) xs)) is
    ∙ ap (λ (ss : List Seen). found ++ ss) (sym (at_drop_more (filter f) xs k x below))
    ∙ h

pub passed_one : (f : Seen → Bool) (xs found more whole : List Seen) (k : ℕ) (x : Seen) → k < length xs → x ≡ get_or xs k x → found ++ filter f (drop k xs) ≡ whole
    → f x ≡ false → more ≡ found → more ++ filter f (drop (k + 1) xs) ≡ whole
passed_one f xs found more whole k x below is h no' e =
    ap (λ (ss : List Seen). ss ++ filter f (drop (k + 1) xs)) e
    ∙ ap (λ (b : Bool). found ++ cond b (x ∷ filter f (drop (k + 1) xs)) (filter f (drop (k + 1) xs))) (sym no')
    ∙ ap (λ (y : Seen). found ++ filter f (y ∷ drop (k + 1) xs)) is
    ∙ ap (λ (ss : List Seen). found ++ ss) (sym (at_drop_more (filter f) xs k x below))
    ∙ h
