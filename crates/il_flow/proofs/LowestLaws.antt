-- The failing test of the lowest offset is the first refusal, where the tests are of one place and their rules come in order.
use Rattle.std.proofs.Common.{◌≡◌, ℕ, ◌≤◌, Bool, true, false, cond, ◌&&◌, List, [], ◌∷◌, ◌++◌, Option, Some, None, refl, subst, ◌⊎◌, inl, inr, arith}
use Rattle.std.specs.Prelude.{MatchOption, map}
use Rattle.cil_base.specs.declared.rule.Rule.{Rule}
use Rattle.std.proofs.lemmas.Bool.{ltb-false}
use Rattle.cil_base.proofs.Small.{less}
use Rattle.cil_base.proofs.RefusalLaws.{not_less, less_refl, less_trans}
use Rattle.cil_base.specs.declared.refusal.Place.{Place}
use Rattle.cil_base.specs.declared.refusal.Refusal.{Refusal}
use Rattle.cil_base.specs.Rules.{rule_number}
use Rattle.cil_base.specs.Refusals.{key, is_less, First, NoneBroken, Test, Fails}
use Rattle.il_flow.specs.Lowest.{beats, lowered, lowest, test}

-- the refusal is of the place, and its rule's number isn't below
pub record IsOf (place : Place) (n : ℕ) (r : Refusal) : Type 0 where
  pub assembly : r.assembly ≡ place.assembly
  pub table : r.table ≡ place.table
  pub row : r.row ≡ place.row
  pub number : n ≤ rule_number r.rule

abbrev pub InOrder : Place → ℕ → List Test → Type 0
InOrder place n [] = Unit {0}
InOrder place n (t ∷ ts) = IsOf place n t.refusal × InOrder place (rule_number t.refusal.rule) ts

-- what the best so far says of the tests so far
abbrev Best : Place → ℕ → (Refusal → Type 0) → Option Refusal → Type 0
Best place n B best = MatchOption best (NoneBroken B) (λ s. First B s × (IsOf place 0 s × (rule_number s.rule ≤ n)))

-- of one place: the offset decides, and then the rule
not_before : (place : Place) (r s : Refusal) → IsOf place 0 r → IsOf place 0 s → s.at ≤ r.at → (r.at ≡ s.at → rule_number s.rule ≤ rule_number r.rule) → is_less (key r) (key s) ≡ false
not_before place r s x y le ties =
    not_less r.assembly s.assembly (r.table ∷ r.row ∷ r.at ∷ rule_number r.rule ∷ []) (s.table ∷ s.row ∷ s.at ∷ rule_number s.rule ∷ []) (omega (arith, x.assembly, y.assembly)) (λ e1.
    not_less r.table s.table (r.row ∷ r.at ∷ rule_number r.rule ∷ []) (s.row ∷ s.at ∷ rule_number s.rule ∷ []) (omega (arith, x.table, y.table)) (λ e2.
    not_less r.row s.row (r.at ∷ rule_number r.rule ∷ []) (s.at ∷ rule_number s.rule ∷ []) (omega (arith, x.row, y.row)) (λ e3.
    not_less r.at s.at (rule_number r.rule ∷ []) (rule_number s.rule ∷ []) le (λ e4.
    not_less (rule_number r.rule) (rule_number s.rule) [] [] (ties e4) (λ e5. refl)))))

weaker : (place : Place) (n : ℕ) (r : Refusal) → IsOf place n r → IsOf place 0 r
weaker place n r x = record { assembly = x.assembly; table = x.table; row = x.row; number = omega arith }

abbrev More : (Refusal → Type 0) → Test → Refusal → Type 0
More B t r = B r ⊎ ((t.fails ≡ true) × (t.refusal ≡ r))

passes : (place : Place) (n : ℕ) (B : Refusal → Type 0) (t : Test) (best : Option Refusal) → IsOf place n t.refusal → t.fails ≡ false → Best place n B best → Best place (rule_number t.refusal.rule) (More B t) best
passes place n B t None x e h = λ r. elim [ inl f ↦ h r f | inr f ↦ absurd cc ]
passes place n B t (Some s) x e h =
    (record { broken = inl h.0.broken; none_before = λ r. elim [ inl f ↦ h.0.none_before r f | inr f ↦ absurd cc ] }, (h.1.0, omega (arith, x.number, h.1.1)))

is_first : (place : Place) (n : ℕ) (B : Refusal → Type 0) (t : Test) (best : Option Refusal) → IsOf place n t.refusal → t.fails ≡ true → beats t.refusal best ≡ true → Best place n B best → Best place (rule_number t.refusal.rule) (More B t) (Some t.refusal)
is_first place n B t None x e w h =
    (record { broken = inr (e, refl); none_before = λ r. elim [ inl f ↦ absurd (h r f) | inr f ↦ subst (λ (q : Refusal). is_less (key q) (key t.refusal) ≡ false) f.1 (less_refl (key t.refusal)) ] }, (weaker place n t.refusal x, omega arith))
is_first place n B t (Some s) x e w h =
    let below = less t.refusal.at s.at w in
    let other = not_before place s t.refusal h.1.0 (weaker place n t.refusal x) (omega arith) (λ same. absurd (omega arith)) in
    (record { broken = inr (e, refl); none_before = λ r. elim [ inl f ↦ less_trans (key r) (key s) (key t.refusal) (h.0.none_before r f) other | inr f ↦ subst (λ (q : Refusal). is_less (key q) (key t.refusal) ≡ false) f.1 (less_refl (key t.refusal)) ] }, (weaker place n t.refusal x, omega arith))

stays : (place : Place) (n : ℕ) (B : Refusal → Type 0) (t : Test) (best : Option Refusal) → IsOf place n t.refusal → beats t.refusal best ≡ false → Best place n B best → Best place (rule_number t.refusal.rule) (More B t) best
stays place n B t None x w h = absurd cc
stays place n B t (Some s) x w h =
    let above = ltb-false t.refusal.at s.at w in
    let other = not_before place t.refusal s (weaker place n t.refusal x) h.1.0 above (λ same. omega (arith, x.number, h.1.1)) in
    (record { broken = inl h.0.broken; none_before = λ r. elim [ inl f ↦ h.0.none_before r f | inr f ↦ subst (λ (q : Refusal). is_less (key q) (key s) ≡ false) f.1 other ] }, (h.1.0, omega (arith, x.number, h.1.1)))

step : (place : Place) (n : ℕ) (B : Refusal → Type 0) (t : Test) (best : Option Refusal) → IsOf place n t.refusal → Best place n B best → Best place (rule_number t.refusal.rule) (More B t) (lowered best t)
step place n B t best x h = go t.fails (beats t.refusal best) refl refl
  where
    go : (a b : Bool) → t.fails ≡ a → beats t.refusal best ≡ b → Best place (rule_number t.refusal.rule) (More B t) (cond (a && b) (Some t.refusal) best)
    go false b e w = passes place n B t best x e h
    go true true e w = is_first place n B t best x e w h
    go true false e w = stays place n B t best x w h

-- what is broken by the tests so far or by one of the rest
abbrev Either : (Refusal → Type 0) → List Test → Refusal → Type 0
Either B ts r = B r ⊎ Fails ts r

same_answer : (o : Option Refusal) (A B : Refusal → Type 0) → ((r : Refusal) → A r → B r) → ((r : Refusal) → B r → A r) → MatchOption o (NoneBroken A) (First A) → MatchOption o (NoneBroken B) (First B)
same_answer None A B f g h = λ r b. h r (g r b)
same_answer (Some s) A B f g h = record { broken = f s h.broken; none_before = λ r b. h.none_before r (g r b) }

told : (place : Place) (n : ℕ) (B : Refusal → Type 0) (best : Option Refusal) → Best place n B best → MatchOption best (NoneBroken B) (First B)
told place n B None h = h
told place n B (Some s) h = h.0

all_tests : (place : Place) (n : ℕ) (B : Refusal → Type 0) (best : Option Refusal) (ts : List Test) → InOrder place n ts → Best place n B best → MatchOption (lowest best ts) (NoneBroken (Either B ts)) (First (Either B ts))
all_tests place n B best [] x h = same_answer best B (Either B []) (λ r b. inl b) (λ r. elim [ inl b ↦ b | inr f ↦ absurd f ]) (told place n B best h)
all_tests place n B best (t ∷ ts) x h =
    same_answer (lowest (lowered best t) ts) (Either (More B t) ts) (Either B (t ∷ ts))
    (λ r. elim [ inl (inl b) ↦ inl b | inl (inr f) ↦ inr (inl f) | inr f ↦ inr (inr f) ])
    (λ r. elim [ inl b ↦ inl (inl b) | inr (inl f) ↦ inl (inr f) | inr (inr f) ↦ inr f ])
    (all_tests place (rule_number t.refusal.rule) (More B t) (lowered best t) ts x.1 (step place n B t best x.0 h))

pub lowest_is_first : (place : Place) (ts : List Test) → InOrder place 0 ts → MatchOption (lowest None ts) (NoneBroken (Fails ts)) (First (Fails ts))
lowest_is_first place ts x =
    same_answer (lowest None ts) (Either (λ r. ⊥) ts) (Fails ts) (λ r. elim [ inl b ↦ absurd b | inr f ↦ f ]) (λ r f. inr f) (all_tests place 0 (λ r. ⊥) None ts x (λ r b. b))

-- ---- the order of the tests

pub lower_bound : (place : Place) (m n : ℕ) (ts : List Test) → n ≤ m → InOrder place m ts → InOrder place n ts
lower_bound place m n [] le x = tt
lower_bound place m n (t ∷ ts) le x = (record { assembly = x.0.assembly; table = x.0.table; row = x.0.row; number = omega (arith, x.0.number) }, x.1)

pub mapped : {X : Type 0} (place : Place) (rule : Rule) (at : X → ℕ) (fails : X → Bool) (n : ℕ) (xs : List X) (rest : List Test) → n ≤ rule_number rule → InOrder place (rule_number rule) rest → InOrder place n (map (λ x. test rule place (at x) (fails x)) xs ++ rest)
mapped place rule at fails n [] rest le x = lower_bound place (rule_number rule) n rest le x
mapped place rule at fails n (y ∷ ys) rest le x =
    (record { assembly = refl; table = refl; row = refl; number = le }, mapped place rule at fails (rule_number rule) ys rest (omega arith) x)

pub mapped_last : {X : Type 0} (place : Place) (rule : Rule) (at : X → ℕ) (fails : X → Bool) (n : ℕ) (xs : List X) → n ≤ rule_number rule → InOrder place n (map (λ x. test rule place (at x) (fails x)) xs)
mapped_last place rule at fails n [] le = tt
mapped_last place rule at fails n (y ∷ ys) le =
    (record { assembly = refl; table = refl; row = refl; number = le }, mapped_last place rule at fails (rule_number rule) ys (omega arith))

pub lowest_joined : (best : Option Refusal) (xs ys : List Test) → lowest best (xs ++ ys) ≡ lowest (lowest best xs) ys
lowest_joined best [] ys = refl
lowest_joined best (x ∷ xs) ys = lowest_joined (lowered best x) xs ys
