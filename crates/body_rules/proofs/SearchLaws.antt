-- The search for heights finds one thing.
use Rattle.std.proofs.Common.{◌≡◌, ◌∙◌, sym, subst, ap, refl, ℕ, List, Option, Some, None, Result, Ok, Err}
use Rattle.std.specs.Prelude.{MatchOption, slice_get, position}
use Rattle.cil_model.specs.declared.body.Body.{Body}
use Rattle.cil_model.specs.declared.body.Instr.{Instr}
use Rattle.il_flow.specs.declared.answer.Heights.{Heights}
use Rattle.il_flow.specs.declared.effect.Effect.{Effect}
use Rattle.il_flow.specs.declared.mark.Mark.{Mark}
use Rattle.il_flow.specs.declared.mark.Mark.TheVariants.{Waits}
use Rattle.il_flow.specs.Heights.{Finds, ends, stops, goes, SearchFinds, HeightsAnswer, begun, begin_fault, fault_by, is_waiting, passed_by}

pub some_is : {X : Type 0} (x y : X) (o : Option X) → o ≡ Some x → o ≡ Some y → x ≡ y
some_is x y o h k = let e : let q : Option _ = Some x in q ≡ Some y = sym h ∙ k in cc

pub some_is_not : {X : Type 0} (x : X) (o : Option X) → o ≡ Some x → o ≡ None → ⊥
some_is_not x o h k = let e : let q : Option _ = Some x in q ≡ None = sym h ∙ k in cc

height_is : (h g : ℕ) → Waits h ≡ Waits g → h ≡ g
height_is h g e = cc

abbrev found : List Mark → Result (List Mark) ℕ
found ms = Ok ms

abbrev fault : ℕ → Result (List Mark) ℕ
fault q = Err q

fault_is : (p q : ℕ) → fault p ≡ fault q → p ≡ q
fault_is p q e = cc

not_found : (ms : List Mark) (q : ℕ) → found ms ≡ fault q → ⊥
not_found ms q e = cc

-- a place, its height and its instruction
abbrev Step : Type 0
Step = ℕ × ℕ × Instr

module _ (effect : Instr → Effect) (b : Body) where
  step_once : (ms : List Mark) (k h m g : ℕ) (i j : Instr) → position is_waiting ms ≡ Some k → slice_get ms k ≡ Some (Waits h) → slice_get b.instrs k ≡ Some i
      → position is_waiting ms ≡ Some m → slice_get ms m ≡ Some (Waits g) → slice_get b.instrs m ≡ Some j → (k ≡ m) × (h ≡ g) × (i ≡ j)
  step_once ms k h m g i j first there at first' there' at' =
      let place : k ≡ m = some_is k m (position is_waiting ms) first first' in
      let height : Waits h ≡ Waits g = some_is (Waits h) (Waits g) (slice_get ms k) there (subst (λ (n : ℕ). slice_get ms n ≡ Some (Waits g)) (sym place) there') in
      let instr : i ≡ j = some_is i j (slice_get b.instrs k) at (subst (λ (n : ℕ). slice_get b.instrs n ≡ Some j) (sym place) at') in
      (place, height_is h g height, instr)

  moved : (P : ℕ → ℕ → Instr → Type 0) (k h m g : ℕ) (i j : Instr) → (k ≡ m) × (h ≡ g) × (i ≡ j) → P m g j → P k h i
  moved P k h m g i j e p = subst (λ (x : ℕ). P x h i) (sym e.0) (subst (λ (x : ℕ). P m x i) (sym e.1) (subst (λ (x : Instr). P m g x) (sym e.2) p))

  finds_once : (ms : List Mark) (r s : Result (List Mark) ℕ) → Finds effect b ms r → Finds effect b ms s → r ≡ s
  finds_once ms r s (ends e) (ends f) = refl
  finds_once ms r s (ends e) (stops m g p j first there at wrong) = absurd (some_is_not m (position is_waiting ms) first e)
  finds_once ms r s (ends e) (goes m g j first there at right rest) = absurd (some_is_not m (position is_waiting ms) first e)
  finds_once ms r s (stops k h q i first there at wrong) (ends f) = absurd (some_is_not k (position is_waiting ms) first f)
  finds_once ms r s (goes k h i first there at right rest) (ends f) = absurd (some_is_not k (position is_waiting ms) first f)
  finds_once ms r s (stops k h q i first there at wrong) (stops m g p j first' there' at' wrong') =
      let e = step_once ms k h m g i j first there at first' there' at' in
      let same : q ≡ p = some_is q p (fault_by b (effect i) ms k h i) wrong (moved (λ x y z. fault_by b (effect z) ms x y z ≡ Some p) k h m g i j e wrong') in
      ap fault same
  finds_once ms r s (stops k h q i first there at wrong) (goes m g j first' there' at' right' rest') =
      let e = step_once ms k h m g i j first there at first' there' at' in
      absurd (some_is_not q (fault_by b (effect i) ms k h i) wrong (moved (λ x y z. fault_by b (effect z) ms x y z ≡ None) k h m g i j e right'))
  finds_once ms r s (goes k h i first there at right rest) (stops m g p j first' there' at' wrong') =
      let e = step_once ms k h m g i j first there at first' there' at' in
      absurd (some_is_not p (fault_by b (effect i) ms k h i) (moved (λ x y z. fault_by b (effect z) ms x y z ≡ Some p) k h m g i j e wrong') right)
  finds_once ms r s (goes k h i first there at right rest) (goes m g j first' there' at' right' rest') =
      let e = step_once ms k h m g i j first there at first' there' at' in
      finds_once (passed_by (effect i) ms k h i) r s rest (moved (λ x y z. Finds effect b (passed_by (effect z) ms x y z) s) k h m g i j e rest')

  search_once : (r s : Result (List Mark) ℕ) → SearchFinds effect b r → SearchFinds effect b s → r ≡ s
  search_once r s f g = go (begin_fault b) f g
    where
      go : (o : Option ℕ) → MatchOption o (Finds effect b (begun b) r) (λ q. r ≡ Err q) → MatchOption o (Finds effect b (begun b) s) (λ q. s ≡ Err q) → r ≡ s
      go None x y = finds_once (begun b) r s x y
      go (Some q) x y = x ∙ sym y

  -- The search finds one fault.
  pub fault_once : (p q : ℕ) → HeightsAnswer effect b (Err p) → HeightsAnswer effect b (Err q) → p ≡ q
  fault_once p q f g = fault_is p q (search_once (fault p) (fault q) f g)

  -- Where it leaves heights, it finds none.
  pub no_fault : (heights : Heights) (q : ℕ) → HeightsAnswer effect b (Ok heights) → HeightsAnswer effect b (Err q) → ⊥
  no_fault heights q f g = not_found f.0 q (search_once (found f.0) (fault q) f.1 g)
