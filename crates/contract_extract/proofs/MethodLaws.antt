-- What a search finds in a body, another search finds too.
use Rattle.std.proofs.Common.{◌≡◌, inl, inr, ℕ, zero, suc, Bool, List, [], ◌∷◌, length, Option, Some, None, Ok, refl, sym, ap, ◌∙◌}
use Rattle.std.specs.Prelude.{map}
use Rattle.std.proofs.lemmas.List.{length-map}
use Rattle.cil_base.specs.declared.refusal.Refusal.{Refusal}
use Rattle.cil_base.specs.Refusals.{first_of}
use Rattle.cil_model.specs.declared.body.Body.{Body}
use Rattle.cil_model.specs.declared.body.Instr.{Instr}
use Rattle.cil_model.specs.declared.contract.Contract.{Contract}
use Rattle.cil_model.specs.declared.program.Program.{Program}
use Rattle.cil_semantics.specs.Lookups.{method_of}
use Rattle.cil_semantics.specs.Unwind.{body_of}
use Rattle.il_flow.specs.declared.answer.Heights.{Heights}
use Rattle.il_flow.specs.declared.effect.Effect.{Effect}
use Rattle.il_flow.specs.declared.mark.Mark.{Mark}
use Rattle.il_flow.specs.Effects.{effect_of}
use Rattle.il_flow.specs.Heights.{SearchFinds, height_at, height_in, height_told, has_height}
use Rattle.il_flow.proofs.NoMapLaws.{no_map}
use Rattle.il_flow.proofs.MapLaws.{found_map, least_map}
use Rattle.contract_extract.specs.OwnContract.{own_contract}
use Rattle.contract_extract.specs.Rules.{tests}
use Rattle.contract_extract.specs.Methods.{method_code, FindsHeights, HasContract, LacksHeights, BreaksContract}

same_option : (a b : Option ℕ) → ((h : ℕ) → a ≡ Some h → b ≡ Some h) → ((h : ℕ) → b ≡ Some h → a ≡ Some h) → a ≡ b
same_option None None f g = refl
same_option None (Some y) f g = g y refl
same_option (Some x) b f g = sym (f x refl)

same_height : (effect : Instr → Effect) (b : Body) (ms ns : List Mark) → SearchFinds effect b (Ok ms) → SearchFinds effect b (Ok ns) → (q : ℕ) → height_at ms q ≡ height_at ns q
same_height effect b ms ns fm fn q =
    same_option (height_at ms q) (height_at ns q)
    (least_map effect b (height_at ns) (found_map effect b ns fn) ms fm q)
    (least_map effect b (height_at ms) (found_map effect b ms fm) ns fn q)

shorter : {n k : ℕ} → suc n ≡ suc k → n ≡ k
shorter e = cc

-- lists of marks with the same heights tell the same
same_told : (ms ns : List Mark) → length ms ≡ length ns → ((q : ℕ) → height_at ms q ≡ height_at ns q) → map height_in ms ≡ map height_in ns
same_told [] [] size each = refl
same_told [] (n ∷ ns) size each = absurd cc
same_told (m ∷ ms) [] size each = absurd cc
same_told (m ∷ ms) (n ∷ ns) size each =
    ap (λ (o : Option ℕ). o ∷ map height_in ms) (each zero) ∙ ap (λ (os : List (Option ℕ)). height_in n ∷ os) (same_told ms ns (shorter size) (λ q. each (suc q)))

by_heights : (ms ns : List Mark) → map height_in ms ≡ map height_in ns → (map height_told ms ≡ map height_told ns) × (map has_height ms ≡ map has_height ns)
by_heights [] [] e = (refl, refl)
by_heights [] (n ∷ ns) e = absurd cc
by_heights (m ∷ ms) [] e = absurd cc
by_heights (m ∷ ms) (n ∷ ns) e = go (by_heights ms ns cc) cc
  where
    go : (map height_told ms ≡ map height_told ns) × (map has_height ms ≡ map has_height ns) → height_in m ≡ height_in n → (map height_told (m ∷ ms) ≡ map height_told (n ∷ ns)) × (map has_height (m ∷ ms) ≡ map has_height (n ∷ ns))
    go both first = (cc (first, both.0), cc (first, both.1))

made : List ℕ → List Bool → Heights
made hs rs = record { heights = hs; reached = rs }

same_heights : (x y : Heights) → x.heights ≡ y.heights → x.reached ≡ y.reached → x ≡ y
unfolding made
same_heights x y e f = ap (λ (hs : List ℕ). made hs x.reached) e ∙ ap (made y.heights) f

-- The search finds one thing alone.
pub finds_one : (p : Program) (m : ℕ) (x y : Heights) → FindsHeights p m x → FindsHeights p m y → x ≡ y
finds_one p m x y f g =
    let ms : List Mark = f.heights.0 in
    let ns : List Mark = g.heights.0 in
    let sizes : length ms ≡ length ns =
    sym (length-map ms height_told) ∙ sym (ap length f.heights.2) ∙ f.told.heights ∙ sym g.told.heights ∙ ap length g.heights.2 ∙ length-map ns height_told in
    let both = by_heights ms ns (same_told ms ns sizes (same_height (effect_of p (method_of p m)) (body_of p m) ms ns f.heights.1 g.heights.1)) in
    same_heights x y (f.heights.2 ∙ both.0 ∙ sym g.heights.2) (f.heights.3 ∙ both.1 ∙ sym g.heights.3)

-- A method has one contract at most.
pub has_one : (p : Program) (m : ℕ) (x y : Contract) → HasContract p m x → HasContract p m y → x ≡ y
has_one p m x y f g =
    f.2 ∙ ap (λ (h : Heights). own_contract (method_code p m h)) (finds_one p m f.0 g.0 f.1 g.1) ∙ sym g.2

none_is_some : {r : Refusal} → None ≡ Some r → ⊥
none_is_some e = cc

lacks_none : (p : Program) (m : ℕ) (r : Refusal) (found : Heights) → FindsHeights p m found → LacksHeights p m r → ⊥
lacks_none p m r found f (inl first) = f.meant r first.broken
lacks_none p m r found f (inr later) =
    no_map (effect_of p (method_of p m)) (body_of p m) later.1.0 (height_at f.heights.0) later.1.1
    (found_map (effect_of p (method_of p m)) (body_of p m) f.heights.0 f.heights.1)

-- It has none where a rule is broken.
pub breaks_none : (p : Program) (m : ℕ) (x : Contract) (r : Refusal) → HasContract p m x → BreaksContract p m r → ⊥
breaks_none p m x r f (inl lacks) = lacks_none p m r f.0 f.1 lacks
breaks_none p m x r f (inr breaks) =
    none_is_some (sym f.3 ∙ ap (λ (h : Heights). first_of (tests (method_code p m h))) (finds_one p m f.0 breaks.0 f.1 breaks.1) ∙ breaks.2)
