-- The least of some numbers.
use Rattle.std.proofs.Common.{◌≡◌, ℕ, ◌+◌, ◌<◌, min, Bool, true, false, cond, ◌&&◌, List, [], ◌∷◌, ◌++◌, Option, Some, None, refl, sym, ap, ◌∙◌, arith}
use Rattle.std.specs.Prelude.{filter, map, if◌then◌else◌}
use Rattle.std.specs.List.{flat_map}
use Rattle.std.proofs.Common.{length, get_or, drop}
use Rattle.std.proofs.lemmas.List.{at_drop_more, map-append}
use Rattle.std.proofs.lemmas.List.Elements.{filter-append}
use Rattle.cil_model.specs.declared.body.Instr.{Instr}
use Rattle.il_opcodes.specs.Opcodes.{opcode_of}
use Rattle.il_flow.specs.Successors.{goes_on, successors, targets}
use Rattle.il_flow.specs.Heights.{least, least_of, lowest_with}

pub with_best : (b : ℕ) (xs : List ℕ) → lowest_with (Some b) xs ≡ Some (least_of b (least xs))
with_best b [] = refl
with_best b (x ∷ xs) = with_best (min x b) xs ∙ ap Some (go (least xs))
  where
    go : (o : Option ℕ) → least_of (min x b) o ≡ min b (least_of x o)
    go None = omega arith
    go (Some y) = omega arith

pub with_none : (xs : List ℕ) → lowest_with None xs ≡ least xs
with_none [] = refl
with_none (x ∷ xs) = with_best x xs

pub lowest_successor : (test : ℕ → Bool) (k : ℕ) (i : Instr) (first : Option ℕ) → first ≡ (if goes_on (opcode_of i.op) && test (k + 1) then Some (k + 1) else None) → lowest_with first (filter test (targets i.operand)) ≡ least (filter test (successors k i))
lowest_successor test k i first e = ap (λ (o : Option ℕ). lowest_with o (filter test (targets i.operand))) e ∙ go (goes_on (opcode_of i.op)) (test (k + 1)) refl
  where
    go : (g c : Bool) → test (k + 1) ≡ c → lowest_with (if g && c then Some (k + 1) else None) (filter test (targets i.operand)) ≡ least (filter test (if g then (k + 1) ∷ targets i.operand else targets i.operand))
    go false c e = with_none (filter test (targets i.operand))
    go true true e = with_best (k + 1) (filter test (targets i.operand)) ∙ sym (ap (λ (b : Bool). least (cond b ((k + 1) ∷ filter test (targets i.operand)) (filter test (targets i.operand)))) e)
    go true false e = with_none (filter test (targets i.operand)) ∙ sym (ap (λ (b : Bool). least (cond b ((k + 1) ∷ filter test (targets i.operand)) (filter test (targets i.operand)))) e)

lowest-append : (best : Option ℕ) (xs ys : List ℕ) → lowest_with best (xs ++ ys) ≡ lowest_with (lowest_with best xs) ys
lowest-append best [] ys = refl
lowest-append best (x ∷ xs) ys = lowest-append (Some (least_of x best)) xs ys

-- the lowest of what some elements give from one on, where that one's are told
pub lowest_more : {X : Type 0} (f : X → List (ℕ × ℕ)) (test : ℕ × ℕ → Bool) (xs : List X) (k : ℕ) (d : X) (best new : Option ℕ) → k < length xs → new ≡ lowest_with best (map (λ (e : ℕ × ℕ). e.0) (filter test (f (get_or xs k d))))
    → lowest_with new (map (λ (e : ℕ × ℕ). e.0) (filter test (flat_map f (drop (k + 1) xs)))) ≡ lowest_with best (map (λ (e : ℕ × ℕ). e.0) (filter test (flat_map f (drop k xs))))
lowest_more f test xs k d best new h e =
    ap (λ (o : Option ℕ). lowest_with o (map (λ (p : ℕ × ℕ). p.0) (filter test (flat_map f (drop (k + 1) xs))))) e
    ∙ sym (at_drop_more (λ l. lowest_with best (map (λ (p : ℕ × ℕ). p.0) (filter test (flat_map f l)))) xs k d h
    ∙ ap (λ l. lowest_with best (map (λ (p : ℕ × ℕ). p.0) l)) (filter-append test (f (get_or xs k d)) (flat_map f (drop (k + 1) xs)))
    ∙ ap (lowest_with best) (map-append (λ (p : ℕ × ℕ). p.0) (filter test (f (get_or xs k d))) (filter test (flat_map f (drop (k + 1) xs))))
    ∙ lowest-append best (map (λ (p : ℕ × ℕ). p.0) (filter test (f (get_or xs k d)))) (map (λ (p : ℕ × ℕ). p.0) (filter test (flat_map f (drop (k + 1) xs)))))
