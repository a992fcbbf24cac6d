-- Where fields stand, one type of a chain after another.
use Rattle.std.proofs.Common.{◌≡◌, ◌∙◌, ap, refl, sym, arith, ℕ, suc, ◌+◌, ◌==◌, Bool, true, false, if◌then◌else◌, List, [], ◌∷◌, ◌++◌, length, append-nil, append_assoc}
use Rattle.std.specs.Prelude.{Option, None, Some, filter, map, option_map}
use Rattle.cil_model.specs.declared.ty.Ty.{Ty, out-Ty, out-roll-Ty}
use Rattle.cil_model.specs.declared.ty.Ty.TheOpen.{Ty-F}
use Rattle.cil_model.specs.declared.ty.Ty.TheVariants as ty
use Rattle.cil_model.specs.declared.program.Program.{Program}
use Rattle.cil_semantics.specs.Places.{layouts, own_fields, own_layout, place_of}
use Rattle.cil_semantics.specs.Lookups.{field_of, in_set, type_of}
use Rattle.cil_semantics.specs.Types.{under}
use Rattle.cil_semantics.specs.Words.{maybe}
use Rattle.run_values.specs.Kinds.{is_instance_field}

-- the last type of a chain has the first fields
pub layouts_last : (p : Program) (ts : List Ty) (t : Ty) → layouts p (ts ++ t ∷ []) ≡ own_layout p t ++ layouts p ts
layouts_last p [] t = sym (append-nil (own_layout p t))
layouts_last p (s ∷ ts) t = ap (λ xs. xs ++ own_layout p s) (layouts_last p ts t) ∙ append_assoc (own_layout p t) (layouts p ts) (own_layout p s)

abbrev first_place : Option ℕ → ℕ → Option ℕ → Option ℕ
first_place (Some i) n o = Some i
first_place None n o = option_map (λ j. n + j) o

suc_sum : (n j : ℕ) → suc (n + j) ≡ suc n + j
suc_sum n j = omega arith

zero_sum : (j : ℕ) → j ≡ 0 + j
zero_sum j = omega arith

sum_sum : (a b j : ℕ) → (a + b) + j ≡ a + (b + j)
sum_sum a b j = omega arith

suc_place : (a : Option ℕ) (n : ℕ) (o : Option ℕ) → option_map suc (first_place a n o) ≡ first_place (option_map suc a) (suc n) o
suc_place (Some i) n o = refl
suc_place None n None = refl
suc_place None n (Some j) = ap Some (suc_sum n j)

place_append : (f : ℕ) (xs ys : List (ℕ × Ty)) → place_of f (xs ++ ys) ≡ first_place (place_of f xs) (length xs) (place_of f ys)
place_append f [] ys = cases (place_of f ys)
  where
    cases : (o : Option ℕ) → o ≡ option_map (λ j. 0 + j) o
    cases None = refl
    cases (Some j) = ap Some (zero_sum j)
place_append f (x ∷ xs) ys = cases (x.0 == f) (place_append f xs ys)
  where
    cases : (b : Bool) {r : Option ℕ} → r ≡ first_place (place_of f xs) (length xs) (place_of f ys) → (if b then Some 0 else option_map suc r) ≡ first_place (if b then Some 0 else option_map suc (place_of f xs)) (suc (length xs)) (place_of f ys)
    cases true e = refl
    cases false e = ap (option_map suc) e ∙ suc_place (place_of f xs) (length xs) (place_of f ys)

-- the field is found among those of the last type
pub place_found : (p : Program) (f before i : ℕ) (ts : List Ty) (t : Ty) → place_of f (own_layout p t) ≡ Some i → Some (before + i) ≡ option_map (λ j. before + j) (place_of f (layouts p (ts ++ t ∷ [])))
place_found p f before i ts t e =
    sym (ap (λ xs. option_map (λ j. before + j) (place_of f xs)) (layouts_last p ts t)
    ∙ ap (option_map (λ j. before + j)) (place_append f (own_layout p t) (layouts p ts) ∙ ap (λ o. first_place o (length (own_layout p t)) (place_of f (layouts p ts))) e))

-- it isn't, and is looked for behind them
pub place_behind : (p : Program) (f before count : ℕ) (ts : List Ty) (t : Ty) → place_of f (own_layout p t) ≡ None → count ≡ length (own_layout p t) → option_map (λ j. (before + count) + j) (place_of f (layouts p ts)) ≡ option_map (λ j. before + j) (place_of f (layouts p (ts ++ t ∷ [])))
place_behind p f before count ts t e h =
    ap (λ (c : ℕ). option_map (λ j. (before + c) + j) (place_of f (layouts p ts))) h
    ∙ cases (place_of f (layouts p ts))
    ∙ sym (ap (λ xs. option_map (λ j. before + j) (place_of f xs)) (layouts_last p ts t)
    ∙ ap (option_map (λ j. before + j)) (place_append f (own_layout p t) (layouts p ts) ∙ ap (λ o. first_place o (length (own_layout p t)) (place_of f (layouts p ts))) e))
  where
    cases : (o : Option ℕ) → option_map (λ j. (before + length (own_layout p t)) + j) o ≡ option_map (λ j. before + j) (option_map (λ j. length (own_layout p t) + j) o)
    cases None = refl
    cases (Some j) = ap Some (sum_sum before (length (own_layout p t)) j)

-- among the fields of a type of the set, whatever their types
pub known_place : (p : Program) (f k : ℕ) (t : Ty) (fs : List ℕ) (r : Option ℕ) → t ≡ ty.Known k → fs ≡ (type_of p k).fields → ((typed : ℕ → Ty) → r ≡ place_of f (map (λ g. (g, typed g)) (filter (is_instance_field p) fs))) → r ≡ place_of f (own_layout p t)
unfolding out-Ty denote.Hole.Carrier.out
known_place p f k t fs r e h place =
    place (λ g. under [] [] (field_of p g).ty)
    ∙ ap (λ (gs : List ℕ). place_of f (map (λ g. (g, under [] [] (field_of p g).ty)) (filter (is_instance_field p) gs))) h
    ∙ sym (ap (λ (u : Ty). place_of f (own_layout p u)) e)

instance_out : (k : ℕ) (ts : List Ty) → out-Ty (ty.Inst k ts) ≡ Ty-F.Inst k ts
instance_out k ts = sym (sym (out-roll-Ty (Ty-F.Inst k ts)) ∙ ap out-Ty (ty.rolls-Inst k ts))

pub instance_place : (p : Program) (f k : ℕ) (args : List Ty) (t : Ty) (fs : List ℕ) (r : Option ℕ) → t ≡ ty.Inst k args → fs ≡ (type_of p k).fields → ((typed : ℕ → Ty) → r ≡ place_of f (map (λ g. (g, typed g)) (filter (is_instance_field p) fs))) → r ≡ place_of f (own_layout p t)
instance_place p f k args t fs r e h place =
    place (λ g. under args [] (field_of p g).ty)
    ∙ ap (λ (gs : List ℕ). place_of f (map (λ g. (g, under args [] (field_of p g).ty)) (filter (is_instance_field p) gs))) h
    ∙ sym (ap (λ (l : Ty-F Ty). place_of f (maybe [] (λ (d : ℕ × List Ty). map (λ g. (g, under d.1 [] (field_of p g).ty)) (own_fields p (type_of p d.0))) (in_set l))) (ap out-Ty e ∙ instance_out k args))
