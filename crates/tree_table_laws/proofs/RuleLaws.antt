-- Where none of the rules on regions is broken, and what each says then.
use Rattle.std.proofs.Common.{◌≡◌, ◌+◌, ℕ, zero, suc, false, Option, Some, None, List, [], ◌∷◌, ◌++◌, map, refl, subst, inl, inr, ◌⊎◌, arith}
use Rattle.std.specs.Prelude.{slice_get}
use Rattle.std.specs.List.{enumerate_from}
use Rattle.std.proofs.lemmas.Bool.{both_ways, false_from_ne_true}
use Rattle.std.proofs.lemmas.Option.{none-some}
use Rattle.cil_base.specs.declared.refusal.Place.{Place}
use Rattle.cil_base.specs.declared.refusal.Refusal.{Refusal}
use Rattle.cil_base.specs.Refusals.{Fails, NoneBroken, Test}
use Rattle.cil_model.specs.declared.body.Body.{Body}
use Rattle.cil_model.specs.declared.body.Instr.{Instr}
use Rattle.cil_model.specs.declared.body.Region.{Region}
use Rattle.region_tree.specs.Rules.{BreaksControl, breaks_region, edge_test, end_test, filter_test, is_filter, is_out_of_place, nesting_test}
use Rattle.tree_table_laws.specs.Tables.{BreaksNesting}
use Rattle.tree_table_laws.proofs.Lists.{Each}

-- ---- tests

in_left : (xs ys : List Test) (r : Refusal) → Fails xs r → Fails (xs ++ ys) r
in_left [] ys r f = absurd f
in_left (x ∷ xs) ys r (inl f) = inl f
in_left (x ∷ xs) ys r (inr f) = inr (in_left xs ys r f)

in_right : (xs ys : List Test) (r : Refusal) → Fails ys r → Fails (xs ++ ys) r
in_right [] ys r f = f
in_right (x ∷ xs) ys r f = inr (in_right xs ys r f)

in_one : (xs ys : List Test) (r : Refusal) → Fails (xs ++ ys) r → Fails xs r ⊎ Fails ys r
in_one [] ys r f = inr f
in_one (x ∷ xs) ys r (inl f) = inl (inl f)
in_one (x ∷ xs) ys r (inr f) = go (in_one xs ys r f)
  where
    go : Fails xs r ⊎ Fails ys r → Fails (x ∷ xs) r ⊎ Fails ys r
    go (inl g) = inl (inr g)
    go (inr g) = inr g

joined : (xs ys : List Test) → NoneBroken (Fails xs) → NoneBroken (Fails ys) → NoneBroken (Fails (xs ++ ys))
joined xs ys a b r f = go (in_one xs ys r f)
  where
    go : Fails xs r ⊎ Fails ys r → ⊥
    go (inl g) = a r g
    go (inr g) = b r g

passes : {X : Type 0} (f : ℕ × X → Test) (n : ℕ) (xs : List X) → NoneBroken (Fails (map f (enumerate_from n xs))) → (k : ℕ) (x : X) → slice_get xs k ≡ Some x → (f (n + k, x)).fails ≡ false
passes {X} f n [] none k x e = absurd (none-some x e)
passes {X} f n (y ∷ ys) none zero x e =
    subst (λ (o : Option X). IsPassed o) e (subst (λ (m : ℕ). (f (m, y)).fails ≡ false) (omega arith) (false_from_ne_true (f (n, y)).fails (λ t. none (f (n, y)).refusal (inl (t, refl)))))
  where
    IsPassed : Option X → Type 0
    IsPassed None = Unit {0}
    IsPassed (Some z) = (f (n + 0, z)).fails ≡ false
passes {X} f n (y ∷ ys) none (suc k) x e =
    subst (λ (m : ℕ). (f (m, x)).fails ≡ false) (omega arith) (passes f (n + 1) ys (λ r g. none r (inr g)) k x e)

none_fails : {X : Type 0} (f : ℕ × X → Test) (n : ℕ) (xs : List X) → ((k : ℕ) (x : X) → slice_get xs k ≡ Some x → (f (n + k, x)).fails ≡ false) → NoneBroken (Fails (map f (enumerate_from n xs)))
none_fails {X} f n [] p r g = g
none_fails {X} f n (y ∷ ys) p r (inl g) = both_ways (f (n, y)).fails (subst (λ (m : ℕ). (f (m, y)).fails ≡ false) (omega arith) (p 0 y refl)) g.0
none_fails {X} f n (y ∷ ys) p r (inr g) =
    none_fails f (n + 1) ys (λ k x e. subst (λ (m : ℕ). (f (m, x)).fails ≡ false) (omega arith) (p (suc k) x e)) r g

all_pass : (f : Region → Test) (xs : List Region) → NoneBroken (Fails (map f xs)) → Each (λ x. (f x).fails ≡ false) xs
all_pass f [] none = tt
all_pass f (x ∷ xs) none = (false_from_ne_true (f x).fails (λ t. none (f x).refusal (inl (t, refl))), all_pass f xs (λ r g. none r (inr g)))

none_of : (f : Region → Test) (xs : List Region) → Each (λ x. (f x).fails ≡ false) xs → NoneBroken (Fails (map f xs))
none_of f [] a r g = g
none_of f (x ∷ xs) a r (inl g) = both_ways (f x).fails a.0 g.0
none_of f (x ∷ xs) a r (inr g) = none_of f xs a.1 r g

-- ---- rules

-- what the rules say of a body that breaks none, but for how its regions lie
pub record Keeps (b : Body) : Type 0 where
  pub filters : Each (λ r. is_filter r.kind ≡ false) b.regions
  pub edges : (k : ℕ) (i : Instr) → slice_get b.instrs k ≡ Some i → breaks_region b.regions k i ≡ false
  pub ends : (k : ℕ) (i : Instr) → slice_get b.instrs k ≡ Some i → is_out_of_place b.regions k i ≡ false

abbrev filters : Place → Body → List Test
filters place b = map (filter_test place b) b.regions

abbrev nestings : Place → Body → List Test
nestings place b = map (nesting_test place b) (enumerate_from 0 b.regions)

abbrev edges : Place → Body → List Test
edges place b = map (edge_test place b) (enumerate_from 0 b.instrs)

abbrev ends : Place → Body → List Test
ends place b = map (end_test place b) (enumerate_from 0 b.instrs)

pub nests : (place : Place) (b : Body) → NoneBroken (BreaksControl place b) → NoneBroken (BreaksNesting place b)
nests place b none r f = none r (in_right (filters place b) (nestings place b ++ (edges place b ++ ends place b)) r (in_left (nestings place b) (edges place b ++ ends place b) r f))

pub keeps : (place : Place) (b : Body) → NoneBroken (BreaksControl place b) → Keeps b
keeps place b none =
    let behind : NoneBroken (Fails (nestings place b ++ (edges place b ++ ends place b))) = λ r f. none r (in_right (filters place b) (nestings place b ++ (edges place b ++ ends place b)) r f) in
    let last : NoneBroken (Fails (edges place b ++ ends place b)) = λ r f. behind r (in_right (nestings place b) (edges place b ++ ends place b) r f) in
    record {
      filters = all_pass (filter_test place b) b.regions (λ r f. none r (in_left (filters place b) (nestings place b ++ (edges place b ++ ends place b)) r f));
      edges = λ k i e. subst (λ (m : ℕ). breaks_region b.regions m i ≡ false) (omega arith) (passes (edge_test place b) 0 b.instrs (λ r f. last r (in_left (edges place b) (ends place b) r f)) k i e);
      ends = λ k i e. subst (λ (m : ℕ). is_out_of_place b.regions m i ≡ false) (omega arith) (passes (end_test place b) 0 b.instrs (λ r f. last r (in_right (edges place b) (ends place b) r f)) k i e);
    }

pub none_broken : (place : Place) (b : Body) → NoneBroken (BreaksNesting place b) → Keeps b → NoneBroken (BreaksControl place b)
none_broken place b nest k =
    joined (filters place b) (nestings place b ++ (edges place b ++ ends place b)) (none_of (filter_test place b) b.regions k.filters)
    (joined (nestings place b) (edges place b ++ ends place b) nest
    (joined (edges place b) (ends place b)
    (none_fails (edge_test place b) 0 b.instrs (λ n i e. subst (λ (m : ℕ). breaks_region b.regions m i ≡ false) (omega arith) (k.edges n i e)))
    (none_fails (end_test place b) 0 b.instrs (λ n i e. subst (λ (m : ℕ). is_out_of_place b.regions m i ≡ false) (omega arith) (k.ends n i e)))))
