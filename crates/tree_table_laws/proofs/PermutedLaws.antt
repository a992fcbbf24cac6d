-- The table of a body's tree, which has the body's clauses in another order.
use Rattle.std.proofs.Common.{◌≡◌, ◌+◌, ◌<◌, ◌≤◌, ℕ, Bool, true, false, cond, ◌⊎◌, inl, inr, List, [], ◌∷◌, length, refl, sym, subst, ap, ◌∙◌, arith}
use Rattle.std.specs.Prelude.{IsPermutation, max, slice_get}
use Rattle.std.proofs.lemmas.Bool.{both_ways}
use Rattle.std.proofs.lemmas.List.Elements.{All-from_recursion, recursion_from_All}
use Rattle.std.proofs.lemmas.List.Sorted.{All-permutation, IsPermutation-sym, list_any-IsPermutation}
use Rattle.cil_base.specs.declared.refusal.Place.{Place}
use Rattle.cil_base.specs.Refusals.{NoneBroken}
use Rattle.cil_model.specs.declared.body.Body.{Body}
use Rattle.cil_model.specs.declared.body.Region.{Region}
use Rattle.cil_model.specs.declared.tree.Tree.{Tree}
use Rattle.region_tree.specs.Nesting.{depths_of, is_nested}
use Rattle.region_tree.specs.Rules.{BreaksControl, is_filter}
use Rattle.region_tree.specs.Trees.{StandsForBody, body_of_tree, clauses, code}
use Rattle.tree_table_laws.specs.Tables.{LieWithin}
use Rattle.tree_table_laws.proofs.Lists.{Each, each_weaker}
use Rattle.tree_table_laws.proofs.Edges.{out_weaker, wrong}
use Rattle.tree_table_laws.proofs.HeightLaws.{deep}
use Rattle.tree_table_laws.proofs.Lying.{siblings_nest_not}
use Rattle.tree_table_laws.proofs.OrderLaws.{HasCode, Within, clauses_within}
use Rattle.tree_table_laws.proofs.NestLaws.{Nests, Ordered, all_nest, ordered}
use Rattle.tree_table_laws.proofs.RuleLaws.{Keeps, keeps, nests}
use Rattle.tree_table_laws.proofs.RuleLaws as rules
use Rattle.tree_table_laws.proofs.TableLaws.{depth_at, take_front}
use Rattle.tree_table_laws.proofs.TableLaws as table

-- ---- depths by clauses

abbrev Has : List Region → Region → Type 0
Has [] r = ⊥
Has (x ∷ xs) r = (x ≡ r) ⊎ Has xs r

-- a clause of the table lies so deep
abbrev LiesAt : List Region → Region → ℕ → Type 0
LiesAt [] r d = ⊥
LiesAt (x ∷ xs) r d = ((x ≡ r) × (deep x xs + 1 ≡ d)) ⊎ LiesAt xs r d

of_each : (P : Region → Type 0) (xs : List Region) (r : Region) (d : ℕ) → Each P xs → LiesAt xs r d → P r
of_each P [] r d a l = absurd l
of_each P (x ∷ xs) r d a (inl l) = subst P l.0 a.0
of_each P (x ∷ xs) r d a (inr l) = of_each P xs r d a.1 l

record Depth (xs : List Region) (r : Region) : Type 0 where
  depth : ℕ
  lies : LiesAt xs r depth

some_depth : (xs : List Region) (r : Region) → Has xs r → Depth xs r
some_depth [] r h = absurd h
some_depth (x ∷ xs) r (inl e) = record { depth = deep x xs + 1; lies = inl (e, refl) }
some_depth (x ∷ xs) r (inr h) =
    let d = some_depth xs r h in
    record { depth = d.depth; lies = inr d.lies }

within_most : (m : ℕ) (xs : List Region) (r : Region) (d : ℕ) → Each (λ n. n ≤ m) (depths_of xs) → LiesAt xs r d → d ≤ m
within_most m [] r d a l = absurd l
within_most m (x ∷ xs) r d a (inl l) = omega (arith, a.0, l.1)
within_most m (x ∷ xs) r d a (inr l) = within_most m xs r d a.1 l

some_deep : (xs : List Region) (r : Region) (d : ℕ) → LiesAt xs r d → 0 < d
some_deep [] r d l = absurd l
some_deep (x ∷ xs) r d (inl l) = omega (arith, l.1)
some_deep (x ∷ xs) r d (inr l) = some_deep xs r d l

-- what a clause is nested in lies no deeper than the deepest of those
around_one : (x : Region) (xs : List Region) (s : Region) (e : ℕ) → LiesAt xs s e → is_nested x s ≡ true → e ≤ deep x xs
around_one x [] s e l n = absurd l
around_one x (y ∷ ys) s e (inl l) n = go (is_nested x y) (ap (λ (z : Region). is_nested x z) l.0 ∙ n)
  where
    go : (b : Bool) → b ≡ true → e ≤ cond b (max (deep y ys + 1) (deep x ys)) (deep x ys)
    go true t = omega (arith, l.1)
    go false t = absurd (both_ways false refl t)
around_one x (y ∷ ys) s e (inr l) n = go (is_nested x y) (around_one x ys s e l n)
  where
    go : (b : Bool) → e ≤ deep x ys → e ≤ cond b (max (deep y ys + 1) (deep x ys)) (deep x ys)
    go true h = omega (arith, h)
    go false h = h

-- a clause lies deeper than one in which it is nested
lies_deeper : (xs : List Region) → Ordered xs → Each (λ x. is_nested x x ≡ false) xs → (r s : Region) (d e : ℕ) → LiesAt xs r d → LiesAt xs s e → is_nested r s ≡ true → e < d
lies_deeper [] o i r s d e l k n = absurd l
lies_deeper (x ∷ xs) o i r s d e (inl l) (inl k) n = absurd (both_ways (is_nested x x) i.0 (ap (λ (z : Region). is_nested z x) l.0 ∙ ap (λ (z : Region). is_nested r z) k.0 ∙ n))
lies_deeper (x ∷ xs) o i r s d e (inl l) (inr k) n = omega (arith, l.1, around_one x xs s e k (ap (λ (z : Region). is_nested z s) l.0 ∙ n))
lies_deeper (x ∷ xs) o i r s d e (inr l) (inl k) n = absurd (both_ways (is_nested r x) (of_each (λ z. is_nested z x ≡ false) xs r d o.0 l) (ap (λ (z : Region). is_nested r z) k.0 ∙ n))
lies_deeper (x ∷ xs) o i r s d e (inr l) (inr k) n = lies_deeper xs o.1 i.1 r s d e l k n

-- ---- the other order

module _ (xs : List Region) (o : Ordered xs) (i : Each (λ x. is_nested x x ≡ false) xs) where
  -- each clause lies no deeper than it did
  abbrev AllLower : List Region → Type 0
  AllLower [] = Unit {0}
  AllLower (z ∷ zs) = ((d : ℕ) → LiesAt xs z d → deep z zs + 1 ≤ d) × AllLower zs

  lower_one : (zs : List Region) → Each (Has xs) zs → AllLower zs → (z : Region) (d : ℕ) → LiesAt xs z d → deep z zs + 1 ≤ d
  lower_one [] h a z d l = omega (arith, some_deep xs z d l)
  lower_one (s ∷ zs) h a z d l = go (is_nested z s) refl (lower_one zs h.1 a.1 z d l)
    where
      go : (b : Bool) → is_nested z s ≡ b → deep z zs + 1 ≤ d → cond b (max (deep s zs + 1) (deep z zs)) (deep z zs) + 1 ≤ d
      go true n x =
          let its = some_depth xs s h.0 in
          omega (arith, x, a.0 its.depth its.lies, lies_deeper xs o i z s d its.depth l its.lies n)
      go false n x = x

  all_lower : (zs : List Region) → Each (Has xs) zs → AllLower zs
  all_lower [] h = tt
  all_lower (z ∷ zs) h = (λ d l. lower_one zs h.1 (all_lower zs h.1) z d l, all_lower zs h.1)

  depths_within : (m : ℕ) → Each (λ n. n ≤ m) (depths_of xs) → (zs : List Region) → Each (Has xs) zs → AllLower zs → Each (λ n. n ≤ m) (depths_of zs)
  depths_within m e [] h a = tt
  depths_within m e (z ∷ zs) h a =
      let its = some_depth xs z h.0 in
      (omega (arith, a.0 its.depth its.lies, within_most m xs z its.depth e its.lies), depths_within m e zs h.1 a.1)

each_has : (xs : List Region) → Each (Has xs) xs
each_has [] = tt
each_has (x ∷ xs) = (inl refl, each_weaker (Has xs) (Has (x ∷ xs)) (λ y h. inr h) xs (each_has xs))

each_permuted : (P : Region → Type 0) (xs ys : List Region) → IsPermutation xs ys → Each P xs → Each P ys
each_permuted P xs ys p a = recursion_from_All P ys (All-permutation P xs ys p (All-from_recursion P xs a))

-- ---- the tree of a body

-- what is known of a body that breaks none of the rules, and of its tree's table
record Known (t : Tree) (b : Body) : Type 0 where
  nests : Nests [] b.regions
  code : Each HasCode (clauses 0 t.blocks)
  loose : Each (λ x. is_nested x x ≡ false) b.regions

known : (place : Place) (t : Tree) (b : Body) → StandsForBody t b → NoneBroken (BreaksControl place b) → Known t b
known place t b s none =
    let nest : Nests [] b.regions = all_nest place b [] b.regions refl (nests place b none) in
    let had : Each HasCode (clauses 0 t.blocks) = each_permuted HasCode b.regions (clauses 0 t.blocks) s.regions.same nest.code in
    record {
      nests = nest;
      code = had;
      loose = each_permuted (λ x. is_nested x x ≡ false) (clauses 0 t.blocks) b.regions (IsPermutation-sym b.regions (clauses 0 t.blocks) s.regions.same) (each_weaker (Within 0 (0 + length (code t.blocks))) (λ x. is_nested x x ≡ false) (λ x w. siblings_nest_not x x w.parts w.parts refl refl) (clauses 0 t.blocks) (clauses_within 0 t.blocks had));
    }

depth_kept : (t : Tree) (b : Body) (m : ℕ) → StandsForBody t b → Known t b → Each (λ d. d ≤ m) (depths_of b.regions) → Each (λ d. d ≤ m) (depths_of (clauses 0 t.blocks))
depth_kept t b m s k e =
    let o : Ordered b.regions = ordered [] b.regions k.nests.behind in
    let h : Each (Has b.regions) (clauses 0 t.blocks) = each_permuted (Has b.regions) b.regions (clauses 0 t.blocks) s.regions.same (each_has b.regions) in
    depths_within b.regions o k.loose m e (clauses 0 t.blocks) h (all_lower b.regions o k.loose (clauses 0 t.blocks) h)

pub depths_stay : (place : Place) (t : Tree) (b : Body) (m : ℕ) → StandsForBody t b → NoneBroken (BreaksControl place b) → LieWithin m b.regions → LieWithin m (clauses 0 t.blocks)
depths_stay place t b m s none e =
    All-from_recursion (λ d. d ≤ m) (depths_of (clauses 0 t.blocks)) (depth_kept t b m s (known place t b s none) (recursion_from_All (λ d. d ≤ m) (depths_of b.regions) e))

pub none_broken : (place : Place) (t : Tree) (b : Body) → StandsForBody t b → NoneBroken (BreaksControl place b) → NoneBroken (BreaksControl place (body_of_tree t))
none_broken place t b s none =
    let k : Known t b = known place t b s none in
    let kept : Keeps b = keeps place b none in
    let ys : List Region = clauses 0 t.blocks in
    rules.none_broken place (body_of_tree t)
    (table.none_broken place t (All-from_recursion HasCode ys k.code) (All-from_recursion (λ d. d ≤ 1000) (depths_of ys) (depth_kept t b 1000 s k k.nests.depth)))
    (record {
      filters = each_permuted (λ (r : Region). is_filter r.kind ≡ false) b.regions ys s.regions.same kept.filters;
      edges = λ n i e. sym (list_any-IsPermutation (wrong n i) b.regions ys s.regions.same) ∙ kept.edges n i (sym (ap (λ l. slice_get l n) s.instrs) ∙ e);
      ends = λ n i e. out_weaker b.regions ys n i (λ p h. sym (list_any-IsPermutation p b.regions ys s.regions.same) ∙ h) (kept.ends n i (sym (ap (λ l. slice_get l n) s.instrs) ∙ e));
    })
