-- The table of a tree breaks no rule on nesting.
use Rattle.std.proofs.Common.{◌≡◌, ◌+◌, ◌≤◌, ℕ, false, not, ◌||◌, List, [], ◌∷◌, ◌++◌, length, take, map, refl, sym, subst, ap, ◌∙◌, inl, inr, append_assoc, length-append}
use Rattle.std.specs.Prelude.{◌==◌, nat_lt, slice_index}
use Rattle.std.specs.List.{list_any, enumerate_from}
use Rattle.std.proofs.lemmas.Bool.{both_ways, eq-eqb, le-ltb, not_from_true, or_from}
use Rattle.std.proofs.lemmas.List.Elements.{recursion_from_All}
use Rattle.cil_base.specs.declared.refusal.Place.{Place}
use Rattle.cil_base.specs.Refusals.{Fails, NoneBroken}
use Rattle.cil_model.specs.declared.body.Body.{Body}
use Rattle.cil_model.specs.declared.body.Region.{Region}
use Rattle.cil_model.specs.declared.tree.Tree.{Tree}
use Rattle.region_tree.specs.Nesting.{breaks_nesting, deepest_around, depths_of, handler_start, has_parts, is_misplaced}
use Rattle.region_tree.specs.Rules.{nesting_test}
use Rattle.region_tree.specs.Trees.{body_of_tree, clauses}
use Rattle.tree_table_laws.specs.Tables.{BreaksNesting, HaveCode, LieWithin}
use Rattle.tree_table_laws.proofs.Lists.{Each}
use Rattle.tree_table_laws.proofs.OrderLaws.{AllPlaced, HasCode, Placed, clauses_placed}

-- a region that lies as it may breaks no rule
unbroken : (es : List Region) (r : Region) (depth : ℕ) → Placed es r → depth ≤ 1000 → HasCode r → breaks_nesting es r depth ≡ false
unbroken es r depth p d c =
    or_from (list_any (λ (e : Region). is_misplaced e r) es) (not (r.handler_from == handler_start es r) || (nat_lt 1000 depth || not (has_parts r))) p.lies
    (or_from (not (r.handler_from == handler_start es r)) (nat_lt 1000 depth || not (has_parts r)) (not_from_true (r.handler_from == handler_start es r) (eq-eqb r.handler_from (handler_start es r) p.start))
    (or_from (nat_lt 1000 depth) (not (has_parts r)) (le-ltb 1000 depth d) (not_from_true (has_parts r) c)))

pub take_front : (es rs : List Region) → take (length es) (es ++ rs) ≡ es
take_front [] rs = refl
take_front (e ∷ es) rs = ap (λ (l : List Region). e ∷ l) (take_front es rs)

pub depth_at : (es : List Region) (r : Region) (rs : List Region) → slice_index (depths_of (es ++ r ∷ rs)) (length es) ≡ deepest_around r rs (depths_of rs) + 1
depth_at [] r rs = refl
depth_at (e ∷ es) r rs = depth_at es r rs

none_fails : (place : Place) (b : Body) (es rs : List Region) → b.regions ≡ es ++ rs → AllPlaced es rs → Each HasCode rs → Each (λ d. d ≤ 1000) (depths_of rs) → NoneBroken (Fails (map (nesting_test place b) (enumerate_from (length es) rs)))
none_fails place b es [] e p c d r f = f
none_fails place b es (x ∷ xs) e p c d r (inl f) =
    both_ways (breaks_nesting (take (length es) b.regions) x (slice_index (depths_of b.regions) (length es)))
    (ap (λ (l : List Region). breaks_nesting (take (length es) l) x (slice_index (depths_of l) (length es))) e
    ∙ ap (λ (l : List Region). breaks_nesting l x (slice_index (depths_of (es ++ x ∷ xs)) (length es))) (take_front es (x ∷ xs))
    ∙ ap (λ (n : ℕ). breaks_nesting es x n) (depth_at es x xs)
    ∙ unbroken es x (deepest_around x xs (depths_of xs) + 1) p.0 d.0 c.0)
    f.0
none_fails place b es (x ∷ xs) e p c d r (inr f) =
    none_fails place b (es ++ x ∷ []) xs (e ∙ sym (append_assoc es (x ∷ []) xs)) p.1 c.1 d.1 r
    (subst (λ (n : ℕ). Fails (map (nesting_test place b) (enumerate_from n xs)) r) (sym (length-append es (x ∷ []))) f)

pub none_broken : (place : Place) (t : Tree) → HaveCode (clauses 0 t.blocks) → LieWithin 1000 (clauses 0 t.blocks) → NoneBroken (BreaksNesting place (body_of_tree t))
none_broken place t c d =
    let code : Each HasCode (clauses 0 t.blocks) = recursion_from_All HasCode (clauses 0 t.blocks) c in
    none_fails place (body_of_tree t) [] (clauses 0 t.blocks) refl (clauses_placed 0 t.blocks code) code (recursion_from_All (λ n. n ≤ 1000) (depths_of (clauses 0 t.blocks)) d)
