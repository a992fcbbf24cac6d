-- Blocks to which one more clause is added.
use Rattle.std.proofs.Common.{◌≡◌, ◌+◌, ℕ, List, [], ◌∷◌, ◌++◌, length, sym, subst, ap, ◌∙◌, append_assoc, inl, inr, ◌⊎◌, Bool, true, ◌||◌, arith}
use Rattle.std.specs.Prelude.{IsPermutation}
use Rattle.cil_model.specs.declared.body.Region.{Region}
use Rattle.cil_model.specs.declared.body.RegionKind.{RegionKind}
use Rattle.cil_model.specs.declared.tree.Block.{Block}
use Rattle.cil_model.specs.declared.tree.Block.TheVariants.{Guarded}
use Rattle.cil_model.specs.declared.tree.Handler.{Handler}
use Rattle.region_tree.specs.Nesting.{have_same_try, is_nested}
use Rattle.region_tree.specs.Trees.{Before, clauses, code, handler_parts, handlers_clauses, own_clauses}
use Rattle.block_laws.specs.Blocks.{HasParts}
use Rattle.block_laws.specs.Growth.{SearchesLike, clause_behind}
use Rattle.block_laws.proofs.CodeLaws.{all_code, another_keeps_code, first_keeps_code, handler_of}
use Rattle.block_laws.proofs.ClauseLaws.{another_keeps_clauses, clauses_around, clauses_joined, first_keeps_clauses, new_handler, no_handler_clauses}
use Rattle.block_laws.proofs.GrowthLaws.{another_handler, first_handler}
use Rattle.tree_building.specs.Building.{Has}
use Rattle.tree_building.specs.Building.Has.{first}
use Rattle.tree_building.proofs.OrderLaws.{Keeps, all_has, before_across, before_left, before_right, has_cases, has_left, has_right, keeps_left, keeps_right, keeps_swapped}
use Rattle.tree_building.proofs.PlaceLaws.{Within, begins_before, begins_behind, blocks_placed, ends_before, own_tries}

-- nested in another clause, or of its try
abbrev pub near : Region → Region → Bool
near r s = is_nested r s || have_same_try r s

-- The code stays, a search takes one more handler, and what is nested or of one try keeps its order, the new clause behind.
pub record Grows (old new : List Block) (r : Region) : Type 0 where
  pub same_code : code new ≡ code old
  pub search : (rows : List Region) → SearchesLike old rows → SearchesLike new (rows ++ r ∷ [])
  pub same : IsPermutation (clauses 0 old ++ r ∷ []) (clauses 0 new)
  pub kept : (e s : Region) → HasParts e → near e s ≡ true → Before (clauses 0 old) e s → Before (clauses 0 new) e s
  pub last : (e : Region) → HasParts e → near e r ≡ true → Has (clauses 0 old) e → Before (clauses 0 new) e r

-- ---- lists of clauses

abbrev old_list : (f i h o w b : List Region) → List Region
old_list f i h o w b = f ++ ((i ++ (h ++ o)) ++ (w ++ b))

abbrev new_list : (f i h o w b : List Region) → List Region
new_list f i h o w b = f ++ ((i ++ ((h ++ w) ++ o)) ++ b)

in_threes : (f i h x b : List Region) → (f ++ (i ++ h)) ++ (x ++ b) ≡ f ++ (i ++ (h ++ (x ++ b)))
in_threes f i h x b = append_assoc f (i ++ h) (x ++ b) ∙ ap (λ (l : List Region). f ++ l) (append_assoc i h (x ++ b))

old_is : (f i h o w b : List Region) → (f ++ (i ++ h)) ++ ((o ++ w) ++ b) ≡ old_list f i h o w b
old_is f i h o w b =
    in_threes f i h (o ++ w) b
    ∙ ap (λ (l : List Region). f ++ (i ++ (h ++ l))) (append_assoc o w b)
    ∙ ap (λ (l : List Region). f ++ l) (sym (append_assoc i (h ++ o) (w ++ b) ∙ ap (λ (l : List Region). i ++ l) (append_assoc h o (w ++ b))))

new_is : (f i h o w b : List Region) → (f ++ (i ++ h)) ++ ((w ++ o) ++ b) ≡ new_list f i h o w b
new_is f i h o w b =
    in_threes f i h (w ++ o) b
    ∙ ap (λ (l : List Region). f ++ (i ++ (h ++ l))) (append_assoc w o b)
    ∙ ap (λ (l : List Region). f ++ l) (sym (append_assoc i ((h ++ w) ++ o) b ∙ ap (λ (l : List Region). i ++ l) (append_assoc (h ++ w) o b ∙ append_assoc h w (o ++ b))))

kept_in : (f i h o w b : List Region) (r e s : Region) → (Has o e → Has w s → ⊥) → Before (old_list f i h o w b) e s → Before (new_list f i h (o ++ r ∷ []) w b) e s
kept_in f i h o w b r e s apart before =
    let keeps : Keeps ((f ++ (i ++ h)) ++ ((o ++ w) ++ b)) ((f ++ (i ++ h)) ++ ((w ++ (o ++ r ∷ [])) ++ b)) e s
    = keeps_left (f ++ (i ++ h)) ((o ++ w) ++ b) ((w ++ (o ++ r ∷ [])) ++ b) e s (keeps_right b (o ++ w) (w ++ (o ++ r ∷ [])) e s (keeps_swapped o w (r ∷ []) e s apart)) in
    subst (λ (l : List Region). Before l e s) (new_is f i h (o ++ r ∷ []) w b) (keeps.order (subst (λ (l : List Region). Before l e s) (sym (old_is f i h o w b)) before))

last_in : (f i h o w b : List Region) (r e : Region) → (Has f e → ⊥) → (Has b e → ⊥) → Has (old_list f i h o w b) e → Before (new_list f i h (o ++ r ∷ []) w b) e r
last_in f i h o w b r e not_front not_back has =
    subst (λ (l : List Region). Before l e r) (new_is f i h (o ++ r ∷ []) w b)
    (outer (has_cases (f ++ (i ++ h)) ((o ++ w) ++ b) e (subst (λ (l : List Region). Has l e) (sym (old_is f i h o w b)) has)))
  where
    own : Has (o ++ r ∷ []) r
    own = has_right o (first r [])

    all : Has ((w ++ (o ++ r ∷ [])) ++ b) r
    all = has_left b (has_right w own)

    front : Has f e ⊎ Has (i ++ h) e → Before ((f ++ (i ++ h)) ++ ((w ++ (o ++ r ∷ [])) ++ b)) e r
    front (inl x) = absurd (not_front x)
    front (inr x) = before_across (has_right f x) all

    middle : Has o e ⊎ Has w e → Before ((f ++ (i ++ h)) ++ ((w ++ (o ++ r ∷ [])) ++ b)) e r
    middle (inl x) = before_right (f ++ (i ++ h)) (before_left b (before_right w (before_across x (first r []))))
    middle (inr x) = before_right (f ++ (i ++ h)) (before_left b (before_across x own))

    back : Has (o ++ w) e ⊎ Has b e → Before ((f ++ (i ++ h)) ++ ((w ++ (o ++ r ∷ [])) ++ b)) e r
    back (inl x) = middle (has_cases o w e x)
    back (inr x) = absurd (not_back x)

    outer : Has (f ++ (i ++ h)) e ⊎ Has ((o ++ w) ++ b) e → Before ((f ++ (i ++ h)) ++ ((w ++ (o ++ r ∷ [])) ++ b)) e r
    outer (inl x) = front (has_cases f (i ++ h) e x)
    outer (inr x) = back (has_cases (o ++ w) b e x)

-- ---- clauses of blocks

old_clauses : (front inner own back : List Block) (hs : List Handler) → clauses 0 (front ++ Guarded inner hs ∷ (own ++ back)) ≡ old_list (clauses 0 front) (clauses (length (code front)) inner) (handlers_clauses (length (code front) + length (code inner)) (handler_parts hs)) (own_clauses (length (code front)) (length (code front) + length (code inner)) (length (code front) + length (code inner)) (handler_parts hs)) (clauses (length (code front) + length (code inner) + length (all_code hs)) own) (clauses (length (code front) + length (code inner) + length (all_code hs) + length (code own)) back)
old_clauses front inner own back hs =
    let from : ℕ = length (code front) in
    let to : ℕ = from + length (code inner) in
    let at : ℕ = to + length (all_code hs) in
    clauses_around front inner (own ++ back) hs
    ∙ ap (λ (l : List Region). clauses 0 front ++ ((clauses from inner ++ (handlers_clauses to (handler_parts hs) ++ own_clauses from to to (handler_parts hs))) ++ l)) (clauses_joined own back at)

another_kept : (kind : RegionKind) (front inner own back : List Block) (hs : List Handler) → HasParts (clause_behind kind front inner hs own) → (e s : Region) → HasParts e → near e s ≡ true → Before (clauses 0 (front ++ Guarded inner hs ∷ (own ++ back))) e s → Before (clauses 0 (front ++ Guarded inner (hs ++ handler_of kind own ∷ []) ∷ back)) e s
another_kept kind front inner own back hs parts e s p n before =
    let from : ℕ = length (code front) in
    let to : ℕ = from + length (code inner) in
    let at : ℕ = to + length (all_code hs) in
    let apart : Has (own_clauses from to to (handler_parts hs)) e → Has (clauses at own) s → ⊥
    = λ x y.
    let begins : e.try_from ≡ from = all_has (λ (d : Region). d.try_from ≡ from) (own_tries from to to (handler_parts hs)) x in
    let within : Within at (at + length (code own)) s = all_has (Within at (at + length (code own))) (blocks_placed own at) y in
    begins_before e s (omega (arith, begins, within.try_from, parts.has_try)) (omega (arith, begins, within.handler_from, parts.has_try)) n in
    subst (λ (l : List Region). Before l e s) (sym (new_handler kind front inner own back hs))
    (kept_in (clauses 0 front) (clauses from inner) (handlers_clauses to (handler_parts hs)) (own_clauses from to to (handler_parts hs)) (clauses at own) (clauses (at + length (code own)) back) (clause_behind kind front inner hs own) e s apart
    (subst (λ (l : List Region). Before l e s) (old_clauses front inner own back hs) before))

another_last : (kind : RegionKind) (front inner own back : List Block) (hs : List Handler) → HasParts (clause_behind kind front inner hs own) → (e : Region) → HasParts e → near e (clause_behind kind front inner hs own) ≡ true → Has (clauses 0 (front ++ Guarded inner hs ∷ (own ++ back))) e → Before (clauses 0 (front ++ Guarded inner (hs ++ handler_of kind own ∷ []) ∷ back)) e (clause_behind kind front inner hs own)
another_last kind front inner own back hs parts e p n has =
    let from : ℕ = length (code front) in
    let to : ℕ = from + length (code inner) in
    let at : ℕ = to + length (all_code hs) in
    let end : ℕ = at + length (code own) in
    let r : Region = clause_behind kind front inner hs own in
    let not_front : Has (clauses 0 front) e → ⊥
    = λ x. let within : Within 0 (0 + from) e = all_has (Within 0 (0 + from)) (blocks_placed front 0) x in ends_before e r p parts (omega (arith, within.try_to)) n in
    let not_back : Has (clauses end back) e → ⊥
    = λ x. let within : Within end (end + length (code back)) e = all_has (Within end (end + length (code back))) (blocks_placed back end) x in begins_behind e r p parts within.try_from n in
    subst (λ (l : List Region). Before l e r) (sym (new_handler kind front inner own back hs))
    (last_in (clauses 0 front) (clauses from inner) (handlers_clauses to (handler_parts hs)) (own_clauses from to to (handler_parts hs)) (clauses at own) (clauses end back) r e not_front not_back
    (subst (λ (l : List Region). Has l e) (old_clauses front inner own back hs) has))

-- one more handler of a protected block
pub another_grows : (kind : RegionKind) (front inner own back : List Block) (hs : List Handler) → HasParts (clause_behind kind front inner hs own) → Grows (front ++ Guarded inner hs ∷ (own ++ back)) (front ++ Guarded inner (hs ++ handler_of kind own ∷ []) ∷ back) (clause_behind kind front inner hs own)
another_grows kind front inner own back hs parts = record {
  same_code = another_keeps_code kind front inner own back hs;
  search = λ rows alike. another_handler kind front inner own back hs rows alike;
  same = another_keeps_clauses kind front inner own back hs;
  kept = another_kept kind front inner own back hs parts;
  last = another_last kind front inner own back hs parts;
}

-- a protected block with its first handler
pub first_grows : (kind : RegionKind) (front inner own back : List Block) → HasParts (clause_behind kind front inner [] own) → Grows (front ++ (inner ++ (own ++ back))) (front ++ Guarded inner (handler_of kind own ∷ []) ∷ back) (clause_behind kind front inner [] own)
first_grows kind front inner own back parts = record {
  same_code = first_keeps_code kind front inner own back;
  search = λ rows alike. first_handler kind front inner own back rows alike;
  same = first_keeps_clauses kind front inner own back;
  kept = λ e s p n b. another_kept kind front inner own back [] parts e s p n (subst (λ (l : List Region). Before l e s) (no_handler_clauses front inner (own ++ back)) b);
  last = λ e p n h. another_last kind front inner own back [] parts e p n (subst (λ (l : List Region). Has l e) (no_handler_clauses front inner (own ++ back)) h);
}
