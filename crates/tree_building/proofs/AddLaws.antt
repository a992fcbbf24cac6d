-- The next handler of the table among the spans.
use Rattle.std.proofs.Common.{◌≡◌, ◌+◌, List, [], ◌∷◌, ◌++◌, All, length, sym, subst, ap, ◌∙◌, arith}
use Rattle.cil_model.specs.declared.body.Instr.{Instr}
use Rattle.cil_model.specs.declared.body.Region.{Region}
use Rattle.cil_model.specs.declared.tree.Block.{Block}
use Rattle.cil_model.specs.declared.tree.Block.TheVariants.{Guarded}
use Rattle.cil_model.specs.declared.tree.Handler.{Handler}
use Rattle.region_tree.specs.Trees.{code}
use Rattle.block_laws.specs.Blocks.{HasParts}
use Rattle.block_laws.specs.Growth.{clause_behind}
use Rattle.block_laws.proofs.CodeLaws.{all_code, handler_of}
use Rattle.block_laws.proofs.GrowthLaws.{one_clause}
use Rattle.tree_building.specs.declared.span.Span.{Span}
use Rattle.tree_building.specs.Building.{Has, IsBuilt, IsCovered, IsOwn, of_try}
use Rattle.tree_building.specs.Building.Has.{first, next}
use Rattle.tree_building.specs.Spans.{IsSpan, blocks_of, grown_span, with_handlers}
use Rattle.tree_building.proofs.OrderLaws.{all_has, has_right}
use Rattle.tree_building.proofs.PlaceLaws.{nested_in_try}
use Rattle.tree_building.proofs.GrowthLaws.{Grows, another_grows, first_grows}
use Rattle.tree_building.proofs.SpanLaws.{LiesIn, blocks_joined, laid_in, laid_size}
use Rattle.tree_building.proofs.StepLaws.{Around, own_within, step}
use Rattle.tree_building.proofs.RowLaws.{IsTry}

clause_is : (r : Region) (front inner own : List Block) (hs : List Handler) → 0 + length (code front) ≡ r.try_from → r.try_from + length (code inner) ≡ r.try_to → r.try_to + length (all_code hs) ≡ r.handler_from → r.handler_from + length (code own) ≡ r.handler_to → clause_behind r.kind front inner hs own ≡ r
clause_is r front inner own hs a b c d =
    one_clause r.kind (length (code front)) (length (code front) + length (code inner)) (length (code front) + length (code inner) + length (all_code hs)) (length (code front) + length (code inner) + length (all_code hs) + length (code own)) r.try_from r.try_to r.handler_from r.handler_to
    (omega (arith, a)) (omega (arith, a, b)) (omega (arith, a, b, c)) (omega (arith, a, b, c, d))

grows_as : (old new was is : List Block) (r c : Region) → was ≡ old → is ≡ new → c ≡ r → (HasParts c → Grows was is c) → HasParts r → Grows old new r
grows_as old new was is r c e f g grows p =
    subst (λ (l : List Block). Grows l new r) e (subst (λ (l : List Block). Grows was l r) f (subst (λ (d : Region). Grows was is d) g (grows (subst HasParts (sym g) p))))

old_blocks : (left mid own right : List Span) → blocks_of left ++ (blocks_of mid ++ (blocks_of own ++ blocks_of right)) ≡ blocks_of (left ++ (mid ++ (own ++ right)))
old_blocks left mid own right =
    sym (blocks_joined left (mid ++ (own ++ right)) ∙ ap (λ (l : List Block). blocks_of left ++ l) (blocks_joined mid (own ++ right) ∙ ap (λ (l : List Block). blocks_of mid ++ l) (blocks_joined own right)))

-- the first handler: the spans of the try become one
pub first_step : (instrs : List Instr) (all rows : List Region) (r : Region) (left inner own right : List Span) → IsBuilt instrs all rows (left ++ (inner ++ (own ++ right))) → All HasParts rows → HasParts r → Around instrs r left inner own right → r.handler_from ≡ r.try_to → of_try r.try_from r.try_to rows ≡ [] → IsBuilt instrs all (rows ++ r ∷ []) (left ++ grown_span r (blocks_of inner) [] (blocks_of own) ∷ right)
first_step instrs all rows r left inner own right built parts p around starts none =
    let i : r.try_from + length (code (blocks_of inner)) ≡ r.try_to = laid_size r.try_from r.handler_from inner around.tried ∙ starts in
    let h : r.try_to + length (all_code []) ≡ r.handler_from = omega (arith, starts) in
    let new : List Span = left ++ grown_span r (blocks_of inner) [] (blocks_of own) ∷ right in
    let grows : Grows (blocks_of (left ++ (inner ++ (own ++ right)))) (blocks_of new) r
    = grows_as (blocks_of (left ++ (inner ++ (own ++ right)))) (blocks_of new) (blocks_of left ++ (blocks_of inner ++ (blocks_of own ++ blocks_of right))) (blocks_of left ++ Guarded (blocks_of inner) (handler_of r.kind (blocks_of own) ∷ []) ∷ blocks_of right) r (clause_behind r.kind (blocks_of left) (blocks_of inner) [] (blocks_of own))
    (old_blocks left inner own right)
    (sym (blocks_joined left (grown_span r (blocks_of inner) [] (blocks_of own) ∷ right)))
    (clause_is r (blocks_of left) (blocks_of inner) (blocks_of own) [] (laid_size 0 r.try_from left around.in_front) i h (laid_size r.handler_from r.handler_to own around.handled))
    (first_grows r.kind (blocks_of left) (blocks_of inner) (blocks_of own) (blocks_of right)) p in
    step instrs all rows r left inner own right (blocks_of inner) [] built parts p around i h none grows of_inner
  where
    of_inner : (e : Region) (t : Span) → HasParts e → Has inner t → IsOwn e t → IsCovered (left ++ grown_span r (blocks_of inner) [] (blocks_of own) ∷ right) (rows ++ r ∷ []) e
    of_inner e t u k o =
        let low : LiesIn r.try_from r.handler_from t = all_has (LiesIn r.try_from r.handler_from) (laid_in r.try_from r.handler_from inner around.tried) k in
        let within : LiesIn r.try_from r.try_to t = record { from = low.from; to = low.to; behind = low.behind; some = low.some; end = omega (arith, low.end, starts) } in
        IsCovered.within r (has_right rows (first r [])) (nested_in_try e r (own_within e t r.try_from r.try_to u o within))

with_more : (inner : List Block) (hs : List Handler) (x : Handler) (xs : List Handler) (h : Handler) (l : List Block) → hs ≡ x ∷ xs → with_handlers inner (hs ++ h ∷ []) ++ l ≡ Guarded inner (hs ++ h ∷ []) ∷ l
with_more inner hs x xs h l e =
    ap (λ (k : List Handler). with_handlers inner (k ++ h ∷ []) ++ l) e ∙ ap (λ (k : List Handler). Guarded inner (k ++ h ∷ []) ∷ l) (sym e)

with_some : (inner : List Block) (hs : List Handler) (x : Handler) (xs : List Handler) (l : List Block) → hs ≡ x ∷ xs → Guarded inner hs ∷ l ≡ with_handlers inner hs ++ l
with_some inner hs x xs l e = ap (λ (k : List Handler). Guarded inner k ∷ l) e ∙ ap (λ (k : List Handler). with_handlers inner k ++ l) (sym e)

-- one more handler: the span of the try has it as its last
pub another_step : (instrs : List Instr) (all rows : List Region) (r : Region) (left own right : List Span) (s : Span) → IsBuilt instrs all rows (left ++ s ∷ (own ++ right)) → All HasParts rows → HasParts r → Around instrs r left (s ∷ []) own right → IsTry rows r s → IsBuilt instrs all (rows ++ r ∷ []) (left ++ grown_span r s.inner s.handlers (blocks_of own) ∷ right)
another_step instrs all rows r left own right s built parts p around its =
    let span : IsSpan r.try_from s = around.tried.0 in
    let i : r.try_from + length (code s.inner) ≡ r.try_to = omega (arith, span.from, span.to, its.to) in
    let h : r.try_to + length (all_code s.handlers) ≡ r.handler_from = omega (arith, span.end, its.to, its.end) in
    let one : Handler = handler_of r.kind (blocks_of own) in
    let new : List Span = left ++ grown_span r s.inner s.handlers (blocks_of own) ∷ right in
    let grows : Grows (blocks_of (left ++ s ∷ (own ++ right))) (blocks_of new) r
    = grows_as (blocks_of (left ++ s ∷ (own ++ right))) (blocks_of new) (blocks_of left ++ Guarded s.inner s.handlers ∷ (blocks_of own ++ blocks_of right)) (blocks_of left ++ Guarded s.inner (s.handlers ++ one ∷ []) ∷ blocks_of right) r (clause_behind r.kind (blocks_of left) s.inner s.handlers (blocks_of own))
    (ap (λ (l : List Block). blocks_of left ++ l) (with_some s.inner s.handlers its.first_handler its.other_handlers (blocks_of own ++ blocks_of right) its.handlers ∙ ap (λ (l : List Block). with_handlers s.inner s.handlers ++ l) (sym (blocks_joined own right))) ∙ sym (blocks_joined left (s ∷ (own ++ right))))
    (ap (λ (l : List Block). blocks_of left ++ l) (sym (with_more s.inner s.handlers its.first_handler its.other_handlers one (blocks_of right) its.handlers)) ∙ sym (blocks_joined left (grown_span r s.inner s.handlers (blocks_of own) ∷ right)))
    (clause_is r (blocks_of left) s.inner (blocks_of own) s.handlers (laid_size 0 r.try_from left around.in_front) i h (laid_size r.handler_from r.handler_to own around.handled))
    (another_grows r.kind (blocks_of left) s.inner (blocks_of own) (blocks_of right) s.handlers) p in
    step instrs all rows r left (s ∷ []) own right s.inner s.handlers built parts p around i h its.own grows of_it
  where
    of_it : (e : Region) (t : Span) → HasParts e → Has (s ∷ []) t → IsOwn e t → IsCovered (left ++ grown_span r s.inner s.handlers (blocks_of own) ∷ right) (rows ++ r ∷ []) e
    of_it e _ u (first _ _) o =
        IsCovered.own (grown_span r s.inner s.handlers (blocks_of own)) (has_right left (first (grown_span r s.inner s.handlers (blocks_of own)) right)) (record {
          from = o.from ∙ its.from;
          to = o.to ∙ its.to;
          end = omega (arith, o.end, its.end, p.has_handler);
        })
    of_it e t u (next _ _ _ k) o = elim k [ ]
