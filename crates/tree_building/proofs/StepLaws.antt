-- Spans to which one more row of the table is added.
use Rattle.std.proofs.Common.{◌≡◌, ◌+◌, ◌<◌, ℕ, Bool, true, false, ◌&&◌, cond, List, [], ◌∷◌, ◌++◌, All, length, refl, sym, subst, ap, ◌∙◌, append-nil, inl, inr, ◌⊎◌, arith}
use Rattle.std.specs.Prelude.{IsPermutation, ◌==◌}
use Rattle.std.proofs.lemmas.Bool.Decides.{nat_tests}
use Rattle.std.proofs.lemmas.List.Elements.{All-append, All-cons, All-nil, filter-append}
use Rattle.std.proofs.lemmas.List.Sorted.{IsPermutation-append_left, IsPermutation-trans}
use Rattle.cil_model.specs.declared.body.Instr.{Instr}
use Rattle.cil_model.specs.declared.body.Region.{Region}
use Rattle.cil_model.specs.declared.tree.Block.{Block}
use Rattle.cil_model.specs.declared.tree.Handler.{Handler}
use Rattle.region_tree.specs.Trees.{Before, HandlerPart, clauses, code, handler_parts, own_clauses}
use Rattle.block_laws.specs.Blocks.{HasParts}
use Rattle.block_laws.proofs.CodeLaws.{all_code, handler_of, one_more_code}
use Rattle.block_laws.proofs.ClauseLaws.{handler_is, own_joined, own_row}
use Rattle.block_laws.proofs.GrowthLaws.{one_clause}
use Rattle.std.proofs.Common.{length-append}
use Rattle.tree_building.specs.declared.span.Span.{Span}
use Rattle.tree_building.specs.Building.{Has, IsBuilt, IsCovered, IsOwn, IsWhole, of_try}
use Rattle.tree_building.specs.Building.Has.{first, next}
use Rattle.tree_building.specs.Spans.{AreLaid, IsSpan, blocks_of, grown_span}
use Rattle.tree_building.proofs.OrderLaws.{Stand, all_has, all_of, both_had, has_cases, has_left, has_permuted, has_right, none_before, same_one, stand}
use Rattle.tree_building.proofs.PlaceLaws.{Within, nested_in_handler}
use Rattle.tree_building.proofs.GrowthLaws.{Grows, near}
use Rattle.tree_building.proofs.SpanLaws.{LiesIn, laid_in, laid_joined, laid_size}

-- ---- the order of the clauses

none_after : (xs : List Region) (x r s : Region) → xs ≡ [] → Before (x ∷ xs) r s → ⊥
none_after xs x r s e (Before.here front back _ _ f) = none_in front back s (sym e ∙ f)
  where
    none_in : (front back : List Region) (s : Region) → [] ≡ front ++ s ∷ back → ⊥
    none_in [] back s f = absurd cc
    none_in (y ∷ front) back s f = absurd cc
none_after xs x r s e (Before.later b) = none_before xs r s e b

order_more : (rows old new : List Region) (r : Region) → IsPermutation rows old → All HasParts rows → ((e s : Region) → near e s ≡ true → Before rows e s → Before old e s) → ((e s : Region) → HasParts e → near e s ≡ true → Before old e s → Before new e s) → ((e : Region) → HasParts e → near e r ≡ true → Has old e → Before new e r) → (e s : Region) → near e s ≡ true → Before (rows ++ r ∷ []) e s → Before new e s
order_more rows old new r same parts order kept last e s n b = go (stand rows (r ∷ []) e s b)
  where
    behind : Has rows e → s ≡ r → Before new e s
    behind h is = subst (λ (x : Region). Before new e x) (sym is) (last e (all_has HasParts parts h) (subst (λ (x : Region). near e x ≡ true) is n) (has_permuted rows old e same h))

    go : Stand rows (r ∷ []) e s → Before new e s
    go (Stand.in_left x) = kept e s (all_has HasParts parts (both_had x).earlier) n (order e s n x)
    go (Stand.across h k) = behind h (same_one r s k)
    go (Stand.in_right x) = absurd (none_after [] r e s refl x)

-- ---- the rows of a try

one_of_try : (from to : ℕ) (rows : List Region) (r : Region) → of_try from to (rows ++ r ∷ []) ≡ of_try from to rows ++ cond ((r.try_from == from) && (r.try_to == to)) (r ∷ []) []
one_of_try from to rows r = filter-append (λ (d : Region). (d.try_from == from) && (d.try_to == to)) rows (r ∷ [])

its_own : (r : Region) → ((r.try_from == r.try_from) && (r.try_to == r.try_to)) ≡ true
its_own r = grind (arith, nat_tests)

other_try : (r : Region) (from to : ℕ) → (r.try_from < from) ⊎ (from < r.try_from) → ((r.try_from == from) && (r.try_to == to)) ≡ false
other_try r from to (inl h) = grind (arith, nat_tests)
other_try r from to (inr h) = grind (arith, nat_tests)

whole_kept : (all rows : List Region) (r : Region) (s : Span) → IsWhole all rows s → (r.try_from < s.from) ⊎ (s.from < r.try_from) → IsWhole all (rows ++ r ∷ []) s
whole_kept all rows r s (IsWhole.plain e cuts) other = IsWhole.plain e cuts
whole_kept all rows r s (IsWhole.guarded h hs e own) other =
    IsWhole.guarded h hs e
    (one_of_try s.from s.to rows r
    ∙ ap (λ (b : Bool). of_try s.from s.to rows ++ cond b (r ∷ []) []) (other_try r s.from s.to other)
    ∙ append-nil (of_try s.from s.to rows)
    ∙ own)

row_is : (r : Region) (at : ℕ) (own : List Block) → at ≡ r.handler_from → r.handler_from + length (code own) ≡ r.handler_to → own_row r.try_from r.try_to at (handler_of r.kind own) ≡ r
row_is r at own e f =
    ap (λ (p : HandlerPart). record { kind = p.kind; try_from = r.try_from; try_to = r.try_to; handler_from = at; handler_to = at + length p.part.code }) (handler_is r.kind own)
    ∙ one_clause r.kind r.try_from r.try_to at (at + length (code own)) r.try_from r.try_to r.handler_from r.handler_to refl refl e (omega (arith, e, f))

rows_more : (rows : List Region) (r : Region) (hs : List Handler) (own : List Block) → of_try r.try_from r.try_to rows ≡ own_clauses r.try_from r.try_to r.try_to (handler_parts hs) → r.try_to + length (all_code hs) ≡ r.handler_from → r.handler_from + length (code own) ≡ r.handler_to → of_try r.try_from r.try_to (rows ++ r ∷ []) ≡ own_clauses r.try_from r.try_to r.try_to (handler_parts (hs ++ handler_of r.kind own ∷ []))
rows_more rows r hs own so e f =
    one_of_try r.try_from r.try_to rows r
    ∙ ap (λ (b : Bool). of_try r.try_from r.try_to rows ++ cond b (r ∷ []) []) (its_own r)
    ∙ ap (λ (l : List Region). l ++ r ∷ []) so
    ∙ ap (λ (d : Region). own_clauses r.try_from r.try_to r.try_to (handler_parts hs) ++ d ∷ []) (sym (row_is r (r.try_to + length (all_code hs)) own e f))
    ∙ sym (own_joined hs (handler_of r.kind own) r.try_from r.try_to r.try_to)

grown_whole : (all rows : List Region) (r : Region) (inner : List Block) (hs : List Handler) (own : List Block) → of_try r.try_from r.try_to (rows ++ r ∷ []) ≡ own_clauses r.try_from r.try_to r.try_to (handler_parts (hs ++ handler_of r.kind own ∷ [])) → IsWhole all (rows ++ r ∷ []) (grown_span r inner hs own)
grown_whole all rows r inner [] own e = IsWhole.guarded (handler_of r.kind own) [] refl e
grown_whole all rows r inner (h ∷ hs) own e = IsWhole.guarded h (hs ++ handler_of r.kind own ∷ []) refl e

-- ---- one row more

-- what is known of the spans around a row's try and handler
pub record Around (instrs : List Instr) (r : Region) (left mid own right : List Span) : Type 0 where
  pub in_front : AreLaid 0 left r.try_from
  pub tried : AreLaid r.try_from mid r.handler_from
  pub handled : AreLaid r.handler_from own r.handler_to
  pub behind : AreLaid r.handler_to right (length instrs)

pub own_within : (e : Region) (t : Span) (low high : ℕ) → HasParts e → IsOwn e t → LiesIn low high t → Within low high e
own_within e t low high p o l = record {
  try_from = omega (arith, o.from, l.from);
  try_to = omega (arith, p.is_behind, p.has_handler, o.end, l.end);
  handler_from = omega (arith, o.from, l.from, p.has_try, p.is_behind);
  handler_to = omega (arith, o.end, l.end);
}

covered_more : (instrs : List Instr) (rows : List Region) (r : Region) (left mid own right : List Span) (s : Span) → All HasParts rows → Around instrs r left mid own right → ((e : Region) (t : Span) → HasParts e → Has mid t → IsOwn e t → IsCovered (left ++ s ∷ right) (rows ++ r ∷ []) e) → (e : Region) → HasParts e → IsCovered (left ++ (mid ++ (own ++ right))) rows e → IsCovered (left ++ s ∷ right) (rows ++ r ∷ []) e
covered_more instrs rows r left mid own right s parts around of_mid e p (IsCovered.within o h n) = IsCovered.within o (has_left (r ∷ []) h) n
covered_more instrs rows r left mid own right s parts around of_mid e p (IsCovered.own t h o) = in_left (has_cases left (mid ++ (own ++ right)) t h)
  where
    in_own : Has own t ⊎ Has right t → IsCovered (left ++ s ∷ right) (rows ++ r ∷ []) e
    in_own (inl k) = IsCovered.within r (has_right rows (first r [])) (nested_in_handler e r (own_within e t r.handler_from r.handler_to p o (all_has (LiesIn r.handler_from r.handler_to) (laid_in r.handler_from r.handler_to own around.handled) k)))
    in_own (inr k) = IsCovered.own t (has_right left (next s t right k)) o

    in_mid : Has mid t ⊎ Has (own ++ right) t → IsCovered (left ++ s ∷ right) (rows ++ r ∷ []) e
    in_mid (inl k) = of_mid e t p k o
    in_mid (inr k) = in_own (has_cases own right t k)

    in_left : Has left t ⊎ Has (mid ++ (own ++ right)) t → IsCovered (left ++ s ∷ right) (rows ++ r ∷ []) e
    in_left (inl k) = IsCovered.own t (has_left (s ∷ right) k) o
    in_left (inr k) = in_mid (has_cases mid (own ++ right) t k)

whole_more : (instrs : List Instr) (all rows : List Region) (r : Region) (left mid own right : List Span) (s : Span) → HasParts r → Around instrs r left mid own right → All (IsWhole all rows) (left ++ (mid ++ (own ++ right))) → IsWhole all (rows ++ r ∷ []) s → All (IsWhole all (rows ++ r ∷ [])) (left ++ s ∷ right)
whole_more instrs all rows r left mid own right s p around whole here =
    All-append (IsWhole all (rows ++ r ∷ [])) left (s ∷ right) (all_of (IsWhole all (rows ++ r ∷ [])) left in_left) (All-cons (IsWhole all (rows ++ r ∷ [])) s right here (all_of (IsWhole all (rows ++ r ∷ [])) right in_right))
  where
    in_left : (t : Span) → Has left t → IsWhole all (rows ++ r ∷ []) t
    in_left t h =
        let l : LiesIn 0 r.try_from t = all_has (LiesIn 0 r.try_from) (laid_in 0 r.try_from left around.in_front) h in
        whole_kept all rows r t (all_has (IsWhole all rows) whole (has_left (mid ++ (own ++ right)) h)) (inr (omega (arith, l.some, l.end)))

    in_right : (t : Span) → Has right t → IsWhole all (rows ++ r ∷ []) t
    in_right t h =
        let l : LiesIn r.handler_to (length instrs) t = all_has (LiesIn r.handler_to (length instrs)) (laid_in r.handler_to (length instrs) right around.behind) h in
        whole_kept all rows r t (all_has (IsWhole all rows) whole (has_right left (has_right mid (has_right own h)))) (inl (omega (arith, l.from, p.has_try, p.is_behind, p.has_handler)))

grown_laid : (instrs : List Instr) (r : Region) (left mid own right : List Span) (inner : List Block) (hs : List Handler) → HasParts r → Around instrs r left mid own right → r.try_from + length (code inner) ≡ r.try_to → r.try_to + length (all_code hs) ≡ r.handler_from → AreLaid 0 (left ++ grown_span r inner hs (blocks_of own) ∷ right) (length instrs)
grown_laid instrs r left mid own right inner hs p around i h =
    let size = laid_size r.handler_from r.handler_to own around.handled in
    let more = ap length (one_more_code r.kind (blocks_of own) hs) in
    let s : IsSpan r.try_from (grown_span r inner hs (blocks_of own)) = record {
      from = refl;
      to = sym i;
      end = omega (arith, size, more, h, length-append (all_code hs) (code (blocks_of own)));
      some = omega (arith, p.has_try, p.is_behind, p.has_handler);
    } in
    laid_joined 0 r.try_from (length instrs) left (grown_span r inner hs (blocks_of own) ∷ right) around.in_front (s, around.behind)

own_covered : (rows : List Region) (r : Region) (left right : List Span) (inner : List Block) (hs : List Handler) (own : List Block) → IsCovered (left ++ grown_span r inner hs own ∷ right) (rows ++ r ∷ []) r
own_covered rows r left right inner hs own = IsCovered.own (grown_span r inner hs own) (has_right left (first (grown_span r inner hs own) right)) (record { from = refl; to = refl; end = omega arith })

pub step : (instrs : List Instr) (all rows : List Region) (r : Region) (left mid own right : List Span) (inner : List Block) (hs : List Handler) → IsBuilt instrs all rows (left ++ (mid ++ (own ++ right))) → All HasParts rows → HasParts r → Around instrs r left mid own right → r.try_from + length (code inner) ≡ r.try_to → r.try_to + length (all_code hs) ≡ r.handler_from → of_try r.try_from r.try_to rows ≡ own_clauses r.try_from r.try_to r.try_to (handler_parts hs) → Grows (blocks_of (left ++ (mid ++ (own ++ right)))) (blocks_of (left ++ grown_span r inner hs (blocks_of own) ∷ right)) r → ((e : Region) (t : Span) → HasParts e → Has mid t → IsOwn e t → IsCovered (left ++ grown_span r inner hs (blocks_of own) ∷ right) (rows ++ r ∷ []) e) → IsBuilt instrs all (rows ++ r ∷ []) (left ++ grown_span r inner hs (blocks_of own) ∷ right)
step instrs all rows r left mid own right inner hs built parts p around i h so grows of_mid =
    let old : List Span = left ++ (mid ++ (own ++ right)) in
    let s : Span = grown_span r inner hs (blocks_of own) in
    let more : List Region = rows ++ r ∷ [] in
    let size = laid_size r.handler_from r.handler_to own around.handled in
    record {
      laid = grown_laid instrs r left mid own right inner hs p around i h;
      code = grows.same_code ∙ built.code;
      search = grows.search rows built.search;
      same = IsPermutation-trans more (clauses 0 (blocks_of old) ++ r ∷ []) (clauses 0 (blocks_of (left ++ s ∷ right))) (IsPermutation-append_left (r ∷ []) rows (clauses 0 (blocks_of old)) built.same) grows.same;
      order = order_more rows (clauses 0 (blocks_of old)) (clauses 0 (blocks_of (left ++ s ∷ right))) r built.same parts built.order grows.kept grows.last;
      whole = whole_more instrs all rows r left mid own right s p around built.whole (grown_whole all rows r inner hs (blocks_of own) (rows_more rows r hs (blocks_of own) so h size));
      covered = All-append (IsCovered (left ++ s ∷ right) more) rows (r ∷ [])
          (all_of (IsCovered (left ++ s ∷ right) more) rows (λ e k. covered_more instrs rows r left mid own right s parts around of_mid e (all_has HasParts parts k) (all_has (IsCovered old rows) built.covered k)))
          (All-cons (IsCovered (left ++ s ∷ right) more) r [] (own_covered rows r left right inner hs (blocks_of own)) (All-nil (IsCovered (left ++ s ∷ right) more)));
    }
