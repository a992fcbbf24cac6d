-- A row of the table and the spans that are there.
use Rattle.std.proofs.Common.{◌≡◌, ◌+◌, ◌<◌, ℕ, Bool, true, false, ◌&&◌, List, [], ◌∷◌, All, length, refl, sym, subst, ap, ◌∙◌, inl, inr, arith, filter, length-append}
use Rattle.std.specs.Prelude.{◌==◌}
use Rattle.std.proofs.lemmas.Bool.{and_parts, both_ways, eqb-true}
use Rattle.std.proofs.lemmas.List.Elements.{All-cons, All-filter, All-head, All-nil, filter_passes}
use Rattle.cil_model.specs.declared.body.Instr.{Instr}
use Rattle.cil_model.specs.declared.body.Region.{Region}
use Rattle.cil_model.specs.declared.tree.Handler.{Handler}
use Rattle.region_tree.specs.Nesting.{handler_start, have_same_try, is_misplaced}
use Rattle.region_tree.specs.Trees.{HandlerPart, handler_parts, handlers_code, own_clauses}
use Rattle.block_laws.specs.Blocks.{CutsNothing, HasParts, IsOutside, LiesWhole, MayPrecede}
use Rattle.block_laws.proofs.BlockLaws.{clauses_whole, cuts_nothing, handler_follows}
use Rattle.block_laws.proofs.NestedLaws.{stays_outmost}
use Rattle.block_laws.proofs.CodeLaws.{handler_parted, part_of}
use Rattle.block_laws.proofs.ClauseLaws.{own_row}
use Rattle.tree_building.specs.declared.span.Span.{Span}
use Rattle.tree_building.specs.Building.{Has, Fits, IsBuilt, IsCovered, IsWhole, of_try}
use Rattle.tree_building.specs.Building.Has.{first}
use Rattle.tree_building.specs.Spans.{IsSpan}
use Rattle.tree_building.proofs.OrderLaws.{all_has, all_of, each_has}
use Rattle.tree_building.proofs.SpanLaws.{each_span}

-- a span is the row's try with its handlers so far, up to where the row's own begins
pub record IsTry (rows : List Region) (r : Region) (s : Span) : Type 0 where
  pub from : s.from ≡ r.try_from
  pub to : s.to ≡ r.try_to
  pub end : s.end ≡ r.handler_from
  pub own : of_try r.try_from r.try_to rows ≡ own_clauses r.try_from r.try_to r.try_to (handler_parts s.handlers)
  pub first_handler : Handler
  pub other_handlers : List Handler
  pub handlers : s.handlers ≡ first_handler ∷ other_handlers

pub data Lies (rows : List Region) (r : Region) (s : Span) : Type 0 where
  clear : CutsNothing r s.from s.end → Lies rows r s
  is_try : IsTry rows r s → Lies rows r s

other_own : (r : Region) (from to at : ℕ) (hs : List HandlerPart) → ((from == r.try_from) && (to == r.try_to)) ≡ false → All (λ (d : Region). have_same_try d r ≡ false) (own_clauses from to at hs)
other_own r from to at [] e = All-nil (λ (d : Region). have_same_try d r ≡ false)
other_own r from to at (h ∷ hs) e =
    All-cons (λ (d : Region). have_same_try d r ≡ false) (record { kind = h.kind; try_from = from; try_to = to; handler_from = at; handler_to = at + length h.part.code }) (own_clauses from to (at + length h.part.code) hs) e (other_own r from to (at + length h.part.code) hs e)

its_clauses : (all rows : List Region) (n : ℕ) (r : Region) (s : Span) (hs : List Handler) → All HasParts rows → Fits all rows n r → of_try s.from s.to rows ≡ own_clauses s.from s.to s.to (handler_parts hs) → ((s.from == r.try_from) && (s.to == r.try_to)) ≡ false → All (MayPrecede r) (own_clauses s.from s.to s.to (handler_parts hs))
its_clauses all rows n r s hs parts fits own other =
    let test : Region → Bool = λ d. (d.try_from == s.from) && (d.try_to == s.to) in
    let had : All HasParts (own_clauses s.from s.to s.to (handler_parts hs)) = subst (All HasParts) own (All-filter test HasParts rows parts) in
    let placed : All (λ (e : Region). is_misplaced e r ≡ false) (own_clauses s.from s.to s.to (handler_parts hs)) = subst (All (λ (e : Region). is_misplaced e r ≡ false)) own (All-filter test (λ (e : Region). is_misplaced e r ≡ false) rows fits.placed) in
    all_of (MayPrecede r) (own_clauses s.from s.to s.to (handler_parts hs)) (λ d h. record {
      parts = all_has HasParts had h;
      is_placed = all_has (λ (e : Region). is_misplaced e r ≡ false) placed h;
      has_own_try = all_has (λ (e : Region). have_same_try e r ≡ false) (other_own r s.from s.to s.to (handler_parts hs) other) h;
    })

-- No span is cut by a row that fits, but the row's own try by the try's end.
pub lies : (all rows : List Region) (n : ℕ) (r : Region) (s : Span) → All HasParts rows → Fits all rows n r → IsSpan s.from s → IsWhole all rows s → Lies rows r s
lies all rows n r s parts fits span (IsWhole.plain e cuts) = Lies.clear (all_has (λ (d : Region). CutsNothing d s.from s.end) cuts fits.listed)
lies all rows n r s parts fits span (IsWhole.guarded h hs e own) = go ((s.from == r.try_from) && (s.to == r.try_to)) refl
  where
    of_one_try : s.from ≡ r.try_from → s.to ≡ r.try_to → IsTry rows r s
    of_one_try f t =
        let same : of_try r.try_from r.try_to rows ≡ own_clauses r.try_from r.try_to r.try_to (handler_parts (h ∷ hs))
        = ap (λ (k : ℕ). of_try k r.try_to rows) (sym f) ∙ ap (λ (k : ℕ). of_try s.from k rows) (sym t) ∙ own ∙ ap (λ (k : ℕ). own_clauses k s.to s.to (handler_parts (h ∷ hs))) f ∙ ap (λ (k : ℕ). own_clauses r.try_from k k (handler_parts (h ∷ hs))) t in
        let starts : handler_start rows r ≡ r.try_to + length (handlers_code (handler_parts (h ∷ hs))) = handler_follows r rows r.try_from (handler_parts (h ∷ hs)) same in
        let long : length (handlers_code (handler_parts s.handlers)) ≡ length (handlers_code (handler_parts (h ∷ hs))) = ap (λ (l : List Handler). length (handlers_code (handler_parts l))) e in
        record {
          from = f;
          to = t;
          end = omega (arith, span.end, fits.start, starts, long, t);
          own = same ∙ ap (λ (l : List Handler). own_clauses r.try_from r.try_to r.try_to (handler_parts l)) (sym e);
          first_handler = h;
          other_handlers = hs;
          handlers = e;
        }

    go : (b : Bool) → ((s.from == r.try_from) && (s.to == r.try_to)) ≡ b → Lies rows r s
    go true t =
        let two = and_parts (s.from == r.try_from) (s.to == r.try_to) t in
        Lies.is_try (of_one_try (eqb-true s.from r.try_from two.0) (eqb-true s.to r.try_to two.1))
    go false f =
        let long : length (handlers_code (handler_parts s.handlers)) ≡ length (handlers_code (handler_parts (h ∷ hs))) = ap (λ (l : List Handler). length (handlers_code (handler_parts l))) e in
        let whole : LiesWhole r s.from (s.to + length (handlers_code (handler_parts (h ∷ hs)))) = clauses_whole r s.from s.to (handler_parted h) (handler_parts hs) fits.parts (its_clauses all rows n r s (h ∷ hs) parts fits own f) in
        Lies.clear (cuts_nothing r s.from s.end fits.parts (subst (λ (k : ℕ). LiesWhole r s.from k) (omega (arith, span.end, long)) whole))

-- ---- the places at which spans are divided

pub outside_end : (rows : List Region) (r : Region) (s : Span) → HasParts r → Lies rows r s → IsOutside r.handler_to s.from s.end
outside_end rows r s p (Lies.clear c) = c.handler_to
outside_end rows r s p (Lies.is_try t) = inr (omega (arith, t.end, p.has_handler))

pub outside_handler : (rows : List Region) (r : Region) (s : Span) → Lies rows r s → IsOutside r.handler_from s.from s.end
outside_handler rows r s (Lies.clear c) = c.handler_from
outside_handler rows r s (Lies.is_try t) = inr (omega (arith, t.end))

pub outside_try : (rows : List Region) (r : Region) (s : Span) → Lies rows r s → IsOutside r.try_from s.from s.end
outside_try rows r s (Lies.clear c) = c.try_from
outside_try rows r s (Lies.is_try t) = inl (omega (arith, t.from))

pub each_lies : (instrs : List Instr) (all rows : List Region) (r : Region) (spans : List Span) → IsBuilt instrs all rows spans → All HasParts rows → Fits all rows (length instrs) r → All (Lies rows r) spans
each_lies instrs all rows r spans built parts fits =
    all_of (Lies rows r) spans (λ s h. lies all rows (length instrs) r s parts fits (all_has (λ (t : Span). IsSpan t.from t) (each_span 0 (length instrs) spans built.laid) h) (all_has (IsWhole all rows) built.whole h))

-- ---- the first handler of a try, or another one

-- the span of a try that has handlers
pub record HasTry (spans : List Span) (rows : List Region) (r : Region) : Type 0 where
  pub span : Span
  pub has : Has spans span
  pub is_try : IsTry rows r span

the_span : (spans : List Span) (rows : List Region) (r e : Region) → All HasParts rows → HasParts r → All (λ (d : Region). is_misplaced d r ≡ false) rows → All (Lies rows r) spans → Has rows e → have_same_try e r ≡ true → IsCovered spans rows e → HasTry spans rows r
the_span spans rows r e parts p placed each h same (IsCovered.within o k n) =
    absurd (both_ways (is_misplaced o r) (all_has (λ (d : Region). is_misplaced d r ≡ false) placed k) (stays_outmost e o r (all_has HasParts parts h) (all_has HasParts parts k) p n same))
the_span spans rows r e parts p placed each h same (IsCovered.own s k o) = go (all_has (Lies rows r) each k)
  where
    u : HasParts e
    u = all_has HasParts parts h

    f : e.try_from ≡ r.try_from
    f = eqb-true e.try_from r.try_from (and_parts (e.try_from == r.try_from) (e.try_to == r.try_to) same).0

    t : e.try_to ≡ r.try_to
    t = eqb-true e.try_to r.try_to (and_parts (e.try_from == r.try_from) (e.try_to == r.try_to) same).1

    cut : IsOutside r.try_to s.from s.end → ⊥
    cut (inl x) = omega (arith, x, f, t, o.from, u.has_try)
    cut (inr x) = omega (arith, x, t, o.end, u.is_behind, u.has_handler)

    go : Lies rows r s → HasTry spans rows r
    go (Lies.clear c) = absurd (cut c.try_to)
    go (Lies.is_try i) = record { span = s; has = k; is_try = i }

of_none : (r : Region) (rows : List Region) → of_try r.try_from r.try_to rows ≡ [] → handler_start rows r ≡ r.try_to
of_none r rows e = handler_follows r rows r.try_from [] e ∙ omega arith

has_in_filter : {X : Type 0} (test : X → Bool) (xs : List X) (x : X) → Has (filter test xs) x → Has xs x
has_in_filter {X} test xs x h = all_has (Has xs) (All-filter test (Has xs) xs (each_has xs)) h

pub data FirstOrMore (spans : List Span) (rows : List Region) (r : Region) : Type 0 where
  is_first : r.handler_from ≡ r.try_to → of_try r.try_from r.try_to rows ≡ [] → FirstOrMore spans rows r
  is_more : r.try_to < r.handler_from → HasTry spans rows r → FirstOrMore spans rows r

pub first_or_more : (instrs : List Instr) (all rows : List Region) (r : Region) (spans : List Span) → IsBuilt instrs all rows spans → All HasParts rows → Fits all rows (length instrs) r → FirstOrMore spans rows r
first_or_more instrs all rows r spans built parts fits = go (of_try r.try_from r.try_to rows) refl
  where
    test : Region → Bool
    test d = (d.try_from == r.try_from) && (d.try_to == r.try_to)

    more : (e : Region) → Has rows e → have_same_try e r ≡ true → HasTry spans rows r
    more e h same = the_span spans rows r e parts fits.parts fits.placed (each_lies instrs all rows r spans built parts fits) h same (all_has (IsCovered spans rows) built.covered h)

    longer : HasTry spans rows r → r.try_to < r.handler_from
    longer x =
        let h : Handler = x.is_try.first_handler in
        let hs : List Handler = x.is_try.other_handlers in
        let own : of_try r.try_from r.try_to rows ≡ own_clauses r.try_from r.try_to r.try_to (handler_parts (h ∷ hs)) = x.is_try.own ∙ ap (λ (l : List Handler). own_clauses r.try_from r.try_to r.try_to (handler_parts l)) x.is_try.handlers in
        let had : All HasParts (own_clauses r.try_from r.try_to r.try_to (handler_parts (h ∷ hs))) = subst (All HasParts) own (All-filter test HasParts rows parts) in
        let its : HasParts (own_row r.try_from r.try_to r.try_to h) = All-head HasParts (own_row r.try_from r.try_to r.try_to h) (own_clauses r.try_from r.try_to (r.try_to + length (part_of h).code) (handler_parts hs)) had in
        let starts : handler_start rows r ≡ r.try_to + length (handlers_code (handler_parts (h ∷ hs))) = handler_follows r rows r.try_from (handler_parts (h ∷ hs)) own in
        omega (arith, its.has_handler, starts, fits.start, length-append (part_of h).code (handlers_code (handler_parts hs)))

    go : (es : List Region) → of_try r.try_from r.try_to rows ≡ es → FirstOrMore spans rows r
    go [] e = FirstOrMore.is_first (fits.start ∙ of_none r rows e) e
    go (e ∷ es) f =
        let here : Has (filter test rows) e = subst (λ (l : List Region). Has l e) (sym f) (first e es) in
        let same : have_same_try e r ≡ true = all_has (λ (d : Region). test d ≡ true) (filter_passes test rows) here in
        let found : HasTry spans rows r = more e (has_in_filter test rows e here) same in
        FirstOrMore.is_more (longer found) found
