-- Spans that were moved to add a row, and all rows one after another.
use Rattle.std.proofs.Common.{◌≡◌, ◌+◌, ◌≤◌, ◌<◌, ℕ, List, [], ◌∷◌, ◌++◌, All, reverse, length, take, get_or, sym, subst, ap, ◌∙◌, append-nil, append_assoc, inl, inr, ◌⊎◌, arith}
use Rattle.std.specs.Prelude.{slice_index}
use Rattle.std.proofs.lemmas.List.{take_more}
use Rattle.std.proofs.lemmas.List.Elements.{All-get_or, All-more}
use Rattle.cil_model.specs.declared.body.Body.{Body}
use Rattle.cil_model.specs.declared.body.Instr.{Instr}
use Rattle.cil_model.specs.declared.body.Region.{Region}
use Rattle.cil_model.specs.declared.tree.Block.{Block}
use Rattle.cil_model.specs.ValidBody.{AllValidRegions}
use Rattle.region_tree.specs.Nesting.{depths_of}
use Rattle.region_tree.specs.Trees.{SameTable, clauses, code}
use Rattle.block_laws.specs.Blocks.{HasParts, IsOutside}
use Rattle.block_laws.specs.Growth.{SearchesLike}
use Rattle.tree_building.specs.declared.span.Span.{Span}
use Rattle.tree_building.specs.Building.{AddsRow, AreBlocksOf, Fits, Has, IsBuilt, NestWell}
use Rattle.tree_building.specs.Building.Has.{first, next}
use Rattle.tree_building.specs.Spans.{AreLaid, BeginsTry, EndsLonger, LastIs, blocks_of, grown_span, longer_span}
use Rattle.tree_building.proofs.OrderLaws.{all_has, all_of, each_has, has_cases, has_left}
use Rattle.tree_building.proofs.SpanLaws.{Divided, LaidTwo, LiesIn, divided, laid_in, laid_last, laid_split}
use Rattle.tree_building.proofs.StepLaws.{Around}
use Rattle.tree_building.proofs.RowLaws.{FirstOrMore, HasTry, IsTry, Lies, each_lies, first_or_more, outside_end, outside_handler, outside_try}
use Rattle.tree_building.proofs.FitLaws.{fits, valid_ends}
use Rattle.tree_building.proofs.AddLaws.{another_step, first_step}

-- the spans in front of a row's handler, in it and behind it
pub record Moved (r : Region) (old front own back : List Span) : Type 0 where
  pub until_end : List Span
  pub all : until_end ++ reverse back ≡ old
  pub ends : LastIs (λ s. s.from < r.handler_to) until_end
  pub back_begins : LastIs (λ s. r.handler_to ≤ s.from) back
  pub some : front ++ reverse own ≡ until_end
  pub front_ends : LastIs (λ s. s.from < r.handler_from) front
  pub own_begins : LastIs (λ s. r.handler_from ≤ s.from) own

pub record CutOut (instrs : List Instr) (r : Region) (front own back : List Span) : Type 0 where
  pub in_front : AreLaid 0 front r.handler_from
  pub handled : AreLaid r.handler_from (reverse own) r.handler_to
  pub behind : AreLaid r.handler_to (reverse back) (length instrs)

first_part : (P : Span → Type 0) (xs ys zs : List Span) → xs ++ ys ≡ zs → All P zs → All P xs
first_part P xs ys zs e all = all_of P xs (λ s h. all_has P all (subst (λ (l : List Span). Has l s) e (has_left ys h)))

cut_out : (instrs : List Instr) (all rows : List Region) (r : Region) (old front own back : List Span) → Moved r old front own back → IsBuilt instrs all rows old → All HasParts rows → Fits all rows (length instrs) r → CutOut instrs r front own back
cut_out instrs all rows r old front own back m built parts fits =
    let n : ℕ = length instrs in
    let each : All (Lies rows r) old = each_lies instrs all rows r old built parts fits in
    let some : All (Lies rows r) m.until_end = first_part (Lies rows r) m.until_end (reverse back) old m.all each in
    let few : All (Lies rows r) front = first_part (Lies rows r) front (reverse own) m.until_end m.some some in
    let one : Divided m.until_end back 0 r.handler_to n
    = divided 0 n r.handler_to m.until_end back (subst (λ (l : List Span). AreLaid 0 l n) (sym m.all) built.laid) (all_of (λ (s : Span). IsOutside r.handler_to s.from s.end) m.until_end (λ s h. outside_end rows r s fits.parts (all_has (Lies rows r) some h))) (omega arith) fits.ends m.ends m.back_begins in
    let two : Divided front own 0 r.handler_from r.handler_to
    = divided 0 r.handler_to r.handler_from front own (subst (λ (l : List Span). AreLaid 0 l r.handler_to) (sym m.some) one.front) (all_of (λ (s : Span). IsOutside r.handler_from s.from s.end) front (λ s h. outside_handler rows r s (all_has (Lies rows r) few h))) (omega arith) (omega (arith, fits.parts.has_handler)) m.front_ends m.own_begins in
    record { in_front = two.front; handled = two.back; behind = one.back }

all_parts : (r : Region) (old front own back : List Span) → Moved r old front own back → front ++ (reverse own ++ reverse back) ≡ old
all_parts r old front own back m = sym (append_assoc front (reverse own) (reverse back)) ∙ ap (λ (l : List Span). l ++ reverse back) m.some ∙ m.all

one_more : (front : List Span) (s : Span) (back : List Span) → (front ++ s ∷ []) ++ back ≡ front ++ s ∷ back
one_more front s back = append_assoc front (s ∷ []) back

-- ---- the first handler of a try

pub begins_try : (r : Region) (old front own back new : List Span) (blocks : List Block) → Moved r old front own back → blocks ≡ blocks_of (reverse own) → r.handler_from ≡ r.try_to → BeginsTry r blocks front new → AddsRow r old (new ++ reverse back)
begins_try r old front own back new blocks m b starts x instrs all rows parts fits built = go (first_or_more instrs all rows r old built parts fits)
  where
    cut : CutOut instrs r front own back
    cut = cut_out instrs all rows r old front own back m built parts fits

    each : All (Lies rows r) x.front
    each = first_part (Lies rows r) x.front (reverse x.inner) front x.all (first_part (Lies rows r) front (reverse own ++ reverse back) old (all_parts r old front own back m) (each_lies instrs all rows r old built parts fits))

    three : Divided x.front x.inner 0 r.try_from r.handler_from
    three = divided 0 r.handler_from r.try_from x.front x.inner (subst (λ (l : List Span). AreLaid 0 l r.handler_from) (sym x.all) cut.in_front) (all_of (λ (s : Span). IsOutside r.try_from s.from s.end) x.front (λ s h. outside_try rows r s (all_has (Lies rows r) each h))) (omega arith) (omega (arith, fits.parts.has_try, fits.parts.is_behind)) x.ends x.begins

    around : Around instrs r x.front (reverse x.inner) (reverse own) (reverse back)
    around = record { in_front = three.front; tried = three.back; handled = cut.handled; behind = cut.behind }

    all_of_it : x.front ++ (reverse x.inner ++ (reverse own ++ reverse back)) ≡ old
    all_of_it = sym (append_assoc x.front (reverse x.inner) (reverse own ++ reverse back)) ∙ ap (λ (l : List Span). l ++ (reverse own ++ reverse back)) x.all ∙ all_parts r old front own back m

    is_new : x.front ++ grown_span r (blocks_of (reverse x.inner)) [] (blocks_of (reverse own)) ∷ reverse back ≡ new ++ reverse back
    is_new =
        ap (λ (l : List Block). x.front ++ grown_span r (blocks_of (reverse x.inner)) [] l ∷ reverse back) (sym b)
        ∙ sym (one_more x.front (grown_span r (blocks_of (reverse x.inner)) [] blocks) (reverse back))
        ∙ ap (λ (l : List Span). l ++ reverse back) (sym x.is)

    go : FirstOrMore old rows r → IsBuilt instrs all (rows ++ r ∷ []) (new ++ reverse back)
    go (FirstOrMore.is_more less _) = absurd (omega (arith, less, starts))
    go (FirstOrMore.is_first _ none) =
        subst (IsBuilt instrs all (rows ++ r ∷ [])) is_new
        (first_step instrs all rows r x.front (reverse x.inner) (reverse own) (reverse back) (subst (IsBuilt instrs all rows) (sym all_of_it) built) parts fits.parts around starts none)

-- ---- another handler of a try

-- the last span in front of the handler is the try's
last_is_try : (instrs : List Instr) (rows : List Region) (r : Region) (old front own back : List Span) (s : Span) → HasParts r → CutOut instrs r (front ++ s ∷ []) own back → (front ++ s ∷ []) ++ (reverse own ++ reverse back) ≡ old → HasTry old rows r → IsTry rows r s
last_is_try instrs rows r old front own back s p cut all found = in_front (has_cases (front ++ s ∷ []) (reverse own ++ reverse back) t (subst (λ (l : List Span). Has l t) (sym all) found.has))
  where
    t : Span
    t = found.span

    end : s.end ≡ r.handler_from
    end = laid_last 0 r.handler_from front s cut.in_front

    two : LaidTwo 0 front (s ∷ []) r.handler_from
    two = laid_split 0 r.handler_from front (s ∷ []) cut.in_front

    in_rest : Has (reverse own) t ⊎ Has (reverse back) t → IsTry rows r s
    in_rest (inl h) =
        let l : LiesIn r.handler_from r.handler_to t = all_has (LiesIn r.handler_from r.handler_to) (laid_in r.handler_from r.handler_to (reverse own) cut.handled) h in
        absurd (omega (arith, l.from, l.some, found.is_try.end))
    in_rest (inr h) =
        let l : LiesIn r.handler_to (length instrs) t = all_has (LiesIn r.handler_to (length instrs)) (laid_in r.handler_to (length instrs) (reverse back) cut.behind) h in
        absurd (omega (arith, l.from, l.some, found.is_try.end, p.has_handler))

    is_last : (u : Span) → Has (s ∷ []) u → IsTry rows r u → IsTry rows r s
    is_last _ (first _ _) i = i
    is_last u (next _ _ _ h) i = elim h [ ]

    in_them : Has front t ⊎ Has (s ∷ []) t → IsTry rows r s
    in_them (inl h) =
        let l : LiesIn 0 two.mid t = all_has (LiesIn 0 two.mid) (laid_in 0 two.mid front two.front) h in
        absurd (omega (arith, l.end, two.back.0.from, two.back.0.some, end, found.is_try.end))
    in_them (inr h) = is_last t h found.is_try

    in_front : Has (front ++ s ∷ []) t ⊎ Has (reverse own ++ reverse back) t → IsTry rows r s
    in_front (inl h) = in_them (has_cases front (s ∷ []) t h)
    in_front (inr h) = in_rest (has_cases (reverse own) (reverse back) t h)

with_last : (instrs : List Instr) (all rows : List Region) (r : Region) (old front own back : List Span) (s : Span) → All HasParts rows → HasParts r → IsBuilt instrs all rows old → CutOut instrs r (front ++ s ∷ []) own back → (front ++ s ∷ []) ++ (reverse own ++ reverse back) ≡ old → IsTry rows r s → IsBuilt instrs all (rows ++ r ∷ []) (front ++ grown_span r s.inner s.handlers (blocks_of (reverse own)) ∷ reverse back)
with_last instrs all rows r old front own back s parts p built cut whole its =
    another_step instrs all rows r front (reverse own) (reverse back) s (subst (IsBuilt instrs all rows) (sym (sym (one_more front s (reverse own ++ reverse back)) ∙ whole)) built) parts p
    (record {
      in_front = subst (λ (k : ℕ). AreLaid 0 front k) begins two.front;
      tried = subst (λ (k : ℕ). AreLaid k (s ∷ []) r.handler_from) begins two.back;
      handled = cut.handled;
      behind = cut.behind;
    })
    its
  where
    two : LaidTwo 0 front (s ∷ []) r.handler_from
    two = laid_split 0 r.handler_from front (s ∷ []) cut.in_front

    begins : two.mid ≡ r.try_from
    begins = sym two.back.0.from ∙ its.from

same_span : (rows : List Region) (r : Region) (s : Span) (own : List Block) → IsTry rows r s → grown_span r s.inner s.handlers own ≡ longer_span r s own
same_span rows r s own its =
    ap (λ (k : ℕ). record { from = k; to = r.try_to; end = r.handler_to; inner = s.inner; handlers = s.handlers ++ record { kind = r.kind; blocks = own } ∷ [] }) (sym its.from)
    ∙ ap (λ (k : ℕ). record { from = s.from; to = k; end = r.handler_to; inner = s.inner; handlers = s.handlers ++ record { kind = r.kind; blocks = own } ∷ [] }) (sym its.to)

pub ends_longer : (r : Region) (old front own back new : List Span) (blocks : List Block) → Moved r old front own back → blocks ≡ blocks_of (reverse own) → (r.handler_from ≡ r.try_to → ⊥) → EndsLonger r blocks front new → AddsRow r old (new ++ reverse back)
ends_longer r old front own back new blocks m b not_first x instrs all rows parts fits built = go x (first_or_more instrs all rows r old built parts fits)
  where
    cut : CutOut instrs r front own back
    cut = cut_out instrs all rows r old front own back m built parts fits

    go : EndsLonger r blocks front new → FirstOrMore old rows r → IsBuilt instrs all (rows ++ r ∷ []) (new ++ reverse back)
    go y (FirstOrMore.is_first starts _) = absurd (not_first starts)
    go (EndsLonger.none e) (FirstOrMore.is_more less _) =
        let nothing : 0 ≡ r.handler_from = subst (λ (l : List Span). AreLaid 0 l r.handler_from) e cut.in_front in
        absurd (omega (arith, nothing, less))
    go (EndsLonger.last begin s e f) (FirstOrMore.is_more less found) =
        let here : CutOut instrs r (begin ++ s ∷ []) own back = subst (λ (l : List Span). CutOut instrs r l own back) e cut in
        let whole : (begin ++ s ∷ []) ++ (reverse own ++ reverse back) ≡ old = ap (λ (l : List Span). l ++ (reverse own ++ reverse back)) (sym e) ∙ all_parts r old front own back m in
        let its : IsTry rows r s = last_is_try instrs rows r old begin own back s fits.parts here whole found in
        let is_new : begin ++ grown_span r s.inner s.handlers (blocks_of (reverse own)) ∷ reverse back ≡ new ++ reverse back
        = ap (λ (l : List Block). begin ++ grown_span r s.inner s.handlers l ∷ reverse back) (sym b)
        ∙ ap (λ (t : Span). begin ++ t ∷ reverse back) (same_span rows r s blocks its)
        ∙ sym (one_more begin (longer_span r s blocks) (reverse back))
        ∙ ap (λ (l : List Span). l ++ reverse back) (sym f) in
        subst (IsBuilt instrs all (rows ++ r ∷ [])) is_new (with_last instrs all rows r old begin own back s parts fits.parts built here whole its)

-- ---- the moves of one row, and all rows

pub moved : (r : Region) (f0 b0 f1 b1 f2 b2 f3 o0 o3 : List Span) → f1 ++ reverse b1 ≡ f0 ++ reverse b0 → LastIs (λ s. r.handler_to ≤ s.from) b1 → f2 ++ reverse b2 ≡ f1 ++ reverse b1 → LastIs (λ s. s.from < r.handler_to) f2 → (LastIs (λ s. r.handler_to ≤ s.from) b1 → LastIs (λ s. r.handler_to ≤ s.from) b2) → o0 ≡ [] → f3 ++ reverse o3 ≡ f2 ++ reverse o0 → LastIs (λ s. s.from < r.handler_from) f3 → (LastIs (λ s. r.handler_from ≤ s.from) o0 → LastIs (λ s. r.handler_from ≤ s.from) o3) → Moved r (f0 ++ reverse b0) f3 o3 b2
moved r f0 b0 f1 b1 f2 b2 f3 o0 o3 e l f m k n g o p = record {
  until_end = f2;
  all = f ∙ e;
  ends = m;
  back_begins = k l;
  some = g ∙ ap (λ (x : List Span). f2 ++ reverse x) n ∙ append-nil f2;
  front_ends = o;
  own_begins = p (LastIs.none n);
}

pub record Rows (instrs : List Instr) (all rows : List Region) (spans : List Span) : Type 0 where
  pub built : IsBuilt instrs all rows spans
  pub parts : All HasParts rows

pub rows_more : (instrs : List Instr) (all : List Region) (i : ℕ) (d : Region) (old new : List Span) → i < length all → NestWell all → AllValidRegions (length instrs) all → AddsRow (get_or all i d) old new → Rows instrs all (take i all) old → Rows instrs all (take (i + 1) all) new
rows_more instrs all i d old new h nest valid adds rows =
    let r : Region = get_or all i d in
    let its : Fits all (take i all) (length instrs) r
    = fits all (take i all) (length instrs) (slice_index (depths_of all) i) r (nest i d h) rows.parts (All-get_or (λ (x : Region). x.handler_to ≤ length instrs) all i d h (valid_ends (length instrs) all valid)) (All-get_or (Has all) all i d h (each_has all)) in
    record {
      built = subst (λ (l : List Region). IsBuilt instrs all l new) (sym (take_more all i d h)) (adds instrs all (take i all) rows.parts its rows.built);
      parts = All-more HasParts all i d h rows.parts its.parts;
    }

-- no span begins before the first place
none_first : (ss : List Span) → LastIs (λ s. s.from < 0) ss → ss ≡ []
none_first ss (LastIs.none e) = e
none_first ss (LastIs.last front s e h) = absurd (omega (arith, h))

pub all_built : (b : Body) (is : List Instr) (rs : List Region) (f0 b0 f1 b1 f2 b2 : List Span) (bs : List Block) → is ≡ b.instrs → rs ≡ b.regions → IsBuilt is rs [] f0 → b0 ≡ [] → ((instrs : List Instr) → NestWell rs → AllValidRegions (length instrs) rs → IsBuilt instrs rs [] (f0 ++ reverse b0) → IsBuilt instrs rs rs (f1 ++ reverse b1)) → f2 ++ reverse b2 ≡ f1 ++ reverse b1 → LastIs (λ s. s.from < 0) f2 → bs ≡ blocks_of (reverse b2) → NestWell b.regions → AllValidRegions (length b.instrs) b.regions → AreBlocksOf b bs
all_built b is rs f0 b0 f1 b1 f2 b2 bs i r start e rows move starts blocks nest valid =
    let spans : List Span = f1 ++ reverse b1 in
    let from : IsBuilt is rs [] (f0 ++ reverse b0) = subst (IsBuilt is rs []) (sym (ap (λ (l : List Span). f0 ++ reverse l) e ∙ append-nil f0)) start in
    let whole : IsBuilt is rs rs spans = rows is (subst NestWell (sym r) nest) (subst (λ (l : List Region). AllValidRegions (length is) l) (sym r) (subst (λ (l : List Instr). AllValidRegions (length l) b.regions) (sym i) valid)) from in
    let same : bs ≡ blocks_of spans = blocks ∙ ap blocks_of (sym (ap (λ (l : List Span). l ++ reverse b2) (none_first f2 starts)) ∙ move) in
    record {
      instrs = ap code same ∙ whole.code ∙ i;
      regions = subst (λ (l : List Block). SameTable b.regions (clauses 0 l)) (sym same) (subst (λ (l : List Region). SameTable l (clauses 0 (blocks_of spans))) r (record { same = whole.same; order = whole.order }));
      search = subst (λ (l : List Block). SearchesLike l b.regions) (sym same) (subst (λ (l : List Region). SearchesLike (blocks_of spans) l) r whole.search);
    }
