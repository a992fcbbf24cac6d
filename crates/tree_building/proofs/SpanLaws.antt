-- Spans in a row.
use Rattle.std.proofs.Common.{◌≡◌, ◌+◌, ◌≤◌, ◌<◌, ℕ, List, [], ◌∷◌, ◌++◌, All, reverse, length, refl, sym, subst, ap, ◌∙◌, append-nil, append_assoc, inl, inr, ◌⊎◌, arith, length-append}
use Rattle.std.proofs.lemmas.List.{reverse-append}
use Rattle.std.proofs.lemmas.List.Elements.{All-cons, All-nil, All-weaker}
use Rattle.cil_model.specs.declared.tree.Block.{Block}
use Rattle.cil_model.specs.declared.tree.Block.TheVariants.{Guarded}
use Rattle.cil_model.specs.declared.tree.Handler.{Handler}
use Rattle.region_tree.specs.Trees.{Part, code, part}
use Rattle.block_laws.specs.Blocks.{IsOutside}
use Rattle.block_laws.proofs.CodeLaws.{all_code, code_joined, guarded_part}
use Rattle.tree_building.specs.declared.span.Span.{Span}
use Rattle.tree_building.specs.Building.{Has}
use Rattle.tree_building.specs.Building.Has.{first}
use Rattle.tree_building.specs.Spans.{AreLaid, IsSpan, LastIs, blocks_of, with_handlers}
use Rattle.tree_building.proofs.OrderLaws.{all_has, has_right}

pub blocks_joined : (xs ys : List Span) → blocks_of (xs ++ ys) ≡ blocks_of xs ++ blocks_of ys
blocks_joined [] ys = refl
blocks_joined (s ∷ xs) ys =
    ap (λ (l : List Block). with_handlers s.inner s.handlers ++ l) (blocks_joined xs ys) ∙ sym (append_assoc (with_handlers s.inner s.handlers) (blocks_of xs) (blocks_of ys))

with_size : (inner : List Block) (hs : List Handler) → length (code (with_handlers inner hs)) ≡ length (code inner) + length (all_code hs)
with_size inner [] = omega arith
with_size inner (h ∷ hs) =
    ap length (append-nil (part (Guarded inner (h ∷ hs))).code) ∙ ap (λ (p : Part). length p.code) (guarded_part inner (h ∷ hs)) ∙ length-append (code inner) (all_code (h ∷ hs))

blocks_size : (s : Span) (ss : List Span) → length (code (blocks_of (s ∷ ss))) ≡ length (code s.inner) + length (all_code s.handlers) + length (code (blocks_of ss))
blocks_size s ss =
    let both = ap length (code_joined (with_handlers s.inner s.handlers) (blocks_of ss)) in
    omega (arith, both, length-append (code (with_handlers s.inner s.handlers)) (code (blocks_of ss)), with_size s.inner s.handlers)

pub laid_size : (at end : ℕ) (ss : List Span) → AreLaid at ss end → at + length (code (blocks_of ss)) ≡ end
laid_size at end [] l = omega (arith, l)
laid_size at end (s ∷ ss) l = omega (arith, l.0.from, l.0.to, l.0.end, laid_size s.end end ss l.1, blocks_size s ss)

pub record LaidTwo (at : ℕ) (xs ys : List Span) (end : ℕ) : Type 0 where
  pub mid : ℕ
  pub front : AreLaid at xs mid
  pub back : AreLaid mid ys end

pub laid_split : (at end : ℕ) (xs ys : List Span) → AreLaid at (xs ++ ys) end → LaidTwo at xs ys end
laid_split at end [] ys l = record { mid = at; front = refl; back = l }
laid_split at end (s ∷ xs) ys l =
    let two = laid_split s.end end xs ys l.1 in
    record { mid = two.mid; front = (l.0, two.front); back = two.back }

pub laid_joined : (at mid end : ℕ) (xs ys : List Span) → AreLaid at xs mid → AreLaid mid ys end → AreLaid at (xs ++ ys) end
laid_joined at mid end [] ys e l = subst (λ (n : ℕ). AreLaid n ys end) (sym e) l
laid_joined at mid end (s ∷ xs) ys k l = (k.0, laid_joined s.end mid end xs ys k.1 l)

-- a span that lies between two places
pub record LiesIn (low high : ℕ) (s : Span) : Type 0 where
  pub from : low ≤ s.from
  pub to : s.from ≤ s.to
  pub behind : s.to ≤ s.end
  pub some : s.from < s.end
  pub end : s.end ≤ high

laid_grows : (at end : ℕ) (ss : List Span) → AreLaid at ss end → at ≤ end
laid_grows at end ss l = omega (arith, laid_size at end ss l)

pub laid_in : (at end : ℕ) (ss : List Span) → AreLaid at ss end → All (LiesIn at end) ss
laid_in at end [] l = All-nil (LiesIn at end)
laid_in at end (s ∷ ss) l =
    let here : LiesIn at end s = record {
      from = omega (arith, l.0.from);
      to = omega (arith, l.0.to);
      behind = omega (arith, l.0.end);
      some = l.0.some;
      end = laid_grows s.end end ss l.1;
    } in
    All-cons (LiesIn at end) s ss here (All-weaker (LiesIn s.end end) (LiesIn at end) (λ t k. record { from = omega (arith, k.from, here.from, here.some); to = k.to; behind = k.behind; some = k.some; end = k.end }) ss (laid_in s.end end ss l.1))

pub each_span : (at end : ℕ) (ss : List Span) → AreLaid at ss end → All (λ (s : Span). IsSpan s.from s) ss
each_span at end [] l = All-nil (λ (s : Span). IsSpan s.from s)
each_span at end (s ∷ ss) l =
    All-cons (λ (t : Span). IsSpan t.from t) s ss (record { from = refl; to = l.0.to; end = l.0.end; some = l.0.some }) (each_span s.end end ss l.1)

pub laid_last : (at end : ℕ) (front : List Span) (s : Span) → AreLaid at (front ++ s ∷ []) end → s.end ≡ end
laid_last at end [] s l = l.1
laid_last at end (t ∷ front) s l = laid_last t.end end front s l.1

-- ---- spans divided at a place that lies within none

ends_by : (at mid q : ℕ) (left : List Span) → AreLaid at left mid → All (λ (s : Span). IsOutside q s.from s.end) left → at ≤ q → LastIs (λ (s : Span). s.from < q) left → mid ≤ q
ends_by at mid q left l outside low (LastIs.none e) =
    let none : at ≡ mid = subst (λ (ss : List Span). AreLaid at ss mid) e l in
    omega (arith, low, none)
ends_by at mid q left l outside low (LastIs.last front s e p) = go (all_has (λ (t : Span). IsOutside q t.from t.end) outside (subst (λ (ss : List Span). Has ss s) (sym e) (has_right front (first s []))))
  where
    go : (q ≤ s.from) ⊎ (s.end ≤ q) → mid ≤ q
    go (inl x) = absurd (omega (arith, x, p))
    go (inr x) = omega (arith, x, laid_last at mid front s (subst (λ (ss : List Span). AreLaid at ss mid) e l))

begins_at : (mid n q : ℕ) (right : List Span) → AreLaid mid (reverse right) n → q ≤ n → LastIs (λ (s : Span). q ≤ s.from) right → q ≤ mid
begins_at mid n q right l high (LastIs.none e) =
    let none : mid ≡ n = subst (λ (ss : List Span). AreLaid mid (reverse ss) n) e l in
    omega (arith, high, none)
begins_at mid n q right l high (LastIs.last rest s e p) =
    let behind : AreLaid mid (s ∷ reverse rest) n = subst (λ (ss : List Span). AreLaid mid ss n) (ap reverse e ∙ reverse-append rest (s ∷ [])) l in
    omega (arith, p, behind.0.from)

pub record Divided (left right : List Span) (at q n : ℕ) : Type 0 where
  pub front : AreLaid at left q
  pub back : AreLaid q (reverse right) n

pub divided : (at n q : ℕ) (left right : List Span) → AreLaid at (left ++ reverse right) n → All (λ (s : Span). IsOutside q s.from s.end) left → at ≤ q → q ≤ n → LastIs (λ (s : Span). s.from < q) left → LastIs (λ (s : Span). q ≤ s.from) right → Divided left right at q n
divided at n q left right l outside low high x y =
    let two = laid_split at n left (reverse right) l in
    let here : two.mid ≡ q = omega (arith, ends_by at two.mid q left two.front outside low x, begins_at two.mid n q right two.back high y) in
    record {
      front = subst (λ (m : ℕ). AreLaid at left m) here two.front;
      back = subst (λ (m : ℕ). AreLaid m (reverse right) n) here two.back;
    }
