-- Spans that are moved from one list to another.
use Rattle.std.proofs.Common.{◌≡◌, List, [], ◌∷◌, ◌++◌, reverse, sym, ap, ◌∙◌, append-nil, append_assoc, ◌<◌, ◌≤◌}
use Rattle.std.proofs.lemmas.List.{reverse-append}
use Rattle.cil_model.specs.declared.body.Region.{Region}
use Rattle.cil_model.specs.declared.body.RegionKind.{RegionKind}
use Rattle.cil_model.specs.declared.tree.Block.{Block}
use Rattle.cil_model.specs.declared.tree.Handler.{Handler}
use Rattle.tree_building.specs.declared.span.Span.{Span}
use Rattle.tree_building.specs.Spans.{BeginsTry, EndsLonger, LastIs, blocks_of, with_handlers}

pub backwards : (front back : List Span) (s : Span) → front ++ reverse (back ++ s ∷ []) ≡ (front ++ s ∷ []) ++ reverse back
backwards front back s = ap (λ (l : List Span). front ++ l) (reverse-append back (s ∷ [])) ∙ sym (append_assoc front (s ∷ []) (reverse back))

-- one span behind the others
pub one_back : (front rest back new was : List Span) (s : Span) → front ≡ rest ++ s ∷ [] → new ≡ back ++ s ∷ [] → front ++ reverse back ≡ was → rest ++ reverse new ≡ was
one_back front rest back new was s e n inv = ap (λ (l : List Span). rest ++ reverse l) n ∙ backwards rest back s ∙ ap (λ (l : List Span). l ++ reverse back) (sym e) ∙ inv

-- one span in front
pub one_front : (front back rest new was : List Span) (s : Span) → back ≡ rest ++ s ∷ [] → new ≡ front ++ s ∷ [] → front ++ reverse back ≡ was → new ++ reverse rest ≡ was
one_front front back rest new was s e n inv = ap (λ (l : List Span). l ++ reverse rest) n ∙ sym (backwards front rest s) ∙ ap (λ (l : List Span). front ++ reverse l) (sym e) ∙ inv

-- one span less to be taken
pub one_taken : (spans rest : List Span) (s : Span) (out new was : List Block) → spans ≡ rest ++ s ∷ [] → new ≡ out ++ with_handlers s.inner s.handlers → out ++ blocks_of (reverse spans) ≡ was → new ++ blocks_of (reverse rest) ≡ was
one_taken spans rest s out new was e n inv =
    ap (λ (l : List Block). l ++ blocks_of (reverse rest)) n
    ∙ append_assoc out (with_handlers s.inner s.handlers) (blocks_of (reverse rest))
    ∙ ap (λ (l : List Span). out ++ blocks_of l) (sym (ap reverse e ∙ reverse-append rest (s ∷ [])))
    ∙ inv

-- ---- one handler more

pub begun : (r : Region) (old front within new none : List Span) (blocks inner : List Block) (kind : RegionKind) (hs no_handlers : List Handler) → none ≡ [] → front ++ reverse within ≡ old ++ reverse none → LastIs (λ s. s.from < r.try_from) front → (LastIs (λ s. r.try_from ≤ s.from) none → LastIs (λ s. r.try_from ≤ s.from) within) → inner ≡ blocks_of (reverse within) → kind ≡ r.kind → no_handlers ≡ [] → hs ≡ no_handlers ++ record { kind = kind; blocks = blocks } ∷ [] → new ≡ front ++ record { from = r.try_from; to = r.try_to; end = r.handler_to; inner = inner; handlers = hs } ∷ [] → BeginsTry r blocks old new
begun r old front within new none blocks inner kind hs no_handlers e all ends begins i k bare h n = record {
  front = front;
  inner = within;
  all = all ∙ ap (λ (l : List Span). old ++ reverse l) e ∙ append-nil old;
  ends = ends;
  begins = begins (LastIs.none e);
  is = n
      ∙ ap (λ (l : List Block). front ++ record { from = r.try_from; to = r.try_to; end = r.handler_to; inner = l; handlers = hs } ∷ []) i
      ∙ ap (λ (l : List Handler). front ++ record { from = r.try_from; to = r.try_to; end = r.handler_to; inner = blocks_of (reverse within); handlers = l } ∷ []) (h ∙ ap (λ (l : List Handler). l ++ record { kind = kind; blocks = blocks } ∷ []) bare ∙ ap (λ (x : RegionKind). record { kind = x; blocks = blocks } ∷ []) k);
}

pub longer : (r : Region) (old front new : List Span) (s : Span) (blocks : List Block) (kind : RegionKind) (hs : List Handler) → old ≡ front ++ s ∷ [] → kind ≡ r.kind → hs ≡ s.handlers ++ record { kind = kind; blocks = blocks } ∷ [] → new ≡ front ++ record { from = s.from; to = s.to; end = r.handler_to; inner = s.inner; handlers = hs } ∷ [] → EndsLonger r blocks old new
longer r old front new s blocks kind hs e k h n =
    EndsLonger.last front s e
    (n
    ∙ ap (λ (l : List Handler). front ++ record { from = s.from; to = s.to; end = r.handler_to; inner = s.inner; handlers = l } ∷ []) (h ∙ ap (λ (x : RegionKind). s.handlers ++ record { kind = x; blocks = blocks } ∷ []) k))
