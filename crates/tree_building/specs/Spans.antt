-- Finished blocks in a row, by their places (ECMA-335, I.12.4.2.7).
use Rattle.std.specs.Prelude.{◌≡◌, ◌<◌, ◌≤◌, ◌+◌, ℕ, List, [], ◌∷◌, ◌++◌, length, reverse}
use Rattle.cil_model.specs.declared.body.Region.{Region}
use Rattle.cil_model.specs.declared.tree.Block.{Block}
use Rattle.cil_model.specs.declared.tree.Block.TheVariants.{Guarded}
use Rattle.cil_model.specs.declared.tree.Handler.{Handler}
use Rattle.region_tree.specs.Trees.{code, handler_parts, handlers_code}
use Rattle.tree_building.specs.declared.span.Span.{Span}

-- blocks with handlers are one protected block; without any they stand as they are
abbrev pub with_handlers : List Block → List Handler → List Block
with_handlers inner [] = inner
with_handlers inner (h ∷ hs) = Guarded inner (h ∷ hs) ∷ []

abbrev pub blocks_of : List Span → List Block
blocks_of [] = []
blocks_of (s ∷ ss) = with_handlers s.inner s.handlers ++ blocks_of ss

-- a span that begins at a place, and whose places are those of its code, of which there is some
pub record IsSpan (at : ℕ) (s : Span) : Type 0 where
  pub from : s.from ≡ at
  pub to : s.to ≡ s.from + length (code s.inner)
  pub end : s.end ≡ s.to + length (handlers_code (handler_parts s.handlers))
  pub some : s.from < s.end

-- Each span begins where the one before it ends, the first one at a place and the last one ending at another.
abbrev pub AreLaid : ℕ → List Span → ℕ → Type 0
AreLaid at [] end = at ≡ end
AreLaid at (s ∷ ss) end = IsSpan at s × AreLaid s.end ss end

-- the last one, if there is one, is so
pub data LastIs (P : Span → Type 0) (ss : List Span) : Type 0 where
  none : ss ≡ [] → LastIs P ss
  last : (front : List Span) (s : Span) → ss ≡ front ++ s ∷ [] → P s → LastIs P ss

-- ---- one handler more

-- blocks as one protected block with the row's handler as its last one
abbrev pub grown_span : Region → List Block → List Handler → List Block → Span
grown_span r inner hs own =
    record { from = r.try_from; to = r.try_to; end = r.handler_to; inner = inner; handlers = hs ++ record { kind = r.kind; blocks = own } ∷ [] }

-- the span with the row's handler as its last one
abbrev pub longer_span : Region → Span → List Block → Span
longer_span r s own = record { from = s.from; to = s.to; end = r.handler_to; inner = s.inner; handlers = s.handlers ++ record { kind = r.kind; blocks = own } ∷ [] }

-- The last spans, from the row's try on, become one with its first handler.
pub record BeginsTry (r : Region) (own : List Block) (old new : List Span) : Type 0 where
  pub front : List Span
  pub inner : List Span
  pub all : front ++ reverse inner ≡ old
  pub ends : LastIs (λ s. s.from < r.try_from) front
  pub begins : LastIs (λ s. r.try_from ≤ s.from) inner
  pub is : new ≡ front ++ grown_span r (blocks_of (reverse inner)) [] own ∷ []

-- The last span, if there is one, has one more handler.
pub data EndsLonger (r : Region) (own : List Block) (old new : List Span) : Type 0 where
  none : old ≡ [] → EndsLonger r own old new
  last : (front : List Span) (s : Span) → old ≡ front ++ s ∷ [] → new ≡ front ++ longer_span r s own ∷ [] → EndsLonger r own old new
