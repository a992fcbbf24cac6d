-- The handlers that a search from a place takes, in a table and in a tree (ECMA-335, I.12.4.2.5).
use Rattle.std.specs.Prelude.{◌≡◌, ℕ, ◌+◌, nat_lt, List, [], ◌∷◌, ◌++◌, length, filter, map, if◌then◌else◌}
use Rattle.cil_model.specs.declared.body.Region.{Region}
use Rattle.cil_model.specs.declared.body.RegionKind.{RegionKind}
use Rattle.cil_model.specs.declared.tree.Block.{Block}
use Rattle.cil_model.specs.declared.tree.Block.TheOpen.{Block-F}
use Rattle.cil_model.specs.declared.tree.Block.TheFolds.{fold-Block}
use Rattle.cil_model.specs.declared.tree.Handler.{Handler-F}
use Rattle.cil_semantics.specs.Unwind.{in_try}

-- the handlers that guard a place, in the order in which a search meets them; a search goes on behind each that isn't a catch that fits
abbrev pub guards : ℕ → List Region → List Region
guards q rs = filter (λ r. in_try r q) rs

-- A part of a body by its size, and by the handlers that guard a place where it begins at another.
pub record Guarding : Type 0 where
  pub size : ℕ
  pub guards : (at q : ℕ) → List Region

pub record HandlerGuarding : Type 0 where
  pub kind : RegionKind
  pub size : ℕ
  pub guards : (at q : ℕ) → List Region

abbrev pub sizes : List Guarding → ℕ
sizes [] = 0
sizes (x ∷ xs) = x.size + sizes xs

abbrev pub handler_sizes : List HandlerGuarding → ℕ
handler_sizes [] = 0
handler_sizes (x ∷ xs) = x.size + handler_sizes xs

-- the part in which the place lies tells
abbrev pub guards_among : (at q : ℕ) → List Guarding → List Region
guards_among at q [] = []
guards_among at q (x ∷ xs) = if nat_lt q (at + x.size) then x.guards at q else guards_among (at + x.size) q xs

abbrev pub guards_in_handlers : (at q : ℕ) → List HandlerGuarding → List Region
guards_in_handlers at q [] = []
guards_in_handlers at q (x ∷ xs) = if nat_lt q (at + x.size) then x.guards at q else guards_in_handlers (at + x.size) q xs

abbrev pub own_guards : (try_from try_to place : ℕ) → List HandlerGuarding → List Region
own_guards from to at [] = []
own_guards from to at (x ∷ xs) =
    record { kind = x.kind; try_from = from; try_to = to; handler_from = at; handler_to = at + x.size } ∷ own_guards from to (at + x.size) xs

-- In a try those inside come first, then its own handlers; in a handler those inside alone.
abbrev pub block_guarding : Block-F Guarding HandlerGuarding → Guarding
block_guarding (Block-F.Code is) = record { size = length is; guards = λ at q. [] }
block_guarding (Block-F.Guarded inner handlers) =
    record {
      size = sizes inner + handler_sizes handlers;
      guards = λ at q. if nat_lt q (at + sizes inner)
          then guards_among at q inner ++ own_guards at (at + sizes inner) (at + sizes inner) handlers
          else guards_in_handlers (at + sizes inner) q handlers;
    }

abbrev pub handler_guarding : Handler-F Guarding HandlerGuarding → HandlerGuarding
handler_guarding h = record { kind = h.kind; size = sizes h.blocks; guards = λ at q. guards_among at q h.blocks }

-- the handlers that guard a place of the blocks, of which the first begins at a place
abbrev pub tree_guards : (at q : ℕ) → List Block → List Region
tree_guards at q bs = guards_among at q (map (λ b. fold-Block Guarding HandlerGuarding block_guarding handler_guarding b) bs)

-- A search from any place takes the same handlers in the same order, be it in the blocks or in the table.
abbrev pub SearchesLike : List Block → List Region → Type 0
SearchesLike bs rs = (q : ℕ) → tree_guards 0 q bs ≡ guards q rs
