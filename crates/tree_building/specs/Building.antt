-- Spans that have the clauses of a table's rows so far (ECMA-335, I.12.4.2.5 and I.12.4.2.7).
use Rattle.std.specs.Prelude.{◌≡◌, ◌≤◌, ◌<◌, ◌++◌, take, slice_index, slice_index_or, ◌||◌, ◌&&◌, ◌==◌, ℕ, true, false, IsTrue, List, [], ◌∷◌, length, filter, All, IsPermutation}
use Rattle.cil_model.specs.declared.body.Body.{Body}
use Rattle.cil_model.specs.declared.body.Instr.{Instr}
use Rattle.cil_model.specs.declared.body.Region.{Region}
use Rattle.cil_model.specs.declared.tree.Block.{Block}
use Rattle.cil_model.specs.declared.tree.Handler.{Handler}
use Rattle.region_tree.specs.Nesting.{breaks_nesting, depths_of, handler_start, have_same_try, is_misplaced, is_nested}
use Rattle.region_tree.specs.Trees.{Before, SameTable, clauses, code, handler_parts, own_clauses}
use Rattle.block_laws.specs.Blocks.{CutsNothing, HasParts}
use Rattle.block_laws.specs.Growth.{SearchesLike}
use Rattle.tree_building.specs.declared.span.Span.{Span}
use Rattle.tree_building.specs.Spans.{AreLaid, blocks_of}

-- one of a list
pub data Has {X : Type 0} : List X → X → Type 0 where
  first : (x : X) (xs : List X) → Has (x ∷ xs) x
  next : (y x : X) (xs : List X) → Has xs x → Has (y ∷ xs) x

-- the rows with this try, in the table's order
abbrev pub of_try : (from to : ℕ) → List Region → List Region
of_try from to rs = filter (λ (r : Region). (r.try_from == from) && (r.try_to == to)) rs

-- Straight code that no clause of the whole table cuts, or a protected block with all rows of its try so far.
pub data IsWhole (all rows : List Region) (s : Span) : Type 0 where
  plain : s.handlers ≡ [] → All (λ (r : Region). CutsNothing r s.from s.end) all → IsWhole all rows s
  guarded : (h : Handler) (hs : List Handler) → s.handlers ≡ h ∷ hs → of_try s.from s.to rows ≡ own_clauses s.from s.to s.to (handler_parts (h ∷ hs)) → IsWhole all rows s

-- the span's try is the row's, whose handler ends within the span
pub record IsOwn (r : Region) (s : Span) : Type 0 where
  pub from : r.try_from ≡ s.from
  pub to : r.try_to ≡ s.to
  pub end : r.handler_to ≤ s.end

-- A row is one of a span's own, or it is nested in another row.
pub data IsCovered (spans : List Span) (rows : List Region) (r : Region) : Type 0 where
  own : (s : Span) → Has spans s → IsOwn r s → IsCovered spans rows r
  within : (o : Region) → Has rows o → is_nested r o ≡ true → IsCovered spans rows r

-- The spans have the code, and the clauses of the rows so far as their tree needs them.
pub record IsBuilt (instrs : List Instr) (all rows : List Region) (spans : List Span) : Type 0 where
  pub laid : AreLaid 0 spans (length instrs)
  pub code : code (blocks_of spans) ≡ instrs
  pub search : SearchesLike (blocks_of spans) rows
  pub same : IsPermutation rows (clauses 0 (blocks_of spans))
  pub order : (r s : Region) → IsTrue (is_nested r s || have_same_try r s) → Before rows r s → Before (clauses 0 (blocks_of spans)) r s
  pub whole : All (IsWhole all rows) spans
  pub covered : All (IsCovered spans rows) rows

-- A row that breaks no rule on nesting behind the rows before it, and lies in the code.
pub record Fits (all rows : List Region) (end : ℕ) (r : Region) : Type 0 where
  pub parts : HasParts r
  pub placed : All (λ (e : Region). is_misplaced e r ≡ false) rows
  pub start : r.handler_from ≡ handler_start rows r
  pub ends : r.handler_to ≤ end
  pub listed : Has all r

-- Adding a row keeps what has been built, where the row fits.
abbrev pub AddsRow : Region → List Span → List Span → Type 0
AddsRow r old new = (instrs : List Instr) (all rows : List Region) → All HasParts rows → Fits all rows (length instrs) r → IsBuilt instrs all rows old → IsBuilt instrs all (rows ++ r ∷ []) new

-- No row of the table breaks the rule on nesting.
abbrev pub NestWell : List Region → Type 0
NestWell rs = (k : ℕ) (d : Region) → k < length rs → breaks_nesting (take k rs) (slice_index_or rs k d) (slice_index (depths_of rs) k) ≡ false

-- Blocks that have a body's code and, as their tree needs them, its clauses.
pub record AreBlocksOf (b : Body) (bs : List Block) : Type 0 where
  pub instrs : code bs ≡ b.instrs
  pub regions : SameTable b.regions (clauses 0 bs)
  pub search : SearchesLike bs b.regions
