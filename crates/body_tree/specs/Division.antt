-- Blocks divided at a place, of which the part behind it is to be wrapped.
use Rattle.std.specs.Prelude.{◌≡◌, ◌≤◌, ◌<◌, ℕ, ◌+◌, List, [], ◌∷◌, ◌++◌, length, map, take, drop, slice_get, Some}
use Rattle.cil_model.specs.declared.body.Instr.{Instr}
use Rattle.cil_model.specs.declared.body.Region.{Region}
use Rattle.cil_model.specs.declared.tree.Block.{Block}
use Rattle.cil_model.specs.declared.tree.Handler.{Handler}
use Rattle.cil_model.specs.declared.tree.Tree.{Tree}
use Rattle.region_tree.specs.Handlers.{tree_guards}
use Rattle.region_tree.specs.Trees.{clauses, code}
use Rattle.region_tree.specs.Wrapping.{exit_of, leaves_to, wrapper}

-- the part in front of the place, and the part from it on with its rets turned; the clauses stay where they are
pub record IsDivided (from exit : ℕ) (bs front inner : List Block) : Type 0 where
  pub size : length (code front) ≡ from
  pub before : code front ≡ take from (code bs)
  pub behind : code inner ≡ map (leaves_to exit) (drop from (code bs))
  pub regions : (q : ℕ) → clauses q front ++ clauses (q + from) inner ≡ clauses q bs

-- the clause that wrapping adds
abbrev pub new_clause : Tree → ℕ → Handler → Region
new_clause t from h = wrapper h.kind from (length (code t.blocks)) (exit_of t h)

-- An instruction from the place on stands where it stood; a ret leaves to the end of all code.
abbrev pub RetsLeave : Tree → ℕ → Handler → Tree → Type 0
RetsLeave t from h new = (q : ℕ) (i : Instr) → from ≤ q → slice_get (code t.blocks) q ≡ Some i → slice_get (code new.blocks) q ≡ Some (leaves_to (length (code new.blocks)) i)

-- A search from a place of the wrapped part takes the old handlers and then the new one, and one from a place in front of it the old ones.
pub record WrapsSearch (t : Tree) (from : ℕ) (h : Handler) (new : Tree) : Type 0 where
  pub inside : (q : ℕ) → from ≤ q → q < length (code t.blocks) → tree_guards 0 q new.blocks ≡ tree_guards 0 q t.blocks ++ new_clause t from h ∷ []
  pub outside : (q : ℕ) → q < from → tree_guards 0 q new.blocks ≡ tree_guards 0 q t.blocks
