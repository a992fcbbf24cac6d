-- What a tree, a place and a handler need so that wrapping breaks no rule on regions (ECMA-335, III.1.7.5 and III.3.46).
use Rattle.std.specs.Prelude.{◌≡◌, ◌≤◌, ◌<◌, ◌+◌, ℕ, false, [], ◌∷◌, length, slice_get, Some, All}
use Rattle.cil_model.specs.declared.body.Instr.{Instr}
use Rattle.cil_model.specs.declared.body.Region.{Region}
use Rattle.cil_model.specs.declared.tree.Handler.{Handler}
use Rattle.cil_model.specs.declared.tree.Tree.{Tree}
use Rattle.il_opcodes.specs.Opcodes.{class_of}
use Rattle.il_flow.specs.Successors.{successors}
use Rattle.region_tree.specs.Rules.{breaks_region, is_endfinally, is_filter, is_leave, is_out_of_place, is_rethrow}
use Rattle.region_tree.specs.Trees.{clauses, code}
use Rattle.body_tree.specs.Division.{new_clause}
use Rattle.tree_table_laws.specs.Tables.{LieWithin}

-- Control goes from in front of a place up to that place at most, and from there on neither in front of it nor out of the code.
pub record KeepsSides (from end k t : ℕ) : Type 0 where
  pub front : k < from → t ≤ from
  pub back : from ≤ k → from ≤ t
  pub inside : from ≤ k → t < end

-- An instruction of a clause's handler breaks neither X3 nor X4 by this clause, and goes to no place in front of the handler.
pub record KeepsHandler (r : Region) (k : ℕ) (i : Instr) : Type 0 where
  pub edges : breaks_region (r ∷ []) k i ≡ false
  pub ends : is_out_of_place (r ∷ []) k i ≡ false
  pub back : All (λ t. r.handler_from ≤ t) (successors k i)

-- Some code is wrapped by a handler of straight code, no clause lies over 999 deep, and control keeps to the sides of the place and to the handler.
pub record FitsWrapping (t : Tree) (from : ℕ) (h : Handler) : Type 0 where
  pub has_code : from < length (code t.blocks)
  pub has_handler : 0 < length (code h.blocks)
  pub is_straight : clauses (length (code t.blocks)) h.blocks ≡ []
  pub no_filter : is_filter h.kind ≡ false
  pub depth : LieWithin 999 (clauses 0 t.blocks)
  pub sides : (k : ℕ) (i : Instr) → slice_get (code t.blocks) k ≡ Some i → All (KeepsSides from (length (code t.blocks)) k) (successors k i)
  pub in_handler : (k : ℕ) (i : Instr) → slice_get (code h.blocks) k ≡ Some i → KeepsHandler (new_clause t from h) (length (code t.blocks) + k) i

-- ---- code behind all other code, as that of the exit

-- An instruction behind a place goes to none in front of it, and is no leave, endfinally or rethrow.
pub record StaysBehind (end k : ℕ) (i : Instr) : Type 0 where
  pub no_leave : is_leave (class_of i.op) ≡ false
  pub no_end : is_endfinally (class_of i.op) ≡ false
  pub no_rethrow : is_rethrow (class_of i.op) ≡ false
  pub goes : All (λ t. end ≤ t) (successors k i)
