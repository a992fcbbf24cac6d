-- Copies of blocks, whose rets leave to an exit where there is one.
use Rattle.std.specs.Prelude.{◌≡◌, ℕ, ◌+◌, Option, Some, None, List, ◌++◌, length, map}
use Rattle.cil_model.specs.declared.body.Instr.{Instr}
use Rattle.cil_model.specs.declared.tree.Block.{Block}
use Rattle.cil_model.specs.declared.tree.Handler.{Handler}
use Rattle.region_tree.specs.Trees.{clauses, code, handler_parts, handlers_clauses, handlers_code, own_clauses, part}
use Rattle.region_tree.specs.Wrapping.{leaves_to}

abbrev pub turned : Option ℕ → Instr → Instr
turned None i = i
turned (Some exit) i = leaves_to exit i

-- a block's code, turned, and the block's clauses
pub record IsCopy (exit : Option ℕ) (b copy : Block) : Type 0 where
  pub instrs : (part copy).code ≡ map (turned exit) (part b).code
  pub regions : (q : ℕ) → (part copy).clauses q ≡ (part b).clauses q

-- some blocks, and copies of others behind them
pub record AddsCopies (exit : Option ℕ) (old bs new : List Block) : Type 0 where
  pub instrs : code new ≡ code old ++ map (turned exit) (code bs)
  pub regions : (q : ℕ) → clauses q new ≡ clauses q old ++ clauses (q + length (code old)) bs

-- some handlers, and copies of others behind them
pub record AddsHandlers (exit : Option ℕ) (old hs new : List Handler) : Type 0 where
  pub instrs : handlers_code (handler_parts new) ≡ handlers_code (handler_parts old) ++ map (turned exit) (handlers_code (handler_parts hs))
  pub regions : (q : ℕ) → handlers_clauses q (handler_parts new) ≡ handlers_clauses q (handler_parts old) ++ handlers_clauses (q + length (handlers_code (handler_parts old))) (handler_parts hs)
  pub own : (from to q : ℕ) → own_clauses from to q (handler_parts new) ≡ own_clauses from to q (handler_parts old) ++ own_clauses from to (q + length (handlers_code (handler_parts old))) (handler_parts hs)
