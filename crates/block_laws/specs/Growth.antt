-- One more handler of blocks that are there (ECMA-335, I.12.4.2.5 and I.12.4.2.7).
use Rattle.std.specs.Prelude.{◌≡◌, ℕ, ◌+◌, List, length}
use Rattle.cil_model.specs.declared.body.Region.{Region}
use Rattle.cil_model.specs.declared.body.RegionKind.{RegionKind}
use Rattle.cil_model.specs.declared.tree.Block.{Block}
use Rattle.cil_model.specs.declared.tree.Handler.{Handler}
pub use Rattle.region_tree.specs.Handlers.{SearchesLike}
use Rattle.region_tree.specs.Trees.{code, handler_parts, handlers_code}

-- the clause of a try behind some code, with some handlers before its own
abbrev pub clause_behind : RegionKind → (front inner : List Block) → List Handler → (own : List Block) → Region
clause_behind kind front inner hs own =
    record {
      kind = kind;
      try_from = length (code front);
      try_to = length (code front) + length (code inner);
      handler_from = length (code front) + length (code inner) + length (handlers_code (handler_parts hs));
      handler_to = length (code front) + length (code inner) + length (handlers_code (handler_parts hs)) + length (code own);
    }
