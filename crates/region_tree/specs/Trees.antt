-- A body as nested blocks, and the table of clauses that it stands for (ECMA-335, I.12.4.2.7 and II.25.4.6).
use Rattle.std.specs.Prelude.{◌≡◌, ℕ, ◌+◌, ◌||◌, IsTrue, List, [], ◌∷◌, ◌++◌, length, map, IsPermutation}
use Rattle.cil_model.specs.declared.body.Body.{Body}
use Rattle.cil_model.specs.declared.body.Instr.{Instr}
use Rattle.cil_model.specs.declared.body.Region.{Region}
use Rattle.cil_model.specs.declared.body.RegionKind.{RegionKind}
use Rattle.cil_model.specs.declared.tree.Block.{Block}
use Rattle.cil_model.specs.declared.tree.Block.TheOpen.{Block-F}
use Rattle.cil_model.specs.declared.tree.Block.TheFolds.{fold-Block, fold-Handler}
use Rattle.cil_model.specs.declared.tree.Handler.{Handler, Handler-F}
use Rattle.cil_model.specs.declared.tree.Tree.{Tree}
use Rattle.region_tree.specs.Nesting.{is_nested, have_same_try}

-- A part of a body: its code, and its clauses where it begins at a place.
pub record Part : Type 0 where
  pub code : List Instr
  pub clauses : ℕ → List Region

-- a handler and its part
pub record HandlerPart : Type 0 where
  pub kind : RegionKind
  pub part : Part

-- parts one after another
abbrev pub joined_code : List Part → List Instr
joined_code [] = []
joined_code (x ∷ xs) = x.code ++ joined_code xs

abbrev pub joined_clauses : ℕ → List Part → List Region
joined_clauses q [] = []
joined_clauses q (x ∷ xs) = x.clauses q ++ joined_clauses (q + length x.code) xs

abbrev pub handlers_code : List HandlerPart → List Instr
handlers_code [] = []
handlers_code (h ∷ hs) = h.part.code ++ handlers_code hs

abbrev pub handlers_clauses : ℕ → List HandlerPart → List Region
handlers_clauses q [] = []
handlers_clauses q (h ∷ hs) = h.part.clauses q ++ handlers_clauses (q + length h.part.code) hs

-- the clauses of a try, one for each handler, which stand one after another from a place on
abbrev pub own_clauses : (try_from try_to place : ℕ) → List HandlerPart → List Region
own_clauses from to q [] = []
own_clauses from to q (h ∷ hs) =
    record { kind = h.kind; try_from = from; try_to = to; handler_from = q; handler_to = q + length h.part.code }
    ∷ own_clauses from to (q + length h.part.code) hs

-- a try stands before its handlers; the clauses in them stand before its own
abbrev pub block_part : Block-F Part HandlerPart → Part
block_part (Block-F.Code is) = record { code = is; clauses = λ q. [] }
block_part (Block-F.Guarded inner handlers) =
    record {
      code = joined_code inner ++ handlers_code handlers;
      clauses = λ q. joined_clauses q inner ++ (handlers_clauses (q + length (joined_code inner)) handlers
          ++ own_clauses q (q + length (joined_code inner)) (q + length (joined_code inner)) handlers);
    }

abbrev pub handler_part : Handler-F Part HandlerPart → HandlerPart
handler_part h = record { kind = h.kind; part = record { code = joined_code h.blocks; clauses = λ q. joined_clauses q h.blocks } }

abbrev pub part : Block → Part
part b = fold-Block Part HandlerPart block_part handler_part b

abbrev pub code : List Block → List Instr
code bs = joined_code (map part bs)

abbrev pub handler_parts : List Handler → List HandlerPart
handler_parts hs = map (λ h. fold-Handler Part HandlerPart block_part handler_part h) hs

abbrev pub clauses : ℕ → List Block → List Region
clauses q bs = joined_clauses q (map part bs)

-- ---- the body

-- the body that the tree stands for; its offsets are not known
abbrev pub body_of_tree : Tree → Body
body_of_tree t =
    record { instrs = code t.blocks; offsets = []; regions = clauses 0 t.blocks; locals = t.locals; max_stack = t.max_stack; init = t.init }

-- one before the other in a table
pub data Before : List Region → Region → Region → Type 0 where
  here : {xs : List Region} (front back : List Region) (r s : Region) → xs ≡ front ++ s ∷ back → Before (r ∷ xs) r s
  later : {xs : List Region} {x r s : Region} → Before xs r s → Before (x ∷ xs) r s

-- Two tables have the same clauses, and those that are nested or of one try in the same order.
pub record SameTable (xs ys : List Region) : Type 0 where
  pub same : IsPermutation xs ys
  pub order : (r s : Region) → IsTrue (is_nested r s || have_same_try r s) → Before xs r s → Before ys r s

-- The tree stands for the body.
pub record StandsForBody (t : Tree) (b : Body) : Type 0 where
  pub instrs : code t.blocks ≡ b.instrs
  pub regions : SameTable b.regions (clauses 0 t.blocks)
  pub locals : t.locals ≡ b.locals
  pub max_stack : t.max_stack ≡ b.max_stack
  pub init : t.init ≡ b.init
