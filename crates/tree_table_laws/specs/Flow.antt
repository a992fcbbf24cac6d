-- Where control may go in the code of a tree (ECMA-335, III.1.7.5, III.3.15 to 3.18, 3.35, 3.46, 3.57 and 4.24).
use Rattle.std.specs.Prelude.{◌≡◌, ℕ, ◌+◌, Bool, true, false, not, ◌&&◌, ◌||◌, ◌==◌, nat_lt, List, [], ◌∷◌, length, map, if◌then◌else◌}
use Rattle.std.specs.List.{list_all, enumerate_from}
use Rattle.cil_model.specs.declared.body.Instr.{Instr}
use Rattle.cil_model.specs.declared.body.RegionKind.{RegionKind}
use Rattle.cil_model.specs.declared.body.RegionKind.TheVariants as region
use Rattle.cil_model.specs.declared.tree.Block.{Block}
use Rattle.cil_model.specs.declared.tree.Block.TheOpen.{Block-F}
use Rattle.cil_model.specs.declared.tree.Block.TheFolds.{fold-Block}
use Rattle.cil_model.specs.declared.tree.Handler.{Handler-F}
use Rattle.il_opcodes.specs.declared.class.Class.{Class}
use Rattle.il_opcodes.specs.Opcodes.{class_of}
use Rattle.cil_semantics.specs.Unwind.{holds_place}
use Rattle.il_flow.specs.Successors.{successors}
use Rattle.region_tree.specs.Rules.{is_endfinally, is_leave, is_ret, is_rethrow}

-- What the code of a part may do: the places to which it goes on or branches, those to which a leave goes, and which instructions may stand there.
pub record Around : Type 0 where
  pub goes : ℕ → Bool
  pub leaves : ℕ → Bool
  pub can_return : Bool
  pub can_leave : Bool
  pub can_end : Bool
  pub can_rethrow : Bool

-- the code of a try or a handler: it stays there, but for a leave, which goes to code around it too
abbrev pub within : (goes : ℕ → Bool) (leave finish rethrow : Bool) → Around → Around
within goes leave finish rethrow a =
    record {
      goes = goes;
      leaves = λ t. goes t || (a.goes t || a.leaves t);
      can_return = false;
      can_leave = leave || a.can_leave;
      can_end = finish || a.can_end;
      can_rethrow = rethrow || a.can_rethrow;
    }

abbrev pub class_keeps : Class → Around → List ℕ → Bool
class_keeps c a ts =
    (not (is_ret c) || a.can_return) && ((not (is_leave c) || a.can_leave) && ((not (is_endfinally c) || a.can_end)
    && ((not (is_rethrow c) || a.can_rethrow) && list_all (λ t. if is_leave c then a.leaves t else a.goes t) ts)))

-- an instruction at a place does only what it may
abbrev pub instr_keeps : Around → ℕ × Instr → Bool
instr_keeps a x = class_keeps (class_of x.1.op) a (successors x.0 x.1)

-- A part of a body: its size, the places at which control may come into it, and whether its code does only what it may, where it begins at a place.
pub record Ways : Type 0 where
  pub size : ℕ
  pub entered : (at t : ℕ) → Bool
  pub keeps : Around → (at : ℕ) → Bool

abbrev pub way_sizes : List Ways → ℕ
way_sizes [] = 0
way_sizes (x ∷ xs) = x.size + way_sizes xs

-- the part in which the place lies tells
abbrev pub entered_among : (at t : ℕ) → List Ways → Bool
entered_among at t [] = false
entered_among at t (x ∷ xs) = if nat_lt t (at + x.size) then x.entered at t else entered_among (at + x.size) t xs

abbrev pub all_keep : Around → ℕ → List Ways → Bool
all_keep a at [] = true
all_keep a at (x ∷ xs) = x.keeps a at && all_keep a (at + x.size) xs

abbrev pub is_catch : RegionKind → Bool
is_catch (region.Catch token) = true
is_catch _ = false

abbrev pub is_cleanup : RegionKind → Bool
is_cleanup region.Finally = true
is_cleanup region.Fault = true
is_cleanup _ = false

-- Straight code may be entered at each place, a protected block at its first one. A block without handlers protects nothing.
abbrev pub block_ways : Block-F Ways Ways → Ways
block_ways (Block-F.Code is) =
    record { size = length is; entered = λ at t. holds_place at (at + length is) t; keeps = λ a at. list_all (instr_keeps a) (enumerate_from at is) }
block_ways (Block-F.Guarded inner []) =
    record { size = way_sizes inner; entered = λ at t. entered_among at t inner; keeps = λ a at. all_keep a at inner }
block_ways (Block-F.Guarded inner (h ∷ hs)) =
    record {
      size = way_sizes inner + way_sizes (h ∷ hs);
      entered = λ at t. t == at;
      keeps = λ a at. all_keep (within (λ t. entered_among at t inner) true false false a) at inner && all_keep a (at + way_sizes inner) (h ∷ hs);
    }

abbrev pub handler_ways : Handler-F Ways Ways → Ways
handler_ways h =
    record {
      size = way_sizes h.blocks;
      entered = λ at t. entered_among at t h.blocks;
      keeps = λ a at. all_keep (within (λ t. entered_among at t h.blocks) (is_catch h.kind) (is_cleanup h.kind) (is_catch h.kind) a) at h.blocks;
    }

abbrev pub ways : List Block → List Ways
ways bs = map (λ b. fold-Block Ways Ways block_ways handler_ways b) bs

-- the code of no protected block may go to the code's end too
abbrev pub around_body : List Block → Around
around_body bs =
    record {
      goes = λ t. entered_among 0 t (ways bs) || (t == way_sizes (ways bs));
      leaves = λ t. false;
      can_return = true;
      can_leave = false;
      can_end = false;
      can_rethrow = false;
    }

-- Control goes only where it may, and each instruction stands only where it may.
abbrev pub ControlStays : List Block → Type 0
ControlStays bs = all_keep (around_body bs) 0 (ways bs) ≡ true
