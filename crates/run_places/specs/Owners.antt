-- The statics of a closed type among those of all (own).
use Rattle.std.specs.Prelude.{ℕ, suc, if◌then◌else◌, List, [], ◌∷◌, Option, Some, None, map, option_map}
use Rattle.cil_model.specs.declared.ty.Ty.{Ty}
use Rattle.cil_model.specs.declared.program.Program.{Program}
use Rattle.cil_semantics.specs.Words.{maybe}
use Rattle.cil_semantics.specs.Types.{same_ty}
use Rattle.cil_semantics.specs.Places.{default_cells, static_layout}
use Rattle.cil_semantics.specs.declared.Cell.{Cell}
use Rattle.cil_semantics.specs.declared.Statics.{Statics}
use Rattle.cil_semantics.specs.Unwind.{find_statics, set_statics}

-- where the statics of a closed type stand
abbrev pub owner_place : Ty → List Statics → Option ℕ
owner_place t [] = None
owner_place t (x ∷ xs) = if same_ty x.owner t then Some 0 else option_map suc (owner_place t xs)

-- the static fields of a closed type, at first at their default values
abbrev pub cells_of : Program → Ty → List Statics → List Cell
cells_of p t ss = maybe (default_cells p (map (λ (x : ℕ × Ty). x.1) (static_layout p t))) (λ (s : Statics). s.cells) (find_statics t ss)

-- the statics of all types, where those of one have these fields
abbrev pub set_owner : Ty → List Statics → List Cell → List Statics
set_owner t ss cs =
    set_statics (same_ty t) (maybe (record { owner = t; init = None; cells = cs }) (λ (s : Statics). record s { cells = cs }) (find_statics t ss)) ss
