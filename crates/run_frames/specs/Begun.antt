-- What a frame holds as its call begins (ECMA-335, I.12.3.2.2; Code Contracts User Manual, section 2.2).
use Rattle.std.specs.Prelude.{List, [], ◌∷◌, ◌++◌, Option, None}
use Rattle.cil_model.specs.declared.contract.Old.{Old}
use Rattle.cil_model.specs.declared.contract.TyRef.{TyRef}
use Rattle.cil_model.specs.declared.program.Program.{Program}
use Rattle.cil_semantics.specs.Contracted.{Piece, Plan}
use Rattle.cil_semantics.specs.Frames.{captured_tys, clause_tys}
use Rattle.cil_semantics.specs.Places.{default_cells}
use Rattle.cil_semantics.specs.Tokens.{Here, local_tys}
use Rattle.cil_semantics.specs.Unwind.{body_of}
use Rattle.cil_semantics.specs.declared.Cell.{Cell}
use Rattle.cil_semantics.specs.declared.Local.{Local}

-- the types of these old values
abbrev pub types_of_olds : List Old → List TyRef
types_of_olds [] = []
types_of_olds (o ∷ os) = o.ty ∷ types_of_olds os

-- the types of the old values of these clauses
abbrev pub old_types : List Piece → List TyRef
old_types [] = []
old_types (x ∷ xs) = types_of_olds x.clause.olds ++ old_types xs

-- arguments, and locals and captured values at their default values
abbrev pub local_with : Program → Here → Option Plan → List Cell → Local
local_with p here plan args =
    record {
      args = args;
      locals = default_cells p (local_tys p here (body_of p here.method).locals ++ clause_tys p here plan);
      captured = default_cells p (captured_tys p here plan);
      result = None;
      stack = [];
    }
