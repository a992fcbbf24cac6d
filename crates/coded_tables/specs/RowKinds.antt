-- The kinds of an assembly's types by what its coded types lead to (ECMA-335, II.10.1).
use Rattle.std.specs.Prelude.{ℕ, ◌==◌, if◌then◌else◌, Option, None, option_map}
use Rattle.cil_base.specs.declared.tables.TheConstants.{TYPE_DEF}
use Rattle.cil_model.specs.declared.ty.Ty.{Ty}
use Rattle.cil_model.specs.declared.program.Kind.{Kind}
use Rattle.cil_model.specs.declared.program.Kind.TheVariants.{Interface}
use Rattle.set_rows.specs.Sets.{Assembly, cell}
use Rattle.set_types.specs.CodedIndexes.{tag, row_of}
use Rattle.set_types.specs.SignatureTypes.{Coded, ty_of}
use Rattle.set_program.specs.Kinds.{is_interface, kind_by_base}

-- the type that an index names, if it isn't 0
abbrev pub base_of : Coded → ℕ → Option Ty
base_of c coded = if row_of coded == 0 then None else if tag coded == 2 then option_map (ty_of c) (c.spec (row_of coded)) else c.named coded

abbrev pub row_kind : Assembly → Coded → ℕ → Kind
row_kind x c row = if is_interface (cell x TYPE_DEF row 0) then Interface else kind_by_base (base_of c (cell x TYPE_DEF row 3))
