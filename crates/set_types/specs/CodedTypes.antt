-- What coded types lead to, as lists by row.
use Rattle.std.specs.Prelude.{ℕ, ◌-◌, ◌==◌, if◌then◌else◌, Option, None, slice_get, get_or}
use Rattle.cil_model.specs.declared.ty.Ty.{Ty}
use Rattle.set_types.specs.declared.coded.CodedTypes.{CodedTypes}
use Rattle.set_types.specs.CodedIndexes.{tag, row_of}
use Rattle.set_types.specs.SignatureTypes.{Coded}

abbrev pub named_row : CodedTypes → ℕ → Option Ty
named_row c coded =
    if row_of coded == 0 then None
    else if tag coded == 0 then slice_get c.defs (row_of coded - 1)
    else if tag coded == 1 then get_or c.refs.items (row_of coded - 1) None
    else None

abbrev pub number_row : CodedTypes → ℕ → Option ℕ
number_row c coded =
    if row_of coded == 0 then None
    else if tag coded == 0 then slice_get c.def_numbers (row_of coded - 1)
    else if tag coded == 1 then get_or c.ref_numbers.items (row_of coded - 1) None
    else None

abbrev pub coded_of : CodedTypes → Coded
coded_of c = record {
  named = named_row c;
  number = number_row c;
  spec = λ row. if row == 0 then None else get_or c.specs.items (row - 1) None;
}
