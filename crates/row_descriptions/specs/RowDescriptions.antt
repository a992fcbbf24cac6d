-- Fields and methods as their rows say (ECMA-335, II.22.15, II.22.26).
use Rattle.std.specs.Prelude.{ℕ, ◌*◌, ◌/◌, ◌%◌, ◌^◌, ◌==◌, ◌&&◌, not, Bool, false, List, [], map, Option, Some, None, option_map, option_and_then}
use Rattle.cil_base.specs.declared.tables.TheConstants.{FIELD, METHOD_DEF}
use Rattle.cil_model.specs.declared.ty.Ty.{Ty}
use Rattle.cil_model.specs.declared.ty.Ty.TheVariants as ty
use Rattle.cil_model.specs.declared.program.FieldDesc.{FieldDesc}
use Rattle.cil_model.specs.declared.program.MethodDesc.{MethodDesc}
use Rattle.cli_sigs.specs.declared.types.SigTy.{SigTy}
use Rattle.cli_sigs.specs.declared.types.MethodSig.{MethodSig, MethodSig-F, out-MethodSig}
use Rattle.set_rows.specs.Sets.{Assembly, or_zero, cell, text, blob}
use Rattle.set_rows.specs.Owners.{owner, row_in}
use Rattle.set_types.specs.SignatureTypes.{Coded, ty_of, ty_or}
use Rattle.set_signatures.specs.Blobs.{field_sig, method_sig}
use Rattle.row_descriptions.specs.declared.methods.MethodFacts.{MethodFacts}
use Rattle.row_descriptions.specs.declared.methods.Parameters.{Parameters}

-- flags that take two bytes (II.22.15, II.22.26)
abbrev pub two_bytes : ℕ → ℕ
two_bytes flags = flags % 2 ^ 16

-- the number of the type that owns a row of Field (column 4) or MethodDef (column 5)
abbrev pub owner_number : Assembly → Coded → ℕ → ℕ → ℕ → ℕ
owner_number x c column table row = or_zero (option_and_then (λ k. c.number (k * 4)) (owner x column table row))

-- the same, where the owners stand by row from 0
abbrev pub owner_number_in : Coded → List ℕ → ℕ → ℕ
owner_number_in c owners row = or_zero (option_and_then (λ k. c.number (k * 4)) (row_in owners row))

-- ---- fields

abbrev pub field_ty : Coded → List ℕ → Ty
field_ty c bytes = ty_or ty.Opaque (option_map (ty_of c) (field_sig bytes))

-- the bit that marks a static field (II.23.1.5)
abbrev pub has_static_bit : ℕ → Bool
has_static_bit flags = flags / 0x10 % 2 == 1

unfoldable pub field_row : Assembly → Coded → ℕ → FieldDesc
field_row x c row = record {
  owner = owner_number x c 4 FIELD row;
  name = text x FIELD row 1;
  ty = field_ty c (blob x FIELD row 2);
  is_static = has_static_bit (cell x FIELD row 0);
  flags = two_bytes (cell x FIELD row 0);
}

-- ---- methods

-- HASTHIS, and not EXPLICITTHIS: an instance is given beside the parameters (II.15.3)
abbrev pub gives_this : ℕ → Bool
gives_this flags = (flags / 0x20 % 2 == 1) && (flags / 0x40 % 2 == 0)

-- what a signature says of its method
abbrev pub open_parameters : Coded → MethodSig-F SigTy MethodSig → Parameters
open_parameters c m = record { params = map (ty_of c) m.params; result = ty_of c m.result; is_static = not (gives_this m.flags); generics = m.generics }

abbrev pub parameters_of : Coded → Option MethodSig → Parameters
parameters_of c None = record { params = []; result = ty.Opaque; is_static = false; generics = 0 }
parameters_of c (Some m) = open_parameters c (out-MethodSig m)

abbrev pub method_with : MethodFacts → ℕ → List ℕ → ℕ → Parameters → MethodDesc
method_with f owner name flags p = record {
  assembly = f.assembly;
  row = f.row;
  owner = owner;
  name = name;
  params = p.params;
  result = p.result;
  sig = f.sig;
  is_static = p.is_static;
  flags = two_bytes flags;
  outside = false;
  abbreviator = f.abbreviator;
  invariant = f.invariant;
  generated = f.generated;
  body = None;
  generics = f.generics;
}

-- A method by its row, and by what else is known of it.
unfoldable pub method_row : Assembly → Coded → MethodFacts → MethodDesc
method_row x c f = method_with f (owner_number x c 5 METHOD_DEF f.row) (text x METHOD_DEF f.row 3) (cell x METHOD_DEF f.row 2) (parameters_of c (method_sig (blob x METHOD_DEF f.row 4)))
