-- What the coded types of an assembly lead to, by row from 0 (ECMA-335, II.22.37, II.22.38, II.22.39).
use Rattle.std.specs.Prelude.{◌≡◌, ℕ, [], map, Option, option_map, option_and_then}
use Rattle.cil_base.specs.declared.tables.TheConstants.{TYPE_DEF, TYPE_REF, TYPE_SPEC}
use Rattle.cil_model.specs.declared.ty.Ty.{Ty}
use Rattle.cli_sigs.specs.declared.types.SigTy.{SigTy}
use Rattle.set_rows.specs.Sets.{Assembly, Assemblies, assembly_at, rows_in, blob}
use Rattle.set_types.specs.declared.coded.CodedTypes.{CodedTypes}
use Rattle.set_signatures.specs.Blobs.{spec_sig}
use Rattle.set_program.specs.declared.identity.TypeId.TheVariants.{Row}
use Rattle.set_program.specs.References.{reference}
use Rattle.set_program.specs.Environment.{number_of, number_or, ty_by_id}

-- the type of a TypeDef row, and its number
abbrev pub own_ty : Assemblies → ℕ → ℕ → Ty
own_ty s a row = ty_by_id s (Row a row)

abbrev pub own_number : Assemblies → ℕ → ℕ → ℕ
own_number s a row = number_or 0 (number_of s (Row a row))

-- the type that a TypeRef row names, and its number
abbrev pub reference_ty : Assemblies → ℕ → ℕ → Option Ty
reference_ty s a row = option_map (ty_by_id s) (reference s a row)

abbrev pub reference_number : Assemblies → ℕ → ℕ → Option ℕ
reference_number s a row = option_and_then (number_of s) (reference s a row)

-- the signature of a TypeSpec row
abbrev pub row_spec : Assembly → ℕ → Option SigTy
row_spec x row = spec_sig (blob x TYPE_SPEC row 0)

pub record IsEmpty (c : CodedTypes) : Type 0 where
  pub defs : c.defs ≡ []
  pub def_numbers : c.def_numbers ≡ []
  pub refs : c.refs.items ≡ []
  pub ref_numbers : c.ref_numbers.items ≡ []
  pub specs : c.specs.items ≡ []

pub record AreByRow (s : Assemblies) (a : ℕ) (c : CodedTypes) : Type 0 where
  pub defs : c.defs ≡ map (own_ty s a) (rows_in (assembly_at s a) TYPE_DEF)
  pub def_numbers : c.def_numbers ≡ map (own_number s a) (rows_in (assembly_at s a) TYPE_DEF)
  pub refs : c.refs.items ≡ map (reference_ty s a) (rows_in (assembly_at s a) TYPE_REF)
  pub ref_numbers : c.ref_numbers.items ≡ map (reference_number s a) (rows_in (assembly_at s a) TYPE_REF)
  pub specs : c.specs.items ≡ map (row_spec (assembly_at s a)) (rows_in (assembly_at s a) TYPE_SPEC)
