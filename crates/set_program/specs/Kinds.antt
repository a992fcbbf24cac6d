-- What a type is (ECMA-335, II.10.1, II.10.1.2), and how many parameters it has (II.22.20).
use Rattle.std.specs.Prelude.{ℕ, ◌/◌, ◌%◌, ◌==◌, bytes_eq, Bool, if◌then◌else◌, List, length, filter, codes, Option, Some, None}
use Rattle.cil_model.specs.declared.ty.Ty.{Ty, out-Ty}
use Rattle.cil_model.specs.declared.ty.Ty.TheOpen.{Ty-F}
use Rattle.cil_model.specs.declared.program.Kind.{Kind}
use Rattle.cil_model.specs.declared.program.Kind.TheVariants.{Class, Interface, Struct, Enumeration, Delegate}
use Rattle.cil_base.specs.declared.tables.TheConstants.{GENERIC_PARAM, TYPE_DEF}
use Rattle.set_names.specs.Names.{Name}
use Rattle.set_rows.specs.Sets.{Assembly, Assemblies, assembly_at, rows_in, cell}
use Rattle.set_program.specs.Environment.{ty_at}

-- the bit of TypeAttributes that marks an interface (II.23.1.15)
abbrev pub is_interface : ℕ → Bool
is_interface flags = flags / 0x20 % 2 == 1

abbrev pub kind_by_name : Name → Kind
kind_by_name name =
    if bytes_eq name (codes "System.ValueType") then Struct
    else if bytes_eq name (codes "System.Enum") then Enumeration
    else if bytes_eq name (codes "System.MulticastDelegate") then Delegate
    else if bytes_eq name (codes "System.Delegate") then Delegate
    else Class

abbrev pub kind_by_layer : Ty-F Ty → Kind
kind_by_layer (Ty-F.Outside name value) = kind_by_name name
kind_by_layer _ = Class

abbrev pub kind_by_base : Option Ty → Kind
kind_by_base None = Class
kind_by_base (Some t) = kind_by_layer (out-Ty t)

-- the kind of a TypeDef row
abbrev pub kind_at : Assemblies → ℕ → ℕ → Kind
kind_at s a row =
    if is_interface (cell (assembly_at s a) TYPE_DEF row 0) then Interface else kind_by_base (ty_at s a (cell (assembly_at s a) TYPE_DEF row 3))

-- the number of GenericParam rows of a TypeOrMethodDef index
abbrev pub generics : Assembly → ℕ → ℕ
generics x owner = length (filter (λ g. cell x GENERIC_PARAM g 2 == owner) (rows_in x GENERIC_PARAM))
