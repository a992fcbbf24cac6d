-- The bases of core classes by their names alone (own).
use Rattle.std.specs.Prelude.{bytes_eq, if◌then◌else◌, codes}
use Rattle.cil_model.specs.declared.ty.Ty.{Ty}
use Rattle.cil_semantics.specs.Core.{Name, object_ty, class_named}

-- the class of a name, System.Object as it stands in signatures
abbrev pub base_named : Name → Ty
base_named name = if bytes_eq name (codes "System.Object") then object_ty else class_named name
