-- Core members and core classes, as code tells of them (own; the classes by ECMA-335, Partition IV).
use Rattle.std.specs.Prelude.{List, map}
use Rattle.cil_model.specs.declared.ty.Ty.{Ty}
use Rattle.cil_semantics.specs.Calls as calls
use Rattle.cil_semantics.specs.Core.{Name, core_classes}
use Rattle.run_members.specs.declared.core_members.CoreMember.{CoreMember}
use Rattle.run_members.specs.declared.core_members.CoreMember.TheVariants as core

-- the machine's core member
abbrev pub told : CoreMember → calls.CoreMember
told core.Constructor = calls.Constructor
told (core.Equality wanted) = calls.Equality wanted
told core.Concatenation = calls.Concatenation
told core.TextLength = calls.TextLength
told core.IsNullOrEmpty = calls.IsNullOrEmpty
told (core.Quantifier exists) = calls.Quantifier exists
told core.NotCore = calls.NotCore

unfoldable pub class_names : List Name
class_names = map (λ (c : Name × Ty). c.0) core_classes
