-- The classes of instructions by groups, as the arms are grouped (own).
use Rattle.std.specs.Prelude.{Bool, true, false}
use Rattle.il_opcodes.specs.declared.class.Class.{Class}
use Rattle.il_opcodes.specs.declared.class.Class.TheVariants as class

-- constants, arguments, locals and the stack alone
abbrev pub is_on_frame : Class → Bool
is_on_frame class.Nop = true
is_on_frame class.LoadArgument = true
is_on_frame class.StoreArgument = true
is_on_frame class.ArgumentAddress = true
is_on_frame class.LoadLocal = true
is_on_frame class.StoreLocal = true
is_on_frame class.LocalAddress = true
is_on_frame class.LoadNull = true
is_on_frame class.LoadInt = true
is_on_frame class.LoadLong = true
is_on_frame class.LoadString = true
is_on_frame class.Duplicate = true
is_on_frame class.Pop = true
is_on_frame _ = false

-- numbers, comparisons and branches
abbrev pub is_on_numbers : Class → Bool
is_on_numbers (class.Binary a) = true
is_on_numbers (class.Shift a) = true
is_on_numbers (class.Unary a) = true
is_on_numbers (class.Convert a) = true
is_on_numbers (class.ConvertChecked a b) = true
is_on_numbers (class.Compare a) = true
is_on_numbers class.Jump = true
is_on_numbers class.Switch = true
is_on_numbers (class.Branch a) = true
is_on_numbers (class.CompareBranch a b) = true
is_on_numbers _ = false

-- a type that the token names
abbrev pub is_on_types : Class → Bool
is_on_types class.SizeOf = true
is_on_types class.CopyObject = true
is_on_types class.LoadObject = true
is_on_types class.StoreObject = true
is_on_types class.InitObject = true
is_on_types class.CastClass = true
is_on_types class.IsInstance = true
is_on_types class.Unbox = true
is_on_types class.Box = true
is_on_types class.UnboxAny = true
is_on_types class.NewArray = true
is_on_types class.LoadTypedElement = true
is_on_types class.StoreTypedElement = true
is_on_types _ = false

-- places of objects, and statics
abbrev pub is_on_places : Class → Bool
is_on_places (class.LoadIndirect a) = true
is_on_places (class.StoreIndirect a) = true
is_on_places class.LoadField = true
is_on_places class.FieldAddress = true
is_on_places class.StoreField = true
is_on_places class.LoadStatic = true
is_on_places class.StaticAddress = true
is_on_places class.StoreStatic = true
is_on_places class.ArrayLength = true
is_on_places class.ElementAddress = true
is_on_places (class.LoadElement a) = true
is_on_places (class.StoreElement a) = true
is_on_places _ = false

-- names, methods, calls, ways out, and what isn't run
abbrev pub is_on_methods : Class → Bool
is_on_methods class.LoadToken = true
is_on_methods class.LoadFunction = true
is_on_methods class.LoadVirtualFunction = true
is_on_methods class.Throw = true
is_on_methods class.Rethrow = true
is_on_methods class.EndFinally = true
is_on_methods class.Leave = true
is_on_methods class.Call = true
is_on_methods class.CallVirtual = true
is_on_methods class.NewObject = true
is_on_methods class.Return = true
is_on_methods class.Unsupported = true
is_on_methods class.Prefix = true
is_on_methods _ = false
