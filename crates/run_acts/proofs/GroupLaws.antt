-- Each class of instruction is in a group.
use Rattle.std.proofs.Common.{◌≡◌, true, false, refl}
use Rattle.il_opcodes.specs.declared.class.Class.{Class}
use Rattle.il_opcodes.specs.declared.class.Class.TheVariants as class
use Rattle.run_acts.specs.Groups.{is_on_frame, is_on_methods, is_on_numbers, is_on_places, is_on_types}

pub left_over : (c : Class) → is_on_frame c ≡ false → is_on_numbers c ≡ false → is_on_types c ≡ false → is_on_places c ≡ false → is_on_methods c ≡ true
left_over class.Nop a b d e = absurd cc
left_over class.LoadArgument a b d e = absurd cc
left_over class.StoreArgument a b d e = absurd cc
left_over class.ArgumentAddress a b d e = absurd cc
left_over class.LoadLocal a b d e = absurd cc
left_over class.StoreLocal a b d e = absurd cc
left_over class.LocalAddress a b d e = absurd cc
left_over class.LoadNull a b d e = absurd cc
left_over class.LoadInt a b d e = absurd cc
left_over class.LoadLong a b d e = absurd cc
left_over class.LoadString a b d e = absurd cc
left_over class.Duplicate a b d e = absurd cc
left_over class.Pop a b d e = absurd cc
left_over (class.Binary x) a b d e = absurd cc
left_over (class.Shift x) a b d e = absurd cc
left_over (class.Unary x) a b d e = absurd cc
left_over (class.Convert x) a b d e = absurd cc
left_over (class.ConvertChecked x y) a b d e = absurd cc
left_over (class.Compare x) a b d e = absurd cc
left_over class.Jump a b d e = absurd cc
left_over class.Switch a b d e = absurd cc
left_over (class.Branch x) a b d e = absurd cc
left_over (class.CompareBranch x y) a b d e = absurd cc
left_over class.SizeOf a b d e = absurd cc
left_over class.CopyObject a b d e = absurd cc
left_over class.LoadObject a b d e = absurd cc
left_over class.StoreObject a b d e = absurd cc
left_over class.InitObject a b d e = absurd cc
left_over class.CastClass a b d e = absurd cc
left_over class.IsInstance a b d e = absurd cc
left_over class.Unbox a b d e = absurd cc
left_over class.Box a b d e = absurd cc
left_over class.UnboxAny a b d e = absurd cc
left_over class.NewArray a b d e = absurd cc
left_over class.LoadTypedElement a b d e = absurd cc
left_over class.StoreTypedElement a b d e = absurd cc
left_over (class.LoadIndirect x) a b d e = absurd cc
left_over (class.StoreIndirect x) a b d e = absurd cc
left_over class.LoadField a b d e = absurd cc
left_over class.FieldAddress a b d e = absurd cc
left_over class.StoreField a b d e = absurd cc
left_over class.LoadStatic a b d e = absurd cc
left_over class.StaticAddress a b d e = absurd cc
left_over class.StoreStatic a b d e = absurd cc
left_over class.ArrayLength a b d e = absurd cc
left_over class.ElementAddress a b d e = absurd cc
left_over (class.LoadElement x) a b d e = absurd cc
left_over (class.StoreElement x) a b d e = absurd cc
left_over class.LoadToken a b d e = refl
left_over class.LoadFunction a b d e = refl
left_over class.LoadVirtualFunction a b d e = refl
left_over class.Throw a b d e = refl
left_over class.Rethrow a b d e = refl
left_over class.EndFinally a b d e = refl
left_over class.Leave a b d e = refl
left_over class.Call a b d e = refl
left_over class.CallVirtual a b d e = refl
left_over class.NewObject a b d e = refl
left_over class.Return a b d e = refl
left_over class.Unsupported a b d e = refl
left_over class.Prefix a b d e = refl
