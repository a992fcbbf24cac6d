-- Each class of instruction leaves, throws, stores and passes references to objects that are there.
use Rattle.std.proofs.Common.{ℕ, Bool, true, false, Option, Some, None}
use Rattle.std.specs.Prelude.{if◌then◌else◌, nat_le, take, drop, reverse, length}
use Rattle.cil_model.specs.declared.value.Value.{Null, I4, I8}
use Rattle.cil_model.specs.declared.body.Instr.{Instr}
use Rattle.cil_model.specs.declared.body.Operand.{Operand}
use Rattle.cil_model.specs.declared.body.Operand.TheVariants.{Target}
use Rattle.cil_model.specs.declared.program.Program.{Program}
use Rattle.cil_model.specs.declared.program.Meaning.{Meaning}
use Rattle.cil_model.specs.declared.program.Meaning.TheVariants.{OfMethod}
use Rattle.il_opcodes.specs.declared.class.Class.{Class}
use Rattle.il_opcodes.specs.declared.class.Class.TheVariants as class
use Rattle.il_opcodes.specs.Opcodes.{class_of}
use Rattle.cil_semantics.specs.Tokens.{Here, meaning_here, constrained_here}
use Rattle.cil_semantics.specs.declared.state.World.{World}
use Rattle.cil_semantics.specs.declared.state.Local.{Local}
use Rattle.cil_semantics.specs.Acts.{Act, Call, Stuck, CallMember, CallVirtual, NewObject, LoadVirtualFunction, arity, with_this, method_in, taken}
use Rattle.cil_semantics.specs.Instructions.{act, act_of_class, leave_to}
use Rattle.object_validity.specs.Known.{KnownLocal, KnownWorld, KnownAct, KnownCall}
use Rattle.object_validity.specs.Steps.{ActsKeepReferences}
use Rattle.object_validity.proofs.GrowthLaws.{restacked, taken_known, left_known, reversed_known}
use Rattle.object_validity.proofs.PlaceActLaws as place
use Rattle.object_validity.proofs.PointerActLaws as pointer
use Rattle.object_validity.proofs.NumberActLaws as number
use Rattle.object_validity.proofs.ObjectActLaws as object
use Rattle.object_validity.proofs.FieldActLaws as field
use Rattle.object_validity.proofs.ArrayActLaws as array

module _ (b : ℕ) (p : Program) (here : Here) (i : Instr) (w : World) (l : Local) (world : KnownWorld b w) (known : KnownLocal b l) where
  abbrev named : Option Meaning
  named = meaning_here p here i

  leaves_fine : (o : Operand) → KnownAct b (leave_to o)
  leaves_fine (Target t) = tt
  leaves_fine _ = tt

  -- a call takes its values from the stack
  calls_fine : (n : ℕ) (m : Option Meaning) (go : Call → Local → Act) → ((c : Call) (x : Local) → KnownCall b c x → KnownAct b (go c x)) → KnownAct b (taken p i here n m l go)
  calls_fine n None go h = tt
  calls_fine n (Some (OfMethod owner m args)) go h = by_count (nat_le n (length l.stack))
    where
      made : Call
      made = record { owner = owner; method = m; method_args = args; values = reverse (take n l.stack); constrained = constrained_here p here i }

      by_count : (c : Bool) → KnownAct b (if c then go made (record l { stack = drop n l.stack }) else Stuck)
      by_count true = h made (record l { stack = drop n l.stack }) (reversed_known b (take n l.stack) (taken_known b n l.stack known.stack), restacked b l (drop n l.stack) known (left_known b n l.stack known.stack))
      by_count false = tt
  calls_fine n (Some _) go h = tt

  pub classes_fine : (c : Class) → KnownAct b (act_of_class p here i w l c)
  unfolding act_of_class
  classes_fine class.Nop = known
  classes_fine class.LoadArgument = place.arguments_load p b l known i.operand
  classes_fine class.StoreArgument = place.arguments_store p b l known i.operand
  classes_fine class.ArgumentAddress = place.arguments_point p b l known here i.operand
  classes_fine class.LoadLocal = place.locals_load p b l known i.operand
  classes_fine class.StoreLocal = place.locals_store p b l known i.operand
  classes_fine class.LocalAddress = place.locals_point p b l known here i.operand
  classes_fine class.LoadNull = place.pushes_fine p b l known Null l.stack tt known.stack
  classes_fine class.LoadInt = place.constants_fine p b l known I4 (λ z. tt) i.operand
  classes_fine class.LoadLong = place.constants_fine p b l known I8 (λ z. tt) i.operand
  classes_fine class.LoadString = object.texts_fine p b l known named
  classes_fine class.LoadToken = object.handles_fine p b l known named
  classes_fine class.SizeOf = object.sizes_fine p b l known named
  classes_fine class.LoadFunction = object.functions_fine p b l known named
  classes_fine class.Duplicate = place.duplicates_fine p b l known l.stack known.stack
  classes_fine class.Pop = place.pops_fine p b l known l.stack known.stack
  classes_fine (class.Binary op) = number.binary_fine p b l known op l.stack known.stack
  classes_fine (class.Shift s) = number.shifts_fine p b l known s l.stack known.stack
  classes_fine (class.Unary u) = number.unaries_fine p b l known u l.stack known.stack
  classes_fine (class.Convert t) = number.converts_fine p b l known t l.stack known.stack
  classes_fine (class.ConvertChecked u t) = number.checked_fine p b l known u t l.stack known.stack
  classes_fine (class.Compare t) = number.compares_fine p b l known t l.stack known.stack
  classes_fine class.Jump = pointer.jumps_fine p b l known i.operand
  classes_fine class.Switch = number.switches_fine p b l known i.operand l.stack known.stack
  classes_fine (class.Branch wanted) = pointer.branches_fine p b l known i.operand wanted l.stack known.stack
  classes_fine (class.CompareBranch t wanted) = number.compared_branches_fine p b l known t wanted i.operand l.stack known.stack
  classes_fine (class.LoadIndirect h) = pointer.loads_indirect p b l known h l.stack known.stack
  classes_fine (class.StoreIndirect h) = pointer.stores_indirect p b l known h l.stack known.stack
  classes_fine class.CopyObject = object.copies_fine p b l known named l.stack known.stack
  classes_fine class.LoadObject = object.loads_fine p b l known named l.stack known.stack
  classes_fine class.StoreObject = object.stores_fine p b l known named l.stack known.stack
  classes_fine class.InitObject = object.initializes_fine p b l known named l.stack known.stack
  classes_fine class.CastClass = object.casts_fine p b l known named l.stack w known.stack
  classes_fine class.IsInstance = object.tests_fine p b l known named l.stack w known.stack
  classes_fine class.Unbox = object.unboxes_fine p b l known named l.stack w world.heap known.stack
  classes_fine class.Box = object.boxes_fine p b l known named l.stack w world known.stack
  classes_fine class.UnboxAny = object.unboxes_any_fine p b l known named l.stack w world.heap known.stack
  classes_fine class.Throw = pointer.throws_fine p b l known l.stack known.stack
  classes_fine class.Rethrow = tt
  classes_fine class.LoadField = field.fields_load p b l known named w
  classes_fine class.FieldAddress = field.fields_point p b l known named w
  classes_fine class.StoreField = field.fields_store p b l known named w
  classes_fine class.LoadStatic = field.statics_load p b l known named
  classes_fine class.StaticAddress = field.statics_point p b l known named
  classes_fine class.StoreStatic = field.statics_store p b l known named l.stack known.stack
  classes_fine class.NewArray = array.arrays_begin p b l known named l.stack w world known.stack
  classes_fine class.ArrayLength = array.lengths_fine p b l known l.stack w known.stack
  classes_fine class.ElementAddress = array.items_point p b l known l.stack w known.stack
  classes_fine class.LoadTypedElement = array.typed_items_load p b l known named l.stack w known.stack
  classes_fine class.StoreTypedElement = array.typed_items_store p b l known named l.stack w known.stack
  classes_fine (class.LoadElement h) = array.items_load p b l known h l.stack w known.stack
  classes_fine (class.StoreElement h) = array.items_store p b l known h l.stack w known.stack
  classes_fine class.EndFinally = tt
  classes_fine class.Leave = leaves_fine i.operand
  classes_fine class.Call = calls_fine (with_this p (method_in named)) named CallMember (λ c m h. h)
  classes_fine class.CallVirtual = calls_fine (with_this p (method_in named)) named CallVirtual (λ c m h. h)
  classes_fine class.NewObject = calls_fine (arity p (method_in named)) named NewObject (λ c m h. h)
  classes_fine class.LoadVirtualFunction = calls_fine 1 named LoadVirtualFunction (λ c m h. h)
  classes_fine class.Return = tt
  classes_fine class.Unsupported = tt
  classes_fine class.Prefix = tt

pub acts_known : ActsKeepReferences
unfolding act
acts_known b p here i w l world known = classes_fine b p here i w l world known (class_of i.op)
