-- Each class of instruction leaves well-formed values, calls apart.
use Rattle.std.proofs.Common.{◌≡◌, ℕ, ◌<◌, true, false, List, [], ◌∷◌, Option, refl, subst}
use Rattle.cil_model.specs.declared.value.Value.{Null, I4, I8}
use Rattle.cil_model.specs.declared.body.Instr.{Instr}
use Rattle.cil_model.specs.declared.body.Operand.{Operand}
use Rattle.cil_model.specs.declared.body.Operand.TheVariants.{Index, Target}
use Rattle.cil_model.specs.declared.contract.Contracts.{Contracts}
use Rattle.cil_model.specs.declared.program.Program.{Program}
use Rattle.cil_model.specs.declared.program.MethodDesc.{MethodDesc}
use Rattle.cil_model.specs.declared.program.Meaning.{Meaning}
use Rattle.il_opcodes.specs.declared.class.Class.{Class}
use Rattle.il_opcodes.specs.declared.class.Class.TheVariants as class
use Rattle.cil_semantics.specs.Tokens.{Here, meaning_here}
use Rattle.cil_semantics.specs.Unwind.{here_of}
use Rattle.cil_semantics.specs.declared.state.World.{World}
use Rattle.cil_semantics.specs.declared.state.Frame.{Frame}
use Rattle.cil_semantics.specs.declared.state.Handling.{Handling}
use Rattle.cil_semantics.specs.Instructions.{act_of_class, leave_to}
use Rattle.cil_semantics.specs.Checks.{AddedNumbers}
use Rattle.splice_facts.specs.Grown.{NamesLocals, NamesBelow}
use Rattle.splice_facts.specs.Input.{is_group, never_in_clause}
use Rattle.splice_facts.specs.WellFormed.{Bounds, WellFormedWorld}
use Rattle.splice_facts.specs.Related.{HandlersLead, NamesInput, Rewritten, bounds}
use Rattle.simulation_valid.specs.Keeping.{ValidPlaces}
use Rattle.simulation_valid.specs.Steps.{FineAct, MayEnd, MayStep}
use Rattle.simulation_valid.proofs.PlaceActLaws as place
use Rattle.simulation_valid.proofs.PointerActLaws as pointer
use Rattle.simulation_valid.proofs.NumberActLaws as number
use Rattle.simulation_valid.proofs.ObjectActLaws as object
use Rattle.simulation_valid.proofs.FieldActLaws as field
use Rattle.simulation_valid.proofs.ArrayActLaws as array

-- the operand of such an instruction is a local that is there
index_below : (n : ℕ) (o : Operand) (i : ℕ) → NamesBelow n o → o ≡ Index i → i < n
index_below n (Index j) i low e = let z : j ≡ i = cc e in subst (λ m. m < n) z low
index_below n _ i low e = absurd (cc e)

module _ (p : Program) (k : Contracts) (ms : List MethodDesc) (g : AddedNumbers) (r : Rewritten p k ms g) (f : Frame) (fs : List Frame) (places : ValidPlaces p k ms g r f fs) where
  abbrev Bs : Bounds
  Bs = bounds p k ms g r

  leaves_fine : (o : Operand) → is_group f.at ≡ false → FineAct p k ms g r f fs (leave_to o)
  leaves_fine (Target t) outer = outer
  leaves_fine _ outer = tt

  ends_fine : (hs : List Handling) → is_group f.at ≡ false → HandlersLead p k ms g r f.method f.at hs → MayEnd p k ms g r f hs
  ends_fine [] outer leads = tt
  ends_fine (h ∷ hs) outer leads = (outer, leads.0.0, leads.0.1)

  module _ (i : Instr) (w : World) (world : WellFormedWorld Bs w) (own : NamesInput p r.types r.methods (meaning_here p (here_of f fs) i)) (leads : is_group f.at ≡ false → HandlersLead p k ms g r f.method f.at f.handling) where
    abbrev here : Here
    here = here_of f fs

    abbrev named : Option Meaning
    named = meaning_here p here i

    pub classes_fine : (c : Class) → NamesLocals (Bs.width f.method) c i.operand → (never_in_clause c ≡ true → is_group f.at ≡ false) → MayStep p k ms g r i f fs w c → FineAct p k ms g r f fs (act_of_class p here i w f.local c)
    unfolding act_of_class
    classes_fine class.Nop low outer may = (tt, places, refl)
    classes_fine class.LoadArgument low outer may = place.arguments_load p k ms g r f fs places i.operand
    classes_fine class.StoreArgument low outer may = place.arguments_store p k ms g r f fs places i.operand
    classes_fine class.ArgumentAddress low outer may = place.arguments_point p k ms g r f fs places here i.operand
    classes_fine class.LoadLocal low outer may = place.locals_load p k ms g r f fs places i.operand
    classes_fine class.StoreLocal low outer may = place.locals_store p k ms g r f fs places i.operand
    classes_fine class.LocalAddress low outer may = place.locals_point p k ms g r f fs places here i.operand (λ j e. index_below (Bs.width f.method) i.operand j low e)
    classes_fine class.LoadNull low outer may = place.pushes_fine p k ms g r f fs places Null f.local.stack tt places.fine.stack
    classes_fine class.LoadInt low outer may = place.constants_fine p k ms g r f fs places I4 (λ z. tt) i.operand
    classes_fine class.LoadLong low outer may = place.constants_fine p k ms g r f fs places I8 (λ z. tt) i.operand
    classes_fine class.LoadString low outer may = object.texts_fine p k ms g r f fs places named
    classes_fine class.LoadToken low outer may = object.handles_fine p k ms g r f fs places named
    classes_fine class.SizeOf low outer may = object.sizes_fine p k ms g r f fs places named
    classes_fine class.LoadFunction low outer may = object.functions_fine p k ms g r f fs places named own
    classes_fine class.Duplicate low outer may = place.duplicates_fine p k ms g r f fs places f.local.stack places.fine.stack
    classes_fine class.Pop low outer may = place.pops_fine p k ms g r f fs places f.local.stack places.fine.stack
    classes_fine (class.Binary op) low outer may = number.binary_fine p k ms g r f fs places op f.local.stack places.fine.stack
    classes_fine (class.Shift s) low outer may = number.shifts_fine p k ms g r f fs places s f.local.stack places.fine.stack
    classes_fine (class.Unary u) low outer may = number.unaries_fine p k ms g r f fs places u f.local.stack places.fine.stack
    classes_fine (class.Convert t) low outer may = number.converts_fine p k ms g r f fs places t f.local.stack places.fine.stack
    classes_fine (class.ConvertChecked u t) low outer may = number.checked_fine p k ms g r f fs places u t f.local.stack places.fine.stack
    classes_fine (class.Compare t) low outer may = number.compares_fine p k ms g r f fs places t f.local.stack places.fine.stack
    classes_fine class.Jump low outer may = pointer.jumps_fine p k ms g r f fs places i.operand
    classes_fine class.Switch low outer may = number.switches_fine p k ms g r f fs places i.operand f.local.stack places.fine.stack
    classes_fine (class.Branch wanted) low outer may = pointer.branches_fine p k ms g r f fs places i.operand wanted f.local.stack places.fine.stack
    classes_fine (class.CompareBranch t wanted) low outer may = number.compared_branches_fine p k ms g r f fs places t wanted i.operand f.local.stack places.fine.stack
    classes_fine (class.LoadIndirect h) low outer may = pointer.loads_indirect p k ms g r f fs places h f.local.stack places.fine.stack
    classes_fine (class.StoreIndirect h) low outer may = pointer.stores_indirect p k ms g r f fs places h f.local.stack places.fine.stack
    classes_fine class.CopyObject low outer may = object.copies_fine p k ms g r f fs places named f.local.stack places.fine.stack
    classes_fine class.LoadObject low outer may = object.loads_fine p k ms g r f fs places named f.local.stack places.fine.stack
    classes_fine class.StoreObject low outer may = object.stores_fine p k ms g r f fs places named f.local.stack places.fine.stack
    classes_fine class.InitObject low outer may = object.initializes_fine p k ms g r f fs places named f.local.stack places.fine.stack
    classes_fine class.CastClass low outer may = object.casts_fine p k ms g r f fs places named f.local.stack w places.fine.stack
    classes_fine class.IsInstance low outer may = object.tests_fine p k ms g r f fs places named f.local.stack w places.fine.stack
    classes_fine class.Unbox low outer may = object.unboxes_fine p k ms g r f fs places named f.local.stack w world.heap places.fine.stack
    classes_fine class.Box low outer may = object.boxes_fine p k ms g r f fs places named f.local.stack w own places.fine.stack
    classes_fine class.UnboxAny low outer may = object.unboxes_any_fine p k ms g r f fs places named f.local.stack w world.heap places.fine.stack
    classes_fine class.Throw low outer may = pointer.throws_fine p k ms g r f fs places f.local.stack
    classes_fine class.Rethrow low outer may = tt
    classes_fine class.LoadField low outer may = field.fields_load p k ms g r f fs places named w
    classes_fine class.FieldAddress low outer may = field.fields_point p k ms g r f fs places named w
    classes_fine class.StoreField low outer may = field.fields_store p k ms g r f fs places named w
    classes_fine class.LoadStatic low outer may = field.statics_load p k ms g r f fs places named own
    classes_fine class.StaticAddress low outer may = field.statics_point p k ms g r f fs places named own
    classes_fine class.StoreStatic low outer may = field.statics_store p k ms g r f fs places named f.local.stack own places.fine.stack
    classes_fine class.NewArray low outer may = array.arrays_begin p k ms g r f fs places named f.local.stack w places.fine.stack
    classes_fine class.ArrayLength low outer may = array.lengths_fine p k ms g r f fs places f.local.stack w places.fine.stack
    classes_fine class.ElementAddress low outer may = array.items_point p k ms g r f fs places f.local.stack w places.fine.stack
    classes_fine class.LoadTypedElement low outer may = array.typed_items_load p k ms g r f fs places named f.local.stack w places.fine.stack
    classes_fine class.StoreTypedElement low outer may = array.typed_items_store p k ms g r f fs places named f.local.stack w places.fine.stack
    classes_fine (class.LoadElement h) low outer may = array.items_load p k ms g r f fs places h f.local.stack w places.fine.stack
    classes_fine (class.StoreElement h) low outer may = array.items_store p k ms g r f fs places h f.local.stack w places.fine.stack
    classes_fine class.EndFinally low outer may = ends_fine f.handling (outer refl) (leads (outer refl))
    classes_fine class.Leave low outer may = leaves_fine i.operand (outer refl)
    classes_fine class.Call low outer may = may
    classes_fine class.CallVirtual low outer may = may
    classes_fine class.NewObject low outer may = may
    classes_fine class.LoadVirtualFunction low outer may = may
    classes_fine class.Return low outer may = tt
    classes_fine class.Unsupported low outer may = tt
    classes_fine class.Prefix low outer may = tt
