-- Each form of a type, and a method, from its parts.
use Rattle.std.proofs.Common.{length, refl, rules}
use Rattle.cli_sigs.specs.declared.elements.Slot.TheVariants.{Plain, Pointed, Param}
use Rattle.cli_sigs.specs.declared.elements.MethodKind.TheVariants.{Pointer}
use Rattle.cli_sigs.specs.declared.types.SigTy.TheVariants as ty
use Rattle.cli_sigs.specs.declared.types.SigTy.TheVariants.{rolls-ByRef, rolls-Pinned}
use Rattle.cli_sigs.specs.declared.types.SigTy.TheOpen.{SigTy-F}
use Rattle.cli_sigs.specs.declared.types.MethodSig.{out-MethodSig}
use Rattle.cli_sigs.specs.Elements.{slot_behind}
use Rattle.cil_base.proofs.Small.{on_ok}
use Rattle.cli_sigs.specs.Numbers.{Shortest, IsNumber, IsCodedBy}
use Rattle.cli_sigs.specs.Grammar.{IsTypeBy, IsMethodBy, ptr, by_ref, named, var, mvar, func, sz_array, pinned, named_byte}
use Rattle.cli_sigs.specs.Valid.{IsValidType}
use Rattle.cli_sigs.proofs.PrintLaws.{each_adds, none_adds, some_adds, method_adds, behind_adds, form_adds, counted_adds, prim_adds, array_adds, inst_adds, modified_adds, in_form, deep, opened, closed}
use Rattle.cli_sigs.proofs.printing.+printer.Goals as goal

pub push_each_type-loop-ty-preserved : goal.push_each_type-loop-ty-preserved
push_each_type-loop-ty-preserved t c =
    each_adds (IsTypeBy Shortest c.args.depth c.args.slot) c.args.types.now c.loop-ty.ty-index c.ty-item.result c.ty-item.result c.args.out.now.items c.loop-ty.out.items c.push_type.new.out.items c.loop-ty-test.true c.ty-item.is c.loop-ty.invariant c.in_ok-push_type.ensures

pub push_types-returns : goal.push_types-returns
push_types-returns t c =
    on_ok c.push_each_type.result
    (counted_adds (IsTypeBy Shortest c.args.depth c.args.slot) c.args.types.now (length c.args.types.now) c.args.out.now.items c.push_number.new.out.items c.push_each_type.new.out.items refl c.in_ok-push_number.ensures)
    c.push_each_type.ensures

pub push_params-returns-in-None : goal.push_params-returns-in-None
push_params-returns-in-None t c =
    on_ok c.push_each_type.result (none_adds (IsTypeBy Shortest c.args.depth Param) c.args.params.now c.args.sentinel c.args.out.now.items c.push_each_type.new.out.items c.in-None.is) c.push_each_type.ensures

pub push_params-returns-in_ok-push_byte-in-Some : goal.push_params-returns-in_ok-push_byte-in-Some
push_params-returns-in_ok-push_byte-in-Some t c =
    let marked = rw c.in-Some.is at c.requires.marked in
    let front = rw c.split_at.ensures.front at c.in_ok-push_each_type-in-Some.ensures in
    on_ok c.push_each_type-in-Some-2.result
    (some_adds (IsTypeBy Shortest c.args.depth Param) c.args.params.now c.args.sentinel c.in-Some.k c.args.out.now.items c.push_each_type-in-Some.new.out.items c.push_byte.new.out.items c.push_each_type-in-Some-2.new.out.items c.in-Some.is marked.1 front c.in_ok-push_byte-in-Some.ensures)
    (rw c.split_at.ensures.back at c.push_each_type-in-Some-2.ensures)

pub push_method-returns : goal.push_method-returns
push_method-returns t c =
    let m = out-MethodSig c.args.sig.now in
    let generics = rw c.is_generic.ensures at c.in_ok-push_generics.ensures in
    let count = rw c.len.ensures at c.in_ok-push_number.ensures in
    let result = rw c.result_slot.ensures at c.in_ok-push_type.ensures in
    on_ok c.push_params.result
    (method_adds (IsTypeBy Shortest c.args.depth) (IsValidType c.args.depth) c.args.kind c.args.sig.now c.args.out.now.items c.push_byte.new.out.items c.push_generics.new.out.items c.push_number.new.out.items c.push_type.new.out.items c.push_params.new.out.items c.requires c.in_ok-push_byte.ensures generics count result)
    (rw c.as_slice.ensures at c.push_params.ensures)

pub push_form-returns-in-Prim : goal.push_form-returns-in-Prim
push_form-returns-in-Prim t c =
    on_ok c.push_byte.result (prim_adds (IsTypeBy Shortest c.args.depth) c.args.slot (IsValidType c.args.depth) c.in-Prim.b c.args.ty.now c.args.out.now.items c.push_byte.new.out.items c.in-Prim.is c.requires) c.push_byte.ensures

pub push_form-returns-in-Ptr : goal.push_form-returns-in-Ptr
push_form-returns-in-Ptr t c =
    form_adds (IsTypeBy Shortest c.args.depth) c.args.slot (IsTypeBy Shortest c.args.depth Pointed) 0x0F c.in-Ptr.inner c.args.ty.now (ty.Ptr c.in-Ptr.inner) c.args.out.now.items c.push_behind.new.out.items c.push_behind.result (λ text g. ptr g) c.in-Ptr.is (rw c.get.ensures at c.push_behind.ensures)

pub push_form-returns-in-ByRef : goal.push_form-returns-in-ByRef
push_form-returns-in-ByRef t c =
    form_adds (IsTypeBy Shortest c.args.depth) c.args.slot (IsTypeBy Shortest c.args.depth Plain) 0x10 c.in-ByRef.inner c.args.ty.now (ty.ByRef c.in-ByRef.inner) c.args.out.now.items c.push_behind-in-ByRef.new.out.items c.push_behind-in-ByRef.result (λ text g. by_ref (in_form (IsValidType c.args.depth) c.args.slot c.args.ty.now (ty.ByRef c.in-ByRef.inner) (SigTy-F.ByRef c.in-ByRef.inner) c.in-ByRef.is (rolls-ByRef c.in-ByRef.inner) c.requires).0 g) c.in-ByRef.is (rw c.get-in-ByRef.ensures at c.push_behind-in-ByRef.ensures)

pub push_form-returns-in-Named : goal.push_form-returns-in-Named
push_form-returns-in-Named t c =
    form_adds (IsTypeBy Shortest c.args.depth) c.args.slot (IsCodedBy Shortest) (named_byte c.in-Named.value) c.in-Named.coded c.args.ty.now (ty.Named c.in-Named.value c.in-Named.coded) c.args.out.now.items c.push_coded.new.out.items c.push_coded.result (λ text g. named c.in-Named.value g) c.in-Named.is (rw c.named_byte.ensures at c.push_coded.ensures)

pub push_form-returns-in-Var : goal.push_form-returns-in-Var
push_form-returns-in-Var t c =
    form_adds (IsTypeBy Shortest c.args.depth) c.args.slot (IsNumber Shortest) 0x13 c.in-Var.n c.args.ty.now (ty.Var c.in-Var.n) c.args.out.now.items c.push_numbered.new.out.items c.push_numbered.result (λ text g. var g) c.in-Var.is c.push_numbered.ensures

pub push_form-returns-in-MVar : goal.push_form-returns-in-MVar
push_form-returns-in-MVar t c =
    form_adds (IsTypeBy Shortest c.args.depth) c.args.slot (IsNumber Shortest) 0x1E c.in-MVar.n c.args.ty.now (ty.MVar c.in-MVar.n) c.args.out.now.items c.push_numbered-in-MVar.new.out.items c.push_numbered-in-MVar.result (λ text g. mvar g) c.in-MVar.is c.push_numbered-in-MVar.ensures

pub push_form-returns-in-SzArray : goal.push_form-returns-in-SzArray
push_form-returns-in-SzArray t c =
    form_adds (IsTypeBy Shortest c.args.depth) c.args.slot (IsTypeBy Shortest c.args.depth Plain) 0x1D c.in-SzArray.inner c.args.ty.now (ty.SzArray c.in-SzArray.inner) c.args.out.now.items c.push_behind-in-SzArray.new.out.items c.push_behind-in-SzArray.result (λ text g. sz_array g) c.in-SzArray.is (rw c.get-in-SzArray.ensures at c.push_behind-in-SzArray.ensures)

pub push_form-returns-in-Pinned : goal.push_form-returns-in-Pinned
push_form-returns-in-Pinned t c =
    form_adds (IsTypeBy Shortest c.args.depth) c.args.slot (IsTypeBy Shortest c.args.depth (slot_behind c.args.slot)) 0x45 c.in-Pinned.inner c.args.ty.now (ty.Pinned c.in-Pinned.inner) c.args.out.now.items c.push_behind-in-Pinned.new.out.items c.push_behind-in-Pinned.result (λ text g. pinned (in_form (IsValidType c.args.depth) c.args.slot c.args.ty.now (ty.Pinned c.in-Pinned.inner) (SigTy-F.Pinned c.in-Pinned.inner) c.in-Pinned.is (rolls-Pinned c.in-Pinned.inner) c.requires).0 g) c.in-Pinned.is (rw (c.slot_behind-in-Pinned.ensures, c.get-in-Pinned.ensures) at c.push_behind-in-Pinned.ensures)

pub push_form-returns-in_ok-push_byte-in-Func : goal.push_form-returns-in_ok-push_byte-in-Func
push_form-returns-in_ok-push_byte-in-Func t c =
    let behind = behind_adds (IsMethodBy Shortest (IsTypeBy Shortest c.args.depth) Pointer) 0x1B c.in-Func.method c.args.out.now.items c.push_byte-in-Func.new.out.items c.push_method.new.out.items c.in_ok-push_byte-in-Func.ensures in
    form_adds (IsTypeBy Shortest c.args.depth) c.args.slot (IsMethodBy Shortest (IsTypeBy Shortest c.args.depth) Pointer) 0x1B c.in-Func.method c.args.ty.now (ty.Func c.in-Func.method) c.args.out.now.items c.push_method.new.out.items c.push_method.result (λ text g. func g) c.in-Func.is
    (on_ok c.push_method.result behind (rw c.get-in-Func.ensures at c.push_method.ensures))

pub push_form-returns-in_ok-push_numbers-in-Array : goal.push_form-returns-in_ok-push_numbers-in-Array
push_form-returns-in_ok-push_numbers-in-Array t c =
    let item = rw c.get-in-Array.ensures at c.in_ok-push_behind-in-Array.ensures in
    let sizes = rw c.as_slice.ensures at c.in_ok-push_numbers-in-Array.ensures in
    on_ok c.push_bounds.result
    (array_adds (IsTypeBy Shortest c.args.depth) c.args.slot c.args.ty.now c.in-Array.item c.in-Array.rank c.in-Array.sizes c.in-Array.lows c.args.out.now.items c.push_behind-in-Array.new.out.items c.push_number.new.out.items c.push_numbers.new.out.items c.push_bounds.new.out.items c.in-Array.is item c.in_ok-push_number-in-Array.ensures sizes)
    (rw c.as_slice-in-Array.ensures at c.push_bounds.ensures)

pub push_form-returns-in_ok-push_coded-in-Inst : goal.push_form-returns-in_ok-push_coded-in-Inst
push_form-returns-in_ok-push_coded-in-Inst t c =
    let coded = rw c.named_byte-in-Inst.ensures at c.in_ok-push_coded-in-Inst.ensures in
    on_ok c.push_types.result
    (inst_adds (IsTypeBy Shortest c.args.depth) c.args.slot c.args.ty.now c.in-Inst.value c.in-Inst.coded c.in-Inst.args c.args.out.now.items c.push_byte-in-Inst.new.out.items c.push_coded-in-Inst.new.out.items c.push_types.new.out.items c.in-Inst.is c.in_ok-push_byte-in-Inst.ensures coded)
    (rw c.as_slice-in-Inst.ensures at c.push_types.ensures)

pub push_form-returns-in_ok-push_coded-in-Modified : goal.push_form-returns-in_ok-push_coded-in-Modified
push_form-returns-in_ok-push_coded-in-Modified t c =
    let coded = rw c.modifier_byte.ensures at c.in_ok-push_coded-in-Modified.ensures in
    on_ok c.push_type.result
    (modified_adds (IsTypeBy Shortest c.args.depth) c.args.slot c.args.ty.now c.in-Modified.inner c.in-Modified.required c.in-Modified.coded c.args.out.now.items c.push_coded-in-Modified.new.out.items c.push_type.new.out.items c.in-Modified.is coded)
    (rw (c.slot_behind.ensures, c.get-in-Modified.ensures) at c.push_type.ensures)

pub push_type-overflow_sub-depth : goal.push_type-overflow_sub-depth
push_type-overflow_sub-depth t c = deep c.args.depth c.args.slot c.args.ty.now c.requires

pub push_type-push_form-requires : goal.push_type-push_form-requires
push_type-push_form-requires t c =
    let low = deep c.args.depth c.args.slot c.args.ty.now c.requires in
    (search rules, opened c.args.depth c.args.slot c.args.ty.now c.requires)

pub push_type-returns : goal.push_type-returns
push_type-returns t c =
    on_ok c.push_form.result (closed c.args.depth c.args.slot c.args.ty.now c.args.out.now.items c.push_form.new.out.items c.requires) c.push_form.ensures
