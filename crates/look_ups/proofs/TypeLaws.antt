-- Types one level at a time.
use Rattle.std.proofs.Common.{◌≡◌, ◌∙◌, sym, ap, refl, ℕ, zero, suc, ◌<◌, ◌+◌, List, [], ◌∷◌, length, get_or, drop, Bool, true, false, arith, add-one}
use Rattle.std.specs.Prelude.{◌&&◌, ◌||◌, ◌==◌, map}
use Rattle.cil_model.specs.declared.ty.Ty.{Ty, out-Ty, out-roll-Ty, Prim, Known, Outside, Array', ByRef', Var, MVar, Opaque, Inst', Row_of-Ty, end_of-Ty, more_of-Ty}
use Rattle.cil_model.specs.declared.ty.Ty as types
use Rattle.cil_model.specs.declared.ty.Ty.TheVariants as ty
use Rattle.cil_model.specs.declared.ty.Ty.TheOpen.{Ty-F}
use Rattle.cil_semantics.specs.Words.{any}
use Rattle.cil_semantics.specs.Types.{Layer, is_prim, is_known, is_outside, is_array, is_by_ref, is_var, is_mvar, is_opaque, is_inst, same_ty, same_parts, same_tys, under, parts_under, all_under, has_parameter, parts_have_parameter}

abbrev pub items_of : {m : _} → Row_of-Ty m → List Ty
items_of {m} row = types.items-the_row-Ty m row

same_items : {m : _} (row : Row_of-Ty m) (us : List Ty) → same_parts row us ≡ same_tys (items_of row) us
same_items end_of-Ty [] = refl
same_items end_of-Ty (u ∷ us) = refl
same_items (more_of-Ty t rest) [] = refl
same_items (more_of-Ty t rest) (u ∷ us) = ap (λ (b : Bool). same_ty t u && b) (same_items rest us)

under_items : (a b : List Ty) {m : _} (row : Row_of-Ty m) → parts_under a b row ≡ all_under a b (items_of row)
under_items a b end_of-Ty = refl
under_items a b (more_of-Ty t rest) = ap (λ (ts : List Ty). under a b t ∷ ts) (under_items a b rest)

parameter_items : {m : _} (row : Row_of-Ty m) → parts_have_parameter row ≡ any has_parameter (items_of row)
parameter_items end_of-Ty = refl
parameter_items (more_of-Ty t rest) = ap (λ (b : Bool). has_parameter t || b) (parameter_items rest)

-- ---- the layers

pub array_out : (t : Ty) → out-Ty (ty.Array t) ≡ Ty-F.Array t
array_out t = sym (sym (out-roll-Ty (Ty-F.Array t)) ∙ ap out-Ty (ty.rolls-Array t))

pub reference_out : (t : Ty) → out-Ty (ty.ByRef t) ≡ Ty-F.ByRef t
reference_out t = sym (sym (out-roll-Ty (Ty-F.ByRef t)) ∙ ap out-Ty (ty.rolls-ByRef t))

pub instance_out : (k : ℕ) (ts : List Ty) → out-Ty (ty.Inst k ts) ≡ Ty-F.Inst k ts
instance_out k ts = sym (sym (out-roll-Ty (Ty-F.Inst k ts)) ∙ ap out-Ty (ty.rolls-Inst k ts))

-- ---- whether two types are the same

and_true : (b : Bool) → (b && true) ≡ b
and_true true = refl
and_true false = refl

or_false : (b : Bool) → (b || false) ≡ b
or_false true = refl
or_false false = refl

array_alike : (i : Ty) (l : Layer) → is_array (λ v. same_ty i v && true) l ≡ is_array (same_ty i) l
array_alike i (Ty-F.Array v) = and_true (same_ty i v)
array_alike i (Ty-F.Prim b) = refl
array_alike i (Ty-F.Known k) = refl
array_alike i (Ty-F.Outside name value) = refl
array_alike i (Ty-F.ByRef v) = refl
array_alike i (Ty-F.Var k) = refl
array_alike i (Ty-F.MVar k) = refl
array_alike i Ty-F.Opaque = refl
array_alike i (Ty-F.Inst k ts) = refl

reference_alike : (i : Ty) (l : Layer) → is_by_ref (λ v. same_ty i v && true) l ≡ is_by_ref (same_ty i) l
reference_alike i (Ty-F.ByRef v) = and_true (same_ty i v)
reference_alike i (Ty-F.Prim b) = refl
reference_alike i (Ty-F.Known k) = refl
reference_alike i (Ty-F.Outside name value) = refl
reference_alike i (Ty-F.Array v) = refl
reference_alike i (Ty-F.Var k) = refl
reference_alike i (Ty-F.MVar k) = refl
reference_alike i Ty-F.Opaque = refl
reference_alike i (Ty-F.Inst k ts) = refl

instance_alike : (k : ℕ) (f g : List Ty → Bool) (l : Layer) → ((us : List Ty) → f us ≡ g us) → is_inst k f l ≡ is_inst k g l
instance_alike k f g (Ty-F.Inst j us) h = ap (λ (b : Bool). (k == j) && b) (h us)
instance_alike k f g (Ty-F.Prim b) h = refl
instance_alike k f g (Ty-F.Known j) h = refl
instance_alike k f g (Ty-F.Outside name value) h = refl
instance_alike k f g (Ty-F.Array v) h = refl
instance_alike k f g (Ty-F.ByRef v) h = refl
instance_alike k f g (Ty-F.Var j) h = refl
instance_alike k f g (Ty-F.MVar j) h = refl
instance_alike k f g Ty-F.Opaque h = refl

same_layer : Layer → Ty → Bool
same_layer (Ty-F.Prim b) u = is_prim b (out-Ty u)
same_layer (Ty-F.Known k) u = is_known k (out-Ty u)
same_layer (Ty-F.Outside name value) u = is_outside name (out-Ty u)
same_layer (Ty-F.Array i) u = is_array (same_ty i) (out-Ty u)
same_layer (Ty-F.ByRef i) u = is_by_ref (same_ty i) (out-Ty u)
same_layer (Ty-F.Var k) u = is_var k (out-Ty u)
same_layer (Ty-F.MVar k) u = is_mvar k (out-Ty u)
same_layer Ty-F.Opaque u = is_opaque (out-Ty u)
same_layer (Ty-F.Inst k ts) u = is_inst k (same_tys ts) (out-Ty u)

same_by : (t u : Ty) → same_ty t u ≡ same_layer (out-Ty t) u
unfolding types.out-Ty denote.Hole.Carrier.out denote.Hole.Carrier.shown Rattle.cil_model.specs.declared.ty.Ty.TheBlock.shown-the_row-Ty-0 same_layer
same_by (Prim b) u = refl
same_by (Known k) u = refl
same_by (Outside name value) u = refl
same_by (Array' p (more_of-Ty i end_of-Ty)) u = array_alike i (out-Ty u)
same_by (ByRef' p (more_of-Ty i end_of-Ty)) u = reference_alike i (out-Ty u)
same_by (Var k) u = refl
same_by (MVar k) u = refl
same_by Opaque u = refl
same_by (Inst' k shape parts) u = instance_alike k (same_parts parts) _ (out-Ty u) (λ us. same_items parts us ∙ ap (λ (xs : List Ty). same_tys xs us) (sym (types.items_shown-the_row-Ty-1 shape parts)))

pub same_array : (t i u : Ty) → t ≡ ty.Array i → same_ty t u ≡ is_array (same_ty i) (out-Ty u)
unfolding same_layer
same_array t i u e = same_by t u ∙ ap (λ (l : Layer). same_layer l u) (ap out-Ty e ∙ array_out i)

pub same_reference : (t i u : Ty) → t ≡ ty.ByRef i → same_ty t u ≡ is_by_ref (same_ty i) (out-Ty u)
unfolding same_layer
same_reference t i u e = same_by t u ∙ ap (λ (l : Layer). same_layer l u) (ap out-Ty e ∙ reference_out i)

pub same_instance : (t : Ty) (k : ℕ) (ts : List Ty) (u : Ty) → t ≡ ty.Inst k ts → same_ty t u ≡ is_inst k (same_tys ts) (out-Ty u)
unfolding same_layer
same_instance t k ts u e = same_by t u ∙ ap (λ (l : Layer). same_layer l u) (ap out-Ty e ∙ instance_out k ts)

same_lengths : (ts us : List Ty) → (length ts ≡ length us → ⊥) → false ≡ same_tys ts us
same_lengths [] [] h = absurd (h refl)
same_lengths [] (u ∷ us) h = refl
same_lengths (t ∷ ts) [] h = refl
same_lengths (t ∷ ts) (u ∷ us) h = go (same_ty t u) (same_lengths ts us (λ e. h (ap suc e)))
  where
    go : (b : Bool) → false ≡ same_tys ts us → false ≡ (b && same_tys ts us)
    go true e = e
    go false e = refl

pub not_same : (ts us : List Ty) → (length ts ≡ length us → ⊥) → false ≡ same_tys ts us
not_same = same_lengths

next_same : (ts us : List Ty) (k : ℕ) (d e : Ty) → k < length ts → k < length us → same_tys (drop k ts) (drop k us) ≡ (same_ty (get_or ts k d) (get_or us k e) && same_tys (drop (suc k) ts) (drop (suc k) us))
next_same [] us k d e h j = absurd (omega arith)
next_same (t ∷ ts) [] k d e h j = absurd (omega arith)
next_same (t ∷ ts) (u ∷ us) zero d e h j = refl
next_same (t ∷ ts) (u ∷ us) (suc k) d e h j = next_same ts us k d e (omega arith) (omega arith)

pub same_step : (ts us : List Ty) (k : ℕ) (d e : Ty) → k < length ts → k < length us → same_tys (drop k ts) (drop k us) ≡ (same_ty (get_or ts k d) (get_or us k e) && same_tys (drop (k + 1) ts) (drop (k + 1) us))
same_step ts us k d e h j = let n : k + 1 ≡ suc k = add-one k in next_same ts us k d e h j ∙ ap (λ (n : ℕ). same_ty (get_or ts k d) (get_or us k e) && same_tys (drop n ts) (drop n us)) (sym n)

-- ---- what stands for parameters

under_layer : List Ty → List Ty → Layer → Ty
under_layer a b (Ty-F.Prim c) = Prim c
under_layer a b (Ty-F.Known k) = Known k
under_layer a b (Ty-F.Outside name value) = Outside name value
under_layer a b (Ty-F.Array i) = ty.Array (under a b i)
under_layer a b (Ty-F.ByRef i) = ty.ByRef (under a b i)
under_layer a b (Ty-F.Var k) = get_or a k (Var k)
under_layer a b (Ty-F.MVar k) = get_or b k (MVar k)
under_layer a b Ty-F.Opaque = Opaque
under_layer a b (Ty-F.Inst k ts) = ty.Inst k (all_under a b ts)

under_by : (a b : List Ty) (t : Ty) → under a b t ≡ under_layer a b (out-Ty t)
unfolding types.out-Ty denote.Hole.Carrier.out denote.Hole.Carrier.shown Rattle.cil_model.specs.declared.ty.Ty.TheBlock.shown-the_row-Ty-0 under_layer
under_by a b (Prim c) = refl
under_by a b (Known k) = refl
under_by a b (Outside name value) = refl
under_by a b (Array' p (more_of-Ty i end_of-Ty)) = refl
under_by a b (ByRef' p (more_of-Ty i end_of-Ty)) = refl
under_by a b (Var k) = refl
under_by a b (MVar k) = refl
under_by a b Opaque = refl
under_by a b (Inst' k shape parts) = ap (ty.Inst k) (under_items a b parts ∙ ap (all_under a b) (sym (types.items_shown-the_row-Ty-1 shape parts)))

pub under_array : (a b : List Ty) (t i : Ty) → t ≡ ty.Array i → under a b t ≡ ty.Array (under a b i)
unfolding under_layer
under_array a b t i e = under_by a b t ∙ ap (under_layer a b) (ap out-Ty e ∙ array_out i)

pub under_reference : (a b : List Ty) (t i : Ty) → t ≡ ty.ByRef i → under a b t ≡ ty.ByRef (under a b i)
unfolding under_layer
under_reference a b t i e = under_by a b t ∙ ap (under_layer a b) (ap out-Ty e ∙ reference_out i)

pub under_instance : (a b : List Ty) (t : Ty) (k : ℕ) (ts : List Ty) → t ≡ ty.Inst k ts → under a b t ≡ ty.Inst k (all_under a b ts)
unfolding under_layer
under_instance a b t k ts e = under_by a b t ∙ ap (under_layer a b) (ap out-Ty e ∙ instance_out k ts)

pub under_map : (a b : List Ty) (ts : List Ty) → map (under a b) ts ≡ all_under a b ts
under_map a b [] = refl
under_map a b (t ∷ ts) = ap (λ (us : List Ty). under a b t ∷ us) (under_map a b ts)

-- ---- parameters in a type

parameter_layer : Layer → Bool
parameter_layer (Ty-F.Prim b) = false
parameter_layer (Ty-F.Known k) = false
parameter_layer (Ty-F.Outside name value) = false
parameter_layer (Ty-F.Array i) = has_parameter i
parameter_layer (Ty-F.ByRef i) = has_parameter i
parameter_layer (Ty-F.Var k) = true
parameter_layer (Ty-F.MVar k) = false
parameter_layer Ty-F.Opaque = false
parameter_layer (Ty-F.Inst k ts) = any has_parameter ts

parameter_by : (t : Ty) → has_parameter t ≡ parameter_layer (out-Ty t)
unfolding types.out-Ty denote.Hole.Carrier.out denote.Hole.Carrier.shown Rattle.cil_model.specs.declared.ty.Ty.TheBlock.shown-the_row-Ty-0 parameter_layer
parameter_by (Prim b) = refl
parameter_by (Known k) = refl
parameter_by (Outside name value) = refl
parameter_by (Array' p (more_of-Ty i end_of-Ty)) = or_false (has_parameter i)
parameter_by (ByRef' p (more_of-Ty i end_of-Ty)) = or_false (has_parameter i)
parameter_by (Var k) = refl
parameter_by (MVar k) = refl
parameter_by Opaque = refl
parameter_by (Inst' k shape parts) = parameter_items parts ∙ ap (any has_parameter) (sym (types.items_shown-the_row-Ty-1 shape parts))

pub parameter_array : (t i : Ty) → t ≡ ty.Array i → has_parameter t ≡ has_parameter i
unfolding parameter_layer
parameter_array t i e = parameter_by t ∙ ap parameter_layer (ap out-Ty e ∙ array_out i)

pub parameter_reference : (t i : Ty) → t ≡ ty.ByRef i → has_parameter t ≡ has_parameter i
unfolding parameter_layer
parameter_reference t i e = parameter_by t ∙ ap parameter_layer (ap out-Ty e ∙ reference_out i)

pub parameter_instance : (t : Ty) (k : ℕ) (ts : List Ty) → t ≡ ty.Inst k ts → has_parameter t ≡ any has_parameter ts
unfolding parameter_layer
parameter_instance t k ts e = parameter_by t ∙ ap parameter_layer (ap out-Ty e ∙ instance_out k ts)
