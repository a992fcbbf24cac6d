-- What two programs with the same types, fields and tokens answer.
use Rattle.std.proofs.Common.{◌≡◌, ℕ, zero, suc, List, [], ◌∷◌, ◌++◌, refl, ap, ◌∙◌}
use Rattle.std.specs.Prelude.{Option, Some, option_map, option_and_then, slice_get, slice_set, option_to_list, length, ◌||◌, if◌then◌else◌}
use Rattle.cil_base.specs.declared.token.Token.{Token}
use Rattle.cil_model.specs.declared.ty.Ty.{Ty}
use Rattle.cil_model.specs.declared.ty.Under.{Under}
use Rattle.cil_model.specs.declared.value.Value.{Value, out-Value}
use Rattle.cil_model.specs.declared.value.Value.TheVariants as value
use Rattle.cil_model.specs.declared.program.Program.{Program}
use Rattle.cil_model.specs.declared.program.MethodDesc.{MethodDesc}
use Rattle.cil_semantics.specs.Words.{any}
use Rattle.cil_semantics.specs.Types.{same_ty}
use Rattle.cil_semantics.specs.Lookups.{method_of, is_sub, is_sub_within, chain_within, chain, chain_on, most_bases, base_of, interfaces_of}
use Rattle.cil_semantics.specs.Places.{storage, stored, stored_within, stored_in, stored_by_storage, field_types, field_tys, fields_in, write_path, write_cell, default_within, default_by_storage, layout, layouts, own_layout, set_cell, new_cell, default_cell, default_cells}
use Rattle.cil_semantics.specs.declared.state.Cell.{Cell}
use Rattle.cil_semantics.specs.declared.state.Object.{Object}
use Rattle.cil_semantics.specs.declared.state.World.{World}
use Rattle.cil_semantics.specs.State.{with_object, with_objects}
use Rattle.cil_semantics.specs.Core.{Name}
use Rattle.cil_semantics.specs.Acts.{handle_of, ty_name, member_name, arity, with_this}
use Rattle.cil_model.specs.declared.program.Meaning.{Meaning}
use Rattle.cil_model.specs.declared.program.Meaning.TheVariants.{OfMethod}
use Rattle.cil_semantics.specs.Tokens.{Here, meaning_of, token_here}
use Rattle.splice_facts.specs.Bodies.{with_methods, SameMethods}

pub fun_ext : {A B : Type 0} {f h : A → B} → ((x : A) → f x ≡ h x) → f ≡ h
fun_ext e = λ i x. e x i

abbrev cell_with : Ty → Value → Cell
cell_with t v = record { ty = t; value = v }

abbrev cell_if : Ty → Option Value → Option Cell
cell_if t o = option_map (λ w. cell_with t w) o

-- a part of a struct, of this type, with another value
abbrev on_part : (Ty → Value → Option Value) → ℕ → Value → Option Ty → Option Value
on_part write i old o = option_and_then (λ ft. option_and_then (λ v. option_map (λ w. value.Struct (slice_set (fields_in (out-Value old)) i w)) (write ft v)) (slice_get (fields_in (out-Value old)) i)) o

abbrev handle_with : Name → Name → Option (List ℕ)
handle_with owner name = Some (member_name owner name)

module _ (p : Program) (ms : List MethodDesc) where
  pub storage_same : (t : Ty) → storage (with_methods p ms) t ≡ storage p t
  unfolding storage
  storage_same t = refl

  pub default_same : (n : ℕ) (t : Ty) → default_within n (with_methods p ms) t ≡ default_within n p t
  unfolding default_within storage field_types
  default_same zero t = refl
  default_same (suc n) t = ap (λ f. default_by_storage f (field_types p t) (storage p t)) (fun_ext (default_same n))

  pub field_types_same : (t : Ty) → field_types (with_methods p ms) t ≡ field_types p t
  unfolding field_types
  field_types_same t = refl

  store_ext : {f h : Ty → Value → Option Value} → ((t : Ty) (v : Value) → f t v ≡ h t v) → f ≡ h
  store_ext e = λ i t v. e t v i

  pub stored_within_same : (n : ℕ) (t : Ty) (v : Value) → stored_within n (with_methods p ms) t v ≡ stored_within n p t v
  unfolding stored_within storage field_types
  stored_within_same zero t v = refl
  stored_within_same (suc n) t v = ap (λ f. stored_by_storage f (field_types p t) v (storage p t)) (store_ext (stored_within_same n))

  pub stored_in_same : (t : Ty) (v : Value) → stored_in (with_methods p ms) t v ≡ stored_in p t v
  stored_in_same t v = stored_within_same 1001 t v

  part_types_same : (t : Ty) → field_tys (field_types (with_methods p ms) t) (storage (with_methods p ms) t) ≡ field_tys (field_types p t) (storage p t)
  unfolding storage field_types
  part_types_same t = refl

  pub write_path_same : (is : List ℕ) (t : Ty) (new old : Value) → write_path (with_methods p ms) is t new old ≡ write_path p is t new old
  write_path_same [] t new old = stored_in_same t new
  write_path_same (i ∷ is) t new old =
      ap (λ ts. on_part (λ u. write_path (with_methods p ms) is u new) i old (slice_get ts i)) (part_types_same t)
      ∙ ap (λ f. on_part f i old (slice_get (field_tys (field_types p t) (storage p t)) i)) (store_ext (λ u v. write_path_same is u new v))

  pub write_cell_same : (is : List ℕ) (v : Value) (c : Cell) → write_cell (with_methods p ms) is v c ≡ write_cell p is v c
  write_cell_same is v c = ap (cell_if c.ty) (write_path_same is c.ty v c.value)

  pub with_object_same : (o : Object) (w : World) → with_object (with_methods p ms) o w ≡ with_object p o w
  unfolding storage
  with_object_same o w = refl

  pub with_objects_same : (os : List Object) (w : World) → with_objects (with_methods p ms) os w ≡ with_objects p os w
  with_objects_same [] w = refl
  with_objects_same (o ∷ os) w = ap (with_objects (with_methods p ms) os) (with_object_same o w) ∙ with_objects_same os (with_object p o w)

  pub base_same : (t : Ty) → base_of (with_methods p ms) t ≡ base_of p t
  unfolding base_of
  base_same t = refl

  pub interfaces_same : (t : Ty) → interfaces_of (with_methods p ms) t ≡ interfaces_of p t
  unfolding interfaces_of
  interfaces_same t = refl

  pub sub_within_same : (n : ℕ) (a b : Ty) → is_sub_within n (with_methods p ms) a b ≡ is_sub_within n p a b
  unfolding is_sub_within base_of interfaces_of
  sub_within_same zero a b = refl
  sub_within_same (suc n) a b = ap (λ f. same_ty a b || any f (option_to_list (base_of p a) ++ interfaces_of p a)) (fun_ext (λ c. sub_within_same n c b))

  pub sub_same : (a b : Ty) → is_sub (with_methods p ms) a b ≡ is_sub p a b
  unfolding is_sub
  sub_same a b = sub_within_same (most_bases p) a b

  pub chain_within_same : (n : ℕ) (t : Ty) → chain_within n (with_methods p ms) t ≡ chain_within n p t
  unfolding chain_within base_of
  chain_within_same zero t = refl
  chain_within_same (suc n) t = ap (λ f. t ∷ chain_on f (base_of p t)) (fun_ext (chain_within_same n))

  pub layouts_same : (ts : List Ty) → layouts (with_methods p ms) ts ≡ layouts p ts
  layouts_same [] = refl
  layouts_same (t ∷ ts) = ap (λ l. l ++ own_layout p t) (layouts_same ts)

  pub layout_same : (t : Ty) → layout (with_methods p ms) t ≡ layout p t
  unfolding layout
  layout_same t = ap (layouts (with_methods p ms)) (chain_within_same (most_bases p) t) ∙ layouts_same (chain p t)

  pub meaning_of_same : (a : ℕ) (t : Token) → meaning_of (with_methods p ms) a t ≡ meaning_of p a t
  unfolding meaning_of
  meaning_of_same a t = refl

  pub token_here_same : (here : Here) (u : Option Under) (a : ℕ) (t : Token) → token_here (with_methods p ms) here u a t ≡ token_here p here u a t
  unfolding token_here meaning_of
  token_here_same here u a t = refl

  pub stored_same : (t : Ty) (v : Value) → stored (storage (with_methods p ms) t) v ≡ stored (storage p t) v
  stored_same t v = ap (λ h. stored h v) (storage_same t)

  pub set_cell_same : (v : Value) (c : Cell) → set_cell (with_methods p ms) v c ≡ set_cell p v c
  set_cell_same v c = ap (cell_if c.ty) (stored_in_same c.ty v)

  pub new_cell_same : (t : Ty) (v : Value) → new_cell (with_methods p ms) t v ≡ new_cell p t v
  new_cell_same t v = ap (cell_if t) (stored_in_same t v)

  pub default_cell_same : (t : Ty) → default_cell (with_methods p ms) t ≡ default_cell p t
  default_cell_same t = ap (λ v. cell_with t v) (default_same 1001 t)

  pub default_cells_same : (ts : List Ty) → default_cells (with_methods p ms) ts ≡ default_cells p ts
  default_cells_same [] = refl
  default_cells_same (t ∷ ts) = ap (λ c. c ∷ default_cells (with_methods p ms) ts) (default_cell_same t) ∙ ap (λ cs. default_cell p t ∷ cs) (default_cells_same ts)

  module _ (same : SameMethods p ms) where
    pub handle_same : (m : Meaning) → handle_of (with_methods p ms) m ≡ handle_of p m
    handle_same (OfMethod owner m args) = ap (λ name. handle_with (ty_name p owner) name) ((same m).name)
    handle_same _ = refl

    pub arity_same : (m : ℕ) → arity (with_methods p ms) m ≡ arity p m
    arity_same m = ap length ((same m).params)

    pub with_this_same : (m : ℕ) → with_this (with_methods p ms) m ≡ with_this p m
    with_this_same m = ap (λ b. if b then arity (with_methods p ms) m else suc (arity (with_methods p ms) m)) ((same m).is_static) ∙ ap (λ n. if (method_of p m).is_static then n else suc n) (arity_same m)
