-- The structs that a type names, one level at a time.
use Rattle.std.proofs.Common.{◌≡◌, ◌∙◌, sym, ap, refl, ℕ, List, [], ◌∷◌, ◌++◌, Bool, true}
use Rattle.std.specs.Prelude.{if◌then◌else◌}
use Rattle.std.specs.List.{flat_map}
use Rattle.std.proofs.lemmas.List.{append_assoc}
use Rattle.cil_model.specs.declared.ty.Ty.{Ty, out-Ty, out-roll-Ty, Prim, Known, Outside, Array', ByRef', Var, MVar, Opaque, Inst', Row_of-Ty, end_of-Ty, more_of-Ty}
use Rattle.cil_model.specs.declared.ty.Ty as types
use Rattle.cil_model.specs.declared.ty.Ty.TheVariants as ty
use Rattle.cil_model.specs.declared.ty.Ty.TheOpen.{Ty-F}
use Rattle.cil_semantics.specs.Types.{Layer}
use Rattle.set_rows.specs.Sets.{Assemblies}
use Rattle.set_program.specs.TypeRules.{is_struct, structs_in, structs_of}

abbrev items_of : {m : _} → Row_of-Ty m → List Ty
items_of {m} row = types.items-the_row-Ty m row

instance_out : (k : ℕ) (ts : List Ty) → out-Ty (ty.Inst k ts) ≡ Ty-F.Inst k ts
instance_out k ts = sym (sym (out-roll-Ty (Ty-F.Inst k ts)) ∙ ap out-Ty (ty.rolls-Inst k ts))

module _ (s : Assemblies) where
  structs_items : {m : _} (row : Row_of-Ty m) → structs_of s row ≡ flat_map (structs_in s) (items_of row)
  structs_items end_of-Ty = refl
  structs_items (more_of-Ty t rest) = ap (λ (l : List ℕ). structs_in s t ++ l) (structs_items rest)

  structs_layer : Layer → List ℕ
  structs_layer (Ty-F.Prim b) = []
  structs_layer (Ty-F.Known k) = if is_struct s k then k ∷ [] else []
  structs_layer (Ty-F.Outside name value) = []
  structs_layer (Ty-F.Array i) = []
  structs_layer (Ty-F.ByRef i) = []
  structs_layer (Ty-F.Var k) = []
  structs_layer (Ty-F.MVar k) = []
  structs_layer Ty-F.Opaque = []
  structs_layer (Ty-F.Inst k ts) = if is_struct s k then k ∷ flat_map (structs_in s) ts else []

  structs_by : (t : Ty) → structs_in s t ≡ structs_layer (out-Ty t)
  unfolding types.out-Ty denote.Hole.Carrier.out denote.Hole.Carrier.shown Rattle.cil_model.specs.declared.ty.Ty.TheBlock.shown-the_row-Ty-0 structs_layer
  structs_by (Prim b) = refl
  structs_by (Known k) = refl
  structs_by (Outside name value) = refl
  structs_by (Array' p parts) = refl
  structs_by (ByRef' p parts) = refl
  structs_by (Var k) = refl
  structs_by (MVar k) = refl
  structs_by Opaque = refl
  structs_by (Inst' k shape parts) =
      ap (λ (l : List ℕ). if is_struct s k then k ∷ l else []) (structs_items parts ∙ ap (flat_map (structs_in s)) (sym (types.items_shown-the_row-Ty-1 shape parts)))

  pub structs_instance : (t : Ty) (k : ℕ) (ts : List Ty) → t ≡ ty.Inst k ts → structs_in s t ≡ (if is_struct s k then k ∷ flat_map (structs_in s) ts else [])
  unfolding structs_layer
  structs_instance t k ts e = structs_by t ∙ ap structs_layer (ap out-Ty e ∙ instance_out k ts)

  pub pushed_instance : (t : Ty) (k : ℕ) (ts args : List Ty) (out out' out'' : List ℕ) → t ≡ ty.Inst k ts → is_struct s k ≡ true → args ≡ ts → out' ≡ out ++ k ∷ [] → out'' ≡ out' ++ flat_map (structs_in s) args → out'' ≡ out ++ structs_in s t
  pushed_instance t k ts args out out' out'' e is same h w =
      w
      ∙ ap (λ (l : List ℕ). l ++ flat_map (structs_in s) args) h
      ∙ append_assoc out (k ∷ []) (flat_map (structs_in s) args)
      ∙ ap (λ (l : List Ty). out ++ (k ∷ flat_map (structs_in s) l)) same
      ∙ sym (ap (λ (l : List ℕ). out ++ l) (structs_instance t k ts e ∙ ap (λ (b : Bool). if b then k ∷ flat_map (structs_in s) ts else []) is))
