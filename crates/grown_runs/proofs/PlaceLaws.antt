-- What a place of a type holds stays where tables grow: what is appended are classes.
use Rattle.std.proofs.Common.{◌≡◌, ℕ, ◌<◌, ◌≤◌, List, [], ◌∷◌, length, refl, sym, ap, ◌∙◌, ◌⊎◌, inl, inr}
use Rattle.std.specs.Prelude.{not, map, filter, slice_get}
use Rattle.std.proofs.lemmas.Bool.{cases_lt}
use Rattle.std.proofs.Math.ListN.{get_or-eq_default}
use Rattle.std.proofs.lemmas.Option.{unwrap_or-slice_get}
use Rattle.cil_model.specs.declared.ty.Ty.{Ty, out-Ty}
use Rattle.cil_model.specs.declared.ty.Ty.TheOpen.{Ty-F}
use Rattle.cil_model.specs.declared.program.Kind.{Kind}
use Rattle.cil_model.specs.declared.program.Kind.TheVariants.{Class, Interface, Struct, Enumeration, Delegate}
use Rattle.cil_model.specs.declared.program.Program.{Program}
use Rattle.cil_model.specs.declared.program.TypeDesc.{TypeDesc}
use Rattle.cil_semantics.specs.Words.{maybe}
use Rattle.cil_semantics.specs.Types.{under}
use Rattle.cil_semantics.specs.Lookups.{contract_exception, type_of, field_of, in_set}
use Rattle.cil_semantics.specs.Places.{Fields, Opaque, Reference, own_fields, prim_at, kind_storage, storage_at, storage, field_types}
use Rattle.machine_laws.specs.Answers.{Each}
use Rattle.machine_laws.proofs.AnswerLaws.{filter_on, map_on, each_on, each_filter}
use Rattle.grown_runs.specs.Grown.{IsGrownInput}

module _ (p0 p : Program) (h : IsGrownInput p0 p) where
  old_kind : (j : ℕ) → length p0.types ≤ j → (type_of p0 j).kind ≡ Class
  unfolding contract_exception
  old_kind j l = ap (λ (d : TypeDesc). d.kind) (unwrap_or-slice_get p0.types j contract_exception ∙ get_or-eq_default p0.types contract_exception l)

  own_same : (j : ℕ) → j < length p0.types → own_fields p (type_of p j) ≡ own_fields p0 (type_of p0 j)
  own_same j l =
      ap (filter (λ f. not (field_of p f).is_static)) (h.extends.types j l).fields
      ∙ filter_on (λ f. not (field_of p f).is_static) (λ f. not (field_of p0 f).is_static) (type_of p0 j).fields
      (each_on (λ f. f < length p0.fields) (λ f. not (field_of p f).is_static ≡ not (field_of p0 f).is_static) (type_of p0 j).fields (λ f m. ap not (h.extends.fields f m).is_static) (h.names_own.fields j l))

  own_there : (j : ℕ) → j < length p0.types → Each (λ f. f < length p0.fields) (own_fields p0 (type_of p0 j))
  own_there j l = each_filter (λ f. f < length p0.fields) (λ f. not (field_of p0 f).is_static) (type_of p0 j).fields (h.names_own.fields j l)

  -- what the first field's type is
  first_same : (fs : List ℕ) → Each (λ f. f < length p0.fields) fs → maybe Opaque (λ f. prim_at (out-Ty (field_of p f).ty)) (slice_get fs 0) ≡ maybe Opaque (λ f. prim_at (out-Ty (field_of p0 f).ty)) (slice_get fs 0)
  first_same [] q = refl
  first_same (f ∷ fs) q = ap (λ (u : Ty). prim_at (out-Ty u)) (h.extends.fields f q.0).ty

  -- of a type whose fields, and the types of these, stay
  kind_same : (d e : TypeDesc) (c : Kind) → own_fields p e ≡ own_fields p0 d → Each (λ f. f < length p0.fields) (own_fields p0 d) → kind_storage p e c ≡ kind_storage p0 d c
  kind_same d e Class s t = refl
  kind_same d e Interface s t = refl
  kind_same d e Struct s t = ap (λ (fs : List ℕ). Fields (length fs)) s
  kind_same d e Enumeration s t = ap (λ (fs : List ℕ). maybe Opaque (λ f. prim_at (out-Ty (field_of p f).ty)) (slice_get fs 0)) s ∙ first_same (own_fields p0 d) t
  kind_same d e Delegate s t = refl

  known_same : (j : ℕ) → kind_storage p (type_of p j) (type_of p j).kind ≡ kind_storage p0 (type_of p0 j) (type_of p0 j).kind
  known_same j = by_side (cases_lt j (length p0.types))
    where
      by_side : (j < length p0.types) ⊎ (length p0.types ≤ j) → kind_storage p (type_of p j) (type_of p j).kind ≡ kind_storage p0 (type_of p0 j) (type_of p0 j).kind
      by_side (inl l) = ap (kind_storage p (type_of p j)) (h.extends.types j l).kind ∙ kind_same (type_of p0 j) (type_of p j) (type_of p0 j).kind (own_same j l) (own_there j l)
      by_side (inr l) = ap (kind_storage p (type_of p j)) (h.classes j l) ∙ sym (ap (kind_storage p0 (type_of p0 j)) (old_kind j l))

  storage_out : (t : Ty-F Ty) → storage_at p t ≡ storage_at p0 t
  storage_out (Ty-F.Known j) = known_same j
  storage_out (Ty-F.Inst j args) = known_same j
  storage_out (Ty-F.Prim b) = refl
  storage_out (Ty-F.Outside name value) = refl
  storage_out (Ty-F.Array item) = refl
  storage_out (Ty-F.ByRef item) = refl
  storage_out (Ty-F.Var j) = refl
  storage_out (Ty-F.MVar j) = refl
  storage_out Ty-F.Opaque = refl

  pub storage_same : (t : Ty) → storage p t ≡ storage p0 t
  unfolding storage
  storage_same t = storage_out (out-Ty t)

  -- ---- the types of a struct's fields

  typed_same : (args : List Ty) (fs : List ℕ) → Each (λ f. f < length p0.fields) fs → map (λ f. under args [] (field_of p f).ty) fs ≡ map (λ f. under args [] (field_of p0 f).ty) fs
  typed_same args fs q =
      map_on (λ f. under args [] (field_of p f).ty) (λ f. under args [] (field_of p0 f).ty) fs
      (each_on (λ f. f < length p0.fields) (λ f. under args [] (field_of p f).ty ≡ under args [] (field_of p0 f).ty) fs (λ f l. ap (under args []) (h.extends.fields f l).ty) q)

  -- what is appended is no struct
  is_old : (j n : ℕ) → kind_storage p0 (type_of p0 j) (type_of p0 j).kind ≡ Fields n → j < length p0.types
  is_old j n e = by_side (cases_lt j (length p0.types))
    where
      by_side : (j < length p0.types) ⊎ (length p0.types ≤ j) → j < length p0.types
      by_side (inl l) = l
      by_side (inr l) = let q : Reference ≡ Fields n = sym (ap (kind_storage p0 (type_of p0 j)) (old_kind j l)) ∙ e in absurd (cc q)

  known_fields : (j n : ℕ) (args : List Ty) → kind_storage p0 (type_of p0 j) (type_of p0 j).kind ≡ Fields n → map (λ f. under args [] (field_of p f).ty) (own_fields p (type_of p j)) ≡ map (λ f. under args [] (field_of p0 f).ty) (own_fields p0 (type_of p0 j))
  known_fields j n args e =
      let l = is_old j n e in
      ap (map (λ f. under args [] (field_of p f).ty)) (own_same j l) ∙ typed_same args (own_fields p0 (type_of p0 j)) (own_there j l)

  fields_out : (n : ℕ) (o : Ty-F Ty) → storage_at p0 o ≡ Fields n → maybe [] (λ (d : ℕ × List Ty). map (λ f. under d.1 [] (field_of p f).ty) (own_fields p (type_of p d.0))) (in_set o) ≡ maybe [] (λ (d : ℕ × List Ty). map (λ f. under d.1 [] (field_of p0 f).ty) (own_fields p0 (type_of p0 d.0))) (in_set o)
  fields_out n (Ty-F.Known j) e = known_fields j n [] e
  fields_out n (Ty-F.Inst j args) e = known_fields j n args e
  fields_out n (Ty-F.Prim b) e = refl
  fields_out n (Ty-F.Outside name value) e = refl
  fields_out n (Ty-F.Array item) e = refl
  fields_out n (Ty-F.ByRef item) e = refl
  fields_out n (Ty-F.Var j) e = refl
  fields_out n (Ty-F.MVar j) e = refl
  fields_out n Ty-F.Opaque e = refl

  pub fields_same : (t : Ty) (n : ℕ) → storage p0 t ≡ Fields n → field_types p t ≡ field_types p0 t
  unfolding storage field_types
  fields_same t n e = fields_out n (out-Ty t) e
