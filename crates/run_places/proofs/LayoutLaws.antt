-- The static fields of a closed type of the set.
use Rattle.std.proofs.Common.{◌≡◌, ◌∙◌, sym, ap, refl, ℕ, List, [], ◌∷◌}
use Rattle.std.specs.Prelude.{Option, filter, map}
use Rattle.cil_model.specs.declared.ty.Ty.{Ty, out-Ty}
use Rattle.cil_model.specs.declared.ty.Ty.TheOpen.{Ty-F}
use Rattle.cil_model.specs.declared.ty.Ty.TheVariants as ty
use Rattle.cil_model.specs.declared.program.Program.{Program}
use Rattle.run_places.specs.Fields.{is_static_field}
use Rattle.cil_semantics.specs.Lookups.{field_of, in_set, type_of}
use Rattle.cil_semantics.specs.Places.{default_cell, default_cells, place_of, static_layout}
use Rattle.cil_semantics.specs.Types.{under}
use Rattle.cil_semantics.specs.Words.{maybe}
use Rattle.cil_semantics.specs.declared.Cell.{Cell}
use Rattle.look_ups.proofs.TypeLaws.{instance_out}

-- static fields with their types, under these arguments
abbrev typed_fields : Program → List Ty → List ℕ → List (ℕ × Ty)
typed_fields p args fs = map (λ f. (f, under args [] (field_of p f).ty)) (filter (is_static_field p) fs)

known_layout : (p : Program) (k : ℕ) (t : Ty) (fs : List ℕ) → t ≡ ty.Known k → fs ≡ (type_of p k).fields → typed_fields p [] fs ≡ static_layout p t
unfolding out-Ty denote.Hole.Carrier.out
known_layout p k t fs e h = ap (typed_fields p []) h ∙ sym (ap (static_layout p) e)

instance_layout : (p : Program) (k : ℕ) (args : List Ty) (t : Ty) (fs : List ℕ) → t ≡ ty.Inst k args → fs ≡ (type_of p k).fields → typed_fields p args fs ≡ static_layout p t
instance_layout p k args t fs e h =
    ap (typed_fields p args) h
    ∙ sym (ap (λ (l : Ty-F Ty). maybe [] (λ (d : ℕ × List Ty). typed_fields p d.1 (type_of p d.0).fields) (in_set l)) (ap out-Ty e ∙ instance_out k args))

-- ---- places

pub known_place : (p : Program) (f k : ℕ) (t : Ty) (fs : List ℕ) (r : Option ℕ) → t ≡ ty.Known k → fs ≡ (type_of p k).fields → ((typed : ℕ → Ty) → r ≡ place_of f (map (λ g. (g, typed g)) (filter (is_static_field p) fs))) → r ≡ place_of f (static_layout p t)
known_place p f k t fs r e h place = place (λ g. under [] [] (field_of p g).ty) ∙ ap (place_of f) (known_layout p k t fs e h)

pub instance_place : (p : Program) (f k : ℕ) (args : List Ty) (t : Ty) (fs : List ℕ) (r : Option ℕ) → t ≡ ty.Inst k args → fs ≡ (type_of p k).fields → ((typed : ℕ → Ty) → r ≡ place_of f (map (λ g. (g, typed g)) (filter (is_static_field p) fs))) → r ≡ place_of f (static_layout p t)
instance_place p f k args t fs r e h place = place (λ g. under args [] (field_of p g).ty) ∙ ap (place_of f) (instance_layout p k args t fs e h)

-- ---- default values

fused : (p : Program) (typed : ℕ → Ty) (fs : List ℕ) → map (λ f. default_cell p (typed f)) fs ≡ default_cells p (map (λ (x : ℕ × Ty). x.1) (map (λ f. (f, typed f)) fs))
fused p typed [] = refl
fused p typed (f ∷ fs) = ap (λ (cs : List Cell). default_cell p (typed f) ∷ cs) (fused p typed fs)

pub known_cells : (p : Program) (k : ℕ) (t : Ty) (fs : List ℕ) → t ≡ ty.Known k → fs ≡ (type_of p k).fields → map (λ f. default_cell p (under [] [] (field_of p f).ty)) (filter (is_static_field p) fs) ≡ default_cells p (map (λ (x : ℕ × Ty). x.1) (static_layout p t))
known_cells p k t fs e h =
    fused p (λ f. under [] [] (field_of p f).ty) (filter (is_static_field p) fs)
    ∙ ap (λ (xs : List (ℕ × Ty)). default_cells p (map (λ (x : ℕ × Ty). x.1) xs)) (known_layout p k t fs e h)

pub instance_cells : (p : Program) (k : ℕ) (args : List Ty) (t : Ty) (fs : List ℕ) → t ≡ ty.Inst k args → fs ≡ (type_of p k).fields → map (λ f. default_cell p (under args [] (field_of p f).ty)) (filter (is_static_field p) fs) ≡ default_cells p (map (λ (x : ℕ × Ty). x.1) (static_layout p t))
instance_cells p k args t fs e h =
    fused p (λ f. under args [] (field_of p f).ty) (filter (is_static_field p) fs)
    ∙ ap (λ (xs : List (ℕ × Ty)). default_cells p (map (λ (x : ℕ × Ty). x.1) xs)) (instance_layout p k args t fs e h)
