-- Names of types, which members are outside, and which are core members stay for what is of the input.
use Rattle.std.proofs.Common.{◌≡◌, ℕ, ◌<◌, List, length, refl, sym, ap, ◌∙◌}
use Rattle.std.specs.Prelude.{Bool, true, false, ◌&&◌, ◌||◌, ◌==◌, not, nat_lt, if◌then◌else◌, codes, is_some}
use Rattle.std.proofs.lemmas.Bool.{ltb-true}
use Rattle.cil_model.specs.declared.ty.Ty.{Ty, out-Ty}
use Rattle.cil_model.specs.declared.ty.Ty.TheOpen.{Ty-F}
use Rattle.cil_model.specs.declared.program.Program.{Program}
use Rattle.cil_semantics.specs.Words.{any, maybe}
use Rattle.cil_semantics.specs.Types.{same_ty}
use Rattle.cil_semantics.specs.Core.{Name, class_named, object_ty, string_ty, core_classes, contract_name}
use Rattle.cil_semantics.specs.Lookups.{type_of, method_of, in_set, is_sub}
use Rattle.cil_semantics.specs.Dispatch.{is_abstract}
use Rattle.cil_semantics.specs.Acts.{ty_name_at, ty_name}
use Rattle.cil_semantics.specs.Outside.{is_outside}
use Rattle.cil_semantics.specs.Calls.{CoreMember, Constructor, Quantifier, NotCore, is_named, is_core_exception, string_member, is_outside_type, are_strings, core_of}
use Rattle.machine_laws.specs.Answers.{is_below}
use Rattle.machine_laws.proofs.FindLaws.{answers_alike}
use Rattle.grown_runs.specs.Grown.{IsGrownInput}

module _ (p0 p : Program) (h : IsGrownInput p0 p) where
  name_out : (o : Ty-F Ty) → maybe true (λ (d : ℕ × List Ty). nat_lt d.0 (length p0.types)) (in_set o) ≡ true → ty_name_at p o ≡ ty_name_at p0 o
  name_out (Ty-F.Known j) e = (h.extends.types j (ltb-true j (length p0.types) e)).name
  name_out (Ty-F.Inst j args) e = (h.extends.types j (ltb-true j (length p0.types) e)).name
  name_out (Ty-F.Prim b) e = refl
  name_out (Ty-F.Outside name value) e = refl
  name_out (Ty-F.Array item) e = refl
  name_out (Ty-F.ByRef item) e = refl
  name_out (Ty-F.Var j) e = refl
  name_out (Ty-F.MVar j) e = refl
  name_out Ty-F.Opaque e = refl

  pub name_same : (t : Ty) → is_below (length p0.types) t ≡ true → ty_name p t ≡ ty_name p0 t
  name_same t e = name_out (out-Ty t) e

  abbrev is_out : (outside reference body abstract : Bool) → Bool
  is_out outside reference body abstract = outside || (reference || (not body && not abstract))

  pub outside_same : (m : ℕ) → m < length p0.methods → (method_of p0 m).owner < length p0.types → is_outside p m ≡ is_outside p0 m
  unfolding is_outside
  outside_same m l o =
      let d = method_of p m in
      let d0 = method_of p0 m in
      let kept = h.extends.methods m l in
      ap (λ (x : Bool). is_out x (type_of p d.owner).reference (is_some d.body) (is_abstract d)) kept.outside
      ∙ ap (λ (x : ℕ). is_out d0.outside (type_of p x).reference (is_some d.body) (is_abstract d)) kept.owner
      ∙ ap (λ (x : Bool). is_out d0.outside x (is_some d.body) (is_abstract d)) (h.extends.types d0.owner o).reference
      ∙ ap (λ (x : Bool). is_out d0.outside (type_of p0 d0.owner).reference x (is_abstract d)) kept.has_body
      ∙ ap (λ (x : Bool). is_out d0.outside (type_of p0 d0.owner).reference (is_some d0.body) x) kept.abstract_too

  pub exception_same : (t : Ty) → is_below (length p0.types) t ≡ true → is_core_exception p t ≡ is_core_exception p0 t
  exception_same t e =
      ap (λ (n : Name). any (λ (row : Name × Ty). is_named row.0 n) core_classes && is_sub p t (class_named (codes "System.Exception"))) (name_same t e)
      ∙ ap (λ (b : Bool). any (λ (row : Name × Ty). is_named row.0 (ty_name p0 t)) core_classes && b) ((answers_alike p0 p h.extends h.names_own h.names_none).subs t (class_named (codes "System.Exception")) e)

  -- a core member, by the names and parameters that it goes by
  abbrev core : (owner : Ty) → Name → Bool → Name → List Ty → CoreMember
  core owner of made name params =
      if not (is_outside_type (out-Ty owner)) then NotCore
      else if is_named name (codes ".ctor") && ((same_ty owner object_ty && (length params == 0)) || made) then Constructor
      else if same_ty owner string_ty then (if (is_named name (codes "Concat") && not (are_strings params)) then NotCore else string_member name (length params))
      else if is_named of contract_name && is_named name (codes "ForAll") then Quantifier false
      else if is_named of contract_name && is_named name (codes "Exists") then Quantifier true
      else NotCore

  core_is : (q : Program) (owner : Ty) (m : ℕ) → core_of q owner m ≡ core owner (ty_name q owner) (is_core_exception q owner) (method_of q m).name (method_of q m).params
  unfolding core_of
  core_is q owner m = refl

  pub core_same : (owner : Ty) (m : ℕ) → m < length p0.methods → is_below (length p0.types) owner ≡ true → core_of p owner m ≡ core_of p0 owner m
  core_same owner m l e =
      let kept = h.extends.methods m l in
      core_is p owner m
      ∙ ap (λ (n : Name). core owner n (is_core_exception p owner) (method_of p m).name (method_of p m).params) (name_same owner e)
      ∙ ap (λ (b : Bool). core owner (ty_name p0 owner) b (method_of p m).name (method_of p m).params) (exception_same owner e)
      ∙ ap (λ (n : Name). core owner (ty_name p0 owner) (is_core_exception p0 owner) n (method_of p m).params) kept.name
      ∙ ap (core owner (ty_name p0 owner) (is_core_exception p0 owner) (method_of p0 m).name) kept.params
      ∙ sym (core_is p0 owner m)
