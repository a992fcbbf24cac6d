-- An entry of the input is one of the input with the output's tables.
use Rattle.std.proofs.Common.{◌≡◌, ℕ, zero, suc, ◌<◌, List, [], ◌∷◌, length, refl, sym, ap, ◌∙◌, subst, arith}
use Rattle.std.specs.Prelude.{Bool, true, ◌&&◌, if◌then◌else◌, IsTrue, IsFalse}
use Rattle.cil_model.specs.declared.ty.Ty.{Ty, out-Ty, Known}
use Rattle.cil_model.specs.declared.ty.Ty as types
use Rattle.cil_model.specs.declared.ty.Ty.TheVariants as ty
use Rattle.cil_model.specs.declared.value.Value.{Value, out-Value}
use Rattle.cil_model.specs.declared.value.Value.TheOpen.{Value-F}
use Rattle.cil_model.specs.declared.contract.Contracts.{Contracts}
use Rattle.cil_model.specs.declared.program.Program.{Program}
use Rattle.cil_model.specs.declared.run.Reply.{Reply}
use Rattle.cil_semantics.specs.Core.{string_ty}
use Rattle.cil_semantics.specs.Types.{all_under}
use Rattle.cil_semantics.specs.Lookups.{type_of, method_of, args_of}
use Rattle.cil_semantics.specs.Places.{Storage, Truncated, Long, NativeInt, Reference, Address, Fields, Opaque, Anything, Void, storage, is_reference, field_types}
use Rattle.cil_semantics.specs.Frames.{param_types, owner_type}
use Rattle.cil_semantics.specs.Outside.{all_fit, fits, fits_within, fits_fields, fits_storage, refers_to}
use Rattle.cil_semantics.specs.Machine.{empty_world}
use Rattle.machine_laws.specs.Answers.{is_below}
use Rattle.machine_laws.specs.Same.{IsEntry}
use Rattle.machine_laws.proofs.FindLaws.{answers_alike}
use Rattle.grown_runs.specs.Grown.{IsGrownInput, GrowsAround}
use Rattle.grown_runs.proofs.FitsLaws.{all_same, fits_same}
use Rattle.grown_runs.proofs.PlaceLaws.{storage_same}

string_old : (n : ℕ) → is_below n string_ty ≡ true
unfolding types.out-Ty denote.Hole.Carrier.out
string_old n = refl

module _ (p0 p : Program) (h : IsGrownInput p0 p) (rs : List Reply) where
  within_same : (t : Ty) (v : Value) → fits p (empty_world rs) t v ≡ fits p0 (empty_world rs) t v
  within_same t v = fits_same p0 p h (λ u. (answers_alike p0 p h.extends h.names_own h.names_none).subs string_ty u (string_old (length p0.types))) (empty_world rs) tt 1001 t v

  abbrev takes : Bool → Storage → Ty → List Ty → List Ty
  takes static s owner ps = if static then all_under (args_of owner) [] ps else (if is_reference s then owner else ty.ByRef owner) ∷ all_under (args_of owner) [] ps

  params_same : (m : ℕ) → m < length p0.methods → param_types p (owner_type p m []) m [] ≡ param_types p0 (owner_type p0 m []) m []
  params_same m l =
      let kept = h.extends.methods m l in
      ap (λ (o : ℕ). takes (method_of p m).is_static (storage p (Known o)) (Known o) (method_of p m).params) kept.owner
      ∙ ap (λ (b : Bool). takes b (storage p (Known (method_of p0 m).owner)) (Known (method_of p0 m).owner) (method_of p m).params) kept.is_static
      ∙ ap (λ (s : Storage). takes (method_of p0 m).is_static s (Known (method_of p0 m).owner) (method_of p m).params) (storage_same p0 p h (Known (method_of p0 m).owner))
      ∙ ap (takes (method_of p0 m).is_static (storage p0 (Known (method_of p0 m).owner)) (Known (method_of p0 m).owner)) kept.params

pub entries_same : (p0 p : Program) (k : Contracts) (e : ℕ) → GrowsAround p0 p k e → (m : ℕ) (args : List Value) → IsEntry p0 m args → IsEntry p m args
entries_same p0 p k e x m args entry =
    let h = x.tables in
    let kept = h.extends.methods m entry.there in
    let low : (method_of p0 m).owner < length p0.types = x.members m entry.there in
    let owner = h.extends.types (method_of p0 m).owner low in
    record {
      there = omega (arith, entry.there, h.extends.more_methods);
      body = kept.has_body ∙ entry.body;
      inside = subst IsFalse (sym kept.outside) entry.inside;
      owned = subst (λ o. IsFalse (type_of p o).reference) (sym kept.owner) (subst IsFalse (sym owner.reference) entry.owned);
      closed = (kept.generics ∙ entry.closed.0, ap (λ o. (type_of p o).generics) kept.owner ∙ owner.generics ∙ entry.closed.1);
      fitting = subst IsTrue (sym (all_same (fits p (empty_world [])) (fits p0 (empty_world [])) (within_same p0 p h []) (param_types p (owner_type p m []) m []) args ∙ ap (λ (ts : List Ty). all_fit (fits p0 (empty_world [])) ts args) (params_same p0 p h [] m entry.there))) entry.fitting;
    }
