-- Places of one type hold one kind of value, where an outside type's kind belongs to its name.
use Rattle.std.proofs.Common.{◌≡◌, Bool, ◌==◌, refl, sym, ap, ◌∙◌}
use Rattle.std.proofs.lemmas.Bool.{eqb-true}
use Rattle.std.proofs.lemmas.Slice.Eq.{bytes_eq-Decides}
use Rattle.cil_base.proofs.Small.{and_both}
use Rattle.cil_model.specs.declared.ty.Ty as types
use Rattle.cil_model.specs.declared.ty.Ty.{Ty, Prim, Known, Outside, Array', ByRef', Var, MVar, Opaque, Inst'}
use Rattle.cil_model.specs.declared.ty.Ty.TheOpen.{Ty-F}
use Rattle.cil_model.specs.declared.program.Program.{Program}
use Rattle.cil_semantics.specs.Core.{Name}
use Rattle.cil_semantics.specs.Lookups.{type_of}
use Rattle.cil_semantics.specs.Places.{storage, storage_at, prim_storage, kind_storage}
use Rattle.machine_laws.specs.Kinds.{OneKind}

module _ (p : Program) (is_value : Name → Bool) where
  pub one_kind : OneKind p is_value
  unfolding storage types.out-Ty denote.Hole.Carrier.out
  one_kind (Prim b) (Prim c) a d e = ap prim_storage (eqb-true b c e)
  one_kind (Known k) (Known j) a d e = ap (λ n. kind_storage p (type_of p n) (type_of p n).kind) (eqb-true k j e)
  one_kind (Outside name value) (Outside other value') a d e =
      let same : name ≡ other = (bytes_eq-Decides name other).0 e in
      ap (λ n. storage_at p (Ty-F.Outside n value)) same ∙ ap (λ v. storage_at p (Ty-F.Outside other v)) (a ∙ ap is_value same ∙ sym d)
  one_kind (Array' q parts) (Array' q' parts') a d e = refl
  one_kind (ByRef' q parts) (ByRef' q' parts') a d e = refl
  one_kind (Var k) (Var j) a d e = refl
  one_kind (MVar k) (MVar j) a d e = refl
  one_kind Opaque Opaque a d e = refl
  one_kind (Inst' k shape parts) (Inst' j shape' parts') a d e = ap (λ n. kind_storage p (type_of p n) (type_of p n).kind) (eqb-true k j ((and_both (k == j) _ e).0))
  one_kind t u a d e = absurd cc
