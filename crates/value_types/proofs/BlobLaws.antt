-- A blob that is in no grammar holds no types.
use Rattle.std.proofs.Common.{◌≡◌, sym, ap, refl, subst, arith, ℕ, List, [], ◌∷◌}
use Rattle.std.specs.Prelude.{Result, Ok, Err, None, option_to_list}
use Rattle.cil_base.specs.declared.refusal.Place.{Place}
use Rattle.cil_base.specs.declared.refusal.Refusal.{Refusal}
use Rattle.cil_base.specs.declared.refusal.Fault.{Fault}
use Rattle.cil_base.specs.declared.refusal.Fault.TheVariants.{Refused}
use Rattle.cil_base.specs.Refusals.{OnRefused}
use Rattle.cli_sigs.specs.declared.types.SigTy.{SigTy}
use Rattle.cli_sigs.specs.declared.elements.Slot.TheVariants.{Plain, Local}
use Rattle.cli_sigs.specs.declared.elements.MethodKind.TheVariants.{Method, Property}
use Rattle.cli_sigs.specs.Grammar.{IsMethodSig, IsPropertySig, IsFieldSig, IsLocals, IsTypeSpec, IsMethodSpec}
use Rattle.cli_sigs.specs.Read.{Reader, Outcome}
use Rattle.cli_sigs.specs.Reading.{type_at, field_at, list_at, method_at, ended}
use Rattle.cli_sigs.proofs.Readers.{IsReader}
use Rattle.cli_sigs.proofs.Longest.{found_all}
use Rattle.cli_sigs.proofs.KindLaws.{reads-methods, reads-spec, reads-field, reads-list}
use Rattle.set_types.specs.SignatureRules.{method_types}
use Rattle.set_signatures.specs.Blobs.{field_sig, method_sig, property_sig, local_sigs, spec_sig, instance_sigs}
use Rattle.signature_rules.specs.declared.blobs.BlobKind.{BlobKind}
use Rattle.signature_rules.specs.declared.blobs.BlobKind.TheVariants as kind
use Rattle.signature_rules.specs.BlobKinds.{types_or_none, kind_types, IsBadBlob}

module _ {A : Type 0} (G : List ℕ → A → Type 0) (r : Reader A) (h : IsReader G r) (bytes : List ℕ) (none : (v : A) → G bytes v → ⊥) where
  ended_at : (o : Outcome A) → r bytes ≡ o → ended o ≡ None
  ended_at (Err e) q = refl
  ended_at (Ok (v, [])) q = absurd (none v (found_all G r h bytes [] v q (omega arith)))
  ended_at (Ok (v, b ∷ rest)) q = refl

  unread : ended (r bytes) ≡ None
  unread = ended_at (r bytes) refl

pub kind_unread : (k : BlobKind) (p : Place) (bytes : List ℕ) (r : Refusal) → IsBadBlob k p bytes r → [] ≡ kind_types k bytes
unfolding field_sig method_sig property_sig local_sigs spec_sig instance_sigs
kind_unread kind.Field p bytes r (none, at) = sym (ap option_to_list (unread IsFieldSig (field_at 999) reads-field bytes none))
kind_unread kind.Method p bytes r (none, at) = sym (ap (types_or_none method_types) (unread IsMethodSig (method_at Method (type_at 999)) (reads-methods Method) bytes none))
kind_unread kind.Property p bytes r (none, at) = sym (ap (types_or_none method_types) (unread IsPropertySig (method_at Property (type_at 999)) (reads-methods Property) bytes none))
kind_unread kind.Locals p bytes r (none, at) = sym (ap (types_or_none (λ ts. ts)) (unread IsLocals (list_at 0x07 999 Local) (reads-list 0x07 Local) bytes none))
kind_unread kind.TypeSpec p bytes r (none, at) = sym (ap option_to_list (unread IsTypeSpec (type_at 999 Plain) (reads-spec Plain) bytes none))
kind_unread kind.MethodSpec p bytes r (none, at) = sym (ap (types_or_none (λ ts. ts)) (unread IsMethodSpec (list_at 0x0A 999 Plain) (reads-list 0x0A Plain) bytes none))

-- what a reader refused
abbrev failed : Fault → Result (List SigTy) Fault
failed f = Err f

pub none_read : (k : BlobKind) (p : Place) (bytes : List ℕ) (f : Fault) (r : Refusal) → f ≡ Refused r → OnRefused (failed f) (IsBadBlob k p bytes) → [] ≡ kind_types k bytes
none_read k p bytes f r e h = kind_unread k p bytes r (subst (λ (g : Fault). OnRefused (failed g) (IsBadBlob k p bytes)) e h)
