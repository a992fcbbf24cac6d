-- TypeRef rows, one after another.
use Rattle.std.proofs.Common.{◌≡◌, ◌∙◌, sym, ap, append_assoc, ℕ, suc, ◌+◌, List, [], ◌∷◌, ◌++◌, Bool, false}
use Rattle.std.specs.Prelude.{map, Option, Some, None, is_none, if◌then◌else◌}
use Rattle.std.specs.List.{range_with_len}
use Rattle.std.proofs.lemmas.List.{map-append}
use Rattle.cil_base.specs.Refusals.{first_of}
use Rattle.cil_base.specs.declared.refusal.Refusal.{Refusal}
use Rattle.set_program.specs.declared.identity.TypeId.{TypeId}
use Rattle.set_rows.specs.Sets.{Assemblies}
use Rattle.set_program.specs.References.{reference}
use Rattle.set_program.specs.ReferenceRules.{reference_test}

abbrev pub some : TypeId → Option TypeId
some id = Some id

module _ (s : Assemblies) (a : ℕ) where
  pub named_on : (k n : ℕ) (ids ids' : List TypeId) (id : TypeId) (all : List (Option TypeId)) → ids' ≡ ids ++ id ∷ [] → reference s a k ≡ Some id
      → map some ids ++ map (reference s a) (range_with_len k (suc n)) ≡ all → map some ids' ++ map (reference s a) (range_with_len (k + 1) n) ≡ all
  named_on k n ids ids' id all e found h =
      ap (λ (l : List TypeId). map some l ++ map (reference s a) (range_with_len (k + 1) n)) e
      ∙ ap (λ (l : List (Option TypeId)). l ++ map (reference s a) (range_with_len (k + 1) n)) (map-append some ids (id ∷ []))
      ∙ append_assoc (map some ids) (Some id ∷ []) (map (reference s a) (range_with_len (k + 1) n))
      ∙ ap (λ (o : Option TypeId). map some ids ++ (o ∷ map (reference s a) (range_with_len (k + 1) n))) (sym found)
      ∙ h

  module _ (whole : Option Refusal) where
    pub passes_on : (k n : ℕ) (o : Option TypeId) → reference s a k ≡ o → is_none o ≡ false → first_of (map (reference_test s a) (range_with_len k (suc n))) ≡ whole
        → first_of (map (reference_test s a) (range_with_len (k + 1) n)) ≡ whole
    passes_on k n o e f h =
        ap (λ (b : Bool). if b then Some (reference_test s a k).refusal else first_of (map (reference_test s a) (range_with_len (k + 1) n))) (sym f ∙ ap is_none (sym e))
        ∙ h

    pub fails_at : (k n : ℕ) → reference s a k ≡ None → first_of (map (reference_test s a) (range_with_len k (suc n))) ≡ whole → Some (reference_test s a k).refusal ≡ whole
    fails_at k n e h =
        ap (λ (b : Bool). if b then Some (reference_test s a k).refusal else first_of (map (reference_test s a) (range_with_len (k + 1) n))) (ap is_none (sym e))
        ∙ h
