-- What tokens of the input's code mean, and the types that clauses refer to.
use Rattle.std.proofs.Common.{◌≡◌, ◌∙◌, sym, ap, refl, ℕ, ◌<◌, List, ◌∷◌, length}
use Rattle.std.specs.Prelude.{Option, Some, None, option_map, option_and_then, slice_get, ◌==◌, if◌then◌else◌}
use Rattle.cil_base.specs.declared.token.Token.{Token}
use Rattle.cil_model.specs.declared.ty.Ty.{Ty}
use Rattle.cil_model.specs.declared.ty.Under.{Under}
use Rattle.cil_model.specs.declared.contract.TyRef.{TyRef}
use Rattle.cil_model.specs.declared.program.Program.{Program}
use Rattle.cil_model.specs.declared.program.Meaning.{Meaning}
use Rattle.cil_model.specs.declared.program.Meaning.TheVariants.{OfType, OfField, OfMethod, OfText, OfLocals}
use Rattle.cil_semantics.specs.Types.{under}
use Rattle.cil_semantics.specs.Lookups.{method_of, args_of}
use Rattle.cil_semantics.specs.Tokens.{Here, meaning_of, meaning_under, meaning_in, if_little, token_here, ty_in, named_type, ref_type}
use Rattle.machine_laws.specs.Growth.{Extends}
use Rattle.grown_runs.specs.Grown.{StaysUnmeant, NamesInner}

module _ (p0 p : Program) (kept : Extends p0 p) where
  pub meaning_same : (a : ℕ) (t : Token) → StaysUnmeant p0 p a t → meaning_of p a t ≡ meaning_of p0 a t
  meaning_same a t none = go (meaning_of p0 a t) refl
    where
      go : (o : Option Meaning) → meaning_of p0 a t ≡ o → meaning_of p a t ≡ meaning_of p0 a t
      go None e = none e ∙ sym e
      go (Some m) e = kept.tokens a t m e ∙ sym e

  pub token_same : (here : Here) (u : Option Under) (a : ℕ) (t : Token) → StaysUnmeant p0 p a t → token_here p here u a t ≡ token_here p0 here u a t
  unfolding token_here
  token_same here u a t none = ap (option_and_then (λ m. if_little (meaning_under here.type_args here.method_args (meaning_in u m)))) (meaning_same a t none)

  -- a signature's types
  signature_same : (m : ℕ) → m < length p0.methods → ((method_of p m).result ∷ (method_of p m).params) ≡ ((method_of p0 m).result ∷ (method_of p0 m).params)
  signature_same m l = ap (λ (r : Ty). r ∷ (method_of p m).params) (kept.methods m l).result ∙ ap (λ (ts : List Ty). (method_of p0 m).result ∷ ts) (kept.methods m l).params

  named_same : (r : TyRef) (m : Meaning) → NamesInner p0 m → named_type p r (Some m) ≡ named_type p0 r (Some m)
  named_same r (OfType t) n = refl
  named_same r (OfField owner f) n = refl
  named_same r (OfMethod owner m args) n =
      ap (λ (ts : List Ty). if r.token.table == 0x2B then slice_get args r.index else option_map (under (args_of owner) args) (slice_get ts r.index)) (signature_same m n.1)
  named_same r (OfText units) n = refl
  named_same r (OfLocals ts) n = refl

  pub ref_same : (here : Here) (r : TyRef) → StaysUnmeant p0 p r.assembly r.token → ((m : Meaning) → meaning_of p0 r.assembly r.token ≡ Some m → NamesInner p0 m) → ref_type p here r ≡ ref_type p0 here r
  unfolding ref_type
  ref_same here r none names =
      ap (option_map (λ t. under here.type_args here.method_args (ty_in r.under t)))
      (ap (named_type p r) (meaning_same r.assembly r.token none) ∙ go (meaning_of p0 r.assembly r.token) names)
    where
      go : (o : Option Meaning) → ((m : Meaning) → o ≡ Some m → NamesInner p0 m) → named_type p r o ≡ named_type p0 r o
      go None h = refl
      go (Some m) h = named_same r m (h m refl)
