-- What signatures hold, one level at a time, and what a reader of a blob answered.
use Rattle.std.proofs.Common.{◌≡◌, ◌∙◌, sym, ap, arith, refl, subst, ℕ, zero, suc, ◌-◌, Bool, List, [], ◌∷◌, ◌++◌}
use Rattle.std.specs.Prelude.{Result, Ok, Err, IfOk, OnOk, Option, Some, None, option_to_list}
use Rattle.cil_base.specs.declared.rule.Rule.{Rule}
use Rattle.cil_base.specs.declared.refusal.Place.{Place}
use Rattle.cil_base.specs.declared.refusal.Refusal.{Refusal}
use Rattle.cil_base.specs.declared.refusal.Fault.{Fault}
use Rattle.cil_base.specs.declared.refusal.Fault.TheVariants.{Refused, Memory}
use Rattle.cil_base.specs.Refusals.{OnRefused}
use Rattle.cli_sigs.specs.declared.types.SigTy.{SigTy, out-SigTy}
use Rattle.cli_sigs.specs.declared.types.MethodSig.{MethodSig}
use Rattle.cli_sigs.specs.Answers.{AtLongest, GivesOnly, Reads}
use Rattle.set_types.specs.SignatureTypes.{Coded}
use Rattle.set_types.specs.SignatureRules.{method_types, open_values, values_within, miscounts, miscounts_within, strays, strays_within}
use Rattle.signature_rules.specs.BlobKinds.{types_or_none, IsBad}

pub values_step : (depth : ℕ) (t : SigTy) → (depth ≡ 0 → ⊥) → open_values (values_within (depth - 1)) (out-SigTy t) ≡ values_within depth t
unfolding values_within
values_step zero t h = absurd (h refl)
values_step (suc n) t h = let e : suc n - 1 ≡ n = omega arith in ap (λ (m : ℕ). open_values (values_within m) (out-SigTy t)) e

pub miscounts_step : (parameters : ℕ → Option ℕ) (depth : ℕ) (t : SigTy) → (depth ≡ 0 → ⊥) → miscounts parameters (miscounts_within parameters (depth - 1)) (out-SigTy t) ≡ miscounts_within parameters depth t
unfolding miscounts_within
miscounts_step parameters zero t h = absurd (h refl)
miscounts_step parameters (suc n) t h = let e : suc n - 1 ≡ n = omega arith in ap (λ (m : ℕ). miscounts parameters (miscounts_within parameters m) (out-SigTy t)) e

pub strays_step : (c : Coded) (n m depth : ℕ) (t : SigTy) → (depth ≡ 0 → ⊥) → strays c n m (strays_within c n m (depth - 1)) (out-SigTy t) ≡ strays_within c n m depth t
unfolding strays_within
strays_step c n m zero t h = absurd (h refl)
strays_step c n m (suc d) t h = let e : suc d - 1 ≡ d = omega arith in ap (λ (k : ℕ). strays c n m (strays_within c n m k) (out-SigTy t)) e

-- ---- blobs

some_read : {X : Type 0} (read : Result X Fault) (o : Option X) (v : X) → Reads read o → read ≡ Ok v → o ≡ Some v
some_read read o v h e = subst (λ r. Reads r o) e h

pub one_read : (read : Result SigTy Fault) (o : Option SigTy) (answer : Result (List SigTy) Fault) → Reads read o → IfOk answer (λ tys. (t : SigTy) × (read ≡ Ok t) × (tys ≡ t ∷ [])) → IfOk answer (λ tys. tys ≡ option_to_list o)
one_read read o (Ok tys) h (t, e, f) = f ∙ sym (ap option_to_list (some_read read o t h e))
one_read read o (Err e) h f = f

pub method_read : (read : Result MethodSig Fault) (o : Option MethodSig) (answer : Result (List SigTy) Fault) → Reads read o → IfOk answer (λ tys. (sig : MethodSig) × (read ≡ Ok sig) × (tys ≡ method_types sig)) → IfOk answer (λ tys. tys ≡ types_or_none method_types o)
method_read read o (Ok tys) h (sig, e, f) = f ∙ sym (ap (types_or_none method_types) (some_read read o sig h e))
method_read read o (Err e) h f = f

pub list_read : (read : Result (List SigTy) Fault) (o : Option (List SigTy)) → Reads read o → IfOk read (λ tys. tys ≡ types_or_none (λ ts. ts) o)
list_read (Ok tys) o h = sym (ap (types_or_none (λ ts. ts)) h)
list_read (Err (Refused r)) o h = tt
list_read (Err (Memory e)) o h = tt

pub is_bad : {A : Type 0} (G : List ℕ → A → Type 0) (rule : Rule) (p : Place) (bytes : List ℕ) (read : Result A Fault) → ((v : A) → G bytes v → GivesOnly read v) → OnRefused read (AtLongest rule p G bytes) → OnRefused read (IsBad G rule p bytes)
is_bad G rule p bytes (Ok v) only h = h
is_bad G rule p bytes (Err (Refused r)) only h = (λ v g. only v g, h)
is_bad G rule p bytes (Err (Memory e)) only h = h

-- refused as the reader was
pub refused_as : {A B : Type 0} (read : Result A Fault) (answer : Result B Fault) (P : Refusal → Type 0) → OnRefused answer (λ r. read ≡ Err (Refused r)) → OnRefused read P → OnRefused answer P
refused_as read (Ok x) P h g = tt
refused_as read (Err (Refused r)) P h g = subst (λ a. OnRefused a P) h g
refused_as read (Err (Memory e)) P h g = tt

-- ---- appended

pub on_ok_is : {A E : Type 0} (r : Result A E) (old new x y : List ℕ) → x ≡ y → OnOk r (new ≡ old ++ x) → OnOk r (new ≡ old ++ y)
on_ok_is r old new x y e h = subst (λ z. OnOk r (new ≡ old ++ z)) e h
