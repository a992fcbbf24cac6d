-- What the code of a body breaks first is one refusal, at the body's place.
use Rattle.std.proofs.Common.{◌≡◌, ◌∙◌, sym, subst, ap, refl, inl, inr, ℕ, List, [], ◌∷◌, false, Option, Some, None, Result, Ok, Err}
use Rattle.std.specs.Prelude.{slice_index, IfOk, MatchOption}
use Rattle.cil_base.specs.declared.rule.Rule.TheVariants.{I4}
use Rattle.cil_base.specs.declared.refusal.Place.{Place}
use Rattle.cil_base.specs.declared.refusal.Refusal.{Refusal}
use Rattle.cil_base.specs.declared.refusal.Fault.{Fault}
use Rattle.cil_base.specs.declared.refusal.Fault.TheVariants.{Refused, Memory}
use Rattle.cil_base.specs.Refusals.{refusal, key, is_less, First, IfRefused, InTurn, NoneBroken}
use Rattle.cil_base.proofs.RefusalLaws.{less_refl}
use Rattle.cil_base.proofs.OrderLaws.{first_is_one, turn_is_one}
use Rattle.cil_model.specs.declared.body.Body.{Body}
use Rattle.cil_model.specs.declared.program.Program.{Program}
use Rattle.cil_model.specs.declared.program.MethodDesc.{MethodDesc}
use Rattle.il_flow.specs.declared.answer.Heights.{Heights}
use Rattle.il_flow.specs.Effects.{effect_of}
use Rattle.il_flow.specs.Meanings.{BreaksMeaning}
use Rattle.il_flow.specs.Methods.{BreaksHeights, HasHeights}
use Rattle.region_tree.specs.Rules.{BreaksControl}
use Rattle.body_rules.specs.Faults.{CodeFault, TellsFault, TellsFlow}
use Rattle.body_rules.proofs.SearchLaws.{fault_once, no_fault}

-- What is broken and is the only such is the first.
pub first_of_one : (Broken : Refusal → Type 0) (r : Refusal) → Broken r → ((s : Refusal) → Broken s → s ≡ r) → First Broken r
first_of_one Broken r broken one = record { broken = broken; none_before = λ s f. subst (λ (x : Refusal). is_less (key x) (key r) ≡ false) (sym (one s f)) (less_refl (key r)) }

-- the same of what a call answers
pub first_refused : (Broken : Refusal → Type 0) (f : Fault) → IfRefused f Broken → IfRefused f (λ r. (s : Refusal) → Broken s → s ≡ r) → IfRefused f (First Broken)
first_refused Broken (Refused r) broken one = first_of_one Broken r broken one
first_refused Broken (Memory e) broken one = tt

module _ (p : Program) (own : MethodDesc) (place : Place) (b : Body) where
  abbrev Meaning : Refusal → Type 0
  Meaning = BreaksMeaning p own place b

  abbrev Height : Refusal → Type 0
  Height = BreaksHeights (effect_of p own) place b

  abbrev Control : Refusal → Type 0
  Control = BreaksControl place b

  height_once : (r s : Refusal) → Height r → Height s → s ≡ r
  height_once r s f g = g.2 ∙ ap (λ (q : ℕ). refusal I4 place (slice_index b.offsets q)) (sym (fault_once (effect_of p own) b f.0 g.0 f.1 g.1)) ∙ sym f.2

  -- heights are found
  pub flow_right : (found : Heights) → HasHeights p own place b found → TellsFlow p own place b None
  flow_right found h = (h.meant, λ r f. no_fault (effect_of p own) b found f.0 h.heights f.1)

  -- they are refused
  pub flow_wrong : (r : Refusal) → InTurn Meaning Height r → TellsFlow p own place b (Some r)
  flow_wrong r (inl f) = inl f
  flow_wrong r (inr f) = inr (f.0, first_of_one Height r f.1 (λ s g. height_once r s f.1 g))

  pub flow_refused : (f : Fault) (r : Refusal) → f ≡ Refused r → IfRefused f (InTurn Meaning Height) → TellsFlow p own place b (Some r)
  flow_refused f r e h = flow_wrong r (subst (λ (x : Fault). IfRefused x (InTurn Meaning Height)) e h)

  pub code_of_flow : (r : Refusal) → TellsFlow p own place b (Some r) → TellsFault p own place b (Some r)
  code_of_flow r (inl f) = inl f
  code_of_flow r (inr f) = inr (f.0, inl f.1)

  pub code_right : TellsFlow p own place b None → NoneBroken Control → TellsFault p own place b None
  code_right h none = λ r. elim [ inl f ↦ h.0 r f.broken | inr (m, inl f) ↦ h.1 r f.broken | inr (m, inr (n, f)) ↦ none r f.broken ]

  pub code_wrong : (r : Refusal) → TellsFlow p own place b None → First Control r → TellsFault p own place b (Some r)
  code_wrong r h f = inr (h.0, inr (h.1, f))

  pub code_told : {E : Type 0} (o : Option Refusal) (r : Result (Option Refusal) E) → o ≡ None → TellsFlow p own place b o → IfOk r (λ f. MatchOption f (NoneBroken Control) (First Control)) → IfOk r (TellsFault p own place b)
  code_told o (Ok None) e h k = code_right (subst (TellsFlow p own place b) e h) k
  code_told o (Ok (Some r)) e h k = code_wrong r (subst (TellsFlow p own place b) e h) k
  code_told o (Err x) e h k = k

  -- There is one.
  pub code_once : (r s : Refusal) → CodeFault p own place b r → CodeFault p own place b s → s ≡ r
  code_once r s f g =
      turn_is_one Meaning (InTurn Height (First Control)) r s (λ f g. turn_is_one Height (First Control) r s (λ f g. first_is_one Control r s f g) f g) f g
