-- The own contract of a body without a contract call: heights are there, though none are looked for.
use Rattle.std.proofs.Common.{◌≡◌, ℕ, List, Option, Some, None, Result, Ok, Err, false, refl, sym, subst, inl, inr}
use Rattle.std.specs.Prelude.{IsSome, MatchOption, OnOk, map, slice_index}
use Rattle.cil_base.specs.declared.rule.Rule.TheVariants.{I4}
use Rattle.cil_base.specs.declared.refusal.Place.{Place}
use Rattle.cil_base.specs.declared.refusal.Refusal.{Refusal}
use Rattle.cil_base.specs.declared.refusal.Fault.{Fault}
use Rattle.cil_base.specs.Refusals.{First, NoneBroken, refusal}
use Rattle.cil_model.specs.declared.body.Body.{Body}
use Rattle.cil_model.specs.declared.contract.Contract.{Contract}
use Rattle.cil_model.specs.declared.program.MethodDesc.{MethodDesc}
use Rattle.cil_model.specs.declared.program.Program.{Program}
use Rattle.cil_semantics.specs.Lookups.{method_of}
use Rattle.cil_semantics.specs.Unwind.{body_of}
use Rattle.il_flow.specs.declared.answer.Heights.{Heights}
use Rattle.il_flow.specs.declared.mark.Mark.{Mark}
use Rattle.il_flow.specs.Effects.{effect_of}
use Rattle.il_flow.specs.Heights.{SearchFinds, has_height, height_told}
use Rattle.il_flow.specs.Lowest.{lowest}
use Rattle.il_flow.specs.Meanings.{BreaksMeaning, meaning_tests}
use Rattle.il_flow.specs.Methods.{place_of}
use Rattle.il_flow.proofs.MeaningLaws.{first_meaning}
use Rattle.il_flow.proofs.PathLaws.{is_told}
use Rattle.contract_extract.specs.Methods.{method_code, FindsHeights, HasContract}
use Rattle.own_contracts.specs.Calls.{has_call}
use Rattle.own_contracts.specs.Own.{no_contract, BreaksAt, HaveHeights, IsOwn}
use Rattle.own_contracts.proofs.EndLaws.{search_ends}
use Rattle.own_contracts.proofs.OnceLaws.{own_of_some, own_accepted}
use Rattle.own_contracts.proofs.PlainLaws.{is_empty, breaks_nothing}

module _ (p : Program) (m : ℕ) (heights : HaveHeights p) (some : IsSome (method_of p m).body) where
  abbrev own : MethodDesc
  own = method_of p m

  abbrev b : Body
  b = body_of p m

  abbrev place : Place
  place = place_of own

  meant : NoneBroken (BreaksMeaning p own place b)
  meant = go (lowest None (meaning_tests p own place b)) (first_meaning p own place b)
    where
      go : (o : Option Refusal) → MatchOption o (NoneBroken (BreaksMeaning p own place b)) (First (BreaksMeaning p own place b)) → NoneBroken (BreaksMeaning p own place b)
      go None h = h
      go (Some r) h = absurd (heights m some r (inl h))

  abbrev told : List Mark → Heights
  told ms = record { heights = map height_told ms; reached = map has_height ms }

  found : (r : Result (List Mark) ℕ) → SearchFinds (effect_of p own) b r → (h : Heights) × FindsHeights p m h
  found (Ok ms) h = (told ms, record { meant = meant; heights = (ms, h, refl, refl); told = is_told (effect_of p own) b ms (told ms) h refl refl })
  found (Err q) h = absurd (heights m some (refusal I4 place (slice_index b.offsets q)) (inr (meant, (q, h, refl))))

  finds : (h : Heights) × FindsHeights p m h
  finds = let s : (r : Result (List Mark) ℕ) × SearchFinds (effect_of p own) b r = search_ends (effect_of p own) b in found s.0 s.1

  plain_contract : has_call p b.instrs ≡ false → HasContract p m no_contract
  plain_contract none =
      let f : (h : Heights) × FindsHeights p m h = finds in
      (f.0, f.1, sym (is_empty (method_code p m f.0) none), breaks_nothing (method_code p m f.0) none)

  has_plain : (c : Contract) → has_call p b.instrs ≡ false → c ≡ no_contract → HasContract p m c
  has_plain c none e = subst (HasContract p m) (sym e) (plain_contract none)

  pub plain_own : (c : Contract) → has_call p b.instrs ≡ false → c ≡ no_contract → IsOwn p m c
  plain_own c none e = own_of_some p m heights (method_of p m).body c some (has_plain c none e)

  pub plain_accepted : (c : Contract) → has_call p b.instrs ≡ false → c ≡ no_contract → NoneBroken (BreaksAt p m)
  plain_accepted c none e = let r : Result Contract Fault = Ok c in own_accepted p m heights r (has_plain c none e)
