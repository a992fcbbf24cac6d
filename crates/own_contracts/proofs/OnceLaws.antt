-- A body has one contract, or breaks one rule first.
use Rattle.std.proofs.Common.{◌≡◌, ◌∙◌, ℕ, Option, Some, None, Result, Ok, Err, refl, sym, ap, subst, inl, inr}
use Rattle.std.specs.Prelude.{IfOk, IsSome, MatchOption, OnOk}
use Rattle.cil_base.specs.declared.refusal.Refusal.{Refusal}
use Rattle.cil_base.specs.declared.refusal.Fault.{Fault}
use Rattle.cil_base.specs.declared.refusal.Fault.TheVariants.{Refused, Memory}
use Rattle.cil_base.specs.Refusals.{First, NoneBroken, OnRefused, first_of}
use Rattle.cil_model.specs.declared.body.Body.{Body}
use Rattle.cil_model.specs.declared.contract.Contract.{Contract}
use Rattle.cil_model.specs.declared.program.Program.{Program}
use Rattle.cil_semantics.specs.Lookups.{method_of}
use Rattle.il_flow.specs.declared.answer.Heights.{Heights}
use Rattle.contract_extract.specs.Rules.{tests}
use Rattle.contract_extract.specs.Methods.{method_code, HasContract, BreaksBlock, BreaksContract, LacksHeights}
use Rattle.contract_extract.proofs.MethodLaws.{breaks_none, finds_one}
use Rattle.own_contracts.specs.Own.{no_contract, BreaksAt, HaveHeights, IsOwn}
use Rattle.own_contracts.proofs.BestLaws.{only_is_first}

some_is : (r s : Refusal) (o : Option Refusal) → o ≡ Some r → o ≡ Some s → s ≡ r
some_is r s o e f = let g : let q : Option Refusal = Some s in q ≡ Some r = sym f ∙ e in cc

block_once : (p : Program) (m : ℕ) (r s : Refusal) → BreaksBlock p m r → BreaksBlock p m s → s ≡ r
block_once p m r s f g =
    some_is r s (first_of (tests (method_code p m f.0))) f.2
    (ap (λ (h : Heights). first_of (tests (method_code p m h))) (finds_one p m f.0 g.0 f.1 g.1) ∙ g.2)

module _ (p : Program) (m : ℕ) (heights : HaveHeights p) where
  -- a method without a body
  own_of_none : (o : Option Body) (c : Contract) → o ≡ None → c ≡ no_contract → MatchOption o (c ≡ no_contract) (λ b. HasContract p m c)
  own_of_none None c e f = f
  own_of_none (Some b) c e f = absurd cc

  pub own_of_some : (o : Option Body) (c : Contract) → IsSome o → HasContract p m c → MatchOption o (c ≡ no_contract) (λ b. HasContract p m c)
  own_of_some None c h f = absurd cc
  own_of_some (Some b) c h f = f

  no_body : (o : Option Body) → o ≡ None → IsSome o → ⊥
  no_body None e h = absurd cc
  no_body (Some b) e h = absurd cc

  pub empty_own : (c : Contract) → (method_of p m).body ≡ None → c ≡ no_contract → IsOwn p m c
  empty_own c e f = own_of_none (method_of p m).body c e f

  pub none_without : (method_of p m).body ≡ None → NoneBroken (BreaksAt p m)
  none_without e r h = no_body (method_of p m).body e h.0

  pub own_right : (result : Result Contract Fault) → IsSome (method_of p m).body → IfOk result (HasContract p m) → IfOk result (IsOwn p m)
  own_right (Ok c) some h = own_of_some (method_of p m).body c some h
  own_right (Err f) some h = h

  pub own_accepted : (result : Result Contract Fault) → IfOk result (HasContract p m) → OnOk result (NoneBroken (BreaksAt p m))
  own_accepted (Ok c) h = λ r b. breaks_none p m c r h (inr b.1)
  own_accepted (Err f) h = tt

  block_of : (r : Refusal) → IsSome (method_of p m).body → BreaksContract p m r → BreaksBlock p m r
  block_of r some (inl lacks) = absurd (heights m some r lacks)
  block_of r some (inr block) = block

  pub own_refused : (result : Result Contract Fault) → IsSome (method_of p m).body → OnRefused result (BreaksContract p m) → OnRefused result (First (BreaksAt p m))
  own_refused (Ok c) some h = tt
  own_refused (Err (Memory e)) some h = tt
  own_refused (Err (Refused r)) some h =
      let b : BreaksBlock p m r = block_of r some h in
      only_is_first (BreaksAt p m) r (some, b) (λ s k. block_once p m r s b k.1)
