-- Which contract call an instruction of the input is.
use Rattle.std.proofs.Common.{◌≡◌, ℕ, zero, suc, ◌+◌, ◌<◌, List, [], ◌∷◌, length, Option, Some, None, refl, sym, ap, ◌∙◌, subst}
use Rattle.std.specs.Prelude.{Bool, true, false, ◌==◌, nat_lt, bytes_eq, if◌then◌else◌, take, drop, Contains}
use Rattle.std.proofs.lemmas.Bool.{ltb-true}
use Rattle.cil_base.specs.declared.token.Token.{Token}
use Rattle.cil_model.specs.declared.ty.Ty.{Ty, out-Ty}
use Rattle.cil_model.specs.declared.ty.Ty.TheOpen.{Ty-F}
use Rattle.cil_model.specs.declared.body.Instr.{Instr}
use Rattle.cil_model.specs.declared.body.Operand.{Operand}
use Rattle.cil_model.specs.declared.body.Operand.TheVariants as operand
use Rattle.cil_model.specs.declared.contract.Contracts.{Contracts}
use Rattle.cil_model.specs.declared.program.Meaning.{Meaning}
use Rattle.cil_model.specs.declared.program.Meaning.TheVariants.{OfType, OfField, OfMethod, OfText, OfLocals}
use Rattle.cil_model.specs.declared.program.Program.{Program}
use Rattle.cil_semantics.specs.Words.{maybe}
use Rattle.cil_semantics.specs.Types.{Layer}
use Rattle.cil_semantics.specs.Core.{Name, contract_name}
use Rattle.cil_semantics.specs.Lookups.{type_of, method_of, in_set}
use Rattle.cil_semantics.specs.Tokens.{meaning_of, own_meaning}
use Rattle.cil_semantics.specs.declared.contract_call.ContractCall.{ContractCall}
use Rattle.cil_semantics.specs.declared.contract_call.ContractCall.TheVariants.{Abbreviates, NoContractCall}
use Rattle.cil_semantics.specs.ContractCalls.{member_call, abbreviator_call, is_contract, static_call, contract_call, meant_params, has_message, is_check, count_checks}
use Rattle.machine_laws.specs.Answers.{Each, IsOld}
use Rattle.grown_runs.specs.Grown.{GrowsAround, NamesInner, KeepsInstr, OperandUnmeant}
use Rattle.grown_runs.specs.Looks.{LooksAlike}

module _ (p0 p : Program) (k : Contracts) (e : ℕ) (h : GrowsAround p0 p k e) (l : LooksAlike p0 p e) where
  own_same : (o : Operand) (c : Option Token) → OperandUnmeant p0 p o c → own_meaning p o ≡ own_meaning p0 o
  own_same (operand.Tok a t) c q = l.meanings a t q.0
  own_same operand.Nothing c q = refl
  own_same (operand.Int z) c q = refl
  own_same (operand.Index i) c q = refl
  own_same (operand.Target t) c q = refl
  own_same (operand.Targets ts) c q = refl

  -- what a token of the input means is named within it
  abbrev InnerIf : Option Meaning → Type 0
  InnerIf None = Unit {0}
  InnerIf (Some m) = NamesInner p0 m

  pub own_inner : (o : Operand) → InnerIf (own_meaning p0 o)
  own_inner (operand.Tok a t) = by_meaning (meaning_of p0 a t) refl
    where
      by_meaning : (x : Option Meaning) → meaning_of p0 a t ≡ x → InnerIf x
      by_meaning None q = tt
      by_meaning (Some m) q = h.names a t m q
  own_inner operand.Nothing = tt
  own_inner (operand.Int z) = tt
  own_inner (operand.Index i) = tt
  own_inner (operand.Target t) = tt
  own_inner (operand.Targets ts) = tt

  contract_same : (o : Layer) → maybe true (λ (d : ℕ × List Ty). nat_lt d.0 (length p0.types)) (in_set o) ≡ true → is_contract p o ≡ is_contract p0 o
  contract_same (Ty-F.Known j) old = ap (λ (n : Name). bytes_eq n contract_name) (h.tables.extends.types j (ltb-true j (length p0.types) old)).name
  contract_same (Ty-F.Inst j args) old = ap (λ (n : Name). bytes_eq n contract_name) (h.tables.extends.types j (ltb-true j (length p0.types) old)).name
  contract_same (Ty-F.Outside name value) old = refl
  contract_same (Ty-F.Prim b) old = refl
  contract_same (Ty-F.Array item) old = refl
  contract_same (Ty-F.ByRef item) old = refl
  contract_same (Ty-F.Var j) old = refl
  contract_same (Ty-F.MVar j) old = refl
  contract_same Ty-F.Opaque old = refl

  abbrev called : ℕ → Name → ℕ → List Ty → ContractCall
  called m n generics params = member_call (record (method_of p0 m) { name = n; generics = generics; params = params })

  member_same : (m : ℕ) → m < length p0.methods → member_call (method_of p m) ≡ member_call (method_of p0 m)
  member_same m own =
      let kept = h.tables.extends.methods m own in
      ap (λ (n : Name). called m n (method_of p m).generics (method_of p m).params) kept.name
      ∙ ap (λ n. called m (method_of p0 m).name n (method_of p m).params) kept.generics
      ∙ ap (λ (ts : List Ty). called m (method_of p0 m).name (method_of p0 m).generics ts) kept.params

  abbreviates_same : (x : Option Meaning) → InnerIf x → abbreviator_call p x ≡ abbreviator_call p0 x
  abbreviates_same None q = refl
  abbreviates_same (Some (OfMethod owner m args)) q = ap (λ (b : Bool). if b then Abbreviates else NoContractCall) (h.tables.extends.methods m q.1).abbreviator
  abbreviates_same (Some (OfType t)) q = refl
  abbreviates_same (Some (OfField owner f)) q = refl
  abbreviates_same (Some (OfText units)) q = refl
  abbreviates_same (Some (OfLocals ts)) q = refl

  static_same : (x : Option Meaning) → InnerIf x → static_call p x ≡ static_call p0 x
  static_same None q = refl
  static_same (Some (OfMethod owner m args)) q =
      ap (λ (b : Bool). if b then member_call (method_of p m) else abbreviator_call p (Some (OfMethod owner m args))) (contract_same (out-Ty owner) q.0)
      ∙ ap (λ c. if is_contract p0 (out-Ty owner) then c else abbreviator_call p (Some (OfMethod owner m args))) (member_same m q.1)
      ∙ ap (λ c. if is_contract p0 (out-Ty owner) then member_call (method_of p0 m) else c) (abbreviates_same (Some (OfMethod owner m args)) q)
  static_same (Some (OfType t)) q = refl
  static_same (Some (OfField owner f)) q = refl
  static_same (Some (OfText units)) q = refl
  static_same (Some (OfLocals ts)) q = refl

  pub call_same : (i : Instr) → KeepsInstr p0 p i → contract_call p i ≡ contract_call p0 i
  unfolding contract_call
  call_same i q =
      let x : Option Meaning = own_meaning p0 i.operand in
      ap (λ (o : Option Meaning). if i.op == 0x28 then static_call p o else if i.op == 0x6F then abbreviator_call p o else NoContractCall) (own_same i.operand i.constrained q.0)
      ∙ ap (λ c. if i.op == 0x28 then c else if i.op == 0x6F then abbreviator_call p x else NoContractCall) (static_same x (own_inner i.operand))
      ∙ ap (λ c. if i.op == 0x28 then static_call p0 x else if i.op == 0x6F then c else NoContractCall) (abbreviates_same x (own_inner i.operand))

  params_same : (x : Option Meaning) → InnerIf x → meant_params p x ≡ meant_params p0 x
  params_same None q = refl
  params_same (Some (OfMethod owner m args)) q = (h.tables.extends.methods m q.1).params
  params_same (Some (OfType t)) q = refl
  params_same (Some (OfField owner f)) q = refl
  params_same (Some (OfText units)) q = refl
  params_same (Some (OfLocals ts)) q = refl

  pub message_same : (i : Instr) → KeepsInstr p0 p i → has_message p i ≡ has_message p0 i
  message_same i q =
      ap (λ (o : Option Meaning). length (meant_params p o) == 2) (own_same i.operand i.constrained q.0) ∙ ap (λ (ts : List Ty). length ts == 2) (params_same (own_meaning p0 i.operand) (own_inner i.operand))

  pub counts_same : (is : List Instr) → Each (KeepsInstr p0 p) is → count_checks p is ≡ count_checks p0 is
  counts_same [] q = refl
  counts_same (i ∷ is) q =
      ap (λ c. if is_check c then count_checks p is + 1 else count_checks p is) (call_same i q.0)
      ∙ ap (λ n. if is_check (contract_call p0 i) then n + 1 else n) (counts_same is q.1)

pub each_take : {X : Type 0} (P : X → Type 0) (n : ℕ) (xs : List X) → Each P xs → Each P (take n xs)
each_take P zero [] q = tt
each_take P zero (x ∷ xs) q = tt
each_take P (suc n) [] q = tt
each_take P (suc n) (x ∷ xs) q = (q.0, each_take P n xs q.1)

pub each_drop : {X : Type 0} (P : X → Type 0) (n : ℕ) (xs : List X) → Each P xs → Each P (drop n xs)
each_drop P zero [] q = tt
each_drop P zero (x ∷ xs) q = q
each_drop P (suc n) [] q = tt
each_drop P (suc n) (x ∷ xs) q = each_drop P n xs q.1
