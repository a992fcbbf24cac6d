-- What the body of a method breaks first is one refusal; what is read of it.
use Rattle.std.proofs.Common.{◌≡◌, ◌∙◌, sym, subst, ap, refl, arith, rules, inl, inr, ℕ, ◌*◌, ◌/◌, ◌%◌, ◌+◌, ◌^◌, ◌<◌, Bool, true, false, List, length, Option, Some, None}
use Rattle.std.specs.Prelude.{◌==◌, IfSome, option_map, if◌then◌else◌}
use Rattle.cil_base.specs.declared.token.Token.{Token}
use Rattle.cil_base.specs.declared.refusal.Place.{Place}
use Rattle.cil_base.specs.declared.refusal.Refusal.{Refusal}
use Rattle.cil_base.specs.declared.refusal.Fault.{Fault}
use Rattle.cil_base.specs.Refusals.{First, IfRefused, InTurn, NoneBroken}
use Rattle.cil_base.proofs.RefusalLaws.{IfRefused-weaker}
use Rattle.cil_base.specs.Tokens.{token_of, token_number}
use Rattle.cil_base.proofs.OrderLaws.{turn_is_one}
use Rattle.cil_model.specs.declared.body.Body.{Body}
use Rattle.cil_model.specs.declared.body.Instr.{Instr}
use Rattle.cil_model.specs.declared.body.Region.{Region}
use Rattle.cil_model.specs.declared.program.Program.{Program}
use Rattle.cil_model.specs.declared.program.MethodDesc.{MethodDesc}
use Rattle.cil_model.specs.BodyLayout.{locals_of, locals_number}
use Rattle.cil_model.specs.BodyOf.{IsSame, StandsFor}
use Rattle.cil_model.specs.ValidBody.{IsSmallToken, IsValid}
use Rattle.il_code.proofs.BodyLaws.{once}
use Rattle.pe_image.specs.Sections.{tail_at}
use Rattle.method_bodies.specs.Bodies.{FaultAt, IsBodyAt, StandsAt}
use Rattle.method_bodies.specs.Plain.{IsPlain}
use Rattle.body_rules.specs.Faults.{CodeFault, IsRead, IsReadAt, IsSound, MethodFault, TellsFaultOf, plain}
use Rattle.body_rules.proofs.SearchLaws.{some_is}
use Rattle.body_rules.proofs.CodeLaws.{code_once}

-- ---- the same body, where a locals token of 0 says that there are none

number_back : (n : ℕ) → locals_number (locals_of n) ≡ n
number_back n = go (n == 0) refl
  where
    zero_is : (m : ℕ) → (m == 0) ≡ true → 0 ≡ m
    zero_is m e = let same : m ≡ 0 = search (rules, e) in sym same

    go : (b : Bool) → (n == 0) ≡ b → locals_number (if b then None else Some (token_of n)) ≡ n
    go true e = zero_is n e
    go false e = omega arith

pub plain_read : (image : List ℕ) (a rva : ℕ) (body : Option Body) → IsBodyAt image a rva body → IsRead image a rva (option_map plain body)
plain_read image a rva None h = h
plain_read image a rva (Some b) h =
    let s = h.1.stands in
    let k = s.stands in
    record {
      stands = (
        h.0,
        record {
          bytes = h.1.bytes;
          len = h.1.len;
          there = h.1.there;
          stands = record {
            layout = s.layout;
            is_laid = s.is_laid;
            stands = record { raw = k.raw; reads = k.reads; instrs = k.instrs; regions = k.regions; locals = number_back (locals_number b.locals) ∙ k.locals; max_stack = k.max_stack; init = k.init };
            size = s.size;
          };
          apart = h.1.apart;
        },
      );
      locals = ap locals_of (sym (number_back (locals_number b.locals)));
    }

small_of : (n : ℕ) → n < 2 ^ 32 → IfSome (locals_of n) IsSmallToken
small_of n small = go (n == 0)
  where
    go : (b : Bool) → IfSome (if b then None else Some (token_of n)) IsSmallToken
    go true = tt
    go false = (omega (arith, small), omega arith)

number_small : (o : Option Token) → IfSome o IsSmallToken → locals_number o < 2 ^ 32
number_small None h = omega arith
number_small (Some t) h = omega (arith, h.0, h.1)

pub plain_valid : (a : ℕ) (body : Option Body) → IfSome body (IsValid a) → IfSome (option_map plain body) (IsValid a)
plain_valid a None h = tt
plain_valid a (Some b) h = record { instrs = h.instrs; regions = h.regions; locals = small_of (locals_number b.locals) (number_small b.locals h.locals) }

pub plain_few : (body : Option Body) → IfSome body (λ b. length b.instrs < 2 ^ 32) → IfSome (option_map plain body) (λ b. length b.instrs < 2 ^ 32)
plain_few None h = tt
plain_few (Some b) h = h

pub small_locals : (a : ℕ) (body : Option Body) → IfSome body (IsValid a) → IfSome body (λ b. IfSome b.locals IsSmallToken)
small_locals a None h = tt
small_locals a (Some b) h = h.locals

pub read_plain : (image : List ℕ) (a rva : ℕ) (body : Option Body) → IsRead image a rva body → IfSome body IsPlain
read_plain image a rva None h = tt
read_plain image a rva (Some b) h = h.locals

-- code of which no fault is told breaks no rule
pub sound_told : (p : Program) (own : MethodDesc) (place : Place) (body : Option Body) (o : Option Refusal) (at : Place) → at ≡ place → TellsFaultOf p own at body o → o ≡ None → IsSound p own place body
sound_told p own place None o at e h is = tt
sound_told p own place (Some b) o at e h is =
    subst (λ (x : Place). NoneBroken (CodeFault p own x b)) e (subst (λ (f : Option Refusal). TellsFaultOf p own at (Some b) f) is h)

pub body_read : (image : List ℕ) (a rva : ℕ) (body : Option Body) → IsRead image a rva body → IsBodyAt image a rva body
body_read image a rva None h = h
body_read image a rva (Some b) h = h.stands

-- ---- one body stands at an RVA

pub same_body : (x y : Body) → IsSame x y → x.locals ≡ y.locals → x ≡ y
same_body x y s l =
    let B : List Instr → List ℕ → List Region → Option Token → ℕ → Bool → Body = λ instrs offsets regions locals max_stack init.
    record { instrs = instrs; offsets = offsets; regions = regions; locals = locals; max_stack = max_stack; init = init } in
    ap (λ v. B v x.offsets x.regions x.locals x.max_stack x.init) s.instrs
    ∙ ap (λ v. B y.instrs v x.regions x.locals x.max_stack x.init) s.offsets
    ∙ ap (λ v. B y.instrs y.offsets v x.locals x.max_stack x.init) s.regions
    ∙ ap (λ v. B y.instrs y.offsets y.regions v x.max_stack x.init) l
    ∙ ap (λ v. B y.instrs y.offsets y.regions y.locals v x.init) s.max_stack
    ∙ ap (λ v. B y.instrs y.offsets y.regions y.locals y.max_stack v) s.init

module _ (image : List ℕ) (a rva : ℕ) where
  pub one_body : (x y : Body) → IsReadAt image a rva x → IsReadAt image a rva y → y ≡ x
  one_body x y h g =
      let at = h.stands.1 in
      let other = g.stands.1 in
      let bytes : other.bytes ≡ at.bytes = some_is other.bytes at.bytes (tail_at image rva) other.there at.there in
      let same : IsSame y x = once a at.bytes x y at.len other.len at.stands (subst (λ (l : List ℕ). StandsFor a l y other.len) bytes other.stands) in
      same_body y x same (g.locals ∙ ap locals_of same.locals ∙ sym h.locals)

-- ---- the first that is broken

module _ (image : List ℕ) (place : Place) (rva : ℕ) (p : Program) (own : MethodDesc) where
  abbrev Unread : Refusal → Type 0
  Unread = FaultAt image place rva

  abbrev InCode : Refusal → Type 0
  InCode r = (b : Body) × IsReadAt image place.assembly rva b × CodeFault p own place b r

  abbrev IsFirst : Refusal → Type 0
  IsFirst = MethodFault image place rva p own

  code_fault_once : (r s : Refusal) → InCode r → InCode s → s ≡ r
  code_fault_once r s f g =
      let same : g.0 ≡ f.0 = one_body image place.assembly rva f.0 g.0 f.1 g.1 in
      code_once p own place f.0 r s f.2 (subst (λ (b : Body). CodeFault p own place b s) same g.2)

  -- There is one.
  pub fault_is_one : (r s : Refusal) → IsFirst r → IsFirst s → s ≡ r
  fault_is_one r s f g = turn_is_one Unread InCode r s (code_fault_once r s) f g

  none_at_all : 0 < rva → rva ≡ 0 → ⊥
  none_at_all some none = absurd (omega (arith, some, none))

  pub none_broken : (body : Option Body) → IsRead image place.assembly rva body → NoneBroken Unread → TellsFaultOf p own place body None → NoneBroken IsFirst
  none_broken None read none told = λ r. elim [ inl f ↦ none r f.broken | inr (n, f) ↦ none_at_all f.1.stands.0 read ]
  none_broken (Some b) read none told = λ r. elim [ inl f ↦ none r f.broken | inr (n, f) ↦ told r (subst (λ (x : Body). CodeFault p own place x r) (one_body image place.assembly rva b f.0 read f.1) f.2) ]

  pub broken_code : (body : Option Body) (r : Refusal) → IsRead image place.assembly rva body → NoneBroken Unread → TellsFaultOf p own place body (Some r) → IsFirst r
  broken_code None r read none told = absurd cc
  broken_code (Some b) r read none told = inr (none, (b, read, told))

  -- ---- the same of what calls answer

  pub only_unread : (f : Fault) → IfRefused f (First Unread) → IfRefused f (λ r. (s : Refusal) → IsFirst s → s ≡ r)
  only_unread f h = IfRefused-weaker f (First Unread) (λ r. (s : Refusal) → IsFirst s → s ≡ r) (λ r g s k. fault_is_one r s (inl g) k) h

  module _ (body : Option Body) (read : IsRead image place.assembly rva body) (none : NoneBroken Unread) (o : Option Refusal) (at : Place) (is : at ≡ place) (told : TellsFaultOf p own at body o) where
    there : (w : Option Refusal) → o ≡ w → TellsFaultOf p own place body w
    there w e = subst (λ (x : Place). TellsFaultOf p own x body w) is (subst (TellsFaultOf p own at body) e told)

    pub none_told : o ≡ None → NoneBroken IsFirst
    none_told e = none_broken body read none (there None e)

    pub broken_told : (r : Refusal) → o ≡ Some r → IsFirst r
    broken_told r e = broken_code body r read none (there (Some r) e)

    pub only_told : (r : Refusal) → o ≡ Some r → (s : Refusal) → IsFirst s → s ≡ r
    only_told r e s f = fault_is_one r s (broken_told r e) f
