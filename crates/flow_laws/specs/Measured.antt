-- Programs whose bodies have heights, and whose members give values where their signatures say so.
use Rattle.std.specs.Prelude.{◌≡◌, ◌≤◌, ℕ, false, List, [], ◌∷◌, length, slice_get, get_or, if◌then◌else◌, Option, Some, None}
use Rattle.cil_model.specs.declared.ty.Ty.{Ty}
use Rattle.cil_model.specs.declared.body.Instr.{Instr}
use Rattle.cil_model.specs.declared.program.Program.{Program}
use Rattle.cil_model.specs.declared.program.Meaning.TheVariants.{OfMethod}
use Rattle.cil_model.specs.declared.contract.Contracts.{Contracts}
use Rattle.cil_model.specs.ValidBody.{IsValid}
use Rattle.cil_semantics.specs.Lookups.{method_of, args_of}
use Rattle.cil_semantics.specs.Types.{under}
use Rattle.cil_semantics.specs.Tokens.{meaning_here}
use Rattle.cil_semantics.specs.declared.state.Frame.{Frame}
use Rattle.cil_semantics.specs.Unwind.{body_of, here_of, place_in, plan_at}
use Rattle.cil_semantics.specs.Calls.{CoreMember, Constructor, NotCore, core_of}
use Rattle.il_flow.specs.declared.answer.Heights.{Heights}
use Rattle.il_flow.specs.Effects.{count_results, effect_of}
use Rattle.il_flow.specs.Heights.{Agrees}
use Rattle.flow_laws.specs.Shapes.{HeightsOf, count_of}

-- the height that was found of a place that a path leads to
abbrev pub told_height : Heights → ℕ → Option ℕ
told_height found q = if get_or found.reached q false then Some (get_or found.heights q 0) else None

-- how many values a call of a method gives, where its type and it have these arguments
abbrev pub count_given : Program → Ty → ℕ → List Ty → ℕ
count_given p owner m args = count_of p (under (args_of owner) args (method_of p m).result)

-- what a core member pushes: a constructor nothing, each other a value
abbrev pub CorePushes : CoreMember → ℕ → Type 0
CorePushes Constructor n = n ≡ 0
CorePushes NotCore n = Unit {0}
CorePushes _ n = n ≡ 1

-- Each body can be written and has heights, and members of the core classes have the class library's signatures.
pub record Measured (p : Program) (height : HeightsOf) : Type 0 where
  pub valid : (m : ℕ) → (a : ℕ) × IsValid a (body_of p m)
  pub heights : (m : ℕ) → Agrees (effect_of p (method_of p m)) (body_of p m) (height m)
  pub core : (owner : Ty) (m : ℕ) (args : List Ty) → CorePushes (core_of p owner m) (count_given p owner m args)

-- no method has a contract: a plain run, or one of a program without any
abbrev pub IsPlain : Program → Contracts → Type 0
IsPlain p k = (m : ℕ) → plan_at k p m ≡ None

-- The member that the topmost frame calls next gives a value just where its own signature says so. No signature can say otherwise: neither does void stand for a type parameter (II.23.2.12), nor is it an enumeration's field (II.23.2.4).
abbrev pub CallsAsSaid : Program → List Frame → Type 0
CallsAsSaid p [] = Unit {0}
CallsAsSaid p (f ∷ fs) =
    (i : Instr) (owner : Ty) (m : ℕ) (args : List Ty) → slice_get (body_of p f.method).instrs (place_in f.at) ≡ Some i → meaning_here p (here_of f fs) i ≡ Some (OfMethod owner m args)
    → count_given p owner m args ≡ count_results (method_of p m)

-- The topmost frame's next instruction finds as many values as it takes.
abbrev pub HasEnough : Program → List Frame → Type 0
HasEnough p [] = Unit {0}
HasEnough p (f ∷ fs) =
    (i : Instr) → slice_get (body_of p f.method).instrs (place_in f.at) ≡ Some i → (effect_of p (method_of p f.method) i).takes ≤ length f.local.stack
