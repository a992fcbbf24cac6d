-- A step at call or newobj.
use Rattle.std.proofs.Common.{◌≡◌, ℕ, zero, suc, ◌<◌, Bool, true, false, List, [], ◌∷◌, ◌++◌, length, Option, Some, None, refl, sym, subst}
use Rattle.std.specs.Prelude.{if◌then◌else◌, nat_le, take, drop, reverse}
use Rattle.std.proofs.lemmas.Grind.{reverse_onto}
use Rattle.cil_model.specs.declared.body.Instr.{Instr}
use Rattle.cil_model.specs.declared.value.Value.{Value}
use Rattle.cil_model.specs.declared.contract.Contracts.{Contracts}
use Rattle.cil_model.specs.declared.program.Program.{Program}
use Rattle.cil_model.specs.declared.program.MethodDesc.{MethodDesc}
use Rattle.cil_model.specs.declared.program.Meaning.{Meaning}
use Rattle.cil_model.specs.declared.program.Meaning.TheVariants.{OfMethod}
use Rattle.il_opcodes.specs.Opcodes.{class_of}
use Rattle.il_opcodes.specs.declared.class.Class.TheVariants as class
use Rattle.cil_semantics.specs.declared.state.World.{World}
use Rattle.cil_semantics.specs.declared.state.Frame.{Frame}
use Rattle.cil_semantics.specs.State.{Next, with_stack}
use Rattle.cil_semantics.specs.Tokens.{meaning_here}
use Rattle.cil_semantics.specs.Unwind.{plan_at, here_of}
use Rattle.cil_semantics.specs.Contracted.{Plan}
use Rattle.cil_semantics.specs.Acts.{Act, Stuck, CallMember, NewObject, taken, with_this, arity, method_in}
use Rattle.cil_semantics.specs.Instructions.{act, act_of_class}
use Rattle.cil_semantics.specs.Calls.{core_of}
use Rattle.cil_semantics.specs.Machine.{perform, run_plain}
use Rattle.cil_semantics.specs.Checks.{AddedNumbers}
use Rattle.splice_facts.specs.Layout.{IsHere, fetch}
use Rattle.splice_facts.specs.WellFormed.{Bounds, WellFormedValues}
use Rattle.splice_facts.specs.Input.{LeavesHeight, result_count, is_group}
use Rattle.splice_facts.specs.Related.{Rewritten, NamesInput, HasHeight, bounds}
use Rattle.simulation_valid.proofs.HeightLaws.{but_none}
use Rattle.simulation_valid.specs.Keeping.{StaysValid, ValidPlaces}
use Rattle.simulation_valid.specs.Steps.{RunsHere}
use Rattle.simulation_valid.proofs.MoveValidLaws.{relocal}
use Rattle.simulation_valid.proofs.UnwindValidLaws.{places_of, restacked}
use Rattle.valid_calls.specs.Members.{GivesAsDescribed, NamesGiving}
use Rattle.valid_calls.proofs.MemberLaws.{members_valid}
use Rattle.valid_calls.proofs.NewValidLaws.{makes_valid}

-- ---- values that a call takes

module _ (b : Bounds) where
  joined_values : (xs ys : List Value) → WellFormedValues b xs → WellFormedValues b ys → WellFormedValues b (xs ++ ys)
  joined_values [] ys h k = k
  joined_values (x ∷ xs) ys h k = (h.0, joined_values xs ys h.1 k)

  pub reversed : (xs : List Value) → WellFormedValues b xs → WellFormedValues b (reverse xs)
  reversed [] h = tt
  reversed (x ∷ xs) h = subst (WellFormedValues b) (sym (reverse_onto xs x [])) (joined_values (reverse xs) (x ∷ []) (reversed xs h.1) (h.0, tt))

  pub taken_values : (n : ℕ) (xs : List Value) → WellFormedValues b xs → WellFormedValues b (take n xs)
  taken_values zero [] h = tt
  taken_values zero (x ∷ xs) h = tt
  taken_values (suc n) [] h = tt
  taken_values (suc n) (x ∷ xs) h = (h.0, taken_values n xs h.1)

  pub dropped_values : (n : ℕ) (xs : List Value) → WellFormedValues b xs → WellFormedValues b (drop n xs)
  dropped_values zero [] h = tt
  dropped_values zero (x ∷ xs) h = h
  dropped_values (suc n) [] h = tt
  dropped_values (suc n) (x ∷ xs) h = dropped_values n xs h.1

module _ (p : Program) (k : Contracts) (ms : List MethodDesc) (g : AddedNumbers) (r : Rewritten p k ms g) where
  abbrev Stays : Next → Type 0
  Stays x = StaysValid p k ms g r x

  abbrev Bs : Bounds
  Bs = bounds p k ms g r

  -- what a call takes is of the input, and what it leaves is well formed
  abbrev FineCall : Frame → List Frame → Act → Type 0
  FineCall f fs Stuck = Unit {0}
  FineCall f fs (CallMember c l) = ValidPlaces p k ms g r (record f { local = l }) fs × (l.result ≡ f.local.result) × NamesInput p r.types r.methods (Some (OfMethod c.owner c.method c.method_args)) × WellFormedValues Bs c.values × GivesAsDescribed (core_of p c.owner c.method) (result_count p c.method)
  FineCall f fs (NewObject c l) = ValidPlaces p k ms g r (record f { local = l }) fs × (l.result ≡ f.local.result) × NamesInput p r.types r.methods (Some (OfMethod c.owner c.method c.method_args)) × WellFormedValues Bs c.values
  FineCall f fs a = ⊥

  abbrev pub HasHeights : Frame → Act → Type 0
  HasHeights f a = (plan : Plan) (old : f.method < r.methods) (e : plan_at k p f.method ≡ Some plan) → is_group f.at ≡ false → LeavesHeight p (r.heights f.method plan old e).height f.at a

  performs : (a : Act) (f : Frame) (fs : List Frame) (w : World) → RunsHere p k ms g r f fs w → HasHeights f a → FineCall f fs a → Stays (perform p k g a f fs w)
  performs Stuck f fs w a h v = tt
  performs (CallMember c l) f fs w a h v =
      let top = relocal p k ms g r f l fs w a.top v.0 v.1 in
      members_valid p k ms g r c.owner c.method c.method_args c.values (record f { local = l } ∷ fs) w v.2.0 v.2.1 v.2.2 v.2.3 v.3 v.4
      (record {
        tail = record { placed = (a.here, a.placed); others = (top.frame, top.below.others); returning = (top.as_named, top.counted, top.below.returning); heights = top.below.heights };
        next = λ plan old e outer. h plan old e outer;
        world = top.below.world;
        count = top.count;
        deep = top.deep;
      })
  performs (NewObject c l) f fs w a h v =
      let top = relocal p k ms g r f l fs w a.top v.0 v.1 in
      makes_valid p k ms g r c.owner c.method c.values (record f { local = l } ∷ fs) w v.2.0 v.2.1 v.2.2 v.3
      (record {
        tail = record { placed = (a.here, a.placed); others = (top.frame, top.below.others); returning = (top.as_named, top.counted, top.below.returning); heights = top.below.heights };
        next = λ plan old e outer. h plan old e outer;
        world = top.below.world;
        count = top.count;
        deep = top.deep;
      })
  performs _ f fs w a h v = absurd v

  -- ---- what call and newobj take

  module _ (f : Frame) (fs : List Frame) (i : Instr) (places : ValidPlaces p k ms g r f fs) where
    calls_fine : (n : ℕ) (m : Option Meaning) → NamesInput p r.types r.methods m → NamesGiving p m → FineCall f fs (taken p i (here_of f fs) n m f.local CallMember)
    calls_fine n None own gives = tt
    calls_fine n (Some (OfMethod owner m args)) own gives = by_test (nat_le n (length f.local.stack))
      where
        by_test : (b : Bool) → FineCall f fs (if b then CallMember (record { owner = owner; method = m; method_args = args; values = reverse (take n f.local.stack); constrained = Rattle.cil_semantics.specs.Tokens.constrained_here p (here_of f fs) i }) (with_stack f.local (drop n f.local.stack)) else Stuck)
        by_test true = (restacked p k ms g r f (drop n f.local.stack) fs places (dropped_values Bs n f.local.stack places.fine.stack), refl, own, reversed Bs (take n f.local.stack) (taken_values Bs n f.local.stack places.fine.stack), gives)
        by_test false = tt
    calls_fine n (Some _) own gives = tt

    makes_fine : (n : ℕ) (m : Option Meaning) → NamesInput p r.types r.methods m → FineCall f fs (taken p i (here_of f fs) n m f.local NewObject)
    makes_fine n None own = tt
    makes_fine n (Some (OfMethod owner m args)) own = by_test (nat_le n (length f.local.stack))
      where
        by_test : (b : Bool) → FineCall f fs (if b then NewObject (record { owner = owner; method = m; method_args = args; values = reverse (take n f.local.stack); constrained = Rattle.cil_semantics.specs.Tokens.constrained_here p (here_of f fs) i }) (with_stack f.local (drop n f.local.stack)) else Stuck)
        by_test true = (restacked p k ms g r f (drop n f.local.stack) fs places (dropped_values Bs n f.local.stack places.fine.stack), refl, own, reversed Bs (take n f.local.stack) (taken_values Bs n f.local.stack places.fine.stack))
        by_test false = tt
    makes_fine n (Some _) own = tt

  module _ (i : Instr) (f : Frame) (fs : List Frame) (w : World) (a : RunsHere p k ms g r f fs w) (height : HasHeight p k ms g r f f.at 0) (found : fetch p k g (plan_at k p f.method) f.method f.at ≡ Some i) where
    pub own : NamesInput p r.types r.methods (meaning_here p (here_of f fs) i)
    own = r.names f.method f.at i (here_of f fs) a.top.frame.stands.old refl a.top.as_named.2 a.top.as_named.3 a.here found

    pub heights : HasHeights f (act p (here_of f fs) i w f.local)
    heights plan old e outer = (r.heights f.method plan old e).keeps f.at i (here_of f fs) w f.local refl (subst (λ o. IsHere o f.at) e a.here) outer (subst (λ o. fetch p k g o f.method f.at ≡ Some i) e found) (but_none (length f.local.stack) _ (height plan old e outer))

    pub call_stays : class_of i.op ≡ class.Call → NamesGiving p (meaning_here p (here_of f fs) i) → Stays (run_plain p k g i f fs w)
    unfolding act act_of_class
    call_stays e gives =
        performs (act p (here_of f fs) i w f.local) f fs w a heights
        (subst (λ c. FineCall f fs (act_of_class p (here_of f fs) i w f.local c)) (sym e)
        (calls_fine f fs i (places_of p k ms g r f fs a.top.frame a.top.as_named) (with_this p (method_in (meaning_here p (here_of f fs) i))) (meaning_here p (here_of f fs) i) own gives))

    pub new_stays : class_of i.op ≡ class.NewObject → Stays (run_plain p k g i f fs w)
    unfolding act act_of_class
    new_stays e =
        performs (act p (here_of f fs) i w f.local) f fs w a heights
        (subst (λ c. FineCall f fs (act_of_class p (here_of f fs) i w f.local c)) (sym e)
        (makes_fine f fs i (places_of p k ms g r f fs a.top.frame a.top.as_named) (arity p (method_in (meaning_here p (here_of f fs) i))) (meaning_here p (here_of f fs) i) own))
