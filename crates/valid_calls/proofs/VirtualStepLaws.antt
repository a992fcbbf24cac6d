-- A step at callvirt or ldvirtftn.
use Rattle.std.proofs.Common.{◌≡◌, ℕ, Bool, true, false, List, ◌∷◌, length, Option, Some, None, refl, sym, subst}
use Rattle.std.specs.Prelude.{if◌then◌else◌, nat_le, take, drop, reverse}
use Rattle.cil_model.specs.declared.ty.Ty.{Ty}
use Rattle.cil_model.specs.declared.body.Instr.{Instr}
use Rattle.cil_model.specs.declared.contract.Contracts.{Contracts}
use Rattle.cil_model.specs.declared.program.Program.{Program}
use Rattle.cil_model.specs.declared.program.MethodDesc.{MethodDesc}
use Rattle.cil_model.specs.declared.program.Meaning.{Meaning}
use Rattle.cil_model.specs.declared.program.Meaning.TheVariants.{OfMethod}
use Rattle.il_opcodes.specs.Opcodes.{class_of}
use Rattle.il_opcodes.specs.declared.class.Class.TheVariants as class
use Rattle.cil_semantics.specs.Lookups.{args_of}
use Rattle.cil_semantics.specs.declared.state.World.{World}
use Rattle.cil_semantics.specs.declared.state.Frame.{Frame}
use Rattle.cil_semantics.specs.declared.state.Local.{Local}
use Rattle.cil_semantics.specs.State.{Next, with_stack}
use Rattle.cil_semantics.specs.Tokens.{meaning_here, constrained_here}
use Rattle.cil_semantics.specs.Unwind.{plan_at, here_of}
use Rattle.cil_semantics.specs.Acts.{Call, Stuck, CallVirtual, LoadVirtualFunction, taken, with_this, method_in}
use Rattle.cil_semantics.specs.Instructions.{act, act_of_class}
use Rattle.cil_semantics.specs.Machine.{perform, run_plain}
use Rattle.cil_semantics.specs.Checks.{AddedNumbers}
use Rattle.splice_facts.specs.Layout.{fetch}
use Rattle.splice_facts.specs.WellFormed.{Bounds, WellFormedValues, NoneVoid}
use Rattle.splice_facts.specs.Input.{NamesGiving}
use Rattle.splice_facts.specs.Related.{Rewritten, NamesInput, HasHeight, bounds}
use Rattle.simulation_valid.specs.Keeping.{StaysValid}
use Rattle.simulation_valid.specs.Steps.{Topmost, RunsHere}
use Rattle.simulation_valid.proofs.MoveValidLaws.{relocal}
use Rattle.simulation_valid.proofs.UnwindValidLaws.{places_of, restacked}
use Rattle.valid_calls.proofs.CallStepLaws.{HasHeights, own, heights, taken_values, dropped_values, reversed}
use Rattle.valid_calls.proofs.TypeLaws.{value_whole}
use Rattle.valid_calls.proofs.VirtualValidLaws.{virtual_stays, function_stays}

module _ (p : Program) (k : Contracts) (ms : List MethodDesc) (g : AddedNumbers) (r : Rewritten p k ms g) (i : Instr) (f : Frame) (fs : List Frame) (w : World) (a : RunsHere p k ms g r f fs w) where
  abbrev Stays : Next → Type 0
  Stays x = StaysValid p k ms g r x

  abbrev Bs : Bounds
  Bs = bounds p k ms g r

  -- what a call leaves of the stack
  abbrev left : ℕ → Local
  left n = with_stack f.local (drop n f.local.stack)

  top_left : (n : ℕ) → Topmost p k ms g r (record f { local = left n }) fs w
  top_left n = relocal p k ms g r f (left n) fs w a.top (restacked p k ms g r f (drop n f.local.stack) fs (places_of p k ms g r f fs a.top.frame a.top.as_named) (dropped_values Bs n f.local.stack a.top.frame.fine.stack)) refl

  passed : (n : ℕ) → WellFormedValues Bs (reverse (take n f.local.stack))
  passed n = reversed Bs (take n f.local.stack) (taken_values Bs n f.local.stack a.top.frame.fine.stack)

  abbrev call_of : ℕ → Ty → ℕ → List Ty → Call
  call_of n owner m args = record { owner = owner; method = m; method_args = args; values = reverse (take n f.local.stack); constrained = constrained_here p (here_of f fs) i }

  calls : (n : ℕ) (m : Option Meaning) → NamesInput p r.types r.methods m → NamesGiving p m → ((t : Ty) → constrained_here p (here_of f fs) i ≡ Some t → NoneVoid p (args_of t)) → HasHeights p k ms g r f (taken p i (here_of f fs) n m f.local CallVirtual)
      → Stays (perform p k g (taken p i (here_of f fs) n m f.local CallVirtual) f fs w)
  calls n None names gives whole h = tt
  calls n (Some (OfMethod owner m args)) names gives whole h = by_test (nat_le n (length f.local.stack)) h
    where
      by_test : (b : Bool) → HasHeights p k ms g r f (if b then CallVirtual (call_of n owner m args) (left n) else Stuck) → Stays (perform p k g (if b then CallVirtual (call_of n owner m args) (left n) else Stuck) f fs w)
      by_test false y = tt
      by_test true y =
          let top = top_left n in
          virtual_stays p k ms g r owner m args names.0 names.1 names.2 names.3 gives (record f { local = left n } ∷ fs) w (λ v t e. value_whole p k ms g r w v t (top.below.world).heap e)
          (record {
            tail = record { placed = (a.here, a.placed); others = (top.frame, top.below.others); returning = (top.as_named, top.counted, top.below.returning); heights = top.below.heights };
            next = λ plan old e outer. y plan old e outer;
            world = top.below.world;
            count = top.count;
            deep = top.deep;
          }) (reverse (take n f.local.stack)) (constrained_here p (here_of f fs) i) whole (passed n)
  calls n (Some _) names gives whole h = tt

  finds_functions : (n : ℕ) (m : Option Meaning) → NamesInput p r.types r.methods m → HasHeights p k ms g r f (taken p i (here_of f fs) n m f.local LoadVirtualFunction)
      → Stays (perform p k g (taken p i (here_of f fs) n m f.local LoadVirtualFunction) f fs w)
  finds_functions n None names h = tt
  finds_functions n (Some (OfMethod owner m args)) names h = by_test (nat_le n (length f.local.stack)) h
    where
      by_test : (b : Bool) → HasHeights p k ms g r f (if b then LoadVirtualFunction (call_of n owner m args) (left n) else Stuck) → Stays (perform p k g (if b then LoadVirtualFunction (call_of n owner m args) (left n) else Stuck) f fs w)
      by_test false y = tt
      by_test true y =
          let top = top_left n in
          function_stays p k ms g r owner m args names.0 names.1 names.2 names.3 (record f { local = left n } ∷ fs) w (λ v t e. value_whole p k ms g r w v t (top.below.world).heap e)
          (record {
            tail = record { placed = (a.here, a.placed); others = (top.frame, top.below.others); returning = (top.as_named, top.counted, top.below.returning); heights = top.below.heights };
            next = λ plan old e outer. y plan old e outer;
            world = top.below.world;
            count = top.count;
            deep = top.deep;
          }) (reverse (take n f.local.stack)) (reverse (take n f.local.stack)) (constrained_here p (here_of f fs) i)
  finds_functions n (Some _) names h = tt

  module _ (height : HasHeight p k ms g r f f.at 0) (found : fetch p k g (plan_at k p f.method) f.method f.at ≡ Some i) where
    pub virtual_step : class_of i.op ≡ class.CallVirtual → NamesGiving p (meaning_here p (here_of f fs) i) → Stays (run_plain p k g i f fs w)
    unfolding act act_of_class
    virtual_step e gives =
        subst (λ c. Stays (perform p k g (act_of_class p (here_of f fs) i w f.local c) f fs w)) (sym e)
        (calls (with_this p (method_in (meaning_here p (here_of f fs) i))) (meaning_here p (here_of f fs) i) (own p k ms g r i f fs w a height found) gives
        (λ t q. r.constrains f.method f.at i (here_of f fs) t a.top.frame.stands.old refl a.top.as_named.2 a.top.as_named.3 a.here found q)
        (subst (λ c. HasHeights p k ms g r f (act_of_class p (here_of f fs) i w f.local c)) e (heights p k ms g r i f fs w a height found)))

    pub function_step : class_of i.op ≡ class.LoadVirtualFunction → Stays (run_plain p k g i f fs w)
    unfolding act act_of_class
    function_step e =
        subst (λ c. Stays (perform p k g (act_of_class p (here_of f fs) i w f.local c) f fs w)) (sym e)
        (finds_functions 1 (meaning_here p (here_of f fs) i) (own p k ms g r i f fs w a height found)
        (subst (λ c. HasHeights p k ms g r f (act_of_class p (here_of f fs) i w f.local c)) e (heights p k ms g r i f fs w a height found)))
