-- `ret` in both runs: at once, or lifted to the groups at exit (ECMA-335, III.3.57).
use Rattle.std.specs.Prelude.{◌≡◌, ℕ, suc, ◌+◌, ◌*◌, true, false, List, length, Option, Some, None}
use Rattle.cil_model.specs.declared.value.Value.{Value}
use Rattle.cil_model.specs.declared.body.Instr.{Instr}
use Rattle.cil_model.specs.declared.contract.Contracts.{Contracts}
use Rattle.cil_model.specs.declared.program.Program.{Program}
use Rattle.cil_model.specs.declared.program.MethodDesc.{MethodDesc}
use Rattle.cil_model.specs.NoContracts.{no_contracts}
use Rattle.cil_semantics.specs.declared.state.World.{World}
use Rattle.cil_semantics.specs.declared.state.Statics.{Statics}
use Rattle.cil_semantics.specs.declared.state.ProgramPoint.TheVariants.{LeadIn, InGroup, Rest}
use Rattle.cil_semantics.specs.declared.state.ProgramPoint.{ProgramPoint}
use Rattle.cil_semantics.specs.declared.state.Frame.{Frame}
use Rattle.il_opcodes.specs.declared.class.Class.TheVariants as class
use Rattle.il_opcodes.specs.Opcodes.{class_of}
use Rattle.cil_semantics.specs.Contracted.{Plan}
use Rattle.cil_semantics.specs.Unwind.{plan_at}
use Rattle.cil_semantics.specs.Returns.{returned, returns}
use Rattle.cil_semantics.specs.Checks.{AddedNumbers}
use Rattle.splice_facts.specs.Grown.{beside}
use Rattle.splice_facts.specs.Exceptions.{BackThere}
use Rattle.splice_facts.specs.WellFormed.{WellFormedContinuation, WellFormedObjects}
use Rattle.splice_facts.specs.Input.{top_of, ReturnsAsNamed}
use Rattle.splice_facts.specs.Layout.{fetch}
use Rattle.splice_facts.specs.Spliced.{has_exit, Current, from_here, cost}
use Rattle.splice_facts.specs.Related.{Rewritten, written, bounds, ReachesIn, per_frame, TopPair, count_groups, AnswersIn}

module _ (p : Program) (k : Contracts) (ms : List MethodDesc) (g : AddedNumbers) (r : Rewritten p k ms g) where
  -- a frame outside of groups that returns
  pub record Ret (f f' : Frame) (fs fs' : List Frame) (w : World) (ss : List Statics) : Type 0 where
    pub top : TopPair p k ms g r f f' fs fs' w ss
    pub outside : w.depth ≡ count_groups fs
    pub fine_back : WellFormedContinuation (bounds p k ms g r) f.continuation
    pub heap : WellFormedObjects (bounds p k ms g r) w.heap
    pub back : BackThere (length w.heap) f.continuation
    pub named : ReturnsAsNamed p f

  -- no group comes at exit: without contracts, in the lead-in, and where nothing is checked at exit
  abbrev pub NoExit : Option Plan → ProgramPoint → Type 0
  NoExit None at = Unit {0}
  NoExit (Some c) (LeadIn q) = Unit {0}
  NoExit (Some c) (InGroup gr j q) = ⊥
  NoExit (Some c) (Rest q) = has_exit p k (written p k ms g r) g r.types r.depths c ≡ false

  -- Where no group comes at exit, the copied `ret` returns the same.
  abbrev pub RetsAtOnce : Type 0
  RetsAtOnce =
      (f f' : Frame) (fs fs' : List Frame) (w : World) (ss : List Statics) → Ret f f' fs fs' w ss → NoExit (plan_at k p f.method) f.at
      → ReachesIn p k ms g r (cost k p + per_frame p k ms g r (suc (suc (length fs)))) (returns p k f fs w) (returns (written p k ms g r) no_contracts f' fs' (beside ss w))

  -- In the rest of a body whose exit is checked, the value is kept, and the postconditions and invariants come in both runs.
  abbrev pub RetsLifted : Type 0
  RetsLifted =
      (c : Plan) (q : ℕ) (i : Instr) (f f' : Frame) (fs fs' : List Frame) (w : World) (ss : List Statics) (z : Ret f f' fs fs' w ss) → plan_at k p f.method ≡ Some c → f.at ≡ Rest q → fetch p k g (Some c) f.method f.at ≡ Some i → class_of i.op ≡ class.Return → f.thrown ≡ None → has_exit p k (written p k ms g r) g r.types r.depths c ≡ true
      → Current p k (written p k ms g r) g r.types r.depths f.method f.at f'.handling → ((v : Option Value) → returned p f f.local.stack ≡ Some v → length f.local.stack ≡ length (top_of v))
      → AnswersIn p k ms g r (5 * cost k p + per_frame p k ms g r (suc (suc (length fs)))) (returns p k f fs w) (from_here p k (written p k ms g r) g r.types r.depths (r.marks f.method) f ((z.top).pair.extra) f'.continuation fs' w ss f'.handling)
