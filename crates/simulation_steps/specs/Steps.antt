-- What the two runs do alike: reading and writing through pointers, and returning to the frame below.
use Rattle.std.specs.Prelude.{◌≡◌, ℕ, suc, ◌+◌, ◌≤◌, Bool, false, List, length, Option, Some, None}
use Rattle.cil_model.specs.declared.value.Value.{Value}
use Rattle.cil_model.specs.declared.value.Value.TheOpen.{Value-F}
use Rattle.cil_model.specs.declared.value.Pointer.{Pointer}
use Rattle.cil_model.specs.declared.contract.Contracts.{Contracts}
use Rattle.cil_model.specs.declared.program.Program.{Program}
use Rattle.cil_model.specs.declared.program.MethodDesc.{MethodDesc}
use Rattle.cil_model.specs.NoContracts.{no_contracts}
use Rattle.cil_semantics.specs.declared.state.Cell.{Cell}
use Rattle.cil_semantics.specs.declared.state.World.{World}
use Rattle.cil_semantics.specs.declared.state.Statics.{Statics}
use Rattle.cil_semantics.specs.declared.state.Frame.{Frame}
use Rattle.cil_semantics.specs.declared.state.Continuation.{Continuation}
use Rattle.cil_semantics.specs.Unwind.{hasnt_begun}
use Rattle.cil_semantics.specs.Frames.{read, write, enter_delegate}
use Rattle.cil_semantics.specs.Returns.{return_with}
use Rattle.cil_semantics.specs.Checks.{AddedNumbers}
use Rattle.splice_facts.specs.Grown.{beside}
use Rattle.splice_facts.specs.WellFormed.{WellFormedPointer, WellFormedContinuation, WellFormedObjects}
use Rattle.splice_facts.specs.Exceptions.{BackThere}
use Rattle.splice_facts.specs.Spliced.{Beside, cost}
use Rattle.splice_facts.specs.Related.{Rewritten, written, bounds, ReachesIn, per_frame, Under, AllStand, count_groups}

module _ (p : Program) (k : Contracts) (ms : List MethodDesc) (g : AddedNumbers) (r : Rewritten p k ms g) where
  abbrev pub BesideIn : World → List Statics → Type 0
  BesideIn w ss = Beside p k (written p k ms g r) g r.types r.depths w ss

  -- A pointer that leads to a local that is there, or to a static of the input, leads to the same value.
  abbrev pub ReadsAlike : Type 0
  ReadsAlike =
      (b b' : Continuation) (fs fs' : List Frame) (w : World) (ss : List Statics) (q : Pointer) → WellFormedPointer (bounds p k ms g r) q → Under p k ms g r b b' fs fs' → AllStand p k ms g r fs → BesideIn w ss
      → read (written p k ms g r) fs' (beside ss w) q ≡ read p fs w q

  -- both stores are refused, or both leave n frames with their twins, c of them in groups, and worlds that are alike
  abbrev pub Stored : Continuation → Continuation → (n c : ℕ) → World → Option (List Frame × World) → Option (List Frame × World) → Type 0
  Stored b b' n c w None None = Unit {0}
  Stored b b' n c w (Some x) (Some x') =
      Under p k ms g r b b' x.0 x'.0 × AllStand p k ms g r x.0 × (ss : List Statics) × BesideIn x.1 ss × (x'.1 ≡ beside ss x.1) × (x.1.depth ≡ w.depth) × (length x.0 ≡ n) × (count_groups x.0 ≡ c)
  Stored b b' n c w o o' = ⊥

  abbrev pub WritesAlike : Type 0
  WritesAlike =
      (b b' : Continuation) (fs fs' : List Frame) (w : World) (ss : List Statics) (q : Pointer) (v : Value) → WellFormedPointer (bounds p k ms g r) q → Under p k ms g r b b' fs fs' → AllStand p k ms g r fs → BesideIn w ss
      → Stored b b' (length fs) (count_groups fs) w (write p fs w q v) (write (written p k ms g r) fs' (beside ss w) q v)

  -- A delegate is entered alike, behind its type's initializer: what stands in the heap is of the input, its function too.
  abbrev pub DelegatesAlike : Type 0
  DelegatesAlike =
      (gives : Bool) (v : Value-F Value) (values : List Value) (b b' : Continuation) (fs fs' : List Frame) (w : World) (ss : List Statics) → Under p k ms g r b b' fs fs' → hasnt_begun b ≡ false → hasnt_begun b' ≡ false → AllStand p k ms g r fs → WellFormedObjects (bounds p k ms g r) w.heap → BesideIn w ss → w.depth ≤ suc k.settings.guard → w.depth ≡ count_groups fs
      → ReachesIn p k ms g r (cost k p + per_frame p k ms g r (suc (suc (length fs)))) (enter_delegate p k gives v values b fs w) (enter_delegate (written p k ms g r) no_contracts gives v values b' fs' (beside ss w))

  -- A value goes down to the frame below: it is pushed there or used, tells ForAll and Exists what to try next, an initializer's caller begins, or an exception that was made is thrown.
  abbrev pub ReturnsAlike : Type 0
  ReturnsAlike =
      (b b' : Continuation) (args : List Cell) (v : Option Value) (fs fs' : List Frame) (w : World) (ss : List Statics) → Under p k ms g r b b' fs fs' → AllStand p k ms g r fs → WellFormedContinuation (bounds p k ms g r) b → BackThere (length w.heap) b → WellFormedObjects (bounds p k ms g r) w.heap → BesideIn w ss → w.depth ≤ suc k.settings.guard → w.depth ≡ count_groups fs
      → ReachesIn p k ms g r (cost k p + per_frame p k ms g r (suc (suc (length fs)))) (return_with p k b args v fs w) (return_with (written p k ms g r) no_contracts b' args v fs' (beside ss w))
