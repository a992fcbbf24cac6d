-- What a store through a pointer changes of frames, and what it leaves of a world.
use Rattle.std.specs.Prelude.{◌≡◌, List, [], ◌∷◌, length}
use Rattle.cil_model.specs.declared.program.Program.{Program}
use Rattle.cil_semantics.specs.declared.state.World.{World}
use Rattle.cil_semantics.specs.declared.state.Local.{Local as LocalState}
use Rattle.cil_semantics.specs.declared.state.Frame.{Frame}
use Rattle.splice_facts.specs.WellFormed.{Bounds, WellFormedLocal, WellFormedWorld}

module _ (b : Bounds) where
  -- other places of the same shape
  pub record LocalChange (l l2 : LocalState) : Type 0 where
    pub stack : l2.stack ≡ l.stack
    pub result : l2.result ≡ l.result
    pub captured : l2.captured ≡ l.captured
    pub args : length l2.args ≡ length l.args
    pub wide : length l2.locals ≡ length l.locals
    pub fine : WellFormedLocal b l → WellFormedLocal b l2

  pub record ChangedFrame (f h : Frame) : Type 0 where
    pub local : LocalState
    pub same : h ≡ record f { local = local }
    pub change : LocalChange f.local local

  abbrev pub ChangedFrames : List Frame → List Frame → Type 0
  ChangedFrames [] [] = Unit {0}
  ChangedFrames (f ∷ fs) (h ∷ hs) = ChangedFrame f h × ChangedFrames fs hs
  ChangedFrames _ _ = ⊥

  -- frames and world after a store
  pub record Written (p : Program) (fs : List Frame) (w : World) (x : List Frame × World) : Type 0 where
    pub frames : ChangedFrames fs x.0
    pub world : WellFormedWorld b w → WellFormedWorld b x.1
    pub depth : x.1.depth ≡ w.depth
