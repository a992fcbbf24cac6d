-- A store where a pointer leads changes arguments and locals alone, and a state stays in shape.
use Rattle.std.proofs.Common.{◌≡◌, ◌+◌, ℕ, Bool, true, false, ◌==◌, List, [], ◌∷◌, length, Option, Some, None, refl, sym, ap, ◌∙◌, arith, subst}
use Rattle.std.specs.Prelude.{if◌then◌else◌, IfSome, option_map, option_and_then, slice_get, slice_set}
use Rattle.std.proofs.lemmas.List.{length-set}
use Rattle.cil_model.specs.declared.contract.Contracts.{Contracts}
use Rattle.cil_model.specs.declared.program.Program.{Program}
use Rattle.cil_model.specs.declared.value.Value.{Value, Ptr}
use Rattle.cil_model.specs.declared.value.Pointer.{Pointer}
use Rattle.cil_model.specs.declared.value.Pointer.TheVariants as pointer
use Rattle.cil_semantics.specs.declared.state.Access.{Access}
use Rattle.cil_semantics.specs.declared.state.Access.TheVariants.{Read, Write, PointTo}
use Rattle.cil_semantics.specs.declared.state.Cell.{Cell}
use Rattle.cil_semantics.specs.declared.state.Continuation.{Continuation}
use Rattle.cil_semantics.specs.declared.state.Continuation.TheVariants.{Push, PushObject, PushStruct, ThrowObject, BeginCallee, UseField, TryNext}
use Rattle.cil_semantics.specs.declared.state.Frame.{Frame}
use Rattle.cil_semantics.specs.declared.state.Local.{Local}
use Rattle.cil_semantics.specs.declared.state.Object.{Object}
use Rattle.cil_semantics.specs.declared.state.World.{World}
use Rattle.cil_semantics.specs.Places.{Storage, Anything, seen_as, write_cell}
use Rattle.cil_semantics.specs.State.{object_at, pushed}
use Rattle.cil_semantics.specs.Returns.{result_type}
use Rattle.cil_semantics.specs.Frames.{if_there, in_frame, set_in, set_args, set_locals, set_object, set_static, static_cells, static_path, read, write, go_on, go_on_top, load, store, copy, use_static}
use Rattle.cil_semantics.specs.Unwind.{place_in}
use Rattle.il_flow.specs.Counts.{pushed_by}
use Rattle.flow_laws.specs.Shapes.{HeightsOf, count_of, HasHeight, Stands, Waits, Expects, AllGoOn, Over, Lie, NextInShape}
use Rattle.flow_laws.specs.Measured.{Measured, IsPlain}
use Rattle.flow_laws.proofs.LandLaws.{OverBy, Awaits, goes_next}

-- ---- frames that differ in what their arguments and locals hold

abbrev pub Kept : Local → Local → Type 0
Kept l l' = (l'.stack ≡ l.stack) × (length l'.args ≡ length l.args)

abbrev pub Alike : List Frame → List Frame → Type 0
Alike [] [] = Unit {0}
Alike [] (g ∷ gs) = ⊥
Alike (f ∷ fs) [] = ⊥
Alike (f ∷ fs) (g ∷ gs) = ((l : Local) × (g ≡ record f { local = l }) × Kept f.local l) × Alike fs gs

pub alike_itself : (fs : List Frame) → Alike fs fs
alike_itself [] = tt
alike_itself (f ∷ fs) = ((f.local, refl, (refl, refl)), alike_itself fs)

pub alike_twice : (fs gs hs : List Frame) → Alike fs gs → Alike gs hs → Alike fs hs
alike_twice [] [] [] a b = tt
alike_twice [] [] (h ∷ hs) a b = b
alike_twice [] (g ∷ gs) hs a b = absurd a
alike_twice (f ∷ fs) [] hs a b = absurd a
alike_twice (f ∷ fs) (g ∷ gs) [] a b = absurd b
alike_twice (f ∷ fs) (g ∷ gs) (h ∷ hs) a b = (
  (b.0.0, b.0.1 ∙ ap (λ (x : Frame). record x { local = b.0.0 }) a.0.1, (b.0.2.0 ∙ ap (λ (x : Frame). x.local.stack) a.0.1 ∙ a.0.2.0, b.0.2.1 ∙ ap (λ (x : Frame). length x.local.args) a.0.1 ∙ a.0.2.1)),
  alike_twice fs gs hs a.1 b.1,
)

set_kept : (p : Program) (is : List ℕ) (v : Value) (cs : List Cell) → IfSome (set_in p is v cs) (λ ds. length ds ≡ length cs)
set_kept p [] v cs = tt
set_kept p (i ∷ is) v cs = go (option_and_then (write_cell p is v) (slice_get cs i))
  where
    go : (o : Option Cell) → IfSome (option_map (slice_set cs i) o) (λ ds. length ds ≡ length cs)
    go None = tt
    go (Some c) = length-set cs i c

args_kept : (p : Program) (is : List ℕ) (v : Value) (l : Local) → IfSome (set_args p is v l) (Kept l)
args_kept p is v l = go (set_in p is v l.args) (set_kept p is v l.args)
  where
    go : (o : Option (List Cell)) → IfSome o (λ ds. length ds ≡ length l.args) → IfSome (option_map (λ cs. record l { args = cs }) o) (Kept l)
    go None h = tt
    go (Some cs) h = (refl, h)

locals_kept : (p : Program) (is : List ℕ) (v : Value) (l : Local) → IfSome (set_locals p is v l) (Kept l)
locals_kept p is v l = go (set_in p is v l.locals)
  where
    go : (o : Option (List Cell)) → IfSome (option_map (λ cs. record l { locals = cs }) o) (Kept l)
    go None = tt
    go (Some cs) = (refl, refl)

frame_kept : (fs : List Frame) (n m : ℕ) (change : Local → Option Local) → ((l : Local) → IfSome (change l) (Kept l)) → IfSome (in_frame fs n m change) (Alike fs)
frame_kept [] n m change h = tt
frame_kept (f ∷ fs) n m change h = go (frame_kept fs n m change h) (n == length fs)
  where
    one : (o : Option Local) → IfSome o (Kept f.local) → IfSome (option_map (λ l. record f { local = l } ∷ fs) o) (Alike (f ∷ fs))
    one None k = tt
    one (Some l) k = ((l, refl, k), alike_itself fs)

    here : (b : Bool) → IfSome (if b then option_map (λ l. record f { local = l } ∷ fs) (change f.local) else None) (Alike (f ∷ fs))
    here true = one (change f.local) (h f.local)
    here false = tt

    below : (o : Option (List Frame)) → IfSome o (Alike fs) → IfSome (option_map (λ rest. f ∷ rest) o) (Alike (f ∷ fs))
    below None k = tt
    below (Some gs) k = ((f.local, refl, (refl, refl)), k)

    go : IfSome (in_frame fs n m change) (Alike fs) → (b : Bool) → IfSome (if b then (if f.method == m then option_map (λ l. record f { local = l } ∷ fs) (change f.local) else None) else option_map (λ rest. f ∷ rest) (in_frame fs n m change)) (Alike (f ∷ fs))
    go rest true = here (f.method == m)
    go rest false = below (in_frame fs n m change) rest

pub written_alike : (p : Program) (fs : List Frame) (w : World) (q : Pointer) (v : Value) → IfSome (write p fs w q v) (λ x. Alike fs x.0)
written_alike p fs w (pointer.Arg n m i is) v = go (in_frame fs n m (set_args p (i ∷ is) v)) (frame_kept fs n m (set_args p (i ∷ is) v) (λ l. args_kept p (i ∷ is) v l))
  where
    go : (o : Option (List Frame)) → IfSome o (Alike fs) → IfSome {T = List Frame × World} (option_map (λ gs. (gs, w)) o) (λ x. Alike fs x.0)
    go None h = tt
    go (Some gs) h = h
written_alike p fs w (pointer.Local n m i is) v = go (in_frame fs n m (set_locals p (i ∷ is) v)) (frame_kept fs n m (set_locals p (i ∷ is) v) (λ l. locals_kept p (i ∷ is) v l))
  where
    go : (o : Option (List Frame)) → IfSome o (Alike fs) → IfSome {T = List Frame × World} (option_map (λ gs. (gs, w)) o) (λ x. Alike fs x.0)
    go None h = tt
    go (Some gs) h = h
written_alike p fs w (pointer.Inside k is) v = go (object_at w k)
  where
    set : (o : Option (List Cell)) → IfSome {T = List Frame × World} (option_map (λ cs. (fs, set_object w k cs)) o) (λ x. Alike fs x.0)
    set None = tt
    set (Some cs) = alike_itself fs

    go : (o : Option Object) → IfSome {T = List Frame × World} (option_and_then (λ (x : Object). option_map (λ cs. (fs, set_object w k cs)) (set_in p is v x.cells)) o) (λ x. Alike fs x.0)
    go None = tt
    go (Some x) = set (set_in p is v x.cells)
written_alike p fs w (pointer.Static t f is) v = go (set_in p (static_path p t f is) v (static_cells p w t))
  where
    go : (o : Option (List Cell)) → IfSome {T = List Frame × World} (option_map (λ cs. (fs, set_static w t cs)) o) (λ x. Alike fs x.0)
    go None = tt
    go (Some cs) = alike_itself fs

module _ (p : Program) (height : HeightsOf) where
  abbrev Same : Frame → Frame → Type 0
  Same f g = (l : Local) × (g ≡ record f { local = l }) × Kept f.local l

  waits_alike : (n : ℕ) (f g : Frame) → Same f g → Waits p height f n → Waits p height g n
  waits_alike n f g s h = subst (λ x. Waits p height x n) (sym s.1) (subst (λ (x : List Value). HasHeight p height f.method (place_in f.at + 1) (length x + n)) (sym s.2.0) h)

  stands_alike : (f g : Frame) → Same f g → Stands p height f → Stands p height g
  stands_alike f g s h = subst (λ x. Stands p height x) (sym s.1) (subst (λ (x : List Value). HasHeight p height f.method (place_in f.at) (length x)) (sym s.2.0) h)

  expects_alike : (c : Continuation) (n a : ℕ) (f g : Frame) → Same f g → Expects p height c n a f → Expects p height c n a g
  expects_alike Push n a f g s h = waits_alike n f g s h
  expects_alike (PushObject x) n a f g s h = waits_alike 1 f g s h
  expects_alike PushStruct n a f g s h = (waits_alike 1 f g s h.0, h.1)
  expects_alike (ThrowObject x) n a f g s h = tt
  expects_alike BeginCallee n a f g s h = stands_alike f g s h
  expects_alike (UseField x) n a f g s h = waits_alike (pushed_by x) f g s h
  expects_alike (TryNext e t l) n a f g s h = waits_alike 1 f g s h

  over_alike : (c : Continuation) (n a : ℕ) (fs gs : List Frame) → Alike fs gs → Over p height c n a fs → Over p height c n a gs
  over_alike c n a [] [] x h = tt
  over_alike c n a [] (g ∷ gs) x h = absurd x
  over_alike c n a (f ∷ fs) [] x h = absurd x
  over_alike c n a (f ∷ fs) (g ∷ gs) x h = expects_alike c n a f g x.0 h

  pub lie_alike : (fs gs : List Frame) → Alike fs gs → Lie p height fs → Lie p height gs
  lie_alike [] [] x h = tt
  lie_alike [] (g ∷ gs) x h = absurd x
  lie_alike (f ∷ fs) [] x h = absurd x
  lie_alike (f ∷ fs) (g ∷ gs) x h =
      let s = x.0 in
      let over : Over p height f.continuation (count_of p (result_type p f)) (length s.0.args) gs = subst (λ a. Over p height f.continuation (count_of p (result_type p f)) a gs) (sym s.2.1) (over_alike f.continuation (count_of p (result_type p f)) (length f.local.args) fs gs x.1 h.1) in
      let F : Frame = record f { local = s.0 } in
      let lies : Lie p height (F ∷ gs) = (h.0, over, lie_alike fs gs x.1 h.2) in
      subst (λ y. Lie p height (y ∷ gs)) (sym s.1) lies

module _ (p : Program) (k : Contracts) (height : HeightsOf) (plain : IsPlain p k) (ok : Measured p height) where
  pub awaits_alike : (n : ℕ) (fs gs : List Frame) → Alike fs gs → Awaits p k height plain ok n fs → Awaits p k height plain ok n gs
  awaits_alike n [] [] x h = tt
  awaits_alike n [] (g ∷ gs) x h = absurd x
  awaits_alike n (f ∷ fs) [] x h = absurd x
  awaits_alike n (f ∷ fs) (g ∷ gs) x h = waits_alike p height n f g x.0 h

  -- ---- loads and stores

  abbrev Goes : Frame → Local → ℕ → List Frame → Type 0
  Goes f l n fs = HasHeight p height f.method (place_in f.at + 1) n × AllGoOn p height f.method f.handling × OverBy p k height plain ok f l fs × Lie p height fs

  top_goes : (fs : List Frame) (w : World) → Awaits p k height plain ok 0 fs → Lie p height fs → NextInShape p height (go_on_top p k fs w)
  top_goes [] w h l = tt
  top_goes (f ∷ fs) w h l = goes_next p k height plain ok f f.local fs w (subst (HasHeight p height f.method (place_in f.at + 1)) (omega arith) h) l.0 l.1 l.2

  pub loads : (q : Pointer) (h : Storage) (f : Frame) (l : Local) (fs : List Frame) (w : World) → Goes f l (length l.stack + 1) fs → NextInShape p height (load p k q h f l fs w)
  loads q h f l fs w g = go (option_and_then (seen_as h) (read p (record f { local = l } ∷ fs) w q))
    where
      go : (o : Option Value) → NextInShape p height (if_there o w (λ v. go_on p k f (pushed v l) fs w))
      go None = tt
      go (Some v) = goes_next p k height plain ok f (pushed v l) fs w (subst (HasHeight p height f.method (place_in f.at + 1)) (omega arith) g.0) g.1 g.2 g.3

  pub stores : (q : Pointer) (v : Value) (f : Frame) (l : Local) (fs : List Frame) (w : World) → Goes f l (length l.stack) fs → NextInShape p height (store p k q v f l fs w)
  stores q v f l fs w g = go (write p (record f { local = l } ∷ fs) w q v) (written_alike p (record f { local = l } ∷ fs) w q v)
    where
      F : Frame
      F = record f { local = l }

      go : (o : Option (List Frame × World)) → IfSome o (λ x. Alike (record f { local = l } ∷ fs) x.0) → NextInShape p height (if_there o w (λ (x : List Frame × World). go_on_top p k x.0 x.1))
      go None a = tt
      go (Some x) a =
          top_goes x.0 x.1 (awaits_alike 0 (record f { local = l } ∷ fs) x.0 a (subst (HasHeight p height f.method (place_in f.at + 1)) (omega arith) g.0)) (lie_alike p height (record f { local = l } ∷ fs) x.0 a (g.1, g.2, g.3))

  pub copies : (to from : Pointer) (h : Storage) (f : Frame) (l : Local) (fs : List Frame) (w : World) → Goes f l (length l.stack) fs → NextInShape p height (copy p k to from h f l fs w)
  copies to from h f l fs w g = go (option_and_then (seen_as h) (read p (record f { local = l } ∷ fs) w from))
    where
      go : (o : Option Value) → NextInShape p height (if_there o w (λ v. store p k to v f l fs w))
      go None = tt
      go (Some v) = stores to v f l fs w g

  pub uses : (a : Access) (f : Frame) (l : Local) (fs : List Frame) (w : World) → Goes f l (length l.stack + pushed_by a) fs → NextInShape p height (use_static p k a f l fs w)
  uses (Read q) f l fs w g = loads q Anything f l fs w g
  uses (Write q v) f l fs w g = stores q v f l fs w (subst (HasHeight p height f.method (place_in f.at + 1)) (omega arith) g.0, g.1, g.2, g.3)
  uses (PointTo q) f l fs w g = goes_next p k height plain ok f (pushed (Ptr q) l) fs w (subst (HasHeight p height f.method (place_in f.at + 1)) (omega arith) g.0) g.1 g.2 g.3
