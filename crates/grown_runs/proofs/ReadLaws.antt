-- Reading and storing where pointers lead, and going on in the topmost frame.
use Rattle.std.proofs.Common.{◌≡◌, ℕ, zero, suc, ◌+◌, ◌<◌, List, [], ◌∷◌, length, Option, Some, None, refl, sym, ap, ◌∙◌, subst}
use Rattle.std.specs.Prelude.{Bool, true, false, ◌==◌, if◌then◌else◌, map, slice_get, slice_set, option_map, option_and_then}
use Rattle.cil_model.specs.declared.ty.Ty.{Ty}
use Rattle.cil_model.specs.declared.value.Value.{Value, Ptr}
use Rattle.cil_model.specs.declared.value.Pointer.{Pointer}
use Rattle.cil_model.specs.declared.value.Pointer.TheVariants.{Arg, Local, Inside, Static}
use Rattle.cil_model.specs.declared.contract.Contracts.{Contracts}
use Rattle.cil_model.specs.declared.program.Program.{Program}
use Rattle.cil_semantics.specs.Words.{maybe}
use Rattle.cil_semantics.specs.declared.state.Cell.{Cell}
use Rattle.cil_semantics.specs.declared.state.Object.{Object}
use Rattle.cil_semantics.specs.declared.state.Statics.{Statics}
use Rattle.cil_semantics.specs.declared.state.World.{World}
use Rattle.cil_semantics.specs.declared.state.Local.{Local as LocalState}
use Rattle.cil_semantics.specs.declared.state.Frame.{Frame}
use Rattle.cil_semantics.specs.declared.state.Access.{Access}
use Rattle.cil_semantics.specs.declared.state.Access.TheVariants.{Read, Write, PointTo}
use Rattle.cil_semantics.specs.State.{Next, pushed, object_at}
use Rattle.cil_semantics.specs.Places.{Storage, Anything, seen_as, stored_in, default_value, default_cell, default_cells, set_cell, new_cell, write_path, write_cell, static_layout, place_of}
use Rattle.cil_semantics.specs.Unwind.{find_statics, next_place}
use Rattle.cil_semantics.specs.Frames.{frame_at, cell_in, set_in, static_cells, static_path, read, in_frame, set_args, set_locals, set_object, set_static, write, go_on, load, go_on_top, store, copy, use_static, if_there}
use Rattle.machine_laws.specs.Answers.{Each, IsOld}
use Rattle.grown_runs.specs.Grown.{GrowsAround, IsHeld}
use Rattle.grown_runs.specs.Looks.{LooksAlike}
use Rattle.grown_runs.proofs.AlikeLaws.{option_on, mapped_on, each_get, each_set, HeldWorld, Alike, ends, there, given}
use Rattle.grown_runs.proofs.MoveLaws.{OwnFrames, arrives}

-- a static that a pointer leads to is of a type of the input
abbrev pub OwnPointer : Program → Pointer → Type 0
OwnPointer p0 (Arg n m i is) = Unit {0}
OwnPointer p0 (Local n m i is) = Unit {0}
OwnPointer p0 (Inside x is) = Unit {0}
OwnPointer p0 (Static t f is) = IsOld p0 t

abbrev pub OwnAccess : Program → Access → Type 0
OwnAccess p0 (Read q) = OwnPointer p0 q
OwnAccess p0 (Write q v) = OwnPointer p0 q
OwnAccess p0 (PointTo q) = OwnPointer p0 q

frames_on : (fs : List Frame) (n m : ℕ) (go other : LocalState → Option LocalState) → ((x : LocalState) → go x ≡ other x) → in_frame fs n m go ≡ in_frame fs n m other
frames_on [] n m go other h = refl
frames_on (f ∷ fs) n m go other h =
    ap (λ (o : Option LocalState). if n == length fs then (if f.method == m then option_map (λ x. record f { local = x } ∷ fs) o else None) else option_map (λ rest. f ∷ rest) (in_frame fs n m go)) (h f.local)
    ∙ ap (λ (o : Option (List Frame)). if n == length fs then (if f.method == m then option_map (λ x. record f { local = x } ∷ fs) (other f.local) else None) else option_map (λ rest. f ∷ rest) o) (frames_on fs n m go other h)

module _ (p0 : Program) where
  abbrev FramesIf : Option (List Frame) → Type 0
  FramesIf None = Unit {0}
  FramesIf (Some fs) = OwnFrames p0 fs

  frames_own : (fs : List Frame) (n m : ℕ) (go : LocalState → Option LocalState) → OwnFrames p0 fs → FramesIf (in_frame fs n m go)
  frames_own [] n m go own = tt
  frames_own (f ∷ fs) n m go own = by_number (n == length fs) (f.method == m) (go f.local) (in_frame fs n m go) (frames_own fs n m go own.1)
    where
      by_number : (a b : Bool) (x : Option LocalState) (rest : Option (List Frame)) → FramesIf rest → FramesIf (if a then (if b then option_map (λ x. record f { local = x } ∷ fs) x else None) else option_map (λ rest. f ∷ rest) rest)
      by_number true true None rest h = tt
      by_number true true (Some x) rest h = (own.0, own.1)
      by_number true false x rest h = tt
      by_number false b x None h = tt
      by_number false b x (Some rest) h = (own.0, h)

  module _ (e : ℕ) where
    -- frames and world after a store
    abbrev pub WrittenIf : Option (List Frame × World) → Type 0
    WrittenIf None = Unit {0}
    WrittenIf (Some x) = OwnFrames p0 x.0 × HeldWorld p0 e x.1

    with_world : (o : Option (List Frame)) (w : World) → FramesIf o → HeldWorld p0 e w → WrittenIf (option_map (λ gs. (gs, w)) o)
    with_world None w own held = tt
    with_world (Some fs) w own held = (own, held)

    object_set : (w : World) (x : ℕ) (cs : List Cell) → HeldWorld p0 e w → HeldWorld p0 e (set_object w x cs)
    object_set w zero cs held = held
    object_set w (suc x) cs held = by_found (slice_get w.heap x) refl
      where
        by_found : (o : Option Object) → slice_get w.heap x ≡ o → Each (λ (o : Object). IsHeld p0 e o.ty) (maybe w.heap (λ (o : Object). slice_set w.heap x (record o { cells = cs })) o)
        by_found None q = held
        by_found (Some o) q = each_set (λ (o : Object). IsHeld p0 e o.ty) w.heap x (record o { cells = cs }) held (each_get (λ (o : Object). IsHeld p0 e o.ty) w.heap x o held q)

    inside_written : (q : Program) (fs : List Frame) (w : World) (x : ℕ) (is : List ℕ) (v : Value) (o : Option Object) → OwnFrames p0 fs → HeldWorld p0 e w → WrittenIf (option_and_then (λ (o : Object). option_map (λ cs. (fs, set_object w x cs)) (set_in q is v o.cells)) o)
    inside_written q fs w x is v None own held = tt
    inside_written q fs w x is v (Some o) own held = by_cells (set_in q is v o.cells)
      where
        by_cells : (c : Option (List Cell)) → WrittenIf (option_map (λ cs. (fs, set_object w x cs)) c)
        by_cells None = tt
        by_cells (Some cs) = (own, object_set w x cs held)

    static_written : (fs : List Frame) (w : World) (t : Ty) (c : Option (List Cell)) → OwnFrames p0 fs → HeldWorld p0 e w → WrittenIf (option_map (λ cs. (fs, set_static w t cs)) c)
    static_written fs w t None own held = tt
    static_written fs w t (Some cs) own held = (own, held)

    pub written : (q : Program) (fs : List Frame) (w : World) (r : Pointer) (v : Value) → OwnFrames p0 fs → HeldWorld p0 e w → WrittenIf (write q fs w r v)
    written q fs w (Arg n m i is) v own held = with_world (in_frame fs n m (set_args q (i ∷ is) v)) w (frames_own fs n m (set_args q (i ∷ is) v) own) held
    written q fs w (Local n m i is) v own held = with_world (in_frame fs n m (set_locals q (i ∷ is) v)) w (frames_own fs n m (set_locals q (i ∷ is) v) own) held
    written q fs w (Inside x is) v own held = inside_written q fs w x is v (object_at w x) own held
    written q fs w (Static t f is) v own held = static_written fs w t (set_in q (static_path q t f is) v (static_cells q w t)) own held

module _ (p0 p : Program) (k : Contracts) (e : ℕ) (h : GrowsAround p0 p k e) (l : LooksAlike p0 p e) where
  abbrev A : (Program → Next) → Type 0
  A F = Alike p0 p e F

  abbrev Held : World → Type 0
  Held w = HeldWorld p0 e w

  abbrev IsOwn : ℕ → Type 0
  IsOwn m = m < length p0.methods

  -- ---- cells

  pub new_same : (t : Ty) (v : Value) → new_cell p t v ≡ new_cell p0 t v
  new_same t v = ap (λ (o : Option Value). option_map (λ w. record { ty = t; value = w }) o) (l.stores t v)

  pub set_same : (v : Value) (c : Cell) → set_cell p v c ≡ set_cell p0 v c
  set_same v c = ap (λ (o : Option Value). option_map (λ w. record { ty = c.ty; value = w }) o) (l.stores c.ty v)

  pub default_same : (t : Ty) → default_cell p t ≡ default_cell p0 t
  default_same t = ap (λ v. record { ty = t; value = v }) (l.defaults t)

  pub defaults_same : (ts : List Ty) → default_cells p ts ≡ default_cells p0 ts
  defaults_same [] = refl
  defaults_same (t ∷ ts) = ap (λ c. c ∷ default_cells p ts) (default_same t) ∙ ap (λ (cs : List Cell). default_cell p0 t ∷ cs) (defaults_same ts)

  cell_same : (is : List ℕ) (v : Value) (c : Cell) → write_cell p is v c ≡ write_cell p0 is v c
  cell_same is v c = ap (λ (o : Option Value). option_map (λ w. record { ty = c.ty; value = w }) o) (l.paths is c.ty v c.value)

  in_same : (is : List ℕ) (v : Value) (cs : List Cell) → set_in p is v cs ≡ set_in p0 is v cs
  in_same [] v cs = refl
  in_same (i ∷ is) v cs = ap (λ (o : Option Cell). option_map (slice_set cs i) o) (option_on (write_cell p is v) (write_cell p0 is v) (slice_get cs i) (λ c q. cell_same is v c))

  -- ---- statics

  pub static_cells_same : (w : World) (t : Ty) → IsOld p0 t → static_cells p w t ≡ static_cells p0 w t
  static_cells_same w t old =
      ap (λ (cs : List Cell). maybe cs (λ (s : Statics). s.cells) (find_statics t w.statics)) (ap (λ (xs : List (ℕ × Ty)). default_cells p (map (λ (x : ℕ × Ty). x.1) xs)) (l.statics t old) ∙ defaults_same (map (λ (x : ℕ × Ty). x.1) (static_layout p0 t)))

  static_path_same : (t : Ty) (f : ℕ) (is : List ℕ) → IsOld p0 t → static_path p t f is ≡ static_path p0 t f is
  static_path_same t f is old = ap (λ (xs : List (ℕ × Ty)). maybe [] (λ i. i ∷ is) (place_of f xs)) (l.statics t old)

  pub read_same : (fs : List Frame) (w : World) (q : Pointer) → OwnPointer p0 q → read p fs w q ≡ read p0 fs w q
  read_same fs w (Arg n m i is) own = refl
  read_same fs w (Local n m i is) own = refl
  read_same fs w (Inside x is) own = refl
  read_same fs w (Static t f is) own = ap (λ (cs : List Cell). cell_in cs (static_path p t f is)) (static_cells_same w t own) ∙ ap (cell_in (static_cells p0 w t)) (static_path_same t f is own)

  pub write_same : (fs : List Frame) (w : World) (q : Pointer) (v : Value) → OwnPointer p0 q → write p fs w q v ≡ write p0 fs w q v
  write_same fs w (Arg n m i is) v own =
      ap (λ (o : Option (List Frame)). option_map (λ gs. (gs, w)) o)
      (frames_on fs n m (set_args p (i ∷ is) v) (set_args p0 (i ∷ is) v) (λ x. ap (λ (o : Option (List Cell)). option_map (λ cs. record x { args = cs }) o) (in_same (i ∷ is) v x.args)))
  write_same fs w (Local n m i is) v own =
      ap (λ (o : Option (List Frame)). option_map (λ gs. (gs, w)) o)
      (frames_on fs n m (set_locals p (i ∷ is) v) (set_locals p0 (i ∷ is) v) (λ x. ap (λ (o : Option (List Cell)). option_map (λ cs. record x { locals = cs }) o) (in_same (i ∷ is) v x.locals)))
  write_same fs w (Inside x is) v own =
      option_on (λ (o : Object). option_map (λ cs. (fs, set_object w x cs)) (set_in p is v o.cells)) (λ (o : Object). option_map (λ cs. (fs, set_object w x cs)) (set_in p0 is v o.cells)) (object_at w x)
      (λ o q. ap (λ (c : Option (List Cell)). option_map (λ cs. (fs, set_object w x cs)) c) (in_same is v o.cells))
  write_same fs w (Static t f is) v own =
      ap (λ (o : Option (List Cell)). option_map (λ cs. (fs, set_static w t cs)) o)
      (ap (λ (js : List ℕ). set_in p js v (static_cells p w t)) (static_path_same t f is own) ∙ ap (set_in p (static_path p0 t f is) v) (static_cells_same w t own) ∙ in_same (static_path p0 t f is) v (static_cells p0 w t))

  -- ---- going on

  pub goes_on : (f : Frame) (v : LocalState) (fs : List Frame) (w : World) → IsOwn f.method → Held w → A (λ q. go_on q k f v fs w)
  goes_on f v fs w own held = arrives p0 p k e h l f (next_place f.at) v fs w own held

  pub loads : (r : Pointer) (s : Storage) (f : Frame) (v : LocalState) (fs : List Frame) (w : World) → OwnPointer p0 r → IsOwn f.method → Held w → A (λ q. load q k r s f v fs w)
  loads r s f v fs w there_ own held =
      there p0 p e w (λ q. option_and_then (seen_as s) (read q (record f { local = v } ∷ fs) w r)) (λ q x. go_on q k f (pushed x v) fs w) (ap (λ (o : Option Value). option_and_then (seen_as s) o) (read_same (record f { local = v } ∷ fs) w r there_)) (λ x q. goes_on f (pushed x v) fs w own held)

  goes_on_in : (fs : List Frame) (w : World) → OwnFrames p0 fs → Held w → A (λ q. go_on_top q k fs w)
  goes_on_in [] w own held = ends p0 p e w
  goes_on_in (f ∷ fs) w own held = goes_on f f.local fs w own.0 held

  pub stores : (r : Pointer) (x : Value) (f : Frame) (v : LocalState) (fs : List Frame) (w : World) → OwnPointer p0 r → IsOwn f.method → OwnFrames p0 fs → Held w → A (λ q. store q k r x f v fs w)
  stores r x f v fs w there_ own others held =
      there p0 p e w (λ q. write q (record f { local = v } ∷ fs) w r x) (λ q (y : List Frame × World). go_on_top q k y.0 y.1) (write_same (record f { local = v } ∷ fs) w r x there_)
      (λ y q. let z : WrittenIf p0 e (Some y) = subst (WrittenIf p0 e) q (written p0 e p (record f { local = v } ∷ fs) w r x (own, others) held) in goes_on_in y.0 y.1 z.0 z.1)

  pub copies : (to from : Pointer) (s : Storage) (f : Frame) (v : LocalState) (fs : List Frame) (w : World) → OwnPointer p0 to → OwnPointer p0 from → IsOwn f.method → OwnFrames p0 fs → Held w → A (λ q. copy q k to from s f v fs w)
  copies to from s f v fs w a b own others held =
      there p0 p e w (λ q. option_and_then (seen_as s) (read q (record f { local = v } ∷ fs) w from)) (λ q x. store q k to x f v fs w) (ap (λ (o : Option Value). option_and_then (seen_as s) o) (read_same (record f { local = v } ∷ fs) w from b)) (λ x q. stores to x f v fs w a own others held)

  pub uses : (a : Access) (f : Frame) (v : LocalState) (fs : List Frame) (w : World) → OwnAccess p0 a → IsOwn f.method → OwnFrames p0 fs → Held w → A (λ q. use_static q k a f v fs w)
  uses (Read r) f v fs w a own others held = loads r Anything f v fs w a own held
  uses (Write r x) f v fs w a own others held = stores r x f v fs w a own others held
  uses (PointTo r) f v fs w a own others held = goes_on f (pushed (Ptr r) v) fs w own held
