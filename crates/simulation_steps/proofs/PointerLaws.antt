-- What stands where a pointer leads, and stores through pointers, in frames and their twins.
use Rattle.std.proofs.Common.{◌≡◌, ℕ, zero, suc, ◌+◌, ◌<◌, Bool, true, false, List, [], ◌∷◌, ◌++◌, length, Option, Some, None, refl, sym, ap, ◌∙◌, subst, arith}
use Rattle.std.specs.Prelude.{slice_get, slice_set, option_map, option_and_then, ◌==◌, if◌then◌else◌, IsTrue, map}
use Rattle.std.proofs.lemmas.List.{set-append_left, length-set}
use Rattle.std.proofs.lemmas.Bool.{eqb-true}
use Rattle.cil_model.specs.declared.ty.Ty.{Ty}
use Rattle.cil_model.specs.declared.value.Value.{Value}
use Rattle.cil_model.specs.declared.value.Pointer.{Pointer}
use Rattle.cil_model.specs.declared.value.Pointer.TheVariants.{Arg, Local, Inside, Static}
use Rattle.cil_model.specs.declared.contract.Contracts.{Contracts}
use Rattle.cil_model.specs.declared.program.Program.{Program}
use Rattle.cil_model.specs.declared.program.MethodDesc.{MethodDesc}
use Rattle.cil_semantics.specs.Words.{maybe}
use Rattle.cil_semantics.specs.Types.{same_ty}
use Rattle.cil_semantics.specs.declared.state.Cell.{Cell}
use Rattle.cil_semantics.specs.Places.{read_path, write_cell, static_layout, default_cells}
use Rattle.cil_semantics.specs.declared.state.Local.{Local as LocalState}
use Rattle.cil_semantics.specs.declared.state.Object.{Object}
use Rattle.cil_semantics.specs.declared.state.World.{World}
use Rattle.cil_semantics.specs.declared.state.Statics.{Statics}
use Rattle.cil_semantics.specs.declared.state.Frame.{Frame}
use Rattle.cil_semantics.specs.declared.state.Continuation.{Continuation}
use Rattle.cil_semantics.specs.State.{object_at}
use Rattle.cil_semantics.specs.Unwind.{find_statics, set_statics}
use Rattle.cil_semantics.specs.Frames.{frame_at, cell_in, set_in, static_cells, static_path, read, write, in_frame, set_args, set_locals, set_object, set_static}
use Rattle.cil_semantics.specs.Checks.{AddedNumbers}
use Rattle.splice_facts.specs.Bodies.{with_methods}
use Rattle.splice_facts.specs.Grown.{grow, beside}
use Rattle.splice_facts.specs.WellFormed.{WellFormedPointer}
use Rattle.splice_facts.specs.Acting.{KeepsPlaces}
use Rattle.splice_facts.specs.Related.{Rewritten, FramePair, Under, ValidFrame, ValidFrames}
use Rattle.splice_facts.specs.Related as Pairs
use Rattle.simulation_steps.specs.Steps as Steps
use Rattle.simulation.proofs.ProgramLaws.{fun_ext, write_cell_same, default_cells_same}
use Rattle.simulation.proofs.ActLaws.{get_left}
use Rattle.simulation.proofs.UnwindLaws as Unwinding
use Rattle.splice_facts.specs.Exceptions.{FailureThere, FailuresThere}
use Rattle.splice_facts.proofs.ExceptionLaws.{found_failure, set_long}
use Rattle.simulation.proofs.UnwindLaws.{as_many, set_beside, find_beside}

-- ---- one list of cells with more behind it

cell_left : (cs more : List Cell) (i : ℕ) (is : List ℕ) → i < length cs → cell_in (cs ++ more) (i ∷ is) ≡ cell_in cs (i ∷ is)
cell_left cs more i is lt = ap (option_and_then (λ (c : Cell). read_path is c.value)) (get_left cs more i lt)

module _ (p : Program) (ms : List MethodDesc) where
  set_in_same : (is : List ℕ) (v : Value) (cs : List Cell) → set_in (with_methods p ms) is v cs ≡ set_in p is v cs
  set_in_same [] v cs = refl
  set_in_same (i ∷ is) v cs = ap (λ go. option_map (slice_set cs i) (option_and_then go (slice_get cs i))) (fun_ext (write_cell_same p ms is v))

  set_left : (cs more : List Cell) (i : ℕ) (is : List ℕ) (v : Value) → i < length cs → set_in p (i ∷ is) v (cs ++ more) ≡ option_map (λ xs. xs ++ more) (set_in p (i ∷ is) v cs)
  set_left cs more i is v lt = ap (λ o. option_map (slice_set (cs ++ more) i) (option_and_then (write_cell p is v) o)) (get_left cs more i lt) ∙ by_option (option_and_then (write_cell p is v) (slice_get cs i))
    where
      by_option : (o : Option Cell) → option_map (slice_set (cs ++ more) i) o ≡ option_map (λ xs. xs ++ more) (option_map (slice_set cs i) o)
      by_option None = refl
      by_option (Some c) = ap Some (set-append_left cs more i c lt)

module _ (p : Program) (k : Contracts) (ms : List MethodDesc) (g : AddedNumbers) (r : Rewritten p k ms g) where
  abbrev p' : Program
  p' = with_methods p ms

  abbrev IsBeside : World → List Statics → Type 0
  IsBeside w ss = Unwinding.IsBeside p k ms g r w ss

  abbrev below : Continuation → Continuation → List Frame → List Frame → Type 0
  below b b' fs fs' = Under p k ms g r b b' fs fs'

  abbrev valid : List Frame → Type 0
  valid fs = Pairs.AllStand p k ms g r fs

  abbrev width : ℕ → ℕ
  width m = (Pairs.bounds p k ms g r).width m

  -- ---- reading

  pub static_cells_same : (w : World) (ss : List Statics) (t : Ty) → IsTrue (Rattle.machine_laws.specs.Answers.is_below r.types t) → IsBeside w ss → static_cells p' (beside ss w) t ≡ static_cells p w t
  static_cells_same w ss t a bes = ap (λ o. cells_or' o) (find_beside p k ms g r t w ss a bes) ∙ by_option (find_statics t w.statics)
    where
      cells_or' : Option Statics → List Cell
      cells_or' None = default_cells p' (map (λ (x : ℕ × Ty). x.1) (static_layout p t))
      cells_or' (Some s) = s.cells

      by_option : (o : Option Statics) → cells_or' o ≡ maybe (default_cells p (map (λ (x : ℕ × Ty). x.1) (static_layout p t))) (λ (s : Statics). s.cells) o
      by_option None = default_cells_same p ms (map (λ (x : ℕ × Ty). x.1) (static_layout p t))
      by_option (Some s) = refl

  -- the frames of both runs, each with its twin
  abbrev pub Twins : List Frame → List Frame → Type 0
  Twins [] [] = Unit {0}
  Twins (h ∷ hs) (h' ∷ hs') = (ex : List Cell) × (h'.method ≡ h.method) × (h'.local ≡ grow ex h.local) × (length hs' ≡ length hs) × Twins hs hs'
  Twins hs hs' = ⊥

  pub twins : (b b' : Continuation) (fs fs' : List Frame) → below b b' fs fs' → Twins fs fs'
  twins b b' fs fs' (Under.bottom b1 c) = tt
  twins b b' fs fs' (Under.waits b1 h h' hs hs' c pair here on under) = (pair.extra, ap (λ (z : Frame). z.method) pair.same, ap (λ (z : Frame). z.local) pair.same, as_many p k ms g r h.continuation h'.continuation hs hs' under, twins h.continuation h'.continuation hs hs' under)
  twins b b' fs fs' (Under.begins h h' hs hs' pair first n n' under) = (pair.extra, ap (λ (z : Frame). z.method) pair.same, ap (λ (z : Frame). z.local) pair.same, as_many p k ms g r h.continuation h'.continuation hs hs' under, twins h.continuation h'.continuation hs hs' under)
  twins b b' fs fs' (Under.throws x q h h' hs hs' pair here t under) = (pair.extra, ap (λ (z : Frame). z.method) pair.same, ap (λ (z : Frame). z.local) pair.same, as_many p k ms g r h.continuation h'.continuation hs hs' under, twins h.continuation h'.continuation hs hs' under)

  abbrev arg_of : List ℕ → Option Frame → Option Value
  arg_of is o = option_and_then (λ (h : Frame). cell_in h.local.args is) o

  abbrev local_of : List ℕ → Option Frame → Option Value
  local_of is o = option_and_then (λ (h : Frame). cell_in h.local.locals is) o

  args_same : (fs fs' : List Frame) (n m : ℕ) (is : List ℕ) → Twins fs fs' → arg_of is (frame_at fs' n m) ≡ arg_of is (frame_at fs n m)
  args_same [] [] n m is t = refl
  args_same [] (h' ∷ hs') n m is t = absurd t
  args_same (h ∷ hs) [] n m is t = absurd t
  args_same (h ∷ hs) (h' ∷ hs') n m is t =
      ap (λ j. arg_of is (if n == j then (if h'.method == m then Some h' else None) else frame_at hs' n m)) t.3
      ∙ ap (λ j. arg_of is (if n == length hs then (if j == m then Some h' else None) else frame_at hs' n m)) t.1
      ∙ by_tests (args_same hs hs' n m is t.4) (n == length hs) (h.method == m)
    where
      by_tests : arg_of is (frame_at hs' n m) ≡ arg_of is (frame_at hs n m) → (a c : Bool) → arg_of is (if a then (if c then Some h' else None) else frame_at hs' n m) ≡ arg_of is (if a then (if c then Some h else None) else frame_at hs n m)
      by_tests ih true true = ap (λ (l : LocalState). cell_in l.args is) t.2
      by_tests ih true false = refl
      by_tests ih false c = ih

  locals_same : (fs fs' : List Frame) (n m i : ℕ) (is : List ℕ) → i < width m → valid fs → Twins fs fs' → local_of (i ∷ is) (frame_at fs' n m) ≡ local_of (i ∷ is) (frame_at fs n m)
  locals_same [] [] n m i is lt ok t = refl
  locals_same [] (h' ∷ hs') n m i is lt ok t = absurd t
  locals_same (h ∷ hs) [] n m i is lt ok t = absurd t
  locals_same (h ∷ hs) (h' ∷ hs') n m i is lt ok t =
      ap (λ j. local_of (i ∷ is) (if n == j then (if h'.method == m then Some h' else None) else frame_at hs' n m)) t.3
      ∙ ap (λ j. local_of (i ∷ is) (if n == length hs then (if j == m then Some h' else None) else frame_at hs' n m)) t.1
      ∙ by_tests (locals_same hs hs' n m i is lt ok.1 t.4) (n == length hs) (h.method == m) refl
    where
      by_tests : local_of (i ∷ is) (frame_at hs' n m) ≡ local_of (i ∷ is) (frame_at hs n m) → (a c : Bool) → (h.method == m) ≡ c → local_of (i ∷ is) (if a then (if c then Some h' else None) else frame_at hs' n m) ≡ local_of (i ∷ is) (if a then (if c then Some h else None) else frame_at hs n m)
      by_tests ih true true e =
          let same : width h.method ≡ width m = ap width (eqb-true h.method m e) in
          let within : i < length h.local.locals = omega (arith, lt, same, (ok.0).wide) in
          ap (λ (l : LocalState). cell_in l.locals (i ∷ is)) t.2 ∙ cell_left h.local.locals (h.local.captured ++ t.0) i is within
      by_tests ih true false e = refl
      by_tests ih false c e = ih

  -- what stands where a pointer leads is the same
  pub reads : (fs fs' : List Frame) (w : World) (ss : List Statics) (q : Pointer) → WellFormedPointer (Pairs.bounds p k ms g r) q → valid fs → Twins fs fs' → IsBeside w ss → read p' fs' (beside ss w) q ≡ read p fs w q
  reads fs fs' w ss (Arg n m i is) fine ok t bes = args_same fs fs' n m (i ∷ is) t
  reads fs fs' w ss (Local n m i is) fine ok t bes = locals_same fs fs' n m i is fine ok t
  reads fs fs' w ss (Inside o is) fine ok t bes = refl
  reads fs fs' w ss (Static t1 f1 is) fine ok t bes = ap (λ cs. cell_in cs (static_path p t1 f1 is)) (static_cells_same w ss t1 fine bes)

  pub reads_alike : (b b' : Continuation) (fs fs' : List Frame) (w : World) (ss : List Statics) (q : Pointer) → WellFormedPointer (Pairs.bounds p k ms g r) q → below b b' fs fs' → valid fs → IsBeside w ss → read p' fs' (beside ss w) q ≡ read p fs w q
  reads_alike b b' fs fs' w ss q fine under ok bes = reads fs fs' w ss q fine ok (twins b b' fs fs' under) bes

  -- ---- storing

  -- a change of a frame's places is the same change of its twin's
  pub record SameChange (m : ℕ) (go go' : LocalState → Option LocalState) : Type 0 where
    pub agree : (ex : List Cell) (l : LocalState) → length l.locals ≡ width m → go' (grow ex l) ≡ option_map (grow ex) (go l)
    pub keeps : (l l2 : LocalState) → go l ≡ Some l2 → KeepsPlaces l l2

  abbrev pub Changed : Continuation → Continuation → (n c : ℕ) → Option (List Frame) → Option (List Frame) → Type 0
  Changed b b' n c None None = Unit {0}
  Changed b b' n c (Some gs) (Some gs') = below b b' gs gs' × valid gs × (length gs ≡ n) × (Pairs.count_groups gs ≡ c)
  Changed b b' n c o o' = ⊥

  -- one frame with other places
  pub pair_changed : (q : ℕ) (h h' : Frame) (fs : List Frame) (l : LocalState) (pair : FramePair p k ms g r q h fs h') → KeepsPlaces h.local l → FramePair p k ms g r q (record h { local = l }) fs (record h' { local = grow pair.extra l })
  pair_changed q h h' fs l pair e =
      record {
        extra = pair.extra;
        same = ap (λ (z : Frame). record z { local = grow pair.extra l }) pair.same;
        keeps = record { wide = e.locals ∙ pair.keeps.wide; caps = e.captured ∙ pair.keeps.caps; typed = pair.keeps.typed; result = λ v h1. pair.keeps.result v (sym e.result ∙ h1); thrown = pair.keeps.thrown };
        waits = pair.waits;
      }

  pub stands_changed : (h : Frame) (fs : List Frame) (l : LocalState) → Pairs.Standing p k ms g r h fs → length l.locals ≡ length h.local.locals → Pairs.Standing p k ms g r (record h { local = l }) fs
  stands_changed h fs l s e = record { old = s.old; wide = e ∙ s.wide; fits = s.fits; initializes = s.initializes }

  pair_over : (q : ℕ) (h h' : Frame) (fs gs : List Frame) → length gs ≡ length fs → FramePair p k ms g r q h fs h' → FramePair p k ms g r q h gs h'
  pair_over q h h' fs gs e pair =
      record {
        extra = pair.extra;
        same = pair.same;
        keeps = record { wide = pair.keeps.wide; caps = pair.keeps.caps; typed = pair.keeps.typed ∙ ap (λ j. (r.marks h.method).extra (record { number = j; method = h.method; type_args = h.type_args; method_args = h.method_args })) (sym e); result = pair.keeps.result; thrown = pair.keeps.thrown };
        waits = pair.waits;
      }

  stands_over : (h : Frame) (fs gs : List Frame) → Pairs.Standing p k ms g r h fs → Pairs.Standing p k ms g r h gs
  stands_over h fs gs s = record { old = s.old; wide = s.wide; fits = s.fits; initializes = s.initializes }

  changed_top : (b b' : Continuation) (h h' : Frame) (hs hs' : List Frame) (ex : List Cell) (o : Option LocalState) → ((l : LocalState) → o ≡ Some l → below b b' (record h { local = l } ∷ hs) (record h' { local = grow ex l } ∷ hs') × Pairs.Standing p k ms g r (record h { local = l }) hs) → valid hs
      → Changed b b' (suc (length hs)) (Pairs.in_group h.at + Pairs.count_groups hs) (option_map (λ l. record h { local = l } ∷ hs) o) (option_map (λ l. record h' { local = l } ∷ hs') (option_map (grow ex) o))
  changed_top b b' h h' hs hs' ex None top ok = tt
  changed_top b b' h h' hs hs' ex (Some l) top ok = let t = top l refl in (t.0, (t.1, ok), refl, refl)

  changed_rest : (b b' : Continuation) (c c' : Continuation) (h h' : Frame) (hs hs' : List Frame) (o o' : Option (List Frame)) → ((gs gs' : List Frame) → below c c' gs gs' → length gs ≡ length hs → below b b' (h ∷ gs) (h' ∷ gs')) → Pairs.Standing p k ms g r h hs → Changed c c' (length hs) (Pairs.count_groups hs) o o'
      → Changed b b' (suc (length hs)) (Pairs.in_group h.at + Pairs.count_groups hs) (option_map (λ rest. h ∷ rest) o) (option_map (λ rest. h' ∷ rest) o')
  changed_rest b b' c c' h h' hs hs' None None rest s x = tt
  changed_rest b b' c c' h h' hs hs' (Some gs) (Some gs') rest s x = (rest gs gs' x.0 x.2, (stands_over h hs gs s, x.1), ap suc x.2, ap (λ y. Pairs.in_group h.at + y) x.3)
  changed_rest b b' c c' h h' hs hs' None (Some gs') rest s x = absurd x
  changed_rest b b' c c' h h' hs hs' (Some gs) None rest s x = absurd x

  framed_cons : (b b' : Continuation) (q : ℕ) (h h' : Frame) (hs hs' : List Frame) (n m : ℕ) (go go' : LocalState → Option LocalState) (pair : FramePair p k ms g r q h hs h') → SameChange m go go' → Pairs.Standing p k ms g r h hs → valid hs → length hs' ≡ length hs
      → ((l : LocalState) → KeepsPlaces h.local l → below b b' (record h { local = l } ∷ hs) (record h' { local = grow pair.extra l } ∷ hs')) → ((gs gs' : List Frame) → below h.continuation h'.continuation gs gs' → length gs ≡ length hs → below b b' (h ∷ gs) (h' ∷ gs'))
      → Changed h.continuation h'.continuation (length hs) (Pairs.count_groups hs) (in_frame hs n m go) (in_frame hs' n m go') → Changed b b' (suc (length hs)) (Pairs.in_group h.at + Pairs.count_groups hs) (in_frame (h ∷ hs) n m go) (in_frame (h' ∷ hs') n m go')
  framed_cons b b' q h h' hs hs' n m go go' pair ch st ok many top rest ih =
      subst (λ z. Changed b b' (suc (length hs)) (Pairs.in_group h.at + Pairs.count_groups hs) (in_frame (h ∷ hs) n m go) z) (sym (ap (λ j. if n == j then (if h'.method == m then changed_h else None) else below_h) many ∙ ap (λ j. if n == length hs then (if j == m then changed_h else None) else below_h) (ap (λ (z : Frame). z.method) pair.same)))
      (by_tests (n == length hs) (h.method == m) refl)
    where
      changed_h : Option (List Frame)
      changed_h = option_map (λ l. record h' { local = l } ∷ hs') (go' h'.local)

      below_h : Option (List Frame)
      below_h = option_map (λ rest1. h' ∷ rest1) (in_frame hs' n m go')

      by_tests : (a c : Bool) → (h.method == m) ≡ c → Changed b b' (suc (length hs)) (Pairs.in_group h.at + Pairs.count_groups hs) (if a then (if c then option_map (λ l. record h { local = l } ∷ hs) (go h.local) else None) else option_map (λ rest1. h ∷ rest1) (in_frame hs n m go)) (if a then (if c then changed_h else None) else below_h)
      by_tests true true e =
          let wide : length h.local.locals ≡ width m = st.wide ∙ ap width (eqb-true h.method m e) in
          let e2 = ap go' (ap (λ (z : Frame). z.local) pair.same) ∙ ch.agree pair.extra h.local wide in
          subst (λ o. Changed b b' (suc (length hs)) (Pairs.in_group h.at + Pairs.count_groups hs) (option_map (λ l. record h { local = l } ∷ hs) (go h.local)) (option_map (λ l. record h' { local = l } ∷ hs') o)) (sym e2)
          (changed_top b b' h h' hs hs' pair.extra (go h.local) (λ l s. let kk = ch.keeps h.local l s in (top l kk, stands_changed h hs l st kk.locals)) ok)
      by_tests true false e = tt
      by_tests false c e = changed_rest b b' h.continuation h'.continuation h h' hs hs' (in_frame hs n m go) (in_frame hs' n m go') rest st ih

  pub framed : (b b' : Continuation) (fs fs' : List Frame) (n m : ℕ) (go go' : LocalState → Option LocalState) → below b b' fs fs' → valid fs → SameChange m go go' → Changed b b' (length fs) (Pairs.count_groups fs) (in_frame fs n m go) (in_frame fs' n m go')
  framed b b' fs fs' n m go go' (Under.bottom b1 c) ok ch = tt
  framed b b' fs fs' n m go go' (Under.waits b1 h h' hs hs' c pair here on under) ok ch =
      framed_cons b1 b1 _ h h' hs hs' n m go go' pair ch ok.0 ok.1 (as_many p k ms g r h.continuation h'.continuation hs hs' under)
      (λ l e. Under.waits b1 (record h { local = l }) (record h' { local = grow pair.extra l }) hs hs' c (pair_changed _ h h' hs l pair e) here on under)
      (λ gs gs' u e. Under.waits b1 h h' gs gs' c (pair_over _ h h' hs gs e pair) here on u)
      (framed h.continuation h'.continuation hs hs' n m go go' under ok.1 ch)
  framed b b' fs fs' n m go go' (Under.begins h h' hs hs' pair first n1 n2 under) ok ch =
      framed_cons _ _ _ h h' hs hs' n m go go' pair ch ok.0 ok.1 (as_many p k ms g r h.continuation h'.continuation hs hs' under)
      (λ l e. Under.begins (record h { local = l }) (record h' { local = grow pair.extra l }) hs hs' (pair_changed _ h h' hs l pair e) first n1 n2 under)
      (λ gs gs' u e. Under.begins h h' gs gs' (pair_over _ h h' hs gs e pair) first n1 n2 u)
      (framed h.continuation h'.continuation hs hs' n m go go' under ok.1 ch)
  framed b b' fs fs' n m go go' (Under.throws x q h h' hs hs' pair here t under) ok ch =
      framed_cons _ _ _ h h' hs hs' n m go go' pair ch ok.0 ok.1 (as_many p k ms g r h.continuation h'.continuation hs hs' under)
      (λ l e. Under.throws x q (record h { local = l }) (record h' { local = grow pair.extra l }) hs hs' (pair_changed _ h h' hs l pair e) here (record { belongs = t.belongs; in_group = t.in_group; next = record { thrower = t.next.thrower; belongs = t.next.belongs; throws = t.next.throws } }) under)
      (λ gs gs' u e. Under.throws x q h h' gs gs' (pair_over _ h h' hs gs e pair) here t u)
      (framed h.continuation h'.continuation hs hs' n m go go' under ok.1 ch)

  by_frames : (b b' : Continuation) (w : World) (ss : List Statics) (n c : ℕ) (o o' : Option (List Frame)) → IsBeside w ss → Changed b b' n c o o' → Steps.Stored p k ms g r b b' n c w (option_map (λ gs. (gs, w)) o) (option_map (λ gs. (gs, beside ss w)) o')
  by_frames b b' w ss n c None None bes z = tt
  by_frames b b' w ss n c (Some gs) (Some gs') bes z = (z.0, z.1, ss, bes, refl, refl, z.2, z.3)
  by_frames b b' w ss n c None (Some gs') bes z = absurd z
  by_frames b b' w ss n c (Some gs) None bes z = absurd z

  args_change : (m : ℕ) (is : List ℕ) (v : Value) → SameChange m (set_args p is v) (set_args p' is v)
  args_change m is v =
      record {
        agree = λ ex l e. ap (option_map (λ cs. record (grow ex l) { args = cs })) (set_in_same p ms is v l.args) ∙ by_option ex l (set_in p is v l.args);
        keeps = λ l l2 e. kept l l2 (set_in p is v l.args) e;
      }
    where
      by_option : (ex : List Cell) (l : LocalState) (o : Option (List Cell)) → option_map (λ cs. record (grow ex l) { args = cs }) o ≡ option_map (grow ex) (option_map (λ cs. record l { args = cs }) o)
      by_option ex l None = refl
      by_option ex l (Some cs) = refl

      kept : (l l2 : LocalState) (o : Option (List Cell)) → option_map (λ cs. record l { args = cs }) o ≡ Some l2 → KeepsPlaces l l2
      kept l l2 None e = absurd (cc e)
      kept l l2 (Some cs) e = let z : record l { args = cs } ≡ l2 = cc e in record { result = ap (λ (y : LocalState). y.result) (sym z); locals = ap (λ (y : LocalState). length y.locals) (sym z); captured = ap (λ (y : LocalState). length y.captured) (sym z) }

  locals_change : (m i : ℕ) (is : List ℕ) (v : Value) → i < width m → SameChange m (set_locals p (i ∷ is) v) (set_locals p' (i ∷ is) v)
  locals_change m i is v lt =
      record {
        agree = λ ex l e.
            let within : i < length l.locals = omega (arith, lt, e) in
            ap (option_map (λ cs. record (grow ex l) { locals = cs })) (set_in_same p ms (i ∷ is) v (l.locals ++ (l.captured ++ ex)) ∙ set_left p ms l.locals (l.captured ++ ex) i is v within) ∙ by_option ex l (set_in p (i ∷ is) v l.locals);
        keeps = λ l l2 e. kept l l2 (option_and_then (write_cell p is v) (slice_get l.locals i)) e;
      }
    where
      by_option : (ex : List Cell) (l : LocalState) (o : Option (List Cell)) → option_map (λ cs. record (grow ex l) { locals = cs }) (option_map (λ xs. xs ++ (l.captured ++ ex)) o) ≡ option_map (grow ex) (option_map (λ cs. record l { locals = cs }) o)
      by_option ex l None = refl
      by_option ex l (Some cs) = refl

      kept : (l l2 : LocalState) (o : Option Cell) → option_map (λ cs. record l { locals = cs }) (option_map (slice_set l.locals i) o) ≡ Some l2 → KeepsPlaces l l2
      kept l l2 None e = absurd (cc e)
      kept l l2 (Some c) e = let z : record l { locals = slice_set l.locals i c } ≡ l2 = cc e in record { result = ap (λ (y : LocalState). y.result) (sym z); locals = ap (λ (y : LocalState). length y.locals) (sym z) ∙ length-set l.locals i c; captured = ap (λ (y : LocalState). length y.captured) (sym z) }

  abbrev statics_of : Ty → List Cell → Option Statics → Statics
  statics_of t cs o = maybe (record { owner = t; init = None; cells = cs }) (λ (s : Statics). record s { cells = cs }) o

  statics_owner : (t : Ty) (cs : List Cell) (o : Option Statics) → ((s : Statics) → o ≡ Some s → same_ty s.owner t ≡ true) → Rattle.machine_laws.specs.Answers.is_below r.types t ≡ true → Rattle.machine_laws.specs.Answers.is_below r.types (statics_of t cs o).owner ≡ true
  statics_owner t cs None h a = a
  statics_owner t cs (Some s) h a = Rattle.splice_facts.proofs.StaticLaws.same_below r.types s.owner t (h s refl) ∙ a

  statics_failure : (n : ℕ) (t : Ty) (cs : List Cell) (o : Option Statics) → ((s : Statics) → o ≡ Some s → FailureThere n s.init) → FailureThere n (statics_of t cs o).init
  statics_failure n t cs None h = tt
  statics_failure n t cs (Some s) h = h s refl

  pub static_beside : (t : Ty) (cs : List Cell) (w : World) (ss : List Statics) → Rattle.machine_laws.specs.Answers.is_below r.types t ≡ true → IsBeside w ss → IsBeside (set_static w t cs) (set_statics (same_ty t) (statics_of t cs (find_statics t ss)) ss)
  static_beside t cs w ss a bes =
      set_beside p k ms g r t (statics_of t cs (find_statics t w.statics)) (statics_of t cs (find_statics t ss)) w ss (ap (statics_of t cs) (find_beside p k ms g r t w ss a bes)) a (statics_owner t cs (find_statics t w.statics) (Unwinding.found_owner t w.statics) a) (statics_failure (length w.heap) t cs (find_statics t w.statics) (λ s e. found_failure (length w.heap) t w.statics s bes.failures e)) bes

  object_beside : (k1 : ℕ) (cs : List Cell) (w : World) (ss : List Statics) → set_object (beside ss w) k1 cs ≡ beside ss (set_object w k1 cs)
  object_beside zero cs w ss = refl
  object_beside (suc k1) cs w ss = refl

  as_long : (k1 : ℕ) (cs : List Cell) (w : World) → length (set_object w k1 cs).heap ≡ length w.heap
  as_long zero cs w = refl
  as_long (suc k1) cs w = by_object (slice_get w.heap k1)
    where
      by_object : (o : Option Object) → length (maybe w.heap (λ (x : Object). Rattle.std.specs.Prelude.slice_set w.heap k1 (record x { cells = cs })) o) ≡ length w.heap
      by_object None = refl
      by_object (Some x) = set_long w.heap k1 (record x { cells = cs })

  object_keeps : (k1 : ℕ) (cs : List Cell) (w : World) (ss : List Statics) → IsBeside w ss → IsBeside (set_object w k1 cs) ss × ((set_object w k1 cs).depth ≡ w.depth)
  object_keeps zero cs w ss bes = (bes, refl)
  object_keeps (suc k1) cs w ss bes =
      (record { statics = bes.statics; depth = bes.depth; bare = bes.bare; failures = subst (λ n. FailuresThere n w.statics) (sym (as_long (suc k1) cs w)) bes.failures }, refl)

  pub writes : (b b' : Continuation) (fs fs' : List Frame) (w : World) (ss : List Statics) (q : Pointer) (v : Value) → WellFormedPointer (Pairs.bounds p k ms g r) q → below b b' fs fs' → valid fs → IsBeside w ss → Steps.Stored p k ms g r b b' (length fs) (Pairs.count_groups fs) w (write p fs w q v) (write p' fs' (beside ss w) q v)
  writes b b' fs fs' w ss (Arg n m i is) v fine u ok bes = by_frames b b' w ss (length fs) (Pairs.count_groups fs) _ _ bes (framed b b' fs fs' n m _ _ u ok (args_change m (i ∷ is) v))
  writes b b' fs fs' w ss (Local n m i is) v fine u ok bes = by_frames b b' w ss (length fs) (Pairs.count_groups fs) _ _ bes (framed b b' fs fs' n m _ _ u ok (locals_change m i is v fine))
  writes b b' fs fs' w ss (Inside k1 is) v fine u ok bes = by_object (object_at w k1)
    where
      by_cells : (o : Option (List Cell)) → Steps.Stored p k ms g r b b' (length fs) (Pairs.count_groups fs) w (option_map (λ cs. (fs, set_object w k1 cs)) o) (option_map (λ cs. (fs', set_object (beside ss w) k1 cs)) o)
      by_cells None = tt
      by_cells (Some cs) = let kk = object_keeps k1 cs w ss bes in (u, ok, ss, kk.0, object_beside k1 cs w ss, kk.1, refl, refl)

      by_object : (o : Option Object) → Steps.Stored p k ms g r b b' (length fs) (Pairs.count_groups fs) w (option_and_then (λ (x : Object). option_map (λ cs. (fs, set_object w k1 cs)) (set_in p is v x.cells)) o) (option_and_then (λ (x : Object). option_map (λ cs. (fs', set_object (beside ss w) k1 cs)) (set_in p' is v x.cells)) o)
      by_object None = tt
      by_object (Some x) =
          subst (λ z. Steps.Stored p k ms g r b b' (length fs) (Pairs.count_groups fs) w (option_map (λ cs. (fs, set_object w k1 cs)) (set_in p is v x.cells)) (option_map (λ cs. (fs', set_object (beside ss w) k1 cs)) z)) (sym (set_in_same p ms is v x.cells)) (by_cells (set_in p is v x.cells))
  writes b b' fs fs' w ss (Static t f1 is) v fine u ok bes =
      subst (λ z. Steps.Stored p k ms g r b b' (length fs) (Pairs.count_groups fs) w (option_map (λ cs. (fs, set_static w t cs)) (set_in p (static_path p t f1 is) v (static_cells p w t))) (option_map (λ cs. (fs', set_static (beside ss w) t cs)) z))
      (sym (set_in_same p ms (static_path p t f1 is) v (static_cells p' (beside ss w) t) ∙ ap (set_in p (static_path p t f1 is) v) (static_cells_same w ss t fine bes)))
      (by_cells (set_in p (static_path p t f1 is) v (static_cells p w t)))
    where
      by_cells : (o : Option (List Cell)) → Steps.Stored p k ms g r b b' (length fs) (Pairs.count_groups fs) w (option_map (λ cs. (fs, set_static w t cs)) o) (option_map (λ cs. (fs', set_static (beside ss w) t cs)) o)
      by_cells None = tt
      by_cells (Some cs) = (u, ok, set_statics (same_ty t) (statics_of t cs (find_statics t ss)) ss, static_beside t cs w ss fine bes, refl, refl, refl, refl)
