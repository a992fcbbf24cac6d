-- A store through a pointer leaves frames and world that refer to objects that are there.
use Rattle.std.proofs.Common.{◌≡◌, ℕ, zero, suc, Bool, true, false, List, [], ◌∷◌, length, Option, Some, None, refl, ◌∙◌, subst}
use Rattle.std.specs.Prelude.{◌==◌, if◌then◌else◌, option_map, option_and_then, slice_get, slice_set}
use Rattle.cil_model.specs.declared.ty.Ty.{Ty}
use Rattle.cil_model.specs.declared.value.Value.{Value}
use Rattle.cil_model.specs.declared.value.Pointer.{Pointer}
use Rattle.cil_model.specs.declared.value.Pointer.TheVariants.{Arg, Local, Inside, Static}
use Rattle.cil_model.specs.declared.program.Program.{Program}
use Rattle.cil_semantics.specs.Words.{maybe}
use Rattle.cil_semantics.specs.Types.{same_ty}
use Rattle.cil_semantics.specs.declared.state.Cell.{Cell}
use Rattle.cil_semantics.specs.declared.state.Object.{Object}
use Rattle.cil_semantics.specs.declared.state.Statics.{Statics}
use Rattle.cil_semantics.specs.declared.state.World.{World}
use Rattle.cil_semantics.specs.declared.state.Local.{Local as LocalState}
use Rattle.cil_semantics.specs.declared.state.Frame.{Frame}
use Rattle.cil_semantics.specs.State.{object_at}
use Rattle.cil_semantics.specs.Unwind.{set_statics, find_statics}
use Rattle.cil_semantics.specs.Frames.{in_frame, set_in, set_args, set_locals, set_object, set_static, static_cells, static_path, write}
use Rattle.splice_facts.specs.Exceptions.{FailureThere}
use Rattle.splice_facts.proofs.ExceptionLaws.{set_long}
use Rattle.object_validity.specs.Known.{KnownValue, KnownCells, KnownLocal, KnownObjects, KnownStatics, KnownWorld, KnownFrames}
use Rattle.object_validity.proofs.StoredLaws.{object_fine, static_cells_fine}
use Rattle.object_validity.proofs.ChangeLaws.{set_keeps}
use Rattle.object_validity.proofs.MoveLaws.{statics_set}

module _ (b : ℕ) where
  frames_set : (fs gs : List Frame) (n m : ℕ) (go : LocalState → Option LocalState) → ((l l2 : LocalState) → KnownLocal b l → go l ≡ Some l2 → KnownLocal b l2) → KnownFrames b fs → in_frame fs n m go ≡ Some gs → KnownFrames b gs
  frames_set [] gs n m go h ks e = absurd (cc e)
  frames_set (f ∷ fs) gs n m go h ks e = by_tests (λ rest q. frames_set fs rest n m go h ks.1 q) (n == length fs) (f.method == m) e
    where
      at_top : (o : Option LocalState) → ((l : LocalState) → o ≡ Some l → KnownLocal b l) → option_map (λ l. record f { local = l } ∷ fs) o ≡ Some gs → KnownFrames b gs
      at_top None ch q = absurd (cc q)
      at_top (Some l) ch q = let z : (record f { local = l } ∷ fs) ≡ gs = cc q in subst (KnownFrames b) z (record { local = ch l refl; handling = (ks.0).handling; thrown = (ks.0).thrown; back = (ks.0).back }, ks.1)

      behind : ((rest : List Frame) → in_frame fs n m go ≡ Some rest → KnownFrames b rest) → (o : Option (List Frame)) → in_frame fs n m go ≡ o → option_map (λ rest. f ∷ rest) o ≡ Some gs → KnownFrames b gs
      behind more None s q = absurd (cc q)
      behind more (Some rest) s q = let z : (f ∷ rest) ≡ gs = cc q in subst (KnownFrames b) z (ks.0, more rest s)

      by_tests : ((rest : List Frame) → in_frame fs n m go ≡ Some rest → KnownFrames b rest) → (s t : Bool) → (if s then (if t then option_map (λ l. record f { local = l } ∷ fs) (go f.local) else None) else option_map (λ rest. f ∷ rest) (in_frame fs n m go)) ≡ Some gs → KnownFrames b gs
      by_tests more true true q = at_top (go f.local) (λ l s. h f.local l (ks.0).local s) q
      by_tests more true false q = absurd (cc q)
      by_tests more false t q = behind more (in_frame fs n m go) refl q

  module _ (p : Program) where
    args_set : (is : List ℕ) (v : Value) (l l2 : LocalState) → KnownValue b v → KnownLocal b l → set_args p is v l ≡ Some l2 → KnownLocal b l2
    args_set is v l l2 kv kl e = by_cells (set_in p is v l.args) refl e
      where
        with_args : List Cell → LocalState
        with_args cs = record l { args = cs }

        by_cells : (o : Option (List Cell)) → set_in p is v l.args ≡ o → option_map (λ cs. with_args cs) o ≡ Some l2 → KnownLocal b l2
        by_cells None s q = absurd (cc q)
        by_cells (Some cs) s q = let z : with_args cs ≡ l2 = cc q in subst (KnownLocal b) z (record { args = set_keeps b p is v l.args cs kv kl.args s; locals = kl.locals; captured = kl.captured; result = kl.result; stack = kl.stack })

    locals_set : (is : List ℕ) (v : Value) (l l2 : LocalState) → KnownValue b v → KnownLocal b l → set_locals p is v l ≡ Some l2 → KnownLocal b l2
    locals_set is v l l2 kv kl e = by_cells (set_in p is v l.locals) refl e
      where
        with_locals : List Cell → LocalState
        with_locals cs = record l { locals = cs }

        by_cells : (o : Option (List Cell)) → set_in p is v l.locals ≡ o → option_map (λ cs. with_locals cs) o ≡ Some l2 → KnownLocal b l2
        by_cells None s q = absurd (cc q)
        by_cells (Some cs) s q = let z : with_locals cs ≡ l2 = cc q in subst (KnownLocal b) z (record { args = kl.args; locals = set_keeps b p is v l.locals cs kv kl.locals s; captured = kl.captured; result = kl.result; stack = kl.stack })

    -- what a write leaves
    pub record Left (x : List Frame × World) : Type 0 where
      pub frames : KnownFrames b x.0
      pub world : KnownWorld b x.1

    objects_set : (os : List Object) (i : ℕ) (o : Object) → KnownObjects b os → KnownCells b o.cells → KnownObjects b (slice_set os i o)
    objects_set [] i o h c = tt
    objects_set (x ∷ xs) zero o h c = (c, h.1)
    objects_set (x ∷ xs) (suc i) o h c = (h.0, objects_set xs i o h.1 c)

    object_set : (w : World) (j : ℕ) (cs : List Cell) → KnownWorld b w → KnownCells b cs → KnownWorld b (set_object w j cs)
    object_set w zero cs kw kc = kw
    object_set w (suc j) cs kw kc = by_object (slice_get w.heap j)
      where
        by_object : (o : Option Object) → KnownWorld b (record w { heap = maybe w.heap (λ (x : Object). slice_set w.heap j (record x { cells = cs })) o })
        by_object None = record { count = kw.count; heap = kw.heap; statics = kw.statics }
        by_object (Some x) = record { count = set_long w.heap j (record x { cells = cs }) ∙ kw.count; heap = objects_set w.heap j (record x { cells = cs }) kw.heap kc; statics = kw.statics }

    pub init_found : (t : Ty) (ss : List Statics) (s : Statics) → KnownStatics b ss → find_statics t ss ≡ Some s → FailureThere b s.init
    init_found t [] s h e = absurd (cc e)
    init_found t (x ∷ xs) s h e = by_test (λ q. init_found t xs s h.2 q) (same_ty x.owner t) e
      where
        by_test : (find_statics t xs ≡ Some s → FailureThere b s.init) → (c : Bool) → (if c then Some x else find_statics t xs) ≡ Some s → FailureThere b s.init
        by_test more true q = let z : x ≡ s = cc q in subst (λ (y : Statics). FailureThere b y.init) z h.0
        by_test more false q = more q

    static_set : (w : World) (t : Ty) (cs : List Cell) → KnownWorld b w → KnownCells b cs → KnownWorld b (set_static w t cs)
    static_set w t cs kw kc = by_found (find_statics t w.statics) (λ s e. init_found t w.statics s kw.statics e)
      where
        by_found : (o : Option Statics) → ((s : Statics) → o ≡ Some s → FailureThere b s.init) → KnownWorld b (record w { statics = set_statics (same_ty t) (maybe (record { owner = t; init = None; cells = cs }) (λ (s : Statics). record s { cells = cs }) o) w.statics })
        by_found None f = record { count = kw.count; heap = kw.heap; statics = statics_set b (same_ty t) (record { owner = t; init = None; cells = cs }) w.statics kw.statics tt kc }
        by_found (Some s) f = record { count = kw.count; heap = kw.heap; statics = statics_set b (same_ty t) (record s { cells = cs }) w.statics kw.statics (f s refl) kc }

    through_frames : (o : Option (List Frame)) (w : World) (x : List Frame × World) → ((gs : List Frame) → o ≡ Some gs → KnownFrames b gs) → KnownWorld b w → option_map (λ gs. (gs, w)) o ≡ Some x → Left x
    through_frames None w x h kw e = absurd (cc e)
    through_frames (Some gs) w x h kw e = let z : (gs, w) ≡ x = cc e in subst Left z (record { frames = h gs refl; world = kw })

    through_world : (o : Option (List Cell)) (fs : List Frame) (go : List Cell → World) (x : List Frame × World) → ((cs : List Cell) → o ≡ Some cs → KnownWorld b (go cs)) → KnownFrames b fs → option_map (λ cs. (fs, go cs)) o ≡ Some x → Left x
    through_world None fs go x h ks e = absurd (cc e)
    through_world (Some cs) fs go x h ks e = let z : (fs, go cs) ≡ x = cc e in subst Left z (record { frames = ks; world = h cs refl })

    pub write_known : (fs : List Frame) (w : World) (q : Pointer) (v : Value) (x : List Frame × World) → KnownFrames b fs → KnownWorld b w → KnownValue b v → write p fs w q v ≡ Some x → Left x
    write_known fs w (Arg n m i is) v x ks kw kv e = through_frames (in_frame fs n m (set_args p (i ∷ is) v)) w x (λ gs q. frames_set fs gs n m (set_args p (i ∷ is) v) (λ l l2 kl s. args_set (i ∷ is) v l l2 kv kl s) ks q) kw e
    write_known fs w (Local n m i is) v x ks kw kv e = through_frames (in_frame fs n m (set_locals p (i ∷ is) v)) w x (λ gs q. frames_set fs gs n m (set_locals p (i ∷ is) v) (λ l l2 kl s. locals_set (i ∷ is) v l l2 kv kl s) ks q) kw e
    write_known fs w (Inside j is) v x ks kw kv e = by_object (object_at w j) refl e
      where
        by_object : (o : Option Object) → object_at w j ≡ o → option_and_then (λ (o : Object). option_map (λ cs. (fs, set_object w j cs)) (set_in p is v o.cells)) o ≡ Some x → Left x
        by_object None s q = absurd (cc q)
        by_object (Some y) s q = through_world (set_in p is v y.cells) fs (λ cs. set_object w j cs) x (λ cs z. object_set w j cs kw (set_keeps b p is v y.cells cs kv (object_fine b w j y kw.heap s) z)) ks q
    write_known fs w (Static t f is) v x ks kw kv e =
        through_world (set_in p (static_path p t f is) v (static_cells p w t)) fs (λ cs. set_static w t cs) x (λ cs z. static_set w t cs kw (set_keeps b p (static_path p t f is) v (static_cells p w t) cs kv (static_cells_fine b p w t kw.statics) z)) ks e
