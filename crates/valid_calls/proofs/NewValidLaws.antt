-- newobj: what is made is well formed, and a constructor's frame goes on over frames that wait for it.
use Rattle.std.proofs.Common.{◌≡◌, ℕ, suc, ◌<◌, ◌≤◌, Bool, true, false, List, [], ◌∷◌, length, Option, Some, None, refl, sym, ◌∙◌, subst}
use Rattle.std.specs.Prelude.{is_some, if◌then◌else◌, map, IsTrue, codes}
use Rattle.cil_model.specs.declared.ty.Ty.{Ty, out-Ty}
use Rattle.cil_model.specs.declared.value.Value.{Value, Obj, Text}
use Rattle.cil_model.specs.declared.contract.Contracts.{Contracts}
use Rattle.cil_model.specs.declared.program.Program.{Program}
use Rattle.cil_model.specs.declared.program.MethodDesc.{MethodDesc}
use Rattle.cil_model.specs.declared.run.ReplyResult.{ReplyResult}
use Rattle.cil_model.specs.declared.run.ReplyResult.TheVariants as reply
use Rattle.cil_semantics.specs.Words.{maybe}
use Rattle.cil_semantics.specs.Core.{Name, class_named}
use Rattle.cil_semantics.specs.Lookups.{is_sub, method_of, args_of}
use Rattle.cil_semantics.specs.Places.{storage, is_reference, default_cells, default_value, layout}
use Rattle.cil_semantics.specs.declared.state.Cell.{Cell}
use Rattle.cil_semantics.specs.declared.state.Object.{Object}
use Rattle.cil_semantics.specs.declared.state.World.{World}
use Rattle.cil_semantics.specs.declared.state.Frame.{Frame}
use Rattle.cil_semantics.specs.declared.state.Continuation.TheVariants.{Push, PushObject, PushStruct}
use Rattle.cil_semantics.specs.State.{Next, next_object, with_object}
use Rattle.cil_semantics.specs.Frames.{stuck, stored_args, enter, enter_struct}
use Rattle.cil_semantics.specs.Returns.{push_below}
use Rattle.cil_semantics.specs.Outside.{by_ref_args, stored_back, Answer, Returned, Threw, Unfit, next_reply, Member, member_of, recorded, thrown_out, is_outside, Made, MadeValue, MadeObject, is_string, made, with_made, new_result, making, ask_new}
use Rattle.cil_semantics.specs.Calls.{CoreMember, Constructor, core_of, makes_delegate, delegate_cells, new_object, pushes_new, use_answer, make_core, make_own, make_outside, without_this, make}
use Rattle.cil_semantics.specs.Checks.{AddedNumbers}
use Rattle.machine_laws.specs.Answers.{is_below}
use Rattle.splice_facts.specs.WellFormed.{Bounds, NoneVoid, WellFormedValue, WellFormedValues, WellFormedCells, WellFormedIf, WellFormedWorld, WellFormedObject}
use Rattle.splice_facts.specs.Input.{top_of}
use Rattle.splice_facts.specs.Related.{Rewritten, HasHeight, bounds, count_groups}
use Rattle.splice_facts.specs.Related as Pairs
use Rattle.simulation_steps.specs.Outside.{WellFormedRefs, values_of}
use Rattle.simulation_objects.proofs.RefLaws.{refs_there}
use Rattle.simulation_objects.proofs.StoredLaws.{default_fine, defaults_fine}
use Rattle.simulation_valid.specs.Keeping.{StaysValid}
use Rattle.simulation_valid.specs.Changes.{Written}
use Rattle.simulation_valid.specs.Steps.{MayEnter, AfterCall}
use Rattle.simulation_valid.proofs.WorldLaws.{object_added, class_typed}
use Rattle.simulation_valid.proofs.ChangeLaws.{valid_changed, returns_changed, tails_changed, next_changed, placed_changed, same_count}
use Rattle.simulation_valid.proofs.UnwindValidLaws.{unwinds}
use Rattle.simulation_valid.proofs.PushValidLaws.{pushes_valid}
use Rattle.simulation_valid.proofs.AskValidLaws.{stores_back, told}
use Rattle.simulation_valid.proofs.EnterValidLaws.{enters_valid, enters_struct_valid}
use Rattle.valid_calls.specs.Members.{MayMake}

pub delegate_fine : (b : Bounds) (values : List Value) → WellFormedValues b values → WellFormedCells b (delegate_cells values)
delegate_fine b [] h = tt
delegate_fine b (v ∷ vs) h = (h.0, delegate_fine b vs h.1)

module _ (p : Program) (k : Contracts) (ms : List MethodDesc) (g : AddedNumbers) (r : Rewritten p k ms g) where
  abbrev Stays : Next → Type 0
  Stays x = StaysValid p k ms g r x

  abbrev Bs : Bounds
  Bs = bounds p k ms g r

  -- a new one is pushed at once
  pushes_made : (o : Object) (fs : List Frame) (w : World) → WellFormedObject Bs o → MayMake p k ms g r fs w → Stays (push_below p k (Some (Obj (next_object w))) fs (with_object p o w))
  pushes_made o fs w fine c =
      pushes_valid p k ms g r (Some (Obj (next_object w))) fs (with_object p o w) (record { others = c.tail.others; returning = c.tail.returning; heights = c.tail.heights; world = object_added Bs p o w fine c.world; count = c.count; deep = c.deep }) tt c.next

  makes_core : (x : CoreMember) (t : Ty) (fs : List Frame) (w : World) (other : Next) → NoneVoid p (args_of t) → MayMake p k ms g r fs w → Stays other → Stays (make_core p k (pushes_new p k) x t fs w other)
  makes_core Constructor t fs w other na c o = pushes_made (new_object t []) fs w (na, tt) c
  makes_core _ t fs w other na c o = o

  -- ---- outside

  -- a new value, with frames and world as the call leaves them
  abbrev pub NewAnswer : List Frame → World → Answer → Type 0
  NewAnswer fs w (Returned v gs w2) = AfterCall p k ms g r fs w gs w2 × WellFormedIf Bs v × (length (top_of v) ≡ 1)
  NewAnswer fs w (Threw x gs w2) = AfterCall p k ms g r fs w gs w2
  NewAnswer fs w (Unfit w2) = Unit {0}

  abbrev Fresh : World → Made → Type 0
  Fresh w x = WellFormedValue Bs (with_made p x w).0 × WellFormedWorld Bs (with_made p x w).1 × ((with_made p x w).1.depth ≡ w.depth)

  fresh : (t : Ty) (w : World) → NoneVoid p (args_of t) → WellFormedWorld Bs w → Fresh w (made p t)
  unfolding made
  fresh t w na ok = by_tests (is_string (out-Ty t)) (is_reference (storage p t))
    where
      object : Object
      object = record { ty = t; cells = default_cells p (map (λ (x : ℕ × Ty). x.1) (layout p t)) }

      by_tests : (a b : Bool) → Fresh w (if a then MadeValue (Text []) else if b then MadeObject object else MadeValue (default_value p t))
      by_tests true b = (tt, ok, refl)
      by_tests false true = (tt, object_added Bs p object w (na, defaults_fine Bs p (map (λ (x : ℕ × Ty). x.1) (layout p t))) ok, refl)
      by_tests false false = (default_fine Bs p 1001 t, ok, refl)

  new_told : (t : Ty) (m : Member) (values : List Value) (reply : Value → ReplyResult) (back : List Value) (fs : List Frame) (w : World) (x : List Frame × World) → NoneVoid p (args_of t) → WellFormedWorld Bs w → Written Bs p fs w x
      → NewAnswer fs w (Returned (Some (with_made p (made p t) x.1).0) x.0 (recorded m values (reply (with_made p (made p t) x.1).0) back (with_made p (made p t) x.1).1))
  new_told t m values reply back fs w x na ok a =
      let f = fresh t x.1 na (a.world ok) in
      (record { frames = a.frames; world = record { heap = f.1.heap; statics = f.1.statics }; depth = f.2 ∙ a.depth }, f.0, refl)

  throws_out : (name : Name) (fs gs : List Frame) (w w2 u : World) → AfterCall p k ms g r fs w gs w2 → NewAnswer fs w (thrown_out p name gs w2 (Unfit u))
  throws_out name fs gs w w2 u a = by_test (is_sub p (class_named name) (class_named (codes "System.Exception")))
    where
      by_test : (c : Bool) → NewAnswer fs w (if c then Threw (next_object w2) gs (with_object p (record { ty = class_named name; cells = [] }) w2) else Unfit u)
      by_test true = record { frames = a.frames; world = object_added Bs p (record { ty = class_named name; cells = [] }) w2 (class_typed Bs name, tt) a.world; depth = a.depth }
      by_test false = tt

  results : (t : Ty) (m : Member) (values : List Value) (res : ReplyResult) (back : List Value) (fs : List Frame) (w u : World) (x : List Frame × World) → NoneVoid p (args_of t) → WellFormedWorld Bs w → Written Bs p fs w x → NewAnswer fs w (new_result p t m values res back x.0 x.1 (Unfit u))
  results t m values reply.Default back fs w u x na ok a = new_told t m values (λ v. reply.Given v) back fs w x na ok a
  results t m values reply.Void back fs w u x na ok a = new_told t m values (λ v. reply.Void) back fs w x na ok a
  results t m values (reply.Given v) back fs w u x na ok a = tt
  results t m values (reply.Throw name) back fs w u x na ok a = throws_out name fs x.0 w (recorded m values (reply.Throw name) back x.1) u (told p k ms g r m values (reply.Throw name) back fs w x ok a)

  pub asks_new_valid : (t : Ty) (m : Member) (values : List Value) (fs : List Frame) (w : World) → NoneVoid p (args_of t) → WellFormedValues Bs values → WellFormedWorld Bs w → NewAnswer fs w (ask_new p t m values fs w)
  unfolding ask_new
  asks_new_valid t m values fs w na fv ok = by_cells (stored_args p m.params values) refl
    where
      by_stored : (vs : List Value) → WellFormedRefs p k ms g r (by_ref_args m.params vs) → (o : Option (List Frame × World)) → stored_back p (by_ref_args m.params vs) (next_reply w.replies).by_ref fs w ≡ o → NewAnswer fs w (making p t m vs (next_reply w.replies) w o)
      by_stored vs refs None e = tt
      by_stored vs refs (Some x) e = results t m vs (next_reply w.replies).result (next_reply w.replies).by_ref fs w _ x na ok (stores_back p k ms g r (by_ref_args m.params vs) (next_reply w.replies).by_ref fs w x refs e)

      by_cells : (o : Option (List Cell)) → stored_args p m.params values ≡ o → NewAnswer fs w (maybe (Unfit w) (λ (cells : List Cell). making p t m (values_of cells) (next_reply w.replies) w (stored_back p (by_ref_args m.params (values_of cells)) (next_reply w.replies).by_ref fs w)) o)
      by_cells None e = tt
      by_cells (Some cells) e = by_stored (values_of cells) (refs_there p k ms g r m.params values fv cells e) (stored_back p (by_ref_args m.params (values_of cells)) (next_reply w.replies).by_ref fs w) refl

  uses_answer : (fs : List Frame) (w : World) (A : Answer) → MayMake p k ms g r fs w → NewAnswer fs w A → Stays (use_answer p k (pushes_new p k) A)
  uses_answer fs w (Returned None gs w2) c z = tt
  uses_answer fs w (Returned (Some v) gs w2) c z =
      pushes_valid p k ms g r (Some v) gs w2
      (record {
        others = valid_changed p k ms g r fs gs (z.0).frames c.tail.others;
        returning = returns_changed p k ms g r fs gs (z.0).frames c.tail.returning;
        heights = tails_changed p k ms g r fs gs (z.0).frames c.tail.heights;
        world = (z.0).world;
        count = (z.0).depth ∙ c.count ∙ sym (same_count Bs fs gs (z.0).frames);
        deep = subst (λ n. n ≤ suc k.settings.guard) (sym (z.0).depth) c.deep;
      }) z.1 (next_changed p k ms g r 1 fs gs (z.0).frames c.next)
  uses_answer fs w (Threw x gs w2) c z =
      unwinds p k ms g r Push gs
      (record { placed = placed_changed p k ms g r Push fs gs z.frames c.tail.placed; others = valid_changed p k ms g r fs gs z.frames c.tail.others; returning = returns_changed p k ms g r fs gs z.frames c.tail.returning; heights = tails_changed p k ms g r fs gs z.frames c.tail.heights })
      w2 x z.world (z.depth ∙ c.count ∙ sym (same_count Bs fs gs z.frames)) (subst (λ n. n ≤ suc k.settings.guard) (sym z.depth) c.deep)
  uses_answer fs w (Unfit w2) c z = tt

  makes_outside : (t : Ty) (m : ℕ) (values : List Value) (fs : List Frame) (w : World) → NoneVoid p (args_of t) → WellFormedValues Bs values → MayMake p k ms g r fs w → Stays (make_outside p k (pushes_new p k) t m values fs w)
  makes_outside t m values fs w na fv c =
      let member = record (member_of p t m []) { params = without_this (member_of p t m []).params } in
      uses_answer fs w (ask_new p t member values fs w) c (asks_new_valid t member values fs w na fv c.world)

  -- ---- by a constructor of the program

  waits_object : (v : Value) (m : ℕ) (o : Object) (fs : List Frame) (w : World) → WellFormedValue Bs v → WellFormedObject Bs o → MayMake p k ms g r fs w → MayEnter p k ms g r (PushObject v) m fs (with_object p o w)
  waits_object v m o [] w fv fo c = record { tail = record { placed = tt; others = tt; returning = tt; heights = tt }; begun = refl; waiting = λ f q e. tt; world = object_added Bs p o w fo c.world; fine_back = fv; count = c.count; deep = c.deep }
  waits_object v m o (h ∷ hs) w fv fo c =
      record {
        tail = record { placed = c.tail.placed; others = c.tail.others; returning = c.tail.returning; heights = c.tail.heights };
        begun = refl;
        waiting = λ f q e. (subst (λ b. HasHeight p k ms g r h (Pairs.goes_on_at p k ms g r b h.at) (Pairs.pushes p k ms g r f.method b)) (sym q) c.next, c.tail.heights);
        world = object_added Bs p o w fo c.world;
        fine_back = fv;
        count = c.count;
        deep = c.deep;
      }

  waits_struct : (m : ℕ) (fs : List Frame) (w : World) → MayMake p k ms g r fs w → MayEnter p k ms g r PushStruct m fs w
  waits_struct m [] w c = record { tail = record { placed = tt; others = tt; returning = tt; heights = tt }; begun = refl; waiting = λ f q e. tt; world = c.world; fine_back = tt; count = c.count; deep = c.deep }
  waits_struct m (h ∷ hs) w c =
      record {
        tail = record { placed = c.tail.placed; others = c.tail.others; returning = c.tail.returning; heights = c.tail.heights };
        begun = refl;
        waiting = λ f q e. (subst (λ b. HasHeight p k ms g r h (Pairs.goes_on_at p k ms g r b h.at) (Pairs.pushes p k ms g r f.method b)) (sym q) c.next, c.tail.heights);
        world = c.world;
        fine_back = tt;
        count = c.count;
        deep = c.deep;
      }

  makes_own : (t : Ty) (m : ℕ) (values : List Value) (fs : List Frame) (w : World) → m < r.methods → IsTrue (is_below r.types t) → NoneVoid p (args_of t) → WellFormedValues Bs values → MayMake p k ms g r fs w → Stays (make_own p k (pushes_new p k) t m values fs w)
  makes_own t m values fs w old own na fv c = by_test (is_reference (storage p t))
    where
      object : Object
      object = new_object t (default_cells p (map (λ (x : ℕ × Ty). x.1) (layout p t)))

      by_test : (b : Bool) → Stays (if b then enter p k t m [] (Obj (next_object w) ∷ values) (PushObject (Obj (next_object w))) fs (with_object p object w) else enter_struct p k t m [] values fs w)
      by_test true = enters_valid p k ms g r t m [] (Obj (next_object w) ∷ values) (PushObject (Obj (next_object w))) fs (with_object p object w) old own na tt (tt, fv) (λ cells. tt) (waits_object (Obj (next_object w)) m object fs w tt (na, defaults_fine Bs p (map (λ (x : ℕ × Ty). x.1) (layout p t))) c)
      by_test false = enters_struct_valid p k ms g r t m [] values fs w old own na tt fv (waits_struct m fs w c)

  -- newobj
  pub makes_valid : (t : Ty) (m : ℕ) (values : List Value) (fs : List Frame) (w : World) → m < r.methods → IsTrue (is_below r.types t) → NoneVoid p (args_of t) → WellFormedValues Bs values → MayMake p k ms g r fs w → Stays (make p k (pushes_new p k) t m values fs w)
  unfolding make
  makes_valid t m values fs w old own na fv c = by_delegate (makes_delegate p t m values)
    where
      others : (a b : Bool) → Stays (if a then make_outside p k (pushes_new p k) t m values fs w else if b then make_own p k (pushes_new p k) t m values fs w else stuck w)
      others true b = makes_outside t m values fs w na fv c
      others false true = makes_own t m values fs w old own na fv c
      others false false = tt

      by_delegate : (d : Bool) → Stays (if d then push_below p k (Some (Obj (next_object w))) fs (with_object p (new_object t (delegate_cells values)) w) else make_core p k (pushes_new p k) (core_of p t m) t fs w (if is_outside p m then make_outside p k (pushes_new p k) t m values fs w else if is_some (method_of p m).body then make_own p k (pushes_new p k) t m values fs w else stuck w))
      by_delegate true = pushes_made (new_object t (delegate_cells values)) fs w (na, delegate_fine Bs values fv) c
      by_delegate false = makes_core (core_of p t m) t fs w _ na c (others (is_outside p m) (is_some (method_of p m).body))
