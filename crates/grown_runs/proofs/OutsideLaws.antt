-- Calls that leave the program: replies, what they store back, and new objects whose constructors are outside.
use Rattle.std.proofs.Common.{◌≡◌, ℕ, suc, ◌+◌, ◌<◌, List, [], ◌∷◌, ◌++◌, length, Option, Some, None, refl, sym, ap, ◌∙◌, subst, inl}
use Rattle.std.specs.Prelude.{Bool, true, false, ◌&&◌, if◌then◌else◌, map, slice_get, option_map, option_and_then, codes}
use Rattle.cil_model.specs.declared.ty.Ty.{Ty, out-Ty}
use Rattle.cil_model.specs.declared.value.Value.{Value, out-Value, Obj, Text}
use Rattle.cil_model.specs.declared.value.Value.TheOpen.{Value-F}
use Rattle.cil_model.specs.declared.value.Pointer.{Pointer}
use Rattle.cil_model.specs.declared.value.Pointer.TheVariants.{Arg, Local, Inside, Static}
use Rattle.cil_model.specs.declared.contract.Contracts.{Contracts}
use Rattle.cil_model.specs.declared.program.Program.{Program}
use Rattle.cil_model.specs.declared.program.MethodDesc.{MethodDesc}
use Rattle.cil_model.specs.declared.run.Reply.{Reply}
use Rattle.cil_model.specs.declared.run.ReplyResult.{ReplyResult}
use Rattle.cil_model.specs.declared.run.ReplyResult.TheVariants as reply
use Rattle.cil_semantics.specs.Words.{maybe}
use Rattle.cil_semantics.specs.Types.{under, same_ty, same_tys}
use Rattle.cil_semantics.specs.Core.{Name, class_named, string_ty, helper_name, event_name, event_params}
use Rattle.cil_semantics.specs.Lookups.{method_of, args_of, is_sub}
use Rattle.cil_semantics.specs.declared.state.Cell.{Cell}
use Rattle.cil_semantics.specs.declared.state.Object.{Object}
use Rattle.cil_semantics.specs.declared.state.World.{World}
use Rattle.cil_semantics.specs.declared.state.Frame.{Frame}
use Rattle.cil_semantics.specs.State.{Next, next_object, with_object}
use Rattle.cil_semantics.specs.Places.{Storage, storage, is_reference, is_void, stored_in, default_value, default_cells, layout}
use Rattle.cil_semantics.specs.Acts.{ty_name, member_name}
use Rattle.cil_semantics.specs.Unwind.{unwind}
use Rattle.cil_semantics.specs.Frames.{initializer, ToRun, param_types, stored_args, write}
use Rattle.cil_semantics.specs.Outside.{Answer, Returned, Threw, Unfit, Member, Made, MadeValue, MadeObject, fits, referred_type, pointer_in, by_ref_args, stored_back, next_reply, given as given_reply, recorded, unfit, thrown_out, result_of, answered, ask, default_reply, member_of, is_string, made, with_made, new_result, making, ask_new}
use Rattle.cil_semantics.specs.Calls.{is_named, on_answer, is_event, with_default, outside_call}
use Rattle.cil_semantics.specs.Checks.{AddedNumbers}
use Rattle.cil_semantics.specs.Returns.{push_below}
use Rattle.machine_laws.specs.Answers.{Each, IsOld, is_below}
use Rattle.splice_facts.specs.Related.{Rewritten, bounds}
use Rattle.splice_facts.specs.WellFormed.{WellFormedPointer, WellFormedValues}
use Rattle.simulation_steps.specs.Outside.{WellFormedRefs, values_of}
use Rattle.simulation_objects.proofs.RefLaws.{refs_there}
use Rattle.grown_runs.specs.Grown.{GrowsAround, IsHeld}
use Rattle.grown_runs.specs.Looks.{LooksAlike}
use Rattle.grown_runs.proofs.AlikeLaws.{HeldWorld, Alike, ends, given}
use Rattle.grown_runs.proofs.MoveLaws.{OwnFrames, class_held, object_held, size_same, unwinds}
use Rattle.grown_runs.proofs.ReadLaws.{OwnPointer, WrittenIf, written, defaults_same, write_same}
use Rattle.grown_runs.proofs.EnterLaws.{OwnInitializers, params_same, stored_same}
use Rattle.grown_runs.proofs.ReturnLaws.{pushes}

module _ (p0 p : Program) (k : Contracts) (ms : List MethodDesc) (g : AddedNumbers) (r : Rewritten p k ms g) (h : GrowsAround p0 p k g.exception) (l : LooksAlike p0 p g.exception) (ty : r.types ≡ length p0.types) (me : r.methods ≡ length p0.methods) where
  abbrev A : (Program → Next) → Type 0
  A F = Alike p0 p g.exception F

  abbrev Held : World → Type 0
  Held w = HeldWorld p0 g.exception w

  -- what the facts on the rewriting give
  pub owns : OwnInitializers p0 p
  owns t w m old q = subst (λ n. m < n) me (r.owned t w m (subst (λ n. is_below n t ≡ true) (sym ty) old) q)

  pub own_pointer : (q : Pointer) → WellFormedPointer (bounds p k ms g r) q → OwnPointer p0 q
  own_pointer (Arg n m i is) fine = tt
  own_pointer (Local n m i is) fine = tt
  own_pointer (Inside x is) fine = tt
  own_pointer (Static t f is) fine = subst (λ n. is_below n t ≡ true) ty fine

  -- ---- answers

  abbrev pub AnswerOk : Answer → Type 0
  AnswerOk (Returned v fs w) = OwnFrames p0 fs × Held w
  AnswerOk (Threw x fs w) = OwnFrames p0 fs × Held w
  AnswerOk (Unfit w) = Unit {0}

  abbrev pub Answers : (Program → Answer) → Type 0
  Answers F = (F p ≡ F p0) × AnswerOk (F p)

  if_so : (b : Program → Bool) (x y : Program → Answer) → b p ≡ b p0 → Answers x → Answers y → Answers (λ q. if b q then x q else y q)
  if_so b x y same hx hy = subst (λ (z : Bool). ((if b p then x p else y p) ≡ (if z then x p0 else y p0)) × AnswerOk (if b p then x p else y p)) same (by_case (b p))
    where
      by_case : (z : Bool) → ((if z then x p else y p) ≡ (if z then x p0 else y p0)) × AnswerOk (if z then x p else y p)
      by_case true = hx
      by_case false = hy

  if_any : {X : Type 0} (o : Program → Option X) (n : Program → Answer) (go : Program → X → Answer) → o p ≡ o p0 → Answers n → ((x : X) → o p ≡ Some x → Answers (λ q. go q x)) → Answers (λ q. maybe (n q) (go q) (o q))
  if_any {X} o n go same hn hx = subst (λ (z : Option X). (maybe (n p) (go p) (o p) ≡ maybe (n p0) (go p0) z) × AnswerOk (maybe (n p) (go p) (o p))) same (by_case (o p) refl)
    where
      by_case : (z : Option X) → o p ≡ z → (maybe (n p) (go p) z ≡ maybe (n p0) (go p0) z) × AnswerOk (maybe (n p) (go p) z)
      by_case None q = hn
      by_case (Some x) q = hx x q

  so : {X : Type 0} (v : Program → X) (F : Program → X → Answer) → v p ≡ v p0 → Answers (λ q. F q (v p)) → Answers (λ q. F q (v q))
  so {X} v F same a = subst (λ (z : X). (F p (v p) ≡ F p0 z) × AnswerOk (F p (v p))) same a

  pub on_answers : (F : Program → Answer) → Answers F → A (λ q. on_answer q k (F q))
  on_answers F a = given p0 p g.exception F (λ q x. on_answer q k x) a.0 (by_answer (F p) a.1)
    where
      by_answer : (x : Answer) → AnswerOk x → A (λ q. on_answer q k x)
      by_answer (Returned v fs w) ok = pushes p0 p k g.exception h l owns v fs w ok.0 ok.1
      by_answer (Threw x fs w) ok = unwinds p0 p k g.exception h l false fs w x ok.0 ok.1
      by_answer (Unfit w) ok = ends p0 p g.exception w

  -- ---- by-reference arguments

  abbrev OwnRefs : List (Ty × Value) → Type 0
  OwnRefs [] = Unit {0}
  OwnRefs (a ∷ rest) = ((q : Pointer) → pointer_in (out-Value a.1) ≡ Some q → OwnPointer p0 q) × OwnRefs rest

  own_refs : (args : List (Ty × Value)) → WellFormedRefs p k ms g r args → OwnRefs args
  own_refs [] fine = tt
  own_refs (a ∷ rest) fine = (λ q e. own_pointer q (fine.0 q e), own_refs rest fine.1)

  abbrev Both : (x y : Option (List Frame × World)) → Type 0
  Both x y = (x ≡ y) × WrittenIf p0 g.exception x

  abbrev Again : List (Ty × Value) → List Value → Type 0
  Again args vs = (fs : List Frame) (w : World) → OwnFrames p0 fs → Held w → Both (stored_back p args vs fs w) (stored_back p0 args vs fs w)

  stores_back : (args : List (Ty × Value)) (vs : List Value) (fs : List Frame) (w : World) → OwnRefs args → OwnFrames p0 fs → Held w → Both (stored_back p args vs fs w) (stored_back p0 args vs fs w)
  stores_back args [] fs w refs own held = (refl, (own, held))
  stores_back [] (v ∷ vs) fs w refs own held = (refl, tt)
  stores_back (a ∷ args) (v ∷ vs) fs w refs own held =
      let x = by_fit (λ fs2 w2 own2 held2. stores_back args vs fs2 w2 refs.1 own2 held2) (fits p w a.0 v) in
      (x.0 ∙ ap (λ (b : Bool). if b then option_and_then (λ (x : List Frame × World). stored_back p0 args vs x.0 x.1) (option_and_then (λ q. write p0 fs w q v) (pointer_in (out-Value a.1))) else None) (l.fitting w a.0 v held), x.1)
    where
      by_written : Again args vs → (o : Option (List Frame × World)) → WrittenIf p0 g.exception o → Both (option_and_then (λ (x : List Frame × World). stored_back p args vs x.0 x.1) o) (option_and_then (λ (x : List Frame × World). stored_back p0 args vs x.0 x.1) o)
      by_written again None wr = (refl, tt)
      by_written again (Some x) wr = again x.0 x.1 wr.0 wr.1

      by_pointer : Again args vs → (o : Option Pointer) → ((q : Pointer) → o ≡ Some q → OwnPointer p0 q)
          → Both (option_and_then (λ (x : List Frame × World). stored_back p args vs x.0 x.1) (option_and_then (λ q. write p fs w q v) o)) (option_and_then (λ (x : List Frame × World). stored_back p0 args vs x.0 x.1) (option_and_then (λ q. write p0 fs w q v) o))
      by_pointer again None there_ = (refl, tt)
      by_pointer again (Some q) there_ =
          let y = by_written again (write p fs w q v) (written p0 g.exception p fs w q v own held) in
          (y.0 ∙ ap (λ (o : Option (List Frame × World)). option_and_then (λ (x : List Frame × World). stored_back p0 args vs x.0 x.1) o) (write_same p0 p k g.exception h l fs w q v (there_ q refl)), y.1)

      by_fit : Again args vs → (b : Bool) → Both (if b then option_and_then (λ (x : List Frame × World). stored_back p args vs x.0 x.1) (option_and_then (λ q. write p fs w q v) (pointer_in (out-Value a.1))) else None) (if b then option_and_then (λ (x : List Frame × World). stored_back p0 args vs x.0 x.1) (option_and_then (λ q. write p0 fs w q v) (pointer_in (out-Value a.1))) else None)
      by_fit again true = by_pointer again (pointer_in (out-Value a.1)) refs.0
      by_fit again false = (refl, tt)

  -- ---- replies

  throws_out : (name : Name) (fs : List Frame) (w : World) (other : Answer) → OwnFrames p0 fs → Held w → AnswerOk other → Answers (λ q. thrown_out q name fs w other)
  throws_out name fs w other own held ok =
      if_so (λ q. is_sub q (class_named name) (class_named (codes "System.Exception"))) (λ q. Threw (next_object w) fs (with_object q (record { ty = class_named name; cells = [] }) w)) (λ q. other) (l.subs (class_named name) (class_named (codes "System.Exception")) (class_held p0 g.exception name))
      (ap (λ v. Threw (next_object w) fs v) (size_same p0 p k g.exception h l (record { ty = class_named name; cells = [] }) w), (own, object_held p0 g.exception p (record { ty = class_named name; cells = [] }) w (class_held p0 g.exception name) held)) (refl, ok)

  results : (m : Member) (values : List Value) (res : ReplyResult) (back : List Value) (fs : List Frame) (w : World) (other : Answer) → OwnFrames p0 fs → Held w → AnswerOk other → Answers (λ q. result_of q m values res back fs w other)
  results m values reply.Default back fs w other own held ok = (refl, (own, held))
  results m values reply.Void back fs w other own held ok =
      if_so (λ q. is_void (storage q m.result)) (λ q. Returned None fs (recorded m values reply.Void back w)) (λ q. other) (ap is_void (l.storages m.result)) (refl, (own, held)) (refl, ok)
  results m values (reply.Given v) back fs w other own held ok =
      if_so (λ q. fits q w m.result v) (λ q. maybe other (λ x. Returned (Some x) fs (recorded m values (reply.Given v) back w)) (stored_in q m.result v)) (λ q. other) (l.fitting w m.result v held)
      (if_any (λ q. stored_in q m.result v) (λ q. other) (λ q x. Returned (Some x) fs (recorded m values (reply.Given v) back w)) (l.stores m.result v) (refl, ok) (λ x c. (refl, (own, held)))) (refl, ok)
  results m values (reply.Throw name) back fs w other own held ok = throws_out name fs (recorded m values (reply.Throw name) back w) other own held ok

  answers : (m : Member) (values : List Value) (x : Reply) (w : World) (o : Option (List Frame × World)) → WrittenIf p0 g.exception o → Answers (λ q. answered q m values x w o)
  answers m values x w None wr = (refl, tt)
  answers m values x w (Some y) wr = results m values x.result x.by_ref y.0 y.1 (unfit m values x w) wr.0 wr.1 tt

  pub asks : (m : Member) (values : List Value) (fs : List Frame) (w : World) → WellFormedValues (bounds p k ms g r) values → OwnFrames p0 fs → Held w → Answers (λ q. ask q m values fs w)
  unfolding ask
  asks m values fs w fine own held =
      if_any (λ q. stored_args q m.params values) (λ q. Unfit w) (λ q cells. answered q m (values_of cells) (next_reply w.replies) w (stored_back q (by_ref_args m.params (values_of cells)) (next_reply w.replies).by_ref fs w)) (stored_same p0 p k g.exception h l owns m.params values) (refl, tt)
      (λ cells c. let b = stores_back (by_ref_args m.params (values_of cells)) (next_reply w.replies).by_ref fs w (own_refs (by_ref_args m.params (values_of cells)) (refs_there p k ms g r m.params values fine cells c)) own held in
      so (λ q. stored_back q (by_ref_args m.params (values_of cells)) (next_reply w.replies).by_ref fs w) (λ q o. answered q m (values_of cells) (next_reply w.replies) w o) b.0 (answers m (values_of cells) (next_reply w.replies) w (stored_back p (by_ref_args m.params (values_of cells)) (next_reply w.replies).by_ref fs w) b.1))

  -- ---- new objects

  pub fields_same : (t : Ty) → IsOld p0 t → default_cells p (map (λ (x : ℕ × Ty). x.1) (layout p t)) ≡ default_cells p0 (map (λ (x : ℕ × Ty). x.1) (layout p0 t))
  fields_same t old = ap (λ (xs : List (ℕ × Ty)). default_cells p (map (λ (x : ℕ × Ty). x.1) xs)) (l.layouts t old) ∙ defaults_same p0 p k g.exception h l (map (λ (x : ℕ × Ty). x.1) (layout p0 t))

  made_same : (t : Ty) → IsOld p0 t → made p t ≡ made p0 t
  unfolding made
  made_same t old =
      ap (λ (s : Storage). if is_string (out-Ty t) then MadeValue (Text []) else if is_reference s then MadeObject (record { ty = t; cells = default_cells p (map (λ (x : ℕ × Ty). x.1) (layout p t)) }) else MadeValue (default_value p t)) (l.storages t)
      ∙ ap (λ (cs : List Cell). if is_string (out-Ty t) then MadeValue (Text []) else if is_reference (storage p0 t) then MadeObject (record { ty = t; cells = cs }) else MadeValue (default_value p t)) (fields_same t old)
      ∙ ap (λ v. if is_string (out-Ty t) then MadeValue (Text []) else if is_reference (storage p0 t) then MadeObject (record { ty = t; cells = default_cells p0 (map (λ (x : ℕ × Ty). x.1) (layout p0 t)) }) else MadeValue v) (l.defaults t)

  abbrev MadeHeld : Made → Type 0
  MadeHeld (MadeValue v) = Unit {0}
  MadeHeld (MadeObject o) = IsHeld p0 g.exception o.ty

  made_held : (t : Ty) → IsHeld p0 g.exception t → MadeHeld (made p t)
  unfolding made
  made_held t held = by_kind (is_string (out-Ty t)) (is_reference (storage p t))
    where
      by_kind : (a b : Bool) → MadeHeld (if a then MadeValue (Text []) else if b then MadeObject (record { ty = t; cells = default_cells p (map (λ (x : ℕ × Ty). x.1) (layout p t)) }) else MadeValue (default_value p t))
      by_kind true b = tt
      by_kind false true = held
      by_kind false false = tt

  made_in : (x : Made) (w : World) → with_made p x w ≡ with_made p0 x w
  made_in (MadeValue v) w = refl
  made_in (MadeObject o) w = ap (λ v. (Obj (next_object w), v)) (size_same p0 p k g.exception h l o w)

  made_world : (x : Made) (w : World) → MadeHeld x → Held w → Held (with_made p x w).1
  made_world (MadeValue v) w mh held = held
  made_world (MadeObject o) w mh held = object_held p0 g.exception p o w mh held

  with_made_same : (t : Ty) (w : World) → IsOld p0 t → with_made p (made p t) w ≡ with_made p0 (made p0 t) w
  with_made_same t w old = ap (λ x. with_made p x w) (made_same t old) ∙ made_in (made p0 t) w

  new_results : (t : Ty) (m : Member) (values : List Value) (res : ReplyResult) (back : List Value) (fs : List Frame) (w : World) (other : Answer) → IsOld p0 t → OwnFrames p0 fs → Held w → AnswerOk other → Answers (λ q. new_result q t m values res back fs w other)
  new_results t m values reply.Default back fs w other old own held ok =
      so (λ q. with_made q (made q t) w) (λ q (x : Value × World). Returned (Some x.0) fs (recorded m values (reply.Given x.0) back x.1)) (with_made_same t w old) (refl, (own, made_world (made p t) w (made_held t (inl old)) held))
  new_results t m values reply.Void back fs w other old own held ok =
      so (λ q. with_made q (made q t) w) (λ q (x : Value × World). Returned (Some x.0) fs (recorded m values reply.Void back x.1)) (with_made_same t w old) (refl, (own, made_world (made p t) w (made_held t (inl old)) held))
  new_results t m values (reply.Given v) back fs w other old own held ok = (refl, ok)
  new_results t m values (reply.Throw name) back fs w other old own held ok = throws_out name fs (recorded m values (reply.Throw name) back w) other own held ok

  makings : (t : Ty) (m : Member) (values : List Value) (x : Reply) (w : World) (o : Option (List Frame × World)) → IsOld p0 t → WrittenIf p0 g.exception o → Answers (λ q. making q t m values x w o)
  makings t m values x w None old wr = (refl, tt)
  makings t m values x w (Some y) old wr = new_results t m values x.result x.by_ref y.0 y.1 (unfit m values x w) old wr.0 wr.1 tt

  pub asks_new : (t : Ty) (m : Member) (values : List Value) (fs : List Frame) (w : World) → IsOld p0 t → WellFormedValues (bounds p k ms g r) values → OwnFrames p0 fs → Held w → Answers (λ q. ask_new q t m values fs w)
  unfolding ask_new
  asks_new t m values fs w old fine own held =
      if_any (λ q. stored_args q m.params values) (λ q. Unfit w) (λ q cells. making q t m (values_of cells) (next_reply w.replies) w (stored_back q (by_ref_args m.params (values_of cells)) (next_reply w.replies).by_ref fs w)) (stored_same p0 p k g.exception h l owns m.params values) (refl, tt)
      (λ cells c. let b = stores_back (by_ref_args m.params (values_of cells)) (next_reply w.replies).by_ref fs w (own_refs (by_ref_args m.params (values_of cells)) (refs_there p k ms g r m.params values fine cells c)) own held in
      so (λ q. stored_back q (by_ref_args m.params (values_of cells)) (next_reply w.replies).by_ref fs w) (λ q o. making q t m (values_of cells) (next_reply w.replies) w o) b.0 (makings t m (values_of cells) (next_reply w.replies) w (stored_back p (by_ref_args m.params (values_of cells)) (next_reply w.replies).by_ref fs w) old b.1))

  -- ---- members of the input

  default_reply_same : (t : Ty) → default_reply p t ≡ default_reply p0 t
  default_reply_same t = ap (λ (s : Storage). if is_void s then None else Some (default_value p t)) (l.storages t) ∙ ap (λ v. if is_void (storage p0 t) then None else Some v) (l.defaults t)

  abbrev told : ℕ → Name → Name → List Ty → Ty → Option Value → Member
  told m owner name params result default = record { number = m; name = member_name owner name; params = params; result = result; default = default }

  pub member_same : (owner : Ty) (m : ℕ) (args : List Ty) → IsOld p0 owner → m < length p0.methods → member_of p owner m args ≡ member_of p0 owner m args
  member_same owner m args old own =
      let kept = h.tables.extends.methods m own in
      let t : Ty = under (args_of owner) args (method_of p0 m).result in
      ap (λ n. told m n (method_of p m).name (param_types p owner m args) (under (args_of owner) args (method_of p m).result) (default_reply p (under (args_of owner) args (method_of p m).result))) (l.names owner (inl old))
      ∙ ap (λ n. told m (ty_name p0 owner) n (param_types p owner m args) (under (args_of owner) args (method_of p m).result) (default_reply p (under (args_of owner) args (method_of p m).result))) kept.name
      ∙ ap (λ (ts : List Ty). told m (ty_name p0 owner) (method_of p0 m).name ts (under (args_of owner) args (method_of p m).result) (default_reply p (under (args_of owner) args (method_of p m).result))) (params_same p0 p k g.exception h l owns owner m args own)
      ∙ ap (λ u. told m (ty_name p0 owner) (method_of p0 m).name (param_types p0 owner m args) (under (args_of owner) args u) (default_reply p (under (args_of owner) args u))) kept.result
      ∙ ap (λ (o : Option Value). told m (ty_name p0 owner) (method_of p0 m).name (param_types p0 owner m args) t o) (default_reply_same t)

  event_same : (owner : Ty) (m : ℕ) → IsOld p0 owner → m < length p0.methods → is_event p owner m ≡ is_event p0 owner m
  event_same owner m old own =
      let kept = h.tables.extends.methods m own in
      let d = method_of p m in
      let d0 = method_of p0 m in
      ap (λ n. is_named n helper_name && (is_named d.name event_name && (d.is_static && (same_tys d.params event_params && same_ty d.result string_ty)))) (l.names owner (inl old))
      ∙ ap (λ n. is_named (ty_name p0 owner) helper_name && (is_named n event_name && (d.is_static && (same_tys d.params event_params && same_ty d.result string_ty)))) kept.name
      ∙ ap (λ (b : Bool). is_named (ty_name p0 owner) helper_name && (is_named d0.name event_name && (b && (same_tys d.params event_params && same_ty d.result string_ty)))) kept.is_static
      ∙ ap (λ (ts : List Ty). is_named (ty_name p0 owner) helper_name && (is_named d0.name event_name && (d0.is_static && (same_tys ts event_params && same_ty d.result string_ty)))) kept.params
      ∙ ap (λ t. is_named (ty_name p0 owner) helper_name && (is_named d0.name event_name && (d0.is_static && (same_tys d0.params event_params && same_ty t string_ty)))) kept.result

  default_same : (owner : Ty) (m : ℕ) (args : List Ty) (values : List Value) → IsOld p0 owner → m < length p0.methods → with_default p owner m values (member_of p owner m args) ≡ with_default p0 owner m values (member_of p0 owner m args)
  default_same owner m args values old own =
      ap (λ (x : Member). if is_event p owner m then record x { default = slice_get values 2 } else x) (member_same owner m args old own)
      ∙ ap (λ (b : Bool). if b then record (member_of p0 owner m args) { default = slice_get values 2 } else member_of p0 owner m args) (event_same owner m old own)

  pub calls_outside : (owner : Ty) (m : ℕ) (args : List Ty) (values : List Value) (fs : List Frame) (w : World) → IsOld p0 owner → m < length p0.methods → WellFormedValues (bounds p k ms g r) values → OwnFrames p0 fs → Held w → A (λ q. outside_call q k owner m args values fs w)
  calls_outside owner m args values fs w old own fine others held =
      given p0 p g.exception (λ q. with_default q owner m values (member_of q owner m args)) (λ q x. on_answer q k (ask q x values fs w)) (default_same owner m args values old own)
      (on_answers (λ q. ask q (with_default p owner m values (member_of p owner m args)) values fs w) (asks (with_default p owner m values (member_of p owner m args)) values fs w fine others held))
