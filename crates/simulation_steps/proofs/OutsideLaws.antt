-- Calls outside in both runs.
use Rattle.std.proofs.Common.{◌≡◌, ℕ, zero, suc, Bool, true, false, List, [], ◌∷◌, length, Option, Some, None, refl, sym, ap, ◌∙◌, subst}
use Rattle.std.specs.Prelude.{option_and_then, if◌then◌else◌, map, codes}
use Rattle.cil_model.specs.declared.ty.Ty.{Ty, out-Ty}
use Rattle.cil_model.specs.declared.value.Value.{Value, out-Value, Text}
use Rattle.cil_model.specs.declared.value.Value.TheOpen.{Value-F}
use Rattle.cil_model.specs.declared.value.Pointer.{Pointer}
use Rattle.cil_model.specs.declared.run.Reply.{Reply}
use Rattle.cil_model.specs.declared.run.ReplyResult.{ReplyResult}
use Rattle.cil_model.specs.declared.run.ReplyResult.TheVariants as reply
use Rattle.cil_model.specs.declared.contract.Contracts.{Contracts}
use Rattle.cil_model.specs.declared.program.Program.{Program}
use Rattle.cil_model.specs.declared.program.MethodDesc.{MethodDesc}
use Rattle.cil_semantics.specs.Words.{maybe}
use Rattle.cil_semantics.specs.Core.{Name, class_named}
use Rattle.cil_semantics.specs.Lookups.{is_sub}
use Rattle.il_opcodes.specs.declared.class.Storage.{Storage}
use Rattle.il_opcodes.specs.declared.class.Storage.TheVariants.{Truncated, Long, NativeInt, Reference, Address, Fields, Opaque, Anything, Void}
use Rattle.cil_semantics.specs.declared.state.Cell.{Cell}
use Rattle.cil_semantics.specs.Places.{storage, stored_in, is_void, is_reference, default_value, default_cells, layout}
use Rattle.cil_semantics.specs.State as state
use Rattle.cil_semantics.specs.declared.state.Object.{Object}
use Rattle.cil_semantics.specs.declared.state.World.{World}
use Rattle.cil_semantics.specs.declared.state.Statics.{Statics}
use Rattle.cil_semantics.specs.declared.state.Frame.{Frame}
use Rattle.cil_semantics.specs.declared.state.Continuation.{Continuation}
use Rattle.cil_semantics.specs.State.{object_at}
use Rattle.cil_semantics.specs.Frames.{stored_args, write}
use Rattle.cil_semantics.specs.Outside.{fits_storage, fits_fields, fits_within, fits, refers_to, by_ref_args, pointer_in, stored_back, Answer, Returned, Threw, Unfit, next_reply, Member, given, recorded, thrown_out, result_of, answered, unfit, ask, Made, MadeValue, MadeObject, is_string, made, with_made, new_result, making, ask_new}
use Rattle.cil_semantics.specs.Checks.{AddedNumbers}
use Rattle.splice_facts.specs.Bodies.{with_methods}
use Rattle.splice_facts.specs.Grown.{beside}
use Rattle.splice_facts.specs.WellFormed.{WellFormedPointer}
use Rattle.splice_facts.specs.Related.{Rewritten, Under}
use Rattle.splice_facts.specs.Related as Pairs
use Rattle.simulation_steps.specs.Outside as Alike
use Rattle.simulation_steps.specs.Steps as Steps
use Rattle.splice_facts.proofs.ExceptionLaws.{more_failures, longer, new_object}
use Rattle.simulation.proofs.ProgramLaws.{fun_ext, storage_same, default_same, default_cells_same, layout_same, stored_in_same, field_types_same, sub_same, with_object_same}
use Rattle.simulation.proofs.UnwindLaws as Unwinding
use Rattle.simulation_steps.proofs.PointerLaws as Pointing
use Rattle.simulation_steps.proofs.EnterLaws as Entering

module _ (p : Program) (ms : List MethodDesc) where
  refers_same : (w : World) (ss : List Statics) (t : Ty) (v : Value-F Value) → refers_to (with_methods p ms) (beside ss w) t v ≡ refers_to p w t v
  refers_same w ss t Value-F.Null = refl
  refers_same w ss t (Value-F.Obj j) = ap (λ go. maybe false go (object_at w j)) (fun_ext (λ (o : Object). sub_same p ms o.ty t))
  refers_same w ss t (Value-F.Text units) = sub_same p ms Rattle.cil_semantics.specs.Core.string_ty t
  refers_same w ss t _ = refl

  held_same : (w : World) (ss : List Statics) (test : Ty → Value → Bool) (t : Ty) (v : Value) (h : Storage) → fits_storage (with_methods p ms) (beside ss w) test t v h ≡ fits_storage p w test t v h
  held_same w ss test t v Reference = refers_same w ss t (out-Value v)
  held_same w ss test t v (Truncated n s) = refl
  held_same w ss test t v Long = refl
  held_same w ss test t v NativeInt = refl
  held_same w ss test t v Address = refl
  held_same w ss test t v (Fields n) = ap (λ ts. fits_fields test ts (out-Value v)) (field_types_same p ms t)
  held_same w ss test t v Opaque = refl
  held_same w ss test t v Anything = refl
  held_same w ss test t v Void = refl

  pub fits_same : (n : ℕ) (w : World) (ss : List Statics) (t : Ty) (v : Value) → fits_within n (with_methods p ms) (beside ss w) t v ≡ fits_within n p w t v
  unfolding fits_within
  fits_same zero w ss t v = refl
  fits_same (suc n) w ss t v =
      ap (λ test. fits_storage (with_methods p ms) (beside ss w) test t v (storage (with_methods p ms) t)) (fun_ext (λ u. fun_ext (λ x. fits_same n w ss u x)))
      ∙ ap (λ h. fits_storage (with_methods p ms) (beside ss w) (fits_within n p w) t v h) (storage_same p ms t) ∙ held_same w ss (fits_within n p w) t v (storage p t)

module _ (p : Program) (k : Contracts) (ms : List MethodDesc) (g : AddedNumbers) (r : Rewritten p k ms g) where
  abbrev p' : Program
  p' = with_methods p ms

  abbrev IsBeside : World → List Statics → Type 0
  IsBeside w ss = Unwinding.IsBeside p k ms g r w ss

  abbrev below : Continuation → Continuation → List Frame → List Frame → Type 0
  below b b' fs fs' = Under p k ms g r b b' fs fs'

  abbrev valid : List Frame → Type 0
  valid fs = Pairs.AllStand p k ms g r fs

  from_stored : (b b' : Continuation) (n c d : ℕ) (w : World) (o o' : Option (List Frame × World)) → w.depth ≡ d → Steps.Stored p k ms g r b b' n c w o o' → Alike.BothIf p k ms g r b b' n c d o o'
  from_stored b b' n c d w None None e s = tt
  from_stored b b' n c d w (Some x) (Some x') e s = record { under = s.0; others = s.1; many = s.6; groups = s.7; statics = s.2; alike = s.3; world = s.4; depth = s.5 ∙ e }
  from_stored b b' n c d w None (Some x') e s = absurd s
  from_stored b b' n c d w (Some x) None e s = absurd s

  then_more : (b b' : Continuation) (n c d : ℕ) (o o' : Option (List Frame × World)) (go go' : List Frame × World → Option (List Frame × World)) → Alike.BothIf p k ms g r b b' n c d o o' → ((x x' : List Frame × World) → Alike.Both p k ms g r b b' n c d x.0 x'.0 x.1 x'.1 → Alike.BothIf p k ms g r b b' n c d (go x) (go' x')) → Alike.BothIf p k ms g r b b' n c d (option_and_then go o) (option_and_then go' o')
  then_more b b' n c d None None go go' s h = tt
  then_more b b' n c d (Some x) (Some x') go go' s h = h x x' s
  then_more b b' n c d None (Some x') go go' s h = absurd s
  then_more b b' n c d (Some x) None go go' s h = absurd s

  back_if : (b b' : Continuation) (n c d : ℕ) (t : Bool) (x x' : Option (List Frame × World)) → Alike.BothIf p k ms g r b b' n c d x x' → Alike.BothIf p k ms g r b b' n c d (if t then x else None) (if t then x' else None)
  back_if b b' n c d true x x' h = h
  back_if b b' n c d false x x' h = tt

  pub stores_back : (b b' : Continuation) (args : List (Ty × Value)) (vs : List Value) (fs fs' : List Frame) (w w' : World) (n c d : ℕ) → Alike.WellFormedRefs p k ms g r args → Alike.Both p k ms g r b b' n c d fs fs' w w' → Alike.BothIf p k ms g r b b' n c d (stored_back p args vs fs w) (stored_back p' args vs fs' w')
  stores_back b b' args [] fs fs' w w' n c d fine z = z
  stores_back b b' [] (v ∷ vs) fs fs' w w' n c d fine z = tt
  stores_back b b' (a ∷ args) (v ∷ vs) fs fs' w w' n c d fine z =
      subst (λ u. Alike.BothIf p k ms g r b b' n c d (stored_back p (a ∷ args) (v ∷ vs) fs w) (stored_back p' (a ∷ args) (v ∷ vs) fs' u)) (sym z.world)
      (subst (λ t. Alike.BothIf p k ms g r b b' n c d (stored_back p (a ∷ args) (v ∷ vs) fs w) (if t then option_and_then (λ (x : List Frame × World). stored_back p' args vs x.0 x.1) (option_and_then (λ q. write p' fs' (beside z.statics w) q v) (pointer_in (out-Value a.1))) else None)) (sym (fits_same p ms 1001 w z.statics a.0 v))
      (back_if b b' n c d (fits p w a.0 v) _ _
      (then_more b b' n c d _ _ (λ (x : List Frame × World). stored_back p args vs x.0 x.1) (λ (x : List Frame × World). stored_back p' args vs x.0 x.1) (by_pointer (pointer_in (out-Value a.1)) fine.0)
      (λ x x' s. stores_back b b' args vs x.0 x'.0 x.1 x'.1 n c d fine.1 s))))
    where
      by_pointer : (o : Option Pointer) → ((q : Pointer) → o ≡ Some q → WellFormedPointer (Pairs.bounds p k ms g r) q) → Alike.BothIf p k ms g r b b' n c d (option_and_then (λ q. write p fs w q v) o) (option_and_then (λ q. write p' fs' (beside z.statics w) q v) o)
      by_pointer None h = tt
      by_pointer (Some q) h = subst (λ m. Alike.BothIf p k ms g r b b' m c d (write p fs w q v) (write p' fs' (beside z.statics w) q v)) z.many (subst (λ m. Alike.BothIf p k ms g r b b' (length fs) m d (write p fs w q v) (write p' fs' (beside z.statics w) q v)) z.groups (from_stored b b' (length fs) (Pairs.count_groups fs) d w _ _ z.depth (Pointing.writes p k ms g r b b' fs fs' w z.statics q v (h q refl) z.under z.others z.alike)))

  more_beside : (o : Rattle.cil_semantics.specs.declared.state.Object.Object) (w : World) (ss : List Statics) → IsBeside w ss → IsBeside (Rattle.cil_semantics.specs.State.with_object p o w) ss
  more_beside o w ss bes = record { statics = bes.statics; depth = bes.depth; bare = bes.bare; failures = more_failures (length w.heap) (length (Rattle.cil_semantics.specs.State.with_object p o w).heap) w.statics (longer w.heap o) bes.failures }

  -- a world that tells a call, or has a new object
  both_told : (b b' : Continuation) (n c d : ℕ) (gs gs' : List Frame) (w w' : World) (m : Member) (vs : List Value) (x : ReplyResult) (back : List Value) → Alike.Both p k ms g r b b' n c d gs gs' w w' → Alike.Both p k ms g r b b' n c d gs gs' (recorded m vs x back w) (recorded m vs x back w')
  both_told b b' n c d gs gs' w w' m vs x back z =
      record { under = z.under; others = z.others; many = z.many; groups = z.groups; statics = z.statics; alike = record { statics = (z.alike).statics; depth = (z.alike).depth; bare = (z.alike).bare; failures = (z.alike).failures }; world = ap (recorded m vs x back) z.world; depth = z.depth }

  worlds_told : (d : ℕ) (w w' : World) (m : Member) (vs : List Value) (x : ReplyResult) (back : List Value) → Alike.BothWorlds p k ms g r d w w' → Alike.BothWorlds p k ms g r d (recorded m vs x back w) (recorded m vs x back w')
  worlds_told d w w' m vs x back z = record { statics = z.statics; alike = record { statics = (z.alike).statics; depth = (z.alike).depth; bare = (z.alike).bare; failures = (z.alike).failures }; world = ap (recorded m vs x back) z.world; depth = z.depth }

  thrown_both : (b b' : Continuation) (n c d : ℕ) (gs gs' : List Frame) (w w' : World) (name : Name) (other other' : Answer) → Alike.BothAnswer p k ms g r b b' n c d other other' → Alike.Both p k ms g r b b' n c d gs gs' w w' → Alike.BothAnswer p k ms g r b b' n c d (thrown_out p name gs w other) (thrown_out p' name gs' w' other')
  thrown_both b b' n c d gs gs' w w' name other other' zo z =
      subst (λ u. Alike.BothAnswer p k ms g r b b' n c d (thrown_out p name gs w other) (thrown_out p' name gs' u other')) (sym z.world)
      (subst (λ t. Alike.BothAnswer p k ms g r b b' n c d (thrown_out p name gs w other) (if t then thrown p' gs' (beside z.statics w) else other')) (sym (sub_same p ms (class_named name) (class_named (codes "System.Exception")))) (by_test (is_sub p (class_named name) (class_named (codes "System.Exception")))))
    where
      thrown : Program → List Frame → World → Answer
      thrown q hs u = Threw (Rattle.cil_semantics.specs.State.next_object u) hs (Rattle.cil_semantics.specs.State.with_object q (record { ty = class_named name; cells = [] }) u)

      by_test : (t : Bool) → Alike.BothAnswer p k ms g r b b' n c d (if t then thrown p gs w else other) (if t then thrown p' gs' (beside z.statics w) else other')
      by_test true = (refl, record { under = z.under; others = z.others; many = z.many; groups = z.groups; statics = z.statics; alike = more_beside (record { ty = class_named name; cells = [] }) w z.statics z.alike; world = with_object_same p ms (record { ty = class_named name; cells = [] }) (beside z.statics w); depth = z.depth }, new_object w.heap (record { ty = class_named name; cells = [] }))
      by_test false = zo

  results : (b b' : Continuation) (n c d : ℕ) (gs gs' : List Frame) (w w' : World) (m : Member) (vs : List Value) (x : ReplyResult) (back : List Value) (other other' : Answer) → Alike.BothAnswer p k ms g r b b' n c d other other' → Alike.Both p k ms g r b b' n c d gs gs' w w' → Alike.BothAnswer p k ms g r b b' n c d (result_of p m vs x back gs w other) (result_of p' m vs x back gs' w' other')
  results b b' n c d gs gs' w w' m vs reply.Default back other other' zo z = (refl, both_told b b' n c d gs gs' w w' m vs (given m.default) back z)
  results b b' n c d gs gs' w w' m vs reply.Void back other other' zo z =
      subst (λ h. Alike.BothAnswer p k ms g r b b' n c d (result_of p m vs reply.Void back gs w other) (if is_void h then Returned None gs' (recorded m vs reply.Void back w') else other')) (sym (storage_same p ms m.result)) (by_test (is_void (storage p m.result)))
    where
      by_test : (t : Bool) → Alike.BothAnswer p k ms g r b b' n c d (if t then Returned None gs (recorded m vs reply.Void back w) else other) (if t then Returned None gs' (recorded m vs reply.Void back w') else other')
      by_test true = (refl, both_told b b' n c d gs gs' w w' m vs reply.Void back z)
      by_test false = zo
  results b b' n c d gs gs' w w' m vs (reply.Given v) back other other' zo z =
      subst (λ o. Alike.BothAnswer p k ms g r b b' n c d (result_of p m vs (reply.Given v) back gs w other) (if fits p' w' m.result v then maybe other' (λ y. Returned (Some y) gs' (recorded m vs (reply.Given v) back w')) o else other')) (sym (stored_in_same p ms m.result v))
      (subst (λ t. Alike.BothAnswer p k ms g r b b' n c d (result_of p m vs (reply.Given v) back gs w other) (if t then maybe other' (λ y. Returned (Some y) gs' (recorded m vs (reply.Given v) back w')) (stored_in p m.result v) else other')) (sym (ap (λ u. fits p' u m.result v) z.world ∙ fits_same p ms 1001 w z.statics m.result v))
      (by_test (fits p w m.result v) (stored_in p m.result v)))
    where
      by_test : (t : Bool) (o : Option Value) → Alike.BothAnswer p k ms g r b b' n c d (if t then maybe other (λ y. Returned (Some y) gs (recorded m vs (reply.Given v) back w)) o else other) (if t then maybe other' (λ y. Returned (Some y) gs' (recorded m vs (reply.Given v) back w')) o else other')
      by_test true None = zo
      by_test true (Some y) = (refl, both_told b b' n c d gs gs' w w' m vs (reply.Given v) back z)
      by_test false o = zo
  results b b' n c d gs gs' w w' m vs (reply.Throw name) back other other' zo z = thrown_both b b' n c d gs gs' _ _ name other other' zo (both_told b b' n c d gs gs' w w' m vs (reply.Throw name) back z)

  answers_both : (b b' : Continuation) (n c d : ℕ) (m : Member) (vs : List Value) (x : Reply) (w w' : World) (o o' : Option (List Frame × World)) → Alike.BothWorlds p k ms g r d w w' → Alike.BothIf p k ms g r b b' n c d o o' → Alike.BothAnswer p k ms g r b b' n c d (answered p m vs x w o) (answered p' m vs x w' o')
  answers_both b b' n c d m vs x w w' None None zw z = worlds_told d w w' m vs x.result x.by_ref zw
  answers_both b b' n c d m vs x w w' (Some y) (Some y') zw z = results b b' n c d y.0 y'.0 y.1 y'.1 m vs x.result x.by_ref (unfit m vs x w) (unfit m vs x w') (worlds_told d w w' m vs x.result x.by_ref zw) z
  answers_both b b' n c d m vs x w w' None (Some y') zw z = absurd z
  answers_both b b' n c d m vs x w w' (Some y) None zw z = absurd z

  -- A call outside is answered alike in both runs, and leaves frames with their twins.
  pub asks : (b b' : Continuation) (m : Member) (values : List Value) (fs fs' : List Frame) (w : World) (ss : List Statics) → below b b' fs fs' → valid fs → IsBeside w ss → ((cells : List Cell) → stored_args p m.params values ≡ Some cells → Alike.WellFormedRefs p k ms g r (by_ref_args m.params (map (λ (c : Cell). c.value) cells)))
      → Alike.BothAnswer p k ms g r b b' (length fs) (Pairs.count_groups fs) w.depth (ask p m values fs w) (ask p' m values fs' (beside ss w))
  unfolding ask
  asks b b' m values fs fs' w ss under ok bes fine =
      subst (λ o. Alike.BothAnswer p k ms g r b b' (length fs) (Pairs.count_groups fs) w.depth (ask p m values fs w) (maybe (Unfit (beside ss w)) (asked p' fs' (beside ss w)) o)) (sym (Entering.passed_same p k ms g r m.params values)) (by_cells (stored_args p m.params values) fine)
    where
      asked : Program → List Frame → World → List Cell → Answer
      asked q gs u cells = answered q m (map (λ (c : Cell). c.value) cells) (next_reply u.replies) u (stored_back q (by_ref_args m.params (map (λ (c : Cell). c.value) cells)) (next_reply u.replies).by_ref gs u)

      same_world : Alike.BothWorlds p k ms g r w.depth w (beside ss w)
      same_world = record { statics = ss; alike = bes; world = refl; depth = refl }

      by_cells : (o : Option (List Cell)) → ((cells : List Cell) → o ≡ Some cells → Alike.WellFormedRefs p k ms g r (by_ref_args m.params (map (λ (c : Cell). c.value) cells))) → Alike.BothAnswer p k ms g r b b' (length fs) (Pairs.count_groups fs) w.depth (maybe (Unfit w) (asked p fs w) o) (maybe (Unfit (beside ss w)) (asked p' fs' (beside ss w)) o)
      by_cells None f1 = same_world
      by_cells (Some cells) f1 =
          answers_both b b' (length fs) (Pairs.count_groups fs) w.depth m (map (λ (c : Cell). c.value) cells) (next_reply w.replies) w (beside ss w) _ _ same_world
          (stores_back b b' (by_ref_args m.params (map (λ (c : Cell). c.value) cells)) (next_reply w.replies).by_ref fs fs' w (beside ss w) (length fs) (Pairs.count_groups fs) w.depth (f1 cells refl) (record { under = under; others = ok; many = refl; groups = refl; statics = ss; alike = bes; world = refl; depth = refl }))

  -- ---- newobj of an outside constructor

  fields_same : (t : Ty) → default_cells p' (map (λ (x : ℕ × Ty). x.1) (layout p' t)) ≡ default_cells p (map (λ (x : ℕ × Ty). x.1) (layout p t))
  fields_same t = ap (λ xs. default_cells p' (map (λ (x : ℕ × Ty). x.1) xs)) (layout_same p ms t) ∙ default_cells_same p ms (map (λ (x : ℕ × Ty). x.1) (layout p t))

  made_as : Ty → Bool → List Cell → Value → Made
  made_as t reference cells v = if is_string (out-Ty t) then MadeValue (Text []) else if reference then MadeObject (record { ty = t; cells = cells }) else MadeValue v

  made_same : (t : Ty) → made p' t ≡ made p t
  unfolding made made_as
  made_same t =
      ap (λ h. made_as t (is_reference h) (default_cells p' (map (λ (x : ℕ × Ty). x.1) (layout p' t))) (default_value p' t)) (storage_same p ms t)
      ∙ ap (λ cs. made_as t (is_reference (storage p t)) cs (default_value p' t)) (fields_same t)
      ∙ ap (λ v. made_as t (is_reference (storage p t)) (default_cells p (map (λ (x : ℕ × Ty). x.1) (layout p t))) v) (default_same p ms 1001 t)

  made_answer : Program → Member → List Value → List Value → (Value → ReplyResult) → List Frame → Value × World → Answer
  made_answer q m vs back reply gs x = Returned (Some x.0) gs (recorded m vs (reply x.0) back x.1)

  both_made : (b b' : Continuation) (n c d : ℕ) (gs gs' : List Frame) (w w' : World) (m : Member) (vs back : List Value) (reply : Value → ReplyResult) (t : Ty) → Alike.Both p k ms g r b b' n c d gs gs' w w'
      → Alike.BothAnswer p k ms g r b b' n c d (made_answer p m vs back reply gs (with_made p (made p t) w)) (made_answer p' m vs back reply gs' (with_made p' (made p' t) w'))
  unfolding made_answer
  both_made b b' n c d gs gs' w w' m vs back reply t z =
      subst (λ x. Alike.BothAnswer p k ms g r b b' n c d (made_answer p m vs back reply gs (with_made p (made p t) w)) (made_answer p' m vs back reply gs' (with_made p' x w'))) (sym (made_same t))
      (subst (λ u. Alike.BothAnswer p k ms g r b b' n c d (made_answer p m vs back reply gs (with_made p (made p t) w)) (made_answer p' m vs back reply gs' (with_made p' (made p t) u))) (sym z.world) (by_made (made p t)))
    where
      told : (u u' : World) (v : Value) → IsBeside u z.statics → u' ≡ beside z.statics u → u.depth ≡ d → Alike.Both p k ms g r b b' n c d gs gs' (recorded m vs (reply v) back u) (recorded m vs (reply v) back u')
      told u u' v bes e depth = both_told b b' n c d gs gs' u u' m vs (reply v) back (record { under = z.under; others = z.others; many = z.many; groups = z.groups; statics = z.statics; alike = bes; world = e; depth = depth })

      by_made : (x : Made) → Alike.BothAnswer p k ms g r b b' n c d (made_answer p m vs back reply gs (with_made p x w)) (made_answer p' m vs back reply gs' (with_made p' x (beside z.statics w)))
      by_made (MadeValue v) = (refl, told w (beside z.statics w) v z.alike refl z.depth)
      by_made (MadeObject o) =
          (refl, told (Rattle.cil_semantics.specs.State.with_object p o w) (Rattle.cil_semantics.specs.State.with_object p' o (beside z.statics w)) (Rattle.cil_model.specs.declared.value.Value.Obj (Rattle.cil_semantics.specs.State.next_object w)) (more_beside o w z.statics z.alike) (with_object_same p ms o (beside z.statics w)) z.depth)

  new_results : (b b' : Continuation) (n c d : ℕ) (gs gs' : List Frame) (w w' : World) (t : Ty) (m : Member) (vs : List Value) (x : ReplyResult) (back : List Value) (other other' : Answer) → Alike.BothAnswer p k ms g r b b' n c d other other' → Alike.Both p k ms g r b b' n c d gs gs' w w' → Alike.BothAnswer p k ms g r b b' n c d (new_result p t m vs x back gs w other) (new_result p' t m vs x back gs' w' other')
  unfolding made_answer
  new_results b b' n c d gs gs' w w' t m vs reply.Default back other other' zo z = both_made b b' n c d gs gs' w w' m vs back (λ v. reply.Given v) t z
  new_results b b' n c d gs gs' w w' t m vs reply.Void back other other' zo z = both_made b b' n c d gs gs' w w' m vs back (λ v. reply.Void) t z
  new_results b b' n c d gs gs' w w' t m vs (reply.Given v) back other other' zo z = zo
  new_results b b' n c d gs gs' w w' t m vs (reply.Throw name) back other other' zo z = thrown_both b b' n c d gs gs' _ _ name other other' zo (both_told b b' n c d gs gs' w w' m vs (reply.Throw name) back z)

  makes_both : (b b' : Continuation) (n c d : ℕ) (t : Ty) (m : Member) (vs : List Value) (x : Reply) (w w' : World) (o o' : Option (List Frame × World)) → Alike.BothWorlds p k ms g r d w w' → Alike.BothIf p k ms g r b b' n c d o o' → Alike.BothAnswer p k ms g r b b' n c d (making p t m vs x w o) (making p' t m vs x w' o')
  makes_both b b' n c d t m vs x w w' None None zw z = worlds_told d w w' m vs x.result x.by_ref zw
  makes_both b b' n c d t m vs x w w' (Some y) (Some y') zw z = new_results b b' n c d y.0 y'.0 y.1 y'.1 t m vs x.result x.by_ref (unfit m vs x w) (unfit m vs x w') (worlds_told d w w' m vs x.result x.by_ref zw) z
  makes_both b b' n c d t m vs x w w' None (Some y') zw z = absurd z
  makes_both b b' n c d t m vs x w w' (Some y) None zw z = absurd z

  pub asks_new : (b b' : Continuation) (t : Ty) (m : Member) (values : List Value) (fs fs' : List Frame) (w : World) (ss : List Statics) → below b b' fs fs' → valid fs → IsBeside w ss → ((cells : List Cell) → stored_args p m.params values ≡ Some cells → Alike.WellFormedRefs p k ms g r (by_ref_args m.params (map (λ (c : Cell). c.value) cells)))
      → Alike.BothAnswer p k ms g r b b' (length fs) (Pairs.count_groups fs) w.depth (ask_new p t m values fs w) (ask_new p' t m values fs' (beside ss w))
  unfolding ask_new
  asks_new b b' t m values fs fs' w ss under ok bes fine =
      subst (λ o. Alike.BothAnswer p k ms g r b b' (length fs) (Pairs.count_groups fs) w.depth (ask_new p t m values fs w) (maybe (Unfit (beside ss w)) (asked p' fs' (beside ss w)) o)) (sym (Entering.passed_same p k ms g r m.params values)) (by_cells (stored_args p m.params values) fine)
    where
      asked : Program → List Frame → World → List Cell → Answer
      asked q gs u cells = making q t m (map (λ (c : Cell). c.value) cells) (next_reply u.replies) u (stored_back q (by_ref_args m.params (map (λ (c : Cell). c.value) cells)) (next_reply u.replies).by_ref gs u)

      same_world : Alike.BothWorlds p k ms g r w.depth w (beside ss w)
      same_world = record { statics = ss; alike = bes; world = refl; depth = refl }

      by_cells : (o : Option (List Cell)) → ((cells : List Cell) → o ≡ Some cells → Alike.WellFormedRefs p k ms g r (by_ref_args m.params (map (λ (c : Cell). c.value) cells))) → Alike.BothAnswer p k ms g r b b' (length fs) (Pairs.count_groups fs) w.depth (maybe (Unfit w) (asked p fs w) o) (maybe (Unfit (beside ss w)) (asked p' fs' (beside ss w)) o)
      by_cells None f1 = same_world
      by_cells (Some cells) f1 =
          makes_both b b' (length fs) (Pairs.count_groups fs) w.depth t m (map (λ (c : Cell). c.value) cells) (next_reply w.replies) w (beside ss w) _ _ same_world
          (stores_back b b' (by_ref_args m.params (map (λ (c : Cell). c.value) cells)) (next_reply w.replies).by_ref fs fs' w (beside ss w) (length fs) (Pairs.count_groups fs) w.depth (f1 cells refl) (record { under = under; others = ok; many = refl; groups = refl; statics = ss; alike = bes; world = refl; depth = refl }))
