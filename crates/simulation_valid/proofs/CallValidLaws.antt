-- A member outside, or one with a body, is called.
use Rattle.std.proofs.Common.{◌≡◌, ℕ, suc, ◌<◌, ◌≤◌, Bool, true, false, List, [], ◌∷◌, length, Option, Some, None, refl, sym, ap, ◌∙◌, subst, arith}
use Rattle.std.specs.Prelude.{◌&&◌, is_some, if◌then◌else◌, option_map, option_and_then, slice_get, IsTrue}
use Rattle.std.proofs.lemmas.Bool.{eqb-true}
use Rattle.cil_model.specs.declared.ty.Ty.{Ty, out-Ty, Prim, Known, Outside, Array', ByRef', Var, MVar, Opaque, Inst'}
use Rattle.cil_model.specs.declared.value.Value.{Value}
use Rattle.cil_model.specs.declared.contract.Contracts.{Contracts}
use Rattle.cil_model.specs.declared.program.Program.{Program}
use Rattle.cil_model.specs.declared.program.MethodDesc.{MethodDesc}
use Rattle.cil_semantics.specs.Types.{same_ty, same_tys, under, all_under}
use Rattle.cil_semantics.specs.Core.{string_ty, event_params, event_name, helper_name}
use Rattle.cil_semantics.specs.Lookups.{method_of, args_of}
use Rattle.cil_semantics.specs.Places.{storage, is_void, new_cell, prim_storage}
use Rattle.cil_semantics.specs.Acts.{ty_name}
use Rattle.cil_semantics.specs.declared.state.Cell.{Cell}
use Rattle.cil_semantics.specs.declared.state.World.{World}
use Rattle.cil_semantics.specs.declared.state.Frame.{Frame}
use Rattle.cil_semantics.specs.declared.state.Continuation.TheVariants.{Push}
use Rattle.cil_semantics.specs.State.{Next}
use Rattle.cil_semantics.specs.Frames.{stuck, this_type, param_types, stored_args, enter}
use Rattle.cil_semantics.specs.Outside.{Answer, Returned, Threw, Unfit, Member, ask, member_of, default_reply, is_outside}
use Rattle.cil_semantics.specs.Calls.{is_named, is_event, with_default, on_answer, outside_call, plain_call}
use Rattle.cil_semantics.specs.Checks.{AddedNumbers}
use Rattle.machine_laws.specs.Answers.{is_below}
use Rattle.splice_facts.specs.WellFormed.{Bounds, WellFormedValues, WellFormedIf}
use Rattle.splice_facts.specs.Input.{top_of, result_count}
use Rattle.splice_facts.specs.Related.{Rewritten, HasHeight, bounds, count_groups}
use Rattle.splice_facts.specs.Related as Pairs
use Rattle.simulation_objects.proofs.StoredLaws.{default_fine, get_fine}
use Rattle.simulation_valid.specs.Keeping.{NoneVoid, StaysValid}
use Rattle.simulation_valid.specs.Steps.{NextHeight, MayPush, MayEnter, MayCall, AfterCall, ValidAnswer}
use Rattle.simulation_valid.proofs.UnwindValidLaws.{unwinds}
use Rattle.simulation_valid.proofs.PushValidLaws.{pushes_valid}
use Rattle.simulation_valid.proofs.ChangeLaws.{valid_changed, returns_changed, tails_changed, next_changed, placed_changed, same_count}
use Rattle.simulation_valid.proofs.EnterValidLaws.{enters_valid, void_stays}
use Rattle.simulation_valid.proofs.AskValidLaws.{asks_valid}
use Rattle.simulation_valid.proofs.FitsLaws.{both}

-- as many values as parameters
as_many_passed : (p : Program) (ts : List Ty) (vs : List Value) (cells : List Cell) → stored_args p ts vs ≡ Some cells → length vs ≡ length ts
as_many_passed p [] [] cells e = refl
as_many_passed p [] (v ∷ vs) cells e = absurd (cc e)
as_many_passed p (t ∷ ts) [] cells e = absurd (cc e)
as_many_passed p (t ∷ ts) (v ∷ vs) cells e = by_both (λ cs q. as_many_passed p ts vs cs q) (new_cell p t v) (stored_args p ts vs) refl e
  where
    by_both : ((cs : List Cell) → stored_args p ts vs ≡ Some cs → length vs ≡ length ts) → (o : Option Cell) (os : Option (List Cell)) → stored_args p ts vs ≡ os → option_and_then (λ c. option_map (λ cs. c ∷ cs) os) o ≡ Some cells → suc (length vs) ≡ suc (length ts)
    by_both more None os eo q = absurd (cc q)
    by_both more (Some c) None eo q = absurd (cc q)
    by_both more (Some c) (Some cs) eo q = ap suc (more cs eo)

same_many : (ts us : List Ty) → same_tys ts us ≡ true → length ts ≡ length us
same_many [] [] e = refl
same_many [] (u ∷ us) e = absurd (cc e)
same_many (t ∷ ts) [] e = absurd (cc e)
same_many (t ∷ ts) (u ∷ us) e = ap suc (same_many ts us (both (same_ty t u) (same_tys ts us) e).1)

many_under : (a b ts : List Ty) → length (all_under a b ts) ≡ length ts
many_under a b [] = refl
many_under a b (t ∷ ts) = ap suc (many_under a b ts)

third_there : (vs : List Value) → length vs ≡ 4 → length (top_of (slice_get vs 2)) ≡ 1
third_there (a ∷ b ∷ c ∷ rest) e = refl
third_there [] e = absurd (omega (arith, e))
third_there (a ∷ []) e = absurd (omega (arith, e))
third_there (a ∷ b ∷ []) e = absurd (omega (arith, e))

-- a text is no void
text_kind : (p : Program) (t : Ty) → same_ty t string_ty ≡ true → is_void (storage p t) ≡ false
unfolding storage prim_storage Rattle.cil_model.specs.declared.ty.Ty.out-Ty denote.Hole.Carrier.out
text_kind p (Prim x) e = ap (λ b. is_void (prim_storage b)) (eqb-true x 0x0E e)
text_kind p (Known x) e = absurd (cc e)
text_kind p (Outside name v) e = absurd (cc e)
text_kind p (Array' q parts) e = absurd (cc e)
text_kind p (ByRef' q parts) e = absurd (cc e)
text_kind p (Var x) e = absurd (cc e)
text_kind p (MVar x) e = absurd (cc e)
text_kind p Opaque e = absurd (cc e)
text_kind p (Inst' j shape parts) e = absurd (cc e)

module _ (p : Program) (k : Contracts) (ms : List MethodDesc) (g : AddedNumbers) (r : Rewritten p k ms g) where
  abbrev Stays : Next → Type 0
  Stays x = StaysValid p k ms g r x

  abbrev Bs : Bounds
  Bs = bounds p k ms g r

  -- by default a member replies a value just where it has a result
  default_counts : (t : Ty) → length (top_of (default_reply p t)) ≡ (if is_void (storage p t) then 0 else 1)
  default_counts t = by_void (is_void (storage p t))
    where
      by_void : (c : Bool) → length (top_of (if c then None else Some (Rattle.cil_semantics.specs.Places.default_value p t))) ≡ (if c then 0 else 1)
      by_void true = refl
      by_void false = refl

  default_good : (t : Ty) → WellFormedIf Bs (default_reply p t)
  default_good t = by_void (is_void (storage p t))
    where
      by_void : (c : Bool) → WellFormedIf Bs (if c then None else Some (Rattle.cil_semantics.specs.Places.default_value p t))
      by_void true = tt
      by_void false = default_fine Bs p 1001 t

  got_fine : (vs : List Value) (i : ℕ) → WellFormedValues Bs vs → WellFormedIf Bs (slice_get vs i)
  got_fine vs i h = by_value (slice_get vs i) refl
    where
      by_value : (o : Option Value) → slice_get vs i ≡ o → WellFormedIf Bs o
      by_value None e = tt
      by_value (Some v) e = get_fine Bs vs i v h e

  -- the member of a call, with what it replies by default
  pub record GoodDefault (x : Member) (values : List Value) (m : ℕ) : Type 0 where
    pub fine : WellFormedIf Bs x.default
    pub many : (cells : List Cell) → stored_args p x.params values ≡ Some cells → length (top_of x.default) ≡ (if is_void (storage p x.result) then 0 else 1)
    pub result : (if is_void (storage p x.result) then 0 else 1) ≡ result_count p m

  event_default : (owner : Ty) (m : ℕ) (args : List Ty) (values : List Value) → NoneVoid p (args_of owner) → NoneVoid p args → WellFormedValues Bs values → GoodDefault (with_default p owner m values (member_of p owner m args)) values m
  event_default owner m args values na nb fv = by_event (is_event p owner m) refl
    where
      named : ℕ
      named = result_count p m

      counts : (if is_void (storage p (under (args_of owner) args (method_of p m).result)) then 0 else 1) ≡ result_count p m
      counts = ap (λ (c : Bool). if c then 0 else 1) (void_stays p (args_of owner) args na nb (method_of p m).result)

      params_many : (c : Bool) → c ≡ true → length (if c then all_under (args_of owner) args (method_of p m).params else this_type p owner ∷ all_under (args_of owner) args (method_of p m).params) ≡ length (method_of p m).params
      params_many true e = many_under (args_of owner) args (method_of p m).params
      params_many false e = absurd (cc e)

      by_event : (c : Bool) → is_event p owner m ≡ c → GoodDefault (if c then record (member_of p owner m args) { default = slice_get values 2 } else member_of p owner m args) values m
      by_event false e = record { fine = default_good (under (args_of owner) args (method_of p m).result); many = λ cells s. default_counts (under (args_of owner) args (method_of p m).result); result = counts }
      by_event true e =
          let d = method_of p m in
          let a1 = (both (is_named (ty_name p owner) helper_name) (is_named d.name event_name && (d.is_static && (same_tys d.params event_params && same_ty d.result string_ty))) e).1 in
          let a2 = (both (is_named d.name event_name) (d.is_static && (same_tys d.params event_params && same_ty d.result string_ty)) a1).1 in
          let a3 = both d.is_static (same_tys d.params event_params && same_ty d.result string_ty) a2 in
          let a4 = both (same_tys d.params event_params) (same_ty d.result string_ty) a3.1 in
          let one : is_void (storage p (under (args_of owner) args d.result)) ≡ false = void_stays p (args_of owner) args na nb d.result ∙ text_kind p d.result a4.1 in
          record {
            fine = got_fine values 2 fv;
            many = λ cells s. third_there values (as_many_passed p (param_types p owner m args) values cells s ∙ params_many d.is_static a3.0 ∙ same_many d.params event_params a4.0) ∙ ap (λ (c : Bool). if c then 0 else 1) (sym one);
            result = counts;
          }

  -- ---- the call

  may_push : (m : ℕ) (fs gs : List Frame) (w w2 : World) → MayCall p k ms g r m fs w → AfterCall p k ms g r fs w gs w2 → MayPush p k ms g r gs w2
  may_push m fs gs w w2 c l =
      record {
        others = valid_changed p k ms g r fs gs l.frames c.tail.others;
        returning = returns_changed p k ms g r fs gs l.frames c.tail.returning;
        heights = tails_changed p k ms g r fs gs l.frames c.tail.heights;
        world = l.world;
        count = l.depth ∙ c.count ∙ sym (same_count Bs fs gs l.frames);
        deep = subst (λ n. n ≤ suc k.settings.guard) (sym l.depth) c.deep;
      }

  answered_valid : (m : ℕ) (x : Member) (fs : List Frame) (w : World) (A : Answer) → (if is_void (storage p x.result) then 0 else 1) ≡ result_count p m → MayCall p k ms g r m fs w → ValidAnswer p k ms g r x fs w A → Stays (on_answer p k A)
  answered_valid m x fs w (Returned v gs w2) same c z =
      pushes_valid p k ms g r v gs w2 (may_push m fs gs w w2 c z.0) z.1 (subst (λ n. NextHeight p k ms g r n gs) (sym (z.2 ∙ same)) (next_changed p k ms g r (result_count p m) fs gs (z.0).frames c.next))
  answered_valid m x fs w (Threw y gs w2) same c z =
      unwinds p k ms g r Push gs
      (record { placed = placed_changed p k ms g r Push fs gs z.frames c.tail.placed; others = valid_changed p k ms g r fs gs z.frames c.tail.others; returning = returns_changed p k ms g r fs gs z.frames c.tail.returning; heights = tails_changed p k ms g r fs gs z.frames c.tail.heights })
      w2 y z.world (z.depth ∙ c.count ∙ sym (same_count Bs fs gs z.frames)) (subst (λ n. n ≤ suc k.settings.guard) (sym z.depth) c.deep)
  answered_valid m x fs w (Unfit w2) same c z = tt

  pub caller_waits : (m : ℕ) (fs : List Frame) (w : World) → MayCall p k ms g r m fs w → MayEnter p k ms g r Push m fs w
  caller_waits m [] w c = record { tail = c.tail; begun = refl; waiting = λ f q e. tt; world = c.world; fine_back = tt; count = c.count; deep = c.deep }
  caller_waits m (h ∷ hs) w c =
      record {
        tail = c.tail;
        begun = refl;
        waiting = λ f q e. (subst (λ b. HasHeight p k ms g r h (Pairs.goes_on_at p k ms g r b h.at) (Pairs.pushes p k ms g r f.method b)) (sym q) (subst (λ j. HasHeight p k ms g r h (Pairs.goes_on_at p k ms g r Push h.at) (result_count p j)) (sym e) c.next), c.tail.heights);
        world = c.world;
        fine_back = tt;
        count = c.count;
        deep = c.deep;
      }

  pub calls_outside_valid : (owner : Ty) (m : ℕ) (args : List Ty) (values : List Value) (fs : List Frame) (w : World) → NoneVoid p (args_of owner) → NoneVoid p args → WellFormedValues Bs values → MayCall p k ms g r m fs w → Stays (outside_call p k owner m args values fs w)
  calls_outside_valid owner m args values fs w na nb fv c =
      let x = with_default p owner m values (member_of p owner m args) in
      let d = event_default owner m args values na nb fv in
      answered_valid m x fs w (ask p x values fs w) d.result c (asks_valid p k ms g r x values fs w fv c.world d.fine d.many)

  -- a member outside, or with a body
  pub calls_plainly_valid : (owner : Ty) (m : ℕ) (args : List Ty) (values : List Value) (fs : List Frame) (w : World) → m < r.methods → IsTrue (is_below r.types owner) → NoneVoid p (args_of owner) → NoneVoid p args → WellFormedValues Bs values → MayCall p k ms g r m fs w → Stays (plain_call p k owner m args values fs w)
  calls_plainly_valid owner m args values fs w old own na nb fv c = by_kind (is_outside p m) (is_some (method_of p m).body)
    where
      by_kind : (a b : Bool) → Stays (if a then outside_call p k owner m args values fs w else if b then enter p k owner m args values Push fs w else stuck w)
      by_kind true b = calls_outside_valid owner m args values fs w na nb fv c
      by_kind false true = enters_valid p k ms g r owner m args values Push fs w old own na nb fv (λ cells. tt) (caller_waits m fs w c)
      by_kind false false = tt
