-- What calls of members leave: core members, members outside, bodies, virtual calls and new objects.
use Rattle.std.proofs.Common.{◌≡◌, ℕ, zero, suc, Bool, true, false, not, List, [], ◌∷◌, length, Option, Some, None, refl, sym, ap, ◌∙◌, subst}
use Rattle.std.specs.Prelude.{if◌then◌else◌, IfSome, option_map, option_and_then, slice_get, is_some, map, codes, pos}
use Rattle.std.proofs.lemmas.Bool.{eqb-true}
use Rattle.cil_base.proofs.Small.{and_both}
use Rattle.cil_model.specs.declared.contract.Contracts.{Contracts}
use Rattle.cil_model.specs.declared.program.Program.{Program}
use Rattle.cil_model.specs.declared.run.Reply.{Reply}
use Rattle.cil_model.specs.declared.run.ReplyResult.{ReplyResult}
use Rattle.cil_model.specs.declared.run.ReplyResult.TheVariants as reply
use Rattle.cil_model.specs.declared.ty.Ty as types
use Rattle.cil_model.specs.declared.ty.Ty.{Ty, Prim, Known, Outside, Array', ByRef', Var, MVar, Opaque, Inst', out-Ty}
use Rattle.cil_model.specs.declared.value.Value.{Value, I4, Ptr, Obj, out-Value}
use Rattle.cil_model.specs.declared.value.Pointer.{Pointer}
use Rattle.il_opcodes.specs.declared.class.Storage.{Storage}
use Rattle.il_opcodes.specs.declared.class.Storage.TheVariants as held
use Rattle.cil_semantics.specs.declared.state.Cell.{Cell}
use Rattle.cil_semantics.specs.declared.state.Continuation.TheVariants.{Push, PushObject}
use Rattle.cil_semantics.specs.declared.state.Remaining.{Remaining}
use Rattle.cil_semantics.specs.declared.state.Remaining.TheVariants.{Range, Elements}
use Rattle.cil_semantics.specs.declared.state.Frame.{Frame}
use Rattle.cil_semantics.specs.declared.state.World.{World}
use Rattle.cil_semantics.specs.Words.{maybe, same_bool}
use Rattle.cil_semantics.specs.Core.{Name, class_named, string_ty, event_params, helper_name, event_name}
use Rattle.cil_semantics.specs.Types.{under, all_under, same_ty, same_tys}
use Rattle.cil_semantics.specs.Dispatch.{Seen}
use Rattle.cil_semantics.specs.Lookups.{args_of, method_of, is_sub}
use Rattle.cil_semantics.specs.Numbers.{truncated}
use Rattle.cil_semantics.specs.Places.{is_void, is_reference, default_value, default_cells, layout, storage, prim_storage, stored_in, stored_within, stored_by_storage, field_types, new_cell}
use Rattle.cil_semantics.specs.State.{Next, next_object, with_object}
use Rattle.cil_semantics.specs.Acts.{Call, dynamic_type, is_null, ty_name}
use Rattle.cil_semantics.specs.Outside.{Member, Answer, Returned, Threw, Unfit, ask, ask_new, member_of, is_outside, answered, result_of, recorded, thrown_out, stored_back, by_ref_args, pointer_in, fits, default_reply, making, new_result, next_reply}
use Rattle.cil_semantics.specs.Returns.{push_below, try_next}
use Rattle.cil_semantics.specs.Calls.{CoreMember, Constructor, Equality, Concatenation, TextLength, IsNullOrEmpty, Quantifier, NotCore, core_of, string_answer, count_units, first_texted, Texted, NullText, SomeText, NotText, on_answer, is_event, is_named, outside_call, number_in, array_in, quantify, plain_call, call_core, call_member, body_seen, call_unfound, call_found, is_invoke, call_on, pointed, own_body, call_boxed, call_struct, call_constrained, call_virtual_on, call_virtual, function_of, find_virtual_on, pushes_new, use_answer, makes_delegate, make_core, make_own, make_outside, make, new_object, delegate_cells, gives_alike}
use Rattle.cil_semantics.specs.Unwind.{raise}
use Rattle.cil_semantics.specs.Frames.{stuck, if_there, this_type, param_types, enter_struct, next_try, stored_args, write, read, gives_value, enter, enter_delegate, this_value}
use Rattle.flow_laws.specs.Shapes.{HeightsOf, count_of, Over, Lie, NextInShape}
use Rattle.flow_laws.specs.Measured.{Measured, IsPlain, CorePushes, count_given}
use Rattle.flow_laws.proofs.LandLaws.{Awaits, size, pushes, unwinds, raises}
use Rattle.flow_laws.proofs.WriteLaws.{Alike, alike_itself, alike_twice, written_alike, lie_alike, awaits_alike}
use Rattle.flow_laws.proofs.CallLaws.{enters, enters_struct, calls_delegate, tries_next}

-- ---- replies

stored_alike : (p : Program) (args : List (Ty × Value)) (vs : List Value) (fs : List Frame) (w : World) → IfSome {T = List Frame × World} (stored_back p args vs fs w) (λ x. Alike fs x.0)
stored_alike p args [] fs w = alike_itself fs
stored_alike p [] (v ∷ vs) fs w = tt
stored_alike p (a ∷ args) (v ∷ vs) fs w = go (λ gs u. stored_alike p args vs gs u) (fits p w a.0 v)
  where
    Rest : Type 0
    Rest = (gs : List Frame) (u : World) → IfSome {T = List Frame × World} (stored_back p args vs gs u) (λ x. Alike gs x.0)

    more : (gs : List Frame) → Alike fs gs → (o : Option (List Frame × World)) → IfSome {T = List Frame × World} o (λ x. Alike gs x.0) → IfSome {T = List Frame × World} o (λ x. Alike fs x.0)
    more gs a None h = tt
    more gs a (Some x) h = alike_twice fs gs x.0 a h

    further : Rest → (o : Option (List Frame × World)) → IfSome {T = List Frame × World} o (λ x. Alike fs x.0) → IfSome {T = List Frame × World} (option_and_then (λ (x : List Frame × World). stored_back p args vs x.0 x.1) o) (λ x. Alike fs x.0)
    further rest None h = tt
    further rest (Some x) h = more x.0 h (stored_back p args vs x.0 x.1) (rest x.0 x.1)

    written : (o : Option Pointer) → IfSome {T = List Frame × World} (option_and_then (λ q. write p fs w q v) o) (λ x. Alike fs x.0)
    written None = tt
    written (Some q) = written_alike p fs w q v

    go : Rest → (b : Bool) → IfSome {T = List Frame × World} (if b then option_and_then (λ (x : List Frame × World). stored_back p args vs x.0 x.1) (option_and_then (λ q. write p fs w q v) (pointer_in (out-Value a.1))) else None) (λ x. Alike fs x.0)
    go rest true = further rest (option_and_then (λ q. write p fs w q v) (pointer_in (out-Value a.1))) (written (pointer_in (out-Value a.1)))
    go rest false = tt

-- an answer gives so many values, to frames like these
abbrev Gives : ℕ → List Frame → Answer → Type 0
Gives n fs (Returned v gs w) = (size v ≡ n) × Alike fs gs
Gives n fs (Threw x gs w) = Alike fs gs
Gives n fs (Unfit w) = Unit {0}

thrown_gives : (p : Program) (name : Name) (n : ℕ) (fs gs : List Frame) (w : World) (other : Answer) → Alike fs gs → Gives n fs other → Gives n fs (thrown_out p name gs w other)
thrown_gives p name n fs gs w other a o = go (is_sub p (class_named name) (class_named (codes "System.Exception")))
  where
    go : (b : Bool) → Gives n fs (if b then Threw (next_object w) gs (with_object p (record { ty = class_named name; cells = [] }) w) else other)
    go true = a
    go false = o

nothing_stored : (store : Ty → Value → Option Value) (ts : List Ty) (v x : Value) (h : Storage) → is_void h ≡ true → stored_by_storage store ts v h ≡ Some x → ⊥
nothing_stored store ts v x held.Void f e = absurd cc
nothing_stored store ts v x (held.Truncated n b) f e = absurd cc
nothing_stored store ts v x held.Long f e = absurd cc
nothing_stored store ts v x held.NativeInt f e = absurd cc
nothing_stored store ts v x held.Reference f e = absurd cc
nothing_stored store ts v x held.Address f e = absurd cc
nothing_stored store ts v x (held.Fields n) f e = absurd cc
nothing_stored store ts v x held.Opaque f e = absurd cc
nothing_stored store ts v x held.Anything f e = absurd cc

within_void : (n : ℕ) (p : Program) (t : Ty) (v x : Value) → is_void (storage p t) ≡ true → stored_within n p t v ≡ Some x → ⊥
unfolding stored_within
within_void zero p t v x f e = absurd cc
within_void (suc n) p t v x f e = nothing_stored (stored_within n p) (field_types p t) v x (storage p t) f e

nothing_in_void : (p : Program) (t : Ty) (v x : Value) → is_void (storage p t) ≡ true → stored_in p t v ≡ Some x → ⊥
nothing_in_void p t v x f e = within_void 1001 p t v x f e

holds_value : (p : Program) (t : Ty) (v x : Value) → stored_in p t v ≡ Some x → is_void (storage p t) ≡ false
holds_value p t v x e = go (is_void (storage p t)) refl
  where
    go : (b : Bool) → is_void (storage p t) ≡ b → b ≡ false
    go false f = refl
    go true f = absurd (nothing_in_void p t v x f e)

result_gives : (p : Program) (m : Member) (values : List Value) (r : ReplyResult) (back : List Value) (fs gs : List Frame) (w : World) (other : Answer) → size m.default ≡ count_of p m.result → Alike fs gs → Gives (count_of p m.result) fs other → Gives (count_of p m.result) fs (result_of p m values r back gs w other)
result_gives p m values reply.Default back fs gs w other d a o = (d, a)
result_gives p m values reply.Void back fs gs w other d a o = go (is_void (storage p m.result)) refl
  where
    go : (b : Bool) → is_void (storage p m.result) ≡ b → Gives (count_of p m.result) fs (if b then Returned None gs (recorded m values reply.Void back w) else other)
    go true e = (ap (λ (c : Bool). if c then 0 else 1) (sym e), a)
    go false e = o
result_gives p m values (reply.Given v) back fs gs w other d a o = go (fits p w m.result v)
  where
    kept : (x : Option Value) → stored_in p m.result v ≡ x → Gives (count_of p m.result) fs (maybe other (λ y. Returned (Some y) gs (recorded m values (reply.Given v) back w)) x)
    kept None e = o
    kept (Some x) e = (ap (λ (c : Bool). if c then 0 else 1) (sym (holds_value p m.result v x e)), a)

    go : (b : Bool) → Gives (count_of p m.result) fs (if b then maybe other (λ x. Returned (Some x) gs (recorded m values (reply.Given v) back w)) (stored_in p m.result v) else other)
    go true = kept (stored_in p m.result v) refl
    go false = o
result_gives p m values (reply.Throw name) back fs gs w other d a o = thrown_gives p name (count_of p m.result) fs gs _ other a o

answer_gives : (p : Program) (m : Member) (values : List Value) (r : Reply) (fs : List Frame) (w : World) (o : Option (List Frame × World)) → IfSome {T = List Frame × World} o (λ x. Alike fs x.0) → size m.default ≡ count_of p m.result → Gives (count_of p m.result) fs (answered p m values r w o)
answer_gives p m values r fs w None a d = tt
answer_gives p m values r fs w (Some x) a d = result_gives p m values r.result r.by_ref fs x.0 x.1 _ d a tt

asks : (p : Program) (m : Member) (values : List Value) (fs : List Frame) (w : World) → ((cells : List Cell) → stored_args p m.params values ≡ Some cells → size m.default ≡ count_of p m.result) → Gives (count_of p m.result) fs (ask p m values fs w)
unfolding ask
asks p m values fs w d = go (stored_args p m.params values) refl
  where
    go : (o : Option (List Cell)) → stored_args p m.params values ≡ o → Gives (count_of p m.result) fs (maybe (Unfit w) (λ (cells : List Cell). answered p m (map (λ (c : Cell). c.value) cells) (next_reply w.replies) w (stored_back p (by_ref_args m.params (map (λ (c : Cell). c.value) cells)) (next_reply w.replies).by_ref fs w)) o)
    go None e = tt
    go (Some cells) e =
        let vs : List Value = map (λ (c : Cell). c.value) cells in
        answer_gives p m vs (next_reply w.replies) fs w (stored_back p (by_ref_args m.params vs) (next_reply w.replies).by_ref fs w) (stored_alike p (by_ref_args m.params vs) (next_reply w.replies).by_ref fs w) (d cells e)

-- ---- the default reply

default_size : (p : Program) (t : Ty) → size (default_reply p t) ≡ count_of p t
default_size p t = go (is_void (storage p t)) (default_value p t)
  where
    go : (b : Bool) (v : Value) → size (if b then None else Some v) ≡ (if b then 0 else 1)
    go true v = refl
    go false v = refl

stored_count : (p : Program) (ts : List Ty) (vs : List Value) (cells : List Cell) → stored_args p ts vs ≡ Some cells → length vs ≡ length ts
stored_count p [] [] cells e = refl
stored_count p [] (v ∷ vs) cells e = absurd cc
stored_count p (t ∷ ts) [] cells e = absurd cc
stored_count p (t ∷ ts) (v ∷ vs) cells e = go (λ cs f. stored_count p ts vs cs f) (new_cell p t v) (stored_args p ts vs) refl e
  where
    go : ((cs : List Cell) → stored_args p ts vs ≡ Some cs → length vs ≡ length ts) → (c : Option Cell) (o : Option (List Cell)) → stored_args p ts vs ≡ o → option_and_then (λ c. option_map (λ cs. c ∷ cs) o) c ≡ Some cells → suc (length vs) ≡ suc (length ts)
    go rest None o f g = absurd cc
    go rest (Some c) None f g = absurd cc
    go rest (Some c) (Some cs) f g = ap suc (rest cs f)

same_count : (ts us : List Ty) → same_tys ts us ≡ true → length ts ≡ length us
same_count [] [] e = refl
same_count [] (u ∷ us) e = absurd cc
same_count (t ∷ ts) [] e = absurd cc
same_count (t ∷ ts) (u ∷ us) e = ap suc (same_count ts us ((and_both (same_ty t u) _ e).1))

under_count : (a b ts : List Ty) → length (all_under a b ts) ≡ length ts
under_count a b [] = refl
under_count a b (t ∷ ts) = ap suc (under_count a b ts)

third : (vs : List Value) → length vs ≡ 4 → size (slice_get vs 2) ≡ 1
third [] e = absurd cc
third (a ∷ []) e = absurd cc
third (a ∷ b ∷ []) e = absurd cc
third (a ∷ b ∷ c ∷ vs) e = refl

text_counts : (p : Program) (a b : List Ty) (t : Ty) → same_ty t string_ty ≡ true → count_of p (under a b t) ≡ 1
unfolding storage prim_storage types.out-Ty denote.Hole.Carrier.out
text_counts p a b (Prim c) e = ap (λ n. count_of p (Prim n)) (eqb-true c 0x0E e)
text_counts p a b t e = absurd cc

-- an event's default reply is its third argument, as its signature has one
event_size : (p : Program) (owner : Ty) (m : ℕ) (args : List Ty) (values : List Value) (cells : List Cell) → is_event p owner m ≡ true → stored_args p (param_types p owner m args) values ≡ Some cells → size (slice_get values 2) ≡ count_given p owner m args
event_size p owner m args values cells e s =
    let d = method_of p m in
    let a = and_both (is_named (ty_name p owner) helper_name) _ e in
    let b = and_both (is_named d.name event_name) _ a.1 in
    let c = and_both d.is_static _ b.1 in
    let t = and_both (same_tys d.params event_params) _ c.1 in
    let types : param_types p owner m args ≡ all_under (args_of owner) args d.params = ap (λ (x : Bool). if x then all_under (args_of owner) args d.params else this_type p owner ∷ all_under (args_of owner) args d.params) c.0 in
    third values (stored_count p (param_types p owner m args) values cells s ∙ ap length types ∙ under_count (args_of owner) args d.params ∙ same_count d.params event_params t.0)
    ∙ sym (text_counts p (args_of owner) args d.result t.1)

either : (p : Program) (height : HeightsOf) (b : Bool) (x y : Next) → NextInShape p height x → NextInShape p height y → NextInShape p height (if b then x else y)
either p height true x y f g = f
either p height false x y f g = g

module _ (p : Program) (k : Contracts) (height : HeightsOf) (plain : IsPlain p k) (ok : Measured p height) where
  abbrev Waiting : ℕ → List Frame → Type 0
  Waiting n fs = Awaits p k height plain ok n fs × Lie p height fs

  answers : (n : ℕ) (fs : List Frame) (a : Answer) → Gives n fs a → Waiting n fs → NextInShape p height (on_answer p k a)
  answers n fs (Returned v gs w) g l = pushes p k height plain ok v n gs w g.0 (awaits_alike p k height plain ok n fs gs g.1 l.0) (lie_alike p height fs gs g.1 l.1)
  answers n fs (Threw x gs w) g l = unwinds p k height plain ok false gs w x (lie_alike p height fs gs g l.1)
  answers n fs (Unfit w) g l = tt

  calls_outside : (owner : Ty) (m : ℕ) (args : List Ty) (values : List Value) (fs : List Frame) (w : World) → Waiting (count_given p owner m args) fs → NextInShape p height (outside_call p k owner m args values fs w)
  calls_outside owner m args values fs w l = go (is_event p owner m) refl
    where
      x : Member
      x = member_of p owner m args

      go : (b : Bool) → is_event p owner m ≡ b → NextInShape p height (on_answer p k (ask p (if b then record (member_of p owner m args) { default = slice_get values 2 } else member_of p owner m args) values fs w))
      go true e = answers (count_given p owner m args) fs _ (asks p (record (member_of p owner m args) { default = slice_get values 2 }) values fs w (λ cells s. event_size p owner m args values cells e s)) l
      go false e = answers (count_given p owner m args) fs _ (asks p (member_of p owner m args) values fs w (λ cells s. default_size p (under (args_of owner) args (method_of p m).result))) l

  over_push : (n a : ℕ) (fs : List Frame) → Awaits p k height plain ok n fs → Over p height Push n a fs
  over_push n a [] h = tt
  over_push n a (f ∷ fs) h = h

  calls_plainly : (owner : Ty) (m : ℕ) (args : List Ty) (values : List Value) (fs : List Frame) (w : World) → Waiting (count_given p owner m args) fs → NextInShape p height (plain_call p k owner m args values fs w)
  calls_plainly owner m args values fs w l = go (is_outside p m) (is_some (method_of p m).body)
    where
      go : (b c : Bool) → NextInShape p height (if b then outside_call p k owner m args values fs w else if c then enter p k owner m args values Push fs w else stuck w)
      go true c = calls_outside owner m args values fs w l
      go false true = enters p k height plain ok owner m args values Push fs w (λ a. over_push (count_given p owner m args) a fs l.0) l.1
      go false false = tt

  -- ---- core members

  if_pushed : (o : Option Value) (n : ℕ) (fs : List Frame) (w : World) → n ≡ 1 → Waiting n fs → NextInShape p height (if_there o w (λ v. push_below p k (Some v) fs w))
  if_pushed None n fs w e l = tt
  if_pushed (Some v) n fs w e l = pushes p k height plain ok (Some v) n fs w (sym e) l.0 l.1

  counts_units : (x : Texted) (n : ℕ) (fs : List Frame) (w : World) → n ≡ 1 → Waiting n fs → NextInShape p height (count_units p k x fs w)
  counts_units NullText n fs w e l = raises p k height plain ok _ fs w l.1
  counts_units (SomeText a) n fs w e l = pushes p k height plain ok (Some (I4 (truncated 32 true (pos (length a))))) n fs w (sym e) l.0 l.1
  counts_units NotText n fs w e l = tt

  quantifies : (exists : Bool) (values : List Value) (n : ℕ) (fs : List Frame) (w : World) (other : Next) → n ≡ 1 → Waiting n fs → NextInShape p height other → NextInShape p height (quantify p k exists values fs w other)
  quantifies exists [] n fs w other e l o = tt
  quantifies exists (a ∷ []) n fs w other e l o = tt
  quantifies exists (items ∷ target ∷ []) n fs w other e l o = go (array_in w (out-Value items))
    where
      go : (x : Option ℕ) → NextInShape p height (maybe other (λ y. try_next p k exists target (next_try w (Elements y 0)) fs w) x)
      go None = o
      go (Some y) = tries_next p k height plain ok exists target (next_try w (Elements y 0)) fs w (subst (λ c. Awaits p k height plain ok c fs) e l.0) l.1
  quantifies exists (from ∷ to ∷ target ∷ []) n fs w other e l o = go (option_and_then (λ a. option_map (λ b. Range a b) (number_in (out-Value to))) (number_in (out-Value from)))
    where
      go : (x : Option Remaining) → NextInShape p height (if_there x w (λ left. try_next p k exists target (next_try w left) fs w))
      go None = tt
      go (Some left) = tries_next p k height plain ok exists target (next_try w left) fs w (subst (λ c. Awaits p k height plain ok c fs) e l.0) l.1
  quantifies exists (a ∷ b ∷ c ∷ d ∷ rest) n fs w other e l o = tt

  calls_core : (c : CoreMember) (owner : Ty) (m : ℕ) (args : List Ty) (values : List Value) (fs : List Frame) (w : World) → CorePushes c (count_given p owner m args) → Waiting (count_given p owner m args) fs → NextInShape p height (call_core p k c owner m args values fs w)
  calls_core Constructor owner m args values fs w e l = pushes p k height plain ok None (count_given p owner m args) fs w (sym e) l.0 l.1
  calls_core (Equality b) owner m args values fs w e l = if_pushed (string_answer (Equality b) values) (count_given p owner m args) fs w e l
  calls_core Concatenation owner m args values fs w e l = if_pushed (string_answer Concatenation values) (count_given p owner m args) fs w e l
  calls_core TextLength owner m args values fs w e l = counts_units (first_texted values) (count_given p owner m args) fs w e l
  calls_core IsNullOrEmpty owner m args values fs w e l = if_pushed (string_answer IsNullOrEmpty values) (count_given p owner m args) fs w e l
  calls_core (Quantifier exists) owner m args values fs w e l = quantifies exists values (count_given p owner m args) fs w (plain_call p k owner m args values fs w) e l (calls_plainly owner m args values fs w l)
  calls_core NotCore owner m args values fs w e l = calls_plainly owner m args values fs w l

  pub calls_member : (owner : Ty) (m : ℕ) (args : List Ty) (values : List Value) (fs : List Frame) (w : World) → Waiting (count_given p owner m args) fs → NextInShape p height (call_member p k owner m args values fs w)
  unfolding call_member
  calls_member owner m args values fs w l = calls_core (core_of p owner m) owner m args values fs w (ok.core owner m args) l

  -- ---- virtual calls

  calls_unfound : (x : CoreMember) (c : Call) (fs : List Frame) (w : World) → CorePushes x (count_given p c.owner c.method c.method_args) → Waiting (count_given p c.owner c.method c.method_args) fs → NextInShape p height (call_unfound p k x c fs w)
  calls_unfound NotCore c fs w e l = go (is_outside p c.method)
    where
      go : (b : Bool) → NextInShape p height (if b then outside_call p k c.owner c.method c.method_args c.values fs w else stuck w)
      go true = calls_outside c.owner c.method c.method_args c.values fs w l
      go false = tt
  calls_unfound Constructor c fs w e l = calls_core Constructor c.owner c.method c.method_args c.values fs w e l
  calls_unfound (Equality b) c fs w e l = calls_core (Equality b) c.owner c.method c.method_args c.values fs w e l
  calls_unfound Concatenation c fs w e l = calls_core Concatenation c.owner c.method c.method_args c.values fs w e l
  calls_unfound TextLength c fs w e l = calls_core TextLength c.owner c.method c.method_args c.values fs w e l
  calls_unfound IsNullOrEmpty c fs w e l = calls_core IsNullOrEmpty c.owner c.method c.method_args c.values fs w e l
  calls_unfound (Quantifier exists) c fs w e l = calls_core (Quantifier exists) c.owner c.method c.method_args c.values fs w e l

  abbrev WaitsFor : Call → List Frame → Type 0
  WaitsFor c fs = Waiting (count_given p c.owner c.method c.method_args) fs

  counted : (b c : Bool) → same_bool (not b) (not c) ≡ true → ◌≡◌ {A = ℕ} (if b then 0 else 1) (if c then 0 else 1)
  counted true true e = refl
  counted true false e = absurd cc
  counted false true e = absurd cc
  counted false false e = refl

  calls_seen : (s : Seen) (c : Call) (values : List Value) (fs : List Frame) (w : World) → WaitsFor c fs → NextInShape p height (if gives_alike p c s then plain_call p k s.0 s.1 c.method_args values fs w else stuck w)
  calls_seen s c values fs w l = go (gives_alike p c s) refl
    where
      go : (b : Bool) → gives_alike p c s ≡ b → NextInShape p height (if b then plain_call p k s.0 s.1 c.method_args values fs w else stuck w)
      go false e = tt
      go true e =
          calls_plainly s.0 s.1 c.method_args values fs w
          (subst (λ n. Awaits p k height plain ok n fs) (counted (is_void (storage p (under (args_of c.owner) c.method_args (method_of p c.method).result))) (is_void (storage p (under (args_of s.0) c.method_args (method_of p s.1).result))) e) l.0, l.1)

  calls_found : (o : Option Seen) (t : Ty) (c : Call) (this : Value) (values : List Value) (fs : List Frame) (w : World) → WaitsFor c fs → NextInShape p height (call_found p k o t c this values fs w)
  calls_found None t c this values fs w l = calls_unfound (core_of p c.owner c.method) c fs w (ok.core c.owner c.method c.method_args) l
  calls_found (Some s) t c this values fs w l = calls_seen s c (this_value p t (out-Value this) this ∷ values) fs w l

  gives_count : (b : Bool) → ◌≡◌ {A = ℕ} (if b then 0 else 1) (if not b then 1 else 0)
  gives_count true = refl
  gives_count false = refl

  calls_on : (c : Call) (this : Value) (values : List Value) (fs : List Frame) (w : World) → WaitsFor c fs → NextInShape p height (call_on p k c this values fs w)
  calls_on c this values fs w l = go (is_null this) (is_invoke p w c this)
    where
      typed : (o : Option Ty) → NextInShape p height (if_there o w (λ t. call_found p k (body_seen p t (c.owner, c.method)) t c this values fs w))
      typed None = tt
      typed (Some t) = calls_found (body_seen p t (c.owner, c.method)) t c this values fs w l

      go : (a b : Bool) → NextInShape p height (if a then raise p k (codes "System.NullReferenceException") fs w else if b then enter_delegate p k (gives_value p c.owner c.method c.method_args) (out-Value this) values Push fs w else if_there (dynamic_type w this) w (λ t. call_found p k (body_seen p t (c.owner, c.method)) t c this values fs w))
      go true b = raises p k height plain ok (codes "System.NullReferenceException") fs w l.1
      go false true = calls_delegate p k height plain ok (gives_value p c.owner c.method c.method_args) (count_given p c.owner c.method c.method_args) (out-Value this) values fs w (gives_count (is_void (storage p (under (args_of c.owner) c.method_args (method_of p c.method).result)))) l.0 l.1
      go false false = typed (dynamic_type w this)

  calls_boxed : (t : Ty) (v : Value) (c : Call) (values : List Value) (fs : List Frame) (w : World) → WaitsFor c fs → NextInShape p height (call_boxed p k t v c values fs w)
  calls_boxed t v c values fs w l = go (new_cell p t v)
    where
      go : (o : Option Cell) → NextInShape p height (if_there o w (λ cell. call_on p k (record c { values = Obj (next_object w) ∷ values }) (Obj (next_object w)) values fs (with_object p (record { ty = t; cells = cell ∷ [] }) w)))
      go None = tt
      go (Some cell) = calls_on (record c { values = Obj (next_object w) ∷ values }) (Obj (next_object w)) values fs (with_object p (record { ty = t; cells = cell ∷ [] }) w) l

  calls_struct : (o : Option Seen) (t : Ty) (q : Pointer) (c : Call) (values : List Value) (fs : List Frame) (w : World) → WaitsFor c fs → NextInShape p height (call_struct p k o t q c values fs w)
  calls_struct (Some s) t q c values fs w l = calls_seen s c (Ptr q ∷ values) fs w l
  calls_struct None t q c values fs w l = go (read p fs w q)
    where
      go : (o : Option Value) → NextInShape p height (if_there o w (λ v. call_boxed p k t v c values fs w))
      go None = tt
      go (Some v) = calls_boxed t v c values fs w l

  calls_constrained : (o : Option Ty) (c : Call) (this : Value) (values : List Value) (fs : List Frame) (w : World) → WaitsFor c fs → NextInShape p height (call_constrained p k o c this values fs w)
  calls_constrained None c this values fs w l = calls_on c this values fs w l
  calls_constrained (Some t) c this values fs w l = go (pointed (out-Value this))
    where
      referred : (q : Pointer) (o : Option Value) → NextInShape p height (if_there o w (λ v. call_on p k (record c { values = v ∷ values }) v values fs w))
      referred q None = tt
      referred q (Some v) = calls_on (record c { values = v ∷ values }) v values fs w l

      by_kind : (q : Pointer) (b : Bool) → NextInShape p height (if b then if_there (read p fs w q) w (λ v. call_on p k (record c { values = v ∷ values }) v values fs w) else call_struct p k (own_body p t (c.owner, c.method)) t q c values fs w)
      by_kind q true = referred q (read p fs w q)
      by_kind q false = calls_struct (own_body p t (c.owner, c.method)) t q c values fs w l

      go : (o : Option Pointer) → NextInShape p height (if_there o w (λ q. if is_reference (storage p t) then if_there (read p fs w q) w (λ v. call_on p k (record c { values = v ∷ values }) v values fs w) else call_struct p k (own_body p t (c.owner, c.method)) t q c values fs w))
      go None = tt
      go (Some q) = by_kind q (is_reference (storage p t))

  calls_virtual_on : (c : Call) (values : List Value) (fs : List Frame) (w : World) → WaitsFor c fs → NextInShape p height (call_virtual_on p k c values fs w)
  calls_virtual_on c [] fs w l = tt
  calls_virtual_on c (this ∷ values) fs w l = calls_constrained c.constrained c this values fs w l

  pub calls_virtual : (c : Call) (fs : List Frame) (w : World) → WaitsFor c fs → NextInShape p height (call_virtual p k c fs w)
  unfolding call_virtual
  calls_virtual c fs w l = go (method_of p c.method).is_static
    where
      go : (b : Bool) → NextInShape p height (if b then stuck w else call_virtual_on p k c c.values fs w)
      go true = tt
      go false = calls_virtual_on c c.values fs w l

  pub finds_virtual : (c : Call) (values : List Value) (fs : List Frame) (w : World) → Waiting 1 fs → NextInShape p height (find_virtual_on p k c values fs w)
  finds_virtual c [] fs w l = tt
  finds_virtual c (this ∷ values) fs w l = go (is_null this)
    where
      typed : (o : Option Ty) → NextInShape p height (if_there o w (λ t. push_below p k (Some (function_of p c (body_seen p t (c.owner, c.method)))) fs w))
      typed None = tt
      typed (Some t) = pushes p k height plain ok (Some (function_of p c (body_seen p t (c.owner, c.method)))) 1 fs w refl l.0 l.1

      go : (b : Bool) → NextInShape p height (if b then raise p k (codes "System.NullReferenceException") fs w else if_there (dynamic_type w this) w (λ t. push_below p k (Some (function_of p c (body_seen p t (c.owner, c.method)))) fs w))
      go true = raises p k height plain ok (codes "System.NullReferenceException") fs w l.1
      go false = typed (dynamic_type w this)

  -- ---- new objects

  new_gives : (t : Ty) (m : Member) (values : List Value) (r : ReplyResult) (back : List Value) (fs gs : List Frame) (w : World) (other : Answer) → Alike fs gs → Gives 1 fs other → Gives 1 fs (new_result p t m values r back gs w other)
  new_gives t m values reply.Default back fs gs w other a o = (refl, a)
  new_gives t m values reply.Void back fs gs w other a o = (refl, a)
  new_gives t m values (reply.Given v) back fs gs w other a o = o
  new_gives t m values (reply.Throw name) back fs gs w other a o = thrown_gives p name 1 fs gs _ other a o

  making_gives : (t : Ty) (m : Member) (values : List Value) (r : Reply) (fs : List Frame) (w : World) (o : Option (List Frame × World)) → IfSome {T = List Frame × World} o (λ x. Alike fs x.0) → Gives 1 fs (making p t m values r w o)
  making_gives t m values r fs w None a = tt
  making_gives t m values r fs w (Some x) a = new_gives t m values r.result r.by_ref fs x.0 x.1 _ a tt

  asks_new : (t : Ty) (m : Member) (values : List Value) (fs : List Frame) (w : World) → Gives 1 fs (ask_new p t m values fs w)
  unfolding ask_new
  asks_new t m values fs w = go (stored_args p m.params values)
    where
      go : (o : Option (List Cell)) → Gives 1 fs (maybe (Unfit w) (λ (cells : List Cell). making p t m (map (λ (c : Cell). c.value) cells) (next_reply w.replies) w (stored_back p (by_ref_args m.params (map (λ (c : Cell). c.value) cells)) (next_reply w.replies).by_ref fs w)) o)
      go None = tt
      go (Some cells) =
          let vs : List Value = map (λ (c : Cell). c.value) cells in
          making_gives t m vs (next_reply w.replies) fs w (stored_back p (by_ref_args m.params vs) (next_reply w.replies).by_ref fs w) (stored_alike p (by_ref_args m.params vs) (next_reply w.replies).by_ref fs w)

  new_answers : (fs : List Frame) (a : Answer) → Gives 1 fs a → Waiting 1 fs → NextInShape p height (use_answer p k (pushes_new p k) a)
  new_answers fs (Returned None gs w) g l = tt
  new_answers fs (Returned (Some v) gs w) g l = pushes p k height plain ok (Some v) 1 gs w refl (awaits_alike p k height plain ok 1 fs gs g.1 l.0) (lie_alike p height fs gs g.1 l.1)
  new_answers fs (Threw x gs w) g l = unwinds p k height plain ok false gs w x (lie_alike p height fs gs g l.1)
  new_answers fs (Unfit w) g l = tt

  makes_core : (c : CoreMember) (t : Ty) (fs : List Frame) (w : World) (other : Next) → Waiting 1 fs → NextInShape p height other → NextInShape p height (make_core p k (pushes_new p k) c t fs w other)
  makes_core Constructor t fs w other l o = pushes p k height plain ok (Some (Obj (next_object w))) 1 fs _ refl l.0 l.1
  makes_core (Equality b) t fs w other l o = o
  makes_core Concatenation t fs w other l o = o
  makes_core TextLength t fs w other l o = o
  makes_core IsNullOrEmpty t fs w other l o = o
  makes_core (Quantifier exists) t fs w other l o = o
  makes_core NotCore t fs w other l o = o

  over_new : (x : Value) (n a : ℕ) (fs : List Frame) → Awaits p k height plain ok 1 fs → Over p height (PushObject x) n a fs
  over_new x n a [] h = tt
  over_new x n a (f ∷ fs) h = h

  makes_own : (t : Ty) (m : ℕ) (values : List Value) (fs : List Frame) (w : World) → Waiting 1 fs → NextInShape p height (make_own p k (pushes_new p k) t m values fs w)
  makes_own t m values fs w l = go (is_reference (storage p t)) (with_object p (new_object t (default_cells p (map (λ (x : ℕ × Ty). x.1) (layout p t)))) w)
    where
      go : (b : Bool) (u : World) → NextInShape p height (if b then enter p k t m [] (Obj (next_object w) ∷ values) (PushObject (Obj (next_object w))) fs u else enter_struct p k t m [] values fs w)
      go true u = enters p k height plain ok t m [] (Obj (next_object w) ∷ values) (PushObject (Obj (next_object w))) fs u (λ a. over_new (Obj (next_object w)) (count_given p t m []) a fs l.0) l.1
      go false u = enters_struct p k height plain ok t m [] values fs w l.0 l.1

  pub makes : (t : Ty) (m : ℕ) (values : List Value) (fs : List Frame) (w : World) → Waiting 1 fs → NextInShape p height (make p k (pushes_new p k) t m values fs w)
  unfolding make
  makes t m values fs w l =
      either p height (makes_delegate p t m values) (push_below p k (Some (Obj (next_object w))) fs (with_object p (new_object t (delegate_cells values)) w)) _
      (pushes p k height plain ok (Some (Obj (next_object w))) 1 fs _ refl l.0 l.1)
      (makes_core (core_of p t m) t fs w _ l
      (either p height (is_outside p m) (make_outside p k (pushes_new p k) t m values fs w) _ (new_answers fs _ (asks_new t _ values fs w) l)
      (either p height (is_some (method_of p m).body) (make_own p k (pushes_new p k) t m values fs w) (stuck w) (makes_own t m values fs w l) tt)))
