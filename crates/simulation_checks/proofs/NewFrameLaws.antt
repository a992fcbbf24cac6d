-- A constructor outside without by-reference parameters leaves the frames as they were, and makes an object of a class.
use Rattle.std.proofs.Common.{◌≡◌, ℕ, zero, suc, Bool, true, false, List, [], ◌∷◌, length, Option, Some, None, refl, sym, ap, ◌∙◌, subst}
use Rattle.std.specs.Prelude.{◌&&◌, if◌then◌else◌, map, codes, option_and_then}
use Rattle.cil_model.specs.declared.ty.Ty.{Ty, out-Ty}
use Rattle.cil_model.specs.declared.ty.Ty as types
use Rattle.cil_model.specs.declared.ty.Ty.TheOpen.{Ty-F}
use Rattle.cil_model.specs.declared.value.Value.{Value, out-Value, Text, Obj}
use Rattle.cil_model.specs.declared.run.ReplyResult.{ReplyResult}
use Rattle.cil_model.specs.declared.run.ReplyResult.TheVariants as reply
use Rattle.cil_model.specs.declared.program.Program.{Program}
use Rattle.cil_semantics.specs.Words.{maybe}
use Rattle.cil_semantics.specs.Types.{under, all_under, same_ty, same_tys}
use Rattle.cil_semantics.specs.Core.{Name, class_named, string_ty}
use Rattle.cil_semantics.specs.Lookups.{is_sub, method_of, in_set, args_of}
use Rattle.cil_semantics.specs.declared.state.Cell.{Cell}
use Rattle.cil_semantics.specs.declared.state.Object.{Object}
use Rattle.cil_semantics.specs.Places.{storage, is_reference, default_cells, default_value, default_within, default_by_storage, field_types, layout}
use Rattle.il_opcodes.specs.declared.class.Storage.{Storage}
use Rattle.il_opcodes.specs.declared.class.Storage.TheVariants.{Truncated, Long, NativeInt, Reference, Address, Fields, Opaque, Anything, Void}
use Rattle.cil_semantics.specs.Checks.{number_of_object}
use Rattle.splice_facts.specs.Exceptions.{IsObject}
use Rattle.cil_semantics.specs.declared.state.World.{World}
use Rattle.cil_semantics.specs.declared.state.Frame.{Frame}
use Rattle.cil_semantics.specs.State.{with_object, next_object}
use Rattle.cil_semantics.specs.Frames.{stored_args, this_type}
use Rattle.cil_semantics.specs.Outside.{referred_type, by_ref_args, stored_back, Answer, Returned, Threw, Unfit, next_reply, Member, member_of, recorded, thrown_out, Made, MadeValue, MadeObject, is_string, made, with_made, new_result, making, ask_new}
use Rattle.cil_semantics.specs.Calls.{without_this}
use Rattle.splice_facts.proofs.AskFrameLaws.{with_frames, thrown_frames}

-- what a new one is, is an object
abbrev pub AnswersObject : Answer → Type 0
AnswersObject (Returned v gs w) = (y : ℕ) × (v ≡ Some (Obj y))
AnswersObject (Threw y gs w) = Unit {0}
AnswersObject (Unfit w) = Unit {0}

module _ (p : Program) (t : Ty) (m : Member) where
  new_frames : (vs : List Value) (x : ReplyResult) (back : List Value) (fs : List Frame) (w u : World) → new_result p t m vs x back fs w (Unfit u) ≡ with_frames fs (new_result p t m vs x back [] w (Unfit u))
  new_frames vs reply.Default back fs w u = refl
  new_frames vs reply.Void back fs w u = refl
  new_frames vs (reply.Given v) back fs w u = refl
  new_frames vs (reply.Throw name) back fs w u = thrown_frames p m name fs (recorded m vs (reply.Throw name) back w) u

  thrown_object : (name : Name) (fs : List Frame) (w u : World) → AnswersObject (thrown_out p name fs w (Unfit u))
  thrown_object name fs w u = by_test (is_sub p (class_named name) (class_named (codes "System.Exception")))
    where
      by_test : (b : Bool) → AnswersObject (if b then Threw (next_object w) fs (with_object p (record { ty = class_named name; cells = [] }) w) else Unfit u)
      by_test true = tt
      by_test false = tt

  new_object : (o : Object) → made p t ≡ MadeObject o → (vs : List Value) (x : ReplyResult) (back : List Value) (fs : List Frame) (w u : World) → AnswersObject (new_result p t m vs x back fs w (Unfit u))
  new_object o e vs reply.Default back fs w u = (next_object w, ap (λ y. Some (with_made p y w).0) e)
  new_object o e vs reply.Void back fs w u = (next_object w, ap (λ y. Some (with_made p y w).0) e)
  new_object o e vs (reply.Given v) back fs w u = tt
  new_object o e vs (reply.Throw name) back fs w u = thrown_object name fs (recorded m vs (reply.Throw name) back w) u

  pub ask_new_frames : (values : List Value) (fs : List Frame) (w : World) → ((vs : List Value) → by_ref_args m.params vs ≡ []) → ask_new p t m values fs w ≡ with_frames fs (ask_new p t m values [] w)
  unfolding ask_new
  ask_new_frames values fs w none = by_cells (stored_args p m.params values)
    where
      by_back : (vs back : List Value) (x : ReplyResult) → making p t m vs (record { result = x; by_ref = back }) w (stored_back p [] back fs w) ≡ with_frames fs (making p t m vs (record { result = x; by_ref = back }) w (stored_back p [] back [] w))
      by_back vs [] x = new_frames vs x [] fs w (recorded m vs x [] w)
      by_back vs (v ∷ more) x = refl

      by_cells : (o : Option (List Cell)) → maybe (Unfit w) (λ (cells : List Cell). making p t m (map (λ (c : Cell). c.value) cells) (next_reply w.replies) w (stored_back p (by_ref_args m.params (map (λ (c : Cell). c.value) cells)) (next_reply w.replies).by_ref fs w)) o
          ≡ with_frames fs (maybe (Unfit w) (λ (cells : List Cell). making p t m (map (λ (c : Cell). c.value) cells) (next_reply w.replies) w (stored_back p (by_ref_args m.params (map (λ (c : Cell). c.value) cells)) (next_reply w.replies).by_ref [] w)) o)
      by_cells None = refl
      by_cells (Some cells) =
          let vs = map (λ (c : Cell). c.value) cells in
          let x = next_reply w.replies in
          ap (λ a. making p t m vs x w (stored_back p a x.by_ref fs w)) (none vs) ∙ by_back vs x.by_ref x.result ∙ sym (ap (λ a. with_frames fs (making p t m vs x w (stored_back p a x.by_ref [] w))) (none vs))

  pub ask_new_object : (values : List Value) (fs : List Frame) (w : World) (o : Object) → made p t ≡ MadeObject o → AnswersObject (ask_new p t m values fs w)
  unfolding ask_new
  ask_new_object values fs w o e = by_cells (stored_args p m.params values)
    where
      by_back : (vs : List Value) (y : Option (List Frame × World)) → AnswersObject (making p t m vs (next_reply w.replies) w y)
      by_back vs None = tt
      by_back vs (Some y) = new_object o e vs (next_reply w.replies).result (next_reply w.replies).by_ref y.0 y.1 (recorded m vs (next_reply w.replies).result (next_reply w.replies).by_ref w)

      by_cells : (c : Option (List Cell)) → AnswersObject (maybe (Unfit w) (λ (cells : List Cell). making p t m (map (λ (c : Cell). c.value) cells) (next_reply w.replies) w (stored_back p (by_ref_args m.params (map (λ (c : Cell). c.value) cells)) (next_reply w.replies).by_ref fs w)) c)
      by_cells None = tt
      by_cells (Some cells) = by_back (map (λ (c : Cell). c.value) cells) (stored_back p (by_ref_args m.params (map (λ (c : Cell). c.value) cells)) (next_reply w.replies).by_ref fs w)

-- an object that is answered is there
abbrev pub AnswerThere : Answer → Type 0
AnswerThere (Returned v gs w) = (y : ℕ) → option_and_then (λ x. number_of_object (out-Value x)) v ≡ Some y → IsObject (length w.heap) y
AnswerThere (Threw y gs w) = Unit {0}
AnswerThere (Unfit w) = Unit {0}

no_default : (n : ℕ) (p : Program) (t : Ty) → number_of_object (out-Value (default_within n p t)) ≡ None
unfolding default_within Rattle.cil_model.specs.declared.value.Value.out-Value denote.Hole.Carrier.out
no_default zero p t = refl
no_default (suc n) p t = by_storage (storage p t)
  where
    by_storage : (h : Storage) → number_of_object (out-Value (default_by_storage (default_within n p) (field_types p t) h)) ≡ None
    by_storage (Truncated b s) = refl
    by_storage Long = refl
    by_storage NativeInt = refl
    by_storage Reference = refl
    by_storage Address = refl
    by_storage (Fields ts) = refl
    by_storage Opaque = refl
    by_storage Anything = refl
    by_storage Void = refl

module _ (p : Program) (t : Ty) (m : Member) where
  abbrev IsMadeThere : Made → Type 0
  IsMadeThere x = (w : World) (y : ℕ) → number_of_object (out-Value (with_made p x w).0) ≡ Some y → IsObject (length (with_made p x w).1.heap) y

  made_object : (o : Object) → IsMadeThere (MadeObject o)
  unfolding Rattle.cil_model.specs.declared.value.Value.out-Value denote.Hole.Carrier.out
  made_object o w y e = let q : next_object w ≡ y = cc e in subst (IsObject (length (with_object p o w).heap)) q (Rattle.splice_facts.proofs.ExceptionLaws.new_object w.heap o)

  made_there : IsMadeThere (made p t)
  unfolding made Rattle.cil_model.specs.declared.value.Value.out-Value denote.Hole.Carrier.out
  made_there = by_tests (is_string (out-Ty t)) (is_reference (storage p t))
    where
      by_tests : (a b : Bool) → IsMadeThere (if a then MadeValue (Text []) else if b then MadeObject (record { ty = t; cells = default_cells p (map (λ (x : ℕ × Ty). x.1) (layout p t)) }) else MadeValue (default_value p t))
      by_tests true b w y e = absurd (cc e)
      by_tests false true w y e = made_object (record { ty = t; cells = default_cells p (map (λ (x : ℕ × Ty). x.1) (layout p t)) }) w y e
      by_tests false false w y e = let z : None ≡ Some y = sym (no_default 1001 p t) ∙ e in absurd (cc z)

  thrown_there : (name : Name) (fs : List Frame) (w u : World) → AnswerThere (thrown_out p name fs w (Unfit u))
  thrown_there name fs w u = by_test (is_sub p (class_named name) (class_named (codes "System.Exception")))
    where
      by_test : (b : Bool) → AnswerThere (if b then Threw (next_object w) fs (with_object p (record { ty = class_named name; cells = [] }) w) else Unfit u)
      by_test true = tt
      by_test false = tt

  new_there : (vs : List Value) (x : ReplyResult) (back : List Value) (fs : List Frame) (w u : World) → AnswerThere (new_result p t m vs x back fs w (Unfit u))
  new_there vs reply.Default back fs w u = λ y e. made_there w y e
  new_there vs reply.Void back fs w u = λ y e. made_there w y e
  new_there vs (reply.Given v) back fs w u = tt
  new_there vs (reply.Throw name) back fs w u = thrown_there name fs (recorded m vs (reply.Throw name) back w) u

  pub ask_new_there : (values : List Value) (fs : List Frame) (w : World) → AnswerThere (ask_new p t m values fs w)
  unfolding ask_new
  ask_new_there values fs w = by_cells (stored_args p m.params values)
    where
      by_back : (vs : List Value) (y : Option (List Frame × World)) → AnswerThere (making p t m vs (next_reply w.replies) w y)
      by_back vs None = tt
      by_back vs (Some y) = new_there vs (next_reply w.replies).result (next_reply w.replies).by_ref y.0 y.1 (recorded m vs (next_reply w.replies).result (next_reply w.replies).by_ref w)

      by_cells : (c : Option (List Cell)) → AnswerThere (maybe (Unfit w) (λ (cells : List Cell). making p t m (map (λ (c : Cell). c.value) cells) (next_reply w.replies) w (stored_back p (by_ref_args m.params (map (λ (c : Cell). c.value) cells)) (next_reply w.replies).by_ref fs w)) c)
      by_cells None = tt
      by_cells (Some cells) = by_back (map (λ (c : Cell). c.value) cells) (stored_back p (by_ref_args m.params (map (λ (c : Cell). c.value) cells)) (next_reply w.replies).by_ref fs w)

-- a class of the set is no string
not_string : (x : Ty-F Ty) (d : ℕ × List Ty) → in_set x ≡ Some d → is_string x ≡ false
not_string (Ty-F.Known k) d e = refl
not_string (Ty-F.Inst k args) d e = refl
not_string _ d e = absurd (cc e)

abbrev fresh : Program → Ty → Object
fresh p t = record { ty = t; cells = default_cells p (map (λ (x : ℕ × Ty). x.1) (layout p t)) }

pub made_of_class : (p : Program) (t : Ty) (d : ℕ × List Ty) → in_set (out-Ty t) ≡ Some d → is_reference (storage p t) ≡ true → made p t ≡ MadeObject (fresh p t)
unfolding made
made_of_class p t d e ref =
    ap (λ b. if b then MadeValue (Text []) else if is_reference (storage p t) then MadeObject (fresh p t) else MadeValue (default_value p t)) (not_string (out-Ty t) d e)
    ∙ ap (λ b. if b then MadeObject (fresh p t) else MadeValue (default_value p t)) ref

-- ---- parameters that are all strings

plain_string : (a b : List Ty) (t : Ty) → same_ty t string_ty ≡ true → referred_type (out-Ty (under a b t)) ≡ None
unfolding types.out-Ty denote.Hole.Carrier.out
plain_string a b (types.Prim n) e = refl
plain_string a b _ e = absurd (cc e)

module _ (a b : List Ty) where
  no_params : (ps : List Ty) → same_tys ps [] ≡ true → (vs : List Value) → by_ref_args (all_under a b ps) vs ≡ []
  no_params [] e vs = refl
  no_params (t ∷ ts) e vs = absurd (cc e)

  one_param : (ps : List Ty) → same_tys ps (string_ty ∷ []) ≡ true → (vs : List Value) → by_ref_args (all_under a b ps) vs ≡ []
  one_param [] e vs = absurd (cc e)
  one_param (t ∷ u ∷ us) e vs = absurd (never (same_ty t string_ty) e)
    where
      never : (c : Bool) → (c && false) ≡ true → ⊥
      never true q = cc q
      never false q = cc q
  one_param (t ∷ []) e [] = refl
  one_param (t ∷ []) e (v ∷ vs) = ap (λ o. maybe {X = Ty} [] (λ u. (u, v) ∷ []) o) (plain_string a b t (only (same_ty t string_ty) e))
    where
      only : (c : Bool) → (c && true) ≡ true → c ≡ true
      only true q = refl
      only false q = cc q

  none_behind : (ps : List Ty) → same_tys ps [] ≡ true → (vs : List Value) → by_ref_args (without_this (all_under a b ps)) vs ≡ []
  none_behind [] e vs = refl
  none_behind (t ∷ ts) e vs = absurd (cc e)

  one_behind : (ps : List Ty) → same_tys ps (string_ty ∷ []) ≡ true → (vs : List Value) → by_ref_args (without_this (all_under a b ps)) vs ≡ []
  one_behind [] e vs = absurd (cc e)
  one_behind (t ∷ []) e vs = refl
  one_behind (t ∷ u ∷ us) e vs = absurd (never (same_ty t string_ty) e)
    where
      never : (c : Bool) → (c && false) ≡ true → ⊥
      never true q = cc q
      never false q = cc q

-- a constructor without parameters, or of a text, has none by reference
module _ (p : Program) (t : Ty) (m : ℕ) where
  by_static : (s : Bool) (us : List Ty) → ((vs : List Value) → by_ref_args us vs ≡ []) → ((vs : List Value) → by_ref_args (without_this us) vs ≡ []) → (vs : List Value) → by_ref_args (without_this (if s then us else this_type p t ∷ us)) vs ≡ []
  by_static true us one two vs = two vs
  by_static false us one two vs = one vs

  pub text_plain : same_tys (method_of p m).params (string_ty ∷ []) ≡ true → (vs : List Value) → by_ref_args (without_this (member_of p t m []).params) vs ≡ []
  text_plain e = by_static (method_of p m).is_static (all_under (args_of t) [] (method_of p m).params) (one_param (args_of t) [] (method_of p m).params e) (one_behind (args_of t) [] (method_of p m).params e)

  pub bare_plain : same_tys (method_of p m).params [] ≡ true → (vs : List Value) → by_ref_args (without_this (member_of p t m []).params) vs ≡ []
  bare_plain e = by_static (method_of p m).is_static (all_under (args_of t) [] (method_of p m).params) (no_params (args_of t) [] (method_of p m).params e) (none_behind (args_of t) [] (method_of p m).params e)

-- the constructor of an outside exception, which takes a text
pub string_plain : (vs : List Value) → by_ref_args (string_ty ∷ []) vs ≡ []
unfolding types.out-Ty denote.Hole.Carrier.out
string_plain [] = refl
string_plain (v ∷ vs) = refl
