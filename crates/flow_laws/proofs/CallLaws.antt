-- What calls and the ends of frames leave: the frame below has what it waits for, or a frame begins, or an exception unwinds.
use Rattle.std.proofs.Common.{◌≡◌, ◌<◌, ◌+◌, ℕ, Bool, true, false, not, ◌&&◌, List, [], ◌∷◌, ◌++◌, length, Option, Some, None, refl, sym, ◌∙◌, arith, subst}
use Rattle.std.specs.Prelude.{if◌then◌else◌, IfSome, option_map, option_and_then, reverse, is_some}
use Rattle.std.proofs.lemmas.List.{length-reverse, length-append}
use Rattle.cil_model.specs.declared.contract.Contracts.{Contracts}
use Rattle.cil_model.specs.declared.program.Program.{Program}
use Rattle.cil_model.specs.declared.ty.Ty.{Ty}
use Rattle.cil_model.specs.declared.value.Value.{Value, out-Value}
use Rattle.cil_model.specs.declared.value.Value.TheOpen.{Value-F}
use Rattle.il_opcodes.specs.declared.class.Storage.{Storage}
use Rattle.il_opcodes.specs.declared.class.Storage.TheVariants.{Truncated, Long, NativeInt, Reference, Address, Fields, Opaque, Anything, Void}
use Rattle.cil_semantics.specs.declared.state.Access.{Access}
use Rattle.cil_semantics.specs.declared.state.Cell.{Cell}
use Rattle.cil_semantics.specs.declared.state.Continuation.{Continuation}
use Rattle.cil_semantics.specs.declared.state.Continuation.TheVariants.{Push, PushObject, PushStruct, ThrowObject, BeginCallee, UseField, TryNext}
use Rattle.cil_semantics.specs.declared.state.Frame.{Frame}
use Rattle.cil_semantics.specs.declared.state.Local.{Local}
use Rattle.cil_semantics.specs.declared.state.Object.{Object}
use Rattle.cil_semantics.specs.declared.state.Remaining.{Remaining}
use Rattle.cil_semantics.specs.declared.state.World.{World}
use Rattle.cil_semantics.specs.Words.{same_bool}
use Rattle.cil_semantics.specs.Lookups.{method_of, type_of}
use Rattle.cil_semantics.specs.Places.{is_void, storage, stored_in, default_cell}
use Rattle.cil_semantics.specs.State.{object_at, with_local}
use Rattle.cil_semantics.specs.Contracted.{Plan}
use Rattle.cil_semantics.specs.Acts.{flag, truth}
use Rattle.cil_semantics.specs.Returns.{push_below, last_cell, try_next, tried, return_with, return_to, kept_as, returned, result_type, return_from, returns}
use Rattle.cil_semantics.specs.Frames.{stuck, if_there, first_place, frame_with, initializer_frame, begin, begin_behind, begin_use, is_use, Initializer, Ready, FailedWith, ToRun, initializer, with_begun, enter, enter_struct, param_types, stored_args, enter_function, enter_delegate, gives_value, next_try, use_behind, owner_type, parts_of, delegate_values}
use Rattle.cil_semantics.specs.Unwind.{plan_at, place_in}
use Rattle.il_flow.specs.Counts.{pushed_by}
use Rattle.flow_laws.specs.Shapes.{HeightsOf, count_of, HasHeight, Stands, Waits, AllGoOn, Over, Lie, NextInShape}
use Rattle.flow_laws.specs.Measured.{Measured, IsPlain, count_given}
use Rattle.flow_laws.proofs.LandLaws.{OverBy, Awaits, size, begins_at_zero, arrives, pushes, unwinds}
use Rattle.flow_laws.proofs.WriteLaws.{uses}

-- ---- how many values are returned

some_size : (o : Option Value) → IfSome (option_map Some o) (λ v. size v ≡ 1)
some_size None = tt
some_size (Some v) = refl

kept_size : (p : Program) (t : Ty) (h : Storage) (s : List Value) → IfSome (kept_as p t h s) (λ v. size v ≡ (if is_void h then 0 else 1))
kept_size p t Void s = refl
kept_size p t (Truncated n b) [] = tt
kept_size p t (Truncated n b) (v ∷ s) = some_size (stored_in p t v)
kept_size p t Long [] = tt
kept_size p t Long (v ∷ s) = some_size (stored_in p t v)
kept_size p t NativeInt [] = tt
kept_size p t NativeInt (v ∷ s) = some_size (stored_in p t v)
kept_size p t Reference [] = tt
kept_size p t Reference (v ∷ s) = some_size (stored_in p t v)
kept_size p t Address [] = tt
kept_size p t Address (v ∷ s) = some_size (stored_in p t v)
kept_size p t (Fields n) [] = tt
kept_size p t (Fields n) (v ∷ s) = some_size (stored_in p t v)
kept_size p t Opaque [] = tt
kept_size p t Opaque (v ∷ s) = some_size (stored_in p t v)
kept_size p t Anything [] = tt
kept_size p t Anything (v ∷ s) = some_size (stored_in p t v)

-- a struct that a constructor made is there
last_there : (cs : List Cell) → 0 < length cs → size (last_cell cs) ≡ 1
last_there cs h = go (reverse cs) refl (length-reverse cs)
  where
    go : (ds : List Cell) → reverse cs ≡ ds → length ds ≡ length cs → size (last_cell cs) ≡ 1
    go [] e n = absurd (omega (arith, n, h))
    go (d ∷ ds) e n = rw e refl

module _ (p : Program) (k : Contracts) (height : HeightsOf) (plain : IsPlain p k) (ok : Measured p height) where
  -- ---- frames that begin

  abbrev Ready' : Frame → List Frame → Type 0
  Ready' f fs = Stands p height f × Lie p height (f ∷ fs)

  begins : (f : Frame) (fs : List Frame) (w : World) → Ready' f fs → NextInShape p height (begin p k f fs w)
  begins f fs w r = arrives p k height plain ok f f.at f.local f.handling fs w r.0 r.1.0 r.1.1 r.1.2

  first : (m : ℕ) (o : Option Plan) → HasHeight p height m (place_in (first_place o)) 0
  first m None = begins_at_zero p k height plain ok m
  first m (Some x) = begins_at_zero p k height plain ok m

  initializes : (t : Ty) (m : ℕ) (back : Continuation) (fs : List Frame) (w : World) → Over p height back (count_of p (result_type p (initializer_frame p k t m back fs))) 0 fs → Lie p height fs → NextInShape p height (begin p k (initializer_frame p k t m back fs) fs w)
  initializes t m back fs w over lie = begins (initializer_frame p k t m back fs) fs w (first m (plan_at k p m), (tt, over, lie))

  begins_behind : (i : Initializer) (t : Ty) (f : Frame) (fs : List Frame) (w : World) → Ready' f fs → NextInShape p height (begin_behind p k i t f fs w)
  begins_behind Ready t f fs w r = begins f fs w r
  begins_behind (FailedWith x) t f fs w r = unwinds p k height plain ok false fs w x r.1.2
  begins_behind (ToRun m) t f fs w r = initializes t m BeginCallee (f ∷ fs) (with_begun p t w) r.0 r.1

  begins_use : (t : Ty) (f : Frame) (fs : List Frame) (w : World) → Ready' f fs → NextInShape p height (begin_use p k t f fs w)
  begins_use t f fs w r = go (is_use (method_of p f.method))
    where
      go : (b : Bool) → NextInShape p height (if b then begin_behind p k (initializer p w t) t f fs w else begin p k f fs w)
      go true = begins_behind (initializer p w t) t f fs w r
      go false = begins f fs w r

  pub enters : (owner : Ty) (m : ℕ) (args : List Ty) (values : List Value) (back : Continuation) (fs : List Frame) (w : World) → ((a : ℕ) → Over p height back (count_given p owner m args) a fs) → Lie p height fs → NextInShape p height (enter p k owner m args values back fs w)
  enters owner m args values back fs w over lie = go (stored_args p (param_types p owner m args) values)
    where
      go : (o : Option (List Cell)) → NextInShape p height (if_there o w (λ cells. begin_use p k owner (frame_with p k owner m args cells back fs) fs w))
      go None = tt
      go (Some cells) = begins_use owner (frame_with p k owner m args cells back fs) fs w (first m (plan_at k p m), (tt, over (length cells), lie))

  pub enters_struct : (owner : Ty) (m : ℕ) (args : List Ty) (values : List Value) (fs : List Frame) (w : World) → Awaits p k height plain ok 1 fs → Lie p height fs → NextInShape p height (enter_struct p k owner m args values fs w)
  enters_struct owner m args values fs w waits lie = go (stored_args p (param_types p owner m args) _)
    where
      over : (n a : ℕ) (gs : List Frame) → 0 < a → Awaits p k height plain ok 1 gs → Over p height PushStruct n a gs
      over n a [] h x = tt
      over n a (g ∷ gs) h x = (x, h)

      go : (o : Option (List Cell)) → NextInShape p height (if_there o w (λ cells. begin_use p k owner (frame_with p k owner m args (cells ++ default_cell p owner ∷ []) PushStruct fs) fs w))
      go None = tt
      go (Some cells) = begins_use owner (frame_with p k owner m args (cells ++ default_cell p owner ∷ []) PushStruct fs) fs w (first m (plan_at k p m), (tt, over (count_given p owner m args) (length (cells ++ default_cell p owner ∷ [])) fs (omega (arith, length-append cells (default_cell p owner ∷ []))) waits, lie))

  -- a static field is used, behind its type's initializer
  pub uses_behind : (i : Initializer) (t : Ty) (a : Access) (f : Frame) (l : Local) (fs : List Frame) (w : World) → HasHeight p height f.method (place_in f.at + 1) (length l.stack + pushed_by a) → AllGoOn p height f.method f.handling → OverBy p k height plain ok f l fs → Lie p height fs → NextInShape p height (use_behind p k i t a f l fs w)
  uses_behind Ready t a f l fs w h g over lie = uses p k height plain ok a f l fs w (h, g, over, lie)
  uses_behind (FailedWith x) t a f l fs w h g over lie = unwinds p k height plain ok false (record f { local = l } ∷ fs) w x (g, over, lie)
  uses_behind (ToRun m) t a f l fs w h g over lie = initializes t m (UseField a) (record f { local = l } ∷ fs) (with_begun p t w) h (g, over, lie)

  -- ---- delegates

  enters_function : (gives : Bool) (v : Value-F Value) (target : Value) (values : List Value) (back : Continuation) (fs : List Frame) (w : World) → ((n a : ℕ) → n ≡ (if gives then 1 else 0) → Over p height back n a fs) → Lie p height fs → NextInShape p height (enter_function p k gives v target values back fs w)
  enters_function gives (Value-F.Func m u) target values back fs w over lie = go (is_some (method_of p m).body) (not (type_of p (method_of p m).owner).reference) (same_bool gives (gives_value p (owner_type p m u.type_args) m u.method_args)) refl
    where
      count : (b c : Bool) → same_bool b (not c) ≡ true → ◌≡◌ {A = ℕ} (if c then 0 else 1) (if b then 1 else 0)
      count true true e = absurd cc
      count true false e = refl
      count false true e = refl
      count false false e = absurd cc

      go : (a b c : Bool) → same_bool gives (gives_value p (owner_type p m u.type_args) m u.method_args) ≡ c
          → NextInShape p height (if a && (b && c) then enter p k (owner_type p m u.type_args) m u.method_args (delegate_values p (owner_type p m u.type_args) m target values) back fs w else stuck w)
      go true true true e = enters (owner_type p m u.type_args) m u.method_args (delegate_values p (owner_type p m u.type_args) m target values) back fs w (λ a. over (count_given p (owner_type p m u.type_args) m u.method_args) a (count gives _ e)) lie
      go true true false e = tt
      go true false c e = tt
      go false b c e = tt
  enters_function gives _ target values back fs w over lie = tt

  enters_delegate : (gives : Bool) (v : Value-F Value) (values : List Value) (back : Continuation) (fs : List Frame) (w : World) → ((n a : ℕ) → n ≡ (if gives then 1 else 0) → Over p height back n a fs) → Lie p height fs → NextInShape p height (enter_delegate p k gives v values back fs w)
  enters_delegate gives (Value-F.Obj x) values back fs w over lie = go (option_and_then (λ (o : Object). parts_of o.cells) (object_at w x))
    where
      go : (o : Option (Value × Value)) → NextInShape p height (if_there o w (λ (d : Value × Value). enter_function p k gives (out-Value d.1) d.0 values back fs w))
      go None = tt
      go (Some d) = enters_function gives (out-Value d.1) d.0 values back fs w over lie
  enters_delegate gives _ values back fs w over lie = tt

  pub calls_delegate : (gives : Bool) (n : ℕ) (v : Value-F Value) (values : List Value) (fs : List Frame) (w : World) → n ≡ (if gives then 1 else 0) → Awaits p k height plain ok n fs → Lie p height fs → NextInShape p height (enter_delegate p k gives v values Push fs w)
  calls_delegate gives n v values fs w e h lie = enters_delegate gives v values Push fs w (λ m a f. over m a fs (e ∙ sym f) h) lie
    where
      over : (m a : ℕ) (gs : List Frame) → n ≡ m → Awaits p k height plain ok n gs → Over p height Push m a gs
      over m a [] f x = tt
      over m a (g ∷ gs) f x = subst (Waits p height g) f x

  pub tries_next : (exists : Bool) (target : Value) (o : Option (Value × Remaining)) (fs : List Frame) (w : World) → Awaits p k height plain ok 1 fs → Lie p height fs → NextInShape p height (try_next p k exists target o fs w)
  tries_next exists target None fs w h lie = pushes p k height plain ok (Some (flag (not exists))) 1 fs w refl h lie
  tries_next exists target (Some x) fs w h lie = enters_delegate true (out-Value target) (x.0 ∷ []) (TryNext exists target x.1) fs w (λ n a e. over n a fs h) lie
    where
      over : (n a : ℕ) (gs : List Frame) → Awaits p k height plain ok 1 gs → Over p height (TryNext exists target x.1) n a gs
      over n a [] y = tt
      over n a (g ∷ gs) y = y

  -- ---- the end of a frame

  abbrev Returned : Continuation → ℕ → ℕ → List Frame → Type 0
  Returned c n a fs = Over p height c n a fs × Lie p height fs

  tries : (exists : Bool) (target : Value) (left : Remaining) (o : Option Bool) (fs : List Frame) (w : World) → Awaits p k height plain ok 1 fs → Lie p height fs → NextInShape p height (tried p k exists target left o fs w)
  tries exists target left None fs w h lie = tt
  tries exists target left (Some b) fs w h lie = go (same_bool exists b)
    where
      go : (c : Bool) → NextInShape p height (if c then push_below p k (Some (flag exists)) fs w else try_next p k exists target (next_try w left) fs w)
      go true = pushes p k height plain ok (Some (flag exists)) 1 fs w refl h lie
      go false = tries_next exists target (next_try w left) fs w h lie

  ends : (c : Continuation) (args : List Cell) (v : Option Value) (n : ℕ) (fs : List Frame) (w : World) → size v ≡ n → Returned c n (length args) fs → NextInShape p height (return_with p k c args v fs w)
  ends Push args v n [] w e r = tt
  ends Push args v n (f ∷ fs) w e r = pushes p k height plain ok v n (f ∷ fs) w e r.0 r.1
  ends (PushObject x) args v n [] w e r = tt
  ends (PushObject x) args v n (f ∷ fs) w e r = pushes p k height plain ok (Some x) 1 (f ∷ fs) w refl r.0 r.1
  ends PushStruct args v n [] w e r = tt
  ends PushStruct args v n (f ∷ fs) w e r = pushes p k height plain ok (last_cell args) 1 (f ∷ fs) w (last_there args r.0.1) r.0.0 r.1
  ends (ThrowObject x) args v n fs w e r = unwinds p k height plain ok false fs w x r.1
  ends BeginCallee args v n [] w e r = tt
  ends BeginCallee args v n (f ∷ fs) w e r = begins f fs w (r.0, r.1)
  ends (UseField a) args v n [] w e r = tt
  ends (UseField a) args v n (f ∷ fs) w e r = uses p k height plain ok a f f.local fs w (r.0, r.1.0, r.1.1, r.1.2)
  ends (TryNext exists target left) args v n [] w e r = tries exists target left (option_and_then truth v) [] w tt r.1
  ends (TryNext exists target left) args v n (f ∷ fs) w e r = tries exists target left (option_and_then truth v) (f ∷ fs) w r.0 r.1

  pub frame_returns : (f : Frame) (fs : List Frame) (w : World) → Lie p height (f ∷ fs) → NextInShape p height (returns p k f fs w)
  unfolding return_to
  frame_returns f fs w lie = go (returned p f f.local.stack) (kept_size p (result_type p f) (storage p (result_type p f)) f.local.stack)
    where
      returning : (v : Option Value) → size v ≡ count_of p (result_type p f) → NextInShape p height (return_to p k (with_local (record f.local { result = v }) f) fs w)
      returning v e = ends f.continuation f.local.args v (count_of p (result_type p f)) fs w e (lie.1, lie.2)

      go : (o : Option (Option Value)) → IfSome o (λ v. size v ≡ count_of p (result_type p f)) → NextInShape p height (if_there o w (λ v. return_from p k (plan_at k p f.method) f.at (with_local (record f.local { result = v }) f) fs w))
      go None e = tt
      go (Some v) e = subst (λ o. NextInShape p height (return_from p k o f.at (with_local (record f.local { result = v }) f) fs w)) (sym (plain f.method)) (returning v e)
