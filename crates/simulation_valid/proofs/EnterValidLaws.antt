-- A method is entered, behind its type's initializer.
use Rattle.std.proofs.Common.{◌≡◌, ℕ, zero, suc, ◌+◌, ◌<◌, ◌≤◌, Bool, true, false, List, [], ◌∷◌, ◌++◌, length, map, Option, Some, None, refl, sym, ap, ◌∙◌, subst, arith}
use Rattle.std.specs.Prelude.{if◌then◌else◌, option_map, option_and_then, IsTrue, get_or}
use Rattle.cil_model.specs.declared.ty.Ty.{Ty, Prim, Known, Outside, Array', ByRef', Var, MVar, Opaque, Inst'}
use Rattle.cil_model.specs.declared.value.Value.{Value, Ptr}
use Rattle.cil_model.specs.declared.value.Pointer.TheVariants.{Arg}
use Rattle.cil_model.specs.declared.body.Region.{Region}
use Rattle.cil_model.specs.declared.contract.Contracts.{Contracts}
use Rattle.cil_model.specs.declared.program.Program.{Program}
use Rattle.cil_model.specs.declared.program.MethodDesc.{MethodDesc}
use Rattle.cil_semantics.specs.Types.{under, same_ty}
use Rattle.cil_semantics.specs.Lookups.{method_of, args_of}
use Rattle.cil_semantics.specs.Places.{storage, is_void, default_cell, default_cells, new_cell}
use Rattle.cil_semantics.specs.Tokens.{Here, local_tys}
use Rattle.cil_semantics.specs.declared.state.Cell.{Cell}
use Rattle.cil_semantics.specs.declared.state.World.{World}
use Rattle.cil_semantics.specs.declared.state.Init.TheVariants.{Begun}
use Rattle.cil_semantics.specs.declared.state.Frame.{Frame}
use Rattle.cil_semantics.specs.State.{Next}
use Rattle.cil_semantics.specs.declared.state.Continuation.{Continuation}
use Rattle.cil_semantics.specs.declared.state.Continuation.TheVariants.{BeginCallee, PushStruct}
use Rattle.cil_semantics.specs.Contracted.{Plan}
use Rattle.cil_semantics.specs.Unwind.{body_of, plan_at, hasnt_begun, unwind, handled_at}
use Rattle.cil_semantics.specs.Frames.{if_there, static_cells, initializer, Initializer, Ready, FailedWith, ToRun, with_begun, param_types, stored_args, clause_tys, captured_tys, first_place, frame_with, begin, initializer_frame, begin_behind, is_use, begin_use, enter, enter_struct}
use Rattle.cil_semantics.specs.Checks.{AddedNumbers}
use Rattle.machine_laws.specs.Answers.{is_below}
use Rattle.splice_facts.specs.WellFormed.{Bounds, WellFormedValue, WellFormedValues, WellFormedCells, WellFormedWorld, WellFormedContinuation}
use Rattle.splice_facts.specs.Input.{is_group}
use Rattle.splice_facts.specs.Related.{Rewritten, ValidFrame, ValidFrames, HeightsBelow, HasHeight, HasResult, bounds, in_group, count_groups}
use Rattle.splice_facts.specs.Related as Pairs
use Rattle.simulation_steps.proofs.EnterLaws.{new_stands}
use Rattle.simulation_objects.proofs.StoredLaws.{boxed_fine, default_fine, defaults_fine, static_cells_fine}
use Rattle.simulation_valid.specs.Keeping.{StructThere, NoneVoid, KeepsReturned, AllReturn, StaysValid}
use Rattle.simulation_valid.proofs.ArriveValidLaws.{arrives}
use Rattle.simulation_valid.proofs.UnwindValidLaws.{places_of, GoesDown, unwinds, first_outside}
use Rattle.simulation_valid.proofs.WorldLaws.{statics_set}
use Rattle.simulation_valid.specs.Steps.{Topmost, MayEnter}

-- ---- type arguments

module _ (p : Program) where
  argument_or : (ts : List Ty) (j : ℕ) (t : Ty) → NoneVoid p ts → is_void (storage p t) ≡ false → is_void (storage p (get_or ts j t)) ≡ is_void (storage p t)
  argument_or [] j t h e = refl
  argument_or (x ∷ xs) zero t h e = h.0 ∙ sym e
  argument_or (x ∷ xs) (suc j) t h e = argument_or xs j t h.1 e

  -- what stands for a parameter is no void, and elsewhere the kind stays
  pub void_stays : (a b : List Ty) → NoneVoid p a → NoneVoid p b → (t : Ty) → is_void (storage p (under a b t)) ≡ is_void (storage p t)
  unfolding storage Rattle.cil_model.specs.declared.ty.Ty.out-Ty denote.Hole.Carrier.out
  void_stays a b ha hb (Prim x) = refl
  void_stays a b ha hb (Known x) = refl
  void_stays a b ha hb (Outside name v) = refl
  void_stays a b ha hb (Array' q parts) = refl
  void_stays a b ha hb (ByRef' q parts) = refl
  void_stays a b ha hb (Var x) = argument_or a x (Var x) ha refl
  void_stays a b ha hb (MVar x) = argument_or b x (MVar x) hb refl
  void_stays a b ha hb Opaque = refl
  void_stays a b ha hb (Inst' j shape parts) = refl

-- the types of places at their default values
pub types_of_defaults : (p : Program) (ts : List Ty) → map (λ (c : Cell). c.ty) (default_cells p ts) ≡ ts
types_of_defaults p [] = refl
types_of_defaults p (t ∷ ts) = ap (λ xs. t ∷ xs) (types_of_defaults p ts)

-- what is passed is kept as it is to be
pub passed_fine : (b : Bounds) (p : Program) (ts : List Ty) (vs : List Value) (cells : List Cell) → WellFormedValues b vs → stored_args p ts vs ≡ Some cells → WellFormedCells b cells
passed_fine b p [] [] cells h e = let q : [] ≡ cells = cc e in subst (WellFormedCells b) q tt
passed_fine b p [] (v ∷ vs) cells h e = absurd (cc e)
passed_fine b p (t ∷ ts) [] cells h e = absurd (cc e)
passed_fine b p (t ∷ ts) (v ∷ vs) cells h e = by_both (λ cs q. passed_fine b p ts vs cs h.1 q) (new_cell p t v) (stored_args p ts vs) refl refl e
  where
    by_both : ((cs : List Cell) → stored_args p ts vs ≡ Some cs → WellFormedCells b cs) → (o : Option Cell) (os : Option (List Cell)) → new_cell p t v ≡ o → stored_args p ts vs ≡ os → option_and_then (λ c. option_map (λ cs. c ∷ cs) os) o ≡ Some cells → WellFormedCells b cells
    by_both more None os eo es q = absurd (cc q)
    by_both more (Some c) None eo es q = absurd (cc q)
    by_both more (Some c) (Some cs) eo es q = let z : (c ∷ cs) ≡ cells = cc q in subst (WellFormedCells b) z (boxed_fine b p t v c h.0 eo, more cs es)

pub struct_behind : (cs : List Cell) (c : Cell) → StructThere PushStruct (cs ++ c ∷ [])
struct_behind [] c = tt
struct_behind (x ∷ xs) c = tt

pub one_more_cell : (b : Bounds) (cs : List Cell) (c : Cell) → WellFormedCells b cs → WellFormedValue b c.value → WellFormedCells b (cs ++ c ∷ [])
one_more_cell b [] c h f = (f, tt)
one_more_cell b (x ∷ xs) c h f = (h.0, one_more_cell b xs c h.1 f)

module _ (p : Program) (k : Contracts) (ms : List MethodDesc) (g : AddedNumbers) (r : Rewritten p k ms g) where
  abbrev Stays : Next → Type 0
  Stays x = StaysValid p k ms g r x

  abbrev Bs : Bounds
  Bs = bounds p k ms g r

  -- ---- a new frame

  no_group_first : (o : Option Plan) → is_group (first_place o) ≡ false
  no_group_first None = refl
  no_group_first (Some c) = refl

  result_first : (f : Frame) (o : Option Plan) → HasResult p f (first_place o)
  result_first f None = tt
  result_first f (Some c) = tt

  counted_first : (f : Frame) (o : Option Plan) → KeepsReturned p f (first_place o)
  counted_first f None = tt
  counted_first f (Some c) = tt

  none_first : (rs : List Region) (o : Option Plan) → handled_at rs (first_place o) [] ≡ []
  none_first rs None = refl
  none_first rs (Some c) = refl

  abbrev new_frame : Ty → ℕ → List Ty → List Cell → Continuation → Option Ty → List Frame → Frame
  new_frame owner m args cells b o fs = record (frame_with p k owner m args cells b fs) { initializes = o }

  pub new_valid : (owner : Ty) (m : ℕ) (args : List Ty) (cells : List Cell) (b : Continuation) (o : Option Ty) (fs : List Frame) → m < r.methods → ((t : Ty) → o ≡ Some t → IsTrue (is_below r.types t)) → WellFormedCells Bs cells → WellFormedContinuation Bs b → ValidFrame p k ms g r (new_frame owner m args cells b o fs) fs
  new_valid owner m args cells b o fs old own fc fb =
      let here : Here = record { number = length fs; method = m; type_args = args_of owner; method_args = args } in
      record {
        stands = new_stands p k ms g r owner m args cells b o fs old own;
        captured = types_of_defaults p (captured_tys p here (plan_at k p m));
        has_result = result_first (new_frame owner m args cells b o fs) (plan_at k p m);
        fine = record { args = fc; locals = defaults_fine Bs p (local_tys p here (body_of p m).locals ++ clause_tys p here (plan_at k p m)); captured = defaults_fine Bs p (captured_tys p here (plan_at k p m)); result = tt; stack = tt };
        fine_back = fb;
        current = λ e. (tt, none_first (body_of p m).regions (plan_at k p m));
        leads = λ e. tt;
      }

  pub new_height : (owner : Ty) (m : ℕ) (args : List Ty) (cells : List Cell) (b : Continuation) (o : Option Ty) (fs : List Frame) → HasHeight p k ms g r (new_frame owner m args cells b o fs) (first_place (plan_at k p m)) 0
  new_height owner m args cells b o fs plan old e outer = sym (ap (λ c. (r.heights m plan old e).height (first_place c)) e ∙ (r.heights m plan old e).begins)

  -- ---- it begins

  pub begins_valid : (f : Frame) (fs : List Frame) (w : World) → Topmost p k ms g r f fs w → HasHeight p k ms g r f f.at 0 → Stays (begin p k f fs w)
  begins_valid f fs w top height =
      arrives p k ms g r (plan_at k p f.method) f f.at f.local f.handling fs w refl
      (record { places = places_of p k ms g r f fs top.frame top.as_named; below = top.below; fits = top.frame.stands.fits; counted = top.counted; low = λ e. ((top.frame.current e).0, top.frame.leads e); height = height; count = top.count; deep = top.deep })

  new_topmost : (owner : Ty) (m : ℕ) (args : List Ty) (cells : List Cell) (b : Continuation) (fs : List Frame) (w : World) → m < r.methods → NoneVoid p (args_of owner) → NoneVoid p args → WellFormedCells Bs cells → StructThere b cells → MayEnter p k ms g r b m fs w → Topmost p k ms g r (new_frame owner m args cells b None fs) fs w
  new_topmost owner m args cells b fs w old na nb fc there c =
      record {
        frame = new_valid owner m args cells b None fs old (λ t e. absurd (cc e)) fc c.fine_back;
        as_named = (void_stays p (args_of owner) args na nb (method_of p m).result, there, na, nb);
        counted = counted_first (new_frame owner m args cells b None fs) (plan_at k p m);
        below = record { others = c.tail.others; returning = c.tail.returning; heights = c.waiting (new_frame owner m args cells b None fs) refl refl; world = c.world };
        count = omega (arith, c.count, first_outside (plan_at k p m));
        deep = c.deep;
      }

  begun_kept : (t : Ty) (w : World) → IsTrue (is_below r.types t) → WellFormedWorld Bs w → WellFormedWorld Bs (with_begun p t w)
  begun_kept t w own h = record { heap = h.heap; statics = statics_set Bs (same_ty t) (record { owner = t; init = Some Begun; cells = static_cells p w t }) w.statics h.statics own (static_cells_fine Bs p w t h.statics) }

  -- an initializer begins over others, for a frame that waits for it
  pub initializer_begins : (t : Ty) (m : ℕ) (b : Continuation) (fs : List Frame) (w : World) → m < r.methods → IsTrue (is_below r.types t) → NoneVoid p (args_of t) → WellFormedContinuation Bs b → StructThere b [] → ValidFrames p k ms g r fs → AllReturn p fs → ((f : Frame) → f.continuation ≡ b → f.method ≡ m → HeightsBelow p k ms g r f fs) → WellFormedWorld Bs w → w.depth ≡ count_groups fs → w.depth ≤ suc k.settings.guard
      → Stays (begin p k (initializer_frame p k t m b fs) fs (with_begun p t w))
  initializer_begins t m b fs w old own na fb there others returning heights ok count deep =
      let f1 : Frame = initializer_frame p k t m b fs in
      begins_valid f1 fs (with_begun p t w)
      (record {
        frame = new_valid t m [] [] b (Some t) fs old (λ u e. subst (λ z. IsTrue (is_below r.types z)) (some_inj t u e) own) tt fb;
        as_named = (void_stays p (args_of t) [] na tt (method_of p m).result, there, na, tt);
        counted = counted_first f1 (plan_at k p m);
        below = record { others = others; returning = returning; heights = heights f1 refl refl; world = begun_kept t w own ok };
        count = omega (arith, count, first_outside (plan_at k p m));
        deep = deep;
      }) (new_height t m [] [] b (Some t) fs)
    where
      some_inj : (x y : Ty) → Some x ≡ Some y → x ≡ y
      some_inj x y e = cc e

  begins_behind : (i : Initializer) (t : Ty) (f : Frame) (fs : List Frame) (w : World) → Topmost p k ms g r f fs w → HasHeight p k ms g r f f.at 0 → in_group f.at ≡ 0 → GoesDown p k ms g r f.continuation fs → hasnt_begun f.continuation ≡ false → IsTrue (is_below r.types t) → NoneVoid p (args_of t) → ((m : ℕ) → i ≡ ToRun m → m < r.methods) → Stays (begin_behind p k i t f fs w)
  begins_behind Ready t f fs w top height outer down nb own na old = begins_valid f fs w top height
  begins_behind (FailedWith x) t f fs w top height outer down nb own na old = subst (λ z. Stays (unwind p k z fs w x)) nb (down w x top.below.world (omega (arith, top.count, outer)) top.deep)
  begins_behind (ToRun m) t f fs w top height outer down nb own na old =
      initializer_begins t m BeginCallee (f ∷ fs) w (old m refl) own na tt tt (top.frame, top.below.others) (top.as_named, top.counted, top.below.returning)
      (λ h e q. (subst (λ c. HasHeight p k ms g r f (Pairs.goes_on_at p k ms g r c f.at) (Pairs.pushes p k ms g r h.method c)) (sym e) height, top.below.heights)) top.below.world top.count top.deep

  pub uses_begin : (t : Ty) (f : Frame) (fs : List Frame) (w : World) → Topmost p k ms g r f fs w → HasHeight p k ms g r f f.at 0 → in_group f.at ≡ 0 → GoesDown p k ms g r f.continuation fs → hasnt_begun f.continuation ≡ false → IsTrue (is_below r.types t) → NoneVoid p (args_of t) → Stays (begin_use p k t f fs w)
  uses_begin t f fs w top height outer down nb own na = by_use (is_use (method_of p f.method))
    where
      by_use : (b : Bool) → Stays (if b then begin_behind p k (initializer p w t) t f fs w else begin p k f fs w)
      by_use true = begins_behind (initializer p w t) t f fs w top height outer down nb own na (λ m e. r.owned t w m own e)
      by_use false = begins_valid f fs w top height

  -- a method with a body is called
  pub enters_valid : (owner : Ty) (m : ℕ) (args : List Ty) (values : List Value) (b : Continuation) (fs : List Frame) (w : World) → m < r.methods → IsTrue (is_below r.types owner) → NoneVoid p (args_of owner) → NoneVoid p args → WellFormedValues Bs values → ((cells : List Cell) → StructThere b cells) → MayEnter p k ms g r b m fs w → Stays (enter p k owner m args values b fs w)
  enters_valid owner m args values b fs w old own na nb fv there c = by_cells (stored_args p (param_types p owner m args) values) refl
    where
      by_cells : (o : Option (List Cell)) → stored_args p (param_types p owner m args) values ≡ o → Stays (if_there o w (λ cells. begin_use p k owner (frame_with p k owner m args cells b fs) fs w))
      by_cells None e = tt
      by_cells (Some cells) e =
          uses_begin owner (frame_with p k owner m args cells b fs) fs w (new_topmost owner m args cells b fs w old na nb (passed_fine Bs p (param_types p owner m args) values cells fv e) (there cells) c) (new_height owner m args cells b None fs) (first_outside (plan_at k p m)) (unwinds p k ms g r b fs c.tail) c.begun own na

  -- a struct's constructor
  pub enters_struct_valid : (owner : Ty) (m : ℕ) (args : List Ty) (values : List Value) (fs : List Frame) (w : World) → m < r.methods → IsTrue (is_below r.types owner) → NoneVoid p (args_of owner) → NoneVoid p args → WellFormedValues Bs values → MayEnter p k ms g r PushStruct m fs w → Stays (enter_struct p k owner m args values fs w)
  enters_struct_valid owner m args values fs w old own na nb fv c = by_cells (stored_args p (param_types p owner m args) (Ptr (Arg (length fs) m (length values + 1) []) ∷ values)) refl
    where
      by_cells : (o : Option (List Cell)) → stored_args p (param_types p owner m args) (Ptr (Arg (length fs) m (length values + 1) []) ∷ values) ≡ o → Stays (if_there o w (λ cells. begin_use p k owner (frame_with p k owner m args (cells ++ default_cell p owner ∷ []) PushStruct fs) fs w))
      by_cells None e = tt
      by_cells (Some cells) e =
          let all = one_more_cell Bs cells (default_cell p owner) (passed_fine Bs p (param_types p owner m args) (Ptr (Arg (length fs) m (length values + 1) []) ∷ values) cells (tt, fv) e) (default_fine Bs p 1001 owner) in
          uses_begin owner (frame_with p k owner m args (cells ++ default_cell p owner ∷ []) PushStruct fs) fs w (new_topmost owner m args (cells ++ default_cell p owner ∷ []) PushStruct fs w old na nb all (struct_behind cells (default_cell p owner)) c) (new_height owner m args (cells ++ default_cell p owner ∷ []) PushStruct None fs) (first_outside (plan_at k p m)) (unwinds p k ms g r PushStruct fs c.tail) c.begun own na
