-- Initializers, and the frames of calls.
use Rattle.std.proofs.Common.{◌≡◌, ℕ, zero, suc, ◌+◌, ◌<◌, List, [], ◌∷◌, ◌++◌, length, Option, Some, None, refl, sym, ap, ◌∙◌, subst}
use Rattle.std.specs.Prelude.{Bool, true, false, ◌&&◌, ◌||◌, not, bytes_eq, if◌then◌else◌, is_some, slice_get, option_map, option_and_then, codes}
use Rattle.std.proofs.lemmas.Bool.{lt-ltb}
use Rattle.cil_model.specs.declared.ty.Ty.{Ty, out-Ty, Known}
use Rattle.cil_model.specs.declared.ty.Ty as types
use Rattle.cil_model.specs.declared.ty.Ty.TheVariants as ty
use Rattle.cil_model.specs.declared.value.Value.{Value, out-Value, Ptr}
use Rattle.cil_model.specs.declared.value.Value.TheOpen.{Value-F}
use Rattle.cil_model.specs.declared.value.Pointer.TheVariants.{Arg, Inside}
use Rattle.cil_model.specs.declared.body.Body.{Body}
use Rattle.cil_model.specs.declared.contract.Contracts.{Contracts}
use Rattle.cil_model.specs.declared.program.Program.{Program}
use Rattle.cil_semantics.specs.Words.{maybe, same_bool}
use Rattle.cil_semantics.specs.Types.{under, all_under, same_ty, is_empty}
use Rattle.cil_semantics.specs.Core.{Name}
use Rattle.cil_semantics.specs.Lookups.{type_of, method_of, args_of}
use Rattle.cil_semantics.specs.declared.state.Cell.{Cell}
use Rattle.cil_semantics.specs.declared.state.Object.{Object}
use Rattle.cil_semantics.specs.declared.state.World.{World}
use Rattle.cil_semantics.specs.declared.state.Local.{Local as LocalState}
use Rattle.cil_semantics.specs.declared.state.Frame.{Frame}
use Rattle.cil_semantics.specs.declared.state.ProgramPoint.{ProgramPoint}
use Rattle.cil_semantics.specs.declared.state.Access.{Access}
use Rattle.cil_semantics.specs.declared.state.Init.TheVariants.{Begun}
use Rattle.cil_semantics.specs.declared.state.Continuation.{Continuation}
use Rattle.cil_semantics.specs.declared.state.Continuation.TheVariants.{BeginCallee, UseField, PushStruct}
use Rattle.cil_semantics.specs.State.{Next, object_at}
use Rattle.cil_semantics.specs.Places.{Storage, storage, is_reference, is_void, new_cell, default_cell, default_cells}
use Rattle.cil_semantics.specs.Tokens.{Here, local_tys}
use Rattle.cil_semantics.specs.Contracted.{Plan}
use Rattle.cil_semantics.specs.Unwind.{body_of, plan_at, set_statics, unwind}
use Rattle.cil_semantics.specs.Frames.{Initializer, Ready, FailedWith, ToRun, initializer, with_begun, this_type, param_types, stored_args, clause_tys, captured_tys, first_place, frame_with, begin, initializer_frame, begin_behind, is_use, begin_use, enter, enter_struct, use_behind, use_static, owner_type, parts_of, is_nothing, this_value, delegate_values, gives_value, enter_function, enter_delegate, if_there, stuck}
use Rattle.machine_laws.specs.Answers.{Each, IsOld, is_below}
use Rattle.grown_runs.specs.Grown.{GrowsAround}
use Rattle.grown_runs.specs.Looks.{LooksAlike}
use Rattle.grown_runs.proofs.AlikeLaws.{each_get, option_on, HeldWorld, Alike, ends, there, choose, given}
use Rattle.grown_runs.proofs.PlanLaws.{KeepsPlanIf, body_same, plan_same, plan_kept, local_tys_same, clause_tys_same, captured_tys_same}
use Rattle.grown_runs.proofs.MoveLaws.{OwnFrames, arrives, unwinds}
use Rattle.grown_runs.proofs.ReadLaws.{OwnAccess, new_same, default_same, defaults_same, static_cells_same, uses}

-- a function is a method of the input
abbrev pub OwnFunction : Program → Value-F Value → Type 0
OwnFunction p0 (Value-F.Func m u) = m < length p0.methods
OwnFunction p0 _ = Unit {0}

-- what an object has that is a delegate
abbrev pub OwnDelegate : Program → Object → Type 0
OwnDelegate p0 o = (d : Value × Value) → parts_of o.cells ≡ Some d → OwnFunction p0 (out-Value d.1)

abbrev pub OwnDelegates : Program → World → Type 0
OwnDelegates p0 w = Each (OwnDelegate p0) w.heap

-- an initializer that is to run is of the input
abbrev pub OwnInitializers : Program → Program → Type 0
OwnInitializers p0 p = (t : Ty) (w : World) (m : ℕ) → IsOld p0 t → initializer p w t ≡ ToRun m → m < length p0.methods

module _ (p0 p : Program) (k : Contracts) (e : ℕ) (h : GrowsAround p0 p k e) (l : LooksAlike p0 p e) (init : OwnInitializers p0 p) where
  abbrev A : (Program → Next) → Type 0
  A F = Alike p0 p e F

  abbrev Held : World → Type 0
  Held w = HeldWorld p0 e w

  abbrev IsOwn : ℕ → Type 0
  IsOwn m = m < length p0.methods

  -- ---- what a call takes

  this_same : (owner : Ty) → this_type p owner ≡ this_type p0 owner
  this_same owner = ap (λ (s : Storage). if is_reference s then owner else ty.ByRef owner) (l.storages owner)

  pub params_same : (owner : Ty) (m : ℕ) (args : List Ty) → IsOwn m → param_types p owner m args ≡ param_types p0 owner m args
  params_same owner m args own =
      let kept = h.tables.extends.methods m own in
      ap (λ (b : Bool). if b then all_under (args_of owner) args (method_of p m).params else this_type p owner ∷ all_under (args_of owner) args (method_of p m).params) kept.is_static
      ∙ ap (λ (ts : List Ty). if (method_of p0 m).is_static then all_under (args_of owner) args ts else this_type p owner ∷ all_under (args_of owner) args ts) kept.params
      ∙ ap (λ t. if (method_of p0 m).is_static then all_under (args_of owner) args (method_of p0 m).params else t ∷ all_under (args_of owner) args (method_of p0 m).params) (this_same owner)

  pub stored_same : (ts : List Ty) (vs : List Value) → stored_args p ts vs ≡ stored_args p0 ts vs
  stored_same [] [] = refl
  stored_same [] (v ∷ vs) = refl
  stored_same (t ∷ ts) [] = refl
  stored_same (t ∷ ts) (v ∷ vs) =
      ap (λ (o : Option Cell). option_and_then (λ c. option_map (λ cs. c ∷ cs) (stored_args p ts vs)) o) (new_same p0 p k e h l t v)
      ∙ ap (λ (o : Option (List Cell)). option_and_then (λ c. option_map (λ cs. c ∷ cs) o) (new_cell p0 t v)) (stored_same ts vs)

  pub gives_same : (owner : Ty) (m : ℕ) (args : List Ty) → IsOwn m → gives_value p owner m args ≡ gives_value p0 owner m args
  gives_same owner m args own =
      ap (λ t. not (is_void (storage p (under (args_of owner) args t)))) (h.tables.extends.methods m own).result
      ∙ ap (λ s. not (is_void s)) (l.storages (under (args_of owner) args (method_of p0 m).result))

  -- ---- frames

  abbrev framed : Ty → ℕ → List Ty → List Cell → Continuation → List Cell → List Cell → ProgramPoint → Frame
  framed owner m args cells back locals captured at =
      record {
        method = m;
        type_args = args_of owner;
        method_args = args;
        local = record { args = cells; locals = locals; captured = captured; result = None; stack = [] };
        at = at;
        handling = [];
        thrown = None;
        continuation = back;
        initializes = None;
      }

  pub frame_same : (owner : Ty) (m : ℕ) (args : List Ty) (cells : List Cell) (back : Continuation) (fs : List Frame) → IsOwn m → frame_with p k owner m args cells back fs ≡ frame_with p0 k owner m args cells back fs
  frame_same owner m args cells back fs own =
      let here : Here = record { number = length fs; method = m; type_args = args_of owner; method_args = args } in
      let kept : KeepsPlanIf p0 p (plan_at k p0 m) = subst (KeepsPlanIf p0 p) (plan_same p0 p k e h l m own) (plan_kept p0 p k e h l m own) in
      ap (λ (b : Body). framed owner m args cells back (default_cells p (local_tys p here b.locals ++ clause_tys p here (plan_at k p m))) (default_cells p (captured_tys p here (plan_at k p m))) (first_place (plan_at k p m))) (body_same p0 p k e h l m own)
      ∙ ap (λ (o : Option Plan). framed owner m args cells back (default_cells p (local_tys p here (body_of p0 m).locals ++ clause_tys p here o)) (default_cells p (captured_tys p here o)) (first_place o)) (plan_same p0 p k e h l m own)
      ∙ ap (λ (ts : List Ty). framed owner m args cells back (default_cells p (ts ++ clause_tys p here (plan_at k p0 m))) (default_cells p (captured_tys p here (plan_at k p0 m))) (first_place (plan_at k p0 m))) (local_tys_same p0 p k e h l here (body_of p0 m).locals own (h.code.bodies m own).locals)
      ∙ ap (λ (ts : List Ty). framed owner m args cells back (default_cells p (local_tys p0 here (body_of p0 m).locals ++ ts)) (default_cells p (captured_tys p here (plan_at k p0 m))) (first_place (plan_at k p0 m))) (clause_tys_same p0 p e l here (plan_at k p0 m) kept)
      ∙ ap (λ (cs : List Cell). framed owner m args cells back cs (default_cells p (captured_tys p here (plan_at k p0 m))) (first_place (plan_at k p0 m))) (defaults_same p0 p k e h l (local_tys p0 here (body_of p0 m).locals ++ clause_tys p0 here (plan_at k p0 m)))
      ∙ ap (λ (ts : List Ty). framed owner m args cells back (default_cells p0 (local_tys p0 here (body_of p0 m).locals ++ clause_tys p0 here (plan_at k p0 m))) (default_cells p ts) (first_place (plan_at k p0 m))) (captured_tys_same p0 p e l here (plan_at k p0 m) kept)
      ∙ ap (λ (cs : List Cell). framed owner m args cells back (default_cells p0 (local_tys p0 here (body_of p0 m).locals ++ clause_tys p0 here (plan_at k p0 m))) cs (first_place (plan_at k p0 m))) (defaults_same p0 p k e h l (captured_tys p0 here (plan_at k p0 m)))

  pub begins : (f : Frame) (fs : List Frame) (w : World) → IsOwn f.method → Held w → A (λ q. begin q k f fs w)
  begins f fs w own held = arrives p0 p k e h l f f.at f.local fs w own held

  begun_same : (t : Ty) (w : World) → IsOld p0 t → with_begun p t w ≡ with_begun p0 t w
  begun_same t w old = ap (λ (cs : List Cell). record w { statics = set_statics (same_ty t) (record { owner = t; init = Some Begun; cells = cs }) w.statics }) (static_cells_same p0 p k e h l w t old)

  -- an initializer begins
  initializes : (t : Ty) (m : ℕ) (back : Continuation) (fs : List Frame) (w : World) → IsOwn m → IsOld p0 t → Held w → A (λ q. begin q k (initializer_frame q k t m back fs) fs (with_begun q t w))
  initializes t m back fs w own old held =
      given p0 p e (λ q. initializer_frame q k t m back fs) (λ q f. begin q k f fs (with_begun q t w)) (ap (λ (x : Frame). record x { initializes = Some t }) (frame_same t m [] [] back fs own))
      (given p0 p e (λ q. with_begun q t w) (λ q v. begin q k (initializer_frame p k t m back fs) fs v) (begun_same t w old) (begins (initializer_frame p k t m back fs) fs (with_begun p t w) own held))

  begins_behind : (i : Initializer) (t : Ty) (f : Frame) (fs : List Frame) (w : World) → ((m : ℕ) → i ≡ ToRun m → IsOwn m) → IsOld p0 t → IsOwn f.method → OwnFrames p0 fs → Held w → A (λ q. begin_behind q k i t f fs w)
  begins_behind Ready t f fs w i old own others held = begins f fs w own held
  begins_behind (FailedWith x) t f fs w i old own others held = unwinds p0 p k e h l false fs w x others held
  begins_behind (ToRun m) t f fs w i old own others held = initializes t m BeginCallee (f ∷ fs) w (i m refl) old held

  use_same : (m : ℕ) → IsOwn m → is_use (method_of p m) ≡ is_use (method_of p0 m)
  use_same m own =
      ap (λ (b : Bool). b || bytes_eq (method_of p m).name (codes ".ctor")) (h.tables.extends.methods m own).is_static
      ∙ ap (λ (n : Name). (method_of p0 m).is_static || bytes_eq n (codes ".ctor")) (h.tables.extends.methods m own).name

  begins_use : (t : Ty) (f : Frame) (fs : List Frame) (w : World) → IsOld p0 t → IsOwn f.method → OwnFrames p0 fs → Held w → A (λ q. begin_use q k t f fs w)
  begins_use t f fs w old own others held =
      choose p0 p e (λ q. is_use (method_of q f.method)) (λ q. begin_behind q k (initializer q w t) t f fs w) (λ q. begin q k f fs w) (use_same f.method own)
      (λ c. given p0 p e (λ q. initializer q w t) (λ q i. begin_behind q k i t f fs w) (l.initializers w t old) (begins_behind (initializer p w t) t f fs w (λ m q. init t w m old q) old own others held))
      (λ c. begins f fs w own held)

  pub enters : (owner : Ty) (m : ℕ) (args : List Ty) (values : List Value) (back : Continuation) (fs : List Frame) (w : World) → IsOld p0 owner → IsOwn m → OwnFrames p0 fs → Held w → A (λ q. enter q k owner m args values back fs w)
  enters owner m args values back fs w old own others held =
      there p0 p e w (λ q. stored_args q (param_types q owner m args) values) (λ q cells. begin_use q k owner (frame_with q k owner m args cells back fs) fs w)
      (ap (λ (ts : List Ty). stored_args p ts values) (params_same owner m args own) ∙ stored_same (param_types p0 owner m args) values)
      (λ cells c. given p0 p e (λ q. frame_with q k owner m args cells back fs) (λ q f. begin_use q k owner f fs w) (frame_same owner m args cells back fs own) (begins_use owner (frame_with p k owner m args cells back fs) fs w old own others held))

  pub enters_struct : (owner : Ty) (m : ℕ) (args : List Ty) (values : List Value) (fs : List Frame) (w : World) → IsOld p0 owner → IsOwn m → OwnFrames p0 fs → Held w → A (λ q. enter_struct q k owner m args values fs w)
  enters_struct owner m args values fs w old own others held =
      let all : List Value = Ptr (Arg (length fs) m (length values + 1) []) ∷ values in
      there p0 p e w (λ q. stored_args q (param_types q owner m args) all) (λ q cells. begin_use q k owner (frame_with q k owner m args (cells ++ default_cell q owner ∷ []) PushStruct fs) fs w)
      (ap (λ (ts : List Ty). stored_args p ts all) (params_same owner m args own) ∙ stored_same (param_types p0 owner m args) all)
      (λ cells c. given p0 p e (λ q. default_cell q owner) (λ q d. begin_use q k owner (frame_with q k owner m args (cells ++ d ∷ []) PushStruct fs) fs w) (default_same p0 p k e h l owner)
      (given p0 p e (λ q. frame_with q k owner m args (cells ++ default_cell p owner ∷ []) PushStruct fs) (λ q f. begin_use q k owner f fs w) (frame_same owner m args (cells ++ default_cell p owner ∷ []) PushStruct fs own)
      (begins_use owner (frame_with p k owner m args (cells ++ default_cell p owner ∷ []) PushStruct fs) fs w old own others held)))

  uses_behind : (i : Initializer) (t : Ty) (a : Access) (f : Frame) (v : LocalState) (fs : List Frame) (w : World) → ((m : ℕ) → i ≡ ToRun m → IsOwn m) → IsOld p0 t → OwnAccess p0 a → IsOwn f.method → OwnFrames p0 fs → Held w → A (λ q. use_behind q k i t a f v fs w)
  uses_behind Ready t a f v fs w i old acc own others held = uses p0 p k e h l a f v fs w acc own others held
  uses_behind (FailedWith x) t a f v fs w i old acc own others held = unwinds p0 p k e h l false (record f { local = v } ∷ fs) w x (own, others) held
  uses_behind (ToRun m) t a f v fs w i old acc own others held = initializes t m (UseField a) (record f { local = v } ∷ fs) w (i m refl) old held

  pub uses_statics : (t : Ty) (a : Access) (f : Frame) (v : LocalState) (fs : List Frame) (w : World) → IsOld p0 t → OwnAccess p0 a → IsOwn f.method → OwnFrames p0 fs → Held w → A (λ q. use_behind q k (initializer q w t) t a f v fs w)
  uses_statics t a f v fs w old acc own others held =
      given p0 p e (λ q. initializer q w t) (λ q i. use_behind q k i t a f v fs w) (l.initializers w t old) (uses_behind (initializer p w t) t a f v fs w (λ m q. init t w m old q) old acc own others held)

  -- ---- delegates

  known_old : (m : ℕ) → IsOwn m → IsOld p0 (Known (method_of p0 m).owner)
  unfolding types.out-Ty denote.Hole.Carrier.out
  known_old m own = lt-ltb (method_of p0 m).owner (length p0.types) (h.members m own)

  inst_old : (m : ℕ) (args : List Ty) → IsOwn m → IsOld p0 (ty.Inst (method_of p0 m).owner args)
  unfolding types.out-Ty denote.Hole.Carrier.out
  inst_old m args own = lt-ltb (method_of p0 m).owner (length p0.types) (h.members m own)

  pub owner_old : (m : ℕ) (args : List Ty) → IsOwn m → IsOld p0 (owner_type p0 m args)
  owner_old m args own = by_args (is_empty args)
    where
      by_args : (b : Bool) → IsOld p0 (if b then Known (method_of p0 m).owner else ty.Inst (method_of p0 m).owner args)
      by_args true = known_old m own
      by_args false = inst_old m args own

  pub owner_same : (m : ℕ) (args : List Ty) → IsOwn m → owner_type p m args ≡ owner_type p0 m args
  owner_same m args own = ap (λ n. if is_empty args then Known n else ty.Inst n args) (h.tables.extends.methods m own).owner

  pub this_value_same : (t : Ty) (o : Value-F Value) (v : Value) → this_value p t o v ≡ this_value p0 t o v
  this_value_same t (Value-F.Obj x) v = ap (λ (s : Storage). if is_reference s then v else Ptr (Inside x (0 ∷ []))) (l.storages t)
  this_value_same t Value-F.Null v = refl
  this_value_same t (Value-F.Text units) v = refl
  this_value_same t (Value-F.I4 z) v = refl
  this_value_same t (Value-F.I8 z) v = refl
  this_value_same t (Value-F.Native z) v = refl
  this_value_same t (Value-F.Ptr q) v = refl
  this_value_same t (Value-F.Struct vs) v = refl
  this_value_same t (Value-F.Func m u) v = refl
  this_value_same t (Value-F.Opaque bytes) v = refl

  values_same : (owner : Ty) (m : ℕ) (target : Value) (values : List Value) → IsOwn m → delegate_values p owner m target values ≡ delegate_values p0 owner m target values
  values_same owner m target values own =
      ap (λ (b : Bool). if b then (if is_nothing (out-Value target) then values else target ∷ values) else this_value p owner (out-Value target) target ∷ values) (h.tables.extends.methods m own).is_static
      ∙ ap (λ v. if (method_of p0 m).is_static then (if is_nothing (out-Value target) then values else target ∷ values) else v ∷ values) (this_value_same owner (out-Value target) target)

  pub reference_same : (m : ℕ) → IsOwn m → (type_of p (method_of p m).owner).reference ≡ (type_of p0 (method_of p0 m).owner).reference
  reference_same m own = ap (λ n. (type_of p n).reference) (h.tables.extends.methods m own).owner ∙ (h.tables.extends.types (method_of p0 m).owner (h.members m own)).reference

  function_enters : (gives : Bool) (m : ℕ) (args method_args : List Ty) (target : Value) (values : List Value) (back : Continuation) (fs : List Frame) (w : World) → IsOwn m → OwnFrames p0 fs → Held w
      → A (λ q. let owner : Ty = owner_type q m args in if is_some (method_of q m).body && (not (type_of q (method_of q m).owner).reference && same_bool gives (gives_value q owner m method_args)) then enter q k owner m method_args (delegate_values q owner m target values) back fs w else stuck w)
  function_enters gives m args method_args target values back fs w own others held =
      given p0 p e (λ q. owner_type q m args)
      (λ q owner. if is_some (method_of q m).body && (not (type_of q (method_of q m).owner).reference && same_bool gives (gives_value q owner m method_args)) then enter q k owner m method_args (delegate_values q owner m target values) back fs w else stuck w) (owner_same m args own)
      (choose p0 p e (λ q. is_some (method_of q m).body && (not (type_of q (method_of q m).owner).reference && same_bool gives (gives_value q (owner_type p m args) m method_args))) (λ q. enter q k (owner_type p m args) m method_args (delegate_values q (owner_type p m args) m target values) back fs w) (λ q. stuck w)
      (ap (λ (b : Bool). b && (not (type_of p (method_of p m).owner).reference && same_bool gives (gives_value p (owner_type p m args) m method_args))) (h.tables.extends.methods m own).has_body
      ∙ ap (λ (b : Bool). is_some (method_of p0 m).body && (not b && same_bool gives (gives_value p (owner_type p m args) m method_args))) (reference_same m own)
      ∙ ap (λ (b : Bool). is_some (method_of p0 m).body && (not (type_of p0 (method_of p0 m).owner).reference && same_bool gives b)) (gives_same (owner_type p m args) m method_args own))
      (λ c. given p0 p e (λ q. delegate_values q (owner_type p m args) m target values) (λ q vs. enter q k (owner_type p m args) m method_args vs back fs w) (values_same (owner_type p m args) m target values own)
      (enters (owner_type p m args) m method_args (delegate_values p (owner_type p m args) m target values) back fs w (subst (IsOld p0) (sym (owner_same m args own)) (owner_old m args own)) own others held))
      (λ c. ends p0 p e w))

  enters_function : (gives : Bool) (o : Value-F Value) (target : Value) (values : List Value) (back : Continuation) (fs : List Frame) (w : World) → OwnFunction p0 o → OwnFrames p0 fs → Held w → A (λ q. enter_function q k gives o target values back fs w)
  enters_function gives (Value-F.Func m u) target values back fs w own others held = function_enters gives m u.type_args u.method_args target values back fs w own others held
  enters_function gives (Value-F.Obj x) target values back fs w own others held = ends p0 p e w
  enters_function gives Value-F.Null target values back fs w own others held = ends p0 p e w
  enters_function gives (Value-F.Text units) target values back fs w own others held = ends p0 p e w
  enters_function gives (Value-F.I4 z) target values back fs w own others held = ends p0 p e w
  enters_function gives (Value-F.I8 z) target values back fs w own others held = ends p0 p e w
  enters_function gives (Value-F.Native z) target values back fs w own others held = ends p0 p e w
  enters_function gives (Value-F.Ptr q) target values back fs w own others held = ends p0 p e w
  enters_function gives (Value-F.Struct vs) target values back fs w own others held = ends p0 p e w
  enters_function gives (Value-F.Opaque bytes) target values back fs w own others held = ends p0 p e w

  parts_own : (w : World) (x : ℕ) (d : Value × Value) → OwnDelegates p0 w → option_and_then (λ (o : Object). parts_of o.cells) (object_at w x) ≡ Some d → OwnFunction p0 (out-Value d.1)
  parts_own w x d all q = by_object x refl q
    where
      by_heap : (n : ℕ) (o : Option Object) → slice_get w.heap n ≡ o → option_and_then (λ (o : Object). parts_of o.cells) o ≡ Some d → OwnFunction p0 (out-Value d.1)
      by_heap n None r s = let z : None ≡ Some d = s in absurd (cc z)
      by_heap n (Some o) r s = each_get (OwnDelegate p0) w.heap n o all r d s

      by_object : (y : ℕ) → y ≡ y → option_and_then (λ (o : Object). parts_of o.cells) (object_at w y) ≡ Some d → OwnFunction p0 (out-Value d.1)
      by_object zero r s = let z : None ≡ Some d = s in absurd (cc z)
      by_object (suc n) r s = by_heap n (slice_get w.heap n) refl s

  pub enters_delegate : (gives : Bool) (o : Value-F Value) (values : List Value) (back : Continuation) (fs : List Frame) (w : World) → OwnDelegates p0 w → OwnFrames p0 fs → Held w → A (λ q. enter_delegate q k gives o values back fs w)
  enters_delegate gives (Value-F.Obj x) values back fs w all others held =
      there p0 p e w (λ q. option_and_then (λ (o : Object). parts_of o.cells) (object_at w x)) (λ q (d : Value × Value). enter_function q k gives (out-Value d.1) d.0 values back fs w) refl
      (λ d c. enters_function gives (out-Value d.1) d.0 values back fs w (parts_own w x d all c) others held)
  enters_delegate gives (Value-F.Func m u) values back fs w all others held = ends p0 p e w
  enters_delegate gives Value-F.Null values back fs w all others held = ends p0 p e w
  enters_delegate gives (Value-F.Text units) values back fs w all others held = ends p0 p e w
  enters_delegate gives (Value-F.I4 z) values back fs w all others held = ends p0 p e w
  enters_delegate gives (Value-F.I8 z) values back fs w all others held = ends p0 p e w
  enters_delegate gives (Value-F.Native z) values back fs w all others held = ends p0 p e w
  enters_delegate gives (Value-F.Ptr q) values back fs w all others held = ends p0 p e w
  enters_delegate gives (Value-F.Struct vs) values back fs w all others held = ends p0 p e w
  enters_delegate gives (Value-F.Opaque bytes) values back fs w all others held = ends p0 p e w
