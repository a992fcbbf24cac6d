-- New frames in both runs, behind their types' initializers.
use Rattle.std.proofs.Common.{◌≡◌, ℕ, suc, ◌+◌, ◌*◌, ◌<◌, ◌≤◌, Bool, true, false, List, [], ◌∷◌, ◌++◌, length, Option, Some, None, refl, sym, ap, ◌∙◌, subst, arith}
use Rattle.std.specs.Prelude.{option_map, option_and_then, if◌then◌else◌, IsTrue, map, find, not, ◌&&◌, ◌||◌, bytes_eq, codes, is_some}
use Rattle.std.proofs.lemmas.List.{append-nil}
use Rattle.cil_model.specs.declared.ty.Ty.{Ty}
use Rattle.cil_model.specs.declared.value.Value.{Value, Ptr}
use Rattle.cil_model.specs.declared.value.Pointer.TheVariants.{Arg}
use Rattle.cil_model.specs.declared.contract.Contracts.{Contracts}
use Rattle.cil_model.specs.declared.program.Program.{Program}
use Rattle.cil_model.specs.declared.program.MethodDesc.{MethodDesc}
use Rattle.cil_model.specs.NoContracts.{no_contracts}
use Rattle.cil_semantics.specs.Types.{all_under, same_ty}
use Rattle.cil_semantics.specs.Lookups.{method_of, type_of, args_of}
use Rattle.cil_base.specs.declared.token.Token.{Token}
use Rattle.cil_semantics.specs.Tokens.{Here, local_tys, locals_in, meaning_of}
use Rattle.cil_semantics.specs.Dispatch.{methods_of}
use Rattle.cil_semantics.specs.declared.state.Cell.{Cell}
use Rattle.cil_semantics.specs.Places.{default_cell, default_cells, is_reference, new_cell}
use Rattle.cil_semantics.specs.declared.state.World.{World}
use Rattle.cil_semantics.specs.declared.state.Statics.{Statics}
use Rattle.cil_semantics.specs.declared.state.ProgramPoint.{ProgramPoint}
use Rattle.cil_semantics.specs.declared.state.ProgramPoint.TheVariants.{LeadIn, InGroup, Rest}
use Rattle.cil_semantics.specs.declared.state.Frame.{Frame}
use Rattle.cil_semantics.specs.State.{Next}
use Rattle.cil_semantics.specs.declared.state.Continuation.{Continuation}
use Rattle.cil_semantics.specs.declared.state.Continuation.TheVariants.{BeginCallee, PushStruct}
use Rattle.cil_semantics.specs.declared.state.Init.{Init}
use Rattle.cil_semantics.specs.declared.state.Init.TheVariants.{Begun, Failed}
use Rattle.cil_semantics.specs.Contracted.{Plan, locals_of}
use Rattle.cil_semantics.specs.Unwind.{body_of, plan_at, moved_to, goes_at, hasnt_begun, find_statics, set_statics, unwind}
use Rattle.cil_semantics.specs.Frames.{if_there, static_cells, initializer, Initializer, Ready, FailedWith, ToRun, initializer_state, is_initializer, with_begun, this_type, param_types, stored_args, clause_tys, captured_tys, first_place, frame_with, begin, initializer_frame, begin_behind, is_use, begin_use, enter, enter_struct}
use Rattle.cil_semantics.specs.Checks.{AddedNumbers}
use Rattle.splice_facts.specs.Bodies.{with_methods}
use Rattle.splice_facts.specs.Grown.{grow, beside}
use Rattle.machine_laws.specs.Answers.{is_below}
use Rattle.splice_facts.specs.Layout.{Marks, CanArrive}
use Rattle.splice_facts.specs.Related.{Rewritten, HandlingPairs, Waits, FramePair, Under, count_groups}
use Rattle.splice_facts.specs.Related as Pairs
use Rattle.simulation.proofs.ProgramLaws.{fun_ext, storage_same, default_cell_same, default_cells_same, new_cell_same}
use Rattle.splice_facts.proofs.ComesLaws.{no_plan, arrives_plain}
use Rattle.simulation.proofs.ArriveLaws as Arriving
use Rattle.simulation.proofs.UnwindLaws as Unwinding
use Rattle.splice_facts.specs.Exceptions.{IsObject, FailureThere}
use Rattle.splice_facts.proofs.ExceptionLaws.{found_failure}
use Rattle.simulation.proofs.UnwindLaws.{as_many, unwinds, find_beside, set_beside}
use Rattle.simulation_steps.proofs.PointerLaws as Pointing

first_append : (p : Program) (ts us : List Ty) → default_cells p (ts ++ us) ≡ default_cells p ts ++ default_cells p us
first_append p [] us = refl
first_append p (t ∷ ts) us = ap (λ cs. default_cell p t ∷ cs) (first_append p ts us)

first_types : (p : Program) (ts : List Ty) → map (λ (c : Cell). c.ty) (default_cells p ts) ≡ ts
first_types p [] = refl
first_types p (t ∷ ts) = ap (λ us. t ∷ us) (first_types p ts)

len_under : (a b ts : List Ty) → length (all_under a b ts) ≡ length ts
len_under a b [] = refl
len_under a b (t ∷ ts) = ap suc (len_under a b ts)

len_map : {X Y : Type 0} (go : X → Y) (xs : List X) → length (map go xs) ≡ length xs
len_map go [] = refl
len_map go (x ∷ xs) = ap suc (len_map go xs)

pub len_append : {X : Type 0} (xs ys : List X) → length (xs ++ ys) ≡ length xs + length ys
len_append [] ys = let e : length ys ≡ 0 + length ys = omega arith in e
len_append (x ∷ xs) ys = let e : length (xs ++ ys) ≡ length xs + length ys = len_append xs ys in omega (arith, e)

-- how many locals there are goes by the method alone
pub len_locals : (p : Program) (h h0 : Here) (o : Option Token) → h.method ≡ h0.method → length (local_tys p h o) ≡ length (local_tys p h0 o)
len_locals p h h0 None e = refl
len_locals p h h0 (Some token) e =
    len_under h.type_args h.method_args (locals_in (meaning_of p (method_of p h.method).assembly token))
    ∙ ap (λ m. length (locals_in (meaning_of p (method_of p m).assembly token))) e ∙ sym (len_under h0.type_args h0.method_args (locals_in (meaning_of p (method_of p h0.method).assembly token)))

pub len_clauses : (p : Program) (h h0 : Here) (o : Option Plan) → length (clause_tys p h o) ≡ length (clause_tys p h0 o)
len_clauses p h h0 None = refl
len_clauses p h h0 (Some c) = len_map _ (locals_of c.clauses ++ locals_of c.invariants) ∙ sym (len_map _ (locals_of c.clauses ++ locals_of c.invariants))

module _ (p : Program) (k : Contracts) (ms : List MethodDesc) (g : AddedNumbers) (r : Rewritten p k ms g) where
  abbrev p' : Program
  p' = with_methods p ms

  abbrev To : ℕ → Next → Next → Type 0
  To n x y = Unwinding.To p k ms g r n x y

  abbrev lay : ℕ → ℕ
  lay n = Unwinding.lay p k ms g r n

  abbrev cst : ℕ
  cst = Unwinding.cst p k ms g r

  abbrev IsBeside : World → List Statics → Type 0
  IsBeside w ss = Unwinding.IsBeside p k ms g r w ss

  abbrev below : Continuation → Continuation → List Frame → List Frame → Type 0
  below b b' fs fs' = Under p k ms g r b b' fs fs'

  abbrev valid : List Frame → Type 0
  valid fs = Pairs.AllStand p k ms g r fs

  abbrev mk : ℕ → Marks
  mk m = Pairs.marks_in p k ms g r m

  -- ---- what a call needs is the same in both programs

  this_same : (t : Ty) → this_type p' t ≡ this_type p t
  this_same t = ap (λ h. if is_reference h then t else Rattle.cil_model.specs.declared.ty.Ty.TheVariants.ByRef t) (storage_same p ms t)

  pub params_same : (owner : Ty) (m : ℕ) (args : List Ty) → param_types p' owner m args ≡ param_types p owner m args
  params_same owner m args =
      ap (λ b. if b then all_under (args_of owner) args (method_of p' m).params else this_type p' owner ∷ all_under (args_of owner) args (method_of p' m).params) ((r.same_methods m).is_static)
      ∙ ap (λ ts. if (method_of p m).is_static then all_under (args_of owner) args ts else this_type p' owner ∷ all_under (args_of owner) args ts) ((r.same_methods m).params)
      ∙ ap (λ t. if (method_of p m).is_static then all_under (args_of owner) args (method_of p m).params else t ∷ all_under (args_of owner) args (method_of p m).params) (this_same owner)

  pub passed_same : (ts : List Ty) (vs : List Value) → stored_args p' ts vs ≡ stored_args p ts vs
  passed_same [] [] = refl
  passed_same [] (v ∷ vs) = refl
  passed_same (t ∷ ts) [] = refl
  passed_same (t ∷ ts) (v ∷ vs) =
      ap (λ o. option_and_then (λ c. option_map (λ cs. c ∷ cs) (stored_args p' ts vs)) o) (new_cell_same p ms t v) ∙ ap (λ o. option_and_then (λ c. option_map (λ cs. c ∷ cs) o) (new_cell p t v)) (passed_same ts vs)

  use_same : (m : ℕ) → is_use (method_of p' m) ≡ is_use (method_of p m)
  use_same m = ap (λ b. b || bytes_eq (method_of p' m).name (codes ".ctor")) ((r.same_methods m).is_static) ∙ ap (λ n. (method_of p m).is_static || bytes_eq n (codes ".ctor")) ((r.same_methods m).name)

  abbrev starts_type : Program → ℕ → Bool
  starts_type q m = is_initializer (method_of q m) && not (type_of q (method_of q m).owner).reference

  starts_same : (m : ℕ) → starts_type p' m ≡ starts_type p m
  starts_same m =
      ap (λ n. (bytes_eq n (codes ".cctor") && ((method_of p' m).is_static && is_some (method_of p' m).body)) && not (type_of p (method_of p' m).owner).reference) ((r.same_methods m).name)
      ∙ ap (λ b. (bytes_eq (method_of p m).name (codes ".cctor") && (b && is_some (method_of p' m).body)) && not (type_of p (method_of p' m).owner).reference) ((r.same_methods m).is_static)
      ∙ ap (λ b. (bytes_eq (method_of p m).name (codes ".cctor") && ((method_of p m).is_static && b)) && not (type_of p (method_of p' m).owner).reference) ((r.same_methods m).has_body)
      ∙ ap (λ o. (bytes_eq (method_of p m).name (codes ".cctor") && ((method_of p m).is_static && is_some (method_of p m).body)) && not (type_of p o).reference) ((r.same_methods m).owner)

  pub initializer_same : (w : World) (ss : List Statics) (t : Ty) → IsTrue (is_below r.types t) → IsBeside w ss → initializer p' (beside ss w) t ≡ initializer p w t
  unfolding initializer
  initializer_same w ss t a bes =
      ap (λ o. initializer_state (option_and_then (λ (s : Statics). s.init) o) (find (starts_type p') (methods_of p t))) (find_beside p k ms g r t w ss a bes)
      ∙ ap (λ test. initializer_state (option_and_then (λ (s : Statics). s.init) (find_statics t w.statics)) (find test (methods_of p t))) (fun_ext starts_same)

  -- ---- a new frame

  here_in : Ty → ℕ → List Ty → List Frame → Here
  here_in owner m args fs = record { number = length fs; method = m; type_args = args_of owner; method_args = args }

  pub new_pair : (owner : Ty) (m : ℕ) (args : List Ty) (cells : List Cell) (b b' : Continuation) (fs fs' : List Frame) → m < r.methods → length fs' ≡ length fs → FramePair p k ms g r 0 (frame_with p k owner m args cells b fs) fs (frame_with p' no_contracts owner m args cells b' fs')
  new_pair owner m args cells b b' fs fs' old many =
      record {
        extra = default_cells p ((mk m).extra here);
        same = same_frame;
        keeps = record { wide = len_map (default_cell p) old_tys ∙ ((r.bodies m old).counts here refl).0; caps = len_map (default_cell p) (captured_tys p here (plan_at k p m)) ∙ ((r.bodies m old).counts here refl).1; typed = first_types p ((mk m).extra here); result = λ v e. absurd (cc e); thrown = λ x e. absurd (cc e) };
        waits = none (first_place (plan_at k p m));
      }
    where
      here : Here
      here = record { number = length fs; method = m; type_args = args_of owner; method_args = args }

      none : (at : ProgramPoint) → Waits (plan_at k p m) (mk m) (length (body_of p m).regions) at [] []
      none (LeadIn q) = tt
      none (InGroup gr j q) = (refl, refl)
      none (Rest q) = tt

      here' : Here
      here' = record { number = length fs'; method = m; type_args = args_of owner; method_args = args }

      here_same : here' ≡ here
      here_same = ap (λ n. record { number = n; method = m; type_args = args_of owner; method_args = args }) many

      old_tys : List Ty
      old_tys = local_tys p here (body_of p m).locals ++ clause_tys p here (plan_at k p m)

      places : default_cells p' (local_tys p' here' (body_of p' m).locals ++ clause_tys p' here' (plan_at no_contracts p' m)) ≡ default_cells p old_tys ++ (default_cells p (captured_tys p here (plan_at k p m)) ++ default_cells p ((mk m).extra here))
      places =
          ap (λ o. default_cells p' (local_tys p' here' (body_of p' m).locals ++ clause_tys p' here' o)) (no_plan p' m)
          ∙ ap (default_cells p') (append-nil (local_tys p' here' (body_of p' m).locals))
          ∙ ap (λ h. default_cells p' (local_tys p' h (body_of p' m).locals)) here_same
          ∙ ap (default_cells p') ((r.bodies m old).locals here refl)
          ∙ default_cells_same p ms (old_tys ++ (captured_tys p here (plan_at k p m) ++ (mk m).extra here))
          ∙ first_append p old_tys (captured_tys p here (plan_at k p m) ++ (mk m).extra here)
          ∙ ap (λ cs. default_cells p old_tys ++ cs) (first_append p (captured_tys p here (plan_at k p m)) ((mk m).extra here))

      same_frame : frame_with p' no_contracts owner m args cells b' fs' ≡ Unwinding.tw p k ms g r (frame_with p k owner m args cells b fs) (frame_with p k owner m args cells b fs).local (default_cells p ((mk m).extra here)) 0 [] b'
      same_frame =
          ap (λ cs. framed cs (captured_tys p' here' (plan_at no_contracts p' m)) (plan_at no_contracts p' m)) places
          ∙ ap (λ o. framed (default_cells p old_tys ++ (default_cells p (captured_tys p here (plan_at k p m)) ++ default_cells p ((mk m).extra here))) (captured_tys p' here' o) o) (no_plan p' m)
        where
          framed : List Cell → List Ty → Option Plan → Frame
          framed cs ts o =
              record { method = m; type_args = args_of owner; method_args = args; local = record { args = cells; locals = cs; captured = default_cells p' ts; result = None; stack = [] }; at = first_place o; handling = []; thrown = None; continuation = b'; initializes = None }

  pub new_stands : (owner : Ty) (m : ℕ) (args : List Ty) (cells : List Cell) (b : Continuation) (o : Option Ty) (fs : List Frame) → m < r.methods → ((t : Ty) → o ≡ Some t → IsTrue (is_below r.types t)) → Pairs.Standing p k ms g r (record (frame_with p k owner m args cells b fs) { initializes = o }) fs
  new_stands owner m args cells b o fs old own =
      record {
        old = old;
        wide = len_map (default_cell p) (local_tys p here (body_of p m).locals ++ clause_tys p here (plan_at k p m)) ∙ len_append (local_tys p here (body_of p m).locals) (clause_tys p here (plan_at k p m))
            ∙ ap (λ n. n + length (clause_tys p here (plan_at k p m))) (len_locals p here here0 (body_of p m).locals refl) ∙ ap (λ n. length (local_tys p here0 (body_of p m).locals) + n) (len_clauses p here here0 (plan_at k p m));
        fits = fits_first (plan_at k p m);
        initializes = own;
      }
    where
      here : Here
      here = record { number = length fs; method = m; type_args = args_of owner; method_args = args }

      here0 : Here
      here0 = record { number = 0; method = m; type_args = []; method_args = [] }

      fits_first : (c : Option Plan) → Pairs.FitsAt (Unwinding.Fits p k ms g r) (first_place c) None
      fits_first None = tt
      fits_first (Some c) = tt

  moved_first : (o : Option Plan) → moved_to 0 (first_place o) ≡ first_place o
  moved_first None = refl
  moved_first (Some c) = refl

  -- a frame that has not begun begins
  pub begins_so : (h h' : Frame) (fs fs' : List Frame) (w : World) (ss : List Statics) → FramePair p k ms g r 0 h fs h' → h.at ≡ first_place (plan_at k p h.method) → Pairs.Standing p k ms g r h fs → below h.continuation h'.continuation fs fs' → IsBeside w ss → w.depth ≤ suc k.settings.guard
      → To (cst + lay (suc (length fs))) (begin p k h fs w) (begin p' no_contracts h' fs' (beside ss w))
  begins_so h h' fs fs' w ss pair first st under bes deep =
      let sp = r.bodies h.method st.old in
      let twin : Frame = Unwinding.tw p k ms g r h h.local pair.extra 0 h'.handling h'.continuation in
      let can : CanArrive (plan_at k p h.method) h.at = subst (CanArrive (plan_at k p h.method)) (sym first) (r.input h.method st.old).starts in
      let placed : (mk h.method).places h.at ≡ 0 = ap (mk h.method).places first ∙ sp.begins in
      let a = Arriving.arrives p k ms g r (plan_at k p h.method) h h.at h.local h.local pair.extra h.handling h'.handling h'.handling 0 h'.continuation fs fs' w ss refl st.old can st.fits pair.keeps pair.waits bes (as_many p k ms g r h.continuation h'.continuation fs fs' under) deep under in
      subst (λ z. To (cst + lay (suc (length fs))) (begin p k h fs w) (begin p' no_contracts z fs' (beside ss w))) (sym pair.same)
      (subst (λ z. To (cst + lay (suc (length fs))) (begin p k h fs w) z) (sym (arrives_plain p' twin (Rest 0) (grow pair.extra h.local) h'.handling fs' (beside ss w)))
      (subst (λ z. To (cst + lay (suc (length fs))) (begin p k h fs w) (goes_at p' twin (Rest z) (grow pair.extra h.local) h'.handling fs' (beside ss w))) placed a))

  -- the statics of a type whose initializer begins
  pub begun_beside : (t : Ty) (w : World) (ss : List Statics) → IsTrue (is_below r.types t) → IsBeside w ss → IsBeside (with_begun p t w) (set_statics (same_ty t) (record { owner = t; init = Some Begun; cells = static_cells p' (beside ss w) t }) ss)
  begun_beside t w ss a bes =
      set_beside p k ms g r t (record { owner = t; init = Some Begun; cells = static_cells p w t }) (record { owner = t; init = Some Begun; cells = static_cells p' (beside ss w) t }) w ss
      (ap (λ cs. as_statics cs) (Pointing.static_cells_same p k ms g r w ss t a bes)) a a tt bes
    where
      as_statics : List Cell → Statics
      as_statics cs = record { owner = t; init = Some Begun; cells = cs }

  -- what a failed initializer left is an object
  abbrev pub FailedIf : Initializer → World → Type 0
  FailedIf Ready w = Unit {0}
  FailedIf (FailedWith x) w = IsObject (length w.heap) x
  FailedIf (ToRun m) w = Unit {0}

  pub failed_there : (t : Ty) (w : World) (ss : List Statics) → IsBeside w ss → FailedIf (initializer p w t) w
  unfolding initializer
  failed_there t w ss bes = by_statics (find_statics t w.statics) (λ s e. found_failure (length w.heap) t w.statics s bes.failures e)
    where
      found : Option ℕ
      found = find (λ m. is_initializer (method_of p m) && not (type_of p (method_of p m).owner).reference) (methods_of p t)

      by_method : (o : Option ℕ) → FailedIf (initializer_state None o) w
      by_method None = tt
      by_method (Some m) = tt

      by_init : (i : Option Init) → FailureThere (length w.heap) i → FailedIf (initializer_state i found) w
      by_init None h = by_method found
      by_init (Some Begun) h = tt
      by_init (Some (Failed x)) h = h

      by_statics : (o : Option Statics) → ((s : Statics) → o ≡ Some s → FailureThere (length w.heap) s.init) → FailedIf (initializer_state (option_and_then (λ (s : Statics). s.init) o) found) w
      by_statics None h = by_method found
      by_statics (Some s) h = by_init s.init (h s refl)

  -- a frame begins, behind its type's initializer
  pub begins_by : (i : Initializer) (t : Ty) (h h' : Frame) (fs fs' : List Frame) (w : World) (ss : List Statics) → FramePair p k ms g r 0 h fs h' → h.at ≡ first_place (plan_at k p h.method) → Pairs.Standing p k ms g r h fs → below h.continuation h'.continuation fs fs' → hasnt_begun h.continuation ≡ false → hasnt_begun h'.continuation ≡ false → valid fs → IsTrue (is_below r.types t) → IsBeside w ss → w.depth ≤ suc k.settings.guard → w.depth ≡ count_groups fs → ((m : ℕ) → i ≡ ToRun m → m < r.methods) → FailedIf i w
      → To (cst + lay (suc (suc (length fs)))) (begin_behind p k i t h fs w) (begin_behind p' no_contracts i t h' fs' (beside ss w))
  begins_by Ready t h h' fs fs' w ss pair first st under nb nb' ok a bes deep count own failed = Unwinding.reach_within p k ms g r (cst + lay (suc (length fs))) _ _ _ (omega arith) (begins_so h h' fs fs' w ss pair first st under bes deep)
  begins_by (FailedWith x) t h h' fs fs' w ss pair first st under nb nb' ok a bes deep count own failed =
      let d = unwinds p k ms g r h.continuation h'.continuation fs fs' under ok w ss x bes failed count deep in
      let d1 = subst (λ z. To (2 * cst + lay (length fs)) (unwind p k z fs w x) (unwind p' no_contracts (hasnt_begun h'.continuation) fs' (beside ss w) x)) nb d in
      let d2 = subst (λ z. To (2 * cst + lay (length fs)) (unwind p k false fs w x) (unwind p' no_contracts z fs' (beside ss w) x)) nb' d1 in
      Unwinding.reach_within p k ms g r (2 * cst + lay (length fs)) _ _ _ (omega arith) d2
  begins_by (ToRun m) t h h' fs fs' w ss pair first st under nb nb' ok a bes deep count own failed =
      let old = own m refl in
      let top : below BeginCallee BeginCallee (h ∷ fs) (h' ∷ fs') = Under.begins h h' fs fs' pair first nb nb' under in
      let many = ap suc (as_many p k ms g r h.continuation h'.continuation fs fs' under) in
      let np = new_pair t m [] [] BeginCallee BeginCallee (h ∷ fs) (h' ∷ fs') old many in
      let f1 : Frame = initializer_frame p k t m BeginCallee (h ∷ fs) in
      let f2 : Frame = initializer_frame p' no_contracts t m BeginCallee (h' ∷ fs') in
      let pair1 : FramePair p k ms g r 0 f1 (h ∷ fs) f2 = record { extra = np.extra; same = ap (λ (z : Frame). record z { initializes = Some t }) np.same; keeps = np.keeps; waits = np.waits } in
      let s1 = new_stands t m [] [] BeginCallee (Some t) (h ∷ fs) old (λ u e. subst (λ z. IsTrue (is_below r.types z)) (some_inj t u e) a) in
      Unwinding.reach_within p k ms g r (cst + lay (suc (suc (length fs)))) _ _ _ (omega arith)
      (begins_so f1 f2 (h ∷ fs) (h' ∷ fs') (with_begun p t w) (set_statics (same_ty t) (record { owner = t; init = Some Begun; cells = static_cells p' (beside ss w) t }) ss) pair1 refl s1 top (begun_beside t w ss a bes) deep)
    where
      some_inj : (x y : Ty) → Some x ≡ Some y → x ≡ y
      some_inj x y e = cc e

  pub uses_begin : (t : Ty) (h h' : Frame) (fs fs' : List Frame) (w : World) (ss : List Statics) → FramePair p k ms g r 0 h fs h' → h.at ≡ first_place (plan_at k p h.method) → Pairs.Standing p k ms g r h fs → below h.continuation h'.continuation fs fs' → hasnt_begun h.continuation ≡ false → hasnt_begun h'.continuation ≡ false → valid fs → IsTrue (is_below r.types t) → IsBeside w ss → w.depth ≤ suc k.settings.guard → w.depth ≡ count_groups fs
      → To (cst + lay (suc (suc (length fs)))) (begin_use p k t h fs w) (begin_use p' no_contracts t h' fs' (beside ss w))
  uses_begin t h h' fs fs' w ss pair first st under nb nb' ok a bes deep count =
      let same : h'.method ≡ h.method = ap (λ (z : Frame). z.method) pair.same in
      subst (λ b. To (cst + lay (suc (suc (length fs)))) (begin_use p k t h fs w) (if b then begin_behind p' no_contracts (initializer p' (beside ss w) t) t h' fs' (beside ss w) else begin p' no_contracts h' fs' (beside ss w))) (sym (ap (λ m. is_use (method_of p' m)) same ∙ use_same h.method))
      (subst (λ i. To (cst + lay (suc (suc (length fs)))) (begin_use p k t h fs w) (if is_use (method_of p h.method) then begin_behind p' no_contracts i t h' fs' (beside ss w) else begin p' no_contracts h' fs' (beside ss w))) (sym (initializer_same w ss t a bes))
      (by_use (is_use (method_of p h.method))))
    where
      by_use : (b : Bool) → To (cst + lay (suc (suc (length fs)))) (if b then begin_behind p k (initializer p w t) t h fs w else begin p k h fs w) (if b then begin_behind p' no_contracts (initializer p w t) t h' fs' (beside ss w) else begin p' no_contracts h' fs' (beside ss w))
      by_use true = begins_by (initializer p w t) t h h' fs fs' w ss pair first st under nb nb' ok a bes deep count (λ m e. r.owned t w m a e) (failed_there t w ss bes)
      by_use false = Unwinding.reach_within p k ms g r (cst + lay (suc (length fs))) _ _ _ (omega arith) (begins_so h h' fs fs' w ss pair first st under bes deep)

  -- a method with a body is called
  pub enters : (owner : Ty) (m : ℕ) (args : List Ty) (values : List Value) (b b' : Continuation) (fs fs' : List Frame) (w : World) (ss : List Statics) → m < r.methods → IsTrue (is_below r.types owner) → below b b' fs fs' → hasnt_begun b ≡ false → hasnt_begun b' ≡ false → valid fs → IsBeside w ss → w.depth ≤ suc k.settings.guard → w.depth ≡ count_groups fs
      → To (cst + lay (suc (suc (length fs)))) (enter p k owner m args values b fs w) (enter p' no_contracts owner m args values b' fs' (beside ss w))
  enters owner m args values b b' fs fs' w ss old a under nb nb' ok bes deep count =
      subst (λ o. To (cst + lay (suc (suc (length fs)))) (enter p k owner m args values b fs w) (if_there o (beside ss w) (λ cells. begin_use p' no_contracts owner (frame_with p' no_contracts owner m args cells b' fs') fs' (beside ss w)))) (sym (ap (λ ts. stored_args p' ts values) (params_same owner m args) ∙ passed_same (param_types p owner m args) values))
      (by_cells (stored_args p (param_types p owner m args) values))
    where
      by_cells : (o : Option (List Cell)) → To (cst + lay (suc (suc (length fs)))) (if_there o w (λ cells. begin_use p k owner (frame_with p k owner m args cells b fs) fs w)) (if_there o (beside ss w) (λ cells. begin_use p' no_contracts owner (frame_with p' no_contracts owner m args cells b' fs') fs' (beside ss w)))
      by_cells None = Arriving.stuck_both p k ms g r _ w ss bes
      by_cells (Some cells) =
          uses_begin owner (frame_with p k owner m args cells b fs) (frame_with p' no_contracts owner m args cells b' fs') fs fs' w ss (new_pair owner m args cells b b' fs fs' old (as_many p k ms g r b b' fs fs' under)) refl
          (new_stands owner m args cells b None fs old (λ t e. absurd (cc e))) under nb nb' ok a bes deep count

  -- a struct's constructor is called, with a pointer to the struct behind its arguments
  pub enters_struct : (owner : Ty) (m : ℕ) (args : List Ty) (values : List Value) (fs fs' : List Frame) (w : World) (ss : List Statics) → m < r.methods → IsTrue (is_below r.types owner) → below PushStruct PushStruct fs fs' → valid fs → IsBeside w ss → w.depth ≤ suc k.settings.guard → w.depth ≡ count_groups fs
      → To (cst + lay (suc (suc (length fs)))) (enter_struct p k owner m args values fs w) (enter_struct p' no_contracts owner m args values fs' (beside ss w))
  enters_struct owner m args values fs fs' w ss old a under ok bes deep count =
      subst (λ n. To (cst + lay (suc (suc (length fs)))) (first (length fs)) (second (param_types p' owner m args) n (default_cell p' owner))) (sym many)
      (subst (λ ts. To (cst + lay (suc (suc (length fs)))) (first (length fs)) (second ts (length fs) (default_cell p' owner))) (sym (params_same owner m args))
      (subst (λ o. To (cst + lay (suc (suc (length fs)))) (first (length fs)) (begins_with o (default_cell p' owner))) (sym (passed_same (param_types p owner m args) (pointer (length fs) ∷ values)))
      (subst (λ c. To (cst + lay (suc (suc (length fs)))) (first (length fs)) (begins_with (stored_args p (param_types p owner m args) (pointer (length fs) ∷ values)) c)) (sym (default_cell_same p ms owner))
      (by_cells (stored_args p (param_types p owner m args) (pointer (length fs) ∷ values))))))
    where
      many : length fs' ≡ length fs
      many = as_many p k ms g r PushStruct PushStruct fs fs' under

      pointer : ℕ → Value
      pointer n = Ptr (Arg n m (length values + 1) [])

      begins_with : Option (List Cell) → Cell → Next
      begins_with o c = if_there o (beside ss w) (λ cells. begin_use p' no_contracts owner (frame_with p' no_contracts owner m args (cells ++ c ∷ []) PushStruct fs') fs' (beside ss w))

      first : ℕ → Next
      first n = if_there (stored_args p (param_types p owner m args) (pointer n ∷ values)) w (λ cells. begin_use p k owner (frame_with p k owner m args (cells ++ default_cell p owner ∷ []) PushStruct fs) fs w)

      second : List Ty → ℕ → Cell → Next
      second ts n c = begins_with (stored_args p' ts (pointer n ∷ values)) c

      by_cells : (o : Option (List Cell)) → To (cst + lay (suc (suc (length fs)))) (if_there o w (λ cells. begin_use p k owner (frame_with p k owner m args (cells ++ default_cell p owner ∷ []) PushStruct fs) fs w)) (begins_with o (default_cell p owner))
      by_cells None = Arriving.stuck_both p k ms g r _ w ss bes
      by_cells (Some cells) =
          let all : List Cell = cells ++ default_cell p owner ∷ [] in
          uses_begin owner (frame_with p k owner m args all PushStruct fs) (frame_with p' no_contracts owner m args all PushStruct fs') fs fs' w ss (new_pair owner m args all PushStruct PushStruct fs fs' old many) refl
          (new_stands owner m args all PushStruct None fs old (λ t e. absurd (cc e))) under refl refl ok a bes deep count
