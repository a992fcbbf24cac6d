-- The exception of a failed Requires<E> in both runs.
use Rattle.std.proofs.Common.{◌≡◌, ℕ, suc, ◌+◌, ◌*◌, ◌<◌, ◌≤◌, Bool, true, false, List, [], ◌∷◌, length, Option, Some, None, refl, sym, ap, ◌∙◌, subst, arith}
use Rattle.std.specs.Prelude.{◌&&◌, ◌||◌, ◌==◌, ◌%◌, not, bytes_eq, if◌then◌else◌, IsTrue, codes, find, option_map, option_and_then, is_some}
use Rattle.machine_laws.specs.Answers.{Each}
use Rattle.cil_model.specs.declared.ty.Ty.{Ty, out-Ty}
use Rattle.cil_model.specs.declared.ty.Ty.TheOpen.{Ty-F}
use Rattle.cil_model.specs.declared.value.Value.{Value, out-Value, Obj}
use Rattle.cil_model.specs.declared.value.Value.TheOpen.{Value-F}
use Rattle.cil_model.specs.declared.contract.Contracts.{Contracts}
use Rattle.cil_model.specs.declared.contract.Group.{Group}
use Rattle.cil_model.specs.declared.contract.ClauseKind.TheVariants as kind
use Rattle.cil_model.specs.declared.program.Program.{Program}
use Rattle.cil_model.specs.declared.program.MethodDesc.{MethodDesc}
use Rattle.cil_model.specs.NoContracts.{no_contracts}
use Rattle.cil_semantics.specs.Words.{maybe, or_else}
use Rattle.cil_semantics.specs.Types.{same_tys}
use Rattle.cil_semantics.specs.Core.{Name, string_ty, object_ty, contract_name}
use Rattle.cil_semantics.specs.Lookups.{method_of, in_set}
use Rattle.cil_semantics.specs.Dispatch.{methods_of}
use Rattle.cil_semantics.specs.Tokens.{nests_little}
use Rattle.cil_semantics.specs.declared.state.Cell.{Cell}
use Rattle.cil_semantics.specs.declared.state.Local.{Local as LocalState}
use Rattle.cil_semantics.specs.declared.state.World.{World}
use Rattle.cil_semantics.specs.declared.state.Statics.{Statics}
use Rattle.cil_semantics.specs.declared.state.Frame.{Frame}
use Rattle.cil_semantics.specs.declared.state.Continuation.{Continuation}
use Rattle.cil_semantics.specs.declared.state.Continuation.TheVariants.{Push, PushObject, ThrowObject}
use Rattle.cil_semantics.specs.State.{Next, with_stack, with_local, with_object, next_object}
use Rattle.cil_semantics.specs.Contracted.{Piece, Plan}
use Rattle.cil_semantics.specs.Acts.{ty_name}
use Rattle.cil_semantics.specs.Unwind.{here_of, unwind}
use Rattle.cil_semantics.specs.Frames.{stuck}
use Rattle.cil_semantics.specs.Outside.{Answer, Returned, Threw, Unfit, Member, by_ref_args, ask_new, is_outside, member_of}
use Rattle.cil_semantics.specs.Returns.{push_below, piece_over}
use Rattle.cil_semantics.specs.Calls.{Use, CoreMember, NotCore, Constructor, Quantifier, core_of, is_core_exception, is_outside_type, is_named, are_strings, string_member, makes_delegate, delegate_cells, new_object, pushes_new, use_answer, make_core, make_own, without_this, make_outside, make}
use Rattle.cil_semantics.specs.Types.{same_ty}
use Rattle.cil_semantics.specs.Checks.{AddedNumbers, Failure, Condition, Sequel, check, number_of_object, throws_new, made_type, is_accessible, constructor_with, constructor_member, own_constructor, is_named_type, throw_outside, throw_made, after_new}
use Rattle.splice_facts.specs.Exceptions.{IsObject}
use Rattle.splice_facts.proofs.ExceptionLaws.{more_failures, longer}
use Rattle.splice_facts.proofs.ExceptionLaws.{new_object as new_object_there}
use Rattle.splice_facts.specs.Bodies.{with_methods}
use Rattle.splice_facts.specs.Grown.{beside}
use Rattle.splice_facts.specs.Layout.{Marks}
use Rattle.splice_facts.specs.Spliced.{Checked, from_here, failure_cost}
use Rattle.splice_facts.specs.Related.{Rewritten, IsOwnClass, Under, FramePair, Throws_here, Waits, count_groups, in_group}
use Rattle.splice_facts.specs.Related as Pairs
use Rattle.splice_facts.proofs.AskFrameLaws.{with_frames}
use Rattle.splice_facts.proofs.ThrowLaws.{seam_throws}
use Rattle.simulation.proofs.ProgramLaws.{fun_ext, with_object_same}
use Rattle.simulation.proofs.ArriveLaws as Arriving
use Rattle.simulation.proofs.UnwindLaws as Unwinding
use Rattle.simulation.proofs.UnwindLaws.{unwinds, pair_unwinds}
use Rattle.simulation_steps.specs.Outside as Alike
use Rattle.simulation_steps.proofs.ReturnLaws as Returning
use Rattle.simulation_steps.proofs.OutsideLaws as Asking
use Rattle.simulation_objects.proofs.CallLaws as Calling
use Rattle.simulation_objects.proofs.NewLaws as Making
use Rattle.simulation_calls.specs.Failures as Failing
use Rattle.simulation_calls.proofs.ClauseLaws as Clausing
use Rattle.simulation_checks.proofs.NewFrameLaws.{AnswersObject, AnswerThere, ask_new_there, ask_new_frames, ask_new_object, made_of_class, text_plain, bare_plain, string_plain}

-- ---- which constructor a clause calls

abbrev tested : Name → List Ty → ℕ → ℕ → ℕ → List Ty → Bool
tested name params flags home own ts =
    bytes_eq name (codes ".ctor") && (same_tys params ts && ((flags % 8 == 6) || (((flags % 8 == 3) || (flags % 8 == 5)) && (home == own))))

pub found_each : {X : Type 0} (P : X → Type 0) (test : X → Bool) (xs : List X) (v : X) → Each P xs → find test xs ≡ Some v → P v × (test v ≡ true)
found_each P test [] v h e = absurd (cc e)
found_each {X} P test (x ∷ xs) v h e = by_test (λ q. found_each P test xs v h.1 q) (test x) refl e
  where
    by_test : (find test xs ≡ Some v → P v × (test v ≡ true)) → (b : Bool) → test x ≡ b → (if b then Some x else find test xs) ≡ Some v → P v × (test v ≡ true)
    by_test more true t q = let s : x ≡ v = cc q in subst (λ y. P y × (test y ≡ true)) s (h.0, t)
    by_test more false t q = more q

both_true : (a b c : Bool) → (a && (b && c)) ≡ true → b ≡ true
both_true true true c q = refl
both_true true false c q = cc q
both_true false b c q = cc (the_false q)
  where
    the_false : false ≡ true → false ≡ true
    the_false y = y

-- ---- a class of the set has no core member, and its constructors make no delegate

not_outside : (x : Ty-F Ty) (d : ℕ × List Ty) → in_set x ≡ Some d → is_outside_type x ≡ false
not_outside (Ty-F.Known k) d e = refl
not_outside (Ty-F.Inst k args) d e = refl
not_outside _ d e = absurd (cc e)

abbrev core_outside : Program → Ty → ℕ → CoreMember
core_outside p owner m =
    if is_named (method_of p m).name (codes ".ctor") && ((same_ty owner object_ty && (length (method_of p m).params == 0)) || is_core_exception p owner) then Constructor
    else if same_ty owner string_ty then (if (is_named (method_of p m).name (codes "Concat") && not (are_strings (method_of p m).params)) then NotCore else string_member (method_of p m).name (length (method_of p m).params))
    else if is_named (ty_name p owner) contract_name && is_named (method_of p m).name (codes "ForAll") then Quantifier false
    else if is_named (ty_name p owner) contract_name && is_named (method_of p m).name (codes "Exists") then Quantifier true
    else NotCore

no_core : (p : Program) (t : Ty) (m : ℕ) (d : ℕ × List Ty) → in_set (out-Ty t) ≡ Some d → core_of p t m ≡ NotCore
unfolding core_of
no_core p t m d e = ap (λ b. if not b then NotCore else core_outside p t m) (not_outside (out-Ty t) d e)

-- a constructor of a class of the set, where none of the values makes a delegate
made_by : (p : Program) (k : Contracts) (u : Use) (t : Ty) (m : ℕ) (values : List Value) (fs : List Frame) (w : World) → makes_delegate p t m values ≡ false → core_of p t m ≡ NotCore
    → make p k u t m values fs w ≡ (if is_outside p m then make_outside p k u t m values fs w else if is_some (method_of p m).body then make_own p k u t m values fs w else stuck w)
unfolding make
made_by p k u t m values fs w delegate core =
    ap (λ b. if b then u.now (Obj (next_object w)) fs (with_object p (new_object t (delegate_cells values)) w) else make_core p k u (core_of p t m) t fs w (if is_outside p m then make_outside p k u t m values fs w else if is_some (method_of p m).body then make_own p k u t m values fs w else stuck w)) delegate
    ∙ ap (λ c. make_core p k u c t fs w (if is_outside p m then make_outside p k u t m values fs w else if is_some (method_of p m).body then make_own p k u t m values fs w else stuck w)) core

-- the type of what is made is that of the failure
pub made_is : (x : Failure) (t : Ty) → made_type x ≡ Some t → x.exception ≡ Some t
made_is x t e = by_exception x.exception e
  where
    by_exception : (o : Option Ty) → option_and_then (λ u. if nests_little u then Some u else None) o ≡ Some t → o ≡ Some t
    by_exception None q = absurd (cc q)
    by_exception (Some u) q = by_test (nests_little u) q
      where
        by_test : (b : Bool) → (if b then Some u else None) ≡ Some t → Some u ≡ Some t
        by_test true y = y
        by_test false y = absurd (cc y)

module _ (p : Program) (k : Contracts) (ms : List MethodDesc) (g : AddedNumbers) (r : Rewritten p k ms g) where
  abbrev p' : Program
  p' = with_methods p ms

  abbrev To : ℕ → Next → Next → Type 0
  To n x y = Unwinding.To p k ms g r n x y

  abbrev lay : ℕ → ℕ
  lay n = Unwinding.lay p k ms g r n

  abbrev cst : ℕ
  cst = Unwinding.cst p k ms g r

  abbrev mk : ℕ → Marks
  mk m = Pairs.marks_in p k ms g r m

  abbrev IsBeside : World → List Statics → Type 0
  IsBeside w ss = Unwinding.IsBeside p k ms g r w ss

  abbrev ending : ℕ → ℕ
  ending n = 4 * cst + lay (suc (suc n))

  abbrev tests : Program → ℕ → List Ty → ℕ → Bool
  tests q home ts m = bytes_eq (method_of q m).name (codes ".ctor") && (same_tys (method_of q m).params ts && is_accessible q home m)

  tests_same : (home : ℕ) (ts : List Ty) (m : ℕ) → tests p' home ts m ≡ tests p home ts m
  tests_same home ts m =
      ap (λ n. tested n (method_of p' m).params (method_of p' m).flags (method_of p' home).assembly (method_of p' m).assembly ts) ((r.same_methods m).name)
      ∙ ap (λ ps. tested (method_of p m).name ps (method_of p' m).flags (method_of p' home).assembly (method_of p' m).assembly ts) ((r.same_methods m).params)
      ∙ ap (λ n. tested (method_of p m).name (method_of p m).params n (method_of p' home).assembly (method_of p' m).assembly ts) ((r.same_methods m).flags)
      ∙ ap (λ n. tested (method_of p m).name (method_of p m).params (method_of p m).flags n (method_of p' m).assembly ts) ((r.same_methods home).assembly)
      ∙ ap (λ n. tested (method_of p m).name (method_of p m).params (method_of p m).flags (method_of p home).assembly n ts) ((r.same_methods m).assembly)

  constructor_same : (t : Ty) (home : ℕ) (ts : List Ty) → constructor_with p' t home ts ≡ constructor_with p t home ts
  constructor_same t home ts = ap (λ f. find f (methods_of p t)) (fun_ext (λ m. tests_same home ts m))

  own_same : (t : Ty) (home : ℕ) (text : Value) → own_constructor p' t home text ≡ own_constructor p t home text
  own_same t home text =
      ap (λ o. or_else (option_map (λ m. (m, text ∷ [])) o) (option_map (λ m. (m, [])) (constructor_with p' t home []))) (constructor_same t home (string_ty ∷ []))
      ∙ ap (λ o. or_else (option_map (λ m. (m, text ∷ [])) (constructor_with p t home (string_ty ∷ []))) (option_map (λ m. (m, [])) o)) (constructor_same t home [])

  -- a constructor outside is asked alike, over no frames, and makes the same object
  asks_alone : (t : Ty) (m : Member) (values : List Value) (w : World) (ss : List Statics) → IsBeside w ss → ((vs : List Value) → by_ref_args m.params vs ≡ []) → Alike.BothAnswer p k ms g r Push Push 0 0 w.depth (ask_new p t m values [] w) (ask_new p' t m values [] (beside ss w))
  asks_alone t m values w ss bes none =
      Asking.asks_new p k ms g r Push Push t m values [] [] w ss (Under.bottom Push tt) tt bes (λ cells e. subst (Alike.WellFormedRefs p k ms g r) (sym (none _)) tt)

  module _ (c : Plan) (gr : Group) (j q : ℕ) (x : Piece) (h : Frame) (ex : List Cell) (b' : Continuation) (fs fs' : List Frame) (w : World) (ss : List Statics) (o : Condition) (z : Failing.InPiece p k ms g r c gr j q x h ex b' fs fs' w ss)
      (ch : Checked p k p' g r.types r.depths (mk h.method) h fs fs' w ex ss b' [] (Failing.failure_of p k ms g r h fs x o) o.holds o.rest ((mk h.method).behind gr j)) where
    abbrev L : LocalState
    L = with_stack h.local o.rest

    abbrev H : Frame
    H = record h { local = L }

    abbrev at_place : ℕ → Frame
    at_place t = Failing.twin_at p k ms g r h L ch.after t b'

    abbrev T : Frame
    T = at_place ch.seam

    -- where the exception is made
    abbrev M : Frame
    M = at_place ch.maker

    abbrev X : Failure
    X = Failing.failure_of p k ms g r h fs x o

    abbrev S1 : Sequel
    S1 = Failing.old_sequel p k ms g r c gr j h L fs

    abbrev S2 : Sequel
    S2 = Failing.new_sequel p k ms g r h fs' b' L ch.after ch.seam ch.maker ((mk h.method).behind gr j)

    abbrev N : ℕ
    N = ending (length fs)

    pair : (t : ℕ) → FramePair p k ms g r t H fs (at_place t)
    pair t =
        record {
          extra = ch.after;
          same = refl;
          keeps = record { typed = (ch.keeps).typed; result = (ch.keeps).result; thrown = (ch.keeps).thrown; wide = (ch.keeps).wide; caps = (ch.keeps).caps };
          waits = Clausing.no_waits p k ms g r h.method gr j q h.at h.handling z.at z.bare;
        }

    stands : Pairs.Standing p k ms g r H fs
    stands = record { old = (z.stands).old; wide = (z.stands).wide; fits = (z.stands).fits; initializes = (z.stands).initializes }

    counts : (v : World) → v.depth ≡ w.depth → v.depth ≡ in_group h.at + count_groups fs
    counts v e = e ∙ z.count ∙ sym (ap (λ a. in_group a + count_groups fs) z.at)

    deeps : (v : World) → v.depth ≡ w.depth → v.depth ≤ suc k.settings.guard
    deeps v e = subst (λ d. d ≤ suc k.settings.guard) (sym e) z.deep

    throws_at : (t : ℕ) → IsTrue ((mk h.method).belongs h.at t) → (v : World) (ss2 : List Statics) (y : ℕ) → IsBeside v ss2 → IsObject (length v.heap) y → v.depth ≡ w.depth → To N (unwind p k false (H ∷ fs) v y) (unwind p' no_contracts false (at_place t ∷ fs') (beside ss2 v) y)
    throws_at t bel v ss2 y bes there e =
        Unwinding.reach_within p k ms g r (2 * cst + lay (suc (length fs))) _ _ _ (omega arith)
        (pair_unwinds p k ms g r (ThrowObject y) (PushObject (Obj y)) t H (at_place t) fs fs' refl refl (pair t) z.here bel z.under stands (unwinds p k ms g r h.continuation b' fs fs' z.under z.others) v ss2 y bes there (counts v e) (deeps v e))

    throws_so : (v : World) (ss2 : List Statics) (y : ℕ) → IsBeside v ss2 → IsObject (length v.heap) y → v.depth ≡ w.depth → To N (unwind p k false (H ∷ fs) v y) (unwind p' no_contracts false (T ∷ fs') (beside ss2 v) y)
    throws_so v ss2 y bes there e = throws_at ch.seam ch.belongs v ss2 y bes there e

    stops_so : (v : World) (ss2 : List Statics) → IsBeside v ss2 → To N (stuck v) (stuck (beside ss2 v))
    stops_so v ss2 bes = Arriving.stuck_both p k ms g r N v ss2 bes

    inside : IsTrue (Pairs.is_in h.at)
    inside = subst (λ a. IsTrue (Pairs.is_in a)) (sym z.at) refl

    module _ (kd : X.kind ≡ kind.RequiresOf) where
      seam : (y : ℕ) → Throws_here p k ms g r H ch.maker y
      seam y =
          let t = seam_throws p k ms g r h fs fs' w ex ss b' [] X o.holds o.rest ((mk h.method).behind gr j) ch inside kd y in
          record { belongs = t.belongs; in_group = t.in_group; next = record { thrower = (t.next).thrower; belongs = (t.next).belongs; throws = (t.next).throws } }

      -- the first run throws what was made, the other pushes it and then throws it
      throws_made : (v : World) (ss2 : List Statics) (y : ℕ) → IsBeside v ss2 → IsObject (length v.heap) y → v.depth ≡ w.depth → To N (unwind p k false (H ∷ fs) v y) (push_below p' no_contracts (Some (Obj y)) (M ∷ fs') (beside ss2 v))
      throws_made v ss2 y bes there e =
          Unwinding.reach_within p k ms g r (3 * cst + lay (suc (length fs))) _ _ _ (omega arith)
          (Returning.makes_throw p k ms g r y ch.maker H M fs fs' v ss2 (pair ch.maker) z.here (seam y) z.under stands z.others bes there (deeps v e) (counts v e))

      -- ---- outside

      by_value : (v : World) (ss2 : List Statics) (y : Value-F Value) → ((a : ℕ) → number_of_object y ≡ Some a → IsObject (length v.heap) a) → IsBeside v ss2 → v.depth ≡ w.depth → To N (throw_made p g k.settings.throwing X S1 v y) (throw_made p' g k.settings.throwing X S2 (beside ss2 v) y)
      by_value v ss2 (Value-F.Obj y) there bes e = throws_so v ss2 y bes (there y refl) e
      by_value v ss2 _ there bes e = stops_so v ss2 bes

      answers : (A A' : Answer) → AnswerThere A → Alike.BothAnswer p k ms g r Push Push 0 0 w.depth A A' → To N (after_new p g k.settings.throwing X S1 (with_frames (H ∷ fs) A)) (after_new p' g k.settings.throwing X S2 (with_frames fs' A'))
      answers (Returned v gs u) (Returned v' gs' u') is y =
          subst (λ a. To N (maybe (S1.stops u) (λ b. throw_made p g k.settings.throwing X S1 u (out-Value b)) v) (maybe (S2.stops u') (λ b. throw_made p' g k.settings.throwing X S2 u' (out-Value b)) a)) (sym y.0)
          (subst (λ a. To N (maybe (S1.stops u) (λ b. throw_made p g k.settings.throwing X S1 u (out-Value b)) v) (maybe (S2.stops a) (λ b. throw_made p' g k.settings.throwing X S2 a (out-Value b)) v)) (sym (y.1).world) (by_option v is))
        where
          by_option : (a : Option Value) → ((n : ℕ) → option_and_then (λ b. number_of_object (out-Value b)) a ≡ Some n → IsObject (length u.heap) n) → To N (maybe (S1.stops u) (λ b. throw_made p g k.settings.throwing X S1 u (out-Value b)) a) (maybe (S2.stops (beside (y.1).statics u)) (λ b. throw_made p' g k.settings.throwing X S2 (beside (y.1).statics u) (out-Value b)) a)
          by_option None there = stops_so u (y.1).statics (y.1).alike
          by_option (Some b) there = by_value u (y.1).statics (out-Value b) there (y.1).alike (y.1).depth
      answers (Threw e gs u) (Threw e' gs' u') is y =
          subst (λ a. To N (S1.throws u e) (S2.throws u' a)) (sym y.0) (subst (λ a. To N (S1.throws u e) (S2.throws a e)) (sym (y.1).world) (throws_so u (y.1).statics e (y.1).alike y.2 (y.1).depth))
      answers (Unfit u) (Unfit u') is y = subst (λ a. To N (S1.stops u) (S2.stops a)) (sym y.world) (stops_so u y.statics y.alike)
      answers (Returned v gs u) (Threw e' gs' u') is y = absurd y
      answers (Returned v gs u) (Unfit u') is y = absurd y
      answers (Threw e gs u) (Returned v' gs' u') is y = absurd y
      answers (Threw e gs u) (Unfit u') is y = absurd y
      answers (Unfit u) (Returned v' gs' u') is y = absurd y
      answers (Unfit u) (Threw e' gs' u') is y = absurd y

      made_outside : (t : Ty) (text : Value) (v : World) (ss2 : List Statics) → IsBeside v ss2 → v.depth ≡ w.depth → To N (throw_outside p g k.settings.throwing X S1 t text (H ∷ fs) v) (throw_outside p' g k.settings.throwing X S2 t text fs' (beside ss2 v))
      made_outside t text v ss2 bes e =
          subst (λ a. To N (throw_outside p g k.settings.throwing X S1 t text (H ∷ fs) v) (second a)) (sym (Calling.exception_same p k ms g r t)) (by_tests (is_core_exception p t) (is_named_type (out-Ty t)))
        where
          second : Bool → Next
          second a =
              if a then S2.throws (with_object p' (record { ty = t; cells = [] }) (beside ss2 v)) (next_object (beside ss2 v))
              else if is_named_type (out-Ty t) then after_new p' g k.settings.throwing X S2 (ask_new p' t (constructor_member p' g t) (text ∷ []) fs' (beside ss2 v))
              else S2.stops (beside ss2 v)

          asked : To N (after_new p g k.settings.throwing X S1 (ask_new p t (constructor_member p g t) (text ∷ []) (H ∷ fs) v)) (after_new p' g k.settings.throwing X S2 (ask_new p' t (constructor_member p' g t) (text ∷ []) fs' (beside ss2 v)))
          asked =
              subst (λ a. To N (after_new p g k.settings.throwing X S1 a) (after_new p' g k.settings.throwing X S2 (ask_new p' t (constructor_member p' g t) (text ∷ []) fs' (beside ss2 v)))) (sym (ask_new_frames p t (constructor_member p g t) (text ∷ []) (H ∷ fs) v string_plain))
              (subst (λ a. To N (after_new p g k.settings.throwing X S1 (with_frames (H ∷ fs) (ask_new p t (constructor_member p g t) (text ∷ []) [] v))) (after_new p' g k.settings.throwing X S2 a)) (sym (ask_new_frames p' t (constructor_member p g t) (text ∷ []) fs' (beside ss2 v) string_plain))
              (answers _ _ (ask_new_there p t (constructor_member p g t) (text ∷ []) [] v) (subst (λ d. Alike.BothAnswer p k ms g r Push Push 0 0 d (ask_new p t (constructor_member p g t) (text ∷ []) [] v) (ask_new p' t (constructor_member p g t) (text ∷ []) [] (beside ss2 v))) e (asks_alone t (constructor_member p g t) (text ∷ []) v ss2 bes string_plain))))

          by_tests : (a1 a2 : Bool)
              → To N (if a1 then S1.throws (with_object p (record { ty = t; cells = [] }) v) (next_object v) else if a2 then after_new p g k.settings.throwing X S1 (ask_new p t (constructor_member p g t) (text ∷ []) (H ∷ fs) v) else S1.stops v)
              (if a1 then S2.throws (with_object p' (record { ty = t; cells = [] }) (beside ss2 v)) (next_object (beside ss2 v)) else if a2 then after_new p' g k.settings.throwing X S2 (ask_new p' t (constructor_member p' g t) (text ∷ []) fs' (beside ss2 v)) else S2.stops (beside ss2 v))
          by_tests true a2 =
              subst (λ u. To N (S1.throws (with_object p (record { ty = t; cells = [] }) v) (next_object v)) (S2.throws u (next_object v))) (sym (with_object_same p ms (record { ty = t; cells = [] }) (beside ss2 v)))
              (throws_so (with_object p (record { ty = t; cells = [] }) v) ss2 (next_object v)
              (record { statics = bes.statics; depth = bes.depth; bare = bes.bare; failures = more_failures (length v.heap) (length (with_object p (record { ty = t; cells = [] }) v).heap) v.statics (longer v.heap (record { ty = t; cells = [] })) bes.failures }) (new_object_there v.heap (record { ty = t; cells = [] })) e)
          by_tests false true = asked
          by_tests false false = stops_so v ss2 bes

      -- ---- by a constructor of the set

      module _ (t : Ty) (d : ℕ × List Ty) (set : in_set (out-Ty t) ≡ Some d) (own : IsOwnClass p r.types r.methods t) (m : ℕ) (old : m < r.methods) (values : List Value) (plain : (vs : List Value) → by_ref_args (without_this (member_of p t m []).params) vs ≡ []) (v : World) (ss2 : List Statics) (bes : IsBeside v ss2) (e : v.depth ≡ w.depth) where
        abbrev C : Member
        C = record (member_of p t m []) { params = without_this (member_of p t m []).params }

        uses : (A A' : Answer) → AnswersObject A → AnswerThere A → Alike.BothAnswer p k ms g r Push Push 0 0 w.depth A A' → To N (use_answer p k (throws_new p k) (with_frames (H ∷ fs) A)) (use_answer p' no_contracts (pushes_new p' no_contracts) (with_frames (M ∷ fs') A'))
        unfolding Rattle.cil_model.specs.declared.value.Value.out-Value denote.Hole.Carrier.out
        uses (Returned a gs u) (Returned a' gs' u') is there y =
            subst (λ b. To N (maybe (stuck u) (λ v1. (throws_new p k).now v1 (H ∷ fs) u) b) (maybe (stuck u') (λ v1. push_below p' no_contracts (Some v1) (M ∷ fs') u') a')) (sym is.1)
            (subst (λ b. To N (unwind p k false (H ∷ fs) u is.0) (maybe (stuck u') (λ v1. push_below p' no_contracts (Some v1) (M ∷ fs') u') b)) (sym (y.0 ∙ is.1))
            (subst (λ b. To N (unwind p k false (H ∷ fs) u is.0) (push_below p' no_contracts (Some (Obj is.0)) (M ∷ fs') b)) (sym (y.1).world) (throws_made u (y.1).statics is.0 (y.1).alike (there is.0 (ap (option_and_then (λ b. number_of_object (out-Value b))) is.1)) (y.1).depth)))
        uses (Threw a gs u) (Threw a' gs' u') is there y =
            subst (λ b. To N (unwind p k false (H ∷ fs) u a) (unwind p' no_contracts false (M ∷ fs') u' b)) (sym y.0) (subst (λ b. To N (unwind p k false (H ∷ fs) u a) (unwind p' no_contracts false (M ∷ fs') b a)) (sym (y.1).world) (throws_at ch.maker ch.maker_belongs u (y.1).statics a (y.1).alike y.2 (y.1).depth))
        uses (Unfit u) (Unfit u') is there y = subst (λ b. To N (stuck u) (stuck b)) (sym y.world) (stops_so u y.statics y.alike)
        uses (Returned a gs u) (Threw a' gs' u') is there y = absurd y
        uses (Returned a gs u) (Unfit u') is there y = absurd y
        uses (Threw a gs u) (Returned a' gs' u') is there y = absurd y
        uses (Threw a gs u) (Unfit u') is there y = absurd y
        uses (Unfit u) (Returned a' gs' u') is there y = absurd y
        uses (Unfit u) (Threw a' gs' u') is there y = absurd y

        by_outside : To N (make_outside p k (throws_new p k) t m values (H ∷ fs) v) (make_outside p' no_contracts (pushes_new p' no_contracts) t m values (M ∷ fs') (beside ss2 v))
        by_outside =
            subst (λ a. To N (make_outside p k (throws_new p k) t m values (H ∷ fs) v) (use_answer p' no_contracts (pushes_new p' no_contracts) (ask_new p' t (record a { params = without_this a.params }) values (M ∷ fs') (beside ss2 v)))) (sym (Calling.member_same p k ms g r t m []))
            (subst (λ a. To N (use_answer p k (throws_new p k) a) (use_answer p' no_contracts (pushes_new p' no_contracts) (ask_new p' t C values (M ∷ fs') (beside ss2 v)))) (sym (ask_new_frames p t C values (H ∷ fs) v plain))
            (subst (λ a. To N (use_answer p k (throws_new p k) (with_frames (H ∷ fs) (ask_new p t C values [] v))) (use_answer p' no_contracts (pushes_new p' no_contracts) a)) (sym (ask_new_frames p' t C values (M ∷ fs') (beside ss2 v) plain))
            (uses _ _ (ask_new_object p t C values [] v _ (made_of_class p t d set own.reference)) (ask_new_there p t C values [] v) (subst (λ n. Alike.BothAnswer p k ms g r Push Push 0 0 n (ask_new p t C values [] v) (ask_new p' t C values [] (beside ss2 v))) e (asks_alone t C values v ss2 bes plain)))))

        -- E has an initializer: it runs before, and may throw
        by_own : To N (make_own p k (throws_new p k) t m values (H ∷ fs) v) (make_own p' no_contracts (pushes_new p' no_contracts) t m values (M ∷ fs') (beside ss2 v))
        by_own =
            Unwinding.reach_within p k ms g r (cst + lay (suc (suc (suc (length fs))))) _ _ _ (omega arith)
            (Making.makes_own_exception p k ms g r t m values (H ∷ fs) (M ∷ fs') v ss2 old own.below own.reference
            (Under.throws (next_object v) ch.maker H M fs fs' (pair ch.maker) z.here (seam (next_object v)) z.under) (stands, z.others) bes (deeps v e) (counts v e))

        made_own : makes_delegate p t m values ≡ false → makes_delegate p' t m values ≡ false → To N (make p k (throws_new p k) t m values (H ∷ fs) v) (make p' no_contracts (pushes_new p' no_contracts) t m values (M ∷ fs') (beside ss2 v))
        made_own n1 n2 =
            subst (λ a. To N a (make p' no_contracts (pushes_new p' no_contracts) t m values (M ∷ fs') (beside ss2 v))) (sym (made_by p k (throws_new p k) t m values (H ∷ fs) v n1 (no_core p t m d set)))
            (subst (λ a. To N first a) (sym (made_by p' no_contracts (pushes_new p' no_contracts) t m values (M ∷ fs') (beside ss2 v) n2 (no_core p' t m d set)))
            (subst (λ a. To N first (second a (is_some (method_of p' m).body))) (sym (Calling.outside_same p k ms g r m))
            (subst (λ a. To N first (second (is_outside p m) a)) (sym ((r.same_methods m).has_body)) (by_tests (is_outside p m) (is_some (method_of p m).body)))))
          where
            first : Next
            first = if is_outside p m then make_outside p k (throws_new p k) t m values (H ∷ fs) v else if is_some (method_of p m).body then make_own p k (throws_new p k) t m values (H ∷ fs) v else stuck v

            second : Bool → Bool → Next
            second a1 a2 = if a1 then make_outside p' no_contracts (pushes_new p' no_contracts) t m values (M ∷ fs') (beside ss2 v) else if a2 then make_own p' no_contracts (pushes_new p' no_contracts) t m values (M ∷ fs') (beside ss2 v) else stuck (beside ss2 v)

            by_tests : (a1 a2 : Bool) → To N (if a1 then make_outside p k (throws_new p k) t m values (H ∷ fs) v else if a2 then make_own p k (throws_new p k) t m values (H ∷ fs) v else stuck v) (second a1 a2)
            by_tests true a2 = by_outside
            by_tests false true = by_own
            by_tests false false = stops_so v ss2 bes

      made_here : (t : Ty) (d : ℕ × List Ty) → in_set (out-Ty t) ≡ Some d → IsOwnClass p r.types r.methods t → (text : Value) (v : World) (ss2 : List Statics) → IsBeside v ss2 → v.depth ≡ w.depth
          → To N (maybe (S1.stops v) (λ (a : ℕ × List Value). S1.makes v t a.0 a.1) (own_constructor p t X.home text)) (maybe (S2.stops (beside ss2 v)) (λ (a : ℕ × List Value). S2.makes (beside ss2 v) t a.0 a.1) (own_constructor p' t X.home text))
      made_here t d set own text v ss2 bes e =
          subst (λ a. To N (maybe (S1.stops v) (λ (y : ℕ × List Value). S1.makes v t y.0 y.1) (own_constructor p t X.home text)) (maybe (S2.stops (beside ss2 v)) (λ (y : ℕ × List Value). S2.makes (beside ss2 v) t y.0 y.1) a)) (sym (own_same t X.home text))
          (by_constructor (constructor_with p t X.home (string_ty ∷ [])) (constructor_with p t X.home []) refl refl)
        where
          by_constructor : (o1 o2 : Option ℕ) → constructor_with p t X.home (string_ty ∷ []) ≡ o1 → constructor_with p t X.home [] ≡ o2
              → To N (maybe (S1.stops v) (λ (a : ℕ × List Value). S1.makes v t a.0 a.1) (or_else (option_map (λ m. (m, text ∷ [])) o1) (option_map (λ m. (m, [])) o2))) (maybe (S2.stops (beside ss2 v)) (λ (a : ℕ × List Value). S2.makes (beside ss2 v) t a.0 a.1) (or_else (option_map (λ m. (m, text ∷ [])) o1) (option_map (λ m. (m, [])) o2)))
          by_constructor (Some m) o2 e1 e2 =
              let f = found_each (λ y. y < r.methods) (tests p X.home (string_ty ∷ [])) (methods_of p t) m own.members e1 in
              made_own t d set own m f.0 (text ∷ []) (text_plain p t m (both_true _ _ _ f.1)) v ss2 bes e refl refl
          by_constructor None (Some m) e1 e2 =
              let f = found_each (λ y. y < r.methods) (tests p X.home []) (methods_of p t) m own.members e2 in
              made_own t d set own m f.0 [] (bare_plain p t m (both_true _ _ _ f.1)) v ss2 bes e refl refl
          by_constructor None None e1 e2 = stops_so v ss2 bes

    pub makes_alike : Failing.MakesAlike p k ms g r X S1 S2 (H ∷ fs) fs' N w.depth
    makes_alike v ss2 ty text kd mt bes e = by_set (in_set (out-Ty ty)) refl
      where
        by_set : (a : Option (ℕ × List Ty)) → in_set (out-Ty ty) ≡ a
            → To N (maybe (throw_outside p g k.settings.throwing X S1 ty text (H ∷ fs) v) (λ (d : ℕ × List Ty). maybe (S1.stops v) (λ (y : ℕ × List Value). S1.makes v ty y.0 y.1) (own_constructor p ty X.home text)) a)
            (maybe (throw_outside p' g k.settings.throwing X S2 ty text fs' (beside ss2 v)) (λ (d : ℕ × List Ty). maybe (S2.stops (beside ss2 v)) (λ (y : ℕ × List Value). S2.makes (beside ss2 v) ty y.0 y.1) (own_constructor p' ty X.home text)) a)
        by_set None s = made_outside kd ty text v ss2 bes e
        by_set (Some d) s = made_here kd ty d s (r.exceptions h.method c gr j x (here_of h fs) ty d (z.stands).old refl z.plan z.piece kd (made_is X ty mt) s).0 text v ss2 bes e

    pub clause_done : Unwinding.An p k ms g r (failure_cost k p + N) (check p k g X o.holds (H ∷ fs) w (λ v. piece_over p k c gr j (with_local L h) fs v)) (from_here p k p' g r.types r.depths (mk h.method) h ex b' fs' w ss [])
    clause_done = Clausing.condition_ends p k ms g r c gr j q x h ex b' fs fs' w ss o z ch makes_alike
