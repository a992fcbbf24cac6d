-- newobj: a delegate, a core exception, what an outside constructor makes, an object, or a struct.
use Rattle.std.proofs.Common.{◌≡◌, ℕ, ◌<◌, List, [], ◌∷◌, length, Option, Some, None, refl, sym, ap, ◌∙◌, subst, inl}
use Rattle.std.specs.Prelude.{Bool, true, false, ◌&&◌, if◌then◌else◌, is_some, map, option_map}
use Rattle.cil_model.specs.declared.ty.Ty.{Ty, Prim}
use Rattle.cil_model.specs.declared.value.Value.{Value, out-Value, Obj}
use Rattle.cil_model.specs.declared.contract.Contracts.{Contracts}
use Rattle.cil_model.specs.declared.program.Program.{Program}
use Rattle.cil_model.specs.declared.program.MethodDesc.{MethodDesc}
use Rattle.cil_semantics.specs.Words.{maybe}
use Rattle.cil_semantics.specs.Types.{same_tys}
use Rattle.cil_semantics.specs.Core.{object_ty}
use Rattle.cil_semantics.specs.Lookups.{method_of}
use Rattle.cil_semantics.specs.declared.state.Cell.{Cell}
use Rattle.cil_semantics.specs.declared.state.World.{World}
use Rattle.cil_semantics.specs.declared.state.Frame.{Frame}
use Rattle.cil_semantics.specs.declared.state.Continuation.{Continuation}
use Rattle.cil_semantics.specs.State.{Next, next_object, with_object}
use Rattle.cil_semantics.specs.Places.{storage, is_reference, default_cells, layout}
use Rattle.cil_semantics.specs.Unwind.{unwind}
use Rattle.cil_semantics.specs.Frames.{if_there, stuck, enter, enter_struct}
use Rattle.cil_semantics.specs.Outside.{Answer, Returned, Threw, Unfit, Member, ask_new, member_of, is_outside}
use Rattle.cil_semantics.specs.Calls.{CoreMember, Constructor, Equality, Concatenation, TextLength, IsNullOrEmpty, Quantifier, NotCore, core_of, Use, pushes_new, use_answer, may_be_delegate, is_function, makes_delegate, delegate_cells, new_object, make_core, make_own, without_this, make_outside, make}
use Rattle.cil_semantics.specs.Checks.{AddedNumbers, number_of_object, throws_new}
use Rattle.machine_laws.specs.Answers.{IsOld}
use Rattle.splice_facts.specs.Related.{Rewritten, bounds}
use Rattle.splice_facts.specs.WellFormed.{WellFormedValues}
use Rattle.grown_runs.specs.Grown.{GrowsAround}
use Rattle.grown_runs.specs.Looks.{LooksAlike}
use Rattle.grown_runs.proofs.AlikeLaws.{HeldWorld, Alike, ends, there, perhaps, choose, given}
use Rattle.grown_runs.proofs.MoveLaws.{OwnFrames, with_new, unwinds}
use Rattle.grown_runs.proofs.EnterLaws.{enters, enters_struct}
use Rattle.grown_runs.proofs.ReturnLaws.{pushes}
use Rattle.grown_runs.proofs.OutsideLaws.{owns, AnswerOk, Answers, fields_same, member_same, asks_new}
use Rattle.grown_runs.proofs.CallLaws.{may_same}

module _ (p0 p : Program) (k : Contracts) (ms : List MethodDesc) (g : AddedNumbers) (r : Rewritten p k ms g) (h : GrowsAround p0 p k g.exception) (l : LooksAlike p0 p g.exception) (ty : r.types ≡ length p0.types) (me : r.methods ≡ length p0.methods) where
  abbrev A : (Program → Next) → Type 0
  A F = Alike p0 p g.exception F

  abbrev Held : World → Type 0
  Held w = HeldWorld p0 g.exception w

  -- what happens with a new one, in both programs
  pub record UseAlike (u : Program → Use) : Type 0 where
    pub now : (v : Value) (fs : List Frame) (w : World) → OwnFrames p0 fs → HeldWorld p0 g.exception w → Alike p0 p g.exception (λ q. (u q).now v fs w)
    pub later : (v : Value) → (u p).later v ≡ (u p0).later v

  pub pushed_alike : UseAlike (λ q. pushes_new q k)
  pushed_alike = record { now = λ v fs w own held. pushes p0 p k g.exception h l (owns p0 p k ms g r h l ty me) (Some v) fs w own held; later = λ v. refl }

  pub thrown_alike : UseAlike (λ q. throws_new q k)
  thrown_alike =
      record {
        now = λ v fs w own held. there p0 p g.exception w (λ q. number_of_object (out-Value v)) (λ q x. unwind q k false fs w x) refl (λ x c. unwinds p0 p k g.exception h l false fs w x own held);
        later = λ v. refl;
      }

  makes_same : (t : Ty) (m : ℕ) (values : List Value) → IsOld p0 t → m < length p0.methods → makes_delegate p t m values ≡ makes_delegate p0 t m values
  makes_same t m [] old own = refl
  makes_same t m (x ∷ []) old own = refl
  makes_same t m (target ∷ f ∷ []) old own =
      ap (λ (b : Bool). b && (same_tys (method_of p m).params (object_ty ∷ Prim 0x18 ∷ []) && is_function (out-Value f))) (may_same p0 p k ms g r h l ty me t m [] old own)
      ∙ ap (λ (ts : List Ty). may_be_delegate p0 t && (same_tys ts (object_ty ∷ Prim 0x18 ∷ []) && is_function (out-Value f))) (h.tables.extends.methods m own).params
  makes_same t m (x ∷ y ∷ z ∷ vs) old own = refl

  module _ (u : Program → Use) (ua : UseAlike u) where
    news : (x : CoreMember) (t : Ty) (fs : List Frame) (w : World) (other : Program → Next) → IsOld p0 t → OwnFrames p0 fs → Held w → A other → A (λ q. make_core q k (u q) x t fs w (other q))
    news Constructor t fs w other old own held a =
        with_new p0 p k g.exception h l (new_object t []) w (λ q v. (u q).now (Obj (next_object w)) fs v) (inl old) held (λ v same okay. ua.now (Obj (next_object w)) fs v own okay)
    news (Equality b) t fs w other old own held a = a
    news Concatenation t fs w other old own held a = a
    news TextLength t fs w other old own held a = a
    news IsNullOrEmpty t fs w other old own held a = a
    news (Quantifier b) t fs w other old own held a = a
    news NotCore t fs w other old own held a = a

    owned : (t : Ty) (m : ℕ) (values : List Value) (fs : List Frame) (w : World) → IsOld p0 t → m < length p0.methods → OwnFrames p0 fs → Held w → A (λ q. make_own q k (u q) t m values fs w)
    owned t m values fs w old own others held =
        choose p0 p g.exception (λ q. is_reference (storage q t)) (λ q. enter q k t m [] (Obj (next_object w) ∷ values) ((u q).later (Obj (next_object w))) fs (with_object q (new_object t (default_cells q (map (λ (x : ℕ × Ty). x.1) (layout q t)))) w)) (λ q. enter_struct q k t m [] values fs w) (ap is_reference (l.storages t))
        (λ c. given p0 p g.exception (λ q. default_cells q (map (λ (x : ℕ × Ty). x.1) (layout q t))) (λ q cs. enter q k t m [] (Obj (next_object w) ∷ values) ((u q).later (Obj (next_object w))) fs (with_object q (new_object t cs) w)) (fields_same p0 p k ms g r h l ty me t old)
        (with_new p0 p k g.exception h l (new_object t (default_cells p (map (λ (x : ℕ × Ty). x.1) (layout p t)))) w (λ q v. enter q k t m [] (Obj (next_object w) ∷ values) ((u q).later (Obj (next_object w))) fs v) (inl old) held
        (λ v same okay. given p0 p g.exception (λ q. (u q).later (Obj (next_object w))) (λ q b. enter q k t m [] (Obj (next_object w) ∷ values) b fs v) (ua.later (Obj (next_object w)))
        (enters p0 p k g.exception h l (owns p0 p k ms g r h l ty me) t m [] (Obj (next_object w) ∷ values) ((u p).later (Obj (next_object w))) fs v old own others okay))))
        (λ c. enters_struct p0 p k g.exception h l (owns p0 p k ms g r h l ty me) t m [] values fs w old own others held)

    used : (F : Program → Answer) → Answers p0 p k ms g r h l ty me F → A (λ q. use_answer q k (u q) (F q))
    used F a = given p0 p g.exception F (λ q x. use_answer q k (u q) x) a.0 (by_answer (F p) a.1)
      where
        by_answer : (x : Answer) → AnswerOk p0 p k ms g r h l ty me x → A (λ q. use_answer q k (u q) x)
        by_answer (Returned v fs w) ok = perhaps p0 p g.exception (λ q. v) (λ q. stuck w) (λ q x. (u q).now x fs w) refl (λ c. ends p0 p g.exception w) (λ x c. ua.now x fs w ok.0 ok.1)
        by_answer (Threw x fs w) ok = unwinds p0 p k g.exception h l false fs w x ok.0 ok.1
        by_answer (Unfit w) ok = ends p0 p g.exception w

    outside : (t : Ty) (m : ℕ) (values : List Value) (fs : List Frame) (w : World) → IsOld p0 t → m < length p0.methods → WellFormedValues (bounds p k ms g r) values → OwnFrames p0 fs → Held w → A (λ q. make_outside q k (u q) t m values fs w)
    outside t m values fs w old own fine others held =
        given p0 p g.exception (λ q. member_of q t m []) (λ q (x : Member). use_answer q k (u q) (ask_new q t (record x { params = without_this x.params }) values fs w)) (member_same p0 p k ms g r h l ty me t m [] old own)
        (used (λ q. ask_new q t (record (member_of p t m []) { params = without_this (member_of p t m []).params }) values fs w) (asks_new p0 p k ms g r h l ty me t (record (member_of p t m []) { params = without_this (member_of p t m []).params }) values fs w old fine others held))

    pub makes : (t : Ty) (m : ℕ) (values : List Value) (fs : List Frame) (w : World) → IsOld p0 t → m < length p0.methods → WellFormedValues (bounds p k ms g r) values → OwnFrames p0 fs → Held w → A (λ q. make q k (u q) t m values fs w)
    unfolding make
    makes t m values fs w old own fine others held =
        choose p0 p g.exception (λ q. makes_delegate q t m values) (λ q. (u q).now (Obj (next_object w)) fs (with_object q (new_object t (delegate_cells values)) w))
        (λ q. make_core q k (u q) (core_of q t m) t fs w (if is_outside q m then make_outside q k (u q) t m values fs w else if is_some (method_of q m).body then make_own q k (u q) t m values fs w else stuck w)) (makes_same t m values old own)
        (λ c. with_new p0 p k g.exception h l (new_object t (delegate_cells values)) w (λ q v. (u q).now (Obj (next_object w)) fs v) (inl old) held (λ v same okay. ua.now (Obj (next_object w)) fs v others okay))
        (λ c. given p0 p g.exception (λ q. core_of q t m) (λ q x. make_core q k (u q) x t fs w (if is_outside q m then make_outside q k (u q) t m values fs w else if is_some (method_of q m).body then make_own q k (u q) t m values fs w else stuck w)) (l.cores t m own old)
        (news (core_of p t m) t fs w (λ q. if is_outside q m then make_outside q k (u q) t m values fs w else if is_some (method_of q m).body then make_own q k (u q) t m values fs w else stuck w) old others held
        (choose p0 p g.exception (λ q. is_outside q m) (λ q. make_outside q k (u q) t m values fs w) (λ q. if is_some (method_of q m).body then make_own q k (u q) t m values fs w else stuck w) (l.outside m own)
        (λ a. outside t m values fs w old own fine others held)
        (λ a. choose p0 p g.exception (λ q. is_some (method_of q m).body) (λ q. make_own q k (u q) t m values fs w) (λ q. stuck w) (h.tables.extends.methods m own).has_body (λ b. owned t m values fs w old own others held) (λ b. ends p0 p g.exception w)))))
