-- The end of a Requires<E> clause stores, tests and reports, and makes and throws its exception.
use Rattle.std.proofs.Common.{◌≡◌, ℕ, suc, ◌+◌, ◌<◌, ◌≤◌, Bool, true, false, List, [], ◌∷◌, length, Option, Some, None, refl, sym, ap, ◌∙◌, subst, arith}
use Rattle.std.specs.Prelude.{slice_get, slice_set, option_map, option_and_then, if◌then◌else◌, nat_le, take, drop, reverse, IsTrue, pos}
use Rattle.cil_base.specs.declared.token.Token.{Token}
use Rattle.cil_model.specs.declared.ty.Ty.{Ty, out-Ty}
use Rattle.cil_model.specs.declared.value.Value.{Value, out-Value, Null, Obj, Text}
use Rattle.cil_model.specs.declared.value.Value as values
use Rattle.cil_model.specs.declared.body.Instr.{Instr}
use Rattle.cil_model.specs.declared.contract.ClauseKind.TheVariants as kind
use Rattle.cil_model.specs.declared.contract.Contracts.{Contracts}
use Rattle.cil_model.specs.declared.contract.Group.{Group}
use Rattle.cil_model.specs.declared.program.Program.{Program}
use Rattle.cil_model.specs.declared.program.Meaning.TheVariants.{OfMethod}
use Rattle.cil_model.specs.Texts.{text_units}
use Rattle.cil_model.specs.NoContracts.{no_contracts}
use Rattle.cil_semantics.specs.Words.{maybe}
use Rattle.cil_semantics.specs.Core.{string_ty}
use Rattle.cil_semantics.specs.Lookups.{in_set}
use Rattle.cil_semantics.specs.declared.state.Cell.{Cell}
use Rattle.il_opcodes.specs.declared.class.Bits.TheVariants.{B8}
use Rattle.il_opcodes.specs.declared.class.Storage.TheVariants.{Truncated, Reference}
use Rattle.il_opcodes.specs.Opcodes.{class_of, opcode_of, the_opcodes}
use Rattle.cil_semantics.specs.Places.{stored}
use Rattle.cil_semantics.specs.declared.state.Local.{Local as LocalState}
use Rattle.cil_semantics.specs.declared.state.World.{World}
use Rattle.cil_semantics.specs.declared.state.Statics.{Statics}
use Rattle.cil_semantics.specs.declared.state.ProgramPoint.TheVariants.{InGroup, Rest}
use Rattle.cil_semantics.specs.declared.state.Frame.{Frame}
use Rattle.cil_semantics.specs.declared.state.Continuation.{Continuation}
use Rattle.cil_semantics.specs.State.{Next, unrecorded, goes_after, with_stack, pushed, with_object, next_object}
use Rattle.cil_semantics.specs.Tokens.{Here, meaning_here, nests_little}
use Rattle.cil_semantics.specs.Acts as Acts
use Rattle.cil_semantics.specs.Acts.{truth, arity, method_in, taken, Throw}
use Rattle.cil_semantics.specs.Instructions.{act, act_of_class}
use Rattle.cil_semantics.specs.Contracted.{Piece, Plan}
use Rattle.cil_semantics.specs.Unwind.{body_of, here_of, goes_at, unwind, land, Found, NoHandler, CatchHandler, CleanupHandler, search_from, fits_type, caught_type, no_handler_left}
use Rattle.cil_semantics.specs.Frames.{stuck}
use Rattle.cil_semantics.specs.Outside.{Answer, Returned, Threw, Unfit}
use Rattle.cil_semantics.specs.Calls.{Constructor, core_of, make, make_core, make_own, make_outside, pushes_new}
use Rattle.cil_semantics.specs.ContractCalls.{has_message}
use Rattle.cil_semantics.specs.Checks.{AddedNumbers, Failure, Condition, condition_in, condition_from, bool_in, kind_number, label_text, number_value, Sequel, failing, reported, replied, fail_with, throw_exception, throw_outside, made_type}
use Rattle.machine_laws.specs.Same.{most_clauses, plain_step}
use Rattle.splice_facts.specs.Comes.{Comes, Goes}
use Rattle.splice_facts.specs.Grown.{grow, beside}
use Rattle.splice_facts.specs.Layout.{Depths, Marks, Keeps, IsHere}
use Rattle.splice_facts.specs.Spliced.{Paired, Throws_next, checking, twin, from_here, clause_failure, failure_cost, cost, Checked}
use Rattle.splice_laws.specs.Straight.{ldc, ldloc, stloc, ldnull, ldstr, dup, pop, brtrue, brfalse, call, newobj, throw, frame_at, at_place, StandAt, Does, Acts_so}
use Rattle.splice_laws.specs.HelperRuns.{HelpersRun}
use Rattle.splice_laws.specs.EntryCode.{GroupFrame, stores, bool_ty}
use Rattle.splice_laws.specs.Fails.{FitsFail}
use Rattle.splice_facts.proofs.ComesLaws.{no_plan, comes_at_once, comes_on, comes_within, arrives_plain, moves_behind, moves_within}
use Rattle.splice_laws.proofs.StraightLaws.{one_step, goes_one, jumps_one, steps_by, arrives_at, world_back, does_ldc, does_ldnull, does_ldloc, does_dup, does_pop, does_ldstr, tests_brtrue, tests_brfalse, acts_throw, called, first_step}
use Rattle.splice_laws.proofs.SeamLocalLaws.{get_set_same, get_set_other, CellOf, cell_of, keeps_set}
use Rattle.splice_laws.proofs.LeavingLaws.{unwind_told}
use Rattle.splice_laws.proofs.AskLaws.{Refers, RefersTo}
use Rattle.splice_laws.proofs.CheckLaws.{cut_truth, stored_twice, null_stored, bool_holds, string_holds, typed_cell, text_here, base, at_me, seam_get, seam_store}
use Rattle.splice_laws.proofs.StuckCheckLaws.{stuck_at}
use Rattle.requires_laws.specs.ReportCode.{asked, on_reply}
use Rattle.requires_laws.specs.MadeCode.{makes_code, made_code, MadeAt, MadeCode, MadeSeams}
use Rattle.requires_laws.proofs.ReportLaws.{reply_refers}

null_falls : truth Null ≡ Some false
unfolding values.out-Value denote.Hole.Carrier.out
null_falls = refl

object_holds : (k : ℕ) → truth (Obj k) ≡ Some true
unfolding values.out-Value denote.Hole.Carrier.out
object_holds k = refl

text_holds : (u : List ℕ) → truth (Text u) ≡ Some true
unfolding values.out-Value denote.Hole.Carrier.out
text_holds u = refl

-- from where the exception comes, by what is answered to the call at a place
abbrev seam_after : ℕ → Answer → ℕ
seam_after C (Threw y gs u) = C
seam_after C _ = C + 1 + 1 + 1 + 1

module _ (p : Program) where
  -- an exception drops what lies on the stack
  stack_unread : (f : Frame) (l : LocalState) (s t : List Value) (q x : ℕ) (fs : List Frame) (w : World) → unwind p no_contracts false (frame_at f (with_stack l s) q [] ∷ fs) w x ≡ unwind p no_contracts false (frame_at f (with_stack l t) q [] ∷ fs) w x
  unfolding unwind
  stack_unread f l s t q x fs w = by_found (search_from (λ token. fits_type p w x (caught_type p f token)) 0 0 q (body_of p f.method).regions)
    where
      by_found : (o : Found) → land p no_contracts o (frame_at f (with_stack l s) q []) [] q fs w x (λ z u y. unwind p no_contracts z fs u y) ≡ land p no_contracts o (frame_at f (with_stack l t) q []) [] q fs w x (λ z u y. unwind p no_contracts z fs u y)
      by_found (CatchHandler i u) = refl
      by_found (CleanupHandler i u) = refl
      by_found NoHandler =
          ap (λ o. no_handler_left p o (frame_at f (with_stack l s) q []) (Rest q) fs w x (λ z u y. unwind p no_contracts z fs u y)) (no_plan p f.method)
          ∙ sym (ap (λ o. no_handler_left p o (frame_at f (with_stack l t) q []) (Rest q) fs w x (λ z u y. unwind p no_contracts z fs u y)) (no_plan p f.method))

  -- newobj of a core exception, with its text
  acts_newobj : (here : Here) (a : ℕ) (tk : Token) (t : Ty) (c : ℕ) (v : Value) (rest : List Value) (l : LocalState) → meaning_here p here (newobj a tk) ≡ Some (OfMethod t c []) → arity p c ≡ 1
      → Acts_so p here (newobj a tk) (with_stack l (v ∷ rest)) (λ w. Acts.NewObject (called p here t c [] (v ∷ [])) (with_stack l rest))
  unfolding act act_of_class class_of opcode_of the_opcodes
  acts_newobj here a tk t c v rest l e one w =
      ap (λ o. taken p (newobj a tk) here (arity p (method_in o)) o (with_stack l (v ∷ rest)) Acts.NewObject) e
      ∙ ap (λ j. taken p (newobj a tk) here j (Some (OfMethod t c [])) (with_stack l (v ∷ rest)) Acts.NewObject) one
      ∙ ap (λ b. if b then Acts.NewObject (called p here t c [] (v ∷ [])) (with_stack l rest) else Acts.Stuck) (one_there (length rest))
    where
      one_there : (j : ℕ) → nat_le 1 (suc j) ≡ true
      one_there j = grind arith

  makes_core : (f : Frame) (l : LocalState) (q : ℕ) (fs : List Frame) (w : World) (t : Ty) (c : ℕ) (v : Value) → core_of p t c ≡ Constructor
      → goes_after w.trace (make p no_contracts (pushes_new p no_contracts) t c (v ∷ []) (frame_at f l q [] ∷ fs) (unrecorded w)) ≡ at_place f (pushed (Obj (next_object w)) l) (q + 1) [] fs (with_object p (record { ty = t; cells = [] }) w)
  unfolding make
  makes_core f l q fs w t c v e =
      ap (λ o. goes_after w.trace (make_core p no_contracts (pushes_new p no_contracts) o t (frame_at f l q [] ∷ fs) (unrecorded w) other)) e
      ∙ arrives_at p (frame_at f l q []) (pushed (Obj (next_object w)) l) (q + 1) [] fs (with_object p (record { ty = t; cells = [] }) w) refl
    where
      other : Next
      other =
          if Rattle.cil_semantics.specs.Outside.is_outside p c then make_outside p no_contracts (pushes_new p no_contracts) t c (v ∷ []) (frame_at f l q [] ∷ fs) (unrecorded w)
          else if Rattle.std.specs.Prelude.is_some (Rattle.cil_semantics.specs.Lookups.method_of p c).body then make_own p no_contracts (pushes_new p no_contracts) t c (v ∷ []) (frame_at f l q [] ∷ fs) (unrecorded w)
          else stuck (unrecorded w)

  -- throw
  throws_now : (f : Frame) (l : LocalState) (rest : List Value) (q x : ℕ) (fs : List Frame) (w : World) → slice_get (body_of p f.method).instrs q ≡ Some throw
      → plain_step p (record { frames = frame_at f (with_stack l (Obj x ∷ rest)) q [] ∷ fs; world = w }) ≡ unwind p no_contracts false (frame_at f (with_stack l (Obj x ∷ rest)) q [] ∷ fs) w x
  throws_now f l rest q x fs w there =
      steps_by p f (with_stack l (Obj x ∷ rest)) q [] fs w throw (λ z. Throw x) there (acts_throw p (here_of f fs) x rest l)
      ∙ unwind_told p w.trace false (frame_at f (with_stack l (Obj x ∷ rest)) q [] ∷ fs) (unrecorded w) x
      ∙ ap (λ u. unwind p no_contracts false (frame_at f (with_stack l (Obj x ∷ rest)) q [] ∷ fs) u x) (world_back w)

module _ (p : Program) (k : Contracts) (p' : Program) (g : AddedNumbers) (n : ℕ) (depths : Depths n g) (r : HelpersRun p' g k.settings.throwing depths.owner k.settings.guard) (me : ℕ) (plan : Plan) (m : Marks) (gr : Group) (e : GroupFrame p p' g k.settings.throwing depths.owner k.settings.guard r me plan m gr) (code : MadeCode p k p' g n depths r me plan m gr e) (many : 1 ≤ most_clauses k p 0 p.methods) where
  abbrev the_base : Frame → Continuation → Frame
  the_base f b = base p k p' g n depths r me m e.reporting f b

  -- ---- behind the test: reported, made and thrown

  module _ (f : Frame) (fs fs' : List Frame) (w : World) (b : Continuation) (a : f.method ≡ me) (j q : ℕ) (x : Piece) (i : Instr) (z : MadeAt p k p' g n depths r me plan m gr e code.report_token j q x i) (of_e : x.clause.kind ≡ kind.RequiresOf) (uv : Value) (ref : stored Reference uv ≡ Some uv) (fit : FitsFail g depths.owner w)
      (after : List Cell) (rest : List Value) (C : ℕ) (there : StandAt (body_of p' me).instrs C (call r.assembly code.report_token ∷ dup ∷ brfalse z.pops ∷ newobj r.assembly z.ctor ∷ throw ∷ pop ∷ [])) (last : z.pops ≡ C + 5) where
    abbrev F : Frame
    F = the_base f b

    abbrev L : LocalState
    L = grow after f.local

    abbrev here : Here
    here = here_of F fs'

    abbrev X : Failure
    X = clause_failure p k p' g n depths f fs x uv

    abbrev on : ℕ
    on = m.behind gr j

    at_mine : (t : ℕ) (i1 : Instr) → slice_get (body_of p' me).instrs t ≡ Some i1 → slice_get (body_of p' f.method).instrs t ≡ Some i1
    at_mine t i1 h = at_me p k p' g n depths r me m e.reporting F t i1 a h

    abbrev five : ℕ
    five = C + 1 + 1 + 1 + 1 + 1

    pops_at : z.pops ≡ five
    pops_at = last ∙ five_more C
      where
        five_more : (t : ℕ) → t + 5 ≡ t + 1 + 1 + 1 + 1 + 1
        five_more t = omega arith

    abbrev sequel : ℕ → Sequel
    sequel seam =
        record {
          passes = λ v. goes_at p' F (Rest on) (with_stack L rest) [] fs' v;
          throws = λ v y. unwind p' no_contracts false (frame_at F (with_stack L rest) seam [] ∷ fs') v y;
          makes = λ v ty c values. make p' no_contracts (pushes_new p' no_contracts) ty c values (frame_at F (with_stack L rest) (C + 1 + 1 + 1) [] ∷ fs') v;
          stops = λ v. stuck v;
        }

    abbrev MK : ℕ
    MK = C + 1 + 1 + 1

    abbrev TH : ℕ
    TH = C + 1 + 1 + 1 + 1

    same_ref : stored Reference X.user ≡ Some X.user
    same_ref = ref

    -- a reply that isn't null makes E and throws it
    thrown_so : (v : Value) (u : World) → fail_with p' g k.settings.throwing X (sequel TH) X.kind v fs' u ≡ unwind p' no_contracts false (frame_at F (with_stack L rest) TH [] ∷ fs') (with_object p' (record { ty = z.ty; cells = [] }) u) (next_object u)
    thrown_so v u =
        ap (λ kd. fail_with p' g k.settings.throwing X (sequel TH) kd v fs' u) of_e
        ∙ ap (λ o. maybe (stuck u) (λ t. throw_exception p' g k.settings.throwing X (sequel TH) t v fs' u) (option_and_then (λ t. if nests_little t then Some t else None) o)) (z.exception (here_of f fs) a)
        ∙ ap (λ t. maybe (stuck u) (λ y. throw_exception p' g k.settings.throwing X (sequel TH) y v fs' u) (if t then Some z.ty else None)) z.little
        ∙ ap (maybe (throw_outside p' g k.settings.throwing X (sequel TH) z.ty v fs' u) (λ (d : ℕ × List Ty). maybe (stuck u) (λ (c : ℕ × List Value). (sequel TH).makes u z.ty c.0 c.1) (Rattle.cil_semantics.specs.Checks.own_constructor p' z.ty X.home v))) z.outside
        ∙ ap (λ t. if t then unwind p' no_contracts false (frame_at F (with_stack L rest) TH [] ∷ fs') (with_object p' (record { ty = z.ty; cells = [] }) u) (next_object u) else other) z.core
      where
        other : Next
        other =
            if Rattle.cil_semantics.specs.Checks.is_named_type (out-Ty z.ty) then Rattle.cil_semantics.specs.Checks.after_new p' g k.settings.throwing X (sequel TH) (Rattle.cil_semantics.specs.Outside.ask_new p' z.ty (Rattle.cil_semantics.specs.Checks.constructor_member p' g z.ty) (v ∷ []) fs' u)
            else stuck u

    makes_it : (v : Value) (u : World) → truth v ≡ Some true → Comes p' 4 (at_place F (with_stack L (v ∷ rest)) (C + 1) [] fs' u) (fail_with p' g k.settings.throwing X (sequel TH) X.kind v fs' u)
    makes_it v u holds =
        let U : World = with_object p' (record { ty = z.ty; cells = [] }) u in
        let N : ℕ = next_object u in
        subst (λ y. Comes p' 4 (at_place F (with_stack L (v ∷ rest)) (C + 1) [] fs' u) y) (sym (thrown_so v u))
        (one_step p' F (with_stack L (v ∷ rest)) (C + 1) [] fs' u 3 _ _ (goes_one p' F (with_stack L (v ∷ rest)) (with_stack L (v ∷ v ∷ rest)) (C + 1) [] fs' u dup (at_mine (C + 1) _ (there.1).0) (does_dup p' here v rest L) refl)
        (one_step p' F (with_stack L (v ∷ v ∷ rest)) (C + 1 + 1) [] fs' u 2 _ _ (goes_one p' F (with_stack L (v ∷ v ∷ rest)) (with_stack L (v ∷ rest)) (C + 1 + 1) [] fs' u (brfalse z.pops) (at_mine (C + 1 + 1) _ ((there.1).1).0) (tests_brfalse p' here z.pops v (v ∷ rest) L true holds) refl)
        (one_step p' F (with_stack L (v ∷ rest)) MK [] fs' u 1 _ _
        (steps_by p' F (with_stack L (v ∷ rest)) MK [] fs' u (newobj r.assembly z.ctor) (λ y. Acts.NewObject (called p' here z.ty z.method [] (v ∷ [])) (with_stack L rest)) (at_mine MK _ (((there.1).1).1).0) (acts_newobj p' here r.assembly z.ctor z.ty z.method v rest L (z.ctor_token here a) z.takes)
        ∙ makes_core p' F (with_stack L rest) MK fs' u z.ty z.method v z.ctor_core)
        (one_step p' F (with_stack L (Obj N ∷ rest)) TH [] fs' U 0 _ _ (throws_now p' F L rest TH N fs' U (at_mine TH _ ((((there.1).1).1).1).0))
        (comes_at_once p' 0 _ _ (stack_unread p' F L (Obj N ∷ rest) rest TH N fs' U))))))

    goes_by : (u : World) → m.behind gr j ≡ z.pops + 1 → Comes p' 4 (at_place F (with_stack L (Null ∷ rest)) (C + 1) [] fs' u) ((sequel TH).passes u)
    goes_by u lst =
        comes_within p' 3 4 _ _ (omega arith)
        (one_step p' F (with_stack L (Null ∷ rest)) (C + 1) [] fs' u 2 _ _ (goes_one p' F (with_stack L (Null ∷ rest)) (with_stack L (Null ∷ Null ∷ rest)) (C + 1) [] fs' u dup (at_mine (C + 1) _ (there.1).0) (does_dup p' here Null rest L) refl)
        (one_step p' F (with_stack L (Null ∷ Null ∷ rest)) (C + 1 + 1) [] fs' u 1 _ _ (jumps_one p' F (with_stack L (Null ∷ Null ∷ rest)) (with_stack L (Null ∷ rest)) (C + 1 + 1) z.pops [] fs' u (brfalse z.pops) (at_mine (C + 1 + 1) _ ((there.1).1).0) (tests_brfalse p' here z.pops Null (Null ∷ rest) L false null_falls) refl)
        (one_step p' F (with_stack L (Null ∷ rest)) z.pops [] fs' u 0 _ _ (goes_one p' F (with_stack L (Null ∷ rest)) (with_stack L rest) z.pops [] fs' u pop (at_mine z.pops _ (ap (slice_get (body_of p' me).instrs) pops_at ∙ (((((there.1).1).1).1).1).0)) (does_pop p' here Null rest L) refl)
        (comes_at_once p' 0 _ _ (ap (λ t. at_place F (with_stack L rest) t [] fs' u) (sym lst))))))

    replied_so : (v : Value) (u : World) → Refers (out-Value v) → Comes p' 4 (at_place F (with_stack L (v ∷ rest)) (C + 1) [] fs' u) (replied p' g k.settings.throwing X (sequel TH) (out-Value v) fs' u)
    unfolding values.out-Value denote.Hole.Carrier.out
    replied_so values.Null u h = goes_by u z.last
    replied_so (values.Obj y) u h = makes_it (Obj y) u (object_holds y)
    replied_so (values.Text y) u h = makes_it (Text y) u (text_holds y)
    replied_so (values.I4 y) u h = absurd h
    replied_so (values.I8 y) u h = absurd h
    replied_so (values.Native y) u h = absurd h
    replied_so (values.Ptr y) u h = absurd h
    replied_so (values.Struct' shape parts) u h = absurd h
    replied_so (values.Func y y2) u h = absurd h
    replied_so (values.Opaque y) u h = absurd h

    answered_so : (A : Answer) → RefersTo A → Comes p' 4 (on_reply p' F L rest C [] fs' A) (reported p' g k.settings.throwing X (sequel (seam_after C A)) fs' A)
    answered_so (Returned None gs u) h = absurd h
    answered_so (Returned (Some v) gs u) h = replied_so v u h
    answered_so (Threw y gs u) h = comes_at_once p' 4 _ _ refl
    answered_so (Unfit u) h = comes_at_once p' 4 _ _ refl

    abbrev A0 : Answer
    A0 = asked p' g X fs' w

    failed_so : Comes p' (8 + 4) (at_place F (with_stack L (label_text X ∷ uv ∷ number_value X ∷ rest)) C [] fs' w) (failing p' g k.settings.throwing X (sequel (seam_after C A0)) fs' w)
    unfolding failing
    failed_so = comes_on p' 8 4 _ _ _ (code.runs F L rest C [] fs' w r.assembly code.report_token X (at_mine C _ there.0) code.report_is same_ref fit) (answered_so A0 (reply_refers p' g X fs' w))

  -- ---- the end of a clause

  module _ (j q : ℕ) (x : Piece) (i : Instr) (f : Frame) (fs fs' : List Frame) (w : World) (ex : List Cell) (ss : List Statics) (b : Continuation) (a : f.method ≡ me) (at : f.at ≡ InGroup gr j q) (there_is : Rattle.cil_semantics.specs.Unwind.piece_at (Some plan) gr j ≡ Some x) (of_e : x.clause.kind ≡ kind.RequiresOf) (z : MadeAt p k p' g n depths r me plan m gr e code.report_token j q x i) (s : Paired p k p' g n depths m f fs fs' w ex ss) where
    abbrev E : Rattle.splice_laws.specs.EntryCode.Reporting p' r.assembly depths.owner r.fail me m
    E = e.reporting

    abbrev S : ℕ
    S = m.places f.at

    abbrev B : ℕ
    B = m.behind gr j

    abbrev WW : World
    WW = beside ss w

    fit : FitsFail g depths.owner WW
    fit = record { depth = w.depth; held = (s.beside).depth; bare = (s.beside).bare }

    abbrev from : Next
    from = from_here p k p' g n depths m f ex b fs' w ss []

    from_stack : (st : List Value) → f.local.stack ≡ st → at_place (the_base f b) (with_stack (grow ex f.local) st) S [] fs' WW ≡ from
    from_stack st es = ap (λ y. at_place (the_base f b) (with_stack (grow ex f.local) y) S [] fs' WW) (sym es)

    abbrev Check : Condition → Type 0
    Check y = Checked p k p' g n depths m f fs fs' w ex ss b [] (clause_failure p k p' g n depths f fs x y.user) y.holds y.rest B

    belongs_to : (t : ℕ) → S ≤ t → t < B → IsTrue (m.belongs f.at t)
    belongs_to t lo hi = subst (λ y. IsTrue (m.belongs y t)) (sym at) (z.belongs t (subst (λ y. m.places y ≤ t) at lo) hi)

    condition_cell : (ex1 : List Cell) → Keeps m (here_of f fs) f.thrown f.local ex1 → CellOf ex1 E.condition_at bool_ty
    condition_cell ex1 kp = cell_of ex1 (m.extra (here_of f fs)) E.condition_at bool_ty kp.typed (E.condition_ty (here_of f fs) a)

    -- what is thrown behind the newobj
    throws_made : (C : ℕ) → slice_get (body_of p' me).instrs (C + 1 + 1 + 1 + 1) ≡ Some throw → IsTrue (m.belongs f.at (C + 1 + 1 + 1 + 1)) → (y : ℕ) → Throws_next p k p' g n depths m f (C + 1 + 1 + 1) y
    throws_made C there bel y =
        record {
          thrower = C + 1 + 1 + 1 + 1;
          belongs = bel;
          throws = λ l ex1 b1 fs1 w1.
              let F1 : Frame = twin p k p' g n depths f l ex1 (C + 1 + 1 + 1) [] b1 in
              comes_within p' 1 (cost k p) _ _ (omega (arith, many))
              (subst (λ t. Comes p' 1 t (unwind p' no_contracts false (twin p k p' g n depths f (pushed (Obj y) l) ex1 (C + 1 + 1 + 1 + 1) [] b1 ∷ fs1) w1 y)) (sym (arrives_plain p' F1 (Rest (C + 1 + 1 + 1 + 1)) (pushed (Obj y) (grow ex1 l)) [] fs1 w1))
              (one_step p' F1 (with_stack (grow ex1 l) (Obj y ∷ l.stack)) (C + 1 + 1 + 1 + 1) [] fs1 w1 0 _ _ (throws_now p' F1 (grow ex1 l) l.stack (C + 1 + 1 + 1 + 1) y fs1 w1 (ap (λ t. slice_get (body_of p' t).instrs (C + 1 + 1 + 1 + 1)) a ∙ there))
              (comes_at_once p' 0 _ _ refl)));
        }

    tested : (ex1 : List Cell) (S1 : ℕ) (n0 : ℕ) (user : Instr) (uv v x0 : Value) (rest : List Value) → n0 ≤ 1 → Keeps m (here_of f fs) f.thrown f.local ex1 → stored (Truncated B8 false) v ≡ Some x0
        → StandAt (body_of p' me).instrs S1 (makes_code r.assembly E.tools (kind_number x.clause.kind) user (e.label x) code.report_token z.ctor z.pops B) → S1 + 12 ≡ B → S ≤ S1
        → ((here : Here) (st : List Value) → Does p' here user (with_stack (grow (slice_set ex1 E.condition_at (typed_cell p' bool_ty x0)) f.local) st) (with_stack (grow (slice_set ex1 E.condition_at (typed_cell p' bool_ty x0)) f.local) (uv ∷ st)))
        → stored Reference uv ≡ Some uv → Comes p' n0 from (at_place (the_base f b) (with_stack (grow ex1 f.local) (v ∷ rest)) S1 [] fs' WW)
        → Check (record { holds = bool_in (out-Value x0); user = uv; rest = rest })
    tested ex1 S1 n0 user uv v x0 rest le kp sx stand len after does ref come =
        record {
          after = ex2;
          keeps = keeps_set m (here_of f fs) f.thrown f.local ex1 E.condition_at (typed_cell p' bool_ty x0) kp (E.condition_ty (here_of f fs) a) (E.apart_too.0).0 (E.apart_too.0).1;
          seam = seam_after C A;
          belongs = seam_belongs A;
          maker = C + 1 + 1 + 1;
          maker_belongs = belongs_to (C + 1 + 1 + 1) (omega (arith, after)) (omega (arith, len));
          made = λ kd y. throws_made C ((((tail.1).1).1).1).0 (belongs_to (C + 1 + 1 + 1 + 1) (omega (arith, after)) (omega (arith, len))) y;
          goes = moves_within p' (n0 + 18) (failure_cost k p) _ _ (omega (arith, many, le)) (moves_behind p' n0 18 _ _ _ come runs_on);
        }
      where
        ex2 : List Cell
        ex2 = slice_set ex1 E.condition_at (typed_cell p' bool_ty x0)

        C : ℕ
        C = S1 + 1 + 1 + 1 + 1 + 1 + 1

        tail : StandAt (body_of p' me).instrs C (call r.assembly code.report_token ∷ dup ∷ brfalse z.pops ∷ newobj r.assembly z.ctor ∷ throw ∷ pop ∷ [])
        tail = (((((stand.1).1).1).1).1).1

        last_is : z.pops ≡ C + 5
        last_is = let l = z.last in omega (arith, len, l)

        X : Failure
        X = clause_failure p k p' g n depths f fs x uv

        A : Answer
        A = asked p' g X fs' WW

        seam_belongs : (o : Answer) → IsTrue (m.belongs f.at (seam_after C o))
        seam_belongs (Threw y gs u) = belongs_to C (omega (arith, after)) (omega (arith, len))
        seam_belongs (Returned y gs u) = belongs_to (C + 1 + 1 + 1 + 1) (omega (arith, after)) (omega (arith, len))
        seam_belongs (Unfit u) = belongs_to (C + 1 + 1 + 1 + 1) (omega (arith, after)) (omega (arith, len))

        F : Frame
        F = the_base f b

        here : Here
        here = here_of F fs'

        L : LocalState
        L = grow ex2 f.local

        o : CellOf ex1 E.condition_at bool_ty
        o = condition_cell ex1 kp

        at_mine : (t : ℕ) (i1 : Instr) → slice_get (body_of p' me).instrs t ≡ Some i1 → slice_get (body_of p' f.method).instrs t ≡ Some i1
        at_mine t i1 h = at_me p k p' g n depths r me m E F t i1 a h

        T : Sequel
        T = sequel f fs fs' WW b a j q x i z of_e uv ref fit ex2 rest C tail last_is (seam_after C A)

        by_test : (t : Bool) → truth x0 ≡ Some t → Comes p' 16 (at_place F (with_stack L (x0 ∷ rest)) (S1 + 1 + 1) [] fs' WW) (checking p' g k.settings.throwing X T t fs' WW)
        by_test true h =
            comes_within p' 1 16 _ _ (omega arith)
            (one_step p' F (with_stack L (x0 ∷ rest)) (S1 + 1 + 1) [] fs' WW 0 _ _ (jumps_one p' F (with_stack L (x0 ∷ rest)) (with_stack L rest) (S1 + 1 + 1) B [] fs' WW (brtrue B) (at_mine (S1 + 1 + 1) _ ((stand.1).1).0) (tests_brtrue p' here B x0 rest L true h) refl)
            (comes_at_once p' 0 _ _ refl))
        by_test false h =
            one_step p' F (with_stack L (x0 ∷ rest)) (S1 + 1 + 1) [] fs' WW 15 _ _ (goes_one p' F (with_stack L (x0 ∷ rest)) (with_stack L rest) (S1 + 1 + 1) [] fs' WW (brtrue B) (at_mine (S1 + 1 + 1) _ ((stand.1).1).0) (tests_brtrue p' here B x0 rest L false h) refl)
            (one_step p' F (with_stack L rest) (S1 + 1 + 1 + 1) [] fs' WW 14 _ _ (goes_one p' F (with_stack L rest) (with_stack L (number_value X ∷ rest)) (S1 + 1 + 1 + 1) [] fs' WW (ldc (pos (kind_number X.kind))) (at_mine (S1 + 1 + 1 + 1) _ (((stand.1).1).1).0) (does_ldc p' here (pos (kind_number X.kind)) (with_stack L rest)) refl)
            (one_step p' F (with_stack L (number_value X ∷ rest)) (S1 + 1 + 1 + 1 + 1) [] fs' WW 13 _ _ (goes_one p' F (with_stack L (number_value X ∷ rest)) (with_stack L (uv ∷ number_value X ∷ rest)) (S1 + 1 + 1 + 1 + 1) [] fs' WW user (at_mine (S1 + 1 + 1 + 1 + 1) _ ((((stand.1).1).1).1).0) (does here (number_value X ∷ rest)) refl)
            (one_step p' F (with_stack L (uv ∷ number_value X ∷ rest)) (S1 + 1 + 1 + 1 + 1 + 1) [] fs' WW 12 _ _
            (goes_one p' F (with_stack L (uv ∷ number_value X ∷ rest)) (with_stack L (label_text X ∷ uv ∷ number_value X ∷ rest)) (S1 + 1 + 1 + 1 + 1 + 1) [] fs' WW (ldstr r.assembly (e.label x)) (at_mine (S1 + 1 + 1 + 1 + 1 + 1) _ (((((stand.1).1).1).1).1).0) (does_ldstr p' here r.assembly (e.label x) (text_units X.label) (with_stack L (uv ∷ number_value X ∷ rest)) (text_here p' here r.assembly (e.label x) (text_units X.label) (e.labelled j x there_is))) refl)
            (failed_so f fs fs' WW b a j q x i z of_e uv ref fit ex2 rest C tail last_is))))

        runs_on : Goes p' 18 (at_place F (with_stack (grow ex1 f.local) (v ∷ rest)) S1 [] fs' WW) (checking p' g k.settings.throwing X T (bool_in (out-Value x0)) fs' WW)
        runs_on =
            first_step p' F (with_stack (grow ex1 f.local) (v ∷ rest)) S1 [] fs' WW 17 _ _
            (goes_one p' F (with_stack (grow ex1 f.local) (v ∷ rest)) (with_stack L rest) S1 [] fs' WW (stloc E.tools.condition) (at_mine S1 _ stand.0) (seam_store p k p' g n depths r me m E here f.local ex1 E.tools.condition E.condition_at bool_ty (Truncated B8 false) v x0 rest kp.wide kp.caps E.condition_is o (bool_holds p') tt sx) refl)
            (one_step p' F (with_stack L rest) (S1 + 1) [] fs' WW 16 _ _
            (goes_one p' F (with_stack L rest) (with_stack L (x0 ∷ rest)) (S1 + 1) [] fs' WW (ldloc E.tools.condition) (at_mine (S1 + 1) _ (stand.1).0) (does_ldloc p' here E.tools.condition (typed_cell p' bool_ty x0) (with_stack L rest) (seam_get p k p' g n depths r me m E f.local ex2 E.tools.condition E.condition_at (typed_cell p' bool_ty x0) kp.wide kp.caps E.condition_is (get_set_same ex1 E.condition_at o.cell (typed_cell p' bool_ty x0) o.there))) refl)
            (by_test (bool_in (out-Value x0)) (cut_truth v x0 sx)))

    plain_condition : (st : List Value) → f.local.stack ≡ st → StandAt (body_of p' me).instrs S (makes_code r.assembly E.tools (kind_number x.clause.kind) ldnull (e.label x) code.report_token z.ctor z.pops B) → S + 12 ≡ B → (zc : Condition) → condition_from Null st ≡ Some zc → Check zc
    plain_condition [] es stand len zc ez = absurd (cc ez)
    plain_condition (v ∷ rest) es stand len zc ez = by_stored (stored (Truncated B8 false) v) refl ez
      where
        by_stored : (o : Option Value) → stored (Truncated B8 false) v ≡ o → option_map (λ x1. record { holds = bool_in (out-Value x1); user = Null; rest = rest }) o ≡ Some zc → Check zc
        by_stored None so q1 = absurd (cc q1)
        by_stored (Some x0) so q1 =
            let same : record { holds = bool_in (out-Value x0); user = Null; rest = rest } ≡ zc = cc q1 in
            subst Check same
            (tested ex S 0 ldnull Null v x0 rest (omega arith) s.keeps so stand len (omega arith) (λ here st. does_ldnull p' here (with_stack (grow (slice_set ex E.condition_at (typed_cell p' bool_ty x0)) f.local) st)) null_stored
            (comes_at_once p' 0 _ _ (sym (from_stack (v ∷ rest) es))))

    told_condition : (u : Value) (st : List Value) → f.local.stack ≡ u ∷ st → StandAt (body_of p' me).instrs S (stloc E.tools.message ∷ makes_code r.assembly E.tools (kind_number x.clause.kind) (ldloc E.tools.message) (e.label x) code.report_token z.ctor z.pops B) → S + 13 ≡ B → (zc : Condition) → condition_in true (u ∷ st) ≡ Some zc → Check zc
    told_condition u st es stand len zc ez = by_user (stored Reference u) refl ez
      where
        by_condition : (user : Value) → stored Reference u ≡ Some user → (st2 : List Value) → st ≡ st2 → condition_from user st2 ≡ Some zc → Check zc
        by_condition user su [] e2 q1 = absurd (cc q1)
        by_condition user su (v ∷ rest) e2 q1 = by_stored (stored (Truncated B8 false) v) refl q1
          where
            by_stored : (o : Option Value) → stored (Truncated B8 false) v ≡ o → option_map (λ x1. record { holds = bool_in (out-Value x1); user = user; rest = rest }) o ≡ Some zc → Check zc
            by_stored None so q2 = absurd (cc q2)
            by_stored (Some x0) so q2 =
                let same : record { holds = bool_in (out-Value x0); user = user; rest = rest } ≡ zc = cc q2 in
                let mc : Cell = typed_cell p' string_ty user in
                let ex1 = slice_set ex E.message_at mc in
                let mo = cell_of ex (m.extra (here_of f fs)) E.message_at string_ty (s.keeps).typed (E.message_ty (here_of f fs) a) in
                let k1 = keeps_set m (here_of f fs) f.thrown f.local ex E.message_at mc s.keeps (E.message_ty (here_of f fs) a) (E.apart_too.1).0 (E.apart_too.1).1 in
                let cell2 : Cell = typed_cell p' bool_ty x0 in
                let F : Frame = the_base f b in
                subst Check same
                (tested ex1 (S + 1) 1 (ldloc E.tools.message) user v x0 rest (omega arith) k1 so stand.1 (eight S ∙ len) (omega arith)
                (λ here st3. does_ldloc p' here E.tools.message mc (with_stack (grow (slice_set ex1 E.condition_at cell2) f.local) st3)
                (seam_get p k p' g n depths r me m E f.local (slice_set ex1 E.condition_at cell2) E.tools.message E.message_at mc (s.keeps).wide (s.keeps).caps E.message_is
                (get_set_other ex1 E.condition_at E.message_at cell2 (λ d. (E.apart_too.2) (sym d)) ∙ get_set_same ex E.message_at mo.cell mc mo.there)))
                (stored_twice u user su)
                (subst (λ y. Comes p' 1 y (at_place F (with_stack (grow ex1 f.local) (v ∷ rest)) (S + 1) [] fs' WW)) (from_stack (u ∷ v ∷ rest) (es ∙ ap (λ t. u ∷ t) e2))
                (one_step p' F (with_stack (grow ex f.local) (u ∷ v ∷ rest)) S [] fs' WW 0 _ _
                (goes_one p' F (with_stack (grow ex f.local) (u ∷ v ∷ rest)) (with_stack (grow ex1 f.local) (v ∷ rest)) S [] fs' WW (stloc E.tools.message) (at_me p k p' g n depths r me m E F S _ a stand.0) (seam_store p k p' g n depths r me m E (here_of F fs') f.local ex E.tools.message E.message_at string_ty Reference u user (v ∷ rest) (s.keeps).wide (s.keeps).caps E.message_is mo (string_holds p') tt su) refl)
                (comes_at_once p' 0 _ _ refl))))
              where
                eight : (j1 : ℕ) → j1 + 1 + 12 ≡ j1 + 13
                eight j1 = omega arith

        by_user : (o : Option Value) → stored Reference u ≡ o → option_and_then (λ user. condition_from user st) o ≡ Some zc → Check zc
        by_user None su q1 = absurd (cc q1)
        by_user (Some user) su q1 = by_condition user su st refl q1

    by_stack : (st : List Value) → f.local.stack ≡ st → StandAt (body_of p' me).instrs S (stloc E.tools.message ∷ makes_code r.assembly E.tools (kind_number x.clause.kind) (ldloc E.tools.message) (e.label x) code.report_token z.ctor z.pops B) → S + 13 ≡ B → (zc : Condition) → condition_in true st ≡ Some zc → Check zc
    by_stack [] es stand len zc ez = absurd (cc ez)
    by_stack (u ∷ st) es stand len zc ez = told_condition u st es stand len zc ez

    ends_at : (c : Condition) (t : Bool) → StandAt (body_of p' me).instrs S (made_code t r.assembly E.tools (kind_number x.clause.kind) (e.label x) code.report_token z.ctor z.pops B) → B ≡ S + length (made_code t r.assembly E.tools (kind_number x.clause.kind) (e.label x) code.report_token z.ctor z.pops B) → condition_in t f.local.stack ≡ Some c → Check c
    ends_at c true there next given = by_stack f.local.stack refl there (sym next) c given
    ends_at c false there next given = plain_condition f.local.stack refl there (sym next) c given

  made_first : (is : List Instr) (q : ℕ) (x : Piece) (ctor : Token) (pops on : ℕ) (t : Bool) → StandAt is q (made_code t r.assembly (e.reporting).tools (kind_number x.clause.kind) (e.label x) code.report_token ctor pops on) → StandAt is q (stores t (e.reporting).tools)
  made_first is q x ctor pops on true c = (c.0, ((c.1).0, tt))
  made_first is q x ctor pops on false c = (c.0, tt)

  pub made_seams : MadeSeams p k p' g n depths r me plan m gr e
  made_seams =
      record {
        made = λ j q x i kd c f fs fs' w ex ss b a at here there of_e instr ends s given.
            let z = code.ends j q x i kd (subst (IsHere (Some plan)) at here) there of_e instr ends in
            let is = made_code (has_message p i) r.assembly (e.reporting).tools (kind_number x.clause.kind) (e.label x) code.report_token z.ctor z.pops (m.behind gr j) in
            ends_at j q x i f fs fs' w ex ss b a at there of_e z s c (has_message p i) (subst (λ t. StandAt (body_of p' me).instrs (m.places t) is) (sym at) z.code) (z.next ∙ ap (λ t. m.places t + length is) (sym at)) given;
        made_stuck = λ j q x i kd f fs fs' w ex ss b a at here there of_e instr ends s none.
            let z = code.ends j q x i kd (subst (IsHere (Some plan)) at here) there of_e instr ends in
            let is = made_code (has_message p i) r.assembly (e.reporting).tools (kind_number x.clause.kind) (e.label x) code.report_token z.ctor z.pops (m.behind gr j) in
            stuck_at p k p' g n depths r me m e.reporting many f fs fs' w ex ss b [] a s (λ y h. refl)
            (has_message p i) (made_first (body_of p' me).instrs (m.places f.at) x z.ctor z.pops (m.behind gr j) (has_message p i) (subst (λ t. StandAt (body_of p' me).instrs (m.places t) is) (sym at) z.code)) f.local.stack refl none;
      }
