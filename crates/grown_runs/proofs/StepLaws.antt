-- A step of the run, wherever its topmost frame stands.
use Rattle.std.proofs.Common.{◌≡◌, ℕ, suc, ◌+◌, ◌-◌, ◌<◌, List, [], ◌∷◌, ◌++◌, length, Option, Some, None, refl, sym, ap, ◌∙◌, subst, inl}
use Rattle.std.specs.Prelude.{Bool, true, false, IsTrue, if◌then◌else◌, take, drop, slice_get, option_map, option_and_then}
use Rattle.cil_base.specs.declared.token.Token.{Token}
use Rattle.std.proofs.lemmas.Bool.{lt-ltb}
use Rattle.cil_model.specs.declared.ty.Ty.{Ty, out-Ty}
use Rattle.cil_model.specs.declared.ty.Ty as types
use Rattle.cil_model.specs.declared.ty.Under.{Under}
use Rattle.cil_model.specs.declared.value.Value.{Value, out-Value}
use Rattle.cil_model.specs.declared.value.Value as val
use Rattle.cil_model.specs.declared.value.Pointer.{Pointer}
use Rattle.cil_model.specs.declared.body.Body.{Body}
use Rattle.cil_model.specs.declared.body.Instr.{Instr}
use Rattle.cil_model.specs.declared.body.Operand.{Operand}
use Rattle.cil_model.specs.declared.body.Operand.TheVariants.{Nothing, Int, Index, Target, Targets, Tok}
use Rattle.cil_model.specs.declared.contract.Clause.{Clause}
use Rattle.cil_model.specs.declared.contract.ClauseKind.{ClauseKind}
use Rattle.cil_model.specs.declared.contract.ClauseKind.TheVariants as kind
use Rattle.cil_model.specs.declared.contract.Contracts.{Contracts}
use Rattle.cil_model.specs.declared.contract.Group.{Group}
use Rattle.cil_model.specs.declared.contract.Old.{Old}
use Rattle.cil_model.specs.declared.program.Meaning.{Meaning}
use Rattle.cil_model.specs.declared.program.Meaning.TheVariants.{OfType, OfField, OfMethod, OfText, OfLocals}
use Rattle.cil_model.specs.declared.program.Program.{Program}
use Rattle.cil_model.specs.declared.program.MethodDesc.{MethodDesc}
use Rattle.cil_semantics.specs.Words.{maybe}
use Rattle.cil_semantics.specs.Core.{Name}
use Rattle.cil_semantics.specs.Types.{under}
use Rattle.cil_semantics.specs.declared.state.Cell.{Cell}
use Rattle.cil_semantics.specs.declared.state.Object.{Object}
use Rattle.cil_semantics.specs.declared.state.World.{World}
use Rattle.cil_semantics.specs.declared.state.Frame.{Frame}
use Rattle.cil_semantics.specs.declared.state.Item.{Item}
use Rattle.cil_semantics.specs.declared.state.Local.{Local as LocalState}
use Rattle.cil_semantics.specs.declared.state.ProgramPoint.{ProgramPoint}
use Rattle.cil_semantics.specs.declared.state.ProgramPoint.TheVariants.{LeadIn, InGroup, Rest}
use Rattle.cil_semantics.specs.declared.state.Continuation.{Continuation}
use Rattle.cil_semantics.specs.declared.state.Continuation.TheVariants.{Push, PushObject, PushStruct, ThrowObject, BeginCallee, UseField, TryNext}
use Rattle.cil_semantics.specs.declared.state.Access.{Access}
use Rattle.cil_semantics.specs.declared.state.Access.TheVariants.{Read, Write, PointTo}
use Rattle.cil_semantics.specs.State.{State, Next, Running, Ended, with_stack, pushed, with_object, with_objects, unrecorded, recorded_after, goes_after}
use Rattle.cil_semantics.specs.Places.{storage}
use Rattle.cil_semantics.specs.Tokens.{Here, meaning_of, meaning_under, meaning_in, is_little, nests_little, if_little, token_here, operand_meaning, meaning_here, as_type, prefix_type, constrained_here, own_meaning, ref_type}
use Rattle.cil_semantics.specs.Contracted.{Piece, Plan}
use Rattle.cil_semantics.specs.Acts.{Call, Act, Stuck, GoOn, Jump, Raise, Throw, Rethrow, Leave, EndHandler, Return, Load, Store, Copy, UseStatic, CallMember, CallVirtual, NewObject, LoadVirtualFunction}
use Rattle.cil_semantics.specs.Instructions.{act}
use Rattle.cil_semantics.specs.Unwind.{body_of, plan_at, piece_at, here_of, place_in, moved_to, arrive, unwind, raise, leave, resume, innermost}
use Rattle.cil_semantics.specs.Frames.{if_there, stuck, go_on, load, store, copy, parts_of, initializer, use_behind}
use Rattle.cil_semantics.specs.Returns.{returns}
use Rattle.cil_semantics.specs.Calls.{call_member, call_virtual, find_virtual_on, make, pushes_new, pointed}
use Rattle.cil_semantics.specs.declared.contract_call.ContractCall.{ContractCall}
use Rattle.cil_semantics.specs.declared.contract_call.ContractCall.TheVariants.{EndsClause, EndsBlock, Abbreviates, GivesResult, ReadsArgument, TakesOld, ChecksHere, NoContractCall}
use Rattle.cil_semantics.specs.ContractCalls.{contract_call, count_checks}
use Rattle.cil_semantics.specs.Checks.{AddedNumbers, Failure, made_type, check_inline, end_clause, capture, recalled, inline_label, inline_number}
use Rattle.cil_semantics.specs.Machine.{relocated, relocated_instr, perform, run_plain, run_in_body, read_argument, run_in_piece, recall, step_piece, step_body, step_at, step_frames, step}
use Rattle.il_opcodes.specs.Opcodes.{class_of}
use Rattle.il_opcodes.specs.declared.class.Class.{Class}
use Rattle.il_opcodes.specs.declared.class.Class.TheVariants as class
use Rattle.machine_laws.specs.Answers.{Each, IsOld, IsAmong, is_below}
use Rattle.splice_facts.specs.Layout.{IsHere, fetch}
use Rattle.splice_facts.specs.Related.{Rewritten, IsOwnClass, NamesInput, ValidFrame, ValidFrames, bounds}
use Rattle.splice_facts.specs.WellFormed.{WellFormedValue, WellFormedValues, WellFormedCells, WellFormedObject, WellFormedObjects, WellFormedWorld, WellFormedPointer, WellFormedAccess, WellFormedContinuation}
use Rattle.simulation_objects.specs.Calls.{WellFormedFrames}
use Rattle.simulation_calls.proofs.InlineLaws.{call_checks}
use Rattle.simulation_valid.specs.Steps.{RunsHere}
use Rattle.simulation_valid.proofs.MoveValidLaws.{frames_fine}
use Rattle.grown_runs.specs.Grown.{GrowsAround, NamesInner, KeepsInstr, OperandUnmeant, IsWhole, IsHeld}
use Rattle.grown_runs.specs.Looks.{LooksAlike}
use Rattle.grown_runs.proofs.AlikeLaws.{each_get, HeldWorld, HeldNext, Pair, Alike, ends, there, given}
use Rattle.grown_runs.proofs.PlanLaws.{KeepsPlan, KeepsPlanIf, KeepsPiece, body_same, piece_kept}
use Rattle.grown_runs.proofs.MoveLaws.{OwnFrames, arrives, object_held, size_same, unwinds, raises, leaves, resumes, with_plan}
use Rattle.grown_runs.proofs.ReadLaws.{OwnPointer, OwnAccess, goes_on, loads, stores, copies}
use Rattle.grown_runs.proofs.EnterLaws.{OwnFunction, OwnDelegate, OwnDelegates, uses_statics}
use Rattle.grown_runs.proofs.ReturnLaws.{OwnBack, Stands, rets}
use Rattle.grown_runs.proofs.ContractLaws.{call_same, counts_same, each_take, each_drop}
use Rattle.grown_runs.proofs.OutsideLaws.{owns, own_pointer}
use Rattle.grown_runs.proofs.CallLaws.{Calls, calls_member, calls_virtual, finds_function}
use Rattle.grown_runs.proofs.NewLaws.{pushed_alike, makes}
use Rattle.grown_runs.proofs.CheckLaws.{checks_inline, ends_clause, captures}
use Rattle.grown_runs.proofs.ActLaws.{ActOk, MeantOwn, NamedOwn, acts_same}

-- what stands for parameters changes nothing of a type's own number
under_old : (p0 : Program) (a b : List Ty) (t : Ty) → IsAmong (length p0.types) (out-Ty t) → IsOld p0 (under a b t)
unfolding types.out-Ty denote.Hole.Carrier.out denote.Hole.Carrier.hidden denote.Hole.Carrier.shown
under_old p0 a b (types.Prim x) q = refl
under_old p0 a b (types.Known j) q = lt-ltb j (length p0.types) q
under_old p0 a b (types.Outside name value) q = refl
under_old p0 a b (types.Array' x parts) q = refl
under_old p0 a b (types.ByRef' x parts) q = refl
under_old p0 a b (types.Var j) q = absurd q
under_old p0 a b (types.MVar j) q = absurd q
under_old p0 a b types.Opaque q = refl
under_old p0 a b (types.Inst' j shape parts) q = lt-ltb j (length p0.types) q

module _ (p0 p : Program) (k : Contracts) (ms : List MethodDesc) (g : AddedNumbers) (r : Rewritten p k ms g) (h : GrowsAround p0 p k g.exception) (l : LooksAlike p0 p g.exception) (ty : r.types ≡ length p0.types) (me : r.methods ≡ length p0.methods) where
  abbrev A : (Program → Next) → Type 0
  A F = Alike p0 p g.exception F

  abbrev Held : World → Type 0
  Held w = HeldWorld p0 g.exception w

  -- ---- what is well formed is of the input

  below_old : (t : Ty) → IsTrue (is_below r.types t) → IsOld p0 t
  below_old t q = subst (λ n. is_below n t ≡ true) ty q

  access_own : (a : Access) → WellFormedAccess (bounds p k ms g r) a → OwnAccess p0 a
  access_own (Read q) fine = own_pointer p0 p k ms g r h l ty me q fine
  access_own (Write q v) fine = own_pointer p0 p k ms g r h l ty me q fine.0
  access_own (PointTo q) fine = own_pointer p0 p k ms g r h l ty me q fine

  back_own : (b : Continuation) → WellFormedContinuation (bounds p k ms g r) b → OwnBack p0 b
  back_own Push fine = tt
  back_own (PushObject v) fine = tt
  back_own PushStruct fine = tt
  back_own (ThrowObject x) fine = tt
  back_own BeginCallee fine = tt
  back_own (UseField a) fine = access_own a fine
  back_own (TryNext exists target left) fine = tt

  function_own : (v : Value) → WellFormedValue (bounds p k ms g r) v → OwnFunction p0 (out-Value v)
  unfolding val.out-Value denote.Hole.Carrier.out
  function_own (val.Func m u) fine = subst (λ n. m < n) me fine.0
  function_own _ fine = tt

  delegate_own : (cs : List Cell) (d : Value × Value) → WellFormedCells (bounds p k ms g r) cs → parts_of cs ≡ Some d → OwnFunction p0 (out-Value d.1)
  delegate_own [] d fine q = absurd (cc q)
  delegate_own (t ∷ []) d fine q = absurd (cc q)
  delegate_own (t ∷ f ∷ cs) d fine q = let z : (t.value, f.value) ≡ d = cc q in subst (λ (d : Value × Value). OwnFunction p0 (out-Value d.1)) z (function_own f.value fine.1.0)

  delegates_own : (os : List Object) → WellFormedObjects (bounds p k ms g r) os → Each (OwnDelegate p0) os
  delegates_own [] fine = tt
  delegates_own (o ∷ os) fine = (λ d q. delegate_own o.cells d fine.0.1 q, delegates_own os fine.1)

  frames_own : (fs : List Frame) → ValidFrames p k ms g r fs → OwnFrames p0 fs
  frames_own [] v = tt
  frames_own (f ∷ fs) v = (subst (λ n. f.method < n) me v.0.stands.old, frames_own fs v.1)

  abbrev Standing : Frame → List Frame → World → Type 0
  Standing f fs w = Stands p0 p k g.exception h l (owns p0 p k ms g r h l ty me) f fs w

  -- ---- acts performed

  many_same : (os : List Object) (w : World) → with_objects p os w ≡ with_objects p0 os w
  many_same [] w = refl
  many_same (o ∷ os) w = ap (with_objects p os) (size_same p0 p k g.exception h l o w) ∙ many_same os (with_object p0 o w)

  many_held : (os : List Object) (w : World) → Each (λ (o : Object). IsHeld p0 g.exception o.ty) os → Held w → Held (with_objects p os w)
  many_held [] w os held = held
  many_held (o ∷ os) w x held = many_held os (with_object p o w) x.1 (object_held p0 g.exception p o w x.0 held)

  module _ (f : Frame) (fs : List Frame) (w : World) (a : RunsHere p k ms g r f fs w) (held : Held w) where
    own : f.method < length p0.methods
    own = subst (λ n. f.method < n) me a.top.frame.stands.old

    others : OwnFrames p0 fs
    others = frames_own fs a.top.below.others

    delegates : OwnDelegates p0 w
    delegates = delegates_own w.heap a.top.below.world.heap

    stands : Standing f fs w
    stands = record { own = own; back = back_own f.continuation a.top.frame.fine_back; others = others; delegates = delegates; held = held }

    calling : (v : LocalState) → Calls p0 p k ms g r h l ty me (record f { local = v } ∷ fs) w
    calling v = record { others = (own, others); delegates = delegates; held = held }

    performs : (x : Act) → ActOk p0 p k ms g r h l ty me x → A (λ q. perform q k g x f fs w)
    performs Stuck ok = ends p0 p g.exception w
    performs (GoOn made v) ok = given p0 p g.exception (λ q. with_objects q made w) (λ q u. go_on q k f v fs u) (many_same made w) (goes_on p0 p k g.exception h l f v fs (with_objects p made w) own (many_held made w ok held))
    performs (Jump t v) ok = arrives p0 p k g.exception h l f (moved_to t f.at) v fs w own held
    performs (Raise name) ok = raises p0 p k g.exception h l name (f ∷ fs) w (own, others) held
    performs (Throw x) ok = unwinds p0 p k g.exception h l false (f ∷ fs) w x (own, others) held
    performs Rethrow ok = there p0 p g.exception w (λ q. innermost f.handling) (λ q x. unwind q k false (f ∷ fs) w x) refl (λ x e. unwinds p0 p k g.exception h l false (f ∷ fs) w x (own, others) held)
    performs (Leave t) ok = leaves p0 p k g.exception h l 0 (place_in f.at) t f f.handling fs w own held
    performs EndHandler ok = resumes p0 p k g.exception h l f.handling f fs w own others held
    performs Return ok = rets p0 p k g.exception h l (owns p0 p k ms g r h l ty me) f fs w stands
    performs (Load q s v) ok = loads p0 p k g.exception h l q s f v fs w ok own held
    performs (Store q x v) ok = stores p0 p k g.exception h l q x f v fs w ok own others held
    performs (Copy to from s v) ok = copies p0 p k g.exception h l to from s f v fs w ok.0 ok.1 own others held
    performs (UseStatic t c v) ok = uses_statics p0 p k g.exception h l (owns p0 p k ms g r h l ty me) t c f v fs w ok.0 ok.1 own others held
    performs (CallMember c v) ok = calls_member p0 p k ms g r h l ty me c.owner c.method c.method_args c.values (record f { local = v } ∷ fs) w ok.0.0 ok.0.1 ok.0.2 (calling v)
    performs (CallVirtual c v) ok =
        calls_virtual p0 p k ms g r h l ty me c.owner c.method c.method_args ok.0.0 ok.0.1 (record f { local = v } ∷ fs) w (calling v) (ok.1, frames_fine p k ms g r fs a.top.below.others) a.top.below.world c.values c.constrained ok.0.2
    performs (NewObject c v) ok = makes p0 p k ms g r h l ty me (λ q. pushes_new q k) (pushed_alike p0 p k ms g r h l ty me) c.owner c.method c.values (record f { local = v } ∷ fs) w ok.0.0 ok.0.1 ok.0.2 (own, others) held
    performs (LoadVirtualFunction c v) ok =
        finds_function p0 p k ms g r h l ty me c.owner c.method c.method_args ok.0.0 ok.0.1 (record f { local = v } ∷ fs) w (calling v) (ok.1, frames_fine p k ms g r fs a.top.below.others) a.top.below.world c.values c.values c.constrained

  -- ---- what tokens mean where they stand

  operand_same : (here : Here) (u : Option Under) (o : Operand) (c : Option Token) → OperandUnmeant p0 p o c → operand_meaning p here u o ≡ operand_meaning p0 here u o
  operand_same here u (Tok b t) c q = l.tokens here u b t q.0
  operand_same here u Nothing c q = refl
  operand_same here u (Int n) c q = refl
  operand_same here u (Index n) c q = refl
  operand_same here u (Target n) c q = refl
  operand_same here u (Targets ns) c q = refl

  prefix_same : (here : Here) (u : Option Under) (o : Operand) (c : Option Token) → OperandUnmeant p0 p o c → prefix_type p here u o c ≡ prefix_type p0 here u o c
  prefix_same here u (Tok b t) (Some c) q = ap as_type (l.tokens here u b c q.1)
  prefix_same here u (Tok b t) None q = refl
  prefix_same here u Nothing c q = refl
  prefix_same here u (Int n) c q = refl
  prefix_same here u (Index n) c q = refl
  prefix_same here u (Target n) c q = refl
  prefix_same here u (Targets ns) c q = refl

  abbrev FieldOwn : Option Meaning → Type 0
  FieldOwn (Some (OfField owner f)) = f < length p0.fields
  FieldOwn m = Unit {0}

  field_little : (here : Here) (u : Option Under) (m : Meaning) (b : Bool) → NamesInner p0 m → FieldOwn (if b then Some (meaning_under here.type_args here.method_args (meaning_in u m)) else None)
  field_little here u m false q = tt
  field_little here None (OfField owner f) true q = q.1
  field_little here (Some v) (OfField owner f) true q = q.1
  field_little here None (OfType t) true q = tt
  field_little here (Some v) (OfType t) true q = tt
  field_little here None (OfMethod owner m args) true q = tt
  field_little here (Some v) (OfMethod owner m args) true q = tt
  field_little here None (OfText units) true q = tt
  field_little here (Some v) (OfText units) true q = tt
  field_little here None (OfLocals ts) true q = tt
  field_little here (Some v) (OfLocals ts) true q = tt

  field_own : (here : Here) (u : Option Under) (o : Operand) → FieldOwn (operand_meaning p0 here u o)
  unfolding token_here
  field_own here u (Tok b t) = by_meaning (meaning_of p0 b t) refl
    where
      by_meaning : (x : Option Meaning) → meaning_of p0 b t ≡ x → FieldOwn (option_and_then (λ m. if_little (meaning_under here.type_args here.method_args (meaning_in u m))) x)
      by_meaning None q = tt
      by_meaning (Some m) q = field_little here u m (is_little (meaning_under here.type_args here.method_args (meaning_in u m))) (h.names b t m q)
  field_own here u Nothing = tt
  field_own here u (Int n) = tt
  field_own here u (Index n) = tt
  field_own here u (Target n) = tt
  field_own here u (Targets ns) = tt

  named_little : (here : Here) (m : Meaning) (b : Bool) → IsWhole p0 p m → NamedOwn p0 p k ms g r h l ty me (if b then Some (meaning_under here.type_args here.method_args m) else None)
  named_little here m false q = tt
  named_little here (OfType t) true q = under_old p0 here.type_args here.method_args t q
  named_little here (OfField owner f) true q = tt
  named_little here (OfMethod owner m args) true q = tt
  named_little here (OfText units) true q = tt
  named_little here (OfLocals ts) true q = tt

  named_own : (here : Here) (u : Option Under) (o : Operand) → ((m : Meaning) → own_meaning p0 o ≡ Some m → IsWhole p0 p (meaning_in u m)) → NamedOwn p0 p k ms g r h l ty me (operand_meaning p0 here u o)
  unfolding token_here
  named_own here u (Tok b t) whole = by_meaning (meaning_of p0 b t) refl
    where
      by_meaning : (x : Option Meaning) → meaning_of p0 b t ≡ x → NamedOwn p0 p k ms g r h l ty me (option_and_then (λ m. if_little (meaning_under here.type_args here.method_args (meaning_in u m))) x)
      by_meaning None q = tt
      by_meaning (Some m) q = named_little here (meaning_in u m) (is_little (meaning_under here.type_args here.method_args (meaning_in u m))) (whole m q)
  named_own here u Nothing whole = tt
  named_own here u (Int n) whole = tt
  named_own here u (Index n) whole = tt
  named_own here u (Target n) whole = tt
  named_own here u (Targets ns) whole = tt

  meant_own : (m : Option Meaning) → NamesInput p r.types r.methods m → FieldOwn m → MeantOwn p0 p k ms g r h l ty me m
  meant_own None n f = tt
  meant_own (Some (OfField owner f)) n o = (below_old owner n.0, o)
  meant_own (Some (OfMethod owner m args)) n o = (below_old owner n.1, subst (λ j. m < j) me n.0)
  meant_own (Some (OfType t)) n o = tt
  meant_own (Some (OfText units)) n o = tt
  meant_own (Some (OfLocals ts)) n o = tt

  -- a clause's own locals stand behind others, which no token tells
  moved_kept : (n : ℕ) (i : Instr) → KeepsInstr p0 p i → KeepsInstr p0 p (relocated_instr n i)
  moved_kept n i q = (moved (class_of i.op) i.operand i.constrained q.0, whole (class_of i.op) i.operand q.1)
    where
      moved : (c : Class) (o : Operand) (x : Option Token) → OperandUnmeant p0 p o x → OperandUnmeant p0 p (relocated n c o) x
      moved class.LoadLocal (Index j) x q = tt
      moved class.StoreLocal (Index j) x q = tt
      moved class.LocalAddress (Index j) x q = tt
      moved c o x q = q

      whole : (c : Class) (o : Operand) → (class_of i.op ≡ class.LoadToken → (m : Meaning) → own_meaning p0 o ≡ Some m → IsWhole p0 p (meaning_in i.under m)) → class_of i.op ≡ class.LoadToken → (m : Meaning) → own_meaning p0 (relocated n c o) ≡ Some m → IsWhole p0 p (meaning_in i.under m)
      whole class.LoadLocal (Index j) q e m s = absurd (cc s)
      whole class.StoreLocal (Index j) q e m s = absurd (cc s)
      whole class.LocalAddress (Index j) q e m s = absurd (cc s)
      whole c o q e m s = q e m s

  -- ---- an instruction

  module _ (f : Frame) (fs : List Frame) (w : World) (a : RunsHere p k ms g r f fs w) (held : Held w) where
    runs_plain : (i : Instr) → KeepsInstr p0 p i → fetch p k g (plan_at k p f.method) f.method f.at ≡ Some i → A (λ q. run_plain q k g i f fs w)
    runs_plain i kept found =
        let here : Here = here_of f fs in
        let same = operand_same here i.under i.operand i.constrained kept.0 in
        let x = acts_same p0 p k ms g r h l ty me here i w f.local held a.top.frame.fine same (prefix_same here i.under i.operand i.constrained kept.0)
        (meant_own (meaning_here p here i) (r.names f.method f.at i here a.top.frame.stands.old refl a.top.as_named.2 a.top.as_named.3 a.here found) (subst FieldOwn (sym same) (field_own here i.under i.operand)))
        (λ e. subst (NamedOwn p0 p k ms g r h l ty me) (sym same) (named_own here i.under i.operand (kept.1 e))) in
        given p0 p g.exception (λ q. act q here i w f.local) (λ q c. perform q k g c f fs w) x.0 (performs f fs w a held (act p here i w f.local) x.1)

    body_kept : Each (KeepsInstr p0 p) (body_of p0 f.method).instrs
    body_kept = (h.code.bodies f.method (own f fs w a held)).instrs

    number_same : (cs : List Clause) (at : ProgramPoint) → inline_number p cs (body_of p f.method).instrs at ≡ inline_number p0 cs (body_of p0 f.method).instrs at
    number_same cs at = ap (λ (b : Body). inline_number p cs b.instrs at) (body_same p0 p k g.exception h l f.method (own f fs w a held)) ∙ by_place at
      where
        by_place : (at : ProgramPoint) → inline_number p cs (body_of p0 f.method).instrs at ≡ inline_number p0 cs (body_of p0 f.method).instrs at
        by_place (Rest n) = ap (λ c. length cs - c) (counts_same p0 p k g.exception h l (drop n (body_of p0 f.method).instrs) (each_drop (KeepsInstr p0 p) n (body_of p0 f.method).instrs body_kept))
        by_place (LeadIn n) = counts_same p0 p k g.exception h l (take n (body_of p0 f.method).instrs) (each_take (KeepsInstr p0 p) n (body_of p0 f.method).instrs body_kept)
        by_place (InGroup gr j n) = refl

    no_requires : (i : Instr) (c : ClauseKind) → contract_call p i ≡ ChecksHere c → c ≡ kind.RequiresOf → ⊥
    no_requires i c e z = call_checks p i c e z

    -- in the lead-in and the rest
    in_body : (plan : Plan) (c : ContractCall) (i : Instr) → contract_call p i ≡ c → KeepsInstr p0 p i → fetch p k g (plan_at k p f.method) f.method f.at ≡ Some i → A (λ q. run_in_body q k g plan c i f fs w)
    in_body plan (ChecksHere c) i e kept found =
        checks_inline p0 p k ms g r h l ty me plan c f.method (λ q. inline_label plan.effective.asserts (inline_number q plan.effective.asserts (body_of q f.method).instrs f.at)) i f fs w (ap (inline_label plan.effective.asserts) (number_same plan.effective.asserts f.at)) kept (no_requires i c e) a.top.frame.fine.stack (stands f fs w a held)
    in_body plan (EndsClause c) i e kept found = runs_plain i kept found
    in_body plan EndsBlock i e kept found = runs_plain i kept found
    in_body plan Abbreviates i e kept found = runs_plain i kept found
    in_body plan GivesResult i e kept found = runs_plain i kept found
    in_body plan ReadsArgument i e kept found = runs_plain i kept found
    in_body plan TakesOld i e kept found = runs_plain i kept found
    in_body plan NoContractCall i e kept found = runs_plain i kept found

    at_instr : (F : Program → ContractCall → Instr → Next) (n : ℕ) → ((i : Instr) → slice_get (body_of p f.method).instrs n ≡ Some i → KeepsInstr p0 p i → A (λ q. F q (contract_call q i) i)) → A (λ q. if_there (slice_get (body_of q f.method).instrs n) w (λ i. F q (contract_call q i) i))
    at_instr F n b =
        there p0 p g.exception w (λ q. slice_get (body_of q f.method).instrs n) (λ q i. F q (contract_call q i) i) (ap (λ (x : Body). slice_get x.instrs n) (body_same p0 p k g.exception h l f.method (own f fs w a held)))
        (λ i e. b i e (each_get (KeepsInstr p0 p) (body_of p0 f.method).instrs n i body_kept (sym (ap (λ (x : Body). slice_get x.instrs n) (body_same p0 p k g.exception h l f.method (own f fs w a held))) ∙ e)))

    steps_body : (plan : Plan) (n : ℕ) → plan_at k p f.method ≡ Some plan → fetch p k g (Some plan) f.method f.at ≡ slice_get (body_of p f.method).instrs n → A (λ q. step_body q k g plan n f fs w)
    steps_body plan n e there_ =
        at_instr (λ q c i. run_in_body q k g plan c i f fs w) n
        (λ i s kept. given p0 p g.exception (λ q. contract_call q i) (λ q c. run_in_body q k g plan c i f fs w) (call_same p0 p k g.exception h l i kept) (in_body plan (contract_call p i) i refl kept (subst (λ o. fetch p k g o f.method f.at ≡ Some i) (sym e) (there_ ∙ s))))

    -- in a piece of a group
    module _ (plan : Plan) (gr : Group) (j n : ℕ) (e : plan_at k p f.method ≡ Some plan) (at : f.at ≡ InGroup gr j n) (pk : KeepsPlan p0 p plan) (x : Piece) (piece : piece_at (Some plan) gr j ≡ Some x) where
      xk : KeepsPiece p0 p x
      xk = piece_kept p0 p plan gr j x pk piece

      fetched : (i : Instr) → slice_get x.clause.instrs n ≡ Some i → fetch p k g (plan_at k p f.method) f.method f.at ≡ Some (relocated_instr x.first_local i)
      fetched i s =
          ap (λ o. fetch p k g o f.method f.at) e ∙ ap (λ y. fetch p k g (Some plan) f.method y) at ∙ ap (option_and_then (λ (y : Piece). option_map (relocated_instr y.first_local) (slice_get y.clause.instrs n))) piece
          ∙ ap (option_map (relocated_instr x.first_local)) s

      plainly : (i : Instr) → slice_get x.clause.instrs n ≡ Some i → KeepsInstr p0 p i → A (λ q. run_plain q k g (relocated_instr x.first_local i) f fs w)
      plainly i s kept = runs_plain (relocated_instr x.first_local i) (moved_kept x.first_local i kept) (fetched i s)

      pointer_fine : (v : Value) (q : Pointer) → WellFormedValue (bounds p k ms g r) v → pointed (out-Value v) ≡ Some q → WellFormedPointer (bounds p k ms g r) q
      unfolding val.out-Value denote.Hole.Carrier.out
      pointer_fine (val.Ptr q0) q fine z = let y : q0 ≡ q = cc z in subst (WellFormedPointer (bounds p k ms g r)) y fine
      pointer_fine _ q fine z = absurd (cc z)

      reads : (m : Option Meaning) (s : List Value) → WellFormedValues (bounds p k ms g r) s → A (λ q. read_argument q k g m s f fs w)
      reads (Some (OfMethod owner m (t ∷ ts))) (v ∷ rest) fine =
          there p0 p g.exception w (λ q. pointed (out-Value v)) (λ q y. load q k y (storage q t) f (with_stack f.local rest) fs w) refl
          (λ y z. given p0 p g.exception (λ q. storage q t) (λ q c. load q k y c f (with_stack f.local rest) fs w) (l.storages t) (loads p0 p k g.exception h l y (storage p t) f (with_stack f.local rest) fs w (own_pointer p0 p k ms g r h l ty me y (pointer_fine v y fine.0 z)) (own f fs w a held) held))
      reads _ s fine = ends p0 p g.exception w

      in_piece : (c : ContractCall) (i : Instr) → contract_call p i ≡ c → slice_get x.clause.instrs n ≡ Some i → KeepsInstr p0 p i → A (λ q. run_in_piece q k g plan gr j x c n i f fs w)
      in_piece (EndsClause c) i ec s kept =
          ends_clause p0 p k ms g r h l ty me plan gr j x i f fs w pk xk kept a.top.frame.fine.stack (stands f fs w a held)
          (λ user t d kd mt set. (r.exceptions f.method plan gr j x (here_of f fs) t d a.top.frame.stands.old refl e piece kd (made_is (option_and_then (ref_type p (here_of f fs)) x.clause.exception) t mt) set).0)
        where
          by_depth : (u t : Ty) (b : Bool) → (if b then Some u else None) ≡ Some t → Some u ≡ Some t
          by_depth u t true q = q
          by_depth u t false q = absurd (cc q)

          made_is : (o : Option Ty) (t : Ty) → option_and_then (λ u. if nests_little u then Some u else None) o ≡ Some t → o ≡ Some t
          made_is None t q = absurd (cc q)
          made_is (Some u) t q = by_depth u t (nests_little u) q
      in_piece GivesResult i ec s kept = there p0 p g.exception w (λ q. f.local.result) (λ q v. go_on q k f (pushed v f.local) fs w) refl (λ v z. goes_on p0 p k g.exception h l f (pushed v f.local) fs w (own f fs w a held) held)
      in_piece ReadsArgument i ec s kept =
          given p0 p g.exception (λ q. meaning_here q (here_of f fs) i) (λ q m. read_argument q k g m f.local.stack f fs w) (operand_same (here_of f fs) i.under i.operand i.constrained kept.0) (reads (meaning_here p (here_of f fs) i) f.local.stack a.top.frame.fine.stack)
      in_piece TakesOld i ec s kept = there p0 p g.exception w (λ q. x.captures) (λ q c. capture q k plan gr j c f f.local.stack fs w) refl (λ c z. captures p0 p k ms g r h l ty me plan gr j c f f.local.stack fs w pk (stands f fs w a held))
      in_piece (ChecksHere c) i ec s kept =
          checks_inline p0 p k ms g r h l ty me plan c x.clause.home (λ q. maybe [] (λ (name : Name). name) (slice_get x.clause.inline (count_checks q (take n x.clause.instrs)))) i f fs w
          (ap (λ m. maybe [] (λ (name : Name). name) (slice_get x.clause.inline m)) (counts_same p0 p k g.exception h l (take n x.clause.instrs) (each_take (KeepsInstr p0 p) n x.clause.instrs xk.instrs))) kept (no_requires i c ec) a.top.frame.fine.stack (stands f fs w a held)
      in_piece EndsBlock i ec s kept = plainly i s kept
      in_piece Abbreviates i ec s kept = plainly i s kept
      in_piece NoContractCall i ec s kept = plainly i s kept

      steps_piece : (o : Option (ℕ × Old)) → A (λ q. step_piece q k g plan gr j x n o f fs w)
      steps_piece (Some o) =
          there p0 p g.exception w (λ q. slice_get f.local.captured (x.first_captured + o.0)) (λ q (c : Cell). arrive q k f (moved_to (o.1.to + 1) f.at) (pushed c.value f.local) fs w) refl (λ c z. arrives p0 p k g.exception h l f (moved_to (o.1.to + 1) f.at) (pushed c.value f.local) fs w (own f fs w a held) held)
      steps_piece None =
          there p0 p g.exception w (λ q. slice_get x.clause.instrs n) (λ q i. run_in_piece q k g plan gr j x (contract_call q i) n i f fs w) refl
          (λ i s. let kept = each_get (KeepsInstr p0 p) x.clause.instrs n i xk.instrs s in
          given p0 p g.exception (λ q. contract_call q i) (λ q c. run_in_piece q k g plan gr j x c n i f fs w) (call_same p0 p k g.exception h l i kept) (in_piece (contract_call p i) i refl s kept))

    -- wherever it stands
    steps_at : (o : Option Plan) (at : ProgramPoint) → plan_at k p f.method ≡ o → KeepsPlanIf p0 p o → f.at ≡ at → A (λ q. step_at q k g o at f fs w)
    steps_at None at e kept s =
        there p0 p g.exception w (λ q. slice_get (body_of q f.method).instrs (place_in at)) (λ q i. run_plain q k g i f fs w) (ap (λ (x : Body). slice_get x.instrs (place_in at)) (body_same p0 p k g.exception h l f.method (own f fs w a held)))
        (λ i z. runs_plain i (each_get (KeepsInstr p0 p) (body_of p0 f.method).instrs (place_in at) i body_kept (sym (ap (λ (x : Body). slice_get x.instrs (place_in at)) (body_same p0 p k g.exception h l f.method (own f fs w a held))) ∙ z)) (subst (λ y. fetch p k g y f.method f.at ≡ Some i) (sym e) (subst (λ y. fetch p k g None f.method y ≡ Some i) (sym s) (bare at (subst (λ y. IsHere None y) s (subst (λ y. IsHere y f.at) e a.here)) i z))))
      where
        bare : (at : ProgramPoint) → IsHere None at → (i : Instr) → slice_get (body_of p f.method).instrs (place_in at) ≡ Some i → fetch p k g None f.method at ≡ Some i
        bare (LeadIn n) there_ i z = z
        bare (Rest n) there_ i z = z
        bare (InGroup gr j n) there_ i z = absurd there_
    steps_at (Some plan) (LeadIn n) e kept s = steps_body plan n e (ap (fetch p k g (Some plan) f.method) s)
    steps_at (Some plan) (Rest n) e kept s = steps_body plan n e (ap (fetch p k g (Some plan) f.method) s)
    steps_at (Some plan) (InGroup gr j n) e kept s =
        there p0 p g.exception w (λ q. piece_at (Some plan) gr j) (λ q x. step_piece q k g plan gr j x n (recalled x n) f fs w) refl (λ x z. steps_piece plan gr j n e s kept x z (recalled x n))

    steps_frames : A (λ q. step_frames q k g (f ∷ fs) w)
    steps_frames = with_plan p0 p k g.exception h l f.method (λ q o. step_at q k g o f.at f fs w) (own f fs w a held) (λ kept. steps_at (plan_at k p f.method) f.at refl kept refl)

  told : (before : List Item) (x y : Next) → Pair p0 g.exception x y → Pair p0 g.exception (goes_after before x) (goes_after before y)
  told before x y q = (ap (goes_after before) q.0, by_next x q.1)
    where
      by_next : (x : Next) → HeldNext p0 g.exception x → HeldNext p0 g.exception (goes_after before x)
      by_next (Running s) held = held
      by_next (Ended o w) held = tt

  pub steps_alike : (f : Frame) (fs : List Frame) (w : World) → RunsHere p k ms g r f fs (unrecorded w) → Held w → A (λ q. step q k g (record { frames = f ∷ fs; world = w }))
  unfolding step
  steps_alike f fs w a held = told w.trace (step_frames p k g (f ∷ fs) (unrecorded w)) (step_frames p0 k g (f ∷ fs) (unrecorded w)) (steps_frames f fs (unrecorded w) a held)
