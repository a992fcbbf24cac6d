-- Contract calls where they stand: failures, the exceptions of Requires<E>, the ends of clauses, and captures.
use Rattle.std.proofs.Common.{◌≡◌, ℕ, suc, ◌+◌, ◌<◌, List, [], ◌∷◌, ◌++◌, length, Option, Some, None, refl, sym, ap, ◌∙◌, subst, inl, inr}
use Rattle.std.specs.Prelude.{Bool, true, false, ◌&&◌, ◌||◌, ◌==◌, nat_lt, bytes_eq, if◌then◌else◌, slice_get, slice_set, find, option_map, option_and_then, codes}
use Rattle.cil_model.specs.declared.ty.Ty.{Ty, out-Ty, Prim}
use Rattle.cil_model.specs.declared.ty.Ty as types
use Rattle.cil_model.specs.declared.value.Value.{Value, out-Value, Null, Text, Obj}
use Rattle.cil_model.specs.declared.value.Value.TheOpen.{Value-F}
use Rattle.cil_model.specs.declared.body.Instr.{Instr}
use Rattle.cil_model.specs.declared.contract.ClauseKind.{ClauseKind}
use Rattle.cil_model.specs.declared.contract.ClauseKind.TheVariants as kind
use Rattle.cil_model.specs.declared.contract.Contracts.{Contracts}
use Rattle.cil_model.specs.declared.contract.Group.{Group}
use Rattle.cil_model.specs.declared.program.Program.{Program}
use Rattle.cil_model.specs.declared.program.MethodDesc.{MethodDesc}
use Rattle.cil_model.specs.declared.run.ReplyResult.{ReplyResult}
use Rattle.cil_model.specs.declared.run.ReplyResult.TheVariants as reply
use Rattle.cil_semantics.specs.Words.{any, maybe, or_else}
use Rattle.cil_semantics.specs.Types.{same_tys}
use Rattle.cil_semantics.specs.Core.{Name, class_named, string_ty, core_classes, event_params}
use Rattle.cil_semantics.specs.Lookups.{method_of, in_set, is_sub}
use Rattle.cil_semantics.specs.Dispatch.{methods_of}
use Rattle.cil_semantics.specs.declared.state.Cell.{Cell}
use Rattle.cil_semantics.specs.declared.state.World.{World}
use Rattle.cil_semantics.specs.declared.state.Local.{Local as LocalState}
use Rattle.cil_semantics.specs.declared.state.Frame.{Frame}
use Rattle.cil_semantics.specs.State.{Next, with_stack, next_object, with_object}
use Rattle.cil_semantics.specs.Places.{set_cell, is_void, storage, stored_in}
use Rattle.cil_semantics.specs.Acts.{ty_name}
use Rattle.cil_semantics.specs.Tokens.{ref_type}
use Rattle.cil_semantics.specs.Contracted.{Piece, Plan, rank}
use Rattle.cil_semantics.specs.ContractCalls.{has_message}
use Rattle.cil_semantics.specs.Unwind.{here_of, unwind, fits_type}
use Rattle.cil_semantics.specs.Frames.{if_there, stuck, go_on, stored_args}
use Rattle.cil_semantics.specs.Outside.{Answer, Returned, Threw, Unfit, Member, fits, by_ref_args, stored_back, next_reply, given as given_reply, recorded, unfit, thrown_out, result_of, answered, ask, ask_new}
use Rattle.cil_semantics.specs.Calls.{is_named, is_core_exception, make}
use Rattle.cil_semantics.specs.Returns.{piece_over}
use Rattle.cil_semantics.specs.Checks.{AddedNumbers, Failure, Condition, condition_in, dropped, event_member, trigger_member, label_text, number_value, contract_failure, is_accessible, constructor_with, own_constructor, constructor_member, made_type, is_named_type, Sequel, throw_made, after_new, throw_outside, throw_exception, triggered, fail_with, replied, reported, failing, throws_new, goes_on_from, fail, check, check_inline, end_clause, capture}
use Rattle.machine_laws.specs.Answers.{Each, IsOld, is_below}
use Rattle.machine_laws.proofs.FindLaws.{find_each}
use Rattle.splice_facts.specs.Related.{Rewritten, IsOwnClass, bounds}
use Rattle.splice_facts.specs.WellFormed.{WellFormedValue, WellFormedValues}
use Rattle.simulation_steps.specs.Outside.{values_of}
use Rattle.simulation_valid.proofs.CheckValidLaws.{condition_fine}
use Rattle.grown_runs.specs.Grown.{GrowsAround, IsHeld, KeepsInstr}
use Rattle.grown_runs.specs.Looks.{LooksAlike, HeldHeap}
use Rattle.grown_runs.proofs.AlikeLaws.{option_on, HeldWorld, Alike, ends, there, perhaps, choose, given}
use Rattle.grown_runs.proofs.PlanLaws.{KeepsPlan, KeepsPiece}
use Rattle.grown_runs.proofs.MoveLaws.{OwnFrames, piece_exception_same, with_new, unwinds}
use Rattle.grown_runs.proofs.ReadLaws.{set_same, goes_on}
use Rattle.grown_runs.proofs.EnterLaws.{OwnDelegate, OwnDelegates}
use Rattle.grown_runs.proofs.ReturnLaws.{Stands, piece_ends}
use Rattle.grown_runs.proofs.ContractLaws.{message_same}
use Rattle.grown_runs.proofs.OutsideLaws.{owns, AnswerOk, asks, asks_new}
use Rattle.grown_runs.proofs.NewLaws.{thrown_alike, makes}

-- ---- members without by-reference parameters leave the heap as it is

abbrev PassesNone : Member → Type 0
PassesNone m = (vs : List Value) → by_ref_args m.params vs ≡ []

event_none : (g : AddedNumbers) (label : Value) → PassesNone (event_member g label)
unfolding types.out-Ty denote.Hole.Carrier.out
event_none g label [] = refl
event_none g label (a ∷ []) = refl
event_none g label (a ∷ b ∷ []) = refl
event_none g label (a ∷ b ∷ c ∷ []) = refl
event_none g label (a ∷ b ∷ c ∷ d ∷ vs) = refl

trigger_none : (g : AddedNumbers) → PassesNone (trigger_member g)
unfolding types.out-Ty denote.Hole.Carrier.out
trigger_none g [] = refl
trigger_none g (a ∷ []) = refl
trigger_none g (a ∷ b ∷ []) = refl
trigger_none g (a ∷ b ∷ c ∷ []) = refl
trigger_none g (a ∷ b ∷ c ∷ d ∷ []) = refl
trigger_none g (a ∷ b ∷ c ∷ d ∷ x ∷ vs) = refl

module _ (p : Program) (w : World) where
  abbrev Stays : Answer → Type 0
  Stays (Returned v fs v2) = v2.heap ≡ w.heap
  Stays (Threw x fs v2) = Unit {0}
  Stays (Unfit v2) = Unit {0}

  result_stays : (m : Member) (values : List Value) (res : ReplyResult) (back : List Value) (fs : List Frame) (other : Answer) → Stays other → Stays (result_of p m values res back fs w other)
  result_stays m values reply.Default back fs other o = refl
  result_stays m values reply.Void back fs other o = by_void (is_void (storage p m.result))
    where
      by_void : (b : Bool) → Stays (if b then Returned None fs (recorded m values reply.Void back w) else other)
      by_void true = refl
      by_void false = o
  result_stays m values (reply.Given v) back fs other o = by_fit (fits p w m.result v) (stored_in p m.result v)
    where
      by_fit : (b : Bool) (s : Option Value) → Stays (if b then maybe other (λ x. Returned (Some x) fs (recorded m values (reply.Given v) back w)) s else other)
      by_fit true None = o
      by_fit true (Some x) = refl
      by_fit false s = o
  result_stays m values (reply.Throw name) back fs other o = by_sub (is_sub p (class_named name) (class_named (codes "System.Exception")))
    where
      by_sub : (b : Bool) → Stays (if b then Threw (next_object (recorded m values (reply.Throw name) back w)) fs (with_object p (record { ty = class_named name; cells = [] }) (recorded m values (reply.Throw name) back w)) else other)
      by_sub true = tt
      by_sub false = o

  ask_stays : (m : Member) (values : List Value) (fs : List Frame) → PassesNone m → Stays (ask p m values fs w)
  unfolding ask
  ask_stays m values fs none = by_cells (stored_args p m.params values)
    where
      by_back : (vs back : List Value) → Stays (answered p m vs (next_reply w.replies) w (stored_back p [] back fs w))
      by_back vs [] = result_stays m vs (next_reply w.replies).result (next_reply w.replies).by_ref fs (unfit m vs (next_reply w.replies) w) tt
      by_back vs (b ∷ bs) = tt

      by_cells : (o : Option (List Cell)) → Stays (maybe (Unfit w) (λ (cells : List Cell). answered p m (values_of cells) (next_reply w.replies) w (stored_back p (by_ref_args m.params (values_of cells)) (next_reply w.replies).by_ref fs w)) o)
      by_cells None = tt
      by_cells (Some cells) = subst (λ refs. Stays (answered p m (values_of cells) (next_reply w.replies) w (stored_back p refs (next_reply w.replies).by_ref fs w))) (sym (none (values_of cells))) (by_back (values_of cells) (next_reply w.replies).by_ref)

module _ (p0 p : Program) (k : Contracts) (ms : List MethodDesc) (g : AddedNumbers) (r : Rewritten p k ms g) (h : GrowsAround p0 p k g.exception) (l : LooksAlike p0 p g.exception) (ty : r.types ≡ length p0.types) (me : r.methods ≡ length p0.methods) where
  abbrev A : (Program → Next) → Type 0
  A F = Alike p0 p g.exception F

  abbrev Held : World → Type 0
  Held w = HeldWorld p0 g.exception w

  abbrev IsOwn : ℕ → Type 0
  IsOwn m = m < length p0.methods

  abbrev Fine : Value → Type 0
  Fine v = WellFormedValue (bounds p k ms g r) v

  -- how a run goes on after a failure, in both programs
  pub record SequelAlike (s : Program → Sequel) (w : World) : Type 0 where
    pub passes : (v : World) → v.heap ≡ w.heap → A (λ q. (s q).passes v)
    pub throws : (v : World) (y : ℕ) → Held v → A (λ q. (s q).throws v y)
    pub makes : (v : World) (t : Ty) (m : ℕ) (values : List Value) → Held v → IsOld p0 t → IsOwn m → WellFormedValues (bounds p k ms g r) values → A (λ q. (s q).makes v t m values)
    pub stops : (v : World) → A (λ q. (s q).stops v)

  -- ---- the exception of a failed Requires<E>

  core_exception_same : (t : Ty) → IsOld p0 t → is_core_exception p t ≡ is_core_exception p0 t
  core_exception_same t old =
      ap (λ (n : Name). any (λ (row : Name × Ty). is_named row.0 n) core_classes && is_sub p t (class_named (codes "System.Exception"))) (l.names t (inl old))
      ∙ ap (λ (b : Bool). any (λ (row : Name × Ty). is_named row.0 (ty_name p0 t)) core_classes && b) (l.subs t (class_named (codes "System.Exception")) (inl old))

  maker_same : (t : Ty) → IsOld p0 t → constructor_member p g t ≡ constructor_member p0 g t
  maker_same t old = ap (λ (n : Name). record { number = g.constructor n; name = n ++ codes "::.ctor"; params = string_ty ∷ []; result = Prim 0x01; default = None }) (l.names t (inl old))

  abbrev MadeOk : Option (ℕ × List Value) → Type 0
  MadeOk None = Unit {0}
  MadeOk (Some c) = IsOwn c.0 × WellFormedValues (bounds p k ms g r) c.1

  constructors_own : (t : Ty) (home : ℕ) (text : Value) → Each (λ c. c < r.methods) (methods_of p t) → Fine text → MadeOk (own_constructor p t home text)
  constructors_own t home text all fine = by_both (constructor_with p t home (string_ty ∷ [])) (constructor_with p t home []) (λ m q. own (string_ty ∷ []) m q) (λ m q. own [] m q)
    where
      own : (ts : List Ty) (m : ℕ) → constructor_with p t home ts ≡ Some m → IsOwn m
      own ts m q = subst (λ n. m < n) me (find_each (λ c. c < r.methods) (λ m. bytes_eq (method_of p m).name (codes ".ctor") && (same_tys (method_of p m).params ts && is_accessible p home m)) (methods_of p t) m all q)

      by_both : (a b : Option ℕ) → ((m : ℕ) → a ≡ Some m → IsOwn m) → ((m : ℕ) → b ≡ Some m → IsOwn m) → MadeOk (or_else (option_map (λ m. (m, text ∷ [])) a) (option_map (λ m. (m, [])) b))
      by_both (Some m) b x y = (x m refl, (fine, tt))
      by_both None (Some m) x y = (y m refl, tt)
      by_both None None x y = tt

  made_same : (t : Ty) (home : ℕ) (text : Value) → IsOld p0 t → IsOwn home → own_constructor p t home text ≡ own_constructor p0 t home text
  made_same t home text old own =
      ap (λ (o : Option ℕ). or_else (option_map (λ m. (m, text ∷ [])) o) (option_map (λ m. (m, [])) (constructor_with p t home []))) (l.constructors t home (string_ty ∷ []) old own)
      ∙ ap (λ (o : Option ℕ). or_else (option_map (λ m. (m, text ∷ [])) (constructor_with p0 t home (string_ty ∷ []))) (option_map (λ m. (m, [])) o)) (l.constructors t home [] old own)

  module _ (throwing : Bool) (x : Failure) (s : Program → Sequel) (fs : List Frame) (w : World) (sa : SequelAlike s w) (user : Fine x.user) (others : OwnFrames p0 fs)
      (home : x.kind ≡ kind.RequiresOf → IsOwn x.home) (class : (t : Ty) (d : ℕ × List Ty) → x.kind ≡ kind.RequiresOf → made_type x ≡ Some t → in_set (out-Ty t) ≡ Some d → IsOwnClass p r.types r.methods t) where
    throws_made : (v : World) (o : Value-F Value) → Held v → A (λ q. throw_made q g throwing x (s q) v o)
    throws_made v (Value-F.Obj y) held = sa.throws v y held
    throws_made v (Value-F.Text units) held = sa.stops v
    throws_made v Value-F.Null held = sa.stops v
    throws_made v (Value-F.I4 n) held = sa.stops v
    throws_made v (Value-F.I8 n) held = sa.stops v
    throws_made v (Value-F.Native n) held = sa.stops v
    throws_made v (Value-F.Ptr q) held = sa.stops v
    throws_made v (Value-F.Struct vs) held = sa.stops v
    throws_made v (Value-F.Func m u) held = sa.stops v
    throws_made v (Value-F.Opaque bytes) held = sa.stops v

    after : (a : Answer) → AnswerOk p0 p k ms g r h l ty me a → A (λ q. after_new q g throwing x (s q) a)
    after (Returned v gs v2) ok = perhaps p0 p g.exception (λ q. v) (λ q. (s q).stops v2) (λ q y. throw_made q g throwing x (s q) v2 (out-Value y)) refl (λ c. sa.stops v2) (λ y c. throws_made v2 (out-Value y) ok.1)
    after (Threw y gs v2) ok = sa.throws v2 y ok.1
    after (Unfit v2) ok = sa.stops v2

    outside : (t : Ty) (text : Value) (v : World) → IsOld p0 t → Fine text → Held v → A (λ q. throw_outside q g throwing x (s q) t text fs v)
    outside t text v old fine held =
        choose p0 p g.exception (λ q. is_core_exception q t) (λ q. (s q).throws (with_object q (record { ty = t; cells = [] }) v) (next_object v)) (λ q. if is_named_type (out-Ty t) then after_new q g throwing x (s q) (ask_new q t (constructor_member q g t) (text ∷ []) fs v) else (s q).stops v) (core_exception_same t old)
        (λ c. with_new p0 p k g.exception h l (record { ty = t; cells = [] }) v (λ q u. (s q).throws u (next_object v)) (inl old) held (λ u same okay. sa.throws u (next_object v) okay))
        (λ c. choose p0 p g.exception (λ q. is_named_type (out-Ty t)) (λ q. after_new q g throwing x (s q) (ask_new q t (constructor_member q g t) (text ∷ []) fs v)) (λ q. (s q).stops v) refl
        (λ d. given p0 p g.exception (λ q. constructor_member q g t) (λ q m. after_new q g throwing x (s q) (ask_new q t m (text ∷ []) fs v)) (maker_same t old)
        (let a = asks_new p0 p k ms g r h l ty me t (constructor_member p g t) (text ∷ []) fs v old (fine, tt) others held in
        given p0 p g.exception (λ q. ask_new q t (constructor_member p g t) (text ∷ []) fs v) (λ q b. after_new q g throwing x (s q) b) a.0 (after (ask_new p t (constructor_member p g t) (text ∷ []) fs v) a.1)))
        (λ d. sa.stops v))

    exception : (t : Ty) (text : Value) (v : World) → x.kind ≡ kind.RequiresOf → made_type x ≡ Some t → Fine text → Held v → A (λ q. throw_exception q g throwing x (s q) t text fs v)
    exception t text v kd mt fine held = by_set (in_set (out-Ty t)) refl
      where
        by_set : (d : Option (ℕ × List Ty)) → in_set (out-Ty t) ≡ d
            → A (λ q. maybe (throw_outside q g throwing x (s q) t text fs v) (λ (d : ℕ × List Ty). maybe ((s q).stops v) (λ (c : ℕ × List Value). (s q).makes v t c.0 c.1) (own_constructor q t x.home text)) d)
        by_set None e = outside t text v (ap (maybe true (λ (d : ℕ × List Ty). nat_lt d.0 (length p0.types))) e) fine held
        by_set (Some d) e =
            let own = class t d kd mt e in
            let old : IsOld p0 t = subst (λ n. is_below n t ≡ true) ty own.below in
            perhaps p0 p g.exception (λ q. own_constructor q t x.home text) (λ q. (s q).stops v) (λ q (c : ℕ × List Value). (s q).makes v t c.0 c.1) (made_same t x.home text old (home kd)) (λ z. sa.stops v)
            (λ c z. let ok = subst MadeOk z (constructors_own t x.home text own.members fine) in sa.makes v t c.0 c.1 held old ok.0 ok.1)

    tells : (a : Answer) → AnswerOk p0 p k ms g r h l ty me a → Stays p w a → A (λ q. triggered q g throwing x (s q) a)
    tells (Returned v gs v2) ok stays = sa.passes v2 stays
    tells (Threw y gs v2) ok stays = sa.throws v2 y ok.1
    tells (Unfit v2) ok stays = sa.stops v2

    plain : (text : Value) (v : World) → Fine text → v.heap ≡ w.heap → Held v
        → A (λ q. if throwing then (s q).throws (with_object q (contract_failure g x) v) (next_object v) else triggered q g throwing x (s q) (ask q (trigger_member g) (number_value x ∷ text ∷ x.user ∷ label_text x ∷ Null ∷ []) fs v))
    plain text v fine same held =
        choose p0 p g.exception (λ q. throwing) (λ q. (s q).throws (with_object q (contract_failure g x) v) (next_object v)) (λ q. triggered q g throwing x (s q) (ask q (trigger_member g) (number_value x ∷ text ∷ x.user ∷ label_text x ∷ Null ∷ []) fs v)) refl
        (λ c. with_new p0 p k g.exception h l (contract_failure g x) v (λ q u. (s q).throws u (next_object v)) (inr refl) held (λ u e okay. sa.throws u (next_object v) okay))
        (λ c. let a = asks p0 p k ms g r h l ty me (trigger_member g) (number_value x ∷ text ∷ x.user ∷ label_text x ∷ Null ∷ []) fs v (tt, (fine, (user, (tt, (tt, tt))))) others held in
        given p0 p g.exception (λ q. ask q (trigger_member g) (number_value x ∷ text ∷ x.user ∷ label_text x ∷ Null ∷ []) fs v) (λ q b. triggered q g throwing x (s q) b) a.0
        (tells (ask p (trigger_member g) (number_value x ∷ text ∷ x.user ∷ label_text x ∷ Null ∷ []) fs v) a.1 (stays_on (ask p (trigger_member g) (number_value x ∷ text ∷ x.user ∷ label_text x ∷ Null ∷ []) fs v) (ask_stays p v (trigger_member g) (number_value x ∷ text ∷ x.user ∷ label_text x ∷ Null ∷ []) fs (trigger_none g)))))
      where
        stays_on : (a : Answer) → Stays p v a → Stays p w a
        stays_on (Returned y gs v2) e = e ∙ same
        stays_on (Threw y gs v2) e = tt
        stays_on (Unfit v2) e = tt

    fails_with : (kd : ClauseKind) (text : Value) (v : World) → x.kind ≡ kd → Fine text → v.heap ≡ w.heap → Held v → A (λ q. fail_with q g throwing x (s q) kd text fs v)
    fails_with kind.RequiresOf text v e fine same held = perhaps p0 p g.exception (λ q. made_type x) (λ q. (s q).stops v) (λ q t. throw_exception q g throwing x (s q) t text fs v) refl (λ c. sa.stops v) (λ t c. exception t text v e c fine held)
    fails_with kind.Requires text v e fine same held = plain text v fine same held
    fails_with kind.Ensures text v e fine same held = plain text v fine same held
    fails_with kind.Throws text v e fine same held = plain text v fine same held
    fails_with kind.Invariant text v e fine same held = plain text v fine same held
    fails_with kind.Assert text v e fine same held = plain text v fine same held
    fails_with kind.Assume text v e fine same held = plain text v fine same held

    replies : (o : Value-F Value) (v : World) → v.heap ≡ w.heap → Held v → A (λ q. replied q g throwing x (s q) o fs v)
    replies Value-F.Null v same held = sa.passes v same
    replies (Value-F.Text units) v same held = fails_with x.kind (Text units) v refl tt same held
    replies (Value-F.Obj y) v same held = fails_with x.kind (Obj y) v refl tt same held
    replies (Value-F.I4 n) v same held = sa.stops v
    replies (Value-F.I8 n) v same held = sa.stops v
    replies (Value-F.Native n) v same held = sa.stops v
    replies (Value-F.Ptr q) v same held = sa.stops v
    replies (Value-F.Struct vs) v same held = sa.stops v
    replies (Value-F.Func m u) v same held = sa.stops v
    replies (Value-F.Opaque bytes) v same held = sa.stops v

    reports : (a : Answer) → AnswerOk p0 p k ms g r h l ty me a → Stays p w a → A (λ q. reported q g throwing x (s q) fs a)
    reports (Returned v gs v2) ok stays = perhaps p0 p g.exception (λ q. v) (λ q. (s q).stops v2) (λ q y. replied q g throwing x (s q) (out-Value y) fs v2) refl (λ c. sa.stops v2) (λ y c. replies (out-Value y) v2 stays ok.1)
    reports (Threw y gs v2) ok stays = sa.throws v2 y ok.1
    reports (Unfit v2) ok stays = sa.stops v2

    pub failings : Held w → A (λ q. failing q g throwing x (s q) fs w)
    unfolding failing
    failings held =
        let vs : List Value = number_value x ∷ x.user ∷ label_text x ∷ Null ∷ [] in
        let a = asks p0 p k ms g r h l ty me (event_member g (label_text x)) vs fs w (tt, (user, (tt, (tt, tt)))) others held in
        given p0 p g.exception (λ q. ask q (event_member g (label_text x)) vs fs w) (λ q b. reported q g throwing x (s q) fs b) a.0 (reports (ask p (event_member g (label_text x)) vs fs w) a.1 (ask_stays p w (event_member g (label_text x)) vs fs (event_none g (label_text x))))

  -- ---- in a call with contracts

  goes_on_alike : (fs : List Frame) (w : World) (passes : Program → World → Next) → OwnFrames p0 fs → ((v : World) → v.heap ≡ w.heap → A (λ q. passes q v)) → SequelAlike (λ q. goes_on_from q k fs (passes q)) w
  goes_on_alike fs w passes others pa =
      record {
        passes = pa;
        throws = λ v y held. unwinds p0 p k g.exception h l false fs v y others held;
        makes = λ v t m values held old own fine. makes p0 p k ms g r h l ty me (λ q. throws_new q k) (thrown_alike p0 p k ms g r h l ty me) t m values fs v old own fine others held;
        stops = λ v. ends p0 p g.exception v;
      }

  checks : (x : Failure) (b : Bool) (fs : List Frame) (w : World) (passes : Program → World → Next) → Fine x.user → OwnFrames p0 fs → Held w → (x.kind ≡ kind.RequiresOf → IsOwn x.home)
      → ((t : Ty) (d : ℕ × List Ty) → x.kind ≡ kind.RequiresOf → made_type x ≡ Some t → in_set (out-Ty t) ≡ Some d → IsOwnClass p r.types r.methods t) → ((v : World) → v.heap ≡ w.heap → A (λ q. passes q v)) → A (λ q. check q k g x b fs w (passes q))
  checks x b fs w passes user others held home class pa =
      choose p0 p g.exception (λ q. b) (λ q. passes q w) (λ q. fail q k g x fs w (passes q)) refl (λ c. pa w refl) (λ c. failings k.settings.throwing x (λ q. goes_on_from q k fs (passes q)) fs w (goes_on_alike fs w passes others pa) user others home class held)

  held_in : (v w : World) → v.heap ≡ w.heap → Held w → Held v
  held_in v w same held = subst (λ os. HeldHeap p0 g.exception os) (sym same) held

  delegates_in : (v w : World) → v.heap ≡ w.heap → OwnDelegates p0 w → OwnDelegates p0 v
  delegates_in v w same all = subst (λ os. Each (OwnDelegate p0) os) (sym same) all

  abbrev Standing : Frame → List Frame → World → Type 0
  Standing f fs w = Stands p0 p k g.exception h l (owns p0 p k ms g r h l ty me) f fs w

  stands_in : (f : Frame) (v : LocalState) (fs : List Frame) (u w : World) → u.heap ≡ w.heap → Standing f fs w → Standing (record f { local = v }) fs u
  stands_in f v fs u w same s = record { own = s.own; back = s.back; others = s.others; delegates = delegates_in u w same s.delegates; held = held_in u w same s.held }

  -- Assert and Assume where they stand
  pub checks_inline : (plan : Plan) (c : ClauseKind) (home : ℕ) (label : Program → Name) (i : Instr) (f : Frame) (fs : List Frame) (w : World) → label p ≡ label p0 → KeepsInstr p0 p i → (c ≡ kind.RequiresOf → ⊥) → WellFormedValues (bounds p k ms g r) f.local.stack → Standing f fs w
      → A (λ q. check_inline q k g plan c home (label q) i f fs w)
  checks_inline plan c home label i f fs w named kept never fine s =
      given p0 p g.exception label (λ q n. check_inline q k g plan c home n i f fs w) named
      (given p0 p g.exception (λ q. has_message q i)
      (λ q message. if rank plan.settings.level == 4 then if_there (condition_in message f.local.stack) w (λ (x : Condition). check q k g (record { kind = c; exception = None; home = home; user = x.user; label = label p }) x.holds (record f { local = with_stack f.local x.rest } ∷ fs) w (λ v. go_on q k f (with_stack f.local x.rest) fs v)) else if_there (dropped message f.local.stack) w (λ rest. go_on q k f (with_stack f.local rest) fs w))
      (message_same p0 p k g.exception h l i kept)
      (choose p0 p g.exception (λ q. rank plan.settings.level == 4)
      (λ q. if_there (condition_in (has_message p i) f.local.stack) w (λ (x : Condition). check q k g (record { kind = c; exception = None; home = home; user = x.user; label = label p }) x.holds (record f { local = with_stack f.local x.rest } ∷ fs) w (λ v. go_on q k f (with_stack f.local x.rest) fs v)))
      (λ q. if_there (dropped (has_message p i) f.local.stack) w (λ rest. go_on q k f (with_stack f.local rest) fs w)) refl
      (λ t. there p0 p g.exception w (λ q. condition_in (has_message p i) f.local.stack) (λ q (x : Condition). check q k g (record { kind = c; exception = None; home = home; user = x.user; label = label p }) x.holds (record f { local = with_stack f.local x.rest } ∷ fs) w (λ v. go_on q k f (with_stack f.local x.rest) fs v)) refl
      (λ x z. checks (record { kind = c; exception = None; home = home; user = x.user; label = label p }) x.holds (record f { local = with_stack f.local x.rest } ∷ fs) w (λ q v. go_on q k f (with_stack f.local x.rest) fs v) (condition_fine (bounds p k ms g r) (has_message p i) f.local.stack x fine z).0 (s.own, s.others) s.held (λ e. absurd (never e)) (λ t d e. absurd (never e))
      (λ v same. goes_on p0 p k g.exception h l f (with_stack f.local x.rest) fs v s.own (held_in v w same s.held))))
      (λ t. there p0 p g.exception w (λ q. dropped (has_message p i) f.local.stack) (λ q rest. go_on q k f (with_stack f.local rest) fs w) refl (λ rest z. goes_on p0 p k g.exception h l f (with_stack f.local rest) fs w s.own s.held))))

  abbrev failed : Piece → Option Ty → Value → Failure
  failed x t user = record { kind = x.clause.kind; exception = t; home = x.clause.home; user = user; label = x.clause.label }

  -- the call that ends a clause
  pub ends_clause : (plan : Plan) (gr : Group) (n : ℕ) (x : Piece) (i : Instr) (f : Frame) (fs : List Frame) (w : World) → KeepsPlan p0 p plan → KeepsPiece p0 p x → KeepsInstr p0 p i → WellFormedValues (bounds p k ms g r) f.local.stack → Standing f fs w
      → ((user : Value) (t : Ty) (d : ℕ × List Ty) → x.clause.kind ≡ kind.RequiresOf → made_type (failed x (option_and_then (ref_type p (here_of f fs)) x.clause.exception) user) ≡ Some t → in_set (out-Ty t) ≡ Some d → IsOwnClass p r.types r.methods t)
      → A (λ q. end_clause q k g plan gr n x i f fs w)
  ends_clause plan gr n x i f fs w kept xk ik fine s class =
      given p0 p g.exception (λ q. has_message q i)
      (λ q message. if_there (condition_in message f.local.stack) w (λ (c : Condition). check q k g (failed x (option_and_then (ref_type q (here_of f fs)) x.clause.exception) c.user) c.holds (record f { local = with_stack f.local c.rest } ∷ fs) w (λ v. piece_over q k plan gr n (record f { local = with_stack f.local c.rest }) fs v)))
      (message_same p0 p k g.exception h l i ik)
      (there p0 p g.exception w (λ q. condition_in (has_message p i) f.local.stack) (λ q (c : Condition). check q k g (failed x (option_and_then (ref_type q (here_of f fs)) x.clause.exception) c.user) c.holds (record f { local = with_stack f.local c.rest } ∷ fs) w (λ v. piece_over q k plan gr n (record f { local = with_stack f.local c.rest }) fs v)) refl
      (λ c z. given p0 p g.exception (λ q. option_and_then (ref_type q (here_of f fs)) x.clause.exception)
      (λ q t. check q k g (failed x t c.user) c.holds (record f { local = with_stack f.local c.rest } ∷ fs) w (λ v. piece_over q k plan gr n (record f { local = with_stack f.local c.rest }) fs v)) (piece_exception_same p0 p k g.exception h l (here_of f fs) x xk)
      (checks (failed x (option_and_then (ref_type p (here_of f fs)) x.clause.exception) c.user) c.holds (record f { local = with_stack f.local c.rest } ∷ fs) w (λ q v. piece_over q k plan gr n (record f { local = with_stack f.local c.rest }) fs v) (condition_fine (bounds p k ms g r) (has_message p i) f.local.stack c fine z).0 (s.own, s.others) s.held (λ e. xk.home) (λ t d e mt set. class c.user t d e mt set)
      (λ v same. piece_ends p0 p k g.exception h l (owns p0 p k ms g r h l ty me) plan gr n (record f { local = with_stack f.local c.rest }) fs v kept (stands_in f (with_stack f.local c.rest) fs v w same s)))))

  -- an old value is captured
  pub captures : (plan : Plan) (gr : Group) (n c : ℕ) (f : Frame) (vs : List Value) (fs : List Frame) (w : World) → KeepsPlan p0 p plan → Standing f fs w → A (λ q. capture q k plan gr n c f vs fs w)
  captures plan gr n c f [] fs w kept s = ends p0 p g.exception w
  captures plan gr n c f (v ∷ rest) fs w kept s =
      there p0 p g.exception w (λ q. option_and_then (set_cell q v) (slice_get f.local.captured c)) (λ q x. piece_over q k plan gr n (record f { local = record f.local { captured = slice_set f.local.captured c x; stack = rest } }) fs w)
      (option_on (set_cell p v) (set_cell p0 v) (slice_get f.local.captured c) (λ x z. set_same p0 p k g.exception h l v x))
      (λ x z. piece_ends p0 p k g.exception h l (owns p0 p k ms g r h l ty me) plan gr n (record f { local = record f.local { captured = slice_set f.local.captured c x; stack = rest } }) fs w kept (stands_in f (record f.local { captured = slice_set f.local.captured c x; stack = rest }) fs w w refl s))
