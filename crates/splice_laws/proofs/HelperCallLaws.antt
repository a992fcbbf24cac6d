-- Calls of static code, its fields and its return, one step each.
use Rattle.std.proofs.Common.{◌≡◌, ℕ, suc, ◌+◌, ◌≤◌, Bool, true, false, List, [], ◌∷◌, ◌++◌, length, Option, Some, None, refl, sym, ap, ◌∙◌, arith}
use Rattle.std.specs.Prelude.{slice_get, slice_set, option_map, option_and_then, if◌then◌else◌, filter, ℤ, pos, nat_le, take, drop, reverse, map, find, ◌==◌, ◌&&◌, ◌||◌, not, is_some}
use Rattle.cil_base.specs.declared.token.Token.{Token}
use Rattle.cil_model.specs.declared.ty.Ty.{Ty, out-Ty, Known, Prim}
use Rattle.cil_model.specs.declared.ty.Ty as types
use Rattle.cil_model.specs.declared.value.Value.{Value, out-Value, I4, Null, Obj, Text}
use Rattle.cil_model.specs.declared.value.Value as values
use Rattle.cil_model.specs.declared.value.Pointer.TheVariants.{Static}
use Rattle.cil_model.specs.declared.body.Body.{Body}
use Rattle.cil_model.specs.declared.body.Instr.{Instr}
use Rattle.cil_model.specs.declared.program.Program.{Program}
use Rattle.cil_model.specs.declared.program.Meaning.TheVariants.{OfField, OfMethod}
use Rattle.cil_model.specs.NoContracts.{no_contracts}
use Rattle.cil_semantics.specs.Words.{maybe}
use Rattle.cil_semantics.specs.Types.{under, all_under}
use Rattle.cil_semantics.specs.Lookups.{type_of, field_of, method_of}
use Rattle.cil_semantics.specs.declared.state.Cell.{Cell}
use Rattle.cil_semantics.specs.Places.{storage, prim_storage, default_within, default_cells, stored, static_layout, place_of}
use Rattle.cil_semantics.specs.declared.state.Local.{Local as LocalState}
use Rattle.cil_semantics.specs.declared.state.World.{World}
use Rattle.cil_semantics.specs.declared.state.Statics.{Statics}
use Rattle.cil_semantics.specs.declared.state.ProgramPoint.TheVariants.{Rest}
use Rattle.cil_semantics.specs.declared.state.Handling.{Handling}
use Rattle.cil_semantics.specs.declared.state.Frame.{Frame}
use Rattle.cil_semantics.specs.State.{unrecorded, goes_after, with_stack, pushed}
use Rattle.cil_semantics.specs.declared.state.Continuation.TheVariants.{Push}
use Rattle.cil_semantics.specs.declared.state.Access.TheVariants.{Read, Write}
use Rattle.il_opcodes.specs.Opcodes.{class_of, opcode_of, the_opcodes}
use Rattle.cil_semantics.specs.Tokens.{Here, meaning_here, meaning_of, token_here, if_little, meaning_under, local_tys}
use Rattle.cil_semantics.specs.Dispatch.{methods_of}
use Rattle.cil_semantics.specs.Contracted.{Plan}
use Rattle.cil_semantics.specs.Acts as Acts
use Rattle.cil_semantics.specs.Acts.{Act, GoOn, Jump, UseStatic, CallMember, Return, on_static, with_this, arity}
use Rattle.cil_semantics.specs.Instructions.{act, act_of_class}
use Rattle.cil_semantics.specs.Unwind.{body_of, no_body, here_of, goes_at, plan_at, find_statics, unwind, land, search_from, fits_type, caught_type, no_handler_left}
use Rattle.cil_semantics.specs.Frames.{if_there, read, write, cell_in, set_in, static_cells, static_path, set_static, use_behind, use_static, load, store, initializer, initializer_state, is_initializer, Initializer, Ready, begin_use, begin_behind, begin, is_use, frame_with, enter, stored_args, param_types, clause_tys, captured_tys, first_place}
use Rattle.cil_semantics.specs.Frames as Frames
use Rattle.cil_semantics.specs.Returns.{return_from, return_to, kept_as}
use Rattle.cil_semantics.specs.Calls.{CoreMember, NotCore, core_of, call_core, call_member}
use Rattle.machine_laws.specs.Same.{plain_step}
use Rattle.splice_facts.specs.Comes.{Comes}
use Rattle.splice_facts.specs.Layout.{HasDepth, depth_cell}
use Rattle.splice_laws.specs.Straight.{ldsfld, stsfld, call, ret, ldc, add, sub, bgt, frame_at, at_place, Acts_so, Does}
use Rattle.splice_laws.specs.HelperRuns.{with_depth, entered}
use Rattle.splice_laws.specs.Helpers.{HasRuntime, IsStaticCode, int32, nothing, enter_code, leave_code}
use Rattle.il_opcodes.specs.declared.class.Bits.TheVariants.{B32}
use Rattle.il_opcodes.specs.declared.class.Storage.TheVariants.{Truncated}
use Rattle.cil_semantics.specs.Numbers.{truncated}
use Rattle.cil_semantics.specs.State.{with_local}
use Rattle.cil_semantics.specs.Places.{stored_in}
use Rattle.splice_facts.proofs.StoreLaws.{stored_plain}
use Rattle.splice_facts.proofs.ComesLaws.{no_plan, arrives_plain, comes_at_once, comes_within}
use Rattle.splice_facts.proofs.Small.{uncut, one_more, one_less, over, guarded, none_needed}
use Rattle.splice_laws.proofs.StraightLaws.{steps_by, arrives_at, arrives_with, world_back, acts_call, acts_ret, called, one_step, goes_one, jumps_one, does_ldc, does_add, does_sub, tests_bgt, picked}
use Rattle.splice_laws.specs.Straight.{Stay}

eq_itself : (n : ℕ) → (n == n) ≡ true
eq_itself n = grind arith

-- ---- tokens

module _ (p : Program) (here : Here) where
  pub names_method : (a : ℕ) (t : Token) (c m : ℕ) → meaning_of p a t ≡ Some (OfMethod (Known c) m []) → meaning_here p here (call a t) ≡ Some (OfMethod (Known c) m [])
  unfolding token_here
  names_method a t c m e = ap (option_and_then (λ x. if_little (meaning_under here.type_args here.method_args x))) e

  field_here : (a : ℕ) (t : Token) (c f : ℕ) → meaning_of p a t ≡ Some (OfField (Known c) f) → token_here p here None a t ≡ Some (OfField (Known c) f)
  unfolding token_here
  field_here a t c f e = ap (option_and_then (λ x. if_little (meaning_under here.type_args here.method_args x))) e

  acts_ldsfld : (a : ℕ) (t : Token) (c f : ℕ) (l : LocalState) → meaning_of p a t ≡ Some (OfField (Known c) f) → (field_of p f).is_static ≡ true → Acts_so p here (ldsfld a t) l (λ w. UseStatic (Known c) (Read (Static (Known c) f [])) l)
  unfolding act act_of_class class_of opcode_of the_opcodes types.out-Ty denote.Hole.Carrier.out
  acts_ldsfld a t c f l e s w =
      ap (λ o. on_static p o (λ u q. UseStatic u (Read q) l)) (field_here a t c f e)
      ∙ ap (λ b. if b then UseStatic (Known c) (Read (Static (Known c) f [])) l else Acts.Stuck) s

  acts_stsfld : (a : ℕ) (t : Token) (c f : ℕ) (v : Value) (rest : List Value) (l : LocalState) → meaning_of p a t ≡ Some (OfField (Known c) f) → (field_of p f).is_static ≡ true → Acts_so p here (stsfld a t) (with_stack l (v ∷ rest)) (λ w. UseStatic (Known c) (Write (Static (Known c) f []) v) (with_stack l rest))
  unfolding act act_of_class class_of opcode_of the_opcodes types.out-Ty denote.Hole.Carrier.out
  acts_stsfld a t c f v rest l e s w =
      ap (λ o. on_static p o (λ u q. UseStatic u (Write q v) (with_stack l rest))) (field_here a t c f e)
      ∙ ap (λ b. if b then UseStatic (Known c) (Write (Static (Known c) f []) v) (with_stack l rest) else Acts.Stuck) s

-- ---- numbers of 4 bytes

module _ (p : Program) where
  int_place : storage p int32 ≡ Truncated B32 true
  unfolding storage prim_storage types.out-Ty denote.Hole.Carrier.out
  int_place = refl

  int_stored : (e : ℕ) → e ≤ 200 → stored (Truncated B32 true) (I4 (pos e)) ≡ Some (I4 (pos e))
  unfolding values.out-Value denote.Hole.Carrier.out
  int_stored e le = ap (λ z. Some (I4 (truncated 32 true z))) (uncut e le) ∙ ap (λ z. Some (I4 z)) (uncut e le)

  pub int_kept : (e : ℕ) → e ≤ 200 → stored_in p int32 (I4 (pos e)) ≡ Some (I4 (pos e))
  int_kept e le = stored_plain p int32 (Truncated B32 true) (I4 (pos e)) int_place tt ∙ int_stored e le

-- ---- the depth

module _ (p : Program) (c guard : ℕ) (r : HasRuntime p c guard) where
  abbrev pub depth_in : World → Option Statics
  depth_in w = find_statics (Known c) w.statics

  abbrev set_depth : ℕ → World → World
  set_depth e w = with_depth c e w

  first_depth : default_cells p (int32 ∷ []) ≡ depth_cell 0 ∷ []
  unfolding default_within storage prim_storage types.out-Ty denote.Hole.Carrier.out
  first_depth = refl

  cells_are : (d : ℕ) (w : World) → HasDepth d (depth_in w) → static_cells p w (Known c) ≡ depth_cell d ∷ []
  cells_are d w h = by_found (depth_in w) h
    where
      by_found : (o : Option Statics) → HasDepth d o → maybe (default_cells p (map (λ (x : ℕ × Ty). x.1) (static_layout p (Known c)))) (λ (s : Statics). s.cells) o ≡ depth_cell d ∷ []
      by_found None e = ap (λ xs. default_cells p (map (λ (x : ℕ × Ty). x.1) xs)) r.layout ∙ first_depth ∙ ap (λ n. depth_cell n ∷ []) (sym e)
      by_found (Some s) e = e.1

  path_is : static_path p (Known c) r.field [] ≡ 0 ∷ []
  path_is = ap (λ xs. maybe [] (λ i. i ∷ []) (place_of r.field xs)) r.layout ∙ ap (λ b. maybe [] (λ i. i ∷ []) (if b then Some 0 else option_map suc None)) (eq_itself r.field)

  reads_depth : (d : ℕ) (fs : List Frame) (w : World) → HasDepth d (depth_in w) → read p fs w (Static (Known c) r.field []) ≡ Some (I4 (pos d))
  reads_depth d fs w h = ap (λ cs. cell_in cs (static_path p (Known c) r.field [])) (cells_are d w h) ∙ ap (cell_in (depth_cell d ∷ [])) path_is

  writes_depth : (d e : ℕ) (fs : List Frame) (w : World) → HasDepth d (depth_in w) → e ≤ 200 → write p fs w (Static (Known c) r.field []) (I4 (pos e)) ≡ Some (fs, set_depth e w)
  writes_depth d e fs w h le =
      ap (λ cs. option_map (λ zs. (fs, set_static w (Known c) zs)) (set_in p (static_path p (Known c) r.field []) (I4 (pos e)) cs)) (cells_are d w h)
      ∙ ap (λ path. option_map (λ zs. (fs, set_static w (Known c) zs)) (set_in p path (I4 (pos e)) (depth_cell d ∷ []))) path_is
      ∙ ap (λ o. option_map (λ zs. (fs, set_static w (Known c) zs)) (option_map (slice_set (depth_cell d ∷ []) 0) (option_map (λ v. record { ty = int32; value = v }) o))) (int_kept p e le)

  ready : (d : ℕ) (w : World) → HasDepth d (depth_in w) → initializer p w (Known c) ≡ Ready
  unfolding initializer
  ready d w h = by_found (depth_in w) h
    where
      by_found : (o : Option Statics) → HasDepth d o → initializer_state (option_and_then (λ (s : Statics). s.init) o) (find (λ m. is_initializer (method_of p m) && not (type_of p (method_of p m).owner).reference) (methods_of p (Known c))) ≡ Ready
      by_found None e = ap (initializer_state None) r.no_initializer
      by_found (Some s) e = ap (λ i. initializer_state i (find (λ m. is_initializer (method_of p m) && not (type_of p (method_of p m).owner).reference) (methods_of p (Known c)))) e.0 ∙ ap (initializer_state None) r.no_initializer

  -- ---- one step at each

  pub loads_depth : (f : Frame) (l : LocalState) (q : ℕ) (hs : List Handling) (fs : List Frame) (w : World) (d : ℕ) → slice_get (body_of p f.method).instrs q ≡ Some (ldsfld r.assembly r.depth) → HasDepth d (depth_in w) → Stay p f (q + 1) hs
      → plain_step p (record { frames = frame_at f l q hs ∷ fs; world = w }) ≡ at_place f (pushed (I4 (pos d)) l) (q + 1) hs fs w
  loads_depth f l q hs fs w d there h st =
      let F : Frame = frame_at f l q hs in
      steps_by p f l q hs fs w (ldsfld r.assembly r.depth) (λ v. UseStatic (Known c) (Read (Static (Known c) r.field [])) l) there (acts_ldsfld p (here_of f fs) r.assembly r.depth c r.field l r.depth_token r.is_static)
      ∙ ap (λ i. goes_after w.trace (use_behind p no_contracts i (Known c) (Read (Static (Known c) r.field [])) F l fs (unrecorded w))) (ready d (unrecorded w) h)
      ∙ ap (λ o. goes_after w.trace (if_there (option_and_then (λ v. Some v) o) (unrecorded w) (λ v. Frames.go_on p no_contracts F (pushed v l) fs (unrecorded w)))) (reads_depth d (F ∷ fs) (unrecorded w) h)
      ∙ arrives_at p F (pushed (I4 (pos d)) l) (q + 1) hs fs w st

  pub stores_depth : (f : Frame) (l : LocalState) (rest : List Value) (q : ℕ) (hs : List Handling) (fs : List Frame) (w : World) (d e : ℕ) → slice_get (body_of p f.method).instrs q ≡ Some (stsfld r.assembly r.depth) → HasDepth d (depth_in w) → e ≤ 200 → Stay p f (q + 1) hs
      → plain_step p (record { frames = frame_at f (with_stack l (I4 (pos e) ∷ rest)) q hs ∷ fs; world = w }) ≡ at_place f (with_stack l rest) (q + 1) hs fs (set_depth e w)
  stores_depth f l rest q hs fs w d e there h le st =
      let F : Frame = frame_at f (with_stack l (I4 (pos e) ∷ rest)) q hs in
      let G : Frame = frame_at f (with_stack l rest) q hs in
      steps_by p f (with_stack l (I4 (pos e) ∷ rest)) q hs fs w (stsfld r.assembly r.depth) (λ v. UseStatic (Known c) (Write (Static (Known c) r.field []) (I4 (pos e))) (with_stack l rest)) there (acts_stsfld p (here_of f fs) r.assembly r.depth c r.field (I4 (pos e)) rest l r.depth_token r.is_static)
      ∙ ap (λ i. goes_after w.trace (use_behind p no_contracts i (Known c) (Write (Static (Known c) r.field []) (I4 (pos e))) F (with_stack l rest) fs (unrecorded w))) (ready d (unrecorded w) h)
      ∙ ap (λ o. goes_after w.trace (if_there o (unrecorded w) (λ (x : List Frame × World). Frames.go_on_top p no_contracts x.0 x.1))) (writes_depth d e (G ∷ fs) (unrecorded w) h le)
      ∙ arrives_at p G (with_stack l rest) (q + 1) hs fs (set_depth e w) st

  -- ---- calls of the class's code

  abbrev pub callee : ℕ → List Cell → Frame
  callee m cells =
      record {
        method = m;
        type_args = [];
        method_args = [];
        local = record { args = cells; locals = []; captured = []; result = None; stack = [] };
        at = Rest 0;
        handling = [];
        thrown = None;
        continuation = Push;
        initializes = None;
      }

  module _ (m : ℕ) (params : List Ty) (result : Ty) (code : List Instr) (s : IsStaticCode p m params result code) where
    body_is : body_of p m ≡ s.body
    body_is = ap (maybe no_body (λ b. b)) s.has

    pub code_is : (body_of p m).instrs ≡ code
    code_is = ap (λ (b : Body). b.instrs) body_is ∙ s.code

    abbrev frame_of_plan : List Cell → List Frame → Body → Option Plan → Frame
    frame_of_plan cells fs b o =
        let here : Here = record { number = length fs; method = m; type_args = []; method_args = [] } in
        record {
          method = m;
          type_args = [];
          method_args = [];
          local = record { args = cells; locals = default_cells p (local_tys p here b.locals ++ clause_tys p here o); captured = default_cells p (captured_tys p here o); result = None; stack = [] };
          at = first_place o;
          handling = [];
          thrown = None;
          continuation = Push;
          initializes = None;
        }

    is_callee : (cells : List Cell) (fs : List Frame) → frame_with p no_contracts (Known c) m [] cells Push fs ≡ callee m cells
    unfolding types.out-Ty denote.Hole.Carrier.out
    is_callee cells fs =
        ap (frame_of_plan cells fs (body_of p m)) (no_plan p m) ∙ ap (λ b. frame_of_plan cells fs b None) body_is
        ∙ ap (λ o. record (callee m cells) { local = record { args = cells; locals = default_cells p (local_tys p (record { number = length fs; method = m; type_args = []; method_args = [] }) o ++ []); captured = []; result = None; stack = [] } }) s.locals

    pub starts : (values : List Value) (cells : List Cell) (d : ℕ) (fs : List Frame) (w : World) → stored_args p (all_under [] [] params) values ≡ Some cells → HasDepth d (depth_in w)
        → call_member p no_contracts (Known c) m [] values fs w ≡ goes_at p (callee m cells) (Rest 0) (callee m cells).local [] fs w
    unfolding call_member core_of types.out-Ty denote.Hole.Carrier.out
    starts values cells d fs w e h =
        ap (λ b. if b then Rattle.cil_semantics.specs.Calls.outside_call p no_contracts (Known c) m [] values fs w else if is_some (method_of p m).body then enter p no_contracts (Known c) m [] values Push fs w else Frames.stuck w) s.inside
        ∙ ap (λ o. if is_some o then enter p no_contracts (Known c) m [] values Push fs w else Frames.stuck w) s.has
        ∙ ap (λ b. if_there (stored_args p (if b then all_under [] [] (method_of p m).params else Frames.this_type p (Known c) ∷ all_under [] [] (method_of p m).params) values) w (λ cs. begin_use p no_contracts (Known c) (frame_with p no_contracts (Known c) m [] cs Push fs) fs w)) s.static
        ∙ ap (λ ts. if_there (stored_args p (all_under [] [] ts) values) w (λ cs. begin_use p no_contracts (Known c) (frame_with p no_contracts (Known c) m [] cs Push fs) fs w)) s.params
        ∙ ap (λ o. if_there o w (λ cs. begin_use p no_contracts (Known c) (frame_with p no_contracts (Known c) m [] cs Push fs) fs w)) e
        ∙ ap (λ f. begin_use p no_contracts (Known c) f fs w) (is_callee cells fs)
        ∙ ap (λ b. if b || Rattle.std.specs.Prelude.bytes_eq (method_of p m).name (Rattle.std.specs.Prelude.codes ".ctor") then begin_behind p no_contracts (initializer p w (Known c)) (Known c) (callee m cells) fs w else begin p no_contracts (callee m cells) fs w) s.static
        ∙ ap (λ i. begin_behind p no_contracts i (Known c) (callee m cells) fs w) (ready d w h)
        ∙ arrives_plain p (callee m cells) (Rest 0) (callee m cells).local [] fs w

    -- an exception passes through it
    pub passes_through : (cells : List Cell) (l : LocalState) (q : ℕ) (fs : List Frame) (w : World) (x : ℕ) → unwind p no_contracts false (frame_at (callee m cells) l q [] ∷ fs) w x ≡ unwind p no_contracts false fs w x
    unfolding unwind
    passes_through cells l q fs w x =
        let F : Frame = frame_at (callee m cells) l q [] in
        ap (λ rs. land p no_contracts (search_from (λ token. fits_type p w x (caught_type p F token)) 0 0 q rs) F [] q fs w x (λ s u y. unwind p no_contracts s fs u y)) (ap (λ (b : Body). b.regions) body_is ∙ s.regions)
        ∙ ap (λ o. no_handler_left p o F (Rest q) fs w x (λ s u y. unwind p no_contracts s fs u y)) (no_plan p m)

    with_this_is : with_this p m ≡ length params
    with_this_is = ap (λ b. if b then arity p m else suc (arity p m)) s.static ∙ ap length s.params

    -- a call of it takes no step but the one
    pub calls : (f : Frame) (l l2 : LocalState) (q : ℕ) (hs : List Handling) (fs : List Frame) (w : World) (a : ℕ) (t : Token) (values : List Value) (cells : List Cell) (d : ℕ)
        → slice_get (body_of p f.method).instrs q ≡ Some (call a t) → meaning_of p a t ≡ Some (OfMethod (Known c) m []) → nat_le (length params) (length l.stack) ≡ true → reverse (take (length params) l.stack) ≡ values → with_stack l (drop (length params) l.stack) ≡ l2
        → stored_args p (all_under [] [] params) values ≡ Some cells → HasDepth d (depth_in w)
        → plain_step p (record { frames = frame_at f l q hs ∷ fs; world = w }) ≡ at_place (callee m cells) (callee m cells).local 0 [] (frame_at f l2 q hs ∷ fs) w
    calls f l l2 q hs fs w a t values cells d there token enough taken left e h =
        steps_by p f l q hs fs w (call a t) (λ v. CallMember (called p (here_of f fs) (Known c) m [] (reverse (take (with_this p m) l.stack))) (with_stack l (drop (with_this p m) l.stack))) there
        (acts_call p (here_of f fs) a t (Known c) m [] l (names_method p (here_of f fs) a t c m token) (ap (λ n. nat_le n (length l.stack)) with_this_is ∙ enough))
        ∙ ap (λ n. goes_after w.trace (call_member p no_contracts (Known c) m [] (reverse (take n l.stack)) (frame_at f (with_stack l (drop n l.stack)) q hs ∷ fs) (unrecorded w))) with_this_is
        ∙ ap (λ vs. goes_after w.trace (call_member p no_contracts (Known c) m [] vs (frame_at f (with_stack l (drop (length params) l.stack)) q hs ∷ fs) (unrecorded w))) taken
        ∙ ap (λ x. goes_after w.trace (call_member p no_contracts (Known c) m [] values (frame_at f x q hs ∷ fs) (unrecorded w))) left
        ∙ ap (goes_after w.trace) (starts values cells d (frame_at f l2 q hs ∷ fs) (unrecorded w) e h)
        ∙ ap (λ v. at_place (callee m cells) (callee m cells).local 0 [] (frame_at f l2 q hs ∷ fs) v) (world_back w)

    -- its end; what handlers go on is said by the place behind the call
    pub returns_behind : (cells : List Cell) (l lc : LocalState) (q qc : ℕ) (f : Frame) (hs : List Handling) (fs : List Frame) (w : World) (v : Option Value)
        → slice_get code q ≡ Some ret → kept_as p (under [] [] result) (storage p (under [] [] result)) l.stack ≡ Some v
        → plain_step p (record { frames = frame_at (callee m cells) l q [] ∷ frame_at f lc qc hs ∷ fs; world = w }) ≡ goes_at p f (Rest (qc + 1)) (maybe lc (λ x. pushed x lc) v) hs fs w
    unfolding return_to
    returns_behind cells l lc q qc f hs fs w v there e =
        let F : Frame = frame_at (callee m cells) l q [] in
        let fs2 : List Frame = frame_at f lc qc hs ∷ fs in
        steps_by p (callee m cells) l q [] fs2 w ret (λ z. Return) (ap (λ is. slice_get is q) code_is ∙ there) (acts_ret p (here_of (callee m cells) fs2) l)
        ∙ ap (λ o. goes_after w.trace (if_there (kept_as p (under [] [] o) (storage p (under [] [] o)) l.stack) (unrecorded w) (λ x. return_from p no_contracts (plan_at no_contracts p m) (Rest q) (with_local (record l { result = x }) F) fs2 (unrecorded w)))) s.result
        ∙ ap (λ o. goes_after w.trace (if_there o (unrecorded w) (λ x. return_from p no_contracts (plan_at no_contracts p m) (Rest q) (with_local (record l { result = x }) F) fs2 (unrecorded w)))) e
        ∙ ap (λ o. goes_after w.trace (return_from p no_contracts o (Rest q) (with_local (record l { result = v }) F) fs2 (unrecorded w))) (no_plan p m)
        ∙ arrives_with p (frame_at f lc qc hs) (maybe lc (λ x. pushed x lc) v) (qc + 1) hs fs w

    pub returns_now : (cells : List Cell) (l lc : LocalState) (q qc : ℕ) (f : Frame) (hs : List Handling) (fs : List Frame) (w : World) (v : Option Value)
        → slice_get code q ≡ Some ret → kept_as p (under [] [] result) (storage p (under [] [] result)) l.stack ≡ Some v → Stay p f (qc + 1) hs
        → plain_step p (record { frames = frame_at (callee m cells) l q [] ∷ frame_at f lc qc hs ∷ fs; world = w }) ≡ at_place f (maybe lc (λ x. pushed x lc) v) (qc + 1) hs fs w
    returns_now cells l lc q qc f hs fs w v there e st =
        returns_behind cells l lc q qc f hs fs w v there e ∙ ap (λ z. at_place f (maybe lc (λ x. pushed x lc) v) (qc + 1) z fs w) st

  -- ---- enter and leave

  adds_one : (here : Here) (d : ℕ) (rest : List Value) (l : LocalState) → d ≤ 200 → Does p here add (with_stack l (I4 (pos 1) ∷ I4 (pos d) ∷ rest)) (with_stack l (I4 (pos (d + 1)) ∷ rest))
  adds_one here d rest l le w = does_add p here (pos d) (pos 1) rest l w ∙ ap (λ z. GoOn [] (with_stack l (I4 z ∷ rest))) (one_more d le)

  subtracts_one : (here : Here) (d : ℕ) (rest : List Value) (l : LocalState) → d ≤ 200 → Does p here sub (with_stack l (I4 (pos 1) ∷ I4 (pos (d + 1)) ∷ rest)) (with_stack l (I4 (pos d) ∷ rest))
  subtracts_one here d rest l le w = does_sub p here (pos (d + 1)) (pos 1) rest l w ∙ ap (λ z. GoOn [] (with_stack l (I4 z ∷ rest))) (one_less d le)

  module _ (m top : ℕ) (s : IsStaticCode p m [] int32 (enter_code r.assembly r.depth top)) where
    abbrev g : Frame
    g = callee m []

    stand : (j : ℕ) (i : Rattle.cil_model.specs.declared.body.Instr.Instr) → slice_get (enter_code r.assembly r.depth top) j ≡ Some i → slice_get (body_of p m).instrs j ≡ Some i
    stand j i e = ap (λ is. slice_get is j) (code_is m [] int32 (enter_code r.assembly r.depth top) s) ∙ e

    gives_int : (e : ℕ) (rest : List Value) → e ≤ 200 → kept_as p (under [] [] int32) (storage p (under [] [] int32)) (I4 (pos e) ∷ rest) ≡ Some (Some (I4 (pos e)))
    unfolding storage prim_storage types.out-Ty values.out-Value denote.Hole.Carrier.out
    gives_int e rest le = ap (option_map Some) (int_kept p e le)

    pub enter_runs : (f : Frame) (l : LocalState) (q : ℕ) (hs : List Handling) (fs : List Frame) (w : World) (a : ℕ) (t : Token) (d : ℕ) (b : Bool)
        → slice_get (body_of p f.method).instrs q ≡ Some (call a t) → meaning_of p a t ≡ Some (OfMethod (Known c) m []) → HasDepth d (depth_in w) → d ≤ 150 → Stay p f (q + 1) hs → nat_le d top ≡ b
        → Comes p 10 (at_place f l q hs fs w) (entered c b d f l q hs fs w)
    enter_runs f l q hs fs w a t d b there token h small st test =
        let under : List Frame = frame_at f l q hs ∷ fs in
        let here : Here = here_of g under in
        let l1 = pushed (I4 (pos d)) g.local in
        let l2 = pushed (I4 (pos top)) l1 in
        one_step p f l q hs fs w 9 _ _ (calls m [] int32 (enter_code r.assembly r.depth top) s f l l q hs fs w a t [] [] d there token (none_needed (length l.stack)) refl refl refl h)
        (one_step p g g.local 0 [] under w 8 _ _ (loads_depth g g.local 0 [] under w d (stand 0 _ refl) h refl)
        (one_step p g l1 1 [] under w 7 _ _ (goes_one p g l1 l2 1 [] under w (ldc (pos top)) (stand 1 _ refl) (does_ldc p here (pos top) l1) refl)
        (by_test b test)))
      where
        under0 : List Frame
        under0 = frame_at f l q hs ∷ fs

        m2 : LocalState
        m2 = pushed (I4 (pos top)) (pushed (I4 (pos d)) g.local)

        by_test : (x : Bool) → nat_le d top ≡ x → Comes p 7 (at_place g m2 2 [] under0 w) (entered c x d f l q hs fs w)
        by_test true e =
            let here : Here = here_of g under0 in
            let l0 = g.local in
            let w2 : World = set_depth (d + 1) w in
            one_step p g m2 2 [] under0 w 6 _ _ (goes_one p g m2 l0 2 [] under0 w (bgt 9) (stand 2 _ refl) (λ v. tests_bgt p here 9 (pos d) (pos top) [] l0 v ∙ ap (λ z. picked p here z 9 l0 v) (guarded d top e)) refl)
            (one_step p g l0 3 [] under0 w 5 _ _ (loads_depth g l0 3 [] under0 w d (stand 3 _ refl) h refl)
            (one_step p g (pushed (I4 (pos d)) l0) 4 [] under0 w 4 _ _ (goes_one p g (pushed (I4 (pos d)) l0) (with_stack l0 (I4 (pos 1) ∷ I4 (pos d) ∷ [])) 4 [] under0 w (ldc (pos 1)) (stand 4 _ refl) (does_ldc p here (pos 1) (pushed (I4 (pos d)) l0)) refl)
            (one_step p g (with_stack l0 (I4 (pos 1) ∷ I4 (pos d) ∷ [])) 5 [] under0 w 3 _ _ (goes_one p g (with_stack l0 (I4 (pos 1) ∷ I4 (pos d) ∷ [])) (with_stack l0 (I4 (pos (d + 1)) ∷ [])) 5 [] under0 w add (stand 5 _ refl) (adds_one here d [] l0 (omega (arith, small))) refl)
            (one_step p g (with_stack l0 (I4 (pos (d + 1)) ∷ [])) 6 [] under0 w 2 _ _ (stores_depth g l0 [] 6 [] under0 w d (d + 1) (stand 6 _ refl) h (omega (arith, small)) refl)
            (one_step p g l0 7 [] under0 w2 1 _ _ (goes_one p g l0 (pushed (I4 (pos 1)) l0) 7 [] under0 w2 (ldc (pos 1)) (stand 7 _ refl) (does_ldc p here (pos 1) l0) refl)
            (one_step p g (pushed (I4 (pos 1)) l0) 8 [] under0 w2 0 _ _ (returns_now m [] int32 (enter_code r.assembly r.depth top) s [] (pushed (I4 (pos 1)) l0) l 8 q f hs fs w2 (Some (I4 (pos 1))) refl (gives_int 1 [] (omega arith)) st)
            (comes_at_once p 0 _ _ refl)))))))
        by_test false e =
            let here : Here = here_of g under0 in
            let l0 = g.local in
            comes_within p 3 7 _ _ (omega arith)
            (one_step p g m2 2 [] under0 w 2 _ _ (jumps_one p g m2 l0 2 9 [] under0 w (bgt 9) (stand 2 _ refl) (λ v. tests_bgt p here 9 (pos d) (pos top) [] l0 v ∙ ap (λ z. picked p here z 9 l0 v) (over d top e)) refl)
            (one_step p g l0 9 [] under0 w 1 _ _ (goes_one p g l0 (pushed (I4 (pos 0)) l0) 9 [] under0 w (ldc (pos 0)) (stand 9 _ refl) (does_ldc p here (pos 0) l0) refl)
            (one_step p g (pushed (I4 (pos 0)) l0) 10 [] under0 w 0 _ _ (returns_now m [] int32 (enter_code r.assembly r.depth top) s [] (pushed (I4 (pos 0)) l0) l 10 q f hs fs w (Some (I4 (pos 0))) refl (gives_int 0 [] (omega arith)) st)
            (comes_at_once p 0 _ _ refl))))

  module _ (s : IsStaticCode p r.leave [] nothing (leave_code r.assembly r.depth)) where
    abbrev h : Frame
    h = callee r.leave []

    stands_at : (j : ℕ) (i : Rattle.cil_model.specs.declared.body.Instr.Instr) → slice_get (leave_code r.assembly r.depth) j ≡ Some i → slice_get (body_of p r.leave).instrs j ≡ Some i
    stands_at j i e = ap (λ is. slice_get is j) (code_is r.leave [] nothing (leave_code r.assembly r.depth) s) ∙ e

    gives_none : (stack : List Value) → kept_as p (under [] [] nothing) (storage p (under [] [] nothing)) stack ≡ Some None
    unfolding storage prim_storage types.out-Ty denote.Hole.Carrier.out
    gives_none stack = refl

    pub leave_runs : (f : Frame) (l : LocalState) (q : ℕ) (hs : List Handling) (fs : List Frame) (w : World) (a : ℕ) (t : Token) (d : ℕ)
        → slice_get (body_of p f.method).instrs q ≡ Some (call a t) → meaning_of p a t ≡ Some (OfMethod (Known c) r.leave []) → HasDepth (d + 1) (depth_in w) → d ≤ 150 → Stay p f (q + 1) hs
        → Comes p 6 (at_place f l q hs fs w) (at_place f l (q + 1) hs fs (set_depth d w))
    leave_runs f l q hs fs w a t d there token deep small st =
        let under : List Frame = frame_at f l q hs ∷ fs in
        let here : Here = here_of h under in
        let l0 = h.local in
        let w2 : World = set_depth d w in
        one_step p f l q hs fs w 5 _ _ (calls r.leave [] nothing (leave_code r.assembly r.depth) s f l l q hs fs w a t [] [] (d + 1) there token (none_needed (length l.stack)) refl refl refl deep)
        (one_step p h l0 0 [] under w 4 _ _ (loads_depth h l0 0 [] under w (d + 1) (stands_at 0 _ refl) deep refl)
        (one_step p h (pushed (I4 (pos (d + 1))) l0) 1 [] under w 3 _ _ (goes_one p h (pushed (I4 (pos (d + 1))) l0) (with_stack l0 (I4 (pos 1) ∷ I4 (pos (d + 1)) ∷ [])) 1 [] under w (ldc (pos 1)) (stands_at 1 _ refl) (does_ldc p here (pos 1) (pushed (I4 (pos (d + 1))) l0)) refl)
        (one_step p h (with_stack l0 (I4 (pos 1) ∷ I4 (pos (d + 1)) ∷ [])) 2 [] under w 2 _ _ (goes_one p h (with_stack l0 (I4 (pos 1) ∷ I4 (pos (d + 1)) ∷ [])) (with_stack l0 (I4 (pos d) ∷ [])) 2 [] under w sub (stands_at 2 _ refl) (subtracts_one here d [] l0 (omega (arith, small))) refl)
        (one_step p h (with_stack l0 (I4 (pos d) ∷ [])) 3 [] under w 1 _ _ (stores_depth h l0 [] 3 [] under w (d + 1) d (stands_at 3 _ refl) deep (omega (arith, small)) refl)
        (one_step p h l0 4 [] under w2 0 _ _ (returns_now r.leave [] nothing (leave_code r.assembly r.depth) s [] l0 l 4 q f hs fs w2 None refl (gives_none []) st)
        (comes_at_once p 0 _ _ refl))))))
