-- The exit of a body: a lifted `ret` comes to the groups, and behind them the value is returned.
use Rattle.std.proofs.Common.{◌≡◌, ℕ, ◌+◌, Bool, true, false, List, [], ◌∷◌, ◌++◌, length, Option, Some, None, refl, sym, ap, ◌∙◌, subst, arith}
use Rattle.std.specs.Prelude.{filter, if◌then◌else◌, slice_get, slice_set, option_map, option_and_then}
use Rattle.cil_model.specs.declared.ty.Ty.{Ty}
use Rattle.cil_model.specs.declared.value.Value.{Value}
use Rattle.cil_model.specs.declared.contract.Contracts.{Contracts}
use Rattle.cil_model.specs.declared.contract.Group.TheVariants as group
use Rattle.cil_model.specs.declared.program.Program.{Program}
use Rattle.cil_semantics.specs.Types.{under}
use Rattle.cil_semantics.specs.Lookups.{method_of}
use Rattle.cil_semantics.specs.declared.state.Cell.{Cell}
use Rattle.il_opcodes.specs.declared.class.Storage.{Storage}
use Rattle.il_opcodes.specs.declared.class.Storage.TheVariants.{Truncated, Long, NativeInt, Reference, Address, Fields, Opaque, Anything, Void}
use Rattle.cil_semantics.specs.Places.{storage, is_void, set_cell, stored_in}
use Rattle.cil_semantics.specs.declared.state.World.{World}
use Rattle.cil_semantics.specs.declared.state.Statics.{Statics}
use Rattle.cil_semantics.specs.declared.state.Frame.{Frame}
use Rattle.cil_semantics.specs.declared.state.Continuation.{Continuation}
use Rattle.cil_semantics.specs.State.{with_stack, pushed}
use Rattle.cil_semantics.specs.Unwind.{body_of, here_of, in_handler, left_from, handled_at}
use Rattle.cil_semantics.specs.Returns.{result_type, returned, return_with, kept_as}
use Rattle.cil_semantics.specs.Acts.{Stuck, GoOn}
use Rattle.cil_semantics.specs.Checks.{AddedNumbers}
use Rattle.splice_facts.specs.Grown.{grow, beside}
use Rattle.splice_facts.specs.Layout.{Depths, Marks, Keeps, IsHere, fetch}
use Rattle.splice_facts.specs.Spliced.{Paired, Current, Stays, twin, stands, from_here, cost, Departs}
use Rattle.splice_laws.specs.Straight.{ldloc, stloc, br, at_place, frame_at, StandAt, Acts_so}
use Rattle.splice_facts.proofs.ComesLaws.{comes_at_once, comes_within, moves_within}
use Rattle.splice_laws.proofs.StraightLaws.{one_step, steps_by, world_back, goes_one, jumps_one, does_ldloc, does_stloc, jumps_br, first_step}
use Rattle.splice_laws.proofs.SeamLocalLaws.{extra_at, extra_set, get_set_same, get_set_other, map_set, CellOf, cell_of}
use Rattle.splice_facts.proofs.StoreLaws.{some_of}
use Rattle.cil_model.specs.declared.body.Instr.{Instr}
use Rattle.cil_model.specs.NoContracts.{no_contracts}
use Rattle.il_opcodes.specs.declared.class.Class.TheVariants as class
use Rattle.il_opcodes.specs.Opcodes.{class_of}
use Rattle.cil_semantics.specs.declared.state.Local.{Local as LocalState}
use Rattle.cil_semantics.specs.declared.state.Handling.{Handling}
use Rattle.cil_semantics.specs.declared.state.ProgramPoint.TheVariants.{Rest}
use Rattle.cil_semantics.specs.Contracted.{Plan}
use Rattle.cil_semantics.specs.Frames.{stuck}
use Rattle.machine_laws.specs.Same.{plain_step}
use Rattle.splice_facts.specs.Comes.{Comes, Goes}
use Rattle.splice_facts.specs.Input.{top_of, ReturnsAsNamed}
use Rattle.splice_laws.specs.ExitCode.{goes_to, lifted_code, exit_code, LiftedAt, ExitCode, ExitSeams}
use Rattle.splice_laws.proofs.LeavingLaws.{leaves_plainly}
use Rattle.splice_laws.proofs.ToldLaws.{rets_plainly}
use Rattle.splice_laws.proofs.StuckCheckLaws.{none_of, acts_empty, acts_unkept}

kept_value : (p : Program) (t : Ty) (h : Storage) (y : Value) (s : List Value) (x : Value) → kept_as p t h (y ∷ s) ≡ Some (Some x) → stored_in p t y ≡ Some x
kept_value p t Void y s x e = let q : None ≡ Some x = cc e in absurd (cc q)
kept_value p t (Truncated n b) y s x e = some_of (stored_in p t y) (Some x) e x refl
kept_value p t Long y s x e = some_of (stored_in p t y) (Some x) e x refl
kept_value p t NativeInt y s x e = some_of (stored_in p t y) (Some x) e x refl
kept_value p t Reference y s x e = some_of (stored_in p t y) (Some x) e x refl
kept_value p t Address y s x e = some_of (stored_in p t y) (Some x) e x refl
kept_value p t (Fields ts) y s x e = some_of (stored_in p t y) (Some x) e x refl
kept_value p t Opaque y s x e = some_of (stored_in p t y) (Some x) e x refl
kept_value p t Anything y s x e = some_of (stored_in p t y) (Some x) e x refl

none_kept : (p : Program) (t : Ty) (h : Storage) (y : Value) (s : List Value) → is_void h ≡ false → kept_as p t h (y ∷ s) ≡ None → stored_in p t y ≡ None
none_kept p t Void y s v e = absurd (cc v)
none_kept p t (Truncated n b) y s v e = none_of (λ z. Some z) (stored_in p t y) e
none_kept p t Long y s v e = none_of (λ z. Some z) (stored_in p t y) e
none_kept p t NativeInt y s v e = none_of (λ z. Some z) (stored_in p t y) e
none_kept p t Reference y s v e = none_of (λ z. Some z) (stored_in p t y) e
none_kept p t Address y s v e = none_of (λ z. Some z) (stored_in p t y) e
none_kept p t (Fields ts) y s v e = none_of (λ z. Some z) (stored_in p t y) e
none_kept p t Opaque y s v e = none_of (λ z. Some z) (stored_in p t y) e
none_kept p t Anything y s v e = none_of (λ z. Some z) (stored_in p t y) e

-- void returns nothing, and what isn't void returns a value
void_gives : (p : Program) (t : Ty) (h : Storage) (s : List Value) → is_void h ≡ true → kept_as p t h s ≡ Some None
void_gives p t Void s v = refl
void_gives p t (Truncated n b) s v = absurd (cc v)
void_gives p t Long s v = absurd (cc v)
void_gives p t NativeInt s v = absurd (cc v)
void_gives p t Reference s v = absurd (cc v)
void_gives p t Address s v = absurd (cc v)
void_gives p t (Fields ts) s v = absurd (cc v)
void_gives p t Opaque s v = absurd (cc v)
void_gives p t Anything s v = absurd (cc v)

never_none : {X : Type 0} (o : Option X) → option_map Some o ≡ Some None → ⊥
never_none None e = cc e
never_none {X} (Some x) e = let q : Some x ≡ the_none = cc e in cc q
  where
    the_none : Option X
    the_none = None

value_given : (p : Program) (t : Ty) (h : Storage) (s : List Value) → is_void h ≡ false → kept_as p t h s ≡ Some None → ⊥
value_given p t Void s v e = cc v
value_given p t (Truncated n b) [] v e = cc e
value_given p t Long [] v e = cc e
value_given p t NativeInt [] v e = cc e
value_given p t Reference [] v e = cc e
value_given p t Address [] v e = cc e
value_given p t (Fields ts) [] v e = cc e
value_given p t Opaque [] v e = cc e
value_given p t Anything [] v e = cc e
value_given p t (Truncated n b) (y ∷ s) v e = never_none (stored_in p t y) e
value_given p t Long (y ∷ s) v e = never_none (stored_in p t y) e
value_given p t NativeInt (y ∷ s) v e = never_none (stored_in p t y) e
value_given p t Reference (y ∷ s) v e = never_none (stored_in p t y) e
value_given p t Address (y ∷ s) v e = never_none (stored_in p t y) e
value_given p t (Fields ts) (y ∷ s) v e = never_none (stored_in p t y) e
value_given p t Opaque (y ∷ s) v e = never_none (stored_in p t y) e
value_given p t Anything (y ∷ s) v e = never_none (stored_in p t y) e

-- only the value on top counts
tops_of : (p : Program) (t : Ty) (h : Storage) (x : Value) (s : List Value) (u : Option Value) → is_void h ≡ false → kept_as p t h (x ∷ []) ≡ Some u → kept_as p t h (x ∷ s) ≡ Some u
tops_of p t Void x s u v e = absurd (cc v)
tops_of p t (Truncated n b) x s u v e = e
tops_of p t Long x s u v e = e
tops_of p t NativeInt x s u v e = e
tops_of p t Reference x s u v e = e
tops_of p t Address x s u v e = e
tops_of p t (Fields ts) x s u v e = e
tops_of p t Opaque x s u v e = e
tops_of p t Anything x s u v e = e

-- handlers that don't hold the place aren't pending there
none_pending : (test : Handling → Bool) (hs : List Handling) → ((h : Handling) → test h ≡ false) → filter test hs ≡ hs → hs ≡ []
none_pending test hs none e = sym e ∙ all_out hs
  where
    all_out : (xs : List Handling) → filter test xs ≡ []
    all_out [] = refl
    all_out (x ∷ xs) = ap (λ b. if b then x ∷ filter test xs else filter test xs) (none x) ∙ all_out xs

module _ (p : Program) (k : Contracts) (p' : Program) (g : AddedNumbers) (n : ℕ) (depths : Depths n g) (me : ℕ) (plan : Plan) (m : Marks) (e : ExitCode p k p' g n depths me plan m) where
  abbrev EXIT : ℕ
  EXIT = m.door group.Exit

  abbrev base : Frame → Continuation → Frame
  base f b = twin p k p' g n depths f f.local [] 0 [] b

  at_me : (f : Frame) (q : ℕ) (i : Instr) → f.method ≡ me → slice_get (body_of p' me).instrs q ≡ Some i → slice_get (body_of p' f.method).instrs q ≡ Some i
  at_me f q i a there = ap (λ z. slice_get (body_of p' z).instrs q) a ∙ there

  -- br or leave
  goes : (f : Frame) (b : Continuation) (l : LocalState) (q : ℕ) (fs' : List Frame) (w : World) (t : Bool) → f.method ≡ me → slice_get (body_of p' me).instrs q ≡ Some (goes_to t EXIT) → left_from 0 0 q EXIT (body_of p' me).regions ≡ None
      → plain_step p' (record { frames = frame_at (base f b) (with_stack l []) q [] ∷ fs'; world = w }) ≡ at_place (base f b) (with_stack l []) EXIT [] fs' w
  goes f b l q fs' w true a there none = leaves_plainly p' (base f b) (with_stack l []) q EXIT [] fs' w (at_me f q _ a there) (ap (λ z. left_from 0 0 q EXIT (body_of p' z).regions) a ∙ none) refl
  goes f b l q fs' w false a there none = jumps_one p' (base f b) (with_stack l []) (with_stack l []) q EXIT [] fs' w (br EXIT) (at_me f q _ a there) (jumps_br p' (here_of (base f b) fs') EXIT (with_stack l [])) refl

  module _ (f : Frame) (fs fs' : List Frame) (w : World) (ex : List Cell) (ss : List Statics) (b : Continuation) (a : f.method ≡ me) (named : ReturnsAsNamed p f) (s : Paired p k p' g n depths m f fs fs' w ex ss) where
    kind_of : is_void (storage p (result_type p f)) ≡ e.void
    kind_of = named ∙ ap (λ z. is_void (storage p (method_of p z).result)) a ∙ sym e.void_is

    abbrev F : Frame
    F = base f b

    abbrev W : World
    W = beside ss w

    abbrev cell : Value → Cell
    cell x = record { ty = result_type p f; value = x }

    abbrev stored_at : Value → List Cell
    stored_at x = slice_set ex m.result_at (cell x)

    o : e.void ≡ false → CellOf ex m.result_at (result_type p f)
    o nv = cell_of ex (m.extra (here_of f fs)) m.result_at (result_type p f) (s.keeps).typed (e.result_ty nv (here_of f fs) a ∙ ap (λ z. Some (under f.type_args f.method_args (method_of p z).result)) (sym a))

    kept : e.void ≡ false → (x : Value) → Keeps m (here_of f fs) f.thrown (with_stack (record f.local { result = Some x }) []) (stored_at x)
    kept nv x =
        record {
          wide = (s.keeps).wide;
          caps = (s.keeps).caps;
          typed = map_set (λ (z : Cell). z.ty) ex m.result_at (o nv).cell (cell x) (o nv).there (sym (o nv).ty) ∙ (s.keeps).typed;
          result = λ v h. let q : x ≡ v = cc h in ap (option_map (λ (z : Cell). z.value)) (get_set_same ex m.result_at (o nv).cell (cell x) (o nv).there) ∙ ap Some q;
          thrown = λ y h. ap (option_map (λ (z : Cell). z.value)) (get_set_other ex m.result_at m.thrown_at (cell x) e.apart) ∙ (s.keeps).thrown y h;
        }

    there : (nv : e.void ≡ false) → slice_get (grow ex f.local).locals e.result ≡ Some (o nv).cell
    there nv = ap (slice_get (grow ex f.local).locals) e.result_is ∙ extra_at m.old_locals m.olds f.local.locals f.local.captured ex m.result_at (s.keeps).wide (s.keeps).caps ∙ (o nv).there

    after : (x : Value) → slice_set (grow ex f.local).locals e.result (cell x) ≡ f.local.locals ++ (f.local.captured ++ stored_at x)
    after x = ap (λ j. slice_set (grow ex f.local).locals j (cell x)) e.result_is ∙ extra_set m.old_locals m.olds f.local.locals f.local.captured ex m.result_at (cell x) (s.keeps).wide (s.keeps).caps

    cell_of_value : (nv : e.void ≡ false) (y : Value) → option_and_then (set_cell p' y) (slice_get (grow ex f.local).locals e.result) ≡ option_map (λ v. cell v) (stored_in p (result_type p f) y)
    cell_of_value nv y =
        ap (option_and_then (set_cell p' y)) (there nv) ∙ ap (λ t. option_map (λ v. record { ty = t; value = v }) (stored_in p' t y)) (o nv).ty
        ∙ ap (option_map (λ v. cell v)) (e.same_stored (result_type p f) y)

    -- stloc result; then to the exit
    stores : (nv : e.void ≡ false) (q : ℕ) (x y : Value) → StandAt (body_of p' me).instrs q (stloc e.result ∷ goes_to e.wrapped EXIT ∷ []) → left_from 0 0 (q + 1) EXIT (body_of p' me).regions ≡ None → stored_in p (result_type p f) y ≡ Some x
        → Goes p' 2 (at_place F (with_stack (grow ex f.local) (y ∷ [])) q [] fs' W) (at_place F (grow (stored_at x) (with_stack f.local [])) EXIT [] fs' W)
    stores nv q x y code none put =
        first_step p' F (with_stack (grow ex f.local) (y ∷ [])) q [] fs' W 1 _ _
        (goes_one p' F (with_stack (grow ex f.local) (y ∷ [])) (grow (stored_at x) (with_stack f.local [])) q [] fs' W (stloc e.result) (at_me f q _ a code.0)
        (λ v. does_stloc p' (here_of F fs') e.result y [] (cell x) (grow ex f.local) (cell_of_value nv y ∙ ap (option_map (λ z. cell z)) put) v ∙ ap (λ ls. GoOn [] (record (grow ex f.local) { locals = ls; stack = [] })) (after x)) refl)
        (one_step p' F (grow (stored_at x) (with_stack f.local [])) (q + 1) [] fs' W 0 _ _ (goes f b (grow (stored_at x) f.local) (q + 1) fs' W e.wrapped a (code.1).0 none) (comes_at_once p' 0 _ _ refl))

    module _ (hs : List Handling) (q : ℕ) (i : Instr) (at : f.at ≡ Rest q) (here : IsHere (Some plan) f.at) (stands_there : fetch p k g (Some plan) me f.at ≡ Some i) (is_ret : class_of i.op ≡ class.Return) (current : Current p k p' g n depths me f.at hs) where
      lifted : LiftedAt p k p' g n depths me plan m e.void e.wrapped e.result q
      lifted = e.lifted q i (subst (IsHere (Some plan)) at here) (subst (λ z. fetch p k g (Some plan) me z ≡ Some i) at stands_there) is_ret

      idle : hs ≡ []
      idle = none_pending (in_handler (body_of p me).regions q) hs (λ h. lifted.unhandled h) (subst (λ z. handled_at (body_of p me).regions z hs ≡ hs) at current.1)

      abbrev S : ℕ
      S = m.places (Rest q)

      from_stack : (st : List Value) → f.local.stack ≡ st → at_place F (with_stack (grow ex f.local) st) S [] fs' W ≡ from_here p k p' g n depths m f ex b fs' w ss hs
      from_stack st es =
          ap (λ z. at_place F (with_stack (grow ex f.local) z) S [] fs' W) (sym es) ∙ ap (λ z. at_place F (grow ex f.local) (m.places z) [] fs' W) (sym at) ∙ ap (λ z. at_place F (grow ex f.local) (m.places f.at) z fs' W) (sym idle)

      abbrev Goal : Option Value → Type 0
      Goal v = Departs p k p' g n depths m (cost k p) (from_here p k p' g n depths m f ex b fs' w ss hs) f fs (with_stack (record f.local { result = v }) []) EXIT b fs' w

      departs : (ex1 : List Cell) (v : Option Value) → Keeps m (here_of f fs) f.thrown (with_stack (record f.local { result = v }) []) ex1 → Goes p' (cost k p) (from_here p k p' g n depths m f ex b fs' w ss hs) (at_place F (grow ex1 (with_stack f.local [])) EXIT [] fs' W) → Goal v
      departs ex1 v kept1 c = record { arrives = record { extra = ex1; keeps = kept1; statics = ss; beside = s.beside; comes = c.comes }; moves = c.moves }

      with_value : (nv : e.void ≡ false) (x y : Value) → f.local.stack ≡ y ∷ [] → StandAt (body_of p' me).instrs S (lifted_code false e.wrapped e.result EXIT) → stored_in p (result_type p f) y ≡ Some x → Goal (Some x)
      with_value nv x y es code put =
          departs (stored_at x) (Some x) (kept nv x)
          (moves_within p' 2 (cost k p) _ _ (omega arith) (subst (λ z. Goes p' 2 z (at_place F (grow (stored_at x) (with_stack f.local [])) EXIT [] fs' W)) (from_stack (y ∷ []) es) (stores nv S x y code (lifted.passes (S + 1) (omega arith) (omega arith)) put)))

      without : f.local.stack ≡ [] → StandAt (body_of p' me).instrs S (lifted_code true e.wrapped e.result EXIT) → Goal None
      without es code =
          departs ex None (record { wide = (s.keeps).wide; caps = (s.keeps).caps; typed = (s.keeps).typed; result = λ v h. absurd (cc h); thrown = (s.keeps).thrown })
          (moves_within p' 1 (cost k p) _ _ (omega arith)
          (subst (λ z. Goes p' 1 z (at_place F (grow ex (with_stack f.local [])) EXIT [] fs' W)) (from_stack [] es)
          (first_step p' F (with_stack (grow ex f.local) []) S [] fs' W 0 _ _ (goes f b (grow ex f.local) S fs' W e.wrapped a code.0 (lifted.passes S (omega arith) (omega arith))) (comes_at_once p' 0 _ _ refl))))

      as_void : (t : Bool) → e.void ≡ t → is_void (storage p (result_type p f)) ≡ t
      as_void t h = kind_of ∙ h

      pub lifts : (v : Option Value) → returned p f f.local.stack ≡ Some v → length f.local.stack ≡ length (top_of v) → Goal v
      lifts v gives long = by_void e.void refl (lifted.code)
        where
          by_stack : (nv : e.void ≡ false) → StandAt (body_of p' me).instrs S (lifted_code false e.wrapped e.result EXIT) → (x : Value) (st : List Value) → f.local.stack ≡ st → returned p f st ≡ Some (Some x) → length st ≡ 1 → Goal (Some x)
          by_stack nv code x [] es rt len = absurd (omega (arith, len))
          by_stack nv code x (y ∷ z ∷ st) es rt len = absurd (omega (arith, len))
          by_stack nv code x (y ∷ []) es rt len = with_value nv x y es code (kept_value p (result_type p f) (storage p (result_type p f)) y [] x rt)

          by_value : (nv : e.void ≡ false) → StandAt (body_of p' me).instrs S (lifted_code false e.wrapped e.result EXIT) → (u : Option Value) → returned p f f.local.stack ≡ Some u → length f.local.stack ≡ length (top_of u) → Goal u
          by_value nv code None rt len = absurd (value_given p (result_type p f) (storage p (result_type p f)) f.local.stack (as_void false nv) rt)
          by_value nv code (Some x) rt len = by_stack nv code x f.local.stack refl rt len

          empty : (st : List Value) → length st ≡ 0 → st ≡ []
          empty [] h = refl
          empty (y ∷ st) h = absurd (omega (arith, h))

          by_void : (t : Bool) → e.void ≡ t → StandAt (body_of p' me).instrs S (lifted_code t e.wrapped e.result EXIT) → Goal v
          by_void false h code = by_value h code v gives long
          by_void true h code =
              let nothing : Some None ≡ Some v = sym (void_gives p (result_type p f) (storage p (result_type p f)) f.local.stack (as_void true h)) ∙ gives in
              let same : None ≡ v = cc nothing in
              subst Goal same (without (empty f.local.stack (long ∙ ap (λ u. length (top_of u)) (sym same))) code)

      pub lifts_stuck : returned p f f.local.stack ≡ None → Comes p' (cost k p) (from_here p k p' g n depths m f ex b fs' w ss hs) (stuck W)
      lifts_stuck gives = by_void e.void refl lifted.code
        where
          one_stuck : (st : List Value) → f.local.stack ≡ st → slice_get (body_of p' me).instrs S ≡ Some (stloc e.result) → Acts_so p' (here_of F fs') (stloc e.result) (with_stack (grow ex f.local) st) (λ v. Stuck) → Comes p' (cost k p) (from_here p k p' g n depths m f ex b fs' w ss hs) (stuck W)
          one_stuck st es code so =
              comes_within p' 1 (cost k p) _ _ (omega arith)
              (subst (λ z. Comes p' 1 z (stuck W)) (from_stack st es)
              (one_step p' F (with_stack (grow ex f.local) st) S [] fs' W 0 _ _ (steps_by p' F (with_stack (grow ex f.local) st) S [] fs' W (stloc e.result) (λ v. Stuck) (at_me f S _ a code) so ∙ ap (λ u. stuck u) (world_back W)) (comes_at_once p' 0 _ _ refl)))

          by_stack : e.void ≡ false → StandAt (body_of p' me).instrs S (lifted_code false e.wrapped e.result EXIT) → (st : List Value) → f.local.stack ≡ st → returned p f st ≡ None → Comes p' (cost k p) (from_here p k p' g n depths m f ex b fs' w ss hs) (stuck W)
          by_stack nv code [] es rt = one_stuck [] es code.0 (acts_empty p' (here_of F fs') e.result (grow ex f.local))
          by_stack nv code (y ∷ st) es rt =
              one_stuck (y ∷ st) es code.0
              (acts_unkept p' (here_of F fs') e.result y st (grow ex f.local) (cell_of_value nv y ∙ ap (option_map (λ z. cell z)) (none_kept p (result_type p f) (storage p (result_type p f)) y st (as_void false nv) rt)))

          by_void : (t : Bool) → e.void ≡ t → StandAt (body_of p' me).instrs S (lifted_code t e.wrapped e.result EXIT) → Comes p' (cost k p) (from_here p k p' g n depths m f ex b fs' w ss hs) (stuck W)
          by_void false h code = by_stack h code f.local.stack refl gives
          by_void true h code = let z : Some None ≡ None = sym (void_gives p (result_type p f) (storage p (result_type p f)) f.local.stack (as_void true h)) ∙ gives in absurd (cc z)

    -- behind the groups
    pub returns_it : Stays p k p' g n depths plan f f.local.result → Comes p' (cost k p) (stands p k p' g n depths f f.local ex (m.out group.Invariant) b fs' w ss) (return_with p' no_contracts b f.local.args f.local.result fs' W)
    returns_it st = by_void e.void refl e.exits
      where
        R : ℕ
        R = m.out group.Invariant

        by_result : e.void ≡ false → StandAt (body_of p' me).instrs R (exit_code false e.result) → (u : Option Value) → f.local.result ≡ u → returned p f (top_of u) ≡ Some u → Comes p' 2 (at_place F (grow ex f.local) R [] fs' W) (return_with p' no_contracts b f.local.args u fs' W)
        by_result nv code None er rt = absurd (value_given p (result_type p f) (storage p (result_type p f)) [] (kind_of ∙ nv) rt)
        by_result nv code (Some x) er rt =
            let c = (o nv).cell in
            let held : c.value ≡ x = (let z : Some c.value ≡ Some x = sym (ap (option_map (λ (y : Cell). y.value)) (o nv).there) ∙ (s.keeps).result x er in cc z) in
            one_step p' F (grow ex f.local) R [] fs' W 1 _ _
            (goes_one p' F (grow ex f.local) (pushed c.value (grow ex f.local)) R [] fs' W (ldloc e.result) (at_me f R _ a code.0) (does_ldloc p' (here_of F fs') e.result c (grow ex f.local) (there nv)) refl)
            (one_step p' F (pushed c.value (grow ex f.local)) (R + 1) [] fs' W 0 _ _
            (rets_plainly p' F (pushed c.value (grow ex f.local)) (R + 1) [] fs' W (Some x) (at_me f (R + 1) _ a (code.1).0)
            (ap (λ z. returned p' F (z ∷ f.local.stack)) held ∙ e.same_result F (x ∷ f.local.stack) a ∙ tops_of p (result_type p f) (storage p (result_type p f)) x f.local.stack (Some x) (kind_of ∙ nv) rt))
            (comes_at_once p' 0 _ _ refl))

        by_void : (t : Bool) → e.void ≡ t → StandAt (body_of p' me).instrs R (exit_code t e.result) → Comes p' (cost k p) (stands p k p' g n depths f f.local ex R b fs' w ss) (return_with p' no_contracts b f.local.args f.local.result fs' W)
        by_void false h code = comes_within p' 2 (cost k p) _ _ (omega arith) (by_result h code f.local.result refl st.1)
        by_void true h code =
            let nothing : Some None ≡ Some f.local.result = sym (void_gives p (result_type p f) (storage p (result_type p f)) (top_of f.local.result) (kind_of ∙ h)) ∙ st.1 in
            let same : None ≡ f.local.result = cc nothing in
            comes_within p' 1 (cost k p) _ _ (omega arith)
            (one_step p' F (grow ex f.local) R [] fs' W 0 _ _
            (rets_plainly p' F (grow ex f.local) R [] fs' W f.local.result (at_me f R _ a code.0) (e.same_result F f.local.stack a ∙ void_gives p (result_type p f) (storage p (result_type p f)) f.local.stack (kind_of ∙ h) ∙ nothing))
            (comes_at_once p' 0 _ _ refl))

  pub exit_seams : ExitSeams p k p' g n depths me plan m
  exit_seams =
      record {
        returns = λ f fs fs' w ex ss b a named st s. returns_it f fs fs' w ex ss b a named s st;
        lifts = λ f fs fs' w ex ss b hs q i v a named at here there_is ret_is s cu gives long. lifts f fs fs' w ex ss b a named s hs q i at here there_is ret_is cu v gives long;
        lifts_stuck = λ f fs fs' w ex ss b hs q i a named at here there_is ret_is s cu gives. lifts_stuck f fs fs' w ex ss b a named s hs q i at here there_is ret_is cu gives;
      }
