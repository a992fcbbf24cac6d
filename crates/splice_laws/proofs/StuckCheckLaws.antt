-- A check whose condition or message isn't there, or isn't of its kind, is stuck.
use Rattle.std.proofs.Common.{◌≡◌, ℕ, ◌+◌, ◌≤◌, Bool, true, false, List, [], ◌∷◌, Option, Some, None, refl, sym, ap, ◌∙◌, subst, arith}
use Rattle.std.specs.Prelude.{slice_get, slice_set, option_map, option_and_then}
use Rattle.cil_base.specs.declared.token.Token.{Token}
use Rattle.cil_model.specs.declared.ty.Ty.{Ty}
use Rattle.cil_model.specs.declared.value.Value.{Value, out-Value, Null}
use Rattle.cil_model.specs.declared.body.Instr.{Instr}
use Rattle.cil_model.specs.declared.contract.Contracts.{Contracts}
use Rattle.cil_model.specs.declared.program.Program.{Program}
use Rattle.cil_semantics.specs.Core.{string_ty}
use Rattle.cil_semantics.specs.declared.state.Cell.{Cell}
use Rattle.il_opcodes.specs.declared.class.Storage.{Storage}
use Rattle.il_opcodes.specs.declared.class.Bits.TheVariants.{B8}
use Rattle.il_opcodes.specs.declared.class.Storage.TheVariants.{Truncated, Reference}
use Rattle.cil_semantics.specs.Places.{storage, stored, set_cell, stored_in}
use Rattle.cil_semantics.specs.declared.state.Local.{Local as LocalState}
use Rattle.cil_semantics.specs.declared.state.World.{World}
use Rattle.cil_semantics.specs.declared.state.Statics.{Statics}
use Rattle.cil_semantics.specs.declared.state.Handling.{Handling}
use Rattle.cil_semantics.specs.declared.state.Frame.{Frame}
use Rattle.cil_semantics.specs.State.{Next, with_stack}
use Rattle.cil_semantics.specs.declared.state.Continuation.{Continuation}
use Rattle.il_opcodes.specs.Opcodes.{class_of, opcode_of, the_opcodes}
use Rattle.cil_semantics.specs.Tokens.{Here}
use Rattle.cil_semantics.specs.Acts.{Stuck, if_some, GoOn}
use Rattle.cil_semantics.specs.Instructions.{act, act_of_class}
use Rattle.cil_semantics.specs.Unwind.{body_of, here_of}
use Rattle.cil_semantics.specs.Frames.{stuck}
use Rattle.cil_semantics.specs.Checks.{AddedNumbers, condition_in, condition_from, bool_in}
use Rattle.machine_laws.specs.Same.{most_clauses}
use Rattle.splice_facts.specs.Comes.{Comes}
use Rattle.splice_facts.specs.Grown.{grow, beside}
use Rattle.splice_facts.specs.Layout.{Depths, Marks, Keeps}
use Rattle.splice_facts.specs.Spliced.{Paired, from_here, cost}
use Rattle.splice_laws.specs.Straight.{stloc, at_place, StandAt, Stay, Acts_so}
use Rattle.splice_laws.specs.HelperRuns.{HelpersRun}
use Rattle.splice_laws.specs.EntryCode.{Tools, Reporting, stores, check_code, bool_ty}
use Rattle.splice_facts.proofs.ComesLaws.{comes_at_once, comes_within}
use Rattle.splice_facts.proofs.StoreLaws.{IsPlain, stored_plain}
use Rattle.splice_laws.proofs.StraightLaws.{one_step, goes_one, steps_by, world_back}
use Rattle.splice_laws.proofs.SeamLocalLaws.{cell_of, keeps_set}
use Rattle.splice_laws.proofs.CheckLaws.{at_me, seam_get, seam_store, bool_holds, string_holds, typed_cell, base}

-- a check begins so
pub first_stores : (is : List Instr) (q a n : ℕ) (t : Tools) (label : Token) (on : ℕ) (b : Bool) → StandAt is q (check_code b a t n label on) → StandAt is q (stores b t)
first_stores is q a n t label on true c = (c.0, ((c.1).0, tt))
first_stores is q a n t label on false c = (c.0, tt)

pub none_of : {X Y : Type 0} (f : X → Y) (o : Option X) → option_map f o ≡ None → o ≡ None
none_of f None e = refl
none_of f (Some x) e = absurd (cc e)

module _ (p' : Program) (here : Here) where
  pub acts_empty : (i : ℕ) (l : LocalState) → Acts_so p' here (stloc i) (with_stack l []) (λ w. Stuck)
  unfolding act act_of_class class_of opcode_of the_opcodes
  acts_empty i l w = refl

  pub acts_unkept : (i : ℕ) (v : Value) (rest : List Value) (l : LocalState) → option_and_then (set_cell p' v) (slice_get l.locals i) ≡ None → Acts_so p' here (stloc i) (with_stack l (v ∷ rest)) (λ w. Stuck)
  unfolding act act_of_class class_of opcode_of the_opcodes
  acts_unkept i v rest l e w = ap (λ o. if_some o (λ (x : Cell). GoOn [] (record l { locals = slice_set l.locals i x; stack = rest }))) e

module _ (p : Program) (k : Contracts) (p' : Program) (g : AddedNumbers) (n : ℕ) (depths : Depths n g) (r : HelpersRun p' g k.settings.throwing depths.owner k.settings.guard) (me : ℕ) (m : Marks) (e : Reporting p' r.assembly depths.owner r.fail me m) (many : 1 ≤ most_clauses k p 0 p.methods) where
  module _ (f : Frame) (fs fs' : List Frame) (w : World) (ex : List Cell) (ss : List Statics) (b : Continuation) (hs : List Handling) (a : f.method ≡ me) (s : Paired p k p' g n depths m f fs fs' w ex ss) (S2 : (at : ℕ) → at ≡ m.places f.at + 1 → Stay p' (base p k p' g n depths r me m e f b) at hs) where
    abbrev F : Frame
    F = base p k p' g n depths r me m e f b

    abbrev S : ℕ
    S = m.places f.at

    abbrev W : World
    W = beside ss w

    abbrev from : Next
    from = from_here p k p' g n depths m f ex b fs' w ss hs

    from_stack : (st : List Value) → f.local.stack ≡ st → at_place F (with_stack (grow ex f.local) st) S hs fs' W ≡ from
    from_stack st es = ap (λ z. at_place F (with_stack (grow ex f.local) z) S hs fs' W) (sym es)

    gets_stuck : (l : LocalState) (S1 : ℕ) (t : ℕ) → slice_get (body_of p' me).instrs S1 ≡ Some (stloc t) → Acts_so p' (here_of F fs') (stloc t) l (λ v. Stuck) → Comes p' 1 (at_place F l S1 hs fs' W) (stuck W)
    gets_stuck l S1 t there so =
        one_step p' F l S1 hs fs' W 0 _ _ (steps_by p' F l S1 hs fs' W (stloc t) (λ v. Stuck) (at_me p k p' g n depths r me m e F S1 _ a there) so ∙ ap (λ u. stuck u) (world_back W)) (comes_at_once p' 0 _ _ refl)

    unkept : (ex1 : List Cell) (t i1 : ℕ) (u : Ty) (h : Storage) (v : Value) → Keeps m (here_of f fs) f.thrown f.local ex1 → t ≡ m.old_locals + m.olds + i1 → slice_get (m.extra (here_of f fs)) i1 ≡ Some u → storage p' u ≡ h → IsPlain h → stored h v ≡ None → option_and_then (set_cell p' v) (slice_get (grow ex1 f.local).locals t) ≡ None
    unkept ex1 t i1 u h v kp et eu eh plain en =
        let o = cell_of ex1 (m.extra (here_of f fs)) i1 u kp.typed eu in
        ap (option_and_then (set_cell p' v)) (seam_get p k p' g n depths r me m e f.local ex1 t i1 o.cell kp.wide kp.caps et o.there)
        ∙ ap (λ y. option_map (λ z. typed_cell p' y z) (stored_in p' y v)) o.ty
        ∙ ap (option_map (λ z. typed_cell p' u z)) (stored_plain p' u h v eh plain ∙ en)

    -- the condition
    no_condition : (ex1 : List Cell) (S1 : ℕ) (st : List Value) (user : Value) → Keeps m (here_of f fs) f.thrown f.local ex1 → slice_get (body_of p' me).instrs S1 ≡ Some (stloc e.tools.condition) → condition_from user st ≡ None → Comes p' 1 (at_place F (with_stack (grow ex1 f.local) st) S1 hs fs' W) (stuck W)
    no_condition ex1 S1 [] user kp there none = gets_stuck (with_stack (grow ex1 f.local) []) S1 e.tools.condition there (acts_empty p' (here_of F fs') e.tools.condition (grow ex1 f.local))
    no_condition ex1 S1 (v ∷ rest) user kp there none =
        gets_stuck (with_stack (grow ex1 f.local) (v ∷ rest)) S1 e.tools.condition there
        (acts_unkept p' (here_of F fs') e.tools.condition v rest (grow ex1 f.local) (unkept ex1 e.tools.condition e.condition_at bool_ty (Truncated B8 false) v kp e.condition_is (e.condition_ty (here_of f fs) a) (bool_holds p') tt (none_of (λ x1. record { holds = bool_in (out-Value x1); user = user; rest = rest }) (stored (Truncated B8 false) v) none)))

    two_steps : (y z : Next) → y ≡ z → Comes p' 2 y (stuck W) → Comes p' (cost k p) z (stuck W)
    two_steps y z q1 c1 = comes_within p' 2 (cost k p) _ _ (omega (arith, many)) (subst (λ y1. Comes p' 2 y1 (stuck W)) q1 c1)

    pub stuck_at : (t : Bool) → StandAt (body_of p' me).instrs S (stores t e.tools) → (st : List Value) → f.local.stack ≡ st → condition_in t st ≡ None → Comes p' (cost k p) from (stuck W)
    stuck_at false code st es none = two_steps _ from (from_stack st es) (comes_within p' 1 2 _ _ (omega arith) (no_condition ex S st Null s.keeps code.0 none))
    stuck_at true code [] es none = two_steps _ from (from_stack [] es) (comes_within p' 1 2 _ _ (omega arith) (gets_stuck (with_stack (grow ex f.local) []) S e.tools.message code.0 (acts_empty p' (here_of F fs') e.tools.message (grow ex f.local))))
    stuck_at true code (u ∷ st) es none = two_steps _ from (from_stack (u ∷ st) es) (by_user (stored Reference u) refl none)
      where
        by_user : (o : Option Value) → stored Reference u ≡ o → option_and_then (λ user. condition_from user st) o ≡ None → Comes p' 2 (at_place F (with_stack (grow ex f.local) (u ∷ st)) S hs fs' W) (stuck W)
        by_user None so q1 =
            comes_within p' 1 2 _ _ (omega arith)
            (gets_stuck (with_stack (grow ex f.local) (u ∷ st)) S e.tools.message code.0 (acts_unkept p' (here_of F fs') e.tools.message u st (grow ex f.local) (unkept ex e.tools.message e.message_at string_ty Reference u s.keeps e.message_is (e.message_ty (here_of f fs) a) (string_holds p') tt so)))
        by_user (Some user) so q1 =
            let mc : Cell = typed_cell p' string_ty user in
            let ex1 = slice_set ex e.message_at mc in
            let mo = cell_of ex (m.extra (here_of f fs)) e.message_at string_ty (s.keeps).typed (e.message_ty (here_of f fs) a) in
            let k1 = keeps_set m (here_of f fs) f.thrown f.local ex e.message_at mc s.keeps (e.message_ty (here_of f fs) a) (e.apart_too.1).0 (e.apart_too.1).1 in
            one_step p' F (with_stack (grow ex f.local) (u ∷ st)) S hs fs' W 1 _ _
            (goes_one p' F (with_stack (grow ex f.local) (u ∷ st)) (with_stack (grow ex1 f.local) st) S hs fs' W (stloc e.tools.message) (at_me p k p' g n depths r me m e F S _ a code.0) (seam_store p k p' g n depths r me m e (here_of F fs') f.local ex e.tools.message e.message_at string_ty Reference u user st (s.keeps).wide (s.keeps).caps e.message_is mo (string_holds p') tt so) (S2 (S + 1) refl))
            (no_condition ex1 (S + 1) st user k1 (code.1).0 q1)
