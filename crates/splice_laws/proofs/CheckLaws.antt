-- A check as instructions: it stores, tests and reports as the facts say, whichever handlers run.
use Rattle.std.proofs.Common.{◌≡◌, ℕ, ◌+◌, ◌<◌, ◌≤◌, Bool, true, false, List, [], ◌∷◌, length, Option, Some, None, refl, sym, ap, ◌∙◌, subst, arith}
use Rattle.std.specs.Prelude.{slice_get, slice_set, option_map, option_and_then, IsTrue, pos}
use Rattle.cil_base.specs.declared.token.Token.{Token}
use Rattle.cil_model.specs.declared.ty.Ty.{Ty, Known}
use Rattle.cil_model.specs.declared.ty.Ty as types
use Rattle.cil_model.specs.declared.value.Value.{Value, out-Value, I4, I8, Native, Null, Obj, Text, Ptr, Func, Struct', Opaque}
use Rattle.cil_model.specs.declared.value.Value as values
use Rattle.cil_model.specs.declared.value.Value.TheOpen.{Value-F}
use Rattle.cil_model.specs.declared.body.Instr.{Instr}
use Rattle.cil_model.specs.declared.contract.Contracts.{Contracts}
use Rattle.cil_model.specs.declared.contract.ClauseKind.{ClauseKind}
use Rattle.cil_model.specs.declared.program.Program.{Program}
use Rattle.cil_model.specs.declared.program.Meaning.TheVariants.{OfText}
use Rattle.cil_model.specs.Texts.{text_units}
use Rattle.cil_model.specs.NoContracts.{no_contracts}
use Rattle.cil_semantics.specs.Core.{Name, string_ty}
use Rattle.cil_semantics.specs.declared.state.Cell.{Cell}
use Rattle.il_opcodes.specs.declared.class.Storage.{Storage}
use Rattle.il_opcodes.specs.declared.class.Bits.TheVariants.{B8}
use Rattle.il_opcodes.specs.declared.class.Storage.TheVariants.{Truncated, Reference}
use Rattle.cil_semantics.specs.Places.{storage, prim_storage, stored, truncated_value, if_reference, set_cell, stored_in}
use Rattle.cil_semantics.specs.declared.state.Local.{Local as LocalState}
use Rattle.cil_semantics.specs.declared.state.World.{World}
use Rattle.cil_semantics.specs.declared.state.Statics.{Statics}
use Rattle.cil_semantics.specs.declared.state.ProgramPoint.TheVariants.{Rest}
use Rattle.cil_semantics.specs.declared.state.Handling.{Handling}
use Rattle.cil_semantics.specs.declared.state.Frame.{Frame}
use Rattle.cil_semantics.specs.State.{Next, with_stack}
use Rattle.cil_semantics.specs.declared.state.Continuation.{Continuation}
use Rattle.cil_semantics.specs.Tokens.{Here, meaning_of, meaning_here, token_here, if_little, meaning_under}
use Rattle.cil_semantics.specs.Acts.{truth}
use Rattle.cil_semantics.specs.Unwind.{body_of, here_of, goes_at, unwind}
use Rattle.cil_semantics.specs.Frames.{stuck}
use Rattle.cil_semantics.specs.Checks.{AddedNumbers, kind_number, Failure, Condition, condition_in, condition_from, bool_in, label_text, number_value}
use Rattle.machine_laws.specs.Same.{most_clauses}
use Rattle.splice_facts.specs.Comes.{Comes, Goes}
use Rattle.splice_facts.specs.Grown.{grow, beside}
use Rattle.splice_facts.specs.Layout.{Depths, Marks, Keeps}
use Rattle.cil_semantics.specs.Checks.{Sequel, failing}
use Rattle.splice_facts.specs.Spliced.{checking}
use Rattle.splice_facts.specs.Spliced.{Paired, twin, Checked, from_here, failure_cost}
use Rattle.splice_laws.specs.Straight.{ldc, ldloc, stloc, ldnull, ldstr, brtrue, call, frame_at, at_place, StandAt, Stay, Does}
use Rattle.splice_laws.specs.HelperRuns.{HelpersRun}
use Rattle.splice_laws.specs.EntryCode.{Reporting, reports, check_code, bool_ty}
use Rattle.splice_laws.specs.Fails.{NotMade, FitsFail, fail_cost}
use Rattle.splice_facts.proofs.ComesLaws.{comes_at_once, comes_within, moves_behind, moves_within}
use Rattle.splice_facts.proofs.StoreLaws.{IsPlain, stored_plain}
use Rattle.splice_laws.proofs.StraightLaws.{one_step, goes_one, jumps_behind, does_ldc, does_ldnull, does_ldloc, does_stloc, does_ldstr, tests_brtrue, first_step}
use Rattle.splice_laws.proofs.SeamLocalLaws.{extra_at, extra_set, get_set_same, get_set_other, CellOf, cell_of, keeps_set}

-- ---- what a condition and a message are

cut_truth_at : (v : Value-F Value) (x : Value) → truncated_value B8 false v ≡ Some x → truth x ≡ Some (bool_in (out-Value x))
unfolding values.out-Value denote.Hole.Carrier.out
cut_truth_at (Value-F.I4 z) x e = let s : I4 (Rattle.cil_semantics.specs.Numbers.truncated_small B8 false z) ≡ x = cc e in subst (λ y. truth y ≡ Some (bool_in (out-Value y))) s refl
cut_truth_at _ x e = absurd (cc e)

pub cut_truth : (v x : Value) → stored (Truncated B8 false) v ≡ Some x → truth x ≡ Some (bool_in (out-Value x))
cut_truth v x e = cut_truth_at (out-Value v) x e

same_reference : (o : Value-F Value) (v x : Value) → if_reference o v ≡ Some x → v ≡ x
same_reference Value-F.Null v x e = cc e
same_reference (Value-F.Obj k) v x e = cc e
same_reference (Value-F.Text u) v x e = cc e
same_reference _ v x e = absurd (cc e)

pub stored_twice : (v x : Value) → stored Reference v ≡ Some x → stored Reference x ≡ Some x
stored_twice v x e = subst (λ y. stored Reference y ≡ Some x) (same_reference (out-Value v) v x e) e

pub null_stored : stored Reference Null ≡ Some Null
unfolding values.out-Value denote.Hole.Carrier.out
null_stored = refl

module _ (p' : Program) where
  pub bool_holds : storage p' bool_ty ≡ Truncated B8 false
  unfolding storage prim_storage types.out-Ty denote.Hole.Carrier.out
  bool_holds = refl

  pub string_holds : storage p' string_ty ≡ Reference
  unfolding storage prim_storage types.out-Ty denote.Hole.Carrier.out
  string_holds = refl

  abbrev pub typed_cell : Ty → Value → Cell
  typed_cell t v = record { ty = t; value = v }

  sets : (t : Ty) (h : Storage) (c : Cell) (v x : Value) → c.ty ≡ t → storage p' t ≡ h → IsPlain h → stored h v ≡ Some x → set_cell p' v c ≡ Some (typed_cell t x)
  sets t h c v x e eh plain s =
      ap (λ u. option_map (λ w. typed_cell u w) (stored_in p' u v)) e ∙ ap (option_map (λ w. typed_cell t w)) (stored_plain p' t h v eh plain ∙ s)

  pub text_here : (here : Here) (a : ℕ) (t : Token) (units : List ℕ) → meaning_of p' a t ≡ Some (OfText units) → meaning_here p' here (ldstr a t) ≡ Some (OfText units)
  unfolding token_here
  text_here here a t units e = ap (option_and_then (λ x. if_little (meaning_under here.type_args here.method_args x))) e

module _ (p : Program) (k : Contracts) (p' : Program) (g : AddedNumbers) (n : ℕ) (depths : Depths n g) (r : HelpersRun p' g k.settings.throwing depths.owner k.settings.guard) (me : ℕ) (m : Marks) (e : Reporting p' r.assembly depths.owner r.fail me m) where
  abbrev pub base : Frame → Continuation → Frame
  base f b = twin p k p' g n depths f f.local [] 0 [] b

  abbrev Sc : Frame → List Frame → List Frame → World → List Cell → List Statics → Type 0
  Sc f fs fs' w ex ss = Paired p k p' g n depths m f fs fs' w ex ss

  pub at_me : (f : Frame) (q : ℕ) (i : Instr) → f.method ≡ me → slice_get (body_of p' me).instrs q ≡ Some i → slice_get (body_of p' f.method).instrs q ≡ Some i
  at_me f q i a there = ap (λ z. slice_get (body_of p' z).instrs q) a ∙ there

  -- a local of the seams, among all
  pub seam_get : (l : LocalState) (ex : List Cell) (at i : ℕ) (c : Cell) → length l.locals ≡ m.old_locals → length l.captured ≡ m.olds → at ≡ m.old_locals + m.olds + i → slice_get ex i ≡ Some c → slice_get (grow ex l).locals at ≡ Some c
  seam_get l ex at i c h1 h2 eq there = ap (slice_get (grow ex l).locals) eq ∙ extra_at m.old_locals m.olds l.locals l.captured ex i h1 h2 ∙ there

  -- a store in one of them
  pub seam_store : (here : Here) (l : LocalState) (ex : List Cell) (at i : ℕ) (t : Ty) (h : Storage) (v x : Value) (rest : List Value) → length l.locals ≡ m.old_locals → length l.captured ≡ m.olds → at ≡ m.old_locals + m.olds + i → CellOf ex i t → storage p' t ≡ h → IsPlain h → stored h v ≡ Some x
      → Does p' here (stloc at) (with_stack (grow ex l) (v ∷ rest)) (with_stack (grow (slice_set ex i (typed_cell p' t x)) l) rest)
  seam_store here l ex at i t h v x rest h1 h2 eq o eh plain s w =
      does_stloc p' here at v rest (typed_cell p' t x) (grow ex l)
      (ap (option_and_then (set_cell p' v)) (seam_get l ex at i o.cell h1 h2 eq o.there) ∙ sets p' t h o.cell v x o.ty eh plain s) w
      ∙ ap (λ ls. Rattle.cil_semantics.specs.Acts.GoOn [] (record (grow ex l) { locals = ls; stack = rest })) (ap (λ j. slice_set (grow ex l).locals j (typed_cell p' t x)) eq ∙ extra_set m.old_locals m.olds l.locals l.captured ex i (typed_cell p' t x) h1 h2)

  module _ (many : 1 ≤ most_clauses k p 0 p.methods) where
    abbrev then_of : Frame → Continuation → LocalState → List Cell → (seam on : ℕ) → List Handling → List Frame → (World → Ty → ℕ → List Value → Next) → Sequel
    then_of f b l after seam on hs fs' makes =
        record {
          passes = λ v. goes_at p' (base f b) (Rest on) (grow after l) hs fs' v;
          throws = λ v y. unwind p' no_contracts false (frame_at (base f b) (grow after l) seam hs ∷ fs') v y;
          makes = makes;
          stops = λ v. stuck v;
        }

    -- what stands behind the message: condition, test, report
    reported : (f : Frame) (hs : List Handling) (fs' : List Frame) (w : World) (b : Continuation) (ex : List Cell) (S : ℕ) (user : Instr) (uv : Value) (label : Token) (on : ℕ) (v x : Value) (rest : List Value) (X : Failure) (makes : World → Ty → ℕ → List Value → Next)
        → f.method ≡ me → length f.local.locals ≡ m.old_locals → length f.local.captured ≡ m.olds → CellOf ex e.condition_at bool_ty
        → StandAt (body_of p' me).instrs S (reports r.assembly e.tools (kind_number X.kind) user label on) → S + 7 ≡ on → ((at : ℕ) → S < at → at < on → Stay p' (base f b) at hs) → stored (Truncated B8 false) v ≡ Some x
        → ((here : Here) (s : List Value) → Does p' here user (with_stack (grow (slice_set ex e.condition_at (typed_cell p' bool_ty x)) f.local) s) (with_stack (grow (slice_set ex e.condition_at (typed_cell p' bool_ty x)) f.local) (uv ∷ s)))
        → meaning_of p' r.assembly label ≡ Some (OfText (text_units X.label)) → NotMade X.kind → X.user ≡ uv → stored Reference uv ≡ Some uv → FitsFail g depths.owner w
        → Goes p' (4 + (2 + fail_cost)) (at_place (base f b) (with_stack (grow ex f.local) (v ∷ rest)) S hs fs' w)
        (checking p' g k.settings.throwing X (then_of f b (with_stack f.local rest) (slice_set ex e.condition_at (typed_cell p' bool_ty x)) (S + 6) on hs fs' makes) (bool_in (out-Value x)) fs' w)
    reported f hs fs' w b ex S user uv label on v x rest X makes a h1 h2 o stand len st s does lab kd us ref fit =
        first_step p' F (with_stack (grow ex f.local) (v ∷ rest)) S hs fs' w (3 + (2 + fail_cost)) _ _
        (goes_one p' F (with_stack (grow ex f.local) (v ∷ rest)) (with_stack L rest) S hs fs' w (stloc e.tools.condition) (at_me F S _ a stand.0) (seam_store here f.local ex e.tools.condition e.condition_at bool_ty (Truncated B8 false) v x rest h1 h2 e.condition_is o (bool_holds p') tt s) (st (S + 1) (omega arith) (omega (arith, len))))
        (one_step p' F (with_stack L rest) (S + 1) hs fs' w (2 + (2 + fail_cost)) _ _
        (goes_one p' F (with_stack L rest) (with_stack L (x ∷ rest)) (S + 1) hs fs' w (ldloc e.tools.condition) (at_me F (S + 1) _ a (stand.1).0) (does_ldloc p' here e.tools.condition (typed_cell p' bool_ty x) (with_stack L rest) (seam_get f.local ex2 e.tools.condition e.condition_at (typed_cell p' bool_ty x) h1 h2 e.condition_is (get_set_same ex e.condition_at o.cell (typed_cell p' bool_ty x) o.there))) (st (S + 1 + 1) (omega arith) (omega (arith, len))))
        (by_test (bool_in (out-Value x)) (cut_truth v x s)))
      where
        F : Frame
        F = base f b

        here : Here
        here = here_of F fs'

        ex2 : List Cell
        ex2 = slice_set ex e.condition_at (typed_cell p' bool_ty x)

        L : LocalState
        L = grow ex2 f.local

        T : Sequel
        T = then_of f b (with_stack f.local rest) ex2 (S + 6) on hs fs' makes

        six : S + 1 + 1 + 1 + 1 + 1 + 1 ≡ S + 6
        six = omega arith

        seven : S + 6 + 1 ≡ on
        seven = next_of S ∙ len
          where
            next_of : (j : ℕ) → j + 6 + 1 ≡ j + 7
            next_of j = omega arith

        call_there : slice_get (body_of p' me).instrs (S + 6) ≡ Some (call r.assembly e.tools.fail)
        call_there = ap (slice_get (body_of p' me).instrs) (sym six) ∙ ((((((stand.1).1).1).1).1).1).0

        fails : Comes p' fail_cost (at_place F (with_stack L (label_text X ∷ X.user ∷ number_value X ∷ rest)) (S + 6) hs fs' w) (failing p' g k.settings.throwing X T fs' w)
        fails =
            subst (λ q. Comes p' fail_cost (at_place F (with_stack L (label_text X ∷ X.user ∷ number_value X ∷ rest)) (S + 6) hs fs' w) (failing p' g k.settings.throwing X (then_of f b (with_stack f.local rest) ex2 (S + 6) q hs fs' makes) fs' w)) seven
            (r.fails F L rest (S + 6) hs fs' w r.assembly e.tools.fail X makes (at_me F (S + 6) _ a call_there) e.fail_token kd (subst (λ y. stored Reference y ≡ Some y) (sym us) ref) fit)

        -- the stack as `fail` takes it
        as_told : with_stack L (label_text X ∷ uv ∷ number_value X ∷ rest) ≡ with_stack L (label_text X ∷ X.user ∷ number_value X ∷ rest)
        as_told = ap (λ y. with_stack L (label_text X ∷ y ∷ number_value X ∷ rest)) (sym us)

        by_test : (t : Bool) → truth x ≡ Some t → Comes p' (2 + (2 + fail_cost)) (at_place F (with_stack L (x ∷ rest)) (S + 1 + 1) hs fs' w) (checking p' g k.settings.throwing X T t fs' w)
        by_test true q =
            comes_within p' 1 (2 + (2 + fail_cost)) _ _ (omega arith)
            (one_step p' F (with_stack L (x ∷ rest)) (S + 1 + 1) hs fs' w 0 _ _
            (jumps_behind p' F (with_stack L (x ∷ rest)) (with_stack L rest) (S + 1 + 1) on hs fs' w (brtrue on) (at_me F (S + 1 + 1) _ a ((stand.1).1).0) (tests_brtrue p' here on x rest L true q))
            (comes_at_once p' 0 _ _ refl))
        by_test false q =
            one_step p' F (with_stack L (x ∷ rest)) (S + 1 + 1) hs fs' w (1 + (2 + fail_cost)) _ _
            (goes_one p' F (with_stack L (x ∷ rest)) (with_stack L rest) (S + 1 + 1) hs fs' w (brtrue on) (at_me F (S + 1 + 1) _ a ((stand.1).1).0) (tests_brtrue p' here on x rest L false q) (st (S + 1 + 1 + 1) (omega arith) (omega (arith, len))))
            (one_step p' F (with_stack L rest) (S + 1 + 1 + 1) hs fs' w (2 + fail_cost) _ _
            (goes_one p' F (with_stack L rest) (with_stack L (number_value X ∷ rest)) (S + 1 + 1 + 1) hs fs' w (ldc (pos (kind_number X.kind))) (at_me F (S + 1 + 1 + 1) _ a (((stand.1).1).1).0) (does_ldc p' here (pos (kind_number X.kind)) (with_stack L rest)) (st (S + 1 + 1 + 1 + 1) (omega arith) (omega (arith, len))))
            (one_step p' F (with_stack L (number_value X ∷ rest)) (S + 1 + 1 + 1 + 1) hs fs' w (1 + fail_cost) _ _
            (goes_one p' F (with_stack L (number_value X ∷ rest)) (with_stack L (uv ∷ number_value X ∷ rest)) (S + 1 + 1 + 1 + 1) hs fs' w user (at_me F (S + 1 + 1 + 1 + 1) _ a ((((stand.1).1).1).1).0) (does here (number_value X ∷ rest)) (st (S + 1 + 1 + 1 + 1 + 1) (omega arith) (omega (arith, len))))
            (one_step p' F (with_stack L (uv ∷ number_value X ∷ rest)) (S + 1 + 1 + 1 + 1 + 1) hs fs' w fail_cost _ _
            (goes_one p' F (with_stack L (uv ∷ number_value X ∷ rest)) (with_stack L (label_text X ∷ uv ∷ number_value X ∷ rest)) (S + 1 + 1 + 1 + 1 + 1) hs fs' w (ldstr r.assembly label) (at_me F (S + 1 + 1 + 1 + 1 + 1) _ a (((((stand.1).1).1).1).1).0) (does_ldstr p' here r.assembly label (text_units X.label) (with_stack L (uv ∷ number_value X ∷ rest)) (text_here p' here r.assembly label (text_units X.label) lab)) (st (S + 1 + 1 + 1 + 1 + 1 + 1) (omega arith) (omega (arith, len))))
            (subst (λ z. Comes p' fail_cost z (failing p' g k.settings.throwing X T fs' w)) (ap (λ z. at_place F z (S + 6) hs fs' w) (sym as_told) ∙ ap (λ z. at_place F (with_stack L (label_text X ∷ uv ∷ number_value X ∷ rest)) z hs fs' w) (sym six)) fails))))

    -- a check at a place, whichever handlers run there
    module _ (f : Frame) (fs fs' : List Frame) (w : World) (ex : List Cell) (ss : List Statics) (b : Continuation) (hs : List Handling) (a : f.method ≡ me) (s : Sc f fs fs' w ex ss) (kd : ClauseKind) (exception : Option Ty) (home : ℕ) (name : Name) (kept : NotMade kd)
        (B : ℕ) (stays : (at : ℕ) → m.places f.at < at → at < B → Stay p' (base f b) at hs) (belongs : (at : ℕ) → m.places f.at ≤ at → at < B → IsTrue (m.belongs f.at at)) (label : Token) (labelled : meaning_of p' r.assembly label ≡ Some (OfText (text_units name))) where
      abbrev S : ℕ
      S = m.places f.at

      abbrev WW : World
      WW = beside ss w

      fit : FitsFail g depths.owner WW
      fit = record { depth = w.depth; held = (s.beside).depth; bare = (s.beside).bare }

      abbrev from : Next
      from = from_here p k p' g n depths m f ex b fs' w ss hs

      from_stack : (st : List Value) → f.local.stack ≡ st → at_place (base f b) (with_stack (grow ex f.local) st) S hs fs' WW ≡ from
      from_stack st es = ap (λ z. at_place (base f b) (with_stack (grow ex f.local) z) S hs fs' WW) (sym es)

      abbrev X : Value → Failure
      X u = record { kind = kd; exception = exception; home = home; user = u; label = name }

      abbrev makes : List Value → List Cell → ℕ → World → Ty → ℕ → List Value → Next
      makes rest after seam v ty cn vs = Rattle.cil_semantics.specs.Calls.make p' no_contracts (Rattle.cil_semantics.specs.Calls.pushes_new p' no_contracts) ty cn vs (twin p k p' g n depths f (with_stack f.local rest) after seam hs b ∷ fs') v

      abbrev Check : Condition → Type 0
      Check z = Checked p k p' g n depths m f fs fs' w ex ss b hs (X z.user) z.holds z.rest B

      condition_cell : (ex1 : List Cell) → Keeps m (here_of f fs) f.thrown f.local ex1 → CellOf ex1 e.condition_at bool_ty
      condition_cell ex1 kp = cell_of ex1 (m.extra (here_of f fs)) e.condition_at bool_ty kp.typed (e.condition_ty (here_of f fs) a)

      -- the condition lies on the stack, the message in a local or nowhere
      tested : (ex1 : List Cell) (S1 : ℕ) (n0 : ℕ) (user : Instr) (uv v x0 : Value) (rest : List Value) → n0 ≤ 1 → Keeps m (here_of f fs) f.thrown f.local ex1 → stored (Truncated B8 false) v ≡ Some x0
          → StandAt (body_of p' me).instrs S1 (reports r.assembly e.tools (kind_number kd) user label B) → S1 + 7 ≡ B → S ≤ S1
          → ((here : Here) (st : List Value) → Does p' here user (with_stack (grow (slice_set ex1 e.condition_at (typed_cell p' bool_ty x0)) f.local) st) (with_stack (grow (slice_set ex1 e.condition_at (typed_cell p' bool_ty x0)) f.local) (uv ∷ st)))
          → stored Reference uv ≡ Some uv → Comes p' n0 from (at_place (base f b) (with_stack (grow ex1 f.local) (v ∷ rest)) S1 hs fs' WW)
          → Check (record { holds = bool_in (out-Value x0); user = uv; rest = rest })
      tested ex1 S1 n0 user uv v x0 rest le kp sx stand len after does ref come =
          let ex2 = slice_set ex1 e.condition_at (typed_cell p' bool_ty x0) in
          let k2 = keeps_set m (here_of f fs) f.thrown f.local ex1 e.condition_at (typed_cell p' bool_ty x0) kp (e.condition_ty (here_of f fs) a) (e.apart_too.0).0 (e.apart_too.0).1 in
          record {
            after = ex2;
            keeps = k2;
            seam = S1 + 6;
            belongs = belongs (S1 + 6) (omega (arith, after)) (omega (arith, len));
            maker = S1 + 6;
            maker_belongs = belongs (S1 + 6) (omega (arith, after)) (omega (arith, len));
            made = λ k1 y. absurd (subst NotMade k1 kept);
            goes = moves_within p' (n0 + (4 + (2 + fail_cost))) (failure_cost k p) _ _ (omega (arith, many, le))
                (moves_behind p' n0 (4 + (2 + fail_cost)) _ _ _ come
                (reported f hs fs' WW b ex1 S1 user uv label B v x0 rest (X uv) (makes rest ex2 (S1 + 6)) a kp.wide kp.caps (condition_cell ex1 kp) stand len (λ at lo hi. stays at (omega (arith, after, lo)) hi) sx does labelled kept refl ref fit));
          }

      plain_condition : (st : List Value) → f.local.stack ≡ st → StandAt (body_of p' me).instrs S (reports r.assembly e.tools (kind_number kd) ldnull label B) → S + 7 ≡ B → (z : Condition) → condition_from Null st ≡ Some z → Check z
      plain_condition [] es stand len z ez = absurd (cc ez)
      plain_condition (v ∷ rest) es stand len z ez = by_stored (stored (Truncated B8 false) v) refl ez
        where
          by_stored : (o : Option Value) → stored (Truncated B8 false) v ≡ o → option_map (λ x1. record { holds = bool_in (out-Value x1); user = Null; rest = rest }) o ≡ Some z → Check z
          by_stored None so q1 = absurd (cc q1)
          by_stored (Some x0) so q1 =
              let same : record { holds = bool_in (out-Value x0); user = Null; rest = rest } ≡ z = cc q1 in
              subst Check same
              (tested ex S 0 ldnull Null v x0 rest (omega arith) s.keeps so stand len (omega arith) (λ here st. does_ldnull p' here (with_stack (grow (slice_set ex e.condition_at (typed_cell p' bool_ty x0)) f.local) st)) null_stored
              (comes_at_once p' 0 _ _ (sym (from_stack (v ∷ rest) es))))

      told_condition : (u : Value) (st : List Value) → f.local.stack ≡ u ∷ st → StandAt (body_of p' me).instrs S (stloc e.tools.message ∷ reports r.assembly e.tools (kind_number kd) (ldloc e.tools.message) label B) → S + 8 ≡ B → (z : Condition) → condition_in true (u ∷ st) ≡ Some z → Check z
      told_condition u st es stand len z ez = by_user (stored Reference u) refl ez
        where
          by_condition : (user : Value) → stored Reference u ≡ Some user → (st2 : List Value) → st ≡ st2 → condition_from user st2 ≡ Some z → Check z
          by_condition user su [] e2 q1 = absurd (cc q1)
          by_condition user su (v ∷ rest) e2 q1 = by_stored (stored (Truncated B8 false) v) refl q1
            where
              by_stored : (o : Option Value) → stored (Truncated B8 false) v ≡ o → option_map (λ x1. record { holds = bool_in (out-Value x1); user = user; rest = rest }) o ≡ Some z → Check z
              by_stored None so q2 = absurd (cc q2)
              by_stored (Some x0) so q2 =
                  let same : record { holds = bool_in (out-Value x0); user = user; rest = rest } ≡ z = cc q2 in
                  let mc : Cell = typed_cell p' string_ty user in
                  let ex1 = slice_set ex e.message_at mc in
                  let mo = cell_of ex (m.extra (here_of f fs)) e.message_at string_ty (s.keeps).typed (e.message_ty (here_of f fs) a) in
                  let k1 = keeps_set m (here_of f fs) f.thrown f.local ex e.message_at mc s.keeps (e.message_ty (here_of f fs) a) (e.apart_too.1).0 (e.apart_too.1).1 in
                  let cell2 : Cell = typed_cell p' bool_ty x0 in
                  let F : Frame = base f b in
                  subst Check same
                  (tested ex1 (S + 1) 1 (ldloc e.tools.message) user v x0 rest (omega arith) k1 so stand.1 (eight S ∙ len) (omega arith)
                  (λ here st3. does_ldloc p' here e.tools.message mc (with_stack (grow (slice_set ex1 e.condition_at cell2) f.local) st3)
                  (seam_get f.local (slice_set ex1 e.condition_at cell2) e.tools.message e.message_at mc (s.keeps).wide (s.keeps).caps e.message_is
                  (get_set_other ex1 e.condition_at e.message_at cell2 (λ d. (e.apart_too.2) (sym d)) ∙ get_set_same ex e.message_at mo.cell mc mo.there)))
                  (stored_twice u user su)
                  (subst (λ y. Comes p' 1 y (at_place F (with_stack (grow ex1 f.local) (v ∷ rest)) (S + 1) hs fs' WW)) (from_stack (u ∷ v ∷ rest) (es ∙ ap (λ t. u ∷ t) e2))
                  (one_step p' F (with_stack (grow ex f.local) (u ∷ v ∷ rest)) S hs fs' WW 0 _ _
                  (goes_one p' F (with_stack (grow ex f.local) (u ∷ v ∷ rest)) (with_stack (grow ex1 f.local) (v ∷ rest)) S hs fs' WW (stloc e.tools.message) (at_me F S _ a stand.0) (seam_store (here_of F fs') f.local ex e.tools.message e.message_at string_ty Reference u user (v ∷ rest) (s.keeps).wide (s.keeps).caps e.message_is mo (string_holds p') tt su) (stays (S + 1) (omega arith) (omega (arith, len))))
                  (comes_at_once p' 0 _ _ refl))))
                where
                  eight : (j1 : ℕ) → j1 + 1 + 7 ≡ j1 + 8
                  eight j1 = omega arith

          by_user : (o : Option Value) → stored Reference u ≡ o → option_and_then (λ user. condition_from user st) o ≡ Some z → Check z
          by_user None su q1 = absurd (cc q1)
          by_user (Some user) su q1 = by_condition user su st refl q1

      by_stack : (st : List Value) → f.local.stack ≡ st → StandAt (body_of p' me).instrs S (stloc e.tools.message ∷ reports r.assembly e.tools (kind_number kd) (ldloc e.tools.message) label B) → S + 8 ≡ B → (z : Condition) → condition_in true st ≡ Some z → Check z
      by_stack [] es stand len z ez = absurd (cc ez)
      by_stack (u ∷ st) es stand len z ez = told_condition u st es stand len z ez

      -- where the condition is there
      pub check_at : (t : Bool) (c : Condition) → StandAt (body_of p' me).instrs S (check_code t r.assembly e.tools (kind_number kd) label B) → B ≡ S + length (check_code t r.assembly e.tools (kind_number kd) label B) → condition_in t f.local.stack ≡ Some c → Check c
      check_at true c code next given = by_stack f.local.stack refl code (sym next) c given
      check_at false c code next given = plain_condition f.local.stack refl code (sym next) c given
