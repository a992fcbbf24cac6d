-- A group of clauses whose code stands in a body meets the facts on that group.
use Rattle.std.proofs.Common.{◌≡◌, ℕ, ◌+◌, ◌≤◌, Bool, true, false, List, [], length, Option, Some, None, refl, sym, ap, ◌∙◌, subst}
use Rattle.std.specs.Prelude.{slice_get, option_and_then, IsTrue}
use Rattle.cil_model.specs.declared.body.Instr.{Instr}
use Rattle.cil_model.specs.declared.contract.ClauseKind.{ClauseKind}
use Rattle.cil_model.specs.declared.contract.Contracts.{Contracts}
use Rattle.cil_model.specs.declared.contract.Group.{Group}
use Rattle.cil_model.specs.declared.program.Program.{Program}
use Rattle.cil_semantics.specs.declared.state.Cell.{Cell}
use Rattle.cil_semantics.specs.State as state
use Rattle.cil_semantics.specs.declared.state.World.{World}
use Rattle.cil_semantics.specs.declared.state.Statics.{Statics}
use Rattle.cil_semantics.specs.declared.state.ProgramPoint.TheVariants.{InGroup}
use Rattle.cil_semantics.specs.declared.state.Frame.{Frame}
use Rattle.cil_semantics.specs.State.{with_stack}
use Rattle.cil_semantics.specs.declared.state.Continuation.{Continuation}
use Rattle.cil_semantics.specs.Tokens.{ref_type}
use Rattle.cil_semantics.specs.Contracted.{Piece, Plan}
use Rattle.cil_semantics.specs.Unwind.{body_of, here_of, piece_at}
use Rattle.cil_semantics.specs.Frames.{stuck}
use Rattle.cil_semantics.specs.ContractCalls.{contract_call, has_message}
use Rattle.cil_semantics.specs.declared.contract_call.ContractCall.TheVariants.{EndsClause}
use Rattle.cil_semantics.specs.Checks.{AddedNumbers, kind_number, Condition, condition_in}
use Rattle.machine_laws.specs.Same.{most_clauses}
use Rattle.splice_facts.specs.Comes.{Comes}
use Rattle.splice_facts.specs.Grown.{beside}
use Rattle.splice_facts.specs.Layout.{Depths, Marks, IsHere}
use Rattle.splice_facts.specs.Spliced.{Paired, stands, from_here, Arrives, OpensAt, Checked, clause_failure, cost}
use Rattle.splice_laws.specs.Straight.{StandAt}
use Rattle.splice_laws.specs.HelperRuns.{HelpersRun}
use Rattle.splice_laws.specs.Fails.{NotMade}
use Rattle.splice_laws.specs.EntryCode.{GroupFrame, GroupDoor, check_code}
use Rattle.splice_laws.specs.GroupSeams.{BeginsAt, GroupSeams}
use Rattle.splice_laws.proofs.CheckLaws.{check_at}
use Rattle.splice_laws.proofs.StuckCheckLaws.{first_stores, stuck_at}
use Rattle.splice_laws.proofs.EntryGroupLaws.{begins_group, continues_group, breaks_group}

module _ (p : Program) (k : Contracts) (p' : Program) (g : AddedNumbers) (n : ℕ) (depths : Depths n g) (me : ℕ) (plan : Plan) (m : Marks) (gr : Group) where
  module _ (r : HelpersRun p' g k.settings.throwing depths.owner k.settings.guard) (e : GroupFrame p p' g k.settings.throwing depths.owner k.settings.guard r me plan m gr) (many : 1 ≤ most_clauses k p 0 p.methods) where
    abbrev Sc : Frame → List Frame → List Frame → World → List Cell → List Statics → Type 0
    Sc f fs fs' w ex ss = Paired p k p' g n depths m f fs fs' w ex ss

    pub checks_group : (j q : ℕ) (x : Piece) (i : Instr) (kd : ClauseKind) (c : Condition) (f : Frame) (fs fs' : List Frame) (w : World) (ex : List Cell) (ss : List Statics) (b : Continuation) → f.method ≡ me → f.at ≡ InGroup gr j q → IsHere (Some plan) f.at → piece_at (Some plan) gr j ≡ Some x → NotMade x.clause.kind → slice_get x.clause.instrs q ≡ Some i → contract_call p i ≡ EndsClause kd → Sc f fs fs' w ex ss
        → condition_in (has_message p i) f.local.stack ≡ Some c → Checked p k p' g n depths m f fs fs' w ex ss b [] (clause_failure p k p' g n depths f fs x c.user) c.holds c.rest (m.behind gr j)
    checks_group j q x i kd c f fs fs' w ex ss b a at here there kept instr ends s given =
        let z = e.checks j q x i kd (subst (IsHere (Some plan)) at here) there kept instr ends in
        let code = check_code (has_message p i) r.assembly (e.reporting).tools (kind_number x.clause.kind) (e.label x) (m.behind gr j) in
        check_at p k p' g n depths r me m e.reporting many f fs fs' w ex ss b [] a s x.clause.kind (option_and_then (ref_type p (here_of f fs)) x.clause.exception) x.clause.home x.clause.label kept
        (m.behind gr j) (λ y lo hi. refl) (λ y lo hi. subst (λ t. IsTrue (m.belongs t y)) (sym at) (e.seam_belongs j q x i kd (subst (IsHere (Some plan)) at here) there kept instr ends y (subst (λ t. m.places t ≤ y) at lo) hi)) (e.label x) (e.labelled j x there)
        (has_message p i) c (subst (λ t. StandAt (body_of p' me).instrs (m.places t) code) (sym at) z.0) (z.1 ∙ ap (λ t. m.places t + length code) (sym at)) given

    pub stuck_group : (j q : ℕ) (x : Piece) (i : Instr) (kd : ClauseKind) (f : Frame) (fs fs' : List Frame) (w : World) (ex : List Cell) (ss : List Statics) (b : Continuation) → f.method ≡ me → f.at ≡ InGroup gr j q → IsHere (Some plan) f.at → piece_at (Some plan) gr j ≡ Some x → NotMade x.clause.kind → slice_get x.clause.instrs q ≡ Some i → contract_call p i ≡ EndsClause kd → Sc f fs fs' w ex ss
        → condition_in (has_message p i) f.local.stack ≡ None → Comes p' (cost k p) (from_here p k p' g n depths m f ex b fs' w ss []) (stuck (beside ss w))
    stuck_group j q x i kd f fs fs' w ex ss b a at here there kept instr ends s none =
        let code = check_code (has_message p i) r.assembly (e.reporting).tools (kind_number x.clause.kind) (e.label x) (m.behind gr j) in
        stuck_at p k p' g n depths r me m e.reporting many f fs fs' w ex ss b [] a s (λ y h. refl)
        (has_message p i) (first_stores (body_of p' me).instrs (m.places f.at) r.assembly (kind_number x.clause.kind) (e.reporting).tools (e.label x) (m.behind gr j) (has_message p i) (subst (λ t. StandAt (body_of p' me).instrs (m.places t) code) (sym at) (e.checks j q x i kd (subst (IsHere (Some plan)) at here) there kept instr ends).0)) f.local.stack refl none

    pub seams : GroupDoor p p' g k.settings.throwing depths.owner k.settings.guard r me plan m gr e → k.settings.guard ≤ 100 → plan.settings ≡ k.settings → GroupSeams p k p' g n depths me plan m gr
    seams d small settings =
        record {
          begins = λ f fs fs' w ex ss b a none s. begins_group p k p' g n depths r me plan m gr e many small settings d f fs fs' w ex ss b a none s;
          continues = λ j x f fs fs' w ex ss b there a none some s. continues_group p k p' g n depths r me plan m gr e many small settings d j x f fs fs' w ex ss b there a none some s;
          breaks = λ j q q' f fs fs' w ex ss b x at here bel a some s kept. breaks_group p k p' g n depths r me plan m gr e many small settings j q q' f fs fs' w ex ss b x at here bel a some s kept;
          checks = λ j q x i kd c f fs fs' w ex ss b a at here there kept instr ends s given. checks_group j q x i kd c f fs fs' w ex ss b a at here there kept instr ends s given;
          checks_stuck = λ j q x i kd f fs fs' w ex ss b a at here there kept instr ends s none. stuck_group j q x i kd f fs fs' w ex ss b a at here there kept instr ends s none;
        }

    -- where the stack is empty, as the other groups begin
    pub opens_of : (f : Frame) (fs fs' : List Frame) (w : World) (ex : List Cell) (ss : List Statics) (b : Continuation) (o : Option (ℕ × Piece)) (t : Bool) → f.local.stack ≡ []
        → BeginsAt p k p' g n depths me plan m gr (stands p k p' g n depths f f.local ex (m.door gr) b fs' w ss) f fs f.local b fs' w o t
        → OpensAt p k p' g n depths m plan gr (cost k p) (stands p k p' g n depths f f.local ex (m.door gr) b fs' w ss) f fs f.local b fs' w o t
    opens_of f fs fs' w ex ss b (Some x) true empty y = subst (λ st. Arrives p k p' g n depths m (cost k p) (stands p k p' g n depths f f.local ex (m.door gr) b fs' w ss) f fs (with_stack f.local st) (m.places (InGroup gr x.0 x.1.from)) b fs' (state.raised w)) empty y
    opens_of f fs fs' w ex ss b (Some x) false empty y = subst (λ st. Arrives p k p' g n depths m (cost k p) (stands p k p' g n depths f f.local ex (m.door gr) b fs' w ss) f fs (with_stack f.local st) (m.out gr) b fs' w) empty y
    opens_of f fs fs' w ex ss b None true empty y = subst (λ st. Arrives p k p' g n depths m (cost k p) (stands p k p' g n depths f f.local ex (m.door gr) b fs' w ss) f fs (with_stack f.local st) (m.out gr) b fs' w) empty y
    opens_of f fs fs' w ex ss b None false empty y = subst (λ st. Arrives p k p' g n depths m (cost k p) (stands p k p' g n depths f f.local ex (m.door gr) b fs' w ss) f fs (with_stack f.local st) (m.out gr) b fs' w) empty y
