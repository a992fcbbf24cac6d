-- A body with clauses in each of the four groups, whose seams have the code that is written for them, meets all the facts on groups.
use Rattle.std.proofs.Common.{◌≡◌, ◌≢◌, ℕ, ◌+◌, ◌<◌, ◌≤◌, Bool, true, false, List, [], ◌∷◌, Option, Some, None, length, refl, sym, ap, ◌∙◌, subst}
use Rattle.std.specs.Prelude.{slice_get, IsTrue}
use Rattle.cil_model.specs.declared.contract.ClauseKind.{ClauseKind}
use Rattle.cil_model.specs.declared.contract.Contracts.{Contracts}
use Rattle.cil_model.specs.declared.contract.Group.{Group}
use Rattle.cil_model.specs.declared.contract.Group.TheVariants as group
use Rattle.cil_model.specs.declared.program.Program.{Program}
use Rattle.cil_model.specs.declared.body.Instr.{Instr}
use Rattle.cil_model.specs.NoContracts.{no_contracts}
use Rattle.cil_semantics.specs.Core.{Name}
use Rattle.cil_semantics.specs.Words.{maybe}
use Rattle.cil_semantics.specs.declared.state.Cell.{Cell}
use Rattle.cil_semantics.specs.State as state
use Rattle.cil_semantics.specs.declared.state.World.{World}
use Rattle.cil_semantics.specs.declared.state.Statics.{Statics}
use Rattle.cil_semantics.specs.declared.state.ProgramPoint.{ProgramPoint}
use Rattle.cil_semantics.specs.declared.state.ProgramPoint.TheVariants.{LeadIn, InGroup, Rest}
use Rattle.cil_semantics.specs.declared.state.Frame.{Frame}
use Rattle.cil_semantics.specs.declared.state.Handling.{Handling}
use Rattle.cil_semantics.specs.State.{with_stack}
use Rattle.cil_semantics.specs.declared.state.Continuation.{Continuation}
use Rattle.cil_semantics.specs.Contracted.{Piece, Plan, pieces, runs_at}
use Rattle.cil_semantics.specs.Unwind.{body_of, piece_at, in_handler, next_piece, drops, unwind}
use Rattle.cil_semantics.specs.Checks.{AddedNumbers, Condition, condition_in}
use Rattle.cil_semantics.specs.ContractCalls.{contract_call, has_message}
use Rattle.cil_semantics.specs.declared.contract_call.ContractCall.TheVariants.{EndsClause}
use Rattle.cil_semantics.specs.Frames.{stuck}
use Rattle.machine_laws.specs.Same.{most_clauses}
use Rattle.splice_facts.specs.Comes.{Comes, Goes}
use Rattle.splice_facts.specs.Exceptions.{IsException, ExceptionIf}
use Rattle.splice_facts.specs.Grown.{beside}
use Rattle.splice_facts.specs.Layout.{Depths, Marks, IsHere}
use Rattle.splice_facts.specs.Spliced.{Paired, Beside, stands, twin, leaves_with, Arrives, EntersAt, OpensAt, ContinuesAt, Groups, IsInline, FitsGroup, Checked, clause_failure, from_here, kept_in, cost, opening_cost}
use Rattle.splice_facts.proofs.ComesLaws.{comes_at_once}
use Rattle.splice_laws.specs.HelperRuns.{HelpersRun}
use Rattle.splice_laws.specs.Fails.{NotMade}
use Rattle.splice_laws.specs.EntryCode.{GroupCode, GroupFrame}
use Rattle.splice_laws.specs.ExitCode.{ExitCode, ExitSeams}
use Rattle.splice_laws.specs.GroupSeams.{BeginsAt, GroupSeams}
use Rattle.splice_laws.specs.LoadCode.{LoadCode}
use Rattle.splice_laws.proofs.ExitLaws.{exit_seams}
use Rattle.splice_laws.proofs.GroupLaws.{seams, opens_of}
use Rattle.splice_laws.proofs.LoadLaws.{loads_argument}
use Rattle.seam_laws.specs.CaptureCode.{CaptureCode, CaptureSeams}
use Rattle.seam_laws.specs.RecallCode.{RecallCode, RecallSeams}
use Rattle.seam_laws.proofs.CaptureLaws.{capture_seams}
use Rattle.seam_laws.proofs.RecallLaws.{recall_seams}
use Rattle.throw_laws.specs.ThrowCode.{ThrowCode, ThrowSeams}
use Rattle.throw_laws.specs.WrapperCode.{WrapperCode, WrapperSeams}
use Rattle.throw_laws.proofs.ThrowGroupLaws.{throw_seams}
use Rattle.throw_laws.proofs.WrapperLaws.{wrapper_seams}

quiet : (p : Program) (k : Contracts) (p' : Program) (g : AddedNumbers) (n : ℕ) (depths : Depths n g) (gr : Group) (o : Option ℕ) → gr ≢ group.Throw → FitsGroup p k p' g n depths gr o → o ≡ None
quiet p k p' g n depths gr None d y = refl
quiet p k p' g n depths group.Entry (Some z) d y = absurd y
quiet p k p' g n depths group.Exit (Some z) d y = absurd y
quiet p k p' g n depths group.Throw (Some z) d y = absurd (d refl)
quiet p k p' g n depths group.Invariant (Some z) d y = absurd y
quiet p k p' g n depths group.Inline (Some z) d y = absurd y

not_throw : group.Entry ≢ group.Throw
not_throw q = cc q

exit_not_throw : group.Exit ≢ group.Throw
exit_not_throw q = cc q

invariant_not_throw : group.Invariant ≢ group.Throw
invariant_not_throw q = cc q

none_in_empty : {X : Type 0} (x : X) → None ≡ Some x → ⊥
none_in_empty x e = cc e

captured_nothing : (o : Option Piece) (x : Piece) → o ≡ Some x → x.captures ≡ None → drops o ≡ true → ⊥
captured_nothing o x e none d = let z : false ≡ true = sym (ap drops e ∙ ap (maybe false (λ c. true)) none) ∙ d in cc z

-- what a splice writes for a body with clauses in each group
pub record FullCode (p : Program) (k : Contracts) (p' : Program) (g : AddedNumbers) (n : ℕ) (depths : Depths n g) (r : HelpersRun p' g k.settings.throwing depths.owner k.settings.guard) (me : ℕ) (plan : Plan) (m : Marks) : Type 0 where
  pub entry : GroupCode p p' g k.settings.throwing depths.owner k.settings.guard r me plan m group.Entry
  pub captures : CaptureCode p k p' g n depths r me plan m entry.frame
  pub recalls : RecallCode p k p' g n depths me plan m
  pub exit : GroupCode p p' g k.settings.throwing depths.owner k.settings.guard r me plan m group.Exit
  pub returns : ExitCode p k p' g n depths me plan m
  pub throw_frame : GroupFrame p p' g k.settings.throwing depths.owner k.settings.guard r me plan m group.Throw
  pub throw_group : ThrowCode p k p' g n depths r me plan m throw_frame
  pub wrapper : WrapperCode p k p' g n depths me plan m
  pub invariant : GroupCode p p' g k.settings.throwing depths.owner k.settings.guard r me plan m group.Invariant
  pub loads : LoadCode p p' me plan m
  pub entry_door : m.door group.Entry ≡ m.places (LeadIn plan.effective.lead_end)
  pub entry_out : m.out group.Entry ≡ m.places (Rest plan.effective.rest_from)
  pub then_invariants : m.out group.Exit ≡ m.door group.Invariant
  pub none_inline : m.door group.Inline ≡ m.out group.Inline
  pub bare_doors : (gr : Group) (h : Handling) → h.handler < length (body_of p me).regions → in_handler (body_of p' me).regions (m.door gr) h ≡ false
  pub no_inline : (f : Frame) (fs : List Frame) (at : ProgramPoint) (i : Instr) (kd : ClauseKind) (home : ℕ) (label : Name) → IsHere (Some plan) at → IsInline p k p' g n depths plan me f fs at i kd home label → ⊥
  -- no clause is a Requires<E>, and old values are captured in the entry group alone
  pub not_made : (gr : Group) (j : ℕ) (x : Piece) → piece_at (Some plan) gr j ≡ Some x → NotMade x.clause.kind
  pub keeps_none : (gr : Group) (j : ℕ) (x : Piece) → gr ≢ group.Entry → piece_at (Some plan) gr j ≡ Some x → x.captures ≡ None

module _ (p : Program) (k : Contracts) (p' : Program) (g : AddedNumbers) (n : ℕ) (depths : Depths n g) (r : HelpersRun p' g k.settings.throwing depths.owner k.settings.guard) (me : ℕ) (plan : Plan) (m : Marks) (code : FullCode p k p' g n depths r me plan m) (many : 1 ≤ most_clauses k p 0 p.methods) (few : length (pieces plan group.Throw) ≤ most_clauses k p 0 p.methods) (small : k.settings.guard ≤ 100) (settings : plan.settings ≡ k.settings) where
  abbrev Sc : Frame → List Frame → List Frame → World → List Cell → List Statics → Type 0
  Sc f fs fs' w ex ss = Paired p k p' g n depths m f fs fs' w ex ss

  abbrev Fits : Group → Option ℕ → Type 0
  Fits gr o = FitsGroup p k p' g n depths gr o

  quiet_at : (gr : Group) (o : Option ℕ) → gr ≢ group.Throw → Fits gr o → o ≡ None
  quiet_at gr o d y = quiet p k p' g n depths gr o d y

  pub entry : GroupSeams p k p' g n depths me plan m group.Entry
  entry = seams p k p' g n depths me plan m group.Entry r (code.entry).frame many (code.entry).door_code small settings

  pub captures : CaptureSeams p k p' g n depths r me plan m (code.entry).frame
  captures = capture_seams p k p' g n depths r me plan m (code.entry).frame code.captures many small settings

  pub recalls : RecallSeams p k p' g n depths me plan m
  recalls = recall_seams p k p' g n depths me plan m code.recalls

  pub exit : GroupSeams p k p' g n depths me plan m group.Exit
  exit = seams p k p' g n depths me plan m group.Exit r (code.exit).frame many (code.exit).door_code small settings

  pub returns : ExitSeams p k p' g n depths me plan m
  returns = exit_seams p k p' g n depths me plan m code.returns

  pub throw_group : ThrowSeams p k p' g n depths r me plan m code.throw_frame
  throw_group = throw_seams p k p' g n depths r me plan m code.throw_frame code.throw_group many few small settings

  pub wrapper : WrapperSeams p k p' g n depths me plan m
  wrapper = wrapper_seams p k p' g n depths me plan m code.wrapper

  pub invariant : GroupSeams p k p' g n depths me plan m group.Invariant
  invariant = seams p k p' g n depths me plan m group.Invariant r (code.invariant).frame many (code.invariant).door_code small settings

  none_looked : (o : Option ℕ) → Fits group.Throw o → (y : ℕ) × (o ≡ Some y)
  none_looked None fit = absurd fit
  none_looked (Some y) fit = (y, refl)

  -- what a group looks at is an exception
  an_exception : (w : World) (o : Option ℕ) (y : ℕ) → o ≡ Some y → ExceptionIf p w o → IsException p w y
  an_exception w o y e ok = subst (ExceptionIf p w) e ok

  as_entry : (f : Frame) (fs fs' : List Frame) (w : World) (ex : List Cell) (ss : List Statics) (b : Continuation) (o : Option (ℕ × Piece)) (t : Bool) → BeginsAt p k p' g n depths me plan m group.Entry (stands p k p' g n depths f f.local ex (m.door group.Entry) b fs' w ss) f fs f.local b fs' w o t
      → EntersAt p k p' g n depths m plan (cost k p) (stands p k p' g n depths f f.local ex (m.door group.Entry) b fs' w ss) f fs f.local b fs' w o t
  as_entry f fs fs' w ex ss b (Some x) true y = y
  as_entry f fs fs' w ex ss b (Some x) false y = y
  as_entry f fs fs' w ex ss b None true y = y
  as_entry f fs fs' w ex ss b None false y = y

  abbrev Opens : Group → Frame → List Frame → List Frame → World → List Cell → List Statics → Continuation → Option (ℕ × Piece) → Bool → Type 0
  Opens gr f fs fs' w ex ss b o t = OpensAt p k p' g n depths m plan gr (opening_cost k p gr) (stands p k p' g n depths f f.local ex (m.door gr) b fs' w ss) f fs f.local b fs' w o t

  -- no clause stands in place of another group
  opens_inline : (f : Frame) (fs fs' : List Frame) (w : World) (ex : List Cell) (ss : List Statics) (b : Continuation) (t : Bool) → f.local.stack ≡ [] → Sc f fs fs' w ex ss → Opens group.Inline f fs fs' w ex ss b None t
  opens_inline f fs fs' w ex ss b t empty s = by_test t
    where
      arrived : Arrives p k p' g n depths m (cost k p) (stands p k p' g n depths f f.local ex (m.door group.Inline) b fs' w ss) f fs (with_stack f.local []) (m.out group.Inline) b fs' w
      arrived =
          record {
            extra = ex;
            keeps = record { wide = (s.keeps).wide; caps = (s.keeps).caps; typed = (s.keeps).typed; result = (s.keeps).result; thrown = (s.keeps).thrown };
            statics = ss;
            beside = s.beside;
            comes = comes_at_once p' (cost k p) _ _ (ap (λ z. stands p k p' g n depths f (with_stack f.local z) ex (m.door group.Inline) b fs' w ss) empty ∙ ap (λ q. stands p k p' g n depths f (with_stack f.local []) ex q b fs' w ss) code.none_inline);
          }

      by_test : (t : Bool) → Opens group.Inline f fs fs' w ex ss b None t
      by_test true = arrived
      by_test false = arrived

  opens : (gr : Group) (f : Frame) (fs fs' : List Frame) (w : World) (ex : List Cell) (ss : List Statics) (b : Continuation) → gr ≢ group.Entry → f.local.stack ≡ [] → f.method ≡ me → Fits gr f.thrown → ExceptionIf p w f.thrown → Sc f fs fs' w ex ss
      → Opens gr f fs fs' w ex ss b (next_piece p plan gr 0 f fs w) (runs_at plan gr w.depth)
  opens group.Entry f fs fs' w ex ss b d empty a fit ok s = absurd (d refl)
  opens group.Exit f fs fs' w ex ss b d empty a fit ok s =
      opens_of p k p' g n depths me plan m group.Exit r (code.exit).frame many f fs fs' w ex ss b (next_piece p plan group.Exit 0 f fs w) (runs_at plan group.Exit w.depth) empty (exit.begins f fs fs' w ex ss b a (quiet_at group.Exit f.thrown exit_not_throw fit) s)
  opens group.Throw f fs fs' w ex ss b d empty a fit ok s =
      let y = none_looked f.thrown fit in
      throw_group.opens f fs fs' w ex ss b y.0 empty a y.1 (an_exception w f.thrown y.0 y.1 ok) s
  opens group.Invariant f fs fs' w ex ss b d empty a fit ok s =
      opens_of p k p' g n depths me plan m group.Invariant r (code.invariant).frame many f fs fs' w ex ss b (next_piece p plan group.Invariant 0 f fs w) (runs_at plan group.Invariant w.depth) empty (invariant.begins f fs fs' w ex ss b a (quiet_at group.Invariant f.thrown invariant_not_throw fit) s)
  opens group.Inline f fs fs' w ex ss b d empty a fit ok s = opens_inline f fs fs' w ex ss b (runs_at plan group.Inline w.depth) empty s

  continues : (gr : Group) (j : ℕ) (x : Piece) (f : Frame) (fs fs' : List Frame) (w : World) (ex : List Cell) (ss : List Statics) (b : Continuation) → piece_at (Some plan) gr j ≡ Some x → f.method ≡ me → Fits gr f.thrown → ExceptionIf p w f.thrown → 0 < w.depth → Sc f fs fs' w ex ss
      → ContinuesAt p k p' g n depths m plan gr (cost k p) (stands p k p' g n depths f f.local ex (m.behind gr j) b fs' w ss) f fs f.local b fs' w (next_piece p plan gr (j + 1) f fs w)
  continues group.Entry j x f fs fs' w ex ss b there a fit ok some s = entry.continues j x f fs fs' w ex ss b there a (quiet_at group.Entry f.thrown not_throw fit) some s
  continues group.Exit j x f fs fs' w ex ss b there a fit ok some s = exit.continues j x f fs fs' w ex ss b there a (quiet_at group.Exit f.thrown exit_not_throw fit) some s
  continues group.Throw j x f fs fs' w ex ss b there a fit ok some s =
      let y = none_looked f.thrown fit in
      throw_group.continues j x f fs fs' w ex ss b y.0 there a y.1 (an_exception w f.thrown y.0 y.1 ok) some s
  continues group.Invariant j x f fs fs' w ex ss b there a fit ok some s = invariant.continues j x f fs fs' w ex ss b there a (quiet_at group.Invariant f.thrown invariant_not_throw fit) some s
  continues group.Inline j x f fs fs' w ex ss b there a fit ok some s = absurd (none_in_empty x there)

  breaks : (gr : Group) (j q q' : ℕ) (f : Frame) (fs fs' : List Frame) (w : World) (ex : List Cell) (ss : List Statics) (b : Continuation) (x : ℕ) → f.at ≡ InGroup gr j q → IsHere (Some plan) f.at → IsTrue (m.belongs f.at q') → f.method ≡ me → 0 < w.depth → Sc f fs fs' w ex ss → drops (piece_at (Some plan) gr j) ≡ false
      → (ss2 : List Statics) × Beside p k p' g n depths (state.lowered w) ss2 × Comes p' (cost k p) (unwind p' no_contracts false (twin p k p' g n depths f f.local ex q' [] b ∷ fs') (beside ss w) x) (leaves_with p k p' g n depths f b fs' (state.lowered w) ss2 x)
  breaks group.Entry j q q' f fs fs' w ex ss b x at here bel a some s dr = entry.breaks j q q' f fs fs' w ex ss b x at here bel a some s dr
  breaks group.Exit j q q' f fs fs' w ex ss b x at here bel a some s dr = exit.breaks j q q' f fs fs' w ex ss b x at here bel a some s dr
  breaks group.Throw j q q' f fs fs' w ex ss b x at here bel a some s dr = throw_group.breaks j q q' f fs fs' w ex ss b x at here bel a some s dr
  breaks group.Invariant j q q' f fs fs' w ex ss b x at here bel a some s dr = invariant.breaks j q q' f fs fs' w ex ss b x at here bel a some s dr
  breaks group.Inline j q q' f fs fs' w ex ss b x at here bel a some s dr = let h = subst (IsHere (Some plan)) at here in absurd (none_in_empty h.0 h.1)

  -- only the entry group captures
  not_captured : (gr : Group) (j q : ℕ) (f : Frame) → gr ≢ group.Entry → f.at ≡ InGroup gr j q → IsHere (Some plan) f.at → drops (piece_at (Some plan) gr j) ≡ true → ⊥
  not_captured gr j q f d at here dr = let h = subst (IsHere (Some plan)) at here in captured_nothing (piece_at (Some plan) gr j) h.0 h.1 (code.keeps_none gr j h.0 d h.1) dr

  exit_not_entry : group.Exit ≢ group.Entry
  exit_not_entry q = cc q

  throw_not_entry : group.Throw ≢ group.Entry
  throw_not_entry q = cc q

  invariant_not_entry : group.Invariant ≢ group.Entry
  invariant_not_entry q = cc q

  inline_not_entry : group.Inline ≢ group.Entry
  inline_not_entry q = cc q

  -- in the entry group, or in another one
  by_entry : (P : Group → Type 0) (gr : Group) → P group.Entry → (gr ≢ group.Entry → P gr) → P gr
  by_entry P group.Entry y other = y
  by_entry P group.Exit y other = other exit_not_entry
  by_entry P group.Throw y other = other throw_not_entry
  by_entry P group.Invariant y other = other invariant_not_entry
  by_entry P group.Inline y other = other inline_not_entry

  not_kept : (gr : Group) (j : ℕ) (x : Piece) (c : ℕ) → gr ≢ group.Entry → piece_at (Some plan) gr j ≡ Some x → x.captures ≡ Some c → ⊥
  not_kept gr j x c d there cap = let z : None ≡ Some c = sym (code.keeps_none gr j x d there) ∙ cap in none_in_empty c z

  -- the end of a clause
  abbrev Ends : Group → Type 0
  Ends gr =
      (j q : ℕ) (x : Piece) (i : Instr) (kd : ClauseKind) (c : Condition) (f : Frame) (fs fs' : List Frame) (w : World) (ex : List Cell) (ss : List Statics) (b : Continuation) → f.method ≡ me → f.at ≡ InGroup gr j q → IsHere (Some plan) f.at → piece_at (Some plan) gr j ≡ Some x → NotMade x.clause.kind → slice_get x.clause.instrs q ≡ Some i → contract_call p i ≡ EndsClause kd → Sc f fs fs' w ex ss
      → condition_in (has_message p i) f.local.stack ≡ Some c → Checked p k p' g n depths m f fs fs' w ex ss b [] (clause_failure p k p' g n depths f fs x c.user) c.holds c.rest (m.behind gr j)

  ends : (gr : Group) → Ends gr
  ends group.Entry = λ j q x i kd c f fs fs' w ex ss b a at here there kept instr call s given. entry.checks j q x i kd c f fs fs' w ex ss b a at here there kept instr call s given
  ends group.Exit = λ j q x i kd c f fs fs' w ex ss b a at here there kept instr call s given. exit.checks j q x i kd c f fs fs' w ex ss b a at here there kept instr call s given
  ends group.Throw = λ j q x i kd c f fs fs' w ex ss b a at here there kept instr call s given. throw_group.checks j q x i kd c f fs fs' w ex ss b a at here there kept instr call s given
  ends group.Invariant = λ j q x i kd c f fs fs' w ex ss b a at here there kept instr call s given. invariant.checks j q x i kd c f fs fs' w ex ss b a at here there kept instr call s given
  ends group.Inline = λ j q x i kd c f fs fs' w ex ss b a at here there kept instr call s given. absurd (none_in_empty x there)

  abbrev EndsStuck : Group → Type 0
  EndsStuck gr =
      (j q : ℕ) (x : Piece) (i : Instr) (kd : ClauseKind) (f : Frame) (fs fs' : List Frame) (w : World) (ex : List Cell) (ss : List Statics) (b : Continuation) → f.method ≡ me → f.at ≡ InGroup gr j q → IsHere (Some plan) f.at → piece_at (Some plan) gr j ≡ Some x → NotMade x.clause.kind → slice_get x.clause.instrs q ≡ Some i → contract_call p i ≡ EndsClause kd → Sc f fs fs' w ex ss
      → condition_in (has_message p i) f.local.stack ≡ None → Comes p' (cost k p) (from_here p k p' g n depths m f ex b fs' w ss []) (stuck (beside ss w))

  ends_stuck : (gr : Group) → EndsStuck gr
  ends_stuck group.Entry = λ j q x i kd f fs fs' w ex ss b a at here there kept instr call s none. entry.checks_stuck j q x i kd f fs fs' w ex ss b a at here there kept instr call s none
  ends_stuck group.Exit = λ j q x i kd f fs fs' w ex ss b a at here there kept instr call s none. exit.checks_stuck j q x i kd f fs fs' w ex ss b a at here there kept instr call s none
  ends_stuck group.Throw = λ j q x i kd f fs fs' w ex ss b a at here there kept instr call s none. throw_group.checks_stuck j q x i kd f fs fs' w ex ss b a at here there kept instr call s none
  ends_stuck group.Invariant = λ j q x i kd f fs fs' w ex ss b a at here there kept instr call s none. invariant.checks_stuck j q x i kd f fs fs' w ex ss b a at here there kept instr call s none
  ends_stuck group.Inline = λ j q x i kd f fs fs' w ex ss b a at here there kept instr call s none. absurd (none_in_empty x there)

  pub groups : Groups p k p' g n depths me plan m
  groups =
      record {
        entry_door = code.entry_door;
        entry_out = code.entry_out;
        then_invariants = code.then_invariants;
        bare_doors = code.bare_doors;
        enters = λ f fs fs' w ex ss b a none s. as_entry f fs fs' w ex ss b (next_piece p plan group.Entry 0 f fs w) (runs_at plan group.Entry w.depth) (entry.begins f fs fs' w ex ss b a none s);
        opens = λ gr f fs fs' w ex ss b d empty a fit ok s. opens gr f fs fs' w ex ss b d empty a fit ok s;
        continues = λ gr j x f fs fs' w ex ss b there a fit ok some s. continues gr j x f fs fs' w ex ss b there a fit ok some s;
        breaks = λ gr j q q' f fs fs' w ex ss b x at here bel a fit some s dr. breaks gr j q q' f fs fs' w ex ss b x at here bel a some s dr;
        swallows = λ gr j q q' f fs fs' w ex ss b x at here bel a fit some s dr thrown.
            by_entry (λ gr1. f.at ≡ InGroup gr1 j q → Fits gr1 f.thrown → drops (piece_at (Some plan) gr1 j) ≡ true → ContinuesAt p k p' g n depths m plan group.Entry (cost k p) (unwind p' no_contracts false (twin p k p' g n depths f f.local ex q' [] b ∷ fs') (beside ss w) x) f fs f.local b fs' w (next_piece p plan group.Entry (j + 1) f fs w)) gr
            (λ at1 fit1 dr1. captures.swallows j q q' f fs fs' w ex ss b x at1 here bel a fit1 some s dr1 thrown)
            (λ d at1 fit1 dr1. absurd (not_captured gr j q f d at1 here dr1)) at fit dr;
        returns = λ f fs fs' w ex ss b a named st s. returns.returns f fs fs' w ex ss b a named st s;
        throws = λ f fs fs' w ex ss b x a th kept s. wrapper.throws f fs fs' w ex ss b x a th kept s;
        lifts = λ f fs fs' w ex ss b hs q i v a named ext at here instr ret s cur given len. returns.lifts f fs fs' w ex ss b hs q i v a named at here instr ret s cur given len;
        lifts_stuck = λ f fs fs' w ex ss b hs q i a named ext at here instr ret s cur none. returns.lifts_stuck f fs fs' w ex ss b hs q i a named at here instr ret s cur none;
        checks = λ gr j q x i kd c f fs fs' w ex ss b a at here there instr call s given. ends gr j q x i kd c f fs fs' w ex ss b a at here there (code.not_made gr j x there) instr call s given;
        checks_stuck = λ gr j q x i kd f fs fs' w ex ss b a at here there instr call s none. ends_stuck gr j q x i kd f fs fs' w ex ss b a at here there (code.not_made gr j x there) instr call s none;
        asserts = λ f fs fs' w ex ss b hs i kd c label home a here inl. absurd (code.no_inline f fs f.at i kd home label here inl);
        asserts_stuck = λ f fs fs' w ex ss b hs i kd label home a here inl. absurd (code.no_inline f fs f.at i kd home label here inl);
        drops_arguments = λ f fs fs' w ex ss b hs i kd label home a here inl. absurd (code.no_inline f fs f.at i kd home label here inl);
        takes = λ gr j q x i c f fs fs' w ex ss b a at here there cap instr call s.
            by_entry (λ gr1. f.at ≡ InGroup gr1 j q → piece_at (Some plan) gr1 j ≡ Some x → Goes p' (cost k p) (from_here p k p' g n depths m f ex b fs' w ss []) (kept_in p k p' g n depths f.local.stack c f ex b fs' w ss (m.behind gr1 j))) gr
            (λ at1 there1. captures.takes j q x i c f fs fs' w ex ss b a at1 here there1 cap instr call s)
            (λ d at1 there1. absurd (not_kept gr j x c d there1 cap)) at there;
        recalls = λ gr j q x o c f fs fs' w ex ss b a at here there rec held s. recalls.recalls gr j q x o c f fs fs' w ex ss b a at here there rec held s;
        results = λ gr j q x i v f fs fs' w ex ss b a at here there instr call held s. recalls.results gr j q x i v f fs fs' w ex ss b a at here there instr call held s;
        loads = λ gr j q x i f fs fs' w ex ss b a at here there rec instr call s. loads_argument p k p' g n depths me plan m code.loads gr j q x i f fs fs' w ex ss b a at here there instr call s;
      }
