-- A body whose kept clauses are Requires meets all the facts on groups.
use Rattle.std.proofs.Common.{◌≡◌, ◌≢◌, ℕ, ◌+◌, ◌≤◌, Bool, true, false, List, [], ◌∷◌, Option, Some, None, refl, sym, ap, ◌∙◌, subst}
use Rattle.std.specs.Prelude.{slice_get, ◌||◌}
use Rattle.cil_model.specs.declared.contract.Contracts.{Contracts}
use Rattle.cil_model.specs.declared.contract.Group.{Group}
use Rattle.cil_model.specs.declared.contract.Group.TheVariants as group
use Rattle.cil_model.specs.declared.program.Program.{Program}
use Rattle.cil_semantics.specs.Words.{maybe}
use Rattle.cil_semantics.specs.declared.state.Cell.{Cell}
use Rattle.cil_semantics.specs.State as state
use Rattle.cil_semantics.specs.declared.state.World.{World}
use Rattle.cil_semantics.specs.declared.state.Statics.{Statics}
use Rattle.cil_semantics.specs.declared.state.ProgramPoint.TheVariants.{InGroup}
use Rattle.cil_semantics.specs.declared.state.Frame.{Frame}
use Rattle.cil_semantics.specs.State.{State, Next, Running, with_stack}
use Rattle.cil_semantics.specs.declared.state.Continuation.{Continuation}
use Rattle.cil_semantics.specs.Contracted.{Piece, Plan, pieces, runs_at}
use Rattle.cil_semantics.specs.Unwind.{body_of, here_of, piece_at, in_handler, next_piece, first_from, takes_part, drops}
use Rattle.cil_semantics.specs.Frames.{stuck}
use Rattle.cil_semantics.specs.Checks.{AddedNumbers}
use Rattle.machine_laws.specs.Same.{most_clauses}
use Rattle.splice_facts.specs.Comes.{Comes}
use Rattle.splice_facts.specs.Grown.{beside}
use Rattle.splice_facts.specs.Layout.{Depths, Marks, IsHere}
use Rattle.splice_facts.specs.Spliced.{Paired, stands, from_here, Arrives, EntersAt, OpensAt, Groups, IsInline, FitsGroup, cost, opening_cost}
use Rattle.splice_laws.specs.HelperRuns.{HelpersRun}
use Rattle.splice_laws.specs.RequiresOnly.{RequiresOnly}
use Rattle.splice_laws.specs.EntryCode.{EntryCode}
use Rattle.splice_laws.specs.GroupSeams.{BeginsAt, GroupSeams}
use Rattle.splice_facts.proofs.ComesLaws.{comes_at_once}
use Rattle.splice_laws.proofs.LoadLaws.{loads_argument}
use Rattle.splice_laws.proofs.GroupLaws.{seams}

none_there : {X : Type 0} (xs : List X) (j : ℕ) (x : X) → xs ≡ [] → slice_get xs j ≡ Some x → ⊥
none_there xs j x e h = let z : slice_get {X = _} [] j ≡ Some x = sym (ap (λ l. slice_get l j) e) ∙ h in cc z

module _ (p : Program) (k : Contracts) (p' : Program) (g : AddedNumbers) (n : ℕ) (depths : Depths n g) (me : ℕ) (plan : Plan) (m : Marks) where
  module _ (r : HelpersRun p' g k.settings.throwing depths.owner k.settings.guard) (e : EntryCode p p' g k.settings.throwing depths.owner k.settings.guard r me plan m) (many : 1 ≤ most_clauses k p 0 p.methods) (small : k.settings.guard ≤ 100) (settings : plan.settings ≡ k.settings) (given : RequiresOnly p k p' g n depths me plan m) where
    abbrev Sc : Frame → List Frame → List Frame → World → List Cell → List Statics → Type 0
    Sc f fs fs' w ex ss = Paired p k p' g n depths m f fs fs' w ex ss

    at_entry : GroupSeams p k p' g n depths me plan m group.Entry
    at_entry = seams p k p' g n depths me plan m group.Entry r e.frame many e.door_code small settings

    as_entry : (f : Frame) (fs fs' : List Frame) (w : World) (ex : List Cell) (ss : List Statics) (b : Continuation) (o : Option (ℕ × Piece)) (t : Bool) → BeginsAt p k p' g n depths me plan m group.Entry (stands p k p' g n depths f f.local ex (m.door group.Entry) b fs' w ss) f fs f.local b fs' w o t
        → EntersAt p k p' g n depths m plan (cost k p) (stands p k p' g n depths f f.local ex (m.door group.Entry) b fs' w ss) f fs f.local b fs' w o t
    as_entry f fs fs' w ex ss b (Some x) true y = y
    as_entry f fs fs' w ex ss b (Some x) false y = y
    as_entry f fs fs' w ex ss b None true y = y
    as_entry f fs fs' w ex ss b None false y = y

    no_piece : (gr : Group) (j : ℕ) (x : Piece) → gr ≢ group.Entry → piece_at (Some plan) gr j ≡ Some x → ⊥
    no_piece gr j x d h = none_there (pieces plan gr) j x (given.only gr d) h

    no_first : (gr : Group) (f : Frame) (fs : List Frame) (w : World) → gr ≢ group.Entry → next_piece p plan gr 0 f fs w ≡ None
    no_first gr f fs w d = ap (first_from (takes_part p f fs w) 0 0) (given.only gr d)

    opens_none : (gr : Group) (f : Frame) (fs fs' : List Frame) (w : World) (ex : List Cell) (ss : List Statics) (b : Continuation) → gr ≢ group.Entry → f.local.stack ≡ [] → Sc f fs fs' w ex ss
        → OpensAt p k p' g n depths m plan gr (opening_cost k p gr) (stands p k p' g n depths f f.local ex (m.door gr) b fs' w ss) f fs f.local b fs' w (next_piece p plan gr 0 f fs w) (runs_at plan gr w.depth)
    opens_none gr f fs fs' w ex ss b d empty s =
        subst (λ o. Opens o (runs_at plan gr w.depth)) (sym (no_first gr f fs w d)) (by_test (runs_at plan gr w.depth))
      where
        Opens : Option (ℕ × Piece) → Bool → Type 0
        Opens o t = OpensAt p k p' g n depths m plan gr (opening_cost k p gr) (stands p k p' g n depths f f.local ex (m.door gr) b fs' w ss) f fs f.local b fs' w o t

        arrived : Arrives p k p' g n depths m (opening_cost k p gr) (stands p k p' g n depths f f.local ex (m.door gr) b fs' w ss) f fs (with_stack f.local []) (m.out gr) b fs' w
        arrived =
            record {
              extra = ex;
              keeps = record { wide = (s.keeps).wide; caps = (s.keeps).caps; typed = (s.keeps).typed; result = (s.keeps).result; thrown = (s.keeps).thrown };
              statics = ss;
              beside = s.beside;
              comes = comes_at_once p' (opening_cost k p gr) _ _ (ap (λ z. stands p k p' g n depths f (with_stack f.local z) ex (m.door gr) b fs' w ss) empty ∙ ap (λ q. stands p k p' g n depths f (with_stack f.local []) ex q b fs' w ss) (given.doors gr d));
            }

        by_test : (t : Bool) → Opens None t
        by_test true = arrived
        by_test false = arrived

    entry_drops_none : (j : ℕ) (o : Option Piece) → piece_at (Some plan) group.Entry j ≡ o → drops o ≡ false
    entry_drops_none j None q = refl
    entry_drops_none j (Some x) q = ap (maybe false (λ c. true)) ((given.plain j x q).1)

    not_exit : group.Exit ≢ group.Entry
    not_exit q = cc q

    not_throw : group.Throw ≢ group.Entry
    not_throw q = cc q

    not_invariant : group.Invariant ≢ group.Entry
    not_invariant q = cc q

    not_inline : group.Inline ≢ group.Entry
    not_inline q = cc q

    abbrev any : List Piece → Bool
    any xs = Rattle.splice_facts.specs.Spliced.has_any p k p' g n depths xs

    no_exit : Rattle.splice_facts.specs.Spliced.has_exit p k p' g n depths plan ≡ true → ⊥
    no_exit q =
        let z : false ≡ true = sym (ap (λ xs. any xs || any (pieces plan group.Invariant)) (given.only group.Exit not_exit) ∙ ap any (given.only group.Invariant not_invariant)) ∙ q in
        cc z

    no_throw : any (pieces plan group.Throw) ≡ true → ⊥
    no_throw q = let z : false ≡ true = sym (ap any (given.only group.Throw not_throw)) ∙ q in cc z

    no_exception : (o : Option ℕ) → FitsGroup p k p' g n depths group.Entry o → o ≡ None
    no_exception None y = refl
    no_exception (Some z) y = absurd y

    -- in the entry group, or in a group without pieces
    by_group : (P : Group → Type 0) (gr : Group) → P group.Entry → (gr ≢ group.Entry → P gr) → P gr
    by_group P group.Entry y other = y
    by_group P group.Exit y other = other not_exit
    by_group P group.Throw y other = other not_throw
    by_group P group.Invariant y other = other not_invariant
    by_group P group.Inline y other = other not_inline

    pub groups : Groups p k p' g n depths me plan m
    groups =
        record {
          entry_door = given.entry_door;
          entry_out = given.entry_out;
          then_invariants = given.then_invariants;
          bare_doors = given.bare_doors;
          enters = λ f fs fs' w ex ss b a none s. as_entry f fs fs' w ex ss b (next_piece p plan group.Entry 0 f fs w) (runs_at plan group.Entry w.depth) (at_entry.begins f fs fs' w ex ss b a none s);
          opens = λ gr f fs fs' w ex ss b d empty a fit ok s. opens_none gr f fs fs' w ex ss b d empty s;
          continues = λ gr j x f fs fs' w ex ss b there a fit ok some s.
              by_group (λ gr1. piece_at (Some plan) gr1 j ≡ Some x → FitsGroup p k p' g n depths gr1 f.thrown → Rattle.splice_facts.specs.Spliced.ContinuesAt p k p' g n depths m plan gr1 (cost k p) (stands p k p' g n depths f f.local ex (m.behind gr1 j) b fs' w ss) f fs f.local b fs' w (next_piece p plan gr1 (j + 1) f fs w)) gr
              (λ there1 fit1. at_entry.continues j x f fs fs' w ex ss b there1 a (no_exception f.thrown fit1) some s)
              (λ d there1 fit1. absurd (no_piece gr j x d there1)) there fit;
          breaks = λ gr j q q' f fs fs' w ex ss b x at here bel a fit some s dr.
              by_group (λ gr1. f.at ≡ InGroup gr1 j q → drops (piece_at (Some plan) gr1 j) ≡ false → (ss2 : List Statics) × Rattle.splice_facts.specs.Spliced.Beside p k p' g n depths (state.lowered w) ss2 × Comes p' (cost k p) (Rattle.cil_semantics.specs.Unwind.unwind p' Rattle.cil_model.specs.NoContracts.no_contracts false (Rattle.splice_facts.specs.Spliced.twin p k p' g n depths f f.local ex q' [] b ∷ fs') (beside ss w) x) (Rattle.splice_facts.specs.Spliced.leaves_with p k p' g n depths f b fs' (state.lowered w) ss2 x)) gr
              (λ at1 dr1. at_entry.breaks j q q' f fs fs' w ex ss b x at1 here bel a some s dr1)
              (λ d at1 dr1. let h = subst (IsHere (Some plan)) at1 here in absurd (no_piece gr j h.0 d h.1)) at dr;
          swallows = λ gr j q q' f fs fs' w ex ss b x at here bel a fit some s dr thrown.
              absurd (by_group (λ gr1. f.at ≡ InGroup gr1 j q → drops (piece_at (Some plan) gr1 j) ≡ true → ⊥) gr
              (λ at1 dr1. let z : false ≡ true = sym (entry_drops_none j (piece_at (Some plan) group.Entry j) refl) ∙ dr1 in cc z)
              (λ d at1 dr1. let h = subst (IsHere (Some plan)) at1 here in no_piece gr j h.0 d h.1) at dr);
          returns = λ f fs fs' w ex ss b a named st s. absurd (no_exit st.0);
          throws = λ f fs fs' w ex ss b x a th kept s. absurd (no_throw kept);
          lifts = λ f fs fs' w ex ss b hs q i v a named ext. absurd (no_exit ext);
          lifts_stuck = λ f fs fs' w ex ss b hs q i a named ext. absurd (no_exit ext);
          checks = λ gr j q x i kd c f fs fs' w ex ss b a at here there instr ends s given1.
              by_group (λ gr1. f.at ≡ InGroup gr1 j q → piece_at (Some plan) gr1 j ≡ Some x → Rattle.splice_facts.specs.Spliced.Checked p k p' g n depths m f fs fs' w ex ss b [] (Rattle.splice_facts.specs.Spliced.clause_failure p k p' g n depths f fs x c.user) c.holds c.rest (m.behind gr1 j)) gr
              (λ at1 there1. at_entry.checks j q x i kd c f fs fs' w ex ss b a at1 here there1 (given.plain j x there1).0 instr ends s given1)
              (λ d at1 there1. absurd (no_piece gr j x d there1)) at there;
          checks_stuck = λ gr j q x i kd f fs fs' w ex ss b a at here there instr ends s none.
              by_group (λ gr1. f.at ≡ InGroup gr1 j q → piece_at (Some plan) gr1 j ≡ Some x → Comes p' (cost k p) (from_here p k p' g n depths m f ex b fs' w ss []) (stuck (beside ss w))) gr
              (λ at1 there1. at_entry.checks_stuck j q x i kd f fs fs' w ex ss b a at1 here there1 (given.plain j x there1).0 instr ends s none)
              (λ d at1 there1. absurd (no_piece gr j x d there1)) at there;
          asserts = λ f fs fs' w ex ss b hs i kd c label home a here inl. absurd (given.no_inline f fs f.at i kd home label inl);
          asserts_stuck = λ f fs fs' w ex ss b hs i kd label home a here inl. absurd (given.no_inline f fs f.at i kd home label inl);
          drops_arguments = λ f fs fs' w ex ss b hs i kd label home a here inl. absurd (given.no_inline f fs f.at i kd home label inl);
          takes = λ gr j q x i c f fs fs' w ex ss b a at here there cap. absurd (by_group (λ gr1. piece_at (Some plan) gr1 j ≡ Some x → ⊥) gr (λ there1. let z : None ≡ Some c = sym ((given.plain j x there1).1) ∙ cap in cc z) (λ d there1. no_piece gr j x d there1) there);
          recalls = λ gr j q x o c f fs fs' w ex ss b a at here there rec. absurd (given.no_old gr j q x o there rec);
          results = λ gr j q x i v f fs fs' w ex ss b a at here there instr res. absurd (given.no_result gr j q x i there instr res);
          loads = λ gr j q x i f fs fs' w ex ss b a at here there rec instr call s. loads_argument p k p' g n depths me plan m given.loads gr j q x i f fs fs' w ex ss b a at here there instr call s;
        }

-- the whole, from what the helpers do
pub requires_meet : (p : Program) (k : Contracts) (p' : Program) (g : AddedNumbers) (n : ℕ) (depths : Depths n g) (me : ℕ) (plan : Plan) (m : Marks) (r : HelpersRun p' g k.settings.throwing depths.owner k.settings.guard) → EntryCode p p' g k.settings.throwing depths.owner k.settings.guard r me plan m
    → 1 ≤ most_clauses k p 0 p.methods → k.settings.guard ≤ 100 → plan.settings ≡ k.settings → RequiresOnly p k p' g n depths me plan m → Groups p k p' g n depths me plan m
requires_meet p k p' g n depths me plan m r e many small settings given = groups p k p' g n depths me plan m r e many small settings given
