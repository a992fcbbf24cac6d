-- A frame arrives at a place; groups begin, or are passed over.
use Rattle.std.proofs.Common.{◌≡◌, ℕ, suc, ◌+◌, ◌<◌, ◌≤◌, Bool, true, false, List, [], ◌∷◌, length, Option, Some, None, refl, sym, ap, ◌∙◌, subst, arith, ⊎_elim}
use Rattle.std.specs.Prelude.{if◌then◌else◌, ◌==◌, nat_le, option_map}
use Rattle.std.proofs.lemmas.Bool.Decides.{eqb_tells}
use Rattle.cil_model.specs.declared.contract.Contracts.{Contracts}
use Rattle.cil_model.specs.declared.contract.Effective.{Effective}
use Rattle.cil_model.specs.declared.contract.Group.{Group}
use Rattle.cil_model.specs.declared.contract.Group.TheVariants as group
use Rattle.cil_model.specs.declared.program.Program.{Program}
use Rattle.cil_model.specs.declared.program.MethodDesc.{MethodDesc}
use Rattle.cil_semantics.specs.declared.state.World.{World}
use Rattle.cil_semantics.specs.declared.state.Local.{Local}
use Rattle.cil_semantics.specs.declared.state.ProgramPoint.{ProgramPoint}
use Rattle.cil_semantics.specs.declared.state.ProgramPoint.TheVariants.{LeadIn, InGroup, Rest}
use Rattle.cil_semantics.specs.declared.state.Handling.{Handling}
use Rattle.cil_semantics.specs.declared.state.Frame.{Frame}
use Rattle.cil_semantics.specs.State.{Next, with_stack, with_local, raised}
use Rattle.cil_semantics.specs.Contracted.{Piece, Plan, plan_for, plan_of, effective_of, is_visible, runs_at}
use Rattle.cil_semantics.specs.Unwind.{begin_entry, begin_first, begin_group, begin_piece, go_to_rest, body_of, plan_at, count_locals, goes_at, arrive_in, next_piece}
use Rattle.cil_semantics.specs.Checks.{AddedNumbers}
use Rattle.splice_facts.specs.Related.{Rewritten, count_groups}
use Rattle.simulation.proofs.ArriveLaws.{pick_true, pick_false}
use Rattle.simulation_valid.specs.Keeping.{KeepsReturned, StaysValid, ValidPlaces, ValidBelow, MayArrive}
use Rattle.simulation_valid.proofs.FrameLaws as Standing
use Rattle.simulation_valid.proofs.FrameLaws.{stands_valid, same_below}

-- a plan has the settings of the contracts
pub same_settings : (k : Contracts) (p : Program) (m : ℕ) (c : Plan) → plan_at k p m ≡ Some c → c.settings ≡ k.settings
unfolding plan_for
same_settings k p m c e = by_effective (effective_of k p m) e
  where
    by_effective : (o : Option Effective) → option_map (plan_of k.settings (is_visible p m) (count_locals p m (body_of p m).locals)) o ≡ Some c → c.settings ≡ k.settings
    by_effective None q = absurd (cc q)
    by_effective (Some x) q = let z : plan_of k.settings (is_visible p m) (count_locals p m (body_of p m).locals) x ≡ c = cc q in sym (ap (λ (y : Plan). y.settings) z)

low_enough : (d n : ℕ) → nat_le d n ≡ true → d + 1 ≤ suc n
low_enough d n e = grind (arith, e)

none_deep : (d n : ℕ) → (d == 0) ≡ true → d + 1 ≤ suc n
none_deep d n e = grind (arith, e)

-- a group runs only where the depth is at most the guard
runs_low : (c : Plan) (gr : Group) (d n : ℕ) → c.settings.guard ≡ n → runs_at c gr d ≡ true → d + 1 ≤ suc n
runs_low c group.Entry d n s e = low_enough d n (ap (nat_le d) (sym s) ∙ e)
runs_low c group.Exit d n s e = low_enough d n (ap (nat_le d) (sym s) ∙ e)
runs_low c group.Throw d n s e = low_enough d n (ap (nat_le d) (sym s) ∙ e)
runs_low c group.Inline d n s e = low_enough d n (ap (nat_le d) (sym s) ∙ e)
runs_low c group.Invariant d n s e = none_deep d n e

module _ (p : Program) (k : Contracts) (ms : List MethodDesc) (g : AddedNumbers) (r : Rewritten p k ms g) where
  abbrev Stays : Next → Type 0
  Stays x = StaysValid p k ms g r x

  abbrev Fits : Group → Option ℕ → Type 0
  Fits gr o = Standing.Fits p k ms g r gr o

  pub one_deeper : (c : Plan) (gr : Group) (m d : ℕ) → plan_at k p m ≡ Some c → runs_at c gr d ≡ true → d + 1 ≤ suc k.settings.guard
  one_deeper c gr m d e t = runs_low c gr d k.settings.guard (ap (λ (s : Rattle.cil_model.specs.declared.contract.Settings.Settings). s.guard) (same_settings k p m c e)) t

  -- what is known where a group or the rest begins
  pub record MayBegin (h : Frame) (fs : List Frame) (w : World) : Type 0 where
    pub places : ValidPlaces p k ms g r h fs
    pub below : ValidBelow p k ms g r h fs w
    pub count : w.depth ≡ count_groups fs
    pub deep : w.depth ≤ suc k.settings.guard

  abbrev raised_below : (h : Frame) (fs : List Frame) (w : World) → ValidBelow p k ms g r h fs w → ValidBelow p k ms g r h fs (raised w)
  raised_below h fs w b = record { others = b.others; returning = b.returning; heights = b.heights; world = record { heap = b.world.heap; statics = b.world.statics } }

  pub below_same : (f h : Frame) (fs : List Frame) (w : World) → h.method ≡ f.method → h.continuation ≡ f.continuation → ValidBelow p k ms g r f fs w → ValidBelow p k ms g r h fs w
  below_same f h fs w e q b = record { others = b.others; returning = b.returning; heights = same_below p k ms g r f h fs e q b.heights; world = b.world }

  -- a piece of a group begins, where the world has its depth
  pub piece_begins : (h : Frame) (gr : Group) (j q : ℕ) (s : Rattle.cil_semantics.specs.declared.state.Local.Local) (fs : List Frame) (w : World) → ValidPlaces p k ms g r (record h { local = s }) fs → ValidBelow p k ms g r h fs w → Fits gr h.thrown → KeepsReturned p (record h { local = s }) (InGroup gr j q) → w.depth ≡ 1 + count_groups fs → w.depth ≤ suc k.settings.guard → Stays (goes_at p h (InGroup gr j q) s [] fs w)
  piece_begins h gr j q s fs w a b fits res count deep =
      stands_valid p k ms g r h (InGroup gr j q) s [] fs w (record { places = a; below = b; fits = fits; counted = res; low = λ e. absurd (cc e); height = λ plan old e no. absurd (cc no); count = count; deep = deep })

  -- the rest begins with the stack that is there, which is empty
  pub rest_begins : (c : Plan) (h : Frame) (fs : List Frame) (w : World) → plan_at k p h.method ≡ Some c → MayBegin h fs w → Fits group.Entry h.thrown → h.local.stack ≡ [] → Stays (go_to_rest p c h fs w)
  rest_begins c h fs w e b fits empty =
      stands_valid p k ms g r h (Rest c.effective.rest_from) h.local [] fs w
      (record {
        places = b.places;
        below = b.below;
        fits = fits;
        counted = tt;
        low = λ no. (tt, tt);
        height = λ plan old q no. ap (λ s. Some (length s + 0)) empty ∙ sym (at_rest plan old q);
        count = omega (arith, b.count);
        deep = b.deep;
      })
    where
      same_plan : (plan : Plan) → plan_at k p h.method ≡ Some plan → c ≡ plan
      same_plan plan q = let z : Some c ≡ Some plan = sym e ∙ q in cc z

      at_rest : (plan : Plan) (old : h.method < r.methods) (q : plan_at k p h.method ≡ Some plan) → (r.heights h.method plan old q).height (Rest c.effective.rest_from) ≡ Some 0
      at_rest plan old q = ap (λ (x : Plan). (r.heights h.method plan old q).height (Rest x.effective.rest_from)) (same_plan plan q) ∙ (r.heights h.method plan old q).rest

  -- the entry group begins, or is passed over
  pub entry_begins : (c : Plan) (h : Frame) (fs : List Frame) (w : World) → plan_at k p h.method ≡ Some c → MayBegin h fs w → Fits group.Entry h.thrown → h.local.stack ≡ [] → Stays (begin_entry p c h fs w)
  entry_begins c h fs w e b fits empty = by_group (next_piece p c group.Entry 0 h fs w) (runs_at c group.Entry w.depth) refl
    where
      by_group : (o : Option (ℕ × Piece)) (t : Bool) → runs_at c group.Entry w.depth ≡ t → Stays (if t then begin_first p c o h fs w else go_to_rest p c h fs w)
      by_group (Some x) true q = piece_begins h group.Entry x.0 x.1.from h.local fs (raised w) b.places (raised_below h fs w b.below) fits tt (omega (arith, b.count)) (one_deeper c group.Entry h.method w.depth e q)
      by_group (Some x) false q = rest_begins c h fs w e b fits empty
      by_group None true q = rest_begins c h fs w e b fits empty
      by_group None false q = rest_begins c h fs w e b fits empty

  -- another group begins, or is passed over
  pub group_begins : (c : Plan) (gr : Group) (h : Frame) (fs : List Frame) (w : World) (over : Next) → plan_at k p h.method ≡ Some c → MayBegin (record h { local = with_stack h.local [] }) fs w → Fits gr h.thrown → ((j q : ℕ) → KeepsReturned p (record h { local = with_stack h.local [] }) (InGroup gr j q)) → Stays over → Stays (begin_group p c gr h fs w over)
  group_begins c gr h fs w over e b fits result other = by_group (next_piece p c gr 0 h fs w) (runs_at c gr w.depth) refl
    where
      by_group : (o : Option (ℕ × Piece)) (t : Bool) → runs_at c gr w.depth ≡ t → Stays (if t then begin_piece p gr o h fs (raised w) over else over)
      by_group (Some x) true q = piece_begins h gr x.0 x.1.from (with_stack h.local []) fs (raised w) b.places (raised_below h fs w (below_same (record h { local = with_stack h.local [] }) h fs w refl refl b.below)) fits (result x.0 x.1.from) (omega (arith, b.count)) (one_deeper c gr h.method w.depth e q)
      by_group (Some x) false q = other
      by_group None true q = other
      by_group None false q = other

  no_stack : {X : Type 0} (xs : List X) → length xs + 0 ≡ 0 → xs ≡ []
  no_stack [] e = refl
  no_stack (x ∷ xs) e = let z : length xs + 1 ≡ 0 = omega (arith, e) in absurd (omega (arith, z))

  -- a frame arrives at a place
  pub arrives : (o : Option Plan) (h : Frame) (at : ProgramPoint) (l : Local) (hs : List Handling) (fs : List Frame) (w : World) → plan_at k p h.method ≡ o → MayArrive p k ms g r h at l hs fs w → Stays (arrive_in p o h at l hs fs w)
  arrives None h at l hs fs w e a = stands_valid p k ms g r h at l hs fs w a
  arrives (Some c) h (InGroup gr j q) l hs fs w e a = piece_begins h gr j q l fs w a.places a.below a.fits a.counted a.count a.deep
  arrives (Some c) h (Rest q) l hs fs w e a = stands_valid p k ms g r h (Rest q) l hs fs w a
  arrives (Some c) h (LeadIn q) l hs fs w e a =
      ⊎_elim
      (λ t. subst Stays (sym (pick_true (q == c.effective.lead_end) entered here t.0))
      (entry_begins c (record h { local = l }) fs w e (record { places = a.places; below = below_same h (record h { local = l }) fs w refl refl a.below; count = omega (arith, a.count); deep = a.deep }) a.fits (empty_at t.1)))
      (λ t. subst Stays (sym (pick_false (q == c.effective.lead_end) entered here t.0)) (stands_valid p k ms g r h (LeadIn q) l hs fs w a))
      (eqb_tells q c.effective.lead_end)
    where
      entered : Next
      entered = begin_entry p c (with_local l h) fs w

      here : Next
      here = goes_at p h (LeadIn q) l hs fs w

      empty_at : q ≡ c.effective.lead_end → l.stack ≡ []
      empty_at s = no_stack l.stack ((r.heights h.method c a.places.old e).entry (length l.stack + 0) (a.height c a.places.old e refl ∙ ap (λ z. (r.heights h.method c a.places.old e).height (LeadIn z)) s))
