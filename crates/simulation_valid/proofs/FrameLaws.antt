-- A frame that stands at a place is valid, and so are the frames below.
use Rattle.std.proofs.Common.{◌≡◌, ℕ, Bool, true, false, List, [], ◌∷◌, length, Option, Some, None, refl, sym, ap, ◌∙◌, subst, arith}
use Rattle.std.specs.Prelude.{if◌then◌else◌, filter, is_some, IsTrue}
use Rattle.cil_model.specs.declared.contract.Contracts.{Contracts}
use Rattle.cil_model.specs.declared.contract.Group.{Group}
use Rattle.cil_model.specs.declared.contract.Group.TheVariants as group
use Rattle.cil_model.specs.declared.program.Program.{Program}
use Rattle.cil_model.specs.declared.program.MethodDesc.{MethodDesc}
use Rattle.cil_semantics.specs.declared.state.World.{World}
use Rattle.cil_semantics.specs.declared.state.Local.{Local}
use Rattle.cil_semantics.specs.declared.state.ProgramPoint.{ProgramPoint}
use Rattle.cil_semantics.specs.declared.state.ProgramPoint.TheVariants.{LeadIn, InGroup, Rest}
use Rattle.cil_semantics.specs.declared.state.Handling.{Handling}
use Rattle.cil_semantics.specs.declared.state.Frame.{Frame}
use Rattle.cil_semantics.specs.declared.state.Cause.{Cause}
use Rattle.cil_semantics.specs.declared.state.Cause.TheVariants.{Caught, Unwinding, Leaving}
use Rattle.cil_semantics.specs.Unwind.{body_of, plan_at, moved_to, in_handler, handled_at, goes_at}
use Rattle.splice_facts.specs.Layout.{IsHere}
use Rattle.cil_semantics.specs.Checks.{AddedNumbers}
use Rattle.cil_model.specs.declared.ty.Ty.{Ty}
use Rattle.cil_model.specs.declared.value.Value.{Value}
use Rattle.il_opcodes.specs.declared.class.Storage.{Storage}
use Rattle.il_opcodes.specs.declared.class.Storage.TheVariants.{Truncated, Long, NativeInt, Reference, Address, Fields, Opaque, Anything, Void}
use Rattle.cil_semantics.specs.Lookups.{method_of}
use Rattle.cil_semantics.specs.Places.{storage, is_void}
use Rattle.cil_semantics.specs.Returns.{result_type, kept_as}
use Rattle.splice_facts.specs.Input.{is_group, top_of}
use Rattle.splice_facts.specs.Spliced.{AreLow, Current, FitsGroup}
use Rattle.splice_facts.specs.Related.{HandlersLead, CauseLeads, Rewritten, Valid, ValidFrame, ValidFrames, HeightsBelow, HasHeight, FitsAt, HasResult, written, in_group, count_groups}
use Rattle.simulation_valid.specs.Keeping.{ReturnsFully, KeepsReturned, StaysValid, MayArrive}

-- what is kept of what is kept is the same
kept_twice : (t : Handling → Bool) (hs : List Handling) → filter t (filter t hs) ≡ filter t hs
kept_twice t [] = refl
kept_twice t (h ∷ hs) = by_test (t h) refl (kept_twice t hs)
  where
    by_test : (b : Bool) → t h ≡ b → filter t (filter t hs) ≡ filter t hs → filter t (if b then h ∷ filter t hs else filter t hs) ≡ (if b then h ∷ filter t hs else filter t hs)
    by_test true e ih = ap (λ c. if c then h ∷ filter t (filter t hs) else filter t (filter t hs)) e ∙ ap (λ l. h ∷ l) ih
    by_test false e ih = ih

-- what a frame returns goes by its method, its types and its result alone
counted_at : (p : Program) (at to : ProgramPoint) (f : Frame) (hs : List Handling) → KeepsReturned p f at → KeepsReturned p (record f { at = to; handling = hs }) at
counted_at p (LeadIn q) to f hs h = tt
counted_at p (Rest q) to f hs h = tt
counted_at p (InGroup group.Entry j q) to f hs h = tt
counted_at p (InGroup group.Exit j q) to f hs h = h
counted_at p (InGroup group.Throw j q) to f hs h = tt
counted_at p (InGroup group.Invariant j q) to f hs h = h
counted_at p (InGroup group.Inline j q) to f hs h = tt

-- a value is returned where the type of the result is not void
not_void : (p : Program) (t : Ty) (h : Storage) → kept_as p t h [] ≡ None → is_void h ≡ false
not_void p t Void e = absurd (cc e)
not_void p t (Truncated n s) e = refl
not_void p t Long e = refl
not_void p t NativeInt e = refl
not_void p t Reference e = refl
not_void p t Address e = refl
not_void p t (Fields n) e = refl
not_void p t Opaque e = refl
not_void p t Anything e = refl

one_there : (o : Option Value) (b : Bool) → b ≡ false → length (top_of o) ≡ (if b then 0 else 1) → IsTrue (is_some o)
one_there None b e q = let z : 0 ≡ 1 = q ∙ ap (λ (c : Bool). if c then 0 else 1) e in absurd (omega (arith, z))
one_there (Some v) b e q = refl

has_result : (p : Program) (at : ProgramPoint) (f : Frame) → ReturnsFully p f → KeepsReturned p f at → HasResult p f at
has_result p (LeadIn q) f n h = tt
has_result p (Rest q) f n h = tt
has_result p (InGroup group.Entry j q) f n h = tt
has_result p (InGroup group.Exit j q) f n h = λ e. one_there f.local.result (is_void (storage p (method_of p f.method).result)) (sym n.0 ∙ not_void p (result_type p f) (storage p (result_type p f)) e) h.0
has_result p (InGroup group.Throw j q) f n h = tt
has_result p (InGroup group.Invariant j q) f n h = tt
has_result p (InGroup group.Inline j q) f n h = tt

module _ (p : Program) (k : Contracts) (ms : List MethodDesc) (g : AddedNumbers) (r : Rewritten p k ms g) where
  abbrev pub low : ℕ → List Handling → Type 0
  low m hs = AreLow p k (written p k ms g r) g r.types r.depths m hs

  abbrev pub Fits : Group → Option ℕ → Type 0
  Fits gr o = FitsGroup p k (written p k ms g r) g r.types r.depths gr o

  low_kept : (m : ℕ) (t : Handling → Bool) (hs : List Handling) → low m hs → low m (filter t hs)
  low_kept m t [] h = tt
  low_kept m t (x ∷ xs) h = by_test (t x) (low_kept m t xs h.1)
    where
      by_test : (b : Bool) → low m (filter t xs) → low m (if b then x ∷ filter t xs else filter t xs)
      by_test true ih = (h.0, ih)
      by_test false ih = ih

  -- only handlers round the place are pending there
  current_at : (m : ℕ) (at : ProgramPoint) (hs : List Handling) → (is_group at ≡ false → low m hs) → is_group at ≡ false → Current p k (written p k ms g r) g r.types r.depths m at (handled_at (body_of p m).regions at hs)
  current_at m (LeadIn q) hs h e = (low_kept m (in_handler (body_of p m).regions q) hs (h e), kept_twice (in_handler (body_of p m).regions q) hs)
  current_at m (Rest q) hs h e = (low_kept m (in_handler (body_of p m).regions q) hs (h e), kept_twice (in_handler (body_of p m).regions q) hs)
  current_at m (InGroup gr j q) hs h e = absurd (cc e)

  -- handlers lead on from each place of the same part
  leads_kept : (m : ℕ) (at : ProgramPoint) (t : Handling → Bool) (hs : List Handling) → HandlersLead p k ms g r m at hs → HandlersLead p k ms g r m at (filter t hs)
  leads_kept m at t [] h = tt
  leads_kept m at t (x ∷ xs) h = by_test (t x) (leads_kept m at t xs h.1)
    where
      by_test : (b : Bool) → HandlersLead p k ms g r m at (filter t xs) → HandlersLead p k ms g r m at (if b then x ∷ filter t xs else filter t xs)
      by_test true ih = (h.0, ih)
      by_test false ih = ih

  leads_at : (m : ℕ) (at : ProgramPoint) (hs : List Handling) → (is_group at ≡ false → HandlersLead p k ms g r m at hs) → is_group at ≡ false → HandlersLead p k ms g r m at (handled_at (body_of p m).regions at hs)
  leads_at m (LeadIn q) hs h e = leads_kept m (LeadIn q) (in_handler (body_of p m).regions q) hs (h e)
  leads_at m (Rest q) hs h e = leads_kept m (Rest q) (in_handler (body_of p m).regions q) hs (h e)
  leads_at m (InGroup gr j q) hs h e = absurd (cc e)

  cause_moved : (m : ℕ) (at : ProgramPoint) (t : ℕ) (c : Cause) → is_group at ≡ false → CauseLeads p k ms g r m at c → CauseLeads p k ms g r m (moved_to t at) c
  cause_moved m (LeadIn q) t (Caught x) e h = tt
  cause_moved m (LeadIn q) t (Unwinding x) e h = tt
  cause_moved m (LeadIn q) t (Leaving u) e h = h
  cause_moved m (Rest q) t (Caught x) e h = tt
  cause_moved m (Rest q) t (Unwinding x) e h = tt
  cause_moved m (Rest q) t (Leaving u) e h = h
  cause_moved m (InGroup gr j q) t c e h = absurd (cc e)

  place_moved : (m : ℕ) (at : ProgramPoint) (t u : ℕ) → is_group at ≡ false → IsHere (plan_at k p m) (moved_to u at) → IsHere (plan_at k p m) (moved_to u (moved_to t at))
  place_moved m (LeadIn q) t u e h = h
  place_moved m (Rest q) t u e h = h
  place_moved m (InGroup gr j q) t u e h = absurd (cc e)

  pub leads_moved : (m : ℕ) (at : ProgramPoint) (t : ℕ) (hs : List Handling) → is_group at ≡ false → HandlersLead p k ms g r m at hs → HandlersLead p k ms g r m (moved_to t at) hs
  leads_moved m at t [] e h = tt
  leads_moved m at t (x ∷ xs) e h = ((place_moved m at t x.place e h.0.0, cause_moved m at t x.cause e h.0.1), leads_moved m at t xs e h.1)

  -- handlers that may be pending
  abbrev pub pending : ℕ → ProgramPoint → List Handling → Type 0
  pending m at hs = low m hs × HandlersLead p k ms g r m at hs

  -- the frames below look at a frame's method and at what happens when it ends
  pub same_below : (f h : Frame) (fs : List Frame) → h.method ≡ f.method → h.continuation ≡ f.continuation → HeightsBelow p k ms g r f fs → HeightsBelow p k ms g r h fs
  same_below f h [] e q x = tt
  same_below f h (y ∷ ys) e q x = (
    subst (λ c. HasHeight p k ms g r y (Rattle.splice_facts.specs.Related.goes_on_at p k ms g r c y.at) (Rattle.splice_facts.specs.Related.pushes p k ms g r h.method c)) (sym q)
        (subst (λ m. HasHeight p k ms g r y (Rattle.splice_facts.specs.Related.goes_on_at p k ms g r f.continuation y.at) (Rattle.splice_facts.specs.Related.pushes p k ms g r m f.continuation)) (sym e) x.0),
    x.1,
  )

  -- a frame stands at a place
  pub stands_valid : (h : Frame) (at : ProgramPoint) (l : Local) (hs : List Handling) (fs : List Frame) (w : World) → MayArrive p k ms g r h at l hs fs w → StaysValid p k ms g r (goes_at p h at l hs fs w)
  stands_valid h at l hs fs w a =
      let f1 : Frame = record h { local = l; at = at; handling = handled_at (body_of p h.method).regions at hs } in
      let at_place = counted_at p at at (record h { local = l }) (handled_at (body_of p h.method).regions at hs) a.counted in
      record {
        valid = record {
          frames = (
            record {
              stands = record { old = a.places.old; wide = a.places.wide; fits = a.fits; initializes = a.places.initializes };
              captured = a.places.captured;
              has_result = has_result p at f1 a.places.as_named at_place;
              fine = a.places.fine;
              fine_back = a.places.fine_back;
              current = current_at h.method at hs (λ e. (a.low e).0);
              leads = leads_at h.method at hs (λ e. (a.low e).1);
            },
            a.below.others,
          );
          heights = (a.height, same_below h f1 fs refl refl a.below.heights);
          world = a.below.world;
          depth = a.count;
          deep = a.deep;
        };
        returning = (a.places.as_named, at_place, a.below.returning);
      }
