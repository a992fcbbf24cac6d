-- Where a frame goes on at a place with the place's height, the state is in shape: at the next place, at a handler, behind a leave.
use Rattle.std.proofs.Common.{◌≡◌, inl, inr, ◌<◌, ◌+◌, ℕ, zero, suc, Bool, true, false, cond, ◌&&◌, not, List, [], ◌∷◌, ◌++◌, length, Option, Some, None, refl, sym, arith, subst}
use Rattle.std.specs.Prelude.{if◌then◌else◌, filter}
use Rattle.std.specs.List.{flat_map}
use Rattle.cil_base.specs.declared.token.Token.{Token}
use Rattle.cil_model.specs.declared.body.Region.{Region}
use Rattle.cil_model.specs.declared.body.RegionKind.{RegionKind}
use Rattle.cil_model.specs.declared.body.RegionKind.TheVariants as region
use Rattle.cil_model.specs.declared.contract.Contracts.{Contracts}
use Rattle.cil_model.specs.declared.program.Program.{Program}
use Rattle.cil_model.specs.declared.value.Value.{Value, Obj}
use Rattle.cil_model.specs.declared.ty.Ty.{Ty}
use Rattle.cil_model.specs.ValidBody.{AllValidRegions}
use Rattle.cil_semantics.specs.Words.{maybe}
use Rattle.cil_semantics.specs.Core.{Name}
use Rattle.cil_semantics.specs.declared.state.Frame.{Frame}
use Rattle.cil_semantics.specs.declared.state.Handling.{Handling}
use Rattle.cil_semantics.specs.declared.state.Cause.{Cause}
use Rattle.cil_semantics.specs.declared.state.Cause.TheVariants.{Caught, Unwinding, Leaving}
use Rattle.cil_semantics.specs.declared.state.World.{World}
use Rattle.cil_semantics.specs.declared.state.Local.{Local}
use Rattle.cil_semantics.specs.declared.state.ProgramPoint.{ProgramPoint}
use Rattle.cil_semantics.specs.declared.state.ProgramPoint.TheVariants.{LeadIn, InGroup, Rest}
use Rattle.cil_semantics.specs.State.{with_stack, pushed}
use Rattle.cil_semantics.specs.Returns.{push_below, result_type}
use Rattle.cil_semantics.specs.Frames.{go_on}
use Rattle.cil_semantics.specs.Unwind.{body_of, plan_at, place_in, moved_to, next_place, in_handler, in_try, handled_at, goes_at, arrive_in, Found, NoHandler, CatchHandler, CleanupHandler, found_in, search_from, searched, fits_type, caught_type, Below, hasnt_begun, ends_frame, no_handler_left, land, throws_in, unwind, raise, is_finally, left_from, leave_through, leave, resume_cause, resume}
use Rattle.il_flow.specs.Heights.{beginnings, entries}
use Rattle.il_flow.proofs.NoMapLaws.{In, contains}
use Rattle.flow_laws.specs.Shapes.{HeightsOf, count_of, HasHeight, Waits, GoesOn, AllGoOn, Over, Lie, NextInShape}
use Rattle.flow_laws.specs.Measured.{Measured, IsPlain}

-- ---- lists

in_left : {X : Type 0} (x : X) (xs ys : List X) → In x xs → In x (xs ++ ys)
in_left x [] ys m = absurd m
in_left x (y ∷ xs) ys (inl e) = inl e
in_left x (y ∷ xs) ys (inr m) = inr (in_left x xs ys m)

in_right : {X : Type 0} (x : X) (xs ys : List X) → In x ys → In x (xs ++ ys)
in_right x [] ys m = m
in_right x (y ∷ xs) ys m = inr (in_right x xs ys m)

pub moved : (t : ℕ) (at : ProgramPoint) → place_in (moved_to t at) ≡ t
moved t (LeadIn q) = refl
moved t (InGroup g i q) = refl
moved t (Rest q) = refl

-- how many values are pushed
abbrev pub size : Option Value → ℕ
size None = 0
size (Some v) = 1

module _ (p : Program) (k : Contracts) (height : HeightsOf) (plain : IsPlain p k) (ok : Measured p height) where
  -- ---- what begins a handler

  abbrev Enters : ℕ → ℕ → RegionKind → Type 0
  Enters m t (region.Catch token) = HasHeight p height m t 1
  Enters m t (region.Filter place) = Unit {0}
  Enters m t region.Finally = HasHeight p height m t 0
  Enters m t region.Fault = HasHeight p height m t 0

  abbrev AllEnter : ℕ → List Region → Type 0
  AllEnter m [] = Unit {0}
  AllEnter m (r ∷ rs) = Enters m r.handler_from r.kind × AllEnter m rs

  enters_all : (m : ℕ) (rs : List Region) → AllValidRegions (length (body_of p m).instrs) rs → ((q h : ℕ) → In (q, h) (flat_map entries rs) → q < length (body_of p m).instrs → height m q ≡ Some h) → AllEnter m rs
  enters_all m [] v f = tt
  enters_all m (r ∷ rs) v f = (by_kind r.kind refl, enters_all m rs v.1 (λ q h i b. f q h (in_right (q, h) (entries r) (flat_map entries rs) i) b))
    where
      first : (h : ℕ) → In (r.handler_from, h) (entries r) → HasHeight p height m r.handler_from h
      first h i = record { within = omega (arith, v.0.handler); same = λ b. f r.handler_from h (in_left (r.handler_from, h) (entries r) (flat_map entries rs) i) b }

      by_kind : (c : RegionKind) → r.kind ≡ c → Enters m r.handler_from c
      by_kind (region.Catch token) e = first 1 (subst (λ c. In (r.handler_from, 1) (entries (record r { kind = c }))) (sym e) (inl refl))
      by_kind (region.Filter place) e = tt
      by_kind region.Finally e = first 0 (subst (λ c. In (r.handler_from, 0) (entries (record r { kind = c }))) (sym e) (inl refl))
      by_kind region.Fault e = first 0 (subst (λ c. In (r.handler_from, 0) (entries (record r { kind = c }))) (sym e) (inl refl))

  enter_all : (m : ℕ) → AllEnter m (body_of p m).regions
  enter_all m = enters_all m (body_of p m).regions (ok.valid m).1.regions (λ q h i b. (ok.heights m).begins q h (contains (q, h) (beginnings (body_of p m)) (inr i)) b)

  -- a call begins with nothing on the stack
  pub begins_at_zero : (m : ℕ) → HasHeight p height m 0 0
  begins_at_zero m = record { within = omega arith; same = λ b. (ok.heights m).begins 0 0 (contains (0, 0) (beginnings (body_of p m)) (inl refl)) b }

  abbrev Fits : ℕ → Found → Type 0
  Fits m NoHandler = Unit {0}
  Fits m (CatchHandler i t) = HasHeight p height m t 1
  Fits m (CleanupHandler i t) = HasHeight p height m t 0

  search_fits : (m : ℕ) (catches : Token → Bool) (skip i q : ℕ) (rs : List Region) → AllEnter m rs → Fits m (search_from catches skip i q rs)
  search_fits m catches skip i q [] a = tt
  search_fits m catches (suc n) i q (r ∷ rs) a = search_fits m catches n (i + 1) q rs a.1
  search_fits m catches zero i q (r ∷ rs) a = go (search_fits m catches zero (i + 1) q rs a.1) (in_try r q)
    where
      caught : (b : Bool) (other : Found) → HasHeight p height m r.handler_from 1 → Fits m other → Fits m (maybe other (λ x. x) (if b then Some (CatchHandler i r.handler_from) else None))
      caught true other h rest = h
      caught false other h rest = rest

      by_kind : (c : RegionKind) (other : Found) → Enters m r.handler_from c → Fits m other → Fits m (maybe other (λ x. x) (found_in catches r i c))
      by_kind (region.Catch token) other h rest = caught (catches token) other h rest
      by_kind (region.Filter place) other h rest = rest
      by_kind region.Finally other h rest = h
      by_kind region.Fault other h rest = h

      go : Fits m (search_from catches zero (i + 1) q rs) → (b : Bool) → Fits m (if b then maybe (search_from catches zero (i + 1) q rs) (λ x. x) (found_in catches r i r.kind) else search_from catches zero (i + 1) q rs)
      go rest true = by_kind r.kind (search_from catches zero (i + 1) q rs) a.0 rest
      go rest false = rest

  searched_fits : (f : Frame) (w : World) (x skip q : ℕ) (at : ProgramPoint) → Fits f.method (searched p f w x skip q at)
  searched_fits f w x skip q (LeadIn t) = search_fits f.method (λ token. fits_type p w x (caught_type p f token)) skip 0 q (body_of p f.method).regions (enter_all f.method)
  searched_fits f w x skip q (InGroup g i t) = tt
  searched_fits f w x skip q (Rest t) = search_fits f.method (λ token. fits_type p w x (caught_type p f token)) skip 0 q (body_of p f.method).regions (enter_all f.method)

  -- ---- landing

  goes_on_kept : (m : ℕ) (test : Handling → Bool) (hs : List Handling) → AllGoOn p height m hs → AllGoOn p height m (filter test hs)
  goes_on_kept m test [] a = tt
  goes_on_kept m test (h ∷ hs) a = go (goes_on_kept m test hs a.1) (test h)
    where
      go : AllGoOn p height m (filter test hs) → (b : Bool) → AllGoOn p height m (cond b (h ∷ filter test hs) (filter test hs))
      go rest true = (a.0, rest)
      go rest false = rest

  handled_kept : (m : ℕ) (rs : List Region) (at : ProgramPoint) (hs : List Handling) → AllGoOn p height m hs → AllGoOn p height m (handled_at rs at hs)
  handled_kept m rs (LeadIn q) hs a = goes_on_kept m (in_handler rs q) hs a
  handled_kept m rs (InGroup g i q) hs a = tt
  handled_kept m rs (Rest q) hs a = goes_on_kept m (in_handler rs q) hs a

  abbrev pub OverBy : Frame → Local → List Frame → Type 0
  OverBy f l fs = Over p height f.continuation (count_of p (result_type p f)) (length l.args) fs

  pub lands : (f : Frame) (at : ProgramPoint) (l : Local) (hs : List Handling) (fs : List Frame) (w : World) → HasHeight p height f.method (place_in at) (length l.stack) → AllGoOn p height f.method hs → OverBy f l fs → Lie p height fs → NextInShape p height (goes_at p f at l hs fs w)
  lands f at l hs fs w h a over below = record { top = h; lie = (handled_kept f.method (body_of p f.method).regions at hs a, over, below) }

  pub arrives : (f : Frame) (at : ProgramPoint) (l : Local) (hs : List Handling) (fs : List Frame) (w : World) → HasHeight p height f.method (place_in at) (length l.stack) → AllGoOn p height f.method hs → OverBy f l fs → Lie p height fs → NextInShape p height (arrive_in p (plan_at k p f.method) f at l hs fs w)
  arrives f at l hs fs w h a over below =
      subst (λ o. NextInShape p height (arrive_in p o f at l hs fs w)) (sym (plain f.method)) (lands f at l hs fs w h a over below)

  pub goes_next : (f : Frame) (l : Local) (fs : List Frame) (w : World) → HasHeight p height f.method (place_in f.at + 1) (length l.stack) → AllGoOn p height f.method f.handling → OverBy f l fs → Lie p height fs → NextInShape p height (go_on p k f l fs w)
  goes_next f l fs w h a over below =
      arrives f (next_place f.at) l f.handling fs w (subst (λ q. HasHeight p height f.method q (length l.stack)) (sym (moved (place_in f.at + 1) f.at)) h) a over below

  abbrev pub Awaits : ℕ → List Frame → Type 0
  Awaits n [] = Unit {0}
  Awaits n (f ∷ fs) = Waits p height f n

  pub pushes : (v : Option Value) (n : ℕ) (fs : List Frame) (w : World) → size v ≡ n → Awaits n fs → Lie p height fs → NextInShape p height (push_below p k v fs w)
  pushes v n [] w e h l = tt
  pushes None n (f ∷ fs) w e h l = goes_next f f.local fs w (subst (HasHeight p height f.method (place_in f.at + 1)) (omega (arith, e)) h) l.0 l.1 l.2
  pushes (Some v) n (f ∷ fs) w e h l = goes_next f (pushed v f.local) fs w (subst (HasHeight p height f.method (place_in f.at + 1)) (omega (arith, e)) h) l.0 l.1 l.2

  -- ---- unwinding

  throws : (f : Frame) (hs : List Handling) (skip q : ℕ) (fs : List Frame) (w : World) (x : ℕ) → AllGoOn p height f.method hs → OverBy f f.local fs → Lie p height fs → (below : Below) → ((s : Bool) (v : World) (y : ℕ) → NextInShape p height (below s v y)) → NextInShape p height (throws_in p k f hs skip q fs w x below)
  throws f hs skip q fs w x a over lie below go = landed (searched p f w x skip q f.at) (searched_fits f w x skip q f.at)
    where
      ended : (o : Option Ty) → NextInShape p height (ends_frame p o f.continuation w x below)
      ended None = go (hasnt_begun f.continuation) w x
      ended (Some t) = go (hasnt_begun f.continuation) _ _

      landed : (found : Found) → Fits f.method found → NextInShape p height (land p k found f hs q fs w x below)
      landed NoHandler h = subst (λ o. NextInShape p height (no_handler_left p o f f.at fs w x below)) (sym (plain f.method)) (ended f.initializes)
      landed (CatchHandler i t) h =
          lands f (moved_to t f.at) (with_stack f.local (Obj x ∷ [])) (record { handler = i; cause = Caught x; place = q; next = i + 1 } ∷ hs) fs w (subst (λ n. HasHeight p height f.method n 1) (sym (moved t f.at)) h) (tt, a) over lie
      landed (CleanupHandler i t) h =
          lands f (moved_to t f.at) (with_stack f.local []) (record { handler = i; cause = Unwinding x; place = q; next = i + 1 } ∷ hs) fs w (subst (λ n. HasHeight p height f.method n 0) (sym (moved t f.at)) h) (tt, a) over lie

  pub unwinds : (skip : Bool) (fs : List Frame) (w : World) (x : ℕ) → Lie p height fs → NextInShape p height (unwind p k skip fs w x)
  unfolding unwind
  unwinds skip [] w x l = tt
  unwinds true (f ∷ fs) w x l = unwinds false fs w x l.2
  unwinds false (f ∷ fs) w x l = throws f f.handling 0 (place_in f.at) fs w x l.0 l.1 l.2 (λ skip v y. unwind p k skip fs v y) (λ skip v y. unwinds skip fs v y l.2)

  pub raises : (name : Name) (fs : List Frame) (w : World) → Lie p height fs → NextInShape p height (raise p k name fs w)
  raises name fs w l = unwinds false fs _ _ l

  -- ---- leave and endfinally

  abbrev LeftFits : ℕ → Option (ℕ × Region) → Type 0
  LeftFits m None = Unit {0}
  LeftFits m (Some x) = HasHeight p height m x.1.handler_from 0

  left_fits : (m skip i q t : ℕ) (rs : List Region) → AllEnter m rs → LeftFits m (left_from skip i q t rs)
  left_fits m skip i q t [] a = tt
  left_fits m (suc n) i q t (r ∷ rs) a = left_fits m n (i + 1) q t rs a.1
  left_fits m zero i q t (r ∷ rs) a = by_kind (left_fits m zero (i + 1) q t rs a.1) r.kind a.0
    where
      held : LeftFits m (left_from zero (i + 1) q t rs) → (b : Bool) → HasHeight p height m r.handler_from 0 → LeftFits m (if b then Some (i, r) else left_from zero (i + 1) q t rs)
      held rest true h = h
      held rest false h = rest

      by_kind : LeftFits m (left_from zero (i + 1) q t rs) → (c : RegionKind) → Enters m r.handler_from c → LeftFits m (if is_finally c && (in_try r q && not (in_try r t)) then Some (i, r) else left_from zero (i + 1) q t rs)
      by_kind rest (region.Catch token) h = rest
      by_kind rest (region.Filter place) h = rest
      by_kind rest region.Finally h = held rest (in_try r q && not (in_try r t)) h
      by_kind rest region.Fault h = rest

  pub leaves : (skip q t : ℕ) (f : Frame) (hs : List Handling) (fs : List Frame) (w : World) → HasHeight p height f.method t 0 → AllGoOn p height f.method hs → OverBy f f.local fs → Lie p height fs → NextInShape p height (leave p k skip q t f hs fs w)
  leaves skip q t f hs fs w h a over lie = through (left_from skip 0 q t (body_of p f.method).regions) (left_fits f.method skip 0 q t (body_of p f.method).regions (enter_all f.method))
    where
      through : (o : Option (ℕ × Region)) → LeftFits f.method o → NextInShape p height (leave_through p k o f hs q t fs w)
      through None e = arrives f (moved_to t f.at) (with_stack f.local []) hs fs w (subst (λ n. HasHeight p height f.method n 0) (sym (moved t f.at)) h) a over lie
      through (Some x) e =
          lands f (moved_to x.1.handler_from f.at) (with_stack f.local []) (record { handler = x.0; cause = Leaving t; place = q; next = x.0 + 1 } ∷ hs) fs w (subst (λ n. HasHeight p height f.method n 0) (sym (moved x.1.handler_from f.at)) e) (h, a) over lie

  pub resumes : (hs : List Handling) (f : Frame) (fs : List Frame) (w : World) → AllGoOn p height f.method hs → OverBy f f.local fs → Lie p height fs → NextInShape p height (resume p k hs f fs w)
  resumes [] f fs w a over lie = tt
  resumes (h ∷ hs) f fs w a over lie = by_cause h.cause a.0
    where
      by_cause : (c : Cause) → GoesOn p height f.method c → NextInShape p height (resume_cause p k h c hs f fs w)
      by_cause (Caught x) g = tt
      by_cause (Unwinding x) g = throws f hs h.next h.place fs w x a.1 over lie (λ skip v y. unwind p k skip fs v y) (λ skip v y. unwinds skip fs v y lie)
      by_cause (Leaving t) g = leaves h.next h.place t f hs fs w g a.1 over lie
