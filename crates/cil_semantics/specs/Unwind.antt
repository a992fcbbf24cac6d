-- Arriving at places, groups, and unwinding (ECMA-335, I.12.4.2 and II.19; the Code Contracts manual on the order of checks).
use Rattle.std.specs.Prelude.{ℕ, zero, suc, ◌+◌, Bool, true, false, ◌&&◌, ◌==◌, not, nat_lt, nat_le, if◌then◌else◌, List, [], ◌∷◌, length, filter, slice_get, Option, Some, None, option_map, option_and_then, codes}
use Rattle.cil_base.specs.declared.token.Token.{Token}
use Rattle.cil_model.specs.declared.ty.Ty.{Ty}
use Rattle.cil_model.specs.declared.value.Value.{Obj}
use Rattle.cil_model.specs.declared.body.Body.{Body}
use Rattle.cil_model.specs.declared.body.Region.{Region}
use Rattle.cil_model.specs.declared.body.RegionKind.{RegionKind}
use Rattle.cil_model.specs.declared.body.RegionKind.TheVariants as region
use Rattle.cil_model.specs.declared.program.Program.{Program}
use Rattle.cil_model.specs.declared.contract.Contracts.{Contracts}
use Rattle.cil_model.specs.declared.contract.Group.{Group}
use Rattle.cil_model.specs.declared.contract.Group.TheVariants as group
use Rattle.cil_model.specs.declared.run.Outcome.TheVariants as outcome
use Rattle.cil_semantics.specs.Words.{maybe}
use Rattle.cil_semantics.specs.Types.{under, same_ty}
use Rattle.cil_semantics.specs.Core.{Name, class_named}
use Rattle.cil_semantics.specs.Lookups.{method_of, is_sub}
use Rattle.cil_semantics.specs.State.{Object, World, Local, ProgramPoint, LeadIn, InGroup, Rest, with_local, Cause, Caught, Unwinding, Leaving, Handling, Frame, Next, Running, Ended, Statics, Failed, BeginCallee, Continuation, with_stack, raised, lowered, object_at, next_object, with_object}
use Rattle.cil_semantics.specs.Tokens.{Here, meaning_of, as_type, ref_type, locals_in}
use Rattle.cil_semantics.specs.Contracted.{Piece, Plan, plan_for, pieces, runs_at}
use Rattle.cil_semantics.specs.Acts.{ty_name}

-- ---- bodies

unfoldable pub no_body : Body
no_body = record { instrs = []; offsets = []; regions = []; locals = None; max_stack = 0; init = false }

abbrev pub body_of : Program → ℕ → Body
body_of p m = maybe no_body (λ b. b) (method_of p m).body

-- how many locals a body has
abbrev pub count_locals : Program → ℕ → Option Token → ℕ
count_locals p m None = 0
count_locals p m (Some token) = length (locals_in (meaning_of p (method_of p m).assembly token))

-- the plan of a call of a method, where it goes by contracts
abbrev pub plan_at : Contracts → Program → ℕ → Option Plan
plan_at k p m = plan_for k p m (count_locals p m (body_of p m).locals)

abbrev pub here_of : Frame → List Frame → Here
here_of f fs = record { number = length fs; method = f.method; type_args = f.type_args; method_args = f.method_args }

abbrev pub piece_at : Option Plan → Group → ℕ → Option Piece
piece_at None g i = None
piece_at (Some k) g i = slice_get (pieces k g) i

-- ---- places

abbrev pub place_in : ProgramPoint → ℕ
place_in (LeadIn q) = q
place_in (InGroup g i q) = q
place_in (Rest q) = q

abbrev pub moved_to : ℕ → ProgramPoint → ProgramPoint
moved_to t (LeadIn q) = LeadIn t
moved_to t (InGroup g i q) = InGroup g i t
moved_to t (Rest q) = Rest t

abbrev pub next_place : ProgramPoint → ProgramPoint
next_place at = moved_to (place_in at + 1) at

abbrev pub holds_place : ℕ → ℕ → ℕ → Bool
holds_place from to q = nat_le from q && nat_lt q to

abbrev pub in_try : Region → ℕ → Bool
in_try r q = holds_place r.try_from r.try_to q

-- the place lies in the handler of that number
abbrev pub in_handler : List Region → ℕ → Handling → Bool
in_handler rs q h = maybe false (λ (r : Region). holds_place r.handler_from r.handler_to q) (slice_get rs h.handler)

-- at a place only what its own handlers do goes on; a piece has none
abbrev pub handled_at : List Region → ProgramPoint → List Handling → List Handling
handled_at rs (LeadIn q) hs = filter (in_handler rs q) hs
handled_at rs (InGroup g i q) hs = []
handled_at rs (Rest q) hs = filter (in_handler rs q) hs

-- the frame stands at a place
abbrev pub goes_at : Program → Frame → ProgramPoint → Local → List Handling → List Frame → World → Next
goes_at p f at l hs fs w =
    Running (record { frames = record f { local = l; at = at; handling = handled_at (body_of p f.method).regions at hs } ∷ fs; world = w })

-- ---- types of exceptions

abbrev pub object_type : World → ℕ → Option Ty
object_type w x = option_map (λ (o : Object). o.ty) (object_at w x)

abbrev pub fits_type : Program → World → ℕ → Option Ty → Bool
fits_type p w x None = false
fits_type p w x (Some t) = maybe false (λ u. is_sub p u t) (object_type w x)

-- the closed type that a region catches
abbrev pub caught_type : Program → Frame → Token → Option Ty
caught_type p f token =
    option_map (under f.type_args f.method_args) (as_type (meaning_of p (method_of p f.method).assembly token))

-- ---- groups

-- whether a piece of a group runs: of EnsuresOnThrow only where the exception fits
abbrev pub takes_part : Program → Frame → List Frame → World → Piece → Bool
takes_part p f fs w x = maybe true (λ y. fits_type p w y (option_and_then (ref_type p (here_of f fs)) x.clause.exception)) f.thrown

-- the first piece that takes part, from a number on
abbrev pub first_from : (Piece → Bool) → ℕ → ℕ → List Piece → Option (ℕ × Piece)
first_from test skip n [] = None
first_from test zero n (x ∷ xs) = if test x then Some (n, x) else first_from test zero (n + 1) xs
first_from test (suc skip) n (x ∷ xs) = first_from test skip (n + 1) xs

abbrev pub next_piece : Program → Plan → Group → ℕ → Frame → List Frame → World → Option (ℕ × Piece)
next_piece p k g i f fs w = first_from (takes_part p f fs w) i 0 (pieces k g)

-- the piece begins, or where there is none the group is over
abbrev pub begin_piece : Program → Group → Option (ℕ × Piece) → Frame → List Frame → World → Next → Next
begin_piece p g None f fs w over = over
begin_piece p g (Some x) f fs w over = goes_at p f (InGroup g x.0 x.1.from) (with_stack f.local []) [] fs w

-- a group runs, with the depth one higher, or is passed over
abbrev pub begin_group : Program → Plan → Group → Frame → List Frame → World → Next → Next
begin_group p k g f fs w over =
    if runs_at k g w.depth then begin_piece p g (next_piece p k g 0 f fs w) f fs (raised w) over else over

-- the rest, with the stack that is there
abbrev pub go_to_rest : Program → Plan → Frame → List Frame → World → Next
go_to_rest p k f fs w = goes_at p f (Rest k.effective.rest_from) f.local [] fs w

abbrev pub begin_rest : Program → Plan → Frame → List Frame → World → Next
begin_rest p k f fs w = go_to_rest p k (with_local (with_stack f.local []) f) fs w

-- The entry group runs, or is passed over. Its first piece, or the rest, finds the stack of the lead-in, which is empty by the rule on heights; behind each piece it is emptied.
abbrev pub begin_first : Program → Plan → Option (ℕ × Piece) → Frame → List Frame → World → Next
begin_first p k None f fs w = go_to_rest p k f fs w
begin_first p k (Some x) f fs w = goes_at p f (InGroup group.Entry x.0 x.1.from) f.local [] fs (raised w)

abbrev pub begin_entry : Program → Plan → Frame → List Frame → World → Next
begin_entry p k f fs w =
    if runs_at k group.Entry w.depth then begin_first p k (next_piece p k group.Entry 0 f fs w) f fs w else go_to_rest p k f fs w

-- A frame has come to a place. At the end of the lead-in the entry group runs, and then the rest, at once.
abbrev pub arrive_in : Program → Option Plan → Frame → ProgramPoint → Local → List Handling → List Frame → World → Next
arrive_in p None f at l hs fs w = goes_at p f at l hs fs w
arrive_in p (Some k) f (LeadIn q) l hs fs w =
    if q == k.effective.lead_end then begin_entry p k (with_local l f) fs w else goes_at p f (LeadIn q) l hs fs w
arrive_in p (Some k) f (InGroup g i q) l hs fs w = goes_at p f (InGroup g i q) l [] fs w
arrive_in p (Some k) f (Rest q) l hs fs w = goes_at p f (Rest q) l hs fs w

abbrev pub arrive : Program → Contracts → Frame → ProgramPoint → Local → List Frame → World → Next
arrive p k f at l fs w = arrive_in p (plan_at k p f.method) f at l f.handling fs w

-- the piece of the entry group after this one, or the rest
abbrev pub after_entry_piece : Program → Plan → ℕ → Frame → List Frame → World → Next
after_entry_piece p k i f fs w =
    begin_piece p group.Entry (next_piece p k group.Entry (i + 1) f fs w) f fs w (begin_rest p k f fs (lowered w))

-- ---- statics and initializers

-- the statics of a closed type after a change
abbrev pub set_statics : (Ty → Bool) → Statics → List Statics → List Statics
set_statics is_it s [] = s ∷ []
set_statics is_it s (x ∷ xs) = if is_it x.owner then s ∷ xs else x ∷ set_statics is_it s xs

abbrev pub find_statics : Ty → List Statics → Option Statics
find_statics t [] = None
find_statics t (x ∷ xs) = if same_ty x.owner t then Some x else find_statics t xs

-- a type's initializer ended with an exception: from now on uses throw this object
abbrev pub with_failed : Ty → ℕ → World → World
with_failed t y w =
    record w { statics = set_statics (same_ty t) (maybe (record { owner = t; init = Some (Failed y); cells = [] }) (λ (s : Statics). record s { init = Some (Failed y) }) (find_statics t w.statics)) w.statics }

abbrev pub initialization_failed : Object
initialization_failed = record { ty = class_named (codes "System.TypeInitializationException"); cells = [] }

-- ---- unwinding

-- where a search for handlers ends
pub data Found : Type 0 where
  NoHandler : Found
  CatchHandler : (index target : ℕ) → Found
  CleanupHandler : (index target : ℕ) → Found

-- what a region does for an exception that is thrown in its try block
abbrev pub found_in : (Token → Bool) → Region → ℕ → RegionKind → Option Found
found_in catches r i (region.Catch token) = if catches token then Some (CatchHandler i r.handler_from) else None
found_in catches r i (region.Filter place) = None
found_in catches r i region.Finally = Some (CleanupHandler i r.handler_from)
found_in catches r i region.Fault = Some (CleanupHandler i r.handler_from)

-- the first region from a number on that holds the place and takes the exception
abbrev pub search_from : (Token → Bool) → ℕ → ℕ → ℕ → List Region → Found
search_from catches skip i q [] = NoHandler
search_from catches zero i q (r ∷ rs) =
    if in_try r q then maybe (search_from catches zero (i + 1) q rs) (λ x. x) (found_in catches r i r.kind) else search_from catches zero (i + 1) q rs
search_from catches (suc n) i q (r ∷ rs) = search_from catches n (i + 1) q rs

abbrev pub searched : Program → Frame → World → ℕ → (skip q : ℕ) → ProgramPoint → Found
searched p f w x skip q (LeadIn _) = search_from (λ token. fits_type p w x (caught_type p f token)) skip 0 q (body_of p f.method).regions
searched p f w x skip q (InGroup g i _) = NoHandler
searched p f w x skip q (Rest _) = search_from (λ token. fits_type p w x (caught_type p f token)) skip 0 q (body_of p f.method).regions

-- what happens below a frame that an exception ends: whether the frame below hasn't begun, the world, and the exception
abbrev pub Below : Type 0
Below = Bool → World → ℕ → Next

abbrev pub hasnt_begun : Continuation → Bool
hasnt_begun BeginCallee = true
hasnt_begun _ = false

-- An exception of an initializer becomes a TypeInitializationException, which is kept (ECMA-335, II.10.5.3.1 and the class library's text).
abbrev pub ends_frame : Program → Option Ty → Continuation → World → ℕ → Below → Next
ends_frame p None back w x below = below (hasnt_begun back) w x
ends_frame p (Some t) back w x below =
    below (hasnt_begun back) (with_failed t (next_object w) (with_object p initialization_failed w)) (next_object w)

-- a captured value's exception is dropped
abbrev pub drops : Option Piece → Bool
drops None = false
drops (Some x) = maybe false (λ c. true) x.captures

-- The frame has no handler left. In the rest the group of EnsuresOnThrow runs; an exception of a group goes on.
abbrev pub no_handler_left : Program → Option Plan → Frame → ProgramPoint → List Frame → World → ℕ → Below → Next
no_handler_left p None f at fs w x below = ends_frame p f.initializes f.continuation w x below
no_handler_left p (Some k) f (LeadIn q) fs w x below = ends_frame p f.initializes f.continuation w x below
no_handler_left p (Some k) f (InGroup g i q) fs w x below =
    if drops (piece_at (Some k) g i) then after_entry_piece p k i f fs w else ends_frame p f.initializes f.continuation (lowered w) x below
no_handler_left p (Some k) f (Rest q) fs w x below =
    begin_group p k group.Throw (record f { thrown = Some x }) fs w (ends_frame p f.initializes f.continuation w x below)

module _ (p : Program) (k : Contracts) where
  abbrev pub land : Found → Frame → List Handling → ℕ → List Frame → World → ℕ → Below → Next
  land NoHandler f hs q fs w x below = no_handler_left p (plan_at k p f.method) f f.at fs w x below
  land (CatchHandler i t) f hs q fs w x below =
      goes_at p f (moved_to t f.at) (with_stack f.local (Obj x ∷ [])) (record { handler = i; cause = Caught x; place = q; next = i + 1 } ∷ hs) fs w
  land (CleanupHandler i t) f hs q fs w x below =
      goes_at p f (moved_to t f.at) (with_stack f.local []) (record { handler = i; cause = Unwinding x; place = q; next = i + 1 } ∷ hs) fs w

  -- the search in one frame from a clause on, for an exception thrown at q
  abbrev pub throws_in : Frame → List Handling → (skip q : ℕ) → List Frame → World → ℕ → Below → Next
  throws_in f hs skip q fs w x below = land (searched p f w x skip q f.at) f hs q fs w x below

abbrev pub thrown_name : Program → World → ℕ → Name
thrown_name p w x = maybe [] (ty_name p) (object_type w x)

module _ (p : Program) (k : Contracts) where
  -- An exception goes down the frames; one that hasn't begun is passed over.
  unfoldable pub unwind : Bool → List Frame → World → ℕ → Next
  unwind skip [] w x = Ended (outcome.Thrown x (thrown_name p w x)) w
  unwind true (f ∷ fs) w x = unwind false fs w x
  unwind false (f ∷ fs) w x = throws_in p k f f.handling 0 (place_in f.at) fs w x (λ skip v y. unwind skip fs v y)

  -- a new exception of a core class
  abbrev pub raise : Name → List Frame → World → Next
  raise name fs w = unwind false fs (with_object p (record { ty = class_named name; cells = [] }) w) (next_object w)

-- ---- leave, endfinally, rethrow (ECMA-335, III.3.46, 3.35, 4.24)

abbrev pub is_finally : RegionKind → Bool
is_finally region.Finally = true
is_finally _ = false

-- the first finally from a number on whose try holds the place and not the target
abbrev pub left_from : ℕ → ℕ → (q t : ℕ) → List Region → Option (ℕ × Region)
left_from skip i q t [] = None
left_from zero i q t (r ∷ rs) = if is_finally r.kind && (in_try r q && not (in_try r t)) then Some (i, r) else left_from zero (i + 1) q t rs
left_from (suc n) i q t (r ∷ rs) = left_from n (i + 1) q t rs

module _ (p : Program) (k : Contracts) where
  abbrev pub leave_through : Option (ℕ × Region) → Frame → List Handling → (q t : ℕ) → List Frame → World → Next
  leave_through None f hs q t fs w =
      arrive_in p (plan_at k p f.method) f (moved_to t f.at) (with_stack f.local []) hs fs w
  leave_through (Some x) f hs q t fs w =
      goes_at p f (moved_to x.1.handler_from f.at) (with_stack f.local []) (record { handler = x.0; cause = Leaving t; place = q; next = x.0 + 1 } ∷ hs) fs w

  abbrev pub leave : (skip q t : ℕ) → Frame → List Handling → List Frame → World → Next
  leave skip q t f hs fs w = leave_through (left_from skip 0 q t (body_of p f.method).regions) f hs q t fs w

  abbrev pub resume_cause : Handling → Cause → List Handling → Frame → List Frame → World → Next
  resume_cause h (Caught x) hs f fs w = Ended outcome.Stuck w
  resume_cause h (Unwinding x) hs f fs w = throws_in p k f hs h.next h.place fs w x (λ skip v y. unwind p k skip fs v y)
  resume_cause h (Leaving t) hs f fs w = leave h.next h.place t f hs fs w

  -- the end of a finally or fault: what it interrupted goes on
  abbrev pub resume : List Handling → Frame → List Frame → World → Next
  resume [] f fs w = Ended outcome.Stuck w
  resume (h ∷ hs) f fs w = resume_cause h h.cause hs f fs w

abbrev pub caught_or : Cause → Option ℕ → Option ℕ
caught_or (Caught x) other = Some x
caught_or _ other = other

-- the object of the innermost catch
abbrev pub innermost : List Handling → Option ℕ
innermost [] = None
innermost (h ∷ hs) = caught_or h.cause (innermost hs)
