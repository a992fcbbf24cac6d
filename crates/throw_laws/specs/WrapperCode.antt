-- The wrapper round a rest whose clauses on exceptions are kept, as instructions, and the throw behind their group (ECMA-335, II.19 and III.4.31).
use Rattle.std.specs.Prelude.{◌≡◌, ◌≢◌, ℕ, ◌+◌, ◌<◌, ◌≤◌, Bool, true, false, List, [], ◌∷◌, ◌++◌, length, slice_get, Some, IsTrue}
use Rattle.cil_base.specs.declared.token.Token.{Token}
use Rattle.cil_model.specs.declared.body.Region.{Region}
use Rattle.cil_model.specs.declared.body.RegionKind.TheVariants as region
use Rattle.cil_model.specs.declared.contract.Contracts.{Contracts}
use Rattle.cil_model.specs.declared.contract.Group.TheVariants as group
use Rattle.cil_model.specs.declared.program.Program.{Program}
use Rattle.cil_model.specs.NoContracts.{no_contracts}
use Rattle.cil_semantics.specs.Core.{object_ty}
use Rattle.cil_semantics.specs.Lookups.{method_of}
use Rattle.cil_semantics.specs.State.{with_stack}
use Rattle.cil_semantics.specs.declared.state.Cell.{Cell}
use Rattle.cil_semantics.specs.declared.state.World.{World}
use Rattle.cil_semantics.specs.declared.state.Statics.{Statics}
use Rattle.cil_semantics.specs.declared.state.ProgramPoint.TheVariants.{Rest}
use Rattle.cil_semantics.specs.declared.state.Handling.{Handling}
use Rattle.cil_semantics.specs.declared.state.Frame.{Frame}
use Rattle.cil_semantics.specs.declared.state.Continuation.{Continuation}
use Rattle.cil_semantics.specs.Tokens.{Here, meaning_of, as_type}
use Rattle.cil_semantics.specs.Contracted.{Plan, pieces}
use Rattle.cil_semantics.specs.Unwind.{body_of, moved_to, in_handler, holds_place, NoHandler, search_from, searched, throws_in, unwind, fits_type, caught_type}
use Rattle.cil_semantics.specs.Checks.{AddedNumbers}
use Rattle.splice_facts.specs.Comes.{Comes}
use Rattle.splice_facts.specs.Exceptions.{IsException}
use Rattle.splice_facts.specs.Grown.{beside}
use Rattle.splice_facts.specs.Layout.{Depths, Marks, IsHere}
use Rattle.splice_facts.specs.Spliced.{Paired, Arrives, AreLow, twin, stands, leaves_with, is_guarded, has_any, cost, wrapper_cost}
use Rattle.splice_laws.specs.Straight.{ldloc, stloc, leave, throw, StandAt, Misses, LeavesFreely}

module _ (p : Program) (k : Contracts) (p' : Program) (g : AddedNumbers) (n : ℕ) (depths : Depths n g) (me : ℕ) (plan : Plan) (m : Marks) where
  -- try { the rest } catch Object { stloc thrown; leave door }; behind the group: ldloc thrown; throw
  pub record WrapperCode : Type 0 where
    pub thrown : ℕ
    pub thrown_is : thrown ≡ m.old_locals + m.olds + m.thrown_at
    pub thrown_ty : (here : Here) → here.method ≡ me → slice_get (m.extra here) m.thrown_at ≡ Some object_ty
    pub apart : m.result_at ≢ m.thrown_at
    pub handler : ℕ
    pub keeps : StandAt (body_of p' me).instrs handler (stloc thrown ∷ leave (m.door group.Throw) ∷ [])
    pub throws_on : StandAt (body_of p' me).instrs (m.out group.Throw) (ldloc thrown ∷ throw ∷ [])
    -- its region is the last one, and holds the rest; those before it take what the old ones take
    pub token : Token
    pub from : ℕ
    pub to : ℕ
    pub before : List Region
    pub regions : (body_of p' me).regions ≡ before ++ record { kind = region.Catch token; try_from = from; try_to = to; handler_from = handler; handler_to = handler + 2 } ∷ []
    pub catches : as_type (meaning_of p' (method_of p' me).assembly token) ≡ Some object_ty
    pub held : (q q' : ℕ) → IsHere (Some plan) (Rest q) → IsTrue (m.belongs (Rest q) q') → (from ≤ q') × (q' < to)
    pub longer : length (body_of p me).regions ≤ length before
    pub passes : (fits : Token → Bool) (q skip q' : ℕ) → IsHere (Some plan) (Rest q) → IsTrue (m.belongs (Rest q) q') → search_from fits skip 0 q (body_of p me).regions ≡ NoHandler → search_from fits skip 0 q' before ≡ NoHandler
    -- neither its handler nor the throw stands within another region
    pub alone : (h : Handling) (t : ℕ) → h.handler < length (body_of p me).regions → handler ≤ t → t < handler + 2 → in_handler (body_of p' me).regions t h ≡ false
    pub freely : LeavesFreely (handler + 1) (body_of p' me).regions
    pub door_out : holds_place handler (handler + 2) (m.door group.Throw) ≡ false
    pub bare : Misses (m.out group.Throw + 1) (body_of p' me).regions
    -- what is an exception, and what a type takes, is so in both programs
    pub same_exceptions : (w : World) (x : ℕ) → IsException p w x → IsException p' w x
    pub same_catches : (f : Frame) (w : World) (x : ℕ) (t : Token) → f.method ≡ me → fits_type p' w x (caught_type p' f t) ≡ fits_type p w x (caught_type p f t)

  -- what is asked of the wrapper, where the search goes on from one of the old regions, and of the throw
  pub record WrapperSeams : Type 0 where
    pub wrapper : (f : Frame) (fs fs' : List Frame) (w : World) (ex : List Cell) (ss : List Statics) (b : Continuation) (q skip q' q0 x : ℕ) (hs hs' : List Handling) → f.method ≡ me → Paired p k p' g n depths m f fs fs' w ex ss → AreLow p k p' g n depths me hs' → IsHere (Some plan) f.at → is_guarded p k p' g n depths (Some plan) f.at ≡ true → IsHere (Some plan) (moved_to q f.at) → IsTrue (m.belongs (moved_to q f.at) q') → skip ≤ length (body_of p me).regions → searched p f w x skip q f.at ≡ NoHandler → IsException p w x
        → Arrives p k p' g n depths m (wrapper_cost k p) (throws_in p' no_contracts (twin p k p' g n depths f f.local ex q0 hs b) hs' skip q' fs' (beside ss w) x (λ s v y. unwind p' no_contracts s fs' v y)) (record f { thrown = Some x }) fs (with_stack f.local []) (m.door group.Throw) b fs' w
    pub throws : (f : Frame) (fs fs' : List Frame) (w : World) (ex : List Cell) (ss : List Statics) (b : Continuation) (x : ℕ) → f.method ≡ me → f.thrown ≡ Some x → has_any p k p' g n depths (pieces plan group.Throw) ≡ true → Paired p k p' g n depths m f fs fs' w ex ss
        → Comes p' (cost k p) (stands p k p' g n depths f f.local ex (m.out group.Throw) b fs' w ss) (leaves_with p k p' g n depths f b fs' w ss x)
