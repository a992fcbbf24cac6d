-- Old values that the entry group captures, as instructions: each within a catch of its own (Code Contracts User Manual, section 2.2; ECMA-335, II.19).
use Rattle.std.specs.Prelude.{◌≡◌, ℕ, ◌+◌, ◌<◌, ◌≤◌, true, false, List, [], ◌∷◌, ◌++◌, slice_get, Option, Some, None, IsTrue}
use Rattle.cil_base.specs.declared.token.Token.{Token}
use Rattle.cil_model.specs.declared.ty.Ty.{Ty}
use Rattle.cil_model.specs.declared.value.Value.{Value}
use Rattle.cil_model.specs.declared.body.Instr.{Instr}
use Rattle.cil_model.specs.declared.body.Region.{Region}
use Rattle.cil_model.specs.declared.body.RegionKind.TheVariants as region
use Rattle.cil_model.specs.declared.contract.Contracts.{Contracts}
use Rattle.cil_model.specs.declared.contract.Group.TheVariants as group
use Rattle.cil_model.specs.declared.program.Program.{Program}
use Rattle.cil_model.specs.NoContracts.{no_contracts}
use Rattle.cil_semantics.specs.Core.{object_ty}
use Rattle.cil_semantics.specs.Lookups.{method_of}
use Rattle.cil_semantics.specs.Places.{stored_in}
use Rattle.cil_semantics.specs.declared.state.Cell.{Cell}
use Rattle.cil_semantics.specs.declared.state.World.{World}
use Rattle.cil_semantics.specs.declared.state.Statics.{Statics}
use Rattle.cil_semantics.specs.declared.state.ProgramPoint.TheVariants.{InGroup}
use Rattle.cil_semantics.specs.declared.state.Frame.{Frame}
use Rattle.cil_semantics.specs.declared.state.Continuation.{Continuation}
use Rattle.cil_semantics.specs.Tokens.{meaning_of, as_type}
use Rattle.cil_semantics.specs.Contracted.{Piece, Plan}
use Rattle.cil_semantics.specs.Unwind.{body_of, piece_at, next_piece, unwind, drops}
use Rattle.cil_semantics.specs.ContractCalls.{contract_call}
use Rattle.cil_semantics.specs.declared.contract_call.ContractCall.TheVariants.{TakesOld}
use Rattle.cil_semantics.specs.Checks.{AddedNumbers}
use Rattle.splice_facts.specs.Comes.{Goes}
use Rattle.splice_facts.specs.Exceptions.{IsException}
use Rattle.splice_facts.specs.Grown.{beside}
use Rattle.splice_facts.specs.Layout.{Depths, Marks, IsHere}
use Rattle.splice_facts.specs.Spliced.{Paired, ContinuesAt, FitsGroup, twin, from_here, kept_in, cost}
use Rattle.splice_laws.specs.Straight.{pop, stloc, leave, Misses}
use Rattle.splice_laws.specs.HelperRuns.{HelpersRun}
use Rattle.splice_laws.specs.EntryCode.{GroupFrame}

module _ (p : Program) (k : Contracts) (p' : Program) (g : AddedNumbers) (n : ℕ) (depths : Depths n g) (r : HelpersRun p' g k.settings.throwing depths.owner k.settings.guard) (me : ℕ) (plan : Plan) (m : Marks) (e : GroupFrame p p' g k.settings.throwing depths.owner k.settings.guard r me plan m group.Entry) where
  abbrev pub code : List Instr
  code = (body_of p' me).instrs

  abbrev pub piece : ℕ → Option Piece
  piece j = piece_at (Some plan) group.Entry j

  abbrev pub begins : ℕ → Piece → ℕ
  begins j x = m.places (InGroup group.Entry j x.from)

  -- try { code; stloc captured; leave next } catch Object { pop; leave next }
  pub record CaptureAt (j : ℕ) (x : Piece) (c : ℕ) : Type 0 where
    pub has_local : c < m.olds
    -- in place of the call that takes the value
    pub keeps : (q : ℕ) (i : Instr) → IsHere (Some plan) (InGroup group.Entry j q) → slice_get x.clause.instrs q ≡ Some i → contract_call p i ≡ TakesOld
        → (slice_get code (m.places (InGroup group.Entry j q)) ≡ Some (stloc (m.old_locals + c))) × (m.behind group.Entry j ≡ m.places (InGroup group.Entry j q) + 1)
    -- its handler
    pub handler : ℕ
    pub pops : slice_get code handler ≡ Some pop
    pub on : (y : Piece) → piece (j + 1) ≡ Some y → slice_get code (handler + 1) ≡ Some (leave (begins (j + 1) y))
    pub over : piece (j + 1) ≡ None → slice_get code (handler + 1) ≡ Some (leave (m.out group.Entry))
    -- its region: it alone of those before the group's holds the piece
    pub token : Token
    pub catches : as_type (meaning_of p' (method_of p' me).assembly token) ≡ Some object_ty
    pub outer : List Region
    pub inner : List Region
    pub regions : e.before ≡ inner ++ record { kind = region.Catch token; try_from = begins j x; try_to = handler; handler_from = handler; handler_to = handler + 2 } ∷ outer
    pub belongs_in : (q q' : ℕ) → IsTrue (m.belongs (InGroup group.Entry j q) q') → (begins j x ≤ q') × (q' < handler)
    pub apart : (q' : ℕ) → begins j x ≤ q' → q' < handler → Misses q' inner
    pub room : (e.body ≤ handler) × (handler + 2 ≤ e.handler)
    pub next_behind : (y : Piece) → piece (j + 1) ≡ Some y → handler + 2 ≤ begins (j + 1) y

  pub record CaptureCode : Type 0 where
    pub captures : (j : ℕ) (x : Piece) (c : ℕ) → piece j ≡ Some x → x.captures ≡ Some c → CaptureAt j x c
    -- values are stored alike in both programs, and what is an exception in one is so in the other
    pub same_stored : (t : Ty) (v : Value) → stored_in p' t v ≡ stored_in p t v
    pub same_exceptions : (w : World) (x : ℕ) → IsException p w x → IsException p' w x

  -- what is asked of captures
  pub record CaptureSeams : Type 0 where
    pub takes : (j q : ℕ) (x : Piece) (i : Instr) (c : ℕ) (f : Frame) (fs fs' : List Frame) (w : World) (ex : List Cell) (ss : List Statics) (b : Continuation) → f.method ≡ me → f.at ≡ InGroup group.Entry j q → IsHere (Some plan) f.at → piece j ≡ Some x → x.captures ≡ Some c → slice_get x.clause.instrs q ≡ Some i → contract_call p i ≡ TakesOld → Paired p k p' g n depths m f fs fs' w ex ss
        → Goes p' (cost k p) (from_here p k p' g n depths m f ex b fs' w ss []) (kept_in p k p' g n depths f.local.stack c f ex b fs' w ss (m.behind group.Entry j))
    pub swallows : (j q q' : ℕ) (f : Frame) (fs fs' : List Frame) (w : World) (ex : List Cell) (ss : List Statics) (b : Continuation) (x : ℕ) → f.at ≡ InGroup group.Entry j q → IsHere (Some plan) f.at → IsTrue (m.belongs f.at q') → f.method ≡ me → FitsGroup p k p' g n depths group.Entry f.thrown → 0 < w.depth → Paired p k p' g n depths m f fs fs' w ex ss → drops (piece j) ≡ true → IsException p w x
        → ContinuesAt p k p' g n depths m plan group.Entry (cost k p) (unwind p' no_contracts false (twin p k p' g n depths f f.local ex q' [] b ∷ fs') (beside ss w) x) f fs f.local b fs' w (next_piece p plan group.Entry (j + 1) f fs w)
