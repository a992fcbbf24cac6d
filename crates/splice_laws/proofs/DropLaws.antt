-- Assert and Assume that aren't checked: their arguments are dropped.
use Rattle.std.proofs.Common.{◌≡◌, ℕ, ◌+◌, Bool, true, false, List, [], ◌∷◌, length, Some, refl, sym, ap, ◌∙◌, subst, arith}
use Rattle.std.specs.Prelude.{slice_get, filter}
use Rattle.cil_model.specs.declared.value.Value.{Value}
use Rattle.cil_model.specs.declared.body.Instr.{Instr}
use Rattle.cil_model.specs.declared.contract.Contracts.{Contracts}
use Rattle.cil_model.specs.declared.program.Program.{Program}
use Rattle.il_opcodes.specs.Opcodes.{class_of, opcode_of, the_opcodes}
use Rattle.cil_semantics.specs.State.{Next, unrecorded, goes_after, with_stack}
use Rattle.cil_semantics.specs.declared.state.Cell.{Cell}
use Rattle.cil_semantics.specs.declared.state.Local.{Local as LocalState}
use Rattle.cil_semantics.specs.declared.state.World.{World}
use Rattle.cil_semantics.specs.declared.state.Statics.{Statics}
use Rattle.cil_semantics.specs.declared.state.ProgramPoint.TheVariants.{Rest}
use Rattle.cil_semantics.specs.declared.state.Handling.{Handling}
use Rattle.cil_semantics.specs.declared.state.Frame.{Frame}
use Rattle.cil_semantics.specs.declared.state.Continuation.{Continuation}
use Rattle.cil_semantics.specs.Contracted.{Plan}
use Rattle.cil_semantics.specs.Tokens.{Here}
use Rattle.cil_semantics.specs.Acts.{Stuck, GoOn}
use Rattle.cil_semantics.specs.Instructions.{act, act_of_class}
use Rattle.cil_semantics.specs.Unwind.{body_of, here_of, next_place, in_handler, goes_at}
use Rattle.cil_semantics.specs.Frames.{stuck, if_there}
use Rattle.cil_semantics.specs.ContractCalls.{has_message}
use Rattle.cil_semantics.specs.Checks.{AddedNumbers, dropped}
use Rattle.splice_facts.specs.Comes.{Goes}
use Rattle.splice_facts.specs.Grown.{grow, beside}
use Rattle.splice_facts.specs.Layout.{Depths, Marks}
use Rattle.splice_facts.specs.Spliced.{twin, from_here, cost, Current}
use Rattle.splice_laws.specs.Straight.{pop, at_place, frame_at, StandAt, Stay, Acts_so}
use Rattle.splice_laws.specs.DropCode.{drop_code, DropAt, DropCode, DropsArguments}
use Rattle.splice_facts.proofs.ComesLaws.{arrives_plain, comes_at_once, moves_within}
use Rattle.splice_laws.proofs.PendingLaws.{run_on}
use Rattle.splice_laws.proofs.StraightLaws.{steps_by, goes_one, does_pop, world_back, first_step}

module _ (p' : Program) (here : Here) where
  acts_pop_empty : (l : LocalState) → Acts_so p' here pop (with_stack l []) (λ w. Stuck)
  unfolding act act_of_class class_of opcode_of the_opcodes
  acts_pop_empty l w = refl

module _ (p : Program) (k : Contracts) (p' : Program) (g : AddedNumbers) (n : ℕ) (depths : Depths n g) (me : ℕ) (plan : Plan) (m : Marks) (code : DropCode p k p' g n depths me plan m) where
  module _ (f : Frame) (fs fs' : List Frame) (w : World) (ex : List Cell) (ss : List Statics) (b : Continuation) (hs : List Handling) (i : Instr) (a : f.method ≡ me) (z : DropAt p k p' g n depths me plan m f.at i) (pending : Current p k p' g n depths me f.at hs) where
    abbrev F : Frame
    F = twin p k p' g n depths f f.local [] 0 [] b

    abbrev W : World
    W = beside ss w

    abbrev S : ℕ
    S = m.places f.at

    at_me : (q : ℕ) (j : Instr) → slice_get (body_of p' me).instrs q ≡ Some j → slice_get (body_of p' f.method).instrs q ≡ Some j
    at_me q j there = ap (λ y. slice_get (body_of p' y).instrs q) a ∙ there

    stays : Stay p' F (S + 1) hs
    stays = ap (λ y. filter (in_handler (body_of p' y).regions (S + 1)) hs) a ∙ run_on p k p' g n depths me f.at (S + 1) hs pending z.between

    arrived : (rest : List Value) (q : ℕ) → Next
    arrived rest q = goes_at p' (twin p k p' g n depths f (with_stack f.local rest) ex q hs b) (Rest q) (grow ex (with_stack f.local rest)) hs fs' W

    -- the last pop: what handlers go on is said by the next place
    last : (v : Value) (rest : List Value) (q : ℕ) → slice_get (body_of p' me).instrs q ≡ Some pop → Goes p' 1 (at_place F (with_stack (grow ex f.local) (v ∷ rest)) q hs fs' W) (arrived rest (q + 1))
    unfolding arrived
    last v rest q there =
        first_step p' F (with_stack (grow ex f.local) (v ∷ rest)) q hs fs' W 0 _ _
        (steps_by p' F (with_stack (grow ex f.local) (v ∷ rest)) q hs fs' W pop (λ u. GoOn [] (with_stack (grow ex f.local) rest)) (at_me q pop there) (does_pop p' (here_of F fs') v rest (grow ex f.local))
        ∙ ap (goes_after W.trace) (arrives_plain p' (frame_at F (with_stack (grow ex f.local) (v ∷ rest)) q hs) (Rest (q + 1)) (with_stack (grow ex f.local) rest) hs fs' (unrecorded W))
        ∙ ap (λ u. goes_at p' (twin p k p' g n depths f (with_stack f.local rest) ex (q + 1) hs b) (Rest (q + 1)) (grow ex (with_stack f.local rest)) hs fs' u) (world_back W))
        (comes_at_once p' 0 _ _ refl)

    stuck_here : (q : ℕ) → slice_get (body_of p' me).instrs q ≡ Some pop → Goes p' 1 (at_place F (with_stack (grow ex f.local) []) q hs fs' W) (stuck W)
    stuck_here q there =
        first_step p' F (with_stack (grow ex f.local) []) q hs fs' W 0 _ _
        (steps_by p' F (with_stack (grow ex f.local) []) q hs fs' W pop (λ u. Stuck) (at_me q pop there) (acts_pop_empty p' (here_of F fs') (grow ex f.local)) ∙ ap (λ u. stuck u) (world_back W)) (comes_at_once p' 0 _ _ refl)

    first : (v : Value) (rest : List Value) (y : Next) → slice_get (body_of p' me).instrs S ≡ Some pop → Goes p' 1 (at_place F (with_stack (grow ex f.local) rest) (S + 1) hs fs' W) y → Goes p' 2 (at_place F (with_stack (grow ex f.local) (v ∷ rest)) S hs fs' W) y
    first v rest y there c =
        first_step p' F (with_stack (grow ex f.local) (v ∷ rest)) S hs fs' W 1 _ y
        (goes_one p' F (with_stack (grow ex f.local) (v ∷ rest)) (with_stack (grow ex f.local) rest) S hs fs' W pop (at_me S pop there) (does_pop p' (here_of F fs') v rest (grow ex f.local)) stays) c.comes

    abbrev On : ℕ
    On = m.places (next_place f.at)

    abbrev Goal : (message : Bool) → List Value → Type 0
    Goal message st = Goes p' 2 (at_place F (with_stack (grow ex f.local) st) S hs fs' W) (if_there (dropped message st) W (λ rest. arrived rest On))

    within_two : (x y : Next) → Goes p' 1 x y → Goes p' 2 x y
    within_two x y c = moves_within p' 1 2 x y (omega arith) c

    one : (q : ℕ) → q ≡ S + 1 → (st : List Value) → StandAt (body_of p' me).instrs S (pop ∷ []) → q ≡ On → Goal false st
    one q e [] there on = within_two _ _ (stuck_here S there.0)
    one q e (v ∷ rest) there on = within_two _ _ (subst (λ y. Goes p' 1 (at_place F (with_stack (grow ex f.local) (v ∷ rest)) S hs fs' W) (arrived rest y)) (sym e ∙ on) (last v rest S there.0))

    two : (st : List Value) → StandAt (body_of p' me).instrs S (pop ∷ pop ∷ []) → S + 1 + 1 ≡ On → Goal true st
    two [] there on = within_two _ _ (stuck_here S there.0)
    two (v ∷ []) there on = first v [] (stuck W) there.0 (stuck_here (S + 1) (there.1).0)
    two (v ∷ c ∷ rest) there on = first v (c ∷ rest) (arrived rest On) there.0 (subst (λ y. Goes p' 1 (at_place F (with_stack (grow ex f.local) (c ∷ rest)) (S + 1) hs fs' W) (arrived rest y)) on (last c rest (S + 1) (there.1).0))

    by_message : (t : Bool) → StandAt (body_of p' me).instrs S (drop_code t) → On ≡ S + length (drop_code t) → Goal t f.local.stack
    by_message true there on = two f.local.stack there (sums S ∙ sym on)
      where
        sums : (j : ℕ) → j + 1 + 1 ≡ j + 2
        sums j = omega arith
    by_message false there on = one (S + 1) refl f.local.stack there (sym on)

    dropped_here : Goes p' (cost k p) (from_here p k p' g n depths m f ex b fs' w ss hs) (if_there (dropped (has_message p i) f.local.stack) W (λ rest. goes_at p' (twin p k p' g n depths f (with_stack f.local rest) ex On hs b) (Rest On) (grow ex (with_stack f.local rest)) hs fs' W))
    unfolding arrived
    dropped_here = moves_within p' 2 (cost k p) _ _ (omega arith) (by_message (has_message p i) z.code z.next)

  pub drops : DropsArguments p k p' g n depths me plan m
  drops f fs fs' w ex ss b hs i kd label home a here inl s pending = dropped_here f fs fs' w ex ss b hs i a (code f fs i kd home label a here inl) pending
