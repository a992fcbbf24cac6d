-- ValueAtReturn in clauses: ldobj at the same place.
use Rattle.std.proofs.Common.{◌≡◌, ℕ, ◌+◌, List, [], ◌∷◌, Option, Some, None, refl, sym, ap, ◌∙◌, subst, arith}
use Rattle.std.specs.Prelude.{slice_get, option_and_then}
use Rattle.cil_base.specs.declared.token.Token.{Token}
use Rattle.cil_model.specs.declared.ty.Ty.{Ty}
use Rattle.cil_model.specs.declared.value.Value.{Value, out-Value}
use Rattle.cil_model.specs.declared.value.Value.TheOpen.{Value-F}
use Rattle.cil_model.specs.declared.value.Pointer.{Pointer}
use Rattle.cil_model.specs.declared.value.Pointer.TheVariants.{Arg, Local, Inside, Static}
use Rattle.cil_model.specs.declared.body.Instr.{Instr}
use Rattle.cil_model.specs.declared.contract.Contracts.{Contracts}
use Rattle.cil_model.specs.declared.contract.Group.{Group}
use Rattle.cil_model.specs.declared.program.Meaning.{Meaning}
use Rattle.cil_model.specs.declared.program.Meaning.TheVariants.{OfType, OfField, OfMethod, OfText, OfLocals}
use Rattle.cil_model.specs.declared.program.Program.{Program}
use Rattle.cil_model.specs.NoContracts.{no_contracts}
use Rattle.il_opcodes.specs.declared.class.Storage.{Storage}
use Rattle.il_opcodes.specs.Opcodes.{class_of, opcode_of, the_opcodes}
use Rattle.cil_semantics.specs.Places.{storage, seen_as}
use Rattle.cil_semantics.specs.declared.state.Cell.{Cell}
use Rattle.cil_semantics.specs.declared.state.Local.{Local as LocalState}
use Rattle.cil_semantics.specs.declared.state.World.{World}
use Rattle.cil_semantics.specs.declared.state.Statics.{Statics}
use Rattle.cil_semantics.specs.declared.state.ProgramPoint.TheVariants.{InGroup}
use Rattle.cil_semantics.specs.declared.state.Frame.{Frame}
use Rattle.cil_semantics.specs.declared.state.Continuation.{Continuation}
use Rattle.cil_semantics.specs.State.{Next, with_stack, pushed, unrecorded, goes_after}
use Rattle.cil_semantics.specs.Tokens.{Here, meaning_here}
use Rattle.cil_semantics.specs.Contracted.{Piece, Plan}
use Rattle.cil_semantics.specs.Acts.{Act, Load, on_type, on_top, on_pointer, if_pointer}
use Rattle.cil_semantics.specs.Instructions.{act, act_of_class}
use Rattle.cil_semantics.specs.Unwind.{body_of, here_of, piece_at, next_place}
use Rattle.cil_semantics.specs.Frames.{stuck, if_there, read, go_on}
use Rattle.cil_semantics.specs.Calls.{pointed}
use Rattle.cil_semantics.specs.ContractCalls.{contract_call}
use Rattle.cil_semantics.specs.declared.contract_call.ContractCall.TheVariants.{ReadsArgument}
use Rattle.cil_semantics.specs.Checks.{AddedNumbers}
use Rattle.splice_facts.specs.Comes.{Goes}
use Rattle.splice_facts.specs.Grown.{grow, beside}
use Rattle.splice_facts.specs.Layout.{Depths, Marks, IsHere}
use Rattle.splice_facts.specs.Spliced.{Paired, twin, stands, from_here, loaded_at, cost}
use Rattle.splice_laws.specs.Straight.{ldobj, frame_at, Acts_so}
use Rattle.splice_laws.specs.LoadCode.{type_argument, LoadAt, LoadCode}
use Rattle.splice_facts.proofs.ComesLaws.{comes_at_once, moves_within}
use Rattle.splice_laws.proofs.StraightLaws.{first_step, steps_by, arrives_at, world_back, done}

-- nothing reads what was recorded
reads_unrecorded : (p : Program) (fs : List Frame) (w : World) (q : Pointer) → read p fs (unrecorded w) q ≡ read p fs w q
reads_unrecorded p fs w (Arg n m i is) = refl
reads_unrecorded p fs w (Local n m i is) = refl
reads_unrecorded p fs w (Inside k is) = refl
reads_unrecorded p fs w (Static t f is) = refl

module _ (p : Program) (here : Here) where
  abbrev wanted : LocalState → Option Meaning → Act
  wanted l o = on_type o (λ t. on_top l.stack (λ v rest. on_pointer v (λ q. Load q (storage p t) (with_stack l rest))))

  acts_ldobj : (a : ℕ) (t : Token) (o : Option Meaning) (l : LocalState) → meaning_here p here (ldobj a t) ≡ o → Acts_so p here (ldobj a t) l (λ w. wanted l o)
  unfolding act act_of_class class_of opcode_of the_opcodes
  acts_ldobj a t o l e w = ap (wanted l) e

module _ (p : Program) (k : Contracts) (p' : Program) (g : AddedNumbers) (n : ℕ) (depths : Depths n g) (me : ℕ) (plan : Plan) (m : Marks) where
  module _ (f : Frame) (fs' : List Frame) (w : World) (ex : List Cell) (ss : List Statics) (b : Continuation) (next : m.places (next_place f.at) ≡ m.places f.at + 1) where
    abbrev F : Frame
    F = twin p k p' g n depths f f.local [] 0 [] b

    abbrev S : ℕ
    S = m.places f.at

    abbrev W : World
    W = beside ss w

    abbrev performed : LocalState → Act → Next
    performed l a = goes_after W.trace (done p' a (frame_at F l S []) fs' (unrecorded W))

    none_there : goes_after W.trace (stuck (unrecorded W)) ≡ stuck W
    none_there = ap (λ u. stuck u) (world_back W)

    there : (l : LocalState) (rest : List Value) (o : Option Value)
        → goes_after W.trace (if_there o (unrecorded W) (λ y. go_on p' no_contracts (frame_at F l S []) (pushed y (grow ex (with_stack f.local rest))) fs' (unrecorded W)))
        ≡ if_there o W (λ y. stands p k p' g n depths f (pushed y (with_stack f.local rest)) ex (m.places (next_place f.at)) b fs' w ss)
    there l rest None = none_there
    there l rest (Some y) =
        arrives_at p' (frame_at F l S []) (pushed y (grow ex (with_stack f.local rest))) (S + 1) [] fs' W refl
        ∙ ap (λ z. stands p k p' g n depths f (pushed y (with_stack f.local rest)) ex z b fs' w ss) (sym next)

    by_value : (h : Storage) (v : Value) (rest : List Value) (y : Value-F Value)
        → performed (grow ex (with_stack f.local (v ∷ rest))) (if_pointer y (λ q. Load q h (grow ex (with_stack f.local rest))))
        ≡ if_there (pointed y) W (λ q. if_there (option_and_then (seen_as h) (read p' (twin p k p' g n depths f (with_stack f.local rest) ex S [] b ∷ fs') W q)) W (λ z. stands p k p' g n depths f (pushed z (with_stack f.local rest)) ex (m.places (next_place f.at)) b fs' w ss))
    by_value h v rest (Value-F.Ptr q) =
        ap (λ o. goes_after W.trace (if_there (option_and_then (seen_as h) o) (unrecorded W) (λ y. go_on p' no_contracts (frame_at F (grow ex (with_stack f.local (v ∷ rest))) S []) (pushed y (grow ex (with_stack f.local rest))) fs' (unrecorded W)))) (reads_unrecorded p' (twin p k p' g n depths f (with_stack f.local rest) ex S [] b ∷ fs') W q)
        ∙ there (grow ex (with_stack f.local (v ∷ rest))) rest (option_and_then (seen_as h) (read p' (twin p k p' g n depths f (with_stack f.local rest) ex S [] b ∷ fs') W q))
    by_value h v rest _ = none_there

    by_stack : (owner : Ty) (c : ℕ) (t : Ty) (ts : List Ty) (st : List Value)
        → performed (grow ex (with_stack f.local st)) (wanted p' (here_of F fs') (grow ex (with_stack f.local st)) (Some (OfType t))) ≡ loaded_at p k p' g n depths m (Some (OfMethod owner c (t ∷ ts))) st f ex b fs' w ss
    by_stack owner c t ts [] = none_there
    by_stack owner c t ts (v ∷ rest) = by_value (storage p' t) v rest (out-Value v)

    by_meaning : (o : Option Meaning) (st : List Value) → performed (grow ex (with_stack f.local st)) (wanted p' (here_of F fs') (grow ex (with_stack f.local st)) (type_argument o)) ≡ loaded_at p k p' g n depths m o st f ex b fs' w ss
    by_meaning None st = none_there
    by_meaning (Some (OfType t)) st = none_there
    by_meaning (Some (OfField owner c)) st = none_there
    by_meaning (Some (OfText units)) st = none_there
    by_meaning (Some (OfLocals ts)) st = none_there
    by_meaning (Some (OfMethod owner c [])) st = none_there
    by_meaning (Some (OfMethod owner c (t ∷ ts))) st = by_stack owner c t ts st

  -- one step
  pub loads_argument : LoadCode p p' me plan m → (gr : Group) (j q : ℕ) (x : Piece) (i : Instr) (f : Frame) (fs fs' : List Frame) (w : World) (ex : List Cell) (ss : List Statics) (b : Continuation) → f.method ≡ me → f.at ≡ InGroup gr j q → IsHere (Some plan) f.at → piece_at (Some plan) gr j ≡ Some x → slice_get x.clause.instrs q ≡ Some i → contract_call p i ≡ ReadsArgument → Paired p k p' g n depths m f fs fs' w ex ss
      → Goes p' (cost k p) (from_here p k p' g n depths m f ex b fs' w ss []) (loaded_at p k p' g n depths m (meaning_here p (here_of f fs) i) f.local.stack f ex b fs' w ss)
  loads_argument code gr j q x i f fs fs' w ex ss b a at here there_is instr call s =
      moves_within p' 1 (cost k p) _ _ (omega arith)
      (first_step p' here_twin (grow ex f.local) (m.places f.at) [] fs' world 0 _ _
      (steps_by p' here_twin (grow ex f.local) (m.places f.at) [] fs' world (ldobj z.assembly z.token) (λ v. wanted p' (here_of here_twin fs') (grow ex f.local) (type_argument (meaning_here p (here_of f fs) i)))
      (ap (λ y. slice_get (body_of p' y).instrs (m.places f.at)) a ∙ ap (λ y. slice_get (body_of p' me).instrs (m.places y)) at ∙ z.code)
      (acts_ldobj p' (here_of here_twin fs') z.assembly z.token (type_argument (meaning_here p (here_of f fs) i)) (grow ex f.local) meant)
      ∙ by_meaning f fs' w ex ss b next (meaning_here p (here_of f fs) i) f.local.stack)
      (comes_at_once p' 0 _ _ refl))
    where
      z : LoadAt p p' me plan m gr j q i
      z = code gr j q x i (subst (IsHere (Some plan)) at here) there_is instr call

      here_twin : Frame
      here_twin = twin p k p' g n depths f f.local [] 0 [] b

      world : World
      world = beside ss w

      next : m.places (next_place f.at) ≡ m.places f.at + 1
      next = ap (λ y. m.places (next_place y)) at ∙ z.next ∙ ap (λ y. m.places y + 1) (sym at)

      meant : meaning_here p' (here_of here_twin fs') (ldobj z.assembly z.token) ≡ type_argument (meaning_here p (here_of f fs) i)
      meant = z.meaning (here_of here_twin fs') a ∙ ap (λ y. type_argument (meaning_here p (record { number = y; method = f.method; type_args = f.type_args; method_args = f.method_args }) i)) s.numbers
