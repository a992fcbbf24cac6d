-- ValueAtReturn in clauses as an instruction: ldobj of its type at the same place (ECMA-335, III.4.13; Code Contracts User Manual, section 2.3).
use Rattle.std.specs.Prelude.{◌≡◌, ℕ, ◌+◌, ◌∷◌, slice_get, Option, Some, None}
use Rattle.cil_base.specs.declared.token.Token.{Token}
use Rattle.cil_model.specs.declared.body.Instr.{Instr}
use Rattle.cil_model.specs.declared.contract.Group.{Group}
use Rattle.cil_model.specs.declared.program.Meaning.{Meaning}
use Rattle.cil_model.specs.declared.program.Meaning.TheVariants.{OfMethod, OfType}
use Rattle.cil_model.specs.declared.program.Program.{Program}
use Rattle.cil_semantics.specs.declared.state.ProgramPoint.TheVariants.{InGroup}
use Rattle.cil_semantics.specs.Tokens.{Here, meaning_here}
use Rattle.cil_semantics.specs.Contracted.{Piece, Plan}
use Rattle.cil_semantics.specs.Unwind.{body_of, piece_at}
use Rattle.cil_semantics.specs.ContractCalls.{contract_call}
use Rattle.cil_semantics.specs.declared.contract_call.ContractCall.TheVariants.{ReadsArgument}
use Rattle.splice_facts.specs.Layout.{Marks, IsHere}
use Rattle.splice_laws.specs.Straight.{ldobj}

-- the T of a call of ValueAtReturn<T>
abbrev pub type_argument : Option Meaning → Option Meaning
type_argument (Some (OfMethod owner c (t ∷ ts))) = Some (OfType t)
type_argument m = None

module _ (p p' : Program) (me : ℕ) (plan : Plan) (m : Marks) where
  -- in place of the call stands ldobj of its T, and the next place is behind it
  pub record LoadAt (gr : Group) (j q : ℕ) (i : Instr) : Type 0 where
    pub assembly : ℕ
    pub token : Token
    pub code : slice_get (body_of p' me).instrs (m.places (InGroup gr j q)) ≡ Some (ldobj assembly token)
    pub next : m.places (InGroup gr j (q + 1)) ≡ m.places (InGroup gr j q) + 1
    pub meaning : (here : Here) → here.method ≡ me → meaning_here p' here (ldobj assembly token) ≡ type_argument (meaning_here p here i)

  abbrev pub LoadCode : Type 0
  LoadCode =
      (gr : Group) (j q : ℕ) (x : Piece) (i : Instr) → IsHere (Some plan) (InGroup gr j q) → piece_at (Some plan) gr j ≡ Some x → slice_get x.clause.instrs q ≡ Some i → contract_call p i ≡ ReadsArgument → LoadAt gr j q i
