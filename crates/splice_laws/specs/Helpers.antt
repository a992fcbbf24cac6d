-- The class that a rewriting appends: the depth, and the helpers that the spliced code calls.
use Rattle.std.specs.Prelude.{◌≡◌, ℕ, ◌&&◌, true, false, not, List, [], ◌∷◌, find, Some, None, pos}
use Rattle.cil_base.specs.declared.token.Token.{Token}
use Rattle.cil_model.specs.declared.ty.Ty.{Ty, Known, Prim}
use Rattle.cil_model.specs.declared.body.Body.{Body}
use Rattle.cil_model.specs.declared.body.Instr.{Instr}
use Rattle.cil_model.specs.declared.program.Program.{Program}
use Rattle.cil_model.specs.declared.program.Meaning.TheVariants.{OfField}
use Rattle.cil_semantics.specs.Lookups.{type_of, field_of, method_of}
use Rattle.cil_semantics.specs.Places.{static_layout}
use Rattle.cil_semantics.specs.Dispatch.{methods_of}
use Rattle.cil_semantics.specs.Frames.{is_initializer}
use Rattle.cil_semantics.specs.Outside.{is_outside}
use Rattle.cil_semantics.specs.Tokens.{meaning_of}
use Rattle.splice_laws.specs.Straight.{ldc, ldsfld, stsfld, bgt, add, sub, ret}

abbrev pub int32 : Ty
int32 = Prim 0x08

abbrev pub nothing : Ty
nothing = Prim 0x01

-- a static method with this code, without locals and regions
pub record IsStaticCode (p : Program) (m : ℕ) (takes : List Ty) (gives : Ty) (is : List Instr) : Type 0 where
  pub static : (method_of p m).is_static ≡ true
  pub inside : is_outside p m ≡ false
  pub params : (method_of p m).params ≡ takes
  pub result : (method_of p m).result ≡ gives
  pub body : Body
  pub has : (method_of p m).body ≡ Some body
  pub code : body.instrs ≡ is
  pub regions : body.regions ≡ []
  pub locals : body.locals ≡ None

module _ (a : ℕ) (depth : Token) where
  -- bool enter(): the depth is raised where it is at most the guard
  abbrev pub enter_code : ℕ → List Instr
  enter_code guard =
      ldsfld a depth ∷ ldc (pos guard) ∷ bgt 9
      ∷ ldsfld a depth ∷ ldc (pos 1) ∷ add ∷ stsfld a depth ∷ ldc (pos 1) ∷ ret
      ∷ ldc (pos 0) ∷ ret ∷ []

  -- void leave(): the depth is lowered
  abbrev pub leave_code : List Instr
  leave_code = ldsfld a depth ∷ ldc (pos 1) ∷ sub ∷ stsfld a depth ∷ ret ∷ []

-- The class stands in the program under a number, with one static field, and without an initializer; `enter_outer` is `enter` with the guard 0.
pub record HasRuntime (p : Program) (owner guard : ℕ) : Type 0 where
  pub assembly : ℕ
  pub field : ℕ
  pub is_static : (field_of p field).is_static ≡ true
  pub layout : static_layout p (Known owner) ≡ (field, int32) ∷ []
  pub no_initializer : find (λ m. is_initializer (method_of p m) && not (type_of p (method_of p m).owner).reference) (methods_of p (Known owner)) ≡ None
  pub depth : Token
  pub depth_token : meaning_of p assembly depth ≡ Some (OfField (Known owner) field)
  pub enter : ℕ
  pub enter_outer : ℕ
  pub leave : ℕ
  pub enter_is : IsStaticCode p enter [] int32 (enter_code assembly depth guard)
  pub enter_outer_is : IsStaticCode p enter_outer [] int32 (enter_code assembly depth 0)
  pub leave_is : IsStaticCode p leave [] nothing (leave_code assembly depth)
  pub of_class : ((method_of p enter).assembly ≡ assembly) × ((method_of p leave).assembly ≡ assembly)
