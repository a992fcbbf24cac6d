-- What `fail` does, as a fact about runs.
use Rattle.std.specs.Prelude.{◌≡◌, false, find, not, ◌&&◌, codes, ℕ, ◌+◌, Bool, List, [], ◌∷◌, slice_get, Some, None}
use Rattle.cil_base.specs.declared.token.Token.{Token}
use Rattle.cil_model.specs.declared.ty.Ty.{Ty, Known}
use Rattle.cil_model.specs.declared.value.Value.{Value, Obj}
use Rattle.cil_model.specs.declared.contract.ClauseKind.{ClauseKind}
use Rattle.cil_model.specs.declared.contract.ClauseKind.TheVariants as kind
use Rattle.cil_model.specs.declared.program.Program.{Program}
use Rattle.cil_model.specs.declared.program.Meaning.TheVariants.{OfMethod, OfField}
use Rattle.cil_model.specs.declared.program.Kind.TheVariants.{Class}
use Rattle.cil_model.specs.declared.body.Body.{Body}
use Rattle.cil_model.specs.declared.body.Operand.TheVariants.{Tok}
use Rattle.cil_semantics.specs.Lookups.{type_of, method_of}
use Rattle.cil_semantics.specs.Dispatch.{methods_of}
use Rattle.cil_semantics.specs.Outside.{is_outside}
use Rattle.cil_semantics.specs.Calls.{core_of, Constructor}
use Rattle.cil_model.specs.NoContracts.{no_contracts}
use Rattle.il_opcodes.specs.declared.class.Storage.TheVariants.{Reference}
use Rattle.cil_semantics.specs.Places.{stored, layout, field_place}
use Rattle.cil_semantics.specs.declared.state.Local.{Local as LocalState}
use Rattle.cil_semantics.specs.declared.state.World.{World}
use Rattle.cil_semantics.specs.declared.state.ProgramPoint.TheVariants.{Rest}
use Rattle.cil_semantics.specs.declared.state.Handling.{Handling}
use Rattle.cil_semantics.specs.declared.state.Frame.{Frame}
use Rattle.cil_semantics.specs.State.{Next, with_stack, with_object, next_object}
use Rattle.cil_semantics.specs.Tokens.{meaning_of}
use Rattle.cil_semantics.specs.Unwind.{body_of, goes_at, unwind, find_statics}
use Rattle.cil_semantics.specs.Frames.{stuck, is_initializer}
use Rattle.cil_semantics.specs.Core.{kind_ty, exception_ty}
use Rattle.cil_semantics.specs.Checks.{AddedNumbers, Failure, label_text, number_value, contract_failure}
use Rattle.cil_semantics.specs.Core.{class_named, string_ty, helper_name, event_name}
use Rattle.machine_laws.specs.Same.{IsHelper}
use Rattle.cil_model.specs.declared.body.Instr.{Instr}
use Rattle.splice_laws.specs.Helpers.{IsStaticCode, int32, nothing}
use Rattle.splice_facts.specs.Comes.{Comes}
use Rattle.splice_facts.specs.Layout.{HasDepth}
use Rattle.cil_semantics.specs.Checks.{failing}
use Rattle.splice_laws.specs.Straight.{ins, call, newobj, ldarg, ldnull, dup, pop, ret, throw, brtrue, frame_at, at_place}

-- every kind but Requires<E>, whose exception is made where the clause stands
abbrev pub NotMade : ClauseKind → Type 0
NotMade kind.RequiresOf = ⊥
NotMade _ = Unit {0}

-- how many steps `fail` takes at most
abbrev pub fail_cost : ℕ
fail_cost = 33

module _ (a : ℕ) (event ctor : Token) where
  -- void fail(int32 kind, string user, string label): a null reply returns, any other throws
  abbrev pub fail_code : List Instr
  fail_code =
      ldarg 0 ∷ ldarg 1 ∷ ldarg 2 ∷ ldnull ∷ call a event ∷ dup ∷ brtrue 9 ∷ pop ∷ ret
      ∷ pop ∷ ldarg 0 ∷ ldarg 1 ∷ ldarg 2 ∷ newobj a ctor ∷ throw ∷ []

-- the world holds a depth, and no statics of the exception's class
pub record FitsFail (g : AddedNumbers) (owner : ℕ) (w : World) : Type 0 where
  pub depth : ℕ
  pub held : HasDepth depth (find_statics (Known owner) w.statics)
  pub bare : find_statics (Known g.exception) w.statics ≡ None

-- newobj of the exception's class with the kind, the message and the label makes the object of a failure
abbrev pub MakesFailure : (p' : Program) (g : AddedNumbers) (owner a : ℕ) (ctor : Token) → Type 0
MakesFailure p' g owner a ctor =
    (f : Frame) (l : LocalState) (rest : List Value) (q : ℕ) (fs : List Frame) (w : World) (x : Failure) → slice_get (body_of p' f.method).instrs q ≡ Some (newobj a ctor) → stored Reference x.user ≡ Some x.user → FitsFail g owner w
    → Comes p' 13 (at_place f (with_stack l (label_text x ∷ x.user ∷ number_value x ∷ rest)) q [] fs w) (at_place f (with_stack l (Obj (next_object w) ∷ rest)) (q + 1) [] fs (with_object p' (contract_failure g x) w))

-- the helper stands in the program
pub record HasFail (p' : Program) (g : AddedNumbers) (owner fail a : ℕ) : Type 0 where
  pub event : Token
  pub ctor : Token
  pub is : IsStaticCode p' fail (int32 ∷ string_ty ∷ string_ty ∷ []) nothing (fail_code a event ctor)
  pub event_token : meaning_of p' a event ≡ Some (OfMethod (class_named helper_name) g.event [])
  pub event_is : IsHelper p' g.event event_name (kind_ty ∷ string_ty ∷ string_ty ∷ exception_ty ∷ []) string_ty
  pub makes : MakesFailure p' g owner a ctor

-- void fail(int32 kind, string user, string label), wherever it is called: the failure is reported; then it returns, or throws
abbrev pub FailRuns : (p' : Program) (g : AddedNumbers) (throwing : Bool) (owner : ℕ) (fail : ℕ) → (World → Type 0) → Type 0
FailRuns p' g throwing owner fail Fit =
    (f : Frame) (l : LocalState) (rest : List Value) (q : ℕ) (hs : List Handling) (fs : List Frame) (w : World) (a : ℕ) (t : Token) (x : Failure) (makes : World → Ty → ℕ → List Value → Next)
    → slice_get (body_of p' f.method).instrs q ≡ Some (call a t) → meaning_of p' a t ≡ Some (OfMethod (Known owner) fail []) → NotMade x.kind → stored Reference x.user ≡ Some x.user → Fit w
    → Comes p' fail_cost (at_place f (with_stack l (label_text x ∷ x.user ∷ number_value x ∷ rest)) q hs fs w)
    (failing p' g throwing x
    (record {
      passes = λ v. goes_at p' f (Rest (q + 1)) (with_stack l rest) hs fs v;
      throws = λ v y. unwind p' no_contracts false (frame_at f (with_stack l rest) q hs ∷ fs) v y;
      makes = makes;
      stops = λ v. stuck v;
    })
    fs w)

-- The class of the exceptions: three fields, and a constructor that stores them; its base is System.Exception.
abbrev pub stfld : ℕ → Token → Instr
stfld a t = ins 0x7D (Tok a t)

module _ (a : ℕ) (base kind user label : Token) where
  abbrev pub ctor_code : List Instr
  ctor_code =
      ldarg 0 ∷ call a base
      ∷ ldarg 0 ∷ ldarg 1 ∷ stfld a kind
      ∷ ldarg 0 ∷ ldarg 2 ∷ stfld a user
      ∷ ldarg 0 ∷ ldarg 3 ∷ stfld a label
      ∷ ret ∷ []

pub record HasException (p' : Program) (g : AddedNumbers) (owner a : ℕ) (ctor : Token) : Type 0 where
  pub kind_is : (type_of p' g.exception).kind ≡ Class
  pub fields : (ℕ × ℕ) × ℕ
  pub layout_is : layout p' (Known g.exception) ≡ (fields.0.0, int32) ∷ (fields.0.1, string_ty) ∷ (fields.1, string_ty) ∷ []
  pub places : ((field_place p' (Known g.exception) fields.0.0 ≡ Some 0) × (field_place p' (Known g.exception) fields.0.1 ≡ Some 1)) × (field_place p' (Known g.exception) fields.1 ≡ Some 2)
  pub no_initializer : find (λ m. is_initializer (method_of p' m) && not (type_of p' (method_of p' m).owner).reference) (methods_of p' (Known g.exception)) ≡ None
  pub method : ℕ
  pub token : meaning_of p' a ctor ≡ Some (OfMethod (Known g.exception) method [])
  pub instance : (method_of p' method).is_static ≡ false
  pub named : (method_of p' method).name ≡ codes ".ctor"
  pub inside : is_outside p' method ≡ false
  pub params : (method_of p' method).params ≡ int32 ∷ string_ty ∷ string_ty ∷ []
  pub result : (method_of p' method).result ≡ nothing
  pub base : Token
  pub kind : Token
  pub user : Token
  pub label : Token
  pub body : Body
  pub has : (method_of p' method).body ≡ Some body
  pub code : body.instrs ≡ ctor_code a base kind user label
  pub locals : body.locals ≡ None
  pub kind_token : meaning_of p' a kind ≡ Some (OfField (Known g.exception) fields.0.0)
  pub user_token : meaning_of p' a user ≡ Some (OfField (Known g.exception) fields.0.1)
  pub label_token : meaning_of p' a label ≡ Some (OfField (Known g.exception) fields.1)
  pub base_method : ℕ
  pub base_token : meaning_of p' a base ≡ Some (OfMethod exception_ty base_method [])
  pub base_instance : (method_of p' base_method).is_static ≡ false
  pub base_params : (method_of p' base_method).params ≡ []
  pub base_core : core_of p' exception_ty base_method ≡ Constructor
