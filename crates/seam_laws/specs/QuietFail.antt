-- `fail` where failures don't throw (own; ContractHelper.TriggerFailure of the class library).
use Rattle.std.specs.Prelude.{◌≡◌, codes, ℕ, List, [], ◌∷◌, Some}
use Rattle.cil_base.specs.declared.token.Token.{Token}
use Rattle.cil_model.specs.declared.ty.Ty.{Prim}
use Rattle.cil_model.specs.declared.body.Instr.{Instr}
use Rattle.cil_model.specs.declared.program.Program.{Program}
use Rattle.cil_model.specs.declared.program.Meaning.TheVariants.{OfMethod}
use Rattle.cil_semantics.specs.Core.{class_named, kind_ty, string_ty, exception_ty, helper_name, event_name}
use Rattle.cil_semantics.specs.Tokens.{meaning_of}
use Rattle.cil_semantics.specs.Checks.{AddedNumbers}
use Rattle.machine_laws.specs.Same.{IsHelper}
use Rattle.splice_laws.specs.Straight.{call, ldarg, ldnull, dup, pop, ret, brtrue}
use Rattle.splice_laws.specs.Helpers.{IsStaticCode, int32, nothing}

module _ (a : ℕ) (event trigger : Token) where
  -- void fail(int32 kind, string user, string label): the reply stands above the kind; null returns, any other is told of with them
  abbrev pub quiet_code : List Instr
  quiet_code =
      ldarg 0
      ∷ ldarg 0 ∷ ldarg 1 ∷ ldarg 2 ∷ ldnull ∷ call a event ∷ dup ∷ brtrue 11 ∷ pop ∷ pop ∷ ret
      ∷ ldarg 1 ∷ ldarg 2 ∷ ldnull ∷ call a trigger ∷ ret ∷ []

-- the helper stands in the program
pub record HasQuietFail (p' : Program) (g : AddedNumbers) (fail a : ℕ) : Type 0 where
  pub event : Token
  pub trigger : Token
  pub is : IsStaticCode p' fail (int32 ∷ string_ty ∷ string_ty ∷ []) nothing (quiet_code a event trigger)
  pub event_token : meaning_of p' a event ≡ Some (OfMethod (class_named helper_name) g.event [])
  pub event_is : IsHelper p' g.event event_name (kind_ty ∷ string_ty ∷ string_ty ∷ exception_ty ∷ []) string_ty
  pub trigger_token : meaning_of p' a trigger ≡ Some (OfMethod (class_named helper_name) g.trigger [])
  pub trigger_is : IsHelper p' g.trigger (codes "TriggerFailure") (kind_ty ∷ string_ty ∷ string_ty ∷ string_ty ∷ exception_ty ∷ []) (Prim 0x01)
