-- Outside types whose kind belongs to their name: a value type where some signature of the set says VALUETYPE, and then each such type says so (ECMA-335, II.23.2.12).
use Rattle.std.specs.Prelude.{◌≡◌, Bool, true}
use Rattle.cil_model.specs.declared.ty.Ty.{Ty, Prim, Known, Outside, Array', ByRef', Var, MVar, Opaque, Inst', Row_of-Ty, end_of-Ty, more_of-Ty}
use Rattle.cil_model.specs.declared.program.Program.{Program}
use Rattle.cil_semantics.specs.Core.{Name}
use Rattle.cil_semantics.specs.Types.{same_ty}
use Rattle.cil_semantics.specs.Places.{storage}

-- each outside type within a type is of its name's kind
module _ (is_value : Name → Bool) where
  abbrev mutual
    pub Agrees : Ty → Type 0
    Agrees (Prim b) = Unit {0}
    Agrees (Known k) = Unit {0}
    Agrees (Outside name value) = value ≡ is_value name
    Agrees (Array' p parts) = PartsAgree parts
    Agrees (ByRef' p parts) = PartsAgree parts
    Agrees (Var k) = Unit {0}
    Agrees (MVar k) = Unit {0}
    Agrees Opaque = Unit {0}
    Agrees (Inst' k shape parts) = PartsAgree parts

    pub PartsAgree : {m : _} → Row_of-Ty m → Type 0
    PartsAgree end_of-Ty = Unit {0}
    PartsAgree (more_of-Ty t rest) = Agrees t × PartsAgree rest

-- Then the places of one type hold one kind of value, however the type is written.
abbrev pub OneKind : Program → (Name → Bool) → Type 0
OneKind p is_value = (t u : Ty) → Agrees is_value t → Agrees is_value u → same_ty t u ≡ true → storage p t ≡ storage p u
