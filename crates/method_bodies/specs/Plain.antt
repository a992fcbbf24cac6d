-- Bodies as they are read (ECMA-335, II.25.4.3).
use Rattle.std.specs.Prelude.{◌≡◌}
use Rattle.cil_model.specs.declared.body.Body.{Body}
use Rattle.cil_model.specs.BodyLayout.{locals_of, locals_number}

-- A locals token of 0 says that there are none, and isn't held.
abbrev pub IsPlain : Body → Type 0
IsPlain b = b.locals ≡ locals_of (locals_number b.locals)
