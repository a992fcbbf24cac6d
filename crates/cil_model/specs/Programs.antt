-- The bodies of a program.
use Rattle.std.specs.Prelude.{ℕ, Option}
use Rattle.cil_model.specs.declared.body.Body.{Body}
use Rattle.cil_model.specs.declared.program.Program.{Program}
use Rattle.cil_model.specs.MethodLists.{body_at, with_body_at}

-- a method's body, if it has one
abbrev pub body_of : Program → ℕ → Option Body
body_of p m = body_at p.methods m

-- the program in which the method has this body
abbrev pub with_body : Program → ℕ → Body → Program
with_body p m body = record p { methods = with_body_at p.methods m body }
