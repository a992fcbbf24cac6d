-- The bodies of a list of methods.
use Rattle.std.specs.Prelude.{ℕ, zero, suc, List, [], ◌∷◌, slice_get, Option, Some, option_and_then}
use Rattle.cil_model.specs.declared.body.Body.{Body}
use Rattle.cil_model.specs.declared.program.MethodDesc.{MethodDesc}

-- the body of the method of that number, if it has one
abbrev pub body_at : List MethodDesc → ℕ → Option Body
body_at ds m = option_and_then (λ d. d.body) (slice_get ds m)

-- the list in which the method of that number has this body
abbrev pub with_body_at : List MethodDesc → ℕ → Body → List MethodDesc
with_body_at [] m body = []
with_body_at (d ∷ ds) zero body = record d { body = Some body } ∷ ds
with_body_at (d ∷ ds) (suc m) body = d ∷ with_body_at ds m body
